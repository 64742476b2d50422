-- A run stays a run; what it shows agrees and is kept, and where no two ranges are merged it is honest.
use Rattle.std.specs.declared.alloc.AllocError.{AllocError}
use Rattle.std.proofs.Common.{◌≡◌, ◌<◌, ◌+◌, ℕ, suc, List, [], ◌∷◌, ◌++◌, Result, Ok, Err, OnOk, OnErr, refl, sym, ap, ◌∙◌, subst, take, length, slice_index_or, arith}
use Rattle.std.proofs.Math.Seq.{take-suc}
use Rattle.model_streams.specs.declared.event.Event.{Event}
use Rattle.model_streams.specs.Honest.{Agree, Kept}
use Rattle.model_partition.specs.Cluster.{AreUnmerged, Cluster, cluster_after, cluster_after_all, first_cluster}
use Rattle.model_partition.specs.Honest.{Honest}
use Rattle.laws_servers.proofs.EventsAsMoves.{led_agrees as all_agree, led_keeps as all_kept}
use Rattle.laws_clusters.proofs.Theorem.{led_honest as all_honest}
use Rattle.world.specs.Cluster.{ClusterState, ClusterMirrors, ClusterSimulates, ReachedBy, IsRun, IsUnmergedRun}

-- ---- events

after_one_more : (events : List Event) (event : Event) (c : Cluster) → cluster_after_all c (events ++ event ∷ []) ≡ cluster_after (cluster_after_all c events) event
after_one_more [] event c = refl
after_one_more (e ∷ events) event c = after_one_more events event (cluster_after c e)

led_on : (x y : ClusterState) (first : Cluster) (events : List Event) (event : Event) → ReachedBy events first x → ClusterSimulates x y event → ReachedBy (events ++ event ∷ []) first y
led_on x y first events event h came = subst (ClusterMirrors y) (sym (after_one_more events event first)) (came (cluster_after_all first events) h)

-- one event more
pub led_next : (x y : ClusterState) (first : Cluster) (events : List Event) (i : ℕ) (event : Event) → event ≡ slice_index_or events i event → i < length events →
    ReachedBy (take i events) first x → ClusterSimulates x y event → ReachedBy (take (i + 1) events) first y
led_next x y first events i event is l h came =
    subst (λ (es : List Event). ReachedBy es first y) (sym (taken ∙ ap (λ (e : Event). take i events ++ e ∷ []) (sym is))) (led_on x y first (take i events) event h came)
  where
    one_more : i + 1 ≡ suc i
    one_more = omega arith

    taken : take (i + 1) events ≡ take i events ++ slice_index_or events i event ∷ []
    taken = ap (λ k. take k events) one_more ∙ take-suc events i event l

-- ---- what was observed

pub led_agrees : (nodes servers target batch : ℕ) (events : List Event) (x : ClusterState) → ReachedBy events (first_cluster nodes servers target batch) x → Agree x.stream_layer.notes
led_agrees nodes servers target batch events x h = subst Agree (sym h.stream_layer.notes) (all_agree nodes servers target batch events)

pub led_keeps : (nodes servers target batch : ℕ) (events : List Event) (x : ClusterState) → ReachedBy events (first_cluster nodes servers target batch) x → Kept x.stream_layer.notes
led_keeps nodes servers target batch events x h = subst Kept (sym h.stream_layer.notes) (all_kept nodes servers target batch events)

pub led_honest : (nodes servers target batch : ℕ) (events : List Event) (x : ClusterState) → ReachedBy events (first_cluster nodes servers target batch) x → AreUnmerged events →
    Honest x.stream_layer.notes
led_honest nodes servers target batch events x h unmerged = subst Honest (sym h.stream_layer.notes) (all_honest nodes servers target batch events unmerged)

-- ---- runs

pub begins : (nodes servers target batch : ℕ) (x : ClusterState) → ClusterMirrors x (first_cluster nodes servers target batch) → IsRun x
begins nodes servers target batch x m = record {
  nodes = nodes;
  servers = servers;
  target = target;
  batch = batch;
  events = [];
  led = m;
}

pub goes_on : {A : Type 0} (old new : ClusterState) (event : Event) (result : Result A AllocError) → IsRun old → OnOk result (ClusterSimulates old new event) → OnErr result (new ≡ old) → IsRun new
goes_on old new event (Ok x) h ok err = record {
  nodes = h.nodes;
  servers = h.servers;
  target = h.target;
  batch = h.batch;
  events = h.events ++ event ∷ [];
  led = led_on old new (first_cluster h.nodes h.servers h.target h.batch) h.events event h.led ok;
}
goes_on old new event (Err x) h ok err = subst IsRun (sym err) h

pub run_agrees : (x : ClusterState) → IsRun x → Agree x.stream_layer.notes
run_agrees x h = led_agrees h.nodes h.servers h.target h.batch h.events x h.led

pub run_keeps : (x : ClusterState) → IsRun x → Kept x.stream_layer.notes
run_keeps x h = led_keeps h.nodes h.servers h.target h.batch h.events x h.led

pub is_honest : (x : ClusterState) → IsUnmergedRun x → Honest x.stream_layer.notes
is_honest x h = led_honest h.nodes h.servers h.target h.batch h.events x h.led h.unmerged
