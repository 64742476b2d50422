-- Until a server may hold a range whose streams are not there, nothing of it was shown or answered; so the tables that servers show lie within
-- what their streams showed and answered.
use Rattle.std.proofs.Common.{◌≡◌, ℕ, Some, None, List, [], ◌∷◌, ◌++◌, refl, sym, ◌∙◌, subst, inl, inr, arith}
use Rattle.streams.specs.Streams.{stream_of}
use Rattle.model_streams.specs.declared.event.Event.{Event}
use Rattle.model_partition.specs.Cluster.{Cluster, IsUnmerged, AreUnmerged, cluster_after, first_cluster}
use Rattle.model_partition.specs.Past.{Bytes}
use Rattle.model_histories.specs.ServedTables.{StreamsInOrder}
use Rattle.model_histories.specs.ServerRun.{ServerRun, ServerEvent, Takes, GivesUp, Checkpoints, Splits, Stops, Starts, Moment, Builds, run_of, after_event}
use Rattle.laws_map.proofs.SplitFacts.{KnowsSplits, MayHold, event_knows, event_may, first_knows, asked_apart, first_of, split_there}
use Rattle.laws_map.proofs.ManagerBirths.{IsIn}
use Rattle.laws_server_runs.specs.BornRanges.{AllInOrder}
use Rattle.laws_server_runs.specs.ChildInvariant.{AreBornSo}
use Rattle.laws_server_runs.specs.Places.{TablesWithin, bytes_of}
use Rattle.laws_server_runs.specs.Turns.{outcome_of}
use Rattle.laws_server_runs.proofs.ChildTheorem.{all_children, order_before}
use Rattle.laws_server_runs.proofs.LaidRuns.{all_laid}
use Rattle.laws_server_runs.proofs.LoadedWithin.{BuildsFresh, nothing_fresh, StaysKept, all_within}
use Rattle.laws_server_runs.proofs.RunSteps.{IsAny, IsAnyPair, any_assigned, any_numbered, event_step}
use Rattle.laws_server_runs.proofs.Unmerged.{unmerged}
use Rattle.laws_server_runs.proofs.UntouchedRanges.{IsUnused, HasNothing, built_nothing, step_nothing}
use Rattle.laws_clusters.specs.ServerEvents.{server_events, server_events_after}
use Rattle.laws_clusters.proofs.BornSo.{absent_before, run_born_so}
use Rattle.laws_clusters.proofs.BuiltInRuns.{TakesList, EventKind, Quiet, OfServers, OfList, event_kind}
use Rattle.laws_clusters.proofs.ServerRules.{IsLaid}
use Rattle.laws_clusters.proofs.ShownNotes.{event_goes}
use Rattle.laws_clusters.proofs.SplitPremises.{first_name, saying_stage, job_at, side_at, unheld_by, new_may}
use Rattle.laws_clusters.proofs.SideFacts.{run_aside}
use Rattle.laws_clusters.proofs.UntoldRanges.{stays_untold}

-- ---- a range that nobody has, and whose streams are not there

unused : (c : Cluster) (k : KnowsSplits c) (x : ServerRun) (same : c.servers ≡ x.servers) (n : ℕ) → (MayHold c k n → ⊥) → stream_of c.stream_layer.catalog.stream (first_name n) ≡ None → IsUnused n x
unused c k x same n none absent = record {
  unheld = unheld_by c k x same n none;
  unsaid = λ s range a saying.
      let three = saying_stage a.job.phase saying in
      let (z, is) = first_of c k a.job n (side_at c k x same s range n a) (split_there c k s range a.job (job_at c k x same s range n a) (omega (arith, three))).1 in
      let e : None ≡ Some z = sym absent ∙ is in absurd cc;
}

-- nothing was done with it
abbrev IsBare : (batch count : ℕ) → List ServerEvent → (c : Cluster) → KnowsSplits c → Type 0
IsBare batch count coming c k = (n : ℕ) → (MayHold c k n → ⊥) → stream_of c.stream_layer.catalog.stream (first_name n) ≡ None → HasNothing n (run_of batch count coming)

-- streams are built where nothing was shown or answered
abbrev AllFresh : (batch count : ℕ) → List ServerEvent → Type 0
AllFresh batch count [] = Unit {0}
AllFresh batch count (event ∷ earlier) = BuildsFresh (run_of batch count earlier) event × AllFresh batch count earlier

fresh_none : (x : ServerRun) (e : ServerEvent) → ((source range : ℕ) → e ≡ Builds source range → ⊥) → BuildsFresh x e
fresh_none x (Takes s p) none = tt
fresh_none x (GivesUp s range pick) none = tt
fresh_none x (Checkpoints s range combine) none = tt
fresh_none x (Splits s range key) none = tt
fresh_none x (Stops s call) none = tt
fresh_none x (Starts s now batch) none = tt
fresh_none x (Moment now) none = tt
fresh_none x (Builds source range) none = absurd (none source range refl)

-- ---- an event

module _ (batch count : ℕ) (c : Cluster) (k : KnowsSplits c) (coming : List ServerEvent) (same : c.servers ≡ (run_of batch count coming).servers) (event : Event) (is_unmerged : IsUnmerged event) (old : IsBare batch count coming c k) where
  abbrev x : ServerRun
  x = run_of batch count coming

  abbrev Now : List ServerEvent → Type 0
  Now l = (cluster_after c event).servers ≡ (run_of batch count (l ++ coming)).servers

  bare_on : Now (server_events c event) → IsBare batch count (server_events c event ++ coming) (cluster_after c event) (event_knows c event is_unmerged k)
  bare_on now n none absent = by (event_kind c k event)
    where
      was_none : MayHold c k n → ⊥
      was_none m = none (event_may c event is_unmerged k n m)

      not_in : IsIn (cluster_after c event).stream_layer.catalog.stream (first_name n) → ⊥
      not_in (z, is) = let e : None ≡ Some z = sym absent ∙ is in cc

      was_absent : stream_of c.stream_layer.catalog.stream (first_name n) ≡ None
      was_absent = absent_before c event (first_name n) absent

      before : HasNothing n x
      before = old n was_none was_absent

      of_list : (t : TakesList c event) → HasNothing n (run_of batch count (Builds t.job.range t.job.high ∷ Builds t.job.range t.job.low ∷ coming))
      of_list t =
          built_nothing n (run_of batch count (Builds t.job.range t.job.low ∷ coming))
          (built_nothing n x before t.job.range t.job.low (λ e. not_in (subst (λ i. IsIn (cluster_after c event).stream_layer.catalog.stream (first_name i)) e (t.there _ (0, omega arith, refl)))))
          t.job.range t.job.high (λ e. not_in (subst (λ i. IsIn (cluster_after c event).stream_layer.catalog.stream (first_name i)) e (t.there _ (4, omega arith, refl))))

      by : EventKind c event → HasNothing n (run_of batch count (server_events c event ++ coming))
      by (Quiet is) = subst (λ l. HasNothing n (run_of batch count (l ++ coming))) (sym is) before
      by (OfServers e free sent is) =
          subst (λ l. HasNothing n (run_of batch count (l ++ coming))) (sym is)
          (step_nothing n x (all_laid batch count coming) (unused c k x same n was_none was_absent) before (outcome_of x.servers e).notes (after_event x e)
          (event_step IsAny IsAnyPair x (unmerged batch count coming) e free (any_assigned e) (any_numbered e))
          (unused (cluster_after c event) (event_knows c event is_unmerged k) (after_event x e) (subst Now is now) n none absent))
      by (OfList t) = subst (λ l. HasNothing n (run_of batch count (l ++ coming))) (sym t.is) (of_list t)

  fresh_on : AllFresh batch count coming → AllFresh batch count (server_events c event ++ coming)
  fresh_on fresh = by (event_kind c k event)
    where
      of_list : (t : TakesList c event) → AllFresh batch count (Builds t.job.range t.job.high ∷ Builds t.job.range t.job.low ∷ coming)
      of_list t =
          let low : HasNothing t.job.low x = old t.job.low (new_may c k x same t.job.range t.job.low t.job t.asks refl (inl refl) (t.absent _ (0, omega arith, refl))) (t.absent _ (0, omega arith, refl)) in
          let high : HasNothing t.job.high x = old t.job.high (new_may c k x same t.job.range t.job.high t.job t.asks refl (inr refl) (t.absent _ (4, omega arith, refl))) (t.absent _ (4, omega arith, refl)) in (
            nothing_fresh (run_of batch count (Builds t.job.range t.job.low ∷ coming)) t.job.range t.job.high (built_nothing t.job.high x high t.job.range t.job.low (λ e. asked_apart c k t.job t.asks e)),
            (nothing_fresh x t.job.range t.job.low low, fresh),
          )

      by : EventKind c event → AllFresh batch count (server_events c event ++ coming)
      by (Quiet is) = subst (λ l. AllFresh batch count (l ++ coming)) (sym is) fresh
      by (OfServers e free sent is) = subst (λ l. AllFresh batch count (l ++ coming)) (sym is) (fresh_none x e free, fresh)
      by (OfList t) = subst (λ l. AllFresh batch count (l ++ coming)) (sym t.is) (of_list t)

-- ---- runs

led_fresh : (batch count : ℕ) (events : List Event) → AreUnmerged events → (c : Cluster) (k : KnowsSplits c) (coming : List ServerEvent) → c.servers ≡ (run_of batch count coming).servers → IsBare batch count coming c k → AllFresh batch count coming →
    AllFresh batch count (server_events_after c coming events)
led_fresh batch count [] are c k coming same bare fresh = fresh
led_fresh batch count (event ∷ events) are c k coming same bare fresh =
    let now : (cluster_after c event).servers ≡ (run_of batch count (server_events c event ++ coming)).servers = (event_goes batch count c coming same event are.0).cells in
    led_fresh batch count events are.1 (cluster_after c event) (event_knows c event are.0 k) (server_events c event ++ coming) now (bare_on batch count c k coming same event are.0 bare now) (fresh_on batch count c k coming same event are.0 bare fresh)

born_stays : (texts : ℕ → Bytes) (batch count : ℕ) (events : List ServerEvent) → AreBornSo texts batch count events → AllInOrder texts batch count events → AllFresh batch count events → StaysKept texts batch count events
born_stays texts batch count [] born order fresh = tt
born_stays texts batch count (event ∷ earlier) born order fresh = (
  λ range. ((all_children texts batch count (event ∷ earlier) born order range).taken, (all_children texts batch count (event ∷ earlier) born order range).kept),
  fresh.0,
  born_stays texts batch count earlier born.2 (order_before texts batch count event earlier order) fresh.1,
)

-- IN EVERY RUN WITHOUT MERGES THE TABLES THAT SERVERS SHOW LIE WITHIN WHAT THEIR STREAMS SHOWED
pub run_laid : (nodes servers target batch : ℕ) (events : List Event) → AreUnmerged events → IsLaid (run_of batch servers (server_events_after (first_cluster nodes servers target batch) [] events))
run_laid nodes servers target batch events are = record { within = within; aside = run_aside nodes servers target batch events are }
  where
    within : (texts : ℕ → Bytes) → ((range : ℕ) → StreamsInOrder texts range (run_of batch servers (server_events_after (first_cluster nodes servers target batch) [] events))) →
        TablesWithin texts (bytes_of (run_of batch servers (server_events_after (first_cluster nodes servers target batch) [] events))) (run_of batch servers (server_events_after (first_cluster nodes servers target batch) [] events)).notes
    within texts order =
        let coming : List ServerEvent = server_events_after (first_cluster nodes servers target batch) [] events in
        let fresh : AllFresh batch servers coming =
        led_fresh batch servers events are (first_cluster nodes servers target batch) (first_knows nodes servers target batch) [] refl (λ n none absent. record { story = λ kind. refl; shown = refl; answered = refl }) tt in
        (all_within texts batch servers coming (born_stays texts batch servers coming (run_born_so texts nodes servers target batch events are (stays_untold texts batch servers)) order fresh) order).tables
