-- Steps of a node, in whatever cluster has it.
use Rattle.std.specs.declared.alloc.AllocError.{AllocError}
use Rattle.std.proofs.Common.{◌≡◌, ◌≢◌, ℕ, Bool, true, ◌&&◌, nat_le, nat_lt, [], Some, None, Result, Ok, Err, IfOk, refl, sym, ap, ◌∙◌, subst}
use Rattle.wire.specs.declared.actor.ActorId.{ActorId}
use Rattle.wire.specs.declared.actor.ActorId.TheVariants as actors
use Rattle.wire.specs.declared.packet.Packet.{Packet}
use Rattle.model_streams.specs.declared.event.Event.TheVariants as events
use Rattle.model_streams.specs.StreamSystem.{StreamSystem, is_present, node_takes, restart, stop}
use Rattle.model_partition.specs.Cluster.{Cluster, cluster_after}
use Rattle.world_steps.specs.ActorStep.{ActorStep, IsFew, nothing}
use Rattle.world_nodes.specs.Seen.{NodeSeen, NodeMirrors, NodeSimulates, NodeSteps}
use Rattle.world_actors.specs.declared.run_actor.RunActor.{RunActor}
use Rattle.world_actors.specs.declared.run_actor.RunActor.TheVariants.{Node, Manager, Map, Server}
use Rattle.world_actors.specs.declared.actor_input.ActorInput.{ActorInput}
use Rattle.world_actors.specs.Inputs.{Carries, IsFor}
use Rattle.world_actors.specs.Actors.{IsActor, id_of}
use Rattle.world_actors.specs.Steps.{ActorSteps, Goes}
use Rattle.world_actors.proofs.Events.{delivery_leads, restart_leads, stop_leads}
use Rattle.world_actors.proofs.Rests.{is_few}
use Rattle.world_actors.proofs.Transport.{manager_as, node_as, plain_notes}

-- the cluster with this stream layer
abbrev pub with_layer : Cluster → StreamSystem → Cluster
with_layer c v = record c { stream_layer = v }

is_still : (n : ℕ) (w v : StreamSystem) → v.nodes ≡ w.nodes → is_present w n ≡ true → is_present v n ≡ true
is_still n w v nodes there = ap (λ (k : ℕ). nat_lt 0 n && nat_le n k) nodes ∙ there

others_stay : (n : ℕ) (y : NodeSeen) (c : Cluster) (v : StreamSystem) (t : ActorStep) → NodeSteps n y c.stream_layer v t → (z : RunActor) → id_of z ≢ actors.Node n → IsActor z c → IsActor z (with_layer c v)
others_stay n y c v t s (Node z) apart m =
    let far : z.number ≢ n = λ e. apart (ap actors.Node e) in
    let same = s.others z.number far in
    (node_as z.number z c.stream_layer v m.0 same.0 same.1, is_still z.number c.stream_layer v s.nodes m.1)
others_stay n y c v t s (Manager z) apart m = manager_as z c.stream_layer v m s.catalog s.manager
others_stay n y c v t s (Map z) apart m = m
others_stay n y c v t s (Server z) apart m = record { cell = m.cell; moment = m.moment; batch = m.batch }

-- the node alone steps
pub node_steps : (x y : NodeSeen) (c : Cluster) (v : StreamSystem) (t : ActorStep) → t.tables ≡ [] → is_present c.stream_layer x.number ≡ true → NodeSteps x.number y c.stream_layer v t →
    ActorSteps (Node x) (Node y) c (with_layer c v) t
node_steps x y c v t plain there s = record {
  post = s.post;
  notes = s.notes ∙ plain_notes c.stream_layer.notes t.notes t.tables plain;
  id = ap actors.Node s.node.number;
  here = subst (λ (n : ℕ). NodeMirrors n y v × (is_present v n ≡ true)) (sym s.node.number) (s.node, is_still x.number c.stream_layer v s.nodes there);
  others = others_stay x.number y c v t s;
}

-- where the event makes this of the stream layer, the node goes by it
node_goes : (x : NodeSeen) (d : ActorInput) (y : NodeSeen) (t : ActorStep) (step : StreamSystem → StreamSystem) → IsFew t → (t.tables ≡ []) × (t.refusal ≡ None) → ((now : ℕ) → d.event ≡ events.Moment now → ⊥) →
    ((w : StreamSystem) → is_present w x.number ≡ true → NodeMirrors x.number x w → NodeSteps x.number y w (step w) t) →
    ((c : Cluster) → Carries c.stream_layer.post d → IsFor d (actors.Node x.number) → cluster_after c d.event ≡ with_layer c (step c.stream_layer)) → Goes (Node x) d (Node y) t
node_goes x d y t step few plain timeless simulates leads = record {
  few = few;
  refusal = plain.1;
  steps = λ c m carried for. subst (λ (e : Cluster). ActorSteps (Node x) (Node y) c e t) (sym (leads c carried for))
      (node_steps x y c (step c.stream_layer) t plain.0 m.1 (simulates c.stream_layer m.1 m.0));
  moment = λ now is. absurd (timeless now is);
}

node_took : (x : NodeSeen) (d : ActorInput) (y : NodeSeen) (t : ActorStep) (k : ℕ) (p : Packet) → d.event ≡ events.Deliver k → d.packet ≡ Some p → NodeSimulates x y (λ w n. node_takes w n p) t → IsFew t →
    (t.tables ≡ []) × (t.refusal ≡ None) → Goes (Node x) d (Node y) t
node_took x d y t k p is has simulates few plain =
    node_goes x d y t (λ w. node_takes w x.number p) few plain (λ now at. absurd (let both = sym is ∙ at in cc)) (λ w there m. simulates x.number w m)
    (λ c carried for. delivery_leads c d k p (actors.Node x.number) is has carried for)

pub node_takes_it : (x : NodeSeen) (d : ActorInput) (y : NodeSeen) (r : Result ActorStep AllocError) (k : ℕ) (p : Packet) → d.event ≡ events.Deliver k → d.packet ≡ Some p →
    IfOk r (λ t. NodeSimulates x y (λ w n. node_takes w n p) t) → IfOk r IsFew → IfOk r (λ t. (t.tables ≡ []) × (t.refusal ≡ None)) → IfOk r (λ t. Goes (Node x) d (Node y) t)
node_takes_it x d y (Ok t) k p is has simulates few plain = node_took x d y t k p is has simulates few plain
node_takes_it x d y (Err full) k p is has simulates few plain = tt

pub node_stopped : (x : NodeSeen) (d : ActorInput) (y : NodeSeen) (b : ActorId) (call : ℕ) (keep : Bool) → d.event ≡ events.Stop b call keep →
    NodeSimulates x y (λ w n. stop w (actors.Node n) call keep) nothing → Goes (Node x) d (Node y) nothing
node_stopped x d y b call keep is simulates =
    node_goes x d y nothing (λ w. stop w (actors.Node x.number) call keep) is_few (refl, refl) (λ now at. absurd (let both = sym is ∙ at in cc)) (λ w there m. simulates x.number w m)
    (λ c carried for. stop_leads c d b call keep (actors.Node x.number) is for)

pub node_restarted : (x : NodeSeen) (d : ActorInput) (y : NodeSeen) (b : ActorId) → d.event ≡ events.Restart b →
    ((n : ℕ) (w : StreamSystem) → is_present w n ≡ true → NodeMirrors n x w → NodeSteps n y w (restart w (actors.Node n)) nothing) → Goes (Node x) d (Node y) nothing
node_restarted x d y b is simulates =
    node_goes x d y nothing (λ w. restart w (actors.Node x.number)) is_few (refl, refl) (λ now at. absurd (let both = sym is ∙ at in cc)) (λ w there m. simulates x.number w there m)
    (λ c carried for. restart_leads c d b (actors.Node x.number) is for)
