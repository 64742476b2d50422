-- Steps of the manager, in whatever cluster has it.
use Rattle.std.specs.declared.alloc.AllocError.{AllocError}
use Rattle.std.proofs.Common.{◌≡◌, ◌≢◌, ℕ, Bool, ◌&&◌, nat_le, nat_lt, [], Option, Some, None, Result, Ok, Err, IfOk, refl, sym, ap, ◌∙◌, subst}
use Rattle.wire.specs.declared.actor.ActorId.{ActorId}
use Rattle.wire.specs.declared.actor.ActorId.TheVariants as actors
use Rattle.wire.specs.declared.packet.Packet.{Packet}
use Rattle.model_streams.specs.declared.event.Event.TheVariants as events
use Rattle.model_streams.specs.Node.{Replica}
use Rattle.model_streams.specs.StreamSystem.{StreamSystem, ActorCell, manager_decides, manager_takes, restart, stop}
use Rattle.model_partition.specs.Cluster.{Cluster, cluster_after}
use Rattle.world_steps.specs.ActorStep.{ActorStep, IsFew, nothing}
use Rattle.world_manager.specs.Seen.{ManagerSeen, ManagerSimulates, ManagerSteps, decision_refusal}
use Rattle.world_actors.specs.declared.run_actor.RunActor.{RunActor}
use Rattle.world_actors.specs.declared.run_actor.RunActor.TheVariants.{Node, Manager, Map, Server}
use Rattle.world_actors.specs.declared.actor_input.ActorInput.{ActorInput}
use Rattle.world_actors.specs.Inputs.{Carries, IsFor}
use Rattle.world_actors.specs.Actors.{IsActor, id_of}
use Rattle.world_actors.specs.Steps.{ActorSteps, Goes, manager_refusal}
use Rattle.world_actors.proofs.Events.{delivery_leads, restart_leads, stop_leads}
use Rattle.world_actors.proofs.NodeSteps.{with_layer}
use Rattle.world_actors.proofs.Rests.{is_few}
use Rattle.world_actors.proofs.Transport.{node_as, plain_notes}

others_stay : (y : ManagerSeen) (c : Cluster) (v : StreamSystem) (t : ActorStep) → ManagerSteps y c.stream_layer v t → (z : RunActor) → id_of z ≢ actors.Manager → IsActor z c → IsActor z (with_layer c v)
others_stay y c v t s (Node z) apart m = (
  node_as z.number z c.stream_layer v m.0 (λ e. ap (λ (f : ℕ → ℕ → Option Replica). f z.number e) s.replica) (ap (λ (f : ℕ → ActorCell). f z.number) s.cell),
  ap (λ (k : ℕ). nat_lt 0 z.number && nat_le z.number k) s.nodes ∙ m.1,
)
others_stay y c v t s (Manager z) apart m = absurd (apart refl)
others_stay y c v t s (Map z) apart m = m
others_stay y c v t s (Server z) apart m = record { cell = m.cell; moment = m.moment; batch = m.batch }

-- the manager alone steps
pub manager_steps : (x y : ManagerSeen) (c : Cluster) (v : StreamSystem) (t : ActorStep) → t.tables ≡ [] → ManagerSteps y c.stream_layer v t → ActorSteps (Manager x) (Manager y) c (with_layer c v) t
manager_steps x y c v t plain s = record {
  post = s.post;
  notes = s.notes ∙ plain_notes c.stream_layer.notes t.notes t.tables plain;
  id = refl;
  here = s.manager;
  others = others_stay y c v t s;
}

-- where the event makes this of the stream layer, the manager goes by it
manager_goes : (x : ManagerSeen) (d : ActorInput) (y : ManagerSeen) (t : ActorStep) (step : StreamSystem → StreamSystem) → IsFew t → t.tables ≡ [] → t.refusal ≡ manager_refusal x d.event →
    ((now : ℕ) → d.event ≡ events.Moment now → ⊥) → ManagerSimulates x y step t →
    ((c : Cluster) → Carries c.stream_layer.post d → IsFor d actors.Manager → cluster_after c d.event ≡ with_layer c (step c.stream_layer)) → Goes (Manager x) d (Manager y) t
manager_goes x d y t step few plain refusal timeless simulates leads = record {
  few = few;
  refusal = refusal;
  steps = λ c m carried for. subst (λ (e : Cluster). ActorSteps (Manager x) (Manager y) c e t) (sym (leads c carried for))
      (manager_steps x y c (step c.stream_layer) t plain (simulates c.stream_layer m));
  moment = λ now is. absurd (timeless now is);
}

manager_took : (x : ManagerSeen) (d : ActorInput) (y : ManagerSeen) (t : ActorStep) (k : ℕ) (p : Packet) → d.event ≡ events.Deliver k → d.packet ≡ Some p → ManagerSimulates x y (λ w. manager_takes w p) t → IsFew t →
    (t.tables ≡ []) × (t.refusal ≡ None) → Goes (Manager x) d (Manager y) t
manager_took x d y t k p is has simulates few plain =
    manager_goes x d y t (λ w. manager_takes w p) few plain.0 (plain.1 ∙ ap (manager_refusal x) (sym is)) (λ now at. absurd (let both = sym is ∙ at in cc)) simulates
    (λ c carried for. delivery_leads c d k p actors.Manager is has carried for)

pub manager_takes_it : (x : ManagerSeen) (d : ActorInput) (y : ManagerSeen) (r : Result ActorStep AllocError) (k : ℕ) (p : Packet) → d.event ≡ events.Deliver k → d.packet ≡ Some p →
    IfOk r (λ t. ManagerSimulates x y (λ w. manager_takes w p) t) → IfOk r IsFew → IfOk r (λ t. (t.tables ≡ []) × (t.refusal ≡ None)) → IfOk r (λ t. Goes (Manager x) d (Manager y) t)
manager_takes_it x d y (Ok t) k p is has simulates few plain = manager_took x d y t k p is has simulates few plain
manager_takes_it x d y (Err full) k p is has simulates few plain = tt

pub manager_stopped : (x : ManagerSeen) (d : ActorInput) (y : ManagerSeen) (b : ActorId) (call : ℕ) (keep : Bool) → d.event ≡ events.Stop b call keep →
    ManagerSimulates x y (λ w. stop w actors.Manager call keep) nothing → Goes (Manager x) d (Manager y) nothing
manager_stopped x d y b call keep is simulates =
    manager_goes x d y nothing (λ w. stop w actors.Manager call keep) is_few refl (ap (manager_refusal x) (sym is)) (λ now at. absurd (let both = sym is ∙ at in cc)) simulates
    (λ c carried for. stop_leads c d b call keep actors.Manager is for)

pub manager_restarted : (x : ManagerSeen) (d : ActorInput) (y : ManagerSeen) (b : ActorId) → d.event ≡ events.Restart b →
    ManagerSimulates x y (λ w. restart w actors.Manager) nothing → Goes (Manager x) d (Manager y) nothing
manager_restarted x d y b is simulates =
    manager_goes x d y nothing (λ w. restart w actors.Manager) is_few refl (ap (manager_refusal x) (sym is)) (λ now at. absurd (let both = sym is ∙ at in cc)) simulates
    (λ c carried for. restart_leads c d b actors.Manager is for)

manager_decided : (x : ManagerSeen) (d : ActorInput) (y : ManagerSeen) (t : ActorStep) (k : ℕ) → d.event ≡ events.Decide k → ManagerSimulates x y (λ w. manager_decides w k) t → IsFew t →
    t.tables ≡ [] → t.refusal ≡ decision_refusal x k → Goes (Manager x) d (Manager y) t
manager_decided x d y t k is simulates few plain refusal =
    manager_goes x d y t (λ w. manager_decides w k) few plain (refusal ∙ ap (manager_refusal x) (sym is)) (λ now at. absurd (let both = sym is ∙ at in cc)) simulates
    (λ c carried for. ap (cluster_after c) is)

pub manager_decides_it : (x : ManagerSeen) (d : ActorInput) (y : ManagerSeen) (r : Result ActorStep AllocError) (k : ℕ) → d.event ≡ events.Decide k →
    IfOk r (λ t. ManagerSimulates x y (λ w. manager_decides w k) t) → IfOk r IsFew → IfOk r (λ t. t.tables ≡ []) → IfOk r (λ t. t.refusal ≡ decision_refusal x k) → IfOk r (λ t. Goes (Manager x) d (Manager y) t)
manager_decides_it x d y (Ok t) k is simulates few plain refusal = manager_decided x d y t k is simulates few plain refusal
manager_decides_it x d y (Err full) k is simulates few plain refusal = tt
