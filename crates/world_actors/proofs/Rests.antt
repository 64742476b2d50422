-- Events that are not for an actor, and moments.
use Rattle.std.proofs.Common.{◌≡◌, ℕ, Bool, List, Option, Some, None, refl, sym, ap, ◌∙◌, arith}
use Rattle.block_types.specs.declared.record.Nodes.{Nodes}
use Rattle.wire.specs.declared.actor.ActorId.{ActorId}
use Rattle.wire.specs.declared.actor.ActorId.TheVariants as actors
use Rattle.wire.specs.declared.packet.Packet.{Packet}
use Rattle.model_streams.specs.declared.event.Event.{Event}
use Rattle.model_streams.specs.declared.event.Event.TheVariants as events
use Rattle.world_steps.specs.ActorStep.{IsFew, nothing}
use Rattle.world_manager.specs.Seen.{ManagerSeen}
use Rattle.world_map.specs.Seen.{MapSeen}
use Rattle.world_nodes.specs.Seen.{NodeSeen}
use Rattle.world_server.specs.Seen.{ServerSeen}
use Rattle.world_actors.specs.declared.run_actor.RunActor.{RunActor}
use Rattle.world_actors.specs.declared.run_actor.RunActor.TheVariants.{Node, Manager, Map, Server}
use Rattle.world_actors.specs.declared.actor_input.ActorInput.{ActorInput}
use Rattle.world_actors.specs.Inputs.{IsFor, taker_of}
use Rattle.world_actors.specs.Actors.{id_of, ticked}
use Rattle.world_actors.specs.Steps.{Goes, manager_refusal, map_refusal, refusal_by, server_refusal}

pub is_few : IsFew nothing
is_few = (omega arith, omega arith, omega arith)

-- nothing comes of it
pub rests : (x : RunActor) (d : ActorInput) → refusal_by x d.event ≡ None → (IsFor d (id_of x) → ⊥) → ((now : ℕ) → d.event ≡ events.Moment now → x ≡ ticked now x) → Goes x d x nothing
rests x d plain others still = record {
  few = is_few;
  refusal = sym plain;
  steps = λ c m carried for. absurd (others for);
  moment = λ now is. (still now is, refl);
}

no_refusal : (x : RunActor) (now : ℕ) → refusal_by x (events.Moment now) ≡ None
no_refusal (Node x) now = refl
no_refusal (Manager x) now = refl
no_refusal (Map x) now = refl
no_refusal (Server x) now = refl

moment_is : (now moment : ℕ) (e : Event) → e ≡ events.Moment now → e ≡ events.Moment moment → now ≡ moment
moment_is now moment e a b = let both = sym a ∙ b in cc

-- the moment is shown to it
pub moment_goes : (x : RunActor) (d : ActorInput) (now : ℕ) → d.event ≡ events.Moment now → Goes x d (ticked now x) nothing
moment_goes x d now is = record {
  few = is_few;
  refusal = sym (ap (refusal_by x) is ∙ no_refusal x now);
  steps = λ c m carried for. absurd (let none = sym (ap (λ (e : Event). taker_of e d.packet) is) ∙ for in cc);
  moment = λ moment at. (ap (λ (k : ℕ). ticked k x) (moment_is now moment d.event is at), refl);
}

no_delivery_refused : (x : RunActor) (k : ℕ) → refusal_by x (events.Deliver k) ≡ None
no_delivery_refused (Node x) k = refl
no_delivery_refused (Manager x) k = refl
no_delivery_refused (Map x) k = refl
no_delivery_refused (Server x) k = refl

-- nobody takes a packet that is not there
pub undelivered : (x : RunActor) (d : ActorInput) (k : ℕ) → d.event ≡ events.Deliver k → d.packet ≡ None → Goes x d x nothing
undelivered x d k is none =
    rests x d (ap (refusal_by x) is ∙ no_delivery_refused x k)
    (λ for. let both = sym (λ i. taker_of (is i) (none i)) ∙ for in cc)
    (λ now at. absurd (let both = sym is ∙ at in cc))

-- ---- what is not for nodes, for the manager, for the map, for servers

-- it is no delivery, no stop and no restart
pub record IsNoCall (e : Event) : Type 0 where
  pub deliver : (k : ℕ) → e ≡ events.Deliver k → ⊥
  pub stop : (a : ActorId) (call : ℕ) (keep : Bool) → e ≡ events.Stop a call keep → ⊥
  pub restart : (a : ActorId) → e ≡ events.Restart a → ⊥

no_node : (e : Event) (o : Option Packet) (n : ℕ) → IsNoCall e → taker_of e o ≡ Some (actors.Node n) → ⊥
no_node (events.Submit user to body) o n h for = cc
no_node (events.Deliver number) o n h for = h.deliver number refl
no_node (events.Stop actor call keep) o n h for = h.stop actor call keep refl
no_node (events.Restart actor) o n h for = h.restart actor refl
no_node (events.Decide e) o n h for = cc
no_node (events.GiveUp server range pick) o n h for = cc
no_node (events.Assign range server until) o n h for = cc
no_node (events.Renew range server until) o n h for = cc
no_node (events.Moment now) o n h for = cc
no_node (events.Checkpoint server range combine) o n h for = cc
no_node (events.Split server range key) o n h for = cc
no_node (events.Merge server left right) o n h for = cc

pub node_rests : (x : NodeSeen) (d : ActorInput) → IsNoCall d.event → Goes (Node x) d (Node x) nothing
node_rests x d h = rests (Node x) d refl (no_node d.event d.packet x.number h) (λ now is. refl)

no_manager : (e : Event) (o : Option Packet) → IsNoCall e → ((k : ℕ) → e ≡ events.Decide k → ⊥) → taker_of e o ≡ Some actors.Manager → ⊥
no_manager (events.Submit user to body) o h decide for = cc
no_manager (events.Deliver number) o h decide for = h.deliver number refl
no_manager (events.Stop actor call keep) o h decide for = h.stop actor call keep refl
no_manager (events.Restart actor) o h decide for = h.restart actor refl
no_manager (events.Decide e) o h decide for = decide e refl
no_manager (events.GiveUp server range pick) o h decide for = cc
no_manager (events.Assign range server until) o h decide for = cc
no_manager (events.Renew range server until) o h decide for = cc
no_manager (events.Moment now) o h decide for = cc
no_manager (events.Checkpoint server range combine) o h decide for = cc
no_manager (events.Split server range key) o h decide for = cc
no_manager (events.Merge server left right) o h decide for = cc

not_decided : (x : ManagerSeen) (e : Event) → ((k : ℕ) → e ≡ events.Decide k → ⊥) → manager_refusal x e ≡ None
not_decided x (events.Decide e) decide = absurd (decide e refl)
not_decided x (events.Submit user to body) decide = refl
not_decided x (events.Deliver number) decide = refl
not_decided x (events.Stop actor call keep) decide = refl
not_decided x (events.Restart actor) decide = refl
not_decided x (events.GiveUp server range pick) decide = refl
not_decided x (events.Assign range server until) decide = refl
not_decided x (events.Renew range server until) decide = refl
not_decided x (events.Moment now) decide = refl
not_decided x (events.Checkpoint server range combine) decide = refl
not_decided x (events.Split server range key) decide = refl
not_decided x (events.Merge server left right) decide = refl

pub manager_rests : (x : ManagerSeen) (d : ActorInput) → IsNoCall d.event → ((k : ℕ) → d.event ≡ events.Decide k → ⊥) → Goes (Manager x) d (Manager x) nothing
manager_rests x d h decide = rests (Manager x) d (not_decided x d.event decide) (no_manager d.event d.packet h decide) (λ now is. refl)

-- it is nothing that the map is asked
pub record IsNoMapCall (e : Event) : Type 0 where
  pub call : IsNoCall e
  pub assign : (range server until : ℕ) → e ≡ events.Assign range server until → ⊥
  pub renew : (range server until : ℕ) → e ≡ events.Renew range server until → ⊥
  pub moment : (now : ℕ) → e ≡ events.Moment now → ⊥

no_map : (e : Event) (o : Option Packet) → IsNoMapCall e → taker_of e o ≡ Some actors.Map → ⊥
no_map (events.Submit user to body) o h for = cc
no_map (events.Deliver number) o h for = h.call.deliver number refl
no_map (events.Stop actor call keep) o h for = h.call.stop actor call keep refl
no_map (events.Restart actor) o h for = h.call.restart actor refl
no_map (events.Decide e) o h for = cc
no_map (events.GiveUp server range pick) o h for = cc
no_map (events.Assign range server until) o h for = h.assign range server until refl
no_map (events.Renew range server until) o h for = h.renew range server until refl
no_map (events.Moment now) o h for = cc
no_map (events.Checkpoint server range combine) o h for = cc
no_map (events.Split server range key) o h for = cc
no_map (events.Merge server left right) o h for = cc

no_map_refusal : (x : MapSeen) (e : Event) → IsNoMapCall e → map_refusal x e ≡ None
no_map_refusal x (events.Submit user to body) h = refl
no_map_refusal x (events.Deliver number) h = refl
no_map_refusal x (events.Stop actor call keep) h = refl
no_map_refusal x (events.Restart actor) h = refl
no_map_refusal x (events.Decide e) h = refl
no_map_refusal x (events.GiveUp server range pick) h = refl
no_map_refusal x (events.Assign range server until) h = absurd (h.assign range server until refl)
no_map_refusal x (events.Renew range server until) h = absurd (h.renew range server until refl)
no_map_refusal x (events.Moment now) h = refl
no_map_refusal x (events.Checkpoint server range combine) h = refl
no_map_refusal x (events.Split server range key) h = refl
no_map_refusal x (events.Merge server left right) h = refl

pub map_rests : (x : MapSeen) (d : ActorInput) → IsNoMapCall d.event → Goes (Map x) d (Map x) nothing
map_rests x d h = rests (Map x) d (no_map_refusal x d.event h) (no_map d.event d.packet h) (λ now is. absurd (h.moment now is))

-- it is nothing that a server is asked
pub record IsNoServerCall (e : Event) : Type 0 where
  pub call : IsNoCall e
  pub give_up : (server range : ℕ) (pick : Nodes) → e ≡ events.GiveUp server range pick → ⊥
  pub checkpoint : (server range : ℕ) (combine : Bool) → e ≡ events.Checkpoint server range combine → ⊥
  pub split : (server range : ℕ) (key : List ℕ) → e ≡ events.Split server range key → ⊥
  pub merge : (server left right : ℕ) → e ≡ events.Merge server left right → ⊥
  pub moment : (now : ℕ) → e ≡ events.Moment now → ⊥

no_server : (e : Event) (o : Option Packet) (n : ℕ) → IsNoServerCall e → taker_of e o ≡ Some (actors.Server n) → ⊥
no_server (events.Submit user to body) o n h for = cc
no_server (events.Deliver number) o n h for = h.call.deliver number refl
no_server (events.Stop actor call keep) o n h for = h.call.stop actor call keep refl
no_server (events.Restart actor) o n h for = h.call.restart actor refl
no_server (events.Decide e) o n h for = cc
no_server (events.GiveUp server range pick) o n h for = h.give_up server range pick refl
no_server (events.Assign range server until) o n h for = cc
no_server (events.Renew range server until) o n h for = cc
no_server (events.Moment now) o n h for = cc
no_server (events.Checkpoint server range combine) o n h for = h.checkpoint server range combine refl
no_server (events.Split server range key) o n h for = h.split server range key refl
no_server (events.Merge server left right) o n h for = h.merge server left right refl

no_server_refusal : (x : ServerSeen) (e : Event) → IsNoServerCall e → server_refusal x e ≡ None
no_server_refusal x (events.Submit user to body) h = refl
no_server_refusal x (events.Deliver number) h = refl
no_server_refusal x (events.Stop actor call keep) h = refl
no_server_refusal x (events.Restart actor) h = refl
no_server_refusal x (events.Decide e) h = refl
no_server_refusal x (events.GiveUp server range pick) h = absurd (h.give_up server range pick refl)
no_server_refusal x (events.Assign range server until) h = refl
no_server_refusal x (events.Renew range server until) h = refl
no_server_refusal x (events.Moment now) h = refl
no_server_refusal x (events.Checkpoint server range combine) h = absurd (h.checkpoint server range combine refl)
no_server_refusal x (events.Split server range key) h = absurd (h.split server range key refl)
no_server_refusal x (events.Merge server left right) h = absurd (h.merge server left right refl)

pub server_rests : (x : ServerSeen) (d : ActorInput) → IsNoServerCall d.event → Goes (Server x) d (Server x) nothing
server_rests x d h = rests (Server x) d (no_server_refusal x d.event h) (no_server d.event d.packet x.number h) (λ now is. absurd (h.moment now is))
