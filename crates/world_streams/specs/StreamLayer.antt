-- The stream layer beside the model's world.
use Rattle.std.specs.Prelude.{◌≡◌, ◌++◌, List, Option, None}
use Rattle.wire.specs.declared.note.Note.{Note}
use Rattle.wire.specs.declared.packet.Packet.{Packet}
use Rattle.model_streams.specs.declared.event.Event.{Event}
use Rattle.model_streams.specs.StreamSystem.{StreamSystem}
use Rattle.wire.specs.declared.refusal.Refusal.{Refusal}
use Rattle.model_streams.specs.declared.event.Event.TheVariants.{Decide}
use Rattle.world_steps.specs.ActorStep.{ActorStep}
use Rattle.world_nodes.specs.Seen.{NodeSeen}
use Rattle.world_manager.specs.Seen.{ManagerSeen, ManagerMirrors, decision_refusal}
use Rattle.world_streams.specs.Nodes.{NodesMirror}

pub record StreamLayerState : Type 0 where
  pub nodes : List NodeSeen
  pub manager : ManagerSeen
  pub post : List Packet
  pub notes : List Note

-- the model's stream layer mirrors what is seen of the real one
pub record StreamLayerMirrors (r : StreamLayerState) (w : StreamSystem) : Type 0 where
  pub post : r.post ≡ w.post
  pub notes : r.notes ≡ w.notes
  pub nodes : NodesMirror r.nodes w
  pub manager : ManagerMirrors r.manager w

-- from w to v the actors step: these are seen of them then, and this is sent and shown
pub record ActorsStep (xs : List NodeSeen) (d : ManagerSeen) (w v : StreamSystem) (s : ActorStep) : Type 0 where
  pub post : v.post ≡ w.post ++ s.packets
  pub notes : v.notes ≡ w.notes ++ s.notes
  pub nodes : NodesMirror xs v
  pub manager : ManagerMirrors d v

-- why an event is refused: a decision for the manager's reason, and nothing else
abbrev pub refusal_of : StreamLayerState → Event → Option Refusal
refusal_of r (Decide e) = decision_refusal r.manager e
refusal_of r event = None
