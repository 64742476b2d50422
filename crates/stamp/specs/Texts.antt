-- The text of an extent at a node.
use Rattle.std.specs.Prelude.{◌≡◌, ℕ, List, Option, Some, None, if◌then◌else◌}
use Rattle.replica.specs.Content.{Content}
use Rattle.replica.specs.Groups.{text}
use Rattle.replica.specs.Replay.{is_sealed}
use Rattle.model_streams.specs.Node.{Replica, contents}
use Rattle.enode.specs.Node.{find}
use Rattle.world_nodes.specs.Seen.{NodeSeen}
use Rattle.world_actors.specs.Actors.{running_node}
use Rattle.world_actors.specs.declared.run_actor.RunActor.{RunActor}

-- what a node holds of an extent, if it runs
abbrev pub held_by : Option NodeSeen → ℕ → Option Content
held_by None e = None
held_by (Some node) e = contents (find node.replicas e)

-- its text, if it is sealed
abbrev pub text_if_sealed : Option Content → Option (List ℕ)
text_if_sealed None = None
text_if_sealed (Some content) = if is_sealed content.phase then Some (text content.groups) else None

-- the text of the sealed replica that an actor has of an extent: none where it is no node that runs, or has no sealed one
abbrev pub sealed_text : RunActor → ℕ → Option (List ℕ)
sealed_text actor e = text_if_sealed (held_by (running_node actor) e)

-- it is the text of the sealed replica that the actor has of the extent
abbrev pub IsSealedText : RunActor → ℕ → List ℕ → Type 0
IsSealedText actor e bytes = sealed_text actor e ≡ Some bytes
