-- The sealed text that an actor has, by what its node has.
use Rattle.std.proofs.Common.{◌≡◌, ℕ, Bool, false, refl, sym, ap, ◌∙◌, Some, None, if◌then◌else◌}
use Rattle.std.specs.Prelude.{Option}
use Rattle.disk.specs.declared.memory.MemDisk.{MemDisk}
use Rattle.replica.specs.Content.{Content}
use Rattle.replica.specs.Groups.{text}
use Rattle.replica.specs.declared.phase.Phase.{Phase}
use Rattle.replica.specs.declared.phase.Phase.TheVariants.{Sealed}
use Rattle.replica.specs.Replay.{is_sealed}
use Rattle.model_streams.specs.Node.{contents}
use Rattle.enode.specs.Node.{NodeState, find}
use Rattle.world_nodes.specs.Seen.{NodeSeen, seen_of}
use Rattle.world_nodes.proofs.Seen.{find-sorted}
use Rattle.world_actors.specs.Actors.{running_node}
use Rattle.world_actors.specs.declared.run_actor.RunActor.{RunActor}
use Rattle.stamp.specs.Texts.{IsSealedText, held_by, sealed_text, text_if_sealed}

-- what the node of an actor holds of an extent is what is seen of it
held : (actor : RunActor) (e : ℕ) (node : NodeState MemDisk) (o : Option Content) → Some (seen_of node) ≡ running_node actor → o ≡ contents (find node.replicas e) →
    held_by (running_node actor) e ≡ o
held actor e node o runs is = ap (λ (s : Option NodeSeen). held_by s e) (sym runs) ∙ (ap contents (find-sorted node.replicas e) ∙ sym is)

pub sealed-some : (actor : RunActor) (e : ℕ) (node : NodeState MemDisk) (content : Content) → Some (seen_of node) ≡ running_node actor →
    Some content ≡ contents (find node.replicas e) → content.phase ≡ Sealed → IsSealedText actor e (text content.groups)
sealed-some actor e node content runs is sealed =
    ap text_if_sealed (held actor e node (Some content) runs is) ∙ ap (λ (phase : Phase). text_if_sealed (Some (record content { phase = phase }))) sealed

pub sealed-absent : (actor : RunActor) (e : ℕ) (node : NodeState MemDisk) → Some (seen_of node) ≡ running_node actor → None ≡ contents (find node.replicas e) →
    sealed_text actor e ≡ None
sealed-absent actor e node runs is = ap text_if_sealed (held actor e node None runs is)

pub sealed-other : (actor : RunActor) (e : ℕ) (node : NodeState MemDisk) (content : Content) (phase : Phase) → Some (seen_of node) ≡ running_node actor →
    Some content ≡ contents (find node.replicas e) → content.phase ≡ phase → is_sealed phase ≡ false → sealed_text actor e ≡ None
sealed-other actor e node content phase runs is of other =
    ap text_if_sealed (held actor e node (Some content) runs is) ∙ ap (λ (b : Bool). if b then Some (text content.groups) else None) (ap is_sealed of ∙ other)
