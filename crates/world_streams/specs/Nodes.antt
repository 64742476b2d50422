-- Real nodes beside the model's.
use Rattle.std.specs.Prelude.{◌≡◌, ℕ, zero, suc, false, List, [], ◌∷◌, ◌++◌, length, Option, Some, None}
use Rattle.model_streams.specs.Maps.{entry_at}
use Rattle.model_streams.specs.StreamSystem.{StreamSystem}
use Rattle.world_steps.specs.ActorStep.{ActorStep}
use Rattle.world_nodes.specs.Seen.{NodeSeen, NodeMirrors, if_running, new_node}

-- the node of a number, where it runs
abbrev pub running_at : List NodeSeen → ℕ → Option NodeSeen
running_at xs n = if_running (entry_at xs n)

-- the model's nodes mirror what is seen of the real ones, numbered from 1
pub record NodesMirror (xs : List NodeSeen) (w : StreamSystem) : Type 0 where
  pub each : (n : ℕ) (x : NodeSeen) → entry_at xs n ≡ Some x → NodeMirrors n x w
  pub absent : (n : ℕ) → entry_at xs n ≡ None → (w.cell n).up ≡ false
  pub count : w.nodes ≡ length xs

-- from w to v the nodes step: these are seen of them then, and this is sent and shown
pub record NodesStep (xs : List NodeSeen) (w v : StreamSystem) (s : ActorStep) : Type 0 where
  pub post : v.post ≡ w.post ++ s.packets
  pub notes : v.notes ≡ w.notes ++ s.notes
  pub nodes : NodesMirror xs v
  pub catalog : v.catalog ≡ w.catalog
  pub manager : v.manager_cell ≡ w.manager_cell

-- so many nodes with nothing on their disks, in order from node 1
abbrev pub first_nodes : ℕ → List NodeSeen
first_nodes zero = []
first_nodes (suc n) = first_nodes n ++ new_node (suc n) ∷ []
