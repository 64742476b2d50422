-- The numbers of a setup, and those of its actors.
use Rattle.std.specs.Prelude.{ℕ, ◌+◌, ◌-◌, ◌&&◌, nat_lt, nat_le, List, [], ◌∷◌, slice_index, Option, Some, None, if◌then◌else◌}
use Rattle.wire.specs.declared.actor.ActorId.{ActorId}
use Rattle.wire.specs.declared.actor.ActorId.TheVariants.{Node, Manager, Map, Server, User}
use Rattle.world_setup.specs.declared.setup.Setup.{Setup}

-- its nodes, its servers, the target of its extents, and how many transactions a group of the log may hold
abbrev pub numbers_of : Setup → List ℕ
numbers_of s = s.nodes ∷ s.servers ∷ s.target ∷ s.batch ∷ []

abbrev pub nodes_in : List ℕ → ℕ
nodes_in ns = slice_index ns 0

abbrev pub servers_in : List ℕ → ℕ
servers_in ns = slice_index ns 1

abbrev pub target_in : List ℕ → ℕ
target_in ns = slice_index ns 2

abbrev pub batch_in : List ℕ → ℕ
batch_in ns = slice_index ns 3

-- the nodes, the manager, the map and the servers
abbrev pub count_of : List ℕ → ℕ
count_of ns = nodes_in ns + 2 + servers_in ns

-- the number of an actor: nodes from 0 on, the manager, the map, and servers, so that those to whom the clock shows a moment come
-- last; none of an actor that is not there, and none of a user
abbrev pub place_in : List ℕ → ActorId → Option ℕ
place_in ns (Node n) = if nat_lt 0 n && nat_le n (nodes_in ns) then Some (n - 1) else None
place_in ns Manager = Some (nodes_in ns)
place_in ns Map = Some (nodes_in ns + 1)
place_in ns (Server s) = if nat_lt 0 s && nat_le s (servers_in ns) then Some (nodes_in ns + 1 + s) else None
place_in ns (User u) = None
