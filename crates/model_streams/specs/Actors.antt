-- Who sends a packet.
use Rattle.std.specs.Prelude.{ℕ, Bool, true, false, ◌==◌, ◌||◌}
use Rattle.block_types.specs.declared.record.Nodes.{Nodes}
use Rattle.wire.specs.declared.actor.ActorId.{ActorId}
use Rattle.wire.specs.declared.actor.ActorId.TheVariants.{Node, Manager, Map, Server, User}

abbrev pub is_node : ℕ → ActorId → Bool
is_node n (Node m) = m == n
is_node n Manager = false
is_node n Map = false
is_node n (Server s) = false
is_node n (User u) = false

-- one of an extent's places
abbrev pub is_one_of : Nodes → ActorId → Bool
is_one_of places from = is_node places.primary from || (is_node places.second from || is_node places.third from)

abbrev pub is_manager : ActorId → Bool
is_manager (Node n) = false
is_manager Manager = true
is_manager Map = false
is_manager (Server s) = false
is_manager (User u) = false

abbrev pub is_user : ActorId → Bool
is_user (Node n) = false
is_user Manager = false
is_user Map = false
is_user (Server s) = false
is_user (User u) = true

-- a user counts with generation 0
abbrev pub generation_of : ActorId → ℕ → ℕ
generation_of (Node n) generation = generation
generation_of Manager generation = generation
generation_of Map generation = generation
generation_of (Server s) generation = generation
generation_of (User u) generation = 0
