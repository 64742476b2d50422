-- Who sends in the stream layer.
use Rattle.wire.specs.declared.actor.ActorId.{ActorId}
use Rattle.wire.specs.declared.actor.ActorId.TheVariants.{Node, Manager, Map, Server, User}

-- a node, the manager, or somebody outside: no server, and not the map
abbrev pub IsOfLayer : ActorId → Type 0
IsOfLayer (Node n) = Unit {0}
IsOfLayer Manager = Unit {0}
IsOfLayer Map = ⊥
IsOfLayer (Server s) = ⊥
IsOfLayer (User u) = Unit {0}
