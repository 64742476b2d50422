-- A replica in any state.
use Rattle.replica.specs.Content.{Content}
use Rattle.replica.specs.Room.{Room}
use Rattle.replica.specs.declared.replica.Replica.{Replica}
use Rattle.replica.specs.declared.replica.Replica.TheVariants.{Open, Frozen, Sealed}

-- what it holds
abbrev pub content_of : Replica → Content
content_of (Open held) = held.content
content_of (Frozen held) = held.content
content_of (Sealed held) = held.content

-- for what there is memory
abbrev pub room_of : Replica → Room
room_of (Open held) = held.room
room_of (Frozen held) = held.room
room_of (Sealed held) = held.room
