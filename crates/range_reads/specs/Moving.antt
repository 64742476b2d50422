-- The last read of a Get goes to the next place.
use Rattle.std.specs.Prelude.{◌-◌, List, [], length, Option, Some, None, slice_set}
use Rattle.wire.specs.declared.packet.Packet.{Packet}
use Rattle.model_partition.specs.declared.server_context.ServerContext.{ServerContext}
use Rattle.model_partition.specs.declared.waiting.PlaceRead.{PlaceRead}
use Rattle.model_partition.specs.PlaceReads.{moved_on, asks_again, places_of}
use Rattle.model_partition.specs.Range.{RangeState}

abbrev pub last_moved : List PlaceRead → Option PlaceRead → List PlaceRead
last_moved reads None = reads
last_moved reads (Some last) = slice_set reads (length reads - 1) (moved_on last)

-- the packet of a read, if its extent is known
abbrev pub last_asked : ServerContext → RangeState → Option PlaceRead → List Packet
last_asked d r None = []
last_asked d r (Some read) = asks_again d read (places_of r read.place.extent)
