-- Reads of what stands at a place: of an index, of a page, of a value.
use Rattle.std.specs.Prelude.{ℕ, Bool, false, ◌&&◌, ◌==◌, List, [], ◌∷◌, ◌++◌, length, Option, Some, None, if◌then◌else◌}
use Rattle.block_types.specs.declared.record.Nodes.{Nodes}
use Rattle.wire.specs.declared.actor.ActorId.TheVariants.{Node}
use Rattle.wire.specs.declared.actor.ReqNo.{ReqNo}
use Rattle.wire.specs.declared.body.Body.TheVariants as bodies
use Rattle.wire.specs.declared.body.ReadBody.TheVariants as reads
use Rattle.wire.specs.declared.packet.Packet.{Packet}
use Rattle.wire.specs.declared.streams.StreamExtent.{StreamExtent}
use Rattle.memtable.specs.declared.cell.Place.{Place}
use Rattle.client.specs.Client.{node_at, next_place}
use Rattle.client.specs.Requests.{is_same}
use Rattle.model_partition.specs.declared.server_context.ServerContext.{ServerContext}
use Rattle.model_partition.specs.declared.waiting.PlaceRead.{PlaceRead}
use Rattle.model_partition.specs.Range.{RangeState, tells}

abbrev pub is_place : Place → Place → Bool
is_place a b = (a.extent == b.extent) && ((a.offset == b.offset) && (a.length == b.length))

-- where bytes stand that begin at an offset of an extent
abbrev pub place_of : ℕ → ℕ → List ℕ → Place
place_of extent offset bytes = record { extent = extent; offset = offset; length = length bytes }

abbrev pub places_in : List StreamExtent → ℕ → Option Nodes
places_in [] e = None
places_in (x ∷ xs) e = if x.extent == e then Some x.places else places_in xs e

-- the replicas of an extent that values, pages and indexes stand in
abbrev pub places_of : RangeState → ℕ → Option Nodes
places_of r e = places_in (r.log.extents ++ (r.blob_data.extents ++ r.rows.extents)) e

abbrev pub reads_place : ServerContext → Nodes → PlaceRead → Packet
reads_place d places read =
    tells d (Node (node_at places read.replica)) (bodies.Read (reads.ReadAt read.place.extent read.place.offset read.place.length read.request))

-- whether a read is out under this number
abbrev pub reads_under : Option PlaceRead → ReqNo → Bool
reads_under None w = false
reads_under (Some read) w = is_same read.request w

-- whether it is that of a page, which a checkpoint merges, and not that of an index
abbrev pub reads_page : Option PlaceRead → Bool
reads_page None = false
reads_page (Some read) = read.page

-- ---- giving up

abbrev pub moved_on : PlaceRead → PlaceRead
moved_on read = record read { replica = next_place read.replica }

abbrev pub asks_again : ServerContext → PlaceRead → Option Nodes → List Packet
asks_again d read None = []
asks_again d read (Some places) = reads_place d places read ∷ []
