-- Gets: a key is looked up in the memory table and then in the indexes, and a page or a value that is not held is read first.
use Rattle.std.specs.Prelude.{ℕ, suc, ◌-◌, Bool, true, false, not, ◌&&◌, nat_le, List, [], ◌∷◌, ◌++◌, length, map, flat_map, filter, Option, Some, None, is_some, slice_get, slice_set, if◌then◌else◌}
use Rattle.block_types.specs.declared.record.Nodes.{Nodes}
use Rattle.wire.specs.declared.actor.ActorId.{ActorId}
use Rattle.wire.specs.declared.actor.ReqNo.{ReqNo}
use Rattle.wire.specs.declared.body.Body.TheVariants as bodies
use Rattle.wire.specs.declared.body.TableBody.TheVariants as tables
use Rattle.wire.specs.declared.packet.Packet.{Packet}
use Rattle.wire.specs.declared.refusal.Refusal.{Refusal}
use Rattle.wire.specs.declared.refusal.Refusal.TheVariants as refusals
use Rattle.model_streams.specs.Outcome.{first_met}
use Rattle.memtable.specs.declared.cell.Cell.{Cell}
use Rattle.memtable.specs.declared.cell.Cell.TheVariants.{Deleted, Inline, Placed}
use Rattle.memtable.specs.declared.cell.Place.{Place}
use Rattle.client.specs.declared.job.Place.TheVariants.{First}
use Rattle.client.specs.Requests.{is_same}
use Rattle.checkpoint_format.specs.Page.{entries_at}
use Rattle.checkpoint.specs.declared.installed_index.InstalledIndex.{InstalledIndex}
use Rattle.checkpoint.specs.declared.page_lookup.Lookup.{Lookup as Indexed}
use Rattle.checkpoint.specs.declared.page_lookup.Lookup.TheVariants.{Found, Absent, Need}
use Rattle.checkpoint.specs.Lookup.{page_for, looked_up}
use Rattle.model_partition.specs.declared.table_note.TableNote.{TableNote}
use Rattle.model_partition.specs.declared.table_note.TableNote.TheVariants.{Got}
use Rattle.model_partition.specs.declared.waiting.PlaceRead.{PlaceRead}
use Rattle.model_partition.specs.declared.waiting.WaitingGet.{WaitingGet}
use Rattle.lru.specs.LruCache.{lru_cache, put_entries, promoted}
use Rattle.metadata.specs.Keys.{within}
use Rattle.memtable.specs.Entries.{found}
use Rattle.memtable.specs.Layers.{found_in, or_else}
use Rattle.model_partition.specs.declared.server_context.ServerContext.{ServerContext}
use Rattle.model_partition.specs.Range.{RangeState, RangeOutcome, request, tells, refuses, answers, if_there, is_serving, is_paused}
use Rattle.model_partition.specs.PlaceReads.{is_place, places_of, reads_place, moved_on, asks_again}
use Rattle.model_partition.specs.Serving.{is_key, lease_ended}

-- ---- the look-up

-- what a look-up gives: a value or none, or the place of a page or of a value that is to be read
pub data Lookup : Type 0 where
  Is : (value : Option (List ℕ)) → Lookup
  Needs : (page : Bool) (place : Place) → Lookup

abbrev pub held_at : List (Place × List ℕ) → Place → Option (List ℕ)
held_at [] place = None
held_at (x ∷ xs) place = if is_place place x.0 then Some x.1 else held_at xs place

abbrev pub or_needs : Place → Option (List ℕ) → Lookup
or_needs place None = Needs false place
or_needs place (Some value) = Is (Some value)

abbrev pub value_in : List (Place × List ℕ) → Cell → Lookup
value_in held Deleted = Is None
value_in held (Inline value) = Is (Some value)
value_in held (Placed place) = or_needs place (held_at held place)

abbrev pub indexed_value : List (Place × List ℕ) → Indexed → Lookup
indexed_value held (Found cell) = value_in held cell
indexed_value held Absent = Is None
indexed_value held (Need place) = Needs true place

-- the cell of the memory table, or else what the indexes say
abbrev pub look : List (Place × List ℕ) → List InstalledIndex → List ℕ → Option Cell → Lookup
look held indexes key None = indexed_value held (looked_up (held_at held) indexes key)
look held indexes key (Some cell) = value_in held cell

-- in the newer layer, then in the older
abbrev pub standing : RangeState → List ℕ → Option Cell
standing r key = or_else (found r.live key) (found_in r.fixed key)

-- ---- what is held, the most recently used first

abbrev pub Held : Type 0
Held = List (Place × List ℕ)

-- how many pages and values are held at most
abbrev pub most_held : ℕ
most_held = 1024

-- what is held at a place goes to the front
abbrev pub used_place : Held → Place → Held
used_place held place = promoted (is_place place) held

-- the value of a cell is used
abbrev pub used : Held → Option Cell → Held
used held (Some (Placed place)) = used_place held place
used held cell = held

-- in this order
abbrev pub used_all : Held → List Place → Held
used_all held [] = held
used_all held (place ∷ places) = used_all (used_place held place) places

-- the page of an index that may have a key
abbrev pub pages_in : List ℕ → InstalledIndex → List Place
pages_in key x = if within x.keys key then if_there (page_for x.index.pages key) else []

-- the pages that may have a key, one of each index within whose keys it is, the newest first
abbrev pub pages_of_key : List InstalledIndex → List ℕ → List Place
pages_of_key indexes key = flat_map (pages_in key) indexes

abbrev pub found_cell : Indexed → Option Cell
found_cell (Found cell) = Some cell
found_cell Absent = None
found_cell (Need place) = None

-- A Get uses the value that it finds, and where the memory table does not have its key, the pages that may have it.
abbrev pub used_for : Held → List InstalledIndex → List ℕ → Option Cell → Held
used_for held indexes key None = used (used_all held (pages_of_key indexes key)) (found_cell (looked_up (held_at held) indexes key))
used_for held indexes key (Some cell) = used held (Some cell)

abbrev pub is_asked : Place → Option PlaceRead → Bool
is_asked place None = false
is_asked place (Some read) = is_place place read.place

-- Bytes of a place have come for a read, if it is known. Where they are what was asked for they go to the front,
-- and the last goes where so many are held.
abbrev pub came : Held → Option PlaceRead → Place → List ℕ → Held
came held asked place bytes = if is_asked place asked then put_entries is_place (lru_cache held most_held) place bytes else held

-- ---- one try

-- the Gets that still wait, the number of the next request, the packets, and the observations
pub record Tried : Type 0 where
  pub waiting : List WaitingGet
  pub count : ℕ
  pub packets : List Packet
  pub notes : List TableNote

abbrev pub asks_place : ServerContext → WaitingGet → Bool → Place → Option Nodes → Tried
asks_place d g page place None = record { waiting = g ∷ []; count = d.count; packets = []; notes = [] }
asks_place d g page place (Some places) =
    let read : PlaceRead = record { request = request d; place = place; page = page; replica = First } in
    record { waiting = record g { reads = g.reads ++ read ∷ [] } ∷ []; count = suc d.count; packets = reads_place d places read ∷ []; notes = [] }

-- what is answered is shown
abbrev pub answered : ServerContext → RangeState → WaitingGet → Lookup → Tried
answered d r g (Is value) =
    record {
      waiting = [];
      count = d.count;
      packets = tells d g.from (bodies.Table (tables.Value g.request value)) ∷ [];
      notes = Got r.load.range r.load.generation g.key value ∷ [];
    }
answered d r g (Needs page place) = asks_place d g page place (places_of r place.extent)

-- why a Get that waits is answered no more
abbrev pub try_fault : ServerContext → RangeState → Option Refusal
try_fault d r = first_met ((refusals.Paused, is_paused r.pause) ∷ (refusals.LeaseEnded, lease_ended d r) ∷ [])

abbrev pub try_unless : ServerContext → RangeState → WaitingGet → Option Refusal → Tried
try_unless d r g (Some refusal) = record { waiting = []; count = d.count; packets = refuses d g.from g.request refusal ∷ []; notes = [] }
try_unless d r g None = answered d r g (look r.held r.indexes g.key (standing r g.key))

-- A Get is tried: refused where the range is paused or the lease has ended, else answered, or one more read is sent for what is
-- missing.
abbrev pub try : ServerContext → RangeState → WaitingGet → Tried
try d r g = try_unless d r g (try_fault d r)

-- each in turn
abbrev pub try_all : ServerContext → RangeState → List WaitingGet → Tried
try_all d r [] = record { waiting = []; count = d.count; packets = []; notes = [] }
try_all d r (g ∷ gs) =
    let one = try d r g in
    let others = try_all (record d { count = one.count }) r gs in
    record { waiting = one.waiting ++ others.waiting; count = others.count; packets = one.packets ++ others.packets; notes = one.notes ++ others.notes }

-- ---- a Get

abbrev pub get_fault : ServerContext → RangeState → List ℕ → Option Refusal
get_fault d r key =
    first_met (
    (refusals.Loading, not (is_serving r.stage))
    ∷ (refusals.Paused, is_paused r.pause)
    ∷ (refusals.LeaseEnded, lease_ended d r)
    ∷ (refusals.BadKey, not (is_key key))
    ∷ (refusals.OutOfRange, not (within r.said.keys key))
    ∷ (refusals.Busy, nat_le 256 (length r.gets))
    ∷ [])

abbrev pub gets_after : RangeState → List WaitingGet → Tried → RangeOutcome
gets_after r before tried =
    record { after = Some (record r { gets = before ++ tried.waiting }); count = tried.count; packets = tried.packets; notes = tried.notes }

-- what serves it is used
abbrev pub gets : ServerContext → RangeState → ActorId → ReqNo → List ℕ → Option Refusal → RangeOutcome
gets d r from q key (Some refusal) = answers d r (refuses d from q refusal ∷ [])
gets d r from q key None =
    gets_after (record r { held = used_for r.held r.indexes key (standing r key) }) r.gets (try d r (record { from = from; request = q; key = key; reads = [] }))

abbrev pub get_rule : ServerContext → RangeState → ActorId → ReqNo → List ℕ → RangeOutcome
get_rule d r from q key = gets d r from q key (get_fault d r key)

-- ---- bytes that were read

abbrev pub read_in : List PlaceRead → ReqNo → Option PlaceRead
read_in [] w = None
read_in (read ∷ reads) w = if is_same read.request w then Some read else read_in reads w

abbrev pub or_read : Option PlaceRead → Option PlaceRead → Option PlaceRead
or_read None other = other
or_read (Some read) other = Some read

-- the read of this number
abbrev pub read_at : List WaitingGet → ReqNo → Option PlaceRead
read_at [] w = None
read_at (g ∷ gs) w = or_read (read_in g.reads w) (read_at gs w)

abbrev pub is_page : List ℕ → Bool
is_page bytes = is_some (entries_at bytes)

-- a page was asked for, and the bytes spell none
abbrev pub are_no_page : Option PlaceRead → List ℕ → Bool
are_no_page None bytes = false
are_no_page (Some read) bytes = read.page && not (is_page bytes)

-- a read that was answered is no longer waited for
abbrev pub without : ReqNo → WaitingGet → WaitingGet
without w g = record g { reads = filter (λ read. not (is_same read.request w)) g.reads }

-- The bytes of a read have come: each waiting Get is tried again, with them. These tries use nothing.
abbrev pub bytes_come : ServerContext → RangeState → ReqNo → Place → List ℕ → RangeOutcome
bytes_come d r w place bytes =
    let now : RangeState = record r { held = came r.held (read_at r.gets w) place bytes } in
    gets_after now [] (try_all d now (map (without w) r.gets))

-- bytes that spell no page where one is wanted change nothing, and the read is still waited for
abbrev pub bytes_rule : ServerContext → RangeState → ReqNo → Place → List ℕ → RangeOutcome
bytes_rule d r w place bytes = if are_no_page (read_at r.gets w) bytes then answers d r [] else bytes_come d r w place bytes

-- ---- giving up

abbrev pub gives_up_read : ServerContext → RangeState → WaitingGet → Option PlaceRead → WaitingGet × List Packet
gives_up_read d r g None = (g, [])
gives_up_read d r g (Some read) =
    (record g { reads = slice_set g.reads (length g.reads - 1) (moved_on read) }, asks_again d (moved_on read) (places_of r read.place.extent))

-- the last read of a Get goes to the next place of its extent, with its number
abbrev pub gives_up_get : ServerContext → RangeState → WaitingGet → WaitingGet × List Packet
gives_up_get d r g = gives_up_read d r g (slice_get g.reads (length g.reads - 1))
