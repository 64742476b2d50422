-- The servers of a run: what they hold, what comes of packets and events to them, and what their loaded tables show.
use Rattle.std.specs.Prelude.{◌≡◌, Bool, ◌⊎◌, ℕ, zero, suc, ◌+◌, ◌-◌, ◌^◌, ◌&&◌, ◌==◌, nat_lt, nat_le, List, [], ◌∷◌, ◌++◌, length, map, take, drop, flat_map, Option, Some, None, option_map, is_some, slice_set, if◌then◌else◌}
use Rattle.block_types.specs.declared.record.Nodes.{Nodes}
use Rattle.wire.specs.declared.body.StreamBody.{StreamBody}
use Rattle.wire.specs.declared.body.StreamBody.TheVariants.{Confirmed}
use Rattle.wire.specs.declared.body.Body.{Body}
use Rattle.wire.specs.declared.body.Body.TheVariants as bodies
use Rattle.wire.specs.declared.note.Note.{Note}
use Rattle.wire.specs.declared.note.Note.TheVariants.{Acked, Content, Seen, Began, Done, Loaded, Got}
use Rattle.wire.specs.declared.packet.Packet.{Packet}
use Rattle.wire.specs.declared.refusal.Refusal.{Refusal}
use Rattle.wire.specs.declared.refusal.Refusal.TheVariants.{NotOwner}
use Rattle.wire.specs.declared.rows.Row.{Row}
use Rattle.replica.specs.Groups.{joined, text}
use Rattle.model_streams.specs.Maps.{entry_at}
use Rattle.model_streams.specs.StreamSystem.{StreamSystem}
use Rattle.memtable.specs.declared.cell.Cell.{Cell}
use Rattle.memtable.specs.declared.cell.Cell.TheVariants.{Deleted, Inline, Placed}
use Rattle.memtable.specs.declared.cell.Place.{Place}
use Rattle.memtable.specs.Entries.{Entries, put_all}
use Rattle.checkpoint_format.specs.declared.index.PageAt.{PageAt}
use Rattle.checkpoint_format.specs.Page.{entries_at}
use Rattle.checkpoint.specs.declared.installed_index.InstalledIndex.{InstalledIndex}
use Rattle.checkpoint.specs.Pages.{IndexContent, merged}
use Rattle.model_partition.specs.declared.shown_table.ShownTable.{ShownTable}
use Rattle.model_partition.specs.declared.shown_table.TableView.{TableView}
use Rattle.model_partition.specs.declared.table_note.TableNote.{TableNote}
use Rattle.model_partition.specs.declared.table_note.TableNote.TheVariants as tables
use Rattle.model_partition.specs.Loading.{shown_table}
use Rattle.model_partition.specs.Range.{RangeState}
use Rattle.model_partition.specs.Server.{ServerState, ServerOutcome, range_of, awaiting, server_rule, moment_rule, give_up_rule, checkpoint_refusal, server_checkpoint, split_refusal, server_split, merge_refusal, server_merge, started}

-- a server: how often it was started, and its state while it runs
pub record ServerCell : Type 0 where
  pub session : ℕ
  pub state : Option ServerState

-- ---- what a loaded table shows

-- the bytes of a place, where these bytes from an offset on cover it
abbrev pub part : ℕ → List ℕ → Place → Option (List ℕ)
part offset bytes place =
    if nat_le offset place.offset && nat_le (place.offset + place.length) (offset + length bytes)
    then Some (take place.length (drop (place.offset - offset) bytes))
    else None

abbrev pub shown_in : Note → Place → Option (List ℕ)
shown_in (Acked e offset group) place = if e == place.extent then part offset (joined group) place else None
shown_in (Content e node groups) place = if e == place.extent then part 0 (text groups) place else None
shown_in (Seen e node offset bytes) place = if e == place.extent then part offset bytes place else None
shown_in note place = None

abbrev pub or_later : Option (List ℕ) → Option (List ℕ) → Option (List ℕ)
or_later None later = later
or_later (Some value) later = Some value

-- what the earliest observation that covers the place shows of it
abbrev pub first_shown : List Note → Place → Option (List ℕ)
first_shown [] place = None
first_shown (note ∷ notes) place = or_later (shown_in note place) (first_shown notes place)

abbrev pub row_if : List ℕ → Option (List ℕ) → List Row
row_if key None = []
row_if key (Some value) = record { key = key; value = value } ∷ []

abbrev pub row_of : List Note → List ℕ → Cell → List Row
row_of notes key Deleted = []
row_of notes key (Inline value) = row_if key (Some value)
row_of notes key (Placed place) = row_if key (first_shown notes place)

-- the rows of these entries
abbrev pub rows_in : List Note → Entries → List Row
rows_in notes entries = flat_map (λ entry. row_of notes entry.0 entry.1) entries

-- the table that is seen where a range has it
abbrev pub table_of_view : TableView → ShownTable
table_of_view view = record { live = view.live.now.entries; indexes = view.indexes.now; keys = view.keys.now }

-- no entries where bytes spell no page
abbrev pub entries_if : Option Entries → Entries
entries_if None = []
entries_if (Some entries) = entries

abbrev pub entries_shown_in : Option (List ℕ) → Entries
entries_shown_in None = []
entries_shown_in (Some bytes) = entries_if (entries_at bytes)

-- what the earliest observation that covers a page shows of its entries
abbrev pub page_shown : List Note → PageAt → Entries
page_shown notes page = entries_shown_in (first_shown notes page.place)

abbrev pub index_shown : List Note → InstalledIndex → IndexContent
index_shown notes x = record { keys = x.keys; entries = flat_map (page_shown notes) x.index.pages }

-- the memory table over the indexes, each within its keys and the range's
abbrev pub entries_shown : List Note → ShownTable → Entries
entries_shown notes table = put_all (merged table.keys (map (index_shown notes) table.indexes)) table.live

-- the rows of this table
abbrev pub rows_of : List Note → ShownTable → List Row
rows_of notes table = rows_in notes (entries_shown notes table)

-- an observation of a server, after these
abbrev pub told : List Note → TableNote → Note
told notes (tables.Began range generation number changes) = Began range generation number changes
told notes (tables.Done range generation number) = Done range generation number
told notes (tables.Loaded range generation table next) = Loaded range generation (rows_of notes table) next
told notes (tables.Got range generation key value) = Got range generation key value

abbrev pub noted : List Note → List TableNote → List Note
noted notes [] = notes
noted notes (note ∷ more) = noted (notes ++ told notes note ∷ []) more

-- these notes have no loaded table
abbrev pub ArePlain : List TableNote → Type 0
ArePlain [] = Unit {0}
ArePlain (tables.Began range generation number changes ∷ notes) = ArePlain notes
ArePlain (tables.Done range generation number ∷ notes) = ArePlain notes
ArePlain (tables.Loaded range generation table next ∷ notes) = ⊥
ArePlain (tables.Got range generation key value ∷ notes) = ArePlain notes

-- one loaded table, which is this one, and nothing else
pub record IsLoad (loading : Option ShownTable) (notes : List TableNote) : Type 0 where
  pub range : ℕ
  pub generation : ℕ
  pub table : ShownTable
  pub next : ℕ
  pub is : notes ≡ tables.Loaded range generation table next ∷ []
  pub from : loading ≡ Some table

-- no loaded table, or this one
abbrev pub ShowsLoad : Option ShownTable → List TableNote → Type 0
ShowsLoad loading notes = ArePlain notes ⊎ IsLoad loading notes

-- what a range shows once it is loaded
abbrev pub range_table : Option RangeState → Option ShownTable
range_table None = None
range_table (Some r) = Some (shown_table r)

abbrev pub table_at : ServerState → Option ℕ → Option ShownTable
table_at s None = None
table_at s (Some range) = range_table (range_of s.ranges range)

-- what the range shows that is confirmed with this packet
abbrev pub loads_by : ServerState → StreamBody → Option ShownTable
loads_by s (Confirmed w) = table_at s (awaiting s.ranges w)
loads_by s body = None

abbrev pub loads : ServerState → Body → Option ShownTable
loads s (bodies.Stream body) = loads_by s body
loads s body = None

abbrev pub cell_loads : Option ServerState → Body → Option ShownTable
cell_loads None body = None
cell_loads (Some s) body = loads s body

abbrev pub server_loads : Option ServerCell → Body → Option ShownTable
server_loads None body = None
server_loads (Some cell) body = cell_loads cell.state body

-- ---- servers

-- a server after a step, and what it sends and shows
pub record CellOutcome : Type 0 where
  pub cell : ServerCell
  pub packets : List Packet
  pub notes : List TableNote

abbrev pub cell_rests : ServerCell → CellOutcome
cell_rests cell = record { cell = cell; packets = []; notes = [] }

abbrev pub cell_performs : ServerCell → ServerOutcome → CellOutcome
cell_performs cell o = record { cell = record cell { state = Some o.after }; packets = o.packets; notes = o.notes }

-- nothing comes of a packet to a server that has stopped
abbrev pub cell_takes : ServerCell → Packet → Option ServerState → CellOutcome
cell_takes cell p None = cell_rests cell
cell_takes cell p (Some server) = cell_performs cell (server_rule server p p.body)

abbrev pub cell_given_up : ServerCell → Option ServerOutcome → CellOutcome
cell_given_up cell None = cell_rests cell
cell_given_up cell (Some o) = cell_performs cell o

abbrev pub cell_gives_up : ServerCell → ℕ → Nodes → Option ServerState → CellOutcome
cell_gives_up cell range pick None = cell_rests cell
cell_gives_up cell range pick (Some server) = cell_given_up cell (give_up_rule server range pick)

-- why a server refuses to give up: it does not hold the range
abbrev pub give_up_fault : ℕ → Nodes → Option ServerState → Option Refusal
give_up_fault range pick None = None
give_up_fault range pick (Some server) = if is_some (give_up_rule server range pick) then None else Some NotOwner

abbrev pub cell_checkpoints : ServerCell → ℕ → Bool → Option ServerState → CellOutcome
cell_checkpoints cell range combine None = cell_rests cell
cell_checkpoints cell range combine (Some server) = cell_performs cell (server_checkpoint server range combine)

-- why a server makes no checkpoint of a range
abbrev pub checkpoint_fault_of : ℕ → Option ServerState → Option Refusal
checkpoint_fault_of range None = None
checkpoint_fault_of range (Some server) = checkpoint_refusal server range

abbrev pub cell_splits : ServerCell → ℕ → List ℕ → Option ServerState → CellOutcome
cell_splits cell range key None = cell_rests cell
cell_splits cell range key (Some server) = cell_performs cell (server_split server range key)

-- why a server begins no split of a range
abbrev pub split_fault_of : ℕ → List ℕ → Option ServerState → Option Refusal
split_fault_of range key None = None
split_fault_of range key (Some server) = split_refusal server range key

abbrev pub cell_merges : ServerCell → ℕ → ℕ → Option ServerState → CellOutcome
cell_merges cell left right None = cell_rests cell
cell_merges cell left right (Some server) = cell_performs cell (server_merge server left right)

-- why a server begins no merge of two ranges
abbrev pub merge_fault_of : ℕ → ℕ → Option ServerState → Option Refusal
merge_fault_of left right None = None
merge_fault_of left right (Some server) = merge_refusal server left right

-- a server has no device: it stops at once, or not at all
abbrev pub cell_stops : ℕ → ServerCell → ServerCell
cell_stops call cell = if call == 0 then record cell { state = None } else cell

-- the nodes that a server's new extents are made on, until it is told others
abbrev pub first_pick : Nodes
first_pick = record { primary = 1; second = 2; third = 3 }

-- a server that has stopped starts, under a number of its own
abbrev pub cell_starts : ℕ → ℕ → ℕ → ServerCell → Option ServerState → ServerCell
cell_starts s now batch cell (Some server) = cell
cell_starts s now batch cell None =
    if nat_lt (suc cell.session) (2 ^ 64)
    then record { session = suc cell.session; state = Some (started s (suc cell.session) now first_pick batch) }
    else cell

-- all servers after a step of one, and what it sends and shows
pub record ServersOutcome : Type 0 where
  pub servers : List ServerCell
  pub packets : List Packet
  pub notes : List TableNote

-- what the server of a number does; nothing where there is none
abbrev pub at_server : List ServerCell → ℕ → (ServerCell → CellOutcome) → Option ServerCell → ServersOutcome
at_server servers s rule None = record { servers = servers; packets = []; notes = [] }
at_server servers s rule (Some cell) =
    record { servers = slice_set servers (s - 1) (rule cell).cell; packets = (rule cell).packets; notes = (rule cell).notes }

abbrev pub server_takes : List ServerCell → ℕ → Packet → ServersOutcome
server_takes servers s p = at_server servers s (λ cell. cell_takes cell p cell.state) (entry_at servers s)

abbrev pub server_gives_up : List ServerCell → ℕ → ℕ → Nodes → ServersOutcome
server_gives_up servers s range pick = at_server servers s (λ cell. cell_gives_up cell range pick cell.state) (entry_at servers s)

abbrev pub server_checkpoints : List ServerCell → ℕ → ℕ → Bool → ServersOutcome
server_checkpoints servers s range combine = at_server servers s (λ cell. cell_checkpoints cell range combine cell.state) (entry_at servers s)

abbrev pub server_splits : List ServerCell → ℕ → ℕ → List ℕ → ServersOutcome
server_splits servers s range key = at_server servers s (λ cell. cell_splits cell range key cell.state) (entry_at servers s)

abbrev pub server_merges : List ServerCell → ℕ → ℕ → ℕ → ServersOutcome
server_merges servers s left right = at_server servers s (λ cell. cell_merges cell left right cell.state) (entry_at servers s)

abbrev pub server_stops : List ServerCell → ℕ → ℕ → ServersOutcome
server_stops servers s call = at_server servers s (λ cell. cell_rests (cell_stops call cell)) (entry_at servers s)

abbrev pub server_starts : List ServerCell → ℕ → ℕ → ℕ → ServersOutcome
server_starts servers s now batch = at_server servers s (λ cell. cell_rests (cell_starts s now batch cell cell.state)) (entry_at servers s)

-- what servers send and show
abbrev pub with_told : StreamSystem → List Packet → List TableNote → StreamSystem
with_told w packets notes = record w { post = w.post ++ packets; notes = noted w.notes notes }

-- ---- the clock

abbrev pub told_moment : ℕ → ServerCell → ServerCell
told_moment now cell = record cell { state = option_map (λ server. moment_rule server now) cell.state }

abbrev pub give_up_refusal : ℕ → Nodes → Option ServerCell → Option Refusal
give_up_refusal range pick None = None
give_up_refusal range pick (Some cell) = give_up_fault range pick cell.state

abbrev pub checkpoint_refusal_at : ℕ → Option ServerCell → Option Refusal
checkpoint_refusal_at range None = None
checkpoint_refusal_at range (Some cell) = checkpoint_fault_of range cell.state

abbrev pub split_refusal_at : ℕ → List ℕ → Option ServerCell → Option Refusal
split_refusal_at range key None = None
split_refusal_at range key (Some cell) = split_fault_of range key cell.state

abbrev pub merge_refusal_at : ℕ → ℕ → Option ServerCell → Option Refusal
merge_refusal_at left right None = None
merge_refusal_at left right (Some cell) = merge_fault_of left right cell.state

-- a server that runs, at its first start
abbrev pub first_server : ℕ → ℕ → ServerCell
first_server batch s = record { session = 1; state = Some (started s 1 0 first_pick batch) }

abbrev pub first_servers : ℕ → ℕ → ℕ → List ServerCell
first_servers batch s zero = []
first_servers batch s (suc more) = first_server batch s ∷ first_servers batch (suc s) more
