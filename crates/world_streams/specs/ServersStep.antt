-- What servers and the map add to the stream layer.
use Rattle.std.specs.Prelude.{◌≡◌, ◌⊎◌, ◌++◌, ℕ, List, [], ◌∷◌}
use Rattle.wire.specs.declared.note.Note.{Note}
use Rattle.wire.specs.declared.note.Note.TheVariants as notes
use Rattle.wire.specs.declared.packet.Packet.{Packet}
use Rattle.wire.specs.declared.rows.Row.{Row}
use Rattle.model_partition.specs.declared.shown_table.ShownTable.{ShownTable}
use Rattle.model_partition.specs.declared.table_note.TableNote.{TableNote}
use Rattle.model_partition.specs.declared.table_note.TableNote.TheVariants as tables
use Rattle.model_partition.specs.Servers.{ArePlain, ServerCell, ServersOutcome, noted, rows_of}
use Rattle.world_streams.specs.StreamLayer.{StreamLayerState}

-- the layer with what servers send and show
abbrev pub with_sent : StreamLayerState → List Packet → List TableNote → StreamLayerState
with_sent r packets notes = record r { post = r.post ++ packets; notes = noted r.notes notes }

-- the layer and the servers after a step of the servers
pub record AfterServers (r x : StreamLayerState) (servers : List ServerCell) (o : ServersOutcome) : Type 0 where
  pub stream_layer : x ≡ with_sent r o.packets o.notes
  pub servers_are : servers ≡ o.servers

-- one loaded table with these rows, and nothing else
pub record IsLoadOf (shown : List Note) (rows : List Row) (more : List TableNote) : Type 0 where
  pub range : ℕ
  pub generation : ℕ
  pub table : ShownTable
  pub next : ℕ
  pub is : more ≡ tables.Loaded range generation table next ∷ []
  pub rows_are : rows ≡ rows_of shown table

-- no loaded table, or one with these rows
abbrev pub ShowsRows : List Note → List Row → List TableNote → Type 0
ShowsRows shown rows more = ArePlain more ⊎ IsLoadOf shown rows more

-- the observation that a server makes, with these rows where it is of a loaded table
abbrev pub told_with : TableNote → List Row → Note
told_with (tables.Began range generation number changes) rows = notes.Began range generation number changes
told_with (tables.Done range generation number) rows = notes.Done range generation number
told_with (tables.Loaded range generation table next) rows = notes.Loaded range generation rows next
told_with (tables.Got range generation key value) rows = notes.Got range generation key value

-- the layer with what the map sends and shows
abbrev pub with_told_by_map : StreamLayerState → List Packet → List Note → StreamLayerState
with_told_by_map r packets notes = record r { post = r.post ++ packets; notes = r.notes ++ notes }

-- the layer with what the map sends and shows in a step, of which this holds
pub record AfterMap (r x : StreamLayerState) (steps : List Packet → List Note → Type 0) : Type 0 where
  pub packets : List Packet
  pub notes : List Note
  pub stream_layer : x ≡ with_told_by_map r packets notes
  pub steps_are : steps packets notes
