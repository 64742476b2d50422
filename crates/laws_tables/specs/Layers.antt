-- Layers of a memory table: what a newer one says of a key hides what an older one says.
use Rattle.std.specs.Prelude.{List, [], ◌∷◌, Option, Some, None, if◌then◌else◌, bytes_eq, is_some}
use Rattle.wire.specs.declared.transaction.Change.{Change}
use Rattle.memtable.specs.declared.cell.Place.{Place}
use Rattle.metadata.specs.declared.record.KeyRange.{KeyRange}
use Rattle.metadata.specs.declared.record.IndexRange.{IndexRange}
use Rattle.metadata.specs.Keys.{within}
use Rattle.model_partition.specs.Past.{Bytes, Transaction}

-- what is known of each key: nothing, that it was deleted, or its value
abbrev pub Layer : Type 0
Layer = Bytes → Option (Option Bytes)

abbrev pub empty_layer : Layer
empty_layer key = None

abbrev pub over : Layer → Layer → Layer
over newer older key = if is_some (newer key) then newer key else older key

-- the value that is stored, where this is known
abbrev pub flat : Option (Option Bytes) → Option Bytes
flat None = None
flat (Some value) = value

abbrev pub limited : KeyRange → Layer → Layer
limited keys layer key = if within keys key then layer key else None

-- what indexes say, the newest first, each within its keys; layer_at: what the pages of the index at a place say
abbrev pub indexed : (Place → Layer) → List IndexRange → Layer
indexed layer_at [] key = None
indexed layer_at (index ∷ older) key = over (limited index.keys (layer_at index.place)) (indexed layer_at older) key

-- ---- changes

abbrev pub layer_change : Change → Layer → Layer
layer_change change layer = λ key. if bytes_eq key change.key then Some change.value else layer key

abbrev pub layer_transaction : Transaction → Layer → Layer
layer_transaction [] layer = layer
layer_transaction (change ∷ changes) layer = layer_transaction changes (layer_change change layer)

abbrev pub layer_line : List Transaction → Layer → Layer
layer_line [] layer = layer
layer_line (t ∷ ts) layer = layer_line ts (layer_transaction t layer)
