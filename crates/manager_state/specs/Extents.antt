-- Extents as the table keeps them: entries without lengths, and the lengths of those that are sealed.
use Rattle.std.specs.Prelude.{◌≡◌, ℕ, suc, List, [], ◌∷◌, ◌++◌, Option, Some, None}
use Rattle.block_types.specs.declared.record.Nodes.{Nodes}
use Rattle.streams.specs.Streams.{Stream}
use Rattle.model_streams.specs.declared.extent.Extent.{Extent}
use Rattle.model_streams.specs.Maps.{entry_at}
use Rattle.model_streams.specs.Manager.{unheard}
use Rattle.manager_state.specs.declared.entry.ExtentEntry.{ExtentEntry}

-- of which no place has told anything
abbrev pub new_entry : Nodes → ℕ → ExtentEntry
new_entry places fence = record { places = places; fence = fence; primary = unheard; second = unheard; third = unheard; asker = None }

abbrev pub without_length : Extent → ExtentEntry
without_length x = record { places = x.places; fence = x.fence; primary = x.primary; second = x.second; third = x.third; asker = x.asker }

-- with its length, where it is sealed
abbrev pub with_length : ExtentEntry → Option ℕ → Extent
with_length y sealed =
    record { places = y.places; fence = y.fence; sealed = sealed; primary = y.primary; second = y.second; third = y.third; asker = y.asker }

-- the extents of entries that are numbered from this number on
abbrev pub extents_from : ℕ → List ExtentEntry → (ℕ → Option ℕ) → List Extent
extents_from n [] lengths = []
extents_from n (y ∷ entries) lengths = with_length y (lengths n) ∷ extents_from (suc n) entries lengths

-- only extents that there are have a length
abbrev pub HaveLengths : List ExtentEntry → (ℕ → Option ℕ) → Type 0
HaveLengths entries lengths = (e : ℕ) → entry_at entries e ≡ None → lengths e ≡ None

abbrev pub longer_entries : List ExtentEntry → Option Stream → Nodes → List ExtentEntry
longer_entries entries None pick = entries
longer_entries entries (Some x) pick = entries ++ new_entry pick x.fence ∷ []
