-- Where the observations of each extent stand among all observations.
use Rattle.std.specs.Prelude.{◌≡◌, ◌≤◌, ℕ, suc, Bool, false, ◌==◌, List, [], ◌∷◌, ◌++◌, length, take, Option, None, Some, slice_get, if◌then◌else◌}
use Rattle.std.specs.BTreeMap.{is_at}
use Rattle.std.specs.Map.{lookup}
use Rattle.std.specs.Ordering.{nat_cmp}
use Rattle.wire.specs.declared.note.Note.{Note}
use Rattle.wire.specs.declared.note.Note.TheVariants.{Acked, Content, Seen}
use Rattle.memtable.specs.declared.cell.Place.{Place}
use Rattle.model_partition.specs.Servers.{shown_in, or_later}

-- whether an observation shows bytes of an extent
abbrev pub is_of : ℕ → Note → Bool
is_of e (Acked extent offset group) = extent == e
is_of e (Content extent node groups) = extent == e
is_of e (Seen extent node offset bytes) = extent == e
is_of e note = false

abbrev pub is_number : ℕ → Option ℕ → Bool
is_number e None = false
is_number e (Some extent) = extent == e

abbrev pub place_if : Bool → ℕ → List ℕ
place_if is at = if is then at ∷ [] else []

-- the places of the observations of an extent, in order, where the first of all stands at this place
abbrev pub places_from : ℕ → ℕ → List Note → List ℕ
places_from e at [] = []
places_from e at (note ∷ notes) = place_if (is_of e note) at ++ places_from e (suc at) notes

abbrev pub some_places : Option (List ℕ) → List ℕ
some_places None = []
some_places (Some places) = places

-- the places of an extent, among entries of a map
abbrev pub places_in : List (ℕ × List ℕ) → ℕ → List ℕ
places_in entries e = some_places (lookup (is_at (nat_cmp e)) entries)

-- how many observations are indexed, and the places of those of each extent
pub record Index : Type 0 where
  pub count : ℕ
  pub places : List (ℕ × List ℕ)

-- the index is one of these observations: for each extent it has the places of all that show bytes of it
pub record IsIndex (notes : List Note) (index : Index) : Type 0 where
  pub count : index.count ≡ length notes
  pub each : (e : ℕ) → places_in index.places e ≡ places_from e 0 notes

-- the index is one of the first of these observations
pub record IsIndexOfFirst (notes : List Note) (index : Index) : Type 0 where
  pub within : index.count ≤ length notes
  pub first : IsIndex (take index.count notes) index

abbrev pub shown_if : Option Note → Place → Option (List ℕ)
shown_if None place = None
shown_if (Some note) place = shown_in note place

-- what the observation at this place shows
abbrev pub shown_at : List Note → ℕ → Place → Option (List ℕ)
shown_at notes at place = shown_if (slice_get notes at) place

-- what the first of the observations at these places that covers the place shows of it
abbrev pub first_at : List Note → List ℕ → Place → Option (List ℕ)
first_at notes [] place = None
first_at notes (at ∷ more) place = or_later (shown_at notes at place) (first_at notes more place)
