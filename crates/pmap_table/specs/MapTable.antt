-- The table of the map, and what its changes need.
use Rattle.std.specs.Prelude.{◌≡◌, ℕ, zero, suc, ◌^◌, true, false, ◌==◌, nat_lt, List, [], ◌∷◌, Option, Some, None, option_and_then, if◌then◌else◌}
use Rattle.model_partition.specs.declared.map_record.MapRecord.{MapRecord}
use Rattle.model_partition.specs.declared.map_record.MapRecord.TheVariants as records
use Rattle.model_partition.specs.declared.pending.Pending.{Pending}
use Rattle.model_partition.specs.declared.pending.Pending.TheVariants as pendings
use Rattle.model_partition.specs.declared.range_entry.RangeEntry.{RangeEntry}
use Rattle.model_partition.specs.Map.{MapState, range_at}

-- the map, and how many ranges may be added without memory
pub record MapTable : Type 0 where
  pub map : MapState
  pub room : ℕ

-- the first range of a number stands at this place
abbrev pub IsPlaceOf : List RangeEntry → ℕ → ℕ → Type 0
IsPlaceOf [] range place = ⊥
IsPlaceOf (r ∷ rs) range zero = (r.range == range) ≡ true
IsPlaceOf (r ∷ rs) range (suc place) = ((r.range == range) ≡ false) × IsPlaceOf rs range place

-- the next generation, where one of 64 bits is left
abbrev pub next_generation : ℕ → Option ℕ
next_generation generation = if nat_lt (suc generation) (2 ^ 64) then Some (suc generation) else None

-- the key of a split that is pending
abbrev pub split_key : Option Pending → Option (List ℕ)
split_key (Some (pendings.Split key low high)) = Some key
split_key pending = None

-- the key that both halves of a split have, of which one more is needed
abbrev pub copied_key : MapState → MapRecord → Option (List ℕ)
copied_key m (records.CompleteSplit range) = option_and_then (λ r. split_key r.pending) (range_at m.ranges range)
copied_key m new_record = None

-- how many ranges more a record leaves
abbrev pub needed_room : MapRecord → ℕ
needed_room (records.CompleteSplit range) = 1
needed_room new_record = 0
