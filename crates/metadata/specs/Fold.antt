-- What the records of a range's metadata say together.
use Rattle.std.specs.Prelude.{ℕ, suc, Bool, true, false, ◌&&◌, ◌==◌, nat_lt, List, [], ◌∷◌, reverse, Option, Some, None, if◌then◌else◌}
use Rattle.metadata.specs.declared.record.KeyRange.{KeyRange}
use Rattle.metadata.specs.declared.record.IndexRange.{IndexRange}
use Rattle.metadata.specs.declared.record.Region.{Region}
use Rattle.metadata.specs.declared.record.MetaItem.{MetaItem}
use Rattle.metadata.specs.declared.record.MetaRecord.{MetaRecord}
use Rattle.metadata.specs.declared.record.MetaItem.TheVariants.{Ranges, Checkpoint, Regions, SplitStatus}

-- The range's keys, its indexes with the newest first, the regions of the log that are still to be applied, and the number
-- of the next record. An index or a region counts only within the range's keys.
pub record MetadataState : Type 0 where
  pub keys : KeyRange
  pub indexes : List IndexRange
  pub regions : List Region
  pub next : ℕ

abbrev pub all_keys : KeyRange
all_keys = record { low = []; high = None }

-- before the first record: all keys, no index, and all of the log from the number 1 on
abbrev pub first_metadata : MetadataState
first_metadata =
    record {
      keys = all_keys;
      indexes = [];
      regions = record { start = record { index = 0; offset = 0 }; end = None; next = 1; keys = all_keys } ∷ [];
      next = 1;
    }

-- what a record says; one of regions names the oldest index first
abbrev pub with_item : MetadataState → MetaItem → MetadataState
with_item m (Ranges keys) = record m { keys = keys }
with_item m (Checkpoint combine index position next) =
    record m {
      indexes = record { place = index; keys = m.keys } ∷ (if combine then [] else m.indexes);
      regions = record { start = position; end = None; next = next; keys = m.keys } ∷ [];
    }
with_item m (Regions indexes regions) = record m { indexes = reverse indexes; regions = regions }
with_item m (SplitStatus low high key) = m

-- the record of the next number was taken
abbrev pub taken : MetadataState → MetaItem → MetadataState
taken m item = record (with_item m item) { next = suc m.next }

-- A record of the next number is taken, and one of a number below is passed over; one above comes never, and counts as
-- damage, as does one after which no number of 64 bits is left.
abbrev pub folded : MetadataState → MetaRecord → Option (Bool × MetadataState)
folded m r =
    if nat_lt r.number m.next then Some (false, m)
    else if (r.number == m.next) && nat_lt (suc m.next) 18446744073709551616 then Some (true, taken m r.item)
    else None
