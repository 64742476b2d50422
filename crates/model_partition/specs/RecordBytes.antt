-- The records of the map, as bytes.
use Rattle.std.specs.Prelude.{ℕ, ◌≤◌, List, [], ◌∷◌, ◌++◌, length, Option, Some, None, ◌==◌, if◌then◌else◌}
use Rattle.block_types.specs.Limits.{is_within}
use Rattle.blocks.specs.Format.{◌>>=◌, number_at, pair_at, whole}
use Rattle.blocks.specs.Record.{number}
use Rattle.commitlog.specs.Record.{key_bytes}
use Rattle.commitlog.specs.Reading.{counted_at}
use Rattle.model_partition.specs.declared.map_record.MapRecord.{MapRecord}
use Rattle.model_partition.specs.declared.map_record.MapRecord.TheVariants.{Assign, Renew, BeginSplit, CompleteSplit, BeginMerge, CompleteMerge}

-- a kind and its fields
abbrev pub spelled : MapRecord → List ℕ
spelled (Assign range server until) = 16 ∷ (number 8 range ++ server ∷ number 8 until)
spelled (Renew range until) = 17 ∷ (number 8 range ++ number 8 until)
spelled (BeginSplit range key) = 18 ∷ (number 8 range ++ key_bytes key)
spelled (CompleteSplit range) = 19 ∷ number 8 range
spelled (BeginMerge left right) = 20 ∷ (number 8 left ++ number 8 right)
spelled (CompleteMerge left right) = 21 ∷ (number 8 left ++ number 8 right)

-- a key in it is no longer than one may be
abbrev pub HasShortKey : MapRecord → Type 0
HasShortKey (BeginSplit range key) = length key ≤ 256
HasShortKey r = Unit {0}

-- ---- reading

unfoldable pub assign_at : List ℕ → Option MapRecord
assign_at fields = do
  x ← pair_at (number_at 8) (pair_at (number_at 1) (number_at 8)) fields
  whole (Some (Assign x.0.0 x.0.1.0 x.0.1.1, x.1))

unfoldable pub renew_at : List ℕ → Option MapRecord
renew_at fields = do
  x ← pair_at (number_at 8) (number_at 8) fields
  whole (Some (Renew x.0.0 x.0.1, x.1))

-- a key of 1 to 256 bytes behind its length
unfoldable pub begin_split_at : List ℕ → Option MapRecord
begin_split_at fields = do
  x ← pair_at (number_at 8) (counted_at 2 (is_within 1 256)) fields
  whole (Some (BeginSplit x.0.0 x.0.1, x.1))

unfoldable pub complete_split_at : List ℕ → Option MapRecord
complete_split_at fields = do
  x ← number_at 8 fields
  whole (Some (CompleteSplit x.0, x.1))

unfoldable pub begin_merge_at : List ℕ → Option MapRecord
begin_merge_at fields = do
  x ← pair_at (number_at 8) (number_at 8) fields
  whole (Some (BeginMerge x.0.0 x.0.1, x.1))

unfoldable pub complete_merge_at : List ℕ → Option MapRecord
complete_merge_at fields = do
  x ← pair_at (number_at 8) (number_at 8) fields
  whole (Some (CompleteMerge x.0.0 x.0.1, x.1))

-- by the kind: assignments and renewals, splits, merges
unfoldable pub split_fields_at : ℕ → List ℕ → Option MapRecord
split_fields_at kind fields = if kind == 18 then begin_split_at fields else if kind == 19 then complete_split_at fields else None

unfoldable pub merge_fields_at : ℕ → List ℕ → Option MapRecord
merge_fields_at kind fields = if kind == 20 then begin_merge_at fields else if kind == 21 then complete_merge_at fields else split_fields_at kind fields

unfoldable pub fields_at : ℕ → List ℕ → Option MapRecord
fields_at kind fields = if kind == 16 then assign_at fields else if kind == 17 then renew_at fields else merge_fields_at kind fields

-- the record that these bytes spell, if they spell one
unfoldable pub record_of : List ℕ → Option MapRecord
record_of [] = None
record_of (kind ∷ fields) = fields_at kind fields
