-- Reading records.
use Rattle.std.specs.Prelude.{ℕ, zero, suc, nat_le, List, [], ◌∷◌, Option, Some, None, Bool, ◌==◌}
use Rattle.memtable.specs.declared.cell.Place.{Place}
use Rattle.streams.specs.declared.table.Position.{Position}
use Rattle.blocks.specs.Format.{◌>>=◌, number_at, bytes_at, pair_at, only_at, many_at, whole}
use Rattle.block_types.specs.Limits.{is_within}
use Rattle.metadata.specs.declared.record.KeyRange.{KeyRange}
use Rattle.metadata.specs.declared.record.IndexRange.{IndexRange}
use Rattle.metadata.specs.declared.record.Region.{Region}
use Rattle.metadata.specs.declared.record.MetaItem.{MetaItem}
use Rattle.metadata.specs.declared.record.MetaItem.TheVariants.{Ranges, Checkpoint, Regions, SplitStatus}
use Rattle.metadata.specs.declared.record.MetaRecord.{MetaRecord}

-- a key of at least so many bytes
unfoldable pub text_at : ℕ → List ℕ → Option (List ℕ × List ℕ)
text_at low bytes = do
  n ← only_at (is_within low 256) (number_at 2) bytes
  bytes_at n.0 n.1

unfoldable pub high_behind : ℕ → List ℕ → Option (Option (List ℕ) × List ℕ)
high_behind zero bytes = do
  n ← only_at (is_within 0 0) (number_at 2) bytes
  Some (None, n.1)
high_behind (suc zero) bytes = do
  key ← text_at 1 bytes
  Some (Some key.0, key.1)
high_behind (suc (suc flag)) bytes = None

unfoldable pub high_at : List ℕ → Option (Option (List ℕ) × List ℕ)
high_at bytes = do
  flag ← number_at 1 bytes
  high_behind flag.0 flag.1

unfoldable pub keys_at : List ℕ → Option (KeyRange × List ℕ)
keys_at bytes = do
  x ← pair_at (text_at 0) high_at bytes
  Some (record { low = x.0.0; high = x.0.1 }, x.1)

unfoldable pub place_at : List ℕ → Option (Place × List ℕ)
place_at bytes = do
  x ← pair_at (number_at 8) (pair_at (number_at 4) (number_at 4)) bytes
  Some (record { extent = x.0.0; offset = x.0.1.0; length = x.0.1.1 }, x.1)

unfoldable pub position_at : List ℕ → Option (Position × List ℕ)
position_at bytes = do
  x ← pair_at (number_at 8) (number_at 4) bytes
  Some (record { index = x.0.0; offset = x.0.1 }, x.1)

unfoldable pub flag_at : List ℕ → Option (Bool × List ℕ)
flag_at bytes = do
  n ← only_at (is_within 0 1) (number_at 1) bytes
  Some (n.0 == 1, n.1)

unfoldable pub next_at : List ℕ → Option (ℕ × List ℕ)
next_at = only_at (nat_le 1) (number_at 8)

unfoldable pub index_at : List ℕ → Option (IndexRange × List ℕ)
index_at bytes = do
  x ← pair_at place_at keys_at bytes
  Some (record { place = x.0.0; keys = x.0.1 }, x.1)

unfoldable pub end_behind : ℕ → List ℕ → Option (Option ℕ × List ℕ)
end_behind zero bytes = do
  n ← only_at (is_within 0 0) (number_at 8) bytes
  Some (None, n.1)
end_behind (suc zero) bytes = do
  n ← number_at 8 bytes
  Some (Some n.0, n.1)
end_behind (suc (suc flag)) bytes = None

unfoldable pub end_at : List ℕ → Option (Option ℕ × List ℕ)
end_at bytes = do
  flag ← number_at 1 bytes
  end_behind flag.0 flag.1

unfoldable pub region_at : List ℕ → Option (Region × List ℕ)
region_at bytes = do
  x ← pair_at position_at (pair_at end_at (pair_at next_at keys_at)) bytes
  Some (record { start = x.0.0; end = x.0.1.0; next = x.0.1.1.0; keys = x.0.1.1.1 }, x.1)

-- a count, and so many
unfoldable pub counted_at : {A : Type 0} → (List ℕ → Option (A × List ℕ)) → List ℕ → Option (List A × List ℕ)
counted_at f bytes = do
  n ← number_at 1 bytes
  many_at f n.0 n.1

unfoldable pub ranges_at : List ℕ → Option MetaItem
ranges_at fields = do
  k ← keys_at fields
  whole (Some (Ranges k.0, k.1))

unfoldable pub checkpoint_at : List ℕ → Option MetaItem
checkpoint_at fields = do
  x ← pair_at flag_at (pair_at place_at (pair_at position_at next_at)) fields
  whole (Some (Checkpoint x.0.0 x.0.1.0 x.0.1.1.0 x.0.1.1.1, x.1))

unfoldable pub regions_at : List ℕ → Option MetaItem
regions_at fields = do
  x ← pair_at (counted_at index_at) (counted_at region_at) fields
  whole (Some (Regions x.0.0 x.0.1, x.1))

unfoldable pub status_at : List ℕ → Option MetaItem
status_at fields = do
  x ← pair_at (number_at 8) (pair_at (number_at 8) (text_at 1)) fields
  whole (Some (SplitStatus x.0.0 x.0.1.0 x.0.1.1, x.1))

-- by the kind
unfoldable pub item_at : ℕ → List ℕ → Option MetaItem
item_at (suc zero) fields = ranges_at fields
item_at (suc (suc zero)) fields = checkpoint_at fields
item_at (suc (suc (suc zero))) fields = regions_at fields
item_at (suc (suc (suc (suc zero)))) fields = status_at fields
item_at kind fields = None

-- the record that the bytes are, with nothing left over
unfoldable pub record_at : List ℕ → Option MetaRecord
record_at bytes = do
  n ← next_at bytes
  kind ← number_at 1 n.1
  item ← item_at kind.0 kind.1
  Some (record { number = n.0; item = item })

-- the record that a group is: it has one block
abbrev pub group_at : List (List ℕ) → Option MetaRecord
group_at [] = None
group_at (block ∷ []) = record_at block
group_at (block ∷ other ∷ blocks) = None
