-- Reading a record.
use Rattle.std.specs.Prelude.{ℕ, zero, suc, ◌+◌, ◌-◌, ◌^◌, min, Bool, ◌&&◌, nat_le, nat_lt, List, [], ◌∷◌, ◌++◌, length, Option, Some, None, ◌==◌, if◌then◌else◌}
use Rattle.wire.specs.declared.transaction.Change.{Change}
use Rattle.blocks.specs.Format.{◌>>=◌, number_at, bytes_at, pair_at, only_at, many_at, whole}
use Rattle.block_types.specs.Limits.{is_within}
use Rattle.commitlog.specs.declared.log_record.LogRecord.{LogRecord}
use Rattle.commitlog.specs.declared.text_cell.TextCell.{TextCell}
use Rattle.commitlog.specs.declared.text_cell.TextCell.TheVariants.{Deleted, Inline, Large}
use Rattle.commitlog.specs.Record.{piece_count}

-- ---- the text

-- a length of w bytes that passes the test, and so many bytes
unfoldable pub counted_at : ℕ → (ℕ → Bool) → List ℕ → Option (List ℕ × List ℕ)
counted_at w test bytes = do
  n ← only_at test (number_at w) bytes
  bytes_at n.0 n.1

abbrev pub is_small : ℕ → Bool
is_small n = nat_le n 4096

unfoldable pub large_at : List ℕ → Option ((ℕ × ℕ) × List ℕ)
large_at = pair_at (number_at 1) (only_at (is_within 4097 65536) (number_at 4))

-- by the kind
unfoldable pub fields_at : ℕ → List ℕ → Option (TextCell × List ℕ)
fields_at zero rest = Some (Deleted, rest)
fields_at (suc zero) rest = counted_at 4 is_small rest >>= λ v. Some (Inline v.0, v.1)
fields_at (suc (suc zero)) rest = large_at rest >>= λ x. Some (Large x.0.0 x.0.1, x.1)
fields_at kind rest = None

unfoldable pub cell_at : List ℕ → Option (TextCell × List ℕ)
cell_at [] = None
cell_at (kind ∷ rest) = fields_at kind rest

unfoldable pub change_at : List ℕ → Option ((List ℕ × TextCell) × List ℕ)
change_at = pair_at (counted_at 2 (is_within 1 256)) cell_at

unfoldable pub transaction_at : List ℕ → Option (List (List ℕ × TextCell) × List ℕ)
transaction_at bytes = do
  n ← only_at (is_within 1 32) (number_at 1) bytes
  many_at change_at n.0 n.1

unfoldable pub transactions_at : List ℕ → Option (List (List (List ℕ × TextCell)) × List ℕ)
transactions_at bytes = do
  n ← only_at (is_within 1 1024) (number_at 2) bytes
  many_at transaction_at n.0 n.1

-- numbers from 1 on, the last of them below 2 ^ 64 - 1
abbrev pub is_numbered : ℕ × List (List (List ℕ × TextCell)) → Bool
is_numbered x = nat_le 1 x.0 && nat_lt (x.0 + length x.1) (2 ^ 64)

unfoldable pub body_at : List ℕ → Option ((ℕ × List (List (List ℕ × TextCell))) × List ℕ)
body_at = only_at is_numbered (pair_at (number_at 8) transactions_at)

unfoldable pub text_at : List ℕ → Option (ℕ × List (List (List ℕ × TextCell)))
text_at bytes = do
  n ← only_at (λ n. n == length bytes) (number_at 4) bytes
  x ← body_at n.1
  whole (Some (x.0, x.1))

-- ---- the blocks

-- a block that is full, or has the rest of so many bytes
abbrev pub piece_at : ℕ → ℕ → List (List ℕ) → Option (List ℕ × List (List ℕ))
piece_at full size [] = None
piece_at full size (b ∷ blocks) = if length b == min full size then Some (b, blocks) else None

-- so many bytes in n pieces, and the blocks after them
abbrev pub joined : ℕ → ℕ → ℕ → List (List ℕ) → Option (List ℕ × List (List ℕ))
joined full zero size blocks = Some ([], blocks)
joined full (suc n) size blocks = piece_at full size blocks >>= λ p. joined full n (size - full) p.1 >>= λ x. Some (p.0 ++ x.0, x.1)

unfoldable pub joined_at : List (List ℕ) → Option (List ℕ × List (List ℕ))
joined_at [] = None
joined_at (b ∷ blocks) = number_at 4 b >>= λ n. joined 65536 (piece_count n.0) n.0 (b ∷ blocks)

-- ---- the values

-- the value of a cell, and the blocks left, where the group has so many value blocks in all
abbrev pub value_at : ℕ → List (List ℕ) → TextCell → Option (Option (List ℕ) × List (List ℕ))
value_at total blocks Deleted = Some (None, blocks)
value_at total blocks (Inline value) = Some (Some value, blocks)
value_at total [] (Large n size) = None
value_at total (b ∷ blocks) (Large n size) = if n + length (b ∷ blocks) == total && length b == size then Some (Some b, blocks) else None

abbrev pub change_of : ℕ → List (List ℕ) → List ℕ × TextCell → Option (Change × List (List ℕ))
change_of total blocks c = value_at total blocks c.1 >>= λ v. Some (record { key = c.0; value = v.0 }, v.1)

-- each item in turn, with what the one before it left
abbrev pub each_of : {S A B : Type 0} → (S → A → Option (B × S)) → S → List A → Option (List B × S)
each_of f s [] = Some ([], s)
each_of f s (x ∷ xs) = f s x >>= λ b. each_of f b.1 xs >>= λ others. Some (b.0 ∷ others.0, others.1)

abbrev pub changes_of : ℕ → List (List ℕ) → List (List ℕ × TextCell) → Option (List Change × List (List ℕ))
changes_of total blocks t = each_of (change_of total) blocks t

-- each large value, and no block left
unfoldable pub transactions_of : List (List ℕ) → List (List (List ℕ × TextCell)) → Option (List (List Change))
transactions_of blocks ts = each_of (changes_of (length blocks)) blocks ts >>= λ x. if length x.1 == 0 then Some x.0 else None

unfoldable pub record_at : List (List ℕ) → Option LogRecord
record_at blocks = do
  t ← joined_at blocks
  x ← text_at t.0
  ts ← transactions_of t.1 x.1
  Some (record { first = x.0; transactions = ts })
