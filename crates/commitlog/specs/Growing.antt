-- The text of a group as it grows.
use Rattle.std.specs.Prelude.{◌≡◌, ℕ, ◌+◌, ◌≤◌, List, [], length, unwrap_or}
use Rattle.std.specs.List.{flat_map, AllByRecursion}
use Rattle.wire.specs.declared.transaction.Change.{Change}
use Rattle.blocks.specs.Format.{◌>>=◌, many_at}
use Rattle.commitlog.specs.Record.{transaction_values, text_transactions, transaction_bytes, piece_count, IsTransaction}
use Rattle.commitlog.specs.Reading.{transaction_at, transactions_of}

-- the transactions whose bytes and large values these are; none where they are those of no transactions
unfoldable pub held : List ℕ → List (List ℕ) → ℕ → List (List Change)
held text values count = unwrap_or (many_at transaction_at count text >>= λ x. transactions_of values x.0) []

-- the bytes of these transactions, their large values, and how many they are: with the 14 bytes before them at most 64 blocks
pub record IsTextOf (ts : List (List Change)) (text : List ℕ) (values : List (List ℕ)) (count : ℕ) : Type 0 where
  pub transactions : AllByRecursion IsTransaction ts
  pub counted : count ≡ length ts
  pub written : text ≡ flat_map transaction_bytes (text_transactions 0 ts)
  pub large : values ≡ flat_map transaction_values ts
  pub room : piece_count (14 + length text) + length values ≤ 64
