-- How many bytes the text has, and how many blocks the group.
use Rattle.std.specs.Prelude.{ℕ, ◌+◌, ◌≤◌, List, length, Option, Some, None, if◌then◌else◌}
use Rattle.std.specs.List.{sum_by}
use Rattle.wire.specs.declared.transaction.Change.{Change}
use Rattle.memtable.specs.Limits.{is_large}
use Rattle.commitlog.specs.Record.{spelling}

abbrev pub cell_size : Option (List ℕ) → ℕ
cell_size None = 1
cell_size (Some value) = if is_large value then 6 else 5 + length value

abbrev pub change_size : Change → ℕ
change_size c = 2 + length c.key + cell_size c.value

abbrev pub transaction_size : List Change → ℕ
transaction_size t = 1 + sum_by change_size t

abbrev pub text_size : List (List Change) → ℕ
text_size ts = 14 + sum_by transaction_size ts

-- the group of these transactions has at most 64 blocks, whatever the first number
abbrev pub HasRoom : List (List Change) → Type 0
HasRoom ts = (first : ℕ) → length (spelling (record { first = first; transactions = ts })) ≤ 64
