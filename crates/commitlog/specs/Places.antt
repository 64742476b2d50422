-- Where the values of a record stand.
use Rattle.std.specs.Prelude.{ℕ, ◌+◌, List, length, Option, Some, None, if◌then◌else◌}
use Rattle.block_types.specs.Limits.{group_size}
use Rattle.wire.specs.declared.transaction.Change.{Change}
use Rattle.memtable.specs.declared.cell.Cell.{Cell}
use Rattle.memtable.specs.declared.cell.Cell.TheVariants.{Deleted, Inline, Placed}
use Rattle.memtable.specs.Limits.{is_large}
use Rattle.commitlog.specs.declared.log_record.LogRecord.{LogRecord}
use Rattle.commitlog.specs.Running.{running}
use Rattle.commitlog.specs.Record.{change_values, transaction_values, text}

-- what a row keeps of a value, if the next large value stands at the offset
abbrev pub kept_cell : ℕ → ℕ → Option (List ℕ) → Cell
kept_cell extent offset None = Deleted
kept_cell extent offset (Some value) = if is_large value then Placed (record { extent = extent; offset = offset; length = length value }) else Inline value

abbrev pub kept_change : ℕ → ℕ → Change → List ℕ × Cell
kept_change extent offset c = (c.key, kept_cell extent offset c.value)

-- blocks stand one after another
abbrev pub kept_changes : ℕ → ℕ → List Change → List (List ℕ × Cell)
kept_changes extent offset t = running (kept_change extent) (λ c. group_size (change_values c)) offset t

abbrev pub kept_transactions : ℕ → ℕ → List (List Change) → List (List (List ℕ × Cell))
kept_transactions extent offset ts = running (kept_changes extent) (λ t. group_size (transaction_values t)) offset ts

-- what rows keep of each transaction, if the group stands in the extent from the offset on
abbrev pub kept : LogRecord → ℕ → ℕ → List (List (List ℕ × Cell))
kept r extent offset = kept_transactions extent (offset + length (text r)) r.transactions
