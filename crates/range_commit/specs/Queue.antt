-- The transactions that wait at a range, and the group of them that is being appended.
use Rattle.std.specs.Prelude.{ℕ, ◌≡◌, ◌+◌, ◌-◌, ◌^◌, ◌<◌, ◌≤◌, ◌==◌, nat_lt, Bool, ◌&&◌, ◌||◌, not, List, [], ◌∷◌, length, take, drop, Option, Some, None, IfSome, if◌then◌else◌}
use Rattle.std.specs.List.{AllByRecursion, flat_map, list_any}
use Rattle.block_types.specs.Limits.{group_size}
use Rattle.wire.specs.declared.packet.Packet.{Packet}
use Rattle.wire.specs.declared.refusal.Refusal.{Refusal}
use Rattle.wire.specs.declared.refusal.Refusal.TheVariants as refusals
use Rattle.wire.specs.declared.transaction.Change.{Change}
use Rattle.model_streams.specs.Outcome.{first_met}
use Rattle.memtable.specs.declared.cell.Cell.{Cell}
use Rattle.commitlog.specs.Record.{spelling, IsTransaction, Fits}
use Rattle.commitlog.specs.Places.{kept}
use Rattle.metadata.specs.declared.record.KeyRange.{KeyRange}
use Rattle.metadata.specs.Keys.{within}
use Rattle.model_partition.specs.declared.server_context.ServerContext.{ServerContext}
use Rattle.model_partition.specs.declared.table_note.TableNote.{TableNote}
use Rattle.model_partition.specs.declared.waiting.WaitingTransaction.{WaitingTransaction}
use Rattle.model_partition.specs.Range.{OutGroup}
use Rattle.model_partition.specs.Serving.{record_of, is_key, value_size, committed, dones, out_size}

-- the transactions that wait, those that are being appended, and the number of the next one
pub record QueueState : Type 0 where
  pub queue : List WaitingTransaction
  pub out : Option OutGroup
  pub next : ℕ

-- ---- the group that is out

-- the first n of all, whose numbers end below the next
abbrev pub out_of : List WaitingTransaction → ℕ → ℕ → Option OutGroup
out_of all n next = if n == 0 then None else Some (record { first = next - n; transactions = take n all })

abbrev pub queue_of : List WaitingTransaction → ℕ → ℕ → QueueState
queue_of all n next = record { queue = drop n all; out = out_of all n next; next = next }

-- what is answered once it is acknowledged
abbrev pub committed_out : ServerContext → Option OutGroup → List Packet
committed_out d None = []
committed_out d (Some out) = committed d out.first out.transactions

abbrev pub dones_out : ℕ → ℕ → Option OutGroup → List TableNote
dones_out range generation None = []
dones_out range generation (Some out) = dones range generation out.first out.transactions

-- what rows keep of its changes, if it stands in the extent from the offset on
abbrev pub changes_out : Option OutGroup → ℕ → ℕ → List (List ℕ × Cell)
changes_out None extent offset = []
changes_out (Some out) extent offset = flat_map (λ changes. changes) (kept (record_of out.first out.transactions) extent offset)

abbrev pub size_out : Option OutGroup → ℕ
size_out None = 0
size_out (Some out) = out_size out

-- ---- forming

-- whether a group of n transactions is formed where the next number is this
abbrev pub is_formed : ℕ → ℕ → Bool
is_formed next n = nat_lt 0 n && nat_lt (next + n) (2 ^ 64)

-- the first n that wait may be appended as one group, which has so many bytes
pub record IsNextGroup (next : ℕ) (queue : List WaitingTransaction) (n size : ℕ) : Type 0 where
  pub some : 0 < n
  pub waiting : n ≤ length queue
  pub fits : Fits (record_of next (take n queue))
  pub sized : size ≡ group_size (spelling (record_of next (take n queue)))

-- ---- what is kept

abbrev pub AreTransactions : List WaitingTransaction → Type 0
AreTransactions all = AllByRecursion (λ t. IsTransaction t.changes) all

abbrev pub HasRecord : OutGroup → Type 0
HasRecord out = Fits (record_of out.first out.transactions)

-- at most 1,024 transactions that a record may hold; what is out is one record, of so many bytes
pub record IsQueue (all : List WaitingTransaction) (n size next : ℕ) : Type 0 where
  pub transactions : AreTransactions all
  pub most : length all ≤ 1024
  pub counted : n ≤ length all
  pub numbered : n < next
  pub fits : IfSome (out_of all n next) HasRecord
  pub sized : size ≡ size_out (out_of all n next)

-- ---- faults

-- why no record holds these changes, or none of this range: the number of changes, then their keys, values and range
abbrev pub changes_fault : KeyRange → List Change → Option Refusal
changes_fault keys changes =
    first_met (
    (refusals.TooLarge, (length changes == 0) || nat_lt 32 (length changes))
    ∷ (refusals.BadKey, list_any (λ c. not (is_key c.key)) changes)
    ∷ (refusals.TooLarge, list_any (λ c. nat_lt 65536 (value_size c.value)) changes)
    ∷ (refusals.OutOfRange, list_any (λ c. not (within keys c.key)) changes)
    ∷ [])
