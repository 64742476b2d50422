-- What a range keeps of the transactions that wait: each can be written, and those that are out are one group.
use Rattle.std.specs.Prelude.{ℕ, ◌+◌, ◌≤◌, List, length, map, Option, Some, None}
use Rattle.std.specs.List.{AllByRecursion}
use Rattle.commitlog.specs.Record.{IsTransaction, Fits}
use Rattle.model_partition.specs.declared.waiting.WaitingTransaction.{WaitingTransaction}
use Rattle.model_partition.specs.Range.{OutGroup, RangeState, waiting_out}
use Rattle.model_partition.specs.Serving.{record_of}

abbrev pub AreTransactions : List WaitingTransaction → Type 0
AreTransactions transactions = AllByRecursion IsTransaction (map (λ t. t.changes) transactions)

abbrev pub OutFits : Option OutGroup → Type 0
OutFits None = Unit {0}
OutFits (Some out) = Fits (record_of out.first out.transactions)

-- the transactions that wait, the group that is out, and the next number
pub record AreSound (queue : List WaitingTransaction) (out : Option OutGroup) (next : ℕ) : Type 0 where
  pub queue_fits : AreTransactions queue
  pub out_fits : OutFits out
  pub counted : length (waiting_out out) + length queue ≤ 1024
  pub numbered : 1 ≤ next

abbrev pub IsSound : RangeState → Type 0
IsSound r = AreSound r.queue r.out r.next

-- a range that is dropped has nothing to keep
abbrev pub IsSoundIf : Option RangeState → Type 0
IsSoundIf None = Unit {0}
IsSoundIf (Some r) = IsSound r
