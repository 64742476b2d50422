-- Transactions: they wait, are appended in groups, and are applied once their group is acknowledged.
use Rattle.std.specs.Prelude.{ℕ, zero, suc, ◌+◌, ◌-◌, ◌^◌, Bool, not, ◌&&◌, ◌||◌, ◌==◌, nat_lt, nat_le, List, [], ◌∷◌, ◌++◌, length, map, take, drop, flat_map, Option, Some, None, option_to_list, is_some, if◌then◌else◌}
use Rattle.std.specs.List.{list_any}
use Rattle.block_types.specs.Limits.{group_size}
use Rattle.wire.specs.declared.actor.ActorId.{ActorId}
use Rattle.wire.specs.declared.actor.ReqNo.{ReqNo}
use Rattle.wire.specs.declared.body.Body.TheVariants as bodies
use Rattle.wire.specs.declared.body.TableBody.TheVariants as tables
use Rattle.wire.specs.declared.packet.Packet.{Packet}
use Rattle.wire.specs.declared.refusal.Refusal.{Refusal}
use Rattle.wire.specs.declared.refusal.Refusal.TheVariants as refusals
use Rattle.wire.specs.declared.transaction.Change.{Change}
use Rattle.model_streams.specs.Outcome.{first_met}
use Rattle.client.specs.Client.{ClientState, append_rule}
use Rattle.commitlog.specs.declared.log_record.LogRecord.{LogRecord}
use Rattle.commitlog.specs.Record.{spelling}
use Rattle.commitlog.specs.Places.{kept}
use Rattle.model_partition.specs.declared.table_note.TableNote.{TableNote}
use Rattle.model_partition.specs.declared.table_note.TableNote.TheVariants.{Began, Done}
use Rattle.model_partition.specs.declared.waiting.WaitingTransaction.{WaitingTransaction}
use Rattle.metadata.specs.Keys.{within}
use Rattle.memtable.specs.Entries.{put_all, entries_size}
use Rattle.memtable.specs.Layers.{size_of}
use Rattle.model_partition.specs.declared.server_context.ServerContext.{ServerContext}
use Rattle.model_partition.specs.Range.{OutGroup, RangeState, RangeOutcome, request, tells, refuses, goes, answers, given, picking, waiting_out, is_serving, takes_no_transaction}

-- ---- forming a group

-- these transactions, numbered from first on
abbrev pub record_of : ℕ → List WaitingTransaction → LogRecord
record_of first transactions = record { first = first; transactions = map (λ t. t.changes) transactions }

-- whether the first n transactions of the queue are one group
abbrev pub fits_a_group : ℕ → List WaitingTransaction → ℕ → Bool
fits_a_group first queue n = nat_le n (length queue) && nat_le (length (spelling (record_of first (take n queue)))) 64

-- how many transactions the next group has: one more, as long as they fit and more are allowed
abbrev pub grown : ℕ → List WaitingTransaction → ℕ → ℕ → ℕ
grown first queue n zero = n
grown first queue n (suc more) = if fits_a_group first queue (suc n) then grown first queue (suc n) more else n

abbrev pub group_count : ServerContext → RangeState → ℕ
group_count d r = grown r.next r.queue 0 d.batch

abbrev pub began : ℕ → ℕ → ℕ → List WaitingTransaction → List TableNote
began range g s [] = []
began range g s (t ∷ ts) = Began range g s t.changes ∷ began range g (suc s) ts

-- the first n transactions of the queue get the next numbers, and are appended to the log
abbrev pub appends : ServerContext → RangeState → ℕ → RangeOutcome
appends d r n =
    let c : ClientState = picking d r.log in
    let o = given c (append_rule c (request d) (spelling (record_of r.next (take n r.queue)))) in
    goes d
    (record r {
      log = o.after;
      queue = drop n r.queue;
      out = Some (record { first = r.next; transactions = take n r.queue });
      next = r.next + n;
    })
    (option_to_list o.packet)
    (began r.load.range r.load.generation r.next (take n r.queue))

-- A group is formed where none is out and a transaction waits. Where its numbers do not fit 64 bits, all wait.
abbrev pub forms : ServerContext → RangeState → RangeOutcome
forms d r =
    if not (is_some r.out) && (nat_lt 0 (group_count d r) && nat_lt (r.next + group_count d r) (2 ^ 64))
    then appends d r (group_count d r)
    else goes d r [] []

-- ---- a transaction

abbrev pub is_key : List ℕ → Bool
is_key key = nat_le 1 (length key) && nat_le (length key) 256

abbrev pub value_size : Option (List ℕ) → ℕ
value_size None = 0
value_size (Some value) = length value

abbrev pub lease_ended : ServerContext → RangeState → Bool
lease_ended d r = nat_le r.until d.moment

-- those that wait, the group that is being appended counted
abbrev pub waiting_count : RangeState → ℕ
waiting_count r = length (waiting_out r.out) + length r.queue

abbrev pub is_full : RangeState → Bool
is_full r = nat_le 1024 (waiting_count r) || nat_le 67108864 (entries_size r.live + size_of r.fixed)

abbrev pub transact_fault : ServerContext → RangeState → List Change → Option Refusal
transact_fault d r changes =
    first_met (
    (refusals.Loading, not (is_serving r.stage))
    ∷ (refusals.Paused, takes_no_transaction r.pause)
    ∷ (refusals.LeaseEnded, lease_ended d r)
    ∷ (refusals.TooLarge, (length changes == 0) || nat_lt 32 (length changes))
    ∷ (refusals.BadKey, list_any (λ c. not (is_key c.key)) changes)
    ∷ (refusals.TooLarge, list_any (λ c. nat_lt 65536 (value_size c.value)) changes)
    ∷ (refusals.OutOfRange, list_any (λ c. not (within r.said.keys c.key)) changes)
    ∷ (refusals.Busy, is_full r)
    ∷ [])

abbrev pub transacts : ServerContext → RangeState → ActorId → ReqNo → List Change → Option Refusal → RangeOutcome
transacts d r from q changes (Some refusal) = answers d r (refuses d from q refusal ∷ [])
transacts d r from q changes None =
    forms d (record r { queue = r.queue ++ record { from = from; request = q; changes = changes } ∷ [] })

abbrev pub transact_rule : ServerContext → RangeState → ActorId → ReqNo → List Change → RangeOutcome
transact_rule d r from q changes = transacts d r from q changes (transact_fault d r changes)

-- ---- a group is acknowledged

abbrev pub dones : ℕ → ℕ → ℕ → List WaitingTransaction → List TableNote
dones range g s [] = []
dones range g s (t ∷ ts) = Done range g s ∷ dones range g (suc s) ts

abbrev pub committed : ServerContext → ℕ → List WaitingTransaction → List Packet
committed d s [] = []
committed d s (t ∷ ts) = tells d t.from (bodies.Table (tables.Committed t.request s)) ∷ committed d (suc s) ts

-- what comes before another step's packets and observations
abbrev pub after_these : List Packet → List TableNote → RangeOutcome → RangeOutcome
after_these packets notes o = record o { packets = packets ++ o.packets; notes = notes ++ o.notes }

-- how many bytes the group that is being appended has
abbrev pub out_size : OutGroup → ℕ
out_size out = group_size (spelling (record_of out.first out.transactions))

-- The group stands at an offset of the last extent: its transactions are applied in order and answered, and the next group is
-- formed.
abbrev pub applies : ServerContext → RangeState → OutGroup → ℕ → ℕ → RangeOutcome
applies d r out extent offset =
    after_these
    (committed d out.first out.transactions)
    (dones r.load.range r.load.generation out.first out.transactions)
    (forms d
    (record r {
      live = put_all r.live (flat_map (λ changes. changes) (kept (record_of out.first out.transactions) extent offset));
      position = record { index = (r.log.base + length r.log.extents) - 1; offset = offset + out_size out };
      out = None;
    }))

abbrev pub log_done : ServerContext → RangeState → Option OutGroup → ℕ → ℕ → RangeOutcome
log_done d r None extent offset = goes d r [] []
log_done d r (Some out) extent offset = applies d r out extent offset
