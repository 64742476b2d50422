use Rattle.std.proofs.Common.{◌≡◌}
use Rattle.std.specs.Prelude.{OnOk, length}
use Rattle.std.specs.declared.result.Result.TheVariants.{Ok, Err}
use Rattle.stamp_traces.specs.Traces.{LeavesAt, events_of_actor}
use Rattle.stamp_traces.proofs.Counts.{Counts, counted}
use Rattle.stamp_traces.proofs.counter.count.Goals as goal

pub returns-clause-found : goal.returns-clause-found
returns-clause-found g c =
    let cell = c.args.cell.now in
    let entries = c.args.journal.now.entries in
    elim c.act.result as (λ r. OnOk r (LeavesAt Counts (λ n. record { count = 0 }) entries cell.number cell.actor) → OnOk r (cell.actor.count ≡ length (events_of_actor cell.number entries))) [
      | Ok v ↦ λ l. counted entries cell.number cell.actor l
      | Err e ↦ λ l. tt
    ] c.act.ensures.found
