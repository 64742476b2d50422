use Rattle.std.proofs.Common.{◌≡◌, map, take}
use Rattle.stamp_run.specs.Logs.{Logged}
use Rattle.stamp_run.proofs.audits.copy_events.Given as goal

abbrev pub invariant-loop-entry : goal.invariant-loop-entry
invariant-loop-entry l = l.events.items ≡ map (λ (e : Logged). e.event) (take l.entry-index l.log)
