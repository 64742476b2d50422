use Rattle.std.proofs.Common.{◌≡◌, map, take}
use Rattle.stamp_run.specs.Logs.{Logged}
use Rattle.stamp_run.proofs.audits.copy_passes.Given as goal

abbrev pub invariant-loop-entry : goal.invariant-loop-entry
invariant-loop-entry l = l.passes.items ≡ map (λ (e : Logged). e.pass) (take l.entry-index l.log)
