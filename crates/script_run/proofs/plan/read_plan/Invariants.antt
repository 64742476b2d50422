use Rattle.std.proofs.Common.{take}
use Rattle.script_lines.proofs.Lists.{texts}
use Rattle.script_run.specs.Script.{IsDraft, size_if}
use Rattle.script_run.proofs.plan.read_plan.Given as goal

abbrev pub invariant-loop-index : goal.invariant-loop-index
invariant-loop-index l = IsDraft (take l.index (texts l.line-items)) (size_if l.setup) l.plan.items
