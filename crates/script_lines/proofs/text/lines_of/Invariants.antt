use Rattle.std.proofs.Common.{◌≡◌, ◌++◌, length}
use Rattle.std.specs.Str.Lines.{lines}
use Rattle.script_lines.proofs.Lists.{texts}
use Rattle.script_lines.proofs.text.lines_of.Given as goal

-- the lines so far, and those of what is left
abbrev pub invariant-loop-end : goal.invariant-loop-end
invariant-loop-end l = texts l.found.items ++ lines l.last ≡ lines l.text

abbrev pub decreases-loop-end : goal.decreases-loop-end
decreases-loop-end l = length l.last
