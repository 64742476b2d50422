use Rattle.std.proofs.Common.{◌≡◌, ◌++◌}
use Rattle.std.specs.List.{repeat}
use Rattle.script_lines.proofs.copies.add_text.Given as goal

abbrev pub invariant-loop-copy : goal.invariant-loop-copy
invariant-loop-copy l = l.buffer.items ≡ l.fn.buffer.items ++ repeat l._copy l.text
