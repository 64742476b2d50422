use Rattle.std.proofs.Common.{◌≡◌, ◌++◌, length}
use Rattle.std.specs.Vec.Iter.{into_iter_items, into_iter_len}
use Rattle.script_run.specs.Output.{Prints}
use Rattle.script_run.specs.Playing.{PlaysAll}
use Rattle.script_run.proofs.running.play_all.Given as goal

abbrev pub invariant-loop-line : goal.invariant-loop-line
invariant-loop-line g l = record {
  played : Prints (g.W.Write.contents l.fn.writer) (g.W.Write.contents l.writer) (λ text. PlaysAll l.fn.session l.yielded text l.session);
  rest : l.yielded ++ into_iter_items l.line-iterator ≡ l.fn.lines.items;
  count : into_iter_len l.line-iterator ≡ length (into_iter_items l.line-iterator);
}
