use Rattle.std.proofs.Common.{arith}
use Rattle.script_lines.specs.Words.{IsChange}
use Rattle.script_lines.proofs.Lists.{each_step, each_stop}
use Rattle.script_lines.proofs.word.changes.Goals as goal

pub returns-in-None : goal.returns-in-None
returns-in-None c = λ list spelled.
    each_stop IsChange c.args.words.now c.loop-word.word-index _ (omega arith)
    (rw c.in-None.is at c.in_ok-change.ensures) list spelled

pub loop-word-preserved : goal.loop-word-preserved
loop-word-preserved c =
    rw c.in_ok-push-in-Some.ensures.items
    (each_step IsChange c.loop-word.changes.items c.args.words.now c.loop-word.word-index _ c.in-Some.change (omega arith)
    c.loop-word.invariant (rw c.in-Some.is at c.in_ok-change.ensures))
