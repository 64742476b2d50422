use Rattle.std.proofs.Common.{arith}
use Rattle.script_lines.specs.Copies.{bytes_of}
use Rattle.script_lines.specs.Values.{IsValue}
use Rattle.script_lines.proofs.Copying.{too_many}
use Rattle.script_lines.proofs.Lists.{each_step, each_stop}
use Rattle.script_lines.proofs.word.values.Goals as goal

pub returns-in-None-clause-none : goal.returns-in-None-clause-none
returns-in-None-clause-none c = λ list spelled.
    each_stop (λ bytes text. IsValue text bytes) c.args.words.now c.loop-word.word-index _ (omega arith)
    (too_many _ c.in-None.ensures.none) list spelled

pub loop-word-preserved : goal.loop-word-preserved
loop-word-preserved c =
    rw c.in_ok-push-in-Some.ensures.items
    (each_step (λ value text. IsValue text (bytes_of value)) c.loop-word.values.items c.args.words.now c.loop-word.word-index _ c.in-Some.copies (omega arith)
    c.loop-word.invariant c.in-Some.ensures.found)
