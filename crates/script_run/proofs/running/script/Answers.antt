use Rattle.std.proofs.Common.{List}
use Rattle.std.proofs.lemmas.Result.{IfErr-weaker, on_ok_weaker}
use Rattle.std.specs.Str.Lines.{lines}
use Rattle.script_lines.specs.declared.line.Line.{Line}
use Rattle.script_run.specs.Output.{Prints}
use Rattle.script_run.specs.Script.{IsFirstBad, IsScript, Size, Writes}
use Rattle.script_run.proofs.Refusing.{of_known}
use Rattle.script_run.proofs.running.script.Goals as goal

pub returns-clause-written : goal.returns-clause-written
returns-clause-written g c =
    on_ok_weaker c.run_text.result
    (of_known (g.R.Read.remaining c.args.reader) c.in_ok-text.text.items (λ bytes. Prints _ _ (λ written. Writes bytes written)) c.in_ok-text.ensures.text)
    c.run_text.ensures.written

pub returns-clause-refused : goal.returns-clause-refused
returns-clause-refused g c =
    IfErr-weaker c.run_text.result _ _
    (λ e told n is. of_known (g.R.Read.remaining c.args.reader) c.in_ok-text.text.items (λ bytes. (size : Size) (plan : List Line) → IsScript bytes size plan → ⊥) c.in_ok-text.ensures.text (told n is))
    c.run_text.ensures.refused

pub returns-clause-first : goal.returns-clause-first
returns-clause-first g c =
    IfErr-weaker c.run_text.result _ _
    (λ e told n is. of_known (g.R.Read.remaining c.args.reader) c.in_ok-text.text.items (λ bytes. IsFirstBad (lines bytes) n) c.in_ok-text.ensures.text (told n is))
    c.run_text.ensures.first
