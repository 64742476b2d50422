use Rattle.std.proofs.Common.{◌∙◌, ◌++◌, ℕ, List, ap}
use Rattle.script_lines.proofs.Copying.{one_more}
use Rattle.script_lines.proofs.copies.add_text.Goals as goal

pub loop-copy-preserved : goal.loop-copy-preserved
loop-copy-preserved c =
    c.in_ok-extend_from_slice.ensures.items ∙ ap (λ (l : List ℕ). l ++ c.args.text.now) c.loop-copy.invariant
    ∙ one_more c.args.buffer.now.items c.loop-copy._copy c.args.text.now
