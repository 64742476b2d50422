use Rattle.std.proofs.Common.{subst}
use Rattle.script_lines.specs.Grammar.{Asks}
use Rattle.script_lines.proofs.Beginnings.{no_wish}
use Rattle.script_lines.proofs.Lists.{texts_from_first}
use Rattle.script_lines.proofs.requesting.request.Goals as goal

pub returns-in-None : goal.returns-in-None
returns-in-None c = λ asked h.
    no_wish _ _ c.in-None.ensures asked (subst (Asks asked) (texts_from_first c.args.words.now _ c.in-len1-up.len_at_least) h)
