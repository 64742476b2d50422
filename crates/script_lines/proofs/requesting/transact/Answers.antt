use Rattle.script_lines.proofs.Beginnings.{no_transact}
use Rattle.script_lines.proofs.Lists.{texts, texts_behind}
use Rattle.script_lines.proofs.requesting.transact.Goals as goal

pub returns-in-None : goal.returns-in-None
returns-in-None c =
    let none = rw c.in-None.is at c.in_ok-changes.ensures in
    no_transact (texts c.args.words.now)
    (λ list h. none list (rw (texts_behind c.args.words.now 2) h))
