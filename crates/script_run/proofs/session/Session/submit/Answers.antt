use Rattle.std.proofs.Common.{sym}
use Rattle.script_run.proofs.Playing.{sends, submitted}
use Rattle.script_run.proofs.session.Session.submit.Goals as goal

pub returns-clause-submits : goal.returns-clause-submits
returns-clause-submits c =
    submitted c.args.self.now _ c.args.user _ c.args.asked _ _ _ c.self.view_is c.in_ok-ticket.ensures (sym (c.call_of-to.ensures c.args.user))
    (sends _ _ c.args.user _ _ c.in_ok-submit.ensures.ok c.submit.ensures.same_notes)
