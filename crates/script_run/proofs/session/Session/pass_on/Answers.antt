use Rattle.std.proofs.lemmas.Result.{on_ok_weaker}
use Rattle.script_run.proofs.Playing.{passed_on}
use Rattle.script_run.proofs.session.Session.pass_on.Goals as goal

pub returns-clause-delivers : goal.returns-clause-delivers
returns-clause-delivers g c =
    on_ok_weaker c.carry.result
    (passed_on _ _ _ _ _ c.args.number c.in_ok-note.ensures.noted c.in_ok-note.ensures.same)
    c.carry.ensures.happens
