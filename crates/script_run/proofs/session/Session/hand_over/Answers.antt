use Rattle.std.proofs.lemmas.Result.{on_ok_weaker}
use Rattle.script_run.proofs.Playing.{handed_over}
use Rattle.script_run.proofs.session.Session.hand_over.Goals as goal

pub returns-clause-delivers : goal.returns-clause-delivers
returns-clause-delivers g c =
    on_ok_weaker c.tell.result
    (handed_over _ _ _ _ _ _ c.args.number c.args.answer.now c.in_ok-pass_on.ensures.delivers c.tell.ensures.same)
    c.tell.ensures.printed
