use Rattle.std.proofs.Common.{refl}
use Rattle.std.proofs.lemmas.Result.{on_ok_weaker}
use Rattle.script_run.proofs.Playing.{plays_as, plays_nothing, shows}
use Rattle.script_run.proofs.session.Session.play.Goals as goal

pub returns-in-Submit-clause-played : goal.returns-in-Submit-clause-played
returns-in-Submit-clause-played g c = on_ok_weaker c.submit.result (λ is. plays_nothing _ c.args.self.now _ c.args.line _ c.in-Submit.is is) c.submit.ensures.submits

pub returns-in-Settle-clause-played : goal.returns-in-Settle-clause-played
returns-in-Settle-clause-played g c = on_ok_weaker c.settle.result (plays_as _ _ _ _ c.args.line _ c.in-Settle.is) c.settle.ensures.settles

pub returns-in-Cut-clause-played : goal.returns-in-Cut-clause-played
returns-in-Cut-clause-played g c = on_ok_weaker c.cut_off.result (λ is. plays_nothing _ c.args.self.now _ c.args.line _ c.in-Cut.is (refl, is)) c.cut_off.ensures.cut

pub returns-in-Heal-clause-played : goal.returns-in-Heal-clause-played
returns-in-Heal-clause-played g c = plays_nothing _ c.args.self.now _ c.args.line _ c.in-Heal.is (refl, c.heal.ensures)

pub returns-in-Show-clause-played : goal.returns-in-Show-clause-played
returns-in-Show-clause-played g c =
    on_ok_weaker c.tell.result (shows _ _ c.args.self.now _ _ c.args.line c.in-Show.node c.in-Show.extent _ c.in-Show.is c.self.view_is c.tell.ensures.same c.look-seen.ensures) c.tell.ensures.printed

pub returns-in-Happens-clause-played : goal.returns-in-Happens-clause-played
returns-in-Happens-clause-played g c =
    on_ok_weaker c.observe.result (plays_as _ _ _ _ c.args.line _ c.in-Happens.is) (rw c.into_event.ensures at c.observe.ensures.happens)
