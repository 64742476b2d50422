use Rattle.std.proofs.lemmas.Result.{IfOk-weaker}
use Rattle.script_lines.specs.declared.verb.Verb.TheVariants as verbs
use Rattle.script_lines.proofs.Beginnings.{form_of_event}
use Rattle.script_lines.proofs.Lists.{texts}
use Rattle.script_lines.proofs.reading.line_behind.Goals as goal

pub returns-in-Stop : goal.returns-in-Stop
returns-in-Stop c =
    IfOk-weaker c.happens.result _ _ (form_of_event c.stop.result c.args.verb verbs.Stop (texts c.args.words.now) c.in-Stop.is c.stop.ensures) c.happens.ensures

pub returns-in-Restart : goal.returns-in-Restart
returns-in-Restart c =
    IfOk-weaker c.happens-in-Restart.result _ _ (form_of_event c.restart.result c.args.verb verbs.Restart (texts c.args.words.now) c.in-Restart.is c.restart.ensures) c.happens-in-Restart.ensures

pub returns-in-Decide : goal.returns-in-Decide
returns-in-Decide c =
    IfOk-weaker c.happens-in-Decide.result _ _ (form_of_event c.decide.result c.args.verb verbs.Decide (texts c.args.words.now) c.in-Decide.is c.decide.ensures) c.happens-in-Decide.ensures

pub returns-in-GiveUp : goal.returns-in-GiveUp
returns-in-GiveUp c =
    IfOk-weaker c.happens-in-GiveUp.result _ _ (form_of_event c.give_up.result c.args.verb verbs.GiveUp (texts c.args.words.now) c.in-GiveUp.is c.give_up.ensures) c.happens-in-GiveUp.ensures

pub returns-in-Checkpoint : goal.returns-in-Checkpoint
returns-in-Checkpoint c =
    IfOk-weaker c.happens-in-Checkpoint.result _ _ (form_of_event c.checkpoint.result c.args.verb verbs.Checkpoint (texts c.args.words.now) c.in-Checkpoint.is c.checkpoint.ensures) c.happens-in-Checkpoint.ensures

pub returns-in-Merge : goal.returns-in-Merge
returns-in-Merge c =
    IfOk-weaker c.happens-in-Merge.result _ _ (form_of_event c.merge.result c.args.verb verbs.Merge (texts c.args.words.now) c.in-Merge.is c.merge.ensures) c.happens-in-Merge.ensures

pub returns-in-Assign : goal.returns-in-Assign
returns-in-Assign c =
    IfOk-weaker c.happens-in-Assign.result _ _ (form_of_event c.assign.result c.args.verb verbs.Assign (texts c.args.words.now) c.in-Assign.is c.assign.ensures) c.happens-in-Assign.ensures

pub returns-in-Renew : goal.returns-in-Renew
returns-in-Renew c =
    IfOk-weaker c.happens-in-Renew.result _ _ (form_of_event c.renew.result c.args.verb verbs.Renew (texts c.args.words.now) c.in-Renew.is c.renew.ensures) c.happens-in-Renew.ensures

pub returns-in-Moment : goal.returns-in-Moment
returns-in-Moment c =
    IfOk-weaker c.happens-in-Moment.result _ _ (form_of_event c.moment.result c.args.verb verbs.Moment (texts c.args.words.now) c.in-Moment.is c.moment.ensures) c.happens-in-Moment.ensures
