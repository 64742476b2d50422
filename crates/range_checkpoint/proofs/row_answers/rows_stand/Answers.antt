use Rattle.std.proofs.Common.{◌∙◌, refl, sym, ap, arith}
use Rattle.std.proofs.lemmas.Bool.Decides.{nat_tests}
use Rattle.client.specs.Client.{Outcome, reply_rule}
use Rattle.model_partition.specs.declared.range_content.RangeContent.{RangeContent}
use Rattle.model_partition.specs.Range.{picking, request}
use Rattle.model_partition.specs.RangeSteps.{put}
use Rattle.range_checkpoint.specs.Steps.{goes_on}
use Rattle.range_checkpoint.proofs.Stood.{rows_stood}
use Rattle.range_checkpoint.proofs.row_answers.rows_stand.Goals as goal

pub returns-clause-ok : goal.returns-clause-ok
returns-clause-ok c = λ r.
    let d = c.args.context.now in
    let y : Outcome = record { after = c.take_answer.new.client; packet = c.in-Ok.reaction.packet; news = c.in-Ok.reaction.news } in
    rows_stood d (put c.args.content.now r) c.args.packet.now.body c.args.extent c.args.offset y (c.content_stands.new.content.control, c.in_ok-next.next) c.requires.appended c.requires.stands (grind (arith, nat_tests, c.ranges.extent.fits))
    (ap (λ (z : RangeContent). reply_rule (picking d z.rows) (request d) c.args.packet.now.body) (sym c.in_ok-next.ensures.rest) ∙ c.in-Ok.ensures.ok)
    (c.in_ok-next.ensures.ok d (record (put c.args.content.now r) { rows = c.take_answer.new.client }) refl)
    ∙ ap (λ (z : RangeContent). goes_on d (put (record z { rows = c.take_answer.new.client }) r) c.in_ok-next.next) (sym c.in_ok-next.ensures.rest)
    ∙ c.goes_on.ensures r
