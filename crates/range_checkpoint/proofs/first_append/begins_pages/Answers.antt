use Rattle.std.proofs.Common.{◌∙◌, Option, not, ap}
use Rattle.std.specs.Prelude.{is_some}
use Rattle.memtable.specs.Entries.{Entries}
use Rattle.checkpoint.specs.PageGroups.{pages_to_write}
use Rattle.model_partition.specs.RangeSteps.{put}
use Rattle.range_checkpoint.proofs.Combined.{pages_begun}
use Rattle.range_checkpoint.proofs.first_append.begins_pages.Goals as goal

pub returns-clause-ok : goal.returns-clause-ok
returns-clause-ok c = λ r at number.
    let next = c.in_ok-phase.field-0 in
    pages_begun c.args.context.now (put c.args.content.now r) c.args.start.now.position c.args.start.now.next c.in_ok-pages.pages next.phase next.blocks c.writing_job-job.result c.freeze_layer-frozen.new.self _ at number
    (c.in_ok-pages.ensures ∙ ap (λ (es : Entries). pages_to_write es) c.live.ensures.value) c.in_ok-phase.ensures.next c.writing_job-job.ensures
    (c.freeze_layer-frozen.ensures.fixed (c.freeze_layer-frozen.ensures.answer ∙ ap (λ (o : Option Entries). not (is_some o)) c.requires))
    (c.writes.ensures r)
