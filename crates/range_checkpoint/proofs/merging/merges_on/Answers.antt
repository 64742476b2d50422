use Rattle.std.proofs.Common.{◌∙◌, None, Some, sym, ap}
use Rattle.model_partition.specs.CheckpointStates.{CheckpointState}
use Rattle.model_partition.specs.RangeSteps.{put}
use Rattle.range_checkpoint.proofs.Combined.{leads_from, reads_on}
use Rattle.range_checkpoint.proofs.merging.merges_on.Goals as goal

pub returns-clause-ok : goal.returns-clause-ok
returns-clause-ok c = λ r job m control leads.
    let own : CheckpointState =
    record { position = c.job.inside.position; next = c.job.inside.next; combine = c.job.inside.combine; merge = c.job.inside.merge; pages = c.job.inside.pages; phase = c.job.inside.phase } in
    let from = leads_from c.args.content.now.control own job m c.args.changes (c.in-Some.is ∙ ap (λ (j : CheckpointState). Some j) (sym c.job.view_is)) control leads in
    reads_on c.args.context.now (record (put c.args.content.now r) { reading = None }) job m c.in-Some-place_behind.place c.take.new.control _
    (sym c.in-Some-place_behind.is ∙ c.place_behind.ensures m from) (c.in_ok-take.ensures.ok job m control leads) (c.asks_page.ensures r)
