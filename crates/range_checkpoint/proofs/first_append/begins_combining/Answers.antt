use Rattle.std.proofs.Common.{◌≡◌, ◌∙◌, Option, not, sym, ap, subst}
use Rattle.std.specs.Prelude.{is_some}
use Rattle.memtable.specs.Entries.{Entries}
use Rattle.checkpoint.specs.Merges.{LeadsTo, MergeState}
use Rattle.model_partition.specs.CheckpointStates.{CheckpointState}
use Rattle.model_partition.specs.RangeSteps.{put}
use Rattle.range_checkpoint.specs.Combining.{combined_append}
use Rattle.range_checkpoint.proofs.Combined.{combining_reads, combining_writes}
use Rattle.range_checkpoint.proofs.first_append.begins_combining.Goals as goal

pub returns-in_ok-take-in-Some-clause-ok : goal.returns-in_ok-take-in-Some-clause-ok
returns-in_ok-take-in-Some-clause-ok g c = λ r at number held.
    combining_reads c.args.context.now (put c.args.content.now r) c.args.start.now (g.P.Pages.source c.args.pages.now) c.in_ok-changes.changes
    (record { position = c.job.inside.position; next = c.job.inside.next; combine = c.job.inside.combine; merge = c.job.inside.merge; pages = c.job.inside.pages; phase = c.job.inside.phase })
    c.in-Some.place c.take.new.self c.freeze_layer-frozen.new.self _ at number held
    (c.job.view_is ∙ c.in_ok-job.ensures)
    c.in_ok-changes.ensures (λ m leads. sym c.in-Some.is ∙ c.place_behind.ensures m leads) c.in_ok-take-in-Some.ensures.ok
    (c.freeze_layer-frozen.ensures.fixed (c.freeze_layer-frozen.ensures.answer ∙ ap (λ (o : Option Entries). not (is_some o)) c.requires))
    (c.asks_first.ensures r)

pub returns-in_ok-job-in-None-clause-ok : goal.returns-in_ok-job-in-None-clause-ok
returns-in_ok-job-in-None-clause-ok g c = λ r at number held.
    let x = c.in_ok-job-in-None in
    let append = subst (λ (j : CheckpointState). (m : MergeState) → LeadsTo c.in_ok-changes.changes j.merge m → combined_append (record j { merge = m }) c.live.result.now.entries ≡ (x.job, x.blocks)) (sym c.job.view_is) x.ensures in
    combining_writes c.args.context.now (put c.args.content.now r) c.args.start.now (g.P.Pages.source c.args.pages.now) c.in_ok-changes.changes
    (record { position = c.job.inside.position; next = c.job.inside.next; combine = c.job.inside.combine; merge = c.job.inside.merge; pages = c.job.inside.pages; phase = c.job.inside.phase })
    x.job x.blocks c.live.result.now.entries c.freeze_layer-frozen-in-None.new.self _ at number held
    (c.job.view_is ∙ c.in_ok-job.ensures)
    c.in_ok-changes.ensures (λ m leads. sym c.in-None.is ∙ c.place_behind.ensures m leads) append c.live.ensures.value
    (c.freeze_layer-frozen-in-None.ensures.fixed (c.freeze_layer-frozen-in-None.ensures.answer ∙ ap (λ (o : Option Entries). not (is_some o)) c.requires))
    (c.writes.ensures r)
