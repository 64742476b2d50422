use Rattle.std.proofs.Common.{◌∙◌, Bool, sym, ap, subst}
use Rattle.checkpoint.specs.Merges.{LeadsTo, no_merge}
use Rattle.checkpoint.specs.PageGroups.{PagesState}
use Rattle.model_partition.specs.CheckpointStates.{CheckpointState}
use Rattle.range_checkpoint.specs.declared.starts.CheckpointStart.{CheckpointStart}
use Rattle.range_checkpoint.proofs.Combined.{combined_goes}
use Rattle.range_checkpoint.proofs.writing.combined_job.Goals as goal

pub returns : goal.returns
returns c = λ m leads.
    let x : Bool × PagesState = (c.in_ok-fits.fits, c.in_ok-fits.pages) in
    let next = c.in_ok-phase.field-0 in
    let from = subst (λ (j : CheckpointState). LeadsTo c.args.changes.now j.merge m) (sym c.job.view_is) leads in
    combined_goes (record c.args.job.now { merge = m }) c.args.newer.now.entries x next.phase next.blocks (c.in_ok-fits.ensures m from) c.in_ok-phase.ensures.next
    ∙ ap (λ (j : CheckpointState). (j, next.blocks)) (sym (c.writing_job.ensures
    ∙ ap (λ (s : CheckpointStart). record { position = s.position; next = s.next; combine = s.combine; merge = no_merge; pages = x.1; phase = next.phase }) c.start_of-start.ensures))
