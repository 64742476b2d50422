use Rattle.std.proofs.Common.{◌∷◌, ◌∙◌, List, Some, refl, sym, ap}
use Rattle.checkpoint.specs.declared.installed_index.InstalledIndex.{InstalledIndex}
use Rattle.memtable.specs.Layers.{Layers}
use Rattle.client.specs.Client.{Outcome}
use Rattle.model_partition.specs.declared.range_content.RangeContent.{RangeContent}
use Rattle.model_partition.specs.Checkpoints.{indexes_below, trims}
use Rattle.model_partition.specs.RangeSteps.{put}
use Rattle.range_checkpoint.specs.Records.{job_of, metadata_reaction}
use Rattle.range_checkpoint.proofs.Recorded.{installs_left}
use Rattle.range_checkpoint.proofs.record_answers.install.Goals as goal

pub returns-clause-ok : goal.returns-clause-ok
returns-clause-ok c = λ r.
    let d = c.args.context.now in
    let x = c.in-Some.recorded in
    let y : Outcome = metadata_reaction d c.args.content.now.metadata c.args.packet.now.body in
    installs_left d (put c.args.content.now r) c.args.packet.now.body (Some x) (sym c.in_ok-recorded.ensures.value ∙ c.in-Some.is)
    ∙ ap (λ (t : Layers). trims d (record (put c.args.content.now r) { metadata = y.after; said = x.said; live = t.live; fixed = t.fixed; indexes = x.installed ∷ indexes_below x.combine c.args.content.now.indexes }) (job_of x)) (sym c.drop_layer.ensures)
    ∙ ap (λ (l : List InstalledIndex). trims d (record (put c.args.content.now r) { metadata = y.after; said = x.said; live = c.drop_layer.new.self.live; fixed = c.drop_layer.new.self.fixed; indexes = l }) (job_of x)) (sym c.in_ok-add_index.ensures.ok)
    ∙ ap (λ (z : RangeContent). trims d (put z r) (job_of x)) (sym c.take_appended-2.ensures)
    ∙ c.trims.ensures (job_of x) refl refl r
