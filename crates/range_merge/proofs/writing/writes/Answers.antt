use Rattle.std.proofs.Common.{◌∙◌, sym, ap}
use Rattle.client.specs.Client.{ClientState}
use Rattle.model_partition.specs.declared.merge_job.MergePhase.TheVariants as phases
use Rattle.model_partition.specs.Merges.{appends_record, with_phase}
use Rattle.range_merge.proofs.RecordAppends.{appends_so, counted}
use Rattle.range_merge.proofs.writing.writes.Goals as goal

pub returns : goal.returns
returns c = λ l r m metadata_is blocks_are.
    ap (λ (x : ClientState). appends_record c.args.context.now l r c.args.job.now c.args.what x) (sym metadata_is)
    ∙ appends_so c.args.context.now l r c.args.job.now c.args.what c.args.metadata c.send-packet.new.client c.args.blocks c.send-packet.result blocks_are c.send-packet.ensures
    ∙ counted c.args.context.now l r (with_phase c.args.job.now (phases.Write c.args.what c.send-packet.new.client)) c.send-packet.result
