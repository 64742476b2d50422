use Rattle.std.proofs.Common.{◌∙◌, ◌∷◌, [], Some, sym, ap}
use Rattle.model_partition.specs.CheckpointStates.{CheckpointState}
use Rattle.model_partition.specs.Range.{goes}
use Rattle.model_partition.specs.RangeSteps.{put}
use Rattle.model_partition.specs.Checkpoints.{have_places}
use Rattle.range_checkpoint.proofs.Noted.{trims_are}
use Rattle.range_checkpoint.proofs.trim.trims.Goals as goal

pub returns : goal.returns
returns c = λ job noted number r.
    trims_are c.args.context.now (put c.args.content.now r) job c.args.position.now c.args.next c.trim_index-before.result c.have_places-to_blob.result c.next_request-request.result c.trim_packet-packet.result
    noted number c.trim_index-before.ensures (c.have_places-to_blob.ensures ∙ ap have_places c.as_slice.ensures.is) c.next_request-request.ensures (c.trim_packet-packet.ensures r)
    ∙ ap (λ (j : CheckpointState). goes c.args.context.now (record (put c.args.content.now r) { control = Some j }) (c.trim_packet-packet.result ∷ []) []) (sym c.trim_job.ensures)
