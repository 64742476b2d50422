use Rattle.std.proofs.Common.{Some, ap}
use Rattle.std.proofs.lemmas.Result.{err_from_is_err_and}
use Rattle.block_types.specs.declared.record.Record.TheVariants as records
use Rattle.replica.specs.Groups.{text_length}
use Rattle.model_streams.specs.Node.{Replica}
use Rattle.enode_rules.proofs.Putting.{end_of}
use Rattle.enode_rules.proofs.RecordedRules.{performed_ok, performed_err, performed_short}
use Rattle.enode_rules.proofs.secondary.put_added.Goals as goal

pub returns-in-Ok : goal.returns-in-Ok
returns-in-Ok g c = performed_ok g.D.Disk.state c.args.hosted.now _ _ _ _ (records.Append c.args.extent (text_length c.args.hosted.now.content.groups) c.args.group.now) _ c.tell_length.new.step
    c.in-Ok.ensures.file (ap (λ (h : Replica). Some h) c.in-Ok.ensures.after)
    (cc (
      c.in_ok-tell_length.ensures.packets,
      c.places.ensures,
      c.replica-replica.ensures,
      end_of c.args.hosted.now.content.groups c.args.group.now c.len-offset.result c.size.result (cc (c.len-offset.ensures.value, c.replica-replica.ensures)) c.size.ensures.value,
    ))
    c.in_ok-tell_length.ensures.notes

pub returns-in-Err : goal.returns-in-Err
returns-in-Err g c = performed_err g.D.Disk.state c.args.hosted.now _ _ _ _ (records.Append c.args.extent (text_length c.args.hosted.now.content.groups) c.args.group.now) _ c.in-Err.fault c.in-Err.ensures.file c.in-Err.ensures.same

pub returns-in_err-tell_length : goal.returns-in_err-tell_length
returns-in_err-tell_length g c =
    let p = err_from_is_err_and c.from_residual.result c.from_residual.ensures.1 in
    rw p.1 (performed_short g.D.Disk.state c.args.hosted.now c.args.file.now _ p.0 (cc (p.2, c.in_err-tell_length.ensures.fault)))
