use Rattle.std.proofs.Common.{Some, ap}
use Rattle.std.proofs.lemmas.Result.{err_from_is_err_and}
use Rattle.block_types.specs.declared.record.Record.TheVariants as records
use Rattle.replica.specs.Groups.{text_length}
use Rattle.model_streams.specs.Node.{Replica}
use Rattle.enode_rules.proofs.RecordedRules.{performed_ok, performed_err, performed_short}
use Rattle.enode_rules.proofs.appending.append_taken.Goals as goal

pub returns-in-Ok : goal.returns-in-Ok
returns-in-Ok g c = performed_ok g.D.Disk.state c.args.hosted.now _ _ _ _ (records.Append c.args.extent (text_length c.args.hosted.now.content.groups) c.args.blocks.now) _ c.add_puts.new.step
    (rw c.in_ok-group.ensures at c.in-Ok.ensures.file) (ap (λ (h : Replica). Some h) (rw c.in_ok-group.ensures at c.in-Ok.ensures.after))
    (cc (c.in_ok-add_puts.ensures.packets, c.in_ok-group.ensures, c.places.ensures, c.len.ensures.value, c.replica-replica.ensures)) c.in_ok-add_puts.ensures.notes

pub returns-in-Err : goal.returns-in-Err
returns-in-Err g c = performed_err g.D.Disk.state c.args.hosted.now _ _ _ _ (records.Append c.args.extent (text_length c.args.hosted.now.content.groups) c.args.blocks.now) _ c.in-Err.fault (rw c.in_ok-group.ensures at c.in-Err.ensures.file) c.in-Err.ensures.same

pub returns-in_err-add_puts : goal.returns-in_err-add_puts
returns-in_err-add_puts g c =
    let p = err_from_is_err_and c.from_residual-in_err-add_puts.result c.from_residual-in_err-add_puts.ensures.1 in
    rw p.1 (performed_short g.D.Disk.state c.args.hosted.now c.args.file.now _ p.0 (cc (p.2, c.in_err-add_puts.ensures.fault)))
