use Rattle.std.proofs.Common.{Some, None, ap, ◌∙◌}
use Rattle.model_streams.specs.Node.{Replica, raise_written}
use Rattle.enode_rules.proofs.Raising.{raised_ok, raised_err}
use Rattle.enode_rules.proofs.checking.begin.Goals as goal

pub returns-in-Ok : goal.returns-in-Ok
returns-in-Ok g c = raised_ok g.D.Disk.state c.args.hosted.now _ _ _ _ (raise_written c.args.extent c.args.hosted.now.content c.args.generation) _ c.in_ok-step.step c.in-Ok.ensures.file
    (ap (λ (h : Replica). Some h) (ap (λ (h : Replica). record h { check = Some (record { generation = c.args.generation; asker = c.args.packet.now.from; request = c.args.request; second = None; third = None }) }) (c.hosted.view_is ∙ c.in-Ok.ensures.after)))
    (cc (c.in_ok-step.ensures.packets, c.places.ensures, c.replica.ensures)) c.in_ok-step.ensures.notes

pub returns-in-Err : goal.returns-in-Err
returns-in-Err g c = raised_err g.D.Disk.state c.args.hosted.now _ _ _ _ (raise_written c.args.extent c.args.hosted.now.content c.args.generation) _ c.in-Err.fault c.in-Err.ensures.file c.in-Err.ensures.same
