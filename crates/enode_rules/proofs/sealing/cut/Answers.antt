use Rattle.replica.specs.Reading.{groups_to}
use Rattle.enode_rules.proofs.Cutting.{cut_ok, cut_err}
use Rattle.enode_rules.proofs.sealing.cut.Goals as goal

pub returns-in-Ok : goal.returns-in-Ok
returns-in-Ok g c = cut_ok g.D.Disk.state c.args.node c.args.hosted.now _ c.args.packet.now c.args.extent c.args.length (groups_to c.args.length c.args.hosted.now.content.groups) _ _ c.in_ok-step.step
    (cc (c.is_boundary.ensures, c.replica.ensures, c.if-not-is_boundary.false)) c.in-Ok.ensures.after c.in_ok-step.ensures.packets c.in_ok-step.ensures.notes c.in-Ok.ensures.file

pub returns-in-Err : goal.returns-in-Err
returns-in-Err g c = cut_err g.D.Disk.state c.args.node c.args.hosted.now _ c.args.packet.now c.args.extent c.args.length (groups_to c.args.length c.args.hosted.now.content.groups) _ _ c.in-Err.fault
    (cc (c.is_boundary.ensures, c.replica.ensures, c.if-not-is_boundary.false)) c.in-Err.ensures.same c.in-Err.ensures.file
