use Rattle.std.proofs.Common.{refl, ap, ◌∙◌}
use Rattle.std.specs.Result.{result_from_control_flow}
use Rattle.enode_replica.proofs.Written.{append_written}
use Rattle.enode_replica.proofs.recording.add_group.Goals as goal

pub returns-clause-file : goal.returns-clause-file
returns-clause-file g c = append_written g.D.Disk.state _ _ c.args.extent c.len-end.result _ c.args.group.now c.args.group.now c.write_append.result _
    c.len-end.ensures.value refl (c.branch-write_append.ensures ∙ ap result_from_control_flow c.in_ok-write_append.is) c.write_append.ensures
