use Rattle.std.proofs.Common.{rules, ap, ◌∙◌}
use Rattle.std.specs.Result.{result_from_control_flow}
use Rattle.enode_replica.proofs.Written.{told_again}
use Rattle.enode_replica.proofs.node_replica.NodeReplica.fill.Goals as goal

pub returns-in_err-write_fill-clause-file : goal.returns-in_err-write_fill-clause-file
returns-in_err-write_fill-clause-file g c = search rules

pub returns-clause-file : goal.returns-clause-file
returns-clause-file g c = told_again g.D.Disk.state _ _ _ c.write_fill.result _ (c.branch-write_fill.ensures ∙ ap result_from_control_flow c.in_ok-write_fill.is) c.write_fill.ensures
