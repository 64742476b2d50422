use Rattle.std.proofs.Common.{◌∙◌, ap, sym}
use Rattle.model_streams.specs.Node.{contents}
use Rattle.world_nodes.proofs.Seen.{find-sorted}
use Rattle.script_run.specs.Output.{node_report, replica_report}
use Rattle.script_run.proofs.happening.look.Goals as goal

pub returns-in-Some : goal.returns-in-Some
returns-in-Some c =
    c.look_at.ensures
    ∙ ap (λ found. replica_report c.args.node c.args.extent (contents found)) (sym (find-sorted c.in-Some.looked.now.replicas c.args.extent))
    ∙ ap (node_report c.args.node c.args.extent) c.in-Some.ensures
