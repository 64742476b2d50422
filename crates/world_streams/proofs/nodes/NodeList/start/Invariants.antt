use Rattle.std.proofs.Common.{◌≡◌}
use Rattle.world_streams.specs.Nodes.{first_nodes}
use Rattle.world_streams.proofs.nodes.NodeList.start.Given as goal

abbrev pub invariant-loop-before : goal.invariant-loop-before
invariant-loop-before l = l.items.items ≡ first_nodes l.before
