use Rattle.std.proofs.Common.{rules, arith}
use Rattle.std.proofs.lemmas.Grind.{common_steps}
use Rattle.block_types.specs.Limits.{are_nodes}
use Rattle.block_types.proofs.record.Nodes.are_distinct_nodes.Goals as goal

pub returns-then-self-2-clause-value : goal.returns-then-self-2-clause-value
unfolding are_nodes
returns-then-self-2-clause-value c = search rules

pub returns-then-self-2-clause-nodes : goal.returns-then-self-2-clause-nodes
unfolding are_nodes
returns-then-self-2-clause-nodes c = search rules

pub returns-else-self-2-clause-nodes : goal.returns-else-self-2-clause-nodes
returns-else-self-2-clause-nodes c = grind (arith, common_steps)
