use Rattle.std.proofs.Common.{rules}
use Rattle.manager_state.proofs.reports.with_frozen.Goals as goal

pub returns-then-is_node-3 : goal.returns-then-is_node-3
returns-then-is_node-3 c = search rules
