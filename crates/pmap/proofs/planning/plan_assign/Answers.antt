use Rattle.std.proofs.Common.{rules}
use Rattle.pmap.proofs.planning.plan_assign.Goals as goal

pub returns-clause-rule : goal.returns-clause-rule
returns-clause-rule c = search rules
