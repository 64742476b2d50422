use Rattle.std.proofs.Common.{rules}
use Rattle.replica.proofs.replica.Replica.state.Goals as goal

pub returns-in-Frozen : goal.returns-in-Frozen
returns-in-Frozen c = search rules
