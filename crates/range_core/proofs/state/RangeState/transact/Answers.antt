use Rattle.std.proofs.Common.{arith}
use Rattle.std.proofs.lemmas.Grind.{common_steps}
use Rattle.range_core.proofs.state.RangeState.transact.Goals as goal

pub take_back-requires : goal.take_back-requires
take_back-requires c = grind (arith, common_steps)
