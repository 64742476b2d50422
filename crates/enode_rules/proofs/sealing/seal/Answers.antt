use Rattle.std.proofs.Common.{rules}
use Rattle.enode_rules.proofs.sealing.seal.Goals as goal

pub returns : goal.returns
returns g c = search rules
