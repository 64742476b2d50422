use Rattle.std.proofs.Common.{rules}
use Rattle.enode_rules.proofs.sending.add_puts.Goals as goal

pub returns-clause-packets : goal.returns-clause-packets
returns-clause-packets c = search rules
