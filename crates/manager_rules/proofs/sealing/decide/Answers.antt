use Rattle.std.proofs.Common.{rules}
use Rattle.manager_rules.proofs.sealing.decide.Goals as goal

pub returns-in-Some-least_told : goal.returns-in-Some-least_told
returns-in-Some-least_told c = search rules
