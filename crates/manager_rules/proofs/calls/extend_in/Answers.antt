use Rattle.std.proofs.Common.{rules}
use Rattle.manager_rules.proofs.calls.extend_in.Goals as goal

pub returns-in-Err : goal.returns-in-Err
returns-in-Err c = search rules

pub returns-in-Ok-None : goal.returns-in-Ok-None
returns-in-Ok-None c = search rules

pub returns-in-Ok-Some : goal.returns-in-Ok-Some
returns-in-Ok-Some c = search rules
