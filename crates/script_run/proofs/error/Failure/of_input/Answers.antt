use Rattle.std.proofs.Common.{rules}
use Rattle.script_run.proofs.error.Failure.of_input.Goals as goal

pub returns-in_default : goal.returns-in_default
returns-in_default c = search rules
