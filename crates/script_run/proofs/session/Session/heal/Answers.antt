use Rattle.std.proofs.Common.{rules}
use Rattle.script_run.proofs.session.Session.heal.Goals as goal

pub returns : goal.returns
returns c = search rules
