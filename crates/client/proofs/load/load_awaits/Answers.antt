use Rattle.std.proofs.Common.{rules}
use Rattle.client.proofs.load.load_awaits.Goals as goal

pub returns-in-Confirming : goal.returns-in-Confirming
returns-in-Confirming c = search rules
