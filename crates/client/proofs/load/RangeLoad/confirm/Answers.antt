use Rattle.std.proofs.Common.{rules}
use Rattle.client.proofs.load.RangeLoad.confirm.Goals as goal

pub returns-in-Opened-clause-asked : goal.returns-in-Opened-clause-asked
returns-in-Opened-clause-asked c = search rules
