use Rattle.std.proofs.Common.{rules}
use Rattle.client.proofs.client.StreamClient.open_for_load.Goals as goal

pub returns-clause-load : goal.returns-clause-load
returns-clause-load c = search rules
