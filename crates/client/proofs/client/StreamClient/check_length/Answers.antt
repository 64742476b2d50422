use Rattle.std.proofs.Common.{rules}
use Rattle.client.proofs.client.StreamClient.check_length.Goals as goal

pub returns-in-None-length-clause-ok : goal.returns-in-None-length-clause-ok
returns-in-None-length-clause-ok c = search rules
