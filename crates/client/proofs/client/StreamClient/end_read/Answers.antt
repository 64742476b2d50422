use Rattle.std.proofs.Common.{rules}
use Rattle.client.proofs.client.StreamClient.end_read.Goals as goal

pub returns : goal.returns
returns c = search rules
