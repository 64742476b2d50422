use Rattle.std.proofs.Common.{rules}
use Rattle.client.proofs.client.StreamClient.give_up.Goals as goal

pub returns-in-Sent : goal.returns-in-Sent
returns-in-Sent c = search rules
