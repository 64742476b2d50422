use Rattle.std.proofs.Common.{rules}
use Rattle.client.proofs.replies.checked.Goals as goal

pub returns-in-None : goal.returns-in-None
returns-in-None c = search rules
