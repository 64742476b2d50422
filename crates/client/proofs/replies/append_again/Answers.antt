use Rattle.std.proofs.Common.{rules}
use Rattle.client.proofs.replies.append_again.Goals as goal

pub returns-clause-ok : goal.returns-clause-ok
returns-clause-ok c = search rules
