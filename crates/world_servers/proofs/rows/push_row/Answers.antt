use Rattle.std.proofs.Common.{rules}
use Rattle.world_servers.proofs.rows.push_row.Goals as goal

pub returns-in_ok-push-in-Some : goal.returns-in_ok-push-in-Some
returns-in_ok-push-in-Some c = search rules
