use Rattle.std.proofs.Common.{rules}
use Rattle.range_replay.proofs.regions.holds.Goals as goal

pub returns-in-Some : goal.returns-in-Some
returns-in-Some c = search rules
