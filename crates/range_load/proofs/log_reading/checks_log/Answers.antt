use Rattle.std.proofs.Common.{rules}
use Rattle.range_load.proofs.log_reading.checks_log.Goals as goal

pub returns-then-is_some : goal.returns-then-is_some
returns-then-is_some c = search rules
