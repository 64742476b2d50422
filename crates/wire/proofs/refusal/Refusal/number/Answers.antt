use Rattle.std.proofs.Common.{rules}
use Rattle.wire.proofs.refusal.Refusal.number.Goals as goal

pub returns-in-ExtentFull : goal.returns-in-ExtentFull
returns-in-ExtentFull c = search rules
