use Rattle.std.proofs.Common.{rules}
use Rattle.replica.proofs.kept.Kept.fill_fault.Goals as goal

pub returns-then-end-gt-LONGEST : goal.returns-then-end-gt-LONGEST
returns-then-end-gt-LONGEST c = search rules

pub returns-in-Some : goal.returns-in-Some
returns-in-Some c = search rules
