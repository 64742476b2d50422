use Rattle.std.proofs.Common.{arith}
use Rattle.std.proofs.lemmas.Grind.{common_steps}
use Rattle.script_reports.proofs.report.ReportDisplay.fmt.Goals as goal

pub returns-in-Replica-clause-writes : goal.returns-in-Replica-clause-writes
returns-in-Replica-clause-writes g c = grind (arith, common_steps)
