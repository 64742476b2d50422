use Rattle.std.proofs.Common.{rules}
use Rattle.script_reports.proofs.telling.report_note.Goals as goal

pub returns-in-Seen : goal.returns-in-Seen
returns-in-Seen c = search rules
