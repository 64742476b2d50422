use Rattle.script_reports.proofs.ShortLines.{cleared}
use Rattle.script_reports.proofs.short_line.ShortLine.clear.Goals as goal

pub returns : goal.returns
returns c = cleared c.self.inside.bytes c.self.told
