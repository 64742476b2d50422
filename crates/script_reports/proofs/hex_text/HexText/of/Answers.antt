use Rattle.std.proofs.Common.{rules}
use Rattle.script_reports.proofs.hex_text.HexText.of.Goals as goal

pub returns-then-is_empty : goal.returns-then-is_empty
returns-then-is_empty c = search rules
