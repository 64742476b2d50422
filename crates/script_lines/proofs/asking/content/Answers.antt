use Rattle.std.proofs.Common.{rules}
use Rattle.script_lines.proofs.asking.content.Goals as goal

pub returns : goal.returns
returns c = search rules
