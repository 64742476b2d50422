use Rattle.std.proofs.Common.{rules}
use Rattle.script_run.proofs.printing.print_pieces.Goals as goal

pub returns-clause-printed : goal.returns-clause-printed
returns-clause-printed g c = search rules
