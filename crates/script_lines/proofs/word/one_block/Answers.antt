use Rattle.std.proofs.Common.{◌∷◌, []}
use Rattle.script_lines.proofs.Copying.{too_many}
use Rattle.script_lines.proofs.word.one_block.Goals as goal

pub returns-in-None : goal.returns-in-None
returns-in-None c [] spelled = absurd spelled
returns-in-None c (bytes ∷ more) spelled = too_many c.args.word.now c.in-None.ensures.none bytes spelled.0
