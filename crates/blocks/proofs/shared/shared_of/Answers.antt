use Rattle.std.proofs.Common.{arith}
use Rattle.std.proofs.lemmas.Grind.{common_steps}
use Rattle.blocks.proofs.Ends.{slice_end}
use Rattle.blocks.proofs.shared.shared_of.Goals as goal

pub returns-clause-read : goal.returns-clause-read
returns-clause-read c = grind (arith, common_steps)

pub returns-clause-end : goal.returns-clause-end
returns-clause-end c = slice_end c.args.len c.args.bytes.now c.args.text.now c.requires
