use Rattle.std.proofs.Common.{sym}
use Rattle.blocks.proofs.Bodies.{groups_length}
use Rattle.blocks.proofs.measures.groups_len.Goals as goal

pub loop-one-init : goal.loop-one-init
loop-one-init c = sym (groups_length c.args.version c.args.all.now)
