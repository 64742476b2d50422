use Rattle.std.proofs.Common.{◌≡◌}
use Rattle.blocks.proofs.Weaving.{partly}
use Rattle.blocks.proofs.woven.move_behind.Given as goal

abbrev pub invariant-loop-index : goal.invariant-loop-index
invariant-loop-index l = l.pieces ≡ partly l.base l.index l.fn.pieces
