use Rattle.std.proofs.Common.{◌≡◌, ◌≤◌, ◌++◌, length, drop, vec_capacity}
use Rattle.blocks.specs.Woven.{woven, ArePlaced}
use Rattle.blocks.proofs.woven.join_into.Given as goal

abbrev pub invariant-loop-piece : goal.invariant-loop-piece
invariant-loop-piece l = record {
  placed : ArePlaced l.from (length l.own) (drop l.piece-index l.pieces);
  rest : l.out.items ++ woven l.from l.own (drop l.piece-index l.pieces) ≡ l.initial.out.items ++ woven 0 l.own l.pieces;
  room : vec_capacity l.initial.out ≤ vec_capacity l.out;
}
