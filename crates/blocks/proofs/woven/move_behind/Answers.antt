use Rattle.std.proofs.Common.{◌≡◌, ◌+◌, List, ap, sym, ◌∙◌, arith, get_or, set}
use Rattle.blocks.specs.declared.woven.Piece.{Piece}
use Rattle.blocks.proofs.Weaving.{partly, behind_end, next_moved}
use Rattle.blocks.proofs.woven.move_behind.Goals as goal

pub overflow_add-piece : goal.overflow_add-piece
overflow_add-piece c =
    let base = c.args.base in
    let all = c.args.pieces.now in
    let i = c.loop-index.index in
    let p = c.index-pieces-index.result in
    let here : p ≡ get_or (partly base i all) i p = c.index-pieces-index.is ∙ ap (λ (l : List Piece). get_or l i p) c.loop-index.invariant in
    let low = behind_end base 0 c.args.end all i p c.requires.placed c.loop-index-test.true here in
    let same = ap (λ (q : Piece). q.behind) c.index-pieces-index.is in
    omega (arith, low, same, c.requires.bound)

pub loop-index-preserved : goal.loop-index-preserved
loop-index-preserved c =
    let base = c.args.base in
    let i = c.loop-index.index in
    let p = c.index-pieces-index.result in
    ap (λ (q : Piece). let it : Piece = record q { behind = q.behind + base } in set c.loop-index.pieces i it) (sym c.index-pieces-index.is)
    ∙ next_moved base c.args.pieces.now c.loop-index.pieces i p c.loop-index-test.true c.loop-index.invariant c.index-pieces-index.is
