use Rattle.std.proofs.Common.{ℕ, ◌+◌, ◌-◌, sym, ◌∙◌, arith}
use Rattle.memtable.proofs.Words.{by_lengths, fewer, word}
use Rattle.memtable.proofs.compared.compare_words.Goals as goal

pub returns-then-x-y : goal.returns-then-x-y
returns-then-x-y c =
    let here = word c.args.a.now c.args.b.now c.type_inv.a c.type_inv.b c.loop-at.at 8 _ _ (omega arith) (omega arith) c.word-x.ensures c.word-y.ensures c.loop-at.invariant.alike in
    c.cmp.ensures ∙ sym (here.apart c.if-x-y.true)

pub loop-at-preserved : goal.loop-at-preserved
loop-at-preserved c =
    let here = word c.args.a.now c.args.b.now c.type_inv.a c.type_inv.b c.loop-at.at 8 _ _ (omega arith) (omega arith) c.word-x.ensures c.word-y.ensures c.loop-at.invariant.alike in
    record { alike = here.alike c.if-x-y.false; within = omega arith }

-- the last word begins within what is alike
pub returns-then-x-y-2 : goal.returns-then-x-y-2
returns-then-x-y-2 c =
    let xs = c.args.a.now in
    let ys = c.args.b.now in
    let last : ℕ = c.args.both - 8 in
    let here = word xs ys c.type_inv.a c.type_inv.b last 8 _ _ (omega arith) (omega arith) c.word-x-2.ensures c.word-y-2.ensures (fewer xs ys last c.loop-at.at (omega arith) c.loop-at.invariant.alike) in
    c.cmp-then-x-y-2.ensures ∙ sym (here.apart c.if-x-y-2.true)

pub returns : goal.returns
returns c =
    let xs = c.args.a.now in
    let ys = c.args.b.now in
    let last : ℕ = c.args.both - 8 in
    let here = word xs ys c.type_inv.a c.type_inv.b last 8 _ _ (omega arith) (omega arith) c.word-x-2.ensures c.word-y-2.ensures (fewer xs ys last c.loop-at.at (omega arith) c.loop-at.invariant.alike) in
    c.cmp-2.ensures ∙ by_lengths xs ys c.args.both c.requires.both (fewer xs ys c.args.both (last + 8) (omega arith) (here.alike c.if-x-y-2.false))
