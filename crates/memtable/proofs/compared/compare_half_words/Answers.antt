use Rattle.std.proofs.Common.{ℕ, ◌+◌, ◌-◌, sym, ◌∙◌, arith}
use Rattle.memtable.proofs.Words.{by_lengths, fewer, none_before, word}
use Rattle.memtable.proofs.compared.compare_half_words.Goals as goal

pub returns-then-x-y : goal.returns-then-x-y
returns-then-x-y c =
    let xs = c.args.a.now in
    let ys = c.args.b.now in
    let first = word xs ys c.type_inv.a c.type_inv.b 0 4 _ _ (omega arith) (omega arith) c.half_word-x.ensures c.half_word-y.ensures (none_before xs ys) in
    c.cmp.ensures ∙ sym (first.apart c.if-x-y.true)

pub returns-then-x-y-2 : goal.returns-then-x-y-2
returns-then-x-y-2 c =
    let xs = c.args.a.now in
    let ys = c.args.b.now in
    let last : ℕ = c.args.both - 4 in
    let first = word xs ys c.type_inv.a c.type_inv.b 0 4 _ _ (omega arith) (omega arith) c.half_word-x.ensures c.half_word-y.ensures (none_before xs ys) in
    let second = word xs ys c.type_inv.a c.type_inv.b last 4 _ _ (omega arith) (omega arith) c.half_word-x-2.ensures c.half_word-y-2.ensures (fewer xs ys last 4 (omega arith) (first.alike c.if-x-y.false)) in
    c.cmp-then-x-y-2.ensures ∙ sym (second.apart c.if-x-y-2.true)

pub returns : goal.returns
returns c =
    let xs = c.args.a.now in
    let ys = c.args.b.now in
    let last : ℕ = c.args.both - 4 in
    let first = word xs ys c.type_inv.a c.type_inv.b 0 4 _ _ (omega arith) (omega arith) c.half_word-x.ensures c.half_word-y.ensures (none_before xs ys) in
    let second = word xs ys c.type_inv.a c.type_inv.b last 4 _ _ (omega arith) (omega arith) c.half_word-x-2.ensures c.half_word-y-2.ensures (fewer xs ys last 4 (omega arith) (first.alike c.if-x-y.false)) in
    c.cmp-2.ensures ∙ by_lengths xs ys c.args.both c.requires.both (fewer xs ys c.args.both (last + 4) (omega arith) (second.alike c.if-x-y-2.false))
