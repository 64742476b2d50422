use Rattle.std.proofs.Common.{sym, ◌∙◌, arith}
use Rattle.memtable.proofs.Words.{by_lengths, byte, fewer}
use Rattle.memtable.proofs.compared.compare_bytes.Goals as goal

pub returns-then-a-at : goal.returns-then-a-at
returns-then-a-at c =
    let here = byte c.args.a.now c.args.b.now c.type_inv.a c.type_inv.b c.loop-at.at (omega arith) (omega arith) c.loop-at.invariant in
    c.cmp.ensures ∙ sym (here.apart c.if-a-at.true)

pub returns : goal.returns
returns c = c.cmp-2.ensures ∙ by_lengths c.args.a.now c.args.b.now c.args.both c.requires (fewer c.args.a.now c.args.b.now c.args.both c.loop-at.at (omega arith) c.loop-at.invariant)
