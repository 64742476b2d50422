use Rattle.std.proofs.Common.{◌++◌, ap, arith}
use Rattle.replica.specs.Buffers.{Text}
use Rattle.replica.proofs.Buffering.{cut_before, cut_behind}
use Rattle.replica.proofs.buffers.Buffers.truncate.Goals as goal

pub returns-then-count-len : goal.returns-then-count-len
returns-then-count-len c =
    cut_before c.self.inside.full.items c.cut_full.new.full.items c.cut_full.result (c.self.inside.part ++ c.self.inside.last.bytes) c.truncate.new.self.bytes c.args.self.now.bytes c.args.count c.self.invariant
    (omega (arith, c.if-count-len.true, c.len.ensures)) c.cut_full.ensures.cut c.truncate.ensures (ap (λ (v : Text). v.bytes) c.self.view_is)

pub returns-else-count-len : goal.returns-else-count-len
returns-else-count-len c =
    cut_behind c.self.inside.full.items c.self.inside.part c.self.inside.last.bytes c.truncate-else-count-len.new.self c.truncate-else-count-len-2.new.self.bytes c.args.self.now.bytes c.args.count _ c.saturating_sub-behind.result c.self.invariant
    (omega (arith, c.if-count-len.false, c.len.ensures, c.len-else-count-len.ensures)) (omega (arith, c.len-else-count-len.ensures)) (omega (arith, c.saturating_sub-behind.ensures, c.len-else-count-len-2.ensures.value)) c.truncate-else-count-len.ensures c.truncate-else-count-len-2.ensures (ap (λ (v : Text). v.bytes) c.self.view_is)
