use Rattle.std.proofs.Common.{length, ℕ, List, ap, ◌∙◌, arith}
use Rattle.block_types.specs.declared.record.Record.{Record}
use Rattle.blocks.specs.Record.{groups}
use Rattle.blocks.proofs.Bodies.{span, body_length}
use Rattle.blocks.proofs.measures.body_len.Goals as goal

pub returns-in-Make : goal.returns-in-Make
returns-in-Make c = omega (arith, body_length c.args.version c.args.written.now, ap (λ (r : Record). span c.args.version r) c.in-Make.is)

pub returns-in-Append : goal.returns-in-Append
returns-in-Append c = omega (arith, body_length c.args.version c.args.written.now, ap (λ (r : Record). span c.args.version r) c.in-Append.is, c.group_len.ensures.value)

pub returns-in-Fence : goal.returns-in-Fence
returns-in-Fence c = omega (arith, body_length c.args.version c.args.written.now, ap (λ (r : Record). span c.args.version r) c.in-Fence.is)

pub returns-in-Freeze : goal.returns-in-Freeze
returns-in-Freeze c = omega (arith, body_length c.args.version c.args.written.now, ap (λ (r : Record). span c.args.version r) c.in-Freeze.is)

pub returns-in-Seal : goal.returns-in-Seal
returns-in-Seal c = omega (arith, body_length c.args.version c.args.written.now, ap (λ (r : Record). span c.args.version r) c.in-Seal.is)

pub returns-in-Fill : goal.returns-in-Fill
returns-in-Fill c = omega (arith, body_length c.args.version c.args.written.now, ap (λ (r : Record). span c.args.version r) c.in-Fill.is, c.groups_len.ensures, ap (λ (gs : List (List (List ℕ))). length (groups c.args.version gs)) (c.deref.ensures.value ∙ c.groups.view_is))
