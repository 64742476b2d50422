use Rattle.std.proofs.Common.{length, arith, ap}
use Rattle.block_types.specs.declared.record.Version.{Version}
use Rattle.blocks.specs.Record.{group}
use Rattle.blocks.proofs.Bodies.{group_1, group_2}
use Rattle.blocks.proofs.measures.group_len.Goals as goal

pub returns-in-V1-clause-value : goal.returns-in-V1-clause-value
returns-in-V1-clause-value c =
    omega (arith, group_1 c.args.text.now, c.size-size.ensures.value, ap length c.blocks-count.ensures.value, ap (λ (v : Version). length (group v c.args.text.now)) c.in-V1.is)

pub returns-in-V2-clause-value : goal.returns-in-V2-clause-value
returns-in-V2-clause-value c =
    omega (arith, group_2 c.args.text.now, c.size-size.ensures.value, ap length c.blocks-count.ensures.value, ap (λ (v : Version). length (group v c.args.text.now)) c.in-V2.is)
