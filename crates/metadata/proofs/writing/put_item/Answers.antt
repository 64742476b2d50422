use Rattle.std.proofs.Common.{arith}
use Rattle.std.proofs.lemmas.Grind.{common_steps}
use Rattle.metadata.proofs.writing.put_item.Goals as goal

pub returns-in_ok-put_position-in-Checkpoint : goal.returns-in_ok-put_position-in-Checkpoint
returns-in_ok-put_position-in-Checkpoint c = grind (arith, common_steps)

pub returns-in_ok-put_u8-in-Ranges : goal.returns-in_ok-put_u8-in-Ranges
returns-in_ok-put_u8-in-Ranges c = grind (arith, common_steps)

pub returns-in_ok-put_indexes-in-Regions : goal.returns-in_ok-put_indexes-in-Regions
returns-in_ok-put_indexes-in-Regions c = grind (arith, common_steps)

pub returns-in_ok-put_u64-in-SplitStatus-2 : goal.returns-in_ok-put_u64-in-SplitStatus-2
returns-in_ok-put_u64-in-SplitStatus-2 c = grind (arith, common_steps)
