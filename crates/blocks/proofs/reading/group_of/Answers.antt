use Rattle.blocks.proofs.Ends.{number_end}
use Rattle.blocks.proofs.reading.group_of.Goals as goal

pub blocks_of-requires : goal.blocks_of-requires
blocks_of-requires c = number_end 1 c.args.bytes.now c.in_ok-count.count c.in_ok-count.rest.now c.args.text.now c.in_ok-count.ensures.read c.requires
