use Rattle.blocks.proofs.Ends.{number_end}
use Rattle.blocks.proofs.reading.groups_of.Goals as goal

pub all_groups_of-requires : goal.all_groups_of-requires
all_groups_of-requires c = number_end 4 c.args.bytes.now c.in_ok-count.count c.in_ok-count.rest.now c.args.text.now c.in_ok-count.ensures.read c.requires
