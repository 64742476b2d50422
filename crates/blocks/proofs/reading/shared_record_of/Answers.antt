use Rattle.blocks.proofs.Ends.{number_end}
use Rattle.blocks.proofs.reading.shared_record_of.Goals as goal

pub shared_of-requires : goal.shared_of-requires
shared_of-requires c = number_end 4 c.args.bytes.now c.in_ok-len.len c.in_ok-len.rest.now c.args.text.now c.in_ok-len.ensures.read c.requires
