use Rattle.blocks.specs.Record.{check}
use Rattle.blocks.proofs.Ends.{number_end, after_end}
use Rattle.blocks.proofs.reading.block_of.Goals as goal

pub shared_of-requires : goal.shared_of-requires
shared_of-requires c = number_end 4 c.args.bytes.now c.in_ok-len.len c.in_ok-len.rest.now c.args.text.now c.in_ok-len.ensures.read c.requires

pub returns-clause-end : goal.returns-clause-end
returns-clause-end c = after_end (check c.args.version c.as_slice.result.now) c.in_ok-block.rest.now c.in_ok-rest.rest.now c.args.text.now c.in_ok-rest.ensures.read c.in_ok-block.ensures.end
