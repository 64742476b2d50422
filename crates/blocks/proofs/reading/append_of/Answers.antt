use Rattle.blocks.proofs.Ends.{number_end}
use Rattle.blocks.proofs.reading.append_of.Goals as goal

pub group_of-requires : goal.group_of-requires
group_of-requires c =
    let after_extent = number_end 8 c.args.fields.now c.in_ok-extent.extent c.in_ok-extent.rest.now c.args.text.now c.in_ok-extent.ensures.read c.requires in
    number_end 4 c.in_ok-extent.rest.now c.in_ok-offset.offset c.in_ok-offset.rest.now c.args.text.now c.in_ok-offset.ensures.read after_extent
