use Rattle.blocks.proofs.Ends.{number_end}
use Rattle.blocks.proofs.reading.fill_of.Goals as goal

pub groups_of-requires : goal.groups_of-requires
groups_of-requires c =
    let text = c.args.text.now in
    let after_extent = number_end 8 c.args.fields.now c.in_ok-extent.extent c.in_ok-extent.rest.now text c.in_ok-extent.ensures.read c.requires in
    let after_from = number_end 4 c.in_ok-extent.rest.now c.in_ok-from.from c.in_ok-from.rest.now text c.in_ok-from.ensures.read after_extent in
    number_end 4 c.in_ok-from.rest.now c.in_ok-length.length c.in_ok-length.rest.now text c.in_ok-length.ensures.read after_from
