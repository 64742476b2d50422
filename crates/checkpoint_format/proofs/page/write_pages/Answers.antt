use Rattle.checkpoint_format.proofs.Writing.{text_bounds}
use Rattle.checkpoint_format.proofs.page.write_pages.Goals as goal

pub add_entry-requires-clause-count : goal.add_entry-requires-clause-count
add_entry-requires-clause-count c = (text_bounds _ _ _ _ c.loop-key.invariant.2).0

pub add_entry-requires-clause-room : goal.add_entry-requires-clause-room
add_entry-requires-clause-room c = (text_bounds _ _ _ _ c.loop-key.invariant.2).1

pub page-requires-clause-count : goal.page-requires-clause-count
page-requires-clause-count c = (text_bounds _ _ _ _ c.loop-key.invariant.2).0

pub page-requires-clause-room : goal.page-requires-clause-room
page-requires-clause-room c = (text_bounds _ _ _ _ c.loop-key.invariant.2).1
