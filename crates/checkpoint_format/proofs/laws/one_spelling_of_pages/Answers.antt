use Rattle.checkpoint_format.proofs.Pages.{page_spelled, page_ascends, page_in_range}
use Rattle.checkpoint_format.proofs.laws.one_spelling_of_pages.Goals as goal

pub returns-clause-spelled : goal.returns-clause-spelled
returns-clause-spelled c = page_spelled

pub returns-clause-ascending : goal.returns-clause-ascending
returns-clause-ascending c = page_ascends

pub returns-clause-in_range : goal.returns-clause-in_range
returns-clause-in_range c = page_in_range
