use Rattle.checkpoint_format.proofs.Pages.{pages_read, pages_small, pages_some, pages_joined}
use Rattle.checkpoint_format.proofs.laws.pages_are_read.Goals as goal

pub returns-clause-read : goal.returns-clause-read
returns-clause-read c = pages_read

pub returns-clause-one_block : goal.returns-clause-one_block
returns-clause-one_block c = pages_small

pub returns-clause-some : goal.returns-clause-some
returns-clause-some c = pages_some

pub returns-clause-joined : goal.returns-clause-joined
returns-clause-joined c = pages_joined
