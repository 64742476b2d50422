use Rattle.commitlog.proofs.Laws.{one_spelling_law}
use Rattle.commitlog.proofs.reading.one_spelling.Goals as goal

pub returns : goal.returns
returns c = one_spelling_law
