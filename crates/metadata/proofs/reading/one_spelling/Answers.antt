use Rattle.metadata.proofs.Laws.{one_spelling_law}
use Rattle.metadata.proofs.reading.one_spelling.Goals as goal

pub returns : goal.returns
returns c = λ a b fa fb same. one_spelling_law a b fa fb same
