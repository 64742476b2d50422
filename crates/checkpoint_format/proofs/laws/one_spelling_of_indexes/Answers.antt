use Rattle.checkpoint_format.proofs.Indexes.{index_takes, index_again}
use Rattle.checkpoint_format.proofs.laws.one_spelling_of_indexes.Goals as goal

pub returns-clause-read : goal.returns-clause-read
returns-clause-read c = index_again

pub returns-clause-spelled : goal.returns-clause-spelled
returns-clause-spelled c = λ bytes i fits e. (index_takes bytes i fits e).0
