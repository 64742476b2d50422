use Rattle.std.proofs.Common.{◌∙◌, ap}
use Rattle.stamp_answers.specs.FirstAnswers.{kept_at, pair_of}
use Rattle.stamp_answers.proofs.PairLemmas.{not_at}
use Rattle.stamp_answers.proofs.first_answers.FirstAnswers.remove.Goals as goal

pub returns-clause-elsewhere : goal.returns-clause-elsewhere
returns-clause-elsewhere c = λ k differ. c.remove.ensures.updates.2 (pair_of k) (not_at c.args.key.now k differ) ∙ ap (λ numbers. kept_at numbers k) c.self.view_is
