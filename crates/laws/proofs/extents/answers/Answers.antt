use Rattle.laws_streams.proofs.StreamAnswers.{openings_answered, confirmations_answered, extensions_answered}
use Rattle.laws_streams.proofs.SealAnswers.{seals_answered}
use Rattle.laws_streams.proofs.ContentAnswers.{content_answered}
use Rattle.laws_streams.proofs.TrimmedBases.{bases_trimmed}
use Rattle.laws.proofs.extents.answers.Goals as goal

pub returns-clause-opened : goal.returns-clause-opened
returns-clause-opened c = openings_answered

pub returns-clause-confirmed : goal.returns-clause-confirmed
returns-clause-confirmed c = confirmations_answered

pub returns-clause-extended : goal.returns-clause-extended
returns-clause-extended c = extensions_answered

pub returns-clause-sealed : goal.returns-clause-sealed
returns-clause-sealed c = seals_answered

pub returns-clause-content : goal.returns-clause-content
returns-clause-content c = content_answered

pub returns-clause-bases : goal.returns-clause-bases
returns-clause-bases c = bases_trimmed
