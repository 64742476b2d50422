use Rattle.model_streams.specs.StreamSystem.{start, run_moves}
use Rattle.laws_streams.proofs.RisingFences.{rises_on, made_with_fences}
use Rattle.laws_streams.proofs.Confirmations.{opened_rise, confirmed_settles}
use Rattle.laws_streams.proofs.AnsweredChecks.{fences_hold}
use Rattle.laws.proofs.extents.fences.Goals as goal

pub returns-clause-streams : goal.returns-clause-streams
returns-clause-streams c nodes target moves more = rises_on moves more (start nodes target)

pub returns-clause-extents : goal.returns-clause-extents
returns-clause-extents c nodes target moves move = made_with_fences (run_moves moves (start nodes target)) move

pub returns-clause-opened_once : goal.returns-clause-opened_once
returns-clause-opened_once c nodes target range first second before after a b = opened_rise before after (start nodes target) range first second a b

pub returns-clause-confirmed : goal.returns-clause-confirmed
returns-clause-confirmed c nodes target range generation before after confirming a = confirmed_settles before after confirming (start nodes target) range generation a

pub returns-clause-checked : goal.returns-clause-checked
returns-clause-checked c = fences_hold
