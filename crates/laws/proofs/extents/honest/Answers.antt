use Rattle.laws_streams.proofs.Invariant.{agree_always, kept_always, origins_always, agree_in_moves, kept_in_moves, origins_in_moves}
use Rattle.laws.proofs.extents.honest.Goals as goal

pub returns-clause-agree : goal.returns-clause-agree
returns-clause-agree c = agree_always

pub returns-clause-kept : goal.returns-clause-kept
returns-clause-kept c = kept_always

pub returns-clause-origins : goal.returns-clause-origins
returns-clause-origins c = origins_always

pub returns-clause-agree_moves : goal.returns-clause-agree_moves
returns-clause-agree_moves c = agree_in_moves

pub returns-clause-kept_moves : goal.returns-clause-kept_moves
returns-clause-kept_moves c = kept_in_moves

pub returns-clause-origins_moves : goal.returns-clause-origins_moves
returns-clause-origins_moves c = origins_in_moves
