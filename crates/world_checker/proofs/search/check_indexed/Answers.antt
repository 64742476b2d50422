use Rattle.world_checker.proofs.search.check_indexed.Goals as goal
use Rattle.world_checker.proofs.Pairs.{none_exactly, least_breaks}

pub returns-in-Ok-clause-none : goal.returns-in-Ok-clause-none
returns-in-Ok-clause-none c = none_exactly c.in-Ok.found c.args.notes.now c.in-Ok.ensures.none c.in-Ok.ensures.least

pub returns-in-Ok-clause-least : goal.returns-in-Ok-clause-least
returns-in-Ok-clause-least c = least_breaks c.in-Ok.found c.args.notes.now c.in-Ok.ensures.least
