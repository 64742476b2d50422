use Rattle.world_checker.proofs.search.check.Goals as goal
use Rattle.world_checker.proofs.Pairs.{none_exactly, least_breaks}

pub returns-clause-none : goal.returns-clause-none
returns-clause-none c = none_exactly c.first_break.result c.args.notes.now c.first_break.ensures.none c.first_break.ensures.least

pub returns-clause-least : goal.returns-clause-least
returns-clause-least c = least_breaks c.first_break.result c.args.notes.now c.first_break.ensures.least
