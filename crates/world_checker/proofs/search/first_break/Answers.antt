use Rattle.std.proofs.Common.{rules}
use Rattle.world_checker.proofs.search.first_break.Goals as goal

pub returns-then-not-meets_earlier-clause-none : goal.returns-then-not-meets_earlier-clause-none
returns-then-not-meets_earlier-clause-none c = search rules
