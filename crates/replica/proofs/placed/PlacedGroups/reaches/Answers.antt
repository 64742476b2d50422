use Rattle.replica.proofs.Spelling.{reach}
use Rattle.replica.proofs.placed.PlacedGroups.reaches.Goals as goal

pub returns-in-Some : goal.returns-in-Some
returns-in-Some c = reach c.args.self.now.groups c.args.end _ c.before-in-Some.result c.count.result c.in-Some.ensures.1 c.in-Some.ensures.0 c.before-in-Some.ensures c.count.ensures
