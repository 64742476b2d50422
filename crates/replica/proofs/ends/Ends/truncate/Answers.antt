use Rattle.std.proofs.Common.{subst, sym}
use Rattle.replica.specs.Ends.{RiseAbove}
use Rattle.replica.proofs.Searching.{rise-take}
use Rattle.replica.proofs.ends.Ends.truncate.Goals as goal

pub invariant_of-self : goal.invariant_of-self
invariant_of-self c = subst (RiseAbove 0) (sym c.truncate.ensures.items) (rise-take 0 c.self.inside.ends.items c.args.count c.self.invariant)
