use Rattle.std.proofs.Common.{arith}
use Rattle.replica.proofs.open.OpenReplica.put_in_place.Goals as goal

pub invariant_of-self : goal.invariant_of-self
invariant_of-self c = (c.self.invariant.0, omega (arith, c.len-2.ensures, c.if-len-self.false, c.put.ensures.within))
