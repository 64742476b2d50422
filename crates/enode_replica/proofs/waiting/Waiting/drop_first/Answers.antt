use Rattle.enode_replica.proofs.Queued.{ends_drop}
use Rattle.enode_replica.proofs.waiting.Waiting.drop_first.Goals as goal

pub invariant_of-self : goal.invariant_of-self
invariant_of-self c = rw (c.drop_front.ensures, c.drop_front-2.ensures) (ends_drop c.args.count _ _ c.self.invariant)
