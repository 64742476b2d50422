use Rattle.std.proofs.Common.{add-one, arith}
use Rattle.enode_replica.proofs.Covering.{none_covered, one_covered}
use Rattle.enode_replica.proofs.waiting.Waiting.covered.Goals as goal

pub returns-then-end_at-upto-clause-value : goal.returns-then-end_at-upto-clause-value
returns-then-end_at-upto-clause-value c =
    let inside = c.len-count.ensures.value in
    let none = none_covered c.args.upto c.loop-i.i c.args.self.now (omega arith) (omega arith) in
    omega arith

pub loop-i-preserved : goal.loop-i-preserved
loop-i-preserved c =
    let inside = c.len-count.ensures.value in
    let one = one_covered c.args.upto c.loop-i.i c.args.self.now (omega arith) (omega arith) in
    record { value = rw add-one (omega arith); looked = omega arith }
