use Rattle.stamp_run.proofs.KeepLemmas.{pass_looks}
use Rattle.stamp_run.proofs.trace.TraceOf.look.Goals as goal

pub invariant_of-pass : goal.invariant_of-pass
invariant_of-pass g c =
    pass_looks _ c.look.result c.pass.inside.user c.pass.inside.pass c.look.new.pass _ c.look.ensures.looks c.look.ensures.err c.pass.invariant.0 c.pass.invariant.1
