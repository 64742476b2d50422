use Rattle.std.proofs.Common.{inl, subst}
use Rattle.enode.specs.Node.{IsRestart}
use Rattle.enode.proofs.Recovering.{restart_replays}
use Rattle.enode.proofs.node.recovered.Goals as goal

pub invariant_of-result : goal.invariant_of-result
invariant_of-result g c =
    let all = restart_replays _ _ _ (subst (IsRestart c.args.number c.in-Ok.replicas.entries) c.requires c.in-Ok.ensures.ok) in
    record { fit = all.fits; made = inl all }
