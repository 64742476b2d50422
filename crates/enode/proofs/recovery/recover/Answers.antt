use Rattle.std.proofs.Common.{rules}
use Rattle.enode.proofs.Recovering.{recovers_kept}
use Rattle.enode.proofs.recovery.recover.Goals as goal

pub returns-in-Some-get_mut : goal.returns-in-Some-get_mut
returns-in-Some-get_mut c = recovers_kept c.args.number _ _ c.args.record_read c.in-Some.extent c.in-Some-get_mut.hosted.now c.recover.new.self c.recover.result
    (search rules) (search rules) (search rules) (search rules) c.recover.ensures
