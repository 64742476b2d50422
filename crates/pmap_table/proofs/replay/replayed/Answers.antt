use Rattle.std.proofs.Common.{arith}
use Rattle.std.proofs.lemmas.Result.{err_from_is_err_and}
use Rattle.pmap_table.proofs.OneMoreRecord.{made_more, fits_there}
use Rattle.pmap_table.proofs.replay.replayed.Goals as goal

pub loop-record_read-preserved : goal.loop-record_read-preserved
loop-record_read-preserved c =
    made_more c.args.records.now c.loop-record_read.record_read-index c.record_read-item.result c.loop-record_read.table.map c.recover.new.table.map
    (omega arith) c.record_read-item.is c.loop-record_read.invariant c.in_ok-recover.ensures.fits c.in_ok-recover.ensures.after

pub returns-in_err-recover-clause-damaged : goal.returns-in_err-recover-clause-damaged
returns-in_err-recover-clause-damaged c = λ fits damaged.
    let p = err_from_is_err_and c.from_residual-in_err-recover.result c.from_residual-in_err-recover.ensures.1 in
    let here = fits_there c.args.records.now c.loop-record_read.record_read-index c.record_read-item.result c.loop-record_read.table.map
    (omega arith) c.record_read-item.is c.loop-record_read.invariant fits in
    absurd (let not_here = c.in_err-recover.ensures.damaged (cc (damaged, p.1, p.2)) in cc)
