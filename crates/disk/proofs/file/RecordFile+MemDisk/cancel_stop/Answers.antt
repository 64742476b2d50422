use Rattle.std.proofs.Common.{rules}
use Rattle.disk.proofs.file.RecordFile+MemDisk.cancel_stop.Goals as goal

pub invariant_of-self : goal.invariant_of-self
invariant_of-self c =
    let kept = c.self.invariant in
    rw c.cancel_stop.ensures.same (record {
      file = kept.file;
      running = λ running. let i = kept.running running in record { file = i.file; place = i.place; durable = i.durable };
    })

pub returns-clause-steady : goal.returns-clause-steady
returns-clause-steady c = search rules

pub returns-clause-disk : goal.returns-clause-disk
returns-clause-disk c = search rules
