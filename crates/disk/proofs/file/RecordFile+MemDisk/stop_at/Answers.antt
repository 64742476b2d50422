use Rattle.std.proofs.Common.{rules}
use Rattle.disk.proofs.file.RecordFile+MemDisk.stop_at.Goals as goal

pub invariant_of-self : goal.invariant_of-self
invariant_of-self c =
    let kept = c.self.invariant in
    rw c.stop_at.ensures.same (record {
      file = kept.file;
      running = λ running. let i = kept.running running in record { file = i.file; place = i.place; durable = i.durable };
    })

pub returns-clause-told : goal.returns-clause-told
returns-clause-told c = search rules

pub returns-clause-disk : goal.returns-clause-disk
returns-clause-disk c = search rules
