use Rattle.std.proofs.Common.{subst, sym}
use Rattle.disk.specs.declared.memory.MemDisk.{MemDisk}
use Rattle.disk.specs.Disk.{Only}
use Rattle.disk.specs.Memory.{memory_state}
use Rattle.tests_streams.proofs.versions.told.Goals as goal

pub returns-clause-durable : goal.returns-clause-durable
returns-clause-durable c = subst (λ (d : MemDisk). Only (memory_state d).seen (memory_state d).may_leave) (sym c.stop_at.ensures.same) c.new-disk.ensures.durable
