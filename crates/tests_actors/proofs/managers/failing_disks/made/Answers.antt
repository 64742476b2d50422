use Rattle.std.proofs.Common.{subst, sym}
use Rattle.disk.specs.declared.fault_disk.FaultDisk.{FaultDisk}
use Rattle.disk.specs.declared.memory.MemDisk.{MemDisk}
use Rattle.disk.specs.Disk.{Only}
use Rattle.disk.specs.Memory.{memory_state}
use Rattle.tests_actors.proofs.managers.failing_disks.made.Goals as goal

pub create-requires-clause-durable : goal.create-requires-clause-durable
create-requires-clause-durable c = subst (λ (f : FaultDisk MemDisk). Only (memory_state f.disk).seen (memory_state f.disk).may_leave) (sym c.new-disk.ensures) c.new.ensures.durable
