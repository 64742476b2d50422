-- The faults of a node.
use Rattle.std.specs.Prelude.{Result, Ok, Err}
use Rattle.disk.specs.declared.device.DiskFault.{DiskFault}
use Rattle.disk.specs.declared.device.DiskFault.TheVariants as disks
use Rattle.disk.specs.declared.fault.FileFault.{FileFault}
use Rattle.disk.specs.declared.fault.FileFault.TheVariants as files
use Rattle.wire.specs.declared.packet.Step.{Step}
use Rattle.wire.specs.declared.refusal.Refusal.{Refusal}
use Rattle.wire.specs.declared.refusal.Refusal.TheVariants as refusals
use Rattle.enode.specs.declared.fault.NodeFault.{NodeFault}
use Rattle.enode.specs.declared.fault.NodeFault.TheVariants as faults

abbrev pub of_file : FileFault → NodeFault
of_file files.Failed = faults.Failed
of_file files.Damaged = faults.Damaged
of_file files.Memory = faults.Memory

abbrev pub refusal_of : NodeFault → Refusal
refusal_of faults.Failed = refusals.DiskFailed
refusal_of faults.Damaged = refusals.Damaged
refusal_of faults.Memory = refusals.Memory

-- the answer of a call that found no damage, as a rule's
abbrev pub rule_fault : NodeFault → DiskFault
rule_fault faults.Failed = disks.Failed
rule_fault fault = disks.Memory

abbrev pub as_rule : Result Step NodeFault → Result Step DiskFault
as_rule (Ok step) = Ok step
as_rule (Err fault) = Err (rule_fault fault)
