-- A node's faults, and those of its file.
use Rattle.std.proofs.Common.{◌≡◌, refl, Result, Ok, Err, IfOk, OnOk}
use Rattle.disk.specs.declared.fault.FileFault.{FileFault}
use Rattle.disk.specs.declared.fault.FileFault.TheVariants as files
use Rattle.wire.specs.declared.packet.Step.{Step}
use Rattle.enode_rules.specs.KeptStep.{told}
use Rattle.enode.specs.declared.fault.NodeFault.{NodeFault}
use Rattle.enode.specs.declared.fault.NodeFault.TheVariants as faults
use Rattle.enode.specs.Faults.{as_rule, of_file}

-- damage is what the file tells
pub file_damaged : (f : FileFault) → of_file f ≡ faults.Damaged → f ≡ files.Damaged
file_damaged files.Failed is = absurd (cc is)
file_damaged files.Damaged is = refl
file_damaged files.Memory is = absurd (cc is)

-- what is said of a rule's step is said of the call's
pub rule_step : (P : Step → Type 0) (r : Result Step NodeFault) → IfOk (as_rule r) P → IfOk r P
rule_step P (Ok s) h = h
rule_step P (Err e) h = tt

-- what is said of the step that a call tells is said of the step that it filled
pub told_step : {E : Type 0} (P : Step → Type 0) (r : Result Unit E) (s : Step) → IfOk (told r s) P → OnOk r (P s)
told_step P (Ok u) s h = h
told_step P (Err e) s h = tt
