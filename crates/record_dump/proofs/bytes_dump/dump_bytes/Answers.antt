use Rattle.std.proofs.Common.{◌≡◌, ap, refl, Result, Ok, Err}
use Rattle.std.specs.Result.{IsErrAnd, IsErrOf}
use Rattle.block_types.specs.declared.fault.BlockFault.{BlockFault}
use Rattle.block_types.specs.declared.fault.BlockFault.TheVariants as blocks
use Rattle.record_dump.specs.declared.bytes_dump.BytesFault.{BytesFault}
use Rattle.record_dump.specs.declared.bytes_dump.BytesFault.TheVariants as faults
use Rattle.record_dump.specs.Faults.{of_block}
use Rattle.record_dump.proofs.bytes_dump.dump_bytes.Goals as goal

damaged_on : {T : Type 0} (result : Result T BytesFault) (fault : BlockFault) → IsErrAnd result (λ e. e ≡ of_block fault) → IsErrOf result faults.Damaged → fault ≡ blocks.Damaged
damaged_on (Ok x) fault is told = absurd is
damaged_on (Err e) blocks.Damaged is told = refl
damaged_on (Err e) blocks.Memory is told = cc

pub returns-in_err-records-clause-damaged : goal.returns-in_err-records-clause-damaged
returns-in_err-records-clause-damaged g c =
    λ told text is. c.in_err-records.ensures.damaged (ap (λ (e : BlockFault). Err e) (damaged_on c.from_residual.result c.in_err-records.field-0.0 c.from_residual.ensures.1 told)) is.version is.records is.is
