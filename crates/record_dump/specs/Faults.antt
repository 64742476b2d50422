-- The faults of bytes that are dumped.
use Rattle.block_types.specs.declared.fault.BlockFault.{BlockFault}
use Rattle.block_types.specs.declared.fault.BlockFault.TheVariants as blocks
use Rattle.record_dump.specs.declared.dumping.DumpFault.{DumpFault}
use Rattle.record_dump.specs.declared.dumping.DumpFault.TheVariants as dumps
use Rattle.record_dump.specs.declared.bytes_dump.BytesFault.{BytesFault}
use Rattle.record_dump.specs.declared.bytes_dump.BytesFault.TheVariants as faults

abbrev pub of_block : BlockFault → BytesFault
of_block blocks.Damaged = faults.Damaged
of_block blocks.Memory = faults.Memory

abbrev pub of_dump : DumpFault → BytesFault
of_dump dumps.Memory = faults.Memory
of_dump (dumps.Output error) = faults.Output error
