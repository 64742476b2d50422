-- The faults of a file.
use Rattle.block_types.specs.declared.fault.BlockFault.{BlockFault}
use Rattle.block_types.specs.declared.fault.BlockFault.TheVariants as blocks
use Rattle.disk.specs.declared.device.DiskFault.{DiskFault}
use Rattle.disk.specs.declared.device.DiskFault.TheVariants as disks
use Rattle.disk.specs.declared.fault.FileFault.{FileFault}
use Rattle.disk.specs.declared.fault.FileFault.TheVariants as files

abbrev pub of_disk : DiskFault → FileFault
of_disk disks.Failed = files.Failed
of_disk disks.Memory = files.Memory

abbrev pub of_block : BlockFault → FileFault
of_block blocks.Damaged = files.Damaged
of_block blocks.Memory = files.Memory
