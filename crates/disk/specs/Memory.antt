-- A disk in memory, and the image of a real file.
use Rattle.std.specs.Prelude.{option_map, true}
use Rattle.disk.specs.Disk.{DiskState}
use Rattle.disk.specs.Image.{image_state}
use Rattle.disk.specs.declared.memory.MemDisk.{MemDisk}

abbrev pub memory_state : MemDisk → DiskState
memory_state m = image_state m.image m.history.events (option_map (λ s. (s.calls, s.keep)) m.stop) true
