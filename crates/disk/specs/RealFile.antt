-- The image of a real file. Of the file's own bytes nothing is said.
use Rattle.std.specs.Prelude.{◌≡◌, ◌≤◌, [], length, None, true, false, Result, IsOk, IsErrOf}
use Rattle.disk.specs.declared.device.DiskFault.{DiskFault}
use Rattle.disk.specs.declared.device.DiskFault.TheVariants.{Failed}
use Rattle.disk.specs.Disk.{DiskState}
use Rattle.disk.specs.Image.{image_state}
use Rattle.disk.specs.declared.real.FileDisk.{FileDisk}

-- such a disk can fail at any call, and is not told to
abbrev pub file_state : {F : Type 0} → FileDisk F → DiskState
file_state disk = image_state disk.image disk.history.events None false

-- a disk that was just made of a file: it has not failed, it knows the file's size, and nothing is made sure of
pub record IsNew {F : Type 0} (disk : FileDisk F) : Type 0 where
  pub broken : disk.broken ≡ false
  pub size : disk.size ≡ length (file_state disk).seen
  pub failures : (file_state disk).failures ≡ 0
  pub moment : (file_state disk).moment ≡ 0
  pub synced : (file_state disk).synced ≡ []

-- unless it has failed, the file reaches to the end of the image, so that it grows after all of the image's bytes
abbrev pub IsWhole : {F : Type 0} → FileDisk F → Type 0
IsWhole disk = disk.broken ≡ false → length (file_state disk).seen ≤ disk.size

-- a file that does not grow ahead ends where the image ends, unless it has failed
abbrev pub IsExact : {F : Type 0} → FileDisk F → Type 0
IsExact disk = (disk.ahead ≡ false) × (disk.broken ≡ false → disk.size ≡ length (file_state disk).seen)

-- a call that fails breaks the disk, and no call of a broken one succeeds
pub record StaysBroken {F T : Type 0} (old new : FileDisk F) (result : Result T DiskFault) : Type 0 where
  pub breaks : IsErrOf result Failed → new.broken ≡ true
  pub stays : old.broken ≡ true → new.broken ≡ true
  pub fails : old.broken ≡ true → IsOk result → ⊥
