-- The laws of a disk, for the disks of this crate.
use Rattle.std.proofs.Common.{inl, inr, ⊎_elim, ℕ, ◌≤◌, Bool, true, false, Option, None, List, [], ◌∷◌, length}
use Rattle.std.proofs.Math.Nat.{le_refl, le_trans, le-suc, not-suc-le_self}
use Rattle.std.specs.Prelude.{option_map}
use Rattle.disk.specs.Disk.{CountsNow, OnlyNow}
use Rattle.disk.specs.History.{Event, HeldSince}
use Rattle.disk.specs.Image.{ImageBytes, image_state}
use Rattle.disk.specs.Memory.{memory_state}
use Rattle.disk.specs.RealFile.{file_state}
use Rattle.disk.specs.declared.memory.MemDisk.{MemDisk}
use Rattle.disk.specs.declared.real.FileDisk.{FileDisk}

none_since : (t : ℕ) (es : List Event) (c : List ℕ) → length es ≤ t → HeldSince t es c → ⊥
none_since t [] c le had = had
none_since t (e ∷ es) c le (inl here) = not-suc-le_self (length es) (le_trans le here.0)
none_since t (e ∷ es) c le (inr there) = none_since t es c (le_trans (le-suc (length es)) le) there

image_only_now : (held : ImageBytes) (events : List Event) (stop : Option (ℕ × Bool)) (sure : Bool) → OnlyNow (image_state held events stop sure)
image_only_now held events stop sure c left = ⊎_elim (λ now. now) (λ had. absurd (none_since (length events) events c (le_refl (length events)) had)) left

pub memory_counts_now : (m : MemDisk) → CountsNow (memory_state m)
memory_counts_now m t c le now = inl now

pub memory_only_now : (m : MemDisk) → OnlyNow (memory_state m)
memory_only_now m = image_only_now m.image m.history.events (option_map (λ s. (s.calls, s.keep)) m.stop) true

pub file_counts_now : {F : Type 0} (disk : FileDisk F) → CountsNow (file_state disk)
file_counts_now disk t c le now = inl now

pub file_only_now : {F : Type 0} (disk : FileDisk F) → OnlyNow (file_state disk)
file_only_now disk = image_only_now disk.image disk.history.events None false
