-- What was told of extents, and what one observation more makes of it.
use Rattle.std.specs.Prelude.{◌≡◌, ℕ, ◌+◌, ◌≤◌, ◌⊎◌, Option, Some, None}
use Rattle.std.specs.BTreeMap.{get}
use Rattle.std.specs.Ordering.{nat_cmp}
use Rattle.wire.specs.declared.note.Note.{Note}
use Rattle.wire.specs.declared.note.Note.TheVariants.{Acked, SealedAt}
use Rattle.replica.specs.Groups.{size}
use Rattle.model_streams.specs.Pairs.{Compatible}
use Rattle.world_checker.specs.declared.told.Told.{Told}
use Rattle.world_checker.specs.Checking.{extent_of, IsTold}

-- no group was acknowledged, and the extent was not sealed
pub record IsNothing (told : Told) : Type 0 where
  pub none : (end : ℕ) → get nat_cmp told.starts end ≡ None
  pub unsealed : told.sealed ≡ None

-- no acknowledged group has a byte from the offset on and before the end
abbrev pub IsFree : Told → ℕ → ℕ → Type 0
IsFree told offset end = (last first : ℕ) → get nat_cmp told.starts last ≡ Some first → (last ≤ offset) ⊎ (end ≤ first)

-- no acknowledged group ends above a length
abbrev pub IsWithin : Told → ℕ → Type 0
IsWithin told length = (end start : ℕ) → get nat_cmp told.starts end ≡ Some start → end ≤ length

-- the extent was not sealed below an end
abbrev pub IsOpen : Told → ℕ → Type 0
IsOpen told end = (length : ℕ) → told.sealed ≡ Some length → end ≤ length

-- one acknowledged group more, which stands apart from the others
pub record Acknowledges (offset end : ℕ) (old new : Told) : Type 0 where
  pub free : IsFree old offset end
  pub unsealed : IsOpen old end
  pub there : get nat_cmp new.starts end ≡ Some offset
  pub keeps : (last first : ℕ) → get nat_cmp old.starts last ≡ Some first → get nat_cmp new.starts last ≡ Some first
  pub sealed : new.sealed ≡ old.sealed

-- a length at which the extent was sealed, which is the one of before if there is one
pub record Seals (length : ℕ) (old new : Told) : Type 0 where
  pub within : IsWithin old length
  pub same : (other : ℕ) → old.sealed ≡ Some other → other ≡ length
  pub there : new.sealed ≡ Some length
  pub keeps : (last first : ℕ) → get nat_cmp old.starts last ≡ Some first → get nat_cmp new.starts last ≡ Some first

-- what an observation tells is noted
abbrev pub Notes : Told → Note → Type 0
Notes told (Acked extent offset group) = get nat_cmp told.starts (offset + size group) ≡ Some offset
Notes told (SealedAt extent length) = told.sealed ≡ Some length
Notes told note = Unit {0}

-- one observation more of an extent, which is compatible with all that were noted of it
pub record Takes (note : Note) (old new : Told) : Type 0 where
  pub meets : IsTold note → (earlier : Note) → IsTold earlier → Notes old earlier → Compatible earlier note
  pub there : Notes new note
  pub keeps : (earlier : Note) → Notes old earlier → Notes new earlier

-- the same where nothing may have been told of the extent
abbrev pub NotesOf : Option Told → Note → Type 0
NotesOf (Some told) note = Notes told note
NotesOf None note = IsTold note → ⊥

-- one observation more, noted under its extent
pub record Tells (note : Note) (old new : ℕ → Option Told) : Type 0 where
  pub meets : (extent : ℕ) → extent_of note ≡ Some extent → IsTold note → (earlier : Note) → IsTold earlier → NotesOf (old extent) earlier → Compatible earlier note
  pub there : (extent : ℕ) → extent_of note ≡ Some extent → NotesOf (new extent) note
  pub keeps : (extent : ℕ) (earlier : Note) → NotesOf (old extent) earlier → NotesOf (new extent) earlier
