-- What links of a list of observations say.
use Rattle.std.specs.Prelude.{◌≡◌, ◌≢◌, ◌⊎◌, ℕ, ◌+◌, ◌-◌, ◌<◌, ◌≤◌, List, length, slice_index, slice_index_or, Option, Some, None, unwrap_or}
use Rattle.wire.specs.declared.note.Note.{Note}
use Rattle.model_streams.specs.Pairs.{Compatible}
use Rattle.world_checker.specs.declared.index.Sought.{Sought}
use Rattle.world_checker.specs.declared.index.Sought.TheVariants.{All, Shown}
use Rattle.world_checker.specs.Checking.{extent_of, IsTold, ToldMeet}

-- the observations that links lead over: none, or those that tell of extents
abbrev pub IsPassed : Sought → Note → Type 0
IsPassed All note = ⊥
IsPassed Shown note = IsTold note

-- of this extent no observation stands from low on and before high but such as are passed
abbrev pub NoneOf : Sought → List Note → ℕ → ℕ → ℕ → Type 0
NoneOf sought notes extent low high =
    (i : ℕ) (d : Note) → low ≤ i → i < high → extent_of (slice_index_or notes i d) ≡ Some extent → IsPassed sought (slice_index_or notes i d)

-- a link leads from an observation back over none of its extent: the link is how many observations stand before that
abbrev pub IsLink : Sought → List Note → ℕ → ℕ → Type 0
IsLink sought notes place link =
    (link ≤ place) × ((extent : ℕ) (d : Note) → extent_of (slice_index_or notes place d) ≡ Some extent → NoneOf sought notes extent link place)

-- links of the first observations, which may be fewer than there are
abbrev pub AreLinks : Sought → List Note → List ℕ → Type 0
AreLinks sought notes links =
    (length links ≤ length notes) × ((place : ℕ) → place < length links → IsLink sought notes place (slice_index links place))

-- a link that is not 0 leads to an observation of the same extent, the one before it that is not passed
abbrev pub LeadsBack : Sought → List Note → ℕ → ℕ → Type 0
LeadsBack sought notes place link = (d : Note) → 0 < link
    → (extent_of (slice_index_or notes (link - 1) d) ≡ extent_of (slice_index_or notes place d)) × (IsPassed sought (slice_index_or notes (link - 1) d) → ⊥)

abbrev pub AllLead : Sought → List Note → List ℕ → Type 0
AllLead sought notes links = (place : ℕ) → place < length links → LeadsBack sought notes place (slice_index links place)

-- for an extent how many of the first observations there are up to its last one that is not passed, or 0
pub record IsUpTo (sought : Sought) (notes : List Note) (count extent up_to : ℕ) : Type 0 where
  pub within : up_to ≤ count
  pub last : NoneOf sought notes extent up_to count
  pub there : (d : Note) → 0 < up_to
      → (extent_of (slice_index_or notes (up_to - 1) d) ≡ Some extent) × (IsPassed sought (slice_index_or notes (up_to - 1) d) → ⊥)

abbrev pub IsLast : Sought → List Note → ℕ → (ℕ → Option ℕ) → Type 0
IsLast sought notes count last = (extent : ℕ) → IsUpTo sought notes count extent (unwrap_or (last extent) 0)

-- what one observation more makes of that
abbrev pub IsNoted : Sought → Note → ℕ → Option ℕ → Option ℕ → Type 0
IsNoted sought note place old new = ((new ≡ Some (place + 1)) × (IsPassed sought note → ⊥)) ⊎ ((new ≡ old) × IsPassed sought note)

-- the same for all extents, and the link of that observation
pub record IsStep (sought : Sought) (note : Note) (place : ℕ) (old new : ℕ → Option ℕ) (link : ℕ) : Type 0 where
  pub elsewhere : (extent : ℕ) → extent_of note ≢ Some extent → new extent ≡ old extent
  pub here : (extent : ℕ) → extent_of note ≡ Some extent → IsNoted sought note place (old extent) (new extent)
  pub leads : (extent : ℕ) → extent_of note ≡ Some extent → link ≡ unwrap_or (old extent) 0
  pub none : extent_of note ≡ None → link ≡ 0

-- the links lead from observations of the extent of the one at a place, up to that, back over such alone as are compatible with it
abbrev pub LeadOverMet : List Note → List ℕ → ℕ → Type 0
LeadOverMet notes links place = (from : ℕ) → from < length links → from ≤ place → (slice_index links from ≤ from)
    × ((i : ℕ) (d : Note) → extent_of (slice_index_or notes from d) ≡ extent_of (slice_index_or notes place d)
    → slice_index links from ≤ i → i < from → Compatible (slice_index_or notes i d) (slice_index_or notes place d))

-- an index of observations: links to all of an extent, links to those that show bytes of it, and how many of the first agree in what they tell
pub record IsIndex (notes : List Note) (all shown : List ℕ) (agreed : ℕ) : Type 0 where
  pub to_all : AreLinks All notes all
  pub to_shown : AreLinks Shown notes shown
  pub told : ToldMeet notes agreed
