-- What a list of observations is tested for, one after the other.
use Rattle.std.specs.Prelude.{ℕ, ◌<◌, ◌≤◌, List, slice_index_or, Option, Some, None}
use Rattle.wire.specs.declared.note.Note.{Note}
use Rattle.wire.specs.declared.note.Note.TheVariants.{Acked, SealedAt, Content, Seen}
use Rattle.model_streams.specs.Honest.{Agree, Kept}
use Rattle.model_streams.specs.Pairs.{Compatible}

-- all that is shown agrees, and what is acknowledged is kept
abbrev pub IsHonest : List Note → Type 0
IsHonest notes = Agree notes × Kept notes

-- the extent that an observation is of, if it is of one
abbrev pub extent_of : Note → Option ℕ
extent_of (Acked extent offset group) = Some extent
extent_of (SealedAt extent length) = Some extent
extent_of (Content extent node groups) = Some extent
extent_of (Seen extent node offset bytes) = Some extent
extent_of _ = None

-- an observation that tells of an extent: a group was acknowledged, or it was sealed
abbrev pub IsTold : Note → Type 0
IsTold (Acked extent offset group) = Unit {0}
IsTold (SealedAt extent length) = Unit {0}
IsTold _ = ⊥

-- the earlier observations from low on are compatible with the one at a place
abbrev pub MeetsFrom : List Note → ℕ → ℕ → Type 0
MeetsFrom notes place low =
    (i : ℕ) (d : Note) → low ≤ i → i < place → Compatible (slice_index_or notes i d) (slice_index_or notes place d)

-- each of the first observations is compatible with all before it
abbrev pub AllMeet : List Note → ℕ → Type 0
AllMeet notes count = (place : ℕ) → place < count → MeetsFrom notes place 0

-- the earlier observations that tell of extents are compatible with the one at a place
abbrev pub MeetsTold : List Note → ℕ → Type 0
MeetsTold notes place =
    (i : ℕ) (d : Note) → i < place → IsTold (slice_index_or notes i d) → Compatible (slice_index_or notes i d) (slice_index_or notes place d)

-- of the first observations those that tell of extents are compatible
abbrev pub ToldMeet : List Note → ℕ → Type 0
ToldMeet notes count = (place : ℕ) (d : Note) → place < count → IsTold (slice_index_or notes place d) → MeetsTold notes place
