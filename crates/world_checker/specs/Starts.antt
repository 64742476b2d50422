-- Where the groups that an observation shows begin.
use Rattle.std.specs.Prelude.{◌≡◌, ℕ, ◌<◌, ◌≤◌, List, Vec, length, take, slice_index, slice_index_or}
use Rattle.std.specs.declared.alloc.Global.{Global}
use Rattle.wire.specs.declared.note.Note.{Note}
use Rattle.wire.specs.declared.note.Note.TheVariants.{Content}
use Rattle.replica.specs.Groups.{Group, text_length}

-- the first of the groups, or all, begin there
abbrev pub AreStarts : List Group → List ℕ → Type 0
AreStarts groups starts = (k : ℕ) → k < length starts → (k ≤ length groups) × (slice_index starts k ≡ text_length (take k groups))

-- the groups that an observation shows, if it shows some
abbrev pub AreStartsOf : Note → List ℕ → Type 0
AreStartsOf (Content extent node groups) starts = AreStarts groups starts
AreStartsOf note starts = Unit {0}

-- the same for the first observations, or all
abbrev pub AreAllStarts : List Note → List (Vec ℕ Global) → Type 0
AreAllStarts notes starts =
    (i : ℕ) (d : Note) (e : Vec ℕ Global) → i < length starts → AreStartsOf (slice_index_or notes i d) (slice_index_or starts i e).items
