-- The line that a load of a log makes of what it shows, and what is observed of a range.
use Rattle.std.specs.Prelude.{ℕ, suc, Bool, true, false, List, [], ◌∷◌, map, Option, Some, None, if◌then◌else◌, ◌==◌}
use Rattle.wire.specs.declared.note.Note.{Note}
use Rattle.wire.specs.declared.note.Note.TheVariants.{Began, Done, Loaded, Got}
use Rattle.model_partition.specs.Past.{Transaction}
use Rattle.commitlog.specs.Replay.{Numbered as Group, replayed as replay}
use Rattle.model_histories.specs.Story.{Placed, StreamEvent, Made, Answered, Showed}

-- the line that a load makes of what it shows
abbrev pub line_shown : {A : Type 0} → List (Placed (Group A)) → List A
line_shown groups = replay [] (map (λ p. p.group) groups)

-- ---- what is observed of a range

abbrev pub begins_of : ℕ → ℕ → ℕ → List Transaction → List Note
begins_of range g s [] = []
begins_of range g s (t ∷ ts) = Began range g s t ∷ begins_of range g (suc s) ts

abbrev pub dones_of : ℕ → ℕ → ℕ → List Transaction → List Note
dones_of range g s [] = []
dones_of range g s (t ∷ ts) = Done range g s ∷ dones_of range g (suc s) ts

abbrev pub dones_at : ℕ → Option (StreamEvent (Group Transaction)) → List Note
dones_at range None = []
dones_at range (Some (Made g group)) = dones_of range g group.first group.items
dones_at range (Some (Answered a from to)) = []
dones_at range (Some (Showed g start end groups)) = []

-- whether an observation is of a range that is served
abbrev pub is_of : ℕ → Note → Bool
is_of range (Began other g s t) = range == other
is_of range (Done other g s) = range == other
is_of range (Loaded other g rows next) = range == other
is_of range note = false

-- whether an observation is of an answered Get
abbrev pub is_got : Note → Bool
is_got (Got range g key value) = true
is_got note = false

-- the observations but for those of Gets
abbrev pub without_gots : List Note → List Note
without_gots [] = []
without_gots (note ∷ h) = if is_got note then without_gots h else note ∷ without_gots h

-- the observations of one range, which has none of Gets
abbrev pub only : ℕ → List Note → List Note
only range [] = []
only range (note ∷ h) = if is_of range note then note ∷ only range h else only range h
