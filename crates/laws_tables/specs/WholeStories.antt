-- One story of a log that each load reads from its first place: what servers may do, and what is observed of them. It is a step of
-- the law of chains: each load of a chain is turned into one of the whole log.
use Rattle.std.specs.Prelude.{◌≡◌, ℕ, suc, ◌<◌, List, [], ◌∷◌, ◌++◌, length, Some, if◌then◌else◌, ◌==◌}
use Rattle.wire.specs.declared.note.Note.{Note}
use Rattle.wire.specs.declared.note.Note.TheVariants.{Loaded}
use Rattle.wire.specs.declared.rows.Row.{Row}
use Rattle.commitlog.specs.Replay.{Numbered as Group}
use Rattle.model_partition.specs.Lines.{next_after}
use Rattle.model_histories.specs.Log.{line_shown, begins_of, dones_at}
use Rattle.model_partition.specs.Past.{Bytes, Transaction, stored, after_line, empty_table}
use Rattle.model_histories.specs.Story.{Placed, StreamEvent, Made, Answered, Showed, Story, event_at}

-- the number that the incarnation of this generation gives next
abbrev pub next_number : {A : Type 0} → Story (Group A) → ℕ → ℕ
next_number [] g = 1
next_number (Made g' group ∷ earlier) g = if g == g' then next_after group else next_number earlier g
next_number (Answered append from to ∷ earlier) g = next_number earlier g
next_number (Showed g' start end groups ∷ earlier) g = if g == g' then suc (length (line_shown groups)) else next_number earlier g

-- What a server may do next.
abbrev pub Allowed : {A : Type 0} → Story (Group A) → StreamEvent (Group A) → Type 0
-- a group is formed while the range is served under that generation and each earlier group of it is answered, and begins with the next number
Allowed {A} earlier (Made g group) =
    ((l : ℕ) × (start : ℕ) × (end : ℕ) × (groups : List (Placed (Group A))) × (event_at earlier l ≡ Some (Showed g start end groups)))
    × ((a : ℕ) (old : Group A) → event_at earlier a ≡ Some (Made g old) → (k : ℕ) × (from : ℕ) × (to : ℕ) × (a < k) × (event_at earlier k ≡ Some (Answered a from to)))
    × (group.first ≡ next_number earlier g)
-- an answer comes to a group that was formed
Allowed {A} earlier (Answered a from to) = (g : ℕ) × (group : Group A) × (event_at earlier a ≡ Some (Made g group))
-- a generation is loaded once, and here from the log's first place
Allowed {A} earlier (Showed g start end groups) =
    (start ≡ 0) × ((l start' end' : ℕ) (other : List (Placed (Group A))) → event_at earlier l ≡ Some (Showed g start' end' other) → ⊥)

abbrev pub IsServed : {A : Type 0} → Story (Group A) → Type 0
IsServed [] = Unit {0}
IsServed (e ∷ earlier) = Allowed earlier e × IsServed earlier

-- ---- what is observed of a range

-- rows: those that the load of a number shows
abbrev pub notes : ℕ → (ℕ → List Row) → Story (Group Transaction) → StreamEvent (Group Transaction) → List Note
notes range rows earlier (Made g group) = begins_of range g group.first group.items
notes range rows earlier (Answered a from to) = dones_at range (event_at earlier a)
notes range rows earlier (Showed g start end groups) = Loaded range g (rows (length earlier)) (suc (length (line_shown groups))) ∷ []

abbrev pub observed : ℕ → (ℕ → List Row) → Story (Group Transaction) → List Note
observed range rows [] = []
observed range rows (e ∷ earlier) = observed range rows earlier ++ notes range rows earlier e

-- the rows of each load are the table of the line that it makes of what it shows
abbrev pub ShowsTables : (ℕ → List Row) → Story (Group Transaction) → Type 0
ShowsTables rows story = (l g start end : ℕ) (groups : List (Placed (Group Transaction))) → event_at story l ≡ Some (Showed g start end groups) →
    (key : Bytes) → stored (rows l) key ≡ after_line (line_shown groups) empty_table key
