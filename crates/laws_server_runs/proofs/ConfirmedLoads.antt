-- Loads that are confirmed in a part of a run.
use Rattle.std.proofs.Common.{◌≡◌, ◌⊎◌, ⊎_elim, ℕ, List, [], ◌∷◌, ◌++◌, inl, inr}
use Rattle.commitlog.specs.Replay.{Numbered}
use Rattle.model_histories.specs.Story.{Placed, StreamEvent, Made, Answered, Showed, Story}
use Rattle.model_partition.specs.Past.{Transaction}
use Rattle.laws_tables.specs.Runs.{Forms, Logged, Notes, Records, Recorded, Trims, Confirms, Run, log_of, IsServing}
use Rattle.laws_tables.specs.Through.{IsLoaded}
use Rattle.laws_tables.proofs.Range.{event_cases}
use Rattle.laws_server_runs.specs.RunInvariant.{HasLoad}

-- with more behind it
pub has_behind : (g : ℕ) (more run : Run) → HasLoad g run → HasLoad g (more ++ run)
has_behind g [] run h = h
has_behind g (Forms i group ∷ more) run h = has_behind g more run h
has_behind g (Logged i append from to ∷ more) run h = has_behind g more run h
has_behind g (Notes i ∷ more) run h = has_behind g more run h
has_behind g (Records i number item ∷ more) run h = has_behind g more run h
has_behind g (Recorded i append from to ∷ more) run h = has_behind g more run h
has_behind g (Trims i place ∷ more) run h = has_behind g more run h
has_behind g (Confirms i start end groups metadata_end records ∷ more) run h = inr (has_behind g more run h)

-- with more before it
pub has_front : (g : ℕ) (more run : Run) → HasLoad g more → HasLoad g (more ++ run)
has_front g [] run h = absurd h
has_front g (Forms i group ∷ more) run h = has_front g more run h
has_front g (Logged i append from to ∷ more) run h = has_front g more run h
has_front g (Notes i ∷ more) run h = has_front g more run h
has_front g (Records i number item ∷ more) run h = has_front g more run h
has_front g (Recorded i append from to ∷ more) run h = has_front g more run h
has_front g (Trims i place ∷ more) run h = has_front g more run h
has_front g (Confirms i start end groups metadata_end records ∷ more) run (inl same) = inl same
has_front g (Confirms i start end groups metadata_end records ∷ more) run (inr h) = inr (has_front g more run h)

abbrev LogStory : Type 0
LogStory = Story (Numbered Transaction)

-- what an event that is no load of the generation leaves
loaded_older : (e : StreamEvent (Numbered Transaction)) (story : LogStory) (g : ℕ) → ((start end : ℕ) (groups : List (Placed (Numbered Transaction))) → e ≡ Showed g start end groups → ⊥) →
    IsLoaded (e ∷ story) g → IsLoaded story g
loaded_older e story g other (l, start, end, groups, at) =
    ⊎_elim {C = IsLoaded story g} (λ new. absurd (other start end groups new.1)) (λ old. (l, start, end, groups, old)) (event_cases (Numbered Transaction) e story l (Showed g start end groups) at)

-- a load that was not confirmed before was confirmed since
pub new_load : (g : ℕ) (more run : Run) → IsServing (more ++ run) g → (IsServing run g → ⊥) → HasLoad g more
new_load g [] run now none = absurd (none now)
new_load g (Forms i group ∷ more) run now none = new_load g more run (loaded_older (Made i group) (log_of (more ++ run)) g (λ start end groups e. cc) now) none
new_load g (Logged i append from to ∷ more) run now none = new_load g more run (loaded_older (Answered append from to) (log_of (more ++ run)) g (λ start end groups e. cc) now) none
new_load g (Notes i ∷ more) run now none = new_load g more run now none
new_load g (Records i number item ∷ more) run now none = new_load g more run now none
new_load g (Recorded i append from to ∷ more) run now none = new_load g more run now none
new_load g (Trims i place ∷ more) run now none = new_load g more run now none
new_load g (Confirms i start end groups metadata_end records ∷ more) run (l, s, e, xs, at) none =
    ⊎_elim {C = (g ≡ i) ⊎ HasLoad g more}
    (λ new. (let is : Showed i start end groups ≡ Showed g s e xs = new.1 in let same : g ≡ i = cc in inl same))
    (λ old. inr (new_load g more run (l, s, e, xs, old) none))
    (event_cases (Numbered Transaction) (Showed i start end groups) (log_of (more ++ run)) l (Showed g s e xs) at)
