-- One event of several actors.
use Rattle.std.specs.Prelude.{◌≡◌, ◌≢◌, ◌⊎◌, ◌+◌, ◌-◌, ◌<◌, ℕ, List, [], ◌∷◌, ◌++◌, length, set, slice_get, Option, Some}
use Rattle.boxcar.specs.Table.{Shelves, Where, Shows}
use Rattle.stamp_marks.specs.Histories.{state_after}
use Rattle.stamp_marks.specs.Tokens.{Token, IsOf, index_of}
use Rattle.stamp_marks.specs.declared.mark.Mark.{Mark}
use Rattle.stamp_traces.specs.Cells.{CellState}
use Rattle.stamp_traces.specs.Journals.{with_entry}
use Rattle.stamp_traces.specs.Passes.{PassState}
use Rattle.stamp_traces.specs.Shown.{shown_by, IsTokenAt}
use Rattle.stamp_traces.specs.Traces.{JournalState, Entry, LeavesAt}
use Rattle.stamp_traces.specs.declared.moment_step.MomentStep.{MomentStep}
use Rattle.stamp_traces.specs.declared.takers.Takers.{Takers}

-- what a clause sees of a booking of a moment: who takes it, its event, how many marks are left, and the steps that were taken
pub record MomentState (S E : Type 0) : Type 0 where
  pub takers : Takers
  pub event : E
  pub left : ℕ
  pub steps : List (MomentStep S E)

-- the marks are of this list, and about this event
pub record AreMarksOf {E V : Type 0} (events : Shelves) (event : E) (marks : List (Where (Mark E V))) : Type 0 where
  pub each : (k : ℕ) (p : Where (Mark E V)) → slice_get marks k ≡ Some p → Shows events p × (p.value.subject.value ≡ event)

module _ {S E : Type 0} where
  -- the state in which the step found its actor
  abbrev pub state_before : (ℕ → S) → MomentStep S E → S
  state_before first s = state_after (first s.number) (shown_by s.before)

  -- each step's token before it is the one at its actor's number, or of its value
  pub record AreTokensOf (tokens : List (Option (Token E (List (E × S))))) (steps : List (MomentStep S E)) : Type 0 where
    pub each : (k : ℕ) (s : MomentStep S E) → slice_get steps k ≡ Some s → IsTokenAt tokens s.number s.before

  -- one of the steps goes by another token than the one of this index at its actor's number
  pub record HasOther (indexes : List (Option ℕ)) (steps : List (MomentStep S E)) : Type 0 where
    pub at : ℕ
    pub step : MomentStep S E
    pub is : slice_get steps at ≡ Some step
    pub other : slice_get indexes step.number ≢ Some (index_of step.before)

  -- the tokens, with those of the steps in their actors' places
  abbrev pub with_tokens : List (Option (Token E (List (E × S)))) → List (MomentStep S E) → List (Option (Token E (List (E × S))))
  with_tokens tokens [] = tokens
  with_tokens tokens (s ∷ ss) = with_tokens (set tokens s.number (Some s.after)) ss

  -- the indexes, with those of the steps' tokens in their actors' places
  abbrev pub with_indexes : List (Option ℕ) → List (MomentStep S E) → List (Option ℕ)
  with_indexes indexes [] = indexes
  with_indexes indexes (s ∷ ss) = with_indexes (set indexes s.number (Some s.after.mark.index)) ss

  -- a cell's actor took the event of the moment, and its step is the last one
  pub record AddsStep (old : MomentState S E) (was : CellState S E) (new : MomentState S E) (cell : CellState S E) : Type 0 where
    pub step : MomentStep S E
    pub number : step.number ≡ was.number
    pub before : shown_by step.before ≡ was.events
    pub index : index_of step.before ≡ was.index
    pub state : step.state.value ≡ cell.actor
    pub mark : cell.index ≡ Some step.after.mark.index
    pub adds : new ≡ record old { left = old.left - 1; steps = old.steps ++ step ∷ [] }

  module _ {R : Type 0} (first : ℕ → S) (goes : S → E → S → R → Type 0) (quiet : R) (events : Shelves) (event : E) where
    -- a step by this event, with its tokens
    pub record IsMomentStep (s : MomentStep S E) : Type 0 where
      pub of : IsOf s.before events
      pub shows : Shows events s.after.mark
      pub is : s.after.value ≡ shown_by s.before ++ (event, s.state.value) ∷ []
      pub legal : goes (state_before first s) event s.state.value quiet

    -- steps of the actors from this number on, in order
    pub record AreMomentSteps (from : ℕ) (steps : List (MomentStep S E)) : Type 0 where
      pub each : (k : ℕ) (s : MomentStep S E) → slice_get steps k ≡ Some s → (s.number ≡ from + k) × IsMomentStep s

  module _ {R : Type 0} where
    -- the entries leave each step's actor in the state that this function tells of the step
    pub record LeaveEach (goes : S → E → S → R → Type 0) (first : ℕ → S) (xs : List (Entry E R)) (steps : List (MomentStep S E)) (state_of : MomentStep S E → S) : Type 0 where
      pub each : (k : ℕ) (s : MomentStep S E) → slice_get steps k ≡ Some s → LeavesAt goes first xs s.number (state_of s)

    -- the entry of a moment
    abbrev pub moment_by : ℕ → MomentState S E → R → Entry E R
    moment_by pass m reply = record { pass = pass; takers = m.takers; event = m.event; reply = reply }

    -- what one of the steps goes by is not what the journal has, or a step is still to come, or nothing is booked
    abbrev pub MomentDiffers : JournalState E R → MomentState S E → Type 0
    MomentDiffers j m = (j.booked ≡ 0) ⊎ ((m.takers.first + length m.steps < m.takers.end) ⊎ HasOther j.actors m.steps)

    -- a pass has put a moment there, which was booked, and has seen all
    abbrev pub with_moment : JournalState E R → MomentState S E → R → PassState E R → JournalState E R
    with_moment j m reply v = record (with_entry j (moment_by v.number m reply) v) { booked = j.booked - 1; actors = with_indexes j.actors m.steps }
