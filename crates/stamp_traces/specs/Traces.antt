-- Which traces are legal, and what is kept of one.
use Rattle.std.specs.Prelude.{◌≡◌, ◌⊎◌, ◌+◌, ◌<◌, ◌≤◌, ◌&&◌, if◌then◌else◌, nat_le, nat_lt, ℕ, List, [], ◌∷◌, ◌++◌, slice_get, Option, Some}
use Rattle.boxcar.specs.Table.{Shelves, Where, Shows}
use Rattle.stamp_marks.specs.Tokens.{Token, IsOf}
use Rattle.stamp_marks.specs.Histories.{state_after}
use Rattle.stamp_marks.specs.declared.mark.Mark.{Mark}
use Rattle.stamp_traces.specs.Cells.{CellStep}
use Rattle.stamp_traces.specs.Shown.{shown_by, BookingState}
use Rattle.stamp_traces.specs.declared.takers.Takers.{Takers}

-- what a clause sees of an entry
pub record Entry (E R : Type 0) : Type 0 where
  pub pass : ℕ
  pub takers : Takers
  pub event : E
  pub reply : R

module _ {E R : Type 0} where
  -- the event of the entry, if this actor takes it
  abbrev pub taken_by : ℕ → Entry E R → List E
  taken_by n x = if nat_le x.takers.first n && nat_lt n x.takers.end then x.event ∷ [] else []

  -- the events that an actor took
  abbrev pub events_of_actor : ℕ → List (Entry E R) → List E
  events_of_actor n [] = []
  events_of_actor n (x ∷ xs) = taken_by n x ++ events_of_actor n xs

  -- the entry of an event that a pass had one actor take
  abbrev pub entry_by : ℕ → ℕ → E → R → Entry E R
  entry_by pass number event reply = record { pass = pass; takers = record { first = number; end = number + 1 }; event = event; reply = reply }

  -- the entry of an event that a pass put there, and nobody takes
  abbrev pub note_by : ℕ → E → R → Entry E R
  note_by pass event reply = record { pass = pass; takers = record { first = 0; end = 0 }; event = event; reply = reply }

  -- the entry of a step
  abbrev pub entry_of : {S : Type 0} → ℕ → CellStep S E R → Entry E R
  entry_of pass s = entry_by pass s.number s.event s.reply

  module _ {S : Type 0} (goes : S → E → S → R → Type 0) where
    -- each taker goes by the event, with the reply, and all others stay
    pub record IsStep (s : ℕ → S) (x : Entry E R) (t : ℕ → S) : Type 0 where
      pub takers : (n : ℕ) → x.takers.first ≤ n → n < x.takers.end → goes (s n) x.event (t n) x.reply
      pub others : (n : ℕ) → (n < x.takers.first) ⊎ (x.takers.end ≤ n) → t n ≡ s n

    -- from the states before the entries to those after them
    abbrev pub LeadsFrom : (ℕ → S) → List (Entry E R) → (ℕ → S) → Type 0
    LeadsFrom s [] t = (n : ℕ) → s n ≡ t n
    LeadsFrom s (x ∷ xs) t = (u : ℕ → S) × IsStep s x u × LeadsFrom u xs t

    -- the entries lead from the first states to some
    abbrev pub Leads : (ℕ → S) → List (Entry E R) → Type 0
    Leads first xs = (t : ℕ → S) × LeadsFrom first xs t

    -- the entries lead from the first states to some in which the actor is in this one
    abbrev pub LeavesAt : (ℕ → S) → List (Entry E R) → ℕ → S → Type 0
    LeavesAt first xs n x = (t : ℕ → S) × LeadsFrom first xs t × (t n ≡ x)

-- the events without the states
abbrev pub events_in : {E S : Type 0} → List (E × S) → List E
events_in [] = []
events_in (x ∷ xs) = x.0 ∷ events_in xs

module _ {E R S : Type 0} where
  -- the token shows the events that the actor took, and the state that they left
  pub record ShowsActor (first : ℕ → S) (events : Shelves) (xs : List (Entry E R)) (n : ℕ) (s : S) (t : Option (Token E (List (E × S)))) : Type 0 where
    pub of : IsOf t events
    pub took : events_in (shown_by t) ≡ events_of_actor n xs
    pub leaves : state_after (first n) (shown_by t) ≡ s

  -- the entries are legal, and each actor's token shows where they leave it
  pub record IsLegal (first : ℕ → S) (goes : S → E → S → R → Type 0) (events : Shelves) (xs : List (Entry E R)) (tokens : List (Option (Token E (List (E × S))))) : Type 0 where
    pub states : ℕ → S
    pub leads : LeadsFrom goes first xs states
    pub actors : (n : ℕ) (t : Option (Token E (List (E × S)))) → slice_get tokens n ≡ Some t → ShowsActor first events xs n (states n) t

-- each booking's place is of this list of marks
pub record AreBookings {E V : Type 0} (events : Shelves) (bookings : List (Option (Where (Mark E V)))) : Type 0 where
  pub each : (n : ℕ) (p : Where (Mark E V)) → slice_get bookings n ≡ Some (Some p) → Shows events p

-- what a clause sees of a journal: the entries, the index of each actor's token and of each pass's, what is booked for each actor,
-- how many entries are booked, and for how many there is room
pub record JournalState (E R : Type 0) : Type 0 where
  pub entries : List (Entry E R)
  pub actors : List (Option ℕ)
  pub passes : List (Option ℕ)
  pub bookings : List (Option (BookingState E))
  pub booked : ℕ
  pub room : ℕ
