-- What clauses see of cells and of their steps.
use Rattle.std.specs.Prelude.{ℕ, Bool, true, List, Option}
use Rattle.stamp_traces.specs.Shown.{BookingState}

-- an actor, its events, each with the state that it left, the index of its token, and whether it is stopped for good
pub record CellState (S E : Type 0) : Type 0 where
  pub number : ℕ
  pub actor : S
  pub events : List (E × S)
  pub index : Option ℕ
  pub halted : Bool

-- the same, stopped for good
abbrev pub stopped_cell : {S E : Type 0} → CellState S E → CellState S E
stopped_cell c = record c { halted = true }

-- a step: its event and reply, the events before it with the index of their token, the states before and after it, and the index of
-- its own mark
pub record CellStep (S E R : Type 0) : Type 0 where
  pub number : ℕ
  pub event : E
  pub reply : R
  pub before : List (E × S)
  pub index : Option ℕ
  pub was : S
  pub state : S
  pub mark : ℕ

-- what was booked for the step
abbrev pub booking_for : {S E R : Type 0} → CellStep S E R → BookingState E
booking_for s = record { event = s.event; index = s.mark }
