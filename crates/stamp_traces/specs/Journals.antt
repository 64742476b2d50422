-- What changes in a journal, and what it tells apart.
use Rattle.std.specs.Prelude.{◌≡◌, ◌≢◌, ◌⊎◌, ◌-◌, ℕ, List, [], ◌∷◌, ◌++◌, set, slice_get, Option, Some, None}
use Rattle.stamp_traces.specs.Cells.{CellStep, booking_for}
use Rattle.stamp_traces.specs.Passes.{PassState}
use Rattle.stamp_traces.specs.Traces.{JournalState, Entry, entry_of}

module _ {E R : Type 0} where
  -- the journal's token of a pass is not the pass's
  abbrev pub PassDiffers : JournalState E R → PassState E R → Type 0
  PassDiffers j v = slice_get j.passes v.number ≢ Some v.index

  -- a pass has seen all
  abbrev pub with_look : JournalState E R → PassState E R → JournalState E R
  with_look j v = record j { passes = set j.passes v.number v.index }

  -- a pass has put an entry there, and has seen all
  abbrev pub with_entry : JournalState E R → Entry E R → PassState E R → JournalState E R
  with_entry j x v = record j { entries = j.entries ++ x ∷ []; passes = set j.passes v.number v.index }

  -- the place of an actor's booking is empty
  abbrev pub without_booking : JournalState E R → ℕ → JournalState E R
  without_booking j n = record j { booked = j.booked - 1; bookings = set j.bookings n None }

  module _ {S : Type 0} where
    -- what a step goes by is not what the journal has, or nothing is booked
    abbrev pub StepDiffers : JournalState E R → CellStep S E R → Type 0
    StepDiffers j s =
        (j.booked ≡ 0) ⊎ ((slice_get j.actors s.number ≢ Some s.index) ⊎ (slice_get j.bookings s.number ≢ Some (Some (booking_for s))))

    -- a pass has put a step there, which was booked, and has seen all
    abbrev pub with_step : JournalState E R → CellStep S E R → PassState E R → JournalState E R
    with_step j s v = record (without_booking (with_entry j (entry_of v.number s) v) s.number) { actors = set j.actors s.number (Some s.mark) }
