use Rattle.std.proofs.Common.{◌-◌, List, None, ap}
use Rattle.std.proofs.lemmas.List.{map-set}
use Rattle.std.specs.Prelude.{map, Option}
use Rattle.stamp_marks.specs.Tokens.{index_of}
use Rattle.stamp_traces.specs.Shown.{BookingState, booking_of}
use Rattle.stamp_traces.specs.Traces.{JournalState}
use Rattle.stamp_traces.proofs.journal.Journal.unbook.Goals as goal

pub returns : goal.returns
returns g c =
    let i = c.self.inside in
    let state : List (Option (BookingState g.row.E.Denot)) → JournalState g.row.E.Denot g.row.R.Denot = λ l. record { entries = i.entries.items; actors = map index_of i.actors.items; passes = map index_of i.passes.items; bookings = l; booked = i.booked - 1; room = i.room } in
    rw (← c.self.view_is, c.clear_at.ensures, c.saturating_sub-self-inside.ensures) (ap state (map-set booking_of i.bookings.items c.args.number None))
