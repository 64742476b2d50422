use Rattle.std.proofs.Common.{◌∙◌, ap, List, ℕ, Some, Option}
use Rattle.std.proofs.lemmas.List.{map-set}
use Rattle.std.specs.Prelude.{map}
use Rattle.stamp_marks.specs.Tokens.{index_of}
use Rattle.stamp_traces.specs.Shown.{booking_of}
use Rattle.stamp_traces.specs.Traces.{JournalState}
use Rattle.stamp_traces.proofs.PassLemmas.{passes-look}
use Rattle.stamp_traces.proofs.journal.Journal.look.Goals as goal

pub invariant_of-self : goal.invariant_of-self
invariant_of-self g c = (
  c.self.invariant.0,
  rw c.again.ensures (passes-look g.K.Identity.prefixes c.self.inside.entries.items c.self.inside.passes.items c.pass.inside.number (Some c.in-Some.seen)
      c.self.invariant.1 (rw (← c.requires.named) c.in-Some.ensures.0) (c.in-Some.ensures.2 ∙ c.whole_of-prefix.ensures)),
  c.self.invariant.2,
  c.self.invariant.3,
  c.self.invariant.4,
)

pub returns-clause-ok : goal.returns-clause-ok
returns-clause-ok g c =
    let i = c.self.inside in
    let state : List (Option ℕ) → JournalState g.row.E.Denot g.row.R.Denot = λ l. record { entries = i.entries.items; actors = map index_of i.actors.items; passes = l; bookings = map booking_of i.bookings.items; booked = i.booked; room = i.room } in
    rw (← c.self.view_is, c.again.ensures) (ap state (map-set index_of i.passes.items c.pass.inside.number (Some c.in-Some.seen)))
