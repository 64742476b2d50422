use Rattle.std.proofs.Common.{◌∙◌, ◌<◌, ◌++◌, ◌∷◌, [], ap, refl, List, ℕ, length, Some, Option, arith}
use Rattle.std.proofs.lemmas.List.{map-set, length-map}
use Rattle.std.specs.Prelude.{map}
use Rattle.stamp_marks.specs.Tokens.{index_of}
use Rattle.stamp_traces.specs.Shown.{shown_by, booking_of}
use Rattle.stamp_traces.specs.Traces.{Entry, JournalState, note_by}
use Rattle.stamp_traces.proofs.Legal.{legal-note}
use Rattle.stamp_traces.proofs.Lists.{when_true}
use Rattle.stamp_traces.proofs.PassLemmas.{passes-append, puts}
use Rattle.stamp_traces.proofs.journal.Journal.note.Goals as goal

pub invariant_of-self : goal.invariant_of-self
invariant_of-self g c =
    let i = c.self.inside in
    let p = c.pass.inside in
    let within : p.number < length i.passes.items = rw (length-map i.passes.items index_of) at (rw (← c.self.view_is, ← c.pass.view_is) at (c.stands.ensures.within c.if-not-stands.false)) in (
      rw (c.push_reserved.ensures.items, c.nobody.ensures, c.of.ensures, c.of-2.ensures) (legal-note g.A.Actor.goes (g.A.Actor.first g.K.Identity.numbers) g.K.Identity.events p.number c.args.event.now c.args.reply.now i.entries.items i.actors.items c.self.invariant.0),
      rw (c.push_reserved.ensures.items, c.again.ensures) (passes-append g.K.Identity.prefixes i.entries.items i.passes.items _ (Some c.in-Some.seen)
          c.self.invariant.1 within (rw (← c.requires.named) c.in-Some.ensures.0) (c.in-Some.ensures.2 ∙ c.prefix_of-prefix.ensures)),
      c.self.invariant.2,
      omega (arith, c.push_reserved.ensures.len, c.self.invariant.3),
      omega (arith, c.push_reserved.ensures.capacity, c.self.invariant.4),
    )

pub returns-clause-appended : goal.returns-clause-appended
returns-clause-appended g c =
    let i = c.self.inside in
    let n = c.pass.inside.number in
    let state : List (Option ℕ) → JournalState g.row.E.Denot g.row.R.Denot = λ l. record { entries = i.entries.items ++ note_by n c.args.event.now c.args.reply.now ∷ []; actors = map index_of i.actors.items; passes = l; bookings = map booking_of i.bookings.items; booked = i.booked; room = i.room } in
    rw (← c.self.view_is, ← c.pass.view_is, c.again.ensures, c.push_reserved.ensures.items, c.nobody.ensures, c.of.ensures, c.of-2.ensures) (ap state (map-set index_of i.passes.items n (Some c.in-Some.seen)))

pub returns-clause-puts : goal.returns-clause-puts
returns-clause-puts g c =
    let p = c.pass.inside in
    let stand = rw (← c.self.view_is, ← c.pass.view_is) at (when_true _ _ c.stands.result c.stands.ensures.stands c.if-not-stands.false) in
    rw (← c.pass.view_is)
    (puts c.self.inside.entries.items (record { number = p.number; seen = shown_by p.token; index = index_of p.token }) _ (note_by p.number c.args.event.now c.args.reply.now) refl refl stand
    (rw (c.nobody.ensures, c.of.ensures, c.of-2.ensures) at (c.in-Some.ensures.2 ∙ c.prefix_of-prefix.ensures)))
