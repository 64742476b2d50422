use Rattle.std.proofs.Common.{◌≡◌, ◌<◌, ◌-◌, ◌++◌, ◌∷◌, [], ℕ, List, length, set, Some, None, ap, ◌∙◌, refl, arith}
use Rattle.std.proofs.lemmas.List.{map-set, length-map}
use Rattle.std.specs.Prelude.{map, Option}
use Rattle.stamp_marks.specs.Tokens.{index_of}
use Rattle.stamp_marks.specs.Histories.{state_after}
use Rattle.stamp_traces.specs.Shown.{BookingState, shown_by, booking_of}
use Rattle.stamp_traces.specs.Cells.{CellStep}
use Rattle.stamp_traces.specs.Traces.{JournalState, entry_of}
use Rattle.stamp_traces.proofs.Legal.{same_shown, leaves-shown, leaves-append, legal-append, bookings-emptied}
use Rattle.stamp_traces.proofs.Lists.{ap3, when_true}
use Rattle.stamp_traces.proofs.PassLemmas.{passes-append, puts}
use Rattle.stamp_traces.proofs.journal.Journal.append.Goals as goal

pub is_token_at-is_found-requires-clause-tokens : goal.is_token_at-is_found-requires-clause-tokens
is_token_at-is_found-requires-clause-tokens g c = λ n t there.
    rw c.requires.named.0 (c.self.invariant.0.actors n t (rw c.as_slice.ensures.value at there)).of

pub invariant_of-self : goal.invariant_of-self
invariant_of-self g c =
    let first = g.A.Actor.first g.K.Identity.numbers in
    let i = c.step.inside in
    let v = c.step.invariant in
    let j = c.self.inside in
    let s : CellStep g.row.A.Denot g.row.E.Denot g.row.R.Denot = record { number = i.number; event = i.event; reply = i.reply; before = shown_by i.before; index = index_of i.before; was = state_after (first i.number) (shown_by i.before); state = i.state.value; mark = i.after.mark.index } in
    let found = rw c.as_slice.ensures.value at (when_true _ _ c.is_token_at-is_found.result c.is_token_at-is_found.ensures c.if-not-is_found.false) in
    let within : c.pass.inside.number < length j.passes.items = rw (length-map j.passes.items index_of) at (rw (← c.self.view_is, ← c.pass.view_is) at (c.stands.ensures.within c.if-not-stands.false)) in (
      rw (c.push_reserved.ensures.items, c.one.ensures, c.of.ensures, c.of-2.ensures) (legal-append g.A.Actor.goes first g.K.Identity.events c.pass.inside.number j.entries.items j.actors.items s found.there i.after
          c.self.invariant.0 found.found (same_shown i.before found.there found.same) refl v.1 v.2 v.3),
      rw (c.push_reserved.ensures.items, c.again.ensures) (passes-append g.K.Identity.prefixes j.entries.items j.passes.items _ (Some c.in-Some.seen)
          c.self.invariant.1 within (rw (← c.requires.named.1) c.in-Some.ensures.0) (c.in-Some.ensures.2 ∙ c.prefix_of-prefix.ensures)),
      bookings-emptied g.K.Identity.events j.bookings.items i.number c.self.invariant.2,
      omega (arith, c.push_reserved.ensures.len, c.self.invariant.3),
      omega (arith, c.push_reserved.ensures.capacity, c.self.invariant.4),
    )

pub returns-clause-appended : goal.returns-clause-appended
returns-clause-appended g c =
    let i = c.step.inside in
    let j = c.self.inside in
    let n = c.pass.inside.number in
    let s : CellStep g.row.A.Denot g.row.E.Denot g.row.R.Denot = record { number = i.number; event = i.event; reply = i.reply; before = shown_by i.before; index = index_of i.before; was = state_after (g.A.Actor.first g.K.Identity.numbers i.number) (shown_by i.before); state = i.state.value; mark = i.after.mark.index } in
    let state : List (Option ℕ) → List (Option ℕ) → List (Option (BookingState g.row.E.Denot)) → JournalState g.row.E.Denot g.row.R.Denot = λ a p b. record { entries = j.entries.items ++ entry_of n s ∷ []; actors = a; passes = p; bookings = b; booked = j.booked - 1; room = j.room } in
    rw (← c.self.view_is, ← c.step.view_is, c.again.ensures, c.push_reserved.ensures.items, c.one.ensures, c.of.ensures, c.of-2.ensures)
    (ap3 state (map-set index_of j.actors.items i.number (Some i.after)) (map-set index_of j.passes.items n (Some c.in-Some.seen)) (map-set booking_of j.bookings.items i.number None))

pub returns-clause-found : goal.returns-clause-found
returns-clause-found g c =
    let i = c.step.inside in
    let found = rw c.as_slice.ensures.value at (when_true _ _ c.is_token_at-is_found.result c.is_token_at-is_found.ensures c.if-not-is_found.false) in
    rw (← c.step.view_is, ← c.self.view_is)
    (leaves-shown g.A.Actor.goes (g.A.Actor.first g.K.Identity.numbers) g.K.Identity.events c.self.inside.entries.items c.self.inside.actors.items i.number (shown_by i.before) found.there
    c.self.invariant.0 found.found (same_shown i.before found.there found.same))

pub returns-clause-leaves : goal.returns-clause-leaves
returns-clause-leaves g c =
    let first = g.A.Actor.first g.K.Identity.numbers in
    let i = c.step.inside in
    let v = c.step.invariant in
    let s : CellStep g.row.A.Denot g.row.E.Denot g.row.R.Denot = record { number = i.number; event = i.event; reply = i.reply; before = shown_by i.before; index = index_of i.before; was = state_after (first i.number) (shown_by i.before); state = i.state.value; mark = i.after.mark.index } in
    let found = rw c.as_slice.ensures.value at (when_true _ _ c.is_token_at-is_found.result c.is_token_at-is_found.ensures c.if-not-is_found.false) in
    rw (← c.step.view_is, c.push_reserved.ensures.items, c.one.ensures, c.of.ensures, c.of-2.ensures)
    (leaves-append g.A.Actor.goes first g.K.Identity.events c.pass.inside.number c.self.inside.entries.items c.self.inside.actors.items s found.there i.after
    c.self.invariant.0 found.found (same_shown i.before found.there found.same) refl v.1 v.2 v.3)

pub returns-clause-puts : goal.returns-clause-puts
returns-clause-puts g c =
    let p = c.pass.inside in
    let i = c.step.inside in
    let s : CellStep g.row.A.Denot g.row.E.Denot g.row.R.Denot = record { number = i.number; event = i.event; reply = i.reply; before = shown_by i.before; index = index_of i.before; was = state_after (g.A.Actor.first g.K.Identity.numbers i.number) (shown_by i.before); state = i.state.value; mark = i.after.mark.index } in
    let stand = rw (← c.self.view_is, ← c.pass.view_is) at (when_true _ _ c.stands.result c.stands.ensures.stands c.if-not-stands.false) in
    rw (← c.pass.view_is, ← c.step.view_is)
    (puts c.self.inside.entries.items (record { number = p.number; seen = shown_by p.token; index = index_of p.token }) _ (entry_of p.number s) refl refl stand
    (rw (c.one.ensures, c.of.ensures, c.of-2.ensures) at (c.in-Some.ensures.2 ∙ c.prefix_of-prefix.ensures)))
