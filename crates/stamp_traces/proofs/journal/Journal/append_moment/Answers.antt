use Rattle.std.proofs.Common.{◌≡◌, ◌<◌, ◌+◌, ◌-◌, ◌++◌, ◌∷◌, [], ℕ, List, length, Some, ◌∙◌, refl, arith}
use Rattle.std.proofs.lemmas.List.{map-set, length-map}
use Rattle.std.specs.Prelude.{map, Option}
use Rattle.stamp_marks.specs.Tokens.{index_of}
use Rattle.stamp_traces.specs.Moments.{MomentState, moment_by}
use Rattle.stamp_traces.specs.Shown.{shown_by, booking_of}
use Rattle.stamp_traces.specs.Traces.{JournalState}
use Rattle.stamp_traces.proofs.Lists.{ap2, when_true}
use Rattle.stamp_traces.proofs.MomentLemmas.{found-moment, leaves-moment, legal-moment, with_tokens-indexes}
use Rattle.stamp_traces.proofs.PassLemmas.{passes-append, puts}
use Rattle.stamp_traces.proofs.journal.Journal.append_moment.Goals as goal

pub has_tokens-is_found-requires-clause-tokens : goal.has_tokens-is_found-requires-clause-tokens
has_tokens-is_found-requires-clause-tokens g c = λ n t there.
    rw c.requires.named.0 (c.self.invariant.0.actors n t (rw c.as_slice.ensures.value at there)).of

pub invariant_of-self : goal.invariant_of-self
invariant_of-self g c =
    let i = c.moment.inside in
    let j = c.self.inside in
    let m : MomentState g.row.A.Denot g.row.E.Denot = record { takers = i.takers; event = i.event; left = length i.marks.items; steps = i.steps.items } in
    let found = rw (c.as_slice.ensures.value, c.as_slice-2.ensures.value) at (when_true _ _ c.has_tokens-is_found.result c.has_tokens-is_found.ensures c.if-not-is_found.false) in
    let whole : i.takers.first + length i.steps.items ≡ i.takers.end = omega arith in
    let within : c.pass.inside.number < length j.passes.items = rw (length-map j.passes.items index_of) at (rw (← c.self.view_is, ← c.pass.view_is) at (c.stands.ensures.within c.if-not-stands.false)) in (
      rw (c.push_reserved.ensures.items, c.install.ensures, c.as_slice-3.ensures.value, c.of.ensures, c.of-2.ensures, c.requires.quiet)
          (legal-moment g.A.Actor.goes g.A.Timed.quiet (g.A.Actor.first g.K.Identity.numbers) g.K.Identity.events c.pass.inside.number j.entries.items j.actors.items m c.self.invariant.0 c.moment.invariant.3 found whole),
      rw (c.push_reserved.ensures.items, c.again.ensures) (passes-append g.K.Identity.prefixes j.entries.items j.passes.items _ (Some c.in-Some.seen)
          c.self.invariant.1 within (rw (← c.requires.named.1) c.in-Some.ensures.0) (c.in-Some.ensures.2 ∙ c.prefix_of-prefix.ensures)),
      c.self.invariant.2,
      omega (arith, c.push_reserved.ensures.len, c.self.invariant.3),
      omega (arith, c.push_reserved.ensures.capacity, c.self.invariant.4),
    )

pub returns-clause-appended : goal.returns-clause-appended
returns-clause-appended g c =
    let i = c.moment.inside in
    let j = c.self.inside in
    let n = c.pass.inside.number in
    let m : MomentState g.row.A.Denot g.row.E.Denot = record { takers = i.takers; event = i.event; left = length i.marks.items; steps = i.steps.items } in
    let state : List (Option ℕ) → List (Option ℕ) → JournalState g.row.E.Denot g.row.R.Denot = λ a p. record { entries = j.entries.items ++ moment_by n m c.args.reply.now ∷ []; actors = a; passes = p; bookings = map booking_of j.bookings.items; booked = j.booked - 1; room = j.room } in
    rw (← c.self.view_is, ← c.moment.view_is, c.again.ensures, c.push_reserved.ensures.items, c.install.ensures, c.as_slice-3.ensures.value, c.of.ensures, c.of-2.ensures)
    (ap2 state (with_tokens-indexes j.actors.items i.steps.items) (map-set index_of j.passes.items n (Some c.in-Some.seen)))

pub returns-clause-found : goal.returns-clause-found
returns-clause-found g c =
    let i = c.moment.inside in
    let j = c.self.inside in
    let m : MomentState g.row.A.Denot g.row.E.Denot = record { takers = i.takers; event = i.event; left = length i.marks.items; steps = i.steps.items } in
    let found = rw (c.as_slice.ensures.value, c.as_slice-2.ensures.value) at (when_true _ _ c.has_tokens-is_found.result c.has_tokens-is_found.ensures c.if-not-is_found.false) in
    rw (← c.self.view_is, ← c.moment.view_is)
    (found-moment g.A.Actor.goes g.A.Timed.quiet (g.A.Actor.first g.K.Identity.numbers) g.K.Identity.events c.pass.inside.number j.entries.items j.actors.items m c.self.invariant.0 c.moment.invariant.3 found)

pub returns-clause-leaves : goal.returns-clause-leaves
returns-clause-leaves g c =
    let i = c.moment.inside in
    let j = c.self.inside in
    let m : MomentState g.row.A.Denot g.row.E.Denot = record { takers = i.takers; event = i.event; left = length i.marks.items; steps = i.steps.items } in
    let found = rw (c.as_slice.ensures.value, c.as_slice-2.ensures.value) at (when_true _ _ c.has_tokens-is_found.result c.has_tokens-is_found.ensures c.if-not-is_found.false) in
    let whole : i.takers.first + length i.steps.items ≡ i.takers.end = omega arith in
    rw (← c.moment.view_is, c.push_reserved.ensures.items, c.of.ensures, c.of-2.ensures, c.requires.quiet)
    (leaves-moment g.A.Actor.goes g.A.Timed.quiet (g.A.Actor.first g.K.Identity.numbers) g.K.Identity.events c.pass.inside.number j.entries.items j.actors.items m c.self.invariant.0 c.moment.invariant.3 found whole)

pub returns-clause-puts : goal.returns-clause-puts
returns-clause-puts g c =
    let p = c.pass.inside in
    let i = c.moment.inside in
    let m : MomentState g.row.A.Denot g.row.E.Denot = record { takers = i.takers; event = i.event; left = length i.marks.items; steps = i.steps.items } in
    let stand = rw (← c.self.view_is, ← c.pass.view_is) at (when_true _ _ c.stands.result c.stands.ensures.stands c.if-not-stands.false) in
    rw (← c.pass.view_is, ← c.moment.view_is)
    (puts c.self.inside.entries.items (record { number = p.number; seen = shown_by p.token; index = index_of p.token }) _ (moment_by p.number m c.args.reply.now) refl refl stand
    (rw (c.of.ensures, c.of-2.ensures) at (c.in-Some.ensures.2 ∙ c.prefix_of-prefix.ensures)))
