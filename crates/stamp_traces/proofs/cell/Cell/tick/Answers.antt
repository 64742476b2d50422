use Rattle.std.proofs.Common.{◌≡◌, ◌+◌, ◌-◌, ◌++◌, ◌∷◌, [], ℕ, length, sym, refl, ◌∙◌, ap, subst, arith, length-append}
use Rattle.stamp_marks.specs.Histories.{state_after}
use Rattle.stamp_marks.specs.Tokens.{index_of}
use Rattle.stamp_traces.specs.Moments.{MomentState}
use Rattle.stamp_traces.specs.Shown.{shown_by}
use Rattle.stamp_traces.proofs.Legal.{state_after-snoc}
use Rattle.stamp_traces.proofs.Lists.{when_true}
use Rattle.stamp_traces.proofs.MomentLemmas.{marks-popped, steps-added}
use Rattle.stamp_traces.proofs.cell.Cell.tick.Goals as goal

pub invariant_of-moment-in_default-fix : goal.invariant_of-moment-in_default-fix
invariant_of-moment-in_default-fix g c =
    let v = c.moment.invariant in (
      v.0,
      marks-popped g.K.Identity.events c.moment.inside.event c.moment.inside.marks.items c.pop.new.self.items _ c.in-Some.ensures.items v.1,
      v.2,
      v.3,
      omega (arith, c.in-Some.ensures.len, v.4),
      omega (arith, c.in-Some.ensures.len, v.5),
    )

pub invariant_of-self-2 : goal.invariant_of-self-2
invariant_of-self-2 g c =
    let first = g.A.Actor.first g.K.Identity.numbers c.self.inside.number in
    rw (c.replace-before.ensures.after, c.again.ensures) (
      rw (← c.requires.named) c.in-Some-fix.ensures.0,
      λ running. sym (ap (state_after first) (c.in-Some-fix.ensures.2 ∙ c.next_history-history.ensures) ∙ state_after-snoc first (shown_by c.self.inside.token) c.moment.inside.event c.tick.new.self),
    )

pub invariant_of-moment-2 : goal.invariant_of-moment-2
invariant_of-moment-2 g c =
    let i = c.moment.inside in
    let v = c.moment.invariant in
    let number : c.self.inside.number ≡ i.takers.first + length i.steps.items = rw (← c.moment.view_is) at (when_true _ _ c.is_next.result c.is_next.ensures c.if-not-is_next.false) in (
      v.0,
      marks-popped g.K.Identity.events i.event i.marks.items c.pop.new.self.items _ c.in-Some.ensures.items v.1,
      v.2,
      rw c.push_reserved.ensures.items (steps-added (g.A.Actor.first g.K.Identity.numbers) g.A.Actor.goes g.A.Timed.quiet g.K.Identity.events i.event i.takers.first i.steps.items _ v.3 number record {
        of = rw c.replace-before.ensures.value c.self.invariant.0;
        shows = rw (← c.requires.named) c.in-Some-fix.ensures.0;
        is = rw (c.replace-before.ensures.value, c.of.ensures) (c.in-Some-fix.ensures.2 ∙ c.next_history-history.ensures);
        legal = rw (c.replace-before.ensures.value, c.of.ensures) (subst (λ (y : g.row.A.Denot). g.A.Actor.goes y i.event c.tick.new.self g.A.Timed.quiet) (c.self.invariant.1 c.if-self.false) c.tick.ensures);
      }),
      omega (arith, c.in-Some.ensures.len, c.push_reserved.ensures.len, v.4),
      omega (arith, c.in-Some.ensures.len, c.push_reserved.ensures.len, c.push_reserved.ensures.capacity, v.5),
    )

pub returns-clause-step : goal.returns-clause-step
returns-clause-step g c =
    let i = c.moment.inside in
    let left : length c.pop.new.self.items ≡ length i.marks.items - 1 = omega (arith, ap length c.in-Some.ensures.items, length-append c.pop.new.self.items (c.in-Some.booking ∷ [])) in
    rw (← c.moment.view_is, ← c.self.view_is, c.push_reserved.ensures.items, c.replace-before.ensures.after, c.again.ensures) record {
      step = record { number = c.self.inside.number; before = c.replace-before.result; after = c.in-Some-fix.after; state = c.of.result };
      number = refl;
      before = ap shown_by c.replace-before.ensures.value;
      index = ap index_of c.replace-before.ensures.value;
      state = c.of.ensures;
      mark = refl;
      adds = ap (λ (n : ℕ). record { takers = i.takers; event = i.event; left = n; steps = i.steps.items ++ record { number = c.self.inside.number; before = c.replace-before.result; after = c.in-Some-fix.after; state = c.of.result } ∷ [] }) left;
    }
