use Rattle.std.proofs.Common.{◌≡◌, None, Some, inl, inr, refl, sym, arith}
use Rattle.std.proofs.lemmas.Option.{none-some}
use Rattle.stamp_traces.specs.Shown.{booking_of}
use Rattle.stamp_traces.proofs.Lists.{get_snoc, none-seen}
use Rattle.stamp_traces.proofs.Legal.{legal-none}
use Rattle.stamp_traces.proofs.PassLemmas.{passes-none}
use Rattle.stamp_traces.proofs.journal.Journal.new.Goals as goal

pub loop-i-preserved : goal.loop-i-preserved
loop-i-preserved g c = record {
  tokens = λ n t at. elim (get_snoc c.loop-i.tokens.items None n t (rw c.in_ok-push.ensures.items at at)) as (λ _. t ≡ None) [ inl h ↦ c.loop-i.invariant.tokens n t h.1 | inr h ↦ h.1 ];
  bookings = λ n p at. elim (get_snoc c.loop-i.bookings.items None n p (rw c.in_ok-push-2.ensures.items at at)) as (λ _. p ≡ None) [ inl h ↦ c.loop-i.invariant.bookings n p h.1 | inr h ↦ h.1 ];
}

pub invariant_of-result : goal.invariant_of-result
invariant_of-result g c = (
  rw c.in_ok-entries.ensures.items (legal-none g.A.Actor.goes (g.A.Actor.first g.K.Identity.numbers) g.K.Identity.events c.loop-i.tokens.items c.loop-i.invariant.tokens),
  rw (c.in_ok-entries.ensures.items, c.new.ensures.items) (passes-none g.K.Identity.prefixes),
  record { each = λ n p at. absurd (none-some p (sym (c.loop-i.invariant.bookings n (Some p) at))) },
  omega (arith, c.in_ok-entries.ensures.len),
  c.in_ok-entries.ensures.capacity,
)

pub returns-clause-none : goal.returns-clause-none
returns-clause-none g c = λ n b. none-seen booking_of c.loop-i.bookings.items refl (λ m p at. c.loop-i.invariant.bookings m p at) n b
