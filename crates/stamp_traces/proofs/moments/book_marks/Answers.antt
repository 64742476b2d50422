use Rattle.std.proofs.Common.{inl, inr, arith, length-append, ◌∷◌, []}
use Rattle.boxcar.specs.Table.{Shows}
use Rattle.stamp_traces.proofs.Lists.{get_snoc}
use Rattle.stamp_traces.proofs.moments.book_marks.Goals as goal

pub loop-i-preserved : goal.loop-i-preserved
loop-i-preserved g c = record {
  count = rw c.in_ok-push.ensures.items (omega (arith, length-append c.loop-i.bookings.items (c.in_ok-booking.booking ∷ []), c.loop-i.invariant.count));
  marks = record {
    each = λ k p at.
        elim (get_snoc c.loop-i.bookings.items c.in_ok-booking.booking k p (rw c.in_ok-push.ensures.items at at)) [
          | inl h ↦ c.loop-i.invariant.marks.each k p h.1
          | inr h ↦ rw h.1 c.in_ok-booking.ensures
        ];
  };
}
