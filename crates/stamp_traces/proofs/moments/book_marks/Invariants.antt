use Rattle.std.proofs.Common.{◌≡◌, length}
use Rattle.stamp_traces.specs.Moments.{AreMarksOf}
use Rattle.stamp_traces.proofs.moments.book_marks.Given as goal

abbrev pub invariant-loop-i : goal.invariant-loop-i
invariant-loop-i g l = record {
  count : length l.bookings.items ≡ l._i;
  marks : AreMarksOf l.marks l.event l.bookings.items;
}
