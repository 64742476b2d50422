use Rattle.std.proofs.Common.{◌≡◌, ℕ, None, Some}
use Rattle.std.specs.Prelude.{slice_get}
use Rattle.stamp_traces.proofs.journal.Journal.new.Given as goal

abbrev pub invariant-loop-i : goal.invariant-loop-i
invariant-loop-i g l = record {
  tokens : (n : ℕ) (t : _) → slice_get l.tokens.items n ≡ Some t → t ≡ None;
  bookings : (n : ℕ) (p : _) → slice_get l.bookings.items n ≡ Some p → p ≡ None;
}
