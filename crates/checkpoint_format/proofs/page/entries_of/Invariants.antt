use Rattle.std.proofs.Common.{◌≡◌, ◌-◌, ◌<◌, ℕ}
use Rattle.std.specs.Prelude.{slice_index}
use Rattle.blocks.specs.Format.{IsEndOf}
use Rattle.checkpoint_format.specs.Page.{entries_at}
use Rattle.checkpoint_format.proofs.Walk.{walk, with_before}
use Rattle.checkpoint_format.proofs.page.entries_of.Given as goal

abbrev pub invariant-loop : goal.invariant-loop
invariant-loop l = record {
  walked : with_before l.entries.items (walk (l.count - l.counter) l.last l.rest) ≡ entries_at l.page;
  end : IsEndOf l.rest l.page;
  bytes : (i : ℕ) → slice_index l.page i < 256;
}
