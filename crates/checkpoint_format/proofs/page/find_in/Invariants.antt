use Rattle.std.proofs.Common.{◌≡◌, ◌-◌, ◌<◌, ℕ}
use Rattle.std.specs.Prelude.{slice_index}
use Rattle.blocks.specs.Format.{IsEndOf}
use Rattle.checkpoint_format.specs.Page.{found_at}
use Rattle.checkpoint_format.proofs.Walk.{walk, with_found}
use Rattle.checkpoint_format.proofs.page.find_in.Given as goal

abbrev pub invariant-loop : goal.invariant-loop
invariant-loop l = record {
  walked : with_found l.cell l.key (walk (l.count - l.counter) l.last l.rest) ≡ found_at l.page l.key;
  end : IsEndOf l.rest l.page;
  bytes : (i : ℕ) → slice_index l.page i < 256;
}
