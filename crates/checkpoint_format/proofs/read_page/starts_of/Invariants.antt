use Rattle.std.proofs.Common.{◌-◌, ◌<◌, ◌≤◌, ℕ, length}
use Rattle.std.specs.Prelude.{slice_index}
use Rattle.checkpoint_format.proofs.Starts.{HasBegun}
use Rattle.checkpoint_format.proofs.read_page.starts_of.Given as goal

abbrev pub invariant-loop : goal.invariant-loop
invariant-loop l = record {
  begun : HasBegun l.page l.starts.items (l.count - l.counter) l.last l.rest;
  small : length l.page ≤ 65536;
  bytes : (i : ℕ) → slice_index l.page i < 256;
}
