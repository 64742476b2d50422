use Rattle.std.proofs.Common.{◌≡◌}
use Rattle.checkpoint.specs.Pages.{has_place}
use Rattle.checkpoint.proofs.combination.has_place.Given as goal

abbrev pub invariant-loop-cell : goal.invariant-loop-cell
invariant-loop-cell l = has_place l.cell-iterator ≡ has_place l.entries.entries
