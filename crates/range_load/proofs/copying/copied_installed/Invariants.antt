use Rattle.std.proofs.Common.{◌≡◌, take}
use Rattle.range_load.proofs.copying.copied_installed.Given as goal

abbrev pub invariant-loop-one : goal.invariant-loop-one
invariant-loop-one l = l.copies.items ≡ take l.one-index l.all
