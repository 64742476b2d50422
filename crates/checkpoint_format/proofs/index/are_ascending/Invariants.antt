use Rattle.std.proofs.Common.{◌≡◌, ◌∷◌, drop}
use Rattle.checkpoint_format.specs.Index.{are_ascending}
use Rattle.checkpoint_format.proofs.index.are_ascending.Given as goal

abbrev pub invariant-loop-page : goal.invariant-loop-page
invariant-loop-page l = are_ascending (l.last ∷ drop l.page-index l.rest) ≡ are_ascending l.pages
