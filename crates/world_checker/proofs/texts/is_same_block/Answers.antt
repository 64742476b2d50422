use Rattle.std.proofs.Common.{◌≡◌}
use Rattle.std.specs.Bool.{Decides}
use Rattle.std.proofs.lemmas.Bool.Decides.{Decides-eqb}
use Rattle.std.proofs.lemmas.Slice.Eq.{slice_eq-Decides}
use Rattle.world_checker.proofs.texts.is_same_block.Goals as goal

pub returns : goal.returns
returns c =
    let same : Decides c.eq.result (c.as_slice.result.now ≡ c.as_slice-2.result.now) = slice_eq-Decides Decides-eqb _ _ _ c.eq.ensures in
    rw (c.as_slice.ensures, c.as_slice-2.ensures) at same
