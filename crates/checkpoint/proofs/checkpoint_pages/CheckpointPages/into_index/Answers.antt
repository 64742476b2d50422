use Rattle.std.proofs.Common.{◌≡◌, true, subst}
use Rattle.checkpoint_format.specs.Index.{IsIndex, fits_a_group}
use Rattle.checkpoint.specs.PageGroups.{PagesState}
use Rattle.checkpoint.proofs.PageGroups.{index_is}
use Rattle.checkpoint.proofs.checkpoint_pages.CheckpointPages.into_index.Goals as goal

pub returns-clause-range : goal.returns-clause-range
returns-clause-range c = subst (λ (p : PagesState). fits_a_group p.index ≡ true → IsIndex p.index) c.self.view_is (index_is _ c.self.invariant.1)
