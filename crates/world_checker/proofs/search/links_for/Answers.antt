use Rattle.std.proofs.Common.{subst}
use Rattle.world_checker.specs.declared.index.Sought.TheVariants.{All, Shown}
use Rattle.world_checker.specs.Checking.{IsTold}
use Rattle.world_checker.proofs.Linking.{lead_over}
use Rattle.world_checker.proofs.search.links_for.Goals as goal

pub returns-then-is_told : goal.returns-then-is_told
returns-then-is_told c = lead_over Shown c.args.notes.now c.args.index.shown.now c.args.place c.requires.within c.requires.index.to_shown
    (c.requires.index.told c.args.place c.index-notes-place.result c.if-place-index.true (subst IsTold c.index-notes-place.is (c.is_told.ensures.0 c.if-is_told.true)))

pub returns-else-place-index : goal.returns-else-place-index
returns-else-place-index c = lead_over All c.args.notes.now c.args.index.all.now c.args.place c.requires.within c.requires.index.to_all (λ i d lt passed. absurd passed)
