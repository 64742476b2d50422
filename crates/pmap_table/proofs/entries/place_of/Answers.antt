use Rattle.std.proofs.Common.{rules, tests}
use Rattle.std.specs.Prelude.{◌==◌}
use Rattle.std.proofs.lemmas.Iterator.{YieldsList-from_slice}
use Rattle.std.proofs.lemmas.Iterator.Search.{position_from_yields_List}
use Rattle.pmap_table.proofs.Places.{placed, placed_within, unplaced}
use Rattle.pmap_table.proofs.entries.place_of.Goals as goal

pub returns-clause-place : goal.returns-clause-place
returns-clause-place c =
    rw (position_from_yields_List (λ r. r.range == c.args.range) _ _ _ c.position.ensures.ran (YieldsList-from_slice c.args.entries.now cc) (λ x b q k. search (rules, tests)))
    (placed c.args.range c.args.entries.now)

pub returns-clause-none : goal.returns-clause-none
returns-clause-none c =
    rw (position_from_yields_List (λ r. r.range == c.args.range) _ _ _ c.position.ensures.ran (YieldsList-from_slice c.args.entries.now cc) (λ x b q k. search (rules, tests)))
    (unplaced c.args.range c.args.entries.now)

pub returns-clause-within : goal.returns-clause-within
returns-clause-within c =
    rw (position_from_yields_List (λ r. r.range == c.args.range) _ _ _ c.position.ensures.ran (YieldsList-from_slice c.args.entries.now cc) (λ x b q k. search (rules, tests)))
    (placed_within c.args.range c.args.entries.now)
