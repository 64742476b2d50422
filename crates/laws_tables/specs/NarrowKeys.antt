-- Records that name keys give a range no more than it had: so what its metadata names counts for all of its keys.
use Rattle.std.specs.Prelude.{List, [], ◌∷◌}
use Rattle.std.specs.List.{AllByRecursion}
use Rattle.metadata.specs.declared.record.IndexRange.{IndexRange}
use Rattle.metadata.specs.declared.record.MetaItem.{MetaItem}
use Rattle.metadata.specs.declared.record.MetaItem.TheVariants.{Ranges, Regions}
use Rattle.metadata.specs.declared.record.Region.{Region}
use Rattle.metadata.specs.Fold.{MetadataState, taken}
use Rattle.laws_tables.specs.Runs.{IsNarrower}

-- a record that lists no regions, and whose keys the range had
abbrev pub Narrows : MetadataState → MetaItem → Type 0
Narrows m (Ranges keys) = IsNarrower keys m.keys
Narrows m (Regions indexes regions) = ⊥
Narrows m item = Unit {0}

-- each of a line, from what was said before it
abbrev pub AllNarrow : MetadataState → List MetaItem → Type 0
AllNarrow m [] = Unit {0}
AllNarrow m (item ∷ items) = Narrows m item × AllNarrow (taken m item) items

-- The range's indexes and its regions have all of its keys, whatever others they have: those of a child count within its own, as they
-- counted within its parent's.
pub record CountsForAll (m : MetadataState) : Type 0 where
  pub indexes : AllByRecursion (λ (x : IndexRange). IsNarrower m.keys x.keys) m.indexes
  pub regions : AllByRecursion (λ (x : Region). IsNarrower m.keys x.keys) m.regions
