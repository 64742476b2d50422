-- The indexes that metadata names: each at a place of which something holds. They and the regions count for all of the range's keys,
-- whatever others they have.
use Rattle.std.specs.Prelude.{List}
use Rattle.std.specs.List.{AllByRecursion}
use Rattle.memtable.specs.declared.cell.Place.{Place}
use Rattle.metadata.specs.declared.record.IndexRange.{IndexRange}
use Rattle.metadata.specs.Fold.{MetadataState}
use Rattle.laws_tables.specs.NarrowKeys.{CountsForAll}

-- the places of whose indexes this is so
module _ (Holds : Place → Type 0) where
  abbrev pub AreNamed : List IndexRange → Type 0
  AreNamed indexes = AllByRecursion (λ x. Holds x.place) indexes

  -- metadata that names such indexes, each for all of its keys
  pub record NamesSuch (m : MetadataState) : Type 0 where
    pub indexes : AreNamed m.indexes
    pub counts : CountsForAll m
