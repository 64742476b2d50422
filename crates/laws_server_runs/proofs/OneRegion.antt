-- Metadata that names one region of the log, which has no end: what records may say so that it stays so.
use Rattle.std.proofs.Common.{◌≡◌, ◌<◌, ◌^◌, List, [], ◌∷◌, None, refl, arith}
use Rattle.metadata.specs.declared.record.MetaItem.{MetaItem}
use Rattle.metadata.specs.declared.record.MetaItem.TheVariants.{Ranges, Checkpoint, Regions, SplitStatus}
use Rattle.metadata.specs.declared.record.Region.{Region}
use Rattle.metadata.specs.Record.{IsPosition}
use Rattle.metadata.specs.Fold.{MetadataState, first_metadata, taken}
use Rattle.laws_tables.specs.Runs.{IsNarrower, fold_of}

-- its start is a position in an extent, and it has all keys of the range
pub record IsOneRegion (m : MetadataState) : Type 0 where
  pub region : Region
  pub only : m.regions ≡ region ∷ []
  pub open_end : region.end ≡ None
  pub short : region.start.offset < 2 ^ 32
  pub inside : IsNarrower m.keys region.keys

-- a record that lists no regions, and gives the range no more keys
abbrev pub KeepsOneRegion : MetadataState → MetaItem → Type 0
KeepsOneRegion m (Ranges keys) = IsNarrower keys m.keys
KeepsOneRegion m (Checkpoint combine index position next) = IsPosition position
KeepsOneRegion m (Regions indexes regions) = ⊥
KeepsOneRegion m (SplitStatus low high key) = Unit {0}

abbrev pub AllKeepOneRegion : MetadataState → List MetaItem → Type 0
AllKeepOneRegion m [] = Unit {0}
AllKeepOneRegion m (item ∷ items) = KeepsOneRegion m item × AllKeepOneRegion (taken m item) items

one_kept : (m : MetadataState) (item : MetaItem) → IsOneRegion m → KeepsOneRegion m item → IsOneRegion (taken m item)
one_kept m (Ranges keys) one k = record { region = one.region; only = one.only; open_end = one.open_end; short = one.short; inside = λ key there. one.inside key (k key there) }
one_kept m (Checkpoint combine index position next) one k =
    record { region = record { start = position; end = None; next = next; keys = m.keys }; only = refl; open_end = refl; short = k.1; inside = λ key there. there }
one_kept m (Regions indexes regions) one k = absurd k
one_kept m (SplitStatus low high key) one k = record { region = one.region; only = one.only; open_end = one.open_end; short = one.short; inside = one.inside }

pub all_kept : (m : MetadataState) (items : List MetaItem) → IsOneRegion m → AllKeepOneRegion m items → IsOneRegion (fold_of m items)
all_kept m [] one k = one
all_kept m (item ∷ items) one k = all_kept (taken m item) items (one_kept m item one k.0) k.1

-- before the first record it is the whole log
pub first_one : IsOneRegion first_metadata
first_one = record { region = record { start = record { index = 0; offset = 0 }; end = None; next = 1; keys = first_metadata.keys }; only = refl; open_end = refl; short = omega arith; inside = λ key there. there }
