-- The index of a checkpoint covers what the range held: a plain one the fixed layer, one that combines this over all old indexes.
use Rattle.std.proofs.Common.{◌≡◌, ℕ, Bool, true, false, cond, List, [], ◌∷◌, Option, Some, None, option_map, refl, ap, ◌∙◌}
use Rattle.std.specs.List.{AllByRecursion}
use Rattle.memtable.specs.declared.cell.Cell.{Cell}
use Rattle.memtable.specs.declared.cell.Cell.TheVariants.{Deleted, Inline, Placed}
use Rattle.memtable.specs.declared.cell.Place.{Place}
use Rattle.memtable.specs.Entries.{Entries, found}
use Rattle.memtable.specs.Layers.{found_in, or_else}
use Rattle.metadata.specs.declared.record.IndexRange.{IndexRange}
use Rattle.metadata.specs.declared.record.KeyRange.{KeyRange}
use Rattle.metadata.specs.Keys.{within}
use Rattle.checkpoint_format.specs.declared.index.Index.{Index}
use Rattle.checkpoint.specs.Pages.{cell_in, merged, combined}
use Rattle.checkpoint.specs.Contents.{HasEntries, IsAscending, MayBeEntries, MayBeAscending, shown}
use Rattle.checkpoint.proofs.Merging.{merged_law, merged_entries, combined_law}
use Rattle.model_partition.specs.Past.{Bytes}
use Rattle.model_histories.specs.TableContents.{value_in}
use Rattle.laws_tables.specs.Layers.{Layer, over, flat, indexed}
use Rattle.laws_tables.specs.Runs.{Beginning, Serving, said, Covers}
use Rattle.laws_tables.proofs.Layers.{pick}
use Rattle.laws_loads.specs.MemoryLayers.{layer_in}
use Rattle.laws_checkpoints.specs.IndexLayers.{index_entries, layer_at, contents_of, IsWritten, AreWritten}
use Rattle.laws_checkpoints.proofs.WrittenIndexes.{layer_says, contents_written, contents_ascending}

module _ (texts : ℕ → Bytes) where
  -- what is known of a key that has this cell, or none
  abbrev pub known_of : Option Cell → Option (Option Bytes)
  known_of cell = option_map (value_in texts) cell

  -- the layer of newer entries, where there are some
  abbrev pub newer_layer : Option Entries → Layer
  newer_layer newer key = known_of (found_in newer key)

  -- ---- cells, one behind the other

  pub known_first : (a b : Option Cell) → known_of (or_else a b) ≡ pick (known_of a) (known_of b)
  known_first None b = refl
  known_first (Some cell) b = refl

  known_within : (b : Bool) (cell : Option Cell) → known_of (cond b cell None) ≡ cond b (known_of cell) None
  known_within true cell = refl
  known_within false cell = refl

  -- a deleted key has no value, whether or not it is left out
  value_shown : (cell : Option Cell) → flat (known_of (shown cell)) ≡ flat (known_of cell)
  value_shown None = refl
  value_shown (Some Deleted) = refl
  value_shown (Some (Inline value)) = refl
  value_shown (Some (Placed place)) = refl

  -- ---- merging

  -- the map that indexes make together is their layers, the newest over the others
  pub contents_say : (indexes : List IndexRange) (key : Bytes) →
      known_of (cell_in (contents_of texts indexes) key) ≡ indexed (layer_at texts) indexes key
  contents_say [] key = refl
  contents_say (x ∷ older) key =
      let cell : Option Cell = found (index_entries texts x.place) key in
      known_first (cond (within x.keys key) cell None) (cell_in (contents_of texts older) key)
      ∙ ap (λ o. pick o (known_of (cell_in (contents_of texts older) key))) (known_within (within x.keys key) cell)
      ∙ ap (pick (cond (within x.keys key) (known_of cell) None)) (contents_say older key)

  -- what is merged of indexes is their layers, within the keys
  pub merged_says : (keys : KeyRange) (indexes : List IndexRange) (key : Bytes) → AllByRecursion IsAscending (contents_of texts indexes) →
      within keys key ≡ true → layer_in texts (merged keys (contents_of texts indexes)) key ≡ indexed (layer_at texts) indexes key
  merged_says keys indexes key all inside =
      ap known_of (merged_law keys (contents_of texts indexes) key all inside) ∙ contents_say indexes key

  -- ---- combining

  ascending_if : (newer : Option Entries) → MayBeEntries newer → MayBeAscending newer
  ascending_if None are = tt
  ascending_if (Some entries) are = are.ascending

  -- what is combined has the values of the newer layer over those of the indexes, within the keys
  pub combined_says : (keys : KeyRange) (indexes : List IndexRange) (newer : Option Entries) (key : Bytes) →
      AllByRecursion HasEntries (contents_of texts indexes) → MayBeEntries newer → within keys key ≡ true →
      flat (layer_in texts (combined (merged keys (contents_of texts indexes)) newer) key)
      ≡ flat (over (newer_layer newer) (indexed (layer_at texts) indexes) key)
  combined_says keys indexes newer key all newer_are inside =
      let entries : Entries = merged keys (contents_of texts indexes) in
      ap (λ o. flat (known_of o)) (combined_law entries newer key (merged_entries keys (contents_of texts indexes) all).ascending (ascending_if newer newer_are))
      ∙ value_shown (or_else (found_in newer key) (found entries key))
      ∙ ap flat (known_first (found_in newer key) (found entries key) ∙ ap (pick (newer_layer newer key)) (merged_says keys indexes key (contents_ascending texts (contents_of texts indexes) all) inside))

  -- ---- what a checkpoint owes

  module _ (b : Beginning) (s : Serving) (index : Index) (place : Place) where
    -- an index that was written of the fixed layer's entries
    pub plain_covers : (fixed : Entries) → IsWritten texts index fixed place → ((key : Bytes) → within (said b s.records).keys key ≡ true → layer_in texts fixed key ≡ s.fixed key) →
        Covers (layer_at texts) b s false (layer_at texts place)
    plain_covers fixed written is = λ key inside. layer_says texts index fixed place written key ∙ is key inside

    -- an index that was written of what all old indexes and the fixed layer's entries combine to
    pub combined_covers : (newer : Option Entries) → AreWritten texts (said b s.records).indexes → MayBeEntries newer →
        IsWritten texts index (combined (merged (said b s.records).keys (contents_of texts (said b s.records).indexes)) newer) place →
        ((key : Bytes) → within (said b s.records).keys key ≡ true → newer_layer newer key ≡ s.fixed key) → Covers (layer_at texts) b s true (layer_at texts place)
    combined_covers newer old newer_are written is = λ key inside.
        let indexes : List IndexRange = (said b s.records).indexes in
        let keys : KeyRange = (said b s.records).keys in
        ap flat (layer_says texts index (combined (merged keys (contents_of texts indexes)) newer) place written key)
        ∙ combined_says keys indexes newer key (contents_written texts indexes old) newer_are inside
        ∙ ap (λ o. flat (pick o (indexed (layer_at texts) indexes key))) (is key inside)
