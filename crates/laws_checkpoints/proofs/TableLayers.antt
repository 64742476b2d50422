-- The entries of a loaded table, and those of a served range, are their layers, one over the other.
use Rattle.std.proofs.Common.{◌≡◌, ℕ, true, List, [], ◌∷◌, map, Option, refl, sym, ap, ◌∙◌}
use Rattle.memtable.specs.declared.cell.Cell.{Cell}
use Rattle.memtable.specs.Entries.{Entries, found, put_all}
use Rattle.metadata.specs.declared.record.IndexRange.{IndexRange}
use Rattle.metadata.specs.Keys.{within}
use Rattle.checkpoint_format.specs.Page.{is_ascending}
use Rattle.checkpoint.specs.declared.installed_index.InstalledIndex.{InstalledIndex}
use Rattle.checkpoint.specs.Pages.{IndexContent, merged}
use Rattle.checkpoint.proofs.Orders.{found_put, latest_sorted, sorted_from_ascending}
use Rattle.model_partition.specs.declared.shown_table.ShownTable.{ShownTable}
use Rattle.model_histories.specs.IndexContents.{pages_in, index_in, entries_in, served_entries}
use Rattle.model_partition.specs.Past.{Bytes}
use Rattle.model_partition.specs.Range.{RangeState}
use Rattle.model_partition.specs.Servers.{entries_if}
use Rattle.model_histories.specs.TableContents.{table_in}
use Rattle.laws_loads.specs.MemoryLayers.{layer_in}
use Rattle.laws_tables.specs.Layers.{over, flat, indexed}
use Rattle.laws_tables.proofs.Layers.{pick}
use Rattle.laws_checkpoints.specs.IndexLayers.{indexed_entries, index_entries, layer_at, content_of, contents_of}
use Rattle.laws_checkpoints.specs.ShownTables.{IsInstalled, AreInstalled, AreAscending}
use Rattle.laws_checkpoints.proofs.Checkpoints.{known_of, known_first, merged_says}
use Rattle.laws_checkpoints.proofs.ShownRows.{value_known}

module _ (texts : ℕ → Bytes) where
  -- a table is what its layer says
  pub table_flat : (es : Entries) (key : Bytes) → table_in texts es key ≡ flat (layer_in texts es key)
  table_flat es key = value_known texts (found es key)

  -- newer entries hide older ones
  pub put_layer : (older newer : Entries) (key : Bytes) → is_ascending newer ≡ true → layer_in texts (put_all older newer) key ≡ pick (layer_in texts newer key) (layer_in texts older key)
  put_layer older newer key order =
      ap (λ (o : Option Cell). known_of texts o) (found_put older newer key ∙ latest_sorted key newer (found older key) (sorted_from_ascending newer order))
      ∙ known_first texts (found newer key) (found older key)

  -- ---- what is installed

  index_says : (x : InstalledIndex) (named : IndexRange) → IsInstalled texts x named → index_in texts x ≡ content_of texts named
  index_says x named is =
      let entries : pages_in texts x.index.pages ≡ index_entries texts named.place = sym (ap (indexed_entries texts) is.index) ∙ ap (index_entries texts) is.place in
      (λ i. record { keys = is.keys i; entries = entries i })

  pub contents_say : (xs : List InstalledIndex) (named : List IndexRange) → AreInstalled texts xs named → map (index_in texts) xs ≡ contents_of texts named
  contents_say [] [] are = refl
  contents_say [] (x ∷ named) are = absurd are
  contents_say (x ∷ xs) [] are = absurd are
  contents_say (x ∷ xs) (y ∷ named) are =
      ap (λ (c : IndexContent). c ∷ map (index_in texts) xs) (index_says x y are.0) ∙ ap (λ (cs : List IndexContent). content_of texts y ∷ cs) (contents_say xs named are.1)

  -- ---- tables

  -- a loaded table is its memory table over what its indexes say
  pub table_layer : (table : ShownTable) (named : List IndexRange) (key : Bytes) → AreInstalled texts table.indexes named → AreAscending texts named → is_ascending table.live ≡ true → within table.keys key ≡ true →
      layer_in texts (entries_in texts table) key ≡ over (layer_in texts table.live) (indexed (layer_at texts) named) key
  table_layer table named key installed ascending order inside =
      ap (λ (cs : List IndexContent). layer_in texts (put_all (merged table.keys cs) table.live) key) (contents_say table.indexes named installed)
      ∙ put_layer (merged table.keys (contents_of texts named)) table.live key order
      ∙ ap (λ o. pick (layer_in texts table.live key) o) (merged_says texts table.keys named key ascending inside)

  -- so is a served range, with its fixed layer between them
  pub served_layer : (r : RangeState) (named : List IndexRange) (key : Bytes) → AreInstalled texts r.indexes named → AreAscending texts named → is_ascending r.live ≡ true → is_ascending (entries_if r.fixed) ≡ true →
      within r.said.keys key ≡ true →
      layer_in texts (served_entries texts r) key ≡ over (layer_in texts r.live) (over (layer_in texts (entries_if r.fixed)) (indexed (layer_at texts) named)) key
  served_layer r named key installed ascending live fixed inside =
      put_layer (entries_in texts (record { live = entries_if r.fixed; indexes = r.indexes; keys = r.said.keys })) r.live key live
      ∙ ap (λ o. pick (layer_in texts r.live key) o) (table_layer (record { live = entries_if r.fixed; indexes = r.indexes; keys = r.said.keys }) named key installed ascending fixed inside)
