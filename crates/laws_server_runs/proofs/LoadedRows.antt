-- The rows of a confirmed load show what the layers of its run say, where they show the range's memory table over what its indexes say.
use Rattle.std.proofs.Common.{◌≡◌, ℕ, Bool, List, [], true, false, None, cond, refl, sym, ap, ◌∙◌}
use Rattle.metadata.specs.Keys.{within}
use Rattle.model_histories.specs.IndexContents.{entries_in}
use Rattle.model_partition.specs.Loading.{shown_table}
use Rattle.model_histories.specs.TableContents.{table_in}
use Rattle.laws_loads.proofs.Rows.{Ordered}
use Rattle.laws_checkpoints.specs.ShownTables.{AreInstalled}
use Rattle.laws_checkpoints.proofs.ShownRows.{ascending_if, written_ascending}
use Rattle.laws_checkpoints.proofs.TableLayers.{table_flat, table_layer}
use Rattle.wire.specs.declared.rows.Row.{Row}
use Rattle.wire.specs.declared.streams.StreamKind.TheVariants as kinds
use Rattle.metadata.specs.Fold.{MetadataState}
use Rattle.model_partition.specs.Past.{Bytes, stored, kept}
use Rattle.model_partition.specs.Range.{RangeState}
use Rattle.laws_loads.specs.MemoryLayers.{layer_in}
use Rattle.laws_loads.specs.RangeView.{RangeView}
use Rattle.laws_tables.proofs.Layers.{kept_same}
use Rattle.laws_tables.specs.Layers.{over, flat, indexed}
use Rattle.laws_tables.specs.Runs.{Run, first_beginning, loaded_layer}
use Rattle.laws_checkpoints.specs.IndexLayers.{layer_at}
use Rattle.laws_server_runs.specs.RangeInvariant.{ReadsLog, StreamsKept, InOrder}
use Rattle.laws_server_runs.proofs.ConfirmedLoad.{view_shown, spelled_groups, shown_records, said_is, records_keep, layers_are, named_are}
use Rattle.laws_server_runs.proofs.ObservedLoad.{SaysLoad}
use Rattle.laws_server_runs.proofs.OutsideKeys.{all_out, table_out}
use Rattle.laws_server_runs.proofs.NamedIndexes.{written_named}

module _ (texts : ℕ → Bytes) (run : Run) (v : RangeView) (r : RangeState) (h : ReadsLog v.history r) (streams : StreamsKept texts run v) (order : InOrder texts (view_shown v r)) where
  -- whatever records of checkpoints the load shows
  pub layers_load : (rows : List Row) → ((key : Bytes) → stored rows key ≡ kept r.said.keys (λ k. flat (over (layer_in texts r.live) (indexed (layer_at texts) r.said.indexes) k)) key) →
      SaysLoad (layer_at texts) rows (spelled_groups v r) (shown_records v r)
  layers_load rows says key =
      says key
      ∙ kept_same r.said.keys (λ k. flat (over (layer_in texts r.live) (indexed (layer_at texts) r.said.indexes) k)) (λ k. flat (loaded_layer first_beginning (layer_at texts) (spelled_groups v r) (shown_records v r) k))
      (λ k there. ap flat (layers_are texts run v r h streams order (records_keep texts run v r h streams order) (layer_at texts) k there)) key
      ∙ ap (λ (m : MetadataState). kept m.keys (λ k. flat (loaded_layer first_beginning (layer_at texts) (spelled_groups v r) (shown_records v r) k)) key) (said_is texts run v r h streams order)

  -- ---- what it shows of its table

  -- the rows of its memory table over its indexes are those of its layers
  pub table_load : AreInstalled texts r.indexes r.said.indexes → Ordered r.live → (rows : List Row) → ((key : Bytes) → stored rows key ≡ table_in texts (entries_in texts (shown_table r)) key) →
      SaysLoad (layer_at texts) rows (spelled_groups v r) (shown_records v r)
  table_load installed sorted rows says = layers_load rows (λ key. by key (within r.said.keys key) refl)
    where
      by : (key : Bytes) (b : Bool) → within r.said.keys key ≡ b → stored rows key ≡ kept r.said.keys (λ k. flat (over (layer_in texts r.live) (indexed (layer_at texts) r.said.indexes) k)) key
      by key true inside =
          says key ∙ table_flat texts (entries_in texts (shown_table r)) key
          ∙ ap flat (table_layer texts (shown_table r) r.said.indexes key installed
          (written_ascending texts r.said.indexes (written_named texts r.said.indexes (named_are texts run v r h streams order).indexes)) (ascending_if r.live sorted) inside)
          ∙ sym (ap (λ b. cond b (flat (over (layer_in texts r.live) (indexed (layer_at texts) r.said.indexes) key)) None) inside)
      by key false outside =
          says key
          ∙ table_out texts (shown_table r) key outside (all_out r.said.keys key outside (v.history.reads kinds.Log) (r.said.regions, []) (r.regions, r.live) refl h.made) (ascending_if r.live sorted)
          ∙ sym (ap (λ b. cond b (flat (over (layer_in texts r.live) (indexed (layer_at texts) r.said.indexes) key)) None) outside)
