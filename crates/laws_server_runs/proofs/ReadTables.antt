-- What a look-up of a Get finds is in the tables of its range, over whatever of their pages and values is held.
use Rattle.std.proofs.Common.{◌≡◌, ℕ, true, List, [], ◌∷◌, Option, refl, sym, ◌∙◌, subst}
use Rattle.memtable.specs.declared.cell.Place.{Place}
use Rattle.metadata.specs.declared.record.IndexRange.{IndexRange}
use Rattle.metadata.specs.Keys.{within}
use Rattle.model_partition.specs.Getting.{Is, look, standing}
use Rattle.model_partition.specs.Past.{Bytes}
use Rattle.model_partition.specs.Range.{RangeState}
use Rattle.model_histories.specs.IndexContents.{served_entries}
use Rattle.model_histories.specs.TableContents.{table_in}
use Rattle.laws_loads.specs.MemoryLayers.{layer_in}
use Rattle.laws_loads.specs.RangeView.{RangeView}
use Rattle.laws_tables.specs.Layers.{flat}
use Rattle.laws_tables.specs.Runs.{Run}
use Rattle.laws_checkpoints.specs.ShownTables.{AreWrittenByKey, HoldsBytes, IsAnswer}
use Rattle.laws_checkpoints.proofs.Checkpoints.{newer_layer}
use Rattle.laws_checkpoints.proofs.HeldPages.{installed_searchable, get_says_layers}
use Rattle.laws_server_runs.specs.NamedIndexes.{AreNamed}
use Rattle.laws_server_runs.specs.RangeInvariant.{IsOfPages, Serves, StreamsKept}
use Rattle.laws_server_runs.proofs.HeldLine.{known_table}
use Rattle.laws_server_runs.proofs.ServedLine.{known_at}

module _ (texts : ℕ → Bytes) where
  -- indexes of pages name each page by its first key
  by_key : (named : List IndexRange) → AreNamed (IsOfPages texts) named → AreWrittenByKey texts named
  by_key [] all = tt
  by_key (x ∷ named) all = (all.0, by_key named all.1)

  module _ (run : Run) (v : RangeView) (r : RangeState) (streams : StreamsKept texts run v) (k : Serves texts run v r) where
    -- what is found is the value in the tables, within the range's keys
    pub looked_up : (held : List (Place × List ℕ)) → HoldsBytes texts held → (key : Bytes) → within r.said.keys key ≡ true → (value : Option Bytes) → look held r.indexes key (standing r key) ≡ Is value →
        value ≡ table_in texts (served_entries texts r) key
    looked_up held right key inside value is = answers ∙ sym (known_table texts run v r streams k key inside)
      where
        answers : value ≡ flat (known_at texts r key)
        answers =
            subst (IsAnswer texts held (flat (known_at texts r key))) is
            (get_says_layers texts (record r { held = held }) r.said.indexes (layer_in texts r.live) (newer_layer texts r.fixed) key right k.matches.installed
            (installed_searchable texts r.indexes r.said.indexes k.matches.installed (by_key r.said.indexes k.matches.named.indexes)) refl refl)
