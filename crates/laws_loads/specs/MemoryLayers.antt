-- What a memory table says of each key, where the bytes of extents are known.
use Rattle.std.specs.Prelude.{ℕ, option_map}
use Rattle.memtable.specs.Entries.{Entries, found}
use Rattle.model_partition.specs.Past.{Bytes}
use Rattle.model_histories.specs.TableContents.{value_in}
use Rattle.laws_tables.specs.Layers.{Layer}

module _ (texts : ℕ → Bytes) where
  -- the layer of a memory table: what its cells say
  abbrev pub layer_in : Entries → Layer
  layer_in entries key = option_map (value_in texts) (found entries key)
