-- The map's state, and the file of its records.
use Rattle.std.specs.Prelude.{◌≡◌, ℕ, Bool, true, List}
use Rattle.block_types.specs.declared.record.Record.{Record}
use Rattle.disk.specs.Filed.{Filed}
use Rattle.disk.specs.Made.{IsMadeOf}
use Rattle.model_partition.specs.Map.{MapState}
use Rattle.model_partition.specs.declared.range_entry.RangeEntry.{RangeEntry}
use Rattle.model_partition.specs.Replay.{map_fits}
pub use Rattle.pmap_table.specs.MakesMap.{MakesMap}

-- the ranges in the order of their keys, the number of the next range, and the file of records that they come from
pub record MapWithFile (D : Type 0) : Type 0 where
  pub ranges : List RangeEntry
  pub next : ℕ
  pub file : Filed D

-- all but the file
abbrev pub map_of : {D : Type 0} → MapWithFile D → MapState
map_of h = record { ranges = h.ranges; next = h.next }

abbrev pub held_of : {D : Type 0} → MapState → Filed D → MapWithFile D
held_of m file = record { ranges = m.ranges; next = m.next; file = file }

-- what a map holds comes of the records of its file, which fit
abbrev pub HoldsMap : MapState → Bool → List Record → Type 0
HoldsMap m stopped rs = IsMadeOf (λ r. MakesMap r m) (λ r. map_fits r ≡ true) stopped rs
