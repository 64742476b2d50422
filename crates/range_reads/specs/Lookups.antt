-- The Gets of a range, and what they see of it.
use Rattle.std.specs.Prelude.{◌≡◌, List, option_to_list}
use Rattle.model_partition.specs.declared.waiting.WaitingGet.{WaitingGet}
use Rattle.model_partition.specs.Getting.{Tried}
use Rattle.model_partition.specs.Range.{RangeState}
use Rattle.range_reads.specs.declared.asking.Asking.{Asking}
use Rattle.range_reads.specs.declared.trying.OneTry.{OneTry}
use Rattle.range_reads.specs.ValueCache.{Values}

-- the Gets that wait, and the pages and values that are held
pub record LookupsState : Type 0 where
  pub gets : List WaitingGet
  pub held : Values

-- what is looked at is the range's
pub record Sees (r : RangeState) (a : Asking) : Type 0 where
  pub range : a.range ≡ r.load.range
  pub generation : a.generation ≡ r.load.generation
  pub until : a.until ≡ r.until
  pub pause : a.pause ≡ r.pause
  pub live : a.table.now.live ≡ r.live
  pub fixed : a.table.now.fixed ≡ r.fixed
  pub indexes : a.indexes.now ≡ r.indexes
  pub log : a.log.now ≡ r.log.extents
  pub blob : a.blob.now ≡ r.blob_data.extents
  pub rows : a.rows.now ≡ r.rows.extents

-- these are the range's Gets
pub record IsOf (r : RangeState) (s : LookupsState) : Type 0 where
  pub gets : s.gets ≡ r.gets
  pub held : s.held ≡ r.held

-- the range, with what is looked at and what is held in place of its own
abbrev pub seen : Asking → Values → RangeState → RangeState
seen a held r =
    record r {
      load = record r.load { range = a.range; generation = a.generation };
      until = a.until;
      pause = a.pause;
      live = a.table.now.live;
      fixed = a.table.now.fixed;
      indexes = a.indexes.now;
      log = record r.log { extents = a.log.now };
      blob_data = record r.blob_data { extents = a.blob.now };
      rows = record r.rows { extents = a.rows.now };
      held = held;
    }

abbrev pub tried_of : OneTry → Tried
tried_of one =
    record { waiting = option_to_list one.waiting; count = one.count; packets = option_to_list one.packet; notes = option_to_list one.note }
