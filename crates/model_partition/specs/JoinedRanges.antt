-- What two ranges that are merged come to: keys, indexes, and regions of a log that is their logs one after the other.
use Rattle.std.specs.Prelude.{ℕ, ◌+◌, ◌-◌, ◌^◌, Bool, true, ◌&&◌, nat_lt, nat_le, List, [], ◌∷◌, ◌++◌, length, map, reverse, Option, Some, None, if◌then◌else◌}
use Rattle.std.specs.List.{list_all}
use Rattle.std.specs.Cmp.Lexicographic.{slice_cmp}
use Rattle.std.specs.Ordering.{nat_cmp, is_lt}
use Rattle.streams.specs.declared.table.Position.{Position}
use Rattle.memtable.specs.declared.cell.Place.{Place}
use Rattle.client.specs.Client.{ClientState}
use Rattle.metadata.specs.declared.record.IndexRange.{IndexRange}
use Rattle.metadata.specs.declared.record.KeyRange.{KeyRange}
use Rattle.metadata.specs.declared.record.MetaItem.TheVariants.{Ranges, Regions}
use Rattle.metadata.specs.declared.record.MetaRecord.{MetaRecord}
use Rattle.metadata.specs.declared.record.Region.{Region}
use Rattle.metadata.specs.Fold.{MetadataState}
use Rattle.model_partition.specs.Range.{RangeState}
use Rattle.model_partition.specs.Splits.{is_record_end}

-- ---- keys

-- from the first key of the left range on, up to the end of the right one
abbrev pub joined_keys : RangeState → RangeState → KeyRange
joined_keys l r = record { low = l.said.keys.low; high = r.said.keys.high }

abbrev pub later_low : List ℕ → List ℕ → List ℕ
later_low low other = if is_lt (slice_cmp nat_cmp low other) then other else low

abbrev pub earlier_of : List ℕ → List ℕ → List ℕ
earlier_of high other = if is_lt (slice_cmp nat_cmp other high) then other else high

abbrev pub earlier_high : Option (List ℕ) → Option (List ℕ) → Option (List ℕ)
earlier_high None other = other
earlier_high (Some high) None = Some high
earlier_high (Some high) (Some other) = Some (earlier_of high other)

-- the keys that are in both, which may be none
abbrev pub meet : KeyRange → KeyRange → KeyRange
meet keys others = record { low = later_low keys.low others.low; high = earlier_high keys.high others.high }

-- ---- indexes

-- an index counts within the keys of its range alone, also once that is part of another
abbrev pub cut_index : KeyRange → IndexRange → IndexRange
cut_index keys i = record i { keys = meet i.keys keys }

-- as a record names them, the oldest first
abbrev pub cut_indexes : MetadataState → List IndexRange
cut_indexes said = reverse (map (cut_index said.keys) said.indexes)

-- those of the left range, then those of the right one
abbrev pub joined_indexes : RangeState → RangeState → List IndexRange
joined_indexes l r = cut_indexes l.said ++ cut_indexes r.said

-- ---- regions

-- the index behind the last extent of a log
abbrev pub log_end : ClientState → ℕ
log_end log = log.base + length log.extents

-- The index that an extent gets where those of its log begin at `first` and no longer at the log's base.
abbrev pub moved : ClientState → ℕ → ℕ → ℕ
moved log first index = first + (index - log.base)

abbrev pub moved_start : ClientState → ℕ → Position → Position
moved_start log first start = record start { index = moved log first start.index }

-- a region that has no end ends where its log does
abbrev pub closed_end : ClientState → Option ℕ → ℕ
closed_end log None = log_end log
closed_end log (Some upto) = upto

abbrev pub closed_region : KeyRange → ClientState → ℕ → Region → Region
closed_region keys log first x =
    record {
      start = moved_start log first x.start;
      end = Some (moved log first (closed_end log x.end));
      next = x.next;
      keys = meet x.keys keys;
    }

-- the regions of a range, closed, whose log begins at `first`
abbrev pub closed_regions : MetadataState → ClientState → ℕ → List Region
closed_regions said log first = map (closed_region said.keys log first) said.regions

-- the index behind the last extent of both logs; that of the right range begins where the left one ends
abbrev pub joined_end : RangeState → RangeState → ℕ
joined_end l r = log_end l.log + length r.log.extents

-- what is appended to the log of the new range itself, whose numbers begin anew
abbrev pub open_region : RangeState → RangeState → Region
open_region l r = record { start = record { index = joined_end l r; offset = 0 }; end = None; next = 1; keys = joined_keys l r }

-- the left regions stay where they are, the right ones move behind them, and the open one comes last
abbrev pub joined_regions : RangeState → RangeState → List Region
joined_regions l r = closed_regions l.said l.log l.log.base ++ (closed_regions r.said r.log (log_end l.log) ++ open_region l r ∷ [])

-- ---- the records of the new range

abbrev pub keys_record : RangeState → RangeState → MetaRecord
keys_record l r = record { number = 1; item = Ranges (joined_keys l r) }

abbrev pub regions_record : RangeState → RangeState → MetaRecord
regions_record l r = record { number = 2; item = Regions (joined_indexes l r) (joined_regions l r) }

-- ---- bytes of records

-- whether some keys have their bytes
abbrev pub are_record_keys : KeyRange → Bool
are_record_keys keys = nat_le (length keys.low) 256 && is_record_end keys.high

abbrev pub is_record_place : Place → Bool
is_record_place place = nat_lt place.extent (2 ^ 64) && (nat_lt place.offset (2 ^ 32) && nat_lt place.length (2 ^ 32))

abbrev pub is_record_index : IndexRange → Bool
is_record_index i = is_record_place i.place && are_record_keys i.keys

abbrev pub is_record_position : Position → Bool
is_record_position position = nat_lt position.index (2 ^ 64) && nat_lt position.offset (2 ^ 32)

abbrev pub is_record_upto : Option ℕ → Bool
is_record_upto None = true
is_record_upto (Some upto) = nat_lt upto (2 ^ 64)

abbrev pub is_record_next : ℕ → Bool
is_record_next next = nat_le 1 next && nat_lt next (2 ^ 64)

abbrev pub is_record_region : Region → Bool
is_record_region x =
    is_record_position x.start && (is_record_upto x.end && (is_record_next x.next && are_record_keys x.keys))

-- so few that all of them are one block
abbrev pub are_few : List IndexRange → List Region → Bool
are_few indexes regions = nat_le (length indexes) 80 && nat_le (length regions) 32

abbrev pub are_record_parts : List IndexRange → List Region → Bool
are_record_parts indexes regions = are_few indexes regions && (list_all is_record_index indexes && list_all is_record_region regions)

-- whether the record of the keys can be written
abbrev pub may_say_keys : RangeState → RangeState → Bool
may_say_keys l r = are_record_keys (joined_keys l r)

-- whether that of the indexes and regions can be written
abbrev pub may_say_regions : RangeState → RangeState → Bool
may_say_regions l r = are_record_parts (joined_indexes l r) (joined_regions l r)
