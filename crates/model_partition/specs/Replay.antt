-- The map that records make.
use Rattle.std.specs.Prelude.{suc, ◌^◌, Bool, true, false, ◌&&◌, is_some, is_none, nat_lt, ℕ, List, [], ◌∷◌, Option, Some, None}
use Rattle.block_types.specs.declared.record.Record.{Record}
use Rattle.block_types.specs.declared.record.Record.TheVariants.{Manage}
use Rattle.model_partition.specs.declared.map_record.MapRecord.{MapRecord}
use Rattle.model_partition.specs.declared.map_record.MapRecord.TheVariants.{Assign, Renew, BeginSplit, CompleteSplit, BeginMerge, CompleteMerge}
use Rattle.model_partition.specs.declared.range_entry.RangeEntry.{RangeEntry}
use Rattle.model_partition.specs.RecordBytes.{record_of}
use Rattle.model_partition.specs.Map.{MapState, first_map, range_at, with_range, renewed, assign, is_split_key, halves_at, begin_split, complete_split, union_with, union_at, begin_merge, complete_merge}
use Rattle.model_partition.specs.MapRules.{has_numbers, is_split, is_beside, is_same_holder}

-- the map after one more record
abbrev pub after_record : MapState → MapRecord → MapState
after_record m (Assign range server until) = assign m range server until
after_record m (Renew range until) = with_range m range (renewed until)
after_record m (BeginSplit range key) = begin_split m range key
after_record m (CompleteSplit range) = complete_split m range
after_record m (BeginMerge left right) = begin_merge m left right
after_record m (CompleteMerge left right) = complete_merge m left right

-- what a record of the file spells
abbrev pub map_record_of : Record → Option MapRecord
map_record_of (Manage text) = record_of text
map_record_of r = None

abbrev pub map_after : MapState → Option MapRecord → MapState
map_after m None = m
map_after m (Some r) = after_record m r

abbrev pub replay_from : MapState → List Record → MapState
replay_from m [] = m
replay_from m (r ∷ rs) = replay_from (map_after m (map_record_of r)) rs

-- the map that the records make
abbrev pub map_replay : List Record → MapState
map_replay rs = replay_from first_map rs

-- ---- records that fit

-- a generation is left for it
abbrev pub may_assign : Option RangeEntry → Bool
may_assign None = false
may_assign (Some r) = nat_lt (suc r.generation) (2 ^ 64)

-- somebody holds it
abbrev pub may_renew : Option RangeEntry → Bool
may_renew None = false
may_renew (Some r) = is_some r.holder

-- the key splits it, and no split at this key is pending
abbrev pub may_begin_split : List ℕ → Option RangeEntry → Bool
may_begin_split key None = false
may_begin_split key (Some r) = is_split_key r.keys key && is_none (halves_at key r.pending)

-- a split is pending
abbrev pub may_complete_split : Option RangeEntry → Bool
may_complete_split None = false
may_complete_split (Some r) = is_split r.pending

-- the right one begins where the left one ends, their holders are the same, and their merge is not pending
abbrev pub may_begin_merge : ℕ → Option RangeEntry → Option RangeEntry → Bool
may_begin_merge right (Some l) (Some r) = is_beside l.keys r.keys && is_same_holder l.holder r.holder && is_none (union_with right l.pending)
may_begin_merge right l r = false

-- whether the map may write a record where it is this
abbrev pub fits_map : MapState → MapRecord → Bool
fits_map m (Assign range server until) = may_assign (range_at m.ranges range)
fits_map m (Renew range until) = may_renew (range_at m.ranges range)
fits_map m (BeginSplit range key) = may_begin_split key (range_at m.ranges range) && has_numbers m 2
fits_map m (CompleteSplit range) = may_complete_split (range_at m.ranges range)
fits_map m (BeginMerge left right) = may_begin_merge right (range_at m.ranges left) (range_at m.ranges right) && has_numbers m 1
fits_map m (CompleteMerge left right) = is_some (union_at m.ranges left right)

abbrev pub map_record_fits : MapState → Option MapRecord → Bool
map_record_fits m None = false
map_record_fits m (Some r) = fits_map m r

abbrev pub fit_from : MapState → List Record → Bool
fit_from m [] = true
fit_from m (r ∷ rs) = map_record_fits m (map_record_of r) && fit_from (map_after m (map_record_of r)) rs

-- each record fits the map that those before it make
abbrev pub map_fits : List Record → Bool
map_fits rs = fit_from first_map rs
