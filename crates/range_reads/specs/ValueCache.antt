-- The pages and values that are held, the most recently used first.
use Rattle.std.specs.Prelude.{ℕ, Bool, false, not, ◌&&◌, ◌==◌, List, length, Option, Some, None, is_some}
use Rattle.memtable.specs.declared.cell.Place.{Place}
use Rattle.lru.specs.LruCache.{lru_cache, put_entries, last_entry}
use Rattle.model_partition.specs.Getting.{held_at, most_held}
use Rattle.model_partition.specs.PlaceReads.{is_place}
use Rattle.range_reads.specs.declared.value_cache.Fresh.{Fresh}

abbrev pub Values : Type 0
Values = List (Place × List ℕ)

-- with what has come, if something has; the one least recently used goes where as many are held as may be
abbrev pub with_fresh : Values → Option Fresh → Values
with_fresh held None = held
with_fresh held (Some fresh) = put_entries is_place (lru_cache held most_held) fresh.place fresh.bytes

abbrev pub is_of : Place → Option (Place × List ℕ) → Bool
is_of place None = false
is_of place (Some value) = is_place place value.0

-- whether what stands at a place goes for what stands at another
abbrev pub goes_for : Values → Place → Place → Bool
goes_for held fresh place = (length held == most_held) && (not (is_some (held_at held fresh)) && is_of place (last_entry held))
