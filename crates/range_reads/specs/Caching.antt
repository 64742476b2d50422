-- How pages and values that are used go to the front, and what was asked for.
use Rattle.std.specs.Prelude.{◌≡◌, ℕ, List, [], Option, Some, None}
use Rattle.memtable.specs.declared.cell.Cell.{Cell}
use Rattle.memtable.specs.declared.cell.Cell.TheVariants.{Placed}
use Rattle.memtable.specs.declared.cell.Place.{Place}
use Rattle.checkpoint.specs.declared.installed_index.InstalledIndex.{InstalledIndex}
use Rattle.lru.specs.LruCache.{promoted}
use Rattle.model_partition.specs.declared.waiting.PlaceRead.{PlaceRead}
use Rattle.model_partition.specs.Getting.{pages_of_key}
use Rattle.model_partition.specs.PlaceReads.{is_place}
use Rattle.range_reads.specs.ValueCache.{Values}

-- the place that a cell names
abbrev pub placed : Option Cell → Option Place
placed (Some (Placed place)) = Some place
placed cell = None

abbrev pub used_at : Values → Option Place → Values
used_at held None = held
used_at held (Some place) = promoted (is_place place) held

-- the pages that a look-up uses, where the memory table has this cell of its key
abbrev pub pages_used : List InstalledIndex → List ℕ → Option Cell → List Place
pages_used indexes key None = pages_of_key indexes key
pages_used indexes key (Some cell) = []

-- what a read asked for stands at this place
abbrev pub IsFor : Option PlaceRead → Place → Type 0
IsFor None place = ⊥
IsFor (Some read) place = read.place ≡ place
