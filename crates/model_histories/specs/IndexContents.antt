-- What loaded tables and served ranges have of each key, where the bytes of extents are known: the pages of their indexes are those that stand at
-- their places.
use Rattle.std.specs.Prelude.{List, [], ◌∷◌, ◌++◌, map, take, drop, ℕ}
use Rattle.memtable.specs.declared.cell.Place.{Place}
use Rattle.memtable.specs.Entries.{Entries, put_all}
use Rattle.checkpoint_format.specs.declared.index.PageAt.{PageAt}
use Rattle.checkpoint_format.specs.Page.{entries_at}
use Rattle.checkpoint.specs.declared.installed_index.InstalledIndex.{InstalledIndex}
use Rattle.checkpoint.specs.Pages.{IndexContent, merged}
use Rattle.model_partition.specs.declared.shown_table.ShownTable.{ShownTable}
use Rattle.model_partition.specs.Past.{Bytes}
use Rattle.model_partition.specs.Range.{RangeState}
use Rattle.model_partition.specs.Servers.{entries_if}

module _ (texts : ℕ → Bytes) where
  -- the bytes of a place
  abbrev pub bytes_in : Place → Bytes
  bytes_in place = take place.length (drop place.offset (texts place.extent))

  -- the entries of the page at a place
  abbrev pub page_in : Place → Entries
  page_in place = entries_if (entries_at (bytes_in place))

  -- the entries of pages, one page behind the other
  abbrev pub pages_in : List PageAt → Entries
  pages_in [] = []
  pages_in (p ∷ pages) = page_in p.place ++ pages_in pages

  abbrev pub index_in : InstalledIndex → IndexContent
  index_in x = record { keys = x.keys; entries = pages_in x.index.pages }

  -- the memory table over the indexes, each within its keys and the range's
  abbrev pub entries_in : ShownTable → Entries
  entries_in table = put_all (merged table.keys (map index_in table.indexes)) table.live

  -- the layer that is fixed, if one is, over the indexes, and the live layer over both
  abbrev pub served_entries : RangeState → Entries
  served_entries r = put_all (entries_in (record { live = entries_if r.fixed; indexes = r.indexes; keys = r.said.keys })) r.live
