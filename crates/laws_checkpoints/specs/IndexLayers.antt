-- What indexes and their pages say, where the bytes of extents are known; and where those of some entries stand.
use Rattle.std.specs.Prelude.{◌≡◌, ℕ, List, [], ◌∷◌, length, map, Option, Some, None}
use Rattle.memtable.specs.declared.cell.Place.{Place}
use Rattle.memtable.specs.Entries.{Entries}
use Rattle.metadata.specs.declared.record.IndexRange.{IndexRange}
use Rattle.checkpoint_format.specs.declared.index.Index.{Index}
use Rattle.checkpoint_format.specs.declared.index.PageAt.{PageAt}
use Rattle.checkpoint_format.specs.Page.{page_bytes, pages_of}
use Rattle.checkpoint_format.specs.Index.{index_at, index_text, IsIndex, HasPlaces}
use Rattle.checkpoint.specs.Pages.{IndexContent}
use Rattle.checkpoint.specs.Contents.{AreEntries}
use Rattle.model_partition.specs.Past.{Bytes}
use Rattle.model_histories.specs.IndexContents.{bytes_in, pages_in}
use Rattle.model_histories.specs.TableContents.{StandsAt}
use Rattle.laws_tables.specs.Layers.{Layer}
use Rattle.laws_loads.specs.MemoryLayers.{layer_in}

module _ (texts : ℕ → Bytes) where
  -- no entries where bytes spell no index
  abbrev pub indexed_entries : Option Index → Entries
  indexed_entries None = []
  indexed_entries (Some index) = pages_in texts index.pages

  -- the entries of the index whose text is at a place
  abbrev pub index_entries : Place → Entries
  index_entries place = indexed_entries (index_at (bytes_in texts place))

  -- what that index says of each key
  abbrev pub layer_at : Place → Layer
  layer_at place = layer_in texts (index_entries place)

  abbrev pub content_of : IndexRange → IndexContent
  content_of index = record { keys = index.keys; entries = index_entries index.place }

  -- what the indexes of a range say, each within its keys
  abbrev pub contents_of : List IndexRange → List IndexContent
  contents_of indexes = map content_of indexes

  -- ---- what was written

  -- the page of these entries stands at the place
  abbrev pub PageStands : Place → Entries → Type 0
  PageStands place entries = (place.length ≡ length (page_bytes entries)) × StandsAt (texts place.extent) place.offset (page_bytes entries)

  -- page by page
  abbrev pub PagesStand : List PageAt → List Entries → Type 0
  PagesStand [] [] = Unit {0}
  PagesStand [] (entries ∷ others) = ⊥
  PagesStand (p ∷ pages) [] = ⊥
  PagesStand (p ∷ pages) (entries ∷ others) = PageStands p.place entries × PagesStand pages others

  -- an index of the pages of these entries stands at the place
  pub record IsWritten (index : Index) (entries : Entries) (place : Place) : Type 0 where
    pub entries_are : AreEntries entries
    pub pages : PagesStand index.pages (pages_of entries)
    pub index_is : IsIndex index
    pub has_places : HasPlaces index
    pub size : place.length ≡ length (index_text index)
    pub stands : StandsAt (texts place.extent) place.offset (index_text index)

  -- at the place of each index stands one
  abbrev pub AreWritten : List IndexRange → Type 0
  AreWritten [] = Unit {0}
  AreWritten (x ∷ older) = ((index : Index) × (entries : Entries) × IsWritten index entries x.place) × AreWritten older
