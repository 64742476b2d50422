-- What loaded tables and Gets say of indexes and their pages: what is installed, seen and held of these, and what is owed.
use Rattle.std.specs.Prelude.{◌≡◌, ℕ, true, false, List, [], ◌∷◌, Option, Some, None, option_map}
use Rattle.std.specs.List.{AllByRecursion, AllZip}
use Rattle.wire.specs.declared.note.Note.{Note}
use Rattle.memtable.specs.declared.cell.Cell.{Cell}
use Rattle.memtable.specs.declared.cell.Cell.TheVariants.{Deleted, Inline, Placed}
use Rattle.memtable.specs.declared.cell.Place.{Place}
use Rattle.memtable.specs.Entries.{Entries, found}
use Rattle.memtable.specs.Layers.{found_in}
use Rattle.metadata.specs.declared.record.IndexRange.{IndexRange}
use Rattle.metadata.specs.Keys.{within}
use Rattle.checkpoint_format.specs.declared.index.Index.{Index}
use Rattle.checkpoint_format.specs.Page.{is_ascending, pages_of}
use Rattle.checkpoint_format.specs.Index.{index_at}
use Rattle.checkpoint.specs.declared.installed_index.InstalledIndex.{InstalledIndex}
use Rattle.checkpoint.specs.declared.page_lookup.Lookup.{Lookup as Indexed}
use Rattle.checkpoint.specs.declared.page_lookup.Lookup.TheVariants.{Found, Absent, Need}
use Rattle.checkpoint.specs.Lookup.{looked_up}
use Rattle.checkpoint.specs.Pages.{AreFiled}
use Rattle.checkpoint.specs.Contents.{AreEntries, IsAscending}
use Rattle.model_partition.specs.declared.shown_table.ShownTable.{ShownTable}
use Rattle.model_partition.specs.Getting.{Held, Lookup, Is, Needs, held_at, look, standing}
use Rattle.model_partition.specs.Past.{Bytes, stored, kept}
use Rattle.model_partition.specs.Range.{RangeState}
use Rattle.model_partition.specs.Servers.{first_shown, entries_shown, rows_of}
use Rattle.model_histories.specs.TableContents.{AllTellRightly, value_in, table_in}
use Rattle.laws_tables.specs.Layers.{Layer, over, flat, indexed}
use Rattle.laws_loads.specs.MemoryLayers.{layer_in}
use Rattle.laws_checkpoints.specs.IndexLayers.{layer_at, contents_of, PagesStand, IsWritten}
use Rattle.model_histories.specs.IndexContents.{bytes_in}

-- ---- what was observed

-- some observation covers the place
abbrev pub IsSeen : List Note → Place → Type 0
IsSeen notes place = (bytes : Bytes) × (first_shown notes place ≡ Some bytes)

-- all pages of an index
abbrev pub ArePagesSeen : List Note → InstalledIndex → Type 0
ArePagesSeen notes x = AllByRecursion (λ p. IsSeen notes p.place) x.index.pages

-- those of each index
abbrev pub AreSeen : List Note → List InstalledIndex → Type 0
AreSeen notes installed = AllByRecursion (ArePagesSeen notes) installed

-- each value by place
abbrev pub AreValuesSeen : List Note → Entries → Type 0
AreValuesSeen notes [] = Unit {0}
AreValuesSeen notes ((key, Deleted) ∷ entries) = AreValuesSeen notes entries
AreValuesSeen notes ((key, Inline value) ∷ entries) = AreValuesSeen notes entries
AreValuesSeen notes ((key, Placed place) ∷ entries) = IsSeen notes place × AreValuesSeen notes entries

module _ (texts : ℕ → Bytes) where
  -- ---- what is installed

  -- the index that stands at the place which the metadata names, within the keys which it names
  pub record IsInstalled (installed : InstalledIndex) (named : IndexRange) : Type 0 where
    pub place : installed.place ≡ named.place
    pub keys : installed.keys ≡ named.keys
    pub index : index_at (bytes_in texts installed.place) ≡ Some installed.index

  -- one by one
  abbrev pub AreInstalled : List InstalledIndex → List IndexRange → Type 0
  AreInstalled installed named = AllZip IsInstalled installed named

  -- an index of the pages of some entries, each under its first key
  abbrev pub IsSearchable : Index → Type 0
  IsSearchable index = (entries : Entries) × AreEntries entries × PagesStand texts index.pages (pages_of entries) × AreFiled index.pages (pages_of entries)

  abbrev pub AreSearchable : List InstalledIndex → Type 0
  AreSearchable installed = AllByRecursion (λ x. IsSearchable x.index) installed

  -- at the place of each index stands one that names each page by its first key
  abbrev pub AreWrittenByKey : List IndexRange → Type 0
  AreWrittenByKey [] = Unit {0}
  AreWrittenByKey (x ∷ older) =
      ((index : Index) × (entries : Entries) × IsWritten texts index entries x.place × AreFiled index.pages (pages_of entries)) × AreWrittenByKey older

  -- what each index says is in the order of the keys
  abbrev pub AreAscending : List IndexRange → Type 0
  AreAscending named = AllByRecursion IsAscending (contents_of texts named)

  -- ---- rows

  -- Rows show of a key within the table's keys what the memory table says over the indexes.
  abbrev pub RowsSayLayers : Type 0
  RowsSayLayers = (notes : List Note) (table : ShownTable) (named : List IndexRange) (key : Bytes) → AllTellRightly texts notes
      → AreInstalled table.indexes named → AreSeen notes table.indexes → AreAscending named
      → is_ascending table.live ≡ true → AreValuesSeen notes (entries_shown notes table) → within table.keys key ≡ true
      → stored (rows_of notes table) key ≡ flat (over (layer_in texts table.live) (indexed (layer_at texts) named) key)

  -- Of another key they show what the memory table alone says, whatever is installed.
  abbrev pub RowsSayMemory : Type 0
  RowsSayMemory = (notes : List Note) (table : ShownTable) (key : Bytes) → AllTellRightly texts notes
      → is_ascending table.live ≡ true → AreValuesSeen notes (entries_shown notes table) → within table.keys key ≡ false
      → stored (rows_of notes table) key ≡ table_in texts table.live key

  -- So they show the layers within the table's keys, where the memory table has no value of other keys.
  abbrev pub RowsShowLayers : Type 0
  RowsShowLayers = (notes : List Note) (table : ShownTable) (named : List IndexRange) (newest : Layer) → AllTellRightly texts notes
      → AreInstalled table.indexes named → AreSeen notes table.indexes → AreAscending named
      → is_ascending table.live ≡ true → AreValuesSeen notes (entries_shown notes table)
      → ((key : Bytes) → layer_in texts table.live key ≡ newest key) → ((key : Bytes) → within table.keys key ≡ false → flat (newest key) ≡ None)
      → (key : Bytes) → stored (rows_of notes table) key ≡ kept table.keys (λ k. flat (over newest (indexed (layer_at texts) named) k)) key

  -- ---- look-ups

  -- each pair that is held has the bytes of its place
  abbrev pub HoldsBytes : Held → Type 0
  HoldsBytes held = AllByRecursion (λ x. x.1 ≡ bytes_in texts x.0) held

  -- what a look-up in indexes may answer of a key of which this is known: the cell of its value, or that it has none, also where it was
  -- deleted; a page that it wants is not held
  abbrev pub IsIndexAnswer : Held → Option (Option Bytes) → Indexed → Type 0
  IsIndexAnswer held known (Found cell) = known ≡ Some (value_in texts cell)
  IsIndexAnswer held known Absent = flat known ≡ None
  IsIndexAnswer held known (Need place) = held_at held place ≡ None

  -- what a Get may find of a key that has this value, or none; what it wants is not held
  abbrev pub IsAnswer : Held → Option Bytes → Lookup → Type 0
  IsAnswer held value (Is shown) = shown ≡ value
  IsAnswer held value (Needs page place) = held_at held place ≡ None

  -- A look-up over what is held answers what the indexes say.
  abbrev pub LookupSaysLayers : Type 0
  LookupSaysLayers = (held : Held) (installed : List InstalledIndex) (named : List IndexRange) (key : Bytes) → HoldsBytes held
      → AreInstalled installed named → AreSearchable installed
      → IsIndexAnswer held (indexed (layer_at texts) named key) (looked_up (held_at held) installed key)

  -- A Get finds what the memory table, which has this cell or none, says over the indexes.
  abbrev pub LookSaysLayers : Type 0
  LookSaysLayers = (held : Held) (installed : List InstalledIndex) (named : List IndexRange) (memory : Layer) (key : Bytes) (cell : Option Cell) → HoldsBytes held
      → AreInstalled installed named → AreSearchable installed → option_map (value_in texts) cell ≡ memory key
      → IsAnswer held (flat (over memory (indexed (layer_at texts) named) key)) (look held installed key cell)

  -- So does the Get of a range, whose memory table has a live layer over a fixed one.
  abbrev pub GetSaysLayers : Type 0
  GetSaysLayers = (r : RangeState) (named : List IndexRange) (live fixed : Layer) (key : Bytes) → HoldsBytes r.held
      → AreInstalled r.indexes named → AreSearchable r.indexes
      → option_map (value_in texts) (found r.live key) ≡ live key → option_map (value_in texts) (found_in r.fixed key) ≡ fixed key
      → IsAnswer r.held (flat (over live (over fixed (indexed (layer_at texts) named)) key)) (look r.held r.indexes key (standing r key))
