-- What indexes say together, where all their pages are known; and the pages of a combined checkpoint.
use Rattle.std.specs.Prelude.{◌≡◌, ℕ, Bool, true, false, not, ◌&&◌, ◌||◌, ◌++◌, List, [], ◌∷◌, filter, Option, Some, None, if◌then◌else◌}
use Rattle.memtable.specs.declared.cell.Cell.{Cell}
use Rattle.memtable.specs.declared.cell.Cell.TheVariants.{Deleted, Inline, Placed}
use Rattle.memtable.specs.Entries.{Entries, found, put_all}
use Rattle.memtable.specs.Layers.{or_else}
use Rattle.metadata.specs.declared.record.KeyRange.{KeyRange}
use Rattle.metadata.specs.Keys.{within}
use Rattle.checkpoint_format.specs.declared.index.Index.{Index}
use Rattle.checkpoint_format.specs.declared.index.PageAt.{PageAt}
use Rattle.checkpoint_format.specs.Page.{page_bytes, pages_of}
use Rattle.checkpoint.specs.Lookup.{PageSource}

-- ---- the map of all pages

-- the pages stand at the index's places in order, each with its first key
pub data AreFiled : List PageAt → List Entries → Type 0 where
  NoPages : AreFiled [] []
  Next : (p : PageAt) (first : List ℕ × Cell) (entries : Entries) (pages : List PageAt) (others : List Entries) (same : p.first ≡ first.0) (rest : AreFiled pages others) →
      AreFiled (p ∷ pages) ((first ∷ entries) ∷ others)

-- each page that is at hand is that of its place
abbrev pub IsSourceOf : PageSource → List PageAt → List Entries → Type 0
IsSourceOf source [] pages = Unit {0}
IsSourceOf source (p ∷ filed) [] = Unit {0}
IsSourceOf source (p ∷ filed) (entries ∷ pages) = ((bytes : List ℕ) → source p.place ≡ Some bytes → bytes ≡ page_bytes entries) × IsSourceOf source filed pages

-- these entries are those that an index's pages have, as far as they are at hand
pub record IsIndexOf (source : PageSource) (index : Index) (entries : Entries) : Type 0 where
  pub filed : AreFiled index.pages (pages_of entries)
  pub source_is : IsSourceOf source index.pages (pages_of entries)

-- what an index says within its keys
pub record IndexContent : Type 0 where
  pub keys : KeyRange
  pub entries : Entries

-- the cell at a key in the map that the indexes make together, the newest first
abbrev pub cell_in : List IndexContent → List ℕ → Option Cell
cell_in [] key = None
cell_in (x ∷ older) key = or_else (if within x.keys key then found x.entries key else None) (cell_in older key)

-- ---- combining

abbrev pub is_deleted : Cell → Bool
is_deleted Deleted = true
is_deleted (Inline value) = false
is_deleted (Placed place) = false

abbrev pub without_deleted : Entries → Entries
without_deleted entries = filter (λ e. not (is_deleted e.1)) entries

-- the entries within both ranges of keys
abbrev pub kept_within : KeyRange → KeyRange → Entries → Entries
kept_within a b entries = filter (λ e. within a e.0 && within b e.0) entries

-- the changes of an older index come first, so that a newer one replaces them
abbrev pub merged : KeyRange → List IndexContent → Entries
merged keys [] = []
merged keys (x ∷ older) = put_all (merged keys older) (kept_within x.keys keys x.entries)

-- the newer entries, if there are some, over the merged ones, without the keys that have no value
abbrev pub combined : Entries → Option Entries → Entries
combined entries None = without_deleted entries
combined entries (Some newer) = without_deleted (put_all entries newer)

-- ---- what the calls say

-- whether there are entries, those within both ranges of which were added
abbrev pub Adds : KeyRange → KeyRange → Entries → Entries → Option Entries → Bool → Type 0
Adds a b old new None answer = (answer ≡ false) × (new ≡ old)
Adds a b old new (Some entries) answer = (answer ≡ true) × (new ≡ old ++ kept_within a b entries)

abbrev pub is_placed : Cell → Bool
is_placed Deleted = false
is_placed (Inline value) = false
is_placed (Placed place) = true

-- whether a cell is a place
abbrev pub has_place : Entries → Bool
has_place [] = false
has_place (e ∷ entries) = is_placed e.1 || has_place entries
