-- What installed indexes say, where each is the index of some entries; and what is owed to a look-up and to combining.
use Rattle.std.specs.Prelude.{◌≡◌, ℕ, true, List, Option, Some, None}
use Rattle.std.specs.List.{AllByRecursion, AllZip}
use Rattle.memtable.specs.declared.cell.Cell.{Cell}
use Rattle.memtable.specs.declared.cell.Cell.TheVariants.{Deleted, Inline, Placed}
use Rattle.memtable.specs.Entries.{Entries, found}
use Rattle.memtable.specs.Layers.{found_in, or_else}
use Rattle.metadata.specs.declared.record.KeyRange.{KeyRange}
use Rattle.metadata.specs.Keys.{within}
use Rattle.checkpoint_format.specs.Page.{is_ascending, IsPageEntry}
use Rattle.checkpoint.specs.declared.page_lookup.Lookup.{Lookup}
use Rattle.checkpoint.specs.declared.page_lookup.Lookup.TheVariants.{Found, Absent, Need}
use Rattle.checkpoint.specs.declared.installed_index.InstalledIndex.{InstalledIndex}
use Rattle.checkpoint.specs.Lookup.{PageSource, looked_up}
use Rattle.checkpoint.specs.Pages.{IndexContent, IsIndexOf, cell_in, merged, combined}

-- keys in ascending order, each with a cell that a page can have
pub record AreEntries (entries : Entries) : Type 0 where
  pub ascending : is_ascending entries ≡ true
  pub each : AllByRecursion IsPageEntry entries

-- an installed index is the index of what it says
pub record IsContentOf (source : PageSource) (installed : InstalledIndex) (content : IndexContent) : Type 0 where
  pub keys : installed.keys ≡ content.keys
  pub entries : AreEntries content.entries
  pub index : IsIndexOf source installed.index content.entries

abbrev pub AreContentsOf : PageSource → List InstalledIndex → List IndexContent → Type 0
AreContentsOf source installed contents = AllZip (IsContentOf source) installed contents

-- no cell where the key was deleted
abbrev pub shown : Option Cell → Option Cell
shown None = None
shown (Some Deleted) = None
shown (Some (Inline value)) = Some (Inline value)
shown (Some (Placed place)) = Some (Placed place)

-- what a look-up may answer of a key that shows this cell, or none
abbrev pub IsAnswerFor : PageSource → Option Cell → Lookup → Type 0
IsAnswerFor source cell (Found other) = cell ≡ Some other
IsAnswerFor source cell Absent = cell ≡ None
IsAnswerFor source cell (Need place) = source place ≡ None

-- A look-up answers the cell that the key has in the map which the indexes make together, and none where the key was deleted; a page
-- that it wants is not at hand.
abbrev pub LookupIsTheMap : Type 0
LookupIsTheMap = (source : PageSource) (installed : List InstalledIndex) (contents : List IndexContent) (key : List ℕ) → AreContentsOf source installed contents
    → IsAnswerFor source (shown (cell_in contents key)) (looked_up source installed key)

-- ---- merging

abbrev pub IsAscending : IndexContent → Type 0
IsAscending content = is_ascending content.entries ≡ true

abbrev pub HasEntries : IndexContent → Type 0
HasEntries content = AreEntries content.entries

-- What is merged within some keys is the map of the indexes there.
abbrev pub MergedIsTheMap : Type 0
MergedIsTheMap = (keys : KeyRange) (contents : List IndexContent) (key : List ℕ) → AllByRecursion IsAscending contents → within keys key ≡ true
    → found (merged keys contents) key ≡ cell_in contents key

-- What is merged is in order, and pages can have it.
abbrev pub MergedAreEntries : Type 0
MergedAreEntries = (keys : KeyRange) (contents : List IndexContent) → AllByRecursion HasEntries contents → AreEntries (merged keys contents)

-- ---- combining

abbrev pub MayBeAscending : Option Entries → Type 0
MayBeAscending None = Unit {0}
MayBeAscending (Some entries) = is_ascending entries ≡ true

abbrev pub MayBeEntries : Option Entries → Type 0
MayBeEntries None = Unit {0}
MayBeEntries (Some entries) = AreEntries entries

-- What is combined has of each key the newer cell, or else the older one, and none where that says that the key was deleted.
abbrev pub CombinedIsTheMap : Type 0
CombinedIsTheMap = (entries : Entries) (newer : Option Entries) (key : List ℕ) → is_ascending entries ≡ true → MayBeAscending newer
    → found (combined entries newer) key ≡ shown (or_else (found_in newer key) (found entries key))

-- What is combined is in order, and pages can have it.
abbrev pub CombinedAreEntries : Type 0
CombinedAreEntries = (entries : Entries) (newer : Option Entries) → AreEntries entries → MayBeEntries newer → AreEntries (combined entries newer)
