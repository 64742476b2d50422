-- The look-up of a key in the indexes of checkpoints, the newest first, over the pages that are at hand.
use Rattle.std.specs.Prelude.{ℕ, not, List, [], ◌∷◌, Option, Some, None, option_map, if◌then◌else◌}
use Rattle.std.specs.Ordering.{is_lt}
use Rattle.memtable.specs.declared.cell.Cell.{Cell}
use Rattle.memtable.specs.declared.cell.Cell.TheVariants.{Deleted, Inline, Placed}
use Rattle.memtable.specs.declared.cell.Place.{Place}
use Rattle.memtable.specs.Entries.{Entries, key_cmp, found}
use Rattle.metadata.specs.Keys.{within}
use Rattle.checkpoint_format.specs.declared.index.Index.{Index}
use Rattle.checkpoint_format.specs.declared.index.PageAt.{PageAt}
use Rattle.checkpoint_format.specs.Page.{entries_at}
use Rattle.checkpoint_format.specs.Index.{IsIndex}
use Rattle.checkpoint.specs.declared.page_lookup.Lookup.{Lookup}
use Rattle.checkpoint.specs.declared.page_lookup.Lookup.TheVariants.{Found, Absent, Need}
use Rattle.checkpoint.specs.declared.installed_index.InstalledIndex.{InstalledIndex}

-- the bytes of the page at a place, where they are at hand
abbrev pub PageSource : Type 0
PageSource = Place → Option (List ℕ)

abbrev pub last_or : Option Place → Option Place → Option Place
last_or None other = other
last_or (Some place) other = Some place

-- the last page whose first key is not above the key: no other page of the index can have the key
abbrev pub page_for : List PageAt → List ℕ → Option Place
page_for [] key = None
page_for (p ∷ pages) key = last_or (page_for pages key) (if not (is_lt (key_cmp key p.first)) then Some p.place else None)

-- a key that was deleted has no cell
abbrev pub lookup_of : Cell → Lookup
lookup_of Deleted = Absent
lookup_of (Inline value) = Found (Inline value)
lookup_of (Placed place) = Found (Placed place)

-- what a page or an index says of a key, if it has the key
abbrev pub cell_found : Option Cell → Option Lookup
cell_found cell = option_map lookup_of cell

-- bytes that spell no page are not that page's
abbrev pub in_page : Place → List ℕ → Option Entries → Option Lookup
in_page place key None = Some (Need place)
in_page place key (Some entries) = cell_found (found entries key)

abbrev pub in_bytes : Place → List ℕ → Option (List ℕ) → Option Lookup
in_bytes place key None = Some (Need place)
in_bytes place key (Some bytes) = in_page place key (entries_at bytes)

abbrev pub at_page : PageSource → List ℕ → Option Place → Option Lookup
at_page source key None = None
at_page source key (Some place) = in_bytes place key (source place)

abbrev pub looked_in : PageSource → Index → List ℕ → Option Lookup
looked_in source index key = at_page source key (page_for index.pages key)

-- what a newer index says of a key hides what an older one says, also where it says that the key was deleted
abbrev pub or_older : Option Lookup → Lookup → Lookup
or_older None older = older
or_older (Some answer) older = answer

-- each index within its keys, the newest first
abbrev pub looked_up : PageSource → List InstalledIndex → List ℕ → Lookup
looked_up source [] key = Absent
looked_up source (x ∷ older) key =
    if within x.keys key then or_older (looked_in source x.index key) (looked_up source older key) else looked_up source older key

-- an installed index is in range
abbrev pub HasIndex : InstalledIndex → Type 0
HasIndex x = IsIndex x.index
