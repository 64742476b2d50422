-- The pages of a range's indexes while they are merged into one map, as they are read or found at hand: those of the oldest index
-- first, so that what a newer one says of a key replaces what an older one says.
use Rattle.std.specs.Prelude.{◌≡◌, ℕ, ◌+◌, List, [], ◌∷◌, ◌++◌, length, map, flat_map, drop, Option, Some, None, is_some, true, ◌⊎◌}
use Rattle.memtable.specs.declared.cell.Place.{Place}
use Rattle.memtable.specs.Entries.{Entries, put_all}
use Rattle.metadata.specs.declared.record.KeyRange.{KeyRange}
use Rattle.checkpoint_format.specs.declared.index.PageAt.{PageAt}
use Rattle.checkpoint_format.specs.Page.{entries_at}
use Rattle.checkpoint.specs.declared.unmerged_page.UnmergedPage.{UnmergedPage}
use Rattle.checkpoint.specs.declared.installed_index.InstalledIndex.{InstalledIndex}
use Rattle.checkpoint.specs.Lookup.{PageSource}
use Rattle.checkpoint.specs.Pages.{kept_within}

-- what the pages say that were merged, and those that are still to be
pub record MergeState : Type 0 where
  pub entries : Entries
  pub left : List UnmergedPage

-- nothing is to be merged
abbrev pub no_merge : MergeState
no_merge = record { entries = []; left = [] }

-- the pages of an index that counts within some keys
abbrev pub unmerged : KeyRange → List PageAt → List UnmergedPage
unmerged keys pages = map (λ p. record { keys = keys; place = p.place }) pages

-- those of an index, in the order of their keys
abbrev pub pages_of_index : InstalledIndex → List UnmergedPage
pages_of_index x = unmerged x.keys x.index.pages

-- those of the oldest index come first
abbrev pub pages_to_merge : List InstalledIndex → List UnmergedPage
pages_to_merge [] = []
pages_to_merge (x ∷ older) = pages_to_merge older ++ pages_of_index x

-- the merge of all pages of these indexes, the newest first
abbrev pub merge_of : List InstalledIndex → MergeState
merge_of indexes = record { entries = []; left = pages_to_merge indexes }

abbrev pub first_place : List UnmergedPage → Option Place
first_place [] = None
first_place (p ∷ left) = Some p.place

-- the page that is to be merged next
abbrev pub next_place : MergeState → Option Place
next_place m = first_place m.left

-- ---- pages that are at hand

-- the entries of a page, where its bytes are at hand and spell one
abbrev pub page_entries : Option (List ℕ) → Option Entries
page_entries None = None
page_entries (Some bytes) = entries_at bytes

-- what counts of a page, and of those behind it
abbrev pub begins_with : KeyRange → KeyRange → Option Entries → List Entries → List Entries
begins_with a b None others = []
begins_with a b (Some entries) others = kept_within a b entries ∷ others

-- what counts of each page at the front, as long as the next one is at hand
abbrev pub at_hand : PageSource → KeyRange → List UnmergedPage → List Entries
at_hand source keys [] = []
at_hand source keys (p ∷ left) = begins_with p.keys keys (page_entries (source p.place)) (at_hand source keys left)

-- what pages say, one behind the other
abbrev pub all_of : List Entries → Entries
all_of pages = flat_map (λ entries. entries) pages

-- what each of these pages says comes over what is there
abbrev pub with_pages : MergeState → List Entries → MergeState
with_pages m pages = record { entries = put_all m.entries (all_of pages); left = drop (length pages) m.left }

-- the pages at the front that are at hand are merged
abbrev pub with_at_hand : PageSource → KeyRange → MergeState → MergeState
with_at_hand source keys m = with_pages m (at_hand source keys m.left)

-- the page that was to be merged next has come, and says this
abbrev pub page_taken : KeyRange → MergeState → List UnmergedPage → Entries → MergeState
page_taken keys m [] entries = m
page_taken keys m (p ∷ left) entries = record { entries = put_all m.entries (kept_within p.keys keys entries); left = left }

abbrev pub with_page : KeyRange → MergeState → Entries → MergeState
with_page keys m entries = page_taken keys m m.left entries

-- ---- what the calls say

-- the changes that pages bring, in order, and how many pages they are
pub record ChangesState : Type 0 where
  pub changes : Entries
  pub count : ℕ

-- these changes lead from one to the other
pub record LeadsTo (pages : ChangesState) (old new : MergeState) : Type 0 where
  pub entries : new.entries ≡ put_all old.entries pages.changes
  pub left : new.left ≡ drop pages.count old.left

-- more pages behind them
abbrev pub with_more : ChangesState → List Entries → ChangesState
with_more found pages = record { changes = found.changes ++ all_of pages; count = found.count + length pages }

-- what one page brings
abbrev pub changes_of : KeyRange → KeyRange → Entries → ChangesState
changes_of a b entries = record { changes = kept_within a b entries; count = 1 }

-- Where bytes spell a page, and one is left, there are changes that lead to what it and those behind it that are at hand bring.
abbrev pub IsWithPage : PageSource → KeyRange → MergeState → Option Entries → Option ChangesState → Type 0
IsWithPage source keys m entries None = (entries ≡ None) ⊎ (next_place m ≡ None)
IsWithPage source keys m None (Some changes) = ⊥
IsWithPage source keys m (Some entries) (Some changes) =
    is_some (next_place m) ≡ true × LeadsTo changes m (with_at_hand source keys (with_page keys m entries))
