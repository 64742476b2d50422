-- The pages of a checkpoint while they are written: a group of them at a time is appended, one page behind the other.
use Rattle.std.specs.Prelude.{ℕ, ◌+◌, ◌==◌, ◌^◌, Bool, false, nat_lt, nat_le, List, [], ◌∷◌, ◌++◌, length, map, take, drop, Option, Some, None, if◌then◌else◌}
use Rattle.std.specs.List.{AllByRecursion, sum_by}
use Rattle.std.specs.List.Sorted.{IsStrictlySortedBy}
use Rattle.block_types.specs.Limits.{IsBlock}
use Rattle.memtable.specs.Entries.{Entries, key_cmp}
use Rattle.memtable.specs.Limits.{IsKey}
use Rattle.checkpoint_format.specs.declared.index.Index.{Index}
use Rattle.checkpoint_format.specs.declared.index.PageAt.{PageAt}
use Rattle.checkpoint_format.specs.declared.page.Page.{Page}
use Rattle.checkpoint_format.specs.Index.{index_size}
use Rattle.checkpoint_format.specs.Page.{page_of, pages_of}
use Rattle.checkpoint.specs.Pages.{has_place}

-- the index of the pages that stand, and those that are still to be appended, in the order of their keys
pub record PagesState : Type 0 where
  pub index : Index
  pub unwritten : List Page

abbrev pub no_pages : PagesState
no_pages = record { index = record { pages = []; has_place = false }; unwritten = [] }

-- the pages of these entries, none of which stands yet
abbrev pub pages_to_write : Entries → PagesState
pages_to_write entries = record { index = record { pages = []; has_place = has_place entries }; unwritten = map page_of (pages_of entries) }

-- ---- a group of pages

-- each page is a block
abbrev pub page_group : List Page → List (List ℕ)
page_group pages = map (λ page. page.bytes) pages

-- of the first 64 of these; no page makes no group
abbrev pub group_of_first : List Page → Option (List (List ℕ))
group_of_first pages = if length pages == 0 then None else Some (page_group (take 64 pages))

-- the pages of the next group
abbrev pub next_pages : PagesState → List Page
next_pages p = take 64 p.unwritten

abbrev pub next_group : PagesState → Option (List (List ℕ))
next_group p = group_of_first p.unwritten

abbrev pub pages_size : List Page → ℕ
pages_size pages = sum_by (λ page. length page.bytes) pages

-- whether the next group may stand at an offset: one whose end no extent reaches is told by no node
abbrev pub may_stand_at : PagesState → ℕ → Bool
may_stand_at p offset = nat_lt (offset + pages_size (next_pages p)) (2 ^ 32)

-- where pages stand that begin at an offset of an extent
abbrev pub placed_pages : ℕ → ℕ → List Page → List PageAt
placed_pages extent offset [] = []
placed_pages extent offset (page ∷ pages) =
    record { first = page.first; place = record { extent = extent; offset = offset; length = length page.bytes } }
    ∷ placed_pages extent (offset + length page.bytes) pages

-- the next group stands at an offset of an extent
abbrev pub with_next_placed : PagesState → ℕ → ℕ → PagesState
with_next_placed p extent offset =
    record { index = record p.index { pages = p.index.pages ++ placed_pages extent offset (next_pages p) }; unwritten = drop 64 p.unwritten }

-- ---- the whole index

-- how many bytes a page has in the index
abbrev pub entry_size : Page → ℕ
entry_size page = 18 + length page.first

-- how many bytes the index has once all pages stand
abbrev pub whole_size : PagesState → ℕ
whole_size p = index_size p.index + sum_by entry_size p.unwritten

-- whether it fits a group then
abbrev pub will_fit : PagesState → Bool
will_fit p = nat_le (whole_size p) 4194304

-- ---- what holds of them

abbrev pub first_keys : PagesState → List (List ℕ)
first_keys p = map (λ page. page.first) p.index.pages ++ map (λ page. page.first) p.unwritten

abbrev pub HasBlock : Page → Type 0
HasBlock page = IsBlock page.bytes

-- their first keys are keys, in ascending order, and each page is a block
pub record ArePages (p : PagesState) : Type 0 where
  pub keys : AllByRecursion IsKey (first_keys p)
  pub ascending : IsStrictlySortedBy key_cmp (first_keys p)
  pub blocks : AllByRecursion HasBlock p.unwritten
