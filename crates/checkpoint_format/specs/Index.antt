-- An index: the pages of a checkpoint by their first keys, in ascending order (docs/FORMATS.md).
use Rattle.std.specs.Prelude.{◌≡◌, ℕ, ◌+◌, Bool, true, ◌&&◌, ◌==◌, nat_le, List, [], ◌∷◌, ◌++◌, length, Option, Some}
use Rattle.std.specs.List.{flat_map, sum_by, AllByRecursion}
use Rattle.std.specs.Ordering.{is_lt}
use Rattle.block_types.specs.Limits.{is_within}
use Rattle.blocks.specs.Format.{◌>>=◌, number_at, pair_at, only_at, many_at, whole}
use Rattle.blocks.specs.Record.{number}
use Rattle.memtable.specs.Entries.{key_cmp}
use Rattle.memtable.specs.Limits.{IsKey}
use Rattle.commitlog.specs.Record.{key_bytes, pieces}
use Rattle.commitlog.specs.Reading.{counted_at}
use Rattle.metadata.specs.Record.{flag, place as place_bytes, IsPlace}
use Rattle.metadata.specs.Reading.{flag_at, place_at}
use Rattle.checkpoint_format.specs.declared.index.Index.{Index}
use Rattle.checkpoint_format.specs.declared.index.PageAt.{PageAt}

-- ---- bytes

abbrev pub page_at_bytes : PageAt → List ℕ
page_at_bytes p = key_bytes p.first ++ place_bytes p.place

abbrev pub index_body : Index → List ℕ
index_body index = number 4 (length index.pages) ++ (flag index.has_place ++ flat_map page_at_bytes index.pages)

-- the length of the text, itself included, and the rest
abbrev pub index_text : Index → List ℕ
index_text index = number 4 (4 + length (index_body index)) ++ index_body index

-- the group of one append, cut as the text of a log record
abbrev pub index_group : Index → List (List ℕ)
index_group index = pieces (index_text index)

abbrev pub page_at_size : PageAt → ℕ
page_at_size p = 18 + length p.first

-- how many bytes the text has: it depends on the first keys alone
abbrev pub index_size : Index → ℕ
index_size index = 9 + sum_by page_at_size index.pages

-- a group has at most 64 blocks
abbrev pub fits_a_group : Index → Bool
fits_a_group index = nat_le (index_size index) 4194304

-- ---- what is an index

abbrev pub are_ascending : List PageAt → Bool
are_ascending [] = true
are_ascending (p ∷ []) = true
are_ascending (p ∷ q ∷ pages) = is_lt (key_cmp p.first q.first) && are_ascending (q ∷ pages)

abbrev pub HasFirstKey : PageAt → Type 0
HasFirstKey p = IsKey p.first

-- its first keys are keys, in ascending order, and its text is one group
pub record IsIndex (index : Index) : Type 0 where
  pub keys : AllByRecursion HasFirstKey index.pages
  pub ascending : are_ascending index.pages ≡ true
  pub fits : fits_a_group index ≡ true

-- numbers that their bytes have room for
abbrev pub HasPlace : PageAt → Type 0
HasPlace p = IsPlace p.place

abbrev pub HasPlaces : Index → Type 0
HasPlaces index = AllByRecursion HasPlace index.pages

-- ---- reading

unfoldable pub one_page_at : List ℕ → Option (PageAt × List ℕ)
one_page_at bytes = do
  x ← pair_at (counted_at 2 (is_within 1 256)) place_at bytes
  Some (record { first = x.0.0; place = x.0.1 }, x.1)

unfoldable pub body_at : List ℕ → Option (Index × List ℕ)
body_at bytes = do
  n ← number_at 4 bytes
  f ← flag_at n.1
  pages ← only_at are_ascending (many_at one_page_at n.0) f.1
  Some (record { pages = pages.0; has_place = f.0 }, pages.1)

-- the index whose text these bytes are, if they are one
unfoldable pub index_at : List ℕ → Option Index
index_at bytes = do
  n ← only_at (λ n. (n == length bytes) && nat_le n 4194304) (number_at 4) bytes
  whole (body_at n.1)
