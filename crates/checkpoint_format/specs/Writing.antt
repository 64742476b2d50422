-- Pages as they are written.
use Rattle.std.specs.Prelude.{◌≡◌, ℕ, ◌≤◌, List, [], ◌∷◌, ◌++◌, length, map}
use Rattle.std.specs.List.{flat_map, AllByRecursion}
use Rattle.blocks.specs.Record.{number}
use Rattle.memtable.specs.declared.cell.Cell.{Cell}
use Rattle.memtable.specs.Cell.{IsEntry}
use Rattle.memtable.specs.Entries.{Entries}
use Rattle.checkpoint_format.specs.declared.page.Page.{Page}
use Rattle.checkpoint_format.specs.declared.page_text.PageText.{PageText}
use Rattle.checkpoint_format.specs.Page.{entry_bytes, first_key, page_size, pages_from, pages_of, page_of}

abbrev pub IsEntryPair : List ℕ × Cell → Type 0
IsEntryPair e = IsEntry e.0 e.1

-- a text with these entries, whose count is not yet written
pub record IsTextOf (entries : Entries) (text : PageText) : Type 0 where
  pub first : text.first ≡ first_key entries
  pub bytes : text.bytes.items ≡ number 2 0 ++ flat_map entry_bytes entries
  pub count : text.count ≡ length entries

-- the pages of what has begun and of the entries that are left
abbrev pub pages_after : Entries → Entries → List Entries
pages_after [] rest = pages_of rest
pages_after (e ∷ begun) rest = pages_from (e ∷ begun) rest

-- some pages, a text that has begun, and what is left of all entries: together their pages
pub record HasWritten (all : Entries) (pages : List Page) (text : PageText) (rest : Entries) : Type 0 where
  pub begun : Entries
  pub text_is : IsTextOf begun text
  pub pages_are : pages ++ map page_of (pages_after begun rest) ≡ map page_of (pages_of all)
  pub small : page_size begun ≤ 65536
  pub fit : AllByRecursion IsEntryPair rest
