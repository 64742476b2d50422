use Rattle.std.proofs.Common.{List, [], ◌∷◌, ℕ, subst, sym}
use Rattle.std.specs.List.{AllByRecursion}
use Rattle.std.specs.Ordering.{match_ordering}
use Rattle.std.specs.BTreeMap.{insert_entry}
use Rattle.std.specs.declared.cmp.Ordering.TheVariants.{Less, Equal, Greater}
use Rattle.memtable.specs.declared.cell.Cell.{Cell}
use Rattle.memtable.specs.Cell.{IsCell}
use Rattle.memtable.specs.Limits.{IsKey}
use Rattle.memtable.specs.Entries.{Entries, key_cmp}
use Rattle.checkpoint_format.specs.Writing.{IsEntryPair}
use Rattle.tests_records.proofs.pages.put.Goals as goal

all_put : (es : Entries) (key : List ℕ) (cell : Cell) → AllByRecursion IsEntryPair es → IsKey key → IsCell cell → AllByRecursion IsEntryPair (insert_entry key_cmp es key cell)
all_put [] key cell all is_key is_cell = ((is_key, is_cell), tt)
all_put (e ∷ es) key cell all is_key is_cell =
    elim (key_cmp key e.0) as (λ o. AllByRecursion IsEntryPair (match_ordering o ((key, cell) ∷ e ∷ es) ((e.0, cell) ∷ es) (e ∷ insert_entry key_cmp es key cell))) [
      | Less ↦ ((is_key, is_cell), all)
      | Equal ↦ ((all.0.0, is_cell), all.1)
      | Greater ↦ (all.0, all_put es key cell all.1 is_key is_cell)
    ]

pub returns : goal.returns
returns c = rw c.in_ok-insert.ensures.entries (all_put c.args.table.now.entries c.of.result c.args.cell c.requires.old (subst IsKey (sym c.of.ensures) c.requires.key) c.requires.cell)
