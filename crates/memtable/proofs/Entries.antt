-- What holds of the entries of a layer that takes more.
use Rattle.std.proofs.Common.{◌≡◌, ℕ, List, [], ◌∷◌, refl}
use Rattle.std.specs.List.{AllByRecursion}
use Rattle.std.specs.declared.cmp.Ordering.TheVariants.{Less, Equal, Greater}
use Rattle.std.specs.BTreeMap.{insert_entry}
use Rattle.memtable.specs.declared.cell.Cell.{Cell}
use Rattle.memtable.specs.Entries.{Entries, AreNumbered, HasNumber, IsFit, key_cmp, put_all}
use Rattle.memtable.specs.Cell.{IsNumbered}

-- what holds of entries holds of the key of one with the cell of another
abbrev pub IsOfParts : (List ℕ × Cell → Type 0) → Type 0
IsOfParts P = (a b : List ℕ × Cell) → P a → P b → P (a.0, b.1)

pub all_insert : (P : List ℕ × Cell → Type 0) → IsOfParts P → (key : List ℕ) (cell : Cell) (es : Entries) → P (key, cell) → AllByRecursion P es → AllByRecursion P (insert_entry key_cmp es key cell)
all_insert P parts key cell [] here all = (here, tt)
all_insert P parts key cell (e ∷ es) here all =
    elim (key_cmp key e.0) as (λ r. key_cmp key e.0 ≡ r → AllByRecursion P (insert_entry key_cmp (e ∷ es) key cell)) [
      | Less ↦ λ is. rw is (here, all)
      | Equal ↦ λ is. rw is (parts e (key, cell) all.0 here, all.1)
      | Greater ↦ λ is. rw is (all.0, all_insert P parts key cell es here all.1)
    ] refl

pub all_put : (P : List ℕ × Cell → Type 0) → IsOfParts P → (es : Entries) (changes : Entries) → AllByRecursion P es → AllByRecursion P changes → AllByRecursion P (put_all es changes)
all_put P parts es [] all fit = all
all_put P parts es (c ∷ changes) all fit = all_put P parts (insert_entry key_cmp es c.0 c.1) changes (all_insert P parts c.0 c.1 es fit.0 all) fit.1

entry_parts : IsOfParts IsFit
entry_parts a b of_a of_b = (of_a.0, of_b.1)

pub fits_put : (es : Entries) (changes : Entries) → AllByRecursion IsFit es → AllByRecursion IsFit changes → AllByRecursion IsFit (put_all es changes)
fits_put es changes all fit = all_put IsFit entry_parts es changes all fit

number_parts : IsOfParts HasNumber
number_parts a b of_a of_b = of_b

pub numbered_insert : (key : List ℕ) (cell : Cell) (es : Entries) → IsNumbered cell → AreNumbered es → AreNumbered (insert_entry key_cmp es key cell)
numbered_insert key cell es here all = all_insert HasNumber number_parts key cell es here all
