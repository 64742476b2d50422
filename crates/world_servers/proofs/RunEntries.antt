-- Newer entries over older ones in one walk are those put at their keys.
use Rattle.std.proofs.Common.{◌≡◌, ℕ, zero, suc, ◌≤◌, ◌+◌, true, List, [], ◌∷◌, ◌++◌, length, drop, refl, sym, ap, ◌∙◌, arith}
use Rattle.std.specs.List.{AllByRecursion}
use Rattle.std.specs.Ordering.{ordering_reverse}
use Rattle.std.specs.declared.cmp.Ordering.TheVariants.{Less, Equal, Greater}
use Rattle.std.specs.Cmp.Lexicographic.{nat_list_cmp_total}
use Rattle.std.specs.Map.{keys_of}
use Rattle.std.specs.BTreeMap.{insert_entry}
use Rattle.std.proofs.lemmas.Map.Lookups.{exact_bytes}
use Rattle.memtable.specs.declared.cell.Cell.{Cell}
use Rattle.memtable.specs.Entries.{Entries, key_cmp, put_all}
use Rattle.checkpoint_format.specs.Page.{is_ascending}
use Rattle.checkpoint.proofs.Orders.{IsSorted, all_as, below_all, greater_back, head_below, tail, sorted_from_ascending, ascending_from_sorted, sorted_put}
use Rattle.world_servers.specs.Runs.{entries_above, entries_below, merged_entries}

-- ---- one entry put at its key

-- it comes between those below its key and those above it
inserted : (key : List ℕ) (cell : Cell) (es : Entries) → insert_entry key_cmp es key cell ≡ entries_below key es ++ (key, cell) ∷ entries_above key es
inserted key cell [] = refl
inserted key cell (e ∷ es) =
    elim (key_cmp key e.0) as (λ r. key_cmp key e.0 ≡ r → insert_entry key_cmp (e ∷ es) key cell ≡ entries_below key (e ∷ es) ++ (key, cell) ∷ entries_above key (e ∷ es)) [
      | Less ↦ λ is. rw is refl
      | Equal ↦ λ is. rw is (ap (λ (k : List ℕ). (k, cell) ∷ es) (sym (exact_bytes key e.0 is)))
      | Greater ↦ λ is. rw is (ap (λ (l : Entries). e ∷ l) (inserted key cell es))
    ] refl

are_below : (key : List ℕ) (es : Entries) → AllByRecursion (λ y. key_cmp y key ≡ Less) (keys_of (entries_below key es))
are_below key [] = tt
are_below key (e ∷ es) =
    elim (key_cmp key e.0) as (λ r. key_cmp key e.0 ≡ r → AllByRecursion (λ y. key_cmp y key ≡ Less) (keys_of (entries_below key (e ∷ es)))) [
      | Less ↦ λ is. rw is tt
      | Equal ↦ λ is. rw is tt
      | Greater ↦ λ is. rw is (greater_back key e.0 is, are_below key es)
    ] refl

-- ---- changes whose keys are above those in front

past_one : (e : List ℕ × Cell) (es changes : Entries) → AllByRecursion (λ y. key_cmp e.0 y ≡ Less) (keys_of changes) → put_all (e ∷ es) changes ≡ e ∷ put_all es changes
past_one e es [] above = refl
past_one e es (c ∷ changes) above =
    let turned : key_cmp c.0 e.0 ≡ Greater = nat_list_cmp_total.antisymm c.0 e.0 ∙ ap ordering_reverse above.0 in
    rw turned (past_one e (insert_entry key_cmp es c.0 c.1) changes above.1)

past : (front es changes : Entries) → AllByRecursion (λ y. AllByRecursion (λ z. key_cmp y z ≡ Less) (keys_of changes)) (keys_of front) → put_all (front ++ es) changes ≡ front ++ put_all es changes
past [] es changes above = refl
past (f ∷ front) es changes above = past_one f (front ++ es) changes above.0 ∙ ap (λ (l : Entries). f ∷ l) (past front es changes above.1)

-- ---- all of them

merged_law : (older newer : Entries) → IsSorted newer → merged_entries older newer ≡ put_all older newer
merged_law older [] sorted = refl
merged_law older (c ∷ newer) sorted =
    let above = head_below c newer sorted in
    let front = entries_below c.0 older in
    let back = entries_above c.0 older in
    sym (
    ap (λ (es : Entries). put_all es newer) (inserted c.0 c.1 older)
    ∙ past front (c ∷ back) newer (all_as (λ y lt. below_all y c.0 (keys_of newer) lt above) (keys_of front) (are_below c.0 older))
    ∙ ap (λ (es : Entries). front ++ es) (past_one c back newer above)
    ∙ ap (λ (es : Entries). front ++ c ∷ es) (sym (merged_law back newer (tail c newer sorted)))
    )

-- where the keys of the newer ones ascend, the walk puts them at their keys
pub merged_is : (older newer : Entries) → is_ascending newer ≡ true → merged_entries older newer ≡ put_all older newer
merged_is older newer ascending = merged_law older newer (sorted_from_ascending newer ascending)

pub put_ascends : (older changes : Entries) → is_ascending older ≡ true → is_ascending (put_all older changes) ≡ true
put_ascends older changes ascending = ascending_from_sorted (put_all older changes) (sorted_put older changes (sorted_from_ascending older ascending))

over_none : (newer : Entries) → merged_entries [] newer ≡ newer
over_none [] = refl
over_none (c ∷ newer) = ap (λ (l : Entries). c ∷ l) (over_none newer)

-- over no entry they are what they were
pub put_sorted : (es : Entries) → IsSorted es → put_all [] es ≡ es
put_sorted es sorted = sym (merged_law [] es sorted) ∙ over_none es

pub put_ascending : (es : Entries) → is_ascending es ≡ true → put_all [] es ≡ es
put_ascending es ascending = put_sorted es (sorted_from_ascending es ascending)

-- ---- whether keys ascend

-- those from the last one on
pub ascending_end : (es : Entries) (n : ℕ) → length es ≤ n + 1 → is_ascending (drop n es) ≡ true
ascending_end [] zero short = refl
ascending_end [] (suc n) short = refl
ascending_end (e ∷ []) zero short = refl
ascending_end (e ∷ f ∷ es) zero short = absurd (omega (arith, short))
ascending_end (e ∷ es) (suc n) short = ascending_end es n (omega (arith, short))
