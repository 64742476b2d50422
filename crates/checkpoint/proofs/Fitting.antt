-- What is read of a page is in range.
use Rattle.std.proofs.Common.{◌≡◌, ℕ, zero, suc, ◌≤◌, Bool, true, false, cond, List, [], ◌∷◌, ◌++◌, length, Option, Some, None, sym, ap, subst, ◌∙◌}
use Rattle.std.specs.Prelude.{◌&&◌, nat_le, ◌==◌}
use Rattle.std.specs.List.{AllByRecursion}
use Rattle.std.proofs.lemmas.Bool.{leb-true}
use Rattle.block_types.specs.Limits.{is_within}
use Rattle.blocks.specs.Format.{◌>>=◌, number_at, bytes_at, only_at, many_at, whole}
use Rattle.blocks.proofs.Formats.{bind_some, if_some, some_is, within, bytes_takes}
use Rattle.commitlog.specs.Reading.{counted_at, is_small}
use Rattle.metadata.specs.Reading.{place_at}
use Rattle.memtable.specs.declared.cell.Cell.{Cell}
use Rattle.memtable.specs.declared.cell.Cell.TheVariants.{Deleted, Inline, Placed}
use Rattle.memtable.specs.declared.cell.Place.{Place}
use Rattle.memtable.specs.Cell.{IsCell}
use Rattle.memtable.specs.Entries.{Entries}
use Rattle.checkpoint_format.specs.Page.{large_place_at, fields_at, cell_at, entry_at, is_ascending, counted_entries_at, entries_at}
use Rattle.metadata.specs.declared.record.KeyRange.{KeyRange}
use Rattle.metadata.specs.Keys.{within as is_within_keys}
use Rattle.memtable.specs.Entries.{IsFit}
use Rattle.checkpoint.specs.Pages.{kept_within}
use Rattle.checkpoint.proofs.Merging.{all_kept}

-- a value that passed a test
only_fits : {A : Type 0} (test : A → Bool) (f : List ℕ → Option (A × List ℕ)) (bytes : List ℕ) (x : A × List ℕ) → only_at test f bytes ≡ Some x → (f bytes ≡ Some x) × (test x.0 ≡ true)
only_fits {A} test f bytes x e =
    let a = bind_some (f bytes) (λ a. cond (test a.0) (Some a) None) x e in
    let tested = if_some (test a.0.0) a.0 x a.2 in
    (a.1 ∙ ap Some tested.1, subst (λ (y : A × List ℕ). test y.0 ≡ true) tested.1 tested.0)

counted_fits : (w : ℕ) (test : ℕ → Bool) (bytes x rest : List ℕ) → counted_at w test bytes ≡ Some (x, rest) → test (length x) ≡ true
unfolding counted_at
counted_fits w test bytes x rest e =
    let n = bind_some (only_at test (number_at w) bytes) (λ n. bytes_at n.0 n.1) (x, rest) e in
    let tested = only_fits test (number_at w) bytes n.0 n.1 in
    let taken = bytes_takes n.0.0 n.0.1 x rest n.2 in
    subst (λ (k : ℕ). test k ≡ true) (sym taken.1) tested.1

abbrev CellAndRest : Type 0
CellAndRest = Cell × List ℕ

fields_fit : (kind : ℕ) (bytes : List ℕ) (cell : Cell) (rest : List ℕ) → fields_at kind bytes ≡ Some (cell, rest) → IsCell cell
unfolding fields_at large_place_at
fields_fit zero bytes cell rest e =
    let made : CellAndRest = (Deleted, bytes) in
    subst IsCell (ap (λ (p : CellAndRest). p.0) (some_is made (cell, rest) e)) tt
fields_fit (suc zero) bytes cell rest e =
    let v = bind_some (counted_at 4 is_small bytes) (λ v. Some (Inline v.0, v.1)) (cell, rest) e in
    let made : CellAndRest = (Inline v.0.0, v.0.1) in
    let small : length v.0.0 ≤ 4096 = leb-true _ _ (counted_fits 4 is_small bytes v.0.0 v.0.1 v.1) in
    subst IsCell (ap (λ (p : CellAndRest). p.0) (some_is made (cell, rest) v.2)) small
fields_fit (suc (suc zero)) bytes cell rest e =
    let p = bind_some (large_place_at bytes) (λ p. Some (Placed p.0, p.1)) (cell, rest) e in
    let made : CellAndRest = (Placed p.0.0, p.0.1) in
    let large = within 4097 65536 p.0.0.length (only_fits (λ (place : Place). is_within 4097 65536 place.length) place_at bytes p.0 p.1).1 in
    subst IsCell (ap (λ (p : CellAndRest). p.0) (some_is made (cell, rest) p.2)) large
fields_fit (suc (suc (suc kind))) bytes cell rest e = absurd cc

cell_fits : (bytes : List ℕ) (cell : Cell) (rest : List ℕ) → cell_at bytes ≡ Some (cell, rest) → IsCell cell
unfolding cell_at
cell_fits [] cell rest e = absurd cc
cell_fits (kind ∷ bytes) cell rest e = fields_fit kind bytes cell rest e

abbrev EntryAndRest : Type 0
EntryAndRest = (List ℕ × Cell) × List ℕ

entry_fits : (bytes : List ℕ) (x : EntryAndRest) → entry_at bytes ≡ Some x → IsFit x.0
unfolding entry_at
entry_fits bytes x e =
    let k = bind_some (counted_at 2 (is_within 1 256) bytes) (λ a. cell_at a.1 >>= λ b. Some ((a.0, b.0), b.1)) x e in
    let c = bind_some (cell_at k.0.1) (λ b. Some ((k.0.0, b.0), b.1)) x k.2 in
    let made : EntryAndRest = ((k.0.0, c.0.0), c.0.1) in
    let key = within 1 256 (length k.0.0) (counted_fits 2 (is_within 1 256) bytes k.0.0 k.0.1 k.1) in
    subst (λ (y : EntryAndRest). IsFit y.0) (some_is made x c.2) (key, cell_fits k.0.1 c.0.0 c.0.1 c.1)

abbrev EntriesAndRest : Type 0
EntriesAndRest = Entries × List ℕ

many_fit : (n : ℕ) (bytes : List ℕ) (x : EntriesAndRest) → many_at entry_at n bytes ≡ Some x → AllByRecursion IsFit x.0
many_fit zero bytes x e =
    let made : EntriesAndRest = ([], bytes) in
    subst (λ (y : EntriesAndRest). AllByRecursion IsFit y.0) (some_is made x e) tt
many_fit (suc n) bytes x e =
    let a = bind_some (entry_at bytes) (λ a. many_at entry_at n a.1 >>= λ others. Some (a.0 ∷ others.0, others.1)) x e in
    let b = bind_some (many_at entry_at n a.0.1) (λ others. Some (a.0.0 ∷ others.0, others.1)) x a.2 in
    let made : EntriesAndRest = (a.0.0 ∷ b.0.0, b.0.1) in
    subst (λ (y : EntriesAndRest). AllByRecursion IsFit y.0) (some_is made x b.2) (entry_fits bytes a.0 a.1, many_fit n a.0.1 b.0 b.1)

counted_entries_fit : (bytes : List ℕ) (x : EntriesAndRest) → counted_entries_at bytes ≡ Some x → AllByRecursion IsFit x.0
unfolding counted_entries_at
counted_entries_fit bytes x e =
    let n = bind_some (only_at (is_within 1 65535) (number_at 2) bytes) (λ n. many_at entry_at n.0 n.1) x e in
    many_fit n.0.0 n.0.1 x n.2

if_then : {A : Type 0} (b : Bool) (read : Option A) (x : A) → cond b read None ≡ Some x → read ≡ Some x
if_then true read x e = e
if_then false read x e = absurd cc

pub entries_fit : (bytes : List ℕ) (es : Entries) → entries_at bytes ≡ Some es → AllByRecursion IsFit es
unfolding entries_at
entries_fit bytes es e =
    let read = if_then (nat_le (length bytes) 65536) (whole (only_at is_ascending counted_entries_at bytes)) es e in
    let a = bind_some (only_at is_ascending counted_entries_at bytes) (λ a. cond (length a.1 == 0) (Some a.0) None) es read in
    let last = if_some (length a.0.1 == 0) a.0.0 es a.2 in
    subst (AllByRecursion IsFit) last.1 (counted_entries_fit bytes a.0 (only_fits is_ascending counted_entries_at bytes a.0 a.1).0)

both_fit : (xs ys : Entries) → AllByRecursion IsFit xs → AllByRecursion IsFit ys → AllByRecursion IsFit (xs ++ ys)
both_fit [] ys all others = others
both_fit (x ∷ xs) ys all others = (all.0, both_fit xs ys all.1 others)

-- what was added to changes that fit
pub added_fit : (a b : KeyRange) (bytes : List ℕ) (old new es : Entries) → entries_at bytes ≡ Some es → new ≡ old ++ kept_within a b es → AllByRecursion IsFit old → AllByRecursion IsFit new
added_fit a b bytes old new es read added all =
    subst (AllByRecursion IsFit) (sym added) (both_fit old (kept_within a b es) all (all_kept IsFit (λ e. is_within_keys a e.0 && is_within_keys b e.0) es (entries_fit bytes es read)))
