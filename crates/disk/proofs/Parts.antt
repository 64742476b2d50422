-- The bytes of a disk in three parts.
use Rattle.std.proofs.Common.{◌≡◌, ◌⊎◌, inl, inr, ⊎_elim, Result, Ok, Err, ℕ, ◌+◌, ◌-◌, ◌≤◌, Bool, true, false, List, [], ◌∷◌, ◌++◌, length, take, drop, refl, sym, ap, subst, ◌∙◌, arith, append_assoc, append-nil, length-append, length-drop}
use Rattle.std.specs.Prelude.{OnOk}
use Rattle.std.specs.declared.alloc.AllocError.{AllocError}
use Rattle.std.proofs.Math.Seq.{drop-append-add, take-append-add}
use Rattle.std.proofs.lemmas.List.{take_all, drop_all, take-append-le, drop-append-le, length-take-le}
use Rattle.disk.specs.Disk.{Holds}
use Rattle.disk.specs.Image.{put_at, synced_of}

-- bytes that are put back, behind others
put_behind : (at : ℕ) (front old held : List ℕ) → put_at (at + length front) old (front ++ held) ≡ front ++ put_at at old held
put_behind at front old held =
    let place : at + length front ≡ length front + at = omega arith in
    let end : at + length front + length old ≡ length front + (at + length old) = omega arith in
    ap (λ (n : ℕ). take n (front ++ held) ++ old ++ drop (at + length front + length old) (front ++ held)) place
    ∙ ap (λ (l : List ℕ). l ++ old ++ drop (at + length front + length old) (front ++ held)) (take-append-add front held at)
    ∙ ap (λ (n : ℕ). (front ++ take at held) ++ old ++ drop n (front ++ held)) end
    ∙ ap (λ (l : List ℕ). (front ++ take at held) ++ old ++ l) (drop-append-add front held (at + length old))
    ∙ ap (λ (l : List ℕ). l ++ drop (at + length old) held) (append_assoc front (take at held) old)
    ∙ append_assoc front (take at held ++ old) (drop (at + length old) held)

-- what is made sure of, behind other bytes that are
pub sure_behind : (n at : ℕ) (front old held now : List ℕ) → now ≡ front ++ held → synced_of (n + length front) (at + length front) old now ≡ front ++ synced_of n at old held
sure_behind n at front old held now is =
    let number : n + length front ≡ length front + n = omega arith in
    ap (λ (l : List ℕ). put_at (at + length front) old (take (n + length front) l)) is
    ∙ ap (λ (k : ℕ). put_at (at + length front) old (take k (front ++ held))) number
    ∙ ap (λ (l : List ℕ). put_at (at + length front) old l) (take-append-add front held n)
    ∙ put_behind at front old (take n held)

-- what is made sure of does not change where bytes are put behind all that are there
pub sure_before : (n at : ℕ) (old held tail now : List ℕ) → n ≤ length held → now ≡ held ++ tail → synced_of n at old now ≡ synced_of n at old held
sure_before n at old held tail now within is = ap (λ (l : List ℕ). put_at at old l) (ap (λ (l : List ℕ). take n l) is ∙ take-append-le n held tail within)

-- so many bytes are made sure of
pub sure_length : (n at : ℕ) (old held : List ℕ) → at + length old ≤ n → n ≤ length held → length (synced_of n at old held) ≡ n
sure_length n at old held inside within =
    let front : List ℕ = take n held in
    omega (arith, inside, length-append (take at front ++ old) (drop (at + length old) front), length-append (take at front) old, length-take-le at front (omega (arith, inside, length-take-le n held within)), length-drop (at + length old) front, length-take-le n held within)

-- all that is there and more is made sure of
pub sure_all : (n at : ℕ) (old held tail now : List ℕ) → at + length old ≤ n → n ≡ length held → now ≡ held ++ tail → synced_of (length now) at old now ≡ synced_of n at old held ++ tail
sure_all n at old held tail now inside all is =
    let within : take at held ++ old ++ drop (at + length old) (held ++ tail) ≡ (take at held ++ old ++ drop (at + length old) held) ++ tail = ap (λ (l : List ℕ). take at held ++ old ++ l) (drop-append-le (at + length old) held tail (omega (arith, inside, all))) ∙ sym (append_assoc (take at held ++ old) (drop (at + length old) held) tail) in
    let shown : take n held ≡ held = take_all n held (omega (arith, all)) in
    ap (λ (l : List ℕ). put_at at old l) (take_all (length now) now (omega arith) ∙ is)
    ∙ ap (λ (l : List ℕ). l ++ old ++ drop (at + length old) (held ++ tail)) (take-append-le at held tail (omega (arith, inside, all)))
    ∙ within
    ∙ ap (λ (l : List ℕ). put_at at old l ++ tail) (sym shown)

-- a write at the end
pub holds_end : (old new : List ℕ) (at : ℕ) → at ≡ length old → Holds old at new (old ++ new)
holds_end old new at is =
    sym (ap (λ (l : List ℕ). l ++ new ++ drop (at + length new) old) (take_all at old (omega (arith, is)))
    ∙ ap (λ (l : List ℕ). old ++ new ++ l) (drop_all (at + length new) old (omega (arith, is)))
    ∙ append-nil (old ++ new))

-- a write in the middle
pub holds_inside : (front flat tail new now : List ℕ) (at place : ℕ) → at ≡ length front + place → place ≤ length flat → (place + length new ≤ length flat) ⊎ (tail ≡ []) → Holds flat place new now → Holds (front ++ flat ++ tail) at new (front ++ now ++ tail)
holds_inside front flat tail new now at place is within fits done =
    let rest : List ℕ = drop (place + length new) flat in
    let head : take at (front ++ flat ++ tail) ≡ front ++ take place flat =
    ap (λ (l : List ℕ). take at l) (append_assoc front flat tail) ∙ ap (λ (n : ℕ). take n (front ++ (flat ++ tail))) is ∙ take-append-add front (flat ++ tail) place ∙ ap (λ (l : List ℕ). front ++ l) (take-append-le place flat tail within) in
    let behind : drop (place + length new) (flat ++ tail) ≡ rest ++ tail = elim fits [
      | inl low ↦ drop-append-le (place + length new) flat tail low
      | inr none ↦ ap (λ (l : List ℕ). drop (place + length new) (flat ++ l)) none ∙ ap (λ (l : List ℕ). drop (place + length new) l) (append-nil flat) ∙ sym (append-nil rest) ∙ ap (λ (l : List ℕ). rest ++ l) (sym none)
    ] in
    let end : at + length new ≡ length front + (place + length new) = omega (arith, is) in
    let back : drop (at + length new) (front ++ flat ++ tail) ≡ rest ++ tail =
    ap (λ (l : List ℕ). drop (at + length new) l) (append_assoc front flat tail) ∙ ap (λ (n : ℕ). drop n (front ++ (flat ++ tail))) end ∙ drop-append-add front (flat ++ tail) (place + length new) ∙ behind in
    let front_new : List ℕ = front ++ take place flat in
    ap (λ (l : List ℕ). front ++ l ++ tail) done
    ∙ ap (λ (l : List ℕ). l ++ tail) (sym (append_assoc front (take place flat ++ new) rest))
    ∙ ap (λ (l : List ℕ). l ++ rest ++ tail) (sym (append_assoc front (take place flat) new))
    ∙ append_assoc (front_new ++ new) rest tail
    ∙ ap (λ (l : List ℕ). front_new ++ new ++ l) (sym back)
    ∙ ap (λ (l : List ℕ). l ++ new ++ drop (at + length new) (front ++ flat ++ tail)) (sym head)

-- as the call of the middle answers
pub inside_ok : (front flat tail new now seen : List ℕ) (at place : ℕ) (sure : Bool) (r : Result Unit AllocError) → front ++ flat ++ tail ≡ seen → at ≤ length seen → length front ≤ at → place ≡ at - length front → (at + length new ≤ length front + length flat) ⊎ ((tail ≡ []) × (sure ≡ false)) → OnOk r (Holds flat place new now) → OnOk r (Holds seen at new (front ++ now ++ tail))
inside_ok front flat tail new now seen at place sure (Err e) is within begins where_is fits done = tt
inside_ok front flat tail new now seen at place sure (Ok u) is within begins where_is fits done =
    let size : length seen ≡ length front + length flat + length tail = omega (arith, ap length is, length-append (front ++ flat) tail, length-append front flat) in
    let low : place ≤ length flat = ⊎_elim (λ ends. omega (arith, where_is, begins, ends)) (λ none. omega (arith, where_is, begins, within, size, ap length none.0)) fits in
    let ways : (place + length new ≤ length flat) ⊎ (tail ≡ []) = ⊎_elim (λ ends. inl (omega (arith, where_is, begins, ends))) (λ none. inr none.0) fits in
    subst (λ (l : List ℕ). Holds l at new (front ++ now ++ tail)) is (holds_inside front flat tail new now at place (omega (arith, where_is, begins)) low ways done)

-- how long a list is after a write
pub holds_length : (old new now : List ℕ) (at : ℕ) → at ≤ length old → Holds old at new now → length now ≡ at + length new + (length old - (at + length new))
holds_length old new now at within done = omega (arith, ap length done, length-append (take at old ++ new) (drop (at + length new) old), length-append (take at old) new, length-take-le at old within, length-drop (at + length new) old)
