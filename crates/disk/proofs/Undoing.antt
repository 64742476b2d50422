-- What a write sets aside, and what the last sync has made sure of.
use Rattle.std.proofs.Common.{◌≡◌, inl, inr, ℕ, ◌+◌, ◌-◌, ◌≤◌, List, [], ◌∷◌, ◌++◌, length, take, drop, Result, Ok, Err, refl, sym, ap, ◌∙◌, arith, append_assoc, append-nil, length-append, length-drop, slice_range}
use Rattle.std.proofs.Math.Seq.{paste, take-add, take-append-add}
use Rattle.std.proofs.lemmas.Bool.{cases_lt}
use Rattle.std.proofs.lemmas.List.{take_at, take_all, drop_at, drop_all, take-take, drop-drop, drop-take, take-append-drop, length-take-le}
use Rattle.std.proofs.lemmas.List.Folds.{drop_split}
use Rattle.std.specs.Prelude.{OnOk, OnErr}
use Rattle.std.specs.declared.alloc.AllocError.{AllocError}
use Rattle.disk.specs.Disk.{Holds}
use Rattle.disk.specs.Image.{put_at, synced_of, Covers}
use Rattle.disk.proofs.Images.{torn_done}

-- bytes that were put behind are moved to the front
pub put_in_front : (old front all pasted now : List ℕ) (count : ℕ) → all ≡ old ++ front → count ≡ length old → pasted ≡ paste all (length front) (drop 0 all) (count - 0) → Holds pasted 0 front now → now ≡ front ++ old
put_in_front old front all pasted now count is counted by over =
    let sum : length all ≡ length old + length front = ap length is ∙ length-append old front in
    let head : List ℕ = take (length front) all in
    let head_long : length head ≡ length front = length-take-le (length front) all (omega (arith, sum)) in
    let number : count - 0 ≡ length old = omega (arith, counted) in
    let middle : take (count - 0) (drop 0 all) ≡ old = ap (λ (k : ℕ). take k all) number ∙ ap (λ (l : List ℕ). take (length old) l) is ∙ take_at old front (length old) refl in
    let behind : drop (length front + (count - 0)) all ≡ [] = drop_all (length front + (count - 0)) all (omega (arith, sum, number)) in
    let rest : List ℕ = drop (length front + (count - 0)) all in
    let moved : drop (length front) pasted ≡ old = ap (λ (l : List ℕ). drop (length front) l) (by ∙ append_assoc head (take (count - 0) (drop 0 all)) rest) ∙ drop_at head (take (count - 0) (drop 0 all) ++ rest) (length front) head_long ∙ ap (λ (l : List ℕ). l ++ rest) middle ∙ ap (λ (l : List ℕ). old ++ l) behind ∙ append-nil old in
    over ∙ ap (λ (k : ℕ). front ++ drop k pasted) (omega arith) ∙ ap (λ (l : List ℕ). front ++ l) moved

-- the bytes before a write stay, whether it was done or not
pub front_stays : (n at : ℕ) (old new now : List ℕ) (result : Result Unit AllocError) → n ≤ at → at ≤ length old → OnOk result (Holds old at new now) → OnErr result (now ≡ old) → take n now ≡ take n old
front_stays n at old new now (Err e) low within done same = ap (λ (l : List ℕ). take n l) same
front_stays n at old new now (Ok u) low within done same =
    let front : List ℕ = take at old in
    let behind : List ℕ = drop (at + length new) old in
    let here : take at now ≡ front = ap (λ (l : List ℕ). take at l) (done ∙ append_assoc front new behind) ∙ take_at front (new ++ behind) at (length-take-le at old within) in
    sym (take-take n at now low) ∙ ap (λ (l : List ℕ). take n l) here ∙ take-take n at old low

-- the bytes after a write stay
back_stays : (from end : ℕ) (old new now : List ℕ) → from ≤ length old → from + length new ≤ end → Holds old from new now → drop end now ≡ drop end old
back_stays from end old new now within low done =
    let more : ℕ = end - (from + length new) in
    let number : end ≡ (from + length new) + more = omega (arith, low) in
    ap (λ (k : ℕ). drop k now) number ∙ sym (drop-drop more (from + length new) now) ∙ ap (λ (l : List ℕ). drop more l) (torn_done from old new now within done).after ∙ drop-drop more (from + length new) old ∙ ap (λ (k : ℕ). drop k old) (sym number)

-- what is left of the first n bytes
left_of : (n end : ℕ) (held : List ℕ) → end ≤ n → drop end (take n held) ≡ take (n - end) (drop end held)
left_of n end held low = ap (λ (k : ℕ). drop end (take k held)) (omega (arith, low)) ∙ drop-take end (n - end) held

put_none : (at : ℕ) (held : List ℕ) → put_at at [] held ≡ held
put_none at held = ap (λ (k : ℕ). take at held ++ [] ++ drop k held) (omega arith) ∙ ap (λ (l : List ℕ). l ++ drop at held) (append-nil (take at held)) ∙ take-append-drop at held

-- no bytes are nowhere, so they may be anywhere
pub moved : (at from : ℕ) (bytes held : List ℕ) → length bytes ≡ 0 → put_at from bytes held ≡ put_at at bytes held
moved at from [] held none = put_none from held ∙ sym (put_none at held)
moved at from (b ∷ bytes) held none = absurd (omega (arith, none))

-- a stretch that begins earlier, with the bytes that are there
pub widened_front : (at from : ℕ) (bytes held longer : List ℕ) → from ≤ at → at ≤ length held → longer ≡ slice_range held from at ++ bytes → put_at from longer held ≡ put_at at bytes held
widened_front at from bytes held longer low within is =
    let part : List ℕ = slice_range held from at in
    let size : length part ≡ at - from = length-take-le (at - from) (drop from held) (omega (arith, length-drop from held)) in
    let long : length longer ≡ (at - from) + length bytes = omega (arith, ap length is, length-append part bytes, size) in
    let number : from + (at - from) ≡ at = omega (arith, low) in
    let front : take from held ++ longer ≡ take at held ++ bytes = ap (λ (l : List ℕ). take from held ++ l) is ∙ sym (append_assoc (take from held) part bytes) ∙ ap (λ (l : List ℕ). l ++ bytes) (sym (take-add from (at - from) held) ∙ ap (λ (k : ℕ). take k held) number) in
    ap (λ (l : List ℕ). l ++ drop (from + length longer) held) front ∙ ap (λ (k : ℕ). take at held ++ bytes ++ drop k held) (omega (arith, long, low))

-- one that ends later
pub widened_back : (at end upto : ℕ) (bytes held longer : List ℕ) → end ≡ at + length bytes → end ≤ upto → upto ≤ length held → longer ≡ bytes ++ slice_range held end upto → put_at at longer held ≡ put_at at bytes held
widened_back at end upto bytes held longer place low within is =
    let part : List ℕ = slice_range held end upto in
    let size : length part ≡ upto - end = length-take-le (upto - end) (drop end held) (omega (arith, length-drop end held)) in
    let number : at + length longer ≡ upto = omega (arith, ap length is, length-append bytes part, size, place, low) in
    ap (λ (k : ℕ). take at held ++ longer ++ drop k held) number
    ∙ ap (λ (l : List ℕ). take at held ++ l ++ drop upto held) is
    ∙ ap (λ (l : List ℕ). l ++ drop upto held) (sym (append_assoc (take at held) bytes part))
    ∙ append_assoc (take at held ++ bytes) part (drop upto held)
    ∙ ap (λ (l : List ℕ). take at held ++ bytes ++ l) (sym (drop_split held end upto low))
    ∙ ap (λ (k : ℕ). take at held ++ bytes ++ drop k held) place

-- after a write of what it covers, the stretch is put back to the same bytes
stays_done : (n at from : ℕ) (bytes old new now : List ℕ) → at + length bytes ≤ n → from ≤ length old → Covers at (length bytes) n from (length new) → Holds old from new now → synced_of n at bytes now ≡ synced_of n at bytes old
stays_done n at from bytes old new now inside within (inl above) done = ap (λ (l : List ℕ). put_at at bytes l) (front_stays n from old new now (Ok tt) above within done tt)
stays_done n at from bytes old new now inside within (inr covers) done =
    let end : ℕ = at + length bytes in
    let front : take at (take n now) ≡ take at (take n old) = take-take at n now (omega (arith, inside)) ∙ front_stays at from old new now (Ok tt) covers.0 within done tt ∙ sym (take-take at n old (omega (arith, inside))) in
    let back : drop end (take n now) ≡ drop end (take n old) = elim (cases_lt end n) [
      | inl lt ↦ left_of n end now inside ∙ ap (λ (l : List ℕ). take (n - end) l) (back_stays from end old new now within (omega (arith, lt, covers.1)) done) ∙ sym (left_of n end old inside)
      | inr le ↦
          let none : n - end ≡ 0 = omega (arith, le) in
          left_of n end now inside ∙ ap (λ (k : ℕ). take k (drop end now)) none ∙ sym (ap (λ (k : ℕ). take k (drop end old)) none) ∙ sym (left_of n end old inside)
    ] in
    ap (λ (l : List ℕ). l ++ bytes ++ drop end (take n now)) front ∙ ap (λ (l : List ℕ). take at (take n old) ++ bytes ++ l) back

pub undo_stays : (n at from : ℕ) (bytes old new now : List ℕ) (result : Result Unit AllocError) → at + length bytes ≤ n → from ≤ length old → Covers at (length bytes) n from (length new) → OnOk result (Holds old from new now) → OnErr result (now ≡ old) → synced_of n at bytes now ≡ synced_of n at bytes old
undo_stays n at from bytes old new now (Err e) inside within covers done same = ap (λ (l : List ℕ). synced_of n at bytes l) same
undo_stays n at from bytes old new now (Ok u) inside within covers done same = stays_done n at from bytes old new now inside within covers done

-- what the last sync has made sure of, in three parts
pub three_parts : (n at end : ℕ) (bytes held : List ℕ) → end ≡ at + length bytes → end ≤ n → take at held ++ bytes ++ slice_range held end n ≡ synced_of n at bytes held
three_parts n at end bytes held place low =
    ap (λ (l : List ℕ). l ++ bytes ++ slice_range held end n) (sym (take-take at n held (omega (arith, place, low))))
    ∙ ap (λ (l : List ℕ). take at (take n held) ++ bytes ++ l) (sym (left_of n end held low))
    ∙ ap (λ (k : ℕ). take at (take n held) ++ bytes ++ drop k (take n held)) place

-- the bytes once the stretch is put back, and those after the first n are let go
pub gone_back : (n at : ℕ) (bytes held now : List ℕ) → at + length bytes ≤ n → n ≤ length held → Holds held at bytes now → take n now ≡ synced_of n at bytes held
gone_back n at bytes held now inside within done =
    let end : ℕ = at + length bytes in
    let front : List ℕ = take at held ++ bytes in
    let rest : List ℕ = drop end held in
    let size : length front ≡ end = omega (arith, length-append (take at held) bytes, length-take-le at held (omega (arith, inside, within))) in
    let number : n ≡ length front + (n - end) = omega (arith, size, inside) in
    ap (λ (l : List ℕ). take n l) done
    ∙ ap (λ (k : ℕ). take k (front ++ rest)) number
    ∙ take-append-add front rest (n - end)
    ∙ ap (λ (l : List ℕ). front ++ l) (sym (left_of n end held inside))
    ∙ ap (λ (l : List ℕ). l ++ bytes ++ drop end (take n held)) (sym (take-take at n held (omega (arith, inside))))

-- all bytes are made sure of, where none is set aside
pub all_sure : (n at : ℕ) (bytes held : List ℕ) → bytes ≡ [] → n ≡ length held → synced_of n at bytes held ≡ held
all_sure n at bytes held none all = ap (λ (l : List ℕ). synced_of n at l held) none ∙ put_none at (take n held) ∙ take_all n held (omega (arith, all))
