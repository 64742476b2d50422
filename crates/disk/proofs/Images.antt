-- What the calls of a disk with an image do.
use Rattle.std.proofs.Common.{◌≡◌, inl, inr, ⊎_elim, ℕ, ◌+◌, ◌-◌, ◌<◌, ◌≤◌, min, Bool, true, false, Option, refl, List, ◌∷◌, ◌++◌, length, take, drop, sym, ap, subst, ◌∙◌, arith, append_assoc, length-append, length-drop}
use Rattle.std.specs.Prelude.{◌⊎◌, nat_le, if◌then◌else◌}
use Rattle.std.proofs.lemmas.Bool.{cases_lt, lt-leb, le-leb}
use Rattle.std.proofs.lemmas.List.{take_at, drop_at, length-take-le}
use Rattle.disk.specs.Disk.{Holds, Torn, Follows, Elapses, Spends}
use Rattle.disk.specs.History.{Event, HeldSince}
use Rattle.disk.specs.Image.{ImageBytes, KeepsRoom, IsThere, image_state}

-- a write that is done is one that a crash may have cut short at its end
pub torn_done : (at : ℕ) (old bytes new : List ℕ) → at ≤ length old → Holds old at bytes new → Torn at (length bytes) old new
torn_done at old bytes new within holds =
    let front : List ℕ = take at old in
    let behind : List ℕ = drop (at + length bytes) old in
    let long : length front ≡ at = length-take-le at old within in
    let size : length (front ++ bytes) ≡ at + length bytes = omega (arith, length-append front bytes, long) in
    record {
      before = ap (λ (l : List ℕ). take at l) (holds ∙ append_assoc front bytes behind) ∙ take_at front (bytes ++ behind) at long;
      after = ap (λ (l : List ℕ). drop (at + length bytes) l) holds ∙ drop_at (front ++ bytes) behind (at + length bytes) size;
      no_shorter = omega (arith, ap length holds, length-append (front ++ bytes) behind, size, length-drop (at + length bytes) old);
      no_longer = omega (arith, ap length holds, length-append (front ++ bytes) behind, size, length-drop (at + length bytes) old);
    }

-- one that has not begun too
pub torn_none : (at n : ℕ) (old : List ℕ) → Torn at n old old
torn_none at n old = record { before = refl; after = refl; no_shorter = omega arith; no_longer = omega arith }

pub crash_done : (old new : ImageBytes) (at : ℕ) (bytes : List ℕ) → at ≤ length old.seen → Holds old.seen at bytes new.seen → new.synced ≡ old.synced → Follows (Torn at (length bytes)) (IsThere old) (IsThere new)
crash_done old new at bytes within holds same c (inl seen) = (old.seen, inl refl, subst (Torn at (length bytes) old.seen) (sym seen) (torn_done at old.seen bytes new.seen within holds))
crash_done old new at bytes within holds same c (inr synced) = (c, inr (synced ∙ same), torn_none at (length bytes) c)

pub crash_none : (old new : ImageBytes) (at n : ℕ) → ((c : List ℕ) → IsThere new c → IsThere old c) → Follows (Torn at n) (IsThere old) (IsThere new)
crash_none old new at n from c there = (c, from c there, torn_none at n c)

-- A call goes by that notes what it takes away.
pub goes_by : (old new : ImageBytes) (events later : List Event) (n : ℕ) (gone : List ℕ) (plan next : Option (ℕ × Bool)) (sure : Bool) → later ≡ (n, gone) ∷ events → IsThere old gone → ((c : List ℕ) → IsThere old c → (c ≡ gone) ⊎ IsThere new c) → Elapses (image_state old events plan sure) (image_state new later next sure)
goes_by old new events later n gone plan next sure is was splits = record {
  later = omega (arith, ap length is);
  nothing_else = λ t c le left. ⊎_elim (λ now. inr now) (λ had. inl (⊎_elim (λ here. inl (subst (IsThere old) (sym here.1) was)) (λ there. inr there) (subst (λ (es : List Event). HeldSince t es c) is had))) left;
  keeps = λ t c le left. ⊎_elim (λ there. ⊎_elim (λ gone_now. inr (subst (λ (es : List Event). HeldSince t es c) (sym is) (inl (le, gone_now)))) (λ now. inl now) (splits c there)) (λ had. inr (subst (λ (es : List Event). HeldSince t es c) (sym is) (inr had))) left;
}

abbrev roomy : ℕ → ℕ → ℕ
roomy n room = if nat_le n room then 6 else 0

room_there : (n room : ℕ) → n ≤ room → roomy n room ≡ 6
room_there n room le = rw (le-leb n room le) refl

room_bound : (n room : ℕ) → roomy n room ≤ 6
room_bound n room = elim (nat_le n room) as (λ (b : Bool). (if b then 6 else 0) ≤ 6) [ true ↦ omega arith | false ↦ omega arith ]

room_none : (n room : ℕ) → room < n → roomy n room ≡ 0
room_none n room lt = rw (lt-leb n room lt) refl

-- a write within what is reserved leaves room
pub spends_write : (old new : ImageBytes) (events later : List Event) (plan next : Option (ℕ × Bool)) (sure : Bool) (at : ℕ) (bytes : List ℕ) → at ≤ length old.seen → Holds old.seen at bytes new.seen → KeepsRoom old new → at + length bytes ≤ min old.seen_room old.synced_room → Spends (image_state old events plan sure) (image_state new later next sure)
spends_write old new events later plan next sure at bytes within holds keeps le = record {
  room = elim (cases_lt old.synced_room (length old.seen)) [
    | inl lt ↦ omega (arith, room_none (length old.seen) old.synced_room lt)
    | inr fits ↦
        let front : List ℕ = take at old.seen in
        let long : length new.seen ≡ at + length bytes + (length old.seen - (at + length bytes)) = omega (arith, ap length holds, length-append (front ++ bytes) (drop (at + length bytes) old.seen), length-append front bytes, length-take-le at old.seen within, length-drop (at + length bytes) old.seen) in
        let fits_now : length new.seen ≤ new.synced_room = omega (arith, long, fits, keeps.synced, le) in
        omega (arith, room_there (length new.seen) new.synced_room fits_now, room_bound (length old.seen) old.synced_room)
  ];
  reserved = omega (arith, keeps.seen, keeps.synced);
}
