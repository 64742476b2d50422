-- Agree and Kept hold exactly where each two observations are compatible.
use Rattle.std.proofs.Common.{◌≡◌, ◌⊎◌, ◌↔◌, ℕ, suc, ◌<◌, ◌≤◌, List, length, take, get_or, Contains, AllPairs, Option, Some, None, refl, sym, ◌∙◌, inl, inr, arith, subst, ap, length-take}
use Rattle.std.specs.Option.{IfNone, IfSome}
use Rattle.std.proofs.lemmas.List.{get_or_read, get_or-take}
use Rattle.wire.specs.declared.note.Note.{Note}
use Rattle.wire.specs.declared.note.Note.TheVariants.{Acked, SealedAt, Content, Seen}
use Rattle.model_streams.specs.Honest.{SameWhereBoth, Apart, Agree, Kept}
use Rattle.model_streams.specs.Pairs.{Compatible}
use Rattle.world_checker.specs.Checking.{IsHonest, MeetsFrom, AllMeet}
use Rattle.world_checker.proofs.Places.{same_at, three}

-- two that stand in the list are compatible one way round, or one
both_in : (xs : List Note) (x y : Note) → AllPairs Compatible xs → Contains xs x → Contains xs y → (Compatible x y ⊎ Compatible y x) ⊎ (x ≡ y)
both_in xs x y h (i, l, e) (j, m, f) =
    let other : get_or xs j x ≡ y = sym (get_or_read xs j y m (sym f) x) in
    elim (three i j) [
      | inl below ↦ inl (inl (subst (Compatible x) other (subst (λ w. Compatible w (get_or xs j x)) e (h i j x below m))))
      | inr behind ↦ elim behind [
        | inl above ↦ inl (inr (subst (λ w. Compatible w x) other (subst (Compatible (get_or xs j x)) e (h j i x above l))))
        | inr same ↦ inr (sym e ∙ (ap (λ k. get_or xs k x) same ∙ other))
      ]
    ]

same_shown : (o : ℕ) (xs : List ℕ) → SameWhereBoth o xs o xs
same_shown o xs i j a b k = let e : i ≡ j = omega arith in ap (λ n. get_or xs n 0) e

apart_of : (x y : Note) → Compatible x y → Apart x y
apart_of (Acked e o g) (Acked f p k) c = c
apart_of x y c = tt

honest_from_pairs : (xs : List Note) → AllPairs Compatible xs → IsHonest xs
honest_from_pairs xs h = (
  record {
    same_content = λ e n m c d p q. elim (both_in xs (Content e n c) (Content e m d) h p q) [ inl k ↦ elim k [ inl a ↦ a refl | inr b ↦ sym (b refl) ] | inr s ↦ cc ];
    content_length = λ e n l c p q. elim (both_in xs (Content e n c) (SealedAt e l) h p q) [ inl k ↦ elim k [ inl a ↦ a refl | inr b ↦ b refl ] | inr s ↦ absurd cc ];
    one_length = λ e l k p q. elim (both_in xs (SealedAt e l) (SealedAt e k) h p q) [ inl f ↦ elim f [ inl a ↦ a refl | inr b ↦ sym (b refl) ] | inr s ↦ cc ];
    seen_content = λ e n m o bytes c p q. elim (both_in xs (Seen e n o bytes) (Content e m c) h p q) [ inl k ↦ elim k [ inl a ↦ a refl | inr b ↦ b refl ] | inr s ↦ absurd cc ];
    seen_seen = λ e n m o p ys zs a b. elim (both_in xs (Seen e n o ys) (Seen e m p zs) h a b) [
      | inl k ↦ elim k [ inl a ↦ a refl | inr b ↦ λ i j u v t. sym (b refl j i v u (sym t)) ]
      | inr s ↦ let c : o ≡ p = cc in let d : ys ≡ zs = cc in
          subst (λ r. SameWhereBoth o ys r zs) c (subst (λ r. SameWhereBoth o ys o r) d (same_shown o ys))
    ];
  },
  record {
    stands = λ e n o g c p q. elim (both_in xs (Acked e o g) (Content e n c) h p q) [ inl k ↦ elim k [ inl a ↦ a refl | inr b ↦ b refl ] | inr s ↦ absurd cc ];
    shown = λ e n o p g bytes a b. elim (both_in xs (Acked e o g) (Seen e n p bytes) h a b) [ inl k ↦ elim k [ inl u ↦ u refl | inr v ↦ v refl ] | inr s ↦ absurd cc ];
    within = λ e o l g p q. elim (both_in xs (Acked e o g) (SealedAt e l) h p q) [ inl k ↦ elim k [ inl a ↦ a refl | inr b ↦ b refl ] | inr s ↦ absurd cc ];
    apart = λ i j d l m. apart_of (get_or xs i d) (get_or xs j d) (h i j d l m);
  },
)

module _ (xs : List Note) (a : Agree xs) (k : Kept xs) where
  pair_of : (x y : Note) → Contains xs x → Contains xs y → Apart x y → Compatible x y
  pair_of (Content e n c) (Content f m d) p q r = λ s. a.same_content e n m c d p (subst (λ w. Contains xs (Content w m d)) (sym s) q)
  pair_of (Content e n c) (SealedAt f l) p q r = λ s. a.content_length e n l c p (subst (λ w. Contains xs (SealedAt w l)) (sym s) q)
  pair_of (Content e n c) (Seen f m o bytes) p q r = λ s. a.seen_content e m n o bytes c (subst (λ w. Contains xs (Seen w m o bytes)) (sym s) q) p
  pair_of (Content e n c) (Acked f o g) p q r = λ s. k.stands e n o g c (subst (λ w. Contains xs (Acked w o g)) (sym s) q) p
  pair_of (SealedAt e l) (Content f n c) p q r = λ s. a.content_length e n l c (subst (λ w. Contains xs (Content w n c)) (sym s) q) p
  pair_of (SealedAt e l) (SealedAt f j) p q r = λ s. a.one_length e l j p (subst (λ w. Contains xs (SealedAt w j)) (sym s) q)
  pair_of (SealedAt e l) (Acked f o g) p q r = λ s. k.within e o l g (subst (λ w. Contains xs (Acked w o g)) (sym s) q) p
  pair_of (Seen e n o ys) (Content f m c) p q r = λ s. a.seen_content e n m o ys c p (subst (λ w. Contains xs (Content w m c)) (sym s) q)
  pair_of (Seen e n o ys) (Seen f m i zs) p q r = λ s. a.seen_seen e n m o i ys zs p (subst (λ w. Contains xs (Seen w m i zs)) (sym s) q)
  pair_of (Seen e n i ys) (Acked f o g) p q r = λ s. k.shown e n o i g ys (subst (λ w. Contains xs (Acked w o g)) (sym s) q) p
  pair_of (Acked e o g) (Content f n c) p q r = λ s. k.stands e n o g c p (subst (λ w. Contains xs (Content w n c)) (sym s) q)
  pair_of (Acked e o g) (SealedAt f l) p q r = λ s. k.within e o l g p (subst (λ w. Contains xs (SealedAt w l)) (sym s) q)
  pair_of (Acked e o g) (Seen f n i bytes) p q r = λ s. k.shown e n o i g bytes p (subst (λ w. Contains xs (Seen w n i bytes)) (sym s) q)
  pair_of (Acked e o g) (Acked f i j) p q r = r
  pair_of x y p q r = tt

  pairs_of : AllPairs Compatible xs
  pairs_of i j d l m =
      let within : i < length xs = omega arith in
      pair_of (get_or xs i d) (get_or xs j d)
      (i, within, same_at xs i (get_or xs i d) d within)
      (j, m, same_at xs j (get_or xs j d) d m) (k.apart i j d l m)

pairs_from_honest : (xs : List Note) → IsHonest xs → AllPairs Compatible xs
pairs_from_honest xs h = pairs_of xs h.0 h.1

-- the first of them, one after the other
module _ (xs : List Note) (k : ℕ) where
  first_honest : k ≤ length xs → AllMeet xs k → IsHonest (take k xs)
  first_honest within meets = honest_from_pairs (take k xs) (λ i j d l m.
      let lt : j < k = let n = simp length-take at m in omega (arith, n) in
      let mine : get_or (take k xs) i d ≡ get_or xs i d = get_or-take k xs i d (omega arith) in
      let other : get_or (take k xs) j d ≡ get_or xs j d = get_or-take k xs j d lt in
      subst (Compatible (get_or (take k xs) i d)) (sym other) (subst (λ x. Compatible x (get_or xs j d)) (sym mine) (meets j lt i d (omega arith) l)))

  last_meets : k < length xs → IsHonest (take (suc k) xs) → MeetsFrom xs k 0
  last_meets within honest = λ i d from lt.
      let l : k < length (take (suc k) xs) = simp length-take (omega arith) in
      let mine : get_or (take (suc k) xs) i d ≡ get_or xs i d = get_or-take (suc k) xs i d (omega arith) in
      let other : get_or (take (suc k) xs) k d ≡ get_or xs k d = get_or-take (suc k) xs k d (omega arith) in
      subst (Compatible (get_or xs i d)) other (subst (λ x. Compatible x (get_or (take (suc k) xs) k d)) mine (pairs_from_honest (take (suc k) xs) honest i k d lt l))

all_honest : (xs : List Note) → AllMeet xs (length xs) → IsHonest xs
all_honest xs meets = honest_from_pairs xs (λ i j d l m. meets j m i d (omega arith) l)

all_meet : (xs : List Note) → IsHonest xs → AllMeet xs (length xs)
all_meet xs honest j m = λ i d from l. pairs_from_honest xs honest i j d l m

-- the least place at which one is not compatible with all before it
abbrev IsLeast : List Note → ℕ → Type 0
IsLeast xs k = (k < length xs) × AllMeet xs k × (MeetsFrom xs k 0 → ⊥)

pub none_exactly : (r : Option ℕ) (xs : List Note) → IfNone r (AllMeet xs (length xs)) → IfSome r (IsLeast xs) → (r ≡ None) ↔ IsHonest xs
none_exactly None xs none least = (λ e. all_honest xs none, λ h. refl)
none_exactly (Some k) xs none least = (λ e. absurd cc, λ h. absurd (least.2 (all_meet xs h k least.0)))

pub least_breaks : (r : Option ℕ) (xs : List Note) → IfSome r (IsLeast xs)
    → IfSome r (λ k. (k < length xs) × IsHonest (take k xs) × (IsHonest (take (suc k) xs) → ⊥))
least_breaks None xs least = least
least_breaks (Some k) xs least =
    (least.0, first_honest xs k (omega (arith, least.0)) least.1, λ h. least.2 (last_meets xs k least.0 h))
