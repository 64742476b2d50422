-- A story whose groups are called by other names keeps its order: that of the bytes of a stream carries over to what they spell.
use Rattle.std.proofs.Common.{◌≡◌, ℕ, zero, suc, ◌<◌, ◌≤◌, List, [], ◌∷◌, ◌++◌, length, map, Option, Some, None, refl, sym, ap, ◌∙◌, subst, cond, arith, nat_lt, ◌==◌, Bool, true, false}
use Rattle.std.specs.Prelude.{Contains}
use Rattle.model_histories.specs.Story.{Placed, StreamEvent, Made, Answered, Showed, Story, event_at, Copy, placed, from_place, Ascending, KeepsOrder}
use Rattle.model_histories.specs.Renaming.{renamed_copy, renamed_placed, renamed_event, renamed}

-- ---- lists

module _ {X Y : Type 0} (f : X → Y) where
  pub mapped_there : (xs : List X) (x : X) → Contains xs x → Contains (map f xs) (f x)
  mapped_there [] x (k, l, e) = absurd (omega arith)
  mapped_there (y ∷ xs) x (zero, l, e) = (zero, omega arith, ap f e)
  mapped_there (y ∷ xs) x (suc k, l, e) =
      let r : Contains (map f xs) (f x) = mapped_there xs x (k, omega arith, e) in
      (suc r.0, omega (arith, r.1), r.2)

  pub mapped_from : (xs : List X) (y : Y) → Contains (map f xs) y → (x : X) × Contains xs x × (f x ≡ y)
  mapped_from [] y (k, l, e) = absurd (omega arith)
  mapped_from (x ∷ xs) y (zero, l, e) = (x, (zero, omega arith, refl), e)
  mapped_from (x ∷ xs) y (suc k, l, e) =
      let r : (z : X) × Contains xs z × (f z ≡ y) = mapped_from xs y (k, omega arith, e) in
      (r.0, (suc r.1.0, omega (arith, r.1.1), r.1.2), r.2)

  pub mapped_both : (xs ys : List X) → map f (xs ++ ys) ≡ map f xs ++ map f ys
  mapped_both [] ys = refl
  mapped_both (x ∷ xs) ys = ap (λ l. f x ∷ l) (mapped_both xs ys)

  pub mapped_length : (xs : List X) → length (map f xs) ≡ length xs
  mapped_length [] = refl
  mapped_length (x ∷ xs) = ap suc (mapped_length xs)

pub more_length : {A : Type 0} (xs : List A) (y : A) → length (xs ++ y ∷ []) ≡ suc (length xs)
more_length {A} [] y = refl
more_length {A} (x ∷ xs) y = ap suc (more_length xs y)

-- a list that is mapped to a front, an element and a back has those parts
pub mapped_parts : {X Y : Type 0} (f : X → Y) (xs : List X) (front : List Y) (y : Y) (back : List Y) → map f xs ≡ front ++ y ∷ back →
    (us : List X) × (x : X) × (vs : List X) × (xs ≡ us ++ x ∷ vs) × (map f us ≡ front) × (f x ≡ y)
mapped_parts f [] [] y back e = absurd cc
mapped_parts f [] (z ∷ front) y back e = absurd cc
mapped_parts f (x ∷ xs) [] y back e = ([], x, xs, refl, refl, cc)
mapped_parts {X} {Y} f (x ∷ xs) (z ∷ front) y back e =
    let head : f x ≡ z = cc in
    let tail : map f xs ≡ front ++ y ∷ back = cc in
    let r : (us : List X) × (x' : X) × (vs : List X) × (xs ≡ us ++ x' ∷ vs) × (map f us ≡ front) × (f x' ≡ y) = mapped_parts f xs front y back tail in
    (x ∷ r.0, r.1, r.2, ap (λ l. x ∷ l) r.3, ap (λ l. f x ∷ l) r.4 ∙ ap (λ w. w ∷ front) head, r.5)

-- ---- stories

module _ {A B : Type 0} (f : A → B) where
  abbrev pub renamed_if : Option (StreamEvent A) → Option (StreamEvent B)
  renamed_if None = None
  renamed_if (Some e) = Some ((renamed_event f) e)

  if_step : (b : Bool) (e : StreamEvent A) (x : Option (StreamEvent A)) → cond b (Some ((renamed_event f) e)) (renamed_if x) ≡ renamed_if (cond b (Some e) x)
  if_step true e x = refl
  if_step false e x = refl

  pub renamed_at : (story : Story A) (n : ℕ) → event_at ((renamed f) story) n ≡ renamed_if (event_at story n)
  renamed_at [] n = refl
  renamed_at (e ∷ earlier) n =
      ap (λ m. cond (n == m) (Some ((renamed_event f) e)) (event_at ((renamed f) earlier) n)) (mapped_length (renamed_event f) earlier)
      ∙ ap (λ x. cond (n == length earlier) (Some ((renamed_event f) e)) x) (renamed_at earlier n)
      ∙ if_step (n == length earlier) e (event_at earlier n)

  pub made_at : (story : Story A) (n g : ℕ) (group : A) → event_at story n ≡ Some (Made g group) → event_at ((renamed f) story) n ≡ Some (Made g (f group))
  made_at story n g group e = renamed_at story n ∙ ap renamed_if e

  made_if : (x : Option (StreamEvent A)) (g : ℕ) (group : B) → renamed_if x ≡ Some (Made g group) → (old : A) × (x ≡ Some (Made g old)) × (f old ≡ group)
  made_if None g group e = absurd cc
  made_if (Some (Made h old)) g group e = let a : h ≡ g = cc in (old, ap (λ k. Some (Made k old)) a, cc)
  made_if (Some (Answered append from to)) g group e = absurd cc
  made_if (Some (Showed h start end groups)) g group e = absurd cc

  pub made_from : (story : Story A) (n g : ℕ) (group : B) → event_at ((renamed f) story) n ≡ Some (Made g group) →
      (old : A) × (event_at story n ≡ Some (Made g old)) × (f old ≡ group)
  made_from story n g group e = made_if (event_at story n) g group (sym (renamed_at story n) ∙ e)

  pub answered_at : (story : Story A) (n append from to : ℕ) → event_at story n ≡ Some (Answered append from to) → event_at ((renamed f) story) n ≡ Some (Answered append from to)
  answered_at story n append from to e = renamed_at story n ∙ ap renamed_if e

  pub showed_at : (story : Story A) (n g start end : ℕ) (groups : List (Placed A)) → event_at story n ≡ Some (Showed g start end groups) →
      event_at ((renamed f) story) n ≡ Some (Showed g start end (map (renamed_placed f) groups))
  showed_at story n g start end groups e = renamed_at story n ∙ ap renamed_if e

  answered_if : (x : Option (StreamEvent A)) (append from to : ℕ) → renamed_if x ≡ Some (Answered append from to) → x ≡ Some (Answered append from to)
  answered_if None append from to e = absurd cc
  answered_if (Some (Made h old)) append from to e = absurd cc
  answered_if (Some (Answered a b c)) append from to e = cc
  answered_if (Some (Showed h start end groups)) append from to e = absurd cc

  pub answered_from : (story : Story A) (n append from to : ℕ) → event_at ((renamed f) story) n ≡ Some (Answered append from to) →
      event_at story n ≡ Some (Answered append from to)
  answered_from story n append from to e = answered_if (event_at story n) append from to (sym (renamed_at story n) ∙ e)

  showed_if : (x : Option (StreamEvent A)) (g start end : ℕ) (groups : List (Placed B)) → renamed_if x ≡ Some (Showed g start end groups) →
      (old : List (Placed A)) × (x ≡ Some (Showed g start end old)) × (map (renamed_placed f) old ≡ groups)
  showed_if None g start end groups e = absurd cc
  showed_if (Some (Made h old)) g start end groups e = absurd cc
  showed_if (Some (Answered a b c)) g start end groups e = absurd cc
  showed_if (Some (Showed h s t old)) g start end groups e =
      let a : h ≡ g = cc in let b : s ≡ start = cc in let c : t ≡ end = cc in
      (old, (λ i. Some (Showed (a i) (b i) (c i) old)), cc)

  pub showed_from : (story : Story A) (n g start end : ℕ) (groups : List (Placed B)) → event_at ((renamed f) story) n ≡ Some (Showed g start end groups) →
      (old : List (Placed A)) × (event_at story n ≡ Some (Showed g start end old)) × (map (renamed_placed f) old ≡ groups)
  showed_from story n g start end groups e = showed_if (event_at story n) g start end groups (sym (renamed_at story n) ∙ e)

  -- ---- copies

  from_step : (b : Bool) (start : ℕ) (c : Copy A) (cs : List (Copy A)) →
      map (renamed_placed f) (map placed (from_place start cs)) ≡ map placed (from_place start (map (renamed_copy f) cs)) →
      map (renamed_placed f) (map placed (cond b (from_place start cs) (c ∷ cs)))
      ≡ map placed (cond b (from_place start (map (renamed_copy f) cs)) ((renamed_copy f) c ∷ map (renamed_copy f) cs))
  from_step true start c cs e = e
  from_step false start c cs e = ap (λ l. (renamed_placed f) (placed c) ∷ l) (all_placed cs)
    where
      all_placed : (cs : List (Copy A)) → map (renamed_placed f) (map placed cs) ≡ map placed (map (renamed_copy f) cs)
      all_placed [] = refl
      all_placed (d ∷ ds) = ap (λ l. (renamed_placed f) (placed d) ∷ l) (all_placed ds)

  pub from_place_renamed : (start : ℕ) (cs : List (Copy A)) →
      map (renamed_placed f) (map placed (from_place start cs)) ≡ map placed (from_place start (map (renamed_copy f) cs))
  from_place_renamed start [] = refl
  from_place_renamed start (c ∷ cs) = from_step (nat_lt c.from start) start c cs (from_place_renamed start cs)

  ascending_renamed : (cs : List (Copy A)) → Ascending cs → Ascending (map (renamed_copy f) cs)
  ascending_renamed cs up front back c d is there =
      let parts : (us : List (Copy A)) × (x : Copy A) × (vs : List (Copy A)) × (cs ≡ us ++ x ∷ vs) × (map (renamed_copy f) us ≡ front) × ((renamed_copy f) x ≡ c) =
      mapped_parts (renamed_copy f) cs front c back is in
      let old : (z : Copy A) × Contains parts.0 z × ((renamed_copy f) z ≡ d) =
      mapped_from (renamed_copy f) parts.0 d (subst (λ l. Contains l d) (sym parts.4) there) in
      let le : old.0.to ≤ parts.1.from = up parts.0 parts.2 parts.1 old.0 parts.3 old.1 in
      let a : old.0.to ≡ d.to = ap (λ (z : Copy B). z.to) old.2 in
      let b : parts.1.from ≡ c.from = ap (λ (z : Copy B). z.from) parts.5 in
      omega (arith, le, a, b)

  -- ---- the order

  module _ (story : Story A) (k : KeepsOrder story) where
    abbrev copies_of : ℕ → List (Copy B)
    copies_of l = map (renamed_copy f) (k.copies l)

    -- the copy that another is called after
    abbrev Old : ℕ → Copy B → Type 0
    Old l c = (x : Copy A) × Contains (k.copies l) x × ((renamed_copy f) x ≡ c)

    old : (l : ℕ) (c : Copy B) → Contains (copies_of l) c → Old l c
    old l c there = mapped_from (renamed_copy f) (k.copies l) c there

    same_append : (x : Copy A) (c : Copy B) → (renamed_copy f) x ≡ c → x.append ≡ c.append
    same_append x c e = ap (λ (z : Copy B). z.append) e

    same_from : (x : Copy A) (c : Copy B) → (renamed_copy f) x ≡ c → x.from ≡ c.from
    same_from x c e = ap (λ (z : Copy B). z.from) e

    same_to : (x : Copy A) (c : Copy B) → (renamed_copy f) x ≡ c → x.to ≡ c.to
    same_to x c e = ap (λ (z : Copy B). z.to) e

    same_group : (x : Copy A) (c : Copy B) → (renamed_copy f) x ≡ c → f x.group ≡ c.group
    same_group x c e = ap (λ (z : Copy B). z.group) e

    -- groups by other names keep the order
    pub renamed_keeps : KeepsOrder ((renamed f) story)
    renamed_keeps = record {
      copies = copies_of;
      shown = λ l g start end groups is.
          let s = showed_from story l g start end groups is in
          sym s.2 ∙ ap (map (renamed_placed f)) (k.shown l g start end s.0 s.1) ∙ from_place_renamed start (k.copies l);
      ascending = λ l. ascending_renamed (k.copies l) (k.ascending l);
      not_empty = λ l c there.
          let x = old l c there in
          let lt : x.0.from < x.0.to = k.not_empty l x.0 x.1 in
          omega (arith, lt, same_from x.0 c x.2, same_to x.0 c x.2);
      ends = λ l g start end groups c is there.
          let s = showed_from story l g start end groups is in
          let x = old l c there in
          let le : x.0.to ≤ end = k.ends l g start end s.0 x.0 s.1 x.1 in
          omega (arith, le, same_to x.0 c x.2);
      handed = λ l g start end groups c is there.
          let s = showed_from story l g start end groups is in
          let x = old l c there in
          let h = k.handed l g start end s.0 x.0 s.1 x.1 in
          let same : x.0.append ≡ c.append = same_append x.0 c x.2 in
          let at : event_at ((renamed f) story) x.0.append ≡ Some (Made h.0 (f x.0.group)) = made_at story x.0.append h.0 x.0.group h.1 in
          (h.0, (λ i. event_at ((renamed f) story) (sym same i)) ∙ at ∙ ap (λ y. Some (Made h.0 y)) (same_group x.0 c x.2), h.2, omega (arith, h.3, same));
      answered = λ l g start end a g' n from to groups group is made below told.
          let s = showed_from story l g start end groups is in
          let m = made_from story a g' group made in
          let there : Contains (k.copies l) (record { from = from; to = to; append = a; group = m.0 }) =
          k.answered l g start end a g' n from to s.0 m.0 s.1 m.1 below (answered_from story n a from to told) in
          subst (λ y. Contains (copies_of l) (record { from = from; to = to; append = a; group = y })) m.2
          (mapped_there (renamed_copy f) (k.copies l) (record { from = from; to = to; append = a; group = m.0 }) there);
      after = λ l a n from to c there told later.
          let x = old l c there in
          let same : x.0.append ≡ c.append = same_append x.0 c x.2 in
          let le : to ≤ x.0.from = k.after l a n from to x.0 x.1 (answered_from story n a from to told) (omega (arith, later, same)) in
          omega (arith, le, same_from x.0 c x.2);
      begins = λ l m g h start end start' end' groups groups' is is' lt.
          let s = showed_from story l g start end groups is in
          let t = showed_from story m h start' end' groups' is' in
          let b = k.begins l m g h start end start' end' s.0 t.0 s.1 t.1 lt in (
            map (renamed_copy f) b.0,
            ap (map (renamed_copy f)) b.1 ∙ mapped_both (renamed_copy f) (k.copies l) b.0,
            λ c there.
                let x : (z : Copy A) × Contains b.0 z × ((renamed_copy f) z ≡ c) = mapped_from (renamed_copy f) b.0 c there in
                let r = b.2 x.0 x.1 in
                let same : x.0.append ≡ c.append = same_append x.0 c x.2 in (
                  omega (arith, r.0, same_from x.0 c x.2),
                  λ g' group made.
                      let o = made_from story x.0.append g' group ((λ i. event_at ((renamed f) story) (same i)) ∙ made) in
                      r.1 g' o.0 o.1,
                ),
          );
    }

    -- its copies are those that there were, by other names
    pub renamed_copies : renamed_keeps.copies ≡ (λ l. map (renamed_copy f) (k.copies l))
    unfolding renamed_keeps
    renamed_copies = refl
