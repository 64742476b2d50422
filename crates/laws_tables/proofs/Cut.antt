-- A load that reads from a checkpoint's position on: what stands before it is the checkpoint's line, and what stands behind it goes on from there.
use Rattle.std.proofs.Common.{◌≡◌, ℕ, suc, ◌<◌, ◌≤◌, List, [], ◌∷◌, ◌++◌, length, true, false, cond, Some, refl, sym, ap, ◌∙◌, subst, inl, inr, ⊎_elim, arith, append_assoc, ltb}
use Rattle.std.specs.Prelude.{Contains}
use Rattle.std.proofs.lemmas.List.{map-append}
use Rattle.std.proofs.lemmas.Bool.Decides.{nat_tests}
use Rattle.commitlog.specs.Replay.{Numbered as Group}
use Rattle.model_partition.specs.Lines.{next_after}
use Rattle.model_histories.specs.Story.{Placed, Made, Answered, Story, event_at, Copy, from_place, KeepsOrder}
use Rattle.model_histories.specs.StreamMachine.{In}
use Rattle.laws_tables.specs.WholeStories.{IsServed}
use Rattle.laws_tables.proofs.Lines.{along, along-append, line_at_position}
use Rattle.laws_tables.proofs.Members.{in_contains, contains_in, in_split, in_right, in_left, in_cases}
use Rattle.laws_tables.proofs.Range.{IsMadeAt, IsShownAt}
use Rattle.laws_tables.proofs.Replay.{numbers, member_number, generation_in, group_in, found, rules}

module _ (A : Type 0) where
  drop_front : (u v : List (Copy A)) (place : ℕ) → ((c : Copy A) → In c u → c.from < place) → from_place place (u ++ v) ≡ from_place place v
  drop_front [] v place h = refl
  drop_front (c ∷ u) v place h =
      let low : c.from < place = h c (inl refl) in
      let t : ltb c.from place ≡ true = grind (arith, nat_tests) in
      ap (λ b. cond b (from_place place (u ++ v)) (c ∷ (u ++ v))) t ∙ drop_front u v place (λ d i. h d (inr i))

  pub keep_back : (v : List (Copy A)) (place : ℕ) → ((c : Copy A) → In c v → place ≤ c.from) → from_place place v ≡ v
  keep_back [] place h = refl
  keep_back (c ∷ v) place h =
      let high : place ≤ c.from = h c (inl refl) in
      let t : ltb c.from place ≡ false = grind (arith, nat_tests) in
      ap (λ b. cond b (from_place place v) (c ∷ v)) t

module _ (A : Type 0) (story : Story (Group A)) (served : IsServed story) (order : KeepsOrder story) where
  abbrev gen : ℕ → ℕ
  gen a = generation_in A (event_at story a)

  abbrev group : ℕ → Group A
  group a = group_in A (event_at story a)

  abbrev IsLoad : ℕ → Type 0
  IsLoad l = (g : ℕ) × (s : ℕ) × (e : ℕ) × (xs : List (Placed (Group A))) × IsShownAt A story l g s e xs

  abbrev IsMade : ℕ → Type 0
  IsMade a = (g : ℕ) × (grp : Group A) × IsMadeAt A story a g grp

  -- the line of these copies
  abbrev pub line_of_copies : List (Copy (Group A)) → List A
  line_of_copies copies = along A group gen [] (numbers (Group A) copies)

  -- the position of a group that was answered before any later group of its incarnation was made
  pub cut : (l a k from to g : ℕ) (grp : Group A) (is_load : IsLoad l) → IsMadeAt A story a g grp → g < is_load.0 → event_at story k ≡ Some (Answered a from to) →
      ((f : ℕ) (later : Group A) → IsMadeAt A story f g later → a < f → k < f) →
      (front : List (Copy (Group A))) × (order.copies l ≡ front ++ from_place to (order.copies l)) × (suc (length (line_of_copies front)) ≡ next_after grp)
  cut l a k from to g grp is_load made low answer in_turn =
      let d : Copy (Group A) = record { from = from; to = to; append = a; group = grp } in
      let here : Contains (order.copies l) d = order.answered l is_load.0 is_load.1 is_load.2 a g k from to is_load.3 grp is_load.4 made low answer in
      let s : (u : List (Copy (Group A))) × (v : List (Copy (Group A))) × (order.copies l ≡ u ++ d ∷ v) = in_split d (order.copies l) (in_contains d (order.copies l) here) in
      let filled : from < to = order.not_empty l d here in
      let below : (c : Copy (Group A)) → In c s.0 → c.to ≤ from = λ (c : Copy (Group A)) (i : In c s.0). order.ascending l s.0 s.1 d c s.2 (contains_in c s.0 i) in
      let solid : (c : Copy (Group A)) → In c s.0 → c.from < c.to = λ (c : Copy (Group A)) (i : In c s.0).
      order.not_empty l c (contains_in c (order.copies l) (subst (In c) (sym s.2) (in_left c s.0 (d ∷ s.1) i))) in
      let whole : order.copies l ≡ (s.0 ++ d ∷ []) ++ s.1 = s.2 ∙ sym (append_assoc s.0 (d ∷ []) s.1) in
      let front_low : (c : Copy (Group A)) → In c (s.0 ++ d ∷ []) → c.from < to = λ (c : Copy (Group A)) (i : In c (s.0 ++ d ∷ [])).
      ⊎_elim {C = c.from < to}
      (λ (j : In c s.0). let b : c.to ≤ from = below c j in let f : c.from < c.to = solid c j in omega arith)
      (λ (j : In c (d ∷ [])). ⊎_elim {C = c.from < to} (λ (e : c ≡ d). let q : c.from ≡ from = ap (λ x. x.from) e in omega arith) (λ no. absurd no) j)
      (in_cases c s.0 (d ∷ []) i) in
      let back_high : (c : Copy (Group A)) → In c s.1 → to ≤ c.from = λ (c : Copy (Group A)) (i : In c s.1).
      let p : (x : List (Copy (Group A))) × (y : List (Copy (Group A))) × (s.1 ≡ x ++ c ∷ y) = in_split c s.1 i in
      let e : order.copies l ≡ (s.0 ++ d ∷ p.0) ++ c ∷ p.1 = s.2 ∙ ap (λ z. s.0 ++ d ∷ z) p.2 ∙ sym (append_assoc s.0 (d ∷ p.0) (c ∷ p.1)) in
      order.ascending l (s.0 ++ d ∷ p.0) p.1 c d e (contains_in d (s.0 ++ d ∷ p.0) (in_right d s.0 (d ∷ p.0) (inl refl))) in
      let rest : from_place to (order.copies l) ≡ s.1 =
      ap (from_place to) whole ∙ drop_front (Group A) (s.0 ++ d ∷ []) s.1 to front_low ∙ keep_back (Group A) s.1 to back_high in
      let ids : numbers (Group A) (order.copies l) ≡ numbers (Group A) s.0 ++ a ∷ numbers (Group A) s.1 =
      ap (numbers (Group A)) s.2 ∙ map-append (λ (c : Copy (Group A)). c.append) s.0 (d ∷ s.1) in
      let none_later : (f : ℕ) → In f (numbers (Group A) s.0) → gen f ≡ gen a → a < f → ⊥ = λ (f : ℕ) (m : In f (numbers (Group A) s.0)) (same : gen f ≡ gen a) (lt : a < f).
      let c : (c : Copy (Group A)) × In c s.0 × (c.append ≡ f) = member_number (Group A) f s.0 m in
      let in_all : In c.0 (order.copies l) = subst (In c.0) (sym s.2) (in_left c.0 s.0 (d ∷ s.1) c.1) in
      let h : (g' : ℕ) × (event_at story (c.0).append ≡ Some (Made g' (c.0).group)) × (g' < is_load.0) × ((c.0).append < l) =
      order.handed l is_load.0 is_load.1 is_load.2 is_load.3 c.0 is_load.4 (contains_in c.0 (order.copies l) in_all) in
      let at : IsMadeAt A story f h.0 (c.0).group = subst (λ z. IsMadeAt A story z h.0 (c.0).group) c.2 h.1 in
      let gf : gen f ≡ h.0 = ap (generation_in A) at in
      let ga : gen a ≡ g = ap (generation_in A) made in
      let is_g : h.0 ≡ g = sym gf ∙ same ∙ ga in
      let late : k < f = in_turn f (c.0).group (subst (λ z. IsMadeAt A story f z (c.0).group) is_g at) lt in
      let e : (c.0).append ≡ f = c.2 in
      let after : to ≤ (c.0).from = order.after l a k from to c.0 (contains_in c.0 (order.copies l) in_all) answer (omega arith) in
      let b : (c.0).to ≤ from = below c.0 c.1 in
      let f2 : (c.0).from < (c.0).to = solid c.0 c.1 in
      omega arith in
      let is_grp : group a ≡ grp = ap (group_in A) made in
      let size : suc (length (along A group gen [] (numbers (Group A) s.0 ++ a ∷ []))) ≡ next_after (group a) =
      line_at_position A group gen IsMade (λ b. found A story (gen b)) IsLoad gen (λ m. numbers (Group A) (order.copies m)) (rules A story served order)
      l a (numbers (Group A) s.0) (numbers (Group A) s.1) is_load ids none_later in
      let ids_front : numbers (Group A) (s.0 ++ d ∷ []) ≡ numbers (Group A) s.0 ++ a ∷ [] = map-append (λ (c : Copy (Group A)). c.append) s.0 (d ∷ []) in (
        s.0 ++ d ∷ [],
        whole ∙ ap (λ z. (s.0 ++ d ∷ []) ++ z) (sym rest),
        ap (λ z. suc (length (along A group gen [] z))) ids_front ∙ size ∙ ap next_after is_grp,
      )

  -- the load's line is the checkpoint's line and what replay of the rest adds to it
  pub line_from_position : (l : ℕ) (front : List (Copy (Group A))) (place : ℕ) → order.copies l ≡ front ++ from_place place (order.copies l) →
      line_of_copies (order.copies l) ≡ along A group gen (line_of_copies front) (numbers (Group A) (from_place place (order.copies l)))
  line_from_position l front place e =
      ap line_of_copies e ∙ ap (along A group gen []) (map-append (λ (c : Copy (Group A)). c.append) front (from_place place (order.copies l)))
      ∙ along-append A group gen (numbers (Group A) front) (numbers (Group A) (from_place place (order.copies l))) []

  -- the position of a load after which nothing was answered: its end
  pub cut_at_end : (l m : ℕ) (is_l : IsLoad l) (is_m : IsLoad m) → is_l.0 < is_m.0 →
      order.copies m ≡ order.copies l ++ from_place is_l.2 (order.copies m)
  cut_at_end l m is_l is_m lt =
      let b : (rest : List (Copy (Group A))) × (order.copies m ≡ order.copies l ++ rest)
      × ((c : Copy (Group A)) → Contains rest c → (is_l.2 ≤ c.from) × ((g' : ℕ) (grp : Group A) → event_at story c.append ≡ Some (Made g' grp) → is_l.0 ≤ g')) =
      order.begins l m is_l.0 is_m.0 is_l.1 is_l.2 is_m.1 is_m.2 is_l.3 is_m.3 is_l.4 is_m.4 lt in
      let low : (c : Copy (Group A)) → In c (order.copies l) → c.from < is_l.2 = λ (c : Copy (Group A)) (i : In c (order.copies l)).
      let f : c.from < c.to = order.not_empty l c (contains_in c (order.copies l) i) in
      let e : c.to ≤ is_l.2 = order.ends l is_l.0 is_l.1 is_l.2 is_l.3 c is_l.4 (contains_in c (order.copies l) i) in
      omega arith in
      let rest_is : from_place is_l.2 (order.copies m) ≡ b.0 =
      ap (from_place is_l.2) b.1 ∙ drop_front (Group A) (order.copies l) b.0 is_l.2 low ∙ keep_back (Group A) b.0 is_l.2 (λ c i. (b.2 c (contains_in c b.0 i)).0) in
      b.1 ∙ ap (λ z. order.copies l ++ z) (sym rest_is)
