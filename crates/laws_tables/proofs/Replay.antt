-- A served log that keeps its order has the rules of `Lines`.
use Rattle.std.proofs.Common.{◌≡◌, ℕ, suc, ◌<◌, ◌≤◌, List, [], ◌∷◌, ◌++◌, length, map, cond, Option, Some, None, refl, sym, ap, ◌∙◌, subst, inl, inr, ◌⊎◌, ⊎_elim, arith, append_assoc, eqb}
use Rattle.std.specs.Prelude.{Contains}
use Rattle.std.proofs.lemmas.List.{map-append}
use Rattle.commitlog.specs.Replay.{Numbered as Group, taken, replayed as replay}
use Rattle.model_histories.specs.StreamMachine.{In}
use Rattle.model_partition.specs.Lines.{next_after}
use Rattle.model_histories.specs.Story.{Placed, StreamEvent, Made, Answered, Showed, Story, event_at, Copy, placed, from_place, Ascending, KeepsOrder}
use Rattle.model_histories.specs.Log.{line_shown}
use Rattle.laws_tables.specs.WholeStories.{IsServed}
use Rattle.laws_tables.proofs.Lines.{along, Rules}
use Rattle.laws_tables.proofs.Members.{in_contains, contains_in, in_right, in_cases, in_split}
use Rattle.laws_tables.proofs.Whole.{from_first}
use Rattle.laws_tables.proofs.Range.{IsMadeAt, IsShownAt, Origin, Kept, EndedAt, eq_test, ne_test, made_shown, answered_shown, shown_cases, event_cases, kept_by_servers}

module _ (A : Type 0) where
  abbrev pub numbers : List (Copy A) → List ℕ
  numbers copies = map (λ c. c.append) copies

  pub member_number : (a : ℕ) (copies : List (Copy A)) → In a (numbers copies) → (c : Copy A) × In c copies × (c.append ≡ a)
  member_number a [] h = absurd h
  member_number a (c ∷ copies) (inl e) = (c, inl refl, sym e)
  member_number a (c ∷ copies) (inr h) =
      let r : (d : Copy A) × In d copies × (d.append ≡ a) = member_number a copies h in
      (r.0, inr r.1, r.2)

  pub number_member : (c : Copy A) (copies : List (Copy A)) → In c copies → In c.append (numbers copies)
  number_member c [] h = absurd h
  number_member c (d ∷ copies) (inl e) = inl (ap (λ x. x.append) e)
  number_member c (d ∷ copies) (inr h) = inr (number_member c copies h)

  -- a split of the numbers is one of the copies
  numbers_split : (copies : List (Copy A)) (xs : List ℕ) (b : ℕ) (ys : List ℕ) → numbers copies ≡ xs ++ b ∷ ys →
      (front : List (Copy A)) × (c : Copy A) × (back : List (Copy A)) × (copies ≡ front ++ c ∷ back) × (numbers front ≡ xs) × (c.append ≡ b)
  numbers_split [] [] b ys e = absurd (cc)
  numbers_split [] (x ∷ xs) b ys e = absurd (cc)
  numbers_split (c ∷ copies) [] b ys e = let h : c.append ≡ b = cc in ([], c, copies, refl, refl, h)
  numbers_split (c ∷ copies) (x ∷ xs) b ys e =
      let t : numbers copies ≡ xs ++ b ∷ ys = cc in
      let h : c.append ≡ x = cc in
      let r : (front : List (Copy A)) × (d : Copy A) × (back : List (Copy A)) × (copies ≡ front ++ d ∷ back) × (numbers front ≡ xs) × (d.append ≡ b) = numbers_split copies xs b ys t in
      (c ∷ r.0, r.1, r.2, cc (r.3), cc (h, r.4), r.5)

  -- with ascending copies, one that ends before another begins stands before it
  before_in : (copies front back : List (Copy A)) (c d : Copy A) → Ascending copies → ((x : Copy A) → Contains copies x → x.from < x.to) →
      copies ≡ front ++ c ∷ back → In d copies → d.to ≤ c.from → In d front
  before_in copies front back c d ascending filled e h le =
      let d_filled : d.from < d.to = filled d (contains_in d copies h) in
      let c_in : In c copies = subst (In c) (sym e) (in_right c front (c ∷ back) (inl refl)) in
      let c_filled : c.from < c.to = filled c (contains_in c copies c_in) in
      let where_d : In d front ⊎ In d (c ∷ back) = in_cases d front (c ∷ back) (subst (In d) e h) in
      ⊎_elim {C = In d front} (λ i. i)
      (λ i. ⊎_elim {C = In d front}
      (λ (q : d ≡ c). let f : d.from ≡ c.from = ap (λ x. x.from) q in absurd (omega arith))
      (λ (q : In d back).
      let s : (u : List (Copy A)) × (v : List (Copy A)) × (back ≡ u ++ d ∷ v) = in_split d back q in
      let whole : copies ≡ (front ++ c ∷ s.0) ++ d ∷ s.1 = e ∙ ap (λ l. front ++ c ∷ l) s.2 ∙ sym (append_assoc front (c ∷ s.0) (d ∷ s.1)) in
      let up : c.to ≤ d.from = ascending (front ++ c ∷ s.0) s.1 d c whole (contains_in c (front ++ c ∷ s.0) (in_right c front (c ∷ s.0) (inl refl))) in
      absurd (omega arith))
      i)
      where_d

module _ (A : Type 0) where
  pub along_is_replay : (group : ℕ → Group A) (gen : ℕ → ℕ) (copies : List (Copy (Group A))) (line : List A) →
      ((c : Copy (Group A)) → In c copies → group c.append ≡ c.group) →
      along A group gen line (numbers (Group A) copies) ≡ replay line (map (λ p. p.group) (map placed copies))
  unfolding along
  along_is_replay group gen [] line h = refl
  along_is_replay group gen (c ∷ copies) line h =
      let e : group c.append ≡ c.group = h c (inl refl) in
      along_is_replay group gen copies (taken line (group c.append)) (λ d i. h d (inr i))
      ∙ ap (λ z. replay (taken line z) (map (λ p. p.group) (map placed copies))) e

  starts_at_first : (story : Story (Group A)) → IsServed story → (l g s e : ℕ) (xs : List (Placed (Group A))) → IsShownAt A story l g s e xs → s ≡ 0
  starts_at_first [] served l g s e xs h = absurd (cc)
  starts_at_first (Made g' group ∷ earlier) served l g s e xs h = starts_at_first earlier served.1 l g s e xs (made_shown A g' group earlier l g s e xs h)
  starts_at_first (Answered a from to ∷ earlier) served l g s e xs h = starts_at_first earlier served.1 l g s e xs (answered_shown A a from to earlier l g s e xs h)
  starts_at_first (Showed g' s' e' xs' ∷ earlier) served l g s e xs h =
      ⊎_elim {C = s ≡ 0}
      (λ (n : (l ≡ length earlier) × (Showed g' s' e' xs' ≡ Showed g s e xs)).
      let r : Showed g' s' e' xs' ≡ Showed g s e xs = n.1 in
      let q : s' ≡ s = cc in
      sym q ∙ served.0.0)
      (λ o. starts_at_first earlier served.1 l g s e xs o)
      (event_cases (Group A) (Showed g' s' e' xs') earlier l (Showed g s e xs) h)

  abbrev pub generation_in : Option (StreamEvent (Group A)) → ℕ
  generation_in None = 0
  generation_in (Some (Made g group)) = g
  generation_in (Some (Answered a from to)) = 0
  generation_in (Some (Showed g start end groups)) = g

  abbrev pub group_in : Option (StreamEvent (Group A)) → Group A
  group_in None = record { first = 0; items = [] }
  group_in (Some (Made g group)) = group
  group_in (Some (Answered a from to)) = record { first = 0; items = [] }
  group_in (Some (Showed g start end groups)) = record { first = 0; items = [] }

  -- the event that loaded a generation
  abbrev pub found : Story (Group A) → ℕ → ℕ
  found [] g = 0
  found (Made g' group ∷ earlier) g = found earlier g
  found (Answered a from to ∷ earlier) g = found earlier g
  found (Showed g' start end groups ∷ earlier) g = cond (eqb g g') (length earlier) (found earlier g)

  pub found_is : (story : Story (Group A)) → Kept A story → (l g s e : ℕ) (xs : List (Placed (Group A))) → IsServed story → IsShownAt A story l g s e xs → found story g ≡ l
  found_is [] kept l g s e xs served h = absurd (cc)
  found_is (Made g' group ∷ earlier) kept l g s e xs served h = found_is earlier (kept_by_servers A earlier served.1) l g s e xs served.1 (made_shown A g' group earlier l g s e xs h)
  found_is (Answered a from to ∷ earlier) kept l g s e xs served h = found_is earlier (kept_by_servers A earlier served.1) l g s e xs served.1 (answered_shown A a from to earlier l g s e xs h)
  found_is (Showed g' start end groups ∷ earlier) kept l g s e xs served h =
      ⊎_elim {C = found (Showed g' start end groups ∷ earlier) g ≡ l}
      (λ (n : (l ≡ length earlier) × (g' ≡ g) × (groups ≡ xs)).
      subst (λ z. cond (eqb g z) (length earlier) (found earlier g) ≡ l) (sym n.1) (ap (λ b. cond b (length earlier) (found earlier g)) (eq_test A g) ∙ sym n.0))
      (λ (o : IsShownAt A earlier l g s e xs).
      let differs : g ≡ g' → ⊥ = λ (q : g ≡ g'). served.0.1 l s e xs (subst (λ z. IsShownAt A earlier l z s e xs) q o) in
      ap (λ b. cond b (length earlier) (found earlier g)) (ne_test A g g' differs) ∙ found_is earlier (kept_by_servers A earlier served.1) l g s e xs served.1 o)
      (shown_cases A g' start end groups earlier l g s e xs h)

  module _ (story : Story (Group A)) (served : IsServed story) (order : KeepsOrder story) where
    pub kept : Kept A story
    kept = kept_by_servers A story served

    abbrev pub gen : ℕ → ℕ
    gen a = generation_in (event_at story a)

    abbrev pub group : ℕ → Group A
    group a = group_in (event_at story a)

    abbrev pub IsMade : ℕ → Type 0
    IsMade a = (g : ℕ) × (grp : Group A) × IsMadeAt A story a g grp

    abbrev pub home : ℕ → ℕ
    home a = found story (gen a)

    abbrev pub IsLoad : ℕ → Type 0
    IsLoad l = (g : ℕ) × (s : ℕ) × (e : ℕ) × (xs : List (Placed (Group A))) × IsShownAt A story l g s e xs

    abbrev pub shows : ℕ → List ℕ
    shows l = numbers (Group A) (order.copies l)

    pub gen_is : (a g : ℕ) (grp : Group A) → IsMadeAt A story a g grp → gen a ≡ g
    gen_is a g grp h = ap generation_in h

    pub load_gen_is : (l g s e : ℕ) (xs : List (Placed (Group A))) → IsShownAt A story l g s e xs → gen l ≡ g
    load_gen_is l g s e xs h = ap generation_in h

    pub group_is : (a g : ℕ) (grp : Group A) → IsMadeAt A story a g grp → group a ≡ grp
    group_is a g grp h = ap group_in h

    -- the copy of an append that a load shows
    pub copy_of : (l a : ℕ) → IsLoad l → In a (shows l) →
        (c : Copy (Group A)) × In c (order.copies l) × (c.append ≡ a) × (g : ℕ) × IsMadeAt A story a g c.group × (g < gen l) × (a < l)
    copy_of l a is_load m =
        let r : (c : Copy (Group A)) × In c (order.copies l) × (c.append ≡ a) = member_number (Group A) a (order.copies l) m in
        let h : (g' : ℕ) × (event_at story (r.0).append ≡ Some (Made g' (r.0).group)) × (g' < is_load.0) × ((r.0).append < l) =
        order.handed l is_load.0 is_load.1 is_load.2 is_load.3 r.0 is_load.4 (contains_in r.0 (order.copies l) r.1) in
        let g_is : gen l ≡ is_load.0 = load_gen_is l is_load.0 is_load.1 is_load.2 is_load.3 is_load.4 in
        let lt : h.0 < is_load.0 = h.2 in
        let e : (r.0).append ≡ a = r.2 in
        let before : (r.0).append < l = h.3 in
        (r.0, r.1, r.2, h.0, subst (λ z. IsMadeAt A story z h.0 (r.0).group) r.2 h.1, omega arith, omega arith)

    made_by_load : (l a : ℕ) → IsLoad l → In a (shows l) → IsMade a
    made_by_load l a is_load m =
        let c : (c : Copy (Group A)) × In c (order.copies l) × (c.append ≡ a) × (g : ℕ) × IsMadeAt A story a g c.group × (g < gen l) × (a < l) = copy_of l a is_load m in
        (c.3, (c.0).group, c.4)

    below : (l a : ℕ) → IsLoad l → In a (shows l) → gen a < gen l
    below l a is_load m =
        let c : (c : Copy (Group A)) × In c (order.copies l) × (c.append ≡ a) × (g : ℕ) × IsMadeAt A story a g c.group × (g < gen l) × (a < l) = copy_of l a is_load m in
        let e : gen a ≡ c.3 = gen_is a c.3 (c.0).group c.4 in
        let lt : c.3 < gen l = c.5 in
        omega arith

    begins : (l m : ℕ) → IsLoad l → IsLoad m → gen l < gen m →
        (rest : List ℕ) × (shows m ≡ shows l ++ rest) × ((a : ℕ) → In a rest → gen l ≤ gen a)
    begins l m is_l is_m less =
        let el : gen l ≡ is_l.0 = load_gen_is l is_l.0 is_l.1 is_l.2 is_l.3 is_l.4 in
        let em : gen m ≡ is_m.0 = load_gen_is m is_m.0 is_m.1 is_m.2 is_m.3 is_m.4 in
        let lt : is_l.0 < is_m.0 = omega arith in
        let b : (rest : List (Copy (Group A))) × (order.copies m ≡ order.copies l ++ rest)
        × ((c : Copy (Group A)) → Contains rest c → (is_l.2 ≤ c.from) × ((g' : ℕ) (grp : Group A) → event_at story c.append ≡ Some (Made g' grp) → is_l.0 ≤ g')) =
        order.begins l m is_l.0 is_m.0 is_l.1 is_l.2 is_m.1 is_m.2 is_l.3 is_m.3 is_l.4 is_m.4 lt in
        let whole : shows m ≡ shows l ++ numbers (Group A) b.0 = ap (numbers (Group A)) b.1 ∙ map-append (λ (c : Copy (Group A)). c.append) (order.copies l) b.0 in (
          numbers (Group A) b.0,
          whole,
          λ a i.
              let r : (c : Copy (Group A)) × In c b.0 × (c.append ≡ a) = member_number (Group A) a b.0 i in
              let there : In a (shows m) = subst (In a) (sym whole) (in_right a (shows l) (numbers (Group A) b.0) i) in
              let made : IsMade a = made_by_load m a is_m there in
              let at : IsMadeAt A story (r.0).append made.0 made.1 = subst (λ z. IsMadeAt A story z made.0 made.1) (sym r.2) made.2 in
              let k : is_l.0 ≤ made.0 = (b.2 r.0 (contains_in r.0 b.0 r.1)).1 made.0 made.1 at in
              let e : gen a ≡ made.0 = gen_is a made.0 made.1 made.2 in
              omega arith,
        )

    answered_first : (l a b : ℕ) (xs ys : List ℕ) → IsLoad l → IsMade a → IsMade b → gen a ≡ gen b → a < b → shows l ≡ xs ++ b ∷ ys → In a xs
    answered_first l a b xs ys is_load ma mb same lt e =
        let s : (front : List (Copy (Group A))) × (c : Copy (Group A)) × (back : List (Copy (Group A))) × (order.copies l ≡ front ++ c ∷ back) × (numbers (Group A) front ≡ xs) × (c.append ≡ b) = numbers_split (Group A) (order.copies l) xs b ys e in
        let b_in : In b (shows l) = subst (In b) (sym e) (in_right b xs (b ∷ ys) (inl refl)) in
        let b_low : gen b < gen l = below l b is_load b_in in
        let ga : gen a ≡ ma.0 = gen_is a ma.0 ma.1 ma.2 in
        let gb : gen b ≡ mb.0 = gen_is b mb.0 mb.1 mb.2 in
        let gl : gen l ≡ is_load.0 = load_gen_is l is_load.0 is_load.1 is_load.2 is_load.3 is_load.4 in
        let eg : ma.0 ≡ mb.0 = sym ga ∙ same ∙ gb in
        let a_low : ma.0 < is_load.0 = omega arith in
        let ma' : IsMadeAt A story a mb.0 ma.1 = subst (λ z. IsMadeAt A story a z ma.1) eg ma.2 in
        let p : (next_after ma.1 ≤ (mb.1).first) × (k : ℕ) × (f : ℕ) × (t : ℕ) × (a < k) × (k < b) × (event_at story k ≡ Some (Answered a f t)) = kept.pairs a b mb.0 ma.1 mb.1 ma' mb.2 lt in
        let d : Copy (Group A) = record { from = p.2; to = p.3; append = a; group = ma.1 } in
        let d_in : In d (order.copies l) = in_contains d (order.copies l)
        (order.answered l is_load.0 is_load.1 is_load.2 a ma.0 p.1 p.2 p.3 is_load.3 ma.1 is_load.4 ma.2 a_low p.6) in
        let c_in : In s.1 (order.copies l) = subst (In s.1) (sym s.3) (in_right s.1 s.0 (s.1 ∷ s.2) (inl refl)) in
        let kb : p.1 < b = p.5 in
        let cb : (s.1).append ≡ b = s.5 in
        let later : p.1 < (s.1).append = omega arith in
        let le : p.3 ≤ (s.1).from = order.after l a p.1 p.2 p.3 s.1 (contains_in s.1 (order.copies l) c_in) p.6 later in
        let in_front : In d s.0 = before_in (Group A) (order.copies l) s.0 s.2 s.1 d (order.ascending l) (order.not_empty l) s.3 d_in le in
        subst (In a) s.4 (number_member (Group A) d s.0 in_front)

    home_load : (a : ℕ) → IsMade a → IsLoad (home a) × (gen (home a) ≡ gen a)
    home_load a m =
        let o : Origin A story a m.0 m.1 = kept.origin a m.0 m.1 m.2 in
        let ga : gen a ≡ m.0 = gen_is a m.0 m.1 m.2 in
        let at : home a ≡ o.load = ap (found story) ga ∙ found_is story kept o.load m.0 o.start o.end o.groups served o.is in
        let is : IsShownAt A story (home a) m.0 o.start o.end o.groups = subst (λ z. IsShownAt A story z m.0 o.start o.end o.groups) (sym at) o.is in
        ((m.0, o.start, o.end, o.groups, is), load_gen_is (home a) m.0 o.start o.end o.groups is ∙ sym ga)

    pub line_is : (l g s e : ℕ) (xs : List (Placed (Group A))) → IsShownAt A story l g s e xs → along A group gen [] (shows l) ≡ line_shown xs
    line_is l g s e xs h =
        let zero_start : s ≡ 0 = starts_at_first story served l g s e xs h in
        let shown : xs ≡ map placed (from_place s (order.copies l)) = order.shown l g s e xs h in
        let all : xs ≡ map placed (order.copies l) = shown ∙ ap (λ z. map placed (from_place z (order.copies l))) zero_start ∙ ap (map placed) (from_first (Group A) (order.copies l)) in
        along_is_replay group gen (order.copies l) []
        (λ c i.
        let d : (g' : ℕ) × (event_at story c.append ≡ Some (Made g' c.group)) × (g' < g) × (c.append < l) = order.handed l g s e xs c h (contains_in c (order.copies l) i) in
        group_is c.append d.0 c.group d.1)
        ∙ ap (λ z. replay [] (map (λ p. p.group) z)) (sym all)

    home_line : (a : ℕ) (m : IsMade a) → along A group gen [] (shows (home a)) ≡ line_shown (kept.origin a m.0 m.1 m.2).groups
    home_line a m =
        let o : Origin A story a m.0 m.1 = kept.origin a m.0 m.1 m.2 in
        let at : home a ≡ o.load = ap (found story) (gen_is a m.0 m.1 m.2) ∙ found_is story kept o.load m.0 o.start o.end o.groups served o.is in
        ap (λ z. along A group gen [] (shows z)) at ∙ line_is o.load m.0 o.start o.end o.groups o.is

    pub rules : Rules A group gen IsMade home IsLoad gen shows
    rules = record {
      made = made_by_load;
      below = below;
      begins = begins;
      answered_first = answered_first;
      home_load = home_load;
      one_home = λ a b ma mb e. ap (found story) e;
      after_home = λ a m.
          let o : Origin A story a m.0 m.1 = kept.origin a m.0 m.1 m.2 in
          let e : group a ≡ m.1 = group_is a m.0 m.1 m.2 in
          let above : suc (length (line_shown o.groups)) ≤ (m.1).first = o.above in
          let l : along A group gen [] (shows (home a)) ≡ line_shown o.groups = home_line a m in
          subst (λ z. suc (length z) ≤ (group a).first) (sym l) (subst (λ z. suc (length (line_shown o.groups)) ≤ z.first) (sym e) above);
      in_turn = λ a b ma mb same lt.
          let eg : ma.0 ≡ mb.0 = sym (gen_is a ma.0 ma.1 ma.2) ∙ same ∙ gen_is b mb.0 mb.1 mb.2 in
          let ma' : IsMadeAt A story a mb.0 ma.1 = subst (λ z. IsMadeAt A story a z ma.1) eg ma.2 in
          let p : next_after ma.1 ≤ (mb.1).first = (kept.pairs a b mb.0 ma.1 mb.1 ma' mb.2 lt).0 in
          subst (λ z. next_after (group a) ≤ z.first) (sym (group_is b mb.0 mb.1 mb.2)) (subst (λ z. next_after z ≤ (mb.1).first) (sym (group_is a ma.0 ma.1 ma.2)) p);
      consecutive = λ b m.
          let o : Origin A story b m.0 m.1 = kept.origin b m.0 m.1 m.2 in
          let e : group b ≡ m.1 = group_is b m.0 m.1 m.2 in
          let l : along A group gen [] (shows (home b)) ≡ line_shown o.groups = home_line b m in
          ⊎_elim {C = ((group b).first ≡ suc (length (along A group gen [] (shows (home b))))) ⊎ ((a : ℕ) × IsMade a × (a < b) × (gen a ≡ gen b) × (next_after (group a) ≡ (group b).first))}
          (λ (q : (m.1).first ≡ suc (length (line_shown o.groups))). inl (ap (λ z. z.first) e ∙ q ∙ ap (λ z. suc (length z)) (sym l)))
          (λ (q : EndedAt A story b m.0 (m.1).first).
          let fq : gen q.0 ≡ m.0 = gen_is q.0 m.0 q.1 q.2 in
          inr (q.0, (m.0, q.1, q.2), q.3, fq ∙ sym (gen_is b m.0 m.1 m.2), ap next_after (group_is q.0 m.0 q.1 q.2) ∙ q.4 ∙ ap (λ z. z.first) (sym e)))
          o.next;
    }
