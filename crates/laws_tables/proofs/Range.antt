-- What holds of each story that servers make.
use Rattle.std.proofs.Common.{◌≡◌, ℕ, suc, ◌<◌, ◌≤◌, List, [], ◌∷◌, length, true, false, cond, Some, sym, ap, ◌∙◌, subst, inl, inr, ◌⊎◌, ⊎_elim, arith, eqb}
use Rattle.std.proofs.lemmas.Bool.{cases_eq}
use Rattle.std.proofs.lemmas.Bool.Decides.{nat_tests}
use Rattle.commitlog.specs.Replay.{Numbered as Group}
use Rattle.model_partition.specs.Lines.{next_after}
use Rattle.model_histories.specs.Story.{Placed, StreamEvent, Made, Answered, Showed, Story, event_at}
use Rattle.model_histories.specs.Log.{line_shown}
use Rattle.laws_tables.specs.WholeStories.{next_number, Allowed, IsServed}

module _ (A : Type 0) where
  pub eq_test : (n : ℕ) → eqb n n ≡ true
  eq_test n = grind (arith, nat_tests)

  pub ne_test : (m n : ℕ) → (m ≡ n → ⊥) → eqb m n ≡ false
  ne_test m n h = grind (arith, nat_tests)

  pub newest : (e : StreamEvent A) (earlier : Story A) → event_at (e ∷ earlier) (length earlier) ≡ Some e
  newest e earlier = ap (λ b. cond b (Some e) (event_at earlier (length earlier))) (eq_test (length earlier))

  pub bound : (story : Story A) (n : ℕ) (x : StreamEvent A) → event_at story n ≡ Some x → n < length story
  bound [] n x h = absurd (cc)
  bound (e ∷ earlier) n x h =
      ⊎_elim {C = n < suc (length earlier)} (λ (q : n ≡ length earlier). omega arith)
      (λ (q : n ≡ length earlier → ⊥).
      let old : event_at earlier n ≡ Some x = sym (ap (λ b. cond b (Some e) (event_at earlier n)) (ne_test n (length earlier) q)) ∙ h in
      let b : n < length earlier = bound earlier n x old in
      omega arith)
      (cases_eq n (length earlier))

  pub older : (e : StreamEvent A) (earlier : Story A) (n : ℕ) (x : StreamEvent A) → event_at earlier n ≡ Some x → event_at (e ∷ earlier) n ≡ Some x
  older e earlier n x h =
      let b : n < length earlier = bound earlier n x h in
      ap (λ t. cond t (Some e) (event_at earlier n)) (ne_test n (length earlier) (λ (q : n ≡ length earlier). omega arith)) ∙ h

  pub event_cases : (e : StreamEvent A) (earlier : Story A) (n : ℕ) (x : StreamEvent A) → event_at (e ∷ earlier) n ≡ Some x →
      ((n ≡ length earlier) × (e ≡ x)) ⊎ (event_at earlier n ≡ Some x)
  event_cases e earlier n x h =
      ⊎_elim {C = ((n ≡ length earlier) × (e ≡ x)) ⊎ (event_at earlier n ≡ Some x)}
      (λ (q : n ≡ length earlier).
      let s : Some e ≡ Some x = sym (newest e earlier) ∙ sym (ap (event_at (e ∷ earlier)) q) ∙ h in
      let r : e ≡ x = cc in
      inl (q, r))
      (λ (q : n ≡ length earlier → ⊥). inr (sym (ap (λ b. cond b (Some e) (event_at earlier n)) (ne_test n (length earlier) q)) ∙ h))
      (cases_eq n (length earlier))

module _ (A : Type 0) where
  abbrev pub Log : Type 0
  Log = Story (Group A)

  abbrev pub IsMadeAt : Log → ℕ → ℕ → Group A → Type 0
  IsMadeAt story a g group = event_at story a ≡ Some (Made g group)

  abbrev pub IsShownAt : Log → ℕ → ℕ → ℕ → ℕ → List (Placed (Group A)) → Type 0
  IsShownAt story l g start end groups = event_at story l ≡ Some (Showed g start end groups)

  -- before the b-th event a group of this generation ended at this number
  abbrev pub EndedAt : Log → ℕ → ℕ → ℕ → Type 0
  EndedAt story b g n = (a : ℕ) × (old : Group A) × IsMadeAt story a g old × (a < b) × (next_after old ≡ n)

  -- the load that a group's incarnation began with
  pub record Origin (story : Log) (b g : ℕ) (group : Group A) : Type 0 where
    pub load : ℕ
    pub start : ℕ
    pub end : ℕ
    pub groups : List (Placed (Group A))
    pub is : IsShownAt story load g start end groups
    pub earlier : load < b
    pub above : suc (length (line_shown groups)) ≤ group.first
    pub next : (group.first ≡ suc (length (line_shown groups))) ⊎ EndedAt story b g group.first

  pub record Kept (story : Log) : Type 0 where
    -- a generation is loaded once
    pub once : (l m g s e s' e' : ℕ) (xs ys : List (Placed (Group A))) → IsShownAt story l g s e xs → IsShownAt story m g s' e' ys → l ≡ m
    -- of two groups of one generation the first ends where the later begins or below, and was answered before the later was made
    pub pairs : (a b g : ℕ) (old new : Group A) → IsMadeAt story a g old → IsMadeAt story b g new → a < b →
        (next_after old ≤ new.first) × (k : ℕ) × (f : ℕ) × (t : ℕ) × (a < k) × (k < b) × (event_at story k ≡ Some (Answered a f t))
    pub origin : (b g : ℕ) (group : Group A) → IsMadeAt story b g group → Origin story b g group
    -- the next number is above all that the incarnation gave, and none is left out
    pub top : (a g : ℕ) (group : Group A) → IsMadeAt story a g group → next_after group ≤ next_number story g
    pub number : (l g s e : ℕ) (xs : List (Placed (Group A))) → IsShownAt story l g s e xs →
        (suc (length (line_shown xs)) ≤ next_number story g) × ((next_number story g ≡ suc (length (line_shown xs))) ⊎ EndedAt story (length story) g (next_number story g))

  ended_later : (e : StreamEvent (Group A)) (earlier : Log) (b c g n : ℕ) → b ≤ c → EndedAt earlier b g n → EndedAt (e ∷ earlier) c g n
  ended_later e earlier b c g n le h =
      let lt : h.0 < b = h.3 in
      (h.0, h.1, older (Group A) e earlier h.0 (Made g h.1) h.2, omega arith, h.4)

  origin_later : (e : StreamEvent (Group A)) (earlier : Log) (b g : ℕ) (group : Group A) → Origin earlier b g group → Origin (e ∷ earlier) b g group
  origin_later e earlier b g group o = record {
    load = o.load;
    start = o.start;
    end = o.end;
    groups = o.groups;
    is = older (Group A) e earlier o.load (Showed g o.start o.end o.groups) o.is;
    earlier = o.earlier;
    above = o.above;
    next = ⊎_elim {C = (group.first ≡ suc (length (line_shown o.groups))) ⊎ EndedAt (e ∷ earlier) b g group.first}
        (λ q. inl q) (λ h. inr (ended_later e earlier b b g group.first (omega arith) h)) o.next;
  }

  pub made_cases : (g' : ℕ) (new : Group A) (earlier : Log) (a g : ℕ) (group : Group A) → IsMadeAt (Made g' new ∷ earlier) a g group →
      ((a ≡ length earlier) × (g' ≡ g) × (new ≡ group)) ⊎ IsMadeAt earlier a g group
  made_cases g' new earlier a g group h =
      ⊎_elim {C = ((a ≡ length earlier) × (g' ≡ g) × (new ≡ group)) ⊎ IsMadeAt earlier a g group}
      (λ (s : (a ≡ length earlier) × (Made g' new ≡ Made g group)).
      let e : Made g' new ≡ Made g group = s.1 in
      let eg : g' ≡ g = cc in
      let en : new ≡ group = cc in
      inl (s.0, eg, en))
      (λ o. inr o)
      (event_cases (Group A) (Made g' new) earlier a (Made g group) h)

  pub answered_made : (x from to : ℕ) (earlier : Log) (a g : ℕ) (group : Group A) → IsMadeAt (Answered x from to ∷ earlier) a g group → IsMadeAt earlier a g group
  answered_made x from to earlier a g group h =
      ⊎_elim {C = IsMadeAt earlier a g group} (λ (s : (a ≡ length earlier) × (Answered x from to ≡ Made g group)). let e : Answered x from to ≡ Made g group = s.1 in cc) (λ o. o)
      (event_cases (Group A) (Answered x from to) earlier a (Made g group) h)

  pub showed_made : (g' s e : ℕ) (xs : List (Placed (Group A))) (earlier : Log) (a g : ℕ) (group : Group A) → IsMadeAt (Showed g' s e xs ∷ earlier) a g group → IsMadeAt earlier a g group
  showed_made g' s e xs earlier a g group h =
      ⊎_elim {C = IsMadeAt earlier a g group} (λ (s' : (a ≡ length earlier) × (Showed g' s e xs ≡ Made g group)). let q : Showed g' s e xs ≡ Made g group = s'.1 in cc) (λ o. o)
      (event_cases (Group A) (Showed g' s e xs) earlier a (Made g group) h)

  pub made_shown : (g' : ℕ) (new : Group A) (earlier : Log) (l g s e : ℕ) (xs : List (Placed (Group A))) → IsShownAt (Made g' new ∷ earlier) l g s e xs → IsShownAt earlier l g s e xs
  made_shown g' new earlier l g s e xs h =
      ⊎_elim {C = IsShownAt earlier l g s e xs} (λ (s' : (l ≡ length earlier) × (Made g' new ≡ Showed g s e xs)). let q : Made g' new ≡ Showed g s e xs = s'.1 in cc) (λ o. o)
      (event_cases (Group A) (Made g' new) earlier l (Showed g s e xs) h)

  pub answered_shown : (x from to : ℕ) (earlier : Log) (l g s e : ℕ) (xs : List (Placed (Group A))) → IsShownAt (Answered x from to ∷ earlier) l g s e xs → IsShownAt earlier l g s e xs
  answered_shown x from to earlier l g s e xs h =
      ⊎_elim {C = IsShownAt earlier l g s e xs} (λ (s' : (l ≡ length earlier) × (Answered x from to ≡ Showed g s e xs)). let q : Answered x from to ≡ Showed g s e xs = s'.1 in cc) (λ o. o)
      (event_cases (Group A) (Answered x from to) earlier l (Showed g s e xs) h)

  pub next_same : (g : ℕ) (new : Group A) (earlier : Log) → next_number (Made g new ∷ earlier) g ≡ next_after new
  next_same g new earlier = ap (λ b. cond b (next_after new) (next_number earlier g)) (eq_test A g)

  pub next_other : (g g' : ℕ) (new : Group A) (earlier : Log) → (g ≡ g' → ⊥) → next_number (Made g' new ∷ earlier) g ≡ next_number earlier g
  next_other g g' new earlier n = ap (λ b. cond b (next_after new) (next_number earlier g)) (ne_test A g g' n)

  pub next_shown_same : (g s e : ℕ) (xs : List (Placed (Group A))) (earlier : Log) → next_number (Showed g s e xs ∷ earlier) g ≡ suc (length (line_shown xs))
  next_shown_same g s e xs earlier = ap (λ b. cond b (suc (length (line_shown xs))) (next_number earlier g)) (eq_test A g)

  pub next_shown_other : (g g' s e : ℕ) (xs : List (Placed (Group A))) (earlier : Log) → (g ≡ g' → ⊥) → next_number (Showed g' s e xs ∷ earlier) g ≡ next_number earlier g
  next_shown_other g g' s e xs earlier n = ap (λ b. cond b (suc (length (line_shown xs))) (next_number earlier g)) (ne_test A g g' n)

  pair_later : (e : StreamEvent (Group A)) (earlier : Log) (kept : Kept earlier) (a b g : ℕ) (old new : Group A) → IsMadeAt earlier a g old → IsMadeAt earlier b g new → a < b →
      (next_after old ≤ new.first) × (k : ℕ) × (f : ℕ) × (t : ℕ) × (a < k) × (k < b) × (event_at (e ∷ earlier) k ≡ Some (Answered a f t))
  pair_later e earlier kept a b g old new ha hb lt =
      let p : (next_after old ≤ new.first) × (k : ℕ) × (f : ℕ) × (t : ℕ) × (a < k) × (k < b) × (event_at earlier k ≡ Some (Answered a f t)) = kept.pairs a b g old new ha hb lt in
      (p.0, p.1, p.2, p.3, p.4, p.5, older (Group A) e earlier p.1 (Answered a p.2 p.3) p.6)

  kept_made : (g' : ℕ) (new : Group A) (earlier : Log) → Kept earlier → Allowed earlier (Made g' new) → Kept (Made g' new ∷ earlier)
  kept_made g' new earlier kept allowed =
      let first_is : new.first ≡ next_number earlier g' = allowed.2 in
      let Step : Log = Made g' new ∷ earlier in
      record {
        once = λ l m g s e s' e' xs ys hl hm. kept.once l m g s e s' e' xs ys (made_shown g' new earlier l g s e xs hl) (made_shown g' new earlier m g s' e' ys hm);
        pairs = λ a b g old late ha hb lt.
            ⊎_elim {C = (next_after old ≤ late.first) × (k : ℕ) × (f : ℕ) × (t : ℕ) × (a < k) × (k < b) × (event_at (Made g' new ∷ earlier) k ≡ Some (Answered a f t))}
            (λ (nb : (b ≡ length earlier) × (g' ≡ g) × (new ≡ late)).
            ⊎_elim {C = (next_after old ≤ late.first) × (k : ℕ) × (f : ℕ) × (t : ℕ) × (a < k) × (k < b) × (event_at (Made g' new ∷ earlier) k ≡ Some (Answered a f t))}
            (λ (na : (a ≡ length earlier) × (g' ≡ g) × (new ≡ old)). let q : a ≡ length earlier = na.0 in let q' : b ≡ length earlier = nb.0 in absurd (omega arith))
            (λ (oa : IsMadeAt earlier a g old).
            let same : IsMadeAt earlier a g' old = subst (λ z. IsMadeAt earlier a z old) (sym nb.1) oa in
            let low : next_after old ≤ next_number earlier g' = kept.top a g' old same in
            let at_first : next_after old ≤ new.first = omega arith in
            let ans : (k : ℕ) × (f : ℕ) × (t : ℕ) × (a < k) × (event_at earlier k ≡ Some (Answered a f t)) = allowed.1 a old same in
            let kb : ans.0 < length earlier = bound (Group A) earlier ans.0 (Answered a ans.1 ans.2) ans.4 in
            let q' : b ≡ length earlier = nb.0 in
            (subst (λ z. next_after old ≤ z.first) nb.2 at_first, ans.0, ans.1, ans.2, ans.3, omega arith, older (Group A) (Made g' new) earlier ans.0 (Answered a ans.1 ans.2) ans.4))
            (made_cases g' new earlier a g old ha))
            (λ (ob : IsMadeAt earlier b g late).
            ⊎_elim {C = (next_after old ≤ late.first) × (k : ℕ) × (f : ℕ) × (t : ℕ) × (a < k) × (k < b) × (event_at (Made g' new ∷ earlier) k ≡ Some (Answered a f t))}
            (λ (na : (a ≡ length earlier) × (g' ≡ g) × (new ≡ old)).
            let q : a ≡ length earlier = na.0 in
            let w : b < length earlier = bound (Group A) earlier b (Made g late) ob in absurd (omega arith))
            (λ (oa : IsMadeAt earlier a g old). pair_later (Made g' new) earlier kept a b g old late oa ob lt)
            (made_cases g' new earlier a g old ha))
            (made_cases g' new earlier b g late hb);
        origin = λ b g group hb.
            ⊎_elim {C = Origin (Made g' new ∷ earlier) b g group}
            (λ (nb : (b ≡ length earlier) × (g' ≡ g) × (new ≡ group)).
            let load : (l : ℕ) × (start : ℕ) × (end : ℕ) × (groups : List (Placed (Group A))) × IsShownAt earlier l g' start end groups = allowed.0 in
            let n : (suc (length (line_shown load.3)) ≤ next_number earlier g') × ((next_number earlier g' ≡ suc (length (line_shown load.3))) ⊎ EndedAt earlier (length earlier) g' (next_number earlier g')) = kept.number load.0 g' load.1 load.2 load.3 load.4 in
            let n0 : suc (length (line_shown load.3)) ≤ next_number earlier g' = n.0 in
            let o : Origin (Made g' new ∷ earlier) (length earlier) g' new = record {
              load = load.0;
              start = load.1;
              end = load.2;
              groups = load.3;
              is = older (Group A) (Made g' new) earlier load.0 (Showed g' load.1 load.2 load.3) load.4;
              earlier = bound (Group A) earlier load.0 (Showed g' load.1 load.2 load.3) load.4;
              above = omega arith;
              next = ⊎_elim {C = (new.first ≡ suc (length (line_shown load.3))) ⊎ EndedAt (Made g' new ∷ earlier) (length earlier) g' new.first}
                  (λ (q : next_number earlier g' ≡ suc (length (line_shown load.3))). inl (first_is ∙ q))
                  (λ (q : EndedAt earlier (length earlier) g' (next_number earlier g')). inr (subst (EndedAt (Made g' new ∷ earlier) (length earlier) g') (sym first_is) (ended_later (Made g' new) earlier (length earlier) (length earlier) g' (next_number earlier g') (omega arith) q)))
                  n.1;
            } in
            let o1 : Origin (Made g' new ∷ earlier) b g' new = subst (λ z. Origin (Made g' new ∷ earlier) z g' new) (sym nb.0) o in
            let o2 : Origin (Made g' new ∷ earlier) b g new = subst (λ z. Origin (Made g' new ∷ earlier) b z new) nb.1 o1 in
            subst (λ z. Origin (Made g' new ∷ earlier) b g z) nb.2 o2)
            (λ ob. origin_later (Made g' new) earlier b g group (kept.origin b g group ob))
            (made_cases g' new earlier b g group hb);
        top = λ a g group ha.
            ⊎_elim {C = next_after group ≤ next_number (Made g' new ∷ earlier) g}
            (λ (na : (a ≡ length earlier) × (g' ≡ g) × (new ≡ group)).
            let same : next_number (Made g' new ∷ earlier) g' ≡ next_after new = next_same g' new earlier in
            let le : next_after new ≤ next_number (Made g' new ∷ earlier) g' = omega arith in
            subst (λ z. next_after group ≤ next_number (Made g' new ∷ earlier) z) na.1 (subst (λ z. next_after z ≤ next_number (Made g' new ∷ earlier) g') na.2 le))
            (λ (oa : IsMadeAt earlier a g group).
            let low : next_after group ≤ next_number earlier g = kept.top a g group oa in
            ⊎_elim {C = next_after group ≤ next_number (Made g' new ∷ earlier) g}
            (λ (q : g ≡ g').
            let same : next_number (Made g' new ∷ earlier) g' ≡ next_after new = next_same g' new earlier in
            let low' : next_after group ≤ next_number earlier g' = subst (λ z. next_after group ≤ next_number earlier z) q low in
            let le : next_after group ≤ next_number (Made g' new ∷ earlier) g' = omega arith in
            subst (λ z. next_after group ≤ next_number (Made g' new ∷ earlier) z) (sym q) le)
            (λ (q : g ≡ g' → ⊥). let same : next_number (Made g' new ∷ earlier) g ≡ next_number earlier g = next_other g g' new earlier q in omega arith)
            (cases_eq g g'))
            (made_cases g' new earlier a g group ha);
        number = λ l g s e xs hl.
            let old : IsShownAt earlier l g s e xs = made_shown g' new earlier l g s e xs hl in
            let n : (suc (length (line_shown xs)) ≤ next_number earlier g) × ((next_number earlier g ≡ suc (length (line_shown xs))) ⊎ EndedAt earlier (length earlier) g (next_number earlier g)) = kept.number l g s e xs old in
            let n0 : suc (length (line_shown xs)) ≤ next_number earlier g = n.0 in
            ⊎_elim {C = (suc (length (line_shown xs)) ≤ next_number (Made g' new ∷ earlier) g) × ((next_number (Made g' new ∷ earlier) g ≡ suc (length (line_shown xs))) ⊎ EndedAt (Made g' new ∷ earlier) (suc (length earlier)) g (next_number (Made g' new ∷ earlier) g))}
            (λ (q : g ≡ g').
            let same : next_number (Made g' new ∷ earlier) g' ≡ next_after new = next_same g' new earlier in
            let n1 : suc (length (line_shown xs)) ≤ next_number earlier g' = subst (λ z. suc (length (line_shown xs)) ≤ next_number earlier z) q n0 in
            let le : suc (length (line_shown xs)) ≤ next_number (Made g' new ∷ earlier) g' = omega arith in
            let goal : (suc (length (line_shown xs)) ≤ next_number (Made g' new ∷ earlier) g') × ((next_number (Made g' new ∷ earlier) g' ≡ suc (length (line_shown xs))) ⊎ EndedAt (Made g' new ∷ earlier) (suc (length earlier)) g' (next_number (Made g' new ∷ earlier) g')) =
            (le, inr (length earlier, new, newest (Group A) (Made g' new) earlier, omega arith, sym same)) in
            subst (λ z. (suc (length (line_shown xs)) ≤ next_number (Made g' new ∷ earlier) z) × ((next_number (Made g' new ∷ earlier) z ≡ suc (length (line_shown xs))) ⊎ EndedAt (Made g' new ∷ earlier) (suc (length earlier)) z (next_number (Made g' new ∷ earlier) z))) (sym q) goal)
            (λ (q : g ≡ g' → ⊥).
            let same : next_number (Made g' new ∷ earlier) g ≡ next_number earlier g = next_other g g' new earlier q in
            subst (λ z. (suc (length (line_shown xs)) ≤ z) × ((z ≡ suc (length (line_shown xs))) ⊎ EndedAt (Made g' new ∷ earlier) (suc (length earlier)) g z)) (sym same)
            (n0, ⊎_elim {C = (next_number earlier g ≡ suc (length (line_shown xs))) ⊎ EndedAt (Made g' new ∷ earlier) (suc (length earlier)) g (next_number earlier g)} (λ z. inl z) (λ z. inr (ended_later (Made g' new) earlier (length earlier) (suc (length earlier)) g (next_number earlier g) (omega arith) z)) n.1))
            (cases_eq g g');
      }

  kept_answered : (x from to : ℕ) (earlier : Log) → Kept earlier → Kept (Answered x from to ∷ earlier)
  kept_answered x from to earlier kept = record {
    once = λ l m g s e s' e' xs ys hl hm. kept.once l m g s e s' e' xs ys (answered_shown x from to earlier l g s e xs hl) (answered_shown x from to earlier m g s' e' ys hm);
    pairs = λ a b g old new ha hb lt. pair_later (Answered x from to) earlier kept a b g old new (answered_made x from to earlier a g old ha) (answered_made x from to earlier b g new hb) lt;
    origin = λ b g group hb. origin_later (Answered x from to) earlier b g group (kept.origin b g group (answered_made x from to earlier b g group hb));
    top = λ a g group ha. kept.top a g group (answered_made x from to earlier a g group ha);
    number = λ l g s e xs hl.
        let n : (suc (length (line_shown xs)) ≤ next_number earlier g) × ((next_number earlier g ≡ suc (length (line_shown xs))) ⊎ EndedAt earlier (length earlier) g (next_number earlier g)) = kept.number l g s e xs (answered_shown x from to earlier l g s e xs hl) in
        (n.0, ⊎_elim {C = (next_number earlier g ≡ suc (length (line_shown xs))) ⊎ EndedAt (Answered x from to ∷ earlier) (suc (length earlier)) g (next_number earlier g)} (λ z. inl z) (λ z. inr (ended_later (Answered x from to) earlier (length earlier) (suc (length earlier)) g (next_number earlier g) (omega arith) z)) n.1);
  }

  pub shown_cases : (g' s' e' : ℕ) (xs' : List (Placed (Group A))) (earlier : Log) (l g s e : ℕ) (xs : List (Placed (Group A))) → IsShownAt (Showed g' s' e' xs' ∷ earlier) l g s e xs →
      ((l ≡ length earlier) × (g' ≡ g) × (xs' ≡ xs)) ⊎ IsShownAt earlier l g s e xs
  shown_cases g' s' e' xs' earlier l g s e xs h =
      ⊎_elim {C = ((l ≡ length earlier) × (g' ≡ g) × (xs' ≡ xs)) ⊎ IsShownAt earlier l g s e xs}
      (λ (q : (l ≡ length earlier) × (Showed g' s' e' xs' ≡ Showed g s e xs)).
      let r : Showed g' s' e' xs' ≡ Showed g s e xs = q.1 in
      let eg : g' ≡ g = cc in
      let ex : xs' ≡ xs = cc in
      inl (q.0, eg, ex))
      (λ o. inr o)
      (event_cases (Group A) (Showed g' s' e' xs') earlier l (Showed g s e xs) h)

  kept_showed : (g' s' e' : ℕ) (xs' : List (Placed (Group A))) (earlier : Log) → Kept earlier → Allowed earlier (Showed g' s' e' xs') → Kept (Showed g' s' e' xs' ∷ earlier)
  kept_showed g' s' e' xs' earlier kept allowed =
      let none_made : (a : ℕ) (group : Group A) → IsMadeAt earlier a g' group → ⊥ = λ (a : ℕ) (group : Group A) (h : IsMadeAt earlier a g' group).
      let o : Origin earlier a g' group = kept.origin a g' group h in allowed.1 o.load o.start o.end o.groups o.is in
      record {
        once = λ l m g s e s2 e2 xs ys hl hm.
            ⊎_elim {C = l ≡ m}
            (λ (nl : (l ≡ length earlier) × (g' ≡ g) × (xs' ≡ xs)).
            ⊎_elim {C = l ≡ m} (λ (nm : (m ≡ length earlier) × (g' ≡ g) × (xs' ≡ ys)). nl.0 ∙ sym nm.0)
            (λ (om : IsShownAt earlier m g s2 e2 ys). absurd (allowed.1 m s2 e2 ys (subst (λ z. IsShownAt earlier m z s2 e2 ys) (sym nl.1) om)))
            (shown_cases g' s' e' xs' earlier m g s2 e2 ys hm))
            (λ (ol : IsShownAt earlier l g s e xs).
            ⊎_elim {C = l ≡ m} (λ (nm : (m ≡ length earlier) × (g' ≡ g) × (xs' ≡ ys)). absurd (allowed.1 l s e xs (subst (λ z. IsShownAt earlier l z s e xs) (sym nm.1) ol)))
            (λ (om : IsShownAt earlier m g s2 e2 ys). kept.once l m g s e s2 e2 xs ys ol om)
            (shown_cases g' s' e' xs' earlier m g s2 e2 ys hm))
            (shown_cases g' s' e' xs' earlier l g s e xs hl);
        pairs = λ a b g old new ha hb lt. pair_later (Showed g' s' e' xs') earlier kept a b g old new (showed_made g' s' e' xs' earlier a g old ha) (showed_made g' s' e' xs' earlier b g new hb) lt;
        origin = λ b g group hb. origin_later (Showed g' s' e' xs') earlier b g group (kept.origin b g group (showed_made g' s' e' xs' earlier b g group hb));
        top = λ a g group ha.
            let oa : IsMadeAt earlier a g group = showed_made g' s' e' xs' earlier a g group ha in
            ⊎_elim {C = next_after group ≤ next_number (Showed g' s' e' xs' ∷ earlier) g}
            (λ (q : g ≡ g'). absurd (none_made a group (subst (λ z. IsMadeAt earlier a z group) q oa)))
            (λ (q : g ≡ g' → ⊥).
            let same : next_number (Showed g' s' e' xs' ∷ earlier) g ≡ next_number earlier g = next_shown_other g g' s' e' xs' earlier q in
            let low : next_after group ≤ next_number earlier g = kept.top a g group oa in omega arith)
            (cases_eq g g');
        number = λ l g s e xs hl.
            ⊎_elim {C = (suc (length (line_shown xs)) ≤ next_number (Showed g' s' e' xs' ∷ earlier) g) × ((next_number (Showed g' s' e' xs' ∷ earlier) g ≡ suc (length (line_shown xs))) ⊎ EndedAt (Showed g' s' e' xs' ∷ earlier) (suc (length earlier)) g (next_number (Showed g' s' e' xs' ∷ earlier) g))}
            (λ (nl : (l ≡ length earlier) × (g' ≡ g) × (xs' ≡ xs)).
            let same : next_number (Showed g' s' e' xs' ∷ earlier) g' ≡ suc (length (line_shown xs')) = next_shown_same g' s' e' xs' earlier in
            let is : next_number (Showed g' s' e' xs' ∷ earlier) g ≡ suc (length (line_shown xs)) = subst (λ z. next_number (Showed g' s' e' xs' ∷ earlier) z ≡ suc (length (line_shown xs))) nl.1 (same ∙ ap (λ z. suc (length (line_shown z))) nl.2) in
            (omega arith, inl is))
            (λ (ol : IsShownAt earlier l g s e xs).
            let n : (suc (length (line_shown xs)) ≤ next_number earlier g) × ((next_number earlier g ≡ suc (length (line_shown xs))) ⊎ EndedAt earlier (length earlier) g (next_number earlier g)) = kept.number l g s e xs ol in
            ⊎_elim {C = (suc (length (line_shown xs)) ≤ next_number (Showed g' s' e' xs' ∷ earlier) g) × ((next_number (Showed g' s' e' xs' ∷ earlier) g ≡ suc (length (line_shown xs))) ⊎ EndedAt (Showed g' s' e' xs' ∷ earlier) (suc (length earlier)) g (next_number (Showed g' s' e' xs' ∷ earlier) g))}
            (λ (q : g ≡ g'). absurd (allowed.1 l s e xs (subst (λ z. IsShownAt earlier l z s e xs) q ol)))
            (λ (q : g ≡ g' → ⊥).
            let same : next_number (Showed g' s' e' xs' ∷ earlier) g ≡ next_number earlier g = next_shown_other g g' s' e' xs' earlier q in
            subst (λ z. (suc (length (line_shown xs)) ≤ z) × ((z ≡ suc (length (line_shown xs))) ⊎ EndedAt (Showed g' s' e' xs' ∷ earlier) (suc (length earlier)) g z)) (sym same)
            (n.0, ⊎_elim {C = (next_number earlier g ≡ suc (length (line_shown xs))) ⊎ EndedAt (Showed g' s' e' xs' ∷ earlier) (suc (length earlier)) g (next_number earlier g)} (λ z. inl z) (λ z. inr (ended_later (Showed g' s' e' xs') earlier (length earlier) (suc (length earlier)) g (next_number earlier g) (omega arith) z)) n.1))
            (cases_eq g g'))
            (shown_cases g' s' e' xs' earlier l g s e xs hl);
      }

  kept_empty : Kept []
  kept_empty = record {
    once = λ l m g s e s' e' xs ys hl hm. absurd (cc);
    pairs = λ a b g old new ha hb lt. absurd (cc);
    origin = λ b g group hb. absurd (cc);
    top = λ a g group ha. absurd (cc);
    number = λ l g s e xs hl. absurd (cc);
  }

  pub kept_by_servers : (story : Log) → IsServed story → Kept story
  kept_by_servers [] h = kept_empty
  kept_by_servers (Made g group ∷ earlier) h = kept_made g group earlier (kept_by_servers earlier h.1) h.0
  kept_by_servers (Answered a from to ∷ earlier) h = kept_answered a from to earlier (kept_by_servers earlier h.1)
  kept_by_servers (Showed g start end groups ∷ earlier) h = kept_showed g start end groups earlier (kept_by_servers earlier h.1) h.0
