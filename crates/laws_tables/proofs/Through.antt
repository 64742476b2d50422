-- The line of an incarnation is a front of the line of each later load.
use Rattle.std.proofs.Common.{◌≡◌, ℕ, suc, ◌+◌, ◌<◌, List, [], ◌∷◌, ◌++◌, length, cond, Some, sym, ap, ◌∙◌, subst, ⊎_elim, arith, append_assoc, length-append}
use Rattle.std.specs.Prelude.{Contains}
use Rattle.std.proofs.lemmas.Bool.{cases_eq}
use Rattle.commitlog.specs.Replay.{Numbered as Group}
use Rattle.model_partition.specs.Lines.{next_after, StandsIn}
use Rattle.model_histories.specs.Log.{line_shown}
use Rattle.model_histories.specs.Story.{Placed, StreamEvent, Made, Answered, Showed, Story, event_at, Copy, KeepsOrder}
use Rattle.model_histories.specs.StreamMachine.{In}
use Rattle.laws_tables.specs.Through.{line_through, IsTail, IsLoaded, IsAnswered, HadLine}
use Rattle.laws_tables.specs.WholeStories.{next_number, IsServed}
use Rattle.laws_tables.proofs.Lines.{along, shown_in_line, lines_in_order}
use Rattle.laws_tables.proofs.Members.{in_contains}
use Rattle.laws_tables.proofs.Range.{IsMadeAt, IsShownAt, older, newest, eq_test, ne_test, made_shown, answered_shown, shown_cases, next_same, next_other, next_shown_same, next_shown_other}
use Rattle.laws_tables.proofs.Replay.{numbers, number_member, found, generation_in, group_in, rules, line_is}

module _ (A : Type 0) where
  pub through_made_same : (g : ℕ) (new : Group A) (earlier : Story (Group A)) → line_through (Made g new ∷ earlier) g ≡ line_through earlier g ++ new.items
  through_made_same g new earlier = ap (λ b. cond b (line_through earlier g ++ new.items) (line_through earlier g)) (eq_test A g)

  pub through_made_other : (g g' : ℕ) (new : Group A) (earlier : Story (Group A)) → (g ≡ g' → ⊥) → line_through (Made g' new ∷ earlier) g ≡ line_through earlier g
  through_made_other g g' new earlier n = ap (λ b. cond b (line_through earlier g ++ new.items) (line_through earlier g)) (ne_test A g g' n)

  pub through_shown_same : (g s e : ℕ) (xs : List (Placed (Group A))) (earlier : Story (Group A)) → line_through (Showed g s e xs ∷ earlier) g ≡ line_shown xs
  through_shown_same g s e xs earlier = ap (λ b. cond b (line_shown xs) (line_through earlier g)) (eq_test A g)

  pub through_shown_other : (g g' s e : ℕ) (xs : List (Placed (Group A))) (earlier : Story (Group A)) → (g ≡ g' → ⊥) → line_through (Showed g' s e xs ∷ earlier) g ≡ line_through earlier g
  through_shown_other g g' s e xs earlier n = ap (λ b. cond b (line_shown xs) (line_through earlier g)) (ne_test A g g' n)

  -- the next number is the line's
  pub next_is : (story : Story (Group A)) (g : ℕ) → IsServed story → IsLoaded story g → next_number story g ≡ suc (length (line_through story g))
  next_is [] g served loaded = absurd (let h : event_at [] loaded.0 ≡ Some (Showed g loaded.1 loaded.2 loaded.3) = loaded.4 in cc)
  next_is (Made g' new ∷ earlier) g served loaded =
      let was : IsLoaded earlier g = (loaded.0, loaded.1, loaded.2, loaded.3, made_shown A g' new earlier loaded.0 g loaded.1 loaded.2 loaded.3 loaded.4) in
      let ih : next_number earlier g ≡ suc (length (line_through earlier g)) = next_is earlier g served.1 was in
      ⊎_elim {C = next_number (Made g' new ∷ earlier) g ≡ suc (length (line_through (Made g' new ∷ earlier) g))}
      (λ (q : g ≡ g').
      let first : new.first ≡ next_number earlier g' = served.0.2 in
      let first' : new.first ≡ next_number earlier g = subst (λ z. new.first ≡ next_number earlier z) (sym q) first in
      let n : next_number (Made g' new ∷ earlier) g ≡ next_after new = subst (λ z. next_number (Made z new ∷ earlier) g ≡ next_after new) q (next_same A g new earlier) in
      let t : line_through (Made g' new ∷ earlier) g ≡ line_through earlier g ++ new.items = subst (λ z. line_through (Made z new ∷ earlier) g ≡ line_through earlier g ++ new.items) q (through_made_same g new earlier) in
      let len : length (line_through (Made g' new ∷ earlier) g) ≡ length (line_through earlier g) + length new.items = ap length t ∙ length-append (line_through earlier g) new.items in
      omega arith)
      (λ (q : g ≡ g' → ⊥). next_other A g g' new earlier q ∙ ih ∙ ap (λ z. suc (length z)) (sym (through_made_other g g' new earlier q)))
      (cases_eq g g')
  next_is (Answered a from to ∷ earlier) g served loaded =
      next_is earlier g served.1 (loaded.0, loaded.1, loaded.2, loaded.3, answered_shown A a from to earlier loaded.0 g loaded.1 loaded.2 loaded.3 loaded.4)
  next_is (Showed g' s e xs ∷ earlier) g served loaded =
      ⊎_elim {C = next_number (Showed g' s e xs ∷ earlier) g ≡ suc (length (line_through (Showed g' s e xs ∷ earlier) g))}
      (λ (q : g ≡ g').
      subst (λ z. next_number (Showed g' s e xs ∷ earlier) z ≡ suc (length (line_through (Showed g' s e xs ∷ earlier) z))) (sym q)
      (next_shown_same A g' s e xs earlier ∙ ap (λ z. suc (length z)) (sym (through_shown_same g' s e xs earlier))))
      (λ (q : g ≡ g' → ⊥).
      let was : IsLoaded earlier g = (
        loaded.0,
        loaded.1,
        loaded.2,
        loaded.3,
        ⊎_elim {C = IsShownAt A earlier loaded.0 g loaded.1 loaded.2 loaded.3} (λ (n : (loaded.0 ≡ length earlier) × (g' ≡ g) × (xs ≡ loaded.3)). absurd (q (sym n.1))) (λ o. o)
            (shown_cases A g' s e xs earlier loaded.0 g loaded.1 loaded.2 loaded.3 loaded.4),
      ) in
      next_shown_other A g g' s e xs earlier q ∙ next_is earlier g served.1 was ∙ ap (λ z. suc (length z)) (sym (through_shown_other g g' s e xs earlier q)))
      (cases_eq g g')

  -- what stood in a tail stands in the story
  pub in_tail : (later tail : Story (Group A)) (n : ℕ) (x : StreamEvent (Group A)) → event_at tail n ≡ Some x → event_at (later ++ tail) n ≡ Some x
  in_tail [] tail n x h = h
  in_tail (e ∷ later) tail n x h = older (Group A) e (later ++ tail) n x (in_tail later tail n x h)

  pub tail_event : (tail story : Story (Group A)) → IsTail tail story → (n : ℕ) (x : StreamEvent (Group A)) → event_at tail n ≡ Some x → event_at story n ≡ Some x
  tail_event tail story t n x h = subst (λ z. event_at z n ≡ Some x) (sym t.1) (in_tail t.0 tail n x h)

  pub tail_of_tail : (e : StreamEvent (Group A)) (tail story : Story (Group A)) → IsTail (e ∷ tail) story → IsTail tail story
  tail_of_tail e tail story t = (t.0 ++ e ∷ [], t.1 ∙ sym (append_assoc t.0 (e ∷ []) tail))

  pub tail_later : (e : StreamEvent (Group A)) (tail story : Story (Group A)) → IsTail tail story → IsTail tail (e ∷ story)
  tail_later e tail story t = (e ∷ t.0, ap (λ z. e ∷ z) t.1)

  pub served_tail : (later tail : Story (Group A)) → IsServed (later ++ tail) → IsServed tail
  served_tail [] tail h = h
  served_tail (e ∷ later) tail h = served_tail later tail h.1

  pub answered_later : (e : StreamEvent (Group A)) (story : Story (Group A)) (a : ℕ) → IsAnswered story a → IsAnswered (e ∷ story) a
  answered_later e story a h = (h.0, h.1, h.2, h.3, older (Group A) e story h.0 (Answered a h.1 h.2) h.4)

  pub loaded_later : (e : StreamEvent (Group A)) (story : Story (Group A)) (g : ℕ) → IsLoaded story g → IsLoaded (e ∷ story) g
  loaded_later e story g h = (h.0, h.1, h.2, h.3, older (Group A) e story h.0 (Showed g h.1 h.2 h.3) h.4)

  pub had_line_later : (e : StreamEvent (Group A)) (story : Story (Group A)) (g : ℕ) (line : List A) → HadLine story g line → HadLine (e ∷ story) g line
  had_line_later e story g line s = record {
    point = s.point;
    is_tail = tail_later e s.point story s.is_tail;
    loaded = s.loaded;
    is_line = s.is_line;
    answered = λ a group h. answered_later e story a (s.answered a group h);
  }

  -- a front that ends where an item stands
  pub same_front : (line before more items after : List A) → line ++ more ≡ before ++ (items ++ after) → length line ≡ length before → line ++ (items ++ after) ≡ line ++ more
  same_front [] [] more items after e l = sym e
  same_front [] (b ∷ before) more items after e l = absurd (let h : 0 ≡ suc (length before) = l in omega arith)
  same_front (x ∷ line) [] more items after e l = absurd (let h : suc (length line) ≡ 0 = l in omega arith)
  same_front (x ∷ line) (b ∷ before) more items after e l =
      let e' : line ++ more ≡ before ++ (items ++ after) = cc in
      let l' : suc (length line) ≡ suc (length before) = l in
      let l2 : length line ≡ length before = omega arith in
      ap (λ z. x ∷ z) (same_front line before more items after e' l2)

module _ (A : Type 0) (story : Story (Group A)) (served : IsServed story) (order : KeepsOrder story) where
  abbrev gen : ℕ → ℕ
  gen a = generation_in A (event_at story a)

  abbrev group : ℕ → Group A
  group a = group_in A (event_at story a)

  abbrev IsLoad : ℕ → Type 0
  IsLoad l = (g : ℕ) × (s : ℕ) × (e : ℕ) × (xs : List (Placed (Group A))) × IsShownAt A story l g s e xs

  abbrev IsMade : ℕ → Type 0
  IsMade a = (g : ℕ) × (grp : Group A) × IsMadeAt A story a g grp

  -- two loads: the line of the lower generation begins the other's
  pub lines_begin : (l m g h s e s' e' : ℕ) (xs ys : List (Placed (Group A))) → IsShownAt A story l g s e xs → IsShownAt A story m h s' e' ys → g < h →
      (more : List A) × (line_shown xs ++ more ≡ line_shown ys)
  lines_begin l m g h s e s' e' xs ys hl hm lt =
      let gl : gen l ≡ g = ap (generation_in A) hl in
      let gm : gen m ≡ h = ap (generation_in A) hm in
      let less : gen l < gen m = omega arith in
      let r : (more : List A) × (along A group gen [] (numbers (Group A) (order.copies l)) ++ more ≡ along A group gen [] (numbers (Group A) (order.copies m))) =
      lines_in_order A group gen IsMade (λ a. found A story (gen a)) IsLoad gen (λ m. numbers (Group A) (order.copies m)) (rules A story served order)
      l m (g, s, e, xs, hl) (h, s', e', ys, hm) less in
      (r.0, ap (λ z. z ++ r.0) (sym (line_is A story served order l g s e xs hl)) ∙ r.1 ∙ line_is A story served order m h s' e' ys hm)

  -- an answered group stands in the line of each load of a higher generation
  pub answered_stands : (m h s e a g k from to : ℕ) (ys : List (Placed (Group A))) (grp : Group A) → IsShownAt A story m h s e ys → IsMadeAt A story a g grp → g < h →
      event_at story k ≡ Some (Answered a from to) → StandsIn (line_shown ys) grp
  answered_stands m h s e a g k from to ys grp hm made lt answer =
      let d : Copy (Group A) = record { from = from; to = to; append = a; group = grp } in
      let here : Contains (order.copies m) d = order.answered m h s e a g k from to ys grp hm made lt answer in
      let member : In a (numbers (Group A) (order.copies m)) = number_member (Group A) d (order.copies m) (in_contains d (order.copies m) here) in
      let st : StandsIn (along A group gen [] (numbers (Group A) (order.copies m))) (group a) =
      shown_in_line A group gen IsMade (λ a. found A story (gen a)) IsLoad gen (λ m. numbers (Group A) (order.copies m)) (rules A story served order) m a (h, s, e, ys, hm) member in
      subst (λ z. StandsIn z grp) (line_is A story served order m h s e ys hm) (subst (StandsIn (along A group gen [] (numbers (Group A) (order.copies m)))) (ap (group_in A) made) st)

  -- THE FRONT LEMMA
  front_at : (point : Story (Group A)) → IsTail point story → IsServed point → (g : ℕ) → IsLoaded point g →
      ((a : ℕ) (grp : Group A) → event_at point a ≡ Some (Made g grp) → IsAnswered story a) →
      (m h s e : ℕ) (ys : List (Placed (Group A))) → IsShownAt A story m h s e ys → g < h → (more : List A) × (line_through point g ++ more ≡ line_shown ys)
  front_at [] tail ok g loaded answered m h s e ys hm lt = absurd (let q : event_at [] loaded.0 ≡ Some (Showed g loaded.1 loaded.2 loaded.3) = loaded.4 in cc)
  front_at (Answered x from to ∷ earlier) tail ok g loaded answered m h s e ys hm lt =
      front_at earlier (tail_of_tail A (Answered x from to) earlier story tail) ok.1 g
      (loaded.0, loaded.1, loaded.2, loaded.3, answered_shown A x from to earlier loaded.0 g loaded.1 loaded.2 loaded.3 loaded.4)
      (λ a grp q. answered a grp (older (Group A) (Answered x from to) earlier a (Made g grp) q)) m h s e ys hm lt
  front_at (Showed g' s' e' xs ∷ earlier) tail ok g loaded answered m h s e ys hm lt =
      ⊎_elim {C = (more : List A) × (line_through (Showed g' s' e' xs ∷ earlier) g ++ more ≡ line_shown ys)}
      (λ (q : g ≡ g').
      let at : IsShownAt A story (length earlier) g s' e' xs = tail_event A (Showed g' s' e' xs ∷ earlier) story tail (length earlier) (Showed g s' e' xs)
      (subst (λ z. event_at (Showed g' s' e' xs ∷ earlier) (length earlier) ≡ Some (Showed z s' e' xs)) (sym q) (newest (Group A) (Showed g' s' e' xs) earlier)) in
      let r : (more : List A) × (line_shown xs ++ more ≡ line_shown ys) = lines_begin (length earlier) m g h s' e' s e xs ys at hm lt in
      let t : line_through (Showed g' s' e' xs ∷ earlier) g ≡ line_shown xs = subst (λ z. line_through (Showed z s' e' xs ∷ earlier) g ≡ line_shown xs) q (through_shown_same A g s' e' xs earlier) in
      (r.0, ap (λ z. z ++ r.0) t ∙ r.1))
      (λ (q : g ≡ g' → ⊥).
      let was : IsLoaded earlier g = (
        loaded.0,
        loaded.1,
        loaded.2,
        loaded.3,
        ⊎_elim {C = IsShownAt A earlier loaded.0 g loaded.1 loaded.2 loaded.3} (λ (n : (loaded.0 ≡ length earlier) × (g' ≡ g) × (xs ≡ loaded.3)). absurd (q (sym n.1))) (λ o. o)
            (shown_cases A g' s' e' xs earlier loaded.0 g loaded.1 loaded.2 loaded.3 loaded.4),
      ) in
      let r : (more : List A) × (line_through earlier g ++ more ≡ line_shown ys) =
      front_at earlier (tail_of_tail A (Showed g' s' e' xs) earlier story tail) ok.1 g was
      (λ a grp w. answered a grp (older (Group A) (Showed g' s' e' xs) earlier a (Made g grp) w)) m h s e ys hm lt in
      (r.0, ap (λ z. z ++ r.0) (through_shown_other A g g' s' e' xs earlier q) ∙ r.1))
      (cases_eq g g')
  front_at (Made g' new ∷ earlier) tail ok g loaded answered m h s e ys hm lt =
      let was : IsLoaded earlier g = (loaded.0, loaded.1, loaded.2, loaded.3, made_shown A g' new earlier loaded.0 g loaded.1 loaded.2 loaded.3 loaded.4) in
      let r : (more : List A) × (line_through earlier g ++ more ≡ line_shown ys) =
      front_at earlier (tail_of_tail A (Made g' new) earlier story tail) ok.1 g was
      (λ a grp w. answered a grp (older (Group A) (Made g' new) earlier a (Made g grp) w)) m h s e ys hm lt in
      ⊎_elim {C = (more : List A) × (line_through (Made g' new ∷ earlier) g ++ more ≡ line_shown ys)}
      (λ (q : g ≡ g').
      let here : event_at (Made g' new ∷ earlier) (length earlier) ≡ Some (Made g new) =
      subst (λ z. event_at (Made g' new ∷ earlier) (length earlier) ≡ Some (Made z new)) (sym q) (newest (Group A) (Made g' new) earlier) in
      let ans : IsAnswered story (length earlier) = answered (length earlier) new here in
      let at : IsMadeAt A story (length earlier) g new = tail_event A (Made g' new ∷ earlier) story tail (length earlier) (Made g new) here in
      let st : StandsIn (line_shown ys) new = answered_stands m h s e (length earlier) g ans.0 ans.1 ans.2 ys new hm at lt ans.4 in
      let first : new.first ≡ next_number earlier g' = ok.0.2 in
      let first' : new.first ≡ next_number earlier g = subst (λ z. new.first ≡ next_number earlier z) (sym q) first in
      let n : next_number earlier g ≡ suc (length (line_through earlier g)) = next_is A earlier g ok.1 was in
      let sat : suc (length st.before) ≡ new.first = st.at in
      let len : length (line_through earlier g) ≡ length st.before = omega arith in
      let f : line_through earlier g ++ (new.items ++ st.after) ≡ line_through earlier g ++ r.0 =
      same_front A (line_through earlier g) st.before r.0 new.items st.after (r.1 ∙ st.is) len in
      let t : line_through (Made g' new ∷ earlier) g ≡ line_through earlier g ++ new.items = subst (λ z. line_through (Made z new ∷ earlier) g ≡ line_through earlier g ++ new.items) q (through_made_same A g new earlier) in
      (st.after, ap (λ z. z ++ st.after) t ∙ append_assoc (line_through earlier g) new.items st.after ∙ f ∙ r.1))
      (λ (q : g ≡ g' → ⊥). (r.0, ap (λ z. z ++ r.0) (through_made_other A g g' new earlier q) ∙ r.1))
      (cases_eq g g')

  -- each settled line begins the line of each load of a higher generation
  pub had_line_front : (g : ℕ) (line : List A) → HadLine story g line → (m h s e : ℕ) (ys : List (Placed (Group A))) → IsShownAt A story m h s e ys → g < h →
      (more : List A) × (line ++ more ≡ line_shown ys)
  had_line_front g line st m h s e ys hm lt =
      let ok : IsServed st.point = served_tail A (st.is_tail).0 st.point (subst IsServed (st.is_tail).1 served) in
      let r : (more : List A) × (line_through st.point g ++ more ≡ line_shown ys) = front_at st.point st.is_tail ok g st.loaded st.answered m h s e ys hm lt in
      (r.0, ap (λ z. z ++ r.0) (sym st.is_line) ∙ r.1)
