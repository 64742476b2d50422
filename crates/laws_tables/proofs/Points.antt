-- Positions: where an incarnation has come to in the log, and what each later load shows before and behind it.
use Rattle.std.proofs.Common.{◌≡◌, ℕ, suc, ◌+◌, ◌-◌, ◌<◌, ◌≤◌, List, [], ◌∷◌, ◌++◌, length, map, drop, Some, refl, sym, ap, ◌∙◌, subst, inl, inr, ◌⊎◌, ⊎_elim, arith, append_assoc, length-append}
use Rattle.std.specs.Prelude.{Contains}
use Rattle.std.proofs.lemmas.List.{append-nil}
use Rattle.commitlog.specs.Replay.{Numbered as Group, replayed as replay}
use Rattle.model_partition.specs.Lines.{next_after}
use Rattle.model_histories.specs.Log.{line_shown}
use Rattle.model_histories.specs.Story.{Placed, StreamEvent, Made, Answered, Showed, Story, event_at, Copy, placed, from_place, KeepsOrder, EndsRise}
use Rattle.model_histories.specs.StreamMachine.{In}
use Rattle.laws_tables.specs.Runs.{added}
use Rattle.laws_tables.specs.Through.{HadLine}
use Rattle.laws_tables.specs.WholeStories.{IsServed}
use Rattle.laws_tables.proofs.Cut.{cut, cut_at_end, line_from_position}
use Rattle.laws_tables.proofs.Lines.{along, along_grows}
use Rattle.laws_tables.proofs.Members.{in_contains, contains_in, in_right, in_cases}
use Rattle.laws_tables.proofs.Range.{IsMadeAt, IsShownAt, bound, older, event_cases}
use Rattle.laws_tables.proofs.Replay.{numbers, generation_in, group_in, line_is, along_is_replay}
use Rattle.laws_tables.proofs.Through.{had_line_front}

module _ (A : Type 0) where
  -- what replay adds to a line depends on its length alone
  pub replay_added : (groups : List (Group A)) (line : List A) → replay line groups ≡ line ++ added (suc (length line)) groups
  replay_added [] line = sym (append-nil line)
  replay_added (group ∷ groups) line =
      let d : List A = drop (suc (length line) - group.first) group.items in
      let len : length (line ++ d) ≡ length line + length d = length-append line d in
      let n : suc (length (line ++ d)) ≡ suc (length line) + length d = omega arith in
      replay_added groups (line ++ d) ∙ ap (λ z. (line ++ d) ++ added z groups) n ∙ append_assoc line d (added (suc (length line) + length d) groups)

  pub fronts : (xs a ys b : List A) → xs ++ a ≡ ys ++ b → length xs ≡ length ys → xs ≡ ys
  fronts [] a [] b e l = refl
  fronts [] a (y ∷ ys) b e l = absurd (let h : 0 ≡ suc (length ys) = l in omega arith)
  fronts (x ∷ xs) a [] b e l = absurd (let h : suc (length xs) ≡ 0 = l in omega arith)
  fronts (x ∷ xs) a (y ∷ ys) b e l =
      let h : x ≡ y = cc in
      let t : xs ++ a ≡ ys ++ b = cc in
      let l1 : suc (length xs) ≡ suc (length ys) = l in
      let l2 : length xs ≡ length ys = omega arith in
      let r : xs ≡ ys = fronts xs a ys b t l2 in
      cc (h, r)

  abbrev pub IsAtLoad : Story (Group A) → ℕ → ℕ → List A → ℕ → Type 0
  IsAtLoad story g p line rank = (l : ℕ) × (s : ℕ) × (xs : List (Placed (Group A))) × IsShownAt A story l g s p xs × (line ≡ line_shown xs) × (rank ≡ 0)

  abbrev pub IsAtAnswer : Story (Group A) → ℕ → ℕ → List A → ℕ → Type 0
  IsAtAnswer story g p line rank = (a : ℕ) × (k : ℕ) × (from : ℕ) × (grp : Group A) × IsMadeAt A story a g grp × (event_at story k ≡ Some (Answered a from p))
      × ((f : ℕ) (later : Group A) → IsMadeAt A story f g later → a < f → k < f) × (suc (length line) ≡ next_after grp) × (rank ≡ suc a)

  -- the incarnation stood at this position with this line: the end of its load, or of the last group that it had answered
  abbrev pub IsAt : Story (Group A) → ℕ → ℕ → List A → ℕ → Type 0
  IsAt story g p line rank = IsAtLoad story g p line rank ⊎ IsAtAnswer story g p line rank

  -- a place at or below the position, or below an earlier one of the incarnation
  abbrev pub IsReached : Story (Group A) → ℕ → ℕ → ℕ → ℕ → Type 0
  IsReached story g start p rank = (start ≤ p) ⊎ ((p' : ℕ) × (line : List A) × (rank' : ℕ) × (start ≤ p') × IsAt story g p' line rank' × (rank' < rank))

  pub at_later : (e : StreamEvent (Group A)) (story : Story (Group A)) (g p : ℕ) (line : List A) (rank : ℕ) → IsAt story g p line rank → IsAt (e ∷ story) g p line rank
  at_later e story g p line rank (inl h) = inl (h.0, h.1, h.2, older (Group A) e story h.0 (Showed g h.1 p h.2) h.3, h.4, h.5)
  at_later e story g p line rank (inr h) =
      inr (
        h.0,
        h.1,
        h.2,
        h.3,
        older (Group A) e story h.0 (Made g h.3) h.4,
        older (Group A) e story h.1 (Answered h.0 h.2 p) h.5,
        (λ f later m lt.
            let k : h.1 < length story = bound (Group A) story h.1 (Answered h.0 h.2 p) h.5 in
            ⊎_elim {C = h.1 < f} (λ (q : (f ≡ length story) × (e ≡ Made g later)). let z : f ≡ length story = q.0 in omega arith) (λ o. h.6 f later o lt)
            (event_cases (Group A) e story f (Made g later) m)),
        h.7,
        h.8,
      )

  pub reached_later : (e : StreamEvent (Group A)) (story : Story (Group A)) (g start p rank : ℕ) → IsReached story g start p rank → IsReached (e ∷ story) g start p rank
  reached_later e story g start p rank (inl h) = inl h
  reached_later e story g start p rank (inr h) = inr (h.0, h.1, h.2, h.3, at_later e story g h.0 h.1 h.2 h.4, h.5)

  pub reached_next : (story : Story (Group A)) (g start p rank p' rank' : ℕ) (line : List A) → IsReached story g start p rank → IsAt story g p line rank → rank < rank' → IsReached story g start p' rank'
  reached_next story g start p rank p' rank' line (inl h) at lt = inr (p, line, rank, h, at, lt)
  reached_next story g start p rank p' rank' line (inr h) at lt = let k : h.2 < rank = h.5 in inr (h.0, h.1, h.2, h.3, h.4, omega arith)

  pub rank_low : (story : Story (Group A)) (g p : ℕ) (line : List A) (rank : ℕ) → IsAt story g p line rank → rank ≤ length story
  rank_low story g p line rank (inl h) = let z : rank ≡ 0 = h.5 in omega arith
  rank_low story g p line rank (inr h) = let z : rank ≡ suc h.0 = h.8 in let k : h.0 < length story = bound (Group A) story h.0 (Made g h.3) h.4 in omega arith

module _ (A : Type 0) (story : Story (Group A)) (served : IsServed story) (order : KeepsOrder story) where
  abbrev gen : ℕ → ℕ
  gen a = generation_in A (event_at story a)

  abbrev group : ℕ → Group A
  group a = group_in A (event_at story a)

  -- what a later load shows before the position makes the line
  pub cut_of : (g p : ℕ) (line : List A) (rank : ℕ) → IsAt A story g p line rank → HadLine story g line → (m h s e : ℕ) (ys : List (Placed (Group A))) → IsShownAt A story m h s e ys → g < h →
      (front : List (Copy (Group A))) × (order.copies m ≡ front ++ from_place p (order.copies m)) × (along A group gen [] (numbers (Group A) front) ≡ line)
  cut_of g p line rank (inl at) settled m h s e ys hm lt =
      (order.copies at.0, cut_at_end A story served order at.0 m (g, at.1, p, at.2, at.3) (h, s, e, ys, hm) lt, line_is A story served order at.0 g at.1 p at.2 at.3 ∙ sym at.4)
  cut_of g p line rank (inr at) settled m h s e ys hm lt =
      let c : (front : List (Copy (Group A))) × (order.copies m ≡ front ++ from_place p (order.copies m)) × (suc (length (along A group gen [] (numbers (Group A) front))) ≡ next_after at.3) =
      cut A story served order m at.0 at.1 at.2 p g at.3 (h, s, e, ys, hm) at.4 lt at.5 at.6 in
      let x : List A = along A group gen [] (numbers (Group A) c.0) in
      let all : along A group gen [] (numbers (Group A) (order.copies m)) ≡ along A group gen x (numbers (Group A) (from_place p (order.copies m))) =
      line_from_position A story served order m c.0 p c.1 in
      let grown : (more : List A) × (along A group gen x (numbers (Group A) (from_place p (order.copies m))) ≡ x ++ more) = along_grows A group gen (numbers (Group A) (from_place p (order.copies m))) x in
      let f : (more : List A) × (line ++ more ≡ line_shown ys) = had_line_front A story served order g line settled m h s e ys hm lt in
      let n1 : suc (length x) ≡ next_after at.3 = c.2 in
      let n2 : suc (length line) ≡ next_after at.3 = at.7 in
      let len : length x ≡ length line = omega arith in
      (c.0, c.1, fronts A x grown.0 line f.0 (sym grown.1 ∙ sym all ∙ line_is A story served order m h s e ys hm ∙ sym f.1) len)

  -- THE RELOAD LEMMA: the line of the whole log is the line at the position and what replay adds from there, with the number noted
  pub reload : (g p : ℕ) (line : List A) (rank : ℕ) → IsAt A story g p line rank → HadLine story g line → (m h s e : ℕ) (ys : List (Placed (Group A))) → IsShownAt A story m h s e ys → g < h →
      line_shown ys ≡ line ++ added (suc (length line)) (map (λ q. q.group) (map placed (from_place p (order.copies m))))
  reload g p line rank at settled m h s e ys hm lt =
      let c : (front : List (Copy (Group A))) × (order.copies m ≡ front ++ from_place p (order.copies m)) × (along A group gen [] (numbers (Group A) front) ≡ line) =
      cut_of g p line rank at settled m h s e ys hm lt in
      let back : List (Copy (Group A)) = from_place p (order.copies m) in
      let each : (d : Copy (Group A)) → In d back → group d.append ≡ d.group = λ (d : Copy (Group A)) (i : In d back).
      let in_all : In d (order.copies m) = subst (In d) (sym c.1) (in_right d c.0 back i) in
      let r : (g' : ℕ) × (event_at story d.append ≡ Some (Made g' d.group)) × (g' < h) × (d.append < m) = order.handed m h s e ys d hm (contains_in d (order.copies m) in_all) in
      ap (group_in A) r.1 in
      sym (line_is A story served order m h s e ys hm) ∙ line_from_position A story served order m c.0 p c.1
      ∙ ap (λ z. along A group gen z (numbers (Group A) back)) c.2
      ∙ along_is_replay A group gen back line each
      ∙ replay_added A (map (λ q. q.group) (map placed back)) line

  -- positions of one incarnation rise, as a later load sees them
  pub rise : (g p p' : ℕ) (line line' : List A) (rank rank' : ℕ) → IsAt A story g p line rank → IsAt A story g p' line' rank' → rank < rank' →
      (m h s e : ℕ) (ys : List (Placed (Group A))) → IsShownAt A story m h s e ys → g < h → p ≤ p'
  rise g p p' line line' rank rank' at (inl at') less m h s e ys hm lt = let z : rank' ≡ 0 = at'.5 in absurd (omega arith)
  rise g p p' line line' rank rank' (inl at) (inr at') less m h s e ys hm lt =
      let d : Copy (Group A) = record { from = at'.2; to = p'; append = at'.0; group = at'.3 } in
      let here : Contains (order.copies m) d = order.answered m h s e at'.0 g at'.1 at'.2 p' ys at'.3 hm at'.4 lt at'.5 in
      let filled : at'.2 < p' = order.not_empty m d here in
      let b : (rest : List (Copy (Group A))) × (order.copies m ≡ order.copies at.0 ++ rest)
      × ((c : Copy (Group A)) → Contains rest c → (p ≤ c.from) × ((g' : ℕ) (grp : Group A) → event_at story c.append ≡ Some (Made g' grp) → g ≤ g')) =
      order.begins at.0 m g h at.1 p s e at.2 ys at.3 hm lt in
      ⊎_elim {C = p ≤ p'}
      (λ (i : In d (order.copies at.0)).
      let r : (g' : ℕ) × (event_at story at'.0 ≡ Some (Made g' at'.3)) × (g' < g) × (at'.0 < at.0) = order.handed at.0 g at.1 p at.2 d at.3 (contains_in d (order.copies at.0) i) in
      let two : Some (Made r.0 at'.3) ≡ Some (Made g at'.3) = sym r.1 ∙ at'.4 in
      let same : r.0 ≡ g = cc in
      let low : r.0 < g = r.2 in
      absurd (omega arith))
      (λ (i : In d b.0). let f : p ≤ at'.2 = (b.2 d (contains_in d b.0 i)).0 in omega arith)
      (in_cases d (order.copies at.0) b.0 (subst (In d) b.1 (in_contains d (order.copies m) here)))
  rise g p p' line line' rank rank' (inr at) (inr at') less m h s e ys hm lt =
      let d : Copy (Group A) = record { from = at'.2; to = p'; append = at'.0; group = at'.3 } in
      let here : Contains (order.copies m) d = order.answered m h s e at'.0 g at'.1 at'.2 p' ys at'.3 hm at'.4 lt at'.5 in
      let filled : at'.2 < p' = order.not_empty m d here in
      let r1 : rank ≡ suc at.0 = at.8 in
      let r2 : rank' ≡ suc at'.0 = at'.8 in
      let later : at.1 < at'.0 = at.6 at'.0 at'.3 at'.4 (omega arith) in
      let f : p ≤ at'.2 = order.after m at.0 at.1 at.2 p d here at.5 later in
      omega arith

  pub is_reached : (g start p : ℕ) (line : List A) (rank : ℕ) → IsReached A story g start p rank → IsAt A story g p line rank →
      (m h s e : ℕ) (ys : List (Placed (Group A))) → IsShownAt A story m h s e ys → g < h → start ≤ p
  is_reached g start p line rank (inl r) at m h s e ys hm lt = r
  is_reached g start p line rank (inr r) at m h s e ys hm lt =
      let low : start ≤ r.0 = r.3 in
      let up : r.0 ≤ p = rise g r.0 p r.1 line r.2 rank r.4 at r.5 m h s e ys hm lt in
      omega arith

  -- and none stands behind a later load's end
  pub at_below_end : EndsRise story → (g p : ℕ) (line : List A) (rank : ℕ) → IsAt A story g p line rank → (m h s e : ℕ) (ys : List (Placed (Group A))) → IsShownAt A story m h s e ys → g < h → p ≤ e
  at_below_end ends g p line rank (inl at) m h s e ys hm lt = ends at.0 m g h at.1 p s e at.2 ys at.3 hm lt
  at_below_end ends g p line rank (inr at) m h s e ys hm lt =
      order.ends m h s e ys (record { from = at.2; to = p; append = at.0; group = at.3 }) hm (order.answered m h s e at.0 g at.1 at.2 p ys at.3 hm at.4 lt at.5)
