-- What users see of a log with a fence keeps its order.
use Rattle.std.proofs.Common.{◌≡◌, ℕ, ◌<◌, ◌≤◌, List, [], ◌∷◌, ◌++◌, length, map, cond, Option, Some, None, refl, sym, ap, ◌∙◌, subst, ⊎_elim, arith, append_assoc}
use Rattle.std.specs.Prelude.{Contains}
use Rattle.std.proofs.lemmas.List.{append-nil, append_cancel_left}
use Rattle.model_histories.specs.Story.{Placed, StreamEvent, Made, Answered, Showed, event_at, Copy, placed, from_place, Ascending, KeepsOrder, EndsRise}
use Rattle.laws_tables.specs.Ends.{StandsBehind}
use Rattle.laws_tables.specs.Fenced.{Seen, Landed, Fenced, LogRun, visible, landed, fence, end_of, May, IsLogRun, stood}
use Rattle.laws_tables.proofs.Lines.{split_at}
use Rattle.laws_tables.proofs.Range.{bound, older, event_cases, eq_test, ne_test}
use Rattle.model_histories.specs.StreamMachine.{In}
use Rattle.laws_tables.proofs.Members.{in_contains, contains_in, in_left, in_cases}

module _ (A : Type 0) where
  -- a copy and its append
  pub record Sound (run : LogRun A) (c : Copy A) : Type 0 where
    pub generation : ℕ
    pub made : event_at (visible run) c.append ≡ Some (Made generation c.group)
    pub at_most : generation ≤ fence run
    pub filled : c.from < c.to
    pub within : c.to ≤ end_of run

  pub made_below : (run : LogRun A) → IsLogRun run → (n g : ℕ) (group : A) → event_at (visible run) n ≡ Some (Made g group) → g ≤ fence run
  made_below [] ok n g group h = absurd (cc)
  made_below (Seen e ∷ earlier) ok n g group h =
      ⊎_elim {C = g ≤ fence earlier}
      (λ (q : (n ≡ length (visible earlier)) × (e ≡ Made g group)). let m : May earlier (Seen (Made g group)) = subst (λ z. May earlier (Seen z)) q.1 ok.0 in m)
      (λ o. made_below earlier ok.1 n g group o)
      (event_cases A e (visible earlier) n (Made g group) h)
  made_below (Landed c ∷ earlier) ok n g group h = made_below earlier ok.1 n g group h
  made_below (Fenced g' end ∷ earlier) ok n g group h =
      let b : g ≤ fence earlier = made_below earlier ok.1 n g group h in
      let lt : fence earlier < g' = ok.0.0 in
      omega arith

  pub sound : (run : LogRun A) → IsLogRun run → (c : Copy A) → In c (landed run) → Sound run c
  sound [] ok c i = absurd i
  sound (Seen e ∷ earlier) ok c i =
      let s : Sound earlier c = sound earlier ok.1 c i in
      record { generation = s.generation; made = older A e (visible earlier) c.append (Made s.generation c.group) s.made; at_most = s.at_most; filled = s.filled; within = s.within }
  sound (Landed d ∷ earlier) ok c i =
      ⊎_elim {C = Sound (Landed d ∷ earlier) c}
      (λ (j : In c (landed earlier)).
      let s : Sound earlier c = sound earlier ok.1 c j in
      let w : c.to ≤ end_of earlier = s.within in
      let a : end_of earlier ≤ d.from = ok.0.3 in
      let f : d.from < d.to = ok.0.4 in
      record { generation = s.generation; made = s.made; at_most = s.at_most; filled = s.filled; within = omega arith })
      (λ (j : In c (d ∷ [])).
      ⊎_elim {C = Sound (Landed d ∷ earlier) c}
      (λ (e : c ≡ d).
      let low : ok.0.0 ≤ fence earlier = made_below earlier ok.1 d.append ok.0.0 d.group ok.0.1 in
      let s : Sound (Landed d ∷ earlier) d = record { generation = ok.0.0; made = ok.0.1; at_most = low; filled = ok.0.4; within = omega arith } in
      subst (Sound (Landed d ∷ earlier)) (sym e) s)
      (λ no. absurd no) j)
      (in_cases c (landed earlier) (d ∷ []) i)
  sound (Fenced g end ∷ earlier) ok c i =
      let s : Sound earlier c = sound earlier ok.1 c i in
      let low : s.generation ≤ fence earlier = s.at_most in
      let w : c.to ≤ end_of earlier = s.within in
      let lt : fence earlier < g = ok.0.0 in
      let le : end_of earlier ≤ end = ok.0.1 in
      record { generation = s.generation; made = s.made; at_most = omega arith; filled = s.filled; within = omega arith }

  nothing_here : (front back : List (Copy A)) (c : Copy A) → [] ≡ front ++ c ∷ back → ⊥
  nothing_here [] back c e = cc
  nothing_here (x ∷ front) back c e = cc

  pub in_order : (run : LogRun A) → IsLogRun run → Ascending (landed run)
  in_order [] ok front back c d e i = absurd (nothing_here front back c e)
  in_order (Seen x ∷ earlier) ok front back c d e i = in_order earlier ok.1 front back c d e i
  in_order (Fenced g end ∷ earlier) ok front back c d e i = in_order earlier ok.1 front back c d e i
  in_order (Landed x ∷ earlier) ok front back c d e i =
      ⊎_elim {C = d.to ≤ c.from}
      (λ (s : (more : List (Copy A)) × (landed earlier ≡ front ++ c ∷ more)). in_order earlier ok.1 front s.0 c d s.1 i)
      (λ (s : (between : List (Copy A)) × (front ≡ landed earlier ++ between) × (x ∷ [] ≡ between ++ c ∷ back)).
      last s.0 s.1 s.2)
      (split_at c front back (landed earlier) (x ∷ []) (sym e))
    where
      last : (between : List (Copy A)) → front ≡ landed earlier ++ between → x ∷ [] ≡ between ++ c ∷ back → d.to ≤ c.from
      last [] f q =
          let same : x ≡ c = cc in
          let there : In d (landed earlier) = subst (In d) (f ∙ append-nil (landed earlier)) (in_contains d front i) in
          let w : d.to ≤ end_of earlier = (sound earlier ok.1 d there).within in
          let a : end_of earlier ≤ x.from = ok.0.3 in
          let eq : x.from ≡ c.from = ap (λ z. z.from) same in
          omega arith
      last (b ∷ between) f q = let tail : [] ≡ between ++ c ∷ back = cc in absurd (nothing_here between back c tail)

  -- A front of a run: what landed later.
  pub record Later (run before : LogRun A) : Type 0 where
    pub rest : List (Copy A)
    pub is : landed run ≡ landed before ++ rest
    pub fence_rose : fence before ≤ fence run
    pub each : (c : Copy A) → In c rest → (end_of before ≤ c.from) × (g : ℕ) × (event_at (visible run) c.append ≡ Some (Made g c.group)) × (fence before ≤ g)
    pub longer : end_of before ≤ end_of run
    pub known : (n : ℕ) (x : StreamEvent A) → event_at (visible before) n ≡ Some x → event_at (visible run) n ≡ Some x

  pub later : (after before : LogRun A) → IsLogRun (after ++ before) → Later (after ++ before) before
  later [] before ok = record { rest = []; is = sym (append-nil (landed before)); fence_rose = omega arith; each = λ c i. absurd i; longer = omega arith; known = λ n x h. h }
  later (Seen e ∷ after) before ok =
      let l : Later (after ++ before) before = later after before ok.1 in
      record {
        rest = l.rest;
        is = l.is;
        fence_rose = l.fence_rose;
        each = λ c i. let k : (end_of before ≤ c.from) × (g : ℕ) × (event_at (visible (after ++ before)) c.append ≡ Some (Made g c.group)) × (fence before ≤ g) = l.each c i in
            (k.0, k.1, older A e (visible (after ++ before)) c.append (Made k.1 c.group) k.2, k.3);
        longer = l.longer;
        known = λ n x h. older A e (visible (after ++ before)) n x (l.known n x h);
      }
  later (Landed d ∷ after) before ok =
      let l : Later (after ++ before) before = later after before ok.1 in
      let up : end_of before ≤ end_of (after ++ before) = l.longer in
      let rose : fence before ≤ fence (after ++ before) = l.fence_rose in
      let a : end_of (after ++ before) ≤ d.from = ok.0.3 in
      let f : d.from < d.to = ok.0.4 in
      let g : fence (after ++ before) ≤ ok.0.0 = ok.0.2 in
      record {
        rest = l.rest ++ d ∷ [];
        is = ap (λ z. z ++ d ∷ []) l.is ∙ append_assoc (landed before) l.rest (d ∷ []);
        fence_rose = rose;
        each = λ c i. ⊎_elim {C = (end_of before ≤ c.from) × (g : ℕ) × (event_at (visible (after ++ before)) c.append ≡ Some (Made g c.group)) × (fence before ≤ g)}
            (λ j. l.each c j)
            (λ j. ⊎_elim {C = (end_of before ≤ c.from) × (g : ℕ) × (event_at (visible (after ++ before)) c.append ≡ Some (Made g c.group)) × (fence before ≤ g)}
            (λ (e : c ≡ d).
            let mine : (end_of before ≤ d.from) × (g : ℕ) × (event_at (visible (after ++ before)) d.append ≡ Some (Made g d.group)) × (fence before ≤ g) = (omega arith, ok.0.0, ok.0.1, omega arith) in
            subst (λ z. (end_of before ≤ z.from) × (g : ℕ) × (event_at (visible (after ++ before)) z.append ≡ Some (Made g z.group)) × (fence before ≤ g)) (sym e) mine)
            (λ no. absurd no) j)
            (in_cases c l.rest (d ∷ []) i);
        longer = omega arith;
        known = l.known;
      }
  later (Fenced g end ∷ after) before ok =
      let l : Later (after ++ before) before = later after before ok.1 in
      let up : end_of before ≤ end_of (after ++ before) = l.longer in
      let rose : fence before ≤ fence (after ++ before) = l.fence_rose in
      let lt : fence (after ++ before) < g = ok.0.0 in
      let le : end_of (after ++ before) ≤ end = ok.0.1 in
      record { rest = l.rest; is = l.is; fence_rose = omega arith; each = l.each; longer = omega arith; known = l.known }

  sub_run : (after before : LogRun A) → IsLogRun (after ++ before) → IsLogRun before
  sub_run [] before ok = ok
  sub_run (s ∷ after) before ok = sub_run after before ok.1

  pub stood_is : (after before : LogRun A) (g end : ℕ) → IsLogRun (after ++ Fenced g end ∷ before) → stood (after ++ Fenced g end ∷ before) g ≡ landed before
  stood_is [] before g end ok = ap (λ b. cond b (landed before) (stood before g)) (eq_test A g)
  stood_is (Seen e ∷ after) before g end ok = stood_is after before g end ok.1
  stood_is (Landed c ∷ after) before g end ok = stood_is after before g end ok.1
  stood_is (Fenced g' end' ∷ after) before g end ok =
      let lt : fence (after ++ Fenced g end ∷ before) < g' = ok.0.0 in
      let l : Later (after ++ Fenced g end ∷ before) (Fenced g end ∷ before) = later after (Fenced g end ∷ before) ok.1 in
      let rose : g ≤ fence (after ++ Fenced g end ∷ before) = l.fence_rose in
      ap (λ b. cond b (landed (after ++ Fenced g end ∷ before)) (stood (after ++ Fenced g end ∷ before) g)) (ne_test A g g' (λ (q : g ≡ g'). omega arith))
      ∙ stood_is after before g end ok.1

  pub record EventIn (run : LogRun A) (n : ℕ) (x : StreamEvent A) : Type 0 where
    pub after : LogRun A
    pub before : LogRun A
    pub is : run ≡ after ++ Seen x ∷ before
    pub number : length (visible before) ≡ n

  pub event_in : (run : LogRun A) (n : ℕ) (x : StreamEvent A) → event_at (visible run) n ≡ Some x → EventIn run n x
  event_in [] n x h = absurd (cc)
  event_in (Seen e ∷ earlier) n x h =
      ⊎_elim {C = EventIn (Seen e ∷ earlier) n x}
      (λ (q : (n ≡ length (visible earlier)) × (e ≡ x)). record { after = []; before = earlier; is = ap (λ z. Seen z ∷ earlier) q.1; number = sym q.0 })
      (λ o. let r : EventIn earlier n x = event_in earlier n x o in record { after = Seen e ∷ r.after; before = r.before; is = ap (λ z. Seen e ∷ z) r.is; number = r.number })
      (event_cases A e (visible earlier) n x h)
  event_in (Landed c ∷ earlier) n x h = let r : EventIn earlier n x = event_in earlier n x h in record { after = Landed c ∷ r.after; before = r.before; is = ap (λ z. Landed c ∷ z) r.is; number = r.number }
  event_in (Fenced g end ∷ earlier) n x h = let r : EventIn earlier n x = event_in earlier n x h in record { after = Fenced g end ∷ r.after; before = r.before; is = ap (λ z. Fenced g end ∷ z) r.is; number = r.number }

  abbrev pub copies_of : LogRun A → Option (StreamEvent A) → List (Copy A)
  copies_of run None = []
  copies_of run (Some (Made g group)) = []
  copies_of run (Some (Answered a from to)) = []
  copies_of run (Some (Showed g start end groups)) = stood run g

  -- where a load's copies come from
  pub record LoadIn (run : LogRun A) (l g start end : ℕ) (groups : List (Placed A)) : Type 0 where
    pub after : LogRun A
    pub before : LogRun A
    pub is : run ≡ after ++ Fenced g end ∷ before
    pub copies : copies_of run (event_at (visible run) l) ≡ landed before
    pub groups_are : groups ≡ map placed (from_place start (landed before))
    pub earlier : length (visible before) ≤ l
    pub good : IsLogRun before
    pub low : fence before < g
    pub end_is : end_of before ≤ end

  visible_shorter : (after before : LogRun A) → length (visible before) ≤ length (visible (after ++ before))
  visible_shorter [] before = omega arith
  visible_shorter (Seen e ∷ after) before = let h : length (visible before) ≤ length (visible (after ++ before)) = visible_shorter after before in omega arith
  visible_shorter (Landed c ∷ after) before = visible_shorter after before
  visible_shorter (Fenced g end ∷ after) before = visible_shorter after before

  pub load_in : (run : LogRun A) → IsLogRun run → (l g start end : ℕ) (groups : List (Placed A)) → event_at (visible run) l ≡ Some (Showed g start end groups) → LoadIn run l g start end groups
  load_in run ok l g start end groups h =
      let e : EventIn run l (Showed g start end groups) = event_in run l (Showed g start end groups) h in
      let ok' : IsLogRun (e.after ++ Seen (Showed g start end groups) ∷ e.before) = subst IsLogRun e.is ok in
      let mine : IsLogRun (Seen (Showed g start end groups) ∷ e.before) = sub_run e.after (Seen (Showed g start end groups) ∷ e.before) ok' in
      let m : (before : LogRun A) × (after : LogRun A) × (e.before ≡ after ++ Fenced g end ∷ before) × (groups ≡ map placed (from_place start (landed before))) = mine.0 in
      let whole : run ≡ (e.after ++ Seen (Showed g start end groups) ∷ m.1) ++ Fenced g end ∷ m.0 =
      e.is ∙ ap (λ z. e.after ++ Seen (Showed g start end groups) ∷ z) m.2 ∙ sym (append_assoc e.after (Seen (Showed g start end groups) ∷ m.1) (Fenced g end ∷ m.0)) in
      let ok2 : IsLogRun ((e.after ++ Seen (Showed g start end groups) ∷ m.1) ++ Fenced g end ∷ m.0) = subst IsLogRun whole ok in
      let shorter : length (visible (Fenced g end ∷ m.0)) ≤ length (visible (m.1 ++ Fenced g end ∷ m.0)) = visible_shorter m.1 (Fenced g end ∷ m.0) in
      let same : length (visible e.before) ≡ length (visible (m.1 ++ Fenced g end ∷ m.0)) = ap (λ z. length (visible z)) m.2 in
      let n : length (visible e.before) ≡ l = e.number in
      record {
        after = e.after ++ Seen (Showed g start end groups) ∷ m.1;
        before = m.0;
        is = whole;
        copies = ap (copies_of run) h ∙ ap (λ z. stood z g) whole ∙ stood_is (e.after ++ Seen (Showed g start end groups) ∷ m.1) m.0 g end ok2;
        groups_are = m.3;
        earlier = omega arith;
        good = (sub_run (e.after ++ Seen (Showed g start end groups) ∷ m.1) (Fenced g end ∷ m.0) ok2).1;
        low = (sub_run (e.after ++ Seen (Showed g start end groups) ∷ m.1) (Fenced g end ∷ m.0) ok2).0.0;
        end_is = (sub_run (e.after ++ Seen (Showed g start end groups) ∷ m.1) (Fenced g end ∷ m.0) ok2).0.1;
      }

  -- what holds of each load's copies holds of all
  for_copies : (run : LogRun A) (l : ℕ) (P : List (Copy A) → Type 0) → P [] →
      ((g start end : ℕ) (groups : List (Placed A)) → event_at (visible run) l ≡ Some (Showed g start end groups) → P (copies_of run (event_at (visible run) l))) → P (copies_of run (event_at (visible run) l))
  for_copies run l P none some = go (event_at (visible run) l) refl
    where
      go : (o : Option (StreamEvent A)) → event_at (visible run) l ≡ o → P (copies_of run (event_at (visible run) l))
      go None e = subst (λ z. P (copies_of run z)) (sym e) none
      go (Some (Made g group)) e = subst (λ z. P (copies_of run z)) (sym e) none
      go (Some (Answered a from to)) e = subst (λ z. P (copies_of run z)) (sym e) none
      go (Some (Showed g start end groups)) e = some g start end groups e

  lands : (run : LogRun A) → IsLogRun run → (after before : LogRun A) → run ≡ after ++ before → Later run before
  lands run ok after before e = subst (λ z. Later z before) (sym e) (later after before (subst IsLogRun e ok))

  -- an answered copy stands in the log, and what is made after the answer lands after it
  answer_in : (run : LogRun A) → IsLogRun run → (k a from to : ℕ) → event_at (visible run) k ≡ Some (Answered a from to) →
      (before : LogRun A) × (after : LogRun A) × (run ≡ after ++ before) × (length (visible before) ≡ k) × IsLogRun before × ((group : A) × In (record { from = from; to = to; append = a; group = group }) (landed before))
  answer_in run ok k a from to h =
      let e : EventIn run k (Answered a from to) = event_in run k (Answered a from to) h in
      let ok' : IsLogRun (e.after ++ Seen (Answered a from to) ∷ e.before) = subst IsLogRun e.is ok in
      let mine : IsLogRun (Seen (Answered a from to) ∷ e.before) = sub_run e.after (Seen (Answered a from to) ∷ e.before) ok' in
      let m : (group : A) × Contains (landed e.before) (record { from = from; to = to; append = a; group = group }) = mine.0 in
      let d : Copy A = record { from = from; to = to; append = a; group = m.0 } in
      (e.before, e.after ++ Seen (Answered a from to) ∷ [], e.is ∙ sym (append_assoc e.after (Seen (Answered a from to) ∷ []) e.before), e.number, mine.1, (m.0, in_contains d (landed e.before) m.1))

  -- of two readings the one of the lower generation came first
  lower_first : (a1 b1 a2 b2 : LogRun A) (g h e1 e2 : ℕ) → IsLogRun (a1 ++ Fenced g e1 ∷ b1) → a1 ++ Fenced g e1 ∷ b1 ≡ a2 ++ Fenced h e2 ∷ b2 → g < h → (mid : LogRun A) × (b2 ≡ mid ++ Fenced g e1 ∷ b1)
  lower_first a1 b1 a2 b2 g h e1 e2 ok e lt =
      ⊎_elim {C = (mid : LogRun A) × (b2 ≡ mid ++ Fenced g e1 ∷ b1)}
      (λ (s : (more : LogRun A) × (a1 ≡ a2 ++ Fenced h e2 ∷ more)).
      let whole : a2 ++ (Fenced h e2 ∷ (s.0 ++ Fenced g e1 ∷ b1)) ≡ a2 ++ Fenced h e2 ∷ b2 =
      sym (append_assoc a2 (Fenced h e2 ∷ s.0) (Fenced g e1 ∷ b1)) ∙ sym (ap (λ z. z ++ Fenced g e1 ∷ b1) s.1) ∙ e in
      let c : Fenced h e2 ∷ (s.0 ++ Fenced g e1 ∷ b1) ≡ Fenced h e2 ∷ b2 = append_cancel_left a2 (Fenced h e2 ∷ (s.0 ++ Fenced g e1 ∷ b1)) (Fenced h e2 ∷ b2) whole in
      let t : b2 ≡ s.0 ++ Fenced g e1 ∷ b1 = cc in
      (s.0, t))
      (λ (s : (between : LogRun A) × (a2 ≡ a1 ++ between) × (Fenced g e1 ∷ b1 ≡ between ++ Fenced h e2 ∷ b2)). absurd (no_way s.0 s.2))
      (split_at (Fenced h e2) a2 b2 a1 (Fenced g e1 ∷ b1) (sym e))
    where
      mine : IsLogRun (Fenced g e1 ∷ b1)
      mine = sub_run a1 (Fenced g e1 ∷ b1) ok

      no_way : (between : LogRun A) → Fenced g e1 ∷ b1 ≡ between ++ Fenced h e2 ∷ b2 → ⊥
      no_way [] q = let same : g ≡ h = cc in omega arith
      no_way (x ∷ between) q =
          let t : b1 ≡ between ++ Fenced h e2 ∷ b2 = cc in
          let l : Later b1 (Fenced h e2 ∷ b2) = lands b1 mine.1 between (Fenced h e2 ∷ b2) t in
          let rose : h ≤ fence b1 = l.fence_rose in
          let low : fence b1 < g = mine.0.0 in
          omega arith

  one_made : (run : LogRun A) (n g g' : ℕ) (x y : A) → event_at (visible run) n ≡ Some (Made g x) → event_at (visible run) n ≡ Some (Made g' y) → (g ≡ g') × (x ≡ y)
  one_made run n g g' x y h k =
      let e : Some (Made g x) ≡ Some (Made g' y) = sym h ∙ k in
      let a : g ≡ g' = cc in
      let b : x ≡ y = cc in
      (a, b)

  -- THE THEOREM: what users see of a log with a fence keeps its order
  pub keeps_order : (run : LogRun A) → IsLogRun run → KeepsOrder (visible run)
  keeps_order run ok = record {
    copies = λ l. copies_of run (event_at (visible run) l);
    shown = λ l g start end groups h.
        let i : LoadIn run l g start end groups = load_in run ok l g start end groups h in
        i.groups_are ∙ ap (λ z. map placed (from_place start z)) (sym i.copies);
    ascending = λ l. for_copies run l Ascending (λ front back c d e i. absurd (nothing_here front back c e))
        (λ g start end groups h. let i : LoadIn run l g start end groups = load_in run ok l g start end groups h in subst Ascending (sym i.copies) (in_order i.before i.good));
    not_empty = λ l. for_copies run l (λ z. (c : Copy A) → Contains z c → c.from < c.to) (λ c i. absurd (in_contains c [] i))
        (λ g start end groups h c i.
        let p : LoadIn run l g start end groups = load_in run ok l g start end groups h in
        (sound p.before p.good c (subst (In c) p.copies (in_contains c (copies_of run (event_at (visible run) l)) i))).filled);
    ends = λ l g start end groups c h i.
        let p : LoadIn run l g start end groups = load_in run ok l g start end groups h in
        let w : c.to ≤ end_of p.before = (sound p.before p.good c (subst (In c) p.copies (in_contains c (copies_of run (event_at (visible run) l)) i))).within in
        let e : end_of p.before ≤ end = p.end_is in
        omega arith;
    handed = λ l g start end groups c h i.
        let p : LoadIn run l g start end groups = load_in run ok l g start end groups h in
        let s : Sound p.before c = sound p.before p.good c (subst (In c) p.copies (in_contains c (copies_of run (event_at (visible run) l)) i)) in
        let t : Later run (Fenced g end ∷ p.before) = lands run ok p.after (Fenced g end ∷ p.before) p.is in
        let most : s.generation ≤ fence p.before = s.at_most in
        let low : fence p.before < g = p.low in
        let b : c.append < length (visible p.before) = bound A (visible p.before) c.append (Made s.generation c.group) s.made in
        let n : length (visible p.before) ≤ l = p.earlier in
        (s.generation, t.known c.append (Made s.generation c.group) s.made, omega arith, omega arith);
    answered = λ l g start end a g' k from to groups group h made lower answer.
        let p : LoadIn run l g start end groups = load_in run ok l g start end groups h in
        let q : (before : LogRun A) × (after : LogRun A) × (run ≡ after ++ before) × (length (visible before) ≡ k) × IsLogRun before × ((group : A) × In (record { from = from; to = to; append = a; group = group }) (landed before)) = answer_in run ok k a from to answer in
        let d : Copy A = record { from = from; to = to; append = a; group = (q.5).0 } in
        let s : Sound q.0 d = sound q.0 q.4 d (q.5).1 in
        let tk : Later run q.0 = lands run ok q.1 q.0 q.2 in
        let made' : event_at (visible run) a ≡ Some (Made s.generation (q.5).0) = tk.known a (Made s.generation (q.5).0) s.made in
        let same : (s.generation ≡ g') × ((q.5).0 ≡ group) = one_made run a s.generation g' (q.5).0 group made' made in
        let all : In d (landed run) = subst (In d) (sym tk.is) (in_left d (landed q.0) tk.rest (q.5).1) in
        let tl : Later run (Fenced g end ∷ p.before) = lands run ok p.after (Fenced g end ∷ p.before) p.is in
        let there : In d (landed p.before) = ⊎_elim {C = In d (landed p.before)} (λ i. i)
        (λ i.
        let e : (end ≤ from) × (g2 : ℕ) × (event_at (visible run) a ≡ Some (Made g2 (q.5).0)) × (g ≤ g2) = tl.each d i in
        let eq : (e.1 ≡ g') × ((q.5).0 ≡ group) = one_made run a e.1 g' (q.5).0 group e.2 made in
        let e1 : e.1 ≡ g' = eq.0 in
        let ge : g ≤ e.1 = e.3 in
        absurd (omega arith))
        (in_cases d (landed p.before) tl.rest (subst (In d) tl.is all)) in
        let there' : In d (copies_of run (event_at (visible run) l)) = subst (In d) (sym p.copies) there in
        contains_in (record { from = from; to = to; append = a; group = group }) (copies_of run (event_at (visible run) l))
        (subst (λ z. In (record { from = from; to = to; append = a; group = z }) (copies_of run (event_at (visible run) l))) same.1 there');
    after = λ l a k from to c i answer later_made.
        let q : (before : LogRun A) × (after : LogRun A) × (run ≡ after ++ before) × (length (visible before) ≡ k) × IsLogRun before × ((group : A) × In (record { from = from; to = to; append = a; group = group }) (landed before)) = answer_in run ok k a from to answer in
        let d : Copy A = record { from = from; to = to; append = a; group = (q.5).0 } in
        let tk : Later run q.0 = lands run ok q.1 q.0 q.2 in
        let all : In c (landed run) = for_copies run l (λ z. In c z → In c (landed run)) (λ n. absurd n)
        (λ g start end groups h j.
        let p : LoadIn run l g start end groups = load_in run ok l g start end groups h in
        let tl : Later run (Fenced g end ∷ p.before) = lands run ok p.after (Fenced g end ∷ p.before) p.is in
        subst (In c) (sym tl.is) (in_left c (landed p.before) tl.rest (subst (In c) p.copies j)))
        (in_contains c (copies_of run (event_at (visible run) l)) i) in
        let dw : to ≤ end_of q.0 = (sound q.0 q.4 d (q.5).1).within in
        ⊎_elim {C = to ≤ c.from}
        (λ j.
        let s : Sound q.0 c = sound q.0 q.4 c j in
        let b : c.append < length (visible q.0) = bound A (visible q.0) c.append (Made s.generation c.group) s.made in
        let n : length (visible q.0) ≡ k = q.3 in
        absurd (omega arith))
        (λ j. let e : end_of q.0 ≤ c.from = (tk.each c j).0 in omega arith)
        (in_cases c (landed q.0) tk.rest (subst (In c) tk.is all));
    begins = λ l m g h start end start' end' groups groups' hl hm lt.
        let p : LoadIn run l g start end groups = load_in run ok l g start end groups hl in
        let q : LoadIn run m h start' end' groups' = load_in run ok m h start' end' groups' hm in
        let mid : (mid : LogRun A) × (q.before ≡ mid ++ Fenced g end ∷ p.before) = lower_first p.after p.before q.after q.before g h end end' (subst IsLogRun p.is ok) (sym p.is ∙ q.is) lt in
        let t : Later q.before (Fenced g end ∷ p.before) = lands q.before q.good mid.0 (Fenced g end ∷ p.before) mid.1 in
        let up : Later run (Fenced h end' ∷ q.before) = lands run ok q.after (Fenced h end' ∷ q.before) q.is in (
          t.rest,
          q.copies ∙ t.is ∙ ap (λ z. z ++ t.rest) (sym p.copies),
          λ c i.
              let e : (end ≤ c.from) × (g2 : ℕ) × (event_at (visible q.before) c.append ≡ Some (Made g2 c.group)) × (g ≤ g2) = t.each c (in_contains c t.rest i) in (
                e.0,
                λ g' group made.
                    let one : (e.1 ≡ g') × (c.group ≡ group) = one_made run c.append e.1 g' c.group group (up.known c.append (Made e.1 c.group) e.2) made in
                    let e1 : e.1 ≡ g' = one.0 in
                    let ge : g ≤ e.1 = e.3 in
                    omega arith,
              ),
        );
  }

  -- the copies of a load are those that stood when the log was read under its generation
  pub read_copies : (run : LogRun A) (ok : IsLogRun run) (l g start end : ℕ) (groups : List (Placed A)) → event_at (visible run) l ≡ Some (Showed g start end groups) →
      (more before : LogRun A) (to : ℕ) → run ≡ more ++ Fenced g to ∷ before → (keeps_order run ok).copies l ≡ landed before
  unfolding keeps_order
  read_copies run ok l g start end groups h more before to e = ap (copies_of run) h ∙ ap (λ z. stood z g) e ∙ stood_is more before g to (subst IsLogRun e ok)

  -- an append is made before it is answered
  pub made_first : (run : LogRun A) → IsLogRun run → (k a from to : ℕ) → event_at (visible run) k ≡ Some (Answered a from to) → a < k
  made_first run ok k a from to h =
      let q : (before : LogRun A) × (after : LogRun A) × (run ≡ after ++ before) × (length (visible before) ≡ k) × IsLogRun before × ((group : A) × In (record { from = from; to = to; append = a; group = group }) (landed before)) = answer_in run ok k a from to h in
      let s : Sound q.0 (record { from = from; to = to; append = a; group = (q.5).0 }) = sound q.0 q.4 (record { from = from; to = to; append = a; group = (q.5).0 }) (q.5).1 in
      let b : a < length (visible q.0) = bound A (visible q.0) a (Made s.generation (q.5).0) s.made in
      let n : length (visible q.0) ≡ k = q.3 in
      omega arith

  -- each of its readings ends at or behind those before it
  pub ends_rise : (run : LogRun A) → IsLogRun run → EndsRise (visible run)
  ends_rise run ok l m g h start end start' end' groups groups' hl hm lt =
      let p : LoadIn run l g start end groups = load_in run ok l g start end groups hl in
      let q : LoadIn run m h start' end' groups' = load_in run ok m h start' end' groups' hm in
      let mid : (mid : LogRun A) × (q.before ≡ mid ++ Fenced g end ∷ p.before) = lower_first p.after p.before q.after q.before g h end end' (subst IsLogRun p.is ok) (sym p.is ∙ q.is) lt in
      let t : Later q.before (Fenced g end ∷ p.before) = lands q.before q.good mid.0 (Fenced g end ∷ p.before) mid.1 in
      let up : end ≤ end_of q.before = t.longer in
      let low : end_of q.before ≤ end' = q.end_is in
      omega arith

  -- where all that landed stands behind a place, and each reading ends there
  pub stands_behind : (place : ℕ) (run : LogRun A) (ok : IsLogRun run) → ((c : Copy A) → In c (landed run) → place ≤ c.from) →
      ((l g start end : ℕ) (groups : List (Placed A)) → event_at (visible run) l ≡ Some (Showed g start end groups) → place ≤ end) → StandsBehind place (visible run) (keeps_order run ok)
  unfolding keeps_order
  stands_behind place run ok behind ends = record {
    copies = λ l c i. behind c (for_copies run l (λ z. In c z → In c (landed run)) (λ n. absurd n)
        (λ g start end groups h j.
        let p : LoadIn run l g start end groups = load_in run ok l g start end groups h in
        let t : Later run (Fenced g end ∷ p.before) = lands run ok p.after (Fenced g end ∷ p.before) p.is in
        subst (In c) (sym t.is) (in_left c (landed p.before) t.rest (subst (In c) p.copies j)))
        (in_contains c (copies_of run (event_at (visible run) l)) i));
    ends = ends;
  }
