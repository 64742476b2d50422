-- The story in which each load shows all the copies from the stream's first place on; and the order of the front of a story.
use Rattle.std.proofs.Common.{◌≡◌, ℕ, suc, ◌<◌, ◌≤◌, List, [], ◌∷◌, ◌++◌, length, map, false, cond, Option, Some, None, refl, sym, ap, ◌∙◌, ⊎_elim, arith, ltb}
use Rattle.std.specs.Prelude.{Contains}
use Rattle.std.proofs.lemmas.Bool.{cases_eq}
use Rattle.std.proofs.lemmas.Bool.Decides.{nat_tests}
use Rattle.model_histories.specs.Story.{Placed, StreamEvent, Made, Answered, Showed, Story, event_at, Copy, placed, from_place, KeepsOrder, EndsRise, whole}
use Rattle.laws_tables.proofs.Range.{bound, older, event_cases, ne_test, newest}

module _ (A : Type 0) where
  abbrev pub as_whole : List (Copy A) → Option (StreamEvent A) → Option (StreamEvent A)
  as_whole copies None = None
  as_whole copies (Some (Made g x)) = Some (Made g x)
  as_whole copies (Some (Answered a from to)) = Some (Answered a from to)
  as_whole copies (Some (Showed g start end groups)) = Some (Showed g 0 end (map placed copies))

  pub whole_length : (copies : ℕ → List (Copy A)) (story : Story A) → length (whole A copies story) ≡ length story
  whole_length copies [] = refl
  whole_length copies (Made g x ∷ earlier) = ap suc (whole_length copies earlier)
  whole_length copies (Answered a from to ∷ earlier) = ap suc (whole_length copies earlier)
  whole_length copies (Showed g start end groups ∷ earlier) = ap suc (whole_length copies earlier)

  step_at : (copies : ℕ → List (Copy A)) (e e' : StreamEvent A) (earlier : Story A) (n : ℕ) →
      Some e' ≡ as_whole (copies (length earlier)) (Some e) → (event_at (whole A copies earlier) n ≡ as_whole (copies n) (event_at earlier n)) →
      event_at (e' ∷ whole A copies earlier) n ≡ as_whole (copies n) (event_at (e ∷ earlier) n)
  step_at copies e e' earlier n same ih =
      let len : length (whole A copies earlier) ≡ length earlier = whole_length copies earlier in
      ⊎_elim {C = event_at (e' ∷ whole A copies earlier) n ≡ as_whole (copies n) (event_at (e ∷ earlier) n)}
      (λ (q : n ≡ length earlier).
      let left : event_at (e' ∷ whole A copies earlier) n ≡ Some e' = ap (event_at (e' ∷ whole A copies earlier)) (q ∙ sym len) ∙ newest A e' (whole A copies earlier) in
      let right : event_at (e ∷ earlier) n ≡ Some e = ap (event_at (e ∷ earlier)) q ∙ newest A e earlier in
      left ∙ same ∙ ap (λ z. as_whole (copies z) (Some e)) (sym q) ∙ ap (as_whole (copies n)) (sym right))
      (λ (q : n ≡ length earlier → ⊥).
      let left : event_at (e' ∷ whole A copies earlier) n ≡ event_at (whole A copies earlier) n =
      ap (λ b. cond b (Some e') (event_at (whole A copies earlier) n)) (ne_test A n (length (whole A copies earlier)) (λ (w : n ≡ length (whole A copies earlier)). q (w ∙ len))) in
      let right : event_at (e ∷ earlier) n ≡ event_at earlier n = ap (λ b. cond b (Some e) (event_at earlier n)) (ne_test A n (length earlier) q) in
      left ∙ ih ∙ ap (as_whole (copies n)) (sym right))
      (cases_eq n (length earlier))

  pub whole_at : (copies : ℕ → List (Copy A)) (story : Story A) (n : ℕ) → event_at (whole A copies story) n ≡ as_whole (copies n) (event_at story n)
  whole_at copies [] n = refl
  whole_at copies (Made g x ∷ earlier) n = step_at copies (Made g x) (Made g x) earlier n refl (whole_at copies earlier n)
  whole_at copies (Answered a from to ∷ earlier) n = step_at copies (Answered a from to) (Answered a from to) earlier n refl (whole_at copies earlier n)
  whole_at copies (Showed g start end groups ∷ earlier) n =
      step_at copies (Showed g start end groups) (Showed g 0 end (map placed (copies (length earlier)))) earlier n refl (whole_at copies earlier n)

  un_made : (copies : List (Copy A)) (o : Option (StreamEvent A)) (g : ℕ) (x : A) → as_whole copies o ≡ Some (Made g x) → o ≡ Some (Made g x)
  un_made copies None g x h = absurd (cc)
  un_made copies (Some (Made g' x')) g x h = h
  un_made copies (Some (Answered a f t)) g x h = absurd (cc)
  un_made copies (Some (Showed g' s e xs)) g x h = absurd (cc)

  un_answered : (copies : List (Copy A)) (o : Option (StreamEvent A)) (a f t : ℕ) → as_whole copies o ≡ Some (Answered a f t) → o ≡ Some (Answered a f t)
  un_answered copies None a f t h = absurd (cc)
  un_answered copies (Some (Made g' x')) a f t h = absurd (cc)
  un_answered copies (Some (Answered a' f' t')) a f t h = h
  un_answered copies (Some (Showed g' s e xs)) a f t h = absurd (cc)

  un_shown : (copies : List (Copy A)) (o : Option (StreamEvent A)) (g s e : ℕ) (xs : List (Placed A)) → as_whole copies o ≡ Some (Showed g s e xs) →
      (s' : ℕ) × (xs' : List (Placed A)) × (o ≡ Some (Showed g s' e xs')) × (s ≡ 0) × (xs ≡ map placed copies)
  un_shown copies None g s e xs h = absurd (cc)
  un_shown copies (Some (Made g' x')) g s e xs h = absurd (cc)
  un_shown copies (Some (Answered a' f' t')) g s e xs h = absurd (cc)
  un_shown copies (Some (Showed g' s' e' xs')) g s e xs h =
      let eg : g' ≡ g = cc in
      let ee : e' ≡ e = cc in
      let es : 0 ≡ s = cc in
      let ex : map placed copies ≡ xs = cc in
      let r : Some (Showed g' s' e' xs') ≡ Some (Showed g s' e xs') = cc (eg, ee) in
      (s', xs', r, sym es, sym ex)

  pub back_made : (copies : ℕ → List (Copy A)) (story : Story A) (n g : ℕ) (x : A) → event_at (whole A copies story) n ≡ Some (Made g x) → event_at story n ≡ Some (Made g x)
  back_made copies story n g x h = un_made (copies n) (event_at story n) g x (sym (whole_at copies story n) ∙ h)

  pub back_answered : (copies : ℕ → List (Copy A)) (story : Story A) (n a f t : ℕ) → event_at (whole A copies story) n ≡ Some (Answered a f t) → event_at story n ≡ Some (Answered a f t)
  back_answered copies story n a f t h = un_answered (copies n) (event_at story n) a f t (sym (whole_at copies story n) ∙ h)

  pub back_shown : (copies : ℕ → List (Copy A)) (story : Story A) (n g s e : ℕ) (xs : List (Placed A)) → event_at (whole A copies story) n ≡ Some (Showed g s e xs) →
      (s' : ℕ) × (xs' : List (Placed A)) × (event_at story n ≡ Some (Showed g s' e xs')) × (s ≡ 0) × (xs ≡ map placed (copies n))
  back_shown copies story n g s e xs h = un_shown (copies n) (event_at story n) g s e xs (sym (whole_at copies story n) ∙ h)

  pub to_made : (copies : ℕ → List (Copy A)) (story : Story A) (n g : ℕ) (x : A) → event_at story n ≡ Some (Made g x) → event_at (whole A copies story) n ≡ Some (Made g x)
  to_made copies story n g x h = whole_at copies story n ∙ ap (as_whole (copies n)) h

  pub to_answered : (copies : ℕ → List (Copy A)) (story : Story A) (n a f t : ℕ) → event_at story n ≡ Some (Answered a f t) → event_at (whole A copies story) n ≡ Some (Answered a f t)
  to_answered copies story n a f t h = whole_at copies story n ∙ ap (as_whole (copies n)) h

  pub to_shown : (copies : ℕ → List (Copy A)) (story : Story A) (n g s e : ℕ) (xs : List (Placed A)) → event_at story n ≡ Some (Showed g s e xs) →
      event_at (whole A copies story) n ≡ Some (Showed g 0 e (map placed (copies n)))
  to_shown copies story n g s e xs h = whole_at copies story n ∙ ap (as_whole (copies n)) h

  -- the first place is 0
  pub from_first : (copies : List (Copy A)) → from_place 0 copies ≡ copies
  from_first [] = refl
  from_first (c ∷ copies) =
      let t : ltb c.from 0 ≡ false = grind (arith, nat_tests) in
      ap (λ b. cond b (from_place 0 copies) (c ∷ copies)) t

  -- it keeps its order
  unfoldable pub whole_order : (story : Story A) (order : KeepsOrder story) → KeepsOrder (whole A order.copies story)
  whole_order story order =
      let cs : ℕ → List (Copy A) = order.copies in
      record {
        copies = order.copies;
        shown = λ l g start end groups h.
            let b : (s' : ℕ) × (xs' : List (Placed A)) × (event_at story l ≡ Some (Showed g s' end xs')) × (start ≡ 0) × (groups ≡ map placed (order.copies l)) = back_shown order.copies story l g start end groups h in
            b.4 ∙ ap (map placed) (sym (from_first (order.copies l))) ∙ ap (λ z. map placed (from_place z (order.copies l))) (sym b.3);
        ascending = order.ascending;
        not_empty = order.not_empty;
        ends = λ l g start end groups c h i.
            let b : (s' : ℕ) × (xs' : List (Placed A)) × (event_at story l ≡ Some (Showed g s' end xs')) × (start ≡ 0) × (groups ≡ map placed (order.copies l)) = back_shown order.copies story l g start end groups h in
            order.ends l g b.0 end b.1 c b.2 i;
        handed = λ l g start end groups c h i.
            let b : (s' : ℕ) × (xs' : List (Placed A)) × (event_at story l ≡ Some (Showed g s' end xs')) × (start ≡ 0) × (groups ≡ map placed (order.copies l)) = back_shown order.copies story l g start end groups h in
            let r : (g' : ℕ) × (event_at story c.append ≡ Some (Made g' c.group)) × (g' < g) × (c.append < l) = order.handed l g b.0 end b.1 c b.2 i in
            (r.0, to_made order.copies story c.append r.0 c.group r.1, r.2, r.3);
        answered = λ l g start end a g' k from to groups group h ha lt hk.
            let b : (s' : ℕ) × (xs' : List (Placed A)) × (event_at story l ≡ Some (Showed g s' end xs')) × (start ≡ 0) × (groups ≡ map placed (order.copies l)) = back_shown order.copies story l g start end groups h in
            order.answered l g b.0 end a g' k from to b.1 group b.2 (back_made order.copies story a g' group ha) lt (back_answered order.copies story k a from to hk);
        after = λ l a k from to c i hk lt. order.after l a k from to c i (back_answered order.copies story k a from to hk) lt;
        begins = λ l m g h start end start' end' groups groups' hl hm lt.
            let b : (s' : ℕ) × (xs' : List (Placed A)) × (event_at story l ≡ Some (Showed g s' end xs')) × (start ≡ 0) × (groups ≡ map placed (order.copies l)) = back_shown order.copies story l g start end groups hl in
            let d : (s' : ℕ) × (xs' : List (Placed A)) × (event_at story m ≡ Some (Showed h s' end' xs')) × (start' ≡ 0) × (groups' ≡ map placed (order.copies m)) = back_shown order.copies story m h start' end' groups' hm in
            let r : (rest : List (Copy A)) × (order.copies m ≡ order.copies l ++ rest)
            × ((c : Copy A) → Contains rest c → (end ≤ c.from) × ((g' : ℕ) (group : A) → event_at story c.append ≡ Some (Made g' group) → g ≤ g')) =
            order.begins l m g h b.0 end d.0 end' b.1 d.1 b.2 d.2 lt in
            (r.0, r.1, λ c i. ((r.2 c i).0, λ g' group made. (r.2 c i).1 g' group (back_made order.copies story c.append g' group made)));
      }

  -- the front of a story keeps its order, with the same copies
  unfoldable pub order_before : (e : StreamEvent A) (earlier : Story A) (order : KeepsOrder (e ∷ earlier)) → KeepsOrder earlier
  order_before e earlier order = record {
    copies = order.copies;
    shown = λ l g start end groups h. order.shown l g start end groups (older A e earlier l (Showed g start end groups) h);
    ascending = order.ascending;
    not_empty = order.not_empty;
    ends = λ l g start end groups c h i. order.ends l g start end groups c (older A e earlier l (Showed g start end groups) h) i;
    handed = λ l g start end groups c h i.
        let r : (g' : ℕ) × (event_at (e ∷ earlier) c.append ≡ Some (Made g' c.group)) × (g' < g) × (c.append < l) =
        order.handed l g start end groups c (older A e earlier l (Showed g start end groups) h) i in
        let low : l < length earlier = bound A earlier l (Showed g start end groups) h in
        let lt : c.append < l = r.3 in (
          r.0,
          ⊎_elim {C = event_at earlier c.append ≡ Some (Made r.0 c.group)} (λ (q : (c.append ≡ length earlier) × (e ≡ Made r.0 c.group)). let z : c.append ≡ length earlier = q.0 in absurd (omega arith)) (λ o. o)
              (event_cases A e earlier c.append (Made r.0 c.group) r.1),
          r.2,
          r.3,
        );
    answered = λ l g start end a g' k from to groups group h ha lt hk.
        order.answered l g start end a g' k from to groups group (older A e earlier l (Showed g start end groups) h) (older A e earlier a (Made g' group) ha) lt (older A e earlier k (Answered a from to) hk);
    after = λ l a k from to c i hk lt. order.after l a k from to c i (older A e earlier k (Answered a from to) hk) lt;
    begins = λ l m g h start end start' end' groups groups' hl hm lt.
        let r : (rest : List (Copy A)) × (order.copies m ≡ order.copies l ++ rest)
        × ((c : Copy A) → Contains rest c → (end ≤ c.from) × ((g' : ℕ) (group : A) → event_at (e ∷ earlier) c.append ≡ Some (Made g' group) → g ≤ g')) =
        order.begins l m g h start end start' end' groups groups' (older A e earlier l (Showed g start end groups) hl) (older A e earlier m (Showed h start' end' groups') hm) lt in
        (r.0, r.1, λ c i. ((r.2 c i).0, λ g' group made. (r.2 c i).1 g' group (older A e earlier c.append (Made g' group) made)));
  }

  pub ends_before : (e : StreamEvent A) (story : Story A) → EndsRise (e ∷ story) → EndsRise story
  ends_before e story h l m g k s e' s' e'' xs ys hl hm lt =
      h l m g k s e' s' e'' xs ys (older A e story l (Showed g s e' xs) hl) (older A e story m (Showed k s' e'' ys) hm) lt

  pub ends_whole : (copies : ℕ → List (Copy A)) (story : Story A) → EndsRise story → EndsRise (whole A copies story)
  ends_whole copies story h l m g k s e s' e' xs ys hl hm lt =
      let b : (z : ℕ) × (zs : List (Placed A)) × (event_at story l ≡ Some (Showed g z e zs)) × (s ≡ 0) × (xs ≡ map placed (copies l)) = back_shown copies story l g s e xs hl in
      let d : (z : ℕ) × (zs : List (Placed A)) × (event_at story m ≡ Some (Showed k z e' zs)) × (s' ≡ 0) × (ys ≡ map placed (copies m)) = back_shown copies story m k s' e' ys hm in
      h l m g k b.0 e d.0 e' b.1 d.1 b.2 d.2 lt
