-- The line of one incarnation, and the append that it has out, event by event.
use Rattle.std.proofs.Common.{◌≡◌, ℕ, suc, ◌+◌, ◌<◌, ◌≤◌, List, [], ◌∷◌, ◌++◌, length, Option, Some, None, refl, sym, ap, ◌∙◌, subst, inl, inr, ◌⊎◌, ⊎_elim, arith, append_assoc, length-append}
use Rattle.commitlog.specs.Replay.{Numbered as Group}
use Rattle.model_histories.specs.Log.{line_shown}
use Rattle.model_histories.specs.Story.{Placed, StreamEvent, Made, Answered, Showed, Story, event_at}
use Rattle.laws_tables.specs.Through.{line_through, IsTail, IsLoaded, IsAnswered, HadLine, HasAllAnswered, HasOneOut, OutAppend, HasLine}
use Rattle.laws_tables.specs.WholeStories.{Allowed, IsServed}
use Rattle.laws_tables.proofs.Range.{IsMadeAt, Kept, bound, event_cases, newest, made_cases, answered_made, showed_made, Origin}
use Rattle.laws_tables.proofs.Through.{through_made_same, through_made_other, through_shown_same, through_shown_other, next_is, tail_event, tail_later, answered_later, loaded_later}

module _ (A : Type 0) where
  -- an event of another incarnation, or an answer
  abbrev pub IsOfOthers : ℕ → StreamEvent (Group A) → Type 0
  IsOfOthers g (Made g' group) = g ≡ g' → ⊥
  IsOfOthers g (Answered a from to) = Unit {0}
  IsOfOthers g (Showed g' start end groups) = g ≡ g' → ⊥

  line_of_others : (e : StreamEvent (Group A)) (story : Story (Group A)) (g : ℕ) → IsOfOthers g e → line_through (e ∷ story) g ≡ line_through story g
  line_of_others (Made g' group) story g f = through_made_other A g g' group story f
  line_of_others (Answered a from to) story g f = refl
  line_of_others (Showed g' start end groups) story g f = through_shown_other A g g' start end groups story f

  made_of_others : (e : StreamEvent (Group A)) (story : Story (Group A)) (g a : ℕ) (group : Group A) → IsOfOthers g e → IsMadeAt A (e ∷ story) a g group → IsMadeAt A story a g group
  made_of_others (Made g' new) story g a group f h =
      ⊎_elim {C = IsMadeAt A story a g group} (λ (q : (a ≡ length story) × (g' ≡ g) × (new ≡ group)). absurd (f (sym q.1))) (λ o. o) (made_cases A g' new story a g group h)
  made_of_others (Answered x from to) story g a group f h = answered_made A x from to story a g group h
  made_of_others (Showed g' start end groups) story g a group f h = showed_made A g' start end groups story a g group h

  pub all_answered_later : (e : StreamEvent (Group A)) (story : Story (Group A)) (g : ℕ) (line : List A) → IsOfOthers g e → HasAllAnswered story g line → HasAllAnswered (e ∷ story) g line
  all_answered_later e story g line f c = record {
    loaded = loaded_later A e story g c.loaded;
    is_line = line_of_others e story g f ∙ c.is_line;
    answered = λ a group h. answered_later A e story a (c.answered a group (made_of_others e story g a group f h));
  }

  pub one_out_later : (e : StreamEvent (Group A)) (story : Story (Group A)) (g : ℕ) (line : List A) (a : ℕ) (group : Group A) → IsOfOthers g e → HasOneOut story g line a group → HasOneOut (e ∷ story) g line a group
  one_out_later e story g line a group f b = record {
    point = b.point;
    is_tail = tail_later A e (Made g group ∷ b.point) story b.is_tail;
    is_append = b.is_append;
    before = b.before;
    is_line = line_of_others e story g f ∙ b.is_line;
    last = λ c other h. b.last c other (made_of_others e story g c other f h);
  }

  pub has_line_later : (e : StreamEvent (Group A)) (story : Story (Group A)) (g : ℕ) (line : List A) (out : Option (OutAppend A)) → IsOfOthers g e → HasLine story g line out → HasLine (e ∷ story) g line out
  has_line_later e story g line None f b = all_answered_later e story g line f b
  has_line_later e story g line (Some out) f b = one_out_later e story g line out.append out.group f b

  pub one_out_made : (story : Story (Group A)) (g : ℕ) (line : List A) (new : Group A) → HasAllAnswered story g line → HasOneOut (Made g new ∷ story) g line (length story) new
  one_out_made story g line new c = record {
    point = story;
    is_tail = ([], refl);
    is_append = refl;
    before = c;
    is_line = through_made_same A g new story ∙ ap (λ z. z ++ new.items) c.is_line;
    last = λ b other h. let k : b < suc (length story) = bound (Group A) (Made g new ∷ story) b (Made g other) h in omega arith;
  }

  pub one_out_is_made : (story : Story (Group A)) (g : ℕ) (line : List A) (a : ℕ) (group : Group A) → HasOneOut story g line a group → IsMadeAt A story a g group
  one_out_is_made story g line a group b =
      tail_event A (Made g group ∷ b.point) story b.is_tail a (Made g group)
      (subst (λ z. event_at (Made g group ∷ b.point) z ≡ Some (Made g group)) b.is_append (newest (Group A) (Made g group) b.point))

  in_later : (later tail : Story (Group A)) (b : ℕ) (x : StreamEvent (Group A)) → event_at (later ++ tail) b ≡ Some x → b < length tail → event_at tail b ≡ Some x
  in_later [] tail b x h lt = h
  in_later (e ∷ later) tail b x h lt =
      let len : length (later ++ tail) ≡ length later + length tail = length-append later tail in
      ⊎_elim {C = event_at tail b ≡ Some x}
      (λ (q : (b ≡ length (later ++ tail)) × (e ≡ x)). let z : b ≡ length (later ++ tail) = q.0 in absurd (omega arith))
      (λ o. in_later later tail b x o lt)
      (event_cases (Group A) e (later ++ tail) b x h)

  -- each group that the incarnation made before the one that is out
  made_before : (story : Story (Group A)) (g : ℕ) (line : List A) (a : ℕ) (group : Group A) (busy : HasOneOut story g line a group) (b : ℕ) (other : Group A) →
      IsMadeAt A story b g other → ((b ≡ a) × (group ≡ other)) ⊎ IsMadeAt A (busy.point) b g other
  made_before story g line a group busy b other h =
      let low : b ≤ a = busy.last b other h in
      let len : length busy.point ≡ a = busy.is_append in
      let h' : event_at ((busy.is_tail).0 ++ (Made g group ∷ busy.point)) b ≡ Some (Made g other) = subst (λ z. event_at z b ≡ Some (Made g other)) (busy.is_tail).1 h in
      let lt : b < suc (length busy.point) = omega arith in
      let t : event_at (Made g group ∷ busy.point) b ≡ Some (Made g other) = in_later (busy.is_tail).0 (Made g group ∷ busy.point) b (Made g other) h' lt in
      ⊎_elim {C = ((b ≡ a) × (group ≡ other)) ⊎ IsMadeAt A (busy.point) b g other}
      (λ (q : (b ≡ length busy.point) × (g ≡ g) × (group ≡ other)). inl (q.0 ∙ len, q.2))
      (λ o. inr o)
      (made_cases A g group busy.point b g other t)

  pub all_answered_then : (story : Story (Group A)) (g : ℕ) (line : List A) (a from to : ℕ) (group : Group A) → HasOneOut story g line a group → HasAllAnswered (Answered a from to ∷ story) g (line ++ group.items)
  all_answered_then story g line a from to group busy = record {
    loaded =
        let l : IsLoaded busy.point g = (busy.before).loaded in
        let t : IsTail busy.point story = ((busy.is_tail).0 ++ Made g group ∷ [], (busy.is_tail).1 ∙ sym (append_assoc (busy.is_tail).0 (Made g group ∷ []) busy.point)) in
        loaded_later A (Answered a from to) story g (l.0, l.1, l.2, l.3, tail_event A busy.point story t l.0 (Showed g l.1 l.2 l.3) l.4);
    is_line = busy.is_line;
    answered = λ b other h.
        let old : IsMadeAt A story b g other = answered_made A a from to story b g other h in
        ⊎_elim {C = IsAnswered (Answered a from to ∷ story) b}
        (λ (q : (b ≡ a) × (group ≡ other)).
        let lt : b < length story = bound (Group A) story b (Made g other) old in
        subst (λ z. IsAnswered (Answered a from to ∷ story) z) (sym q.0) (length story, from, to, (let e : b ≡ a = q.0 in omega arith), newest (Group A) (Answered a from to) story))
        (λ (o : IsMadeAt A (busy.point) b g other).
        let an : IsAnswered busy.point b = (busy.before).answered b other o in
        let t : IsTail busy.point story = ((busy.is_tail).0 ++ Made g group ∷ [], (busy.is_tail).1 ∙ sym (append_assoc (busy.is_tail).0 (Made g group ∷ []) busy.point)) in
        answered_later A (Answered a from to) story b (an.0, an.1, an.2, an.3, tail_event A busy.point story t an.0 (Answered b an.1 an.2) an.4))
        (made_before story g line a group busy b other old);
  }

  pub all_answered_loaded : (story : Story (Group A)) (g start end : ℕ) (groups : List (Placed (Group A))) → Kept A story → (IsLoaded story g → ⊥) → HasAllAnswered (Showed g start end groups ∷ story) g (line_shown groups)
  all_answered_loaded story g start end groups kept none = record {
    loaded = (length story, start, end, groups, newest (Group A) (Showed g start end groups) story);
    is_line = through_shown_same A g start end groups story;
    answered = λ a group h.
        let old : IsMadeAt A story a g group = showed_made A g start end groups story a g group h in
        let o : Origin A story a g group = kept.origin a g group old in
        absurd (none (o.load, o.start, o.end, o.groups, o.is));
  }

  pub had_line_answered : (story : Story (Group A)) (g : ℕ) (line : List A) → HasAllAnswered story g line → HadLine story g line
  had_line_answered story g line c = record { point = story; is_tail = ([], refl); loaded = c.loaded; is_line = c.is_line; answered = c.answered }

  pub had_line_out : (story : Story (Group A)) (g : ℕ) (line : List A) (a : ℕ) (group : Group A) → HasOneOut story g line a group → HadLine story g line
  had_line_out story g line a group busy =
      let t : IsTail busy.point story = ((busy.is_tail).0 ++ Made g group ∷ [], (busy.is_tail).1 ∙ sym (append_assoc (busy.is_tail).0 (Made g group ∷ []) busy.point)) in
      record {
        point = busy.point;
        is_tail = t;
        loaded = (busy.before).loaded;
        is_line = (busy.before).is_line;
        answered = λ b other h.
            let an : IsAnswered busy.point b = (busy.before).answered b other h in
            (an.0, an.1, an.2, an.3, tail_event A busy.point story t an.0 (Answered b an.1 an.2) an.4);
      }

  pub had_line_of : (story : Story (Group A)) (g : ℕ) (line : List A) (out : Option (OutAppend A)) → HasLine story g line out → HadLine story g line
  had_line_of story g line None b = had_line_answered story g line b
  had_line_of story g line (Some out) b = had_line_out story g line out.append out.group b

  -- what may be made next, by the story's own rules
  pub allowed_made : (story : Story (Group A)) (g : ℕ) (line : List A) (new : Group A) → IsServed story → HasAllAnswered story g line → new.first ≡ suc (length line) → Allowed story (Made g new)
  allowed_made story g line new served c first =
      (c.loaded, λ a old h. c.answered a old h, first ∙ ap (λ z. suc (length z)) (sym c.is_line) ∙ sym (next_is A story g served c.loaded))
