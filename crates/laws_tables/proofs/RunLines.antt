-- What a generation holds over a chain run, with what is out, is the line that it has come to; and each answer is for the group that comes next.
use Rattle.std.proofs.Common.{◌≡◌, ℕ, suc, ◌+◌, ◌==◌, Bool, true, false, List, [], ◌∷◌, ◌++◌, length, map, Some, None, if◌then◌else◌, refl, sym, ap, ◌∙◌, subst, arith, append-nil, length-append}
use Rattle.std.proofs.lemmas.Bool.Decides.{nat_tests}
use Rattle.memtable.specs.declared.cell.Place.{Place}
use Rattle.commitlog.specs.Replay.{Numbered as Group}
use Rattle.model_partition.specs.Lines.{next_after}
use Rattle.model_partition.specs.Past.{Transaction}
use Rattle.model_histories.specs.Log.{line_shown}
use Rattle.model_histories.specs.ServedTables.{items_under, line_to}
use Rattle.model_histories.specs.Story.{StreamEvent, Made, Answered, Showed, Story, event_at, Copy, placed, whole}
use Rattle.laws_tables.specs.Layers.{Layer}
use Rattle.laws_tables.specs.Runs.{Forms, Logged, Notes, Records, Recorded, Trims, Confirms, Run, Beginning, Serving, log_of, meta_of, record_group, first_beginning, held, formed, logged, noting, recording, recorded, confirmed, items_out, IsServing, IsChainRun}
use Rattle.laws_tables.specs.Through.{OutAppend, IsLoaded, line_through}
use Rattle.laws_tables.specs.WholeStories.{next_number, IsServed}
use Rattle.laws_tables.proofs.Holds.{LogStory}
use Rattle.laws_tables.proofs.LinesTo.{AnswersNext}
use Rattle.laws_tables.proofs.Range.{IsMadeAt, newest, older}
use Rattle.laws_tables.proofs.Through.{next_is}
use Rattle.laws_tables.proofs.Whole.{to_made, to_shown}

-- ---- the append that is out

module _ (b : Beginning) (g : ℕ) where
  -- it was begun, under this generation
  abbrev IsOutMade : Story (Group Transaction) → Serving → Type 0
  IsOutMade log s = (o : OutAppend Transaction) → s.out ≡ Some o → event_at log o.append ≡ Some (Made g o.group)

  out_later : (e : StreamEvent (Group Transaction)) (log : Story (Group Transaction)) (s : Serving) → IsOutMade log s → IsOutMade (e ∷ log) s
  out_later e log s made o is = older (Group Transaction) e log o.append (Made g o.group) (made o is)

  out_formed : (log : Story (Group Transaction)) (h : ℕ) (group : Group Transaction) (s : Serving) → IsOutMade log s → (t : Bool) → (g == h) ≡ t →
      IsOutMade (Made h group ∷ log) (if t then formed (length log) group s else s)
  out_formed log h group s made true e o is =
      let same : g ≡ h = grind (arith, nat_tests) in
      let mine : record { append = length log; group = group } ≡ o = cc in
      subst (λ (z : OutAppend Transaction). event_at (Made h group ∷ log) z.append ≡ Some (Made g z.group)) mine
      (newest (Group Transaction) (Made h group) log ∙ ap (λ k. Some (Made k group)) (sym same))
  out_formed log h group s made false e o is = out_later (Made h group) log s made o is

  -- what leaves it, and what leaves none
  out_kept : (log : Story (Group Transaction)) (next s : Serving) → next.out ≡ s.out → IsOutMade log s → (t : Bool) → IsOutMade log (if t then next else s)
  out_kept log next s same made true o is = made o (sym same ∙ is)
  out_kept log next s same made false o is = made o is

  out_gone : (log : Story (Group Transaction)) (next s : Serving) → next.out ≡ None → IsOutMade log s → (t : Bool) → IsOutMade log (if t then next else s)
  out_gone log next s none made true o is = absurd (let z : None ≡ Some o = sym none ∙ is in cc)
  out_gone log next s none made false o is = made o is

  pub out_made : (run : Run) → IsOutMade (log_of run) (held b run g)
  out_made [] = λ o is. absurd cc
  out_made (Forms h group ∷ run) = out_formed (log_of run) h group (held b run g) (out_made run) (g == h) refl
  out_made (Logged h append from to ∷ run) =
      out_gone (Answered append from to ∷ log_of run) (logged to (held b run g)) (held b run g) refl (out_later (Answered append from to) (log_of run) (held b run g) (out_made run)) (g == h)
  out_made (Notes h ∷ run) = out_kept _ _ _ refl (out_made run) (g == h)
  out_made (Records h number item ∷ run) = out_kept _ _ _ refl (out_made run) (g == h)
  out_made (Recorded h append from to ∷ run) = out_kept _ _ _ refl (out_made run) (g == h)
  out_made (Trims h place ∷ run) = out_made run
  out_made (Confirms h start end groups metadata_end records ∷ run) =
      out_gone (Showed h start end groups ∷ log_of run) (confirmed b start end groups records) (held b run g) refl
      (out_later (Showed h start end groups) (log_of run) (held b run g) (out_made run)) (g == h)

-- ---- the line of a generation

module _ (g : ℕ) where
  -- what it has come to, with what is out, is all that it made
  abbrev IsThrough : Story (Group Transaction) → Serving → Type 0
  IsThrough story s = line_to story g ++ items_out s.out ≡ line_through story g

  same_of : (h : ℕ) → (g == h) ≡ true → g ≡ h
  same_of h e = grind (arith, nat_tests)

  through_formed : (story : Story (Group Transaction)) (s : Serving) (h n : ℕ) (group : Group Transaction) → (g ≡ h → s.out ≡ None) → IsThrough story s → (t : Bool) → (g == h) ≡ t →
      line_to story g ++ items_out (if t then formed n group s else s).out ≡ (if t then line_through story g ++ group.items else line_through story g)
  through_formed story s h n group none old true e =
      let all : line_to story g ≡ line_through story g =
      sym (append-nil (line_to story g)) ∙ ap (λ o. line_to story g ++ items_out o) (sym (none (same_of h e))) ∙ old in
      ap (λ l. l ++ group.items) all
  through_formed story s h n group none old false e = old

  through_logged : (story : Story (Group Transaction)) (s : Serving) (h append to : ℕ) (group : Group Transaction) → event_at story append ≡ Some (Made h group) →
      (g ≡ h → s.out ≡ Some (record { append = append; group = group })) → IsThrough story s → (t : Bool) → (g == h) ≡ t →
      (line_to story g ++ items_under g (event_at story append)) ++ items_out (if t then logged to s else s).out ≡ line_through story g
  through_logged story s h append to group made out old true e =
      let items : items_under g (event_at story append) ≡ group.items = ap (items_under g) made ∙ ap (λ (b : Bool). if b then group.items else []) e in
      append-nil (line_to story g ++ items_under g (event_at story append))
      ∙ ap (λ l. line_to story g ++ l) (items ∙ sym (ap items_out (out (same_of h e)))) ∙ old
  through_logged story s h append to group made out old false e =
      let items : items_under g (event_at story append) ≡ [] = ap (items_under g) made ∙ ap (λ (b : Bool). if b then group.items else []) e in
      ap (λ l. (line_to story g ++ l) ++ items_out s.out) items ∙ ap (λ l. l ++ items_out s.out) (append-nil (line_to story g)) ∙ old

  through_same : (story : Story (Group Transaction)) (next s : Serving) → next.out ≡ s.out → IsThrough story s → (t : Bool) → IsThrough story (if t then next else s)
  through_same story next s same old true = ap (λ o. line_to story g ++ items_out o) same ∙ old
  through_same story next s same old false = old

  through_confirmed : (story : Story (Group Transaction)) (next s : Serving) (line : List Transaction) → next.out ≡ None → IsThrough story s → (t : Bool) →
      (if t then line else line_to story g) ++ items_out (if t then next else s).out ≡ (if t then line else line_through story g)
  through_confirmed story next s line none old true = ap (λ o. line ++ items_out o) none ∙ append-nil line
  through_confirmed story next s line none old false = old

  pub through_line : (layer_at : Place → Layer) (copies : ℕ → List (Copy (Group Transaction))) (run : Run) → IsChainRun layer_at first_beginning run →
      IsThrough (whole (Group Transaction) copies (log_of run)) (held first_beginning run g)
  through_line layer_at copies [] chain = refl
  through_line layer_at copies (Forms h group ∷ run) chain =
      through_formed (whole (Group Transaction) copies (log_of run)) (held first_beginning run g) h (length (log_of run)) group
      (λ same. subst (λ k. (held first_beginning run k).out ≡ None) (sym same) chain.0.1) (through_line layer_at copies run chain.1) (g == h) refl
  through_line layer_at copies (Logged h append from to ∷ run) chain =
      let group : Group Transaction = chain.0.1 in
      let out : (held first_beginning run h).out ≡ Some (record { append = append; group = group }) = chain.0.2 in
      through_logged (whole (Group Transaction) copies (log_of run)) (held first_beginning run g) h append to group
      (to_made (Group Transaction) copies (log_of run) append h group (out_made first_beginning h run (record { append = append; group = group }) out))
      (λ same. subst (λ k. (held first_beginning run k).out ≡ Some (record { append = append; group = group })) (sym same) out) (through_line layer_at copies run chain.1) (g == h) refl
  through_line layer_at copies (Notes h ∷ run) chain = through_same (whole (Group Transaction) copies (log_of run)) (noting (held first_beginning run g)) (held first_beginning run g) refl (through_line layer_at copies run chain.1) (g == h)
  through_line layer_at copies (Records h number item ∷ run) chain =
      through_same (whole (Group Transaction) copies (log_of run)) (recording (length (meta_of run)) (record_group number item) (held first_beginning run g)) (held first_beginning run g) refl (through_line layer_at copies run chain.1) (g == h)
  through_line layer_at copies (Recorded h append from to ∷ run) chain = through_same (whole (Group Transaction) copies (log_of run)) (recorded (held first_beginning run g)) (held first_beginning run g) refl (through_line layer_at copies run chain.1) (g == h)
  through_line layer_at copies (Trims h place ∷ run) chain = through_line layer_at copies run chain.1
  through_line layer_at copies (Confirms h start end groups metadata_end records ∷ run) chain =
      through_confirmed (whole (Group Transaction) copies (log_of run)) (confirmed first_beginning start end groups records) (held first_beginning run g)
      (line_shown (map placed (copies (length (log_of run))))) refl (through_line layer_at copies run chain.1) (g == h)

-- ---- answers in turn

module _ (layer_at : Place → Layer) (copies : ℕ → List (Copy (Group Transaction))) where
  abbrev story_of : Run → LogStory
  story_of run = whole (Group Transaction) copies (log_of run)

  module _ (g : ℕ) where
    -- the group that is out is the last of its generation
    abbrev IsOutLast : ℕ → Serving → Type 0
    IsOutLast next s = (o : OutAppend Transaction) → s.out ≡ Some o → next ≡ next_after o.group

    last_formed : (n next : ℕ) (group : Group Transaction) (s : Serving) → IsOutLast next s → (t : Bool) → IsOutLast (if t then next_after group else next) (if t then formed n group s else s)
    last_formed n next group s old true o is =
        let mine : record { append = n; group = group } ≡ o = cc in
        ap (λ (z : OutAppend Transaction). next_after z.group) mine
    last_formed n next group s old false o is = old o is

    last_kept : (next : ℕ) (new s : Serving) → new.out ≡ s.out → IsOutLast next s → (t : Bool) → IsOutLast next (if t then new else s)
    last_kept next new s same old true o is = old o (sym same ∙ is)
    last_kept next new s same old false o is = old o is

    last_gone : (next other : ℕ) (new s : Serving) → new.out ≡ None → IsOutLast next s → (t : Bool) → IsOutLast (if t then other else next) (if t then new else s)
    last_gone next other new s none old true o is = absurd (let z : None ≡ Some o = sym none ∙ is in cc)
    last_gone next other new s none old false o is = old o is

    last_logged : (next : ℕ) (new s : Serving) → new.out ≡ None → IsOutLast next s → (t : Bool) → IsOutLast next (if t then new else s)
    last_logged next new s none old true o is = absurd (let z : None ≡ Some o = sym none ∙ is in cc)
    last_logged next new s none old false o is = old o is

    out_last : (run : Run) → IsOutLast (next_number (story_of run) g) (held first_beginning run g)
    out_last [] = λ o is. absurd cc
    out_last (Forms h group ∷ run) = last_formed (length (log_of run)) (next_number (story_of run) g) group (held first_beginning run g) (out_last run) (g == h)
    out_last (Logged h append from to ∷ run) = last_logged (next_number (story_of run) g) (logged to (held first_beginning run g)) (held first_beginning run g) refl (out_last run) (g == h)
    out_last (Notes h ∷ run) = last_kept (next_number (story_of run) g) (noting (held first_beginning run g)) (held first_beginning run g) refl (out_last run) (g == h)
    out_last (Records h number item ∷ run) =
        last_kept (next_number (story_of run) g) (recording (length (meta_of run)) (record_group number item) (held first_beginning run g)) (held first_beginning run g) refl (out_last run) (g == h)
    out_last (Recorded h append from to ∷ run) = last_kept (next_number (story_of run) g) (recorded (held first_beginning run g)) (held first_beginning run g) refl (out_last run) (g == h)
    out_last (Trims h place ∷ run) = out_last run
    out_last (Confirms h start end groups metadata_end records ∷ run) =
        last_gone (next_number (story_of run) g) (suc (length (line_shown (map placed (copies (length (log_of run))))))) (confirmed first_beginning start end groups records) (held first_beginning run g) refl
        (out_last run) (g == h)

  -- the append that is answered has the number after the line so far
  answered_next : (h append : ℕ) (group : Group Transaction) (run : Run) → IsChainRun layer_at first_beginning run → IsServed (story_of run) → IsServing run h →
      (held first_beginning run h).out ≡ Some (record { append = append; group = group }) → group.first ≡ suc (length (line_to (story_of run) h))
  answered_next h append group run chain served serving out =
      let through : line_to (story_of run) h ++ group.items ≡ line_through (story_of run) h = ap (λ o. line_to (story_of run) h ++ items_out o) (sym out) ∙ through_line h layer_at copies run chain in
      let len : length (line_to (story_of run) h) + length group.items ≡ length (line_through (story_of run) h) = sym (length-append (line_to (story_of run) h) group.items) ∙ ap length through in
      let loaded : IsLoaded (story_of run) h =
      (serving.0, 0, serving.2, map placed (copies serving.0), to_shown (Group Transaction) copies (log_of run) serving.0 h serving.1 serving.2 serving.3 serving.4) in
      let next : next_number (story_of run) h ≡ suc (length (line_through (story_of run) h)) = next_is Transaction (story_of run) h served loaded in
      let last : next_number (story_of run) h ≡ next_after group = out_last h run (record { append = append; group = group }) out in
      let sum : next_after group ≡ group.first + length group.items = refl in
      omega arith

  pub answers_next : (run : Run) → IsChainRun layer_at first_beginning run → IsServed (story_of run) → AnswersNext (story_of run)
  answers_next [] chain served = tt
  answers_next (Forms h group ∷ run) chain served = answers_next run chain.1 served.1
  answers_next (Logged h append from to ∷ run) chain served = (first, answers_next run chain.1 served.1)
    where
      first : (g : ℕ) (group : Group Transaction) → IsMadeAt Transaction (story_of run) append g group → group.first ≡ suc (length (line_to (story_of run) g))
      first g group made =
          let out : (held first_beginning run h).out ≡ Some (record { append = append; group = chain.0.1 }) = chain.0.2 in
          let there : IsMadeAt Transaction (story_of run) append h chain.0.1 =
          to_made (Group Transaction) copies (log_of run) append h chain.0.1 (out_made first_beginning h run (record { append = append; group = chain.0.1 }) out) in
          let same : Some (Made h chain.0.1) ≡ Some (Made g group) = sym there ∙ made in
          let eg : h ≡ g = cc in
          let en : chain.0.1 ≡ group = cc in
          subst (λ z. group.first ≡ suc (length (line_to (story_of run) z))) eg
          (subst (λ (z : Group Transaction). z.first ≡ suc (length (line_to (story_of run) h))) en (answered_next h append chain.0.1 run chain.1 served.1 chain.0.0 out))
  answers_next (Notes h ∷ run) chain served = answers_next run chain.1 served
  answers_next (Records h number item ∷ run) chain served = answers_next run chain.1 served
  answers_next (Recorded h append from to ∷ run) chain served = answers_next run chain.1 served
  answers_next (Trims h place ∷ run) chain served = answers_next run chain.1 served
  answers_next (Confirms h start end groups metadata_end records ∷ run) chain served = answers_next run chain.1 served.1
