-- Over a chain run each group that was formed under a generation is answered, but for the one that is out.
use Rattle.std.proofs.Common.{◌≡◌, ◌⊎◌, ⊎_elim, ℕ, ◌==◌, Bool, true, false, List, [], ◌∷◌, length, Some, None, refl, sym, ap, ◌∙◌, subst, inl, inr, arith, if◌then◌else◌}
use Rattle.std.proofs.lemmas.Bool.Decides.{nat_tests}
use Rattle.memtable.specs.declared.cell.Place.{Place}
use Rattle.commitlog.specs.Replay.{Numbered}
use Rattle.model_histories.specs.Story.{Placed, StreamEvent, Made, Answered, Showed, Story, event_at}
use Rattle.model_partition.specs.Past.{Transaction}
use Rattle.laws_tables.specs.Layers.{Layer}
use Rattle.laws_tables.specs.Runs.{Forms, Logged, Notes, Records, Recorded, Trims, Confirms, Run, Serving, log_of, first_beginning, held, formed, logged, noting, recording, recorded, confirmed, record_group, meta_of, IsServing, IsChainRun}
use Rattle.laws_tables.specs.Through.{OutAppend, IsAnswered, IsLoaded}
use Rattle.laws_tables.proofs.Range.{event_cases, newest, older, bound}

abbrev LogStory : Type 0
LogStory = Story (Numbered Transaction)

-- ---- events more

answered_later : (e : StreamEvent (Numbered Transaction)) (story : LogStory) (a : ℕ) → IsAnswered story a → IsAnswered (e ∷ story) a
answered_later e story a (k, from, to, less, at) = (k, from, to, less, older (Numbered Transaction) e story k (Answered a from to) at)

loaded_later : (e : StreamEvent (Numbered Transaction)) (story : LogStory) (g : ℕ) → IsLoaded story g → IsLoaded (e ∷ story) g
loaded_later e story g (l, start, end, groups, at) = (l, start, end, groups, older (Numbered Transaction) e story l (Showed g start end groups) at)

module _ (g : ℕ) where
  abbrev IsMade : LogStory → ℕ → Numbered Transaction → Type 0
  IsMade story a group = event_at story a ≡ Some (Made g group)

  made_before : (e : StreamEvent (Numbered Transaction)) (story : LogStory) (a : ℕ) (group : Numbered Transaction) → (e ≡ Made g group → ⊥) → IsMade (e ∷ story) a group → IsMade story a group
  made_before e story a group other at = ⊎_elim {C = IsMade story a group} (λ new. absurd (other new.1)) (λ old. old) (event_cases (Numbered Transaction) e story a (Made g group) at)

  module _ (layer_at : Place → Layer) where
    abbrev Chain : Run → Type 0
    Chain run = IsChainRun layer_at first_beginning run

    abbrev state : Run → Serving
    state run = held first_beginning run g

    -- what was formed under it was formed while it was served
    made_served : (run : Run) → Chain run → (a : ℕ) (group : Numbered Transaction) → IsMade (log_of run) a group → IsServing run g
    made_served [] chain a group at = absurd cc
    made_served (Forms i new ∷ run) chain a group at =
        ⊎_elim {C = IsServing (Forms i new ∷ run) g}
        (λ is. (let e : Made i new ≡ Made g group = is.1 in let same : i ≡ g = cc in loaded_later (Made i new) (log_of run) g (subst (IsServing run) same chain.0.0)))
        (λ old. loaded_later (Made i new) (log_of run) g (made_served run chain.1 a group old))
        (event_cases (Numbered Transaction) (Made i new) (log_of run) a (Made g group) at)
    made_served (Logged i append from to ∷ run) chain a group at =
        loaded_later (Answered append from to) (log_of run) g (made_served run chain.1 a group (made_before (Answered append from to) (log_of run) a group (λ e. cc) at))
    made_served (Notes i ∷ run) chain a group at = made_served run chain.1 a group at
    made_served (Records i number item ∷ run) chain a group at = made_served run chain.1 a group at
    made_served (Recorded i append from to ∷ run) chain a group at = made_served run chain.1 a group at
    made_served (Trims i place ∷ run) chain a group at = made_served run chain.1 a group at
    made_served (Confirms i start end groups metadata_end records ∷ run) chain a group at =
        loaded_later (Showed i start end groups) (log_of run) g (made_served run chain.1 a group (made_before (Showed i start end groups) (log_of run) a group (λ e. cc) at))

    -- it is answered, or it is what is out
    abbrev IsDone : LogStory → Serving → ℕ → Numbered Transaction → Type 0
    IsDone story s a group = IsAnswered story a ⊎ (s.out ≡ Some (record { append = a; group = group }))

    AllDone : LogStory → Serving → Type 0
    AllDone story s = (a : ℕ) (group : Numbered Transaction) → IsMade story a group → IsDone story s a group

    append_is : (p q : OutAppend Transaction) → Some p ≡ Some q → p.append ≡ q.append
    append_is p q e =
        let same : p ≡ q = cc in
        ap (λ (o : OutAppend Transaction). o.append) same

    -- what leaves what is out as it was
    done_kept : (story : LogStory) (s next : Serving) → next.out ≡ s.out → AllDone story s → (t : Bool) → AllDone story (if t then next else s)
    unfolding AllDone
    done_kept story s next same all true a group at = ⊎_elim {C = IsDone story next a group} (λ d. inl d) (λ o. inr (same ∙ o)) (all a group at)
    done_kept story s next same all false a group at = all a group at

    done_formed : (story : LogStory) (s : Serving) (i : ℕ) (new : Numbered Transaction) → (g ≡ i → s.out ≡ None) → AllDone story s → (t : Bool) → (g == i) ≡ t → AllDone (Made i new ∷ story) (if t then formed (length story) new s else s)
    unfolding AllDone
    done_formed story s i new none all t is a group at =
        ⊎_elim {C = IsDone (Made i new ∷ story) (if t then formed (length story) new s else s) a group}
        (λ now. (let e : Made i new ≡ Made g group = now.1 in let same : g ≡ i = cc in let mine : new ≡ group = cc in newest_out t is same mine now.0))
        (λ old. still t is (all a group old))
        (event_cases (Numbered Transaction) (Made i new) story a (Made g group) at)
      where
        newest_out : (t : Bool) → (g == i) ≡ t → g ≡ i → new ≡ group → a ≡ length story → IsDone (Made i new ∷ story) (if t then formed (length story) new s else s) a group
        newest_out true is same mine here = inr (ap (λ k. Some (record { append = k; group = new })) (sym here) ∙ ap (λ x. Some (record { append = a; group = x })) mine)
        newest_out false is same mine here = absurd (let t : (g == i) ≡ true = grind (arith, nat_tests) in let z : true ≡ false = sym t ∙ is in cc)

        still : (t : Bool) → (g == i) ≡ t → IsDone story s a group → IsDone (Made i new ∷ story) (if t then formed (length story) new s else s) a group
        still t is (inl d) = inl (answered_later (Made i new) story a d)
        still true is (inr o) = absurd (let same : g ≡ i = grind (arith, nat_tests) in let z : None ≡ Some (record { append = a; group = group }) = sym (none same) ∙ o in cc)
        still false is (inr o) = inr o

    done_logged : (story : LogStory) (s : Serving) (i append from to : ℕ) (out : Numbered Transaction) → (g ≡ i → s.out ≡ Some (record { append = append; group = out })) → AllDone story s → (t : Bool) → (g == i) ≡ t →
        AllDone (Answered append from to ∷ story) (if t then logged to s else s)
    unfolding AllDone
    done_logged story s i append from to out is_out all t is a group at =
        let made : IsMade story a group = made_before (Answered append from to) story a group (λ e. cc) at in
        still t is made (all a group made)
      where
        still : (t : Bool) → (g == i) ≡ t → IsMade story a group → IsDone story s a group → IsDone (Answered append from to ∷ story) (if t then logged to s else s) a group
        still t is made (inl d) = inl (answered_later (Answered append from to) story a d)
        still true is made (inr o) =
            let same : g ≡ i = grind (arith, nat_tests) in
            let mine : append ≡ a = append_is (record { append = append; group = out }) (record { append = a; group = group }) (sym (is_out same) ∙ o) in
            inl (length story, from, to, bound (Numbered Transaction) story a (Made g group) made, newest (Numbered Transaction) (Answered append from to) story ∙ ap (λ k. Some (Answered k from to)) mine)
        still false is made (inr o) = inr o

    done_loaded : (story : LogStory) (s next : Serving) (i start end : ℕ) (groups : List (Placed (Numbered Transaction))) → (g ≡ i → (a : ℕ) (group : Numbered Transaction) → IsMade story a group → ⊥) → AllDone story s → (t : Bool) → (g == i) ≡ t →
        AllDone (Showed i start end groups ∷ story) (if t then next else s)
    unfolding AllDone
    done_loaded story s next i start end groups none all t is a group at =
        let made : IsMade story a group = made_before (Showed i start end groups) story a group (λ e. cc) at in
        still t is made (all a group made)
      where
        still : (t : Bool) → (g == i) ≡ t → IsMade story a group → IsDone story s a group → IsDone (Showed i start end groups ∷ story) (if t then next else s) a group
        still t is made (inl d) = inl (answered_later (Showed i start end groups) story a d)
        still true is made (inr o) = absurd (let same : g ≡ i = grind (arith, nat_tests) in none same a group made)
        still false is made (inr o) = inr o

    all_done : (run : Run) → Chain run → AllDone (log_of run) (state run)
    unfolding AllDone
    all_done [] chain = λ a group at. absurd cc
    all_done (Forms i new ∷ run) chain =
        done_formed (log_of run) (state run) i new (λ same. subst (λ k. (held first_beginning run k).out ≡ None) (sym same) chain.0.1) (all_done run chain.1) (g == i) refl
    all_done (Logged i append from to ∷ run) chain =
        done_logged (log_of run) (state run) i append from to chain.0.1 (λ same. subst (λ k. (held first_beginning run k).out ≡ Some (record { append = append; group = chain.0.1 })) (sym same) chain.0.2) (all_done run chain.1) (g == i) refl
    all_done (Notes i ∷ run) chain = done_kept (log_of run) (state run) (noting (state run)) refl (all_done run chain.1) (g == i)
    all_done (Records i number item ∷ run) chain = done_kept (log_of run) (state run) (recording (length (meta_of run)) (record_group number item) (state run)) refl (all_done run chain.1) (g == i)
    all_done (Recorded i append from to ∷ run) chain = done_kept (log_of run) (state run) (recorded (state run)) refl (all_done run chain.1) (g == i)
    all_done (Trims i place ∷ run) chain = all_done run chain.1
    all_done (Confirms i start end groups metadata_end records ∷ run) chain =
        done_loaded (log_of run) (state run) (confirmed first_beginning start end groups records) i start end groups
        (λ same a group made. chain.0.0 (subst (IsServing run) same (made_served run chain.1 a group made))) (all_done run chain.1) (g == i) refl

    -- ALL OF THEM ARE ANSWERED where none is out
    pub all_answered : (run : Run) → Chain run → (state run).out ≡ None → (a : ℕ) (group : Numbered Transaction) → IsMade (log_of run) a group → IsAnswered (log_of run) a
    unfolding AllDone
    all_answered run chain none a group at =
        ⊎_elim {C = IsAnswered (log_of run) a} (λ d. d) (λ o. absurd (let z : None ≡ Some (record { append = a; group = group }) = sym none ∙ o in cc)) (all_done run chain a group at)
