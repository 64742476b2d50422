-- The ends of loads rise in a story whose groups are called by other names too: so they do where the groups are what bytes spell.
use Rattle.std.proofs.Common.{◌≡◌, ℕ, suc, List, [], ◌∷◌, length, Some, refl, ap, ◌∙◌, ⊎_elim}
use Rattle.model_histories.specs.Renaming.{renamed_event, renamed}
use Rattle.model_histories.specs.Story.{Placed, StreamEvent, Made, Answered, Showed, Story, event_at, EndsRise}
use Rattle.laws_tables.proofs.Range.{event_cases, newest, older}

module _ {A B : Type 0} (f : A → B) where
  renamed_length : (story : Story A) → length ((renamed f) story) ≡ length story
  renamed_length [] = refl
  renamed_length (e ∷ story) = ap suc (renamed_length story)

  -- a load that was renamed was one
  was_load : (x : StreamEvent A) (g s e : ℕ) (ys : List (Placed B)) → (renamed_event f) x ≡ Showed g s e ys → (xs : List (Placed A)) × (x ≡ Showed g s e xs)
  was_load (Made g' group) g s e ys h = absurd (cc)
  was_load (Answered a from to) g s e ys h = absurd (cc)
  was_load (Showed g' s' e' xs) g s e ys h =
      let eg : g' ≡ g = cc in
      let es : s' ≡ s = cc in
      let ee : e' ≡ e = cc in
      (xs, cc (eg, es, ee))

  load_at : (story : Story A) (l g s e : ℕ) (ys : List (Placed B)) → event_at ((renamed f) story) l ≡ Some (Showed g s e ys) → (xs : List (Placed A)) × (event_at story l ≡ Some (Showed g s e xs))
  load_at [] l g s e ys h = absurd (cc)
  load_at (x ∷ story) l g s e ys h =
      ⊎_elim {C = (xs : List (Placed A)) × (event_at (x ∷ story) l ≡ Some (Showed g s e xs))}
      (λ (q : (l ≡ length ((renamed f) story)) × ((renamed_event f) x ≡ Showed g s e ys)).
      let w : (xs : List (Placed A)) × (x ≡ Showed g s e xs) = was_load x g s e ys q.1 in
      (w.0, ap (event_at (x ∷ story)) (q.0 ∙ renamed_length story) ∙ newest A x story ∙ ap (λ z. Some z) w.1))
      (λ o. let r : (xs : List (Placed A)) × (event_at story l ≡ Some (Showed g s e xs)) = load_at story l g s e ys o in (r.0, older A x story l (Showed g s e r.0) r.1))
      (event_cases B ((renamed_event f) x) ((renamed f) story) l (Showed g s e ys) h)

  pub renamed_ends_rise : (story : Story A) → EndsRise story → EndsRise ((renamed f) story)
  renamed_ends_rise story h l m g k s e s' e' xs ys hl hm lt =
      let a : (zs : List (Placed A)) × (event_at story l ≡ Some (Showed g s e zs)) = load_at story l g s e xs hl in
      let b : (zs : List (Placed A)) × (event_at story m ≡ Some (Showed k s' e' zs)) = load_at story m k s' e' ys hm in
      h l m g k s e s' e' a.0 b.0 a.1 b.1 lt
