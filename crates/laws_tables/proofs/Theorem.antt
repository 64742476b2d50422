-- Every story of range 1's log that servers make and that keeps its order: its observations replay. It is a family of one range.
use Rattle.std.proofs.Common.{◌≡◌, ℕ, suc, List, [], ◌∷◌, ◌++◌, length, Bool, true, false, cond, Option, Some, None, refl, sym, ap, ◌∙◌, subst, inl, inr, ◌⊎◌, eqb}
use Rattle.std.proofs.lemmas.Bool.{cases_eq}
use Rattle.std.proofs.lemmas.List.{append-nil}
use Rattle.wire.specs.declared.note.Note.{Note}
use Rattle.wire.specs.declared.note.Note.TheVariants.{Began, Done, Loaded}
use Rattle.wire.specs.declared.rows.Row.{Row}
use Rattle.commitlog.specs.Replay.{Numbered as Group}
use Rattle.model_histories.specs.Log.{line_shown, begins_of, dones_of, dones_at, only}
use Rattle.model_partition.specs.Past.{Transaction, empty_table, after_line, stored, kept, keys_of, first_range, Replays}
use Rattle.model_histories.specs.Story.{StreamEvent, Made, Answered, Showed, event_at, KeepsOrder}
use Rattle.laws_tables.specs.Families.{HasNoBirth}
use Rattle.laws_tables.specs.WholeStories.{IsServed, notes, observed, ShowsTables}
use Rattle.laws_tables.proofs.Births.{none_append, unborn_keys}
use Rattle.laws_tables.proofs.Fenced.{keeps_order}
use Rattle.laws_tables.proofs.Holds.{LogStory}
use Rattle.laws_tables.proofs.Layers.{kept_all}
use Rattle.laws_tables.proofs.Observed.{only-append}
use Rattle.laws_tables.proofs.Range.{IsShownAt, eq_test, ne_test}
use Rattle.laws_tables.proofs.StoryFamilies.{IsFirstStory, HasStoryParent, StoryFamily, family_replays}

-- ---- what is observed of one range is of that range, and makes none

no_birth_in_begins : (r q g s : ℕ) (ts : List Transaction) → HasNoBirth r (begins_of q g s ts)
no_birth_in_begins r q g s [] = tt
no_birth_in_begins r q g s (t ∷ ts) = (refl, no_birth_in_begins r q g (suc s) ts)

no_birth_in_dones : (r q g s : ℕ) (ts : List Transaction) → HasNoBirth r (dones_of q g s ts)
no_birth_in_dones r q g s [] = tt
no_birth_in_dones r q g s (t ∷ ts) = (refl, no_birth_in_dones r q g (suc s) ts)

no_birth_in_answer : (r q : ℕ) (o : Option (StreamEvent (Group Transaction))) → HasNoBirth r (dones_at q o)
no_birth_in_answer r q None = tt
no_birth_in_answer r q (Some (Made g group)) = no_birth_in_dones r q g group.first group.items
no_birth_in_answer r q (Some (Answered a from to)) = tt
no_birth_in_answer r q (Some (Showed g start end groups)) = tt

no_birth : (r q : ℕ) (rows : ℕ → List Row) (story : LogStory) → HasNoBirth r (observed q rows story)
no_birth r q rows [] = tt
no_birth r q rows (Made g group ∷ earlier) = none_append r (observed q rows earlier) (begins_of q g group.first group.items) (no_birth r q rows earlier) (no_birth_in_begins r q g group.first group.items)
no_birth r q rows (Answered a from to ∷ earlier) = none_append r (observed q rows earlier) (dones_at q (event_at earlier a)) (no_birth r q rows earlier) (no_birth_in_answer r q (event_at earlier a))
no_birth r q rows (Showed g start end groups ∷ earlier) = none_append r (observed q rows earlier) (notes q rows earlier (Showed g start end groups)) (no_birth r q rows earlier) (refl, tt)

abbrev no_notes : List Note
no_notes = []

-- b: whether it is the range
module _ (r q : ℕ) (b : Bool) (is : eqb r q ≡ b) where
  first_of_range : (note : Note) (more some : List Note) → more ≡ cond b some [] → cond (eqb r q) (note ∷ more) more ≡ cond b (note ∷ some) []
  first_of_range note more some e = ap (λ z. cond z (note ∷ more) more) is ∙ go b e
    where
      go : (t : Bool) → more ≡ cond t some [] → cond t (note ∷ more) more ≡ cond t (note ∷ some) []
      go true e = ap (λ z. note ∷ z) e
      go false e = e

  nothing_of_range : no_notes ≡ cond b no_notes no_notes
  nothing_of_range = go b
    where
      go : (t : Bool) → no_notes ≡ cond t no_notes no_notes
      go true = refl
      go false = refl

  only_begins : (g s : ℕ) (ts : List Transaction) → only r (begins_of q g s ts) ≡ cond b (begins_of q g s ts) []
  only_begins g s [] = nothing_of_range
  only_begins g s (t ∷ ts) = first_of_range (Began q g s t) (only r (begins_of q g (suc s) ts)) (begins_of q g (suc s) ts) (only_begins g (suc s) ts)

  only_dones : (g s : ℕ) (ts : List Transaction) → only r (dones_of q g s ts) ≡ cond b (dones_of q g s ts) []
  only_dones g s [] = nothing_of_range
  only_dones g s (t ∷ ts) = first_of_range (Done q g s) (only r (dones_of q g (suc s) ts)) (dones_of q g (suc s) ts) (only_dones g (suc s) ts)

  only_answer : (o : Option (StreamEvent (Group Transaction))) → only r (dones_at q o) ≡ cond b (dones_at q o) []
  only_answer None = nothing_of_range
  only_answer (Some (Made g group)) = only_dones g group.first group.items
  only_answer (Some (Answered a from to)) = nothing_of_range
  only_answer (Some (Showed g start end groups)) = nothing_of_range

  only_notes : (rows : ℕ → List Row) (earlier : LogStory) (e : StreamEvent (Group Transaction)) → only r (notes q rows earlier e) ≡ cond b (notes q rows earlier e) []
  only_notes rows earlier (Made g group) = only_begins g group.first group.items
  only_notes rows earlier (Answered a from to) = only_answer (event_at earlier a)
  only_notes rows earlier (Showed g start end groups) = first_of_range (Loaded q g (rows (length earlier)) (suc (length (line_shown groups)))) [] [] nothing_of_range

  only_observed : (rows : ℕ → List Row) (story : LogStory) → only r (observed q rows story) ≡ cond b (observed q rows story) []
  only_observed rows [] = nothing_of_range
  only_observed rows (e ∷ earlier) =
      only-append r (observed q rows earlier) (notes q rows earlier e)
      ∙ ap (λ z. z ++ only r (notes q rows earlier e)) (only_observed rows earlier)
      ∙ ap (λ z. cond b (observed q rows earlier) [] ++ z) (only_notes rows earlier e)
      ∙ both b (observed q rows earlier) (notes q rows earlier e)
    where
      both : (t : Bool) (xs ys : List Note) → cond t xs [] ++ cond t ys [] ≡ cond t (xs ++ ys) []
      both true xs ys = refl
      both false xs ys = refl

-- ---- the law of one range

module _ (rows : ℕ → List Row) (story : LogStory) (right : ShowsTables rows story) (served : IsServed story) (order : KeepsOrder story) where
  abbrev told : List Note
  told = observed first_range rows story

  -- nothing was done on another range's streams
  abbrev one_story : ℕ → LogStory
  one_story r = cond (eqb r first_range) story []

  by_range : (P : LogStory → Type 0) → P story → P [] → (r : ℕ) → P (one_story r)
  by_range P first other r = elim (eqb r first_range) as (λ b. P (cond b story [])) [ true ↦ first | false ↦ other ]

  all_told : (r : ℕ) → observed r rows (one_story r) ≡ only r told
  all_told r = elim (cases_eq r first_range) as (λ x. observed r rows (one_story r) ≡ only r told) [
    | inl e ↦ subst (λ z. observed z rows (one_story z) ≡ only z told) (sym e) (sym (only_observed first_range first_range true (eq_test Transaction first_range) rows story))
    | inr ne ↦
        ap (λ b. observed r rows (cond b story [])) (ne_test Transaction r first_range ne)
        ∙ sym (only_observed r first_range false (ne_test Transaction r first_range ne) rows story)
  ]

  abbrev nothing_taken : ℕ → LogStory
  nothing_taken r = []

  abbrev same_rows : ℕ → ℕ → List Row
  same_rows r = rows

  family : StoryFamily told one_story nothing_taken same_rows
  family = record {
    tail = λ r. (one_story r, sym (append-nil (one_story r)));
    served = λ r. by_range (λ z. IsServed z) served tt r;
    order = λ r. by_range (λ z. KeepsOrder z) order (keeps_order (Group Transaction) [] tt) r;
    told = all_told;
    tables = λ r l g s e xs is le key. elim (cases_eq r first_range) as (λ x. stored (rows l) key ≡ kept (keys_of told r) (after_line (line_shown xs) empty_table) key) [
      | inl q ↦
          right l g s e xs (subst (λ z. IsShownAt Transaction (one_story z) l g s e xs) q is) key
          ∙ sym (kept_all (after_line (line_shown xs) empty_table) key)
          ∙ ap (λ z. kept z (after_line (line_shown xs) empty_table) key) (sym (unborn_keys told r (no_birth r first_range rows story)))
      | inr ne ↦ absurd (let none : None ≡ Some (Showed g s e xs) = ap (λ b. event_at (cond b story []) l) (sym (ne_test Transaction r first_range ne)) ∙ is in cc)
    ];
    born = λ r. elim (cases_eq r first_range) as (λ x. (only r told ≡ []) ⊎ (IsFirstStory told one_story nothing_taken same_rows r ⊎ ((p : ℕ) × HasStoryParent told one_story nothing_taken same_rows p r))) [
      | inl e ↦ inr (inl (record { is = e; unborn = no_birth r first_range rows story; nothing = refl }))
      | inr ne ↦ inl (only_observed r first_range false (ne_test Transaction r first_range ne) rows story)
    ];
  }

  -- what is observed of one range without checkpoints replays
  pub replays : Replays (observed first_range rows story)
  replays = family_replays told one_story nothing_taken same_rows family
