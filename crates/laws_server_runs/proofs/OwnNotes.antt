-- The observations of one range among those of all.
use Rattle.std.proofs.Common.{◌≡◌, ◌⊎◌, ℕ, List, [], ◌∷◌, ◌++◌, Bool, true, false, ◌==◌, refl, sym, ap, ◌∙◌, inl, inr, if◌then◌else◌}
use Rattle.wire.specs.declared.note.Note.{Note}
use Rattle.model_partition.specs.declared.table_note.TableNote.{TableNote}
use Rattle.model_partition.specs.declared.table_note.TableNote.TheVariants as tables
use Rattle.model_histories.specs.Log.{is_got, is_of, only, without_gots}
use Rattle.model_partition.specs.Past.{Bytes}
use Rattle.model_histories.specs.ServedTables.{IsSeenAs, AreSeenAs}
use Rattle.model_histories.specs.StreamActions.{PlacedBytes}
use Rattle.laws_server_runs.specs.Places.{NoteWithin, NotesWithin}
use Rattle.laws_server_runs.proofs.Actions.{same_test, other_test}

pub only_both : (k : ℕ) (xs ys : List Note) → only k (xs ++ ys) ≡ only k xs ++ only k ys
only_both k [] ys = refl
only_both k (x ∷ xs) ys = go (is_of k x) (only_both k xs ys)
  where
    go : (b : Bool) → only k (xs ++ ys) ≡ only k xs ++ only k ys → (if b then x ∷ only k (xs ++ ys) else only k (xs ++ ys)) ≡ (if b then x ∷ only k xs else only k xs) ++ only k ys
    go true e = ap (λ l. x ∷ l) e
    go false e = e

module _ (texts : ℕ → Bytes) (placed : List PlacedBytes) where
  -- a Get that was answered is of none
  seen_got : (j g k : ℕ) (told : TableNote) (note : Note) → NoteWithin j g placed told → IsSeenAs texts told note → ((is_got note ≡ false) × (is_of k note ≡ (k == j))) ⊎ ((is_got note ≡ true) × (is_of k note ≡ false))
  seen_got j g k (tables.Began range generation number changes) note within seen = inl (ap is_got seen, ap (is_of k) seen ∙ ap (λ n. k == n) within.0)
  seen_got j g k (tables.Done range generation number) note within seen = inl (ap is_got seen, ap (is_of k) seen ∙ ap (λ n. k == n) within.0)
  seen_got j g k (tables.Loaded range generation table next) note within seen = inl (ap is_got seen.1, ap (is_of k) seen.1 ∙ ap (λ n. k == n) within.0)
  seen_got j g k (tables.Got range generation key value) note within seen = inr (ap is_got seen, ap (is_of k) seen)

  -- all that is seen of observations of the range, but for the Gets
  pub own_notes : (k g : ℕ) (told : List TableNote) (notes : List Note) → NotesWithin k g placed told → AreSeenAs texts told notes → only k notes ≡ without_gots notes
  own_notes k g [] [] within seen = refl
  own_notes k g [] (note ∷ notes) within seen = absurd seen
  own_notes k g (t ∷ told) [] within seen = absurd seen
  own_notes k g (t ∷ told) (note ∷ notes) within seen =
      let rest = own_notes k g told notes within.1 seen.1 in
      elim (seen_got k g k t note within.0 seen.0) as (λ x. only k (note ∷ notes) ≡ without_gots (note ∷ notes)) [
        | inl of ↦ (λ i. if (of.1 ∙ same_test k) i then note ∷ rest i else rest i) ∙ ap (λ b. if b then without_gots notes else note ∷ without_gots notes) (sym of.0)
        | inr got ↦ (λ i. if got.1 i then note ∷ rest i else rest i) ∙ ap (λ b. if b then without_gots notes else note ∷ without_gots notes) (sym got.0)
      ]

  -- that of another range
  seen_other : (j g k : ℕ) → (k ≡ j → ⊥) → (told : TableNote) (note : Note) → NoteWithin j g placed told → IsSeenAs texts told note → is_of k note ≡ false
  seen_other j g k apart told note within seen = elim (seen_got j g k told note within seen) [
    | inl of ↦ of.1 ∙ other_test k j apart
    | inr got ↦ got.1
  ]

  -- and nothing of those of another
  pub other_notes : (j g k : ℕ) → (k ≡ j → ⊥) → (told : List TableNote) (notes : List Note) → NotesWithin j g placed told → AreSeenAs texts told notes → only k notes ≡ []
  other_notes j g k apart [] [] within seen = refl
  other_notes j g k apart [] (note ∷ notes) within seen = absurd seen
  other_notes j g k apart (t ∷ told) [] within seen = absurd seen
  other_notes j g k apart (t ∷ told) (note ∷ notes) within seen =
      ap (λ b. if b then note ∷ only k notes else only k notes) (seen_other j g k apart t note within.0 seen.0) ∙ other_notes j g k apart told notes within.1 seen.1
