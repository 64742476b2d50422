-- One observation more that tells of an extent.
use Rattle.std.proofs.Common.{◌≡◌, ℕ, ◌+◌, ◌<◌, ◌≤◌, Bool, true, List, length, get_or, Option, Some, None, Result, Ok, Err, refl, sym, ◌∙◌, inl, inr, arith, subst, ap}
use Rattle.std.specs.BTreeMap.{get}
use Rattle.std.specs.Ordering.{nat_cmp}
use Rattle.std.specs.Result.{IfOk}
use Rattle.wire.specs.declared.note.Note.{Note}
use Rattle.wire.specs.declared.note.Note.TheVariants.{Acked, SealedAt}
use Rattle.replica.specs.Groups.{Group, size}
use Rattle.model_streams.specs.Pairs.{Compatible}
use Rattle.world_checker.specs.declared.told.Told.{Told}
use Rattle.world_checker.specs.Checking.{extent_of, IsTold, ToldMeet}
use Rattle.world_checker.specs.Telling.{Acknowledges, Notes, NotesOf, Takes, Tells}
use Rattle.world_checker.proofs.Places.{same_at, below_or_at}
use Rattle.world_checker.proofs.Linking.{is_of, of_none, unlike}

-- an acknowledged group is compatible with what was told
module _ (extent offset end : ℕ) (g : Group) (old new : Told) (is : end ≡ offset + size g) (more : Acknowledges offset end old new) where
  meets : (earlier : Note) → IsTold earlier → Notes old earlier → Compatible earlier (Acked extent offset g)
  meets (Acked e o h) told noted = λ s. elim (more.free (o + size h) o noted) [ inl a ↦ inl a | inr b ↦ inr (omega (arith, b, is)) ]
  meets (SealedAt e l) told noted = λ s. let within : end ≤ l = more.unsealed l noted in omega (arith, within, is)
  meets x told noted = absurd told

  keeps : (earlier : Note) → Notes old earlier → Notes new earlier
  keeps (Acked e o h) noted = more.keeps (o + size h) o noted
  keeps (SealedAt e l) noted = more.sealed ∙ noted
  keeps x noted = tt

  takes : Takes (Acked extent offset g) old new
  takes = record {
    meets = λ told. meets;
    there = subst (λ (n : ℕ). get nat_cmp new.starts n ≡ Some offset) is more.there;
    keeps = keeps;
  }

pub acked_takes : {E : Type 0} (r : Result Bool E) (note : Note) (extent offset end : ℕ) (g : Group) (old new : Told) → note ≡ Acked extent offset g → end ≡ offset + size g
    → IfOk r (λ sure. sure ≡ true → Acknowledges offset end old new) → IfOk r (λ sure. sure ≡ true → Takes note old new)
acked_takes (Ok sure) note extent offset end g old new at is more = λ yes. subst (λ n. Takes n old new) (sym at) (takes extent offset end g old new is (more yes))
acked_takes (Err e) note extent offset end g old new at is more = tt

-- what is noted of the first observations, each under its extent
abbrev pub AllNoted : List Note → ℕ → (ℕ → Option Told) → Type 0
AllNoted notes count extents =
    (i extent : ℕ) (d : Note) → i < count → extent_of (get_or notes i d) ≡ Some extent → NotesOf (extents extent) (get_or notes i d)

module _ (notes : List Note) (place : ℕ) (note : Note) (old new : ℕ → Option Told)
    (within : place < length notes) (is : note ≡ get_or notes place note) (tells : Tells note old new) (noted : AllNoted notes place old) where
  here_at : (d : Note) → note ≡ get_or notes place d
  here_at d = is ∙ same_at notes place note d within

  pub noted_more : AllNoted notes (place + 1) new
  noted_more i extent d lt mine = elim (below_or_at i place lt) [
    | inl below ↦ tells.keeps extent (get_or notes i d) (noted i extent d below mine)
    | inr at ↦ let same : note ≡ get_or notes i d = here_at d ∙ ap (λ (k : ℕ). get_or notes k d) (sym at) in
        subst (NotesOf (new extent)) same (tells.there extent (ap extent_of same ∙ mine))
  ]

  -- it is compatible with an earlier one
  with_earlier : (i : ℕ) (d : Note) → i < place → IsTold (get_or notes i d) → IsTold note → (o : Option ℕ) → extent_of note ≡ o → Compatible (get_or notes i d) note
  with_earlier i d lt told mine_told None none = of_none (get_or notes i d) note none
  with_earlier i d lt told mine_told (Some e) mine = elim (is_of (extent_of (get_or notes i d)) e) [
    | inl of ↦ tells.meets e mine mine_told (get_or notes i d) told (noted i e d lt of)
    | inr other ↦ unlike (get_or notes i d) note e mine other
  ]

  pub told_more : ToldMeet notes place → ToldMeet notes (place + 1)
  told_more meet p d lt told i b low earlier = elim (below_or_at p place lt) [
    | inl below ↦ meet p d below told i b low earlier
    | inr at ↦
        let mine : note ≡ get_or notes p d = here_at d ∙ ap (λ (k : ℕ). get_or notes k d) (sym at) in
        let same : note ≡ get_or notes p b = here_at b ∙ ap (λ (k : ℕ). get_or notes k b) (sym at) in
        subst (Compatible (get_or notes i b)) same (with_earlier i b (omega (arith, low, at)) earlier (subst IsTold (sym mine) told) (extent_of note) refl)
  ]
