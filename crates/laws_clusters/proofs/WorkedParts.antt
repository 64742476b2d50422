-- A worked stream that is built of another's, whose source answers an append late: after it is built, and after the load of the generation that was
-- named. The append stands in what the stream shows all the same.
use Rattle.std.proofs.Common.{◌≡◌, ⊎_elim, ℕ, ◌+◌, ◌≤◌, List, [], ◌∷◌, ◌++◌, Some, None, Contains, refl, sym, subst, inl, inr, arith}
use Rattle.replica.specs.Groups.{Group}
use Rattle.model_histories.specs.ServerTurns.{Move, Assigned, AllSealed, ConfirmedIs, Forms, AppendedAt, ExtendedTo, Below, Above, after_all, AreMoves}
use Rattle.model_histories.specs.Story.{Placed, StreamEvent, Made, Answered, Showed, Story, event_at, Copy, placed}
use Rattle.model_histories.specs.StreamMachine.{OpenExtent, TakesOpen, TakesExtend, TakesConfirm, TakesAppend, Keeps, AnswersAppend, Seals}
use Rattle.laws_tables.specs.Built.{story_of, HasLoad}
use Rattle.laws_tables.proofs.Range.{event_cases}
use Rattle.laws_clusters.specs.BuiltOrders.{HasPart}
use Rattle.laws_clusters.proofs.RestingIncarnations.{out_of, Rests, BegunBy}
use Rattle.laws_clusters.proofs.SourceParts.{copies_of, part_of}

-- incarnations 0, 1 and 2 are of the generations 1, 2 and 3
abbrev generation : ℕ → ℕ
generation i = i + 1

abbrev Moves : Type 0
Moves = List (Move Group generation)

abbrev group : Group
group = (7 ∷ []) ∷ []

abbrev copy : Copy Group
copy = record { from = 0; to = 8; append = 1; group = group }

-- the first extent, which is open: with nothing, with the copy at its primary, and with the copy kept
abbrev empty : OpenExtent Group
empty = record { kept = []; sure = 0; loose = []; end = 0; fence = 1 }

abbrev loose : OpenExtent Group
loose = record { kept = []; sure = 0; loose = copy ∷ []; end = 8; fence = 1 }

abbrev kept : OpenExtent Group
kept = record { kept = copy ∷ []; sure = 8; loose = []; end = 8; fence = 1 }

-- generation 1 loads nothing, and appends a group, which all replicas keep; generation 2 has the extent sealed, and loads it
abbrev early : Moves
early =
    Above 1 (ConfirmedIs 0 8 (copy ∷ []))
    ∷ Below (TakesConfirm 1 (copy ∷ []) 8)
    ∷ Above 1 (AllSealed 1)
    ∷ Below (Seals kept)
    ∷ Below (TakesOpen 1)
    ∷ Above 1 Assigned
    ∷ Below (Keeps copy [] loose)
    ∷ Below (TakesAppend 0 1 group 8 empty)
    ∷ Above 0 (ExtendedTo 1)
    ∷ Below (TakesExtend 0 0)
    ∷ Above 0 (Forms group)
    ∷ Above 0 (ConfirmedIs 0 0 [])
    ∷ Below (TakesConfirm 0 [] 0)
    ∷ Above 0 (AllSealed 0)
    ∷ Below (TakesOpen 0)
    ∷ Above 0 Assigned
    ∷ []

-- after the build the append of generation 1 is answered at the source
abbrev late : Moves
late = Above 0 (AppendedAt 0 8) ∷ Below (AnswersAppend 0 1 0 8 group) ∷ []

-- and generation 3 loads what was built
abbrev own : Moves
own = Above 2 (ConfirmedIs 0 8 (copy ∷ [])) ∷ Below (TakesConfirm 2 (copy ∷ []) 8) ∷ Above 2 (AllSealed 1) ∷ Below (TakesOpen 2) ∷ Above 2 Assigned ∷ []

early_are : AreMoves Group generation early
early_are =
    (inl refl, ((refl, (inl refl, refl)), ((inl refl, omega arith), ((refl, refl), ((refl, (inl refl, omega arith)), (tt, ((refl, (refl, refl)), ((refl, (inl refl, refl, omega arith, omega arith, omega arith)), (inl refl, ((refl, (inl refl, refl)), (tt, (inl refl, ((refl, (inl refl, refl)), ((inl refl, omega arith), ((refl, (inl refl, omega arith)), (tt, tt))))))))))))))))

late_are : AreMoves Group generation (late ++ early)
late_are = (inl refl, ((refl, (inr (inr (inr (inr (inr (inr (inr (inr (inl refl)))))))), inl refl)), early_are))

own_are : AreMoves Group generation (own ++ early)
own_are = (inl refl, ((refl, (inl refl, refl)), ((inl refl, omega arith), ((refl, (inl refl, omega arith)), (tt, early_are)))))

loaded : HasLoad Group generation (story_of Group generation early) 2
loaded = (2, 0, 8, placed copy ∷ [], refl)

rests : Rests generation 2 early
rests i under = let one : i ≡ 1 = omega (arith, under) in subst (λ j. out_of ((after_all Group generation early).phase j) ≡ None) (sym one) refl

under : (g h : ℕ) (x y : Group) → Made g x ≡ Made h y → g ≡ h
under g h x y e = cc

abbrev IsMade : Story Group → ℕ → Group → Type 0
IsMade story a x = event_at story a ≡ Some (Made 2 x)

older : (e : StreamEvent Group) (story : Story Group) (a : ℕ) (x : Group) → (e ≡ Made 2 x → ⊥) → IsMade (e ∷ story) a x → IsMade story a x
older e story a x other made = ⊎_elim {C = IsMade story a x} (λ new. absurd (other new.1)) (λ old. old) (event_cases Group e story a (Made 2 x) made)

begun : BegunBy generation 2 (story_of Group generation early) (story_of Group generation (late ++ early))
begun a x made =
    let first : IsMade (Showed 2 0 8 (placed copy ∷ []) ∷ Made 1 group ∷ Showed 1 0 0 [] ∷ []) a x = older (Answered 1 0 8) (Showed 2 0 8 (placed copy ∷ []) ∷ Made 1 group ∷ Showed 1 0 0 [] ∷ []) a x (λ e. cc) made in
    let second : IsMade (Made 1 group ∷ Showed 1 0 0 [] ∷ []) a x = older (Showed 2 0 8 (placed copy ∷ [])) (Made 1 group ∷ Showed 1 0 0 [] ∷ []) a x (λ e. cc) first in
    let third : IsMade (Showed 1 0 0 [] ∷ []) a x = older (Made 1 group) (Showed 1 0 0 [] ∷ []) a x (λ e. (let n : ◌≡◌ {A = ℕ} 1 2 = under 1 2 group x e in omega (arith, n))) second in
    let last : IsMade [] a x = older (Showed 1 0 0 []) [] a x (λ e. cc) third in
    absurd cc

highest : (a h : ℕ) (x : Group) → event_at (story_of Group generation early) a ≡ Some (Made h x) → h ≤ 2
highest a h x made = elim (event_cases Group (Showed 2 0 8 (placed copy ∷ [])) (Made 1 group ∷ Showed 1 0 0 [] ∷ []) a (Made h x) made) [
  | inl new ↦ absurd (apart 2 8 (placed copy ∷ []) h x new.1)
  | inr old ↦ elim (event_cases Group (Made 1 group) (Showed 1 0 0 [] ∷ []) a (Made h x) old) [
    | inl now ↦ (let one : ◌≡◌ {A = ℕ} 1 h = under 1 h group x now.1 in omega (arith, one))
    | inr first ↦ elim (event_cases Group (Showed 1 0 0 []) [] a (Made h x) first) [
      | inl load ↦ absurd (apart 1 0 [] h x load.1)
      | inr none ↦ absurd cc
    ]
  ]
]
  where
    apart : (g end : ℕ) (groups : List (Placed Group)) (h : ℕ) (x : Group) → Showed g 0 end groups ≡ Made h x → ⊥
    apart g end groups h x e = cc

part : HasPart 2 (story_of Group generation early) (story_of Group generation (late ++ early)) (story_of Group generation (own ++ early)) (copies_of generation (late ++ early) late_are) (copies_of generation (own ++ early) own_are)
part = part_of generation 2 early late own late_are own_are (record { closed = refl; loaded = loaded; highest = highest; rests = rests; begun = begun })

-- the answer is the event 3 of the source, of which three stood when the stream was built; the load of that is its event 3, and shows the append
late_stands : Contains (copies_of generation (own ++ early) own_are 3) copy
late_stands = (part.answered 1 1 3 0 8 3 3 0 8 group (placed copy ∷ []) refl (omega arith) refl refl (omega arith)).1
