-- A worked example: a group is answered, a second lands and is never answered, the range is loaded again.
use Rattle.std.proofs.Common.{◌≡◌, ℕ, sym, subst, ⊎_elim, ◌<◌, List, [], ◌∷◌, refl, Some, None, arith}
use Rattle.wire.specs.declared.note.Note.{Note}
use Rattle.wire.specs.declared.note.Note.TheVariants.{Began, Done, Loaded}
use Rattle.wire.specs.declared.rows.Row.{Row}
use Rattle.wire.specs.declared.transaction.Change.{Change}
use Rattle.model_partition.specs.Past.{Bytes, Transaction, Replays}
use Rattle.commitlog.specs.Replay.{Numbered as Group}
use Rattle.model_histories.specs.Story.{Placed, Made, Answered, Showed, Story, event_at}
use Rattle.laws_tables.proofs.Range.{event_cases}
use Rattle.laws_tables.specs.Fenced.{Seen, Landed, Fenced, LogRun, IsLogRun, visible}
use Rattle.laws_tables.specs.WholeStories.{IsServed, observed, ShowsTables}
use Rattle.laws_tables.proofs.Fenced.{keeps_order}
use Rattle.laws_tables.proofs.Theorem.{replays}

abbrev put : Bytes → Bytes → Change
put key value = record { key = key; value = Some value }

abbrev t1 : Transaction
t1 = put (97 ∷ []) (120 ∷ []) ∷ []

abbrev t2 : Transaction
t2 = put (98 ∷ []) (121 ∷ []) ∷ []

abbrev g1 : Group Transaction
g1 = record { first = 1; items = t1 ∷ [] }

abbrev g2 : Group Transaction
g2 = record { first = 2; items = t2 ∷ [] }

abbrev worked_run : LogRun (Group Transaction)
worked_run =
    Seen (Showed 2 0 48 (record { from = 0; to = 24; group = g1 } ∷ record { from = 24; to = 48; group = g2 } ∷ []))
    ∷ Fenced 2 48
    ∷ Landed (record { from = 24; to = 48; append = 3; group = g2 })
    ∷ Seen (Made 1 g2)
    ∷ Seen (Answered 1 0 24)
    ∷ Landed (record { from = 0; to = 24; append = 1; group = g1 })
    ∷ Seen (Made 1 g1)
    ∷ Seen (Showed 1 0 0 [])
    ∷ Fenced 1 0 ∷ []

is_run : IsLogRun worked_run
is_run = (
  (Landed (record { from = 24; to = 48; append = 3; group = g2 }) ∷ Seen (Made 1 g2) ∷ Seen (Answered 1 0 24) ∷ Landed (record { from = 0; to = 24; append = 1; group = g1 }) ∷ Seen (Made 1 g1) ∷ Seen (Showed 1 0 0 []) ∷ Fenced 1 0 ∷ [], [], refl, refl),
  (
    (omega arith, omega arith),
    (
      (1, refl, omega arith, omega arith, omega arith),
      (
        omega arith,
        (
          (g1, (0, omega arith, refl)),
          (
            (1, refl, omega arith, omega arith, omega arith),
            (
              omega arith,
              (
                ([], [], refl, refl),
                (
                  (omega arith, omega arith),
                  tt,
                ),
              ),
            ),
          ),
        ),
      ),
    ),
  ),
)

-- what is observed of it
abbrev seen : (ℕ → List Row) → List Note
seen rows = Loaded 1 1 (rows 0) 1 ∷ Began 1 1 1 t1 ∷ Done 1 1 1 ∷ Began 1 1 2 t2 ∷ Loaded 1 2 (rows 4) 3 ∷ []

sees : (rows : ℕ → List Row) → observed 1 rows (visible worked_run) ≡ seen rows
sees rows = refl

-- the two theorems together
pub both : (rows : ℕ → List Row) (run : LogRun (Group Transaction)) → ShowsTables rows (visible run) → IsLogRun run → IsServed (visible run) → Replays (observed 1 rows (visible run))
both rows run right ok served = replays rows (visible run) right served (keeps_order (Group Transaction) run ok)

abbrev GT : Type 0
GT = Group Transaction

abbrev s1 : Story GT
s1 = Showed 1 0 0 [] ∷ []

abbrev s2 : Story GT
s2 = Made 1 g1 ∷ s1

abbrev s3 : Story GT
s3 = Answered 1 0 24 ∷ s2

abbrev s4 : Story GT
s4 = Made 1 g2 ∷ s3

abbrev AnsweredIn : Story GT → ℕ → Type 0
AnsweredIn story a = (k : ℕ) × (from : ℕ) × (to : ℕ) × (a < k) × (event_at story k ≡ Some (Answered a from to))

none_made : (a : ℕ) (old : GT) → event_at s1 a ≡ Some (Made 1 old) → ⊥
none_made a old h = ⊎_elim {C = ⊥} (λ (q : (a ≡ 0) × (Showed 1 0 0 [] ≡ Made 1 old)). let e : Showed 1 0 0 [] ≡ Made 1 old = q.1 in cc)
    (λ (o : event_at [] a ≡ Some (Made 1 old)). let e : None ≡ Some (Made 1 old) = o in cc) (event_cases GT (Showed 1 0 0 []) [] a (Made 1 old) h)

g1_answered : (a : ℕ) (old : GT) → event_at s3 a ≡ Some (Made 1 old) → AnsweredIn s3 a
g1_answered a old h = ⊎_elim {C = AnsweredIn s3 a}
    (λ (q : (a ≡ 2) × (Answered 1 0 24 ≡ Made 1 old)). let e : Answered 1 0 24 ≡ Made 1 old = q.1 in absurd (cc))
    (λ (o : event_at s2 a ≡ Some (Made 1 old)). ⊎_elim {C = AnsweredIn s3 a}
    (λ (q : (a ≡ 1) × (Made 1 g1 ≡ Made 1 old)). let at : AnsweredIn s3 1 = (2, 0, 24, omega arith, refl) in subst (AnsweredIn s3) (sym q.0) at)
    (λ o2. absurd (none_made a old o2))
    (event_cases GT (Made 1 g1) s1 a (Made 1 old) o))
    (event_cases GT (Answered 1 0 24) s2 a (Made 1 old) h)

one_load : (l start end : ℕ) (xs : List (Placed GT)) → event_at s4 l ≡ Some (Showed 2 start end xs) → ⊥
one_load l start end xs h = ⊎_elim {C = ⊥}
    (λ (q : (l ≡ 3) × (Made 1 g2 ≡ Showed 2 start end xs)). let e : Made 1 g2 ≡ Showed 2 start end xs = q.1 in cc)
    (λ (o : event_at s3 l ≡ Some (Showed 2 start end xs)). ⊎_elim {C = ⊥}
    (λ (q : (l ≡ 2) × (Answered 1 0 24 ≡ Showed 2 start end xs)). let e : Answered 1 0 24 ≡ Showed 2 start end xs = q.1 in cc)
    (λ (o2 : event_at s2 l ≡ Some (Showed 2 start end xs)). ⊎_elim {C = ⊥}
    (λ (q : (l ≡ 1) × (Made 1 g1 ≡ Showed 2 start end xs)). let e : Made 1 g1 ≡ Showed 2 start end xs = q.1 in cc)
    (λ (o3 : event_at s1 l ≡ Some (Showed 2 start end xs)). ⊎_elim {C = ⊥}
    (λ (q : (l ≡ 0) × (Showed 1 0 0 [] ≡ Showed 2 start end xs)). let e : Showed 1 0 0 [] ≡ Showed 2 start end xs = q.1 in let n : ◌≡◌ {A = ℕ} 1 2 = cc in omega arith)
    (λ (o4 : event_at [] l ≡ Some (Showed 2 start end xs)). let e : None ≡ Some (Showed 2 start end xs) = o4 in cc)
    (event_cases GT (Showed 1 0 0 []) [] l (Showed 2 start end xs) o3))
    (event_cases GT (Made 1 g1) s1 l (Showed 2 start end xs) o2))
    (event_cases GT (Answered 1 0 24) s2 l (Showed 2 start end xs) o))
    (event_cases GT (Made 1 g2) s3 l (Showed 2 start end xs) h)

no_load : (l start end : ℕ) (xs : List (Placed GT)) → event_at [] l ≡ Some (Showed 1 start end xs) → ⊥
no_load l start end xs h = let e : None ≡ Some (Showed 1 start end xs) = h in cc

is_served : IsServed (visible worked_run)
is_served = (
  (refl, one_load),
  (
    ((0, 0, 0, [], refl), g1_answered, refl),
    (
      (1, g1, refl),
      (
        ((0, 0, 0, [], refl), (λ a old h. absurd (none_made a old h)), refl),
        ((refl, no_load), tt),
      ),
    ),
  ),
)

-- the premises are met, so this reload replays: both groups, each once
pub worked_replays : (rows : ℕ → List Row) → ShowsTables rows (visible worked_run) → Replays (seen rows)
worked_replays rows right = both rows worked_run right is_run is_served
