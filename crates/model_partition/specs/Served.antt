-- Gets that are answered: what each shows is the table after every transaction that was acknowledged so far.
use Rattle.std.specs.Prelude.{◌≡◌, ℕ, ◌<◌, List, [], ◌∷◌, ◌++◌, length, Option, Contains}
use Rattle.wire.specs.declared.note.Note.{Note}
use Rattle.wire.specs.declared.note.Note.TheVariants.{Done, Loaded, Got}
use Rattle.wire.specs.declared.rows.Row.{Row}
use Rattle.model_partition.specs.Past.{Bytes, Transaction, Past, From_nothing, From_pair, IsMember, IsPrefixOf, Begins, begun, kin, line_of, owners, start_of, table_of}

-- each that was acknowledged before, under one of these ranges and whatever generation, is in the line: the one that began under
-- that number
abbrev pub AllDoneBefore : List Note → List Note → List ℕ → List Transaction → Type 0
AllDoneBefore h before ranges line = (r' g' s : ℕ) → Contains ranges r' → Contains before (Done r' g' s) →
    (t : Transaction) × (begun h r' g' s ≡ t ∷ []) × IsMember line s t

-- so it is in the line of a past, and in its start
abbrev pub HasAllDone : List Note → List Note → ℕ → Past → Type 0
HasAllDone h before r (From_nothing line) = AllDoneBefore h before (owners h r) line
HasAllDone h before r (From_pair c p d q line) = AllDoneBefore h before (owners h r) line × HasAllDone h before c p × HasAllDone h before d q

-- what a Get of a range shows of a key, after these observations; past: the past of each range and generation that was loaded
pub record IsServed (h before : List Note) (past : ℕ → ℕ → Past) (r g : ℕ) (key : Bytes) (value : Option Bytes) : Type 0 where
  pub now : Past
  -- the range was loaded under the generation, and what it has come to since begins with the past of that load
  pub loaded : (rows : List Row) × (next : ℕ) × Contains before (Loaded r g rows next)
  pub start : start_of now ≡ start_of (past r g)
  pub begins : IsPrefixOf (line_of (past r g)) (line_of now)
  -- each further transaction began under the generation, and was acknowledged before
  pub further : (s : ℕ) (t : Transaction) → IsMember (line_of now) s t → length (line_of (past r g)) < s →
      (begun h r g s ≡ t ∷ []) × Contains before (Done r g s)
  -- all that was acknowledged before is in it
  pub done : HasAllDone h before r now
  -- it begins what each load of a higher generation shows, of the range or of one that this is an ancestor of
  pub later : (r' g' : ℕ) (rows : List Row) (next : ℕ) → Contains h (Loaded r' g' rows next) → g < g' → Contains (kin h r') r → Begins now (past r' g')
  -- nothing was acknowledged yet under a range that this is an ancestor of
  pub alone : (r' g' s : ℕ) → Contains (kin h r') r → (r' ≡ r → ⊥) → Contains before (Done r' g' s) → ⊥
  pub shows : value ≡ table_of h r now key

-- Each Get that is answered shows what is stored under its key in the table after every transaction that was acknowledged so far.
abbrev pub Served : (h : List Note) → (ℕ → ℕ → Past) → Type 0
Served h past = (before after : List Note) (r g : ℕ) (key : Bytes) (value : Option Bytes) →
    h ≡ before ++ Got r g key value ∷ after → IsServed h before past r g key value
