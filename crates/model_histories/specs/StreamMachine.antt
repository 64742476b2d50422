-- One stream as its manager, the primaries of its extents and its servers make it.
use Rattle.std.specs.Prelude.{◌≡◌, ℕ, suc, ◌+◌, ◌*◌, ◌<◌, ◌≤◌, List, [], ◌∷◌, ◌++◌, length, map, Option, Some, None, if◌then◌else◌, ◌==◌, nat_le, ◌⊎◌}
use Rattle.model_histories.specs.Story.{StreamEvent, Made, Answered, Showed, Story, Copy, placed, from_place}

abbrev pub In : {A : Type 0} → A → List A → Type 0
In x [] = ⊥
In x (y ∷ ys) = (x ≡ y) ⊎ In x ys

-- ---------------------------------------------------------------- extents

-- a sealed extent: what stands in it, and the place where it ends
pub record SealedExtent (A : Type 0) : Type 0 where
  pub copies : List (Copy A)
  pub end : ℕ

-- the last extent while it is not sealed
pub record OpenExtent (A : Type 0) : Type 0 where
  -- what all three places have, or have had while they took appends; a seal cuts none of it
  pub kept : List (Copy A)
  -- where that ends
  pub sure : ℕ
  -- what the primary has after it
  pub loose : List (Copy A)
  -- where that ends
  pub end : ℕ
  -- the primary takes no append of a lower generation
  pub fence : ℕ

-- what the manager and the primaries keep of a stream
pub record StreamCore (A : Type 0) : Type 0 where
  -- the newest first
  pub shut : List (SealedExtent A)
  pub live : Option (OpenExtent A)
  -- the manager's
  pub fence : ℕ

-- the place where the index-th extent begins
abbrev pub base : ℕ → ℕ
base index = index * 4294967296

abbrev pub one_if_live : {A : Type 0} → Option (OpenExtent A) → ℕ
one_if_live None = 0
one_if_live (Some v) = 1

-- how many extents the stream has
abbrev pub count : {A : Type 0} → StreamCore A → ℕ
count c = length c.shut + one_if_live c.live

abbrev pub all_shut : {A : Type 0} → List (SealedExtent A) → List (Copy A)
all_shut [] = []
all_shut (x ∷ older) = all_shut older ++ x.copies

abbrev pub last_end : {A : Type 0} → List (SealedExtent A) → ℕ
last_end [] = 0
last_end (x ∷ older) = x.end

-- the extents of an index below n
abbrev pub first : {A : Type 0} → ℕ → List (SealedExtent A) → List (SealedExtent A)
first n [] = []
first n (x ∷ older) = if nat_le n (length older) then first n older else x ∷ older

abbrev pub shut_at : {A : Type 0} → ℕ → List (SealedExtent A) → Option (SealedExtent A)
shut_at e [] = None
shut_at e (x ∷ older) = if e == length older then Some x else shut_at e older

-- each begins where the one before ends
abbrev pub Chain : {A : Type 0} → ℕ → List (Copy A) → ℕ → Type 0
Chain from [] to = from ≡ to
Chain from (c ∷ cs) to = (c.from ≡ from) × (c.from < c.to) × Chain c.to cs to

-- ---------------------------------------------------------------- packets and what is known

-- A packet that is in the post, or what an incarnation knows. None of them is ever taken back: it can be delivered or used again at any time.
-- An incarnation is a number: a range taken by a server's session at one Assign. It stands for all q that it uses; `append` stands for the q of the attempts of one append job.
pub data Fact (A : Type 0) : Type 0 where
  -- OpenStreams and its answer: how many extents the stream has
  AsksOpen : (i : ℕ) → Fact A
  Opened : (i n : ℕ) → Fact A
  -- Check of the extent of an index and its answer that is not none: what stood in it, and where that ends
  AsksCheck : (i e : ℕ) → Fact A
  Checked : (i e : ℕ) (stood : List (Copy A)) (end : ℕ) → Fact A
  -- Confirm of what was read up to an end, and its answer
  AsksConfirm : (i : ℕ) (read : List (Copy A)) (end : ℕ) → Fact A
  Confirmed : (i : ℕ) (read : List (Copy A)) (end : ℕ) → Fact A
  -- the range is served
  Serves : (i : ℕ) → Fact A
  -- an append job, the event of its beginning, and its Append to the extent of an index
  Begun : (i append : ℕ) (group : A) → Fact A
  AsksAppend : (i e append : ℕ) (group : A) → Fact A
  Appended : (i append from to : ℕ) → Fact A
  -- Extend where the asker knows n extents, and its answer: how many the stream has now
  AsksExtend : (i n : ℕ) → Fact A
  Extended : (i n m : ℕ) → Fact A

pub record MachineState (A : Type 0) : Type 0 where
  pub core : StreamCore A
  pub facts : List (Fact A)
  pub story : Story A

pub data MachineStep (A : Type 0) : Type 0 where
  -- the manager takes a packet
  TakesOpen : (i : ℕ) → MachineStep A
  TakesExtend : (i n : ℕ) → MachineStep A
  TakesConfirm : (i : ℕ) (read : List (Copy A)) (end : ℕ) → MachineStep A
  -- the primary of the last extent takes Check, and later answers it
  TakesCheck : (i : ℕ) (v : OpenExtent A) → MachineStep A
  AnswersCheck : (i : ℕ) (v : OpenExtent A) → MachineStep A
  -- so does the primary of a sealed extent that has not heard of it
  AnswersLate : (i e : ℕ) (x : SealedExtent A) → MachineStep A
  -- it takes Append
  TakesAppend : (i append : ℕ) (group : A) (to : ℕ) (v : OpenExtent A) → MachineStep A
  -- one more copy is there for good: all three places have it, or the length noted for the seal covers it
  Keeps : (c : Copy A) (rest : List (Copy A)) (v : OpenExtent A) → MachineStep A
  -- an append is answered
  AnswersAppend : (i append from to : ℕ) (group : A) → MachineStep A
  -- the last extent is sealed at the end of what is kept, whoever asked for it
  Seals : (v : OpenExtent A) → MachineStep A
  -- a server asks
  Opens : (i : ℕ) → MachineStep A
  Checks : (i e : ℕ) → MachineStep A
  ReadsSealed : (i n : ℕ) → MachineStep A
  ReadsChecked : (i e : ℕ) (stood : List (Copy A)) (end : ℕ) → MachineStep A
  Begins : (i : ℕ) (group : A) → MachineStep A
  Appends : (i e append : ℕ) (group : A) → MachineStep A
  Extends : (i n : ℕ) → MachineStep A
  -- a server takes an answer
  TakesConfirmed : (i start end : ℕ) (read : List (Copy A)) → MachineStep A
  TakesAppended : (i append from to : ℕ) → MachineStep A

module _ (A : Type 0) (generation : ℕ → ℕ) where
  abbrev pub knows : MachineState A → Fact A → MachineState A
  knows s f = record s { facts = f ∷ s.facts }

  abbrev pub sees : MachineState A → StreamEvent A → MachineState A
  sees s e = record s { story = e ∷ s.story }

  abbrev pub with_live : StreamCore A → OpenExtent A → StreamCore A
  with_live c v = record c { live = Some v }

  abbrev pub new_live : StreamCore A → ℕ → OpenExtent A
  new_live c g = record { kept = []; sure = base (length c.shut); loose = []; end = base (length c.shut); fence = g }

  -- the manager's rule of Extend, where the generation is the fence
  abbrev pub extended : StreamCore A → ℕ → ℕ → Option (OpenExtent A) → StreamCore A
  extended c g n (Some v) = c
  extended c g n None = if n == length c.shut then with_live c (new_live c g) else c

  abbrev pub new_copy : OpenExtent A → ℕ → ℕ → A → Copy A
  new_copy v to append group = record { from = v.end; to = to; append = append; group = group }

  -- the incarnation has not asked for its confirmation
  abbrev pub NotYet : ℕ → List (Fact A) → Type 0
  NotYet i facts = (read : List (Copy A)) (end : ℕ) → In (AsksConfirm i read end) facts → ⊥

  abbrev pub all_copies : StreamCore A → Option (OpenExtent A) → List (Copy A)
  all_copies c None = all_shut c.shut
  all_copies c (Some v) = all_shut c.shut ++ v.kept

  -- ---- what each step asks for

  abbrev pub May : MachineState A → MachineStep A → Type 0
  May s (TakesOpen i) = In (AsksOpen i) s.facts × (s.core.fence < generation i)
  May s (TakesExtend i n) = In (AsksExtend i n) s.facts × (generation i ≡ s.core.fence)
  May s (TakesConfirm i read end) = In (AsksConfirm i read end) s.facts × (generation i ≡ s.core.fence)
  May s (TakesCheck i v) = In (AsksCheck i (length s.core.shut)) s.facts × (s.core.live ≡ Some v) × (v.fence ≤ generation i)
  May s (AnswersCheck i v) = In (AsksCheck i (length s.core.shut)) s.facts × (s.core.live ≡ Some v) × (generation i ≤ v.fence) × (v.loose ≡ [])
  May s (AnswersLate i e x) = In (AsksCheck i e) s.facts × (shut_at e s.core.shut ≡ Some x)
  May s (TakesAppend i append group to v) =
      In (AsksAppend i (length s.core.shut) append group) s.facts × (s.core.live ≡ Some v) × (v.fence ≤ generation i)
      × (v.end < to) × (to ≤ base (suc (length s.core.shut)))
  May s (Keeps c rest v) = (s.core.live ≡ Some v) × (v.loose ≡ c ∷ rest)
  May s (AnswersAppend i append from to group) =
      In (Begun i append group) s.facts × In (record { from = from; to = to; append = append; group = group }) (all_copies s.core s.core.live)
  May s (Seals v) = s.core.live ≡ Some v
  May s (Opens i) = Unit {0}
  May s (Checks i e) = Unit {0}
  May s (ReadsSealed i n) = In (Opened i n) s.facts × (n ≤ length s.core.shut) × NotYet i s.facts
  May s (ReadsChecked i e stood end) = In (Opened i (suc e)) s.facts × In (Checked i e stood end) s.facts × NotYet i s.facts
  May s (Begins i group) = In (Serves i) s.facts
  May s (Appends i e append group) = In (Begun i append group) s.facts
  May s (Extends i n) = In (Serves i) s.facts
  May s (TakesConfirmed i start end read) = In (Confirmed i read end) s.facts
  May s (TakesAppended i append from to) = In (Appended i append from to) s.facts

  -- ---- what it does

  -- the answer to an Extend; 13 where the last extent is the asker's and not sealed
  abbrev pub extend_facts : ℕ → ℕ → StreamCore A → Option (OpenExtent A) → List (Fact A) → List (Fact A)
  extend_facts i n c None facts = Extended i n (if n == length c.shut then suc n else length c.shut) ∷ facts
  extend_facts i n c (Some v) facts = if n == suc (length c.shut) then facts else Extended i n (suc (length c.shut)) ∷ facts

  abbrev pub next : MachineState A → MachineStep A → MachineState A
  next s (TakesOpen i) = record s { core = record s.core { fence = generation i }; facts = Opened i (count s.core) ∷ s.facts }
  next s (TakesExtend i n) = record s { core = extended s.core (generation i) n s.core.live; facts = extend_facts i n s.core s.core.live s.facts }
  next s (TakesConfirm i read end) = knows s (Confirmed i read end)
  next s (TakesCheck i v) = record s { core = with_live s.core (record v { fence = generation i }) }
  next s (AnswersCheck i v) = knows s (Checked i (length s.core.shut) v.kept v.sure)
  next s (AnswersLate i e x) = knows s (Checked i e x.copies x.end)
  next s (TakesAppend i append group to v) =
      record s { core = with_live s.core (record v { loose = v.loose ++ new_copy v to append group ∷ []; end = to }) }
  next s (Keeps c rest v) = record s { core = with_live s.core (record v { kept = v.kept ++ c ∷ []; sure = c.to; loose = rest }) }
  next s (AnswersAppend i append from to group) = knows s (Appended i append from to)
  next s (Seals v) = record s { core = record s.core { shut = record { copies = v.kept; end = v.sure } ∷ s.core.shut; live = None } }
  next s (Opens i) = knows s (AsksOpen i)
  next s (Checks i e) = knows s (AsksCheck i e)
  next s (ReadsSealed i n) = knows s (AsksConfirm i (all_shut (first n s.core.shut)) (last_end (first n s.core.shut)))
  next s (ReadsChecked i e stood end) = knows s (AsksConfirm i (all_shut (first e s.core.shut) ++ stood) end)
  next s (Begins i group) = sees (knows s (Begun i (length s.story) group)) (Made (generation i) group)
  next s (Appends i e append group) = knows s (AsksAppend i e append group)
  next s (Extends i n) = knows s (AsksExtend i n)
  next s (TakesConfirmed i start end read) = sees (knows s (Serves i)) (Showed (generation i) start end (map placed (from_place start read)))
  next s (TakesAppended i append from to) = sees s (Answered append from to)

  abbrev pub nothing : MachineState A
  nothing = record { core = record { shut = []; live = None; fence = 0 }; facts = []; story = [] }

  -- the newest first
  abbrev pub after : List (MachineStep A) → MachineState A
  after [] = nothing
  after (step ∷ earlier) = next (after earlier) step

  abbrev pub IsRun : List (MachineStep A) → Type 0
  IsRun [] = Unit {0}
  IsRun (step ∷ earlier) = May (after earlier) step × IsRun earlier
