-- What a server does on one stream of a range that it holds: the load in order, and its append jobs.
use Rattle.std.specs.Prelude.{◌≡◌, ℕ, zero, suc, ◌≤◌, Bool, true, false, List, [], ◌∷◌, ◌++◌, length, if◌then◌else◌, ◌==◌}
use Rattle.model_histories.specs.Story.{Copy}
use Rattle.model_histories.specs.StreamMachine.{In, Opened, Checked, Confirmed, Appended, Extended, MachineState, MachineStep, TakesOpen, TakesExtend, TakesConfirm, TakesCheck, AnswersCheck, AnswersLate, TakesAppend, Keeps, AnswersAppend, Seals, Opens, Checks, ReadsSealed, ReadsChecked, Begins, Appends, Extends, TakesConfirmed, TakesAppended, May, next, nothing}

-- where an incarnation stands; n is how many extents it knows
pub data Phase (A : Type 0) : Type 0 where
  Idle : Phase A
  -- OpenStreams is out
  Opening : Phase A
  -- Check of the last extent is out, and then SealExtent
  Checking : (e : ℕ) → Phase A
  Sealing : (e : ℕ) → Phase A
  -- all is read and Confirm is out
  Confirming : (n : ℕ) (live : Bool) → Phase A
  -- no append job; whether the last extent is open
  Serving : (n : ℕ) (live : Bool) → Phase A
  -- the append job has an Append out, or SealExtent, or Extend
  Sent : (n append : ℕ) (group : A) → Phase A
  Closing : (n append : ℕ) (group : A) → Phase A
  Growing : (n append : ℕ) (group : A) → Phase A

-- what comes to it
pub data Turn (A : Type 0) : Type 0 where
  Assigned : Turn A
  -- Opened where the last extent is sealed or there is none; then all is read
  AllSealed : (n : ℕ) → Turn A
  -- Opened where the last extent is open
  LastOpen : (e : ℕ) → Turn A
  -- Checked with a length; then all is read
  Found : (stood : List (Copy A)) (end : ℕ) → Turn A
  -- Checked with none, GiveUp, Refused 4 or 7
  Fails : Turn A
  -- SealedIs
  IsShut : Turn A
  ConfirmedIs : (start end : ℕ) (read : List (Copy A)) → Turn A
  -- a group is formed
  Forms : (group : A) → Turn A
  AppendedAt : (from to : ℕ) → Turn A
  ExtendedTo : (m : ℕ) → Turn A

module _ (A : Type 0) (generation : ℕ → ℕ) where
  -- the first packet of an append job, the newest step first
  abbrev pub forms : ℕ → ℕ → ℕ → A → Bool → List (MachineStep A)
  forms i zero append group live = Extends i 0 ∷ []
  forms i (suc e) append group true = Appends i e append group ∷ []
  forms i (suc e) append group false = Extends i (suc e) ∷ []

  abbrev pub formed : ℕ → ℕ → A → Bool → Phase A
  formed zero append group live = Growing 0 append group
  formed (suc e) append group true = Sent (suc e) append group
  formed (suc e) append group false = Growing (suc e) append group

  -- the packet that it takes is in the post; a turn that has no rule is none
  abbrev pub IsTurn : MachineState A → ℕ → Phase A → Turn A → Type 0
  IsTurn s i Idle Assigned = Unit {0}
  IsTurn s i Opening (AllSealed n) = In (Opened i n) s.facts × (n ≤ length s.core.shut)
  IsTurn s i Opening (LastOpen e) = In (Opened i (suc e)) s.facts
  IsTurn s i (Checking e) (Found stood end) = In (Opened i (suc e)) s.facts × In (Checked i e stood end) s.facts
  IsTurn s i (Checking e) Fails = Unit {0}
  IsTurn s i (Sealing e) IsShut = In (Opened i (suc e)) s.facts × (suc e ≤ length s.core.shut)
  IsTurn s i (Confirming n live) (ConfirmedIs start end read) = In (Confirmed i read end) s.facts
  IsTurn s i (Serving n live) (Forms group) = Unit {0}
  IsTurn s i (Sent n append group) (AppendedAt from to) = In (Appended i append from to) s.facts
  IsTurn s i (Sent n append group) Fails = Unit {0}
  IsTurn s i (Closing n append group) IsShut = n ≤ length s.core.shut
  IsTurn s i (Growing n append group) (ExtendedTo m) = In (Extended i n m) s.facts
  IsTurn s i _ _ = ⊥

  abbrev pub becomes : MachineState A → Phase A → Turn A → Phase A
  becomes s Idle Assigned = Opening
  becomes s Opening (AllSealed n) = Confirming n false
  becomes s Opening (LastOpen e) = Checking e
  becomes s (Checking e) (Found stood end) = Confirming (suc e) true
  becomes s (Checking e) Fails = Sealing e
  becomes s (Sealing e) IsShut = Confirming (suc e) false
  becomes s (Confirming n live) (ConfirmedIs start end read) = Serving n live
  becomes s (Serving n live) (Forms group) = formed n (length s.story) group live
  becomes s (Sent n append group) (AppendedAt from to) = Serving n true
  becomes s (Sent n append group) Fails = Closing n append group
  becomes s (Closing n append group) IsShut = Growing n append group
  becomes s (Growing n append group) (ExtendedTo m) = Sent (suc n) append group
  becomes s phase turn = phase

  -- what it does, the newest step first
  abbrev pub does : MachineState A → ℕ → Phase A → Turn A → List (MachineStep A)
  does s i Idle Assigned = Opens i ∷ []
  does s i Opening (AllSealed n) = ReadsSealed i n ∷ []
  does s i Opening (LastOpen e) = Checks i e ∷ []
  does s i (Checking e) (Found stood end) = ReadsChecked i e stood end ∷ []
  does s i (Sealing e) IsShut = ReadsSealed i (suc e) ∷ []
  does s i (Confirming n live) (ConfirmedIs start end read) = TakesConfirmed i start end read ∷ []
  does s i (Serving n live) (Forms group) = forms i n (length s.story) group live ++ Begins i group ∷ []
  does s i (Sent n append group) (AppendedAt from to) = TakesAppended i append from to ∷ []
  does s i (Closing n append group) IsShut = Extends i n ∷ []
  does s i (Growing n append group) (ExtendedTo m) = Appends i n append group ∷ []
  does s i phase turn = []

  abbrev pub all_next : MachineState A → List (MachineStep A) → MachineState A
  all_next s [] = s
  all_next s (x ∷ earlier) = next A generation (all_next s earlier) x

  -- ---- the stream layer and all incarnations together

  pub record Whole : Type 0 where
    pub state : MachineState A
    pub phase : ℕ → Phase A

  -- what the manager and the nodes do
  abbrev pub is_layer : MachineStep A → Bool
  is_layer (TakesOpen i) = true
  is_layer (TakesExtend i n) = true
  is_layer (TakesConfirm i read end) = true
  is_layer (TakesCheck i v) = true
  is_layer (AnswersCheck i v) = true
  is_layer (AnswersLate i e x) = true
  is_layer (TakesAppend i append group to v) = true
  is_layer (Keeps c rest v) = true
  is_layer (AnswersAppend i append from to group) = true
  is_layer (Seals v) = true
  is_layer _ = false

  pub data Move : Type 0 where
    Below : (step : MachineStep A) → Move
    Above : (i : ℕ) (turn : Turn A) → Move

  abbrev pub MayMove : Whole → Move → Type 0
  MayMove w (Below step) = (is_layer step ≡ true) × May A generation w.state step
  MayMove w (Above i turn) = IsTurn w.state i (w.phase i) turn

  abbrev pub moved : Whole → Move → Whole
  moved w (Below step) = record w { state = next A generation w.state step }
  moved w (Above i turn) =
      record {
        state = all_next w.state (does w.state i (w.phase i) turn);
        phase = λ j. if j == i then becomes w.state (w.phase i) turn else w.phase j;
      }

  abbrev pub at_first : Whole
  at_first = record { state = nothing A generation; phase = λ i. Idle }

  -- the newest first
  abbrev pub after_all : List Move → Whole
  after_all [] = at_first
  after_all (m ∷ earlier) = moved (after_all earlier) m

  abbrev pub AreMoves : List Move → Type 0
  AreMoves [] = Unit {0}
  AreMoves (m ∷ earlier) = MayMove (after_all earlier) m × AreMoves earlier
