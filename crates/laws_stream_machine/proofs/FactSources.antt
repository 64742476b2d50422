-- What stood before each fact of a stream.
use Rattle.std.proofs.Common.{◌≡◌, ℕ, suc, ◌<◌, ◌≤◌, List, [], ◌∷◌, length, Bool, true, false, Option, Some, None, sym, subst, inr, ⊎_elim, if◌then◌else◌, ◌==◌}
use Rattle.model_histories.specs.Story.{Copy}
use Rattle.model_histories.specs.StreamMachine.{In, OpenExtent, StreamCore, Fact, AsksOpen, Opened, AsksCheck, Checked, AsksConfirm, Confirmed, Serves, Begun, AsksAppend, Appended, AsksExtend, Extended, MachineState, MachineStep, TakesOpen, TakesExtend, TakesConfirm, TakesCheck, AnswersCheck, AnswersLate, TakesAppend, Keeps, AnswersAppend, Seals, Opens, Checks, ReadsSealed, ReadsChecked, Begins, Appends, Extends, TakesConfirmed, TakesAppended, May, extend_facts, next, after, IsRun}
use Rattle.model_histories.specs.ServerTurns.{Move, after_all, AreMoves}
use Rattle.laws_tables.proofs.Extents.{followed}
use Rattle.laws_tables.proofs.Turns.{all_good}

module _ (A : Type 0) (gen : ℕ → ℕ) where
  -- what stood before a fact
  abbrev Before : List (Fact A) → Fact A → Type 0
  Before facts (AsksOpen i) = Unit {0}
  Before facts (Opened i n) = Unit {0}
  Before facts (AsksCheck i e) = Unit {0}
  Before facts (Checked i e stood end) = Unit {0}
  Before facts (AsksConfirm i read end) = Unit {0}
  Before facts (Confirmed i read end) = In (AsksConfirm i read end) facts
  Before facts (Serves i) = (read : List (Copy A)) × (end : ℕ) × In (Confirmed i read end) facts
  Before facts (Begun i append group) = Unit {0}
  Before facts (AsksAppend i e append group) = In (Begun i append group) facts
  Before facts (Appended i append from to) = Unit {0}
  Before facts (AsksExtend i n) = In (Serves i) facts
  Before facts (Extended i n m) = Unit {0}

  before_more : (facts : List (Fact A)) (x f : Fact A) → Before facts f → Before (x ∷ facts) f
  before_more facts x (AsksOpen i) b = tt
  before_more facts x (Opened i n) b = tt
  before_more facts x (AsksCheck i e) b = tt
  before_more facts x (Checked i e stood end) b = tt
  before_more facts x (AsksConfirm i read end) b = tt
  before_more facts x (Confirmed i read end) b = inr b
  before_more facts x (Serves i) (read, end, b) = (read, end, inr b)
  before_more facts x (Begun i append group) b = tt
  before_more facts x (AsksAppend i e append group) b = inr b
  before_more facts x (Appended i append from to) b = tt
  before_more facts x (AsksExtend i n) b = inr b
  before_more facts x (Extended i n m) b = tt

  abbrev Rest : List (Fact A) → Type 0
  Rest facts = (f : Fact A) → In f facts → Before facts f

  rest_more : (facts : List (Fact A)) (x : Fact A) → Rest facts → Before facts x → Rest (x ∷ facts)
  rest_more facts x rest b f m =
      ⊎_elim {C = Before (x ∷ facts) f} (λ (e : f ≡ x). subst (Before (x ∷ facts)) (sym e) (before_more facts x x b))
      (λ (old : In f facts). before_more facts x f (rest f old)) m

  extend_rest : (i n : ℕ) (c : StreamCore A) (o : Option (OpenExtent A)) (facts : List (Fact A)) → Rest facts → Rest (extend_facts A gen i n c o facts)
  extend_rest i n c None facts rest = rest_more facts (Extended i n (if n == length c.shut then suc n else length c.shut)) rest tt
  extend_rest i n c (Some v) facts rest = go (n == suc (length c.shut))
    where
      go : (b : Bool) → Rest (if b then facts else Extended i n (suc (length c.shut)) ∷ facts)
      go true = rest
      go false = rest_more facts (Extended i n (suc (length c.shut))) rest tt

  rest_next : (s : MachineState A) (x : MachineStep A) → May A gen s x → Rest s.facts → Rest (next A gen s x).facts
  rest_next s (TakesOpen i) may rest = rest_more s.facts _ rest tt
  rest_next s (TakesExtend i n) may rest = extend_rest i n s.core s.core.live s.facts rest
  rest_next s (TakesConfirm i read end) may rest = rest_more s.facts (Confirmed i read end) rest may.0
  rest_next s (TakesCheck i v) may rest = rest
  rest_next s (AnswersCheck i v) may rest = rest_more s.facts _ rest tt
  rest_next s (AnswersLate i e x) may rest = rest_more s.facts _ rest tt
  rest_next s (TakesAppend i append group to v) may rest = rest
  rest_next s (Keeps c more v) may rest = rest
  rest_next s (AnswersAppend i append from to group) may rest = rest_more s.facts _ rest tt
  rest_next s (Seals v) may rest = rest
  rest_next s (Opens i) may rest = rest_more s.facts _ rest tt
  rest_next s (Checks i e) may rest = rest_more s.facts _ rest tt
  rest_next s (ReadsSealed i n) may rest = rest_more s.facts _ rest tt
  rest_next s (ReadsChecked i e stood end) may rest = rest_more s.facts _ rest tt
  rest_next s (Begins i group) may rest = rest_more s.facts _ rest tt
  rest_next s (Appends i e append group) may rest = rest_more s.facts (AsksAppend i e append group) rest may
  rest_next s (Extends i n) may rest = rest_more s.facts (AsksExtend i n) rest may
  rest_next s (TakesConfirmed i start end read) may rest = rest_more s.facts (Serves i) rest (read, end, may)
  rest_next s (TakesAppended i append from to) may rest = rest

  rest_after : (steps : List (MachineStep A)) → IsRun A gen steps → Rest (after A gen steps).facts
  rest_after [] ok = λ f m. absurd m
  rest_after (x ∷ earlier) ok = rest_next (after A gen earlier) x ok.0 (rest_after earlier ok.1)

  -- what is known of the facts of a state that moves lead to
  pub record Lawful (s : MachineState A) : Type 0 where
    pub opened : (i n : ℕ) → In (Opened i n) s.facts → (0 < gen i) × (gen i ≤ s.core.fence)
    pub confirms : (i : ℕ) (read : List (Copy A)) (end : ℕ) → In (AsksConfirm i read end) s.facts → (n : ℕ) × In (Opened i n) s.facts
    pub extends : (i n : ℕ) → In (AsksExtend i n) s.facts → (m : ℕ) × In (Opened i m) s.facts
    pub begun : (i e append : ℕ) (group : A) → In (AsksAppend i e append group) s.facts → In (Begun i append group) s.facts

  lawful_after : (steps : List (MachineStep A)) → IsRun A gen steps → Lawful (after A gen steps)
  lawful_after steps ok =
      let s : MachineState A = after A gen steps in
      let (run, inv) = followed A gen steps ok in
      let rest : Rest s.facts = rest_after steps ok in
      record {
        opened = λ i n m. let k = inv.facts (Opened i n) m in (k.0, k.1);
        confirms = inv.opened;
        extends = λ i n m.
            let (read, end, there) = rest (Serves i) (rest (AsksExtend i n) m) in
            inv.opened i read end (rest (Confirmed i read end) there);
        begun = λ i e append group m. rest (AsksAppend i e append group) m;
      }

  pub lawful : (moves : List (Move A gen)) → AreMoves A gen moves → Lawful (after_all A gen moves).state
  lawful moves ok =
      let good = all_good A gen moves ok in
      subst Lawful (sym (good.0).2) (lawful_after (good.0).0 (good.0).1)
