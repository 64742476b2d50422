-- A stream that was built of another's keeps its order, and each append of its source that was answered, whenever that was.
use Rattle.std.proofs.Common.{◌≡◌, ℕ, ◌+◌, ◌<◌, ◌≤◌, List, [], ◌∷◌, ◌++◌, length, map, Some, refl, sym, ap, ◌∙◌, subst, inl, inr, ⊎_elim, arith, append_assoc, length-append}
use Rattle.std.specs.Prelude.{Contains}
use Rattle.std.proofs.lemmas.Bool.{cases_eq}
use Rattle.model_histories.specs.Story.{Placed, StreamEvent, Made, Answered, Showed, Story, event_at, Copy, placed, from_place, KeepsOrder}
use Rattle.model_histories.specs.StreamMachine.{In, Fact, Confirmed, MachineState, MachineStep, TakesOpen, TakesExtend, TakesConfirm, TakesCheck, AnswersCheck, AnswersLate, TakesAppend, Keeps, AnswersAppend, Seals, Opens, Checks, ReadsSealed, ReadsChecked, Begins, Appends, Extends, TakesConfirmed, TakesAppended, next, after, IsRun}
use Rattle.model_histories.specs.ServerTurns.{Below, Above, Move, does, all_next, after_all, AreMoves}
use Rattle.laws_tables.specs.Built.{ReadsInOrder, story_of, HasLoad, AnsweredBy, KeepsSource}
use Rattle.laws_tables.specs.Fenced.{Fenced}
use Rattle.laws_tables.proofs.Extents.{Ok, Inv, Follows, followed}
use Rattle.laws_tables.proofs.Fenced.{keeps_order, read_copies, made_first}
use Rattle.laws_tables.proofs.Members.{in_contains, contains_in, in_left}
use Rattle.laws_tables.proofs.Range.{older, event_cases}
use Rattle.laws_tables.proofs.Turns.{stays, Good, all_good}

module _ (A : Type 0) (gen : ℕ → ℕ) where
  -- ---- the copies of each load are what was read

  abbrev HasReads : List (Fact A) → Story A → Type 0
  HasReads facts story =
      (order : KeepsOrder story)
      × ((l g start end i to : ℕ) (groups : List (Placed A)) (read : List (Copy A)) → event_at story l ≡ Some (Showed g start end groups) →
      In (Confirmed i read to) facts → gen i ≡ g → order.copies l ≡ read)

  steps_in_order : (steps : List (MachineStep A)) → IsRun A gen steps → ReadsInOrder gen (after A gen steps)
  steps_in_order steps ok =
      let f : Follows A gen (after A gen steps) = followed A gen steps ok in
      let inv : Inv A gen (after A gen steps) f.0 = f.1 in
      let r : HasReads (after A gen steps).facts (after A gen steps).story = subst (HasReads (after A gen steps).facts) inv.seen (
        keeps_order A f.0 inv.is_run,
        λ l g start end i to groups read h there at.
            let k : Ok A gen (after A gen steps).core f.0 (Confirmed i read to) = inv.facts (Confirmed i read to) there in
            read_copies A f.0 inv.is_run l g start end groups h (k.1).0 (k.1).1 to (subst (λ z. f.0 ≡ (k.1).0 ++ Fenced z to ∷ (k.1).1) at (k.1).2) ∙ sym (k.1).3,
      ) in
      record { order = r.0; reads = r.1 }

  pub moves_in_order : (moves : List (Move A gen)) → AreMoves A gen moves → ReadsInOrder gen (after_all A gen moves).state
  moves_in_order moves ok =
      let good : Good A gen (after_all A gen moves) = all_good A gen moves ok in
      subst (ReadsInOrder gen) (sym (good.0).2) (steps_in_order (good.0).0 (good.0).1)

  -- an append is made before it is answered
  abbrev AnswersLater : Story A → Type 0
  AnswersLater story = (k a from to : ℕ) → event_at story k ≡ Some (Answered a from to) → a < k

  moves_answer_later : (moves : List (Move A gen)) → AreMoves A gen moves → AnswersLater (story_of A gen moves)
  moves_answer_later moves ok =
      let good : Good A gen (after_all A gen moves) = all_good A gen moves ok in
      let f : Follows A gen (after A gen (good.0).0) = followed A gen (good.0).0 (good.0).1 in
      subst (λ z. AnswersLater z.story) (sym (good.0).2) (subst AnswersLater (f.1).seen (λ k a from to h. made_first A f.0 (f.1).is_run k a from to h))

  -- ---- what is known and seen stays

  abbrev IsBehind : Story A → Story A → Type 0
  IsBehind story later = (front : Story A) × (later ≡ front ++ story)

  behind_step : (s : MachineState A) (x : MachineStep A) → IsBehind s.story (next A gen s x).story
  behind_step s (TakesOpen i) = ([], refl)
  behind_step s (TakesExtend i n) = ([], refl)
  behind_step s (TakesConfirm i read end) = ([], refl)
  behind_step s (TakesCheck i v) = ([], refl)
  behind_step s (AnswersCheck i v) = ([], refl)
  behind_step s (AnswersLate i e x) = ([], refl)
  behind_step s (TakesAppend i append group to v) = ([], refl)
  behind_step s (Keeps c rest v) = ([], refl)
  behind_step s (AnswersAppend i append from to group) = ([], refl)
  behind_step s (Seals v) = ([], refl)
  behind_step s (Opens i) = ([], refl)
  behind_step s (Checks i e) = ([], refl)
  behind_step s (ReadsSealed i n) = ([], refl)
  behind_step s (ReadsChecked i e stood end) = ([], refl)
  behind_step s (Begins i group) = (Made (gen i) group ∷ [], refl)
  behind_step s (Appends i e append group) = ([], refl)
  behind_step s (Extends i n) = ([], refl)
  behind_step s (TakesConfirmed i start end read) = (Showed (gen i) start end (map placed (from_place start read)) ∷ [], refl)
  behind_step s (TakesAppended i append from to) = (Answered append from to ∷ [], refl)

  behind_more : (x y z : Story A) → IsBehind x y → IsBehind y z → IsBehind x z
  behind_more x y z p q = (q.0 ++ p.0, q.1 ∙ ap (λ w. q.0 ++ w) p.1 ∙ sym (append_assoc q.0 p.0 x))

  behind_all : (s : MachineState A) (steps : List (MachineStep A)) → IsBehind s.story (all_next A gen s steps).story
  behind_all s [] = ([], refl)
  behind_all s (x ∷ earlier) = behind_more s.story (all_next A gen s earlier).story (next A gen (all_next A gen s earlier) x).story (behind_all s earlier) (behind_step (all_next A gen s earlier) x)

  known_all : (s : MachineState A) (steps : List (MachineStep A)) (f : Fact A) → In f s.facts → In f (all_next A gen s steps).facts
  known_all s [] f i = i
  known_all s (x ∷ earlier) f i = stays A gen (all_next A gen s earlier) x f (known_all s earlier f i)

  behind_moves : (later early : List (Move A gen)) → IsBehind (story_of A gen early) (story_of A gen (later ++ early))
  behind_moves [] early = ([], refl)
  behind_moves (Below x ∷ later) early =
      behind_more (story_of A gen early) (story_of A gen (later ++ early)) (story_of A gen (Below x ∷ (later ++ early))) (behind_moves later early) (behind_step (after_all A gen (later ++ early)).state x)
  behind_moves (Above i turn ∷ later) early =
      behind_more (story_of A gen early) (story_of A gen (later ++ early)) (story_of A gen (Above i turn ∷ (later ++ early))) (behind_moves later early)
      (behind_all (after_all A gen (later ++ early)).state (does A gen (after_all A gen (later ++ early)).state i ((after_all A gen (later ++ early)).phase i) turn))

  known_moves : (later early : List (Move A gen)) (f : Fact A) → In f (after_all A gen early).state.facts → In f (after_all A gen (later ++ early)).state.facts
  known_moves [] early f i = i
  known_moves (Below x ∷ later) early f i = stays A gen (after_all A gen (later ++ early)).state x f (known_moves later early f i)
  known_moves (Above j turn ∷ later) early f i =
      known_all (after_all A gen (later ++ early)).state (does A gen (after_all A gen (later ++ early)).state j ((after_all A gen (later ++ early)).phase j) turn) f (known_moves later early f i)

  event_behind : (story later : Story A) → IsBehind story later → (n : ℕ) (x : StreamEvent A) → event_at story n ≡ Some x → event_at later n ≡ Some x
  event_behind story later b n x h = subst (λ z. event_at z n ≡ Some x) (sym b.1) (go b.0)
    where
      go : (front : Story A) → event_at (front ++ story) n ≡ Some x
      go [] = h
      go (e ∷ front) = older A e (front ++ story) n x (go front)

  -- each front that is long enough has the event
  event_within : (story later : Story A) → IsBehind story later → (n : ℕ) (x : StreamEvent A) → event_at later n ≡ Some x → n < length story → event_at story n ≡ Some x
  event_within story later b n x h lt = go b.0 (subst (λ z. event_at z n ≡ Some x) b.1 h)
    where
      go : (front : Story A) → event_at (front ++ story) n ≡ Some x → event_at story n ≡ Some x
      go [] q = q
      go (e ∷ front) q =
          let len : length (front ++ story) ≡ length front + length story = length-append front story in
          ⊎_elim {C = event_at story n ≡ Some x} (λ (z : (n ≡ length (front ++ story)) × (e ≡ x)). let at : n ≡ length (front ++ story) = z.0 in absurd (omega arith)) (λ o. go front o) (event_cases A e (front ++ story) n x q)

  -- ---- each load was confirmed

  abbrev pub WasConfirmed : MachineState A → ℕ → Type 0
  WasConfirmed s g = (i : ℕ) × (read : List (Copy A)) × (to : ℕ) × In (Confirmed i read to) s.facts × (gen i ≡ g)

  confirmed_later : (s : MachineState A) (x : MachineStep A) (g : ℕ) → WasConfirmed s g → WasConfirmed (next A gen s x) g
  confirmed_later s x g c = (c.0, c.1, c.2, stays A gen s x (Confirmed c.0 c.1 c.2) c.3, c.4)

  load_confirmed : (steps : List (MachineStep A)) → IsRun A gen steps → (l g start end : ℕ) (groups : List (Placed A)) → event_at (after A gen steps).story l ≡ Some (Showed g start end groups) →
      WasConfirmed (after A gen steps) g
  load_confirmed [] ok l g start end groups h = absurd (cc)
  load_confirmed (TakesConfirmed i from to read ∷ earlier) ok l g start end groups h =
      elim (event_cases A (Showed (gen i) from to (map placed (from_place from read))) (after A gen earlier).story l (Showed g start end groups) h) as (λ x. WasConfirmed (after A gen (TakesConfirmed i from to read ∷ earlier)) g) [
        | inl q ↦ (i, read, to, inr ok.0, (let r : Showed (gen i) from to (map placed (from_place from read)) ≡ Showed g start end groups = q.1 in let e : gen i ≡ g = cc in e))
        | inr o ↦ confirmed_later (after A gen earlier) (TakesConfirmed i from to read) g (load_confirmed earlier ok.1 l g start end groups o)
      ]
  load_confirmed (Begins i group ∷ earlier) ok l g start end groups h =
      elim (event_cases A (Made (gen i) group) (after A gen earlier).story l (Showed g start end groups) h) as (λ x. WasConfirmed (after A gen (Begins i group ∷ earlier)) g) [
        | inl q ↦ absurd (let r : Made (gen i) group ≡ Showed g start end groups = q.1 in cc)
        | inr o ↦ confirmed_later (after A gen earlier) (Begins i group) g (load_confirmed earlier ok.1 l g start end groups o)
      ]
  load_confirmed (TakesAppended i append from to ∷ earlier) ok l g start end groups h =
      elim (event_cases A (Answered append from to) (after A gen earlier).story l (Showed g start end groups) h) as (λ x. WasConfirmed (after A gen (TakesAppended i append from to ∷ earlier)) g) [
        | inl q ↦ absurd (let r : Answered append from to ≡ Showed g start end groups = q.1 in cc)
        | inr o ↦ confirmed_later (after A gen earlier) (TakesAppended i append from to) g (load_confirmed earlier ok.1 l g start end groups o)
      ]
  load_confirmed (TakesOpen i ∷ earlier) ok l g start end groups h = confirmed_later (after A gen earlier) (TakesOpen i) g (load_confirmed earlier ok.1 l g start end groups h)
  load_confirmed (TakesExtend i n ∷ earlier) ok l g start end groups h = confirmed_later (after A gen earlier) (TakesExtend i n) g (load_confirmed earlier ok.1 l g start end groups h)
  load_confirmed (TakesConfirm i read e ∷ earlier) ok l g start end groups h = confirmed_later (after A gen earlier) (TakesConfirm i read e) g (load_confirmed earlier ok.1 l g start end groups h)
  load_confirmed (TakesCheck i v ∷ earlier) ok l g start end groups h = confirmed_later (after A gen earlier) (TakesCheck i v) g (load_confirmed earlier ok.1 l g start end groups h)
  load_confirmed (AnswersCheck i v ∷ earlier) ok l g start end groups h = confirmed_later (after A gen earlier) (AnswersCheck i v) g (load_confirmed earlier ok.1 l g start end groups h)
  load_confirmed (AnswersLate i e x ∷ earlier) ok l g start end groups h = confirmed_later (after A gen earlier) (AnswersLate i e x) g (load_confirmed earlier ok.1 l g start end groups h)
  load_confirmed (TakesAppend i append group to v ∷ earlier) ok l g start end groups h = confirmed_later (after A gen earlier) (TakesAppend i append group to v) g (load_confirmed earlier ok.1 l g start end groups h)
  load_confirmed (Keeps c rest v ∷ earlier) ok l g start end groups h = confirmed_later (after A gen earlier) (Keeps c rest v) g (load_confirmed earlier ok.1 l g start end groups h)
  load_confirmed (AnswersAppend i append from to group ∷ earlier) ok l g start end groups h = confirmed_later (after A gen earlier) (AnswersAppend i append from to group) g (load_confirmed earlier ok.1 l g start end groups h)
  load_confirmed (Seals v ∷ earlier) ok l g start end groups h = confirmed_later (after A gen earlier) (Seals v) g (load_confirmed earlier ok.1 l g start end groups h)
  load_confirmed (Opens i ∷ earlier) ok l g start end groups h = confirmed_later (after A gen earlier) (Opens i) g (load_confirmed earlier ok.1 l g start end groups h)
  load_confirmed (Checks i e ∷ earlier) ok l g start end groups h = confirmed_later (after A gen earlier) (Checks i e) g (load_confirmed earlier ok.1 l g start end groups h)
  load_confirmed (ReadsSealed i n ∷ earlier) ok l g start end groups h = confirmed_later (after A gen earlier) (ReadsSealed i n) g (load_confirmed earlier ok.1 l g start end groups h)
  load_confirmed (ReadsChecked i e stood to ∷ earlier) ok l g start end groups h = confirmed_later (after A gen earlier) (ReadsChecked i e stood to) g (load_confirmed earlier ok.1 l g start end groups h)
  load_confirmed (Appends i e append group ∷ earlier) ok l g start end groups h = confirmed_later (after A gen earlier) (Appends i e append group) g (load_confirmed earlier ok.1 l g start end groups h)
  load_confirmed (Extends i n ∷ earlier) ok l g start end groups h = confirmed_later (after A gen earlier) (Extends i n) g (load_confirmed earlier ok.1 l g start end groups h)

  pub moves_confirmed : (moves : List (Move A gen)) → AreMoves A gen moves → (l g start end : ℕ) (groups : List (Placed A)) → event_at (story_of A gen moves) l ≡ Some (Showed g start end groups) →
      WasConfirmed (after_all A gen moves).state g
  moves_confirmed moves ok l g start end groups h =
      let good : Good A gen (after_all A gen moves) = all_good A gen moves ok in
      subst (λ z. WasConfirmed z g) (sym (good.0).2) (load_confirmed (good.0).0 (good.0).1 l g start end groups (subst (λ z. event_at z.story l ≡ Some (Showed g start end groups)) (good.0).2 h))

  early_moves : (later early : List (Move A gen)) → AreMoves A gen (later ++ early) → AreMoves A gen early
  early_moves [] early ok = ok
  early_moves (m ∷ later) early ok = early_moves later early ok.1

  -- ---- two streams that had one beginning

  -- each load of the beginning is for both one of the same copies
  pub same_copies : (early late own : List (Move A gen)) → AreMoves A gen (late ++ early) →
      (s : ReadsInOrder gen (after_all A gen (late ++ early)).state) (b : ReadsInOrder gen (after_all A gen (own ++ early)).state) →
      (l g start end : ℕ) (groups : List (Placed A)) → event_at (story_of A gen early) l ≡ Some (Showed g start end groups) → b.order.copies l ≡ s.order.copies l
  same_copies early late own ok s b l g start end groups h =
      let c : WasConfirmed (after_all A gen early).state g = moves_confirmed early (early_moves late early ok) l g start end groups h in
      b.reads l g start end c.0 c.2 groups c.1 (event_behind (story_of A gen early) (story_of A gen (own ++ early)) (behind_moves own early) l (Showed g start end groups) h) (known_moves own early (Confirmed c.0 c.1 c.2) c.3) c.4
      ∙ sym (s.reads l g start end c.0 c.2 groups c.1 (event_behind (story_of A gen early) (story_of A gen (late ++ early)) (behind_moves late early) l (Showed g start end groups) h) (known_moves late early (Confirmed c.0 c.1 c.2) c.3) c.4)

  -- THE LAW OF A STREAM THAT WAS BUILT OF ANOTHER
  pub built_keeps_source : (early late own : List (Move A gen)) → AreMoves A gen (late ++ early) → AreMoves A gen (own ++ early) → KeepsSource A gen early late own
  built_keeps_source early late own ok_source ok_built = record {
    source = moves_in_order (late ++ early) ok_source;
    built = moves_in_order (own ++ early) ok_built;
    shared = same_copies early late own ok_source (moves_in_order (late ++ early) ok_source) (moves_in_order (own ++ early) ok_built);
    stands = λ g a g' k from to m h start end x groups load answered made low answer shown up. contains_in (record { from = from; to = to; append = a; group = x }) ((moves_in_order (own ++ early) ok_built).order.copies m)
        (stands g a g' k from to m h start end x groups load answered made low answer shown up);
  }
    where
      stands : (g a g' k from to m h start end : ℕ) (x : A) (groups : List (Placed A)) → HasLoad A gen (story_of A gen early) g → AnsweredBy A gen g (story_of A gen early) (story_of A gen (late ++ early)) →
          event_at (story_of A gen (late ++ early)) a ≡ Some (Made g' x) → g' ≤ g → event_at (story_of A gen (late ++ early)) k ≡ Some (Answered a from to) →
          event_at (story_of A gen (own ++ early)) m ≡ Some (Showed h start end groups) → g < h → In (record { from = from; to = to; append = a; group = x }) ((moves_in_order (own ++ early) ok_built).order.copies m)
      stands g a g' k from to m h start end x groups load answered made low answer shown up =
          let s : ReadsInOrder gen (after_all A gen (late ++ early)).state = moves_in_order (late ++ early) ok_source in
          let b : ReadsInOrder gen (after_all A gen (own ++ early)).state = moves_in_order (own ++ early) ok_built in
          elim (cases_eq g' g) as (λ z. In (record { from = from; to = to; append = a; group = x }) ((moves_in_order (own ++ early) ok_built).order.copies m)) [
            | inl e ↦
                let lt : k < length (story_of A gen early) = answered a k from to x (subst (λ z. event_at (story_of A gen (late ++ early)) a ≡ Some (Made z x)) e made) answer in
                let early_answer : event_at (story_of A gen early) k ≡ Some (Answered a from to) = event_within (story_of A gen early) (story_of A gen (late ++ early)) (behind_moves late early) k (Answered a from to) answer lt in
                let first : a < k = moves_answer_later (late ++ early) ok_source k a from to answer in
                let early_made : event_at (story_of A gen early) a ≡ Some (Made g' x) = event_within (story_of A gen early) (story_of A gen (late ++ early)) (behind_moves late early) a (Made g' x) made (omega arith) in
                in_contains (record { from = from; to = to; append = a; group = x }) (b.order.copies m)
                (b.order.answered m h start end a g' k from to groups x shown
                (event_behind (story_of A gen early) (story_of A gen (own ++ early)) (behind_moves own early) a (Made g' x) early_made) (omega arith)
                (event_behind (story_of A gen early) (story_of A gen (own ++ early)) (behind_moves own early) k (Answered a from to) early_answer))
            | inr ne ↦
                let here : Contains (s.order.copies load.0) (record { from = from; to = to; append = a; group = x }) =
                s.order.answered load.0 g load.1 load.2 a g' k from to load.3 x
                (event_behind (story_of A gen early) (story_of A gen (late ++ early)) (behind_moves late early) load.0 (Showed g load.1 load.2 load.3) load.4) made (omega arith) answer in
                let there : In (record { from = from; to = to; append = a; group = x }) (b.order.copies load.0) =
                subst (In (record { from = from; to = to; append = a; group = x })) (sym (same_copies early late own ok_source s b load.0 g load.1 load.2 load.3 load.4))
                (in_contains (record { from = from; to = to; append = a; group = x }) (s.order.copies load.0) here) in
                let begins : (rest : List (Copy A)) × (b.order.copies m ≡ b.order.copies load.0 ++ rest)
                × ((c : Copy A) → Contains rest c → (load.2 ≤ c.from) × ((g'' : ℕ) (group : A) → event_at (story_of A gen (own ++ early)) c.append ≡ Some (Made g'' group) → g ≤ g'')) =
                b.order.begins load.0 m g h load.1 load.2 start end load.3 groups
                (event_behind (story_of A gen early) (story_of A gen (own ++ early)) (behind_moves own early) load.0 (Showed g load.1 load.2 load.3) load.4) shown up in
                subst (In (record { from = from; to = to; append = a; group = x })) (sym begins.1) (in_left (record { from = from; to = to; append = a; group = x }) (b.order.copies load.0) begins.0 there)
          ]
