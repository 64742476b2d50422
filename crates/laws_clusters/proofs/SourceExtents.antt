-- A stream that was built of another's when all of its extents were sealed: what comes to stand in it since stands behind these, and is of no append
-- that its source had begun by then under a generation that rests.
use Rattle.std.proofs.Common.{◌≡◌, ℕ, zero, suc, ◌+◌, ◌≤◌, ◌<◌, List, ◌∷◌, [], ◌++◌, length, map, Bool, true, false, Option, Some, None, refl, sym, ap, ◌∙◌, subst, ⊎_elim, arith, if◌then◌else◌, ◌==◌, append_assoc, append-nil, length-append}
use Rattle.std.specs.List.{AllByRecursion}
use Rattle.std.proofs.lemmas.Bool.{eqb-true}
use Rattle.replica.specs.Groups.{Group}
use Rattle.model_histories.specs.Story.{Made, Answered, Showed, Story, event_at, Copy, Ascending, placed, from_place}
use Rattle.model_histories.specs.StreamMachine.{In, SealedExtent, OpenExtent, StreamCore, all_shut, count, one_if_live, Fact, AsksOpen, Opened as OpenedAs, AsksCheck, Checked, AsksConfirm, Confirmed, Serves, Begun, AsksAppend, Appended, AsksExtend, Extended, MachineState, MachineStep, TakesOpen, TakesExtend, TakesConfirm, TakesCheck, AnswersCheck, AnswersLate, TakesAppend, Keeps, AnswersAppend, Seals, Opens, Checks, ReadsSealed, ReadsChecked, Begins, Appends, Extends, TakesConfirmed, TakesAppended, with_live, new_live, new_copy, extended, extend_facts, all_copies, May, next}
use Rattle.model_histories.specs.ServerTurns.{Phase, Idle, Opening, Checking, Sealing, Confirming, Serving, Sent, Closing, Growing, Turn, Assigned, AllSealed, LastOpen, Found, Fails, IsShut, ConfirmedIs, Forms, AppendedAt, ExtendedTo, IsTurn, becomes, does, all_next, Whole, is_layer, Move, Below, Above, after_all, AreMoves}
use Rattle.laws_tables.specs.Built.{story_of}
use Rattle.laws_tables.specs.Fenced.{Fenced, LogRun, visible, landed, IsLogRun}
use Rattle.laws_tables.proofs.Extents.{Inv, followed}
use Rattle.laws_tables.proofs.Fenced.{Later, later, Sound, sound, in_order, made_below}
use Rattle.laws_tables.proofs.Range.{older, bound}
use Rattle.laws_tables.proofs.Turns.{Good, all_good}
use Rattle.laws_clusters.proofs.KnownExtents.{asks_within}
use Rattle.laws_clusters.proofs.RestingIncarnations.{out_of, Rests, GoesOn, stands_early}

module _ (generation : ℕ → ℕ) where
  abbrev Moves : Type 0
  Moves = List (Move Group generation)

  abbrev State : Type 0
  State = MachineState Group

  abbrev state : Moves → State
  state moves = (after_all Group generation moves).state

  abbrev story : Moves → Story Group
  story moves = story_of Group generation moves

  -- ---- the plain log of a machine

  abbrev Logs : State → Type 0
  Logs s = (run : LogRun Group) × Inv Group generation s run

  logs : (moves : Moves) → AreMoves Group generation moves → Logs (state moves)
  logs moves ok =
      let good : Good Group generation (after_all Group generation moves) = all_good Group generation moves ok in
      subst Logs (sym (good.0).2) (followed Group generation (good.0).0 (good.0).1)

  -- an append that is asked for was begun
  asked_made : (moves : Moves) → AreMoves Group generation moves → (i e append : ℕ) (group : Group) → In (AsksAppend i e append group) (state moves).facts → event_at (story moves) append ≡ Some (Made (generation i) group)
  asked_made moves ok i e append group there =
      let l : Logs (state moves) = logs moves ok in
      subst (λ z. event_at z append ≡ Some (Made (generation i) group)) (l.1).seen ((l.1).facts (AsksAppend i e append group) there).1

  -- each copy that stands is of an append that was begun
  pub stands_begun : (moves : Moves) → AreMoves Group generation moves → (c : Copy Group) → In c (all_copies Group generation (state moves).core (state moves).core.live) → c.append < length (story moves)
  stands_begun moves ok c there =
      let l : Logs (state moves) = logs moves ok in
      let s : Sound Group l.0 c = sound Group l.0 (l.1).is_run c (subst (In c) (sym (l.1).kept) there) in
      subst (λ z. c.append < length z) (l.1).seen (bound Group (visible l.0) c.append (Made s.generation c.group) s.made)

  -- nothing was begun under a generation above the manager's fence
  pub made_low : (moves : Moves) → AreMoves Group generation moves → (a h : ℕ) (group : Group) → event_at (story moves) a ≡ Some (Made h group) → h ≤ (state moves).core.fence
  made_low moves ok a h group made =
      let l : Logs (state moves) = logs moves ok in
      let low = (l.1).low in
      let below = made_below Group l.0 (l.1).is_run a h group (subst (λ z. event_at z a ≡ Some (Made h group)) (sym (l.1).seen) made) in
      omega (arith, low, below)

  -- copies stand in order
  pub stands_ascending : (moves : Moves) → AreMoves Group generation moves → Ascending (all_copies Group generation (state moves).core (state moves).core.live)
  stands_ascending moves ok = let l : Logs (state moves) = logs moves ok in subst (λ copies. Ascending copies) (l.1).kept (in_order Group l.0 (l.1).is_run)

  -- what was confirmed to have been read begins what stands
  pub read_stands : (moves : Moves) → AreMoves Group generation moves → (i : ℕ) (read : List (Copy Group)) (end : ℕ) → In (Confirmed i read end) (state moves).facts →
      (rest : List (Copy Group)) × (all_copies Group generation (state moves).core (state moves).core.live ≡ read ++ rest)
  read_stands moves ok i read end there =
      let l : Logs (state moves) = logs moves ok in
      let fact = ((l.1).facts (Confirmed i read end) there).1 in
      let is : l.0 ≡ (fact.0 ++ Fenced (generation i) end ∷ []) ++ fact.1 = fact.2 ∙ sym (append_assoc fact.0 (Fenced (generation i) end ∷ []) fact.1) in
      let on : Later Group ((fact.0 ++ Fenced (generation i) end ∷ []) ++ fact.1) fact.1 = later Group (fact.0 ++ Fenced (generation i) end ∷ []) fact.1 (subst (IsLogRun {A = Group}) is (l.1).is_run) in
      (on.rest, sym (l.1).kept ∙ ap landed is ∙ on.is ∙ ap (λ z. z ++ on.rest) (sym fact.3))

  -- ---- since the stream was built

  module _ (g : ℕ) (early : Moves) (ok_early : AreMoves Group generation early) (closed : (state early).core.live ≡ None) (rests : Rests generation g early) where
    abbrev shut_then : List (SealedExtent Group)
    shut_then = (state early).core.shut

    abbrev front : Story Group
    front = story early

    -- the append of a copy was begun since, or under another generation
    abbrev IsOther : Copy Group → Type 0
    IsOther c = c.append < length (story early) → (i : ℕ) × (group : Group) × (generation i ≡ g → ⊥) × (event_at (story early) c.append ≡ Some (Made (generation i) group))

    abbrev AreOther : List (Copy Group) → Type 0
    AreOther copies = AllByRecursion IsOther copies

    both : (xs ys : List (Copy Group)) → AreOther xs → AreOther ys → AreOther (xs ++ ys)
    both [] ys a b = b
    both (x ∷ xs) ys a b = (a.0, both xs ys a.1 b)

    left : (xs ys : List (Copy Group)) → AreOther (xs ++ ys) → AreOther xs
    left [] ys a = tt
    left (x ∷ xs) ys a = (a.0, left xs ys a.1)

    one_of : (xs : List (Copy Group)) → AreOther xs → (c : Copy Group) → In c xs → IsOther c
    one_of [] a c there = absurd there
    one_of (x ∷ xs) a c there = ⊎_elim {C = IsOther c} (λ (same : c ≡ x). subst IsOther (sym same) a.0) (λ more. one_of xs a.1 c more) there

    record Since (s : State) (phase : ℕ → Phase Group) : Type 0 where
      newer : List (SealedExtent Group)
      shut : s.core.shut ≡ newer ++ (state early).core.shut
      sealed : AreOther (all_shut newer)
      live : (v : OpenExtent Group) → s.core.live ≡ Some v → AreOther (v.kept ++ v.loose)
      asks : (i e a : ℕ) (x : Group) → In (AsksAppend i e a x) s.facts → generation i ≡ g → a < length (story early) → e < length (state early).core.shut
      outs : (i a : ℕ) → generation i ≡ g → out_of (phase i) ≡ Some a → length (story early) ≤ a
      goes : GoesOn generation (story early) s.story

    -- with no more asked for
    abbrev AsksNoMore : State → State → Type 0
    AsksNoMore s t = (i e a : ℕ) (x : Group) → In (AsksAppend i e a x) t.facts → In (AsksAppend i e a x) s.facts

    since_as : (s t : State) (phase : ℕ → Phase Group) → t.core.shut ≡ s.core.shut → ((v : OpenExtent Group) → t.core.live ≡ Some v → AreOther (v.kept ++ v.loose)) → AsksNoMore s t → t.story ≡ s.story → Since s phase → Since t phase
    since_as s t phase shut live asks same k = record {
      newer = k.newer;
      shut = shut ∙ k.shut;
      sealed = k.sealed;
      live = live;
      asks = λ i e a x there. k.asks i e a x (asks i e a x there);
      outs = k.outs;
      goes = subst (GoesOn generation (story early)) (sym same) k.goes;
    }

    -- another fact is no asking
    no_more : (s : State) (f : Fact Group) → ((i e a : ℕ) (x : Group) → AsksAppend i e a x ≡ f → ⊥) → (i e a : ℕ) (x : Group) → In (AsksAppend i e a x) (f ∷ s.facts) → In (AsksAppend i e a x) s.facts
    no_more s f apart i e a x there = ⊎_elim {C = In (AsksAppend i e a x) s.facts} (λ (same : AsksAppend i e a x ≡ f). absurd (apart i e a x same)) (λ old. old) there

    told : (s : State) (phase : ℕ → Phase Group) (f : Fact Group) → ((i e a : ℕ) (x : Group) → AsksAppend i e a x ≡ f → ⊥) → Since s phase → Since (record s { facts = f ∷ s.facts }) phase
    told s phase f apart k = since_as s (record s { facts = f ∷ s.facts }) phase refl k.live (no_more s f apart) refl k

    -- another last extent, of the same copies
    lives : (s : State) (phase : ℕ → Phase Group) (w : OpenExtent Group) → AreOther (w.kept ++ w.loose) → Since s phase → Since (record s { core = record s.core { live = Some w } }) phase
    lives s phase w own k =
        since_as s (record s { core = record s.core { live = Some w } }) phase refl (λ v is. (let same : w ≡ v = cc in subst (λ (z : OpenExtent Group). AreOther (z.kept ++ z.loose)) same own)) (λ i e a x there. there) refl k

    extends_live : (s : State) (phase : ℕ → Phase Group) (i n : ℕ) (b : Bool) (m : ℕ) → Since s phase → Since (record s { facts = if b then s.facts else Extended i n m ∷ s.facts }) phase
    extends_live s phase i n true m k = k
    extends_live s phase i n false m k = told s phase (Extended i n m) (λ j e a x. λ z. cc) k

    extends_none : (s : State) (phase : ℕ → Phase Group) (i n : ℕ) (b : Bool) (m : ℕ) → Since s phase →
        Since (record s { core = if b then with_live Group generation s.core (new_live Group generation s.core (generation i)) else s.core; facts = Extended i n m ∷ s.facts }) phase
    extends_none s phase i n true m k =
        lives (record s { facts = Extended i n m ∷ s.facts }) phase (new_live Group generation s.core (generation i)) tt (told s phase (Extended i n m) (λ j e a x. λ z. cc) k)
    extends_none s phase i n false m k = told s phase (Extended i n m) (λ j e a x. λ z. cc) k

    extends_since : (s : State) (phase : ℕ → Phase Group) (i n : ℕ) (o : Option (OpenExtent Group)) → Since s phase →
        Since (record s { core = extended Group generation s.core (generation i) n o; facts = extend_facts Group generation i n s.core o s.facts }) phase
    extends_since s phase i n (Some v) k = extends_live s phase i n (n == suc (length s.core.shut)) (suc (length s.core.shut)) k
    extends_since s phase i n None k = extends_none s phase i n (n == length s.core.shut) (if n == length s.core.shut then suc n else length s.core.shut) k

    layer_since : (s : State) (phase : ℕ → Phase Group) (x : MachineStep Group) → is_layer Group generation x ≡ true → May Group generation s x →
        ((i e a : ℕ) (y : Group) → In (AsksAppend i e a y) s.facts → event_at s.story a ≡ Some (Made (generation i) y)) → Since s phase → Since (next Group generation s x) phase
    layer_since s phase (TakesOpen i) layer may made k = since_as s (next Group generation s (TakesOpen i)) phase refl k.live (no_more s (OpenedAs i (count s.core)) (λ j e a x z. cc)) refl k
    layer_since s phase (TakesExtend i n) layer may made k = extends_since s phase i n s.core.live k
    layer_since s phase (TakesConfirm i read end) layer may made k = told s phase (Confirmed i read end) (λ j e a x z. cc) k
    layer_since s phase (TakesCheck i v) layer may made k = lives s phase (record v { fence = generation i }) (k.live v may.1) k
    layer_since s phase (AnswersCheck i v) layer may made k = told s phase (Checked i (length s.core.shut) v.kept v.sure) (λ j e a x z. cc) k
    layer_since s phase (AnswersLate i e x) layer may made k = told s phase (Checked i e x.copies x.end) (λ j e a x z. cc) k
    layer_since s phase (TakesAppend i append group to v) layer may made k =
        lives s phase (record v { loose = v.loose ++ new_copy Group generation v to append group ∷ []; end = to })
        (subst AreOther (append_assoc v.kept v.loose (new_copy Group generation v to append group ∷ [])) (both (v.kept ++ v.loose) (new_copy Group generation v to append group ∷ []) (k.live v may.1) (own, tt))) k
      where
        own : IsOther (new_copy Group generation v to append group)
        own less =
            let long : length s.core.shut ≡ length k.newer + length (state early).core.shut = ap (λ l. length l) k.shut ∙ length-append k.newer (state early).core.shut in (
              i,
              group,
              (λ same. (let below : length s.core.shut < length (state early).core.shut = k.asks i (length s.core.shut) append group may.0 same less in omega (arith, below, long))),
              stands_early generation (story early) s.story k.goes append (Made (generation i) group) (made i (length s.core.shut) append group may.0) less,
            )
    layer_since s phase (Keeps c rest v) layer may made k =
        lives s phase (record v { kept = v.kept ++ c ∷ []; sure = c.to; loose = rest })
        (subst AreOther (ap (λ l. v.kept ++ l) may.1 ∙ sym (append_assoc v.kept (c ∷ []) rest)) (k.live v may.0)) k
    layer_since s phase (AnswersAppend i append from to group) layer may made k = told s phase (Appended i append from to) (λ j e a x z. cc) k
    layer_since s phase (Seals v) layer may made k = record {
      newer = record { copies = v.kept; end = v.sure } ∷ k.newer;
      shut = ap (λ l. record { copies = v.kept; end = v.sure } ∷ l) k.shut;
      sealed = both (all_shut k.newer) v.kept k.sealed (left v.kept v.loose (k.live v may));
      live = λ w is. absurd cc;
      asks = k.asks;
      outs = k.outs;
      goes = k.goes;
    }
    layer_since s phase (Opens i) layer may made k = absurd cc
    layer_since s phase (Checks i e) layer may made k = absurd cc
    layer_since s phase (ReadsSealed i n) layer may made k = absurd cc
    layer_since s phase (ReadsChecked i e stood end) layer may made k = absurd cc
    layer_since s phase (Begins i group) layer may made k = absurd cc
    layer_since s phase (Appends i e append group) layer may made k = absurd cc
    layer_since s phase (Extends i n) layer may made k = absurd cc
    layer_since s phase (TakesConfirmed i start end read) layer may made k = absurd cc
    layer_since s phase (TakesAppended i append from to) layer may made k = absurd cc

    -- ---- turns

    abbrev set : (ℕ → Phase Group) → ℕ → Phase Group → ℕ → Phase Group
    set phase i p = λ j. if j == i then p else phase j

    module _ (s : State) (phase : ℕ → Phase Group) (i : ℕ) (k : Since s phase) where
      outs_set : (q : Phase Group) → ((a : ℕ) → generation i ≡ g → out_of q ≡ Some a → length (story early) ≤ a) → (j a : ℕ) → generation j ≡ g → out_of (set phase i q j) ≡ Some a → length (story early) ≤ a
      outs_set q own j a under = go (j == i) refl
        where
          go : (b : Bool) → (j == i) ≡ b → out_of (if b then q else phase j) ≡ Some a → length (story early) ≤ a
          go true e out = own a (ap generation (sym (eqb-true j i e)) ∙ under) out
          go false e out = k.outs j a under out

      none_out : (q : Phase Group) → out_of q ≡ None → (a : ℕ) → generation i ≡ g → out_of q ≡ Some a → length (story early) ≤ a
      none_out q none a under out = absurd (let z : None ≡ Some a = sym none ∙ out in cc)

      -- it was out before
      same_out : (p q : Phase Group) → phase i ≡ p → out_of q ≡ out_of p → (a : ℕ) → generation i ≡ g → out_of q ≡ Some a → length (story early) ≤ a
      same_out p q e same a under out = k.outs i a under (ap out_of e ∙ sym same ∙ out)

      turned : (t : State) (q : Phase Group) → t.core ≡ s.core → ((j e a : ℕ) (x : Group) → In (AsksAppend j e a x) t.facts → generation j ≡ g → a < length (story early) → e < length (state early).core.shut) →
          ((a : ℕ) → generation i ≡ g → out_of q ≡ Some a → length (story early) ≤ a) → GoesOn generation s.story t.story → Since t (set phase i q)
      turned t q core asks out on = record {
        newer = k.newer;
        shut = ap (λ (c : StreamCore Group). c.shut) core ∙ k.shut;
        sealed = k.sealed;
        live = λ v is. k.live v (sym (ap (λ (c : StreamCore Group). c.live) core) ∙ is);
        asks = asks;
        outs = outs_set q out;
        goes = (on.0 ++ k.goes.0, on.1 ∙ ap (λ z. on.0 ++ z) k.goes.1 ∙ sym (append_assoc on.0 k.goes.0 (story early)));
      }

      more : (f : Fact Group) → ((j e a : ℕ) (x : Group) → AsksAppend j e a x ≡ f → ⊥) → (j e a : ℕ) (x : Group) → In (AsksAppend j e a x) (f ∷ s.facts) → generation j ≡ g → a < length (story early) → e < length (state early).core.shut
      more f apart j e a x there = k.asks j e a x (no_more s f apart j e a x there)

      two_more : (f h : Fact Group) → ((j e a : ℕ) (x : Group) → AsksAppend j e a x ≡ f → ⊥) → ((j e a : ℕ) (x : Group) → AsksAppend j e a x ≡ h → ⊥) → (j e a : ℕ) (x : Group) → In (AsksAppend j e a x) (h ∷ f ∷ s.facts) → generation j ≡ g →
          a < length (story early) → e < length (state early).core.shut
      two_more f h one two j e a x there = more f one j e a x (no_more (record s { facts = f ∷ s.facts }) h two j e a x there)

      -- an append that is asked for is new, or was out
      asked : (facts : List (Fact Group)) → ((j e a : ℕ) (x : Group) → In (AsksAppend j e a x) facts → generation j ≡ g → a < length (story early) → e < length (state early).core.shut) → (n append : ℕ) (group : Group) → (generation i ≡ g → length (story early) ≤ append) →
          (j e a : ℕ) (x : Group) → In (AsksAppend j e a x) (AsksAppend i n append group ∷ facts) → generation j ≡ g → a < length (story early) → e < length (state early).core.shut
      asked facts old n append group new j e a x there under less =
          ⊎_elim {C = e < length (state early).core.shut}
          (λ (same : AsksAppend j e a x ≡ AsksAppend i n append group).
          (let who : j ≡ i = cc in
          let which : a ≡ append = cc in
          let above : length (story early) ≤ append = new (ap generation (sym who) ∙ under) in
          absurd (omega (arith, above, which, less))))
          (λ there. old j e a x there under less) there

      long : length (story early) ≤ length s.story
      long = let same : length s.story ≡ length k.goes.0 + length (story early) = ap (λ z. length z) k.goes.1 ∙ length-append k.goes.0 (story early) in omega (arith, same)

      new_out : (a : ℕ) → Some (length s.story) ≡ Some a → length (story early) ≤ a
      new_out a e = let at : length s.story ≡ a = cc in let l = long in omega (arith, at, l)

      turn_since : (p : Phase Group) (turn : Turn Group) → phase i ≡ p → IsTurn Group generation s i p turn → Since (all_next Group generation s (does Group generation s i p turn)) (set phase i (becomes Group generation s p turn))
      turn_since Idle Assigned e may = turned _ Opening refl (more (AsksOpen i) (λ j e a x z. cc)) (none_out Opening refl) ([], refl)
      turn_since Opening (AllSealed n) e may = turned _ (Confirming n false) refl (more (AsksConfirm i _ _) (λ j e a x z. cc)) (none_out (Confirming n false) refl) ([], refl)
      turn_since Opening (LastOpen y) e may = turned _ (Checking y) refl (more (AsksCheck i y) (λ j e a x z. cc)) (none_out (Checking y) refl) ([], refl)
      turn_since (Checking y) (Found stood end) e may = turned _ (Confirming (suc y) true) refl (more (AsksConfirm i _ end) (λ j e a x z. cc)) (none_out (Confirming (suc y) true) refl) ([], refl)
      turn_since (Checking y) Fails e may = turned s (Sealing y) refl k.asks (none_out (Sealing y) refl) ([], refl)
      turn_since (Sealing y) IsShut e may = turned _ (Confirming (suc y) false) refl (more (AsksConfirm i _ _) (λ j e a x z. cc)) (none_out (Confirming (suc y) false) refl) ([], refl)
      turn_since (Confirming n live) (ConfirmedIs start end read) e may =
          turned _ (Serving n live) refl (more (Serves i) (λ j e a x z. cc)) (none_out (Serving n live) refl) (Showed (generation i) start end (map placed (from_place start read)) ∷ [], refl)
      turn_since (Serving zero live) (Forms group) e may =
          turned _ (Growing 0 (length s.story) group) refl (two_more (Begun i (length s.story) group) (AsksExtend i 0) (λ j e a x z. cc) (λ j e a x z. cc)) (λ a under out. new_out a out) (Made (generation i) group ∷ [], refl)
      turn_since (Serving (suc n) true) (Forms group) e may =
          turned _ (Sent (suc n) (length s.story) group) refl
          (asked (Begun i (length s.story) group ∷ s.facts) (more (Begun i (length s.story) group) (λ j e a x z. cc)) n (length s.story) group (λ under. long)) (λ a under out. new_out a out) (Made (generation i) group ∷ [], refl)
      turn_since (Serving (suc n) false) (Forms group) e may =
          turned _ (Growing (suc n) (length s.story) group) refl (two_more (Begun i (length s.story) group) (AsksExtend i (suc n)) (λ j e a x z. cc) (λ j e a x z. cc)) (λ a under out. new_out a out) (Made (generation i) group ∷ [], refl)
      turn_since (Sent n append group) (AppendedAt from to) e may = turned _ (Serving n true) refl k.asks (none_out (Serving n true) refl) (Answered append from to ∷ [], refl)
      turn_since (Sent n append group) Fails e may = turned s (Closing n append group) refl k.asks (same_out (Sent n append group) (Closing n append group) e refl) ([], refl)
      turn_since (Closing n append group) IsShut e may = turned _ (Growing n append group) refl (more (AsksExtend i n) (λ j e a x z. cc)) (same_out (Closing n append group) (Growing n append group) e refl) ([], refl)
      turn_since (Growing n append group) (ExtendedTo m) e may =
          turned _ (Sent (suc n) append group) refl (asked s.facts k.asks n append group (λ under. k.outs i append under (ap out_of e))) (same_out (Growing n append group) (Sent (suc n) append group) e refl) ([], refl)
      turn_since p turn e may = absurd may

    all_since : (own : Moves) → AreMoves Group generation (own ++ early) → Since (state (own ++ early)) (after_all Group generation (own ++ early)).phase
    all_since [] ok = record {
      newer = [];
      shut = refl;
      sealed = tt;
      live = λ v is. absurd (let z : None ≡ Some v = sym closed ∙ is in cc);
      asks = λ i e a x there under less.
          (let within : e < count (state early).core = asks_within generation early ok_early i e a x there in
          let all : count (state early).core ≡ length (state early).core.shut + 0 = ap (λ o. length (state early).core.shut + one_if_live o) closed in
          omega (arith, within, all));
      outs = λ i a under out. absurd (let z : None ≡ Some a = sym (rests i under) ∙ out in cc);
      goes = ([], refl);
    }
    all_since (Below x ∷ own) ok =
        let w : Whole Group generation = after_all Group generation (own ++ early) in
        layer_since w.state w.phase x ok.0.0 ok.0.1 (λ i e a y there. asked_made (own ++ early) ok.1 i e a y there) (all_since own ok.1)
    all_since (Above i turn ∷ own) ok =
        let w : Whole Group generation = after_all Group generation (own ++ early) in
        turn_since w.state w.phase i (all_since own ok.1) (w.phase i) turn refl ok.0

    all_behind : (newer older : List (SealedExtent Group)) → all_shut (newer ++ older) ≡ all_shut older ++ all_shut newer
    all_behind [] older = sym (append-nil (all_shut older))
    all_behind (x ∷ newer) older = ap (λ l. l ++ x.copies) (all_behind newer older) ∙ append_assoc (all_shut older) (all_shut newer) x.copies

    -- WHAT STANDS is what stood when the stream was built, and copies of other appends behind that
    pub record StandsBehind (own : Moves) : Type 0 where
      pub rest : List (Copy Group)
      pub is : all_copies Group generation (state (own ++ early)).core (state (own ++ early)).core.live ≡ all_copies Group generation (state early).core (state early).core.live ++ rest
      pub others : (c : Copy Group) → In c rest → IsOther c

    pub stands_behind : (own : Moves) → AreMoves Group generation (own ++ early) → StandsBehind own
    stands_behind own ok = by (state (own ++ early)).core.live refl
      where
        k : Since (state (own ++ early)) (after_all Group generation (own ++ early)).phase
        k = all_since own ok

        front_is : all_copies Group generation (state early).core (state early).core.live ≡ all_shut (state early).core.shut
        front_is = ap (all_copies Group generation (state early).core) closed

        shut_is : all_shut (state (own ++ early)).core.shut ≡ all_shut (state early).core.shut ++ all_shut (all_since own ok).newer
        shut_is = ap all_shut (all_since own ok).shut ∙ all_behind (all_since own ok).newer (state early).core.shut

        by : (o : Option (OpenExtent Group)) → (state (own ++ early)).core.live ≡ o → StandsBehind own
        by None is = record {
          rest = all_shut (all_since own ok).newer;
          is = ap (all_copies Group generation (state (own ++ early)).core) is ∙ shut_is ∙ ap (λ l. l ++ all_shut (all_since own ok).newer) (sym front_is);
          others = λ c there. one_of (all_shut (all_since own ok).newer) (all_since own ok).sealed c there;
        }
        by (Some v) is = record {
          rest = all_shut (all_since own ok).newer ++ v.kept;
          is = ap (all_copies Group generation (state (own ++ early)).core) is ∙ ap (λ l. l ++ v.kept) shut_is ∙ append_assoc (all_shut (state early).core.shut) (all_shut (all_since own ok).newer) v.kept
              ∙ ap (λ l. l ++ (all_shut (all_since own ok).newer ++ v.kept)) (sym front_is);
          others = λ c there.
              one_of (all_shut (all_since own ok).newer ++ v.kept) (both (all_shut (all_since own ok).newer) v.kept (all_since own ok).sealed (left v.kept v.loose ((all_since own ok).live v is))) c there;
        }
