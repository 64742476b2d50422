-- What stands in a stream, and what a check has found there, is of groups that were formed.
use Rattle.std.proofs.Common.{◌≡◌, ℕ, zero, suc, Bool, true, false, List, [], ◌∷◌, ◌++◌, length, Option, Some, None, sym, subst, inl, inr, if◌then◌else◌, ◌==◌}
use Rattle.replica.specs.Groups.{Group}
use Rattle.model_histories.specs.Story.{Copy, StreamEvent, Made, Story, event_at}
use Rattle.model_histories.specs.StreamMachine.{In, SealedExtent, OpenExtent, StreamCore, all_shut, all_copies, shut_at, Fact, Checked as Found_there, MachineState, MachineStep, TakesOpen, TakesExtend, TakesConfirm, TakesCheck, AnswersCheck, AnswersLate, TakesAppend, Keeps, AnswersAppend, Seals, Opens, Checks, ReadsSealed, ReadsChecked, Begins, Appends, Extends, TakesConfirmed, TakesAppended, Extended, extend_facts, May, next}
use Rattle.model_histories.specs.ServerTurns.{Phase, Idle, Opening, Checking, Sealing, Confirming, Serving, Sent, Closing, Growing, Turn, Assigned, AllSealed, LastOpen, Found, Fails, IsShut, ConfirmedIs, Forms, AppendedAt, ExtendedTo, IsTurn, does, forms, all_next, Whole, Move, Below, Above, is_layer, moved, after_all, AreMoves}
use Rattle.laws_tables.proofs.Range.{older}
use Rattle.laws_tables.proofs.Fenced.{sound}
use Rattle.laws_tables.proofs.Extents.{Inv, followed}
use Rattle.laws_tables.proofs.Members.{in_left, in_right}
use Rattle.laws_tables.proofs.Turns.{all_good}
use Rattle.laws_stream_machine.proofs.ServerRequests.{turn_upper}
use Rattle.laws_stream_machine.proofs.NodeAnswers.{in_shut}
use Rattle.laws_log_reads.specs.Reads.{SaysOneRegion, HasOneRegion}
use Rattle.laws_clusters.proofs.LayerSteps.{layer_same}

abbrev pub IsMade : Story Group → Copy Group → Type 0
IsMade story c = (g : ℕ) × (event_at story c.append ≡ Some (Made g c.group))

-- each group that was formed leaves one region
abbrev pub AllSay : Story Group → Type 0
AllSay story = (n g : ℕ) (group : Group) → event_at story n ≡ Some (Made g group) → SaysOneRegion group

abbrev pub AllMade : Story Group → List (Copy Group) → Type 0
AllMade story cs = (c : Copy Group) → In c cs → IsMade story c

module _ (generation : ℕ → ℕ) where
  in_all : (k : StreamCore Group) (o : Option (OpenExtent Group)) (c : Copy Group) → In c (all_shut k.shut) → In c (all_copies Group generation k o)
  in_all k None c there = there
  in_all k (Some v) c there = in_left c (all_shut k.shut) v.kept there

  -- what stands in the stream
  pub record Stands (s : MachineState Group) : Type 0 where
    pub all : AllMade s.story (all_copies Group generation s.core s.core.live)

  stands_of : (s : MachineState Group) (run : _) → Inv Group generation s run → Stands s
  stands_of s run v = record {
    all = λ c there.
        let k = sound Group run v.is_run c (subst (In c) (sym v.kept) there) in
        (k.generation, subst (λ z. event_at z c.append ≡ Some (Made k.generation c.group)) v.seen k.made);
  }

  pub stands : (moves : List (Move Group generation)) → AreMoves Group generation moves → Stands (after_all Group generation moves).state
  stands moves ok =
      let ran = (all_good Group generation moves ok).0 in
      let f = followed Group generation ran.0 ran.1 in
      subst Stands (sym ran.2) (stands_of _ f.0 f.1)

  pub shut_made : (s : MachineState Group) → Stands s → (e : ℕ) (y : SealedExtent Group) → shut_at e s.core.shut ≡ Some y → AllMade s.story y.copies
  shut_made s k e y is c there = k.all c (in_all s.core s.core.live c (in_shut s.core.shut e y c is there))

  -- what checks have found
  abbrev CheckedMade : MachineState Group → Type 0
  CheckedMade s = (i e : ℕ) (stood : List (Copy Group)) (end : ℕ) → In (Found_there i e stood end) s.facts → AllMade s.story stood

  live_made : (s : MachineState Group) (v : OpenExtent Group) → Stands s → s.core.live ≡ Some v → AllMade s.story v.kept
  live_made s v k is c there = k.all c (subst (λ o. In c (all_copies Group generation s.core o)) (sym is) (in_right c (all_shut s.core.shut) v.kept there))

  -- a fact that is none of a check
  one_more : (s : MachineState Group) (f : Fact Group) → ((i e : ℕ) (stood : List (Copy Group)) (end : ℕ) → Found_there i e stood end ≡ f → ⊥) → CheckedMade s →
      (i e : ℕ) (stood : List (Copy Group)) (end : ℕ) → In (Found_there i e stood end) (f ∷ s.facts) → AllMade s.story stood
  one_more s f other old i e stood end (inl is) = absurd (other i e stood end is)
  one_more s f other old i e stood end (inr there) = old i e stood end there

  extend_made : (s : MachineState Group) (j n : ℕ) (o : Option (OpenExtent Group)) → CheckedMade s → (i e : ℕ) (stood : List (Copy Group)) (end : ℕ) →
      In (Found_there i e stood end) (extend_facts Group generation j n s.core o s.facts) → AllMade s.story stood
  extend_made s j n None old i e stood end there = one_more s (Extended j n (if n == length s.core.shut then suc n else length s.core.shut)) (λ i e stood end is. cc) old i e stood end there
  extend_made s j n (Some v) old i e stood end there = go (n == suc (length s.core.shut)) there
    where
      go : (b : Bool) → In (Found_there i e stood end) (if b then s.facts else Extended j n (suc (length s.core.shut)) ∷ s.facts) → AllMade s.story stood
      go true m = old i e stood end m
      go false m = one_more s (Extended j n (suc (length s.core.shut))) (λ i e stood end is. cc) old i e stood end m

  below_made : (s : MachineState Group) (x : MachineStep Group) → is_layer Group generation x ≡ true → May Group generation s x → Stands s → CheckedMade s → CheckedMade (next Group generation s x)
  below_made s (TakesOpen j) t may k old = one_more s _ (λ i e stood end is. cc) old
  below_made s (TakesExtend j n) t may k old = extend_made s j n s.core.live old
  below_made s (TakesConfirm j read end) t may k old = one_more s _ (λ i e stood end is. cc) old
  below_made s (TakesCheck j v) t may k old = old
  below_made s (AnswersCheck j v) t may k old = go
    where
      go : (i e : ℕ) (stood : List (Copy Group)) (end : ℕ) → In (Found_there i e stood end) (Found_there j (length s.core.shut) v.kept v.sure ∷ s.facts) → AllMade s.story stood
      go i e stood end (inl is) = let same : v.kept ≡ stood = cc in subst (AllMade s.story) same (live_made s v k may.1)
      go i e stood end (inr there) = old i e stood end there
  below_made s (AnswersLate j n x) t may k old = go
    where
      go : (i e : ℕ) (stood : List (Copy Group)) (end : ℕ) → In (Found_there i e stood end) (Found_there j n x.copies x.end ∷ s.facts) → AllMade s.story stood
      go i e stood end (inl is) = let same : x.copies ≡ stood = cc in subst (AllMade s.story) same (shut_made s k n x may.1)
      go i e stood end (inr there) = old i e stood end there
  below_made s (TakesAppend j append group to v) t may k old = old
  below_made s (Keeps c rest v) t may k old = old
  below_made s (AnswersAppend j append from to group) t may k old = one_more s _ (λ i e stood end is. cc) old
  below_made s (Seals v) t may k old = old
  below_made s (Opens j) t may k old = absurd cc
  below_made s (Checks j e) t may k old = absurd cc
  below_made s (ReadsSealed j n) t may k old = absurd cc
  below_made s (ReadsChecked j e stood end) t may k old = absurd cc
  below_made s (Begins j group) t may k old = absurd cc
  below_made s (Appends j e append group) t may k old = absurd cc
  below_made s (Extends j n) t may k old = absurd cc
  below_made s (TakesConfirmed j start end read) t may k old = absurd cc
  below_made s (TakesAppended j append from to) t may k old = absurd cc

  -- ---- the story only grows

  abbrev pub Longer : Story Group → Story Group → Type 0
  Longer old new = (n : ℕ) (x : StreamEvent Group) → event_at old n ≡ Some x → event_at new n ≡ Some x

  forms_longer : (s : MachineState Group) (i n append : ℕ) (group : Group) (live : Bool) → Longer s.story (all_next Group generation s (forms Group generation i n append group live ++ Begins i group ∷ [])).story
  forms_longer s i zero append group live k x at = older Group _ s.story k x at
  forms_longer s i (suc e) append group true k x at = older Group _ s.story k x at
  forms_longer s i (suc e) append group false k x at = older Group _ s.story k x at

  pub turn_longer : (s : MachineState Group) (i : ℕ) (p : Phase Group) (t : Turn Group) → IsTurn Group generation s i p t → Longer s.story (all_next Group generation s (does Group generation s i p t)).story
  turn_longer s i Idle Assigned may k x at = at
  turn_longer s i Opening (AllSealed m) may k x at = at
  turn_longer s i Opening (LastOpen e) may k x at = at
  turn_longer s i (Checking e) (Found stood end) may k x at = at
  turn_longer s i (Checking e) Fails may k x at = at
  turn_longer s i (Sealing e) IsShut may k x at = at
  turn_longer s i (Confirming m live) (ConfirmedIs start end read) may k x at = older Group _ s.story k x at
  turn_longer s i (Serving m live) (Forms group) may k x at = forms_longer s i m (length s.story) group live k x at
  turn_longer s i (Sent m append group) (AppendedAt from to) may k x at = older Group _ s.story k x at
  turn_longer s i (Sent m append group) Fails may k x at = at
  turn_longer s i (Closing m append group) IsShut may k x at = at
  turn_longer s i (Growing m append group) (ExtendedTo e) may k x at = at
  turn_longer s i p t may k x at = absurd may

  made_longer : (old new : Story Group) → Longer old new → (cs : List (Copy Group)) → AllMade old cs → AllMade new cs
  made_longer old new more cs made c there = let k = made c there in (k.0, more c.append (Made k.0 c.group) k.1)

  -- what checks have found, in each run
  pub checked_made : (moves : List (Move Group generation)) → AreMoves Group generation moves → CheckedMade (after_all Group generation moves).state
  checked_made [] ok i e stood end there = absurd there
  checked_made (Below x ∷ earlier) ok i e stood end there =
      let s : MachineState Group = (after_all Group generation earlier).state in
      subst (λ z. AllMade z stood) (sym (layer_same generation s x ok.0.0))
      (subst (λ z. AllMade z stood) (layer_same generation s x ok.0.0) (below_made s x ok.0.0 ok.0.1 (stands earlier ok.1) (checked_made earlier ok.1) i e stood end there))
  checked_made (Above j t ∷ earlier) ok i e stood end there =
      let w : Whole Group generation = after_all Group generation earlier in
      let u = turn_upper generation w.state j (w.phase j) t in
      made_longer w.state.story (moved Group generation w (Above j t)).state.story (turn_longer w.state j (w.phase j) t ok.0) stood
      (checked_made earlier ok.1 i e stood end (u.checked i e stood end there))

  -- ---- the metadata

  -- where each group that is formed leaves one region, so does all that stands
  pub has_one_region : (moves : List (Move Group generation)) → AreMoves Group generation moves → AllSay (after_all Group generation moves).state.story → (i : ℕ) → HasOneRegion i (after_all Group generation moves).state
  has_one_region moves ok all i = record {
    sealed = λ index y is c there.
        (let k = shut_made (after_all Group generation moves).state (stands moves ok) index y is c there in
        all c.append k.0 c.group k.1);
    stood = λ index end copies fact c there. (let k = checked_made moves ok i index copies end fact c there in all c.append k.0 c.group k.1);
  }
