-- Quiet turns leave the story as it was; and turns after turns.
use Rattle.std.proofs.Common.{◌≡◌, ℕ, zero, suc, true, false, List, [], ◌∷◌, ◌++◌, refl, ap, ◌∙◌, subst}
use Rattle.replica.specs.Groups.{Group}
use Rattle.model_histories.specs.StreamMachine as machine
use Rattle.model_histories.specs.ServerTurns as turns
use Rattle.laws_ranges.specs.Serves.{Stand, turned, after_turns, AreTurns}
use Rattle.laws_ranges.specs.Quiet.{IsQuiet, AreQuiet, IsLoading}

module _ (generation : ℕ → ℕ) (i : ℕ) where
  quiet_step : (s : machine.MachineState Group) (p : turns.Phase Group) (t : turns.Turn Group) → IsQuiet t → (turns.all_next Group generation s (turns.does Group generation s i p t)).story ≡ s.story
  quiet_step s p (turns.Forms group) q = absurd q
  quiet_step s p (turns.AppendedAt from to) q = absurd q
  quiet_step s p (turns.ConfirmedIs start end read) q = absurd q
  quiet_step s turns.Idle turns.Assigned q = refl
  quiet_step s turns.Opening (turns.AllSealed n) q = refl
  quiet_step s turns.Opening (turns.LastOpen e) q = refl
  quiet_step s (turns.Checking e) (turns.Found stood end) q = refl
  quiet_step s (turns.Sealing e) turns.IsShut q = refl
  quiet_step s (turns.Closing n append group) turns.IsShut q = refl
  quiet_step s (turns.Growing n append group) (turns.ExtendedTo m) q = refl
  quiet_step s (turns.Checking e) turns.Fails q = refl
  quiet_step s (turns.Sent n append group) turns.Fails q = refl
  quiet_step s p t q = refl

  pub quiet_story : (x : Stand) (ts : List (turns.Turn Group)) → AreQuiet ts → (after_turns generation i x ts).state.story ≡ x.state.story
  quiet_story x [] q = refl
  quiet_story x (t ∷ ts) q =
      quiet_step (after_turns generation i x ts).state (after_turns generation i x ts).phase t q.0 ∙ quiet_story x ts q.1

  -- ---- loads

  loading_before : (s : machine.MachineState Group) (p : turns.Phase Group) (t : turns.Turn Group) → turns.IsTurn Group generation s i p t → IsLoading (turns.becomes Group generation s p t) → IsLoading p × IsQuiet t
  loading_before s turns.Idle turns.Assigned a h = (tt, tt)
  loading_before s turns.Opening (turns.AllSealed n) a h = (tt, tt)
  loading_before s turns.Opening (turns.LastOpen e) a h = (tt, tt)
  loading_before s (turns.Checking e) (turns.Found stood end) a h = (tt, tt)
  loading_before s (turns.Checking e) turns.Fails a h = (tt, tt)
  loading_before s (turns.Sealing e) turns.IsShut a h = (tt, tt)
  loading_before s (turns.Confirming n live) (turns.ConfirmedIs start end read) a h = absurd h
  loading_before s (turns.Serving zero live) (turns.Forms group) a h = absurd h
  loading_before s (turns.Serving (suc e) true) (turns.Forms group) a h = absurd h
  loading_before s (turns.Serving (suc e) false) (turns.Forms group) a h = absurd h
  loading_before s (turns.Sent n append group) (turns.AppendedAt from to) a h = absurd h
  loading_before s (turns.Sent n append group) turns.Fails a h = absurd h
  loading_before s (turns.Closing n append group) turns.IsShut a h = absurd h
  loading_before s (turns.Growing n append group) (turns.ExtendedTo m) a h = absurd h
  loading_before s p t a h = absurd a

  -- all turns up to where a range is not served yet are quiet
  pub loading_quiet : (x : Stand) (ts : List (turns.Turn Group)) → AreTurns generation i x ts → IsLoading (after_turns generation i x ts).phase → AreQuiet ts
  loading_quiet x [] a h = tt
  loading_quiet x (t ∷ ts) a h =
      let b : IsLoading (after_turns generation i x ts).phase × IsQuiet t = loading_before (after_turns generation i x ts).state (after_turns generation i x ts).phase t a.0 h in
      (b.1, loading_quiet x ts a.1 b.0)

  -- ---- turns after turns

  pub turns_after : (x : Stand) (before ts : List (turns.Turn Group)) → after_turns generation i (after_turns generation i x before) ts ≡ after_turns generation i x (ts ++ before)
  turns_after x before [] = refl
  turns_after x before (t ∷ ts) = ap (λ y. turned generation i y t) (turns_after x before ts)

  pub turns_allowed : (x : Stand) (before ts : List (turns.Turn Group)) → AreTurns generation i x before → AreTurns generation i (after_turns generation i x before) ts → AreTurns generation i x (ts ++ before)
  turns_allowed x before [] a b = a
  turns_allowed x before (t ∷ ts) a b = (subst (λ y. turns.IsTurn Group generation y.state i y.phase t) (turns_after x before ts) b.0, turns_allowed x before ts a b.1)
