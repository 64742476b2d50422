-- Steps of the lower layer leave the story of a stream as it is.
use Rattle.std.proofs.Common.{◌≡◌, ℕ, true, refl}
use Rattle.replica.specs.Groups.{Group}
use Rattle.model_histories.specs.StreamMachine.{MachineState, MachineStep, TakesOpen, TakesExtend, TakesConfirm, TakesCheck, AnswersCheck, AnswersLate, TakesAppend, Keeps, AnswersAppend, Seals, Opens, Checks, ReadsSealed, ReadsChecked, Begins, Appends, Extends, TakesConfirmed, TakesAppended, next}
use Rattle.model_histories.specs.ServerTurns.{is_layer}

module _ (generation : ℕ → ℕ) where
  pub layer_same : (s : MachineState Group) (x : MachineStep Group) → is_layer Group generation x ≡ true → (next Group generation s x).story ≡ s.story
  layer_same s (TakesOpen i) t = refl
  layer_same s (TakesExtend i n) t = refl
  layer_same s (TakesConfirm i read end) t = refl
  layer_same s (TakesCheck i v) t = refl
  layer_same s (AnswersCheck i v) t = refl
  layer_same s (AnswersLate i e x) t = refl
  layer_same s (TakesAppend i append group to v) t = refl
  layer_same s (Keeps c rest v) t = refl
  layer_same s (AnswersAppend i append from to group) t = refl
  layer_same s (Seals v) t = refl
  layer_same s (Opens i) t = absurd cc
  layer_same s (Checks i e) t = absurd cc
  layer_same s (ReadsSealed i n) t = absurd cc
  layer_same s (ReadsChecked i e stood end) t = absurd cc
  layer_same s (Begins i group) t = absurd cc
  layer_same s (Appends i e append group) t = absurd cc
  layer_same s (Extends i n) t = absurd cc
  layer_same s (TakesConfirmed i start end read) t = absurd cc
  layer_same s (TakesAppended i append from to) t = absurd cc
