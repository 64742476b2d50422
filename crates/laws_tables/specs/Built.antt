-- A stream that was built of another's: what had been done on its source by then is its own beginning, and each goes on by itself.
use Rattle.std.specs.Prelude.{◌≡◌, ℕ, ◌<◌, ◌≤◌, List, ◌++◌, length, Some, Contains}
use Rattle.model_histories.specs.Story.{Placed, Made, Answered, Showed, Story, event_at, Copy, KeepsOrder}
use Rattle.model_histories.specs.StreamMachine.{In, Confirmed, MachineState}
use Rattle.model_histories.specs.ServerTurns.{Move, after_all}

-- The stream keeps its order, where each load is given the copies that were read and confirmed under its generation. So two streams
-- that had one beginning agree on each load of it.
pub record ReadsInOrder {A : Type 0} (generation : ℕ → ℕ) (s : MachineState A) : Type 0 where
  pub order : KeepsOrder s.story
  pub reads : (l g start end i to : ℕ) (groups : List (Placed A)) (read : List (Copy A)) → event_at s.story l ≡ Some (Showed g start end groups) →
      In (Confirmed i read to) s.facts → generation i ≡ g → order.copies l ≡ read

module _ (A : Type 0) (generation : ℕ → ℕ) where
  abbrev pub story_of : List (Move A generation) → Story A
  story_of moves = (after_all A generation moves).state.story

  -- a load under this generation
  abbrev pub HasLoad : Story A → ℕ → Type 0
  HasLoad story g = (l : ℕ) × (start : ℕ) × (end : ℕ) × (groups : List (Placed A)) × (event_at story l ≡ Some (Showed g start end groups))

  -- nothing that this story has of the generation is answered behind its front
  abbrev pub AnsweredBy : ℕ → Story A → Story A → Type 0
  AnsweredBy g front story = (a k from to : ℕ) (x : A) → event_at story a ≡ Some (Made g x) → event_at story k ≡ Some (Answered a from to) → k < length front

  -- early: what was done on the source when the stream was built; late: on the source since; own: on the stream that was built
  pub record KeepsSource (early late own : List (Move A generation)) : Type 0 where
    pub source : ReadsInOrder generation (after_all A generation (late ++ early)).state
    pub built : ReadsInOrder generation (after_all A generation (own ++ early)).state
    -- each load of the source by then is one of the same copies for both
    pub shared : (l g start end : ℕ) (groups : List (Placed A)) → event_at (story_of early) l ≡ Some (Showed g start end groups) →
        built.order.copies l ≡ source.order.copies l
    -- Where the source was loaded under g by then, and nothing of g was answered later, each append of the source under g or below
    -- stands at its answered place in each load of the stream under a higher generation, whenever it was answered.
    pub stands : (g a g' k from to m h start end : ℕ) (x : A) (groups : List (Placed A)) → HasLoad (story_of early) g → AnsweredBy g (story_of early) (story_of (late ++ early)) →
        event_at (story_of (late ++ early)) a ≡ Some (Made g' x) → g' ≤ g → event_at (story_of (late ++ early)) k ≡ Some (Answered a from to) →
        event_at (story_of (own ++ early)) m ≡ Some (Showed h start end groups) → g < h →
        Contains (built.order.copies m) (record { from = from; to = to; append = a; group = x })
