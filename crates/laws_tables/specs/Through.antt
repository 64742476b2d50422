-- The line of one incarnation, read off its stream's story.
use Rattle.std.specs.Prelude.{◌≡◌, ℕ, ◌<◌, ◌≤◌, List, [], ◌∷◌, ◌++◌, length, Option, Some, None, if◌then◌else◌, ◌==◌}
use Rattle.commitlog.specs.Replay.{Numbered as Group}
use Rattle.model_histories.specs.Log.{line_shown}
use Rattle.model_histories.specs.Story.{Placed, Made, Answered, Showed, Story, event_at}

-- the line of this generation's load, and all that the incarnation made since
abbrev pub line_through : {A : Type 0} → Story (Group A) → ℕ → List A
line_through [] g = []
line_through (Made g' group ∷ earlier) g = if g == g' then line_through earlier g ++ group.items else line_through earlier g
line_through (Answered append from to ∷ earlier) g = line_through earlier g
line_through (Showed g' start end groups ∷ earlier) g = if g == g' then line_shown groups else line_through earlier g

abbrev pub IsTail : {A : Type 0} → Story A → Story A → Type 0
IsTail {A} tail story = (later : Story A) × (story ≡ later ++ tail)

abbrev pub IsLoaded : {A : Type 0} → Story A → ℕ → Type 0
IsLoaded {A} story g = (l : ℕ) × (start : ℕ) × (end : ℕ) × (groups : List (Placed A)) × (event_at story l ≡ Some (Showed g start end groups))

abbrev pub IsAnswered : {A : Type 0} → Story A → ℕ → Type 0
IsAnswered story a = (k : ℕ) × (from : ℕ) × (to : ℕ) × (a < k) × (event_at story k ≡ Some (Answered a from to))

-- at some point the incarnation had this line, and all that it had made by then was answered, then or since
pub record HadLine {A : Type 0} (story : Story (Group A)) (g : ℕ) (line : List A) : Type 0 where
  pub point : Story (Group A)
  pub is_tail : IsTail point story
  pub loaded : IsLoaded point g
  pub is_line : line_through point g ≡ line
  pub answered : (a : ℕ) (group : Group A) → event_at point a ≡ Some (Made g group) → IsAnswered story a

-- it has this line, and nothing is out
pub record HasAllAnswered {A : Type 0} (story : Story (Group A)) (g : ℕ) (line : List A) : Type 0 where
  pub loaded : IsLoaded story g
  pub is_line : line_through story g ≡ line
  pub answered : (a : ℕ) (group : Group A) → event_at story a ≡ Some (Made g group) → IsAnswered story a

-- it has this line but for a group that is out, which was made at this point
pub record HasOneOut {A : Type 0} (story : Story (Group A)) (g : ℕ) (line : List A) (append : ℕ) (group : Group A) : Type 0 where
  pub point : Story (Group A)
  pub is_tail : IsTail (Made g group ∷ point) story
  pub is_append : length point ≡ append
  pub before : HasAllAnswered point g line
  pub is_line : line_through story g ≡ line ++ group.items
  pub last : (b : ℕ) (other : Group A) → event_at story b ≡ Some (Made g other) → b ≤ append

-- an append that is out: the event with which it began, and its group
pub record OutAppend (A : Type 0) : Type 0 where
  pub append : ℕ
  pub group : Group A

abbrev pub HasLine : {A : Type 0} → Story (Group A) → ℕ → List A → Option (OutAppend A) → Type 0
HasLine story g line None = HasAllAnswered story g line
HasLine story g line (Some out) = HasOneOut story g line out.append out.group
