-- A log with a fence: the plain picture of a stream that keeps its order.
use Rattle.std.specs.Prelude.{◌≡◌, ℕ, ◌<◌, ◌≤◌, List, [], ◌∷◌, ◌++◌, map, Some, if◌then◌else◌, ◌==◌, Contains}
use Rattle.model_histories.specs.Story.{StreamEvent, Made, Answered, Showed, Story, event_at, Copy, placed, from_place}

pub data LogStep (A : Type 0) : Type 0 where
  -- what the users see
  Seen : (event : StreamEvent A) → LogStep A
  -- a copy of an append comes to stand at the log's end
  Landed : (copy : Copy A) → LogStep A
  -- the log is read under this generation, up to this end; from now on nothing of a lower generation lands
  Fenced : (generation end : ℕ) → LogStep A

-- the newest first
abbrev pub LogRun : Type 0 → Type 0
LogRun A = List (LogStep A)

abbrev pub visible : {A : Type 0} → LogRun A → Story A
visible [] = []
visible (Seen e ∷ earlier) = e ∷ visible earlier
visible (Landed c ∷ earlier) = visible earlier
visible (Fenced g end ∷ earlier) = visible earlier

-- the copies, in order
abbrev pub landed : {A : Type 0} → LogRun A → List (Copy A)
landed [] = []
landed (Seen e ∷ earlier) = landed earlier
landed (Landed c ∷ earlier) = landed earlier ++ c ∷ []
landed (Fenced g end ∷ earlier) = landed earlier

abbrev pub fence : {A : Type 0} → LogRun A → ℕ
fence [] = 0
fence (Seen e ∷ earlier) = fence earlier
fence (Landed c ∷ earlier) = fence earlier
fence (Fenced g end ∷ earlier) = g

abbrev pub end_of : {A : Type 0} → LogRun A → ℕ
end_of [] = 0
end_of (Seen e ∷ earlier) = end_of earlier
end_of (Landed c ∷ earlier) = c.to
end_of (Fenced g end ∷ earlier) = end

abbrev pub May : {A : Type 0} → LogRun A → LogStep A → Type 0
-- an append is made under a generation that was read
May earlier (Seen (Made g group)) = g ≤ fence earlier
-- an answer names a copy
May {A} earlier (Seen (Answered a from to)) = (group : A) × Contains (landed earlier) (record { from = from; to = to; append = a; group = group })
-- a load shows what stood when the log was read under its generation
May {A} earlier (Seen (Showed g start end groups)) = (before : LogRun A) × (after : LogRun A) × (earlier ≡ after ++ Fenced g end ∷ before) × (groups ≡ map placed (from_place start (landed before)))
May earlier (Landed c) = (g : ℕ) × (event_at (visible earlier) c.append ≡ Some (Made g c.group)) × (fence earlier ≤ g) × (end_of earlier ≤ c.from) × (c.from < c.to)
May earlier (Fenced g end) = (fence earlier < g) × (end_of earlier ≤ end)

abbrev pub IsLogRun : {A : Type 0} → LogRun A → Type 0
IsLogRun [] = Unit {0}
IsLogRun (step ∷ earlier) = May earlier step × IsLogRun earlier

-- what stood when the log was read under a generation
abbrev pub stood : {A : Type 0} → LogRun A → ℕ → List (Copy A)
stood [] g = []
stood (Seen e ∷ earlier) g = stood earlier g
stood (Landed c ∷ earlier) g = stood earlier g
stood (Fenced g' end ∷ earlier) g = if g == g' then landed earlier else stood earlier g
