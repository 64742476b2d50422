-- What is premised of the streams of all ranges, and of each range of which anything is told: that it is the first, or that a split at a server
-- made it, of which the map says what that server had.
use Rattle.std.specs.Prelude.{◌≡◌, ◌⊎◌, ℕ, ◌<◌, ◌≤◌, true, List, [], ◌∷◌, ◌++◌, Some, Contains}
use Rattle.wire.specs.declared.note.Note.{Note}
use Rattle.model_partition.specs.Loading.{Group}
use Rattle.model_partition.specs.Past.{Bytes, first_range}
use Rattle.model_histories.specs.Log.{is_of, only}
use Rattle.model_histories.specs.ServedTables.{StreamsInOrder}
use Rattle.model_histories.specs.ServerRun.{ServerEvent, Builds, log_name, run_of}
use Rattle.model_histories.specs.Story.{Placed, Showed, event_at}
use Rattle.laws_tables.specs.Families.{IsChild, generation_of}
use Rattle.laws_server_runs.specs.ChildInvariant.{IsCompleting, ChildAt}

module _ (texts : ℕ → Bytes) (batch servers : ℕ) where
  -- the streams of each range are in order
  abbrev pub AllInOrder : List ServerEvent → Type 0
  AllInOrder events = (n : ℕ) → StreamsInOrder texts n (run_of batch servers events)

  -- Each load of a range that stood in its log when another's streams were built of its own is a load of the same copies for both.
  abbrev pub AreShared : (events until : List ServerEvent) → AllInOrder events → (p r : ℕ) → Type 0
  AreShared events until order p r =
      (late early : List ServerEvent) → until ≡ late ++ Builds p r ∷ early → (l g start end : ℕ) (groups : List (Placed Group)) → event_at ((run_of batch servers early).story (log_name p)) l ≡ Some (Showed g start end groups) →
      (order r).log.copies l ≡ (order p).log.copies l

  -- h: what is observed
  module _ (h : List Note) where
    -- The map says of a split at a server that it made this range: under the generation of the split, the last of the range that was split, and
    -- the first but for what comes after of the two.
    pub record IsToldOf (until : List ServerEvent) (server p r : ℕ) (c : ChildAt (run_of batch servers until) server p r) : Type 0 where
      pub waits : IsCompleting c.job.phase
      pub child : IsChild h p r
      pub low : child.low ≡ c.job.low
      pub high : child.high ≡ c.job.high
      pub key : child.key ≡ c.job.key
      pub highest : (note : Note) → Contains h note → is_of p note ≡ true → generation_of note ≤ c.job.generation
      pub above : (note : Note) → Contains h note → is_of r note ≡ true → c.job.generation < generation_of note

    -- a split made a range of another, and waited for its end after some of the events
    pub record IsSplitOff (events : List ServerEvent) (order : AllInOrder events) (p r : ℕ) : Type 0 where
      pub after : List ServerEvent
      pub until : List ServerEvent
      pub is : events ≡ after ++ until
      pub server : ℕ
      pub split : ChildAt (run_of batch servers until) server p r
      pub told : IsToldOf until server p r split
      pub shared : AreShared events until order p r

    -- each range of which anything is told is the first, which no split makes, or such a one
    abbrev pub AllAreBorn : (events : List ServerEvent) → AllInOrder events → Type 0
    AllAreBorn events order = (r : ℕ) → (only r h ≡ []) ⊎ ((r ≡ first_range) ⊎ ((p : ℕ) × IsSplitOff events order p r))
