-- How the metadata of the two ranges that a split makes stands in their machines, while the server of the split appends their keys: under
-- the incarnation of the range that is split.
use Rattle.std.specs.Prelude.{◌≡◌, ◌⊎◌, ℕ, suc, List, [], ◌∷◌, ◌++◌, map, Option, Some, None}
use Rattle.wire.specs.declared.packet.Packet.{Packet}
use Rattle.wire.specs.declared.streams.StreamKind.TheVariants as kinds
use Rattle.wire.specs.declared.streams.StreamName.{StreamName}
use Rattle.replica.specs.Groups.{Group}
use Rattle.metadata.specs.Record.{spelling}
use Rattle.client.specs.Client.{ClientState}
use Rattle.model_streams.specs.StreamSystem.{StreamSystem}
use Rattle.model_partition.specs.declared.server_context.ServerContext.{ServerContext}
use Rattle.model_partition.specs.declared.split_job.Side.{Side as SplitSide}
use Rattle.model_partition.specs.declared.split_job.Side.TheVariants.{Low, High}
use Rattle.model_partition.specs.declared.split_job.SplitJob.{SplitJob}
use Rattle.model_partition.specs.declared.split_job.SplitPhase.{SplitPhase}
use Rattle.model_partition.specs.declared.split_job.SplitPhase.TheVariants as phases
use Rattle.model_partition.specs.Range.{RangeState, request}
use Rattle.model_partition.specs.Splits.{SplitStep, with_phase, side_range, side_metadata, keys_record}
use Rattle.model_histories.specs.ServerTurns as turns
use Rattle.model_histories.specs.StreamActions.{StreamAction, SideAction}
use Rattle.laws_loads.specs.RangeView.{RangeView}
use Rattle.laws_stream_machine.specs.Refinement.{Purpose, IsAsked}
use Rattle.laws_ranges.specs.Serves.{Side, after_turns, AreTurns, JobIs, ServingIs, IsPlain, IsOwn, metadata_of, sent_with}
use Rattle.laws_ranges.specs.Seen.{AreSeenOf}
use Rattle.laws_ranges.specs.SplitJobs.{RestsIs, FollowsBothIf, ServedIf}

-- the group of the record of its keys
abbrev pub keys_group : RangeState → SplitJob → SplitSide → Group
keys_group r job side = spelling (keys_record r job side) ∷ []

-- actions on the streams of one range
abbrev pub tagged : ℕ → List StreamAction → List SideAction
tagged range actions = map (λ action. record { range = range; action = action }) actions

-- the streams of the two are not asked for any more, and no keys are being appended
abbrev pub IsUnmade : SplitPhase → Type 0
IsUnmade (phases.Build q) = ⊥
IsUnmade (phases.Keys side c) = ⊥
IsUnmade phase = Unit {0}

abbrev pub IsUnmadeIf : Option SplitJob → Type 0
IsUnmadeIf None = Unit {0}
IsUnmadeIf (Some job) = IsUnmade job.phase

-- a step that leaves the range as it is, while the keys of one of the two are being appended
pub record SaysKeys (r : RangeState) (job : SplitJob) (t : SplitStep) : Type 0 where
  pub side : SplitSide
  pub client : ClientState
  pub range_is : t.range ≡ Some r
  pub job_is : t.job ≡ Some (with_phase job (phases.Keys side client))

module _ (generation : ℕ → ℕ) (w : StreamSystem) (i : ℕ) where
  -- It begins as that of the range stood when it was built of it: with the extents of that, all sealed, and nothing out.
  abbrev pub SideWaits : Side → RangeState → SplitJob → SplitSide → Type 0
  SideWaits x r job side = (d : ServerContext) → RestsIs generation (metadata_of (side_range job side)) w i x.stand x.sent (side_metadata d r job side)

  -- what its client appends is the record of its keys
  pub record SideAppends (x : Side) (r : RangeState) (job : SplitJob) (side : SplitSide) (c : ClientState) : Type 0 where
    pub client : ServingIs generation (metadata_of (side_range job side)) w i x.stand x.sent c
    pub group : JobIs (λ group. group ≡ keys_group r job side) (Unit {0}) c.job c.group

  -- both of them, by what the split waits for; the keys of the lower range come first
  abbrev pub SidesStand : Side → Side → RangeState → SplitJob → SplitPhase → Type 0
  SidesStand a b r job (phases.Keys Low c) = SideAppends a r job Low c × SideWaits b r job High
  SidesStand a b r job (phases.Keys High c) = SideAppends b r job High c
  SidesStand a b r job phase = Unit {0}

  abbrev pub SidesStandIf : Side → Side → Option RangeState → Option SplitJob → Type 0
  SidesStandIf a b (Some r) (Some job) = SidesStand a b r job job.phase
  SidesStandIf a b r job = Unit {0}

  -- packets that say nothing of any stream's extents
  abbrev pub ArePlain : ℕ → List Packet → Type 0
  ArePlain range [] = Unit {0}
  ArePlain range (p ∷ ps) = IsPlain generation range w i p × ArePlain range ps

  -- packets that are asked of one stream alone
  abbrev pub AreOwn : StreamName → Side → List Packet → Type 0
  AreOwn name x [] = Unit {0}
  AreOwn name x (p ∷ ps) = (IsAsked generation name w x.stand.state x.sent p.body × IsOwn generation name w i x.sent p.body) × AreOwn name x ps

  -- Who asks what a step sends: nobody, where the two are not made any more; or the metadata of one of them alone, where its keys are being
  -- appended. Only a number of that can get a purpose.
  pub data AskedOfSides (r : RangeState) (job : SplitJob) (t : SplitStep) (low_purpose high_purpose : Option Purpose) (a b : Side) : Type 0 where
    OfNone : (plain : ArePlain job.range t.packets) (unmade : IsUnmadeIf t.job) (no_low : low_purpose ≡ None) (no_high : high_purpose ≡ None) → AskedOfSides r job t low_purpose high_purpose a b
    OfLow : (own : AreOwn (metadata_of job.low) a t.packets) (keyed : SaysKeys r job t) (no_high : high_purpose ≡ None) → AskedOfSides r job t low_purpose high_purpose a b
    OfHigh : (own : AreOwn (metadata_of job.high) b t.packets) (keyed : SaysKeys r job t) (no_low : low_purpose ≡ None) → AskedOfSides r job t low_purpose high_purpose a b

  -- What a step of a split does on the metadata of the two: turns of the incarnation in both machines, each allowed, and at most one request
  -- of the server's next number; its actions are what its turns add to either. The streams of the range itself stay as they are.
  pub record SidesGo (range : ℕ) (m l a b : Side) (d : ServerContext) (r : RangeState) (job : SplitJob) (t : SplitStep) (sides : List SideAction) : Type 0 where
    pub low_turns : List (turns.Turn Group)
    pub high_turns : List (turns.Turn Group)
    pub low_allowed : AreTurns generation i a.stand low_turns
    pub high_allowed : AreTurns generation i b.stand high_turns
    pub low_purpose : Option Purpose
    pub high_purpose : Option Purpose
    pub counts : (t.count ≡ suc d.count) ⊎ ((t.count ≡ d.count) × (low_purpose ≡ None) × (high_purpose ≡ None))
    pub low_actions : List StreamAction
    pub high_actions : List StreamAction
    pub are : sides ≡ tagged job.high high_actions ++ tagged job.low low_actions
    pub low_seen : (u : RangeView) → AreSeenOf generation i kinds.Metadata u a.stand low_turns low_actions
    pub high_seen : (u : RangeView) → AreSeenOf generation i kinds.Metadata u b.stand high_turns high_actions
    pub held : FollowsBothIf generation range w i t.job t.range m l
    pub served : ServedIf t.range
    pub then : SidesStandIf (record { stand = after_turns generation i a.stand low_turns; sent = sent_with (request d) low_purpose a.sent })
        (record { stand = after_turns generation i b.stand high_turns; sent = sent_with (request d) high_purpose b.sent }) t.range t.job
    pub asked : AskedOfSides r job t low_purpose high_purpose (record { stand = after_turns generation i a.stand low_turns; sent = sent_with (request d) low_purpose a.sent })
        (record { stand = after_turns generation i b.stand high_turns; sent = sent_with (request d) high_purpose b.sent })
