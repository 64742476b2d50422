-- The two ranges of a split stand as they did, and are aside as they were, where a rule of the range leaves what their keys are made of, and
-- leaves its server no more ranges and no other splits.
use Rattle.std.proofs.Common.{◌≡◌, ℕ, List, Option, Some, sym, ◌∙◌, subst, inl, inr}
use Rattle.std.proofs.lemmas.Bool.{cases_eq}
use Rattle.replica.specs.Groups.{Group}
use Rattle.client.specs.Client.{ClientState}
use Rattle.model_streams.specs.Maps.{entry_at}
use Rattle.model_streams.specs.StreamSystem.{StreamSystem, Move}
use Rattle.model_partition.specs.declared.split_job.Side.{Side as SplitSide}
use Rattle.model_partition.specs.declared.split_job.Side.TheVariants.{Low, High}
use Rattle.model_partition.specs.declared.split_job.SplitJob.{SplitJob}
use Rattle.model_partition.specs.declared.split_job.SplitPhase.{SplitPhase}
use Rattle.model_partition.specs.declared.split_job.SplitPhase.TheVariants as phases
use Rattle.model_partition.specs.Range.{RangeState}
use Rattle.model_partition.specs.Server.{ServerState, range_of, split_of}
use Rattle.model_partition.specs.Servers.{ServerCell}
use Rattle.model_partition.specs.Splits.{side_range}
use Rattle.model_histories.specs.ServerRun.{RangeHistory}
use Rattle.laws_ranges.specs.Serves.{Side, JobIs, metadata_of}
use Rattle.laws_ranges.specs.SplitJobs.{RestsIs, PhaseStands}
use Rattle.laws_ranges.specs.SplitSides.{SideWaits, SideAppends}
use Rattle.laws_ranges.proofs.SplitsPaused.{KeepsKeys, IsRecorded, recorded_is, metadata_kept, keys_kept}
use Rattle.laws_clusters.proofs.Invariant.{HeldAt, SplitAt, IsMaking, AreAside, Machines, m_side, here, SideIsThere, KeysStand}
use Rattle.laws_clusters.proofs.StepServers as left
use Rattle.laws_clusters.proofs.StepShapes.{aside_on, AreLeft, SplitsLeft}

-- ---- keys

module _ (generation : ℕ → ℕ) (nodes target : ℕ) (moves : List Move) (machines : ℕ → Machines generation) (history : ℕ → RangeHistory) (i : ℕ) (r next : RangeState) (job : SplitJob) where
  abbrev side_of : SplitSide → Side
  side_of side = m_side generation (machines (side_range job side)) i

  waits_same : KeepsKeys r next → (side : SplitSide) → SideWaits generation (here generation nodes target moves) i (side_of side) r job side → SideWaits generation (here generation nodes target moves) i (side_of side) next job side
  waits_same k side b d =
      subst (λ (c : ClientState). RestsIs generation (metadata_of (side_range job side)) (here generation nodes target moves) i (side_of side).stand (side_of side).sent c) (sym (metadata_kept r next k job side d)) (b d)

  appends_same : KeepsKeys r next → (side : SplitSide) (c : ClientState) → SideAppends generation (here generation nodes target moves) i (side_of side) r job side c → SideAppends generation (here generation nodes target moves) i (side_of side) next job side c
  appends_same k side c b = record { client = b.client; group = subst (λ (z : Group). JobIs (λ group. group ≡ z) (Unit {0}) c.job c.group) (sym (keys_kept r next k job side)) b.group }

  there_same : (part : SplitSide) → SideIsThere generation nodes target moves machines history i r job part → SideIsThere generation nodes target moves machines history i next job part
  there_same part b = record { counted = b.counted; streams = b.streams; append = b.append; log = b.log }

  -- the keys of a range that keeps what they are made of stand as they did
  pub keys_same : (phase : SplitPhase) → (IsMaking phase → KeepsKeys r next) → KeysStand generation nodes target moves machines history i r job phase → KeysStand generation nodes target moves machines history i next job phase
  keys_same (phases.Build q) kept b = λ side there. (let old = b side there in (waits_same (kept tt) side old.0, old.1))
  keys_same (phases.Keys Low c) kept b = ((appends_same (kept tt) Low c b.0.0, waits_same (kept tt) High b.0.1), λ part. there_same part (b.1 part))
  keys_same (phases.Keys High c) kept b = (appends_same (kept tt) High c b.0, λ part. there_same part (b.1 part))
  keys_same (phases.Begin q) kept b = tt
  keys_same phases.Checkpoint kept b = tt
  keys_same phases.Queue kept b = tt
  keys_same phases.Record kept b = tt
  keys_same (phases.Seal kind q) kept b = tt
  keys_same (phases.Complete q) kept b = tt

-- while the two ranges are being made the record of the split stands
pub making_recorded : (generation : ℕ → ℕ) (range : ℕ) (w : StreamSystem) (i : ℕ) (m l : Side) (r : RangeState) (job : SplitJob) (phase : SplitPhase) → IsMaking phase → PhaseStands generation range w i m l r job phase → IsRecorded r
making_recorded generation range w i m l r job (phases.Build q) making stands = recorded_is generation range w i m l r stands.0
making_recorded generation range w i m l r job (phases.Keys side c) making stands = recorded_is generation range w i m l r stands.0
making_recorded generation range w i m l r job (phases.Begin q) making stands = absurd making
making_recorded generation range w i m l r job phases.Checkpoint making stands = absurd making
making_recorded generation range w i m l r job phases.Queue making stands = absurd making
making_recorded generation range w i m l r job phases.Record making stands = absurd making
making_recorded generation range w i m l r job (phases.Seal kind q) making stands = absurd making
making_recorded generation range w i m l r job (phases.Complete q) making stands = absurd making

-- ---- ranges aside

-- a step of a range that is held, whose split stays, leaves its server with no more ranges, and with the splits that it had
module _ (servers : List ServerCell) (s : ℕ) (cell : ServerCell) (st : ServerState) (at : entry_at servers s ≡ Some cell) (is : cell.state ≡ Some st) (range : ℕ) (r : RangeState) (found : range_of st.ranges range ≡ Some r)
    (split : Option SplitJob) (was : split_of st.splits range ≡ split) (o : Option RangeState) (after : ServerState) (shape : AreLeft st.ranges after.ranges range o) (split_shape : SplitsLeft st.splits after.splits range split) where
  abbrev next_servers : List ServerCell
  next_servers = left.servers_then servers s cell st at is range o split after shape split_shape

  held_before : (t k : ℕ) (z : RangeState) → HeldAt next_servers t k z → (u : RangeState) × HeldAt servers t k u
  held_before t k z h = elim (cases_eq t s) [
    | inl same ↦ elim (cases_eq k range) [
      | inl of_range ↦
          (let own : HeldAt servers s range r = record { cell = cell; state = st; there = at; up = is; found = found } in
          (r, subst (λ n. HeldAt servers n k r) (sym same) (subst (λ j. HeldAt servers s j r) (sym of_range) own)))
      | inr apart ↦ (z, left.held_back servers s cell st at is range o split after shape split_shape t k z (λ e f. apart f) h)
    ]
    | inr apart ↦ (z, left.held_back servers s cell st at is range o split after shape split_shape t k z (λ e f. apart e) h)
  ]

  split_before : (t k : ℕ) (job : SplitJob) → SplitAt next_servers t k job → SplitAt servers t k job
  split_before t k job h = elim (cases_eq t s) [
    | inl same ↦ elim (cases_eq k range) [
      | inl of_range ↦
          (let own_now : SplitAt next_servers s range job = subst (λ j. SplitAt next_servers s j job) of_range (subst (λ n. SplitAt next_servers n k job) same h) in
          let own : SplitAt servers s range job = record { cell = cell; state = st; there = at; up = is; found = was ∙ left.own_split servers s cell st at is range o split after shape split_shape job own_now } in
          subst (λ n. SplitAt servers n k job) (sym same) (subst (λ j. SplitAt servers s j job) (sym of_range) own))
      | inr apart ↦ left.split_back servers s cell st at is range o split after shape split_shape t k job (λ e f. apart f) h
    ]
    | inr apart ↦ left.split_back servers s cell st at is range o split after shape split_shape t k job (λ e f. apart e) h
  ]

  -- so the two ranges of each split are aside as they were
  pub aside_stays : AreAside servers → AreAside next_servers
  aside_stays aside = aside_on servers next_servers split_before held_before aside
