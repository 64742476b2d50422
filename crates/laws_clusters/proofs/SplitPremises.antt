-- What is premised of the two ranges of a split, and of the streams that are built for them, is so of what comes to the servers of each run
-- without merges, where what comes to them builds the streams of splits.
use Rattle.std.proofs.Common.{◌≡◌, ◌⊎◌, ℕ, ◌≤◌, Option, Some, None, refl, sym, ap, ◌∙◌, inl, inr, arith}
use Rattle.wire.specs.declared.streams.StreamKind.TheVariants as kinds
use Rattle.wire.specs.declared.streams.StreamName.{StreamName}
use Rattle.streams.specs.Streams.{stream_of}
use Rattle.model_streams.specs.Maps.{entry_at}
use Rattle.model_partition.specs.declared.split_job.Side.{Side}
use Rattle.model_partition.specs.declared.split_job.Side.TheVariants.{Low, High}
use Rattle.model_partition.specs.declared.split_job.SplitJob.{SplitJob}
use Rattle.model_partition.specs.declared.split_job.SplitPhase.{SplitPhase}
use Rattle.model_partition.specs.declared.split_job.SplitPhase.TheVariants as phases
use Rattle.model_partition.specs.Range.{RangeState}
use Rattle.model_partition.specs.Server.{ServerState, range_of}
use Rattle.model_partition.specs.Servers.{ServerCell}
use Rattle.model_partition.specs.Splits.{side_range}
use Rattle.model_partition.specs.Cluster.{Cluster}
use Rattle.model_histories.specs.ServerRun.{ServerRun}
use Rattle.laws_map.specs.Stages.{stage_of}
use Rattle.laws_map.proofs.StagesStand.{AsksBuild}
use Rattle.laws_map.proofs.ManagerBirths.{IsIn}
use Rattle.laws_map.proofs.SplitFacts.{KnowsSplits, IsSide, JobAt, MayHold, split_alone, split_apart, split_above, split_builds, split_there, held_assigned, split_unassigned, first_of, new_unassigned, new_waits}
use Rattle.laws_server_runs.specs.ChildInvariant.{HasPair, IsBeforeBuild, IsBuilding, IsSaying, ChildAt, IsUnheld, AreChildren}

-- ---- phases and stages

pair_stage : (phase : SplitPhase) → HasPair phase → 1 ≤ stage_of phase
pair_stage (phases.Begin q) pair = absurd pair
pair_stage phases.Checkpoint pair = omega arith
pair_stage phases.Queue pair = omega arith
pair_stage phases.Record pair = omega arith
pair_stage (phases.Seal kind q) pair = omega arith
pair_stage (phases.Build q) pair = omega arith
pair_stage (phases.Keys side c) pair = omega arith
pair_stage (phases.Complete q) pair = omega arith

before_stage : (phase : SplitPhase) → IsBeforeBuild phase → stage_of phase ≡ 1
before_stage phases.Checkpoint before = refl
before_stage phases.Queue before = refl
before_stage phases.Record before = refl
before_stage (phases.Seal kind q) before = refl
before_stage (phases.Begin q) before = absurd before
before_stage (phases.Build q) before = absurd before
before_stage (phases.Keys side c) before = absurd before
before_stage (phases.Complete q) before = absurd before

building_stage : (phase : SplitPhase) → IsBuilding phase → stage_of phase ≡ 2
building_stage (phases.Build q) building = refl
building_stage (phases.Begin q) building = absurd building
building_stage phases.Checkpoint building = absurd building
building_stage phases.Queue building = absurd building
building_stage phases.Record building = absurd building
building_stage (phases.Seal kind q) building = absurd building
building_stage (phases.Keys side c) building = absurd building
building_stage (phases.Complete q) building = absurd building

pub saying_stage : (phase : SplitPhase) → IsSaying phase → stage_of phase ≡ 3
saying_stage (phases.Keys side c) saying = refl
saying_stage (phases.Begin q) saying = absurd saying
saying_stage phases.Checkpoint saying = absurd saying
saying_stage phases.Queue saying = absurd saying
saying_stage phases.Record saying = absurd saying
saying_stage (phases.Seal kind q) saying = absurd saying
saying_stage (phases.Build q) saying = absurd saying
saying_stage (phases.Complete q) saying = absurd saying

is_building : (phase : SplitPhase) → stage_of phase ≡ 2 → IsBuilding phase
is_building (phases.Build q) two = tt
is_building (phases.Begin q) two = absurd (omega (arith, two))
is_building phases.Checkpoint two = absurd (omega (arith, two))
is_building phases.Queue two = absurd (omega (arith, two))
is_building phases.Record two = absurd (omega (arith, two))
is_building (phases.Seal kind q) two = absurd (omega (arith, two))
is_building (phases.Keys side c) two = absurd (omega (arith, two))
is_building (phases.Complete q) two = absurd (omega (arith, two))

pub side_is : (job : SplitJob) (side : Side) (child : ℕ) → child ≡ side_range job side → IsSide child job
side_is job Low child is = inl is
side_is job High child is = inr is

-- ---- the premises

-- the first stream of a range
abbrev pub first_name : ℕ → StreamName
first_name range = record { range = range; kind = kinds.Metadata }

-- Of what was built by then: each was asked for, by a split that makes it; and where the first stream of a range is there that is no user's and not
-- the first range's, it was built.
pub record AreBuilt (IsBuilt : ℕ → Type 0) (c : Cluster) : Type 0 where
  pub asked : (child : ℕ) → IsBuilt child → (job : SplitJob) × AsksBuild c.stream_layer.post job × IsSide child job
  pub there : (child : ℕ) → IsIn c.stream_layer.catalog.stream (first_name child) → (child ≤ 1) ⊎ IsBuilt child

module _ (c : Cluster) (k : KnowsSplits c) (x : ServerRun) (same : c.servers ≡ x.servers) where
  pub job_at : (s range child : ℕ) (a : ChildAt x s range child) → JobAt c.servers s range a.job
  job_at s range child a = record { cell = a.cell; state = a.state; there = ap (λ l. entry_at l s) same ∙ a.there; runs = a.runs; found = a.found }

  come : (s range child : ℕ) (a : ChildAt x s range child) → 1 ≤ stage_of a.job.phase
  come s range child a = pair_stage a.job.phase a.pair

  pub side_at : (s range child : ℕ) (a : ChildAt x s range child) → IsSide child a.job
  side_at s range child a = side_is a.job a.side child a.is

  -- what may not be held is not
  pub unheld_by : (child : ℕ) → (MayHold c k child → ⊥) → IsUnheld child x
  unheld_by child none s cell st at up r found = none (held_assigned c k s cell st (ap (λ l. entry_at l s) same ∙ at) up child r found)

  pub are_children : (IsBuilt : ℕ → Type 0) → AreBuilt IsBuilt c → AreChildren IsBuilt x
  are_children IsBuilt b = record {
    alone = λ child s t range other a e.
        split_alone c k s t range other a.job e.job (job_at s range child a) (job_at t other child e) (come s range child a) (come t other child e) child (side_at s range child a) (side_at t other child e);
    apart = λ s range child a. split_apart c k s range a.job (job_at s range child a) (come s range child a);
    early = λ s range child a before built.
        (let (other, asks, part) = b.asked child built in
        let two = (split_builds c k s range a.job (job_at s range child a) (come s range child a) other asks child part (side_at s range child a)).0 in
        let one = before_stage a.job.phase before in
        omega (arith, two, one));
    late = λ s range child a saying.
        (let three = saying_stage a.job.phase saying in
        elim (b.there child (first_of c k a.job child (side_at s range child a) (split_there c k s range a.job (job_at s range child a) (omega (arith, three))).1)) [
          | inl small ↦ absurd (above s range child a small)
          | inr built ↦ built
        ]);
    unheld = λ s range child a waits.
        (let stage : stage_of a.job.phase ≤ 3 = upto_three a.job.phase waits in
        unheld_by child (split_unassigned c k s range a.job (job_at s range child a) (come s range child a) stage child (side_at s range child a)));
  }
    where
      above : (s range child : ℕ) (a : ChildAt x s range child) → child ≤ 1 → ⊥
      above s range child a small = split_above c k s range a.job (job_at s range child a) (come s range child a) child (side_at s range child a) small

      upto_three : (phase : SplitPhase) → IsBuilding phase ⊎ IsSaying phase → stage_of phase ≤ 3
      upto_three phase (inl building) = let two = building_stage phase building in omega (arith, two)
      upto_three phase (inr saying) = let three = saying_stage phase saying in omega (arith, three)

  -- Where the streams of a range are built that are not there yet, nobody holds it, and each split that makes it is of the source, and waits for them.
  module _ (source : ℕ) (child : ℕ) (job : SplitJob) (asks : AsksBuild c.stream_layer.post job) (of : source ≡ job.range) (part : IsSide child job) (absent : stream_of c.stream_layer.catalog.stream (first_name child) ≡ None) where
    pub new_may : MayHold c k child → ⊥
    new_may = new_unassigned c k job asks child part absent

    pub new_held : (s : ℕ) (cell : ServerCell) (st : ServerState) → entry_at x.servers s ≡ Some cell → cell.state ≡ Some st → range_of st.ranges child ≡ None
    new_held s cell st at up = by (range_of st.ranges child) refl
      where
        by : (o : Option RangeState) → range_of st.ranges child ≡ o → o ≡ None
        by None is = refl
        by (Some r) is = absurd (unheld_by child new_may s cell st at up r is)

    pub new_asked : (s split : ℕ) (a : ChildAt x s split child) → (split ≡ source) × IsBuilding a.job.phase
    new_asked s split a =
        let w = new_waits c k job asks child part absent s split a.job (job_at s split child a) (come s split child a) (side_at s split child a) in
        (w.0 ∙ sym of, is_building a.job.phase w.1)
