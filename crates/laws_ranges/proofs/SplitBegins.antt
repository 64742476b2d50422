-- A split begins: the map is asked for the numbers of the two ranges, the range makes its checkpoint, and takes no transaction any more.
-- None of these steps turns a stream.
use Rattle.std.proofs.Common.{◌≡◌, ℕ, suc, List, [], Bool, true, false, not, ◌&&◌, Option, Some, None, is_some, sym, subst, inl, arith, if◌then◌else◌}
use Rattle.std.proofs.lemmas.Bool.{and_parts}
use Rattle.replica.specs.Groups.{Group}
use Rattle.checkpoint.specs.PageGroups.{next_group}
use Rattle.model_streams.proofs.Tests.{if_elim}
use Rattle.model_streams.specs.StreamSystem.{StreamSystem}
use Rattle.model_partition.specs.CheckpointStates.{CheckpointState}
use Rattle.model_partition.specs.declared.pause.Pause.{Pause}
use Rattle.model_partition.specs.declared.pause.Pause.TheVariants as pauses
use Rattle.model_partition.specs.declared.server_context.ServerContext.{ServerContext}
use Rattle.model_partition.specs.declared.split_job.SplitJob.{SplitJob}
use Rattle.model_partition.specs.declared.split_job.SplitPhase.TheVariants as phases
use Rattle.model_partition.specs.declared.stage.Stage.TheVariants as stages
use Rattle.model_partition.specs.Range.{RangeState, RangeOutcome, goes}
use Rattle.model_partition.specs.Checkpoints.{checkpoint_fault, number_to_apply, have_bytes, combines, with_fixed, new_job, new_combining_job, combined_job, next_append, rows_go, writes_pages, merges, begins, checkpoint_rule}
use Rattle.model_partition.specs.Splits.{SplitStep, stays, with_phase, split_rule, may_checkpoint, has_record_numbers, begun}
use Rattle.laws_loads.specs.RangeView.{RangeView}
use Rattle.laws_loads.proofs.PageAnswers.{merged, unread, merges_elim}
use Rattle.laws_loads.proofs.WaitingIsSound.{none_there}
use Rattle.laws_ranges.specs.Serves.{Side, StageIs, IsServing, Follows, FollowsIf, BothListed, IsSentBy}
use Rattle.laws_ranges.specs.Seen.{RuleSees}
use Rattle.laws_ranges.specs.SplitJobs.{AreOthers, FollowsSplit, FollowsBothIf, ServedIf, SplitSees}
use Rattle.laws_ranges.proofs.CheckpointRules.{checkpoint_quietly}
use Rattle.laws_ranges.proofs.SeenTurns.{quiet_sees}
use Rattle.laws_ranges.proofs.SplitSteps.{still_plain, rule_split}
use Rattle.laws_ranges.proofs.WholeRanges.{is_served}

-- ---- a checkpoint that begins leaves the range served

module _ (d : ServerContext) where
  abbrev LeavesServed : RangeOutcome → Type 0
  LeavesServed o = ServedIf o.after

  pages_served : (r : RangeState) → r.stage ≡ stages.Serving → (x : CheckpointState × Option Group) → LeavesServed (rows_go d r x)
  pages_served r stage (job, None) = stage
  pages_served r stage (job, Some group) = stage

  pub writes_served : (r : RangeState) → r.stage ≡ stages.Serving → (job : CheckpointState) → LeavesServed (writes_pages d r job)
  writes_served r stage job = pages_served r stage (next_append job (next_group job.pages))

  pub merges_served : (r : RangeState) → r.stage ≡ stages.Serving → (job : CheckpointState) → LeavesServed (merges d r job)
  merges_served r stage job =
      merges_elim LeavesServed d r job stage (λ merge. stage) (λ merge place places is told. stage) (λ merge newer is fixed. writes_served (unread r) stage (combined_job (merged job merge) newer))

  pub begins_served : (r : RangeState) → r.stage ≡ stages.Serving → (combine : Bool) → LeavesServed (begins d r combine)
  begins_served r stage combine =
      if_elim LeavesServed (combines combine r.indexes) _ _ (λ t. merges_served (with_fixed r) stage (new_combining_job r)) (λ f. writes_served (with_fixed r) stage (new_job r))

module _ (generation : ℕ → ℕ) (range : ℕ) (w : StreamSystem) (i : ℕ) where
  -- whether it is paused does not matter to its streams
  pub follows_paused : (m l : Side) (r : RangeState) (pause : Pause) → r.stage ≡ stages.Serving → Follows generation range w i m l r → Follows generation range w i m l (record r { pause = pause })
  follows_paused m l r pause stage f =
      let s : IsServing generation range w i m l r = is_served generation range w i m l r f stage in
      let serving : IsServing generation range w i m l (record r { pause = pause }) = record {
        phase = s.phase;
        metadata = s.metadata;
        record_is = s.record_is;
        log = s.log;
        out = s.out;
        position = s.position;
        trims = s.trims;
      } in
      record {
        range_is = f.range_is;
        under = f.under;
        calm = f.calm;
        rows = f.rows;
        stage = subst (λ z. StageIs generation range w i m l (record r { pause = pause }) z) (sym stage) serving;
      }

  module _ (both : BothListed w range) (m l : Side) (d : ServerContext) (by : IsSentBy d d.count m.sent l.sent) (v : RangeView) (r : RangeState) where
    abbrev Does : SplitStep → Type 0
    Does t = SplitSees generation range w i v m l d t []

    -- nothing changes
    pub stays_split : (job : SplitJob) → FollowsSplit generation range w i m l r job → Does (stays d r job)
    stays_split job f = still_plain generation range w i both m l d by v (stays d r job) f (omega arith) tt

    module _ (stage : r.stage ≡ stages.Serving) (f : Follows generation range w i m l r) where
      -- the map is asked
      pub begins_split : (key : List ℕ) → Does (split_rule d r key)
      begins_split key = still_plain generation range w i both m l d by v (split_rule d r key) (record { range_is = f.range_is; under = f.under; stage = stage; others = tt; stands = f }) (omega arith) (inl (λ u n s z. tt), tt)

      -- it has told the numbers of the two ranges
      pub begun_split : (job : SplitJob) → FollowsSplit generation range w i m l r job → (low high : ℕ) → (low ≡ range → ⊥) → (high ≡ range → ⊥) → Does (begun d r job low high)
      begun_split job waits low high low_other high_other =
          if_elim Does (may_checkpoint r && has_record_numbers r) _ _ (λ t. checkpoints (and_parts (may_checkpoint r) (has_record_numbers r) t).0) (λ n. stays_split job waits)
        where
          numbered : SplitJob
          numbered = record job { low = low; high = high; number = suc r.said.next; phase = phases.Checkpoint }

          left : (after : Option RangeState) → ServedIf after → (n k : Side) → FollowsIf generation range w i after n k → FollowsBothIf generation range w i (Some numbered) after n k
          left None served n k follows = tt
          left (Some next) served n k follows = record { range_is = waits.range_is; under = waits.under; stage = served; others = (low_other, high_other); stands = follows }

          checkpoints : may_checkpoint r ≡ true → Does (record { range = (begins d r false).after; job = Some numbered; count = (begins d r false).count; packets = (begins d r false).packets })
          checkpoints may =
              let parts = and_parts (not (is_some (checkpoint_fault r))) (have_bytes r.live r.position (number_to_apply r.out r.next)) may in
              let whole = quiet_sees generation range w i v m l d (checkpoint_rule d r false) [] (checkpoint_quietly generation range w i both m l d by r f false (none_there (checkpoint_fault r) parts.0)) tt in
              let rule : RuleSees generation i range w v m l d (begins d r false) [] =
              subst (λ (t : Bool). RuleSees generation i range w v m l d (if t then begins d r false else goes d r [] []) []) parts.1 whole in
              rule_split generation range w i both m l d by v (begins d r false) (Some numbered) [] rule (left (begins d r false).after (begins_served d r stage false))

      -- transactions wait, or the record cannot be written
      pub waits_split : (job : SplitJob) → job.range ≡ range → job.generation ≡ generation i → AreOthers range job phases.Queue → r.control ≡ None → Does (stays d (record r { pause = pauses.AfterQueue }) (with_phase job phases.Queue))
      waits_split job range_is under others none =
          still_plain generation range w i both m l d by v (stays d (record r { pause = pauses.AfterQueue }) (with_phase job phases.Queue))
          (record { range_is = range_is; under = under; stage = stage; others = others; stands = (follows_paused m l r pauses.AfterQueue stage f, none) }) (omega arith) tt
