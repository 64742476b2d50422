-- The steps of a checkpoint at a range that is served keep what is kept of the range.
use Rattle.std.proofs.Common.{◌≡◌, ℕ, List, [], ◌∷◌, Bool, true, false, Option, Some, None, is_some, refl, sym, ap, subst, inl, inr}
use Rattle.std.specs.Prelude.{if◌then◌else◌}
use Rattle.wire.specs.declared.refusal.Refusal.TheVariants as refusals
use Rattle.wire.specs.declared.streams.StreamKind.TheVariants as kinds
use Rattle.client.specs.declared.job.Job.TheVariants as jobs
use Rattle.model_partition.specs.declared.server_context.ServerContext.{ServerContext}
use Rattle.model_partition.specs.declared.stage.Stage.{Stage}
use Rattle.model_partition.specs.declared.stage.Stage.TheVariants as stages
use Rattle.model_partition.specs.CheckpointStates.{CheckpointState}
use Rattle.model_partition.specs.Past.{Bytes}
use Rattle.model_partition.specs.Range.{RangeState, RangeOutcome, is_serving, is_paused}
use Rattle.model_histories.specs.ServedTables.{AreSeenAs}
use Rattle.model_histories.specs.StreamActions.{StreamAction}
use Rattle.laws_loads.specs.RangeView.{RangeView, Free, view_after_all}
use Rattle.laws_loads.specs.Sound.{AreSound, IsSound}
use Rattle.laws_loads.specs.StaysLoading.{IsAsBeforeIf, LeavesAsBefore}
use Rattle.laws_tables.specs.Runs.{Run, first_beginning, held, IsServing}
use Rattle.laws_server_runs.specs.RangeInvariant.{Matches, Serves, StageIs, RangeKept, StreamsKept, KeptIf, ServesAnew, StepKept}
use Rattle.laws_server_runs.specs.Places.{AreLow}
use Rattle.laws_server_runs.proofs.CheckpointBegins.{MatchesIf}
use Rattle.laws_server_runs.proofs.CheckpointSteps.{CheckpointStep, begins_step}
use Rattle.laws_server_runs.proofs.Loads.{calm_kept, silent_seen}
use Rattle.laws_server_runs.proofs.ServedNotes.{kept_served, serves_of}
use Rattle.laws_server_runs.proofs.LoadsSteps.{without_actions}
use Rattle.checkpoint.specs.PageGroups.{next_group}
use Rattle.model_streams.specs.Outcome.{first_met}
use Rattle.model_streams.proofs.Tests.{if_elim}
use Rattle.model_partition.specs.Checkpoints.{checkpoint_fault, checkpoint_rule, have_bytes, number_to_apply, new_job, new_combining_job, combines, combined_job, merges, with_fixed, next_append, rows_go}
use Rattle.laws_loads.proofs.PageAnswers.{merged, unread, merges_elim}
use Rattle.model_partition.specs.Loading.{Group}
use Rattle.std.specs.Prelude.{◌||◌, not}

-- ---- what a step leaves

-- its load, its stage, what waits at it and its cache are as they were
pub record IsBeside (r s : RangeState) : Type 0 where
  pub load : s.load ≡ r.load
  pub stage : s.stage ≡ r.stage
  pub next : s.next ≡ r.next
  pub queue : s.queue ≡ r.queue
  pub out : s.out ≡ r.out
  pub held : s.held ≡ r.held

abbrev pub IsBesideIf : RangeState → Option RangeState → Type 0
IsBesideIf r None = Unit {0}
IsBesideIf r (Some s) = IsBeside r s

pub record LeavesQueue (r : RangeState) (o : RangeOutcome) : Type 0 where
  pub after : IsBesideIf r o.after
  pub quiet : o.notes ≡ []

pub leaves_queue : (r : RangeState) (o : RangeOutcome) → LeavesAsBefore r o → LeavesQueue r o
leaves_queue r o b = record { after = by o.after b.after; quiet = b.quiet }
  where
    by : (x : Option RangeState) → IsAsBeforeIf r x → IsBesideIf r x
    by None a = tt
    by (Some s) a = record { load = a.load; stage = a.stage; next = a.next; queue = a.queue; out = a.out; held = a.held }

begins_beside : (d : ServerContext) (r : RangeState) (x : CheckpointState × Option Group) → LeavesQueue r (rows_go d (with_fixed r) x)
begins_beside d r (job, None) = record { after = record { load = refl; stage = refl; next = refl; queue = refl; out = refl; held = refl }; quiet = refl }
begins_beside d r (job, Some group) = record { after = record { load = refl; stage = refl; next = refl; queue = refl; out = refl; held = refl }; quiet = refl }

writes_beside : (d : ServerContext) (r : RangeState) (x : CheckpointState × Option Group) → LeavesQueue r (rows_go d (unread (with_fixed r)) x)
writes_beside d r (next, None) = record { after = record { load = refl; stage = refl; next = refl; queue = refl; out = refl; held = refl }; quiet = refl }
writes_beside d r (next, Some group) = record { after = record { load = refl; stage = refl; next = refl; queue = refl; out = refl; held = refl }; quiet = refl }

merges_beside : (d : ServerContext) (r : RangeState) (job : CheckpointState) → LeavesQueue r (merges d (with_fixed r) job)
merges_beside d r job =
    merges_elim (LeavesQueue r) d (with_fixed r) job
    (record { after = record { load = refl; stage = refl; next = refl; queue = refl; out = refl; held = refl }; quiet = refl })
    (λ merge. record { after = record { load = refl; stage = refl; next = refl; queue = refl; out = refl; held = refl }; quiet = refl })
    (λ merge place places is told. record { after = record { load = refl; stage = refl; next = refl; queue = refl; out = refl; held = refl }; quiet = refl })
    (λ merge newer is fixed. (let next : CheckpointState = combined_job (merged job merge) newer in writes_beside d r (next_append next (next_group next.pages))))

-- also where none begins
pub rule_beside : (d : ServerContext) (r : RangeState) (combine : Bool) → LeavesQueue r (checkpoint_rule d r combine)
rule_beside d r combine =
    if_elim (LeavesQueue r) (have_bytes r.live r.position (number_to_apply r.out r.next)) _ _
    (λ t. if_elim (LeavesQueue r) (combines combine r.indexes) _ _ (λ t. merges_beside d r (new_combining_job r)) (λ f. begins_beside d r (next_append (new_job r) (next_group (new_job r).pages))))
    (λ f. record { after = record { load = refl; stage = refl; next = refl; queue = refl; out = refl; held = refl }; quiet = refl })

module _ (texts : ℕ → Bytes) (subject : ℕ) (run : Run) (v : RangeView) (r : RangeState) (kept : RangeKept texts subject run v r) (streams : StreamsKept texts run v) (serving : is_serving r.stage ≡ true) where
  abbrev g : ℕ
  g = r.load.generation

  -- a step that leaves the queue and the number as they were
  module _ (o : RangeOutcome) (actions : List StreamAction) (b : LeavesQueue r o) (step : (z : RangeState) → o.after ≡ Some z → CheckpointStep texts subject run v r actions o) where
    abbrev after : RangeView
    after = view_after_all g v actions

    gone : o.after ≡ None → StepKept texts subject run v r [] o
    gone e = calm_kept texts subject run v r o streams b.quiet (subst (KeptIf texts subject run v g) (sym e) tt) (subst (ServesAnew texts run r) (sym e) tt)

    stays : (z : RangeState) → o.after ≡ Some z → StepKept texts subject run v r actions o
    stays z e =
        let s : CheckpointStep texts subject run v r actions o = step z e in
        let same : IsBeside r z = subst (IsBesideIf r) e b.after in
        let generation : z.load.generation ≡ g = ap (λ l. l.generation) same.load in
        let matches : Matches texts after (held first_beginning s.next g) z = subst (MatchesIf texts after (held first_beginning s.next g)) e s.matches in
        let serves : Serves texts s.next after z =
        record { shown = subst (IsServing s.next) (sym generation) s.shown; matches = subst (λ n. Matches texts after (held first_beginning s.next n) z) (sym generation) matches } in
        let sound : IsSound z =
        subst (λ q. AreSound q z.out z.next) (sym same.queue) (subst (λ x. AreSound r.queue x z.next) (sym same.out) (subst (λ n. AreSound r.queue r.out n) (sym same.next) kept.sound)) in
        record {
          next = s.next;
          goes = s.goes;
          alone = inr (inl serving);
          kept = subst (KeptIf texts subject s.next after g) (sym e) (kept_served texts subject run s.next v after r z kept serving same.stage same.load same.held sound serves, generation);
          streams = s.streams;
          longer = s.longer;
          anew = subst (ServesAnew texts run r) (sym e) (λ t. inl serving);
          seen = λ before later old told. silent_seen texts subject s.next before later (s.seen before old) (subst (λ notes. AreSeenAs texts notes later) b.quiet told);
        }

    pub leaves_kept : StepKept texts subject run v r (if is_some o.after then actions else []) o
    leaves_kept = by o.after refl
      where
        by : (x : Option RangeState) → o.after ≡ x → StepKept texts subject run v r (if is_some x then actions else []) o
        by None e = gone e
        by (Some z) e = stays z e

-- ---- a range that is not served

-- it has no checkpoint
pub unserved_none : (texts : ℕ → Bytes) (run : Run) (v : RangeView) (r : RangeState) (stage : Stage) → StageIs texts run v r stage → is_serving stage ≡ false → r.control ≡ None
unserved_none texts run v r stages.Opening h e = h.none
unserved_none texts run v r (stages.Checking kinds.Metadata) h e = h.none
unserved_none texts run v r (stages.Checking kinds.Log) h e = h.0.none
unserved_none texts run v r (stages.Checking kinds.RowData) h e = absurd h
unserved_none texts run v r (stages.Checking kinds.BlobData) h e = absurd h
unserved_none texts run v r (stages.Reading kinds.Metadata position) h e = h.none
unserved_none texts run v r (stages.Reading kinds.Log position) h e = h.0.none
unserved_none texts run v r (stages.Reading kinds.RowData position) h e = absurd h
unserved_none texts run v r (stages.Reading kinds.BlobData position) h e = absurd h
unserved_none texts run v r (stages.Indexing position) h e = h.0.log.none
unserved_none texts run v r stages.Confirming h e = h.log.none
unserved_none texts run v r stages.Serving h e = absurd cc

-- and its client of row data waits for nothing
pub unserved_idle : (texts : ℕ → Bytes) (run : Run) (v : RangeView) (r : RangeState) (stage : Stage) → StageIs texts run v r stage → is_serving stage ≡ false → r.rows.job ≡ jobs.Idle
unserved_idle texts run v r stages.Opening h e = h.rows
unserved_idle texts run v r (stages.Checking kinds.Metadata) h e = h.rows
unserved_idle texts run v r (stages.Checking kinds.Log) h e = h.0.rows
unserved_idle texts run v r (stages.Checking kinds.RowData) h e = absurd h
unserved_idle texts run v r (stages.Checking kinds.BlobData) h e = absurd h
unserved_idle texts run v r (stages.Reading kinds.Metadata position) h e = h.rows
unserved_idle texts run v r (stages.Reading kinds.Log position) h e = h.0.rows
unserved_idle texts run v r (stages.Reading kinds.RowData position) h e = absurd h
unserved_idle texts run v r (stages.Reading kinds.BlobData position) h e = absurd h
unserved_idle texts run v r (stages.Indexing position) h e = h.0.log.rows
unserved_idle texts run v r stages.Confirming h e = h.log.rows
unserved_idle texts run v r stages.Serving h e = absurd cc

-- ---- a checkpoint begins

module _ (texts : ℕ → Bytes) (subject : ℕ) (run : Run) (v : RangeView) (r : RangeState) (kept : RangeKept texts subject run v r) (streams : StreamsKept texts run v) (d : ServerContext) where
  both_false : (x y : Bool) → (x || y) ≡ false → x ≡ false
  both_false true y e = absurd cc
  both_false false y e = refl

  none_under_way : (x : Option CheckpointState) → is_some x ≡ false → x ≡ None
  none_under_way None e = refl
  none_under_way (Some job) e = absurd cc

  -- it may begin where the range is served and has none
  may_begin : checkpoint_fault r ≡ None → (is_serving r.stage ≡ true) × (r.control ≡ None)
  may_begin may = by (is_serving r.stage) refl (is_paused r.pause) (is_some r.control || is_some r.fixed) refl may
    where
      by : (a : Bool) → is_serving r.stage ≡ a → (p b : Bool) → (is_some r.control || is_some r.fixed) ≡ b → first_met ((refusals.Loading, not a) ∷ (refusals.Paused, p) ∷ (refusals.Busy, b) ∷ []) ≡ None →
          (is_serving r.stage ≡ true) × (r.control ≡ None)
      by false s p b x e = absurd cc
      by true s true b x e = absurd cc
      by true s false true x e = absurd cc
      by true s false false x e = (s, none_under_way r.control (both_false (is_some r.control) (is_some r.fixed) x))

  -- where pages can have its memory table, but for the numbers of extents
  pub checkpoint_kept : (combine : Bool) → checkpoint_fault r ≡ None → v.split ≡ Free → AreLow r.live → StepKept texts subject run v r [] (checkpoint_rule d r combine)
  checkpoint_kept combine may free low =
      let serving : is_serving r.stage ≡ true = (may_begin may).0 in
      let k : Serves texts run v r = serves_of texts subject run v r serving kept in
      let step : CheckpointStep texts subject run v r [] (checkpoint_rule d r combine) =
      begins_step texts subject run v r k.matches k.shown streams d combine (may_begin may).1 free low kept.sound.out_fits kept.sound.numbered kept.held in
      without_actions texts subject run v r (checkpoint_rule d r combine)
      (leaves_kept texts subject run v r kept streams serving (checkpoint_rule d r combine) []
      (rule_beside d r combine) (λ z e. step))
