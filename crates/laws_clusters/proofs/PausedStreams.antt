-- While the streams of a split's two ranges are asked for, and from then on, the range that is split begins no append to its metadata or its log
-- under the generation of the split.
use Rattle.std.proofs.Common.{◌≡◌, ⊎_elim, ℕ, ◌-◌, ◌≤◌, true, nat_lt, List, [], ◌∷◌, ◌++◌, map, Option, Some, None, is_some, slice_set, refl, sym, ap, ◌∙◌, subst, inl, inr, arith}
use Rattle.std.specs.Prelude.{◌^◌, if◌then◌else◌}
use Rattle.std.specs.List.{AllByRecursion}
use Rattle.std.proofs.lemmas.Bool.{cases_eq}
use Rattle.wire.specs.declared.actor.ReqNo.{ReqNo}
use Rattle.wire.specs.declared.body.AppendBody.{AppendBody}
use Rattle.wire.specs.declared.body.AppendBody.TheVariants as appends
use Rattle.wire.specs.declared.body.Body.{Body}
use Rattle.wire.specs.declared.body.Body.TheVariants as bodies
use Rattle.wire.specs.declared.body.ReadBody.{ReadBody}
use Rattle.wire.specs.declared.body.ReadBody.TheVariants as reads
use Rattle.wire.specs.declared.body.StreamBody.{StreamBody}
use Rattle.wire.specs.declared.body.StreamBody.TheVariants as streams
use Rattle.wire.specs.declared.refusal.Refusal.TheVariants as refusals
use Rattle.wire.specs.declared.streams.StreamKind.{StreamKind}
use Rattle.wire.specs.declared.streams.StreamKind.TheVariants as kinds
use Rattle.client.specs.declared.job.News.{News}
use Rattle.client.specs.declared.job.News.TheVariants as news
use Rattle.client.specs.declared.load.LoadPhase.{LoadPhase}
use Rattle.client.specs.declared.load.LoadPhase.TheVariants as load_phases
use Rattle.client.specs.Client.{ClientState, awaits, reply_rule}
use Rattle.client.specs.Load.{load_awaits}
use Rattle.model_streams.specs.Maps.{entry_at}
use Rattle.model_streams.proofs.Tests.{if_elim}
use Rattle.model_partition.specs.CheckpointStates.{CheckpointState}
use Rattle.model_partition.specs.declared.checkpoint_job.CheckpointPhase.{CheckpointPhase}
use Rattle.model_partition.specs.declared.checkpoint_job.CheckpointPhase.TheVariants as checkpoints
use Rattle.model_partition.specs.declared.server_context.ServerContext.{ServerContext}
use Rattle.model_partition.specs.declared.split_job.Side.{Side}
use Rattle.model_partition.specs.declared.split_job.Side.TheVariants.{Low, High}
use Rattle.model_partition.specs.declared.split_job.SplitJob.{SplitJob}
use Rattle.model_partition.specs.declared.split_job.SplitPhase.{SplitPhase}
use Rattle.model_partition.specs.declared.split_job.SplitPhase.TheVariants as phases
use Rattle.model_partition.specs.declared.stage.Stage.{Stage}
use Rattle.model_partition.specs.declared.stage.Stage.TheVariants as stages
use Rattle.model_partition.specs.declared.table_note.TableNote.{TableNote}
use Rattle.model_partition.specs.Checkpoints.{rows_may_stand, trim_awaits}
use Rattle.model_partition.specs.Answering.{groups_of, is_taken, answer_rule}
use Rattle.model_partition.specs.Loading.{Group}
use Rattle.model_partition.specs.PlaceReads.{reads_under}
use Rattle.model_partition.specs.Range.{OutGroup, RangeState, RangeOutcome, request, picking, if_there, is_serving}
use Rattle.model_partition.specs.Server.{ServerState, ServerOutcome, range_of, split_of}
use Rattle.model_partition.specs.Servers.{ServerCell}
use Rattle.model_partition.specs.Serving.{transact_rule}
use Rattle.model_partition.specs.Splits.{side_range, may_say_keys, has_number}
use Rattle.model_histories.specs.Story.{StreamEvent, Made, Story, event_at}
use Rattle.model_histories.specs.ServerRun.{ServerRun, RangeEffect, Does, Tells, Rests, after_sides, stream_named, log_name, metadata_name, with_effect, with_outcome}
use Rattle.model_histories.specs.StreamActions.{StreamAction, Reads, Forms, Stands, Shows, Finds, Stores, group_of, formed, stood, serving_actions, loading_actions, confirmed_actions, load_actions, record_stood_in, record_stood, record_actions, metadata_actions, index_stood, rows_told_actions, rows_actions, bytes_told_actions, bytes_actions, log_actions, answered_actions, answer_actions, split_stood_in, follow_actions_in, follow_actions, SideAction, keys_said, keys_after, keys_told, built_refused, built_told, built, sides_in, split_sides}
use Rattle.laws_loads.specs.RangeView.{RangeView, view_after, view_after_all, metadata_of}
use Rattle.laws_map.specs.Stages.{stage_of}
use Rattle.laws_tables.proofs.Range.{event_cases}
use Rattle.laws_server_runs.specs.ChildInvariant.{IsDrained, SplitPhaseHolds, SplitHoldsIf, SplitsHold}
use Rattle.laws_server_runs.specs.Places.{RunLaid}
use Rattle.laws_server_runs.specs.RunInvariant.{view_at}
use Rattle.laws_server_runs.specs.Turns.{IsRule, Transacts, Answers, Gets, Yields, Checkpoints, Renews, IsStep, Alone, BeginsSplit, Drops, Follows, Leaves, Holds, Hears, stood_by, IsEffect, Own, None_done, OfOthers, Turn, Idles, Opens, Acts, RunStep, Keeps, Passes, Turns}
use Rattle.laws_server_runs.proofs.Actions.{other_test, actions_here, actions_beside}
use Rattle.laws_server_runs.proofs.FormedGroups.{FormNone, HasNoneOut, rule_none, followed_none, actions_made}
use Rattle.laws_server_runs.proofs.RunSteps.{IsAny, IsAnyPair}
use Rattle.laws_server_runs.proofs.SplitJobs.{drained_on, ruled}

-- ---- actions

-- the action begins no append to the metadata
abbrev pub IsNoRecord : StreamAction → Type 0
IsNoRecord (Forms kinds.Metadata group) = ⊥
IsNoRecord action = Unit {0}

abbrev pub AreNoRecords : List StreamAction → Type 0
AreNoRecords actions = AllByRecursion IsNoRecord actions

both_none : (xs ys : List StreamAction) → AreNoRecords xs → AreNoRecords ys → AreNoRecords (xs ++ ys)
both_none [] ys a b = b
both_none (x ∷ xs) ys a b = (a.0, both_none xs ys a.1 b)

formed_none : (after : Option RangeState) → AreNoRecords (formed after)
formed_none None = tt
formed_none (Some r) = by r.out
  where
    by : (out : Option OutGroup) → AreNoRecords (map (λ (o : OutGroup). Forms kinds.Log (group_of o)) (if_there out))
    by None = tt
    by (Some o) = (tt, tt)

-- ---- rules of a range that has no checkpoint under way

module _ (d : ServerContext) (r : RangeState) (control : r.control ≡ None) where
  confirmed_none : (phase : LoadPhase) (body : StreamBody) → AreNoRecords (confirmed_actions r phase body)
  confirmed_none (load_phases.Confirming q) (streams.Confirmed w) = (tt, tt)
  confirmed_none phase body = tt

  load_none : (body : Body) → AreNoRecords (load_actions r body)
  load_none (bodies.Stream body) = confirmed_none r.load.phase body
  load_none body = tt

  loading_none : (kind : StreamKind) (c : ClientState) (stage : Stage) (groups : List Group) (told : Option News) → AreNoRecords (loading_actions kind c stage groups told)
  loading_none kind c (stages.Reading k position) groups (Some (news.Content extent upto)) = (tt, tt)
  loading_none kind c stage groups told = tt

  record_stood_none : (job : Option CheckpointState) (extent offset : ℕ) → AreNoRecords (record_stood r job extent offset)
  record_stood_none None extent offset = tt
  record_stood_none (Some job) extent offset = by job.phase
    where
      by : (phase : CheckpointPhase) → AreNoRecords (record_stood_in r job phase extent offset)
      by (checkpoints.Record index) = (tt, tt)
      by phase = tt

  record_actions_none : (told : Option News) → AreNoRecords (record_actions r told)
  record_actions_none (Some (news.Appended extent offset)) = record_stood_none r.control extent offset
  record_actions_none told = tt

  metadata_none : (body : Body) → AreNoRecords (metadata_actions d r body)
  metadata_none body =
      if_elim AreNoRecords (is_serving r.stage) _ _ (λ t. record_actions_none (reply_rule (picking d r.metadata) (request d) body).news)
      (λ f. loading_none kinds.Metadata r.metadata r.stage (groups_of body) (reply_rule (picking d r.metadata) (request d) body).news)

  index_none : (job : Option CheckpointState) → job ≡ None → (extent offset : ℕ) → AreNoRecords (index_stood r job extent offset)
  index_none None is extent offset = tt
  index_none (Some job) is extent offset = absurd cc

  rows_told_none : (told : Option News) → AreNoRecords (rows_told_actions r told)
  rows_told_none (Some (news.Appended extent offset)) =
      both_none (if nat_lt extent (2 ^ 64) then index_stood r r.control extent offset else []) _ (if_elim AreNoRecords (nat_lt extent (2 ^ 64)) _ _ (λ t. index_none r.control control extent offset) (λ f. tt)) (tt, tt)
  rows_told_none told = tt

  rows_none : (body : Body) → AreNoRecords (rows_actions d r body)
  rows_none body = if_elim AreNoRecords (rows_may_stand r.control body) _ _ (λ t. rows_told_none (reply_rule (picking d r.rows) (request d) body).news) (λ f. tt)

  bytes_told_none : (body : ReadBody) → AreNoRecords (bytes_told_actions body)
  bytes_told_none (reads.Bytes w e offset bytes) = (tt, tt)
  bytes_told_none body = tt

  bytes_none : (body : Body) → AreNoRecords (bytes_actions body)
  bytes_none (bodies.Read body) = bytes_told_none body
  bytes_none body = tt

  module _ (o : RangeOutcome) where
    stood_none : (out : Option OutGroup) (extent offset : ℕ) → AreNoRecords (stood r out extent offset o)
    stood_none None extent offset = tt
    stood_none (Some out) extent offset = both_none (formed o.after) _ (formed_none o.after) (tt, tt)

    serving_none : (told : Option News) → AreNoRecords (serving_actions r told o)
    serving_none (Some (news.Appended extent offset)) = stood_none r.out extent offset
    serving_none told = tt

    log_none : (body : Body) → AreNoRecords (log_actions d r body o)
    log_none body =
        if_elim AreNoRecords (is_serving r.stage) _ _ (λ t. serving_none (reply_rule (picking d r.log) (request d) body).news)
        (λ f. loading_none kinds.Log r.log r.stage (groups_of body) (reply_rule (picking d r.log) (request d) body).news)

    answered_none : (w : ReqNo) (body : Body) → AreNoRecords (answered_actions d r w body o)
    answered_none w body =
        if_elim AreNoRecords (load_awaits r.load.phase w) _ _ (λ t. load_none body)
        (λ f. if_elim AreNoRecords (awaits r.metadata.job w) _ _ (λ t. metadata_none body)
        (λ f. if_elim AreNoRecords (awaits r.log.job w) _ _ (λ t. if_elim AreNoRecords (is_taken r body) _ _ (λ t. log_none body) (λ f. tt))
        (λ f. if_elim AreNoRecords (awaits r.rows.job w) _ _ (λ t. rows_none body)
        (λ f. if_elim AreNoRecords (reads_under r.reading w) _ _ (λ t. bytes_none body)
        (λ f. if_elim AreNoRecords (trim_awaits r.control w) _ _ (λ t. tt) (λ f. bytes_none body))))))

    answer_none : (w : ReqNo) (body : Body) → AreNoRecords (answer_actions d r w body o)
    answer_none w body = if_elim AreNoRecords (is_some o.after) _ _ (λ t. answered_none w body) (λ f. tt)

rule_records : (r : RangeState) → r.control ≡ None → (actions : List StreamAction) (o : RangeOutcome) → IsRule r actions o → AreNoRecords actions
rule_records r control actions o (Transacts d from q changes) = if_elim AreNoRecords (is_some r.out) _ _ (λ t. tt) (λ f. formed_none (transact_rule d r from q changes).after)
rule_records r control actions o (Answers d w body) = answer_none d r control (answer_rule d r w body) w body
rule_records r control actions o (Gets d from q key) = tt
rule_records r control actions o (Yields d) = tt
rule_records r control actions o (Checkpoints d combine may) = tt
rule_records r control actions o (Renews until count) = tt

-- ---- splits

-- the streams of the two ranges are asked for
abbrev pub HasAskedFor : SplitPhase → Type 0
HasAskedFor (phases.Build q) = Unit {0}
HasAskedFor (phases.Keys side c) = Unit {0}
HasAskedFor (phases.Complete q) = Unit {0}
HasAskedFor phase = ⊥

abbrev pub HasAskedIf : Option SplitJob → Type 0
HasAskedIf None = ⊥
HasAskedIf (Some job) = HasAskedFor job.phase

asked_drained : (r : RangeState) (job : SplitJob) (phase : SplitPhase) → HasAskedFor phase → SplitPhaseHolds r job phase → IsDrained r
asked_drained r job (phases.Build q) asked h = h
asked_drained r job (phases.Keys side c) asked h = h.0
asked_drained r job (phases.Complete q) asked h = h.0
asked_drained r job (phases.Begin q) asked h = absurd asked
asked_drained r job phases.Checkpoint asked h = absurd asked
asked_drained r job phases.Queue asked h = absurd asked
asked_drained r job phases.Record asked h = absurd asked
asked_drained r job (phases.Seal kind q) asked h = absurd asked

follows_none : (r : RangeState) (job : SplitJob) (phase : SplitPhase) → HasAskedFor phase → AreNoRecords (follow_actions_in r job phase)
follows_none r job (phases.Build q) asked = tt
follows_none r job (phases.Keys side c) asked = tt
follows_none r job (phases.Complete q) asked = tt
follows_none r job (phases.Begin q) asked = absurd asked
follows_none r job phases.Checkpoint asked = absurd asked
follows_none r job phases.Queue asked = absurd asked
follows_none r job phases.Record asked = absurd asked
follows_none r job (phases.Seal kind q) asked = absurd asked

split_stood_none : (r : RangeState) (job : SplitJob) (phase : SplitPhase) (told : Option News) → AreNoRecords (split_stood_in r job phase told)
split_stood_none r job phases.Record (Some (news.Appended extent offset)) = (tt, tt)
split_stood_none r job phase told = tt

stood_by_none : (r : RangeState) (job : SplitJob) (actions : List StreamAction) (o : RangeOutcome) (rule : IsRule r actions o) → AreNoRecords (stood_by job rule)
stood_by_none r job actions o (Answers d w body) =
    if_elim AreNoRecords (is_some (answer_rule d r w body).after) _ _
    (λ t. if_elim AreNoRecords (load_awaits r.load.phase w) _ _ (λ t. tt)
    (λ f. if_elim AreNoRecords (awaits r.metadata.job w) _ _
    (λ t. if_elim AreNoRecords (is_serving r.stage) _ _ (λ t. split_stood_none r job job.phase (reply_rule (picking d r.metadata) (request d) body).news) (λ f. tt)) (λ f. tt))) (λ f. tt)
stood_by_none r job actions o (Transacts d from q changes) = tt
stood_by_none r job actions o (Gets d from q key) = tt
stood_by_none r job actions o (Yields d) = tt
stood_by_none r job actions o (Checkpoints d combine may) = tt
stood_by_none r job actions o (Renews until count) = tt

-- ---- one step of the range

module _ (r : RangeState) (confirmed : is_serving r.stage ≡ true → r.load.phase ≡ load_phases.Confirmed) (control : r.control ≡ None) where
  -- where its split has asked for the streams, if it is served
  step_none : (IsNumbered : (low high : ℕ) → Type 0) (job : Option SplitJob) (actions : List StreamAction) (o : RangeOutcome) (later : Option SplitJob) → IsStep IsNumbered r job actions o later → SplitHoldsIf (Some r) job →
      (is_serving r.stage ≡ true → HasAskedIf job) → FormNone actions × AreNoRecords actions
  step_none IsNumbered job actions o later (Alone own_actions own rule) h asked = (rule_none r actions o rule (λ serves. absurd (asked serves)), rule_records r control actions o rule)
  step_none IsNumbered job actions o later (BeginsSplit d key may none splits) h asked = (tt, tt)
  step_none IsNumbered job actions o later (Drops split own_actions own rule calm gone) h asked = (rule_none r actions o rule (λ serves. subst HasNoneOut (sym gone) tt), rule_records r control actions o rule)
  step_none IsNumbered job actions o later (Follows split own_actions own rule calm room d counts next left) h asked =
      let has : HasAskedFor split.phase = asked h.serving in (
        followed_none r split own_actions own rule d next
            (rule_none r own_actions own rule (λ serves. subst HasNoneOut (sym left) (drained_on r next (ruled r confirmed split h own_actions own rule calm next left) (asked_drained r split split.phase has h.phase)).out)),
        both_none (follow_actions d next split) _ (if_elim AreNoRecords (has_number d) _ _ (λ t. follows_none next split split.phase has) (λ f. tt))
            (both_none (stood_by split rule) own_actions (stood_by_none r split own_actions own rule) (rule_records r control own_actions own rule)),
      )
  step_none IsNumbered job actions o later (Leaves split c d next left) h asked = (tt, tt)
  step_none IsNumbered job actions o later (Holds split until count) h asked = (tt, tt)
  step_none IsNumbered job actions o later (Hears split d body numbered) h asked = (tt, tt)

-- ---- what the story of the metadata has after some actions

module _ (gen g : ℕ) where
  abbrev MadeAt : Story Group → ℕ → Group → Type 0
  MadeAt story a group = event_at story a ≡ Some (Made g group)

  more_made : (e : StreamEvent Group) (story : Story Group) (a : ℕ) (group : Group) → (e ≡ Made g group → ⊥) → MadeAt (e ∷ story) a group → MadeAt story a group
  more_made e story a group other at = ⊎_elim {C = MadeAt story a group} (λ new. absurd (other new.1)) (λ old. old) (event_cases Group e story a (Made g group) at)

  action_recorded : (v : RangeView) (action : StreamAction) → (g ≡ gen → IsNoRecord action) → (a : ℕ) (group : Group) → MadeAt (metadata_of (view_after gen v action)) a group → MadeAt (metadata_of v) a group
  action_recorded v (Reads kind read) none a group at = at
  action_recorded v (Forms kinds.Metadata new) none a group at = more_made (Made gen new) (metadata_of v) a group (λ e. none (let same : gen ≡ g = cc in sym same)) at
  action_recorded v (Forms kinds.Log new) none a group at = at
  action_recorded v (Forms kinds.RowData new) none a group at = at
  action_recorded v (Forms kinds.BlobData new) none a group at = at
  action_recorded v (Stands kinds.Metadata extent pos new) none a group at = more_made _ (metadata_of v) a group (λ e. cc) at
  action_recorded v (Stands kinds.Log extent pos new) none a group at = at
  action_recorded v (Stands kinds.RowData extent pos new) none a group at = at
  action_recorded v (Stands kinds.BlobData extent pos new) none a group at = at
  action_recorded v (Shows start log_end metadata_end) none a group at = more_made _ (metadata_of v) a group (λ e. cc) at
  action_recorded v (Finds found) none a group at = at
  action_recorded v (Stores stored) none a group at = at

  actions_recorded : (v : RangeView) (actions : List StreamAction) → (g ≡ gen → AreNoRecords actions) → (a : ℕ) (group : Group) → MadeAt (metadata_of (view_after_all gen v actions)) a group → MadeAt (metadata_of v) a group
  actions_recorded v [] none a group at = at
  actions_recorded v (action ∷ actions) none a group at =
      actions_recorded v actions (λ same. (none same).1) a group (action_recorded (view_after_all gen v actions) action (λ same. (none same).0) a group at)

-- ---- what a split does with the two that it makes

abbrev AreApart : ℕ → List SideAction → Type 0
AreApart range sides = AllByRecursion (λ (side : SideAction). range ≡ side.range → ⊥) sides

module _ (range : ℕ) (d : ServerContext) (r : RangeState) (job : SplitJob) (apart : 1 ≤ stage_of job.phase → stage_of job.phase ≤ 3 → (side : Side) → range ≡ side_range job side → ⊥) where
  said_apart : (side : Side) → (range ≡ side_range job side → ⊥) → AreApart range (keys_said r job side)
  said_apart side other = if_elim (AreApart range) (may_say_keys r job) _ _ (λ t. (other, tt)) (λ f. tt)

  both_apart : (xs ys : List SideAction) → AreApart range xs → AreApart range ys → AreApart range (xs ++ ys)
  both_apart [] ys a b = b
  both_apart (x ∷ xs) ys a b = (a.0, both_apart xs ys a.1 b)

  module _ (all : (side : Side) → range ≡ side_range job side → ⊥) where
    after_apart : (side : Side) → AreApart range (keys_after r job side)
    after_apart Low = said_apart High (all High)
    after_apart High = tt

    told_apart : (side : Side) (c : ClientState) (told : Option News) → AreApart range (keys_told r job side c told)
    told_apart side c (Some (news.Appended extent offset)) = both_apart (keys_after r job side) _ (after_apart side) (all side, tt)
    told_apart side c told = tt

    refused_apart : (body : AppendBody) → AreApart range (built_refused r job body)
    refused_apart (appends.Refused w refusals.NameTaken) = said_apart Low (all Low)
    refused_apart body = tt

    built_told_apart : (body : StreamBody) → AreApart range (built_told r job body)
    built_told_apart (streams.Modified w) = said_apart Low (all Low)
    built_told_apart body = tt

    built_apart : (body : Body) → AreApart range (built r job body)
    built_apart (bodies.Append body) = refused_apart body
    built_apart (bodies.Stream body) = built_told_apart body
    built_apart body = tt

  sides_apart : (body : Body) → AreApart range (split_sides d r job body)
  sides_apart body = by job.phase refl
    where
      by : (phase : SplitPhase) → job.phase ≡ phase → AreApart range (sides_in d r job phase body)
      by (phases.Keys side c) is =
          let stage : stage_of job.phase ≡ 3 = ap stage_of is in
          told_apart (apart (omega (arith, stage)) (omega (arith, stage))) side c (reply_rule (picking d c) (request d) body).news
      by (phases.Build q) is =
          let stage : stage_of job.phase ≡ 2 = ap stage_of is in
          built_apart (apart (omega (arith, stage)) (omega (arith, stage))) body
      by (phases.Begin q) is = tt
      by phases.Checkpoint is = tt
      by phases.Queue is = tt
      by phases.Record is = tt
      by (phases.Seal kind q) is = tt
      by (phases.Complete q) is = tt

sides_story : (s g range : ℕ) (kind : StreamKind) (x : ServerRun) (sides : List SideAction) → AreApart range sides → (after_sides s g x sides).story (stream_named range kind) ≡ x.story (stream_named range kind)
sides_story s g range kind x [] a = refl
sides_story s g range kind x (side ∷ sides) a =
    actions_beside s side.range g (stream_named range kind) (other_test range side.range a.0) (after_sides s g x sides) (side.action ∷ []) ∙ sides_story s g range kind x sides a.1

-- ---- a step of all

-- what a story has of a generation it had before
abbrev pub HasNoMore : ℕ → Story Group → Story Group → Type 0
HasNoMore g before story = (a : ℕ) (group : Group) → event_at story a ≡ Some (Made g group) → event_at before a ≡ Some (Made g group)

-- so it is of the metadata and of the log of a range
pub record BeginsNone (range g : ℕ) (x y : ServerRun) : Type 0 where
  pub metadata : HasNoMore g (x.story (metadata_name range)) (y.story (metadata_name range))
  pub log : HasNoMore g (x.story (log_name range)) (y.story (log_name range))

pub same_begins : (range g : ℕ) (x y : ServerRun) → ((kind : StreamKind) → y.story (stream_named range kind) ≡ x.story (stream_named range kind)) → BeginsNone range g x y
same_begins range g x y same = record {
  metadata = λ a group at. subst (λ story. event_at story a ≡ Some (Made g group)) (same kinds.Metadata) at;
  log = λ a group at. subst (λ story. event_at story a ≡ Some (Made g group)) (same kinds.Log) at;
}

-- Servers that hold the range under the generation have no checkpoint of it under way, and where they serve it a split of it has asked for the
-- streams of its two ranges; and none of these two is the range, while they are made.
pub record IsClosedAt (range g : ℕ) (st : ServerState) : Type 0 where
  pub calm : (r : RangeState) → range_of st.ranges range ≡ Some r → g ≡ r.load.generation → r.control ≡ None
  pub asked : (r : RangeState) → range_of st.ranges range ≡ Some r → g ≡ r.load.generation → is_serving r.stage ≡ true → HasAskedIf (split_of st.splits range)
  pub apart : (k : ℕ) (job : SplitJob) → split_of st.splits k ≡ Some job → 1 ≤ stage_of job.phase → stage_of job.phase ≤ 3 → (side : Side) → range ≡ side_range job side → ⊥

module _ (range g : ℕ) (x : ServerRun) (laid : RunLaid x) (splits : SplitsHold x.servers) (closed : (s : ℕ) (cell : ServerCell) (st : ServerState) → entry_at x.servers s ≡ Some cell → cell.state ≡ Some st → IsClosedAt range g st) where
  module _ (s : ℕ) (cell : ServerCell) (st : ServerState) (at : entry_at x.servers s ≡ Some cell) (is : cell.state ≡ Some st) where
    abbrev Then : RangeEffect → ServerOutcome → ServerRun
    Then e o = with_outcome (with_effect s x e) (record { servers = slice_set x.servers (s - 1) (record cell { state = Some o.after }); packets = o.packets; notes = o.notes })

    abbrev Begins : RangeEffect → ServerOutcome → Type 0
    Begins e o = BeginsNone range g x (Then e o)

    c : IsClosedAt range g st
    c = closed s cell st at is

    holds_if : (r : RangeState) → range_of st.ranges range ≡ Some r → (job : Option SplitJob) → split_of st.splits range ≡ job → SplitHoldsIf (Some r) job
    holds_if r held None split = tt
    holds_if r held (Some job) split = splits s cell st at is range r job held split

    -- its own actions
    own_none : (r : RangeState) → range_of st.ranges range ≡ Some r → (actions : List StreamAction) (o : RangeOutcome) (later : Option SplitJob) → IsStep IsAnyPair r (split_of st.splits range) actions o later → g ≡ r.load.generation → FormNone actions × AreNoRecords actions
    own_none r held actions o later step same =
        step_none r (laid.ranges s cell st at is range r held).confirmed (c.calm r held same) IsAnyPair (split_of st.splits range) actions o later step (holds_if r held (split_of st.splits range) refl) (c.asked r held same)

    own_begins : (r : RangeState) → range_of st.ranges range ≡ Some r → (actions : List StreamAction) (o : RangeOutcome) (later : Option SplitJob) → IsStep IsAnyPair r (split_of st.splits range) actions o later →
        (out : ServerOutcome) → Begins (Does range r.load.generation actions) out
    own_begins r held actions o later step out = record {
      metadata = λ a group made.
          actions_recorded r.load.generation g (view_at range x s) actions (λ same. (own_none r held actions o later step same).1) a group
          (ap (λ v. event_at (metadata_of v) a) (sym (actions_here s range r.load.generation x actions)) ∙ made);
      log = λ a group made.
          actions_made r.load.generation g (view_at range x s) actions (λ same. (own_none r held actions o later step same).0) a group
          (ap (λ (v : RangeView). event_at (v.story kinds.Log) a) (sym (actions_here s range r.load.generation x actions)) ∙ made);
    }

    -- those of a range
    does_begin : (other : ℕ) (r : RangeState) → range_of st.ranges other ≡ Some r → (actions : List StreamAction) (o : RangeOutcome) (later : Option SplitJob) → IsStep IsAnyPair r (split_of st.splits other) actions o later →
        (out : ServerOutcome) → Begins (Does other r.load.generation actions) out
    does_begin other r held actions o later step out = elim (cases_eq range other) [
      | inl same ↦
          subst (λ n. range_of st.ranges n ≡ Some r → IsStep IsAnyPair r (split_of st.splits n) actions o later → Begins (Does n r.load.generation actions) out) same
          (λ mine own. own_begins r mine actions o later own out) held step
      | inr apart ↦ same_begins range g x (Then (Does other r.load.generation actions) out) (λ kind. actions_beside s other r.load.generation (stream_named range kind) (other_test range other apart) x actions)
    ]

    effect_begins : (other : ℕ) (r : RangeState) → range_of st.ranges other ≡ Some r → (job : Option SplitJob) → split_of st.splits other ≡ job → (e : RangeEffect) (o : RangeOutcome) (later : Option SplitJob) → IsEffect IsAnyPair other r job e o later →
        (out : ServerOutcome) → Begins e out
    effect_begins other r held job split e o later (Own own actions after left step unheard) out = does_begin other r held actions o later (subst (λ j. IsStep IsAnyPair r j actions o later) (sym split) step) out
    effect_begins other r held job split e o later (None_done own after left step unheard) out = same_begins range g x (Then Rests out) (λ kind. refl)
    effect_begins other r held job split e o later (OfOthers splitting d body after left step heard) out =
        same_begins range g x (Then (Tells splitting.generation (split_sides d r splitting body)) out)
        (λ kind. sides_story s splitting.generation range kind x (split_sides d r splitting body) (sides_apart range d r splitting (λ one three side. c.apart other splitting split one three side) body))

    turn_begins : (e : RangeEffect) (o : ServerOutcome) → Turn IsAny IsAnyPair st e o → Begins e o
    turn_begins e o (Idles next packets same left) = same_begins range g x (Then e o) (λ kind. refl)
    turn_begins e o (Opens other assigned d generation until next packets new left) = same_begins range g x (Then e o) (λ kind. refl)
    turn_begins e o (Acts other r held effect ro later is_effect next packets left left_splits) = effect_begins other r held (split_of st.splits other) refl effect ro later is_effect (record { after = next; packets = packets; notes = ro.notes })

  -- NO STEP begins an append under it
  pub begins_step : (notes : List TableNote) (y : ServerRun) → RunStep IsAny IsAnyPair x notes y → BeginsNone range g x y
  begins_step notes y (Keeps servers packets like) = same_begins range g x y (λ kind. refl)
  begins_step notes y (Passes servers like) = same_begins range g x y (λ kind. refl)
  begins_step notes y (Turns s cell st at is e o turn) = turn_begins s cell st at is e o turn
