-- Groups of the log that a step of a range forms: none where no group is out after it, and so none while the range is paused by its split.
use Rattle.std.proofs.Common.{◌≡◌, ⊎_elim, ℕ, ◌^◌, Bool, true, false, not, ◌||◌, ◌==◌, nat_lt, List, [], ◌∷◌, ◌++◌, length, map, Option, Some, None, is_some, refl, sym, subst}
use Rattle.std.specs.Prelude.{if◌then◌else◌}
use Rattle.std.specs.List.{list_any, AllByRecursion}
use Rattle.metadata.specs.Keys.{within}
use Rattle.wire.specs.declared.actor.ActorId.{ActorId}
use Rattle.wire.specs.declared.actor.ReqNo.{ReqNo}
use Rattle.wire.specs.declared.body.Body.{Body}
use Rattle.wire.specs.declared.body.Body.TheVariants as bodies
use Rattle.wire.specs.declared.body.ReadBody.{ReadBody}
use Rattle.wire.specs.declared.body.ReadBody.TheVariants as reads
use Rattle.wire.specs.declared.body.StreamBody.{StreamBody}
use Rattle.wire.specs.declared.body.StreamBody.TheVariants as streams
use Rattle.wire.specs.declared.refusal.Refusal.{Refusal}
use Rattle.wire.specs.declared.refusal.Refusal.TheVariants as refusals
use Rattle.wire.specs.declared.streams.StreamKind.{StreamKind}
use Rattle.wire.specs.declared.streams.StreamKind.TheVariants as kinds
use Rattle.wire.specs.declared.transaction.Change.{Change}
use Rattle.client.specs.declared.job.News.{News}
use Rattle.client.specs.declared.job.News.TheVariants as news
use Rattle.client.specs.declared.load.LoadPhase.{LoadPhase}
use Rattle.client.specs.declared.load.LoadPhase.TheVariants as load_phases
use Rattle.client.specs.Client.{ClientState, awaits, reply_rule}
use Rattle.client.specs.Load.{load_awaits}
use Rattle.model_streams.proofs.Tests.{if_elim, none_met}
use Rattle.model_partition.specs.CheckpointStates.{CheckpointState}
use Rattle.model_partition.specs.declared.checkpoint_job.CheckpointPhase.{CheckpointPhase}
use Rattle.model_partition.specs.declared.checkpoint_job.CheckpointPhase.TheVariants as checkpoints
use Rattle.model_partition.specs.declared.server_context.ServerContext.{ServerContext}
use Rattle.model_partition.specs.declared.split_job.SplitJob.{SplitJob}
use Rattle.model_partition.specs.declared.stage.Stage.{Stage}
use Rattle.model_partition.specs.declared.stage.Stage.TheVariants as stages
use Rattle.model_partition.specs.Checkpoints.{may_record, rows_may_stand, trim_awaits}
use Rattle.model_partition.specs.Answering.{groups_of, is_taken, answer_rule}
use Rattle.model_partition.specs.Loading.{Group}
use Rattle.model_partition.specs.PlaceReads.{reads_under}
use Rattle.model_partition.specs.Range.{OutGroup, RangeState, RangeOutcome, request, picking, if_there, is_serving, takes_no_transaction}
use Rattle.model_partition.specs.Serving.{is_key, value_size, lease_ended, is_full, transact_fault, transacts}
use Rattle.model_histories.specs.Story.{StreamEvent, Made, Story, event_at}
use Rattle.model_histories.specs.StreamActions.{StreamAction, Reads, Forms, Stands, Shows, Finds, Stores, group_of, formed, transact_actions, stood, serving_actions, loading_actions, confirmed_actions, load_actions, record_stood_in, record_stood, record_actions, metadata_actions, index_stood_in, index_stood, rows_told_actions, rows_actions, bytes_told_actions, bytes_actions, log_actions, answered_actions, answer_actions, follow_actions}
use Rattle.laws_loads.specs.RangeView.{RangeView, view_after, view_after_all, log_of}
use Rattle.laws_tables.proofs.Range.{event_cases}
use Rattle.laws_server_runs.specs.Turns.{IsRule, Transacts, Answers, Gets, Yields, Checkpoints, Renews, stood_by}
use Rattle.laws_server_runs.proofs.LaidSplits.{AppendsRecord, AppendRecords, follow_appends, stood_by_appends}

-- the action forms no group of the log
abbrev pub FormsNone : StreamAction → Type 0
FormsNone (Forms kinds.Log group) = ⊥
FormsNone action = Unit {0}

abbrev pub FormNone : List StreamAction → Type 0
FormNone actions = AllByRecursion FormsNone actions

-- no group is out, if the range is there
abbrev pub HasNoneOut : Option RangeState → Type 0
HasNoneOut None = Unit {0}
HasNoneOut (Some r) = r.out ≡ None

both_none : (xs ys : List StreamAction) → FormNone xs → FormNone ys → FormNone (xs ++ ys)
both_none [] ys a b = b
both_none (x ∷ xs) ys a b = (a.0, both_none xs ys a.1 b)

record_none : (action : StreamAction) → AppendsRecord action → FormsNone action
record_none (Forms kinds.Metadata group) a = tt
record_none (Forms kinds.Log group) a = a
record_none (Forms kinds.RowData group) a = absurd a
record_none (Forms kinds.BlobData group) a = absurd a
record_none (Stands kind extent at group) a = tt
record_none (Reads kind read) a = tt
record_none (Shows start log_end metadata_end) a = tt
record_none (Finds found) a = tt
record_none (Stores stored) a = tt

records_none : (actions : List StreamAction) → AppendRecords actions → FormNone actions
records_none [] a = tt
records_none (action ∷ actions) a = (record_none action a.0, records_none actions a.1)

none_out : {A : Type 0} (x : Option A) → is_some x ≡ false → x ≡ None
none_out None e = refl
none_out (Some x) e = absurd cc

-- the group that is out after a step
out_none : (r : RangeState) → r.out ≡ None → FormNone (formed (Some r))
out_none r e = subst (λ out. FormNone (map (λ (o : OutGroup). Forms kinds.Log (group_of o)) (if_there out))) (sym e) tt

formed_none : (after : Option RangeState) → HasNoneOut after → FormNone (formed after)
formed_none None none = tt
formed_none (Some r) none = out_none r none

-- ---- rules of a range, which has no group out after them where it is served

module _ (d : ServerContext) (r : RangeState) where
  abbrev tests : List Change → List (Refusal × Bool)
  tests changes =
      (refusals.Loading, not (is_serving r.stage))
      ∷ (refusals.Paused, takes_no_transaction r.pause)
      ∷ (refusals.LeaseEnded, lease_ended d r)
      ∷ (refusals.TooLarge, (length changes == 0) || nat_lt 32 (length changes))
      ∷ (refusals.BadKey, list_any (λ (c : Change). not (is_key c.key)) changes)
      ∷ (refusals.TooLarge, list_any (λ (c : Change). nat_lt 65536 (value_size c.value)) changes)
      ∷ (refusals.OutOfRange, list_any (λ (c : Change). not (within r.said.keys c.key)) changes)
      ∷ (refusals.Busy, is_full r)
      ∷ []

  is_yes : (b : Bool) → not b ≡ false → b ≡ true
  is_yes true e = refl
  is_yes false e = absurd cc

  transact_none : (from : ActorId) (q : ReqNo) (changes : List Change) (fault : Option Refusal) → transact_fault d r changes ≡ fault → (is_serving r.stage ≡ true → HasNoneOut (transacts d r from q changes fault).after) →
      FormNone (transact_actions r (transacts d r from q changes fault))
  transact_none from q changes (Some refusal) e none = if_elim FormNone (is_some r.out) _ _ (λ t. tt) (λ f. out_none r (none_out r.out f))
  transact_none from q changes None e none =
      if_elim FormNone (is_some r.out) _ _ (λ t. tt) (λ f. formed_none (transacts d r from q changes None).after (none (is_yes (is_serving r.stage) (none_met (tests changes) e).0)))

  confirmed_none : (phase : LoadPhase) (body : StreamBody) → FormNone (confirmed_actions r phase body)
  confirmed_none (load_phases.Confirming q) (streams.Confirmed w) = (tt, tt)
  confirmed_none phase body = tt

  load_none : (body : Body) → FormNone (load_actions r body)
  load_none (bodies.Stream body) = confirmed_none r.load.phase body
  load_none body = tt

  loading_none : (kind : StreamKind) (c : ClientState) (stage : Stage) (groups : List Group) (told : Option News) → FormNone (loading_actions kind c stage groups told)
  loading_none kind c (stages.Reading k position) groups (Some (news.Content extent upto)) = (tt, tt)
  loading_none kind c stage groups told = tt

  record_stood_none : (control : Option CheckpointState) (extent offset : ℕ) → FormNone (record_stood r control extent offset)
  record_stood_none None extent offset = tt
  record_stood_none (Some job) extent offset = by job.phase
    where
      by : (phase : CheckpointPhase) → FormNone (record_stood_in r job phase extent offset)
      by (checkpoints.Record index) = (tt, tt)
      by phase = tt

  record_actions_none : (told : Option News) → FormNone (record_actions r told)
  record_actions_none (Some (news.Appended extent offset)) = record_stood_none r.control extent offset
  record_actions_none told = tt

  metadata_none : (body : Body) → FormNone (metadata_actions d r body)
  metadata_none body =
      if_elim FormNone (is_serving r.stage) _ _ (λ t. record_actions_none (reply_rule (picking d r.metadata) (request d) body).news)
      (λ f. loading_none kinds.Metadata r.metadata r.stage (groups_of body) (reply_rule (picking d r.metadata) (request d) body).news)

  index_none : (control : Option CheckpointState) (extent offset : ℕ) → FormNone (index_stood r control extent offset)
  index_none None extent offset = tt
  index_none (Some job) extent offset = by job.phase
    where
      by : (phase : CheckpointPhase) → FormNone (index_stood_in r job phase extent offset)
      by checkpoints.Index = if_elim FormNone (may_record r job) _ _ (λ t. (tt, tt)) (λ f. tt)
      by phase = tt

  rows_told_none : (told : Option News) → FormNone (rows_told_actions r told)
  rows_told_none (Some (news.Appended extent offset)) =
      both_none (if nat_lt extent (2 ^ 64) then index_stood r r.control extent offset else []) _ (if_elim FormNone (nat_lt extent (2 ^ 64)) _ _ (λ t. index_none r.control extent offset) (λ f. tt)) (tt, tt)
  rows_told_none told = tt

  rows_none : (body : Body) → FormNone (rows_actions d r body)
  rows_none body = if_elim FormNone (rows_may_stand r.control body) _ _ (λ t. rows_told_none (reply_rule (picking d r.rows) (request d) body).news) (λ f. tt)

  bytes_told_none : (body : ReadBody) → FormNone (bytes_told_actions body)
  bytes_told_none (reads.Bytes w e offset bytes) = (tt, tt)
  bytes_told_none body = tt

  bytes_none : (body : Body) → FormNone (bytes_actions body)
  bytes_none (bodies.Read body) = bytes_told_none body
  bytes_none body = tt

  module _ (o : RangeOutcome) (none : is_serving r.stage ≡ true → HasNoneOut o.after) where
    stood_none : is_serving r.stage ≡ true → (out : Option OutGroup) (extent offset : ℕ) → FormNone (stood r out extent offset o)
    stood_none serving None extent offset = tt
    stood_none serving (Some out) extent offset = both_none (formed o.after) _ (formed_none o.after (none serving)) (tt, tt)

    serving_none : is_serving r.stage ≡ true → (told : Option News) → FormNone (serving_actions r told o)
    serving_none serving (Some (news.Appended extent offset)) = stood_none serving r.out extent offset
    serving_none serving told = tt

    log_none : (body : Body) → FormNone (log_actions d r body o)
    log_none body =
        if_elim FormNone (is_serving r.stage) _ _ (λ t. serving_none t (reply_rule (picking d r.log) (request d) body).news)
        (λ f. loading_none kinds.Log r.log r.stage (groups_of body) (reply_rule (picking d r.log) (request d) body).news)

    answered_none : (w : ReqNo) (body : Body) → FormNone (answered_actions d r w body o)
    answered_none w body =
        if_elim FormNone (load_awaits r.load.phase w) _ _ (λ t. load_none body)
        (λ f. if_elim FormNone (awaits r.metadata.job w) _ _ (λ t. metadata_none body)
        (λ f. if_elim FormNone (awaits r.log.job w) _ _ (λ t. if_elim FormNone (is_taken r body) _ _ (λ t. log_none body) (λ f. tt))
        (λ f. if_elim FormNone (awaits r.rows.job w) _ _ (λ t. rows_none body)
        (λ f. if_elim FormNone (reads_under r.reading w) _ _ (λ t. bytes_none body)
        (λ f. if_elim FormNone (trim_awaits r.control w) _ _ (λ t. tt) (λ f. bytes_none body))))))

    answer_none : (w : ReqNo) (body : Body) → FormNone (answer_actions d r w body o)
    answer_none w body = if_elim FormNone (is_some o.after) _ _ (λ t. answered_none w body) (λ f. tt)

-- NO RULE forms a group that leaves none out
pub rule_none : (r : RangeState) (actions : List StreamAction) (o : RangeOutcome) (rule : IsRule r actions o) → (is_serving r.stage ≡ true → HasNoneOut o.after) → FormNone actions
rule_none r actions o (Transacts d from q changes) none = transact_none d r from q changes (transact_fault d r changes) refl none
rule_none r actions o (Answers d w body) none = answer_none d r (answer_rule d r w body) none w body
rule_none r actions o (Gets d from q key) none = tt
rule_none r actions o (Yields d) none = tt
rule_none r actions o (Checkpoints d combine may) none = tt
rule_none r actions o (Renews until count) none = tt

-- with its split behind it
pub followed_none : (r : RangeState) (job : SplitJob) (actions : List StreamAction) (o : RangeOutcome) (rule : IsRule r actions o) (d : ServerContext) (next : RangeState) → FormNone actions → FormNone (follow_actions d next job ++ (stood_by job rule ++ actions))
followed_none r job actions o rule d next none =
    both_none (follow_actions d next job) _ (records_none (follow_actions d next job) (follow_appends d next job))
    (both_none (stood_by job rule) actions (records_none (stood_by job rule) (stood_by_appends r job rule)) none)

-- ---- what the log's story has after some actions

module _ (gen g : ℕ) where
  abbrev MadeAt : Story Group → ℕ → Group → Type 0
  MadeAt story a group = event_at story a ≡ Some (Made g group)

  more_made : (e : StreamEvent Group) (story : Story Group) (a : ℕ) (group : Group) → (e ≡ Made g group → ⊥) → MadeAt (e ∷ story) a group → MadeAt story a group
  more_made e story a group other at = ⊎_elim {C = MadeAt story a group} (λ new. absurd (other new.1)) (λ old. old) (event_cases Group e story a (Made g group) at)

  action_made : (v : RangeView) (action : StreamAction) → (g ≡ gen → FormsNone action) → (a : ℕ) (group : Group) → MadeAt (log_of (view_after gen v action)) a group → MadeAt (log_of v) a group
  action_made v (Reads kind read) none a group at = at
  action_made v (Forms kinds.Log new) none a group at = more_made (Made gen new) (log_of v) a group (λ e. none (let same : gen ≡ g = cc in sym same)) at
  action_made v (Forms kinds.Metadata new) none a group at = at
  action_made v (Forms kinds.RowData new) none a group at = at
  action_made v (Forms kinds.BlobData new) none a group at = at
  action_made v (Stands kinds.Log extent pos new) none a group at = more_made _ (log_of v) a group (λ e. cc) at
  action_made v (Stands kinds.Metadata extent pos new) none a group at = at
  action_made v (Stands kinds.RowData extent pos new) none a group at = at
  action_made v (Stands kinds.BlobData extent pos new) none a group at = at
  action_made v (Shows start log_end metadata_end) none a group at = more_made _ (log_of v) a group (λ e. cc) at
  action_made v (Finds found) none a group at = at
  action_made v (Stores stored) none a group at = at

  -- each group under a generation stood there before actions that form none under it
  pub actions_made : (v : RangeView) (actions : List StreamAction) → (g ≡ gen → FormNone actions) → (a : ℕ) (group : Group) → MadeAt (log_of (view_after_all gen v actions)) a group → MadeAt (log_of v) a group
  actions_made v [] none a group at = at
  actions_made v (action ∷ actions) none a group at =
      actions_made v actions (λ same. (none same).1) a group (action_made (view_after_all gen v actions) action (λ same. (none same).0) a group at)
