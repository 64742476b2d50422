-- A range that is none of the two of any split keeps its keys: no record that names keys is ever formed in its metadata. Its own rules
-- append records of checkpoints and of splits alone, and those that name keys go to the two that a split makes.
use Rattle.std.proofs.Common.{◌≡◌, ⊎_elim, ℕ, ◌^◌, nat_lt, ◌&&◌, List, [], ◌∷◌, ◌++◌, length, map, Option, Some, None, is_some, refl, sym, ap, ◌∙◌, subst, inl, inr, if◌then◌else◌}
use Rattle.std.specs.List.{AllByRecursion}
use Rattle.std.proofs.lemmas.Bool.{cases_eq}
use Rattle.wire.specs.declared.actor.ReqNo.{ReqNo}
use Rattle.wire.specs.declared.body.Body.{Body}
use Rattle.wire.specs.declared.body.Body.TheVariants as bodies
use Rattle.wire.specs.declared.body.ReadBody.{ReadBody}
use Rattle.wire.specs.declared.body.ReadBody.TheVariants as reads
use Rattle.wire.specs.declared.body.StreamBody.{StreamBody}
use Rattle.wire.specs.declared.body.StreamBody.TheVariants as streams
use Rattle.wire.specs.declared.streams.StreamKind.{StreamKind}
use Rattle.wire.specs.declared.streams.StreamKind.TheVariants as kinds
use Rattle.client.specs.declared.job.News.{News}
use Rattle.client.specs.declared.job.News.TheVariants as news
use Rattle.client.specs.declared.load.LoadPhase.{LoadPhase}
use Rattle.client.specs.declared.load.LoadPhase.TheVariants as load_phases
use Rattle.client.specs.Client.{ClientState, awaits, reply_rule}
use Rattle.client.specs.Load.{load_awaits}
use Rattle.commitlog.specs.Replay.{Numbered}
use Rattle.metadata.specs.declared.record.KeyRange.{KeyRange}
use Rattle.metadata.specs.declared.record.MetaItem.{MetaItem}
use Rattle.metadata.specs.declared.record.MetaItem.TheVariants.{Ranges}
use Rattle.metadata.specs.declared.record.MetaRecord.{MetaRecord}
use Rattle.metadata.specs.Reading.{group_at}
use Rattle.model_streams.specs.Maps.{entry_at}
use Rattle.model_streams.proofs.Tests.{if_elim}
use Rattle.model_partition.specs.CheckpointStates.{CheckpointState}
use Rattle.model_partition.specs.declared.checkpoint_job.CheckpointPhase.{CheckpointPhase}
use Rattle.model_partition.specs.declared.checkpoint_job.CheckpointPhase.TheVariants as checkpoints
use Rattle.model_partition.specs.declared.server_context.ServerContext.{ServerContext}
use Rattle.model_partition.specs.declared.split_job.SplitJob.{SplitJob}
use Rattle.model_partition.specs.declared.split_job.SplitPhase.{SplitPhase}
use Rattle.model_partition.specs.declared.split_job.SplitPhase.TheVariants as phases
use Rattle.model_partition.specs.declared.stage.Stage.{Stage}
use Rattle.model_partition.specs.declared.stage.Stage.TheVariants as stages
use Rattle.model_partition.specs.declared.table_note.TableNote.{TableNote}
use Rattle.model_partition.specs.Answering.{answer_rule, is_taken, groups_of}
use Rattle.model_partition.specs.Checkpoints.{may_record, index_place, rows_may_stand, trim_awaits}
use Rattle.model_partition.specs.Loading.{Group}
use Rattle.model_partition.specs.PlaceReads.{reads_under}
use Rattle.model_partition.specs.Range.{OutGroup, RangeState, RangeOutcome, request, picking, if_there, is_serving}
use Rattle.model_partition.specs.Server.{ServerState, ServerOutcome, split_of}
use Rattle.model_partition.specs.Servers.{ServerCell}
use Rattle.model_partition.specs.Splits.{is_drained, has_number}
use Rattle.model_partition.specs.Splits.{may_record as may_record_split}
use Rattle.model_histories.specs.Renaming.{renamed, one_record, decoded_record}
use Rattle.model_histories.specs.ServerRun.{ServerRun, RangeEffect, ServerEvent, Builds, after_event, after_actions, after_sides, run_of, own_or, stream_named, metadata_name, with_effect}
use Rattle.model_histories.specs.Story.{StreamEvent, Made, Answered, Showed, Story, event_at}
use Rattle.model_histories.specs.StreamActions.{StreamAction, Reads, Forms, Stands, Shows, Finds, Stores, group_of, formed, stood, serving_actions, loading_actions, confirmed_actions, load_actions, record_stood_in, record_stood, record_actions, metadata_actions, index_stood_in, index_stood, rows_told_actions, rows_actions, bytes_told_actions, bytes_actions, log_actions, answered_actions, split_stood_in, drain_actions, follow_actions_in, follow_actions, split_sides}
use Rattle.laws_loads.proofs.Renaming.{made_from}
use Rattle.laws_loads.specs.RangeView.{RangeView, view_after_all, metadata_of}
use Rattle.laws_tables.proofs.Range.{newest, older, event_cases}
use Rattle.laws_tables.specs.Runs as chains
use Rattle.laws_tables.specs.Runs.{Run, KeepsKeys}
use Rattle.laws_server_runs.specs.RangeInvariant.{IsKeysRecord}
use Rattle.laws_server_runs.specs.RunInvariant.{view_at, AreApart}
use Rattle.laws_server_runs.specs.Turns.{outcome_of, IsRule, Transacts, Answers, Gets, Yields, Checkpoints, Renews, stood_by, IsStep, Alone, BeginsSplit, Drops, Follows, Leaves, Holds, Hears, IsEffect, Own, None_done, OfOthers, Turn, Idles, Opens, Acts, RunStep, Keeps, Passes, Turns}
use Rattle.laws_server_runs.proofs.Actions.{other_test, actions_here, actions_beside, sides_beside}
use Rattle.laws_server_runs.proofs.Apart.{StaysApart}
use Rattle.laws_server_runs.proofs.LoadedRecords.{AreItems, AreMadeOf, NamesNone}
use Rattle.laws_server_runs.proofs.RecordKinds.{checkpoint_unlike, split_unlike}
use Rattle.laws_server_runs.proofs.RunSteps.{IsAny, IsAnyPair, any_assigned, any_numbered, event_kind, event_step}
use Rattle.laws_server_runs.proofs.SideActions.{sides_others}
use Rattle.laws_server_runs.proofs.Unmerged.{unmerged}

-- ---- actions

-- none of a range's own begins the append of a record that names keys
abbrev pub FormsOther : StreamAction → Type 0
FormsOther (Forms kinds.Metadata group) = IsKeysRecord group → ⊥
FormsOther action = Unit {0}

abbrev pub FormOthers : List StreamAction → Type 0
FormOthers actions = AllByRecursion FormsOther actions

both : (xs ys : List StreamAction) → FormOthers xs → FormOthers ys → FormOthers (xs ++ ys)
both [] ys a b = b
both (x ∷ xs) ys a b = (a.0, both xs ys a.1 b)

formed_other : (after : Option RangeState) → FormOthers (formed after)
formed_other None = tt
formed_other (Some r) = by r.out
  where
    by : (out : Option OutGroup) → FormOthers (map (λ o. Forms kinds.Log (group_of o)) (if_there out))
    by None = tt
    by (Some o) = (tt, tt)

module _ (r : RangeState) where
  stood_other : (out : Option OutGroup) (extent offset : ℕ) (o : RangeOutcome) → FormOthers (stood r out extent offset o)
  stood_other None extent offset o = tt
  stood_other (Some out) extent offset o = both (formed o.after) _ (formed_other o.after) (tt, tt)

  serving_other : (told : Option News) (o : RangeOutcome) → FormOthers (serving_actions r told o)
  serving_other (Some (news.Appended extent offset)) o = stood_other r.out extent offset o
  serving_other told o = tt

  loading_other : (kind : StreamKind) (c : ClientState) (stage : Stage) (groups : List Group) (told : Option News) → FormOthers (loading_actions kind c stage groups told)
  loading_other kind c (stages.Reading k position) groups (Some (news.Content extent upto)) = (tt, tt)
  loading_other kind c stage groups told = tt

  confirmed_other : (phase : LoadPhase) (body : StreamBody) → FormOthers (confirmed_actions r phase body)
  confirmed_other (load_phases.Confirming q) (streams.Confirmed w) = (tt, tt)
  confirmed_other phase body = tt

  load_other : (body : Body) → FormOthers (load_actions r body)
  load_other (bodies.Stream body) = confirmed_other r.load.phase body
  load_other body = tt

  record_other : (job : Option CheckpointState) (extent offset : ℕ) → FormOthers (record_stood r job extent offset)
  record_other None extent offset = tt
  record_other (Some job) extent offset = by job.phase
    where
      by : (phase : CheckpointPhase) → FormOthers (record_stood_in r job phase extent offset)
      by (checkpoints.Record index) = (tt, tt)
      by phase = tt

  told_other : (told : Option News) → FormOthers (record_actions r told)
  told_other (Some (news.Appended extent offset)) = record_other r.control extent offset
  told_other told = tt

  metadata_other : (d : ServerContext) (body : Body) → FormOthers (metadata_actions d r body)
  metadata_other d body =
      let told : Option News = (reply_rule (picking d r.metadata) (request d) body).news in
      if_elim FormOthers (is_serving r.stage) _ _ (λ t. told_other told) (λ f. loading_other kinds.Metadata r.metadata r.stage (groups_of body) told)

  log_other : (d : ServerContext) (body : Body) (o : RangeOutcome) → FormOthers (log_actions d r body o)
  log_other d body o =
      let told : Option News = (reply_rule (picking d r.log) (request d) body).news in
      if_elim FormOthers (is_serving r.stage) _ _ (λ t. serving_other told o) (λ f. loading_other kinds.Log r.log r.stage (groups_of body) told)

  index_other : (job : Option CheckpointState) (extent offset : ℕ) → FormOthers (index_stood r job extent offset)
  index_other None extent offset = tt
  index_other (Some job) extent offset = by job.phase
    where
      by : (phase : CheckpointPhase) → FormOthers (index_stood_in r job phase extent offset)
      by checkpoints.Index = if_elim FormOthers (may_record r job) _ _ (λ t. (checkpoint_unlike r job (index_place job extent offset), tt)) (λ f. tt)
      by phase = tt

  rows_told_other : (told : Option News) → FormOthers (rows_told_actions r told)
  rows_told_other (Some (news.Appended extent offset)) =
      both (if nat_lt extent (2 ^ 64) then index_stood r r.control extent offset else []) _
      (if_elim FormOthers (nat_lt extent (2 ^ 64)) _ _ (λ t. index_other r.control extent offset) (λ f. tt)) (tt, tt)
  rows_told_other told = tt

  rows_other : (d : ServerContext) (body : Body) → FormOthers (rows_actions d r body)
  rows_other d body = if_elim FormOthers (rows_may_stand r.control body) _ _ (λ t. rows_told_other (reply_rule (picking d r.rows) (request d) body).news) (λ f. tt)

  bytes_other : (body : Body) → FormOthers (bytes_actions body)
  bytes_other (bodies.Read body) = by body
    where
      by : (body : ReadBody) → FormOthers (bytes_told_actions body)
      by (reads.Bytes w e offset bytes) = (tt, tt)
      by body = tt
  bytes_other body = tt

  answered_other : (d : ServerContext) (w : ReqNo) (body : Body) (o : RangeOutcome) → FormOthers (answered_actions d r w body o)
  answered_other d w body o =
      if_elim FormOthers (load_awaits r.load.phase w) _ _ (λ t. load_other body)
      (λ f. if_elim FormOthers (awaits r.metadata.job w) _ _ (λ t. metadata_other d body)
      (λ f. if_elim FormOthers (awaits r.log.job w) _ _ (λ t. if_elim FormOthers (is_taken r body) _ _ (λ t. log_other d body o) (λ f. tt))
      (λ f. if_elim FormOthers (awaits r.rows.job w) _ _ (λ t. rows_other d body)
      (λ f. if_elim FormOthers (reads_under r.reading w) _ _ (λ t. bytes_other body)
      (λ f. if_elim FormOthers (trim_awaits r.control w) _ _ (λ t. tt) (λ f. bytes_other body))))))

  -- each rule
  rule_other : (actions : List StreamAction) (o : RangeOutcome) → IsRule r actions o → FormOthers actions
  rule_other actions o (Transacts d from q changes) = if_elim FormOthers (is_some r.out) _ _ (λ t. tt) (λ f. formed_other o.after)
  rule_other actions o (Answers d w body) = if_elim FormOthers (is_some (answer_rule d r w body).after) _ _ (λ t. answered_other d w body (answer_rule d r w body)) (λ f. tt)
  rule_other actions o (Gets d from q key) = tt
  rule_other actions o (Yields d) = tt
  rule_other actions o (Checkpoints d combine may) = tt
  rule_other actions o (Renews until count) = tt

  -- ---- its split

  drain_other : (job : SplitJob) → FormOthers (drain_actions r job)
  drain_other job = if_elim FormOthers (is_drained r && may_record_split r job) _ _ (λ t. (split_unlike job, tt)) (λ f. tt)

  follow_other : (d : ServerContext) (job : SplitJob) → FormOthers (follow_actions d r job)
  follow_other d job = if_elim FormOthers (has_number d) _ _ (λ t. by job.phase) (λ f. tt)
    where
      by : (phase : SplitPhase) → FormOthers (follow_actions_in r job phase)
      by phases.Checkpoint = if_elim FormOthers (is_some r.control) _ _ (λ t. tt) (λ f. drain_other job)
      by phases.Queue = drain_other job
      by phase = tt

  split_stood_other : (job : SplitJob) (phase : SplitPhase) (told : Option News) → FormOthers (split_stood_in r job phase told)
  split_stood_other job phases.Record (Some (news.Appended extent offset)) = (tt, tt)
  split_stood_other job phase told = tt

  stood_by_other : (job : SplitJob) {actions : List StreamAction} {o : RangeOutcome} (rule : IsRule r actions o) → FormOthers (stood_by job rule)
  stood_by_other job (Answers d w body) =
      if_elim FormOthers (is_some (answer_rule d r w body).after) _ _
      (λ there. if_elim FormOthers (load_awaits r.load.phase w) _ _ (λ t. tt)
      (λ f. if_elim FormOthers (awaits r.metadata.job w) _ _
      (λ t. if_elim FormOthers (is_serving r.stage) _ _ (λ serving. split_stood_other job job.phase (reply_rule (picking d r.metadata) (request d) body).news) (λ f. tt)) (λ f. tt))) (λ f. tt)
  stood_by_other job (Transacts d from q changes) = tt
  stood_by_other job (Gets d from q key) = tt
  stood_by_other job (Yields d) = tt
  stood_by_other job (Checkpoints d combine may) = tt
  stood_by_other job (Renews until count) = tt

-- a step of a range that may be split
pub step_other : (r : RangeState) (job : Option SplitJob) (actions : List StreamAction) (o : RangeOutcome) (later : Option SplitJob) → IsStep IsAnyPair r job actions o later → FormOthers actions
step_other r job actions o later (Alone own_actions own rule) = rule_other r own_actions own rule
step_other r job actions o later (BeginsSplit d key may none splits) = tt
step_other r job actions o later (Drops split own_actions own rule calm gone) = rule_other r own_actions own rule
step_other r job actions o later (Follows split own_actions own rule calm room d counts next left) =
    both (follow_actions d next split) _ (follow_other next d split) (both (stood_by split rule) own_actions (stood_by_other r split rule) (rule_other r own_actions own rule))
step_other r job actions o later (Leaves split c d next left) = tt
step_other r job actions o later (Holds split until count) = tt
step_other r job actions o later (Hears split d body numbered) = tt

-- ---- stories

-- no record of this story names keys
abbrev pub NamesNoKeys : Story Group → Type 0
NamesNoKeys story = (a g : ℕ) (group : Group) → event_at story a ≡ Some (Made g group) → IsKeysRecord group → ⊥

pub one_more : (e : StreamEvent Group) (story : Story Group) → ((g : ℕ) (group : Group) → e ≡ Made g group → IsKeysRecord group → ⊥) → NamesNoKeys story → NamesNoKeys (e ∷ story)
one_more e story other old a g group at = elim (event_cases Group e story a (Made g group) at) [
  | inl new ↦ other g group new.1
  | inr there ↦ old a g group there
]

module _ (generation : ℕ) where
  actions_unnamed : (v : RangeView) (actions : List StreamAction) → FormOthers actions → NamesNoKeys (metadata_of v) → NamesNoKeys (metadata_of (view_after_all generation v actions))
  actions_unnamed v [] all none = none
  actions_unnamed v (Forms kinds.Metadata new ∷ earlier) all none =
      one_more (Made generation new) (metadata_of (view_after_all generation v earlier))
      (λ g group is keys.
      let same : group ≡ new = cc in
      all.0 (subst IsKeysRecord same keys)) (actions_unnamed v earlier all.1 none)
  actions_unnamed v (Forms kinds.RowData new ∷ earlier) all none = actions_unnamed v earlier all.1 none
  actions_unnamed v (Forms kinds.Log new ∷ earlier) all none = actions_unnamed v earlier all.1 none
  actions_unnamed v (Forms kinds.BlobData new ∷ earlier) all none = actions_unnamed v earlier all.1 none
  actions_unnamed v (Reads kind read ∷ earlier) all none = actions_unnamed v earlier all.1 none
  actions_unnamed v (Stands kinds.Metadata extent place new ∷ earlier) all none =
      one_more _ (metadata_of (view_after_all generation v earlier)) (λ g group is. absurd cc) (actions_unnamed v earlier all.1 none)
  actions_unnamed v (Stands kinds.RowData extent place new ∷ earlier) all none = actions_unnamed v earlier all.1 none
  actions_unnamed v (Stands kinds.Log extent place new ∷ earlier) all none = actions_unnamed v earlier all.1 none
  actions_unnamed v (Stands kinds.BlobData extent place new ∷ earlier) all none = actions_unnamed v earlier all.1 none
  actions_unnamed v (Shows start log_end metadata_end ∷ earlier) all none =
      one_more _ (metadata_of (view_after_all generation v earlier)) (λ g group is. absurd cc) (actions_unnamed v earlier all.1 none)
  actions_unnamed v (Finds found ∷ earlier) all none = actions_unnamed v earlier all.1 none
  actions_unnamed v (Stores stored ∷ earlier) all none = actions_unnamed v earlier all.1 none

-- ---- all servers

module _ (k : ℕ) where
  -- no record of the metadata of the range names keys
  abbrev pub Unnamed : ServerRun → Type 0
  Unnamed x = NamesNoKeys (x.story (metadata_name k))

  module _ (x : ServerRun) (apart : AreApart k x.servers) (none : Unnamed x) where
    story_same : (y : ServerRun) → y.story (metadata_name k) ≡ x.story (metadata_name k) → Unnamed y
    story_same y same = subst (λ (story : Story Group). NamesNoKeys story) (sym same) none

    module _ (s : ℕ) (cell : ServerCell) (st : ServerState) (at : entry_at x.servers s ≡ Some cell) (is : cell.state ≡ Some st) where
      acts_unnamed : (range g : ℕ) (actions : List StreamAction) → FormOthers actions → Unnamed (after_actions s range g x actions)
      acts_unnamed range g actions all = elim (cases_eq k range) [
        | inl same ↦
            subst (λ n. Unnamed (after_actions s n g x actions)) same
            (subst (λ (v : RangeView). NamesNoKeys (metadata_of v)) (sym (actions_here s k g x actions)) (actions_unnamed g (view_at k x s) actions all none))
        | inr other ↦ story_same (after_actions s range g x actions) (actions_beside s range g (metadata_name k) (other_test k range other) x actions)
      ]

      effect_unnamed : (range : ℕ) (r : RangeState) (job : Option SplitJob) → split_of st.splits range ≡ job → (e : RangeEffect) (o : RangeOutcome) (later : Option SplitJob) → IsEffect IsAnyPair range r job e o later → Unnamed (with_effect s x e)
      effect_unnamed range r job split e o later (Own own actions after left_job step unheard) = acts_unnamed range r.load.generation actions (step_other r own actions after left_job step)
      effect_unnamed range r job split e o later (None_done own after left_job step unheard) = none
      effect_unnamed range r job split e o later (OfOthers splitting d body after left_job step heard) =
          story_same (after_sides s splitting.generation x (split_sides d r splitting body)) ((sides_beside s splitting.generation k x (split_sides d r splitting body) (sides_others k d r splitting body (apart s cell st at is range splitting split))).story (metadata_name k) refl)

      turn_unnamed : (e : RangeEffect) (o : ServerOutcome) → Turn IsAny IsAnyPair st e o → Unnamed (with_effect s x e)
      turn_unnamed e o (Idles next packets same splits) = none
      turn_unnamed e o (Opens range assigned d generation until next packets new splits) = none
      turn_unnamed e o (Acts range r held effect ro later is_effect next packets left splits) = effect_unnamed range r (split_of st.splits range) refl effect ro later is_effect

    step_unnamed : (notes : List TableNote) (y : ServerRun) → RunStep IsAny IsAnyPair x notes y → Unnamed y
    step_unnamed notes y (Keeps servers packets like) = none
    step_unnamed notes y (Passes servers like) = none
    step_unnamed notes y (Turns s cell st at is e o turn) = turn_unnamed s cell st at is e o turn

    -- nor where another's streams are built
    built_unnamed : (source range : ℕ) → (range ≡ k → ⊥) → (event : ServerEvent) → event ≡ Builds source range → Unnamed (after_event x event)
    built_unnamed source range other event is =
        subst (λ e. Unnamed (after_event x e)) (sym is)
        (story_same (after_event x (Builds source range))
        (ap (λ b. if b then own_or (x.story (metadata_name k)) (x.story (stream_named source kinds.Metadata)) else x.story (metadata_name k)) (other_test k range (λ e. other (sym e)))))

  -- over a list of events, where the range is none of the two of any split
  pub unnamed : (batch servers : ℕ) (events : List ServerEvent) → StaysApart k batch servers events → Unnamed (run_of batch servers events)
  unnamed batch servers [] are = λ a g group at. absurd cc
  unnamed batch servers (event ∷ earlier) are =
      let x : ServerRun = run_of batch servers earlier in
      let old : Unnamed x = unnamed batch servers earlier are.1 in
      ⊎_elim {C = Unnamed (after_event x event)}
      (λ is. step_unnamed x are.0.0 old (outcome_of x.servers event).notes (after_event x event) (event_step IsAny IsAnyPair x (unmerged batch servers earlier) event is (any_assigned event) (any_numbered event)))
      (λ build. built_unnamed x are.0.0 old build.0 build.1 (are.0.1 build.0 build.1 build.2) event build.2)
      (event_kind event)

-- ---- runs

-- no record of such a story spells an item that names keys
pub names_none : (story : Story Group) → NamesNoKeys story → AreMadeOf NamesNone story
names_none story none a g group at = by (group_at group) refl
  where
    by : (read : Option MetaRecord) → group_at group ≡ read → AreItems NamesNone (one_record read).items
    by None e = tt
    by (Some r) e = (λ keys is. none a g group at (record { number = r.number; keys = keys; spells = ap one_record e ∙ ap (λ i. record { first = r.number; items = i ∷ [] }) is }), tt)

-- a run whose records name no keys keeps them
no_record : (run : Run) → ((a g number : ℕ) (keys : KeyRange) → event_at (chains.meta_of run) a ≡ Some (Made g (chains.record_group number (Ranges keys))) → ⊥) → KeepsKeys run
no_record [] none = tt
no_record (chains.Forms g group ∷ run) none = no_record run none
no_record (chains.Logged g append from to ∷ run) none = no_record run none
no_record (chains.Notes g ∷ run) none = no_record run none
no_record (chains.Records g number item ∷ run) none = (
  λ keys is.
      none (length (chains.meta_of run)) g number keys
      (newest (Numbered MetaItem) (Made g (chains.record_group number item)) (chains.meta_of run) ∙ ap (λ i. Some (Made g (chains.record_group number i))) is),
  no_record run (λ a h n keys at. none a h n keys (older (Numbered MetaItem) (Made g (chains.record_group number item)) (chains.meta_of run) a (Made h (chains.record_group n (Ranges keys))) at)),
)
no_record (chains.Recorded g append from to ∷ run) none =
    no_record run (λ a h n keys at. none a h n keys (older (Numbered MetaItem) (Answered append from to) (chains.meta_of run) a (Made h (chains.record_group n (Ranges keys))) at))
no_record (chains.Trims g place ∷ run) none = no_record run none
no_record (chains.Confirms g start end groups metadata_end records ∷ run) none =
    no_record run (λ a h n keys at. none a h n keys (older (Numbered MetaItem) (Showed g 0 metadata_end records) (chains.meta_of run) a (Made h (chains.record_group n (Ranges keys))) at))

pub keeps_keys : (run : Run) (story : Story Group) → chains.meta_of run ≡ renamed decoded_record story → NamesNoKeys story → KeepsKeys run
keeps_keys run story same none = no_record run (λ a g number keys at.
    let old : (group : Group) × (event_at story a ≡ Some (Made g group)) × (decoded_record group ≡ chains.record_group number (Ranges keys)) =
    made_from decoded_record story a g (chains.record_group number (Ranges keys)) (sym (ap (λ z. event_at z a) same) ∙ at) in
    none a g old.0 old.1 (record { number = number; keys = keys; spells = old.2 }))
