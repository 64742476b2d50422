-- A step of a range that may be split, with what its split does: it keeps what is kept of the range.
use Rattle.std.proofs.Common.{◌≡◌, ◌⊎◌, ⊎_elim, ℕ, suc, ◌+◌, ◌<◌, ◌^◌, Bool, true, false, not, ◌&&◌, nat_lt, List, [], ◌∷◌, ◌++◌, Option, Some, None, is_some, option_to_list, refl, sym, ap, ◌∙◌, subst, inl, inr, arith}
use Rattle.std.specs.Prelude.{if◌then◌else◌}
use Rattle.std.proofs.lemmas.Bool.{and_parts, ltb-true, lt-ltb}
use Rattle.wire.specs.declared.actor.ReqNo.{ReqNo}
use Rattle.wire.specs.declared.body.AppendBody.{AppendBody}
use Rattle.wire.specs.declared.body.AppendBody.TheVariants as appends
use Rattle.wire.specs.declared.body.Body.{Body}
use Rattle.wire.specs.declared.body.Body.TheVariants as bodies
use Rattle.wire.specs.declared.body.MapBody.{MapBody}
use Rattle.wire.specs.declared.body.MapBody.TheVariants as maps
use Rattle.wire.specs.declared.body.SealBody.{SealBody}
use Rattle.wire.specs.declared.body.SealBody.TheVariants as seals
use Rattle.wire.specs.declared.body.StreamBody.{StreamBody}
use Rattle.wire.specs.declared.body.StreamBody.TheVariants as stream_bodies
use Rattle.wire.specs.declared.packet.Packet.{Packet}
use Rattle.wire.specs.declared.refusal.Refusal.{Refusal}
use Rattle.wire.specs.declared.refusal.Refusal.TheVariants as refusals
use Rattle.wire.specs.declared.streams.StreamKind.{StreamKind}
use Rattle.wire.specs.declared.streams.StreamKind.TheVariants as kinds
use Rattle.metadata.specs.declared.record.MetaRecord.{MetaRecord}
use Rattle.client.specs.declared.job.Job.{Job}
use Rattle.client.specs.declared.job.Job.TheVariants as jobs
use Rattle.client.specs.declared.job.News.{News}
use Rattle.client.specs.declared.job.News.TheVariants as news
use Rattle.client.specs.declared.load.LoadPhase.TheVariants as load_phases
use Rattle.client.specs.Client.{Outcome, append_rule, awaits, is_idle, reply_rule}
use Rattle.client.specs.Load.{load_awaits}
use Rattle.model_streams.proofs.Tests.{if_elim, both_elim}
use Rattle.model_partition.specs.declared.pause.Pause.TheVariants as pauses
use Rattle.model_partition.specs.declared.server_context.ServerContext.{ServerContext}
use Rattle.model_partition.specs.declared.split_job.Side.{Side}
use Rattle.model_partition.specs.declared.split_job.Side.TheVariants.{Low, High}
use Rattle.model_partition.specs.declared.split_job.SplitJob.{SplitJob}
use Rattle.model_partition.specs.declared.split_job.SplitPhase.{SplitPhase}
use Rattle.model_partition.specs.declared.split_job.SplitPhase.TheVariants as phases
use Rattle.model_partition.specs.declared.stage.Stage.{Stage}
use Rattle.model_partition.specs.declared.stage.Stage.TheVariants as stages
use Rattle.model_partition.specs.CheckpointStates.{CheckpointState}
use Rattle.model_partition.specs.Checkpoints.{number_to_apply, have_bytes, begins, checkpoint_fault, checkpoint_rule, record_told}
use Rattle.model_histories.specs.ServedTables.{AreSeenAs}
use Rattle.model_partition.specs.Splits.{SplitStep, split_rule, stays, ends, split_record, with_phase, new_split, may_checkpoint, has_record_numbers, is_drained, may_record, drains, all_kinds, kinds_after, extents_of, open_last, is_extent, first_open, seals_or_builds, with_last_sealed, may_say_keys, appends_keys, says_keys, keys_stand, keys_told, refused, refused_by, map_told, seal_told, stream_told, told, split_reply_in, split_reply, has_number, has_stood, follows_in, follows, gives_up_in, gives_up}
use Rattle.model_partition.specs.Past.{Bytes}
use Rattle.model_partition.specs.Range.{RangeState, RangeOutcome, request, goes, given, picking, is_serving}
use Rattle.model_partition.specs.Answering.{answer_rule, give_up_all}
use Rattle.model_partition.specs.Server.{has_numbers}
use Rattle.model_histories.specs.StreamActions.{StreamAction, answer_actions, record_actions, record_stood, split_group, split_stood_in, split_stood, drain_actions, follow_actions_in, follow_actions}
use Rattle.laws_loads.specs.RangeView.{RangeView, SplitStage, Free, Drains, Recording, view_after_all}
use Rattle.laws_tables.specs.Runs.{Run, first_beginning, held as held_by}
use Rattle.laws_server_runs.specs.CheckpointInvariant.{IsAppending, AppendsMetadata}
use Rattle.laws_server_runs.specs.Places.{AreLow}
use Rattle.laws_server_runs.specs.RangeInvariant.{Matches, Serves, PhaseIs, RangeKept, StreamsKept, InOrder, KeptIf, StepKept}
use Rattle.laws_server_runs.specs.RunInvariant.{with_stage, LeavesNumber, PhaseKept, HeldKept, TurnKept}
use Rattle.laws_server_runs.specs.Turns.{IsRule, Transacts, Answers, Gets, Yields, Checkpoints, Renews, IsCalm, HasRoom, stood_by, with_split, of_split, IsStep, Alone, BeginsSplit, Drops, Follows, Leaves, Holds, Hears}
use Rattle.laws_server_runs.proofs.CheckpointKept.{IsBesideIf, LeavesQueue, rule_beside}
use Rattle.laws_server_runs.proofs.ClientAnswers.{IsIdleIf, reply_takes}
use Rattle.laws_server_runs.proofs.Fronts.{order_before_actions}
use Rattle.laws_server_runs.proofs.MetadataJobs.{HasNoRecord, TellsOther, appending_begins}
use Rattle.laws_server_runs.proofs.Rules.{Suits, rule_kept}
use Rattle.laws_server_runs.proofs.ServedNotes.{serves_of, kept_served, view_both}
use Rattle.laws_server_runs.proofs.ServingStays.{ServesIf, transacts_serves, answer_serves, gets_rule_serves}
use Rattle.laws_server_runs.proofs.SplitMore.{staged, order_staged, streams_staged, streams_plain, SplitLeft, of_own, MoreKept, then_more, only_more, gone_more, rests_more, drains_match, idle, pausing, record_more, stands, said_so, stood_more, sealed_kept}

-- ---- choices

if_yes : {A : Type 0} (b : Bool) (x y : A) → b ≡ true → (if b then x else y) ≡ x
if_yes b x y e = ap (λ t. if t then x else y) e

if_no : {A : Type 0} (b : Bool) (x y : A) → b ≡ false → (if b then x else y) ≡ y
if_no b x y e = ap (λ t. if t then x else y) e

never_both : (b : Bool) → b ≡ true → b ≡ false → ⊥
never_both b t f = let z : true ≡ false = sym t ∙ f in cc

free_other : (split : SplitStage) → split ≡ Free → (said : Option News) → TellsOther split said
free_other split free said = subst (λ s. TellsOther s said) (sym free) tt

-- a client that appends is not idle
not_idle : (job : Job) → IsAppending job → is_idle job ≡ false
not_idle jobs.Idle a = absurd a
not_idle (jobs.Sent e q) a = refl
not_idle (jobs.Closing e q) a = refl
not_idle (jobs.Growing last q) a = refl
not_idle (jobs.Checking e q) a = refl
not_idle (jobs.Shutting e q) a = refl
not_idle (jobs.Reading e places upto sealed place q) a = refl

-- ---- answers to the record of a split

-- it stands
record IsStood (split : SplitStage) (r : RangeState) (d : ServerContext) (w : ReqNo) (body : Body) : Type 0 where
  out : MetaRecord
  split_is : split ≡ Recording out
  unasked : load_awaits r.load.phase w ≡ false
  waited : awaits r.metadata.job w ≡ true
  extent : ℕ
  offset : ℕ
  told_is : (reply_rule (picking d r.metadata) (request d) body).news ≡ Some (news.Appended extent offset)

module _ (split : SplitStage) (r : RangeState) (d : ServerContext) (w : ReqNo) (body : Body) where
  abbrev brings : Option News
  brings = (reply_rule (picking d r.metadata) (request d) body).news

  abbrev Other : Type 0
  Other = load_awaits r.load.phase w ≡ false → awaits r.metadata.job w ≡ true → TellsOther split brings

  is_stood : Other ⊎ IsStood split r d w body
  is_stood = by (load_awaits r.load.phase w) refl (awaits r.metadata.job w) refl
    where
      by_news : (s : SplitStage) → split ≡ s → load_awaits r.load.phase w ≡ false → awaits r.metadata.job w ≡ true → (said : Option News) → brings ≡ said → TellsOther s said ⊎ IsStood split r d w body
      by_news (Recording out) is unasked waited (Some (news.Appended e offset)) t = inr (record { out = out; split_is = is; unasked = unasked; waited = waited; extent = e; offset = offset; told_is = t })
      by_news (Recording out) is unasked waited None t = inl tt
      by_news (Recording out) is unasked waited (Some news.Fenced) t = inl tt
      by_news (Recording out) is unasked waited (Some (news.Checked e l)) t = inl tt
      by_news (Recording out) is unasked waited (Some (news.Sealed e l)) t = inl tt
      by_news (Recording out) is unasked waited (Some (news.Content e upto)) t = inl tt
      by_news Free is unasked waited said t = inl tt
      by_news Drains is unasked waited said t = inl tt

      by : (a : Bool) → load_awaits r.load.phase w ≡ a → (b : Bool) → awaits r.metadata.job w ≡ b → Other ⊎ IsStood split r d w body
      by true x b y = inl (λ unasked waited. absurd (never_both (load_awaits r.load.phase w) x unasked))
      by false x false y = inl (λ unasked waited. absurd (never_both (awaits r.metadata.job w) waited y))
      by false x true y = ⊎_elim {C = Other ⊎ IsStood split r d w body} (λ other. inl (λ unasked waited. other)) (λ stood. inr stood) (by_news split refl x y brings refl)

-- an answer that is none leads to nothing
module _ (r : RangeState) (job : SplitJob) where
  none_in : (split : SplitStage) (phase : SplitPhase) → PhaseKept split job phase → (said : Option News) → TellsOther split said → split_stood_in r job phase said ≡ []
  none_in split phases.Record k (Some (news.Appended e offset)) other = absurd (subst (λ s. TellsOther s (Some (news.Appended e offset))) k.0 other)
  none_in split phases.Record k None other = refl
  none_in split phases.Record k (Some news.Fenced) other = refl
  none_in split phases.Record k (Some (news.Checked e l)) other = refl
  none_in split phases.Record k (Some (news.Sealed e l)) other = refl
  none_in split phases.Record k (Some (news.Content e upto)) other = refl
  none_in split (phases.Begin q) k said other = refl
  none_in split phases.Checkpoint k said other = refl
  none_in split phases.Queue k said other = refl
  none_in split (phases.Seal kind q) k said other = refl
  none_in split (phases.Build q) k said other = refl
  none_in split (phases.Keys side c) k said other = refl
  none_in split (phases.Complete q) k said other = refl

  none_stood : (v : RangeView) (split : SplitStage) → PhaseKept split job job.phase → {actions : List StreamAction} {o : RangeOutcome} (rule : IsRule r actions o) → Suits (with_stage v split) r rule → stood_by job rule ≡ []
  none_stood v split k (Answers d w body) suits =
      if_elim (λ (l : List StreamAction). l ≡ []) (is_some (answer_rule d r w body).after) _ _
      (λ there. if_elim (λ (l : List StreamAction). l ≡ []) (load_awaits r.load.phase w) _ _ (λ t. refl)
      (λ unasked. if_elim (λ (l : List StreamAction). l ≡ []) (awaits r.metadata.job w) _ _
      (λ waited. if_elim (λ (l : List StreamAction). l ≡ []) (is_serving r.stage) _ _
      (λ serving. none_in split job.phase k (reply_rule (picking d r.metadata) (request d) body).news (suits unasked waited)) (λ f. refl)) (λ f. refl))) (λ f. refl)
  none_stood v split k (Transacts d from q changes) suits = refl
  none_stood v split k (Gets d from q key) suits = refl
  none_stood v split k (Yields d) suits = refl
  none_stood v split k (Checkpoints d combine may) suits = refl
  none_stood v split k (Renews until count) suits = refl

-- what stands is the record of this split
stood_phase : (split : SplitStage) (job : SplitJob) (phase : SplitPhase) (out : MetaRecord) → split ≡ Recording out → PhaseKept split job phase → phase ≡ phases.Record
stood_phase split job phases.Record out is k = refl
stood_phase split job phases.Checkpoint out is k = absurd (let z : Free ≡ Recording out = sym k.0 ∙ is in cc)
stood_phase split job phases.Queue out is k = absurd (let z : Drains ≡ Recording out = sym k.0 ∙ is in cc)
stood_phase split job (phases.Begin q) out is k = absurd (let z : Free ≡ Recording out = sym k ∙ is in cc)
stood_phase split job (phases.Seal kind q) out is k = absurd (let z : Free ≡ Recording out = sym k ∙ is in cc)
stood_phase split job (phases.Build q) out is k = absurd (let z : Free ≡ Recording out = sym k ∙ is in cc)
stood_phase split job (phases.Keys side c) out is k = absurd (let z : Free ≡ Recording out = sym k ∙ is in cc)
stood_phase split job (phases.Complete q) out is k = absurd (let z : Free ≡ Recording out = sym k ∙ is in cc)

module _ (texts : ℕ → Bytes) (subject : ℕ) where
  -- ---- what a split does behind a step

  module _ (run : Run) (v : RangeView) (z : RangeState) (streams : StreamsKept texts run v) (serving : is_serving z.stage ≡ true) (d : ServerContext) (job : SplitJob) where
    abbrev More : List StreamAction → SplitStep → Type 0
    More actions t = MoreKept texts subject run v z actions t.range t.job

    drains_more : LeavesNumber job → RangeKept texts subject run (with_stage v Drains) z → More (drain_actions z job) (drains d z job)
    drains_more left kept =
        both_elim More (is_drained z && may_record z job) _ _ _ _
        (λ t. record_more texts subject run v z kept streams serving job (and_parts (is_drained z) (may_record z job) t).1 left
        (given (picking d z.metadata) (append_rule (picking d z.metadata) (request d) (split_group job))).after
        (appending_begins (picking d z.metadata) (request d) (split_group job) (idle texts subject run v z kept streams serving)))
        (λ f. rests_more texts subject run v z streams Drains (record z { pause = pauses.AfterQueue }) (Some (with_phase job phases.Queue)) (pausing texts subject run v z kept streams serving) refl (serving, (refl, left)))

    -- where none is under way no checkpoint begins any more
    drained : (split : SplitStage) → HasNoRecord split → RangeKept texts subject run (with_stage v split) z → z.control ≡ None → RangeKept texts subject run (with_stage v Drains) z
    drained split free kept none =
        let s : Serves texts run (with_stage v split) z = serves_of texts subject run (with_stage v split) z serving kept in
        kept_served texts subject run run (with_stage v split) (with_stage v Drains) z z kept serving refl refl refl kept.sound
        (record { shown = s.shown; matches = drains_match texts subject v split (held_by first_beginning run z.load.generation) z free none s.matches })

    more_in : (split : SplitStage) → RangeKept texts subject run (with_stage v split) z → (phase : SplitPhase) → job.phase ≡ phase → PhaseKept split job phase → More (follow_actions_in z job phase) (follows_in d z job phase)
    more_in split kept phases.Checkpoint is k =
        both_elim More (is_some z.control) _ _ _ _
        (λ t. rests_more texts subject run v z streams split z (Some job) kept refl (serving, subst (PhaseKept split job) (sym is) k))
        (λ f. drains_more k.1 (drained split (subst HasNoRecord (sym k.0) tt) kept (is_none z.control f)))
      where
        is_none : (x : Option CheckpointState) → is_some x ≡ false → x ≡ None
        is_none None e = refl
        is_none (Some x) e = absurd cc
    more_in split kept phases.Queue is k = drains_more k.1 (subst (λ s. RangeKept texts subject run (with_stage v s) z) k.0 kept)
    more_in split kept phases.Record is k =
        if_elim (More []) (has_stood z) _ _
        (λ t. absurd (never_both (is_idle z.metadata.job) (and_parts (is_idle z.metadata.job) (nat_lt (suc z.said.next) (2 ^ 64)) t).0 (not_idle z.metadata.job appending)))
        (λ f. rests_more texts subject run v z streams split z (Some job) kept refl (serving, subst (PhaseKept split job) (sym is) k))
      where
        m : Matches texts (with_stage v (Recording (split_record job))) (held_by first_beginning run z.load.generation) z
        m = (serves_of texts subject run (with_stage v (Recording (split_record job))) z serving (subst (λ s. RangeKept texts subject run (with_stage v s) z) k.0 kept)).matches

        appending : IsAppending z.metadata.job
        appending = subst (AppendsMetadata z.metadata.job (Recording (split_record job))) m.beside.none m.metadata
    more_in split kept (phases.Begin q) is k = rests_more texts subject run v z streams split z (Some job) kept refl (serving, subst (PhaseKept split job) (sym is) k)
    more_in split kept (phases.Seal kind q) is k = rests_more texts subject run v z streams split z (Some job) kept refl (serving, subst (PhaseKept split job) (sym is) k)
    more_in split kept (phases.Build q) is k = rests_more texts subject run v z streams split z (Some job) kept refl (serving, subst (PhaseKept split job) (sym is) k)
    more_in split kept (phases.Keys side c) is k = rests_more texts subject run v z streams split z (Some job) kept refl (serving, subst (PhaseKept split job) (sym is) k)
    more_in split kept (phases.Complete q) is k = rests_more texts subject run v z streams split z (Some job) kept refl (serving, subst (PhaseKept split job) (sym is) k)

    follows_more : (split : SplitStage) → RangeKept texts subject run (with_stage v split) z → PhaseKept split job job.phase → More (follow_actions d z job) (follows d z job)
    follows_more split kept k =
        both_elim More (has_number d) _ _ _ _
        (λ t. more_in split kept job.phase refl k)
        (λ f. rests_more texts subject run v z streams split z (Some job) kept refl (serving, k))

    -- it gives up
    again_in : (split : SplitStage) → RangeKept texts subject run (with_stage v split) z → (phase : SplitPhase) → job.phase ≡ phase → PhaseKept split job phase → More [] (gives_up_in d z job phase)
    again_in split kept (phases.Keys side c) is k = rests_more texts subject run v z streams split z _ kept refl (serving, k)
    again_in split kept phases.Checkpoint is k = rests_more texts subject run v z streams split z (Some job) kept refl (serving, subst (PhaseKept split job) (sym is) k)
    again_in split kept phases.Queue is k = rests_more texts subject run v z streams split z (Some job) kept refl (serving, subst (PhaseKept split job) (sym is) k)
    again_in split kept phases.Record is k = rests_more texts subject run v z streams split z (Some job) kept refl (serving, subst (PhaseKept split job) (sym is) k)
    again_in split kept (phases.Begin q) is k = rests_more texts subject run v z streams split z (Some job) kept refl (serving, subst (PhaseKept split job) (sym is) k)
    again_in split kept (phases.Seal kind q) is k = rests_more texts subject run v z streams split z (Some job) kept refl (serving, subst (PhaseKept split job) (sym is) k)
    again_in split kept (phases.Build q) is k = rests_more texts subject run v z streams split z (Some job) kept refl (serving, subst (PhaseKept split job) (sym is) k)
    again_in split kept (phases.Complete q) is k = rests_more texts subject run v z streams split z (Some job) kept refl (serving, subst (PhaseKept split job) (sym is) k)

    gives_up_more : (split : SplitStage) → RangeKept texts subject run (with_stage v split) z → PhaseKept split job job.phase → More [] (gives_up d z job)
    gives_up_more split kept k =
        if_elim (More []) (has_number d) _ _ (λ t. again_in split kept job.phase refl k) (λ f. rests_more texts subject run v z streams split z (Some job) kept refl (serving, k))

  -- ---- a step of a range that may be split

  module _ (run : Run) (v : RangeView) (r : RangeState) (streams : StreamsKept texts run v) (low : AreLow r.live) where
    abbrev g : ℕ
    g = r.load.generation

    -- a rule of the range
    own_kept : (split : SplitStage) → RangeKept texts subject run (with_stage v split) r → (is_serving r.stage ≡ false → split ≡ Free) → (actions : List StreamAction) (o : RangeOutcome) (rule : IsRule r actions o) → Suits (with_stage v split) r rule →
        InOrder texts (view_after_all g v actions) → StepKept texts subject run (with_stage v split) r actions o
    own_kept split kept loads actions o rule suits order =
        rule_kept texts subject run (with_stage v split) r kept (streams_staged texts run v split streams) low loads actions o rule suits
        (subst (InOrder texts) (sym (staged g v split actions)) (order_staged texts (view_after_all g v actions) split order))

    free_suits : (split : SplitStage) → split ≡ Free → {actions : List StreamAction} {o : RangeOutcome} (rule : IsRule r actions o) → Suits (with_stage v split) r rule
    free_suits split free (Answers d w body) = λ unasked waited. free_other split free _
    free_suits split free (Checkpoints d combine may) = free
    free_suits split free (Transacts d from q changes) = tt
    free_suits split free (Gets d from q key) = tt
    free_suits split free (Yields d) = tt
    free_suits split free (Renews until count) = tt

    -- one that is not split
    alone_kept : HeldKept texts subject run v r None → (actions : List StreamAction) (o : RangeOutcome) → IsRule r actions o → InOrder texts (view_after_all g v actions) → TurnKept texts subject run v r actions o None
    alone_kept held actions o rule order =
        of_own texts subject run v held.split r actions o None (own_kept held.split held.range (λ e. held.splits) actions o rule (free_suits held.split held.splits rule) order) (left o.after)
      where
        left : (x : Option RangeState) → SplitLeft texts subject held.split None x
        left None = tt
        left (Some z) = held.splits

    -- ---- one that is split

    module _ (job : SplitJob) (held : HeldKept texts subject run v r (Some job)) where
      serving : is_serving r.stage ≡ true
      serving = held.splits.0

      loads : is_serving r.stage ≡ false → held.split ≡ Free
      loads e = absurd (never_both (is_serving r.stage) serving e)

      -- the confirmation was answered
      confirmed_in : (stage : Stage) → is_serving stage ≡ true → PhaseIs texts stage r.load.phase → r.load.phase ≡ load_phases.Confirmed
      confirmed_in stages.Serving e p = p
      confirmed_in stages.Opening e p = absurd cc
      confirmed_in (stages.Checking kind) e p = absurd cc
      confirmed_in (stages.Reading kind position) e p = absurd cc
      confirmed_in (stages.Indexing position) e p = absurd cc
      confirmed_in stages.Confirming e p = absurd cc

      confirmed : r.load.phase ≡ load_phases.Confirmed
      confirmed = confirmed_in r.stage serving held.range.phase

      -- it is served on
      serves_on : (actions : List StreamAction) (o : RangeOutcome) (rule : IsRule r actions o) → IsCalm rule → ServesIf o.after
      serves_on actions o (Transacts d from q changes) calm = transacts_serves r serving d from q changes
      serves_on actions o (Answers d w body) calm = answer_serves r serving d confirmed w body
      serves_on actions o (Gets d from q key) calm = gets_rule_serves r serving d from q key
      serves_on actions o (Yields d) calm = serving
      serves_on actions o (Checkpoints d combine may) calm = absurd calm
      serves_on actions o (Renews until count) calm = serving

      abbrev Kept : List StreamAction → SplitStep → Type 0
      Kept actions t = TurnKept texts subject run v r actions (of_split t) t.job

      -- it is as it was
      as_it_was : (t : SplitStep) → t.range ≡ Some r → (later : SplitJob) → t.job ≡ Some later → PhaseKept held.split later later.phase → Kept [] t
      as_it_was t same later is k =
          only_more texts subject run v r [] t.range t.job t.count t.packets serving
          (subst (λ x. MoreKept texts subject run v r [] x t.job) (sym same) (subst (λ x. MoreKept texts subject run v r [] (Some r) x) (sym is)
          (rests_more texts subject run v r streams held.split r (Some later) held.range refl (serving, k))))

      -- a rule whose answer is not that the split's record stands
      module _ (actions : List StreamAction) (o : RangeOutcome) (rule : IsRule r actions o) (calm : IsCalm rule) (suits : Suits (with_stage v held.split) r rule) where
        dropped_kept : InOrder texts (view_after_all g v actions) → o.after ≡ None → TurnKept texts subject run v r actions o None
        dropped_kept order gone =
            of_own texts subject run v held.split r actions o None (own_kept held.split held.range loads actions o rule suits order) (subst (SplitLeft texts subject held.split None) (sym gone) tt)

        module _ (order : InOrder texts (view_after_all g v actions)) (next : RangeState) (left : o.after ≡ Some next) where
          own : StepKept texts subject run (with_stage v held.split) r actions o
          own = own_kept held.split held.range loads actions o rule suits order

          abbrev mid : RangeView
          mid = view_after_all g v actions

          there : RangeKept texts subject own.next (with_stage mid held.split) next × (next.load.generation ≡ g)
          there = subst (λ w. KeptIf texts subject own.next w g (Some next)) (staged g v held.split actions)
              (subst (KeptIf texts subject own.next (view_after_all g (with_stage v held.split) actions) g) left own.kept)

          mid_streams : StreamsKept texts own.next mid
          mid_streams = streams_plain texts own.next mid held.split (subst (StreamsKept texts own.next) (staged g v held.split actions) own.streams)

          next_serves : is_serving next.stage ≡ true
          next_serves = subst ServesIf left (serves_on actions o rule calm)

          then_split : (ys : List StreamAction) (t : SplitStep) → MoreKept texts subject own.next mid next ys t.range t.job → TurnKept texts subject run v r (ys ++ actions) (with_split o t) t.job
          then_split ys t more = then_more texts subject run v held.split r actions ys o t.range t.job t.count (o.packets ++ t.packets) serving own next there.1 more

          followed_kept : (d : ServerContext) → TurnKept texts subject run v r (follow_actions d next job ++ (stood_by job rule ++ actions)) (with_split o (follows d next job)) (follows d next job).job
          followed_kept d =
              subst (λ (stood : List StreamAction). TurnKept texts subject run v r (follow_actions d next job ++ (stood ++ actions)) (with_split o (follows d next job)) (follows d next job).job)
              (sym (none_stood r job v held.split held.splits.1 rule suits))
              (then_split (follow_actions d next job) (follows d next job) (follows_more own.next mid next mid_streams next_serves d job held.split there.0 held.splits.1))

          given_up_kept : (d : ServerContext) → TurnKept texts subject run v r actions (with_split o (gives_up d next job)) (gives_up d next job).job
          given_up_kept d = then_split [] (gives_up d next job) (gives_up_more own.next mid next mid_streams next_serves d job held.split there.0 held.splits.1)

      -- ---- the record of its split stands

      module _ (d : ServerContext) (w : ReqNo) (body : Body) (st : IsStood held.split r d w body) where
        phase_is : job.phase ≡ phases.Record
        phase_is = stood_phase held.split job job.phase st.out st.split_is held.splits.1

        recording : (held.split ≡ Recording (split_record job)) × LeavesNumber job
        recording = subst (PhaseKept held.split job) phase_is held.splits.1

        kept_out : RangeKept texts subject run (with_stage v (Recording (split_record job))) r
        kept_out = subst (λ s. RangeKept texts subject run (with_stage v s) r) recording.0 held.range

        matches_out : Matches texts (with_stage v (Recording (split_record job))) (held_by first_beginning run r.load.generation) r
        matches_out = (serves_of texts subject run (with_stage v (Recording (split_record job))) r serving kept_out).matches

        abbrev taken_reply : Outcome
        taken_reply = reply_rule (picking d r.metadata) (request d) body

        abbrev packets : List Packet
        packets = option_to_list taken_reply.packet

        abbrev now : RangeState
        now = record r { metadata = taken_reply.after }

        ended : taken_reply.after.job ≡ jobs.Idle
        ended = subst (λ n. IsIdleIf n taken_reply.after.job) st.told_is (reply_takes (picking d r.metadata) (request d) body).idle

        abbrev standing : StreamAction
        standing = stands texts subject run v r job kept_out streams serving st.extent st.offset taken_reply.after ended

        -- what the range itself does
        outcome_is : answer_rule d r w body ≡ goes d now packets []
        outcome_is =
            if_no (load_awaits r.load.phase w) _ _ st.unasked ∙ if_yes (awaits r.metadata.job w) _ _ st.waited ∙ if_yes (is_serving r.stage) _ _ serving
            ∙ (λ i. record_told d now (matches_out.beside.none i) (st.told_is i) packets)

        actions_are : answer_actions d r w body (answer_rule d r w body) ≡ []
        actions_are =
            ap (answer_actions d r w body) outcome_is ∙ if_no (load_awaits r.load.phase w) _ _ st.unasked ∙ if_yes (awaits r.metadata.job w) _ _ st.waited
            ∙ if_yes (is_serving r.stage) _ _ serving ∙ ap (record_actions r) st.told_is ∙ ap (λ c. record_stood r c st.extent st.offset) matches_out.beside.none

        stood_is : split_stood d r (Some job) w body (answer_rule d r w body) ≡ standing ∷ []
        stood_is =
            ap (split_stood d r (Some job) w body) outcome_is ∙ if_no (load_awaits r.load.phase w) _ _ st.unasked ∙ if_yes (awaits r.metadata.job w) _ _ st.waited
            ∙ if_yes (is_serving r.stage) _ _ serving ∙ (λ i. split_stood_in r job (phase_is i) (st.told_is i))

        stays_there : (answer_rule d r w body).after ≡ None → ⊥
        stays_there gone = let z : Some now ≡ None = sym (ap (λ (o : RangeOutcome). o.after) outcome_is) ∙ gone in cc

        -- ---- what its split does then

        module _ (room : has_numbers d ≡ true) (c : ServerContext) (counts : c.count ≡ (answer_rule d r w body).count) (next : RangeState) (left : (answer_rule d r w body).after ≡ Some next) where
          next_is : now ≡ next
          next_is = let z : Some now ≡ Some next = sym (ap (λ (o : RangeOutcome). o.after) outcome_is) ∙ left in cc

          has : has_number c ≡ true
          has =
              let used : c.count ≡ suc d.count = counts ∙ ap (λ (o : RangeOutcome). o.count) outcome_is in
              let below : d.count + 1024 < 2 ^ 64 = ltb-true (d.count + 1024) (2 ^ 64) room in
              lt-ltb (suc c.count) (2 ^ 64) (omega (arith, used, below))

          stands_now : has_stood now ≡ true
          stands_now = (λ i. is_idle (ended i) && nat_lt (suc (matches_out.beside.number i)) (2 ^ 64)) ∙ recording.1

          abbrev said_now : RangeState
          said_now = said_so texts subject run v r job kept_out streams serving st.extent st.offset taken_reply.after ended

          follow_is : follow_actions c now job ≡ []
          follow_is = if_elim (λ (l : List StreamAction). l ≡ []) (has_number c) _ _ (λ t. ap (follow_actions_in now job) phase_is) (λ f. refl)

          abbrev sealed_by : Option (StreamKind × ℕ) → SplitStep
          sealed_by x = seals_or_builds c said_now job x

          step_is : follows c now job ≡ sealed_by (first_open said_now all_kinds)
          step_is = if_yes (has_number c) _ _ has ∙ ap (follows_in c now job) phase_is ∙ if_yes (has_stood now) _ _ stands_now

          sealing : (x : Option (StreamKind × ℕ)) → TurnKept texts subject run v r (standing ∷ []) (with_split (goes d now packets []) (sealed_by x)) (sealed_by x).job
          sealing None =
              only_more texts subject run v r _ (Some said_now) (sealed_by None).job (sealed_by None).count (packets ++ (sealed_by None).packets) serving
              (stood_more texts subject run v r job kept_out streams serving st.extent st.offset taken_reply.after ended (with_phase job (phases.Build (request c))) (serving, refl))
          sealing (Some x) =
              only_more texts subject run v r _ (Some said_now) (sealed_by (Some x)).job (sealed_by (Some x)).count (packets ++ (sealed_by (Some x)).packets) serving
              (stood_more texts subject run v r job kept_out streams serving st.extent st.offset taken_reply.after ended (with_phase job (phases.Seal x.0 (request c))) (serving, refl))

          abbrev all_actions : RangeState → List StreamAction
          all_actions z = follow_actions c z job ++ (split_stood d r (Some job) w body (answer_rule d r w body) ++ answer_actions d r w body (answer_rule d r w body))

          stood_kept : TurnKept texts subject run v r (all_actions next) (with_split (answer_rule d r w body) (follows c next job)) (follows c next job).job
          stood_kept =
              subst (λ z. TurnKept texts subject run v r (all_actions z) (with_split (answer_rule d r w body) (follows c z job)) (follows c z job).job) next_is
              (subst (λ t. TurnKept texts subject run v r (all_actions now) (with_split (answer_rule d r w body) t) t.job) (sym step_is)
              (subst (λ (o : RangeOutcome). TurnKept texts subject run v r (all_actions now) (with_split o (sealed_by (first_open said_now all_kinds))) (sealed_by (first_open said_now all_kinds)).job) (sym outcome_is)
              (subst (λ (l : List StreamAction). TurnKept texts subject run v r l (with_split (goes d now packets []) (sealed_by (first_open said_now all_kinds))) (sealed_by (first_open said_now all_kinds)).job)
              (sym (λ i. follow_is i ++ (stood_is i ++ actions_are i)))
              (sealing (first_open said_now all_kinds)))))

      -- ---- answers to its split

      module _ (d : ServerContext) where
        goes_out : Kept [] (ends d r)
        goes_out = only_more texts subject run v r [] None None (ends d r).count (ends d r).packets serving (gone_more texts subject run v r streams None)

        -- it waits on
        waits_on : Kept [] (stays d r job)
        waits_on = as_it_was (stays d r job) refl job refl held.splits.1

        says_more : held.split ≡ Free → (side : Side) → Kept [] (says_keys d r job side)
        says_more free side =
            if_elim (Kept []) (may_say_keys r job) _ _ (λ t. as_it_was (appends_keys d r job side) refl _ refl free) (λ f. waits_on)

        stand_more : held.split ≡ Free → (side : Side) → Kept [] (keys_stand d r job side)
        stand_more free Low = says_more free High
        stand_more free High = as_it_was (keys_stand d r job High) refl _ refl free

        keys_more : held.split ≡ Free → (side : Side) (o : Outcome) (said : Option News) → Kept [] (keys_told d r job side o said)
        keys_more free side o (Some news.Fenced) = goes_out
        keys_more free side o (Some (news.Appended e offset)) = stand_more free side
        keys_more free side o None = as_it_was (keys_told d r job side o None) refl _ refl free
        keys_more free side o (Some (news.Checked e l)) = as_it_was (keys_told d r job side o (Some (news.Checked e l))) refl _ refl free
        keys_more free side o (Some (news.Sealed e l)) = as_it_was (keys_told d r job side o (Some (news.Sealed e l))) refl _ refl free
        keys_more free side o (Some (news.Content e upto)) = as_it_was (keys_told d r job side o (Some (news.Content e upto))) refl _ refl free

        refused_more : (phase : SplitPhase) → PhaseKept held.split job phase → (why : Refusal) → Kept [] (refused d r job phase why)
        refused_more phase k refusals.Stale = goes_out
        refused_more (phases.Build q) k refusals.NameTaken = says_more k Low
        refused_more (phases.Complete q) k refusals.GenerationChanged = goes_out
        refused_more phase k why = waits_on

        append_more : (body : AppendBody) → Kept [] (refused_by d r job body)
        append_more (appends.Refused w why) = refused_more job.phase held.splits.1 why
        append_more body = waits_on

        stream_more : (phase : SplitPhase) → PhaseKept held.split job phase → (body : StreamBody) → Kept [] (stream_told d r job phase body)
        stream_more (phases.Build q) k (stream_bodies.Modified w) = says_more k Low
        stream_more phase k body = waits_on

        -- an extent is sealed
        sealed_on : (kind : StreamKind) (n : ℕ) → ((with_last_sealed r kind n).load.generation ≡ g) × (is_serving (with_last_sealed r kind n).stage ≡ true)
        sealed_on kinds.Metadata n = (refl, serving)
        sealed_on kinds.Log n = (refl, serving)
        sealed_on kinds.RowData n = (refl, serving)
        sealed_on kinds.BlobData n = (refl, serving)

        sealed_more : held.split ≡ Free → (kind : StreamKind) (n : ℕ) (x : Option (StreamKind × ℕ)) → Kept [] (seals_or_builds d (with_last_sealed r kind n) job x)
        sealed_more free kind n x = by x
          where
            y : RangeState
            y = with_last_sealed r kind n

            mine : RangeKept texts subject run (with_stage v Free) y
            mine = sealed_kept texts subject run v r (subst (λ s. RangeKept texts subject run (with_stage v s) r) free held.range) serving kind n

            by : (x : Option (StreamKind × ℕ)) → Kept [] (seals_or_builds d y job x)
            by None =
                only_more texts subject run v r [] (Some y) (seals_or_builds d y job None).job (seals_or_builds d y job None).count (seals_or_builds d y job None).packets serving
                (rests_more texts subject run v r streams Free y _ mine (sealed_on kind n).0 ((sealed_on kind n).1, refl))
            by (Some z) =
                only_more texts subject run v r [] (Some y) (seals_or_builds d y job (Some z)).job (seals_or_builds d y job (Some z)).count (seals_or_builds d y job (Some z)).packets serving
                (rests_more texts subject run v r streams Free y _ mine (sealed_on kind n).0 ((sealed_on kind n).1, refl))

        seal_more : (phase : SplitPhase) → PhaseKept held.split job phase → (body : SealBody) → Kept [] (seal_told d r job phase body)
        seal_more (phases.Seal kind q) k (seals.SealedIs w e n) =
            if_elim (Kept []) (is_extent e (open_last (extents_of r kind))) _ _ (λ t. sealed_more k kind n (first_open (with_last_sealed r kind n) (kinds_after kind))) (λ f. waits_on)
        seal_more phase k body = waits_on

        -- the map has numbered the two ranges
        module _ (order : InOrder texts v) where
          abbrev numbered_job : ℕ → ℕ → SplitJob
          numbered_job low high = record job { low = low; high = high; number = suc r.said.next; phase = phases.Checkpoint }

          begins_more : held.split ≡ Free → (low high : ℕ) → may_checkpoint r ≡ true → has_record_numbers r ≡ true → Kept [] (record { range = (begins d r false).after; job = Some (numbered_job low high); count = (begins d r false).count; packets = (begins d r false).packets })
          begins_more free low high may numbers =
              subst (λ (o : RangeOutcome). Kept [] (record { range = o.after; job = Some (numbered_job low high); count = o.count; packets = o.packets })) (if_yes (have_bytes r.live r.position (number_to_apply r.out r.next)) _ _ parts.1) turned
            where
              parts : (not (is_some (checkpoint_fault r)) ≡ true) × (have_bytes r.live r.position (number_to_apply r.out r.next) ≡ true)
              parts = and_parts (not (is_some (checkpoint_fault r))) (have_bytes r.live r.position (number_to_apply r.out r.next)) may

              is_none : (x : Option Refusal) → not (is_some x) ≡ true → x ≡ None
              is_none None e = refl
              is_none (Some x) e = absurd cc

              o : RangeOutcome
              o = checkpoint_rule d r false

              left : LeavesQueue r o
              left = rule_beside d r false

              own : StepKept texts subject run (with_stage v held.split) r [] o
              own = own_kept held.split held.range loads [] o (Checkpoints d false (is_none (checkpoint_fault r) parts.0)) free order

              number_left : LeavesNumber (numbered_job low high)
              number_left = let below : suc (suc (suc r.said.next)) < 2 ^ 64 = ltb-true (suc (suc (suc r.said.next))) (2 ^ 64) numbers in lt-ltb (suc (suc r.said.next)) (2 ^ 64) (omega (arith, below))

              split_left : (x : Option RangeState) → IsBesideIf r x → SplitLeft texts subject held.split (Some (numbered_job low high)) x
              split_left None b = tt
              split_left (Some z) b = (ap is_serving b.stage ∙ serving, (free, number_left))

              turn : TurnKept texts subject run v r [] o (Some (numbered_job low high))
              turn = of_own texts subject run v held.split r [] o (Some (numbered_job low high)) own (split_left o.after left.after)

              turned : Kept [] (record { range = o.after; job = Some (numbered_job low high); count = o.count; packets = o.packets })
              turned = record {
                next = turn.next;
                goes = turn.goes;
                alone = turn.alone;
                kept = turn.kept;
                streams = turn.streams;
                longer = turn.longer;
                anew = turn.anew;
                seen = λ before later old told. turn.seen before later old (subst (λ notes. AreSeenAs texts notes later) (sym left.quiet) told);
              }

          map_more : (phase : SplitPhase) → PhaseKept held.split job phase → (body : MapBody) → Kept [] (map_told d r job phase body)
          map_more (phases.Begin q) k (maps.SplitBegun w low high) =
              if_elim (Kept []) (may_checkpoint r && has_record_numbers r) _ _
              (λ t. begins_more k low high (and_parts (may_checkpoint r) (has_record_numbers r) t).0 (and_parts (may_checkpoint r) (has_record_numbers r) t).1) (λ f. waits_on)
          map_more (phases.Complete q) k (maps.SplitDone w) = goes_out
          map_more phase k body = waits_on

          told_more : (body : Body) → Kept [] (told d r job body)
          told_more (bodies.Append body) = append_more body
          told_more (bodies.Map body) = map_more job.phase held.splits.1 body
          told_more (bodies.Seal body) = seal_more job.phase held.splits.1 body
          told_more (bodies.Stream body) = stream_more job.phase held.splits.1 body
          told_more body = waits_on

          reply_in : (phase : SplitPhase) → PhaseKept held.split job phase → (body : Body) → Kept [] (split_reply_in d r job phase body)
          reply_in (phases.Keys side c) k body = keys_more k side (reply_rule (picking d c) (request d) body) (reply_rule (picking d c) (request d) body).news
          reply_in (phases.Begin q) k body = told_more body
          reply_in phases.Checkpoint k body = told_more body
          reply_in phases.Queue k body = told_more body
          reply_in phases.Record k body = told_more body
          reply_in (phases.Seal kind q) k body = told_more body
          reply_in (phases.Build q) k body = told_more body
          reply_in (phases.Complete q) k body = told_more body

          hears_kept : (body : Body) → Kept [] (split_reply d r job body)
          hears_kept body = reply_in job.phase held.splits.1 body

      -- ---- a step that its split follows

      dropped_turn : (actions : List StreamAction) (o : RangeOutcome) (rule : IsRule r actions o) → IsCalm rule → InOrder texts (view_after_all g v actions) → o.after ≡ None → TurnKept texts subject run v r actions o None
      dropped_turn actions o (Answers d w body) calm order gone =
          ⊎_elim {C = TurnKept texts subject run v r actions o None}
          (λ other. dropped_kept actions o (Answers d w body) calm other order gone)
          (λ stood. absurd (stays_there d w body stood gone))
          (is_stood held.split r d w body)
      dropped_turn actions o (Transacts d from q changes) calm order gone = dropped_kept actions o (Transacts d from q changes) calm tt order gone
      dropped_turn actions o (Gets d from q key) calm order gone = dropped_kept actions o (Gets d from q key) calm tt order gone
      dropped_turn actions o (Yields d) calm order gone = dropped_kept actions o (Yields d) calm tt order gone
      dropped_turn actions o (Checkpoints d combine may) calm order gone = absurd calm
      dropped_turn actions o (Renews until count) calm order gone = dropped_kept actions o (Renews until count) calm tt order gone

      followed_turn : (actions : List StreamAction) (o : RangeOutcome) (rule : IsRule r actions o) → IsCalm rule → HasRoom rule → (d : ServerContext) → d.count ≡ o.count → (next : RangeState) → o.after ≡ Some next →
          InOrder texts (view_after_all g v actions) → TurnKept texts subject run v r (follow_actions d next job ++ (stood_by job rule ++ actions)) (with_split o (follows d next job)) (follows d next job).job
      followed_turn actions o (Answers c w body) calm room d counts next left order =
          ⊎_elim {C = TurnKept texts subject run v r (follow_actions d next job ++ (split_stood c r (Some job) w body o ++ actions)) (with_split o (follows d next job)) (follows d next job).job}
          (λ other. followed_kept actions o (Answers c w body) calm other order next left d)
          (λ stood. stood_kept c w body stood room d counts next left)
          (is_stood held.split r c w body)
      followed_turn actions o (Transacts c from q changes) calm room d counts next left order = followed_kept actions o (Transacts c from q changes) calm tt order next left d
      followed_turn actions o (Gets c from q key) calm room d counts next left order = followed_kept actions o (Gets c from q key) calm tt order next left d
      followed_turn actions o (Yields c) calm room d counts next left order = followed_kept actions o (Yields c) calm tt order next left d
      followed_turn actions o (Checkpoints c combine may) calm room d counts next left order = absurd calm
      followed_turn actions o (Renews until count) calm room d counts next left order = followed_kept actions o (Renews until count) calm tt order next left d

      renewed_turn : (until count : ℕ) → InOrder texts v → TurnKept texts subject run v r [] (record { after = Some (record r { until = until }); count = count; packets = []; notes = [] }) (Some job)
      renewed_turn until count order =
          of_own texts subject run v held.split r [] (record { after = Some (record r { until = until }); count = count; packets = []; notes = [] }) (Some job)
          (own_kept held.split held.range loads [] (record { after = Some (record r { until = until }); count = count; packets = []; notes = [] }) (Renews until count) tt order) (serving, held.splits.1)

    -- ---- whatever it does

    order_before : (xs ys : List StreamAction) → InOrder texts (view_after_all g v (xs ++ ys)) → InOrder texts (view_after_all g v ys)
    order_before xs ys order = order_before_actions texts g (view_after_all g v ys) xs (subst (InOrder texts) (view_both texts subject g v xs ys) order)

    begins_split : (d : ServerContext) (key : List ℕ) → is_serving r.stage ≡ true → HeldKept texts subject run v r None → TurnKept texts subject run v r [] (of_split (split_rule d r key)) (Some (new_split d r key))
    begins_split d key serves held =
        only_more texts subject run v r [] (Some r) (Some (new_split d r key)) (split_rule d r key).count (split_rule d r key).packets serves
        (rests_more texts subject run v r streams held.split r (Some (new_split d r key)) held.range refl (serves, held.splits))

    -- where the streams of the range keep their order after it
    pub step_turn : (IsNumbered : (low high : ℕ) → Type 0) (job : Option SplitJob) (actions : List StreamAction) (o : RangeOutcome) (later : Option SplitJob) → IsStep IsNumbered r job actions o later → HeldKept texts subject run v r job →
        InOrder texts (view_after_all g v actions) → TurnKept texts subject run v r actions o later
    step_turn IsNumbered job actions o later (Alone own_actions own rule) held order = alone_kept held own_actions own rule order
    step_turn IsNumbered job actions o later (BeginsSplit d key may none splits) held order = begins_split d key may held
    step_turn IsNumbered job actions o later (Drops split own_actions own rule calm gone) held order = dropped_turn split held own_actions own rule calm order gone
    step_turn IsNumbered job actions o later (Follows split own_actions own rule calm room d counts next left) held order =
        followed_turn split held own_actions own rule calm room d counts next left
        (order_before (stood_by split rule) own_actions (order_before (follow_actions d next split) (stood_by split rule ++ own_actions) order))
    step_turn IsNumbered job actions o later (Leaves split c d next left) held order = given_up_kept split held [] (give_up_all c r) (Yields c) tt tt order next left d
    step_turn IsNumbered job actions o later (Holds split until count) held order = renewed_turn split held until count order
    step_turn IsNumbered job actions o later (Hears split d body numbered) held order = hears_kept split held d order body
