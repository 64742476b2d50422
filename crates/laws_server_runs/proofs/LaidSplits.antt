-- What is kept of any range stays so while its split goes on: what its layers are, and where their values stand.
use Rattle.std.proofs.Common.{◌≡◌, ℕ, Bool, true, false, not, ◌&&◌, List, [], ◌∷◌, ◌++◌, Option, Some, None, is_some, refl, sym, ap, ◌∙◌, subst, inr}
use Rattle.std.specs.List.{AllByRecursion}
use Rattle.std.specs.Prelude.{if◌then◌else◌}
use Rattle.std.proofs.lemmas.Bool.{and_parts}
use Rattle.wire.specs.declared.actor.ReqNo.{ReqNo}
use Rattle.wire.specs.declared.body.AppendBody.{AppendBody}
use Rattle.wire.specs.declared.body.AppendBody.TheVariants as appends
use Rattle.wire.specs.declared.body.Body.{Body}
use Rattle.wire.specs.declared.body.Body.TheVariants as bodies
use Rattle.wire.specs.declared.body.MapBody.{MapBody}
use Rattle.wire.specs.declared.body.MapBody.TheVariants as maps
use Rattle.wire.specs.declared.body.SealBody.{SealBody}
use Rattle.wire.specs.declared.body.SealBody.TheVariants as seals
use Rattle.wire.specs.declared.body.StreamBody.{StreamBody}
use Rattle.wire.specs.declared.body.StreamBody.TheVariants as streams
use Rattle.wire.specs.declared.refusal.Refusal.{Refusal}
use Rattle.wire.specs.declared.refusal.Refusal.TheVariants as refusals
use Rattle.wire.specs.declared.streams.StreamKind.{StreamKind}
use Rattle.wire.specs.declared.streams.StreamKind.TheVariants as kinds
use Rattle.client.specs.declared.job.News.{News}
use Rattle.client.specs.declared.job.News.TheVariants as news
use Rattle.client.specs.Client.{Outcome, awaits, reply_rule}
use Rattle.client.specs.Load.{load_awaits}
use Rattle.metadata.specs.Fold.{taken}
use Rattle.model_streams.proofs.Tests.{if_elim}
use Rattle.model_partition.specs.declared.server_context.ServerContext.{ServerContext}
use Rattle.model_partition.specs.declared.split_job.Side.{Side}
use Rattle.model_partition.specs.declared.split_job.Side.TheVariants.{Low, High}
use Rattle.model_partition.specs.declared.split_job.SplitJob.{SplitJob}
use Rattle.model_partition.specs.declared.split_job.SplitPhase.{SplitPhase}
use Rattle.model_partition.specs.declared.split_job.SplitPhase.TheVariants as phases
use Rattle.model_partition.specs.Checkpoints.{number_to_apply, have_bytes, begins, checkpoint_fault, checkpoint_rule}
use Rattle.model_partition.specs.Splits.{SplitStep, split_item, may_checkpoint, has_record_numbers, begun, is_drained, may_record, drains, all_kinds, kinds_after, extents_of, open_last, is_extent, first_open, seals_or_builds, record_stands, with_last_sealed, may_say_keys, says_keys, keys_stand, keys_told, refused, refused_by, map_told, seal_told, stream_told, told, split_reply_in, split_reply, has_number, has_stood, follows_in, follows, gives_up_in, gives_up}
use Rattle.model_partition.specs.Range.{RangeState, RangeOutcome, request, picking, is_serving}
use Rattle.model_partition.specs.Range.{goes as goes_on}
use Rattle.model_partition.specs.Answering.{answer_rule, give_up_all}
use Rattle.model_histories.specs.ServerRun.{bytes_read}
use Rattle.model_histories.specs.StreamActions.{StreamAction, Reads, Forms, Stands, Shows, Finds, Stores, split_stood_in, split_stood, drain_actions, follow_actions_in, follow_actions}
use Rattle.laws_loads.specs.RangeView.{RangeView, view_after, view_after_all}
use Rattle.laws_server_runs.specs.Places.{IsLaid, placed_of, RangeLaid, RangeLaidIf, NotesWithin, StepLaid}
use Rattle.laws_server_runs.specs.Turns.{IsRule, Transacts, Answers, Gets, Yields, Checkpoints, Renews, stood_by, with_split, IsStep, Alone, BeginsSplit, Drops, Follows, Leaves, Holds, Hears}
use Rattle.laws_server_runs.proofs.LaidBytes.{Covers, entries_on, checkpoint_on, view_both, later_cover}
use Rattle.laws_server_runs.proofs.LaidRules.{rule_laid}
use Rattle.laws_server_runs.proofs.RowAppends.{appends_left}

-- ---- more bytes

-- a range that did nothing is laid as it was, whatever else was shown and answered
pub laid_reads : (k : ℕ) (v w : RangeView) (r : RangeState) → w.history.reads kinds.Log ≡ v.history.reads kinds.Log → Covers (placed_of v) (placed_of w) → RangeLaid k v r → RangeLaid k w r
laid_reads k v w r same on l = record {
  range = l.range;
  confirmed = l.confirmed;
  layer = λ e. subst (λ reads. IsLaid (bytes_read reads) r.live) (sym same) (l.layer e);
  live = λ e. entries_on (placed_of v) (placed_of w) on r.live (l.live e);
  low = l.low;
  sound = l.sound;
  checkpoint = checkpoint_on (placed_of v) (placed_of w) on r.rows r.fixed r.control l.checkpoint;
}

-- ---- actions that append records

abbrev pub AppendsRecord : StreamAction → Type 0
AppendsRecord (Forms kinds.Metadata group) = Unit {0}
AppendsRecord (Stands kinds.Metadata extent at group) = Unit {0}
AppendsRecord action = ⊥

abbrev pub AppendRecords : List StreamAction → Type 0
AppendRecords actions = AllByRecursion AppendsRecord actions

action_read : (g : ℕ) (v : RangeView) (action : StreamAction) → AppendsRecord action → (view_after g v action).history.reads kinds.Log ≡ v.history.reads kinds.Log
action_read g v (Forms kinds.Metadata group) a = refl
action_read g v (Stands kinds.Metadata extent at group) a = refl
action_read g v (Forms kinds.Log group) a = absurd a
action_read g v (Forms kinds.RowData group) a = absurd a
action_read g v (Forms kinds.BlobData group) a = absurd a
action_read g v (Stands kinds.Log extent at group) a = absurd a
action_read g v (Stands kinds.RowData extent at group) a = absurd a
action_read g v (Stands kinds.BlobData extent at group) a = absurd a
action_read g v (Reads kind read) a = absurd a
action_read g v (Shows start log_end metadata_end) a = absurd a
action_read g v (Finds found) a = absurd a
action_read g v (Stores stored) a = absurd a

actions_read : (g : ℕ) (v : RangeView) (actions : List StreamAction) → AppendRecords actions → (view_after_all g v actions).history.reads kinds.Log ≡ v.history.reads kinds.Log
actions_read g v [] a = refl
actions_read g v (action ∷ earlier) a = action_read g (view_after_all g v earlier) action a.0 ∙ actions_read g v earlier a.1

shown_same : (g : ℕ) (v : RangeView) (actions : List StreamAction) → AppendRecords actions → (view_after_all g v actions).shown ≡ v.shown
shown_same g v [] a = refl
shown_same g v (action ∷ earlier) a = one (view_after_all g v earlier) action a.0 ∙ shown_same g v earlier a.1
  where
    one : (w : RangeView) (action : StreamAction) → AppendsRecord action → (view_after g w action).shown ≡ w.shown
    one w (Forms kind group) a = refl
    one w (Stands kind extent at group) a = refl
    one w (Reads kind read) a = absurd a
    one w (Shows start log_end metadata_end) a = absurd a
    one w (Finds found) a = absurd a
    one w (Stores stored) a = absurd a

-- those of splits are such
module _ (d : ServerContext) (r : RangeState) (job : SplitJob) where
  drain_appends : AppendRecords (drain_actions r job)
  drain_appends = if_elim AppendRecords (is_drained r && may_record r job) _ _ (λ t. (tt, tt)) (λ f. tt)

  follow_in_appends : (phase : SplitPhase) → AppendRecords (follow_actions_in r job phase)
  follow_in_appends phases.Checkpoint = if_elim AppendRecords (is_some r.control) _ _ (λ t. tt) (λ f. drain_appends)
  follow_in_appends phases.Queue = drain_appends
  follow_in_appends phases.Record = tt
  follow_in_appends (phases.Begin q) = tt
  follow_in_appends (phases.Seal kind q) = tt
  follow_in_appends (phases.Build q) = tt
  follow_in_appends (phases.Keys side c) = tt
  follow_in_appends (phases.Complete q) = tt

  pub follow_appends : AppendRecords (follow_actions d r job)
  follow_appends = if_elim AppendRecords (has_number d) _ _ (λ t. follow_in_appends job.phase) (λ f. tt)

  stood_in_appends : (phase : SplitPhase) (said : Option News) → AppendRecords (split_stood_in r job phase said)
  stood_in_appends phases.Record (Some (news.Appended e offset)) = (tt, tt)
  stood_in_appends phases.Record None = tt
  stood_in_appends phases.Record (Some news.Fenced) = tt
  stood_in_appends phases.Record (Some (news.Checked e l)) = tt
  stood_in_appends phases.Record (Some (news.Sealed e l)) = tt
  stood_in_appends phases.Record (Some (news.Content e upto)) = tt
  stood_in_appends phases.Checkpoint said = tt
  stood_in_appends phases.Queue said = tt
  stood_in_appends (phases.Begin q) said = tt
  stood_in_appends (phases.Seal kind q) said = tt
  stood_in_appends (phases.Build q) said = tt
  stood_in_appends (phases.Keys side c) said = tt
  stood_in_appends (phases.Complete q) said = tt

  stood_appends : (w : ReqNo) (body : Body) (o : RangeOutcome) → AppendRecords (split_stood d r (Some job) w body o)
  stood_appends w body o =
      if_elim AppendRecords (is_some o.after) _ _
      (λ there. if_elim AppendRecords (load_awaits r.load.phase w) _ _ (λ t. tt)
      (λ f. if_elim AppendRecords (awaits r.metadata.job w) _ _
      (λ t. if_elim AppendRecords (is_serving r.stage) _ _ (λ serving. stood_in_appends job.phase (reply_rule (picking d r.metadata) (request d) body).news) (λ f. tt)) (λ f. tt))) (λ f. tt)

pub stood_by_appends : (r : RangeState) (job : SplitJob) {actions : List StreamAction} {o : RangeOutcome} (rule : IsRule r actions o) → AppendRecords (stood_by job rule)
stood_by_appends r job (Answers d w body) = stood_appends d r job w body (answer_rule d r w body)
stood_by_appends r job (Transacts d from q changes) = tt
stood_by_appends r job (Gets d from q key) = tt
stood_by_appends r job (Yields d) = tt
stood_by_appends r job (Checkpoints d combine may) = tt
stood_by_appends r job (Renews until count) = tt

-- ---- a range whose split goes on

module _ (k : ℕ) (v : RangeView) where
  abbrev Laid : SplitStep → Type 0
  Laid t = RangeLaidIf k v t.range

  module _ (d : ServerContext) (r : RangeState) (l : RangeLaid k v r) (job : SplitJob) where
    seals_laid : (y : RangeState) → RangeLaid k v y → (j : SplitJob) (x : Option (StreamKind × ℕ)) → Laid (seals_or_builds d y j x)
    seals_laid y laid j None = laid
    seals_laid y laid j (Some x) = laid

    drains_laid : Laid (drains d r job)
    drains_laid =
        if_elim Laid (is_drained r && may_record r job) _ _
        (λ t. record { range = l.range; confirmed = l.confirmed; layer = l.layer; live = l.live; low = l.low; sound = l.sound; checkpoint = l.checkpoint })
        (λ f. record { range = l.range; confirmed = l.confirmed; layer = l.layer; live = l.live; low = l.low; sound = l.sound; checkpoint = l.checkpoint })

    stands_laid : Laid (record_stands d r job)
    stands_laid = seals_laid said_so (record { range = l.range; confirmed = l.confirmed; layer = l.layer; live = l.live; low = l.low; sound = l.sound; checkpoint = l.checkpoint }) job (first_open said_so all_kinds)
      where
        said_so : RangeState
        said_so = record r { said = taken r.said (split_item job) }

    follows_in_laid : (phase : SplitPhase) → Laid (follows_in d r job phase)
    follows_in_laid phases.Checkpoint = if_elim Laid (is_some r.control) _ _ (λ t. l) (λ f. drains_laid)
    follows_in_laid phases.Queue = drains_laid
    follows_in_laid phases.Record = if_elim Laid (has_stood r) _ _ (λ t. stands_laid) (λ f. l)
    follows_in_laid (phases.Begin q) = l
    follows_in_laid (phases.Seal kind q) = l
    follows_in_laid (phases.Build q) = l
    follows_in_laid (phases.Keys side c) = l
    follows_in_laid (phases.Complete q) = l

    pub follows_laid : Laid (follows d r job)
    follows_laid = if_elim Laid (has_number d) _ _ (λ t. follows_in_laid job.phase) (λ f. l)

    again_laid : (phase : SplitPhase) → Laid (gives_up_in d r job phase)
    again_laid phases.Checkpoint = l
    again_laid phases.Queue = l
    again_laid phases.Record = l
    again_laid (phases.Begin q) = l
    again_laid (phases.Seal kind q) = l
    again_laid (phases.Build q) = l
    again_laid (phases.Keys side c) = l
    again_laid (phases.Complete q) = l

    pub gives_up_laid : Laid (gives_up d r job)
    gives_up_laid = if_elim Laid (has_number d) _ _ (λ t. again_laid job.phase) (λ f. l)

    -- ---- answers to its split

    says_laid : (side : Side) → Laid (says_keys d r job side)
    says_laid side = if_elim Laid (may_say_keys r job) _ _ (λ t. l) (λ f. l)

    stand_laid : (side : Side) → Laid (keys_stand d r job side)
    stand_laid Low = says_laid High
    stand_laid High = l

    keys_laid : (side : Side) (o : Outcome) (said : Option News) → Laid (keys_told d r job side o said)
    keys_laid side o (Some news.Fenced) = tt
    keys_laid side o (Some (news.Appended e offset)) = stand_laid side
    keys_laid side o None = l
    keys_laid side o (Some (news.Checked e n)) = l
    keys_laid side o (Some (news.Sealed e n)) = l
    keys_laid side o (Some (news.Content e upto)) = l

    refused_laid : (phase : SplitPhase) (why : Refusal) → Laid (refused d r job phase why)
    refused_laid phase refusals.Stale = tt
    refused_laid (phases.Build q) refusals.NameTaken = says_laid Low
    refused_laid (phases.Complete q) refusals.GenerationChanged = tt
    refused_laid phase why = l

    append_laid : (body : AppendBody) → Laid (refused_by d r job body)
    append_laid (appends.Refused w why) = refused_laid job.phase why
    append_laid body = l

    -- a checkpoint begins where it may
    begun_laid : ((may : checkpoint_fault r ≡ None) → RangeLaidIf k v (checkpoint_rule d r false).after) → (low high : ℕ) → Laid (begun d r job low high)
    begun_laid rule low high = if_elim Laid (may_checkpoint r && has_record_numbers r) _ _ (λ t. begins_laid (and_parts (may_checkpoint r) (has_record_numbers r) t).0) (λ f. l)
      where
        is_none : (x : Option Refusal) → not (is_some x) ≡ true → x ≡ None
        is_none None e = refl
        is_none (Some x) e = absurd cc

        begins_laid : may_checkpoint r ≡ true → RangeLaidIf k v (begins d r false).after
        begins_laid may =
            let parts = and_parts (not (is_some (checkpoint_fault r))) (have_bytes r.live r.position (number_to_apply r.out r.next)) may in
            subst (λ (b : Bool). RangeLaidIf k v (if b then begins d r false else goes_on d r [] []).after) parts.1 (rule (is_none (checkpoint_fault r) parts.0))

    map_laid : ((may : checkpoint_fault r ≡ None) → RangeLaidIf k v (checkpoint_rule d r false).after) → (phase : SplitPhase) (body : MapBody) → Laid (map_told d r job phase body)
    map_laid rule (phases.Begin q) (maps.SplitBegun w low high) = begun_laid rule low high
    map_laid rule (phases.Complete q) (maps.SplitDone w) = tt
    map_laid rule phase body = l

    -- an extent is sealed
    sealed_laid : (kind : StreamKind) (n : ℕ) → RangeLaid k v (with_last_sealed r kind n)
    sealed_laid kinds.Metadata n = record { range = l.range; confirmed = l.confirmed; layer = l.layer; live = l.live; low = l.low; sound = l.sound; checkpoint = l.checkpoint }
    sealed_laid kinds.Log n = record { range = l.range; confirmed = l.confirmed; layer = l.layer; live = l.live; low = l.low; sound = l.sound; checkpoint = l.checkpoint }
    sealed_laid kinds.RowData n = record {
      range = l.range;
      confirmed = l.confirmed;
      layer = l.layer;
      live = l.live;
      low = l.low;
      sound = l.sound;
      checkpoint = record {
        appends = appends_left r.rows (with_last_sealed r kinds.RowData n).rows (inr refl) (λ is. is) r.control l.checkpoint.appends;
        merges = l.checkpoint.merges;
        pages = l.checkpoint.pages;
        layer = l.checkpoint.layer;
      };
    }
    sealed_laid kinds.BlobData n = record { range = l.range; confirmed = l.confirmed; layer = l.layer; live = l.live; low = l.low; sound = l.sound; checkpoint = l.checkpoint }

    seal_laid : (phase : SplitPhase) (body : SealBody) → Laid (seal_told d r job phase body)
    seal_laid (phases.Seal kind q) (seals.SealedIs w e n) =
        if_elim Laid (is_extent e (open_last (extents_of r kind))) _ _ (λ t. seals_laid (with_last_sealed r kind n) (sealed_laid kind n) job (first_open (with_last_sealed r kind n) (kinds_after kind))) (λ f. l)
    seal_laid phase body = l

    stream_laid : (phase : SplitPhase) (body : StreamBody) → Laid (stream_told d r job phase body)
    stream_laid (phases.Build q) (streams.Modified w) = says_laid Low
    stream_laid phase body = l

    module _ (rule : (may : checkpoint_fault r ≡ None) → RangeLaidIf k v (checkpoint_rule d r false).after) where
      told_laid : (body : Body) → Laid (told d r job body)
      told_laid (bodies.Append body) = append_laid body
      told_laid (bodies.Map body) = map_laid rule job.phase body
      told_laid (bodies.Seal body) = seal_laid job.phase body
      told_laid (bodies.Stream body) = stream_laid job.phase body
      told_laid body = l

      reply_laid : (phase : SplitPhase) (body : Body) → Laid (split_reply_in d r job phase body)
      reply_laid (phases.Keys side c) body = keys_laid side (reply_rule (picking d c) (request d) body) (reply_rule (picking d c) (request d) body).news
      reply_laid (phases.Begin q) body = told_laid body
      reply_laid phases.Checkpoint body = told_laid body
      reply_laid phases.Queue body = told_laid body
      reply_laid phases.Record body = told_laid body
      reply_laid (phases.Seal kind q) body = told_laid body
      reply_laid (phases.Build q) body = told_laid body
      reply_laid (phases.Complete q) body = told_laid body

      pub hears_laid : (body : Body) → Laid (split_reply d r job body)
      hears_laid body = reply_laid job.phase body

-- ---- a step of a range that may be split

module _ (k : ℕ) (v : RangeView) (r : RangeState) (before : RangeLaid k v r) where
  abbrev g : ℕ
  g = r.load.generation

  -- what was laid behind some actions is laid behind records as well
  records_on : (xs ys : List StreamAction) → AppendRecords xs → (z : RangeState) → RangeLaid k (view_after_all g v ys) z → RangeLaid k (view_after_all g v (xs ++ ys)) z
  records_on xs ys records z l =
      laid_reads k (view_after_all g v ys) (view_after_all g v (xs ++ ys)) z
      (ap (λ (w : RangeView). w.history.reads kinds.Log) (view_both g v xs ys) ∙ actions_read g (view_after_all g v ys) xs records) (later_cover g v xs ys) l

  notes_on : (xs ys : List StreamAction) → AppendRecords xs → (view_after_all g v (xs ++ ys)).shown ≡ (view_after_all g v ys).shown
  notes_on xs ys records = ap (λ (w : RangeView). w.shown) (view_both g v xs ys) ∙ shown_same g (view_after_all g v ys) xs records

  both_append : (xs ys : List StreamAction) → AppendRecords xs → AppendRecords ys → AppendRecords (xs ++ ys)
  both_append [] ys a b = b
  both_append (x ∷ xs) ys a b = (a.0, both_append xs ys a.1 b)

  assoc : (xs ys zs : List StreamAction) → (xs ++ ys) ++ zs ≡ xs ++ (ys ++ zs)
  assoc [] ys zs = refl
  assoc (x ∷ xs) ys zs = ap (λ l. x ∷ l) (assoc xs ys zs)

  followed_laid : (job : SplitJob) (actions : List StreamAction) (o : RangeOutcome) (rule : IsRule r actions o) (d : ServerContext) (next : RangeState) → o.after ≡ Some next →
      StepLaid k v g (follow_actions d next job ++ (stood_by job rule ++ actions)) (with_split o (follows d next job))
  followed_laid job actions o rule d next left =
      subst (λ (l : List StreamAction). StepLaid k v g l (with_split o (follows d next job))) (assoc (follow_actions d next job) (stood_by job rule) actions)
      (record {
        after = follows_laid k (view_after_all g v (more ++ actions)) d next (records_on more actions appends next own) job;
        notes = subst (λ shown. NotesWithin k g shown o.notes) (sym (notes_on more actions appends)) step.notes;
      })
    where
      step : StepLaid k v g actions o
      step = rule_laid k v r before actions o rule

      own : RangeLaid k (view_after_all g v actions) next
      own = subst (RangeLaidIf k (view_after_all g v actions)) left step.after

      more : List StreamAction
      more = follow_actions d next job ++ stood_by job rule

      appends : AppendRecords more
      appends = both_append (follow_actions d next job) (stood_by job rule) (follow_appends d next job) (stood_by_appends r job rule)

  given_up_laid : (job : SplitJob) (c d : ServerContext) (next : RangeState) → (give_up_all c r).after ≡ Some next → StepLaid k v g [] (with_split (give_up_all c r) (gives_up d next job))
  given_up_laid job c d next left =
      let step : StepLaid k v g [] (give_up_all c r) = rule_laid k v r before [] (give_up_all c r) (Yields c) in
      record { after = gives_up_laid k v d next (subst (RangeLaidIf k v) left step.after) job; notes = step.notes }

  -- whatever it does
  pub laid_step : (IsNumbered : (low high : ℕ) → Type 0) (job : Option SplitJob) (actions : List StreamAction) (o : RangeOutcome) (later : Option SplitJob) → IsStep IsNumbered r job actions o later → StepLaid k v g actions o
  laid_step IsNumbered job actions o later (Alone own_actions own rule) = rule_laid k v r before own_actions own rule
  laid_step IsNumbered job actions o later (BeginsSplit d key may none splits) = record { after = before; notes = tt }
  laid_step IsNumbered job actions o later (Drops split own_actions own rule calm gone) = rule_laid k v r before own_actions own rule
  laid_step IsNumbered job actions o later (Follows split own_actions own rule calm room d counts next left) = followed_laid split own_actions own rule d next left
  laid_step IsNumbered job actions o later (Leaves split c d next left) = given_up_laid split c d next left
  laid_step IsNumbered job actions o later (Holds split until count) =
      rule_laid k v r before [] (record { after = Some (record r { until = until }); count = count; packets = []; notes = [] }) (Renews until count)
  laid_step IsNumbered job actions o later (Hears split d body numbered) =
      record { after = hears_laid k v d r before split (λ may. (rule_laid k v r before [] (checkpoint_rule d r false) (Checkpoints d false may)).after) body; notes = tt }
