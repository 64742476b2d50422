-- A split is lost only with its range: where a step leaves the range of a split it leaves the split.
use Rattle.std.proofs.Common.{◌≡◌, ℕ, ◌&&◌, List, Option, Some, None, is_some}
use Rattle.wire.specs.declared.body.AppendBody.{AppendBody}
use Rattle.wire.specs.declared.body.AppendBody.TheVariants as appends
use Rattle.wire.specs.declared.body.Body.{Body}
use Rattle.wire.specs.declared.body.Body.TheVariants as bodies
use Rattle.wire.specs.declared.body.MapBody.{MapBody}
use Rattle.wire.specs.declared.body.MapBody.TheVariants as maps
use Rattle.wire.specs.declared.body.SealBody.{SealBody}
use Rattle.wire.specs.declared.body.SealBody.TheVariants as seals
use Rattle.wire.specs.declared.body.StreamBody.{StreamBody}
use Rattle.wire.specs.declared.body.StreamBody.TheVariants as streams
use Rattle.wire.specs.declared.refusal.Refusal.{Refusal}
use Rattle.wire.specs.declared.refusal.Refusal.TheVariants as refusals
use Rattle.wire.specs.declared.streams.StreamKind.{StreamKind}
use Rattle.client.specs.declared.job.News.{News}
use Rattle.client.specs.declared.job.News.TheVariants as news
use Rattle.client.specs.Client.{Outcome, reply_rule}
use Rattle.metadata.specs.Fold.{taken}
use Rattle.model_streams.proofs.Tests.{if_elim}
use Rattle.model_partition.specs.declared.server_context.ServerContext.{ServerContext}
use Rattle.model_partition.specs.declared.split_job.Side.{Side}
use Rattle.model_partition.specs.declared.split_job.Side.TheVariants.{Low, High}
use Rattle.model_partition.specs.declared.split_job.SplitJob.{SplitJob}
use Rattle.model_partition.specs.declared.split_job.SplitPhase.{SplitPhase}
use Rattle.model_partition.specs.declared.split_job.SplitPhase.TheVariants as phases
use Rattle.model_partition.specs.Range.{RangeState, RangeOutcome, request, picking}
use Rattle.model_partition.specs.Splits.{SplitStep, split_item, may_checkpoint, has_record_numbers, is_drained, may_record, drains, all_kinds, kinds_after, extents_of, open_last, is_extent, first_open, seals_or_builds, with_last_sealed, may_say_keys, says_keys, keys_stand, keys_told, refused, refused_by, map_told, seal_told, stream_told, told, split_reply_in, split_reply, has_number, has_stood, follows_in, follows, gives_up_in, gives_up}
use Rattle.model_histories.specs.StreamActions.{StreamAction}
use Rattle.laws_server_runs.specs.Turns.{IsStep, Alone, BeginsSplit, Drops, Follows, Leaves, Holds, Hears}

-- it is there, or its range is not
abbrev pub StaysIf : Option RangeState → Option SplitJob → Type 0
StaysIf after (Some job) = Unit {0}
StaysIf None None = Unit {0}
StaysIf (Some r) None = ⊥

-- one that was there
abbrev pub RemainsIf : Option SplitJob → Option RangeState → Option SplitJob → Type 0
RemainsIf None after later = Unit {0}
RemainsIf (Some job) after later = StaysIf after later

-- where the range is left it is there
pub still_split : (after : Option RangeState) (later : Option SplitJob) (z : RangeState) → StaysIf after later → after ≡ Some z → (job : SplitJob) × (later ≡ Some job)
still_split after (Some job) z stays is = (job, λ i. Some job)
still_split None None z stays is = absurd cc
still_split (Some r) None z stays is = absurd stays

module _ (d : ServerContext) (r : RangeState) (job : SplitJob) where
  abbrev Left : SplitStep → Type 0
  Left t = StaysIf t.range t.job

  drains_left : Left (drains d r job)
  drains_left = if_elim Left (is_drained r && may_record r job) _ _ (λ t. tt) (λ f. tt)

  seals_left : (y : RangeState) (x : Option (StreamKind × ℕ)) → Left (seals_or_builds d y job x)
  seals_left y None = tt
  seals_left y (Some x) = tt

  follows_left_in : (phase : SplitPhase) → Left (follows_in d r job phase)
  follows_left_in phases.Checkpoint = if_elim Left (is_some r.control) _ _ (λ t. tt) (λ f. drains_left)
  follows_left_in phases.Queue = drains_left
  follows_left_in phases.Record =
      if_elim Left (has_stood r) _ _ (λ t. seals_left (record r { said = taken r.said (split_item job) }) (first_open (record r { said = taken r.said (split_item job) }) all_kinds)) (λ f. tt)
  follows_left_in (phases.Begin q) = tt
  follows_left_in (phases.Seal kind q) = tt
  follows_left_in (phases.Build q) = tt
  follows_left_in (phases.Keys out c) = tt
  follows_left_in (phases.Complete q) = tt

  pub follows_left : Left (follows d r job)
  follows_left = if_elim Left (has_number d) _ _ (λ t. follows_left_in job.phase) (λ f. tt)

  again_left : (phase : SplitPhase) → Left (gives_up_in d r job phase)
  again_left (phases.Keys out c) = tt
  again_left phases.Checkpoint = tt
  again_left phases.Queue = tt
  again_left phases.Record = tt
  again_left (phases.Begin q) = tt
  again_left (phases.Seal kind q) = tt
  again_left (phases.Build q) = tt
  again_left (phases.Complete q) = tt

  pub gives_up_left : Left (gives_up d r job)
  gives_up_left = if_elim Left (has_number d) _ _ (λ t. again_left job.phase) (λ f. tt)

  -- ---- answers

  says_left : (side : Side) → Left (says_keys d r job side)
  says_left side = if_elim Left (may_say_keys r job) _ _ (λ t. tt) (λ f. tt)

  stand_left : (side : Side) → Left (keys_stand d r job side)
  stand_left Low = says_left High
  stand_left High = tt

  keys_left : (side : Side) (o : Outcome) (said : Option News) → Left (keys_told d r job side o said)
  keys_left side o (Some news.Fenced) = tt
  keys_left side o (Some (news.Appended e offset)) = stand_left side
  keys_left side o None = tt
  keys_left side o (Some (news.Checked e l)) = tt
  keys_left side o (Some (news.Sealed e l)) = tt
  keys_left side o (Some (news.Content e upto)) = tt

  refused_left : (phase : SplitPhase) (why : Refusal) → Left (refused d r job phase why)
  refused_left phase refusals.Stale = tt
  refused_left (phases.Build q) refusals.NameTaken = says_left Low
  refused_left (phases.Complete q) refusals.GenerationChanged = tt
  refused_left phase why = tt

  append_left : (body : AppendBody) → Left (refused_by d r job body)
  append_left (appends.Refused w why) = refused_left job.phase why
  append_left body = tt

  stream_left : (phase : SplitPhase) (body : StreamBody) → Left (stream_told d r job phase body)
  stream_left (phases.Build q) (streams.Modified w) = says_left Low
  stream_left phase body = tt

  seal_left : (phase : SplitPhase) (body : SealBody) → Left (seal_told d r job phase body)
  seal_left (phases.Seal kind q) (seals.SealedIs w e l) =
      if_elim Left (is_extent e (open_last (extents_of r kind))) _ _ (λ t. seals_left (with_last_sealed r kind l) (first_open (with_last_sealed r kind l) (kinds_after kind))) (λ f. tt)
  seal_left phase body = tt

  map_left : (phase : SplitPhase) (body : MapBody) → Left (map_told d r job phase body)
  map_left (phases.Begin q) (maps.SplitBegun w low high) = if_elim Left (may_checkpoint r && has_record_numbers r) _ _ (λ t. tt) (λ f. tt)
  map_left (phases.Complete q) (maps.SplitDone w) = tt
  map_left phase body = tt

  told_left : (body : Body) → Left (told d r job body)
  told_left (bodies.Append body) = append_left body
  told_left (bodies.Map body) = map_left job.phase body
  told_left (bodies.Seal body) = seal_left job.phase body
  told_left (bodies.Stream body) = stream_left job.phase body
  told_left body = tt

  reply_left : (phase : SplitPhase) (body : Body) → Left (split_reply_in d r job phase body)
  reply_left (phases.Keys side c) body = keys_left side (reply_rule (picking d c) (request d) body) (reply_rule (picking d c) (request d) body).news
  reply_left (phases.Begin q) body = told_left body
  reply_left phases.Checkpoint body = told_left body
  reply_left phases.Queue body = told_left body
  reply_left phases.Record body = told_left body
  reply_left (phases.Seal kind q) body = told_left body
  reply_left (phases.Build q) body = told_left body
  reply_left (phases.Complete q) body = told_left body

  pub hears_left : (body : Body) → Left (split_reply d r job body)
  hears_left body = reply_left job.phase body

-- ---- a step of a range that may be split

none_left : (after : Option RangeState) → after ≡ None → StaysIf after None
none_left None gone = tt
none_left (Some r) gone = absurd cc

pub step_stays : (IsNumbered : (low high : ℕ) → Type 0) (r : RangeState) (job : Option SplitJob) (actions : List StreamAction) (o : RangeOutcome) (later : Option SplitJob) → IsStep IsNumbered r job actions o later → RemainsIf job o.after later
step_stays IsNumbered r job actions o later (Alone own_actions own rule) = tt
step_stays IsNumbered r job actions o later (BeginsSplit d key may none splits) = tt
step_stays IsNumbered r job actions o later (Drops split own_actions own rule calm gone) = none_left own.after gone
step_stays IsNumbered r job actions o later (Follows split own_actions own rule calm room d counts next left) = follows_left d next split
step_stays IsNumbered r job actions o later (Leaves split c d next left) = gives_up_left d next split
step_stays IsNumbered r job actions o later (Holds split until count) = tt
step_stays IsNumbered r job actions o later (Hears split d body numbered) = hears_left d r split body
