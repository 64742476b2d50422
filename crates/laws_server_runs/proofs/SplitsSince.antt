-- A split that has numbers of its two ranges is the split that had them: its range is there, and its generation, its key and the numbers stay,
-- so that it goes back to the moment when the streams of the two were built.
use Rattle.std.proofs.Common.{◌≡◌, ◌⊎◌, ℕ, Bool, false, ◌&&◌, List, Option, Some, None, is_some, refl, sym, ◌∙◌, subst, inl, inr}
use Rattle.wire.specs.declared.body.AppendBody.{AppendBody}
use Rattle.wire.specs.declared.body.AppendBody.TheVariants as appends
use Rattle.wire.specs.declared.body.Body.{Body}
use Rattle.wire.specs.declared.body.Body.TheVariants as bodies
use Rattle.wire.specs.declared.body.MapBody.{MapBody}
use Rattle.wire.specs.declared.body.MapBody.TheVariants as maps
use Rattle.wire.specs.declared.body.SealBody.{SealBody}
use Rattle.wire.specs.declared.body.SealBody.TheVariants as seals
use Rattle.wire.specs.declared.body.StreamBody.{StreamBody}
use Rattle.wire.specs.declared.body.StreamBody.TheVariants as streams
use Rattle.wire.specs.declared.refusal.Refusal.{Refusal}
use Rattle.wire.specs.declared.refusal.Refusal.TheVariants as refusals
use Rattle.wire.specs.declared.streams.StreamKind.{StreamKind}
use Rattle.client.specs.declared.job.News.{News}
use Rattle.client.specs.declared.job.News.TheVariants as news
use Rattle.client.specs.Client.{Outcome, reply_rule}
use Rattle.metadata.specs.Fold.{taken}
use Rattle.checkpoint.specs.PageGroups.{next_group}
use Rattle.model_streams.proofs.Tests.{if_elim}
use Rattle.model_partition.specs.CheckpointStates.{CheckpointState}
use Rattle.model_partition.specs.declared.server_context.ServerContext.{ServerContext}
use Rattle.model_partition.specs.declared.split_job.Side.{Side}
use Rattle.model_partition.specs.declared.split_job.Side.TheVariants.{Low, High}
use Rattle.model_partition.specs.declared.split_job.SplitJob.{SplitJob}
use Rattle.model_partition.specs.declared.split_job.SplitPhase.{SplitPhase}
use Rattle.model_partition.specs.declared.split_job.SplitPhase.TheVariants as phases
use Rattle.model_partition.specs.Checkpoints.{combines, new_job, new_combining_job, with_fixed, begins, combined_job, next_append, rows_go}
use Rattle.model_partition.specs.Loading.{Group}
use Rattle.model_partition.specs.Range.{RangeState, RangeOutcome, request, picking}
use Rattle.model_partition.specs.Splits.{SplitStep, split_item, with_phase, may_checkpoint, has_record_numbers, is_drained, may_record, drains, all_kinds, kinds_after, extents_of, open_last, is_extent, first_open, seals_or_builds, with_last_sealed, side_range, may_say_keys, says_keys, keys_stand, keys_told, refused, refused_by, map_told, seal_told, stream_told, told, split_reply_in, split_reply, has_number, has_stood, follows_in, follows, gives_up_in, gives_up}
use Rattle.model_histories.specs.StreamActions.{StreamAction}
use Rattle.laws_loads.proofs.PageAnswers.{unread, merged, merges_elim}
use Rattle.laws_server_runs.specs.ChildInvariant.{HasPair, IsBeforeBuild}
use Rattle.laws_server_runs.specs.Turns.{IsStep, Alone, BeginsSplit, Drops, Follows, Leaves, Holds, Hears}

-- ---- one split

-- the same split, later
pub record SameSplit (old new : SplitJob) : Type 0 where
  pub range : new.range ≡ old.range
  pub generation : new.generation ≡ old.generation
  pub key : new.key ≡ old.key
  pub low : new.low ≡ old.low
  pub high : new.high ≡ old.high
  -- with numbers, where it has them now
  pub pair : HasPair new.phase → HasPair old.phase

-- a range is left
abbrev pub IsLeft : Option RangeState → Type 0
IsLeft None = ⊥
IsLeft (Some r) = Unit {0}

-- what is left of it: it is the same, or the map has just numbered the two
abbrev pub KinIf : Option SplitJob → Option RangeState → Option SplitJob → Type 0
KinIf old after None = Unit {0}
KinIf None after (Some new) = (HasPair new.phase → ⊥) × IsLeft after
KinIf (Some old) after (Some new) = (SameSplit old new ⊎ IsBeforeBuild new.phase) × IsLeft after

pub still : (job : SplitJob) → SameSplit job job
still job = record { range = refl; generation = refl; key = refl; low = refl; high = refl; pair = λ p. p }

pub same_twice : (a b c : SplitJob) → SameSplit a b → SameSplit b c → SameSplit a c
same_twice a b c one two = record {
  range = two.range ∙ one.range;
  generation = two.generation ∙ one.generation;
  key = two.key ∙ one.key;
  low = two.low ∙ one.low;
  high = two.high ∙ one.high;
  pair = λ p. one.pair (two.pair p);
}

pub same_side : (old new : SplitJob) → SameSplit old new → (side : Side) → side_range new side ≡ side_range old side
same_side old new same Low = same.low
same_side old new same High = same.high

-- a checkpoint that begins leaves the range
module _ (d : ServerContext) where
  goes_left : (s : RangeState) (x : CheckpointState × Option Group) → IsLeft (rows_go d s x).after
  goes_left s (job, None) = tt
  goes_left s (job, Some group) = tt

  begins_left : (r : RangeState) (combine : Bool) → IsLeft (begins d r combine).after
  begins_left r combine =
      if_elim (λ (o : RangeOutcome). IsLeft o.after) (combines combine r.indexes) _ _
      (λ t. merges_elim (λ (o : RangeOutcome). IsLeft o.after) d (with_fixed r) (new_combining_job r) tt (λ merge. tt) (λ merge place places asked told. tt)
      (λ merge newer all fixed. goes_left (unread (with_fixed r)) (next_append (combined_job (merged (new_combining_job r) merge) newer) (next_group (combined_job (merged (new_combining_job r) merge) newer).pages))))
      (λ f. goes_left (with_fixed r) (next_append (new_job r) (next_group (new_job r).pages)))

module _ (d : ServerContext) (r : RangeState) (job : SplitJob) where
  abbrev Left : SplitStep → Type 0
  Left t = KinIf (Some job) t.range t.job

  abbrev Rests : Type 0
  Rests = (SameSplit job job ⊎ IsBeforeBuild job.phase) × Unit {0}

  rests : Rests
  rests = (inl (still job), tt)

  -- another phase of it, where it had numbers
  in_phase : (phase : SplitPhase) → HasPair job.phase → SameSplit job (with_phase job phase)
  in_phase phase pair = record { range = refl; generation = refl; key = refl; low = refl; high = refl; pair = λ p. pair }

  paired_in : (phase : SplitPhase) → job.phase ≡ phase → HasPair phase → HasPair job.phase
  paired_in phase is pair = subst HasPair (sym is) pair

  drains_kin : HasPair job.phase → Left (drains d r job)
  drains_kin pair = if_elim Left (is_drained r && may_record r job) _ _ (λ t. (inl (in_phase phases.Record pair), tt)) (λ f. (inl (in_phase phases.Queue pair), tt))

  seals_kin : HasPair job.phase → (y : RangeState) (x : Option (StreamKind × ℕ)) → Left (seals_or_builds d y job x)
  seals_kin pair y None = (inl (in_phase (phases.Build (request d)) pair), tt)
  seals_kin pair y (Some x) = (inl (in_phase (phases.Seal x.0 (request d)) pair), tt)

  follows_kin_in : (phase : SplitPhase) → job.phase ≡ phase → Left (follows_in d r job phase)
  follows_kin_in phases.Checkpoint is = if_elim Left (is_some r.control) _ _ (λ t. rests) (λ f. drains_kin (paired_in phases.Checkpoint is tt))
  follows_kin_in phases.Queue is = drains_kin (paired_in phases.Queue is tt)
  follows_kin_in phases.Record is =
      if_elim Left (has_stood r) _ _ (λ t. seals_kin (paired_in phases.Record is tt) (record r { said = taken r.said (split_item job) }) (first_open (record r { said = taken r.said (split_item job) }) all_kinds)) (λ f. rests)
  follows_kin_in (phases.Begin q) is = rests
  follows_kin_in (phases.Seal kind q) is = rests
  follows_kin_in (phases.Build q) is = rests
  follows_kin_in (phases.Keys out c) is = rests
  follows_kin_in (phases.Complete q) is = rests

  pub follows_kin : Left (follows d r job)
  follows_kin = if_elim Left (has_number d) _ _ (λ t. follows_kin_in job.phase refl) (λ f. rests)

  again_kin : (phase : SplitPhase) → job.phase ≡ phase → Left (gives_up_in d r job phase)
  again_kin (phases.Keys out c) is = (inl (in_phase _ (paired_in (phases.Keys out c) is tt)), tt)
  again_kin phases.Checkpoint is = rests
  again_kin phases.Queue is = rests
  again_kin phases.Record is = rests
  again_kin (phases.Begin q) is = rests
  again_kin (phases.Seal kind q) is = rests
  again_kin (phases.Build q) is = rests
  again_kin (phases.Complete q) is = rests

  pub gives_up_kin : Left (gives_up d r job)
  gives_up_kin = if_elim Left (has_number d) _ _ (λ t. again_kin job.phase refl) (λ f. rests)

  -- ---- answers

  says_kin : HasPair job.phase → (side : Side) → Left (says_keys d r job side)
  says_kin pair side = if_elim Left (may_say_keys r job) _ _ (λ t. (inl (in_phase _ pair), tt)) (λ f. rests)

  stand_kin : HasPair job.phase → (side : Side) → Left (keys_stand d r job side)
  stand_kin pair Low = says_kin pair High
  stand_kin pair High = (inl (in_phase (phases.Complete (request d)) pair), tt)

  keys_kin : HasPair job.phase → (side : Side) (o : Outcome) (said : Option News) → Left (keys_told d r job side o said)
  keys_kin pair side o (Some news.Fenced) = tt
  keys_kin pair side o (Some (news.Appended e offset)) = stand_kin pair side
  keys_kin pair side o None = (inl (in_phase (phases.Keys side o.after) pair), tt)
  keys_kin pair side o (Some (news.Checked e l)) = (inl (in_phase (phases.Keys side o.after) pair), tt)
  keys_kin pair side o (Some (news.Sealed e l)) = (inl (in_phase (phases.Keys side o.after) pair), tt)
  keys_kin pair side o (Some (news.Content e upto)) = (inl (in_phase (phases.Keys side o.after) pair), tt)

  refused_kin : (phase : SplitPhase) → job.phase ≡ phase → (why : Refusal) → Left (refused d r job phase why)
  refused_kin phase is refusals.Stale = tt
  refused_kin (phases.Build q) is refusals.NameTaken = says_kin (paired_in (phases.Build q) is tt) Low
  refused_kin (phases.Complete q) is refusals.GenerationChanged = tt
  refused_kin phase is why = rests

  append_kin : (body : AppendBody) → Left (refused_by d r job body)
  append_kin (appends.Refused w why) = refused_kin job.phase refl why
  append_kin body = rests

  stream_kin : (phase : SplitPhase) → job.phase ≡ phase → (body : StreamBody) → Left (stream_told d r job phase body)
  stream_kin (phases.Build q) is (streams.Modified w) = says_kin (paired_in (phases.Build q) is tt) Low
  stream_kin phase is body = rests

  seal_kin : (phase : SplitPhase) → job.phase ≡ phase → (body : SealBody) → Left (seal_told d r job phase body)
  seal_kin (phases.Seal kind q) is (seals.SealedIs w e l) =
      if_elim Left (is_extent e (open_last (extents_of r kind))) _ _
      (λ t. seals_kin (paired_in (phases.Seal kind q) is tt) (with_last_sealed r kind l) (first_open (with_last_sealed r kind l) (kinds_after kind))) (λ f. rests)
  seal_kin phase is body = rests

  map_kin : (phase : SplitPhase) (body : MapBody) → Left (map_told d r job phase body)
  map_kin (phases.Begin q) (maps.SplitBegun w low high) = if_elim Left (may_checkpoint r && has_record_numbers r) _ _ (λ t. (inr tt, begins_left d r false)) (λ f. rests)
  map_kin (phases.Complete q) (maps.SplitDone w) = tt
  map_kin phase body = rests

  told_kin : (body : Body) → Left (told d r job body)
  told_kin (bodies.Append body) = append_kin body
  told_kin (bodies.Map body) = map_kin job.phase body
  told_kin (bodies.Seal body) = seal_kin job.phase refl body
  told_kin (bodies.Stream body) = stream_kin job.phase refl body
  told_kin body = rests

  reply_kin : (phase : SplitPhase) → job.phase ≡ phase → (body : Body) → Left (split_reply_in d r job phase body)
  reply_kin (phases.Keys side c) is body = keys_kin (paired_in (phases.Keys side c) is tt) side (reply_rule (picking d c) (request d) body) (reply_rule (picking d c) (request d) body).news
  reply_kin (phases.Begin q) is body = told_kin body
  reply_kin phases.Checkpoint is body = told_kin body
  reply_kin phases.Queue is body = told_kin body
  reply_kin phases.Record is body = told_kin body
  reply_kin (phases.Seal kind q) is body = told_kin body
  reply_kin (phases.Build q) is body = told_kin body
  reply_kin (phases.Complete q) is body = told_kin body

  pub hears_kin : (body : Body) → Left (split_reply d r job body)
  hears_kin body = reply_kin job.phase refl body

-- ---- a step of a range that may be split

pub step_kin : (IsNumbered : (low high : ℕ) → Type 0) (r : RangeState) (job : Option SplitJob) (actions : List StreamAction) (o : RangeOutcome) (later : Option SplitJob) → IsStep IsNumbered r job actions o later → KinIf job o.after later
step_kin IsNumbered r job actions o later (Alone own_actions own rule) = tt
step_kin IsNumbered r job actions o later (BeginsSplit d key may none splits) = ((λ pair. pair), tt)
step_kin IsNumbered r job actions o later (Drops split own_actions own rule calm gone) = tt
step_kin IsNumbered r job actions o later (Follows split own_actions own rule calm room d counts next left) = follows_kin d next split
step_kin IsNumbered r job actions o later (Leaves split c d next left) = gives_up_kin d next split
step_kin IsNumbered r job actions o later (Holds split until count) = (inl (still split), tt)
step_kin IsNumbered r job actions o later (Hears split d body numbered) = hears_kin d r split body
