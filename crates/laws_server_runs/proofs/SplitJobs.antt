-- What a split waits for, whatever its streams are: once its range is paused none of its transactions waits, and its metadata says what it
-- said, while its streams are sealed, those of the two are built, and the keys of the two are appended.
use Rattle.std.proofs.Common.{◌≡◌, ℕ, suc, true, false, not, ◌&&◌, ◌==◌, List, [], ◌∷◌, length, Option, Some, None, is_some, refl, sym, ap, ◌∙◌, subst, inr}
use Rattle.std.proofs.lemmas.Bool.{and_parts, eqb-true}
use Rattle.wire.specs.declared.body.AppendBody.{AppendBody}
use Rattle.wire.specs.declared.body.AppendBody.TheVariants as appends
use Rattle.wire.specs.declared.body.Body.{Body}
use Rattle.wire.specs.declared.body.Body.TheVariants as bodies
use Rattle.wire.specs.declared.body.MapBody.{MapBody}
use Rattle.wire.specs.declared.body.MapBody.TheVariants as maps
use Rattle.wire.specs.declared.body.SealBody.{SealBody}
use Rattle.wire.specs.declared.body.SealBody.TheVariants as seals
use Rattle.wire.specs.declared.body.StreamBody.{StreamBody}
use Rattle.wire.specs.declared.body.StreamBody.TheVariants as streams
use Rattle.wire.specs.declared.refusal.Refusal.{Refusal}
use Rattle.wire.specs.declared.refusal.Refusal.TheVariants as refusals
use Rattle.wire.specs.declared.streams.StreamKind.{StreamKind}
use Rattle.wire.specs.declared.streams.StreamKind.TheVariants as kinds
use Rattle.client.specs.declared.job.News.{News}
use Rattle.client.specs.declared.job.News.TheVariants as news
use Rattle.client.specs.declared.load.LoadPhase.TheVariants as load_phases
use Rattle.client.specs.Client.{ClientState, Outcome, give_up_rule, reply_rule}
use Rattle.metadata.specs.declared.record.KeyRange.{KeyRange}
use Rattle.metadata.specs.Fold.{taken}
use Rattle.model_streams.proofs.Tests.{if_elim}
use Rattle.model_partition.specs.declared.server_context.ServerContext.{ServerContext}
use Rattle.model_partition.specs.declared.split_job.Side.{Side}
use Rattle.model_partition.specs.declared.split_job.Side.TheVariants.{Low, High}
use Rattle.model_partition.specs.declared.split_job.SplitJob.{SplitJob}
use Rattle.model_partition.specs.declared.split_job.SplitPhase.{SplitPhase}
use Rattle.model_partition.specs.declared.split_job.SplitPhase.TheVariants as phases
use Rattle.model_partition.specs.Map.{is_split_key}
use Rattle.model_partition.specs.Range.{RangeState, RangeOutcome, request, picking, is_serving, takes_no_transaction}
use Rattle.model_partition.specs.Splits.{SplitStep, split_item, with_phase, may_checkpoint, has_record_numbers, is_drained, may_record, drains, all_kinds, kinds_after, extents_of, open_last, is_extent, first_open, seals_or_builds, with_last_sealed, side_metadata, may_say_keys, says_keys, keys_stand, keys_told, refused, refused_by, map_told, seal_told, stream_told, told, split_reply_in, split_reply, has_number, has_stood, follows_in, follows, gives_up_in, gives_up}
use Rattle.model_partition.specs.Checkpoints.{begins}
use Rattle.model_histories.specs.StreamActions.{StreamAction}
use Rattle.laws_server_runs.specs.CheckpointInvariant.{Appends}
use Rattle.laws_server_runs.specs.ChildInvariant.{IsDrained, keys_group, SplitPhaseHolds, SplitHolds, SplitHoldsIf}
use Rattle.laws_server_runs.specs.Turns.{IsRule, IsCalm, IsStep, Alone, BeginsSplit, Drops, Follows, Leaves, Holds, Hears}
use Rattle.laws_server_runs.proofs.RowAppends.{appended_group, appends_given_up, appends_replied}
use Rattle.laws_server_runs.proofs.StaysServed.{IsServedOnIf, StaysServed, StaysServedIf, begins_serves, given_up_stays, renewed_stays, rule_stays, same_served}

-- ---- the range goes on

is_no : {A : Type 0} (x : Option A) → not (is_some x) ≡ true → x ≡ None
is_no None e = refl
is_no (Some x) e = absurd cc

is_empty : {A : Type 0} (xs : List A) → (length xs == 0) ≡ true → xs ≡ []
is_empty [] e = refl
is_empty (x ∷ xs) e = absurd (let z : suc (length xs) ≡ 0 = eqb-true (suc (length xs)) 0 e in cc)

module _ (r z : RangeState) (stays : StaysServed r z) where
  -- it stays drained
  pub drained_on : IsDrained r → IsDrained z
  drained_on h =
      let takes : takes_no_transaction r.pause ≡ true = ap takes_no_transaction h.paused in
      record { out = (stays.waits h.out h.queue takes).0; queue = (stays.waits h.out h.queue takes).1; control = (stays.rests h.control).0; paused = stays.pause ∙ h.paused }

  phase_on : (job : SplitJob) (phase : SplitPhase) → SplitPhaseHolds r job phase → SplitPhaseHolds z job phase
  phase_on job (phases.Begin q) h = tt
  phase_on job phases.Checkpoint h = tt
  phase_on job phases.Queue h = (stays.rests h).0
  phase_on job phases.Record h = drained_on h
  phase_on job (phases.Seal kind q) h = drained_on h
  phase_on job (phases.Build q) h = drained_on h
  phase_on job (phases.Keys side c) h = (
    drained_on h.0,
    subst (λ m. may_say_keys (record r { said = m }) job ≡ true) (sym (stays.rests h.0.control).1) h.1,
    subst (λ m. Appends c (keys_group (record r { said = m }) job side)) (sym (stays.rests h.0.control).1) h.2,
  )
  phase_on job (phases.Complete q) h = (drained_on h.0, subst (λ m. may_say_keys (record r { said = m }) job ≡ true) (sym (stays.rests h.0.control).1) h.1)

  pub holds_on : (job : SplitJob) → SplitHolds r job → SplitHolds z job
  holds_on job h = record {
    serving = ap is_serving stays.on.stage ∙ h.serving;
    range = h.range ∙ ap (λ l. l.range) (sym stays.on.load);
    generation = h.generation ∙ ap (λ l. l.generation) (sym stays.on.load);
    key = ap (λ (keys : KeyRange). is_split_key keys job.key) stays.on.keys ∙ h.key;
    phase = phase_on job job.phase h.phase;
  }

-- its load, what waits at it, and what its metadata says are as they were
record IsAsBefore (r z : RangeState) : Type 0 where
  load : z.load ≡ r.load
  stage : z.stage ≡ r.stage
  said : z.said ≡ r.said
  pause : z.pause ≡ r.pause
  control : z.control ≡ r.control
  out : z.out ≡ r.out
  queue : z.queue ≡ r.queue

-- ---- one split

abbrev Left : SplitStep → Type 0
Left t = SplitHoldsIf t.range t.job

-- another phase of it, at a range that is as it was but for what does not matter
module _ (d : ServerContext) (r : RangeState) (job : SplitJob) (h : SplitHolds r job) where
  in_phase : (phase : SplitPhase) → SplitPhaseHolds r job phase → SplitHolds r (with_phase job phase)
  in_phase phase p = record { serving = h.serving; range = h.range; generation = h.generation; key = h.key; phase = again phase p }
    where
      again : (phase : SplitPhase) → SplitPhaseHolds r job phase → SplitPhaseHolds r (with_phase job phase) phase
      again (phases.Begin q) p = tt
      again phases.Checkpoint p = tt
      again phases.Queue p = p
      again phases.Record p = p
      again (phases.Seal kind q) p = p
      again (phases.Build q) p = p
      again (phases.Keys side c) p = p
      again (phases.Complete q) p = p

  drains_holds : r.control ≡ None → Left (drains d r job)
  drains_holds none =
      if_elim Left (is_drained r && may_record r job) _ _
      (λ t.
      let parts = and_parts (not (is_some r.out)) (length r.queue == 0) (and_parts (is_drained r) (may_record r job) t).0 in
      record { serving = h.serving; range = h.range; generation = h.generation; key = h.key; phase = record { out = is_no r.out parts.0; queue = is_empty r.queue parts.1; control = none; paused = refl } })
      (λ f. record { serving = h.serving; range = h.range; generation = h.generation; key = h.key; phase = none })

  -- ---- it follows a step of the range

  follows_holds_in : (phase : SplitPhase) → SplitPhaseHolds r job phase → Left (follows_in d r job phase)
  follows_holds_in phases.Checkpoint p = if_elim Left (is_some r.control) _ _ (λ t. h) (λ f. drains_holds (is_no r.control (ap not f)))
  follows_holds_in phases.Queue p = drains_holds p
  follows_holds_in phases.Record p = if_elim Left (has_stood r) _ _ (λ t. by (first_open said_so all_kinds)) (λ f. h)
    where
      said_so : RangeState
      said_so = record r { said = taken r.said (split_item job) }

      by : (x : Option (StreamKind × ℕ)) → Left (seals_or_builds d said_so job x)
      by None = record { serving = h.serving; range = h.range; generation = h.generation; key = h.key; phase = record { out = p.out; queue = p.queue; control = p.control; paused = p.paused } }
      by (Some x) = record { serving = h.serving; range = h.range; generation = h.generation; key = h.key; phase = record { out = p.out; queue = p.queue; control = p.control; paused = p.paused } }
  follows_holds_in (phases.Begin q) p = h
  follows_holds_in (phases.Seal kind q) p = h
  follows_holds_in (phases.Build q) p = h
  follows_holds_in (phases.Keys side c) p = h
  follows_holds_in (phases.Complete q) p = h

  pub follows_holds : Left (follows d r job)
  follows_holds = if_elim Left (has_number d) _ _ (λ t. follows_holds_in job.phase h.phase) (λ f. h)

  -- ---- it gives up

  again_holds : (phase : SplitPhase) → SplitPhaseHolds r job phase → Left (gives_up_in d r job phase)
  again_holds (phases.Keys side c) p = in_phase (phases.Keys side (give_up_rule (picking d c) (request d) d.pick).after) (p.0, p.1, appends_given_up (picking d c) (request d) d.pick (keys_group r job side) p.2)
  again_holds phases.Checkpoint p = h
  again_holds phases.Queue p = h
  again_holds phases.Record p = h
  again_holds (phases.Begin q) p = h
  again_holds (phases.Seal kind q) p = h
  again_holds (phases.Build q) p = h
  again_holds (phases.Complete q) p = h

  pub gives_up_holds : Left (gives_up d r job)
  gives_up_holds = if_elim Left (has_number d) _ _ (λ t. again_holds job.phase h.phase) (λ f. h)

  -- ---- answers to it

  says_holds : IsDrained r → (side : Side) → Left (says_keys d r job side)
  says_holds drained side =
      if_elim Left (may_say_keys r job) _ _
      (λ t. in_phase (phases.Keys side _) (drained, t, inr (appended_group (side_metadata d r job side) (request d) (keys_group r job side) refl))) (λ f. h)

  stand_holds : IsDrained r → may_say_keys r job ≡ true → (side : Side) → Left (keys_stand d r job side)
  stand_holds drained may Low = says_holds drained High
  stand_holds drained may High = in_phase (phases.Complete (request d)) (drained, may)

  module _ (side : Side) (c : ClientState) (p : SplitPhaseHolds r job (phases.Keys side c)) (body : Body) where
    abbrev o : Outcome
    o = reply_rule (picking d c) (request d) body

    waits_on : SplitHolds r (with_phase job (phases.Keys side o.after))
    waits_on = in_phase (phases.Keys side o.after) (p.0, p.1, appends_replied (picking d c) (request d) body (keys_group r job side) p.2)

    keys_holds : (said : Option News) → Left (keys_told d r job side o said)
    keys_holds (Some news.Fenced) = tt
    keys_holds (Some (news.Appended e offset)) = stand_holds p.0 p.1 side
    keys_holds None = waits_on
    keys_holds (Some (news.Checked e l)) = waits_on
    keys_holds (Some (news.Sealed e l)) = waits_on
    keys_holds (Some (news.Content e upto)) = waits_on

  refused_holds : (phase : SplitPhase) → SplitPhaseHolds r job phase → (why : Refusal) → Left (refused d r job phase why)
  refused_holds phase p refusals.Stale = tt
  refused_holds (phases.Build q) p refusals.NameTaken = says_holds p Low
  refused_holds (phases.Complete q) p refusals.GenerationChanged = tt
  refused_holds phase p why = h

  append_holds : (body : AppendBody) → Left (refused_by d r job body)
  append_holds (appends.Refused w why) = refused_holds job.phase h.phase why
  append_holds body = h

  stream_holds : (phase : SplitPhase) → SplitPhaseHolds r job phase → (body : StreamBody) → Left (stream_told d r job phase body)
  stream_holds (phases.Build q) p (streams.Modified w) = says_holds p Low
  stream_holds phase p body = h

  -- an extent is sealed
  sealed_holds : IsDrained r → (kind : StreamKind) (n : ℕ) (x : Option (StreamKind × ℕ)) → Left (seals_or_builds d (with_last_sealed r kind n) job x)
  sealed_holds drained kind n x = by kind x
    where
      goes_on : (z : RangeState) → IsAsBefore r z → (x : Option (StreamKind × ℕ)) → Left (seals_or_builds d z job x)
      goes_on z b x = go x
        where
          on : StaysServed r z
          on = same_served r h.serving z b.load b.stage b.said b.pause b.control b.out b.queue

          now : SplitHolds z job
          now = holds_on r z on job h

          go : (x : Option (StreamKind × ℕ)) → Left (seals_or_builds d z job x)
          go None = record { serving = now.serving; range = now.range; generation = now.generation; key = now.key; phase = drained_on r z on drained }
          go (Some y) = record { serving = now.serving; range = now.range; generation = now.generation; key = now.key; phase = drained_on r z on drained }

      by : (kind : StreamKind) (x : Option (StreamKind × ℕ)) → Left (seals_or_builds d (with_last_sealed r kind n) job x)
      by kinds.Metadata x = goes_on (with_last_sealed r kinds.Metadata n) (record { load = refl; stage = refl; said = refl; pause = refl; control = refl; out = refl; queue = refl }) x
      by kinds.Log x = goes_on (with_last_sealed r kinds.Log n) (record { load = refl; stage = refl; said = refl; pause = refl; control = refl; out = refl; queue = refl }) x
      by kinds.RowData x = goes_on (with_last_sealed r kinds.RowData n) (record { load = refl; stage = refl; said = refl; pause = refl; control = refl; out = refl; queue = refl }) x
      by kinds.BlobData x = goes_on (with_last_sealed r kinds.BlobData n) (record { load = refl; stage = refl; said = refl; pause = refl; control = refl; out = refl; queue = refl }) x

  seal_holds : (phase : SplitPhase) → SplitPhaseHolds r job phase → (body : SealBody) → Left (seal_told d r job phase body)
  seal_holds (phases.Seal kind q) p (seals.SealedIs w e n) =
      if_elim Left (is_extent e (open_last (extents_of r kind))) _ _ (λ t. sealed_holds p kind n (first_open (with_last_sealed r kind n) (kinds_after kind))) (λ f. h)
  seal_holds phase p body = h

  -- the map has numbered the two ranges
  abbrev numbered_job : ℕ → ℕ → SplitJob
  numbered_job low high = record job { low = low; high = high; number = suc r.said.next; phase = phases.Checkpoint }

  begun_holds : (low high : ℕ) → SplitHoldsIf (begins d r false).after (Some (numbered_job low high))
  begun_holds low high = by (begins d r false).after (begins_serves r h.serving d false)
    where
      by : (x : Option RangeState) → IsServedOnIf r x → SplitHoldsIf x (Some (numbered_job low high))
      by None on = tt
      by (Some z) on = record {
        serving = ap is_serving on.stage ∙ h.serving;
        range = h.range ∙ ap (λ l. l.range) (sym on.load);
        generation = h.generation ∙ ap (λ l. l.generation) (sym on.load);
        key = ap (λ (keys : KeyRange). is_split_key keys job.key) on.keys ∙ h.key;
        phase = tt;
      }

  map_holds : (phase : SplitPhase) (body : MapBody) → Left (map_told d r job phase body)
  map_holds (phases.Begin q) (maps.SplitBegun w low high) = if_elim Left (may_checkpoint r && has_record_numbers r) _ _ (λ t. begun_holds low high) (λ f. h)
  map_holds (phases.Complete q) (maps.SplitDone w) = tt
  map_holds phase body = h

  told_holds : (body : Body) → Left (told d r job body)
  told_holds (bodies.Append body) = append_holds body
  told_holds (bodies.Map body) = map_holds job.phase body
  told_holds (bodies.Seal body) = seal_holds job.phase h.phase body
  told_holds (bodies.Stream body) = stream_holds job.phase h.phase body
  told_holds body = h

  reply_holds : (phase : SplitPhase) → SplitPhaseHolds r job phase → (body : Body) → Left (split_reply_in d r job phase body)
  reply_holds (phases.Keys side c) p body = keys_holds side c p body (reply_rule (picking d c) (request d) body).news
  reply_holds (phases.Begin q) p body = told_holds body
  reply_holds phases.Checkpoint p body = told_holds body
  reply_holds phases.Queue p body = told_holds body
  reply_holds phases.Record p body = told_holds body
  reply_holds (phases.Seal kind q) p body = told_holds body
  reply_holds (phases.Build q) p body = told_holds body
  reply_holds (phases.Complete q) p body = told_holds body

  pub hears_holds : (body : Body) → Left (split_reply d r job body)
  hears_holds body = reply_holds job.phase h.phase body

-- ---- a step of a range that may be split

module _ (r : RangeState) (confirmed : is_serving r.stage ≡ true → r.load.phase ≡ load_phases.Confirmed) where
  abbrev HoldsNow : Option SplitJob → Type 0
  HoldsNow job = SplitHoldsIf (Some r) job

  -- where a rule leaves the range
  pub ruled : (job : SplitJob) → SplitHolds r job → (actions : List StreamAction) (o : RangeOutcome) (rule : IsRule r actions o) → IsCalm rule → (next : RangeState) → o.after ≡ Some next → StaysServed r next
  ruled job h actions o rule calm next left = subst (StaysServedIf r) left (rule_stays r h.serving (confirmed h.serving) actions o rule calm)

  pub step_holds : (IsNumbered : (low high : ℕ) → Type 0) (job : Option SplitJob) (actions : List StreamAction) (o : RangeOutcome) (later : Option SplitJob) → IsStep IsNumbered r job actions o later → HoldsNow job → SplitHoldsIf o.after later
  step_holds IsNumbered job actions o later (Alone own_actions own rule) h = none_holds own.after
    where
      none_holds : (x : Option RangeState) → SplitHoldsIf x None
      none_holds None = tt
      none_holds (Some z) = tt
  step_holds IsNumbered job actions o later (BeginsSplit d key may none splits) h = record { serving = may; range = refl; generation = refl; key = splits; phase = tt }
  step_holds IsNumbered job actions o later (Drops split own_actions own rule calm gone) h = subst (λ x. SplitHoldsIf x None) (sym gone) tt
  step_holds IsNumbered job actions o later (Follows split own_actions own rule calm room d counts next left) h =
      follows_holds d next split (holds_on r next (ruled split h own_actions own rule calm next left) split h)
  step_holds IsNumbered job actions o later (Leaves split c d next left) h =
      gives_up_holds d next split (holds_on r next (subst (StaysServedIf r) left (given_up_stays r h.serving c)) split h)
  step_holds IsNumbered job actions o later (Holds split until count) h = holds_on r (record r { until = until }) (renewed_stays r h.serving until) split h
  step_holds IsNumbered job actions o later (Hears split d body numbered) h = hears_holds d r split h body
