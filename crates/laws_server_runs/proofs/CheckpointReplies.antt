-- Answers to the client of row data, while a range is served: the steps that they are for a checkpoint. What stands is what was told, by the
-- bytes that are answered then.
use Rattle.std.proofs.Common.{◌≡◌, ℕ, ◌^◌, nat_lt, List, [], ◌∷◌, Bool, true, false, Option, Some, None, option_to_list, refl, sym, ap, ◌∙◌, subst, inl, inr}
use Rattle.std.specs.Prelude.{if◌then◌else◌}
use Rattle.block_types.specs.declared.record.Nodes.{Nodes}
use Rattle.wire.specs.declared.actor.ReqNo.{ReqNo}
use Rattle.wire.specs.declared.body.AppendBody.{AppendBody}
use Rattle.wire.specs.declared.body.AppendBody.TheVariants as appends
use Rattle.wire.specs.declared.body.Body.{Body}
use Rattle.wire.specs.declared.body.Body.TheVariants as bodies
use Rattle.wire.specs.declared.body.CheckBody.{CheckBody}
use Rattle.wire.specs.declared.body.CheckBody.TheVariants as checks
use Rattle.wire.specs.declared.body.ReadBody.{ReadBody}
use Rattle.wire.specs.declared.body.ReadBody.TheVariants as reads
use Rattle.wire.specs.declared.body.SealBody.{SealBody}
use Rattle.wire.specs.declared.body.SealBody.TheVariants as seals
use Rattle.wire.specs.declared.body.StreamBody.{StreamBody}
use Rattle.wire.specs.declared.body.StreamBody.TheVariants as streams
use Rattle.wire.specs.declared.refusal.Refusal.{Refusal}
use Rattle.wire.specs.declared.refusal.Refusal.TheVariants as refusals
use Rattle.client.specs.declared.job.Job.{Job}
use Rattle.client.specs.declared.job.Job.TheVariants as jobs
use Rattle.client.specs.declared.job.News.{News}
use Rattle.client.specs.declared.job.News.TheVariants as news
use Rattle.client.specs.Client.{ClientState, Outcome, waits, awaits, if_awaited, fenced_if, append_refused, refused_job, appended_job, checked_job, sealed_job, groups_job, extended_job, append_reply, check_reply, seal_reply, read_reply, stream_reply, reply_rule}
use Rattle.model_streams.proofs.Tests.{if_elim}
use Rattle.model_partition.specs.declared.server_context.ServerContext.{ServerContext}
use Rattle.model_partition.specs.CheckpointStates.{CheckpointState}
use Rattle.model_partition.specs.Checkpoints.{job_may_stand, rows_may_stand, rows_reply, rows_told}
use Rattle.model_partition.specs.Past.{Bytes}
use Rattle.model_partition.specs.Range.{RangeState, RangeOutcome, request, answers, picking}
use Rattle.model_histories.specs.StreamActions.{PlacedBytes, StreamAction, Stores, index_stood, rows_actions, rows_told_actions}
use Rattle.laws_loads.specs.RangeView.{RangeView, view_after, view_after_all}
use Rattle.laws_tables.specs.Runs.{Run, first_beginning, held, IsServing}
use Rattle.replica.specs.Groups.{joined}
use Rattle.model_partition.specs.declared.checkpoint_job.CheckpointPhase.{CheckpointPhase}
use Rattle.model_partition.specs.declared.checkpoint_job.CheckpointPhase.TheVariants as checkpoints
use Rattle.model_histories.specs.TableContents.{StandsAt}
use Rattle.laws_server_runs.specs.CheckpointInvariant.{AppendsPhase, AppendsRows}
use Rattle.laws_server_runs.specs.RangeInvariant.{Matches, StreamsKept, InOrder, Rests}
use Rattle.laws_server_runs.proofs.ClientAnswers.{IsIdleIf, reply_takes}
use Rattle.laws_server_runs.proofs.Fronts.{order_before_actions}
use Rattle.laws_server_runs.proofs.RowAppends.{idle_waits, reply_appends}
use Rattle.laws_server_runs.proofs.ServedNotes.{view_both}
use Rattle.laws_server_runs.proofs.CheckpointRows.{GroupStands, StandsRightlyIf}
use Rattle.laws_server_runs.proofs.CheckpointSteps.{CheckpointStep, told_actions, IsStored, rows_step}

-- ---- where a group stands

-- The offset that is told is the one of the answer, so that it was asked whether the group may stand there.
abbrev NewsPlace : Option CheckpointState → Body → Option News → Type 0
NewsPlace control body (Some (news.Appended e offset)) = rows_may_stand control body ≡ job_may_stand control offset
NewsPlace control body told = Unit {0}

module _ (control : Option CheckpointState) (q : ReqNo) (c : ClientState) (body : Body) where
  abbrev Tells : Outcome → Type 0
  Tells o = NewsPlace control body o.news

  awaited_place : (w : ReqNo) (o : Outcome) → Tells o → Tells (if_awaited c w o)
  awaited_place w o e = if_elim Tells (awaits c.job w) o (waits c) (λ t. e) (λ f. tt)

  fenced_place : (why : Refusal) → Tells (fenced_if c why)
  fenced_place refusals.Stale = tt
  fenced_place why = tt

  refused_place : (e : ℕ) (why : Refusal) → Tells (append_refused c q e why)
  refused_place e refusals.NotOpen = tt
  refused_place e refusals.ExtentFull = tt
  refused_place e why = fenced_place why

  refused_job_place : (why : Refusal) (j : Job) → Tells (refused_job c q why j)
  refused_job_place why (jobs.Sent e w) = refused_place e why
  refused_job_place why j = fenced_place why

  appended_place : (offset : ℕ) → rows_may_stand control body ≡ job_may_stand control offset → (j : Job) → Tells (appended_job c offset j)
  appended_place offset same (jobs.Sent e w) = same
  appended_place offset same j = tt

  checked_place : (found : Option ℕ) (j : Job) → Tells (checked_job c q found j)
  checked_place (Some found) (jobs.Checking e w) = tt
  checked_place None (jobs.Checking e w) = tt
  checked_place found j = tt

  sealed_place : (sealed : ℕ) (j : Job) → Tells (sealed_job c q sealed j)
  sealed_place sealed (jobs.Closing e w) = tt
  sealed_place sealed (jobs.Shutting e w) = tt
  sealed_place sealed j = tt

  groups_place : (j : Job) → Tells (groups_job c j)
  groups_place (jobs.Reading e places upto sealed place w) = tt
  groups_place j = tt

  extended_place : (e : ℕ) (places : Nodes) (j : Job) → Tells (extended_job c q e places j)
  extended_place e places (jobs.Growing last w) = tt
  extended_place e places j = tt

  check_place : (b : CheckBody) → Tells (check_reply c q b)
  check_place (checks.Checked w found) = awaited_place w (checked_job c q found c.job) (checked_place found c.job)
  check_place b = tt

  seal_place : (b : SealBody) → Tells (seal_reply c q b)
  seal_place (seals.SealedIs w e sealed) = awaited_place w (sealed_job c q sealed c.job) (sealed_place sealed c.job)
  seal_place b = tt

  read_place : (b : ReadBody) → Tells (read_reply c b)
  read_place (reads.Groups w e groups) = awaited_place w (groups_job c c.job) (groups_place c.job)
  read_place b = tt

  stream_place : (b : StreamBody) → Tells (stream_reply c q b)
  stream_place (streams.Extended w e places) = awaited_place w (extended_job c q e places c.job) (extended_place e places c.job)
  stream_place b = tt

module _ (control : Option CheckpointState) (q : ReqNo) (c : ClientState) where
  append_place : (b : AppendBody) → Tells control q c (bodies.Append b) (append_reply c q b)
  append_place (appends.Appended w e offset) =
      awaited_place control q c (bodies.Append (appends.Appended w e offset)) w (appended_job c offset c.job) (appended_place control q c (bodies.Append (appends.Appended w e offset)) offset refl c.job)
  append_place (appends.Refused w refusal) =
      awaited_place control q c (bodies.Append (appends.Refused w refusal)) w (refused_job c q refusal c.job) (refused_job_place control q c (bodies.Append (appends.Refused w refusal)) refusal c.job)
  append_place b = tt

  reply_place : (body : Body) → Tells control q c body (reply_rule c q body)
  reply_place (bodies.Append b) = append_place b
  reply_place (bodies.Check b) = check_place control q c (bodies.Check b) b
  reply_place (bodies.Seal b) = seal_place control q c (bodies.Seal b) b
  reply_place (bodies.Read b) = read_place control q c (bodies.Read b) b
  reply_place (bodies.Stream b) = stream_place control q c (bodies.Stream b) b
  reply_place b = tt

module _ (texts : ℕ → Bytes) (subject : ℕ) (run : Run) (v : RangeView) (r : RangeState) (m : Matches texts v (held first_beginning run r.load.generation) r) (serving : IsServing run r.load.generation)
    (kept : StreamsKept texts run v) (d : ServerContext) (body : Body) where
  -- ---- row data

  module _ (c : ClientState) where
    matches_with : AppendsRows c r.control → Matches texts v (held first_beginning run r.load.generation) (record r { rows = c })
    matches_with appends = record { position = m.position; next = m.next; out = m.out; live = m.live; checkpoint = m.checkpoint; said = m.said; installed = m.installed; ordered = m.ordered; named = m.named; rows = appends; reads = m.reads; beside = m.beside; metadata = m.metadata }

    of_range : (actions : List StreamAction) (o : RangeOutcome) → CheckpointStep texts subject run v (record r { rows = c }) actions o → CheckpointStep texts subject run v r actions o
    of_range actions o s = record { next = s.next; goes = s.goes; shown = s.shown; matches = s.matches; streams = s.streams; longer = s.longer; seen = s.seen }

  abbrev rows_answer : Outcome
  rows_answer = reply_rule (picking d r.rows) (request d) body

  abbrev rows_after : RangeState
  rows_after = record r { rows = rows_answer.after }

  rows_matches : Matches texts v (held first_beginning run r.load.generation) rows_after
  rows_matches = matches_with rows_answer.after (reply_appends (picking d r.rows) (request d) body r.control m.rows)

  -- what was told brings these actions
  same_told : (told : Option News) → told_actions texts subject rows_after r.rows.group told ≡ rows_told_actions r told
  same_told None = refl
  same_told (Some (news.Appended e offset)) = refl
  same_told (Some (news.Checked e l)) = refl
  same_told (Some (news.Sealed e l)) = refl
  same_told (Some (news.Content e upto)) = refl
  same_told (Some news.Fenced) = refl

  -- a client that waits for nothing is told nothing
  awake : (told : News) → rows_answer.news ≡ Some told → r.rows.job ≡ jobs.Idle → ⊥
  awake told is idle = let none : None ≡ Some told = sym (ap (λ (o : Outcome). o.news) (idle_waits (picking d r.rows) (request d) idle body)) ∙ is in cc

  told_idle : (told : News) → rows_answer.news ≡ Some told → rows_answer.after.job ≡ jobs.Idle
  told_idle told is = subst (λ n. IsIdleIf n rows_answer.after.job) is (reply_takes (picking d r.rows) (request d) body).idle

  -- the group that was appended is the one that the checkpoint waits for
  group_stands : (job : CheckpointState) (phase : CheckpointPhase) → AppendsPhase r.rows job phase → (r.rows.job ≡ jobs.Idle → ⊥) → (e offset : ℕ) → StandsAt (texts e) offset (joined r.rows.group) →
      GroupStands texts job phase e offset
  group_stands job checkpoints.Combining appends never e offset stood = tt
  group_stands job checkpoints.Pages (inl idle) never e offset stood = absurd (never idle)
  group_stands job checkpoints.Pages (inr same) never e offset stood = subst (λ group. StandsAt (texts e) offset (joined group)) same stood
  group_stands job checkpoints.Index (inl idle) never e offset stood = absurd (never idle)
  group_stands job checkpoints.Index (inr same) never e offset stood = subst (λ group. StandsAt (texts e) offset (joined group)) same stood
  group_stands job (checkpoints.Record index) appends never e offset stood = tt
  group_stands job (checkpoints.Trim before to_blob q) appends never e offset stood = tt

  abbrev Ordered : List StreamAction → Type 0
  Ordered actions = InOrder texts (view_after_all r.load.generation v actions)

  stands_rightly : (control : Option CheckpointState) → AppendsRows r.rows control → (e offset : ℕ) → rows_answer.news ≡ Some (news.Appended e offset) → rows_may_stand control body ≡ true → NewsPlace control body (Some (news.Appended e offset)) →
      InOrder texts (view_after r.load.generation v (Stores (record { extent = e; offset = offset; bytes = joined r.rows.group }))) →
      StandsRightlyIf texts (view_after r.load.generation v (Stores (record { extent = e; offset = offset; bytes = joined r.rows.group }))) control (Some (news.Appended e offset))
  stands_rightly None appends e offset is may place order = tt
  stands_rightly (Some job) appends e offset is may place order =
      record { may = sym place ∙ may; all = order.answered; stands = group_stands job job.phase appends (awake (news.Appended e offset) is) e offset order.answered.0 }

  is_stored : (told : Option News) → rows_answer.news ≡ told → rows_may_stand r.control body ≡ true → NewsPlace r.control body told → Ordered (rows_told_actions r told) →
      IsStored texts subject run v rows_after rows_matches serving kept d r.rows.group told
  is_stored None is may place order = tt
  is_stored (Some (news.Appended e offset)) is may place order =
      let p : PlacedBytes = record { extent = e; offset = offset; bytes = joined r.rows.group } in (
        told_idle (news.Appended e offset) is,
        stands_rightly r.control m.rows e offset is may place
            (order_before_actions texts r.load.generation (view_after r.load.generation v (Stores p)) (if nat_lt e (2 ^ 64) then index_stood r r.control e offset else [])
            (subst (InOrder texts) (view_both texts subject r.load.generation v (if nat_lt e (2 ^ 64) then index_stood r r.control e offset else []) (Stores p ∷ [])) order)),
      )
  is_stored (Some (news.Checked e l)) is may place order = tt
  is_stored (Some (news.Sealed e l)) is may place order = tt
  is_stored (Some (news.Content e upto)) is may place order = tt
  is_stored (Some news.Fenced) is may place order = tt

  -- an answer to the client of row data
  pub rows_reply_step : Ordered (rows_actions d r body) → CheckpointStep texts subject run v r (rows_actions d r body) (rows_reply d r body)
  rows_reply_step = by (rows_may_stand r.control body) refl
    where
      by : (b : Bool) → rows_may_stand r.control body ≡ b → Ordered (if b then rows_told_actions r rows_answer.news else []) →
          CheckpointStep texts subject run v r (if b then rows_told_actions r rows_answer.news else [])
          (if b then rows_told d rows_after r.control rows_answer.news (option_to_list rows_answer.packet) else answers d r [])
      by true may order =
          of_range rows_answer.after (rows_told_actions r rows_answer.news) (rows_told d rows_after r.control rows_answer.news (option_to_list rows_answer.packet))
          (subst (λ actions. CheckpointStep texts subject run v rows_after actions (rows_told d rows_after r.control rows_answer.news (option_to_list rows_answer.packet))) (same_told rows_answer.news)
          (rows_step texts subject run v rows_after rows_matches serving kept d r.rows.group rows_answer.news (option_to_list rows_answer.packet)
          (is_stored rows_answer.news refl may (reply_place r.control (request d) (picking d r.rows) body) order)))
      by false never order = record { next = run; goes = Rests; shown = serving; matches = m; streams = kept; longer = ([], refl); seen = λ notes old. old }
