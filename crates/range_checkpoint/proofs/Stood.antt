-- Answers that say that a group stands.
use Rattle.std.proofs.Common.{◌≡◌, ℕ, suc, ◌^◌, Bool, true, false, [], Option, Some, None, refl, sym, ap, ◌∙◌}
use Rattle.std.specs.Prelude.{nat_lt, option_to_list, if◌then◌else◌}
use Rattle.wire.specs.declared.actor.ReqNo.{ReqNo}
use Rattle.wire.specs.declared.body.AppendBody.{AppendBody}
use Rattle.wire.specs.declared.body.AppendBody.TheVariants as appends
use Rattle.wire.specs.declared.body.Body.{Body}
use Rattle.wire.specs.declared.body.Body.TheVariants as bodies
use Rattle.client.specs.declared.job.Job.{Job}
use Rattle.client.specs.declared.job.Job.TheVariants.{Sent}
use Rattle.client.specs.declared.job.News.TheVariants as news
use Rattle.client.specs.Client.{ClientState, Outcome, appended_job, append_reply, awaits, ends, needs_memory, reply_rule, waits}
use Rattle.model_partition.specs.declared.checkpoint_job.CheckpointPhase.{CheckpointPhase}
use Rattle.model_partition.specs.declared.checkpoint_job.CheckpointPhase.TheVariants as phases
use Rattle.model_partition.specs.declared.server_context.ServerContext.{ServerContext}
use Rattle.model_partition.specs.CheckpointStates.{CheckpointState}
use Rattle.model_partition.specs.Range.{RangeState, request, goes, picking}
use Rattle.model_partition.specs.Loading.{Group}
use Rattle.model_partition.specs.Checkpoints.{job_may_stand, may_record, next_append, pages_stand, record_stands, rows_go, rows_may_stand, rows_reply, rows_stand, rows_told}
use Rattle.checkpoint.specs.PageGroups.{next_group}
use Rattle.range_checkpoint.specs.declared.row_answers.NextStep.{NextStep}
use Rattle.range_checkpoint.specs.Records as records
use Rattle.range_checkpoint.specs.Steps.{appended, appended_by, appended_in, control_stands, goes_on, stands_in, with_rows}

-- ---- what the client makes of it

-- the outcome of an append that is told so
abbrev told_so : ClientState → Option (ℕ × ℕ) → Outcome
told_so c None = waits c
told_so c (Some y) = ends c (news.Appended y.0 y.1)

stood_in : (c : ClientState) (offset e o : ℕ) (job : Job) → appended_in job offset ≡ Some (e, o) → appended_job c offset job ≡ ends c (news.Appended e o)
stood_in c offset e o (Sent x w) is = ap (told_so c) is
stood_in c offset e o job is = absurd cc

stood_by : (c : ClientState) (q : ReqNo) (body : AppendBody) (e o : ℕ) → appended_by c body ≡ Some (e, o) → append_reply c q body ≡ ends c (news.Appended e o)
stood_by c q (appends.Appended w x offset) e o is =
    elim (awaits c.job w) as (λ b. (if b then appended_in c.job offset else None) ≡ Some (e, o) → (if b then appended_job c offset c.job else waits c) ≡ ends c (news.Appended e o)) [
      | true ↦ λ there. stood_in c offset e o c.job there
      | false ↦ λ there. absurd cc
    ] is
stood_by c q (appends.Refused w refusal) e o is = absurd cc
stood_by c q body e o is = absurd cc

pub stood : (c : ClientState) (q : ReqNo) (body : Body) (e o : ℕ) → appended c body ≡ Some (e, o) → reply_rule c q body ≡ ends c (news.Appended e o)
stood c q (bodies.Append body) e o is = stood_by c q body e o is
stood c q (bodies.Check body) e o is = absurd cc
stood c q (bodies.Seal body) e o is = absurd cc
stood c q (bodies.Read body) e o is = absurd cc
stood c q (bodies.Stream body) e o is = absurd cc
stood c q (bodies.Map body) e o is = absurd cc
stood c q (bodies.Table body) e o is = absurd cc

-- an answer that says so takes no memory
pub no_memory : (c : ClientState) (body : Body) (x : ℕ × ℕ) → appended c body ≡ Some x → needs_memory body ≡ false
no_memory c (bodies.Append body) x is = refl
no_memory c (bodies.Check body) x is = absurd cc
no_memory c (bodies.Seal body) x is = absurd cc
no_memory c (bodies.Read body) x is = absurd cc
no_memory c (bodies.Stream body) x is = absurd cc
no_memory c (bodies.Map body) x is = absurd cc
no_memory c (bodies.Table body) x is = absurd cc

-- ---- of row data

pages_go : (d : ServerContext) (r : RangeState) (x : CheckpointState × Option Group) → rows_go d r x ≡ goes_on d (record r { control = Some x.0 }) (with_rows x).1
pages_go d r (job, None) = refl
pages_go d r (job, Some group) = refl

phase_stands : (d : ServerContext) (r : RangeState) (job : CheckpointState) (phase : CheckpointPhase) (e o : ℕ) → r.control ≡ Some job →
    rows_stand d r job phase e o ≡ goes_on d (record r { control = Some (stands_in d r job phase e o).0 }) (stands_in d r job phase e o).1
phase_stands d r job phases.Combining e o is = ap (λ (c : Option CheckpointState). goes d (record r { control = c }) [] []) is
phase_stands d r job phases.Pages e o is = pages_go d r (next_append (pages_stand job e o) (next_group (pages_stand job e o).pages))
phase_stands d r job phases.Index e o is =
    elim (may_record r job) as (λ b. may_record r job ≡ b → rows_stand d r job phases.Index e o ≡ goes_on d (record r { control = Some (stands_in d r job phases.Index e o).0 }) (stands_in d r job phases.Index e o).1) [
      | true ↦ λ may. rw may refl
      | false ↦ λ may. rw may (ap (λ (c : Option CheckpointState). goes d (record r { control = c }) [] []) is)
    ] refl
phase_stands d r job (phases.Record index) e o is = ap (λ (c : Option CheckpointState). goes d (record r { control = c }) [] []) is
phase_stands d r job (phases.Trim before to_blob q) e o is = ap (λ (c : Option CheckpointState). goes d (record r { control = c }) [] []) is

control_goes : (d : ServerContext) (r : RangeState) (job : Option CheckpointState) (e o : ℕ) → r.control ≡ job → nat_lt e (2 ^ 64) ≡ true →
    rows_told d r job (Some (news.Appended e o)) [] ≡ goes_on d (record r { control = (control_stands d r job e o).0 }) (control_stands d r job e o).1
control_goes d r None e o is known = ap (λ (c : Option CheckpointState). goes d (record r { control = c }) [] []) is
control_goes d r (Some job) e o is known = rw known (phase_stands d r job job.phase e o is)

abbrev offset_or : ℕ → Option (ℕ × ℕ) → ℕ
offset_or other None = other
offset_or other (Some z) = z.1

offset_in : (offset e o : ℕ) (own : Job) → appended_in own offset ≡ Some (e, o) → offset ≡ o
offset_in offset e o (Sent y v) there = ap (offset_or offset) there
offset_in offset e o own there = absurd cc

offset_is : (offset e o : ℕ) (b : Bool) (own : Job) → (if b then appended_in own offset else None) ≡ Some (e, o) → offset ≡ o
offset_is offset e o true own there = offset_in offset e o own there
offset_is offset e o false own there = absurd cc

may_stand_so : (c : ClientState) (body : Body) (e o : ℕ) (job : Option CheckpointState) → appended c body ≡ Some (e, o) → job_may_stand job o ≡ true → rows_may_stand job body ≡ true
may_stand_so c (bodies.Append (appends.Appended w x offset)) e o job is may = ap (job_may_stand job) (offset_is offset e o (awaits c.job w) c.job is) ∙ may
may_stand_so c (bodies.Append (appends.Refused w refusal)) e o job is may = absurd cc
may_stand_so c (bodies.Append body) e o job is may = refl
may_stand_so c (bodies.Check body) e o job is may = refl
may_stand_so c (bodies.Seal body) e o job is may = refl
may_stand_so c (bodies.Read body) e o job is may = refl
may_stand_so c (bodies.Stream body) e o job is may = refl
may_stand_so c (bodies.Map body) e o job is may = refl
may_stand_so c (bodies.Table body) e o job is may = refl

pub job_stands_so : (c : ClientState) (body : Body) (e o : ℕ) (job : Option CheckpointState) → appended c body ≡ Some (e, o) → rows_may_stand job body ≡ true → job_may_stand job o ≡ true
job_stands_so c (bodies.Append (appends.Appended w x offset)) e o job is may = ap (job_may_stand job) (sym (offset_is offset e o (awaits c.job w) c.job is)) ∙ may
job_stands_so c (bodies.Append body) e o job is may = absurd cc
job_stands_so c body e o job is may = absurd cc

-- the job goes on, and what is next is given to its client
pub rows_stood : (d : ServerContext) (r : RangeState) (body : Body) (e o : ℕ) (y : Outcome) (x : Option CheckpointState × NextStep) → appended r.rows body ≡ Some (e, o) → job_may_stand r.control o ≡ true → nat_lt e (2 ^ 64) ≡ true →
    reply_rule (picking d r.rows) (request d) body ≡ y → control_stands d (record r { rows = y.after }) r.control e o ≡ x →
    rows_reply d r body ≡ goes_on d (record r { rows = y.after; control = x.0 }) x.1
rows_stood d r body e o y x is may known told next =
    let so : rows_may_stand r.control body ≡ true = may_stand_so r.rows body e o r.control is may in
    let ended : y ≡ ends (picking d r.rows) (news.Appended e o) = sym told ∙ stood (picking d r.rows) (request d) body e o is in
    rw so (ap (λ (z : Outcome). rows_told d (record r { rows = z.after }) r.control z.news (option_to_list z.packet)) told
    ∙ ap (λ (z : Outcome). rows_told d (record r { rows = y.after }) r.control z.news (option_to_list z.packet)) ended
    ∙ control_goes d (record r { rows = y.after }) r.control e o refl known
    ∙ ap (λ (z : Option CheckpointState × NextStep). goes_on d (record r { rows = y.after; control = z.0 }) z.1) next)

-- ---- of the metadata

pub phase_recorded : (d : ServerContext) (r : RangeState) (job : CheckpointState) (phase : CheckpointPhase) → record_stands d r job phase ≡ records.goes_on d r (records.recorded_in r.said job phase)
phase_recorded d r job (phases.Record index) =
    elim (nat_lt (suc r.said.next) (2 ^ 64)) as (λ b. nat_lt (suc r.said.next) (2 ^ 64) ≡ b → record_stands d r job (phases.Record index) ≡ records.goes_on d r (records.recorded_in r.said job (phases.Record index))) [
      | true ↦ λ may. rw may refl
      | false ↦ λ may. rw may refl
    ] refl
phase_recorded d r job phases.Combining = refl
phase_recorded d r job phases.Pages = refl
phase_recorded d r job phases.Index = refl
phase_recorded d r job (phases.Trim before to_blob q) = refl
