-- Answers to the client of a log.
use Rattle.std.specs.Prelude.{◌≡◌, ℕ, Bool, true, false, Option, Some}
use Rattle.wire.specs.declared.actor.ReqNo.{ReqNo}
use Rattle.wire.specs.declared.body.AppendBody.{AppendBody}
use Rattle.wire.specs.declared.body.AppendBody.TheVariants as appends
use Rattle.wire.specs.declared.body.Body.{Body}
use Rattle.wire.specs.declared.body.Body.TheVariants as bodies
use Rattle.wire.specs.declared.refusal.Refusal.{Refusal}
use Rattle.wire.specs.declared.refusal.Refusal.TheVariants as refusals
use Rattle.client.specs.declared.job.Job.{Job}
use Rattle.client.specs.declared.job.Job.TheVariants as jobs
use Rattle.client.specs.declared.job.News.{News}
use Rattle.client.specs.declared.job.News.TheVariants as news
use Rattle.client.specs.Client.{Outcome, awaits, reply_rule}
use Rattle.client.specs.Requests.{is_same}
use Rattle.model_partition.specs.declared.server_context.ServerContext.{ServerContext}
use Rattle.model_partition.specs.Range.{RangeState, request, picking}

abbrev pub is_old : Refusal → Bool
is_old refusals.Stale = true
is_old refusal = false

abbrev pub is_old_append : AppendBody → Bool
is_old_append (appends.Refused w refusal) = is_old refusal
is_old_append body = false

-- the generation is refused as an old one
abbrev pub is_stale : Body → Bool
is_stale (bodies.Append body) = is_old_append body
is_stale body = false

abbrev pub is_appended : AppendBody → Bool
is_appended (appends.Appended w e offset) = true
is_appended body = false

abbrev pub is_end_of : Job → Body → Bool
is_end_of (jobs.Sent e q) (bodies.Append body) = is_appended body
is_end_of job body = false

-- the answer that the group stands at the offset of this extent, which is waited for
pub record IsAppended (job : Job) (body : Body) (extent offset : ℕ) : Type 0 where
  pub request : ReqNo
  pub told : ℕ
  pub job_is : job ≡ jobs.Sent extent request
  pub body_is : (w : ReqNo) × (body ≡ bodies.Append (appends.Appended w told offset)) × (is_same request w ≡ true)

-- an answer that the job waits for, where it is one of the append bodies
abbrev pub IsAwaited : Job → Body → Type 0
IsAwaited job (bodies.Append (appends.Appended w e offset)) = awaits job w ≡ true
IsAwaited job (bodies.Append (appends.Refused w refusal)) = awaits job w ≡ true
IsAwaited job body = Unit {0}

-- neither that the generation is old nor that the group stands
abbrev pub is_quiet : Option News → Bool
is_quiet (Some news.Fenced) = false
is_quiet (Some (news.Appended e offset)) = false
is_quiet told = true

-- what the log's client makes of an answer
abbrev pub reaction : ServerContext → RangeState → Body → Outcome
reaction d r body = reply_rule (picking d r.log) (request d) body

-- the range, once the log's client has taken an answer
abbrev pub taking : ServerContext → RangeState → Body → RangeState
taking d r body = record r { log = (reaction d r body).after }
