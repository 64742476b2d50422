-- What an answer makes of a client: where something is told it waits for nothing, and its first index stays.
use Rattle.std.proofs.Common.{◌≡◌, ℕ, true, Option, Some, None, is_some, refl, subst}
use Rattle.std.specs.Prelude.{if◌then◌else◌}
use Rattle.block_types.specs.declared.record.Nodes.{Nodes}
use Rattle.wire.specs.declared.actor.ReqNo.{ReqNo}
use Rattle.wire.specs.declared.body.AppendBody.TheVariants as appends
use Rattle.wire.specs.declared.body.Body.{Body}
use Rattle.wire.specs.declared.body.Body.TheVariants as bodies
use Rattle.wire.specs.declared.body.CheckBody.TheVariants as checks
use Rattle.wire.specs.declared.body.ReadBody.TheVariants as reads
use Rattle.wire.specs.declared.body.SealBody.TheVariants as seals
use Rattle.wire.specs.declared.body.StreamBody.TheVariants as streams
use Rattle.wire.specs.declared.refusal.Refusal.{Refusal}
use Rattle.wire.specs.declared.refusal.Refusal.TheVariants as refusals
use Rattle.client.specs.declared.job.Job.{Job}
use Rattle.client.specs.declared.job.Job.TheVariants as jobs
use Rattle.client.specs.declared.job.News.{News}
use Rattle.client.specs.Client.{ClientState, Outcome, waits, awaits, if_awaited, fenced_if, append_refused, refused_job, appended_job, checked_job, sealed_job, groups_job, extended_job, reply_rule}
use Rattle.model_streams.proofs.Tests.{if_elim}
use Rattle.std.specs.Prelude.{Result, Ok, Err}
use Rattle.std.specs.List.{slice_get}
use Rattle.wire.specs.declared.streams.StreamExtent.{StreamExtent}
use Rattle.client.specs.declared.fault.ClientFault.{ClientFault}
use Rattle.client.specs.declared.fault.ClientFault.TheVariants as faults
use Rattle.client.specs.Client.{check_at, check_behind, check_rule, is_idle, last_extent, read_at, read_checked_at, read_checked_rule, read_open, read_sealed_rule, read_whole}
use Rattle.model_partition.specs.declared.server_context.ServerContext.{ServerContext}
use Rattle.model_partition.specs.Range.{given, request}
use Rattle.model_partition.specs.Loading.{read_by, read_of}

-- where something is told nothing more is waited for
abbrev pub IsIdleIf : Option News → Job → Type 0
IsIdleIf None job = Unit {0}
IsIdleIf (Some told) job = job ≡ jobs.Idle

-- an answer leaves the first index of the stream as it was
pub record Takes (c : ClientState) (o : Outcome) : Type 0 where
  pub base : o.after.base ≡ c.base
  pub idle : IsIdleIf o.news o.after.job

module _ (c : ClientState) (q : ReqNo) where
  still : Takes c (waits c)
  still = record { base = refl; idle = tt }

  awaited : (w : ReqNo) (o : Outcome) → Takes c o → Takes c (if_awaited c w o)
  awaited w o h = if_elim (Takes c) (awaits c.job w) o (waits c) (λ t. h) (λ f. still)

  fenced : (refusal : Refusal) → Takes c (fenced_if c refusal)
  fenced refusals.Stale = record { base = refl; idle = refl }
  fenced refusal = still

  at_append : (e : ℕ) (refusal : Refusal) → Takes c (append_refused c q e refusal)
  at_append e refusals.NotOpen = record { base = refl; idle = tt }
  at_append e refusals.ExtentFull = record { base = refl; idle = tt }
  at_append e refusal = fenced refusal

  refused : (refusal : Refusal) (job : Job) → Takes c (refused_job c q refusal job)
  refused refusal (jobs.Sent e w) = at_append e refusal
  refused refusal job = fenced refusal

  appended : (offset : ℕ) (job : Job) → Takes c (appended_job c offset job)
  appended offset (jobs.Sent e w) = record { base = refl; idle = refl }
  appended offset job = still

  checked : (found : Option ℕ) (job : Job) → Takes c (checked_job c q found job)
  checked (Some found) (jobs.Checking e w) = record { base = refl; idle = refl }
  checked None (jobs.Checking e w) = record { base = refl; idle = tt }
  checked found job = still

  sealed : (length : ℕ) (job : Job) → Takes c (sealed_job c q length job)
  sealed length (jobs.Closing e w) = record { base = refl; idle = tt }
  sealed length (jobs.Shutting e w) = record { base = refl; idle = refl }
  sealed length job = still

  came : (job : Job) → Takes c (groups_job c job)
  came (jobs.Reading e places upto sealed place w) = record { base = refl; idle = refl }
  came job = still

  extended : (e : ℕ) (places : Nodes) (job : Job) → Takes c (extended_job c q e places job)
  extended e places (jobs.Growing last w) = record { base = refl; idle = tt }
  extended e places job = still

  pub reply_takes : (body : Body) → Takes c (reply_rule c q body)
  reply_takes (bodies.Append (appends.Appended w e offset)) = awaited w _ (appended offset c.job)
  reply_takes (bodies.Append (appends.Refused w refusal)) = awaited w _ (refused refusal c.job)
  reply_takes (bodies.Append body) = still
  reply_takes (bodies.Check (checks.Checked w found)) = awaited w _ (checked found c.job)
  reply_takes (bodies.Check body) = still
  reply_takes (bodies.Seal (seals.SealedIs w e length)) = awaited w _ (sealed length c.job)
  reply_takes (bodies.Seal body) = still
  reply_takes (bodies.Read (reads.Groups w e groups)) = awaited w _ (came c.job)
  reply_takes (bodies.Read body) = still
  reply_takes (bodies.Stream (streams.Extended w e places)) = awaited w _ (extended e places c.job)
  reply_takes (bodies.Stream body) = still
  reply_takes body = still

-- a job that waits for an answer is not idle
pub busy : (job : Job) (w : ReqNo) → awaits job w ≡ true → job ≡ jobs.Idle → ⊥
busy job w waits idle = let none : awaits jobs.Idle w ≡ true = subst (λ j. awaits j w ≡ true) idle waits in absurd cc

-- ---- requests of a load

-- they leave the first index of the stream as it was
abbrev IsBased : ClientState → Result Outcome ClientFault → Type 0
IsBased c (Ok o) = o.after.base ≡ c.base
IsBased c (Err fault) = Unit {0}

given_base : (c : ClientState) (x : Result Outcome ClientFault) → IsBased c x → (given c x).after.base ≡ c.base
given_base c (Ok o) is = is
given_base c (Err fault) is = refl

module _ (c : ClientState) (q : ReqNo) where
  whole_base : (x : StreamExtent) (sealed : Option ℕ) → IsBased c (read_whole c q x sealed)
  whole_base x None = tt
  whole_base x (Some sealed) = refl

  at_base : (x : Option StreamExtent) → IsBased c (read_at c q x)
  at_base None = tt
  at_base (Some x) = whole_base x x.length

  open_base : (x : StreamExtent) (sealed checked : Option ℕ) → IsBased c (read_open c q x sealed checked)
  open_base x None (Some checked) = refl
  open_base x None None = tt
  open_base x (Some sealed) checked = tt

  checked_base : (x : Option StreamExtent) → IsBased c (read_checked_at c q x)
  checked_base None = tt
  checked_base (Some x) = open_base x x.length c.checked

  behind_base : (x : StreamExtent) (sealed : Option ℕ) → IsBased c (check_behind c q x sealed)
  behind_base x None = refl
  behind_base x (Some sealed) = tt

  check_at_base : (x : Option StreamExtent) → IsBased c (check_at c q x)
  check_at_base None = tt
  check_at_base (Some x) = behind_base x x.length

  pub check_base : (given c (check_rule c q)).after.base ≡ c.base
  check_base = given_base c (check_rule c q) (if_elim (IsBased c) (is_idle c.job) (check_at c q (last_extent c.extents)) (Err faults.Busy) (λ t. check_at_base (last_extent c.extents)) (λ f. tt))

  sealed_read : (position : ℕ) → IsBased c (read_sealed_rule c q position)
  sealed_read position = if_elim (IsBased c) (is_idle c.job) (read_at c q (slice_get c.extents position)) (Err faults.Busy) (λ t. at_base (slice_get c.extents position)) (λ f. tt)

  checked_read : IsBased c (read_checked_rule c q)
  checked_read = if_elim (IsBased c) (is_idle c.job) (read_checked_at c q (last_extent c.extents)) (Err faults.Busy) (λ t. checked_base (last_extent c.extents)) (λ f. tt)

pub read_base : (d : ServerContext) (c : ClientState) (position : ℕ) → (read_of d c position).after.base ≡ c.base
read_base d c position = by (slice_get c.extents position)
  where
    by : (x : Option StreamExtent) → (read_by d c position x).after.base ≡ c.base
    by None = refl
    by (Some x) =
        given_base c (if is_some x.length then read_sealed_rule c (request d) position else read_checked_rule c (request d))
        (if_elim (IsBased c) (is_some x.length) (read_sealed_rule c (request d) position) (read_checked_rule c (request d)) (λ t. sealed_read c (request d) position) (λ f. checked_read c (request d)))
