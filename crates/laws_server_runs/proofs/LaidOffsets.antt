-- Where an answer tells that a group stands, it is the answer to its append, and the offset is the one that the answer gives.
use Rattle.std.proofs.Common.{◌≡◌, ℕ, Option, Some, None, refl}
use Rattle.block_types.specs.declared.record.Nodes.{Nodes}
use Rattle.wire.specs.declared.actor.ReqNo.{ReqNo}
use Rattle.wire.specs.declared.body.AppendBody.TheVariants as appends
use Rattle.wire.specs.declared.body.Body.{Body}
use Rattle.wire.specs.declared.body.Body.TheVariants as bodies
use Rattle.wire.specs.declared.body.CheckBody.TheVariants as checks
use Rattle.wire.specs.declared.body.ReadBody.TheVariants as reads
use Rattle.wire.specs.declared.body.SealBody.TheVariants as seals
use Rattle.wire.specs.declared.body.StreamBody.TheVariants as streams
use Rattle.wire.specs.declared.refusal.Refusal.{Refusal}
use Rattle.wire.specs.declared.refusal.Refusal.TheVariants as refusals
use Rattle.client.specs.declared.job.Job.{Job}
use Rattle.client.specs.declared.job.Job.TheVariants as jobs
use Rattle.client.specs.declared.job.News.{News}
use Rattle.client.specs.declared.job.News.TheVariants as news
use Rattle.client.specs.Client.{ClientState, Outcome, waits, awaits, if_awaited, fenced_if, append_refused, refused_job, appended_job, checked_job, sealed_job, groups_job, extended_job, reply_rule}
use Rattle.model_streams.proofs.Tests.{if_elim}

-- the offset that an answer gives
abbrev pub GivesOffset : Body → ℕ → Type 0
GivesOffset (bodies.Append (appends.Appended w e offset)) n = offset ≡ n
GivesOffset body n = ⊥

-- what is told is of that offset
abbrev pub TellsOffset : Body → Option News → Type 0
TellsOffset body (Some (news.Appended e offset)) = GivesOffset body offset
TellsOffset body told = Unit {0}

module _ (c : ClientState) (q : ReqNo) (body : Body) where
  abbrev Tells : Outcome → Type 0
  Tells o = TellsOffset body o.news

  awaited : (w : ReqNo) (o : Outcome) → Tells o → Tells (if_awaited c w o)
  awaited w o h = if_elim Tells (awaits c.job w) o (waits c) (λ t. h) (λ f. tt)

  fenced : (refusal : Refusal) → Tells (fenced_if c refusal)
  fenced refusals.Stale = tt
  fenced refusal = tt

  at_append : (e : ℕ) (refusal : Refusal) → Tells (append_refused c q e refusal)
  at_append e refusals.NotOpen = tt
  at_append e refusals.ExtentFull = tt
  at_append e refusal = fenced refusal

  refused : (refusal : Refusal) (job : Job) → Tells (refused_job c q refusal job)
  refused refusal (jobs.Sent e w) = at_append e refusal
  refused refusal job = fenced refusal

  appended : (offset : ℕ) (job : Job) → GivesOffset body offset → Tells (appended_job c offset job)
  appended offset (jobs.Sent e w) gives = gives
  appended offset job gives = tt

  checked : (found : Option ℕ) (job : Job) → Tells (checked_job c q found job)
  checked (Some found) (jobs.Checking e w) = tt
  checked None (jobs.Checking e w) = tt
  checked found job = tt

  sealed_by : (length : ℕ) (job : Job) → Tells (sealed_job c q length job)
  sealed_by length (jobs.Closing e w) = tt
  sealed_by length (jobs.Shutting e w) = tt
  sealed_by length job = tt

  came : (job : Job) → Tells (groups_job c job)
  came (jobs.Reading e places upto whole place w) = tt
  came job = tt

  extended : (e : ℕ) (places : Nodes) (job : Job) → Tells (extended_job c q e places job)
  extended e places (jobs.Growing last w) = tt
  extended e places job = tt

module _ (c : ClientState) (q : ReqNo) where
  pub reply_offset : (body : Body) → TellsOffset body (reply_rule c q body).news
  reply_offset (bodies.Append (appends.Appended w e offset)) = awaited c q (bodies.Append (appends.Appended w e offset)) w _ (appended c q (bodies.Append (appends.Appended w e offset)) offset c.job refl)
  reply_offset (bodies.Append (appends.Refused w refusal)) = awaited c q (bodies.Append (appends.Refused w refusal)) w _ (refused c q (bodies.Append (appends.Refused w refusal)) refusal c.job)
  reply_offset (bodies.Append body) = tt
  reply_offset (bodies.Check (checks.Checked w found)) = awaited c q (bodies.Check (checks.Checked w found)) w _ (checked c q (bodies.Check (checks.Checked w found)) found c.job)
  reply_offset (bodies.Check body) = tt
  reply_offset (bodies.Seal (seals.SealedIs w e length)) = awaited c q (bodies.Seal (seals.SealedIs w e length)) w _ (sealed_by c q (bodies.Seal (seals.SealedIs w e length)) length c.job)
  reply_offset (bodies.Seal body) = tt
  reply_offset (bodies.Read (reads.Groups w e groups)) = awaited c q (bodies.Read (reads.Groups w e groups)) w _ (came c q (bodies.Read (reads.Groups w e groups)) c.job)
  reply_offset (bodies.Read body) = tt
  reply_offset (bodies.Stream (streams.Extended w e places)) = awaited c q (bodies.Stream (streams.Extended w e places)) w _ (extended c q (bodies.Stream (streams.Extended w e places)) e places c.job)
  reply_offset (bodies.Stream body) = tt
  reply_offset body = tt
