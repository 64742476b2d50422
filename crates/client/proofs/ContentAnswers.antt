-- What answers bring, and when that is groups.
use Rattle.std.proofs.Common.{◌≡◌, ◌∙◌, ℕ, true, false, Option, Some, None, refl, sym, ap}
use Rattle.std.specs.Prelude.{if◌then◌else◌}
use Rattle.block_types.specs.declared.record.Nodes.{Nodes}
use Rattle.wire.specs.declared.actor.ReqNo.{ReqNo}
use Rattle.wire.specs.declared.refusal.Refusal.{Refusal}
use Rattle.wire.specs.declared.refusal.Refusal.TheVariants as refusals
use Rattle.wire.specs.declared.packet.Packet.{Packet}
use Rattle.wire.specs.declared.body.AppendBody.{AppendBody}
use Rattle.wire.specs.declared.body.AppendBody.TheVariants as appends
use Rattle.wire.specs.declared.body.CheckBody.{CheckBody}
use Rattle.wire.specs.declared.body.CheckBody.TheVariants as checks
use Rattle.wire.specs.declared.body.SealBody.{SealBody}
use Rattle.wire.specs.declared.body.SealBody.TheVariants as seals
use Rattle.wire.specs.declared.body.ReadBody.{ReadBody}
use Rattle.wire.specs.declared.body.ReadBody.TheVariants as reads
use Rattle.wire.specs.declared.body.StreamBody.{StreamBody}
use Rattle.wire.specs.declared.body.StreamBody.TheVariants as streams
use Rattle.wire.specs.declared.body.Body.{Body}
use Rattle.wire.specs.declared.body.Body.TheVariants as bodies
use Rattle.client.specs.declared.job.Job.{Job}
use Rattle.client.specs.declared.job.Job.TheVariants.{Sent, Closing, Growing, Checking, Shutting, Reading}
use Rattle.client.specs.declared.job.News.{News}
use Rattle.client.specs.Client.{ClientState, Outcome, awaits, waits, fenced_if, refused_job, appended_job, checked_job, sealed_job, groups_job, extended_job, if_awaited, append_reply, check_reply, seal_reply, read_reply, stream_reply, reply_rule, reading_of, groups_content, content_of, content_told}

abbrev Silent : Outcome → Type 0
Silent o = content_told o.news ≡ None

if_silent : (c : ClientState) (w : ReqNo) (o : Outcome) → Silent o → Silent (if_awaited c w o)
if_silent c w o silent =
    elim (awaits c.job w) as (λ b. Silent (if b then o else waits c)) [
      | true ↦ silent
      | false ↦ refl
    ]

fenced : (c : ClientState) (refusal : Refusal) → Silent (fenced_if c refusal)
fenced c refusals.Stale = refl
fenced c refusal = refl

refused : (c : ClientState) (q : ReqNo) (refusal : Refusal) (job : Job) → Silent (refused_job c q refusal job)
refused c q refusals.NotOpen (Sent e w) = refl
refused c q refusals.ExtentFull (Sent e w) = refl
refused c q refusal (Sent e w) = fenced c refusal
refused c q refusal job = fenced c refusal

appended : (c : ClientState) (offset : ℕ) (job : Job) → Silent (appended_job c offset job)
appended c offset (Sent e w) = refl
appended c offset job = refl

checked : (c : ClientState) (q : ReqNo) (found : Option ℕ) (job : Job) → Silent (checked_job c q found job)
checked c q (Some found) (Checking e w) = refl
checked c q None (Checking e w) = refl
checked c q (Some found) job = refl
checked c q None job = refl

sealed : (c : ClientState) (q : ReqNo) (length : ℕ) (job : Job) → Silent (sealed_job c q length job)
sealed c q length (Closing e w) = refl
sealed c q length (Shutting e w) = refl
sealed c q length job = refl

extended : (c : ClientState) (q : ReqNo) (e : ℕ) (places : Nodes) (job : Job) → Silent (extended_job c q e places job)
extended c q e places (Growing last w) = refl
extended c q e places job = refl

appends_silent : (c : ClientState) (q : ReqNo) (body : AppendBody) → Silent (append_reply c q body)
appends_silent c q (appends.Appended w e offset) = if_silent c w (appended_job c offset c.job) (appended c offset c.job)
appends_silent c q (appends.Refused w refusal) = if_silent c w (refused_job c q refusal c.job) (refused c q refusal c.job)
appends_silent c q body = refl

checks_silent : (c : ClientState) (q : ReqNo) (body : CheckBody) → Silent (check_reply c q body)
checks_silent c q (checks.Checked w found) = if_silent c w (checked_job c q found c.job) (checked c q found c.job)
checks_silent c q body = refl

seals_silent : (c : ClientState) (q : ReqNo) (body : SealBody) → Silent (seal_reply c q body)
seals_silent c q (seals.SealedIs w e length) = if_silent c w (sealed_job c q length c.job) (sealed c q length c.job)
seals_silent c q body = refl

streams_silent : (c : ClientState) (q : ReqNo) (body : StreamBody) → Silent (stream_reply c q body)
streams_silent c q (streams.Extended w e places) = if_silent c w (extended_job c q e places c.job) (extended c q e places c.job)
streams_silent c q body = refl

groups_told : (c : ClientState) (job : Job) → content_told (groups_job c job).news ≡ reading_of job
groups_told c (Reading e places upto sealed place w) = refl
groups_told c job = refl

reads_told : (c : ClientState) (body : ReadBody) → content_told (read_reply c body).news ≡ groups_content c.job body
reads_told c (reads.Groups w e groups) =
    elim (awaits c.job w) as (λ b. content_told (if b then groups_job c c.job else waits c).news ≡ (if b then reading_of c.job else None)) [
      | true ↦ groups_told c c.job
      | false ↦ refl
    ]
reads_told c body = refl

rule_told : (c : ClientState) (q : ReqNo) (body : Body) → content_told (reply_rule c q body).news ≡ content_of c.job body
rule_told c q (bodies.Append body) = appends_silent c q body
rule_told c q (bodies.Check body) = checks_silent c q body
rule_told c q (bodies.Seal body) = seals_silent c q body
rule_told c q (bodies.Read body) = reads_told c body
rule_told c q (bodies.Stream body) = streams_silent c q body
rule_told c q (bodies.Map body) = refl
rule_told c q (bodies.Table body) = refl

-- what a step tells of content is that of the answer
pub told_is : (c : ClientState) (q : ReqNo) (body : Body) (after : ClientState) (packet : Option Packet) (told : Option News) → reply_rule c q body ≡ record { after = after; packet = packet; news = told }
    → content_told told ≡ content_of c.job body
told_is c q body after packet told is = sym (ap (λ (o : Outcome). content_told o.news) is) ∙ rule_told c q body
