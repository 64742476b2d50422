-- Answers that do not say that a group stands.
use Rattle.std.proofs.Common.{◌≡◌, ℕ, Bool, true, false, List, Option, Some, None, refl, ap, ◌∙◌}
use Rattle.std.specs.Prelude.{option_to_list, if◌then◌else◌}
use Rattle.block_types.specs.declared.record.Nodes.{Nodes}
use Rattle.wire.specs.declared.actor.ReqNo.{ReqNo}
use Rattle.wire.specs.declared.body.AppendBody.{AppendBody}
use Rattle.wire.specs.declared.body.AppendBody.TheVariants as appends
use Rattle.wire.specs.declared.body.CheckBody.{CheckBody}
use Rattle.wire.specs.declared.body.CheckBody.TheVariants as checks
use Rattle.wire.specs.declared.body.SealBody.{SealBody}
use Rattle.wire.specs.declared.body.SealBody.TheVariants as seals
use Rattle.wire.specs.declared.body.ReadBody.{ReadBody}
use Rattle.wire.specs.declared.body.ReadBody.TheVariants as reads
use Rattle.wire.specs.declared.body.StreamBody.{StreamBody}
use Rattle.wire.specs.declared.body.StreamBody.TheVariants as streams
use Rattle.wire.specs.declared.body.Body.{Body}
use Rattle.wire.specs.declared.body.Body.TheVariants as bodies
use Rattle.wire.specs.declared.packet.Packet.{Packet}
use Rattle.wire.specs.declared.refusal.Refusal.{Refusal}
use Rattle.wire.specs.declared.refusal.Refusal.TheVariants as refusals
use Rattle.client.specs.declared.job.Job.{Job}
use Rattle.client.specs.declared.job.Job.TheVariants.{Sent, Closing, Growing, Checking, Shutting, Reading}
use Rattle.client.specs.declared.job.News.{News}
use Rattle.client.specs.declared.job.News.TheVariants as news
use Rattle.client.specs.Client.{ClientState, Outcome, awaits, waits, fenced_if, refused_job, appended_job, checked_job, sealed_job, groups_job, extended_job, if_awaited, append_reply, check_reply, seal_reply, read_reply, stream_reply, reply_rule}
use Rattle.model_partition.specs.declared.server_context.ServerContext.{ServerContext}
use Rattle.model_partition.specs.CheckpointStates.{CheckpointState}
use Rattle.model_partition.specs.Range.{RangeState, request, picking, is_serving}
use Rattle.model_partition.specs.Answering.{metadata_reply}
use Rattle.model_partition.specs.Checkpoints.{record_told, rows_told, rows_reply, rows_may_stand}
use Rattle.range_checkpoint.specs.Steps.{appended, appended_by, appended_in, stays}

-- whether news is that a group stands
abbrev pub is_append : Option News → Bool
is_append (Some (news.Appended e offset)) = true
is_append told = false

abbrev pub Other : Outcome → Type 0
Other o = is_append o.news ≡ false

if_other : (c : ClientState) (w : ReqNo) (o : Outcome) → Other o → Other (if_awaited c w o)
if_other c w o other =
    elim (awaits c.job w) as (λ b. Other (if b then o else waits c)) [
      | true ↦ other
      | false ↦ refl
    ]

fenced : (c : ClientState) (refusal : Refusal) → Other (fenced_if c refusal)
fenced c refusals.Stale = refl
fenced c refusal = refl

refused : (c : ClientState) (q : ReqNo) (refusal : Refusal) (job : Job) → Other (refused_job c q refusal job)
refused c q refusals.NotOpen (Sent e w) = refl
refused c q refusals.ExtentFull (Sent e w) = refl
refused c q refusal (Sent e w) = fenced c refusal
refused c q refusal job = fenced c refusal

checked : (c : ClientState) (q : ReqNo) (found : Option ℕ) (job : Job) → Other (checked_job c q found job)
checked c q (Some found) (Checking e w) = refl
checked c q None (Checking e w) = refl
checked c q (Some found) job = refl
checked c q None job = refl

sealed : (c : ClientState) (q : ReqNo) (length : ℕ) (job : Job) → Other (sealed_job c q length job)
sealed c q length (Closing e w) = refl
sealed c q length (Shutting e w) = refl
sealed c q length job = refl

extended : (c : ClientState) (q : ReqNo) (e : ℕ) (places : Nodes) (job : Job) → Other (extended_job c q e places job)
extended c q e places (Growing last w) = refl
extended c q e places job = refl

read : (c : ClientState) (job : Job) → Other (groups_job c job)
read c (Reading e places upto sealed place w) = refl
read c job = refl

not_out : (c : ClientState) (offset : ℕ) (job : Job) → appended_in job offset ≡ None → Other (appended_job c offset job)
not_out c offset (Sent e w) none = absurd cc
not_out c offset job none = refl

append_other : (c : ClientState) (q : ReqNo) (body : AppendBody) → appended_by c body ≡ None → Other (append_reply c q body)
append_other c q (appends.Appended w e offset) none =
    elim (awaits c.job w) as (λ b. (if b then appended_in c.job offset else None) ≡ None → Other (if b then appended_job c offset c.job else waits c)) [
      | true ↦ λ is. not_out c offset c.job is
      | false ↦ λ is. refl
    ] none
append_other c q (appends.Refused w refusal) none = if_other c w (refused_job c q refusal c.job) (refused c q refusal c.job)
append_other c q body none = refl

check_other : (c : ClientState) (q : ReqNo) (body : CheckBody) → Other (check_reply c q body)
check_other c q (checks.Checked w found) = if_other c w (checked_job c q found c.job) (checked c q found c.job)
check_other c q body = refl

seal_other : (c : ClientState) (q : ReqNo) (body : SealBody) → Other (seal_reply c q body)
seal_other c q (seals.SealedIs w e length) = if_other c w (sealed_job c q length c.job) (sealed c q length c.job)
seal_other c q body = refl

stream_other : (c : ClientState) (q : ReqNo) (body : StreamBody) → Other (stream_reply c q body)
stream_other c q (streams.Extended w e places) = if_other c w (extended_job c q e places c.job) (extended c q e places c.job)
stream_other c q body = refl

read_other : (c : ClientState) (body : ReadBody) → Other (read_reply c body)
read_other c (reads.Groups w e groups) = if_other c w (groups_job c c.job) (read c c.job)
read_other c body = refl

pub other : (c : ClientState) (q : ReqNo) (body : Body) → appended c body ≡ None → Other (reply_rule c q body)
other c q (bodies.Append body) none = append_other c q body none
other c q (bodies.Check body) none = check_other c q body
other c q (bodies.Seal body) none = seal_other c q body
other c q (bodies.Read body) none = read_other c body
other c q (bodies.Stream body) none = stream_other c q body
other c q (bodies.Map body) none = refl
other c q (bodies.Table body) none = refl

-- ---- of row data

rows_stay : (d : ServerContext) (r : RangeState) (job : Option CheckpointState) (told : Option News) (packets : List Packet) → is_append told ≡ false → rows_told d r job told packets ≡ stays d r told packets
rows_stay d r None (Some news.Fenced) packets quiet = refl
rows_stay d r (Some job) (Some news.Fenced) packets quiet = refl
rows_stay d r job (Some (news.Appended e offset)) packets quiet = absurd cc
rows_stay d r None told packets quiet = refl
rows_stay d r (Some job) told packets quiet = refl

pub rows_other : (d : ServerContext) (r : RangeState) (body : Body) (o : Outcome) → appended r.rows body ≡ None → rows_may_stand r.control body ≡ true → reply_rule (picking d r.rows) (request d) body ≡ o →
    rows_reply d r body ≡ stays d (record r { rows = o.after }) o.news (option_to_list o.packet)
rows_other d r body o none may is =
    let before : Outcome = reply_rule (picking d r.rows) (request d) body in
    rw may (rows_stay d (record r { rows = before.after }) r.control before.news (option_to_list before.packet) (other (picking d r.rows) (request d) body none))
    ∙ ap (λ (x : Outcome). stays d (record r { rows = x.after }) x.news (option_to_list x.packet)) is

-- ---- of the metadata

record_stays : (d : ServerContext) (r : RangeState) (job : Option CheckpointState) (told : Option News) (packets : List Packet) → is_append told ≡ false → record_told d r job told packets ≡ stays d r told packets
record_stays d r None (Some news.Fenced) packets quiet = refl
record_stays d r (Some job) (Some news.Fenced) packets quiet = refl
record_stays d r job (Some (news.Appended e offset)) packets quiet = absurd cc
record_stays d r None told packets quiet = refl
record_stays d r (Some job) told packets quiet = refl

pub record_other : (d : ServerContext) (r : RangeState) (body : Body) (o : Outcome) → is_serving r.stage ≡ true → appended r.metadata body ≡ None → reply_rule (picking d r.metadata) (request d) body ≡ o →
    metadata_reply d r body ≡ stays d (record r { metadata = o.after }) o.news (option_to_list o.packet)
record_other d r body o serving none is =
    let before : Outcome = reply_rule (picking d r.metadata) (request d) body in
    rw serving (record_stays d (record r { metadata = before.after }) r.control before.news (option_to_list before.packet) (other (picking d r.metadata) (request d) body none))
    ∙ ap (λ (x : Outcome). stays d (record r { metadata = x.after }) x.news (option_to_list x.packet)) is
