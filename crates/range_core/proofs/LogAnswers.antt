-- What the log's client makes of an answer while the range is served.
use Rattle.std.proofs.Common.{◌≡◌, ◌∙◌, ℕ, suc, ◌+◌, ◌-◌, ◌<◌, ◌^◌, Bool, true, false, List, [], ◌++◌, length, Option, Some, None, refl, sym, ap, subst, arith}
use Rattle.std.specs.Prelude.{◌&&◌, is_some, nat_lt, option_to_list, if◌then◌else◌}
use Rattle.std.proofs.lemmas.Bool.{ltb-true}
use Rattle.block_types.specs.declared.record.Nodes.{Nodes}
use Rattle.wire.specs.declared.actor.ReqNo.{ReqNo}
use Rattle.wire.specs.declared.refusal.Refusal.{Refusal}
use Rattle.wire.specs.declared.refusal.Refusal.TheVariants as refusals
use Rattle.wire.specs.declared.packet.Packet.{Packet}
use Rattle.wire.specs.declared.body.AppendBody.{AppendBody}
use Rattle.wire.specs.declared.body.AppendBody.TheVariants as appends
use Rattle.wire.specs.declared.body.CheckBody.{CheckBody}
use Rattle.wire.specs.declared.body.CheckBody.TheVariants as checks
use Rattle.wire.specs.declared.body.SealBody.{SealBody}
use Rattle.wire.specs.declared.body.SealBody.TheVariants as seals
use Rattle.wire.specs.declared.body.ReadBody.{ReadBody}
use Rattle.wire.specs.declared.body.ReadBody.TheVariants as reads
use Rattle.wire.specs.declared.body.StreamBody.{StreamBody}
use Rattle.wire.specs.declared.body.StreamBody.TheVariants as streams
use Rattle.wire.specs.declared.body.Body.{Body}
use Rattle.wire.specs.declared.body.Body.TheVariants as bodies
use Rattle.client.specs.declared.job.Job.{Job}
use Rattle.client.specs.declared.job.Job.TheVariants.{Idle, Sent, Closing, Growing, Checking, Shutting, Reading}
use Rattle.client.specs.declared.job.News.{News}
use Rattle.client.specs.declared.job.News.TheVariants as news
use Rattle.client.specs.Client.{ClientState, Outcome, awaits, waits, fenced_if, refused_job, appended_job, checked_job, sealed_job, groups_job, extended_job, if_awaited, append_reply, check_reply, seal_reply, read_reply, stream_reply, reply_rule}
use Rattle.client.specs.declared.load.LoadPhase.{LoadPhase}
use Rattle.client.specs.Load.{load_awaits}
use Rattle.model_partition.specs.declared.server_context.ServerContext.{ServerContext}
use Rattle.model_partition.specs.declared.table_note.TableNote.{TableNote}
use Rattle.model_partition.specs.Range.{OutGroup, RangeState, RangeOutcome, request, goes, dropped, picking, is_serving}
use Rattle.model_partition.specs.Serving.{forms, log_done}
use Rattle.model_partition.specs.Loading.{are_counted}
use Rattle.model_partition.specs.Answering.{answered_number, append_number, is_taken, log_taken, may_stand, serving_news}
use Rattle.memtable.specs.Entries.{put_all}
use Rattle.range_commit.specs.Queue.{changes_out, committed_out, dones_out, size_out}
use Rattle.range_load.specs.Awaited.{awaits_number, is_awaited}
use Rattle.range_core.specs.Steps.{RangeStep, outcome}
use Rattle.range_core.specs.Replies.{IsAppended, IsAwaited, is_old, is_stale, is_end_of, is_quiet, reaction, taking}

-- ---- quiet answers

abbrev Quiet : Outcome → Type 0
Quiet o = is_quiet o.news ≡ true

if_quiet : (c : ClientState) (w : ReqNo) (o : Outcome) → Quiet o → Quiet (if_awaited c w o)
if_quiet c w o quiet =
    elim (awaits c.job w) as (λ b. Quiet (if b then o else waits c)) [
      | true ↦ quiet
      | false ↦ refl
    ]

fenced : (c : ClientState) (refusal : Refusal) → is_old refusal ≡ false → Quiet (fenced_if c refusal)
fenced c refusals.Stale young = absurd cc
fenced c refusal young = refl

refused : (c : ClientState) (q : ReqNo) (refusal : Refusal) (job : Job) → is_old refusal ≡ false → Quiet (refused_job c q refusal job)
refused c q refusals.NotOpen (Sent e w) young = refl
refused c q refusals.ExtentFull (Sent e w) young = refl
refused c q refusal (Sent e w) young = fenced c refusal young
refused c q refusal job young = fenced c refusal young

checked : (c : ClientState) (q : ReqNo) (found : Option ℕ) (job : Job) → Quiet (checked_job c q found job)
checked c q (Some found) (Checking e w) = refl
checked c q None (Checking e w) = refl
checked c q (Some found) job = refl
checked c q None job = refl

sealed : (c : ClientState) (q : ReqNo) (length : ℕ) (job : Job) → Quiet (sealed_job c q length job)
sealed c q length (Closing e w) = refl
sealed c q length (Shutting e w) = refl
sealed c q length job = refl

extended : (c : ClientState) (q : ReqNo) (e : ℕ) (places : Nodes) (job : Job) → Quiet (extended_job c q e places job)
extended c q e places (Growing last w) = refl
extended c q e places job = refl

groups_quiet : (c : ClientState) (job : Job) → Quiet (groups_job c job)
groups_quiet c (Reading e places upto sealed place w) = refl
groups_quiet c job = refl

checks_quiet : (c : ClientState) (q : ReqNo) (body : CheckBody) → Quiet (check_reply c q body)
checks_quiet c q (checks.Checked w found) = if_quiet c w (checked_job c q found c.job) (checked c q found c.job)
checks_quiet c q body = refl

seals_quiet : (c : ClientState) (q : ReqNo) (body : SealBody) → Quiet (seal_reply c q body)
seals_quiet c q (seals.SealedIs w e length) = if_quiet c w (sealed_job c q length c.job) (sealed c q length c.job)
seals_quiet c q body = refl

streams_quiet : (c : ClientState) (q : ReqNo) (body : StreamBody) → Quiet (stream_reply c q body)
streams_quiet c q (streams.Extended w e places) = if_quiet c w (extended_job c q e places c.job) (extended c q e places c.job)
streams_quiet c q body = refl

reads_quiet : (c : ClientState) (body : ReadBody) → Quiet (read_reply c body)
reads_quiet c (reads.Groups w e groups) = if_quiet c w (groups_job c c.job) (groups_quiet c c.job)
reads_quiet c body = refl

quiet_goes : (d : ServerContext) (r : RangeState) (told : Option News) (packets : List Packet) → is_quiet told ≡ true → serving_news d r told packets ≡ goes d r packets []
quiet_goes d r (Some news.Fenced) packets quiet = absurd cc
quiet_goes d r (Some (news.Appended e offset)) packets quiet = absurd cc
quiet_goes d r told packets quiet = refl

-- ---- an answer that goes on

abbrev Goes : ServerContext → RangeState → Outcome → Type 0
Goes d r o = serving_news d (record r { log = o.after }) o.news (option_to_list o.packet) ≡ goes d (record r { log = o.after }) (option_to_list o.packet) []

quiet_rule : (d : ServerContext) (r : RangeState) (o : Outcome) → Quiet o → Goes d r o
quiet_rule d r o quiet = quiet_goes d (record r { log = o.after }) o.news (option_to_list o.packet) quiet

none_out : (d : ServerContext) (r : RangeState) (out : Option OutGroup) (e offset : ℕ) → is_some out ≡ false → log_done d r out e offset ≡ goes d r [] []
none_out d r None e offset none = refl
none_out d r (Some out) e offset none = absurd cc

and_true : (b : Bool) → (b && true) ≡ false → b ≡ false
and_true true none = none
and_true false none = refl

appended_goes : (d : ServerContext) (r : RangeState) (c : ClientState) (w : ReqNo) (told offset : ℕ) (job : Job) → (is_some r.out && is_end_of job (bodies.Append (appends.Appended w told offset))) ≡ false → Goes d r (appended_job c offset job)
appended_goes d r c w told offset (Sent e q) none =
    none_out d (record r { log = record c { job = Idle; group = [] } }) r.out e offset (and_true (is_some r.out) none)
appended_goes d r c w told offset job none = refl

if_goes : (d : ServerContext) (r : RangeState) (c : ClientState) (w : ReqNo) (o : Outcome) → Goes d r o → Goes d r (if_awaited c w o)
if_goes d r c w o on =
    elim (awaits c.job w) as (λ b. Goes d r (if b then o else waits c)) [
      | true ↦ on
      | false ↦ refl
    ]

append_goes : (d : ServerContext) (r : RangeState) (c : ClientState) (q : ReqNo) (body : AppendBody) → is_stale (bodies.Append body) ≡ false → (is_some r.out && is_end_of c.job (bodies.Append body)) ≡ false → Goes d r (append_reply c q body)
append_goes d r c q (appends.Appended w e offset) young none = if_goes d r c w (appended_job c offset c.job) (appended_goes d r c w e offset c.job none)
append_goes d r c q (appends.Refused w refusal) young none = quiet_rule d r (append_reply c q (appends.Refused w refusal)) (if_quiet c w (refused_job c q refusal c.job) (refused c q refusal c.job young))
append_goes d r c q body young none = refl

body_goes : (d : ServerContext) (r : RangeState) (c : ClientState) (q : ReqNo) (body : Body) → is_stale body ≡ false → (is_some r.out && is_end_of c.job body) ≡ false → Goes d r (reply_rule c q body)
body_goes d r c q (bodies.Append body) young none = append_goes d r c q body young none
body_goes d r c q (bodies.Check body) young none = quiet_rule d r (check_reply c q body) (checks_quiet c q body)
body_goes d r c q (bodies.Seal body) young none = quiet_rule d r (seal_reply c q body) (seals_quiet c q body)
body_goes d r c q (bodies.Read body) young none = quiet_rule d r (read_reply c body) (reads_quiet c body)
body_goes d r c q (bodies.Stream body) young none = quiet_rule d r (stream_reply c q body) (streams_quiet c q body)
body_goes d r c q (bodies.Map body) young none = refl
body_goes d r c q (bodies.Table body) young none = refl

serving_rule : (d : ServerContext) (r : RangeState) (body : Body) → is_serving r.stage ≡ true
    → log_taken d r body ≡ serving_news d (record r { log = (reaction d r body).after }) (reaction d r body).news (option_to_list (reaction d r body).packet)
serving_rule d r body serving = rw serving refl

pub goes_on : (d : ServerContext) (r : RangeState) (body : Body) (o : Outcome) → is_serving r.stage ≡ true → is_stale body ≡ false → (is_some r.out && is_end_of r.log.job body) ≡ false → reaction d r body ≡ o
    → log_taken d r body ≡ goes d (record r { log = o.after }) (option_to_list o.packet) []
goes_on d r body o serving young none is =
    serving_rule d r body serving ∙ body_goes d r (picking d r.log) (request d) body young none
    ∙ ap (λ (x : Outcome). goes d (record r { log = x.after }) (option_to_list x.packet) []) is

-- ---- a generation that is old

fenced_rule : (c : ClientState) (q w : ReqNo) (job : Job) → awaits job w ≡ true → (refused_job c q refusals.Stale job).news ≡ Some news.Fenced
fenced_rule c q w (Sent e v) waited = refl
fenced_rule c q w job waited = refl

stale_append : (d : ServerContext) (r : RangeState) (body : AppendBody) → is_serving r.stage ≡ true → IsAwaited r.log.job (bodies.Append body) → is_stale (bodies.Append body) ≡ true → log_taken d r (bodies.Append body) ≡ dropped d r
stale_append d r (appends.Refused w refusals.Stale) serving waited stale =
    let waits_for : awaits r.log.job w ≡ true = waited in
    let is : (reaction d r (bodies.Append (appends.Refused w refusals.Stale))).news ≡ Some news.Fenced = rw waits_for (fenced_rule (picking d r.log) (request d) w r.log.job waited) in
    serving_rule d r (bodies.Append (appends.Refused w refusals.Stale)) serving
    ∙ ap (λ (told : Option News). serving_news d (record r { log = (reaction d r (bodies.Append (appends.Refused w refusals.Stale))).after }) told (option_to_list (reaction d r (bodies.Append (appends.Refused w refusals.Stale))).packet)) is
stale_append d r (appends.Refused w refusal) serving waited stale = absurd cc
stale_append d r body serving waited stale = absurd cc

pub drops : (d : ServerContext) (r : RangeState) (body : Body) → is_serving r.stage ≡ true → IsAwaited r.log.job body → is_stale body ≡ true → log_taken d r body ≡ dropped d r
drops d r (bodies.Append body) serving waited stale = stale_append d r body serving waited stale
drops d r body serving waited stale = absurd cc

-- ---- a group that stands

pub stands : (d : ServerContext) (r : RangeState) (body : Body) (e offset : ℕ) → is_serving r.stage ≡ true → IsAppended r.log.job body e offset
    → log_taken d r body ≡ log_done d (taking d r body) r.out e offset
stands d r body e offset serving appended =
    let job_is = appended.job_is in
    let body_is = appended.body_is.1 in
    let same = appended.body_is.2 in
    rw (body_is, serving, job_is, same) refl

done_rule : (d : ServerContext) (now : RangeState) (out : Option OutGroup) (mid new : RangeState) (e offset count : ℕ) (packets : List Packet) (notes : List TableNote) (packet : Option Packet) (more : List TableNote)
    → is_some out ≡ true → count ≡ suc d.count
    → mid ≡ record now { live = put_all now.live (changes_out out e offset); position = record { index = (now.log.base + length now.log.extents) - 1; offset = offset + size_out out }; out = None }
    → packets ≡ committed_out d out → notes ≡ dones_out now.load.range now.load.generation out → forms d mid ≡ goes d new (option_to_list packet) more
    → log_done d now out e offset ≡ record { after = Some new; count = count; packets = packets ++ option_to_list packet; notes = notes ++ more }
done_rule d now None mid new e offset count packets notes packet more some counted mid_is packets_is notes_is formed = absurd cc
done_rule d now (Some out) mid new e offset count packets notes packet more some counted mid_is packets_is notes_is formed =
    let step : forms d (record now { live = put_all now.live (changes_out (Some out) e offset); position = record { index = (now.log.base + length now.log.extents) - 1; offset = offset + size_out (Some out) }; out = None }) ≡ goes d new (option_to_list packet) more
    = ap (forms d) (sym mid_is) ∙ formed in
    λ i. record { after = (step i).after; count = ((ap (λ (o : RangeOutcome). o.count) step) ∙ sym counted) i; packets = sym packets_is i ++ (step i).packets; notes = sym notes_is i ++ (step i).notes }

-- the client keeps its extents where a group stands
ended_rule : (d : ServerContext) (r : RangeState) (body : Body) (e offset : ℕ) → IsAppended r.log.job body e offset → (reaction d r body).after ≡ record (picking d r.log) { job = Idle; group = [] }
ended_rule d r body e offset appended =
    let job_is = appended.job_is in
    let body_is = appended.body_is.1 in
    let same = appended.body_is.2 in
    rw (body_is, job_is, same) refl

pub acknowledged : (d : ServerContext) (r mid new : RangeState) (body : Body) (e offset count : ℕ) (packets : List Packet) (notes : List TableNote) (packet : Option Packet) (more : List TableNote)
    → is_some r.out ≡ true → IsAppended r.log.job body e offset → count ≡ suc d.count
    → mid ≡ record r { log = (reaction d r body).after; live = put_all r.live (changes_out r.out e offset); position = record { index = (r.log.base + length r.log.extents) - 1; offset = offset + size_out r.out }; out = None }
    → packets ≡ committed_out d r.out → notes ≡ dones_out r.load.range r.load.generation r.out → forms d mid ≡ goes d new (option_to_list packet) more
    → log_done d (taking d r body) r.out e offset ≡ record { after = Some new; count = count; packets = packets ++ option_to_list packet; notes = notes ++ more }
acknowledged d r mid new body e offset count packets notes packet more some appended counted mid_is packets_is notes_is formed =
    let ended = ended_rule d r body e offset appended in
    let now : RangeState = taking d r body in
    let index : (r.log.base + length r.log.extents) - 1 ≡ (now.log.base + length now.log.extents) - 1 = ap (λ (c : ClientState). (c.base + length c.extents) - 1) (sym ended) in
    done_rule d now r.out mid new e offset count packets notes packet more some counted
    (mid_is ∙ ap (λ (n : ℕ). record now { live = put_all r.live (changes_out r.out e offset); position = record { index = n; offset = offset + size_out r.out }; out = None }) index)
    packets_is notes_is formed

-- ---- where a group may stand

and_left : (a b : Bool) → (a && b) ≡ true → a ≡ true
and_left true b both = refl
and_left false b both = both

and_right : (a b : Bool) → (a && b) ≡ true → b ≡ true
and_right true b both = both
and_right false b both = absurd cc

-- the indexes of the log's extents fit 64 bits, where a group that is out may stand
pub may_be_counted : (r : RangeState) (out : Option OutGroup) (offset : ℕ) → may_stand r out offset ≡ true → is_some out ≡ true → are_counted r.log ≡ true
may_be_counted r None offset stands some = absurd cc
may_be_counted r (Some out) offset stands some = and_right (nat_lt (offset + size_out (Some out)) (2 ^ 32)) (are_counted r.log) stands

-- the group ends where an extent may reach
pub may_fit : (r : RangeState) (out : Option OutGroup) (offset : ℕ) → may_stand r out offset ≡ true → is_some out ≡ true → offset + size_out out < 2 ^ 32
may_fit r None offset stands some = absurd cc
may_fit r (Some out) offset stands some = ltb-true (offset + size_out (Some out)) (2 ^ 32) (and_left (nat_lt (offset + size_out (Some out)) (2 ^ 32)) (are_counted r.log) stands)

pub taken_stands : (r : RangeState) (body : Body) (e offset : ℕ) → IsAppended r.log.job body e offset → is_taken r body ≡ true → may_stand r r.out offset ≡ true
taken_stands r body e offset appended taken = subst (λ (b : Body). is_taken r b ≡ true) appended.body_is.1 taken

-- ---- what is awaited

abbrev IfSomeAwaits : Job → Option ReqNo → Type 0
IfSomeAwaits job None = Unit {0}
IfSomeAwaits job (Some w) = awaits job w ≡ true

append_awaited : (job : Job) (w : ReqNo) (body : AppendBody) → append_number body ≡ Some w → awaits job w ≡ true → IsAwaited job (bodies.Append body)
append_awaited job w (appends.Appended v e offset) is waited = subst (λ (x : Option ReqNo). IfSomeAwaits job x) (sym is) waited
append_awaited job w (appends.Refused v refusal) is waited = subst (λ (x : Option ReqNo). IfSomeAwaits job x) (sym is) waited
append_awaited job w body is waited = tt

pub load_awaited : (phase : LoadPhase) (w : ReqNo) (body : Body) → answered_number body ≡ Some w → load_awaits phase w ≡ true → is_awaited phase body ≡ true
load_awaited phase w body is waited = ap (λ (x : Option ReqNo). awaits_number phase x) is ∙ waited

pub awaited : (job : Job) (w : ReqNo) (body : Body) → answered_number body ≡ Some w → awaits job w ≡ true → IsAwaited job body
awaited job w (bodies.Append body) is waited = append_awaited job w body is waited
awaited job w body is waited = tt

-- an answer that is awaited, and tells of no group that stands, ends no append
pub no_end : (job : Job) (body : Body) → IsAwaited job body → ((e offset : ℕ) → IsAppended job body e offset → ⊥) → is_end_of job body ≡ false
no_end (Sent e q) (bodies.Append (appends.Appended w told offset)) waited none = absurd (none e offset (record { request = q; told = told; job_is = refl; body_is = (w, refl, waited) }))
no_end (Sent e q) (bodies.Append body) waited none = refl
no_end job body waited none = refl

-- ---- what a step leaves

pub left : (d : ServerContext) (w : RangeState) (t : RangeStep) (packet : Option Packet) (packets : List Packet) → t ≡ record { dropped = false; count = d.count + 1; packets = packets; notes = [] } → packets ≡ option_to_list packet
    → goes d w (option_to_list packet) [] ≡ outcome t w
left d w t packet packets t_is packets_is =
    let counted : suc d.count ≡ d.count + 1 = omega arith in
    let first : goes d w (option_to_list packet) [] ≡ outcome (record { dropped = false; count = d.count + 1; packets = packets; notes = [] }) w = λ i. record { after = Some w; count = counted i; packets = sym packets_is i; notes = [] } in
    first ∙ ap (λ (x : RangeStep). outcome x w) (sym t_is)
