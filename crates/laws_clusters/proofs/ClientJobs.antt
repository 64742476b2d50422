-- What a step of a client sends is what its job then waits for, and a job is the one that was out, or has a new number.
use Rattle.std.proofs.Common.{◌≡◌, ◌⊎◌, ℕ, true, false, Option, Some, None, Result, Ok, Err, refl, sym, inl, inr, slice_get}
use Rattle.block_types.specs.declared.record.Nodes.{Nodes}
use Rattle.wire.specs.declared.actor.ReqNo.{ReqNo}
use Rattle.wire.specs.declared.body.AppendBody.{AppendBody}
use Rattle.wire.specs.declared.body.AppendBody.TheVariants as appends
use Rattle.wire.specs.declared.body.CheckBody.{CheckBody}
use Rattle.wire.specs.declared.body.CheckBody.TheVariants as checks
use Rattle.wire.specs.declared.body.SealBody.{SealBody}
use Rattle.wire.specs.declared.body.SealBody.TheVariants as seals
use Rattle.wire.specs.declared.body.ReadBody.{ReadBody}
use Rattle.wire.specs.declared.body.ReadBody.TheVariants as reads
use Rattle.wire.specs.declared.body.StreamBody.{StreamBody}
use Rattle.wire.specs.declared.body.StreamBody.TheVariants as streams
use Rattle.wire.specs.declared.body.Body.{Body}
use Rattle.wire.specs.declared.body.Body.TheVariants as bodies
use Rattle.wire.specs.declared.packet.Packet.{Packet}
use Rattle.wire.specs.declared.refusal.Refusal.{Refusal}
use Rattle.wire.specs.declared.refusal.Refusal.TheVariants as refusals
use Rattle.wire.specs.declared.streams.StreamExtent.{StreamExtent}
use Rattle.replica.specs.Groups.{Group}
use Rattle.client.specs.declared.fault.ClientFault.{ClientFault}
use Rattle.client.specs.declared.job.Job.{Job}
use Rattle.client.specs.declared.job.Job.TheVariants.{Idle, Sent, Closing, Growing, Checking, Shutting, Reading}
use Rattle.client.specs.Client.{ClientState, Outcome, append_behind, append_at, append_rule, check_behind, check_at, check_rule, read_whole, read_at, read_sealed_rule, read_open, read_checked_at, read_checked_rule, fenced_if, append_refused, refused_job, appended_job, checked_job, sealed_job, groups_job, extended_job, if_awaited, append_reply, check_reply, seal_reply, read_reply, stream_reply, reply_rule, give_up_job, give_up_rule, is_idle, awaits, waits, last_extent}
use Rattle.model_streams.proofs.Tests.{if_elim}
use Rattle.model_partition.specs.Range.{given}
use Rattle.client.specs.declared.job.News.TheVariants as news
use Rattle.laws_stream_machine.proofs.ServerRequests.{same_request}
use Rattle.laws_ranges.proofs.ClientReplies.{ByJob, reply_takes}

-- ---- what a job waits for

-- a request about extents is that of the client's job: its extent, its group, its stream; no stream is built, and nothing is asked of the map
abbrev pub AsksBy : ClientState → Body → Type 0
AsksBy c (bodies.Append (appends.Append e g blocks q)) = (c.job ≡ Sent e q) × (blocks ≡ c.group)
AsksBy c (bodies.Seal (seals.SealExtent e q)) = (c.job ≡ Closing e q) ⊎ (c.job ≡ Shutting e q)
AsksBy c (bodies.Stream (streams.Extend stream g last pick q)) = (c.job ≡ Growing last q) × (stream ≡ c.stream)
AsksBy c (bodies.Stream (streams.MultiModify list q)) = ⊥
AsksBy c (bodies.Map body) = ⊥
AsksBy c body = Unit {0}

abbrev pub AskedIf : ClientState → Option Packet → Type 0
AskedIf c None = Unit {0}
AskedIf c (Some p) = AsksBy c p.body

-- what a client sends its job waits for
abbrev pub Asks : Outcome → Type 0
Asks o = AskedIf o.after o.packet

abbrev pub AsksIf : Result Outcome ClientFault → Type 0
AsksIf (Ok o) = Asks o
AsksIf (Err fault) = Unit {0}

-- every number that is waited for is this one
abbrev pub IsUnder : ReqNo → Job → Type 0
IsUnder q job = (v : ReqNo) → awaits job v ≡ true → v ≡ q

-- nothing is out, or what was out for the same group, or a job under this number
abbrev pub JobFrom : ClientState → ReqNo → ClientState → Type 0
JobFrom c q n = (n.job ≡ Idle) ⊎ (((n.job ≡ c.job) × (n.group ≡ c.group)) ⊎ IsUnder q n.job)

-- what a step leaves of the job, and sends
abbrev pub Steps : ClientState → ReqNo → Outcome → Type 0
Steps c q o = JobFrom c q o.after × Asks o

abbrev pub StepsIf : ClientState → ReqNo → Result Outcome ClientFault → Type 0
StepsIf c q (Ok o) = Steps c q o
StepsIf c q (Err fault) = Unit {0}

-- no groups are read
abbrev pub ReadsNothing : Job → Type 0
ReadsNothing (Reading e places upto sealed place q) = ⊥
ReadsNothing job = Unit {0}

under : (q v : ReqNo) → awaits (Sent 0 q) v ≡ true → v ≡ q
under q v t = sym (same_request q v t)

waits_steps : (c : ClientState) (q : ReqNo) → Steps c q (waits c)
waits_steps c q = (inr (inl (refl, refl)), tt)

pub given_asks : (c : ClientState) (r : Result Outcome ClientFault) → AsksIf r → Asks (given c r)
given_asks c (Ok o) h = h
given_asks c (Err fault) h = tt

pub given_steps : (c : ClientState) (q : ReqNo) (r : Result Outcome ClientFault) → StepsIf c q r → Steps c q (given c r)
given_steps c q (Ok o) h = h
given_steps c q (Err fault) h = waits_steps c q

-- ---- requests

append_behind_steps : (c : ClientState) (q : ReqNo) (x : StreamExtent) (l : Option ℕ) (d : ClientState) → Steps d q (append_behind c q x l)
append_behind_steps c q x None d = (inr (inr (under q)), (refl, refl))
append_behind_steps c q x (Some sealed) d = (inr (inr (under q)), (refl, refl))

append_at_steps : (c : ClientState) (q : ReqNo) (x : Option StreamExtent) (d : ClientState) → Steps d q (append_at c q x)
append_at_steps c q None d = (inr (inr (under q)), (refl, refl))
append_at_steps c q (Some x) d = append_behind_steps c q x x.length d

pub append_steps : (c : ClientState) (q : ReqNo) (blocks : Group) → StepsIf c q (append_rule c q blocks)
append_steps c q blocks =
    if_elim (StepsIf c q) (is_idle c.job) _ _ (λ t. append_at_steps (record c { group = blocks }) q (last_extent c.extents) c) (λ f. tt)

check_behind_asks : (c : ClientState) (q : ReqNo) (x : StreamExtent) (l : Option ℕ) → AsksIf (check_behind c q x l)
check_behind_asks c q x None = tt
check_behind_asks c q x (Some sealed) = tt

check_at_asks : (c : ClientState) (q : ReqNo) (x : Option StreamExtent) → AsksIf (check_at c q x)
check_at_asks c q None = tt
check_at_asks c q (Some x) = check_behind_asks c q x x.length

pub check_asks : (c : ClientState) (q : ReqNo) → AsksIf (check_rule c q)
check_asks c q = if_elim AsksIf (is_idle c.job) _ _ (λ t. check_at_asks c q (last_extent c.extents)) (λ f. tt)

read_whole_asks : (c : ClientState) (q : ReqNo) (x : StreamExtent) (l : Option ℕ) → AsksIf (read_whole c q x l)
read_whole_asks c q x None = tt
read_whole_asks c q x (Some sealed) = tt

read_at_asks : (c : ClientState) (q : ReqNo) (x : Option StreamExtent) → AsksIf (read_at c q x)
read_at_asks c q None = tt
read_at_asks c q (Some x) = read_whole_asks c q x x.length

pub read_sealed_asks : (c : ClientState) (q : ReqNo) (position : ℕ) → AsksIf (read_sealed_rule c q position)
read_sealed_asks c q position = if_elim AsksIf (is_idle c.job) _ _ (λ t. read_at_asks c q (slice_get c.extents position)) (λ f. tt)

read_open_asks : (c : ClientState) (q : ReqNo) (x : StreamExtent) (l k : Option ℕ) → AsksIf (read_open c q x l k)
read_open_asks c q x None (Some checked) = tt
read_open_asks c q x None None = tt
read_open_asks c q x (Some sealed) k = tt

read_checked_at_asks : (c : ClientState) (q : ReqNo) (x : Option StreamExtent) → AsksIf (read_checked_at c q x)
read_checked_at_asks c q None = tt
read_checked_at_asks c q (Some x) = read_open_asks c q x x.length c.checked

pub read_checked_asks : (c : ClientState) (q : ReqNo) → AsksIf (read_checked_rule c q)
read_checked_asks c q = if_elim AsksIf (is_idle c.job) _ _ (λ t. read_checked_at_asks c q (last_extent c.extents)) (λ f. tt)

-- ---- answers

module _ (c : ClientState) (q : ReqNo) where
  fenced_steps : (refusal : Refusal) → Steps c q (fenced_if c refusal)
  fenced_steps refusals.Stale = (inl refl, tt)
  fenced_steps refusal = waits_steps c q

  append_refused_steps : (e : ℕ) (refusal : Refusal) → Steps c q (append_refused c q e refusal)
  append_refused_steps e refusals.NotOpen = (inr (inr (under q)), inl refl)
  append_refused_steps e refusals.ExtentFull = (inr (inr (under q)), inl refl)
  append_refused_steps e refusals.Stale = (inl refl, tt)
  append_refused_steps e refusal = waits_steps c q

  refused_steps : (refusal : Refusal) (job : Job) → Steps c q (refused_job c q refusal job)
  refused_steps refusal (Sent e w) = append_refused_steps e refusal
  refused_steps refusal job = fenced_steps refusal

  appended_steps : (offset : ℕ) (job : Job) → Steps c q (appended_job c offset job)
  appended_steps offset (Sent e w) = (inl refl, tt)
  appended_steps offset job = waits_steps c q

  checked_steps : (found : Option ℕ) (job : Job) → Steps c q (checked_job c q found job)
  checked_steps (Some found) (Checking e w) = (inl refl, tt)
  checked_steps None (Checking e w) = (inr (inr (under q)), inr refl)
  checked_steps found job = waits_steps c q

  sealed_steps : (sealed : ℕ) (job : Job) → Steps c q (sealed_job c q sealed job)
  sealed_steps sealed (Closing e w) = (inr (inr (under q)), (refl, refl))
  sealed_steps sealed (Shutting e w) = (inl refl, tt)
  sealed_steps sealed job = waits_steps c q

  groups_steps : (job : Job) → Steps c q (groups_job c job)
  groups_steps (Reading e places upto sealed place w) = (inl refl, tt)
  groups_steps job = waits_steps c q

  extended_steps : (e : ℕ) (at : Nodes) (job : Job) → Steps c q (extended_job c q e at job)
  extended_steps e at (Growing last w) = (inr (inr (under q)), (refl, refl))
  extended_steps e at job = waits_steps c q

  awaited_steps : (w : ReqNo) (o : Outcome) → Steps c q o → Steps c q (if_awaited c w o)
  awaited_steps w o h = if_elim (Steps c q) (awaits c.job w) o (waits c) (λ t. h) (λ f. waits_steps c q)

  append_reply_steps : (body : AppendBody) → Steps c q (append_reply c q body)
  append_reply_steps (appends.Appended w e offset) = awaited_steps w (appended_job c offset c.job) (appended_steps offset c.job)
  append_reply_steps (appends.Refused w refusal) = awaited_steps w (refused_job c q refusal c.job) (refused_steps refusal c.job)
  append_reply_steps body = waits_steps c q

  check_reply_steps : (body : CheckBody) → Steps c q (check_reply c q body)
  check_reply_steps (checks.Checked w found) = awaited_steps w (checked_job c q found c.job) (checked_steps found c.job)
  check_reply_steps body = waits_steps c q

  seal_reply_steps : (body : SealBody) → Steps c q (seal_reply c q body)
  seal_reply_steps (seals.SealedIs w e sealed) = awaited_steps w (sealed_job c q sealed c.job) (sealed_steps sealed c.job)
  seal_reply_steps body = waits_steps c q

  read_reply_steps : (body : ReadBody) → Steps c q (read_reply c body)
  read_reply_steps (reads.Groups w e groups) = awaited_steps w (groups_job c c.job) (groups_steps c.job)
  read_reply_steps body = waits_steps c q

  stream_reply_steps : (body : StreamBody) → Steps c q (stream_reply c q body)
  stream_reply_steps (streams.Extended w e at) = awaited_steps w (extended_job c q e at c.job) (extended_steps e at c.job)
  stream_reply_steps body = waits_steps c q

  pub reply_steps : (body : Body) → Steps c q (reply_rule c q body)
  reply_steps (bodies.Append body) = append_reply_steps body
  reply_steps (bodies.Check body) = check_reply_steps body
  reply_steps (bodies.Seal body) = seal_reply_steps body
  reply_steps (bodies.Read body) = read_reply_steps body
  reply_steps (bodies.Stream body) = stream_reply_steps body
  reply_steps body = waits_steps c q

  -- an append that was answered leaves nothing out
  abbrev IdleIf : Outcome → Type 0
  IdleIf o = (e offset : ℕ) → o.news ≡ Some (news.Appended e offset) → o.after.job ≡ Idle

  refused_idle : (e : ℕ) (why : Refusal) → IdleIf (append_refused c q e why)
  refused_idle e refusals.NotOpen a b is = absurd cc
  refused_idle e refusals.ExtentFull a b is = absurd cc
  refused_idle e refusals.Stale a b is = absurd cc
  refused_idle e why a b is = absurd cc

  by_job : (body : Body) (j : Job) → c.job ≡ j → ByJob q IdleIf c body j
  by_job body Idle at = tt
  by_job body (Sent e r) at = ((λ v n offset same is a b told. refl), λ why. refused_idle e why)
  by_job body (Closing e r) at = λ v n l same is a b told. absurd cc
  by_job body (Growing last r) at = λ v n places same is a b told. absurd cc
  by_job body (Checking e r) at = ((λ a b told. absurd cc), λ v found same is a b told. absurd cc)
  by_job body (Shutting e r) at = λ v n l same is a b told. absurd cc
  by_job body (Reading e places upto sealed place r) at = λ v n groups same is a b told. absurd cc

  pub appended_idle : (body : Body) → IdleIf (reply_rule c q body)
  appended_idle body = reply_takes q IdleIf c body (λ a b told. absurd cc) (λ v t a b told. absurd cc) (by_job body c.job refl)

  -- ---- giving up

  give_up_job_asks : (job : Job) → Asks (give_up_job c q job)
  give_up_job_asks Idle = tt
  give_up_job_asks (Sent e w) = inl refl
  give_up_job_asks (Closing e w) = inl refl
  give_up_job_asks (Growing last w) = (refl, refl)
  give_up_job_asks (Checking e w) = inr refl
  give_up_job_asks (Shutting e w) = inr refl
  give_up_job_asks (Reading e places upto true place w) = tt
  give_up_job_asks (Reading e places upto false place w) = inr refl

  give_up_job_from : (job : Job) → c.job ≡ job → ReadsNothing job → JobFrom c q (give_up_job c q job).after
  give_up_job_from Idle is no_read = inr (inl (refl, refl))
  give_up_job_from (Sent e w) is no_read = inr (inr (under q))
  give_up_job_from (Closing e w) is no_read = inr (inl (sym is, refl))
  give_up_job_from (Growing last w) is no_read = inr (inl (sym is, refl))
  give_up_job_from (Checking e w) is no_read = inr (inr (under q))
  give_up_job_from (Shutting e w) is no_read = inr (inl (sym is, refl))
  give_up_job_from (Reading e places upto sealed place w) is no_read = absurd no_read

pub give_up_asks : (c : ClientState) (q : ReqNo) (pick : Nodes) → Asks (give_up_rule c q pick)
give_up_asks c q pick = give_up_job_asks (record c { pick = pick }) q c.job

pub give_up_from : (c : ClientState) (q : ReqNo) (pick : Nodes) → ReadsNothing c.job → JobFrom c q (give_up_rule c q pick).after
give_up_from c q pick no_read = give_up_job_from (record c { pick = pick }) q c.job refl no_read
