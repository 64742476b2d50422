-- What a client sends a server sends, and may.
use Rattle.std.proofs.Common.{◌≡◌, ℕ, true, false, List, [], ◌∷◌, ◌++◌, Option, Some, None, Result, Ok, Err, refl, inl, inr, map, flat_map, slice_get}
use Rattle.std.specs.Prelude.{option_to_list}
use Rattle.block_types.specs.declared.record.Nodes.{Nodes}
use Rattle.wire.specs.declared.actor.ReqNo.{ReqNo}
use Rattle.wire.specs.declared.body.AppendBody.{AppendBody}
use Rattle.wire.specs.declared.body.AppendBody.TheVariants as appends
use Rattle.wire.specs.declared.body.CheckBody.{CheckBody}
use Rattle.wire.specs.declared.body.CheckBody.TheVariants as checks
use Rattle.wire.specs.declared.body.SealBody.{SealBody}
use Rattle.wire.specs.declared.body.SealBody.TheVariants as seals
use Rattle.wire.specs.declared.body.ReadBody.{ReadBody}
use Rattle.wire.specs.declared.body.ReadBody.TheVariants as reads
use Rattle.wire.specs.declared.body.StreamBody.{StreamBody}
use Rattle.wire.specs.declared.body.StreamBody.TheVariants as streams
use Rattle.wire.specs.declared.body.Body.{Body}
use Rattle.wire.specs.declared.body.Body.TheVariants as bodies
use Rattle.wire.specs.declared.packet.Packet.{Packet}
use Rattle.wire.specs.declared.refusal.Refusal.{Refusal}
use Rattle.wire.specs.declared.refusal.Refusal.TheVariants as refusals
use Rattle.wire.specs.declared.streams.StreamExtent.{StreamExtent}
use Rattle.client.specs.declared.fault.ClientFault.{ClientFault}
use Rattle.client.specs.declared.job.Job.{Job}
use Rattle.client.specs.declared.job.Job.TheVariants.{Idle, Sent, Closing, Growing, Checking, Shutting, Reading}
use Rattle.client.specs.declared.load.LoadPhase.{LoadPhase}
use Rattle.client.specs.declared.load.LoadPhase.TheVariants as phases
use Rattle.client.specs.Client.{ClientState, Outcome, append_behind, append_at, append_rule, check_behind, check_at, check_rule, read_whole, read_at, read_sealed_rule, read_open, read_checked_at, read_checked_rule, fenced_if, append_refused, refused_job, appended_job, checked_job, sealed_job, groups_job, extended_job, if_awaited, append_reply, check_reply, seal_reply, read_reply, stream_reply, reply_rule, give_up_job, give_up_rule, is_idle, awaits, waits, last_extent}
use Rattle.client.specs.Load.{LoadState, again}
use Rattle.model_streams.proofs.Tests.{if_elim}
use Rattle.model_partition.specs.Range.{given}
use Rattle.model_streams.specs.StreamSystem.{is_told}
use Rattle.laws_servers.specs.Sending.{MaySend, MaySendAll, is_server_answer, is_map_call, IsFromRange, AllFromRanges, IsFromServer, AllFromServers}

-- ---- lists of packets

abbrev pub IfFromRange : Option Packet → Type 0
IfFromRange None = Unit {0}
IfFromRange (Some p) = IsFromRange p

pub all_both : (xs ys : List Packet) → AllFromRanges xs → AllFromRanges ys → AllFromRanges (xs ++ ys)
all_both [] ys a b = b
all_both (x ∷ xs) ys a b = (a.0, all_both xs ys a.1 b)

pub all_map : {A : Type 0} (f : A → Packet) → ((x : A) → IsFromRange (f x)) → (xs : List A) → AllFromRanges (map f xs)
all_map f h [] = tt
all_map f h (x ∷ xs) = (h x, all_map f h xs)

pub all_flat : {A : Type 0} (f : A → List Packet) → ((x : A) → AllFromRanges (f x)) → (xs : List A) → AllFromRanges (flat_map f xs)
all_flat f h [] = tt
all_flat f h (x ∷ xs) = all_both (f x) (flat_map f xs) (h x) (all_flat f h xs)

pub listed : (p : Option Packet) → IfFromRange p → AllFromRanges (option_to_list p)
listed None h = tt
listed (Some p) h = (h, tt)

answer_told : (body : Body) → is_server_answer body ≡ true → is_told body ≡ true
answer_told (bodies.Append body) is = is
answer_told (bodies.Table body) is = refl
answer_told body is = absurd cc

map_call_told : (body : Body) → is_map_call body ≡ true → is_told body ≡ true
map_call_told (bodies.Map body) is = refl
map_call_told body is = absurd cc

-- what servers send they may send
may_send : (p : Packet) → IsFromServer p → MaySend p
may_send p (server, from, inl call) = inl (record { server = server; from = from; call = call })
may_send p (server, from, inr (inl answer)) = inr (answer_told p.body answer)
may_send p (server, from, inr (inr call)) = inr (map_call_told p.body call)

pub may_send_all : (ps : List Packet) → AllFromServers ps → MaySendAll ps
may_send_all [] h = tt
may_send_all (p ∷ ps) h = (may_send p h.0, may_send_all ps h.1)

-- what ranges without splits send is from servers
range_server : (p : Packet) → IsFromRange p → IsFromServer p
range_server p (server, from, inl call) = (server, from, inl call)
range_server p (server, from, inr answer) = (server, from, inr (inl answer))

pub from_servers : (ps : List Packet) → AllFromRanges ps → AllFromServers ps
from_servers [] h = tt
from_servers (p ∷ ps) h = (range_server p h.0, from_servers ps h.1)

pub servers_both : (xs ys : List Packet) → AllFromServers xs → AllFromServers ys → AllFromServers (xs ++ ys)
servers_both [] ys a b = b
servers_both (x ∷ xs) ys a b = (a.0, servers_both xs ys a.1 b)

-- ---- requests of a client

-- what a client sends a server sends
abbrev pub Calls : Outcome → Type 0
Calls o = IfFromRange o.packet

abbrev pub CallsIf : Result Outcome ClientFault → Type 0
CallsIf (Ok o) = Calls o
CallsIf (Err fault) = Unit {0}

pub given_calls : (c : ClientState) (r : Result Outcome ClientFault) → CallsIf r → Calls (given c r)
given_calls c (Ok o) h = h
given_calls c (Err fault) h = tt

append_behind_calls : (c : ClientState) (q : ReqNo) (x : StreamExtent) (l : Option ℕ) → Calls (append_behind c q x l)
append_behind_calls c q x None = (c.server, refl, inl refl)
append_behind_calls c q x (Some sealed) = (c.server, refl, inl refl)

append_at_calls : (c : ClientState) (q : ReqNo) (x : Option StreamExtent) → Calls (append_at c q x)
append_at_calls c q None = (c.server, refl, inl refl)
append_at_calls c q (Some x) = append_behind_calls c q x x.length

pub append_rule_calls : (c : ClientState) (q : ReqNo) (blocks : List (List ℕ)) → CallsIf (append_rule c q blocks)
append_rule_calls c q blocks =
    if_elim CallsIf (is_idle c.job) _ _ (λ t. append_at_calls (record c { group = blocks }) q (last_extent c.extents)) (λ f. tt)

check_behind_calls : (c : ClientState) (q : ReqNo) (x : StreamExtent) (l : Option ℕ) → CallsIf (check_behind c q x l)
check_behind_calls c q x None = (c.server, refl, inl refl)
check_behind_calls c q x (Some sealed) = tt

check_at_calls : (c : ClientState) (q : ReqNo) (x : Option StreamExtent) → CallsIf (check_at c q x)
check_at_calls c q None = tt
check_at_calls c q (Some x) = check_behind_calls c q x x.length

pub check_rule_calls : (c : ClientState) (q : ReqNo) → CallsIf (check_rule c q)
check_rule_calls c q = if_elim CallsIf (is_idle c.job) _ _ (λ t. check_at_calls c q (last_extent c.extents)) (λ f. tt)

read_whole_calls : (c : ClientState) (q : ReqNo) (x : StreamExtent) (l : Option ℕ) → CallsIf (read_whole c q x l)
read_whole_calls c q x None = tt
read_whole_calls c q x (Some sealed) = (c.server, refl, inl refl)

read_at_calls : (c : ClientState) (q : ReqNo) (x : Option StreamExtent) → CallsIf (read_at c q x)
read_at_calls c q None = tt
read_at_calls c q (Some x) = read_whole_calls c q x x.length

pub read_sealed_calls : (c : ClientState) (q : ReqNo) (position : ℕ) → CallsIf (read_sealed_rule c q position)
read_sealed_calls c q position = if_elim CallsIf (is_idle c.job) _ _ (λ t. read_at_calls c q (slice_get c.extents position)) (λ f. tt)

read_open_calls : (c : ClientState) (q : ReqNo) (x : StreamExtent) (l k : Option ℕ) → CallsIf (read_open c q x l k)
read_open_calls c q x None (Some checked) = (c.server, refl, inl refl)
read_open_calls c q x None None = tt
read_open_calls c q x (Some sealed) k = tt

read_checked_at_calls : (c : ClientState) (q : ReqNo) (x : Option StreamExtent) → CallsIf (read_checked_at c q x)
read_checked_at_calls c q None = tt
read_checked_at_calls c q (Some x) = read_open_calls c q x x.length c.checked

pub read_checked_calls : (c : ClientState) (q : ReqNo) → CallsIf (read_checked_rule c q)
read_checked_calls c q = if_elim CallsIf (is_idle c.job) _ _ (λ t. read_checked_at_calls c q (last_extent c.extents)) (λ f. tt)

-- ---- what a client does with answers

fenced_calls : (c : ClientState) (refusal : Refusal) → Calls (fenced_if c refusal)
fenced_calls c refusals.Stale = tt
fenced_calls c refusal = tt

append_refused_calls : (c : ClientState) (q : ReqNo) (e : ℕ) (refusal : Refusal) → Calls (append_refused c q e refusal)
append_refused_calls c q e refusals.NotOpen = (c.server, refl, inl refl)
append_refused_calls c q e refusals.ExtentFull = (c.server, refl, inl refl)
append_refused_calls c q e refusals.Stale = tt
append_refused_calls c q e refusal = tt

refused_calls : (c : ClientState) (q : ReqNo) (refusal : Refusal) (job : Job) → Calls (refused_job c q refusal job)
refused_calls c q refusal (Sent e w) = append_refused_calls c q e refusal
refused_calls c q refusal job = fenced_calls c refusal

appended_calls : (c : ClientState) (offset : ℕ) (job : Job) → Calls (appended_job c offset job)
appended_calls c offset (Sent e w) = tt
appended_calls c offset job = tt

checked_calls : (c : ClientState) (q : ReqNo) (found : Option ℕ) (job : Job) → Calls (checked_job c q found job)
checked_calls c q (Some found) (Checking e w) = tt
checked_calls c q None (Checking e w) = (c.server, refl, inl refl)
checked_calls c q found job = tt

sealed_calls : (c : ClientState) (q : ReqNo) (sealed : ℕ) (job : Job) → Calls (sealed_job c q sealed job)
sealed_calls c q sealed (Closing e w) = (c.server, refl, inl refl)
sealed_calls c q sealed (Shutting e w) = tt
sealed_calls c q sealed job = tt

groups_calls : (c : ClientState) (job : Job) → Calls (groups_job c job)
groups_calls c (Reading e places upto sealed place w) = tt
groups_calls c job = tt

extended_calls : (c : ClientState) (q : ReqNo) (e : ℕ) (at : Nodes) (job : Job) → Calls (extended_job c q e at job)
extended_calls c q e at (Growing last w) = (c.server, refl, inl refl)
extended_calls c q e at job = tt

awaited_calls : (c : ClientState) (w : ReqNo) (o : Outcome) → Calls o → Calls (if_awaited c w o)
awaited_calls c w o h = if_elim Calls (awaits c.job w) o (waits c) (λ t. h) (λ f. tt)

append_reply_calls : (c : ClientState) (q : ReqNo) (body : AppendBody) → Calls (append_reply c q body)
append_reply_calls c q (appends.Appended w e offset) = awaited_calls c w (appended_job c offset c.job) (appended_calls c offset c.job)
append_reply_calls c q (appends.Refused w refusal) = awaited_calls c w (refused_job c q refusal c.job) (refused_calls c q refusal c.job)
append_reply_calls c q body = tt

check_reply_calls : (c : ClientState) (q : ReqNo) (body : CheckBody) → Calls (check_reply c q body)
check_reply_calls c q (checks.Checked w found) = awaited_calls c w (checked_job c q found c.job) (checked_calls c q found c.job)
check_reply_calls c q body = tt

seal_reply_calls : (c : ClientState) (q : ReqNo) (body : SealBody) → Calls (seal_reply c q body)
seal_reply_calls c q (seals.SealedIs w e sealed) = awaited_calls c w (sealed_job c q sealed c.job) (sealed_calls c q sealed c.job)
seal_reply_calls c q body = tt

read_reply_calls : (c : ClientState) (body : ReadBody) → Calls (read_reply c body)
read_reply_calls c (reads.Groups w e groups) = awaited_calls c w (groups_job c c.job) (groups_calls c c.job)
read_reply_calls c body = tt

stream_reply_calls : (c : ClientState) (q : ReqNo) (body : StreamBody) → Calls (stream_reply c q body)
stream_reply_calls c q (streams.Extended w e at) = awaited_calls c w (extended_job c q e at c.job) (extended_calls c q e at c.job)
stream_reply_calls c q body = tt

pub reply_calls : (c : ClientState) (q : ReqNo) (body : Body) → Calls (reply_rule c q body)
reply_calls c q (bodies.Append body) = append_reply_calls c q body
reply_calls c q (bodies.Check body) = check_reply_calls c q body
reply_calls c q (bodies.Seal body) = seal_reply_calls c q body
reply_calls c q (bodies.Read body) = read_reply_calls c body
reply_calls c q (bodies.Stream body) = stream_reply_calls c q body
reply_calls c q body = tt

-- ---- what is sent again

give_up_job_calls : (c : ClientState) (q : ReqNo) (job : Job) → Calls (give_up_job c q job)
give_up_job_calls c q Idle = tt
give_up_job_calls c q (Reading e places upto true place w) = (c.server, refl, inl refl)
give_up_job_calls c q (Reading e places upto false place w) = (c.server, refl, inl refl)
give_up_job_calls c q job = (c.server, refl, inl refl)

pub give_up_calls : (c : ClientState) (q : ReqNo) (pick : Nodes) → Calls (give_up_rule c q pick)
give_up_calls c q pick = give_up_job_calls (record c { pick = pick }) q c.job

pub again_calls : (l : LoadState) (phase : LoadPhase) → IfFromRange (again l phase)
again_calls l (phases.Opening q) = (l.server, refl, inl refl)
again_calls l (phases.Confirming q) = (l.server, refl, inl refl)
again_calls l phase = tt
