-- A client of a stream neither opens ranges nor asks for splits.
use Rattle.std.proofs.Common.{ℕ, true, false, List, [], ◌∷◌, ◌++◌, Option, Some, None, Result, Ok, Err, map, flat_map, slice_get}
use Rattle.std.specs.Prelude.{option_to_list}
use Rattle.block_types.specs.declared.record.Nodes.{Nodes}
use Rattle.wire.specs.declared.actor.ReqNo.{ReqNo}
use Rattle.wire.specs.declared.body.AppendBody.{AppendBody}
use Rattle.wire.specs.declared.body.AppendBody.TheVariants as appends
use Rattle.wire.specs.declared.body.CheckBody.{CheckBody}
use Rattle.wire.specs.declared.body.CheckBody.TheVariants as checks
use Rattle.wire.specs.declared.body.SealBody.{SealBody}
use Rattle.wire.specs.declared.body.SealBody.TheVariants as seals
use Rattle.wire.specs.declared.body.ReadBody.{ReadBody}
use Rattle.wire.specs.declared.body.ReadBody.TheVariants as reads
use Rattle.wire.specs.declared.body.StreamBody.{StreamBody}
use Rattle.wire.specs.declared.body.StreamBody.TheVariants as streams
use Rattle.wire.specs.declared.body.Body.{Body}
use Rattle.wire.specs.declared.body.Body.TheVariants as bodies
use Rattle.wire.specs.declared.packet.Packet.{Packet}
use Rattle.wire.specs.declared.refusal.Refusal.{Refusal}
use Rattle.wire.specs.declared.refusal.Refusal.TheVariants as refusals
use Rattle.wire.specs.declared.streams.StreamExtent.{StreamExtent}
use Rattle.client.specs.declared.fault.ClientFault.{ClientFault}
use Rattle.client.specs.declared.job.Job.{Job}
use Rattle.client.specs.declared.job.Job.TheVariants.{Idle, Sent, Closing, Growing, Checking, Shutting, Reading}
use Rattle.client.specs.Client.{ClientState, Outcome, append_behind, append_at, append_rule, check_behind, check_at, check_rule, read_whole, read_at, read_sealed_rule, read_open, read_checked_at, read_checked_rule, fenced_if, append_refused, refused_job, appended_job, checked_job, sealed_job, groups_job, extended_job, if_awaited, append_reply, check_reply, seal_reply, read_reply, stream_reply, reply_rule, give_up_job, give_up_rule, is_idle, awaits, waits, last_extent}
use Rattle.model_streams.proofs.Tests.{if_elim}
use Rattle.model_partition.specs.Range.{given}
use Rattle.laws_map.specs.Openings.{IsQuiet, AreQuiet}
use Rattle.laws_map.proofs.Knowing.{each_both}

-- ---- lists of packets

pub quiet_both : (xs ys : List Packet) → AreQuiet xs → AreQuiet ys → AreQuiet (xs ++ ys)
quiet_both xs ys a b = each_both (λ (p : Packet). IsQuiet p.body) xs ys a b

pub quiet_map : {A : Type 0} (f : A → Packet) → ((x : A) → IsQuiet (f x).body) → (xs : List A) → AreQuiet (map f xs)
quiet_map f h [] = tt
quiet_map f h (x ∷ xs) = (h x, quiet_map f h xs)

pub quiet_flat : {A : Type 0} (f : A → List Packet) → ((x : A) → AreQuiet (f x)) → (xs : List A) → AreQuiet (flat_map f xs)
quiet_flat f h [] = tt
quiet_flat f h (x ∷ xs) = quiet_both (f x) (flat_map f xs) (h x) (quiet_flat f h xs)

-- ---- a client

abbrev pub IfQuiet : Option Packet → Type 0
IfQuiet None = Unit {0}
IfQuiet (Some p) = IsQuiet p.body

pub listed : (p : Option Packet) → IfQuiet p → AreQuiet (option_to_list p)
listed None h = tt
listed (Some p) h = (h, tt)

-- it sends nothing else
abbrev pub IsQuietStep : Outcome → Type 0
IsQuietStep o = IfQuiet o.packet

abbrev pub QuietIf : Result Outcome ClientFault → Type 0
QuietIf (Ok o) = IsQuietStep o
QuietIf (Err fault) = Unit {0}

pub given_quiet : (c : ClientState) (r : Result Outcome ClientFault) → QuietIf r → IsQuietStep (given c r)
given_quiet c (Ok o) k = k
given_quiet c (Err fault) k = tt

module _ (c : ClientState) (q : ReqNo) where
  append_behind_quiet : (x : StreamExtent) (l : Option ℕ) → IsQuietStep (append_behind c q x l)
  append_behind_quiet x None = tt
  append_behind_quiet x (Some sealed) = tt

  append_at_quiet : (x : Option StreamExtent) → IsQuietStep (append_at c q x)
  append_at_quiet None = tt
  append_at_quiet (Some x) = append_behind_quiet x x.length

  check_behind_quiet : (x : StreamExtent) (l : Option ℕ) → QuietIf (check_behind c q x l)
  check_behind_quiet x None = tt
  check_behind_quiet x (Some sealed) = tt

  check_at_quiet : (x : Option StreamExtent) → QuietIf (check_at c q x)
  check_at_quiet None = tt
  check_at_quiet (Some x) = check_behind_quiet x x.length

  pub check_rule_quiet : QuietIf (check_rule c q)
  check_rule_quiet = if_elim QuietIf (is_idle c.job) _ _ (λ t. check_at_quiet (last_extent c.extents)) (λ f. tt)

  read_whole_quiet : (x : StreamExtent) (l : Option ℕ) → QuietIf (read_whole c q x l)
  read_whole_quiet x None = tt
  read_whole_quiet x (Some sealed) = tt

  read_at_quiet : (x : Option StreamExtent) → QuietIf (read_at c q x)
  read_at_quiet None = tt
  read_at_quiet (Some x) = read_whole_quiet x x.length

  pub read_sealed_quiet : (position : ℕ) → QuietIf (read_sealed_rule c q position)
  read_sealed_quiet position = if_elim QuietIf (is_idle c.job) _ _ (λ t. read_at_quiet (slice_get c.extents position)) (λ f. tt)

  read_open_quiet : (x : StreamExtent) (l k : Option ℕ) → QuietIf (read_open c q x l k)
  read_open_quiet x None (Some checked) = tt
  read_open_quiet x None None = tt
  read_open_quiet x (Some sealed) k = tt

  read_checked_at_quiet : (x : Option StreamExtent) → QuietIf (read_checked_at c q x)
  read_checked_at_quiet None = tt
  read_checked_at_quiet (Some x) = read_open_quiet x x.length c.checked

  pub read_checked_quiet : QuietIf (read_checked_rule c q)
  read_checked_quiet = if_elim QuietIf (is_idle c.job) _ _ (λ t. read_checked_at_quiet (last_extent c.extents)) (λ f. tt)

  -- ---- answers

  fenced_quiet : (refusal : Refusal) → IsQuietStep (fenced_if c refusal)
  fenced_quiet refusals.Stale = tt
  fenced_quiet refusal = tt

  append_refused_quiet : (e : ℕ) (refusal : Refusal) → IsQuietStep (append_refused c q e refusal)
  append_refused_quiet e refusals.NotOpen = tt
  append_refused_quiet e refusals.ExtentFull = tt
  append_refused_quiet e refusals.Stale = tt
  append_refused_quiet e refusal = tt

  refused_quiet : (refusal : Refusal) (job : Job) → IsQuietStep (refused_job c q refusal job)
  refused_quiet refusal (Sent e w) = append_refused_quiet e refusal
  refused_quiet refusal job = fenced_quiet refusal

  appended_quiet : (offset : ℕ) (job : Job) → IsQuietStep (appended_job c offset job)
  appended_quiet offset (Sent e w) = tt
  appended_quiet offset job = tt

  checked_quiet : (found : Option ℕ) (job : Job) → IsQuietStep (checked_job c q found job)
  checked_quiet (Some found) (Checking e w) = tt
  checked_quiet None (Checking e w) = tt
  checked_quiet found job = tt

  sealed_quiet : (sealed : ℕ) (job : Job) → IsQuietStep (sealed_job c q sealed job)
  sealed_quiet sealed (Closing e w) = tt
  sealed_quiet sealed (Shutting e w) = tt
  sealed_quiet sealed job = tt

  groups_quiet : (job : Job) → IsQuietStep (groups_job c job)
  groups_quiet (Reading e places upto sealed place w) = tt
  groups_quiet job = tt

  extended_quiet : (e : ℕ) (at : Nodes) (job : Job) → IsQuietStep (extended_job c q e at job)
  extended_quiet e at (Growing last w) = tt
  extended_quiet e at job = tt

  awaited_quiet : (w : ReqNo) (o : Outcome) → IsQuietStep o → IsQuietStep (if_awaited c w o)
  awaited_quiet w o k = if_elim IsQuietStep (awaits c.job w) o (waits c) (λ t. k) (λ f. tt)

  append_reply_quiet : (body : AppendBody) → IsQuietStep (append_reply c q body)
  append_reply_quiet (appends.Appended w e offset) = awaited_quiet w (appended_job c offset c.job) (appended_quiet offset c.job)
  append_reply_quiet (appends.Refused w refusal) = awaited_quiet w (refused_job c q refusal c.job) (refused_quiet refusal c.job)
  append_reply_quiet body = tt

  check_reply_quiet : (body : CheckBody) → IsQuietStep (check_reply c q body)
  check_reply_quiet (checks.Checked w found) = awaited_quiet w (checked_job c q found c.job) (checked_quiet found c.job)
  check_reply_quiet body = tt

  seal_reply_quiet : (body : SealBody) → IsQuietStep (seal_reply c q body)
  seal_reply_quiet (seals.SealedIs w e sealed) = awaited_quiet w (sealed_job c q sealed c.job) (sealed_quiet sealed c.job)
  seal_reply_quiet body = tt

  read_reply_quiet : (body : ReadBody) → IsQuietStep (read_reply c body)
  read_reply_quiet (reads.Groups w e groups) = awaited_quiet w (groups_job c c.job) (groups_quiet c.job)
  read_reply_quiet body = tt

  stream_reply_quiet : (body : StreamBody) → IsQuietStep (stream_reply c q body)
  stream_reply_quiet (streams.Extended w e at) = awaited_quiet w (extended_job c q e at c.job) (extended_quiet e at c.job)
  stream_reply_quiet body = tt

  pub reply_quiet : (body : Body) → IsQuietStep (reply_rule c q body)
  reply_quiet (bodies.Append body) = append_reply_quiet body
  reply_quiet (bodies.Check body) = check_reply_quiet body
  reply_quiet (bodies.Seal body) = seal_reply_quiet body
  reply_quiet (bodies.Read body) = read_reply_quiet body
  reply_quiet (bodies.Stream body) = stream_reply_quiet body
  reply_quiet body = tt

  give_up_job_quiet : (job : Job) → IsQuietStep (give_up_job c q job)
  give_up_job_quiet Idle = tt
  give_up_job_quiet (Sent e w) = tt
  give_up_job_quiet (Closing e w) = tt
  give_up_job_quiet (Growing last w) = tt
  give_up_job_quiet (Checking e w) = tt
  give_up_job_quiet (Shutting e w) = tt
  give_up_job_quiet (Reading e places upto true place w) = tt
  give_up_job_quiet (Reading e places upto false place w) = tt

pub append_rule_quiet : (c : ClientState) → (q : ReqNo) (blocks : List (List ℕ)) → QuietIf (append_rule c q blocks)
append_rule_quiet c q blocks = if_elim QuietIf (is_idle c.job) _ _ (λ t. append_at_quiet (record c { group = blocks }) q (last_extent c.extents)) (λ f. tt)

pub give_up_quiet : (c : ClientState) → (q : ReqNo) (pick : Nodes) → IsQuietStep (give_up_rule c q pick)
give_up_quiet c q pick = give_up_job_quiet (record c { pick = pick }) q c.job
