-- A client of a stream stays one of its range, under its generation, and asks for no stream but its own.
use Rattle.std.proofs.Common.{ℕ, true, false, List, [], ◌∷◌, ◌++◌, Option, Some, None, Result, Ok, Err, map, flat_map, slice_get}
use Rattle.std.specs.Prelude.{option_to_list}
use Rattle.block_types.specs.declared.record.Nodes.{Nodes}
use Rattle.wire.specs.declared.actor.ReqNo.{ReqNo}
use Rattle.wire.specs.declared.body.AppendBody.{AppendBody}
use Rattle.wire.specs.declared.body.AppendBody.TheVariants as appends
use Rattle.wire.specs.declared.body.CheckBody.{CheckBody}
use Rattle.wire.specs.declared.body.CheckBody.TheVariants as checks
use Rattle.wire.specs.declared.body.SealBody.{SealBody}
use Rattle.wire.specs.declared.body.SealBody.TheVariants as seals
use Rattle.wire.specs.declared.body.ReadBody.{ReadBody}
use Rattle.wire.specs.declared.body.ReadBody.TheVariants as reads
use Rattle.wire.specs.declared.body.StreamBody.{StreamBody}
use Rattle.wire.specs.declared.body.StreamBody.TheVariants as streams
use Rattle.wire.specs.declared.body.Body.{Body}
use Rattle.wire.specs.declared.body.Body.TheVariants as bodies
use Rattle.wire.specs.declared.packet.Packet.{Packet}
use Rattle.wire.specs.declared.refusal.Refusal.{Refusal}
use Rattle.wire.specs.declared.refusal.Refusal.TheVariants as refusals
use Rattle.wire.specs.declared.streams.StreamExtent.{StreamExtent}
use Rattle.client.specs.declared.fault.ClientFault.{ClientFault}
use Rattle.client.specs.declared.job.Job.{Job}
use Rattle.client.specs.declared.job.Job.TheVariants.{Idle, Sent, Closing, Growing, Checking, Shutting, Reading}
use Rattle.client.specs.Client.{ClientState, Outcome, append_behind, append_at, append_rule, check_behind, check_at, check_rule, read_whole, read_at, read_sealed_rule, read_open, read_checked_at, read_checked_rule, fenced_if, append_refused, refused_job, appended_job, checked_job, sealed_job, groups_job, extended_job, if_awaited, append_reply, check_reply, seal_reply, read_reply, stream_reply, reply_rule, give_up_job, give_up_rule, is_idle, awaits, waits, last_extent}
use Rattle.model_streams.proofs.Tests.{if_elim}
use Rattle.model_partition.specs.Range.{given}
use Rattle.laws_map.specs.Naming.{IsClientOf, IsFor, AreFor}

-- ---- lists of packets

pub for_both : (range generation : ℕ) (xs ys : List Packet) → AreFor range generation xs → AreFor range generation ys → AreFor range generation (xs ++ ys)
for_both range generation [] ys a b = b
for_both range generation (x ∷ xs) ys a b = (a.0, for_both range generation xs ys a.1 b)

pub for_map : {A : Type 0} (range generation : ℕ) (f : A → Packet) → ((x : A) → IsFor range generation (f x).body) → (xs : List A) → AreFor range generation (map f xs)
for_map range generation f h [] = tt
for_map range generation f h (x ∷ xs) = (h x, for_map range generation f h xs)

pub for_flat : {A : Type 0} (range generation : ℕ) (f : A → List Packet) → ((x : A) → AreFor range generation (f x)) → (xs : List A) → AreFor range generation (flat_map f xs)
for_flat range generation f h [] = tt
for_flat range generation f h (x ∷ xs) = for_both range generation (f x) (flat_map f xs) (h x) (for_flat range generation f h xs)

-- ---- a client

module _ (range generation : ℕ) where
  abbrev pub IfFor : Option Packet → Type 0
  IfFor None = Unit {0}
  IfFor (Some p) = IsFor range generation p.body

  pub listed : (p : Option Packet) → IfFor p → AreFor range generation (option_to_list p)
  listed None h = tt
  listed (Some p) h = (h, tt)

  -- it is of the range's stream still, and asks for that alone
  abbrev pub Keeps : Outcome → Type 0
  Keeps o = IsClientOf range generation o.after × IfFor o.packet

  abbrev pub KeepsIf : Result Outcome ClientFault → Type 0
  KeepsIf (Ok o) = Keeps o
  KeepsIf (Err fault) = Unit {0}

  pub given_keeps : (c : ClientState) (r : Result Outcome ClientFault) → IsClientOf range generation c → KeepsIf r → Keeps (given c r)
  given_keeps c (Ok o) h k = k
  given_keeps c (Err fault) h k = (h, tt)

  module _ (c : ClientState) (h : IsClientOf range generation c) (q : ReqNo) where
    append_behind_keeps : (x : StreamExtent) (l : Option ℕ) → Keeps (append_behind c q x l)
    append_behind_keeps x None = (h, tt)
    append_behind_keeps x (Some sealed) = (h, h)

    append_at_keeps : (x : Option StreamExtent) → Keeps (append_at c q x)
    append_at_keeps None = (h, h)
    append_at_keeps (Some x) = append_behind_keeps x x.length

    check_behind_keeps : (x : StreamExtent) (l : Option ℕ) → KeepsIf (check_behind c q x l)
    check_behind_keeps x None = (h, tt)
    check_behind_keeps x (Some sealed) = tt

    check_at_keeps : (x : Option StreamExtent) → KeepsIf (check_at c q x)
    check_at_keeps None = tt
    check_at_keeps (Some x) = check_behind_keeps x x.length

    pub check_rule_keeps : KeepsIf (check_rule c q)
    check_rule_keeps = if_elim KeepsIf (is_idle c.job) _ _ (λ t. check_at_keeps (last_extent c.extents)) (λ f. tt)

    read_whole_keeps : (x : StreamExtent) (l : Option ℕ) → KeepsIf (read_whole c q x l)
    read_whole_keeps x None = tt
    read_whole_keeps x (Some sealed) = (h, tt)

    read_at_keeps : (x : Option StreamExtent) → KeepsIf (read_at c q x)
    read_at_keeps None = tt
    read_at_keeps (Some x) = read_whole_keeps x x.length

    pub read_sealed_keeps : (position : ℕ) → KeepsIf (read_sealed_rule c q position)
    read_sealed_keeps position = if_elim KeepsIf (is_idle c.job) _ _ (λ t. read_at_keeps (slice_get c.extents position)) (λ f. tt)

    read_open_keeps : (x : StreamExtent) (l k : Option ℕ) → KeepsIf (read_open c q x l k)
    read_open_keeps x None (Some checked) = (h, tt)
    read_open_keeps x None None = tt
    read_open_keeps x (Some sealed) k = tt

    read_checked_at_keeps : (x : Option StreamExtent) → KeepsIf (read_checked_at c q x)
    read_checked_at_keeps None = tt
    read_checked_at_keeps (Some x) = read_open_keeps x x.length c.checked

    pub read_checked_keeps : KeepsIf (read_checked_rule c q)
    read_checked_keeps = if_elim KeepsIf (is_idle c.job) _ _ (λ t. read_checked_at_keeps (last_extent c.extents)) (λ f. tt)

    -- ---- answers

    fenced_keeps : (refusal : Refusal) → Keeps (fenced_if c refusal)
    fenced_keeps refusals.Stale = (h, tt)
    fenced_keeps refusal = (h, tt)

    append_refused_keeps : (e : ℕ) (refusal : Refusal) → Keeps (append_refused c q e refusal)
    append_refused_keeps e refusals.NotOpen = (h, tt)
    append_refused_keeps e refusals.ExtentFull = (h, tt)
    append_refused_keeps e refusals.Stale = (h, tt)
    append_refused_keeps e refusal = (h, tt)

    refused_keeps : (refusal : Refusal) (job : Job) → Keeps (refused_job c q refusal job)
    refused_keeps refusal (Sent e w) = append_refused_keeps e refusal
    refused_keeps refusal job = fenced_keeps refusal

    appended_keeps : (offset : ℕ) (job : Job) → Keeps (appended_job c offset job)
    appended_keeps offset (Sent e w) = (h, tt)
    appended_keeps offset job = (h, tt)

    checked_keeps : (found : Option ℕ) (job : Job) → Keeps (checked_job c q found job)
    checked_keeps (Some found) (Checking e w) = (h, tt)
    checked_keeps None (Checking e w) = (h, tt)
    checked_keeps found job = (h, tt)

    sealed_keeps : (sealed : ℕ) (job : Job) → Keeps (sealed_job c q sealed job)
    sealed_keeps sealed (Closing e w) = (h, h)
    sealed_keeps sealed (Shutting e w) = (h, tt)
    sealed_keeps sealed job = (h, tt)

    groups_keeps : (job : Job) → Keeps (groups_job c job)
    groups_keeps (Reading e places upto sealed place w) = (h, tt)
    groups_keeps job = (h, tt)

    extended_keeps : (e : ℕ) (at : Nodes) (job : Job) → Keeps (extended_job c q e at job)
    extended_keeps e at (Growing last w) = (h, tt)
    extended_keeps e at job = (h, tt)

    awaited_keeps : (w : ReqNo) (o : Outcome) → Keeps o → Keeps (if_awaited c w o)
    awaited_keeps w o k = if_elim Keeps (awaits c.job w) o (waits c) (λ t. k) (λ f. (h, tt))

    append_reply_keeps : (body : AppendBody) → Keeps (append_reply c q body)
    append_reply_keeps (appends.Appended w e offset) = awaited_keeps w (appended_job c offset c.job) (appended_keeps offset c.job)
    append_reply_keeps (appends.Refused w refusal) = awaited_keeps w (refused_job c q refusal c.job) (refused_keeps refusal c.job)
    append_reply_keeps body = (h, tt)

    check_reply_keeps : (body : CheckBody) → Keeps (check_reply c q body)
    check_reply_keeps (checks.Checked w found) = awaited_keeps w (checked_job c q found c.job) (checked_keeps found c.job)
    check_reply_keeps body = (h, tt)

    seal_reply_keeps : (body : SealBody) → Keeps (seal_reply c q body)
    seal_reply_keeps (seals.SealedIs w e sealed) = awaited_keeps w (sealed_job c q sealed c.job) (sealed_keeps sealed c.job)
    seal_reply_keeps body = (h, tt)

    read_reply_keeps : (body : ReadBody) → Keeps (read_reply c body)
    read_reply_keeps (reads.Groups w e groups) = awaited_keeps w (groups_job c c.job) (groups_keeps c.job)
    read_reply_keeps body = (h, tt)

    stream_reply_keeps : (body : StreamBody) → Keeps (stream_reply c q body)
    stream_reply_keeps (streams.Extended w e at) = awaited_keeps w (extended_job c q e at c.job) (extended_keeps e at c.job)
    stream_reply_keeps body = (h, tt)

    pub reply_keeps : (body : Body) → Keeps (reply_rule c q body)
    reply_keeps (bodies.Append body) = append_reply_keeps body
    reply_keeps (bodies.Check body) = check_reply_keeps body
    reply_keeps (bodies.Seal body) = seal_reply_keeps body
    reply_keeps (bodies.Read body) = read_reply_keeps body
    reply_keeps (bodies.Stream body) = stream_reply_keeps body
    reply_keeps body = (h, tt)

    give_up_job_keeps : (job : Job) → Keeps (give_up_job c q job)
    give_up_job_keeps Idle = (h, tt)
    give_up_job_keeps (Sent e w) = (h, tt)
    give_up_job_keeps (Closing e w) = (h, tt)
    give_up_job_keeps (Growing last w) = (h, h)
    give_up_job_keeps (Checking e w) = (h, tt)
    give_up_job_keeps (Shutting e w) = (h, tt)
    give_up_job_keeps (Reading e places upto true place w) = (h, tt)
    give_up_job_keeps (Reading e places upto false place w) = (h, tt)

  pub append_rule_keeps : (c : ClientState) → IsClientOf range generation c → (q : ReqNo) (blocks : List (List ℕ)) → KeepsIf (append_rule c q blocks)
  append_rule_keeps c h q blocks = if_elim KeepsIf (is_idle c.job) _ _ (λ t. append_at_keeps (record c { group = blocks }) h q (last_extent c.extents)) (λ f. tt)

  pub give_up_keeps : (c : ClientState) → IsClientOf range generation c → (q : ReqNo) (pick : Nodes) → Keeps (give_up_rule c q pick)
  give_up_keeps c h q pick = give_up_job_keeps (record c { pick = pick }) h q c.job
