-- What a range's client of row data appends is what its checkpoint waits for, whatever is answered and whatever it gives up.
use Rattle.std.proofs.Common.{◌≡◌, ◌⊎◌, ℕ, List, length, ◌==◌, Bool, false, Option, Some, None, refl, sym, ap, ◌∙◌, subst, inl, inr}
use Rattle.std.specs.Prelude.{if◌then◌else◌, true, Ok, Err}
use Rattle.block_types.specs.declared.record.Nodes.{Nodes}
use Rattle.wire.specs.declared.actor.ReqNo.{ReqNo}
use Rattle.wire.specs.declared.body.AppendBody.TheVariants as appends
use Rattle.wire.specs.declared.body.Body.{Body}
use Rattle.wire.specs.declared.body.Body.TheVariants as bodies
use Rattle.wire.specs.declared.body.CheckBody.TheVariants as checks
use Rattle.wire.specs.declared.body.ReadBody.TheVariants as reads
use Rattle.wire.specs.declared.body.SealBody.TheVariants as seals
use Rattle.wire.specs.declared.body.StreamBody.TheVariants as streams
use Rattle.wire.specs.declared.refusal.Refusal.{Refusal}
use Rattle.wire.specs.declared.refusal.Refusal.TheVariants as refusals
use Rattle.wire.specs.declared.streams.StreamExtent.{StreamExtent}
use Rattle.client.specs.declared.fault.ClientFault.TheVariants as faults
use Rattle.client.specs.declared.job.Job.{Job}
use Rattle.client.specs.declared.job.Job.TheVariants as jobs
use Rattle.client.specs.Client.{ClientState, Outcome, waits, awaits, if_awaited, fenced_if, append_refused, refused_job, appended_job, checked_job, sealed_job, groups_job, extended_job, append_at, append_behind, append_rule, give_up_job, give_up_rule, is_idle, last_extent, reply_rule}
use Rattle.model_streams.proofs.Tests.{if_elim}
use Rattle.model_partition.specs.declared.checkpoint_job.CheckpointPhase.{CheckpointPhase}
use Rattle.model_partition.specs.declared.checkpoint_job.CheckpointPhase.TheVariants as checkpoints
use Rattle.model_partition.specs.CheckpointStates.{CheckpointState}
use Rattle.model_partition.specs.Range.{given}
use Rattle.checkpoint_format.specs.declared.index.Index.{Index}
use Rattle.checkpoint_format.specs.Index.{fits_a_group, index_group}
use Rattle.checkpoint.specs.PageGroups.{PagesState, next_group, next_pages, page_group}
use Rattle.model_partition.specs.Checkpoints.{index_if_fit}
use Rattle.laws_server_runs.specs.CheckpointInvariant.{Appends, AppendsPhase, AppendsRows}

-- ---- another state of the client

-- it waits for nothing, or has the group that it had
abbrev pub Leaves : ClientState → ClientState → Type 0
Leaves c next = (next.job ≡ jobs.Idle) ⊎ (next.group ≡ c.group)

module _ (c next : ClientState) (leaves : Leaves c next) (idle : c.job ≡ jobs.Idle → next.job ≡ jobs.Idle) where
  appends_on : (group : List (List ℕ)) → Appends c group → Appends next group
  appends_on group (inl none) = inl (idle none)
  appends_on group (inr same) = on leaves
    where
      on : Leaves c next → Appends next group
      on (inl none) = inl none
      on (inr as_before) = inr (as_before ∙ same)

  appends_phase : (job : CheckpointState) (phase : CheckpointPhase) → AppendsPhase c job phase → AppendsPhase next job phase
  appends_phase job checkpoints.Combining a = idle a
  appends_phase job checkpoints.Pages a = appends_on _ a
  appends_phase job checkpoints.Index a = appends_on _ a
  appends_phase job (checkpoints.Record index) a = idle a
  appends_phase job (checkpoints.Trim before to_blob q) a = idle a

  pub appends_left : (control : Option CheckpointState) → AppendsRows c control → AppendsRows next control
  appends_left None a = idle a
  appends_left (Some job) a = appends_phase job job.phase a

-- ---- giving up

group_given_up : (c : ClientState) (q : ReqNo) (job : Job) → (give_up_job c q job).after.group ≡ c.group
group_given_up c q jobs.Idle = refl
group_given_up c q (jobs.Sent e w) = refl
group_given_up c q (jobs.Closing e w) = refl
group_given_up c q (jobs.Growing last w) = refl
group_given_up c q (jobs.Checking e w) = refl
group_given_up c q (jobs.Shutting e w) = refl
group_given_up c q (jobs.Reading e places upto true place w) = refl
group_given_up c q (jobs.Reading e places upto false place w) = refl

pub base_given_up : (c : ClientState) (q : ReqNo) (job : Job) → (give_up_job c q job).after.base ≡ c.base
base_given_up c q jobs.Idle = refl
base_given_up c q (jobs.Sent e w) = refl
base_given_up c q (jobs.Closing e w) = refl
base_given_up c q (jobs.Growing last w) = refl
base_given_up c q (jobs.Checking e w) = refl
base_given_up c q (jobs.Shutting e w) = refl
base_given_up c q (jobs.Reading e places upto true place w) = refl
base_given_up c q (jobs.Reading e places upto false place w) = refl

-- a client that waits for nothing gives nothing up
pub idle_gives_up : (c : ClientState) (q : ReqNo) (pick : Nodes) → c.job ≡ jobs.Idle → (give_up_rule c q pick).after.job ≡ jobs.Idle
idle_gives_up c q pick idle = subst (λ j. (give_up_job (record c { pick = pick }) q j).after.job ≡ jobs.Idle) (sym idle) idle

pub give_up_appends : (c : ClientState) (q : ReqNo) (pick : Nodes) (control : Option CheckpointState) → AppendsRows c control → AppendsRows (give_up_rule c q pick).after control
give_up_appends c q pick control a = appends_left c (give_up_rule c q pick).after (inr (group_given_up (record c { pick = pick }) q c.job)) (idle_gives_up c q pick) control a

-- of whatever group
pub appends_given_up : (c : ClientState) (q : ReqNo) (pick : Nodes) (group : List (List ℕ)) → Appends c group → Appends (give_up_rule c q pick).after group
appends_given_up c q pick group a = appends_on c (give_up_rule c q pick).after (inr (group_given_up (record c { pick = pick }) q c.job)) (idle_gives_up c q pick) group a

-- ---- an append begins

-- the group that is appended
pub appended_group : (c : ClientState) (q : ReqNo) (group : List (List ℕ)) → c.job ≡ jobs.Idle → (given c (append_rule c q group)).after.group ≡ group
appended_group c q group idle = subst (λ j. (given c (if is_idle j then Ok (append_at (record c { group = group }) q (last_extent c.extents)) else Err faults.Busy)).after.group ≡ group) (sym idle) (at_last (last_extent c.extents))
  where
    behind : (x : StreamExtent) (sealed : Option ℕ) → (append_behind (record c { group = group }) q x sealed).after.group ≡ group
    behind x None = refl
    behind x (Some sealed) = refl

    at_last : (x : Option StreamExtent) → (append_at (record c { group = group }) q x).after.group ≡ group
    at_last None = refl
    at_last (Some x) = behind x x.length

-- ---- answers

module _ (c : ClientState) (q : ReqNo) where
  -- one that waits for nothing takes none
  awaits_none : c.job ≡ jobs.Idle → (w : ReqNo) (o : Outcome) → if_awaited c w o ≡ waits c
  awaits_none idle w o = ap (λ j. if awaits j w then o else waits c) idle

  pub idle_waits : c.job ≡ jobs.Idle → (body : Body) → reply_rule c q body ≡ waits c
  idle_waits idle (bodies.Append (appends.Appended w e offset)) = awaits_none idle w _
  idle_waits idle (bodies.Append (appends.Refused w refusal)) = awaits_none idle w _
  idle_waits idle (bodies.Append body) = refl
  idle_waits idle (bodies.Check (checks.Checked w found)) = awaits_none idle w _
  idle_waits idle (bodies.Check body) = refl
  idle_waits idle (bodies.Seal (seals.SealedIs w e length)) = awaits_none idle w _
  idle_waits idle (bodies.Seal body) = refl
  idle_waits idle (bodies.Read (reads.Groups w e groups)) = awaits_none idle w _
  idle_waits idle (bodies.Read body) = refl
  idle_waits idle (bodies.Stream (streams.Extended w e places)) = awaits_none idle w _
  idle_waits idle (bodies.Stream body) = refl
  idle_waits idle body = refl

  abbrev LeftBy : Outcome → Type 0
  LeftBy o = Leaves c o.after

  awaited : (w : ReqNo) (o : Outcome) → LeftBy o → LeftBy (if_awaited c w o)
  awaited w o h = if_elim LeftBy (awaits c.job w) o (waits c) (λ t. h) (λ f. inr refl)

  fenced : (refusal : Refusal) → LeftBy (fenced_if c refusal)
  fenced refusals.Stale = inl refl
  fenced refusal = inr refl

  at_append : (e : ℕ) (refusal : Refusal) → LeftBy (append_refused c q e refusal)
  at_append e refusals.NotOpen = inr refl
  at_append e refusals.ExtentFull = inr refl
  at_append e refusal = fenced refusal

  refused : (refusal : Refusal) (job : Job) → LeftBy (refused_job c q refusal job)
  refused refusal (jobs.Sent e w) = at_append e refusal
  refused refusal job = fenced refusal

  appended : (offset : ℕ) (job : Job) → LeftBy (appended_job c offset job)
  appended offset (jobs.Sent e w) = inl refl
  appended offset job = inr refl

  checked : (found : Option ℕ) (job : Job) → LeftBy (checked_job c q found job)
  checked (Some found) (jobs.Checking e w) = inl refl
  checked None (jobs.Checking e w) = inr refl
  checked found job = inr refl

  sealed : (length : ℕ) (job : Job) → LeftBy (sealed_job c q length job)
  sealed length (jobs.Closing e w) = inr refl
  sealed length (jobs.Shutting e w) = inl refl
  sealed length job = inr refl

  came : (job : Job) → LeftBy (groups_job c job)
  came (jobs.Reading e places upto sealed place w) = inl refl
  came job = inr refl

  extended : (e : ℕ) (places : Nodes) (job : Job) → LeftBy (extended_job c q e places job)
  extended e places (jobs.Growing last w) = inr refl
  extended e places job = inr refl

  reply_leaves : (body : Body) → LeftBy (reply_rule c q body)
  reply_leaves (bodies.Append (appends.Appended w e offset)) = awaited w _ (appended offset c.job)
  reply_leaves (bodies.Append (appends.Refused w refusal)) = awaited w _ (refused refusal c.job)
  reply_leaves (bodies.Append body) = inr refl
  reply_leaves (bodies.Check (checks.Checked w found)) = awaited w _ (checked found c.job)
  reply_leaves (bodies.Check body) = inr refl
  reply_leaves (bodies.Seal (seals.SealedIs w e length)) = awaited w _ (sealed length c.job)
  reply_leaves (bodies.Seal body) = inr refl
  reply_leaves (bodies.Read (reads.Groups w e groups)) = awaited w _ (came c.job)
  reply_leaves (bodies.Read body) = inr refl
  reply_leaves (bodies.Stream (streams.Extended w e places)) = awaited w _ (extended e places c.job)
  reply_leaves (bodies.Stream body) = inr refl
  reply_leaves body = inr refl

  pub reply_appends : (body : Body) (control : Option CheckpointState) → AppendsRows c control → AppendsRows (reply_rule c q body).after control
  reply_appends body control a = appends_left c (reply_rule c q body).after (reply_leaves body) (λ idle. ap (λ (o : Outcome). o.after.job) (idle_waits idle body) ∙ idle) control a

  pub appends_replied : (body : Body) (group : List (List ℕ)) → Appends c group → Appends (reply_rule c q body).after group
  appends_replied body group a = appends_on c (reply_rule c q body).after (reply_leaves body) (λ idle. ap (λ (o : Outcome). o.after.job) (idle_waits idle body) ∙ idle) group a

-- ---- the next append

-- a client that waits for nothing appends nothing else
pub idle_phase : (c : ClientState) → c.job ≡ jobs.Idle → (job : CheckpointState) (phase : CheckpointPhase) → AppendsPhase c job phase
idle_phase c idle job checkpoints.Combining = idle
idle_phase c idle job checkpoints.Pages = inl idle
idle_phase c idle job checkpoints.Index = inl idle
idle_phase c idle job (checkpoints.Record index) = idle
idle_phase c idle job (checkpoints.Trim before to_blob q) = idle

-- a group of pages has the next ones
pub pages_group : (p : PagesState) (group : List (List ℕ)) → next_group p ≡ Some group → group ≡ page_group (next_pages p)
pages_group p group is = by (length p.unwritten == 0) is
  where
    by : (b : Bool) → (if b then None else Some (page_group (next_pages p))) ≡ Some group → group ≡ page_group (next_pages p)
    by true e = absurd cc
    by false e = cc

pub index_group_is : (index : Index) (group : List (List ℕ)) → index_if_fit index ≡ Some group → group ≡ index_group index
index_group_is index group is = by (fits_a_group index) is
  where
    by : (b : Bool) → (if b then Some (index_group index) else None) ≡ Some group → group ≡ index_group index
    by true e = cc
    by false e = absurd cc
