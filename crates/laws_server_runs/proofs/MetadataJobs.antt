-- What the client of a range's metadata waits for while the range is served: nothing, or that the record of a checkpoint or of a split
-- stands.
use Rattle.std.proofs.Common.{◌≡◌, ℕ, List, Option, Some, None, refl, sym, ap, ◌∙◌, subst}
use Rattle.std.specs.Prelude.{if◌then◌else◌, Ok, Err}
use Rattle.block_types.specs.declared.record.Nodes.{Nodes}
use Rattle.wire.specs.declared.actor.ReqNo.{ReqNo}
use Rattle.wire.specs.declared.body.AppendBody.TheVariants as appends
use Rattle.wire.specs.declared.body.Body.{Body}
use Rattle.wire.specs.declared.body.Body.TheVariants as bodies
use Rattle.wire.specs.declared.body.CheckBody.TheVariants as checks
use Rattle.wire.specs.declared.body.ReadBody.TheVariants as reads
use Rattle.wire.specs.declared.body.SealBody.TheVariants as seals
use Rattle.wire.specs.declared.body.StreamBody.TheVariants as streams
use Rattle.wire.specs.declared.refusal.Refusal.{Refusal}
use Rattle.wire.specs.declared.refusal.Refusal.TheVariants as refusals
use Rattle.wire.specs.declared.streams.StreamExtent.{StreamExtent}
use Rattle.metadata.specs.declared.record.MetaItem.{MetaItem}
use Rattle.client.specs.declared.fault.ClientFault.TheVariants as faults
use Rattle.client.specs.declared.job.Job.{Job}
use Rattle.client.specs.declared.job.Job.TheVariants as jobs
use Rattle.client.specs.declared.job.News.{News}
use Rattle.client.specs.declared.job.News.TheVariants as news
use Rattle.client.specs.Client.{ClientState, Outcome, waits, awaits, is_idle, last_extent, append_at, append_behind, append_rule, if_awaited, fenced_if, append_refused, refused_job, appended_job, checked_job, sealed_job, groups_job, extended_job, reply_rule, give_up_job, give_up_rule}
use Rattle.model_streams.proofs.Tests.{if_elim}
use Rattle.model_partition.specs.CheckpointStates.{CheckpointState}
use Rattle.model_partition.specs.declared.checkpoint_job.CheckpointPhase.{CheckpointPhase}
use Rattle.model_partition.specs.declared.checkpoint_job.CheckpointPhase.TheVariants as checkpoints
use Rattle.model_partition.specs.Range.{given}
use Rattle.laws_loads.specs.RangeView.{SplitStage, Free, Drains, Recording}
use Rattle.laws_tables.specs.Through.{OutAppend}
use Rattle.laws_server_runs.specs.CheckpointInvariant.{IsAppending, MetadataPhase, AppendsMetadata, StandsBeside, out_beside}
use Rattle.laws_server_runs.proofs.ClientAnswers.{IsIdleIf, reply_takes}
use Rattle.laws_server_runs.proofs.RowAppends.{idle_waits, idle_gives_up}

-- ---- splits

-- while a checkpoint is under way the range is not split
pub is_free : (split : SplitStage) (append : ℕ) (out : Option (OutAppend MetaItem)) (control : Option CheckpointState) (next : ℕ) (job : CheckpointState) → control ≡ Some job → StandsBeside split append out control next → split ≡ Free
is_free Free append out control next job there h = refl
is_free Drains append out control next job there h = absurd (let z : None ≡ Some job = sym h ∙ there in cc)
is_free (Recording r) append out control next job there h = absurd (let z : None ≡ Some job = sym h.none ∙ there in cc)

-- and where it is not, nothing is asked of it
pub free_beside : (split : SplitStage) → split ≡ Free → (append : ℕ) (out : Option (OutAppend MetaItem)) (control : Option CheckpointState) (next : ℕ) → StandsBeside split append out control next
free_beside split free append out control next = subst (λ x. StandsBeside x append out control next) (sym free) tt

-- what is out is what the run says
pub free_out : (split : SplitStage) → split ≡ Free → (out : Option (OutAppend MetaItem)) → out_beside split out ≡ out
free_out split free out = ap (λ x. out_beside x out) free

pub some_out : (split : SplitStage) (out : Option (OutAppend MetaItem)) (some : OutAppend MetaItem) → out_beside split out ≡ Some some → out ≡ Some some
some_out Free out some e = e
some_out Drains out some e = e
some_out (Recording r) out some e = absurd cc

-- no record of a split is out
abbrev pub HasNoRecord : SplitStage → Type 0
HasNoRecord Free = Unit {0}
HasNoRecord Drains = Unit {0}
HasNoRecord (Recording r) = ⊥

pub free_none : (split : SplitStage) → split ≡ Free → HasNoRecord split
free_none split free = subst HasNoRecord (sym free) tt

-- ---- a client that waits for nothing

idle_phase : (job : Job) → job ≡ jobs.Idle → (phase : CheckpointPhase) → MetadataPhase job phase
idle_phase job idle (checkpoints.Record index) = tt
idle_phase job idle checkpoints.Combining = idle
idle_phase job idle checkpoints.Pages = idle
idle_phase job idle checkpoints.Index = idle
idle_phase job idle (checkpoints.Trim before to_blob q) = idle

pub idle_metadata : (job : Job) → job ≡ jobs.Idle → (split : SplitStage) → HasNoRecord split → (control : Option CheckpointState) → AppendsMetadata job split control
idle_metadata job idle split none (Some checkpoint) = idle_phase job idle checkpoint.phase
idle_metadata job idle Free none None = idle
idle_metadata job idle Drains none None = idle
idle_metadata job idle (Recording r) none None = absurd none

phase_on : (job next : Job) → (job ≡ jobs.Idle → next ≡ jobs.Idle) → (phase : CheckpointPhase) → MetadataPhase job phase → MetadataPhase next phase
phase_on job next idle (checkpoints.Record index) a = tt
phase_on job next idle checkpoints.Combining a = idle a
phase_on job next idle checkpoints.Pages a = idle a
phase_on job next idle checkpoints.Index a = idle a
phase_on job next idle (checkpoints.Trim before to_blob q) a = idle a

-- it waits for what it waited for, if for nothing else
pub metadata_on : (job next : Job) → (job ≡ jobs.Idle → next ≡ jobs.Idle) → (IsAppending job → IsAppending next) → (split : SplitStage) (control : Option CheckpointState) → AppendsMetadata job split control → AppendsMetadata next split control
metadata_on job next idle appending split (Some checkpoint) a = phase_on job next idle checkpoint.phase a
metadata_on job next idle appending Free None a = idle a
metadata_on job next idle appending Drains None a = idle a
metadata_on job next idle appending (Recording r) None a = appending a

-- ---- giving up

appending_given_up : (c : ClientState) (q : ReqNo) (job : Job) → IsAppending job → IsAppending (give_up_job c q job).after.job
appending_given_up c q (jobs.Sent e w) a = tt
appending_given_up c q (jobs.Closing e w) a = tt
appending_given_up c q (jobs.Growing last w) a = tt
appending_given_up c q jobs.Idle a = absurd a
appending_given_up c q (jobs.Checking e w) a = absurd a
appending_given_up c q (jobs.Shutting e w) a = absurd a
appending_given_up c q (jobs.Reading e places upto sealed place w) a = absurd a

pub metadata_gives_up : (c : ClientState) (q : ReqNo) (pick : Nodes) (split : SplitStage) (control : Option CheckpointState) → AppendsMetadata c.job split control → AppendsMetadata (give_up_rule c q pick).after.job split control
metadata_gives_up c q pick = metadata_on c.job (give_up_rule c q pick).after.job (idle_gives_up c q pick) (appending_given_up (record c { pick = pick }) q c.job)

-- ---- an append begins

pub appending_begins : (c : ClientState) (q : ReqNo) (group : List (List ℕ)) → c.job ≡ jobs.Idle → IsAppending (given c (append_rule c q group)).after.job
appending_begins c q group idle =
    subst (λ j. IsAppending (given c (if is_idle j then Ok (append_at (record c { group = group }) q (last_extent c.extents)) else Err faults.Busy)).after.job) (sym idle) (at_last (last_extent c.extents))
  where
    behind : (x : StreamExtent) (sealed : Option ℕ) → IsAppending (append_behind (record c { group = group }) q x sealed).after.job
    behind x None = tt
    behind x (Some sealed) = tt

    at_last : (x : Option StreamExtent) → IsAppending (append_at (record c { group = group }) q x).after.job
    at_last None = tt
    at_last (Some x) = behind x x.length

-- ---- answers

-- a client that appends goes on with it, or is told that its group stands, or that its generation is old
abbrev pub TellsAppend : Option News → Job → Type 0
TellsAppend None job = IsAppending job
TellsAppend (Some news.Fenced) job = Unit {0}
TellsAppend (Some (news.Appended e offset)) job = Unit {0}
TellsAppend (Some told) job = ⊥

module _ (c : ClientState) (q : ReqNo) (was : IsAppending c.job) where
  abbrev Tells : Outcome → Type 0
  Tells o = TellsAppend o.news o.after.job

  awaited : (w : ReqNo) (o : Outcome) → Tells o → Tells (if_awaited c w o)
  awaited w o h = if_elim Tells (awaits c.job w) o (waits c) (λ t. h) (λ f. was)

  fenced : (refusal : Refusal) → Tells (fenced_if c refusal)
  fenced refusals.Stale = tt
  fenced refusal = was

  at_append : (e : ℕ) (refusal : Refusal) → Tells (append_refused c q e refusal)
  at_append e refusals.NotOpen = tt
  at_append e refusals.ExtentFull = tt
  at_append e refusal = fenced refusal

  refused : (refusal : Refusal) (job : Job) → Tells (refused_job c q refusal job)
  refused refusal (jobs.Sent e w) = at_append e refusal
  refused refusal job = fenced refusal

  appended : (offset : ℕ) (job : Job) → Tells (appended_job c offset job)
  appended offset (jobs.Sent e w) = tt
  appended offset job = was

  checked : (found : Option ℕ) (job : Job) → IsAppending job → Tells (checked_job c q found job)
  checked (Some found) (jobs.Checking e w) a = absurd a
  checked None (jobs.Checking e w) a = absurd a
  checked found job a = was

  sealed : (length : ℕ) (job : Job) → IsAppending job → Tells (sealed_job c q length job)
  sealed length (jobs.Closing e w) a = tt
  sealed length (jobs.Shutting e w) a = absurd a
  sealed length job a = was

  came : (job : Job) → IsAppending job → Tells (groups_job c job)
  came (jobs.Reading e places upto sealed place w) a = absurd a
  came job a = was

  extended : (e : ℕ) (places : Nodes) (job : Job) → Tells (extended_job c q e places job)
  extended e places (jobs.Growing last w) = tt
  extended e places job = was

  pub reply_appending : (body : Body) → Tells (reply_rule c q body)
  reply_appending (bodies.Append (appends.Appended w e offset)) = awaited w _ (appended offset c.job)
  reply_appending (bodies.Append (appends.Refused w refusal)) = awaited w _ (refused refusal c.job)
  reply_appending (bodies.Append body) = was
  reply_appending (bodies.Check (checks.Checked w found)) = awaited w _ (checked found c.job was)
  reply_appending (bodies.Check body) = was
  reply_appending (bodies.Seal (seals.SealedIs w e length)) = awaited w _ (sealed length c.job was)
  reply_appending (bodies.Seal body) = was
  reply_appending (bodies.Read (reads.Groups w e groups)) = awaited w _ (came c.job was)
  reply_appending (bodies.Read body) = was
  reply_appending (bodies.Stream (streams.Extended w e places)) = awaited w _ (extended e places c.job)
  reply_appending (bodies.Stream body) = was
  reply_appending body = was

-- What an answer leaves of it, where it is told this: nothing is waited for, unless nothing was told.
abbrev pub MetadataLeft : SplitStage → Option CheckpointState → Option News → Job → Type 0
MetadataLeft split control None job = AppendsMetadata job split control
MetadataLeft split control (Some news.Fenced) job = Unit {0}
MetadataLeft split control (Some (news.Appended e offset)) job = job ≡ jobs.Idle
MetadataLeft split control (Some told) job = AppendsMetadata job split control

-- the split's record is not told to stand
abbrev pub TellsOther : SplitStage → Option News → Type 0
TellsOther (Recording r) (Some (news.Appended e offset)) = ⊥
TellsOther split told = Unit {0}

pub no_record : (split : SplitStage) (e offset : ℕ) → TellsOther split (Some (news.Appended e offset)) → HasNoRecord split
no_record Free e offset other = tt
no_record Drains e offset other = tt
no_record (Recording r) e offset other = other

-- a client that waits for nothing is told nothing
idle_left : (c : ClientState) (q : ReqNo) (body : Body) (split : SplitStage) (control : Option CheckpointState) → c.job ≡ jobs.Idle → HasNoRecord split → AppendsMetadata c.job split control →
    MetadataLeft split control (reply_rule c q body).news (reply_rule c q body).after.job
idle_left c q body split control idle none a = subst (λ (o : Outcome). MetadataLeft split control o.news o.after.job) (sym (idle_waits c q idle body)) a

-- whatever an answer tells
pub metadata_left : (c : ClientState) (q : ReqNo) (body : Body) (split : SplitStage) (control : Option CheckpointState) → AppendsMetadata c.job split control →
    MetadataLeft split control (reply_rule c q body).news (reply_rule c q body).after.job
metadata_left c q body split (Some checkpoint) a = by (reply_rule c q body).news (reply_takes c q body).idle
  where
    phases_idle : (reply_rule c q body).after.job ≡ jobs.Idle → MetadataPhase (reply_rule c q body).after.job checkpoint.phase
    phases_idle idle = idle_phase (reply_rule c q body).after.job idle checkpoint.phase

    waiting : MetadataPhase (reply_rule c q body).after.job checkpoint.phase
    waiting = phase_on c.job (reply_rule c q body).after.job (λ idle. ap (λ (o : Outcome). o.after.job) (idle_waits c q idle body) ∙ idle) checkpoint.phase a

    by : (told : Option News) → IsIdleIf told (reply_rule c q body).after.job → MetadataLeft split (Some checkpoint) told (reply_rule c q body).after.job
    by None idle = waiting
    by (Some news.Fenced) idle = tt
    by (Some (news.Appended e offset)) idle = idle
    by (Some (news.Checked e l)) idle = phases_idle idle
    by (Some (news.Sealed e l)) idle = phases_idle idle
    by (Some (news.Content e upto)) idle = phases_idle idle
metadata_left c q body Free None a = idle_left c q body Free None a tt a
metadata_left c q body Drains None a = idle_left c q body Drains None a tt a
metadata_left c q body (Recording r) None a = by (reply_rule c q body).news (reply_takes c q body).idle (reply_appending c q a body)
  where
    by : (told : Option News) → IsIdleIf told (reply_rule c q body).after.job → TellsAppend told (reply_rule c q body).after.job → MetadataLeft (Recording r) None told (reply_rule c q body).after.job
    by None idle tells = tells
    by (Some news.Fenced) idle tells = tt
    by (Some (news.Appended e offset)) idle tells = idle
    by (Some (news.Checked e l)) idle tells = absurd tells
    by (Some (news.Sealed e l)) idle tells = absurd tells
    by (Some (news.Content e upto)) idle tells = absurd tells
