-- What row data's client appends for a checkpoint, where it waits for nothing, and what was out where an answer tells of it.
use Rattle.std.proofs.Common.{◌≡◌, Option, Some, None, sym, ap, ◌∙◌, subst, inl, inr}
use Rattle.wire.specs.declared.actor.ReqNo.{ReqNo}
use Rattle.wire.specs.declared.body.Body.{Body}
use Rattle.client.specs.declared.job.Job.TheVariants as jobs
use Rattle.client.specs.declared.job.News.{News}
use Rattle.client.specs.Client.{ClientState, Outcome, reply_rule}
use Rattle.model_partition.specs.CheckpointStates.{CheckpointState}
use Rattle.model_partition.specs.declared.checkpoint_job.CheckpointPhase.{CheckpointPhase}
use Rattle.model_partition.specs.declared.checkpoint_job.CheckpointPhase.TheVariants as checkpoints
use Rattle.model_partition.specs.Loading.{Group}
use Rattle.laws_server_runs.specs.CheckpointInvariant.{Appends, AppendsPhase, AppendsRows}
use Rattle.laws_server_runs.proofs.ClientAnswers.{IsIdleIf, reply_takes}
use Rattle.laws_server_runs.proofs.RowAppends.{idle_waits}

module _ (c : ClientState) (q : ReqNo) (body : Body) where
  -- a client that waits for nothing is told nothing
  pub told_awake : (told : News) → (reply_rule c q body).news ≡ Some told → c.job ≡ jobs.Idle → ⊥
  told_awake told is idle = let none : None ≡ Some told = sym (ap (λ (o : Outcome). o.news) (idle_waits c q idle body)) ∙ is in absurd cc

  -- and one that is told something waits for nothing more
  pub told_idle : (told : News) → (reply_rule c q body).news ≡ Some told → (reply_rule c q body).after.job ≡ jobs.Idle
  told_idle told is = subst (λ n. IsIdleIf n (reply_rule c q body).after.job) is (reply_takes c q body).idle

-- its group, while it waits for an answer
pub group_out : (c : ClientState) (group : Group) → (c.job ≡ jobs.Idle → ⊥) → Appends c group → c.group ≡ group
group_out c group awake (inl idle) = absurd (awake idle)
group_out c group awake (inr is) = is

idle_phase : (c : ClientState) (job : CheckpointState) (phase : CheckpointPhase) → c.job ≡ jobs.Idle → AppendsPhase c job phase
idle_phase c job checkpoints.Combining idle = idle
idle_phase c job checkpoints.Pages idle = inl idle
idle_phase c job checkpoints.Index idle = inl idle
idle_phase c job (checkpoints.Record index) idle = idle
idle_phase c job (checkpoints.Trim before to_blob q) idle = idle

-- whatever the checkpoint waits for, where the client waits for nothing
pub idle_appends : (c : ClientState) (control : Option CheckpointState) → c.job ≡ jobs.Idle → AppendsRows c control
idle_appends c None idle = idle
idle_appends c (Some job) idle = idle_phase c job job.phase idle
