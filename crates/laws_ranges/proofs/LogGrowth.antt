-- Whatever a client does, its list begins where it began, and gets no shorter; so what a Trim leaves of the log stays left.
use Rattle.std.proofs.Common.{◌≡◌, ◌⊎◌, ⊎_elim, ℕ, ◌+◌, ◌-◌, ◌<◌, ◌≤◌, true, false, List, ◌∷◌, [], ◌++◌, length, Option, Some, None, inl, inr, refl, arith}
use Rattle.std.proofs.lemmas.List.{length-append}
use Rattle.wire.specs.declared.actor.ReqNo.{ReqNo}
use Rattle.wire.specs.declared.body.Body.{Body}
use Rattle.wire.specs.declared.refusal.Refusal.{Refusal}
use Rattle.wire.specs.declared.refusal.Refusal.TheVariants as refusals
use Rattle.wire.specs.declared.streams.StreamExtent.{StreamExtent}
use Rattle.streams.specs.declared.table.Position.{Position}
use Rattle.replica.specs.Groups.{Group}
use Rattle.client.specs.declared.job.Job.{Job}
use Rattle.client.specs.declared.job.Job.TheVariants as jobs
use Rattle.client.specs.Client.{ClientState, Outcome, is_idle, last_extent, sealed_last, sealed_last_if, append_refused, append_at, append_behind, append_rule, reply_rule, give_up_job}
use Rattle.model_streams.proofs.Tests.{if_elim}
use Rattle.model_partition.specs.CheckpointStates.{CheckpointState}
use Rattle.model_partition.specs.declared.checkpoint_job.CheckpointPhase.{CheckpointPhase}
use Rattle.model_partition.specs.declared.checkpoint_job.CheckpointPhase.TheVariants as checkpoints
use Rattle.model_partition.specs.Range.{given}
use Rattle.laws_ranges.specs.Serves.{known, BeginsInLog, TrimsPhase, TrimsJob}
use Rattle.laws_ranges.proofs.ClientReplies.{ByJob, reply_takes}
use Rattle.laws_ranges.proofs.ToldExtents.{set_length}

-- ---- a client

pub record Grows (c after : ClientState) : Type 0 where
  pub base : after.base ≡ c.base
  pub count : length c.extents ≤ length after.extents

same_list : (c : ClientState) → Grows c c
same_list c = record { base = refl; count = omega arith }

sealed_count : (xs : List StreamExtent) (l : ℕ) → length (sealed_last xs l) ≡ length xs
sealed_count xs l = go (last_extent xs)
  where
    go : (o : Option StreamExtent) → length (sealed_last_if xs l o) ≡ length xs
    go None = refl
    go (Some z) = set_length xs (length xs - 1) (record z { length = Some l })

module _ (q : ReqNo) (c : ClientState) where
  abbrev GrowsTo : Outcome → Type 0
  GrowsTo o = Grows c o.after

  same : Grows c c
  same = same_list c

  seals_last : (l : ℕ) → Grows c (record c { extents = sealed_last c.extents l })
  seals_last l = let e = sealed_count c.extents l in record { base = refl; count = omega (arith, e) }

  refused : (e : ℕ) (why : Refusal) → GrowsTo (append_refused c q e why)
  refused e refusals.NotOpen = record { base = same.base; count = same.count }
  refused e refusals.ExtentFull = record { base = same.base; count = same.count }
  refused e refusals.Stale = record { base = same.base; count = same.count }
  refused e why = same

  by_job : (body : Body) (j : Job) → ByJob q GrowsTo c body j
  by_job body jobs.Idle = tt
  by_job body (jobs.Sent e r) = (λ v n offset t is. record { base = same.base; count = same.count }, λ why. refused e why)
  by_job body (jobs.Closing e r) = λ v n l t is. record { base = refl; count = (seals_last l).count }
  by_job body (jobs.Growing last r) =
      λ v n places t is.
      let count : length (c.extents ++ record { extent = n; places = places; length = None } ∷ []) ≡ length c.extents + 1 = length-append c.extents (record { extent = n; places = places; length = None } ∷ []) in
      record { base = refl; count = omega (arith, count) }
  by_job body (jobs.Checking e r) = (record { base = same.base; count = same.count }, λ v found t is. record { base = same.base; count = same.count })
  by_job body (jobs.Shutting e r) = λ v n l t is. record { base = refl; count = (seals_last l).count }
  by_job body (jobs.Reading e places upto sealed place r) = λ v n groups t is. record { base = same.base; count = same.count }

  -- an answer
  pub reply_grows : (body : Body) → Grows c (reply_rule c q body).after
  reply_grows body = reply_takes q GrowsTo c body same (λ v t. record { base = same.base; count = same.count }) (by_job body c.job)

  -- giving up
  pub give_up_grows : (j : Job) → Grows c (give_up_job c q j).after
  give_up_grows jobs.Idle = same
  give_up_grows (jobs.Sent e r) = record { base = same.base; count = same.count }
  give_up_grows (jobs.Closing e r) = record { base = same.base; count = same.count }
  give_up_grows (jobs.Growing last r) = record { base = same.base; count = same.count }
  give_up_grows (jobs.Checking e r) = record { base = same.base; count = same.count }
  give_up_grows (jobs.Shutting e r) = record { base = same.base; count = same.count }
  give_up_grows (jobs.Reading e places upto true place r) = record { base = same.base; count = same.count }
  give_up_grows (jobs.Reading e places upto false place r) = record { base = same.base; count = same.count }

  behind : (group : Group) (z : StreamExtent) (o : Option ℕ) → GrowsTo (append_behind (record c { group = group }) q z o)
  behind group z None = record { base = same.base; count = same.count }
  behind group z (Some l) = record { base = same.base; count = same.count }

  at : (group : Group) (o : Option StreamExtent) → GrowsTo (append_at (record c { group = group }) q o)
  at group None = record { base = same.base; count = same.count }
  at group (Some z) = behind group z z.length

  -- an append
  pub append_grows : (group : Group) → GrowsTo (given c (append_rule c q group))
  append_grows group = if_elim (λ z. GrowsTo (given c z)) (is_idle c.job) _ _ (λ t. at group (last_extent c.extents)) (λ f. same)

-- ---- the log

module _ (c after : ClientState) (g : Grows c after) where
  pub begins_on : (position : Position) → BeginsInLog c position → BeginsInLog after position
  begins_on position b none = let count = g.count in b (omega (arith, none, count))

  phase_on : (phase : CheckpointPhase) → TrimsPhase c phase → TrimsPhase after phase
  phase_on (checkpoints.Trim before to_blob q) b =
      let base = g.base in
      let count = g.count in
      ⊎_elim {C = (before ≤ after.base) ⊎ (before < known after)} (λ low. inl (omega (arith, base, low))) (λ high. inr (omega (arith, base, count, high))) b
  phase_on phase b = tt

  pub trims_on : (job : Option CheckpointState) → TrimsJob c job → TrimsJob after job
  trims_on None b = tt
  trims_on (Some job) b = (begins_on job.position b.0, phase_on job.phase b.1, b.2)
