-- The job by which an extent is read asks for the extent at a position, and each step of a client leaves it so.
use Rattle.std.proofs.Common.{◌≡◌, ℕ, suc, ◌-◌, length, Bool, true, false, Option, Some, None, is_some, refl, sym, ap, ◌∙◌, subst, arith, slice_get, if◌then◌else◌}
use Rattle.wire.specs.declared.actor.ReqNo.{ReqNo}
use Rattle.wire.specs.declared.streams.StreamExtent.{StreamExtent}
use Rattle.client.specs.declared.job.Job.{Job}
use Rattle.client.specs.declared.job.Job.TheVariants as jobs
use Rattle.client.specs.Client.{ClientState, Outcome, last_extent, read_at, read_whole, read_checked_at, read_open, give_up_job}
use Rattle.model_partition.specs.declared.server_context.ServerContext.{ServerContext}
use Rattle.model_partition.specs.Range.{request, given, picking}
use Rattle.model_partition.specs.Loading.{read_by, read_of}
use Rattle.laws_log_reads.specs.Reads.{ReadsAt, ReadsBy}

-- only the last extent that is known may be open
abbrev pub LastOpen : ClientState → Type 0
LastOpen c = (index : ℕ) (x : StreamExtent) → slice_get c.extents index ≡ Some x → x.length ≡ None → suc index ≡ length c.extents

-- a client that knows the same extents, and asks for the same
module _ (c k : ClientState) (extents : k.extents ≡ c.extents) (checked : k.checked ≡ c.checked) where
  at_same : (e upto : ℕ) (sealed : Bool) (position : ℕ) → ReadsAt c e upto sealed position → ReadsAt k e upto sealed position
  at_same e upto true position b =
      record { known = b.known; at = ap (λ xs. slice_get xs position) extents ∙ b.at; extent = b.extent; far = b.far }
  at_same e upto false position b =
      record { known = b.known; at = ap (λ xs. slice_get xs position) extents ∙ b.at; extent = b.extent; far = (b.far.0, checked ∙ b.far.1) }

  pub by_same : (position : ℕ) (j : Job) → ReadsBy c position j → ReadsBy k position j
  by_same position jobs.Idle b = tt
  by_same position (jobs.Sent e q) b = tt
  by_same position (jobs.Closing e q) b = tt
  by_same position (jobs.Growing last q) b = tt
  by_same position (jobs.Checking e q) b = tt
  by_same position (jobs.Shutting e q) b = tt
  by_same position (jobs.Reading e places upto sealed place q) b = at_same e upto sealed position b

-- ---- what a step keeps

-- the extents that are known, and where the last of them was checked
pub record Keeps (c k : ClientState) : Type 0 where
  pub base : k.base ≡ c.base
  pub extents : k.extents ≡ c.extents
  pub checked : k.checked ≡ c.checked

pub keeps_all : (c : ClientState) → Keeps c c
keeps_all c = record { base = refl; extents = refl; checked = refl }

-- ---- an extent is asked for

module _ (d : ServerContext) (before : ClientState) (position : ℕ) (open_last : LastOpen before) where
  abbrev Reader : ClientState
  Reader = record before { pick = d.pick; job = jobs.Idle }

  -- what is asked is the extent at the position
  abbrev pub AsksThere : Outcome → Type 0
  AsksThere o = Keeps before o.after × ReadsBy o.after position o.after.job

  sealed_there : (z : StreamExtent) (m : ℕ) → slice_get before.extents position ≡ Some z → z.length ≡ Some m → AsksThere (given Reader (read_at Reader (request d) (slice_get before.extents position)))
  sealed_there z m at e =
      subst (λ s. AsksThere (given Reader (read_at Reader (request d) s))) (sym at)
      (subst (λ k. AsksThere (given Reader (read_whole Reader (request d) z k))) (sym e)
      (record { base = refl; extents = refl; checked = refl }, record { known = z; at = at; extent = refl; far = e }))

  open_there : (z : StreamExtent) → slice_get before.extents position ≡ Some z → z.length ≡ None → AsksThere (given Reader (read_checked_at Reader (request d) (last_extent before.extents)))
  open_there z at e =
      let index_is : suc position ≡ length before.extents = open_last position z at e in
      let back : length before.extents - 1 ≡ position = omega (arith, index_is) in
      let end : last_extent before.extents ≡ Some z = subst (λ k. slice_get before.extents k ≡ Some z) (sym back) at in
      subst (λ s. AsksThere (given Reader (read_checked_at Reader (request d) s))) (sym end)
      (subst (λ k. AsksThere (given Reader (read_open Reader (request d) z k before.checked))) (sym e)
      (go before.checked refl))
    where
      go : (o : Option ℕ) → before.checked ≡ o → AsksThere (given Reader (read_open Reader (request d) z None o))
      go (Some found) checked = (record { base = refl; extents = refl; checked = refl }, record { known = z; at = at; extent = refl; far = (e, checked) })
      go None checked = (record { base = refl; extents = refl; checked = refl }, tt)

  there_by : (o : Option StreamExtent) → slice_get before.extents position ≡ o → AsksThere (read_by d Reader position o)
  there_by None at = (record { base = refl; extents = refl; checked = refl }, tt)
  there_by (Some z) at = go z.length refl
    where
      go : (k : Option ℕ) → z.length ≡ k →
          AsksThere (given Reader (if is_some k then read_at Reader (request d) (slice_get before.extents position) else read_checked_at Reader (request d) (last_extent before.extents)))
      go (Some m) e = sealed_there z m at e
      go None e = open_there z at e

  idle_there : AsksThere (read_of d Reader position)
  idle_there = there_by (slice_get before.extents position) refl

  -- a client that waits for nothing asks for the extent at a position
  pub read_there : before.job ≡ jobs.Idle → AsksThere (read_of d (picking d before) position)
  read_there idle = subst (λ j. AsksThere (read_of d (record before { pick = d.pick; job = j }) position)) (sym idle) idle_there

-- ---- giving up

-- the same extent is asked for, or none
pub gives_up_there : (c : ClientState) (q : ReqNo) (j : Job) → Keeps c (give_up_job c q j).after
gives_up_there c q jobs.Idle = record { base = refl; extents = refl; checked = refl }
gives_up_there c q (jobs.Sent e w) = record { base = refl; extents = refl; checked = refl }
gives_up_there c q (jobs.Closing e w) = record { base = refl; extents = refl; checked = refl }
gives_up_there c q (jobs.Growing last w) = record { base = refl; extents = refl; checked = refl }
gives_up_there c q (jobs.Checking e w) = record { base = refl; extents = refl; checked = refl }
gives_up_there c q (jobs.Shutting e w) = record { base = refl; extents = refl; checked = refl }
gives_up_there c q (jobs.Reading e places upto true place w) = record { base = refl; extents = refl; checked = refl }
gives_up_there c q (jobs.Reading e places upto false place w) = record { base = refl; extents = refl; checked = refl }

pub gives_up_by : (c : ClientState) (q : ReqNo) (position : ℕ) (j : Job) → c.job ≡ j → ReadsBy c position j → ReadsBy (give_up_job c q j).after position (give_up_job c q j).after.job
gives_up_by c q position jobs.Idle is b = subst (λ k. ReadsBy c position k) (sym is) tt
gives_up_by c q position (jobs.Sent e w) is b = tt
gives_up_by c q position (jobs.Closing e w) is b = tt
gives_up_by c q position (jobs.Growing last w) is b = tt
gives_up_by c q position (jobs.Checking e w) is b = tt
gives_up_by c q position (jobs.Shutting e w) is b = tt
gives_up_by c q position (jobs.Reading e places upto true place w) is b = record { known = b.known; at = b.at; extent = b.extent; far = b.far }
gives_up_by c q position (jobs.Reading e places upto false place w) is b = tt
