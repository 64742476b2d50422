-- What is so of the group of an append job stays so, whatever the job does; as of the log's, which is that of the transactions that
-- are being appended.
use Rattle.std.proofs.Common.{◌≡◌, ℕ, List, Option, Some, None, refl, sym, ap, ◌∙◌, suc, subst}
use Rattle.wire.specs.declared.actor.ReqNo.{ReqNo}
use Rattle.wire.specs.declared.body.Body.{Body}
use Rattle.wire.specs.declared.refusal.Refusal.{Refusal}
use Rattle.wire.specs.declared.refusal.Refusal.TheVariants as refusals
use Rattle.wire.specs.declared.streams.StreamExtent.{StreamExtent}
use Rattle.replica.specs.Groups.{Group}
use Rattle.client.specs.declared.job.Job.{Job}
use Rattle.client.specs.declared.job.Job.TheVariants as jobs
use Rattle.client.specs.declared.job.News.{News}
use Rattle.client.specs.declared.job.News.TheVariants as news
use Rattle.client.specs.Client.{ClientState, Outcome, last_extent, waits, append_refused, reply_rule, append_at, append_behind, give_up_job}
use Rattle.model_partition.specs.Range.{OutGroup}
use Rattle.model_histories.specs.ServerTurns as turns
use Rattle.laws_stream_machine.specs.Refinement.{Sent}
use Rattle.model_streams.specs.StreamSystem.{StreamSystem}
use Rattle.wire.specs.declared.streams.StreamName.{StreamName}
use Rattle.laws_ranges.specs.Quiet.{IsSent}
use Rattle.laws_ranges.specs.Serves.{Stand, group_in, known, is_live, ServesBy, JobIs, GroupIs, OutIs}
use Rattle.laws_ranges.proofs.ClientReplies.{ByJob, reply_takes}

-- ---- the group of any append job

module _ (Holds : Group → Type 0) (Rests : Type 0) where
  -- once the group stands there is no job
  abbrev pub JobAfter : Option News → ClientState → Type 0
  JobAfter None c = JobIs Holds Rests c.job c.group
  JobAfter (Some news.Fenced) c = Unit {0}
  JobAfter (Some (news.Appended e offset)) c = c.job ≡ jobs.Idle
  JobAfter (Some (news.Checked e found)) c = JobIs Holds Rests c.job c.group
  JobAfter (Some (news.Sealed e l)) c = JobIs Holds Rests c.job c.group
  JobAfter (Some (news.Content e upto)) c = JobIs Holds Rests c.job c.group

  module _ (q : ReqNo) where
    abbrev Kept : Outcome → Type 0
    Kept o = JobAfter o.news o.after

    refused_kept : (c : ClientState) (e : ℕ) (why : Refusal) → Holds c.group → Kept (waits c) → Kept (append_refused c q e why)
    refused_kept c e refusals.NotOpen g k = g
    refused_kept c e refusals.ExtentFull g k = g
    refused_kept c e refusals.Stale g k = tt
    refused_kept c e why g k = k

    by_job : (c : ClientState) (body : Body) (j : Job) → Kept (waits c) → JobIs Holds Rests j c.group → ByJob q Kept c body j
    by_job c body jobs.Idle k g = tt
    by_job c body (jobs.Sent e r) k g = (λ v n offset t is. refl, λ why. refused_kept c e why g k)
    by_job c body (jobs.Closing e r) k g = λ v n l t is. g
    by_job c body (jobs.Growing last r) k g = λ v n places t is. g
    by_job c body (jobs.Checking e r) k g = absurd g
    by_job c body (jobs.Shutting e r) k g = absurd g
    by_job c body (jobs.Reading e places upto sealed place r) k g = absurd g

    -- an answer
    pub reply_job : (c : ClientState) → JobIs Holds Rests c.job c.group → (body : Body) → Kept (reply_rule c q body)
    reply_job c g body = reply_takes q Kept c body g (λ v t. tt) (by_job c body c.job g g)

    give_up_kept : (c : ClientState) (j : Job) → JobIs Holds Rests j c.group → JobIs Holds Rests (give_up_job (record c { job = j }) q j).after.job (give_up_job (record c { job = j }) q j).after.group
    give_up_kept c jobs.Idle g = g
    give_up_kept c (jobs.Sent e r) g = g
    give_up_kept c (jobs.Closing e r) g = g
    give_up_kept c (jobs.Growing last r) g = g
    give_up_kept c (jobs.Checking e r) g = absurd g
    give_up_kept c (jobs.Shutting e r) g = absurd g
    give_up_kept c (jobs.Reading e places upto sealed place r) g = absurd g

    -- it gives up
    pub gives_up_job : (c : ClientState) → JobIs Holds Rests c.job c.group → JobIs Holds Rests (give_up_job c q c.job).after.job (give_up_job c q c.job).after.group
    gives_up_job c g = give_up_kept c c.job g

    behind_kept : (c : ClientState) (z : StreamExtent) (o : Option ℕ) → Holds c.group → JobIs Holds Rests (append_behind c q z o).after.job (append_behind c q z o).after.group
    behind_kept c z None g = g
    behind_kept c z (Some l) g = g

    -- it begins
    pub append_job : (c : ClientState) (o : Option StreamExtent) → Holds c.group → JobIs Holds Rests (append_at c q o).after.job (append_at c q o).after.group
    append_job c None g = g
    append_job c (Some z) g = behind_kept c z z.length g

-- of a job that has sent its group it is so of the group that the machine has out
module _ (generation : ℕ → ℕ) (name : StreamName) (w : StreamSystem) (i : ℕ) (x : Stand) (sent : List Sent) (c : ClientState) (Holds : Group → Type 0) (Rests : Type 0) where
  pub sent_holds : (j : Job) → ServesBy generation name w i x sent c j → JobIs Holds Rests j c.group → (s : IsSent x.phase) → Holds s.group
  sent_holds jobs.Idle b g s = absurd (let z : turns.Serving (known c) (is_live (last_extent c.extents)) ≡ turns.Sent s.n s.append s.group = sym b ∙ s.is in cc)
  sent_holds (jobs.Sent e q) b g s = subst Holds (ap group_in (sym b.stands ∙ s.is)) g
  sent_holds (jobs.Closing e q) b g s = absurd (let z : turns.Closing (suc b.index) b.append c.group ≡ turns.Sent s.n s.append s.group = sym b.stands ∙ s.is in cc)
  sent_holds (jobs.Growing last q) b g s = absurd (let z : turns.Growing (known c) b.append c.group ≡ turns.Sent s.n s.append s.group = sym b.stands ∙ s.is in cc)
  sent_holds (jobs.Checking e q) b g s = absurd b
  sent_holds (jobs.Shutting e q) b g s = absurd b
  sent_holds (jobs.Reading e places upto sealed place q) b g s = absurd b

-- ---- the group of the log

-- once the group stands, none is out
abbrev pub OutAfter : Option News → ClientState → Option OutGroup → Type 0
OutAfter None c out = OutIs c.job c.group out
OutAfter (Some news.Fenced) c out = Unit {0}
OutAfter (Some (news.Appended e offset)) c out = OutIs c.job c.group None
OutAfter (Some (news.Checked e found)) c out = OutIs c.job c.group out
OutAfter (Some (news.Sealed e l)) c out = OutIs c.job c.group out
OutAfter (Some (news.Content e upto)) c out = OutIs c.job c.group out

module _ (out : Option OutGroup) (q : ReqNo) where
  abbrev Out : Group → Type 0
  Out g = GroupIs g out

  -- a client without a job has no group out
  of_job : (told : Option News) (c : ClientState) → JobAfter Out (out ≡ None) told c → OutAfter told c out
  of_job None c g = g
  of_job (Some news.Fenced) c g = tt
  of_job (Some (news.Appended e offset)) c g = subst (λ j. OutIs j c.group None) (sym g) refl
  of_job (Some (news.Checked e found)) c g = g
  of_job (Some (news.Sealed e l)) c g = g
  of_job (Some (news.Content e upto)) c g = g

  pub reply_out : (c : ClientState) → OutIs c.job c.group out → (body : Body) → OutAfter (reply_rule c q body).news (reply_rule c q body).after out
  reply_out c g body = of_job (reply_rule c q body).news (reply_rule c q body).after (reply_job Out (out ≡ None) q c g body)

  pub give_up_out : (c : ClientState) → OutIs c.job c.group out → OutIs (give_up_job c q c.job).after.job (give_up_job c q c.job).after.group out
  give_up_out c g = gives_up_job Out (out ≡ None) q c g

  pub append_out : (c : ClientState) (o : Option StreamExtent) → GroupIs c.group out → OutIs (append_at c q o).after.job (append_at c q o).after.group out
  append_out c o g = append_job Out (out ≡ None) q c o g

-- where none is out the client has no job
pub none_idle : (j : Job) (group : List (List ℕ)) → OutIs j group None → j ≡ jobs.Idle
none_idle jobs.Idle group g = refl
none_idle (jobs.Sent e r) group g = absurd (let z : None ≡ Some g.0 = g.1 in cc)
none_idle (jobs.Closing e r) group g = absurd (let z : None ≡ Some g.0 = g.1 in cc)
none_idle (jobs.Growing last r) group g = absurd (let z : None ≡ Some g.0 = g.1 in cc)
none_idle (jobs.Checking e r) group g = absurd g
none_idle (jobs.Shutting e r) group g = absurd g
none_idle (jobs.Reading e places upto sealed place r) group g = absurd g
