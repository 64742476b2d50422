-- What an answer makes of a client, by the job that is out.
use Rattle.std.proofs.Common.{◌≡◌, ℕ, List, true, Some, None, Option, refl, sym, subst}
use Rattle.block_types.specs.declared.record.Nodes.{Nodes}
use Rattle.wire.specs.declared.actor.ReqNo.{ReqNo}
use Rattle.wire.specs.declared.body.AppendBody.TheVariants as appends
use Rattle.wire.specs.declared.body.CheckBody.TheVariants as checks
use Rattle.wire.specs.declared.body.SealBody.TheVariants as seals
use Rattle.wire.specs.declared.body.ReadBody.TheVariants as reads
use Rattle.wire.specs.declared.body.StreamBody.TheVariants as streams
use Rattle.wire.specs.declared.body.Body.{Body}
use Rattle.wire.specs.declared.body.Body.TheVariants as bodies
use Rattle.wire.specs.declared.refusal.Refusal.{Refusal}
use Rattle.wire.specs.declared.refusal.Refusal.TheVariants as refusals
use Rattle.replica.specs.Groups.{Group}
use Rattle.client.specs.declared.job.Job.{Job}
use Rattle.client.specs.declared.job.Job.TheVariants as jobs
use Rattle.client.specs.declared.job.News.TheVariants as news
use Rattle.client.specs.Requests.{is_same}
use Rattle.client.specs.Client.{ClientState, Outcome, waits, awaits, if_awaited, fenced_if, append_refused, reply_rule, ends, ends_checked, ends_sealed, shuts, grows_behind, appends_again, appended_job, refused_job, checked_job, sealed_job, groups_job, extended_job}
use Rattle.model_streams.proofs.Tests.{if_elim}

module _ (q : ReqNo) (G : Outcome → Type 0) where
  -- what an answer that is waited for makes of each job
  abbrev pub ByJob : ClientState → Body → Job → Type 0
  ByJob c body jobs.Idle = Unit {0}
  ByJob c body (jobs.Sent e r) =
      ((v : ReqNo) (n offset : ℕ) → is_same r v ≡ true → body ≡ bodies.Append (appends.Appended v n offset) → G (ends c (news.Appended e offset)))
      × ((why : Refusal) → G (append_refused c q e why))
  ByJob c body (jobs.Closing e r) = (v : ReqNo) (n l : ℕ) → is_same r v ≡ true → body ≡ bodies.Seal (seals.SealedIs v n l) → G (grows_behind c q e l)
  ByJob c body (jobs.Growing last r) =
      (v : ReqNo) (n : ℕ) (places : Nodes) → is_same r v ≡ true → body ≡ bodies.Stream (streams.Extended v n places) → G (appends_again c q n places)
  ByJob c body (jobs.Checking e r) =
      G (shuts c e q) × ((v : ReqNo) (found : ℕ) → is_same r v ≡ true → body ≡ bodies.Check (checks.Checked v (Some found)) → G (ends_checked c e found))
  ByJob c body (jobs.Shutting e r) = (v : ReqNo) (n l : ℕ) → is_same r v ≡ true → body ≡ bodies.Seal (seals.SealedIs v n l) → G (ends_sealed c e l)
  ByJob c body (jobs.Reading e places upto sealed place r) =
      (v : ReqNo) (n : ℕ) (groups : List Group) → is_same r v ≡ true → body ≡ bodies.Read (reads.Groups v n groups) → G (ends c (news.Content e upto))

  module _ (c : ClientState) (body : Body) (k : G (waits c)) where
    awaited : (v : ReqNo) (o : Outcome) → (awaits c.job v ≡ true → G o) → G (if_awaited c v o)
    awaited v o goes = if_elim G (awaits c.job v) o (waits c) goes (λ f. k)

    fenced : (why : Refusal) → G (ends c news.Fenced) → G (fenced_if c why)
    fenced refusals.Stale f = f
    fenced why f = k

    refused : (j : Job) (why : Refusal) → G (ends c news.Fenced) → ByJob c body j → G (refused_job c q why j)
    refused (jobs.Sent e r) why f h = h.1 why
    refused j why f h = fenced why f

    appended : (j : Job) (v : ReqNo) (n offset : ℕ) → awaits j v ≡ true → body ≡ bodies.Append (appends.Appended v n offset) → ByJob c body j → G (appended_job c offset j)
    appended (jobs.Sent e r) v n offset t is h = h.0 v n offset t is
    appended j v n offset t is h = k

    checked : (j : Job) (v : ReqNo) (found : Option ℕ) → awaits j v ≡ true → body ≡ bodies.Check (checks.Checked v found) → ByJob c body j → G (checked_job c q found j)
    checked (jobs.Checking e r) v None t is h = h.0
    checked (jobs.Checking e r) v (Some found) t is h = h.1 v found t is
    checked j v None t is h = k
    checked j v (Some found) t is h = k

    sealed : (j : Job) (v : ReqNo) (n l : ℕ) → awaits j v ≡ true → body ≡ bodies.Seal (seals.SealedIs v n l) → ByJob c body j → G (sealed_job c q l j)
    sealed (jobs.Closing e r) v n l t is h = h v n l t is
    sealed (jobs.Shutting e r) v n l t is h = h v n l t is
    sealed j v n l t is h = k

    came : (j : Job) (v : ReqNo) (n : ℕ) (groups : List Group) → awaits j v ≡ true → body ≡ bodies.Read (reads.Groups v n groups) → ByJob c body j → G (groups_job c j)
    came (jobs.Reading e places upto sealed place r) v n groups t is h = h v n groups t is
    came j v n groups t is h = k

    extended : (j : Job) (v : ReqNo) (n : ℕ) (places : Nodes) → awaits j v ≡ true → body ≡ bodies.Stream (streams.Extended v n places) → ByJob c body j → G (extended_job c q n places j)
    extended (jobs.Growing last r) v n places t is h = h v n places t is
    extended j v n places t is h = k

    by : (b : Body) → body ≡ b → ((v : ReqNo) → awaits c.job v ≡ true → G (ends c news.Fenced)) → ByJob c body c.job → G (reply_rule c q b)
    by (bodies.Append (appends.Appended v n offset)) is f h = awaited v (appended_job c offset c.job) (λ t. appended c.job v n offset t is h)
    by (bodies.Append (appends.Refused v why)) is f h = awaited v (refused_job c q why c.job) (λ t. refused c.job why (f v t) h)
    by (bodies.Append b) is f h = k
    by (bodies.Check (checks.Checked v found)) is f h = awaited v (checked_job c q found c.job) (λ t. checked c.job v found t is h)
    by (bodies.Check b) is f h = k
    by (bodies.Seal (seals.SealedIs v n l)) is f h = awaited v (sealed_job c q l c.job) (λ t. sealed c.job v n l t is h)
    by (bodies.Seal b) is f h = k
    by (bodies.Read (reads.Groups v n groups)) is f h = awaited v (groups_job c c.job) (λ t. came c.job v n groups t is h)
    by (bodies.Read b) is f h = k
    by (bodies.Stream (streams.Extended v n places)) is f h = awaited v (extended_job c q n places c.job) (λ t. extended c.job v n places t is h)
    by (bodies.Stream b) is f h = k
    by b is f h = k

  -- what an answer makes of a client
  pub reply_takes : (c : ClientState) (body : Body) → G (waits c) → ((v : ReqNo) → awaits c.job v ≡ true → G (ends c news.Fenced)) → ByJob c body c.job → G (reply_rule c q body)
  reply_takes c body k f h = by c body k body refl f h

  -- one that waits for nothing takes no answer
  pub idle_takes : (c : ClientState) (body : Body) → c.job ≡ jobs.Idle → G (waits c) → G (reply_rule c q body)
  idle_takes c body idle k = reply_takes c body k (λ v t. absurd (none v t)) (subst (λ j. ByJob c body j) (sym idle) tt)
    where
      none : (v : ReqNo) → awaits c.job v ≡ true → ⊥
      none v t = let z = subst (λ j. awaits j v ≡ true) idle t in absurd cc
