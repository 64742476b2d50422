-- What an answer makes of the load of a stream is turns of its incarnation.
use Rattle.std.proofs.Common.{◌≡◌, ℕ, List, Option, Some, None, subst}
use Rattle.wire.specs.declared.actor.ReqNo.{ReqNo}
use Rattle.wire.specs.declared.body.CheckBody.TheVariants as checks
use Rattle.wire.specs.declared.body.SealBody.TheVariants as seals
use Rattle.wire.specs.declared.body.Body.{Body}
use Rattle.wire.specs.declared.packet.Packet.{Packet}
use Rattle.wire.specs.declared.streams.StreamName.{StreamName}
use Rattle.client.specs.declared.job.Job.{Job}
use Rattle.client.specs.declared.job.Job.TheVariants as jobs
use Rattle.client.specs.declared.job.News.{News}
use Rattle.client.specs.declared.job.News.TheVariants as news
use Rattle.client.specs.Client.{ClientState, Outcome, reply_rule}
use Rattle.model_streams.specs.StreamSystem.{StreamSystem}
use Rattle.laws_stream_machine.specs.Refinement.{Sent, purpose_of, Checks, Seals, Means, CheckMeans, SealMeans}
use Rattle.laws_ranges.specs.Serves.{Stand, LoadsBy, LoadingIs, Listed, Goes}
use Rattle.laws_ranges.proofs.MachineSteps.{for_same}
use Rattle.laws_ranges.proofs.ClientReplies.{ByJob, reply_takes}
use Rattle.laws_ranges.proofs.AppendJob.{rests}
use Rattle.laws_ranges.proofs.LoadTurns.{LoadsNow, found_goes, shuts_goes, sealed_goes, groups_goes}

module _ (generation : ℕ → ℕ) (name : StreamName) (w : StreamSystem) (i : ℕ) (sent : List Sent) (q : ReqNo) (x : Stand) where
  -- an answer under an old generation ends all; where something is told, nothing has been turned or sent
  abbrev pub LoadTold : Option News → ClientState → Option Packet → Type 0
  LoadTold None c packet = Goes generation name w i x sent q (λ y more. LoadingIs generation name w i y more c) packet
  LoadTold (Some news.Fenced) c packet = Unit {0}
  LoadTold (Some (news.Appended e offset)) c packet = LoadsNow generation name w i x sent c packet
  LoadTold (Some (news.Checked e found)) c packet = LoadsNow generation name w i x sent c packet
  LoadTold (Some (news.Sealed e l)) c packet = LoadsNow generation name w i x sent c packet
  LoadTold (Some (news.Content e upto)) c packet = LoadsNow generation name w i x sent c packet

module _ (generation : ℕ → ℕ) (name : StreamName) (w : StreamSystem) (i : ℕ) (listed : Listed w name) (sent : List Sent) (q : ReqNo) (fresh : purpose_of sent q ≡ None) (x : Stand) where
  abbrev pub LoadWent : Outcome → Type 0
  LoadWent o = LoadTold generation name w i sent q x o.news o.after o.packet

  abbrev Meant : Body → Type 0
  Meant body = Means generation name w x.state sent body

  load_by : (c : ClientState) → LoadingIs generation name w i x sent c → (body : Body) → Meant body → (j : Job) → LoadsBy generation name w i x sent c j → ByJob q LoadWent c body j
  load_by c l body m jobs.Idle b = tt
  load_by c l body m (jobs.Checking e r) b = (
    shuts_goes generation name w i listed sent q fresh x c e b.index l.told l.opened b.last b.stands,
    λ v found t is.
        let means : CheckMeans generation name w x.state sent (Some (Checks i b.index)) (checks.Checked v (Some found)) =
        subst (λ z. CheckMeans generation name w x.state sent z (checks.Checked v (Some found))) (for_same sent r v (Checks i b.index) t b.for) (subst (λ z. Meant z) is m) in
        found_goes generation name w i listed sent q fresh x c e found r l b means.0 means.1,
  )
  load_by c l body m (jobs.Shutting e r) b =
      λ v n s t is.
      let means : SealMeans generation name w x.state sent (Some (Seals i b.index)) (seals.SealedIs v n s) =
      subst (λ z. SealMeans generation name w x.state sent z (seals.SealedIs v n s)) (for_same sent r v (Seals i b.index) t b.for) (subst (λ z. Meant z) is m) in
      sealed_goes generation name w i listed sent q fresh x c e s r l b means.1 means.2 means.3
  load_by c l body m (jobs.Reading e places upto sealed place r) b = λ v n groups t is. groups_goes generation name w i listed sent q fresh x c e upto l b.readable
  load_by c l body m j b = absurd b

  -- what an answer that is right makes of the load of a stream
  pub load_goes : (c : ClientState) → LoadingIs generation name w i x sent c → (body : Body) → Meant body → LoadWent (reply_rule c q body)
  load_goes c l body m = reply_takes q LoadWent c body (rests generation name w i x sent q _ l) (λ v t. tt) (load_by c l body m c.job l.job)
