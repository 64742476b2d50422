-- A group that stands where a server is told that it was appended was acknowledged there.
use Rattle.std.proofs.Common.{◌≡◌, ℕ, List, [], true, false, Option, Some, Contains, refl, sym, ap, ◌∙◌, subst}
use Rattle.wire.specs.declared.actor.ActorId.{ActorId}
use Rattle.wire.specs.declared.actor.ActorId.TheVariants.{Server}
use Rattle.wire.specs.declared.actor.ReqNo.{ReqNo}
use Rattle.wire.specs.declared.body.AppendBody.TheVariants as appends
use Rattle.wire.specs.declared.body.Body.{Body}
use Rattle.wire.specs.declared.body.Body.TheVariants as bodies
use Rattle.wire.specs.declared.note.Note.TheVariants.{Acked}
use Rattle.wire.specs.declared.refusal.Refusal.{Refusal}
use Rattle.wire.specs.declared.refusal.Refusal.TheVariants as refusals
use Rattle.wire.specs.declared.streams.StreamName.{StreamName}
use Rattle.replica.specs.Groups.{Group}
use Rattle.client.specs.declared.job.Job.{Job}
use Rattle.client.specs.declared.job.Job.TheVariants as jobs
use Rattle.client.specs.declared.job.News.TheVariants as news
use Rattle.client.specs.Client.{ClientState, Outcome, append_refused, reply_rule}
use Rattle.client.specs.Requests.{is_same}
use Rattle.model_streams.specs.Outcome.{packet}
use Rattle.model_streams.specs.StreamSystem.{StreamSystem, Move}
use Rattle.model_partition.specs.declared.server_context.ServerContext.{ServerContext}
use Rattle.model_partition.specs.declared.split_job.SplitJob.{SplitJob}
use Rattle.model_partition.specs.Range.{OutGroup, RangeState, request, picking}
use Rattle.memtable.specs.declared.cell.Place.{Place}
use Rattle.model_partition.specs.CheckpointStates.{CheckpointState}
use Rattle.model_partition.specs.declared.checkpoint_job.CheckpointPhase.TheVariants as checkpoints
use Rattle.model_histories.specs.ServerTurns.{Whole}
use Rattle.model_histories.specs.StreamActions.{split_group, group_of, record_group}
use Rattle.laws_streams.proofs.ContentAnswers.{content_answered}
use Rattle.laws_stream_machine.specs.Refinement.{Sent, Appends, purpose_of, IsAt, Means, MeansBy}
use Rattle.laws_stream_machine.proofs.LowerLayer.{Below, system}
use Rattle.laws_stream_machine.proofs.ServerRequests.{same_request}
use Rattle.laws_ranges.specs.Serves.{IsTold, SentIs, ServesBy, JobIs, GroupIs, OutIs, IsRecord, RecordIs, is_recording_in}
use Rattle.laws_ranges.proofs.ClientAsks.{at_last}
use Rattle.laws_ranges.proofs.ClientReplies.{ByJob, reply_takes}
use Rattle.laws_ranges.proofs.TurnsAsMoves.{stand_of}

-- ---- news of an append

module _ (P : ℕ → ℕ → Type 0) where
  abbrev Tells : Outcome → Type 0
  Tells o = (e offset : ℕ) → o.news ≡ Some (news.Appended e offset) → P e offset

  -- it comes of the answer that the append's job waits for
  module _ (c : ClientState) (q : ReqNo) (body : Body)
      (sent : (e : ℕ) (r v : ReqNo) (n offset : ℕ) → c.job ≡ jobs.Sent e r → is_same r v ≡ true → body ≡ bodies.Append (appends.Appended v n offset) → P e offset) where
    refused_tells : (e : ℕ) (why : Refusal) → Tells (append_refused c q e why)
    refused_tells e refusals.NotOpen a b is = absurd cc
    refused_tells e refusals.ExtentFull a b is = absurd cc
    refused_tells e refusals.Stale a b is = absurd cc
    refused_tells e why a b is = absurd cc

    same_news : (e offset a b : ℕ) → P e offset → Some (news.Appended e offset) ≡ Some (news.Appended a b) → P a b
    same_news e offset a b p is =
        let one : e ≡ a = cc in
        let two : offset ≡ b = cc in
        subst (λ z. P z b) one (subst (λ z. P e z) two p)

    by_job : (j : Job) → c.job ≡ j → ByJob q Tells c body j
    by_job jobs.Idle at = tt
    by_job (jobs.Sent e r) at = ((λ v n offset same is a b told. same_news e offset a b (sent e r v n offset at same is) told), λ why. refused_tells e why)
    by_job (jobs.Closing e r) at = λ v n l same is a b told. absurd cc
    by_job (jobs.Growing last r) at = λ v n places same is a b told. absurd cc
    by_job (jobs.Checking e r) at = ((λ a b told. absurd cc), λ v found same is a b told. absurd cc)
    by_job (jobs.Shutting e r) at = λ v n l same is a b told. absurd cc
    by_job (jobs.Reading e places upto sealed place r) at = λ v n groups same is a b told. absurd cc

    pub appended_tells : Tells (reply_rule c q body)
    appended_tells = reply_takes q Tells c body (λ a b told. absurd cc) (λ v t a b told. absurd cc) (by_job c.job refl)

-- ---- one stream

module _ (generation : ℕ → ℕ) (name : StreamName) (nodes target : ℕ) (moves : List Move) (whole : Whole Group generation) (sent : List Sent)
    (below : Below generation name nodes target moves whole sent) (i : ℕ) where
  abbrev w : StreamSystem
  w = system generation name nodes target moves

  module _ (c : ClientState) (told : IsTold generation name w i (stand_of generation whole i) sent c) (e : ℕ) (r : ReqNo) (job : SentIs generation name w i (stand_of generation whole i) sent c e r)
      (v : ReqNo) (n offset : ℕ) (same : is_same r v ≡ true) (from : ActorId) (server : ℕ) (there : Contains w.post (packet from (Server server) (bodies.Append (appends.Appended v n offset))))
      (means : Means generation name w whole.state sent (bodies.Append (appends.Appended v n offset))) where
    for : purpose_of sent v ≡ Some (Appends i job.index job.append c.group)
    for = subst (λ q. purpose_of sent q ≡ Some (Appends i job.index job.append c.group)) (same_request r v same) job.for

    at : IsAt w name job.index n
    at = (subst (λ o. MeansBy generation name w whole.state sent o (bodies.Append (appends.Appended v n offset))) for means).0

    extent_is : n ≡ e
    extent_is =
        let both : Some n ≡ Some e = sym at ∙ at_last generation name w i (stand_of generation whole i) sent c e job.index told job.last in
        cc

    -- the group is acknowledged
    pub acked : Contains w.notes (Acked e offset c.group)
    acked =
        let a = (content_answered nodes target moves []).appended from (Server server) v n offset there in
        let known = (below.asked server from (bodies.Append (appends.Append n a.generation a.blocks v)) a.asked).known (Appends i job.index job.append c.group) for in
        let asks = known.2 in
        let both : Some (Appends asks.i known.0 asks.append a.blocks) ≡ Some (Appends i job.index job.append c.group) = sym asks.for ∙ for in
        let group_is : a.blocks ≡ c.group = cc in
        subst (λ z. Contains w.notes (Acked z offset c.group)) extent_is (subst (λ z. Contains w.notes (Acked n offset z)) group_is a.noted)

  -- ---- a range that is served

  module _ (c : ClientState) (out : Option OutGroup) (told : IsTold generation name w i (stand_of generation whole i) sent c) (serves : ServesBy generation name w i (stand_of generation whole i) sent c c.job)
      (out_is : OutIs c.job c.group out) (d : ServerContext) (from : ActorId) (server : ℕ) (body : Body) (there : Contains w.post (packet from (Server server) body))
      (means : Means generation name w whole.state sent body) where
    -- the group that is out is acknowledged where it stands
    abbrev Stands : ℕ → ℕ → Type 0
    Stands e offset = (group : OutGroup) → out ≡ Some group → Contains w.notes (Acked e offset (group_of group))

    sent_stands : (e : ℕ) (r v : ReqNo) (n offset : ℕ) → c.job ≡ jobs.Sent e r → is_same r v ≡ true → body ≡ bodies.Append (appends.Appended v n offset) → Stands e offset
    sent_stands e r v n offset at same is group there_is =
        let job : SentIs generation name w i (stand_of generation whole i) sent c e r = subst (λ j. ServesBy generation name w i (stand_of generation whole i) sent c j) at serves in
        let known : GroupIs c.group out = subst (λ j. OutIs j c.group out) at out_is in
        let both : Some known.0 ≡ Some group = sym known.1 ∙ there_is in
        let one : known.0 ≡ group = cc in
        subst (λ z. Contains w.notes (Acked e offset z)) (known.2 ∙ ap group_of one)
        (acked c told e r job v n offset same from server (subst (λ b. Contains w.post (packet from (Server server) b)) is there) (subst (λ b. Means generation name w whole.state sent b) is means))

    pub out_acked : (e offset : ℕ) → (reply_rule (picking d c) (request d) body).news ≡ Some (news.Appended e offset) → Stands e offset
    out_acked = appended_tells Stands (picking d c) (request d) body sent_stands

  -- ---- the record of a checkpoint

  module _ (r : RangeState) (told : IsTold generation name w i (stand_of generation whole i) sent r.metadata) (serves : ServesBy generation name w i (stand_of generation whole i) sent r.metadata r.metadata.job)
      (record_is : RecordIs r) (d : ServerContext) (from : ActorId) (server : ℕ) (body : Body) (there : Contains w.post (packet from (Server server) body))
      (means : Means generation name w whole.state sent body) where
    -- the record that is out is acknowledged where it stands
    abbrev Records : ℕ → ℕ → Type 0
    Records e offset = (job : CheckpointState) → r.control ≡ Some job → (index : Place) → job.phase ≡ checkpoints.Record index → Contains w.notes (Acked e offset (record_group r job index))

    sent_records : (e : ℕ) (q v : ReqNo) (n offset : ℕ) → r.metadata.job ≡ jobs.Sent e q → is_same q v ≡ true → body ≡ bodies.Append (appends.Appended v n offset) → Records e offset
    sent_records e q v n offset at same is job under_way index recording =
        let sent_is : SentIs generation name w i (stand_of generation whole i) sent r.metadata e q = subst (λ j. ServesBy generation name w i (stand_of generation whole i) sent r.metadata j) at serves in
        let known : IsRecord r r.metadata.group = subst (λ j. JobIs (IsRecord r) (is_recording_in r.control ≡ false) j r.metadata.group) at record_is in
        let both : Some known.0 ≡ Some job = sym known.2 ∙ under_way in
        let one : known.0 ≡ job = cc in
        let phases : checkpoints.Record known.1 ≡ checkpoints.Record index = sym known.3 ∙ ap (λ (z : CheckpointState). z.phase) one ∙ recording in
        let two : known.1 ≡ index = cc in
        subst (λ z. Contains w.notes (Acked e offset z)) (known.4 ∙ ap (λ z. record_group r z known.1) one ∙ ap (record_group r job) two)
        (acked r.metadata told e q sent_is v n offset same from server (subst (λ b. Contains w.post (packet from (Server server) b)) is there) (subst (λ b. Means generation name w whole.state sent b) is means))

    pub record_acked : (e offset : ℕ) → (reply_rule (picking d r.metadata) (request d) body).news ≡ Some (news.Appended e offset) → Records e offset
    record_acked = appended_tells Records (picking d r.metadata) (request d) body sent_records

  -- ---- the record of a split

  module _ (r : RangeState) (split : SplitJob) (told : IsTold generation name w i (stand_of generation whole i) sent r.metadata) (serves : ServesBy generation name w i (stand_of generation whole i) sent r.metadata r.metadata.job)
      (group_is : JobIs (λ group. group ≡ split_group split) (Unit {0}) r.metadata.job r.metadata.group) (d : ServerContext) (from : ActorId) (server : ℕ) (body : Body) (there : Contains w.post (packet from (Server server) body))
      (means : Means generation name w whole.state sent body) where
    abbrev Splits : ℕ → ℕ → Type 0
    Splits e offset = Contains w.notes (Acked e offset (split_group split))

    sent_splits : (e : ℕ) (q v : ReqNo) (n offset : ℕ) → r.metadata.job ≡ jobs.Sent e q → is_same q v ≡ true → body ≡ bodies.Append (appends.Appended v n offset) → Splits e offset
    sent_splits e q v n offset at same is =
        let sent_is : SentIs generation name w i (stand_of generation whole i) sent r.metadata e q = subst (λ j. ServesBy generation name w i (stand_of generation whole i) sent r.metadata j) at serves in
        let known : r.metadata.group ≡ split_group split = subst (λ j. JobIs (λ group. group ≡ split_group split) (Unit {0}) j r.metadata.group) at group_is in
        subst (λ z. Contains w.notes (Acked e offset z)) known
        (acked r.metadata told e q sent_is v n offset same from server (subst (λ b. Contains w.post (packet from (Server server) b)) is there) (subst (λ b. Means generation name w whole.state sent b) is means))

    -- it is acknowledged where it stands
    pub split_acked : (e offset : ℕ) → (reply_rule (picking d r.metadata) (request d) body).news ≡ Some (news.Appended e offset) → Splits e offset
    split_acked = appended_tells Splits (picking d r.metadata) (request d) body sent_splits

  -- ---- the keys of a range that a split makes

  module _ (c : ClientState) (told : IsTold generation name w i (stand_of generation whole i) sent c) (serves : ServesBy generation name w i (stand_of generation whole i) sent c c.job) (d : ServerContext) (from : ActorId) (server : ℕ) (body : Body)
      (there : Contains w.post (packet from (Server server) body)) (means : Means generation name w whole.state sent body) where
    abbrev Keys : ℕ → ℕ → Type 0
    Keys e offset = Contains w.notes (Acked e offset c.group)

    sent_keys : (e : ℕ) (q v : ReqNo) (n offset : ℕ) → c.job ≡ jobs.Sent e q → is_same q v ≡ true → body ≡ bodies.Append (appends.Appended v n offset) → Keys e offset
    sent_keys e q v n offset at same is =
        let sent_is : SentIs generation name w i (stand_of generation whole i) sent c e q = subst (λ j. ServesBy generation name w i (stand_of generation whole i) sent c j) at serves in
        acked c told e q sent_is v n offset same from server (subst (λ b. Contains w.post (packet from (Server server) b)) is there) (subst (λ b. Means generation name w whole.state sent b) is means)

    -- what its client appends is acknowledged where it stands
    pub client_acked : (e offset : ℕ) → (reply_rule (picking d c) (request d) body).news ≡ Some (news.Appended e offset) → Keys e offset
    client_acked = appended_tells Keys (picking d c) (request d) body sent_keys
