-- In a run without merges each split that says the keys of its two ranges, or asks to complete itself, has their streams, and its pair is the one
-- that is pending.
use Rattle.std.proofs.Common.{◌≡◌, ℕ, true, List, [], ◌∷◌, ◌++◌, Option, Some, None, Contains, refl, sym, ap, ◌∙◌, subst, arith, append-nil, append_assoc}
use Rattle.wire.specs.declared.actor.ActorId.TheVariants.{Server}
use Rattle.wire.specs.declared.actor.ReqNo.{ReqNo}
use Rattle.wire.specs.declared.body.AppendBody.{AppendBody}
use Rattle.wire.specs.declared.body.AppendBody.TheVariants as appends
use Rattle.wire.specs.declared.body.Body.{Body}
use Rattle.wire.specs.declared.body.Body.TheVariants as bodies
use Rattle.wire.specs.declared.body.MapBody.TheVariants as maps
use Rattle.wire.specs.declared.body.StreamBody.{StreamBody}
use Rattle.wire.specs.declared.body.StreamBody.TheVariants as streams
use Rattle.wire.specs.declared.packet.Packet.{Packet}
use Rattle.wire.specs.declared.refusal.Refusal.{Refusal}
use Rattle.wire.specs.declared.refusal.Refusal.TheVariants as refusals
use Rattle.wire.specs.declared.streams.Modify.{Modify}
use Rattle.wire.specs.declared.streams.StreamKind.{StreamKind}
use Rattle.wire.specs.declared.streams.StreamKind.TheVariants as kinds
use Rattle.wire.specs.declared.streams.StreamName.{StreamName}
use Rattle.streams.specs.Streams.{stream_of}
use Rattle.model_streams.specs.declared.event.Event.{Event}
use Rattle.model_streams.specs.declared.event.Event.TheVariants.{Submit, Deliver, Stop, Restart, Decide, GiveUp, Assign, Renew, Moment, Checkpoint, Split, Merge}
use Rattle.model_streams.specs.Outcome.{packet}
use Rattle.model_streams.specs.StreamSystem.{StreamSystem, start, Move, run_moves}
use Rattle.model_partition.specs.declared.split_job.SplitJob.{SplitJob}
use Rattle.model_partition.specs.declared.split_job.SplitPhase.{SplitPhase}
use Rattle.model_partition.specs.declared.split_job.SplitPhase.TheVariants as phases
use Rattle.model_partition.specs.Answering.{is_answerer}
use Rattle.model_partition.specs.Server.{ServerState}
use Rattle.model_partition.specs.Servers.{ServerCell}
use Rattle.model_partition.specs.Splits.{all_streams}
use Rattle.model_partition.specs.Cluster.{IsUnmerged, Cluster, cluster_after}
use Rattle.model_histories.specs.ServerRun.{stream_named}
use Rattle.laws_streams.proofs.Listings.{lists_grow}
use Rattle.laws_streams.proofs.RisingFences.{run_more}
use Rattle.laws_servers.specs.Sending.{ByMoves}
use Rattle.laws_servers.proofs.EventsAsMoves.{led_by}
use Rattle.laws_map.specs.Naming.{Knowledge, Names}
use Rattle.laws_map.specs.Pairs.{AskOneKey, IsPaired, paired}
use Rattle.laws_map.proofs.AskedNumbers.{ServersOn}
use Rattle.laws_map.proofs.GenerationsInRuns.{same_request, within_laws, other_on, Governs, on_now}
use Rattle.laws_map.proofs.Knowing.{each_weaker}
use Rattle.laws_map.proofs.PendingStays.{pair_in_more, pair_stays}
use Rattle.laws_map.proofs.PostStays.{stays_in_post}
use Rattle.laws_map.specs.Generations.{within}
use Rattle.laws_stream_machine.specs.Refinement.{IsThere}
use Rattle.laws_clusters.proofs.BuildSteps.{StateFits, Completes, Constructs, event_constructs}
use Rattle.laws_clusters.proofs.BuiltAnswers.{AllBuilt, AreBuilt, built_pushed, none_built}
use Rattle.laws_clusters.proofs.SplitBuilds.{HasBuild, PhaseFits, JobFits, SaysBuilt, AppendAnswers, Answers}

-- ---- streams

-- the four streams of a range are there
abbrev pub HasStreams : StreamSystem → ℕ → Type 0
HasStreams w n = (kind : StreamKind) → IsThere w (stream_named n kind)

-- those of both ranges of a split, where each of its list is there
pub sides_there : (w : StreamSystem) (job : SplitJob) → ((m : Modify) → Contains (all_streams job) m → IsThere w m.stream) → HasStreams w job.low × HasStreams w job.high
sides_there w job there = (low, high)
  where
    low : HasStreams w job.low
    low kinds.Metadata = there _ (0, omega arith, refl)
    low kinds.Log = there _ (1, omega arith, refl)
    low kinds.RowData = there _ (2, omega arith, refl)
    low kinds.BlobData = there _ (3, omega arith, refl)

    high : HasStreams w job.high
    high kinds.Metadata = there _ (4, omega arith, refl)
    high kinds.Log = there _ (5, omega arith, refl)
    high kinds.RowData = there _ (6, omega arith, refl)
    high kinds.BlobData = there _ (7, omega arith, refl)

-- ---- what is so of a split that goes on

-- its pair is pending, and both have their streams
abbrev pub IsFitIn : Cluster → ℕ → ℕ → List ℕ → ℕ → ℕ → Type 0
IsFitIn c range generation key low high = IsPaired c.map c.stream_layer.post range generation key low high × HasStreams c.stream_layer low × HasStreams c.stream_layer high

abbrev pub AreConstructed : Cluster → Type 0
AreConstructed c = Constructs (IsFitIn c) c

-- where what fits one way fits another
module _ (Fit More : ℕ → ℕ → List ℕ → ℕ → ℕ → Type 0) (on : (range generation : ℕ) (key : List ℕ) (low high : ℕ) → Fit range generation key low high → More range generation key low high) where
  phase_on : (Asked : ReqNo → List Modify → Type 0) (job : SplitJob) (phase : SplitPhase) → PhaseFits Asked Fit job phase → PhaseFits Asked More job phase
  phase_on Asked job (phases.Build q) f = f
  phase_on Asked job (phases.Keys side c) f = on job.range job.generation job.key job.low job.high f
  phase_on Asked job (phases.Complete q) f = on job.range job.generation job.key job.low job.high f
  phase_on Asked job (phases.Begin q) f = tt
  phase_on Asked job phases.Checkpoint f = tt
  phase_on Asked job phases.Queue f = tt
  phase_on Asked job phases.Record f = tt
  phase_on Asked job (phases.Seal kind q) f = tt

  state_on : (post : List Packet) (state : Option ServerState) → StateFits Fit post state → StateFits More post state
  state_on post None f = tt
  state_on post (Some s) f =
      each_weaker (λ (x : ℕ × SplitJob). JobFits (HasBuild post) Fit x.1) (λ (x : ℕ × SplitJob). JobFits (HasBuild post) More x.1) (λ x j. phase_on (HasBuild post) x.1 x.1.phase j) s.splits f

  completes_on : (body : Body) → Completes Fit body → Completes More body
  completes_on (bodies.Map (maps.CompleteSplit range generation q)) f = (f.0, f.1, f.2, on range generation f.0 f.1 f.2 f.3)
  completes_on (bodies.Map body) f = tt
  completes_on body f = tt

  constructs_on : (c : Cluster) → Constructs Fit c → Constructs More c
  constructs_on c x = record {
    jobs = each_weaker (λ (cell : ServerCell). StateFits Fit c.stream_layer.post cell.state) (λ (cell : ServerCell). StateFits More c.stream_layer.post cell.state) (λ cell f. state_on c.stream_layer.post cell.state f) c.servers x.jobs;
    once = x.once;
    past = x.past;
    completes = λ p there. completes_on p.body (x.completes p there);
    creates = x.creates;
  }

-- ---- the stream layer

module _ (nodes target : ℕ) where
  abbrev after : List Move → StreamSystem
  after moves = run_moves moves (start nodes target)

  builds_on : (moves before : List Move) → AllBuilt (after before) → AllBuilt (after (before ++ moves))
  builds_on [] before b = subst (λ l. AllBuilt (after l)) (sym (append-nil before)) b
  builds_on (move ∷ moves) before b =
      subst (λ l. AllBuilt (after l)) (append_assoc before (move ∷ []) moves) (builds_on moves (before ++ move ∷ []) (built_pushed nodes target before move b))

  module _ (w : StreamSystem) (m : ByMoves (start nodes target) w) where
    pub all_built : AllBuilt w
    all_built = subst AllBuilt m.is (builds_on m.moves [] (none_built nodes target))

    -- no stream goes
    pub name_on : (v : StreamSystem) → ByMoves w v → (s : StreamName) → IsThere w s → IsThere v s
    name_on v more s (x, is) =
        let l = (lists_grow nodes target m.moves more.moves).longer s x (ap (λ (u : StreamSystem). stream_of u.catalog.stream s) m.is ∙ is) in
        (l.now, ap (λ (u : StreamSystem). stream_of u.catalog.stream s) (sym (run_more m.moves more.moves (start nodes target) ∙ ap (run_moves more.moves) m.is ∙ more.is)) ∙ l.is)

    pub there_on : (v : StreamSystem) → ByMoves w v → (n : ℕ) → HasStreams w n → HasStreams v n
    there_on v more n there kind = name_on v more (stream_named n kind) (there kind)

-- ---- events

-- Where a server is refused since a name is taken, the streams that it asked for under the number are there.
abbrev pub TakenAreThere : Cluster → Type 0
TakenAreThere c =
    (p : Packet) (server : ℕ) (w : ReqNo) → Contains c.stream_layer.post p → p.to ≡ Server server → p.body ≡ bodies.Append (appends.Refused w refusals.NameTaken) → is_answerer p.from p.body ≡ true → (job : SplitJob) →
    HasBuild c.stream_layer.post w (all_streams job) → HasStreams c.stream_layer job.low × HasStreams c.stream_layer job.high

module _ (nodes target : ℕ) (c : Cluster) (g : Governs c) (m : ByMoves (start nodes target) c.stream_layer) (one : AskOneKey c.stream_layer.post) (n : Names (paired c.map c.stream_layer.post) c) (x : AreConstructed c) (taken : TakenAreThere c) where
  abbrev post : List Packet
  post = c.stream_layer.post

  abbrev K : Knowledge
  K = paired c.map post

  -- what a server was told is built is there
  modified_there : (p : Packet) (s : ℕ) (w : ReqNo) → Contains post p → p.to ≡ Server s → p.body ≡ bodies.Stream (streams.Modified w) → (job : SplitJob) → HasBuild post w (all_streams job) → HasStreams c.stream_layer job.low × HasStreams c.stream_layer job.high
  modified_there p s w there to is job asked =
      let same : p ≡ packet p.from (Server s) (bodies.Stream (streams.Modified w)) = (λ i. packet p.from (to i) (is i)) in
      let b : AreBuilt c.stream_layer s w = all_built nodes target c.stream_layer m p.from s w (subst (Contains post) same there) in
      let list : b.list ≡ all_streams job = x.once w b.list (all_streams job) (record { packet = _; sent = b.asked; is = refl }) asked in
      sides_there c.stream_layer job (λ y among. b.there y (subst (λ l. Contains l y) (sym list) among))

  says : (w : ReqNo) → ((job : SplitJob) → HasBuild post w (all_streams job) → HasStreams c.stream_layer job.low × HasStreams c.stream_layer job.high) → SaysBuilt (HasBuild post) (HasBuild post) (λ q list b. b) (IsFitIn c) K w
  says w there q same job asked split = let both = there job (subst (λ v. HasBuild post v (all_streams job)) (same_request q w same) asked) in (split, both.0, both.1)

  answers : (p : Packet) (s : ℕ) → Contains post p → p.to ≡ Server s → is_answerer p.from p.body ≡ true → Answers (HasBuild post) (HasBuild post) (λ q list b. b) (IsFitIn c) K p.body
  answers p s there to answerer = go p.body refl
    where
      stream : (body : StreamBody) → p.body ≡ bodies.Stream body → Answers (HasBuild post) (HasBuild post) (λ q list b. b) (IsFitIn c) K (bodies.Stream body)
      stream (streams.Modified w) is = says w (modified_there p s w there to is)
      stream body is = tt

      refusal : (w : ReqNo) (why : Refusal) → p.body ≡ bodies.Append (appends.Refused w why) → AppendAnswers (HasBuild post) (HasBuild post) (λ q list b. b) (IsFitIn c) K (appends.Refused w why)
      refusal w refusals.NameTaken is = says w (taken p s w there to is answerer)
      refusal w why is = tt

      append : (body : AppendBody) → p.body ≡ bodies.Append body → AppendAnswers (HasBuild post) (HasBuild post) (λ q list b. b) (IsFitIn c) K body
      append (appends.Refused w why) is = refusal w why is
      append body is = tt

      go : (body : Body) → p.body ≡ body → Answers (HasBuild post) (HasBuild post) (λ q list b. b) (IsFitIn c) K body
      go (bodies.Stream body) is = stream body is
      go (bodies.Append body) is = append body is
      go body is = tt

  other : (event : Event) → ((s range : ℕ) (key : List ℕ) → event ≡ Split s range key → ⊥) → IsUnmerged event → ServersOn c.servers (cluster_after c event).servers
  other event apart unmerged = other_on (within c.map g.asks) (within_laws c.map g.sound g.asks g.once) c g.names event apart unmerged

  on : (event : Event) → IsUnmerged event → ServersOn c.servers (cluster_after c event).servers
  on (Split s range key) unmerged = on_now c s range key g
  on (Submit user to body) unmerged = other (Submit user to body) (λ s range key e. absurd cc) tt
  on (Deliver number) unmerged = other (Deliver number) (λ s range key e. absurd cc) tt
  on (Stop actor call keep) unmerged = other (Stop actor call keep) (λ s range key e. absurd cc) tt
  on (Restart actor) unmerged = other (Restart actor) (λ s range key e. absurd cc) tt
  on (Decide e) unmerged = other (Decide e) (λ s range key e. absurd cc) tt
  on (GiveUp server range pick) unmerged = other (GiveUp server range pick) (λ s range key e. absurd cc) tt
  on (Assign range server until) unmerged = other (Assign range server until) (λ s range key e. absurd cc) tt
  on (Renew range server until) unmerged = other (Renew range server until) (λ s range key e. absurd cc) tt
  on (Moment now) unmerged = other (Moment now) (λ s range key e. absurd cc) tt
  on (Checkpoint server range combine) unmerged = other (Checkpoint server range combine) (λ s range key e. absurd cc) tt
  on (Merge server left right) unmerged = absurd unmerged

  pub fit_on : (event : Event) (range generation : ℕ) (key : List ℕ) (low high : ℕ) → IsFitIn c range generation key low high → IsFitIn (cluster_after c event) range generation key low high
  fit_on event range generation key low high f =
      let d : Cluster = cluster_after c event in
      let more : ByMoves c.stream_layer d.stream_layer = led_by (event ∷ []) c in (
        pair_in_more d.map post d.stream_layer.post (λ p there. stays_in_post c p there event) range generation key low high (pair_stays c g.sound post one n range generation key low high f.0 event),
        there_on nodes target c.stream_layer m d.stream_layer more low f.1,
        there_on nodes target c.stream_layer m d.stream_layer more high f.2,
      )

  pub event_constructed : (event : Event) → IsUnmerged event → AreConstructed (cluster_after c event)
  event_constructed event unmerged =
      constructs_on (IsFitIn c) (IsFitIn (cluster_after c event)) (fit_on event) (cluster_after c event)
      (event_constructs (IsFitIn c) K c x n g.sound g.themselves answers event unmerged (on event unmerged))
