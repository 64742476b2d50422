-- What is so of the two ranges of each split in every run without merges: its server holds neither while they are made; their
-- streams are not there before it asks for them, and are built as it asks; and where it is told so they are there.
use Rattle.std.proofs.Common.{◌≡◌, ℕ, ◌≤◌, true, ◌&&◌, List, [], ◌∷◌, ◌++◌, Some, is_none, Contains, refl, sym, ap, ◌∙◌, subst, inl, inr, arith, if◌then◌else◌}
use Rattle.std.proofs.lemmas.Option.{same_Some}
use Rattle.wire.specs.declared.actor.ActorId.TheVariants.{Manager, Server}
use Rattle.wire.specs.declared.actor.ReqNo.{ReqNo}
use Rattle.wire.specs.declared.body.AppendBody.TheVariants as appends
use Rattle.wire.specs.declared.body.Body.{Body}
use Rattle.wire.specs.declared.body.Body.TheVariants as bodies
use Rattle.wire.specs.declared.body.StreamBody.TheVariants as streams
use Rattle.wire.specs.declared.packet.Packet.{Packet}
use Rattle.wire.specs.declared.refusal.Refusal.TheVariants as refusals
use Rattle.wire.specs.declared.streams.Modify.{Modify}
use Rattle.wire.specs.declared.streams.Source.{Source}
use Rattle.wire.specs.declared.streams.StreamKind.{StreamKind}
use Rattle.wire.specs.declared.streams.StreamKind.TheVariants as kinds
use Rattle.wire.specs.declared.streams.StreamName.{StreamName}
use Rattle.model_streams.specs.declared.event.Event.{Event}
use Rattle.model_streams.specs.declared.manager_record.ManagerRecord.TheVariants as records
use Rattle.model_streams.specs.Manager.{modify_refusal, modify_taken, manager_rule, writes}
use Rattle.model_streams.specs.Outcome.{or_refused}
use Rattle.model_streams.specs.StreamSystem.{StreamSystem, happens}
use Rattle.model_partition.specs.declared.split_job.Side.{Side as SplitSide}
use Rattle.model_partition.specs.declared.split_job.SplitJob.{SplitJob}
use Rattle.model_partition.specs.declared.split_job.SplitPhase.{SplitPhase}
use Rattle.model_partition.specs.declared.split_job.SplitPhase.TheVariants as phases
use Rattle.model_partition.specs.Answering.{answered_number, is_answerer}
use Rattle.model_partition.specs.Cluster.{Cluster, AreUnmerged, cluster_after, first_cluster}
use Rattle.model_partition.specs.Servers.{ServerCell}
use Rattle.model_partition.specs.Splits.{all_streams, side_range, phase_awaits}
use Rattle.model_histories.specs.ServerRun.{ServerEvent, run_of, stream_named}
use Rattle.laws_streams.proofs.Choices.{contains_get}
use Rattle.laws_stream_machine.specs.Refinement.{IsThere}
use Rattle.laws_ranges.specs.Serves.{metadata_of}
use Rattle.laws_ranges.specs.SplitJobs.{TellsBuilt}
use Rattle.laws_map.specs.Naming.{Each}
use Rattle.laws_map.specs.Stages.{stage_of, TellsBuilt as TellsUnder}
use Rattle.laws_map.proofs.GenerationsInRuns.{same_request}
use Rattle.laws_map.proofs.Knowing.{each_has}
use Rattle.laws_map.proofs.LayerBirths.{BuildsName, happens_brings}
use Rattle.laws_map.proofs.ManagerBirths.{AllIn}
use Rattle.laws_map.proofs.SplitFacts.{KnowsSplits, IsSide, JobAt, event_knows, first_knows, split_alone, split_apart, split_above, split_builds, held_assigned, split_unassigned, taken_list}
use Rattle.laws_map.proofs.StagesKept.{sides_of, lists_apart, heard_there}
use Rattle.laws_clusters.specs.ServerEvents.{is_written, takes_build, built_by, server_events, server_events_after}
use Rattle.laws_clusters.proofs.BuildEvents.{built_at, built_if, built_in}
use Rattle.laws_clusters.proofs.Invariant.{SplitAt, IsMaking, AreAside}
use Rattle.laws_clusters.proofs.RangeStreams.{HasStreams}
use Rattle.laws_clusters.proofs.RunBuilds.{sides_there}
use Rattle.laws_clusters.proofs.ShownNotes.{event_goes}
use Rattle.laws_clusters.proofs.SplitNews.{BuildsSide, BuildsOfSplits}
use Rattle.laws_clusters.proofs.SplitPremises.{side_is}

-- ---- phases

making_stage : (phase : SplitPhase) → IsMaking phase → (1 ≤ stage_of phase) × (stage_of phase ≤ 3)
making_stage (phases.Build q) making = (omega arith, omega arith)
making_stage (phases.Keys side c) making = (omega arith, omega arith)
making_stage (phases.Begin q) making = absurd making
making_stage phases.Checkpoint making = absurd making
making_stage phases.Queue making = absurd making
making_stage phases.Record making = absurd making
making_stage (phases.Seal kind q) making = absurd making
making_stage (phases.Complete q) making = absurd making

-- ---- answers

-- what tells that the streams are built tells it under the number that it repeats
told_under : (body : Body) → TellsBuilt body → (q : ReqNo) → answered_number body ≡ Some q → TellsUnder q body
told_under (bodies.Stream (streams.Modified v)) tells q number = inl (ap (λ u. bodies.Stream (streams.Modified u)) (same_Some v q number))
told_under (bodies.Append (appends.Refused v refusals.NameTaken)) tells q number = inr (ap (λ u. bodies.Append (appends.Refused u refusals.NameTaken)) (same_Some v q number))
told_under body tells q number = absurd tells

-- ---- lists of streams

abbrev sources_of : ℕ → ℕ → StreamKind → List Source
sources_of range generation kind = record { stream = stream_named range kind; generation = generation } ∷ []

-- each stream of a split's list is built of the one of its kind of the range that is split
list_sources : (job : SplitJob) → Each (λ (m : Modify). m.sources ≡ sources_of job.range job.generation m.stream.kind) (all_streams job)
list_sources job = (refl, (refl, (refl, (refl, (refl, (refl, (refl, (refl, tt))))))))

-- ---- a cluster

-- a split at a server, in the words of what is known of splits
pub job_of : (servers : List ServerCell) (s range : ℕ) (job : SplitJob) → SplitAt servers s range job → JobAt servers s range job
job_of servers s range job a = record { cell = a.cell; state = a.state; there = a.there; runs = a.up; found = a.found }

module _ (c : Cluster) (k : KnowsSplits c) where
  abbrev w : StreamSystem
  w = c.stream_layer

  here : (s range : ℕ) (job : SplitJob) → SplitAt c.servers s range job → JobAt c.servers s range job
  here s range job a = job_of c.servers s range job a

  side : (job : SplitJob) (part : SplitSide) → IsSide (side_range job part) job
  side job part = side_is job part (side_range job part) refl

  -- the server of a split holds neither of its two ranges while they are made, no other split there makes them, and they are two
  pub known_aside : AreAside c.servers
  known_aside = record {
    unheld = λ s range job a making part r held.
        (let stage = making_stage job.phase making in
        split_unassigned c k s range job (here s range job a) stage.0 stage.1 (side_range job part) (side job part) (held_assigned c k s held.cell held.state held.there held.up (side_range job part) r held.found));
    once = λ s range j job other a b making makes one two same.
        (split_alone c k s s range j job other (here s range job a) (here s j other b) (making_stage job.phase making).0 (making_stage other.phase makes).0 (side_range job one) (side job one) (side_is other two (side_range job one) same)).1;
    two = λ s range job a making same. split_apart c k s range job (here s range job a) (making_stage job.phase making).0 same;
  }

  -- where the metadata of one of the two is there, the streams of both are, and the split has asked for them
  pub known_streams : (s range : ℕ) (job : SplitJob) → SplitAt c.servers s range job → 1 ≤ stage_of job.phase → (child : ℕ) → IsSide child job → IsThere w (metadata_of child) → (2 ≤ stage_of job.phase) × AllIn w.catalog.stream (all_streams job)
  known_streams s range job a come child of there = elim (k.stand.together (metadata_of child) there) [
    | inl small ↦ absurd (split_above c k s range job (here s range job a) come child of small)
    | inr (other, asks, own, all) ↦ (let b = split_builds c k s range job (here s range job a) come other asks child own of in (b.0, subst (AllIn w.catalog.stream) b.1 all))
  ]

  -- ---- what a split is told

  -- where it is told under the number of its request that its streams are built, they are there
  pub known_answered : (s range : ℕ) (job : SplitJob) → SplitAt c.servers s range job → (q : ReqNo) → job.phase ≡ phases.Build q → (p : Packet) → Contains w.post p → p.to ≡ Server s → is_answerer p.from p.body ≡ true → TellsBuilt p.body →
      answered_number p.body ≡ Some q → HasStreams w job.low × HasStreams w job.high
  known_answered s range job a q waits p there to may tells number =
      let asked = (k.stand.stages.jobs s a.cell a.state a.there a.up range job a.found).asked q waits in
      sides_there w job
      (heard_there w c.servers k.whole k.stand k.gives.given k.governs.asks c.map.next k.gives.gives.map.below k.gives.gives.names.post k.governs.sent s p there to q may (told_under p.body tells q number) job asked.0 asked.1)

  -- so it is of an answer that it waits for
  pub known_heard : (s range : ℕ) (job : SplitJob) → SplitAt c.servers s range job → (q : ReqNo) → job.phase ≡ phases.Build q → (p : Packet) → Contains w.post p → p.to ≡ Server s → is_answerer p.from p.body ≡ true → TellsBuilt p.body →
      (u : ReqNo) → answered_number p.body ≡ Some u → phase_awaits job.phase u ≡ true → HasStreams w job.low × HasStreams w job.high
  known_heard s range job a q waits p there to may tells u number awaits =
      let same : q ≡ u = same_request q u (subst (λ phase. phase_awaits phase u ≡ true) waits awaits) in
      known_answered s range job a q waits p there to may tells (number ∙ ap Some (sym same))

  -- ---- what an event builds

  -- a stream that the event brings of one of the two is of the list that it takes, which is the split's
  side_built : (event : Event) (s range : ℕ) (job : SplitJob) → SplitAt c.servers s range job → 1 ≤ stage_of job.phase → (part : SplitSide) → BuildsName w event (happens w event) (metadata_of (side_range job part)) → BuildsSide w event range job part
  side_built event s range job a come part b =
      let p : Packet = b.packet in
      let list : List Modify = b.listed.list in
      let body = b.listed.body in
      let entry : Modify = b.listed.entry in
      let rule : (manager_rule w.catalog p p.body).written ≡ writes (records.MultiModify list) =
      ap (λ y. (manager_rule w.catalog p y).written) body ∙ ap (λ o. (or_refused w.catalog Manager p b.listed.request o (modify_taken w.catalog p list b.listed.request)).written) b.listed.free in
      let takes : takes_build w p list ≡ true =
      ap (λ u. u && (is_none (modify_refusal w.catalog p list) && is_written w.manager_cell (writes (records.MultiModify list)))) b.up
      ∙ ap (λ o. is_none o && is_written w.manager_cell (writes (records.MultiModify list))) b.listed.free
      ∙ ap (is_written w.manager_cell) (sym rule) ∙ b.written in
      let built : built_in w event ≡ list = ap (built_in w) b.delivers ∙ ap (built_if w) b.at ∙ ap (built_at w p) b.to ∙ ap (built_by w p) body ∙ ap (λ t. if t then list else []) takes in
      let (other, is, asks) = taken_list c k p (contains_get w.post b.number p b.at) list b.listed.request body in
      let among : Contains (all_streams other) entry = subst (λ l. Contains l entry) is b.listed.among in
      let own : IsSide (side_range job part) other = subst (λ (x : StreamName). IsSide x.range other) b.listed.is (each_has (λ (m : Modify). IsSide m.stream.range other) (all_streams other) entry (sides_of other) among) in
      let same : all_streams other ≡ all_streams job = (split_builds c k s range job (here s range job a) come other asks (side_range job part) own (side job part)).1 in
      let from : entry.sources ≡ sources_of job.range job.generation entry.stream.kind =
      each_has (λ (m : Modify). m.sources ≡ sources_of job.range job.generation m.stream.kind) (all_streams job) entry (list_sources job) (subst (λ l. Contains l entry) same among) in
      let number : job.range ≡ range = (k.stand.stages.jobs s a.cell a.state a.there a.up range job a.found).number in
      record {
        entry = entry;
        among = subst (λ l. Contains l entry) (sym built) b.listed.among;
        stream = b.listed.is;
        sources = from ∙ ap (λ (x : StreamName). sources_of job.range job.generation x.kind) b.listed.is ∙ ap (λ n. sources_of n job.generation kinds.Metadata) number;
      }

  -- Each event that brings the metadata of one of the two ranges of a split builds it, of that of the range that is split.
  pub known_builds : (event : Event) → BuildsOfSplits c event
  known_builds event s range job a making part there =
      let come : 1 ≤ stage_of job.phase = (making_stage job.phase making).0 in
      elim ((happens_brings w k.stand.stages.creates (lists_apart w k.gives.given k.governs.asks c.map.next k.gives.gives.map.below k.gives.gives.names.post) event).born (metadata_of (side_range job part)) there) [
        | inl old ↦ inl old
        | inr new ↦ elim new [
          | inl user ↦ absurd (let none : side_range job part ≡ 0 = user in split_above c k s range job (here s range job a) come (side_range job part) (side job part) (omega (arith, none)))
          | inr builds ↦ inr (side_built event s range job a come part builds)
        ]
      ]

-- ---- runs

led_aside : (batch count : ℕ) (events : List Event) → AreUnmerged events → (c : Cluster) → KnowsSplits c → (coming : List ServerEvent) → c.servers ≡ (run_of batch count coming).servers → AreAside (run_of batch count (server_events_after c coming events)).servers
led_aside batch count [] are c k coming same = subst AreAside same (known_aside c k)
led_aside batch count (event ∷ events) are c k coming same =
    led_aside batch count events are.1 (cluster_after c event) (event_knows c event are.0 k) (server_events c event ++ coming) (event_goes batch count c coming same event are.0).cells

-- In every run without merges the two ranges of each split are aside at the servers that what comes to them makes.
pub run_aside : (nodes servers target batch : ℕ) (events : List Event) → AreUnmerged events → AreAside (run_of batch servers (server_events_after (first_cluster nodes servers target batch) [] events)).servers
run_aside nodes servers target batch events are = led_aside batch servers events are (first_cluster nodes servers target batch) (first_knows nodes servers target batch) [] refl
