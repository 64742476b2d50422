-- Who asks in an event that the streams of a split's two ranges are built: a server, whose split waits for them then.
use Rattle.std.proofs.Common.{◌≡◌, ◌⊎◌, ℕ, ◌-◌, ◌==◌, Bool, true, nat_lt, List, [], ◌++◌, Option, Some, None, slice_get, slice_set, Contains, refl, ap, ◌∙◌, subst, inl, inr, arith}
use Rattle.std.proofs.lemmas.List.Elements.{Contains-append_cases}
use Rattle.block_types.specs.declared.record.Nodes.{Nodes}
use Rattle.wire.specs.declared.actor.ActorId.{ActorId}
use Rattle.wire.specs.declared.actor.ActorId.TheVariants.{Node, Manager, Map, Server, User}
use Rattle.wire.specs.declared.actor.ReqNo.{ReqNo}
use Rattle.wire.specs.declared.body.Body.TheVariants as bodies
use Rattle.wire.specs.declared.body.StreamBody.TheVariants.{MultiModify}
use Rattle.wire.specs.declared.packet.Packet.{Packet}
use Rattle.wire.specs.declared.refusal.Refusal.{Refusal}
use Rattle.wire.specs.declared.streams.Modify.{Modify}
use Rattle.model_streams.specs.declared.event.Event.{Event}
use Rattle.model_streams.specs.declared.event.Event.TheVariants.{Submit, Deliver, Stop, Restart, Decide, GiveUp, Assign, Renew, Moment, Checkpoint, Split, Merge}
use Rattle.model_streams.specs.Maps.{entry_at}
use Rattle.model_streams.specs.Outcome.{Outcome}
use Rattle.model_streams.specs.StreamSystem.{stops_in, stands_in, happens, delivered, delivered_if}
use Rattle.model_streams.proofs.Tests.{if_elim}
use Rattle.model_partition.specs.declared.split_job.SplitJob.{SplitJob}
use Rattle.model_partition.specs.declared.split_job.SplitPhase.TheVariants as phases
use Rattle.model_partition.specs.Answering.{is_answerer}
use Rattle.model_partition.specs.Map.{MapState, range_at}
use Rattle.model_partition.specs.MapRules.{assign_fault, renew_fault, map_rule}
use Rattle.model_partition.specs.Server.{ServerState, ServerOutcome, split_of, server_checkpoint, server_split, server_rule, give_up_rule, picked}
use Rattle.model_partition.specs.Servers.{ServerCell, CellOutcome, cell_rests, cell_performs, cell_takes, cell_given_up, cell_gives_up, cell_checkpoints, cell_splits, cell_stops, cell_starts, at_server}
use Rattle.model_partition.specs.Splits.{all_streams}
use Rattle.model_partition.specs.Cluster.{Cluster, IsUnmerged, map_performs, map_performs_if, delivered_to, delivers, stops, restarts, servers_perform, cluster_after}
use Rattle.laws_map.specs.Naming.{Knowledge, ServerNames}
use Rattle.laws_map.specs.GivenPairs.{giving}
use Rattle.laws_map.specs.Stages.{TellsBuilt, AsksToBuild, AsksOf, StagesGo}
use Rattle.laws_map.proofs.AskedNumbers.{entry_set}
use Rattle.laws_map.proofs.Knowing.{each_has}
use Rattle.laws_map.proofs.LayerStages.{told_apart, happens_apart}
use Rattle.laws_map.proofs.ServerNames.{picked_names}
use Rattle.laws_map.proofs.ServerStages.{AreHeld, server_stages, checkpoint_stages, split_stages, give_up_stages}
use Rattle.laws_map.proofs.ServerStages as server_steps
use Rattle.laws_map.proofs.SplitFacts.{KnowsSplits, JobAt, names_of}
use Rattle.laws_map.proofs.StagesStand.{IsApart}
use Rattle.laws_map.proofs.UsedNumbers.{TellsUsed, assign_uses, renew_uses, map_uses}

-- a split at a server waits for the streams of this list
pub record WaitsForList (servers : List ServerCell) (list : List Modify) : Type 0 where
  pub server : ℕ
  pub range : ℕ
  pub job : SplitJob
  pub at : JobAt servers server range job
  pub is : list ≡ all_streams job
  pub request : ReqNo
  pub waits : job.phase ≡ phases.Build request

module _ (c : Cluster) (k : KnowsSplits c) where
  abbrev post : List Packet
  post = c.stream_layer.post

  abbrev K : Knowledge
  K = giving k.gives.given k.governs.asks post c.map.next

  -- who asks to build in the step to this cluster asked before, or waits now
  abbrev pub AsksSo : Cluster → Type 0
  AsksSo d = (p : Packet) → Contains d.stream_layer.post p → (list : List Modify) (q : ReqNo) → p.body ≡ bodies.Stream (MultiModify list q) → Contains post p ⊎ WaitsForList d.servers list

  none_more : (p : Packet) → Contains (post ++ []) p → Contains post p
  none_more p there = elim (Contains-append_cases post [] p there) [ inl old ↦ old | inr new ↦ absurd (let less = new.1 in omega (arith, less)) ]

  -- where nothing of the kind is sent
  quiet : (d : Cluster) → ((p : Packet) → Contains d.stream_layer.post p → Contains post p ⊎ IsApart p) → AsksSo d
  quiet d apart p there list q is = elim (apart p there) [ inl old ↦ inl old | inr other ↦ absurd (other.builds list q is) ]

  layer_asks : (event : Event) → AsksSo (record c { stream_layer = happens c.stream_layer event })
  layer_asks event = quiet (record c { stream_layer = happens c.stream_layer event }) (happens_apart c.stream_layer event)

  -- ---- the map

  does_asks : (o : Outcome MapState) → TellsUsed o → AsksSo (map_performs c o)
  does_asks o used =
      if_elim AsksSo (stops_in c.map_cell o.written) _ _
      (λ t. if_elim AsksSo (stands_in c.map_cell) _ _ (λ s p there list q is. inl (none_more p there)) (λ s p there list q is. inl there))
      (λ f p there list q is. elim (Contains-append_cases post o.packets p there) [ inl old ↦ inl old | inr new ↦ absurd ((told_apart o used p new).builds list q is) ])

  does_if_asks : (fault : Option Refusal) (o : Outcome MapState) → TellsUsed o → AsksSo (map_performs_if c fault o)
  does_if_asks (Some refusal) o used = λ p there list q is. inl there
  does_if_asks None o used = does_asks o used

  -- ---- a server

  abbrev CellAsks : ℕ → CellOutcome → Type 0
  CellAsks s o = (p : Packet) → Contains o.packets p → (list : List Modify) (q : ReqNo) → p.body ≡ bodies.Stream (MultiModify list q) → WaitsForList (slice_set c.servers (s - 1) o.cell) list

  at_asks : (s : ℕ) (rule : ServerCell → CellOutcome) → ((cell : ServerCell) → entry_at c.servers s ≡ Some cell → CellAsks s (rule cell)) → (o : Option ServerCell) → entry_at c.servers s ≡ o → AsksSo (servers_perform c (at_server c.servers s rule o))
  at_asks s rule step None at = λ p there list q is. inl (none_more p there)
  at_asks s rule step (Some cell) at = λ p there list q is. elim (Contains-append_cases post (rule cell).packets p there) [ inl old ↦ inl old | inr new ↦ inr (step cell at p new list q is) ]

  rests_ask : (s : ℕ) (cell : ServerCell) → CellAsks s (cell_rests cell)
  rests_ask s cell p there list q is = absurd (let less = there.1 in omega (arith, less))

  module _ (s : ℕ) (cell : ServerCell) (at : entry_at c.servers s ≡ Some cell) where
    -- a step of a server whose splits go on so
    stages_ask : (Heard : ReqNo → Type 0) (st : ServerState) (o : ServerOutcome) → StagesGo Heard st o → CellAsks s (cell_performs cell o)
    stages_ask Heard st o go p there list q is =
        by (subst (AsksOf st.context (split_of st.splits go.at) (split_of o.after.splits go.at) o.after.context.count) is
        (each_has (λ (x : Packet). AsksOf st.context (split_of st.splits go.at) (split_of o.after.splits go.at) o.after.context.count x.body) o.packets p go.asks there))
      where
        by : AsksToBuild st.context (split_of st.splits go.at) (split_of o.after.splits go.at) o.after.context.count list q → WaitsForList (slice_set c.servers (s - 1) (record cell { state = Some o.after })) list
        by b = record {
          server = s;
          range = go.at;
          job = b.job;
          at = record { cell = record cell { state = Some o.after }; state = o.after; there = entry_set c.servers s cell (record cell { state = Some o.after }) at; runs = refl; found = b.left };
          is = b.is;
          request = q;
          waits = b.waits;
        }

    held : (st : ServerState) → cell.state ≡ Some st → AreHeld st
    held st up = k.stand.held s cell st at up

    names : (st : ServerState) → cell.state ≡ Some st → ServerNames K st
    names st up = names_of c k s cell st at up

    takes_ask : (p : Packet) (state : Option ServerState) → cell.state ≡ state → CellAsks s (cell_takes cell p state)
    takes_ask p None up = rests_ask s cell
    takes_ask p (Some st) up =
        stages_ask (λ q. (is_answerer p.from p.body ≡ true) × TellsBuilt q p.body) st (server_rule st p p.body)
        (server_stages (λ q. (is_answerer p.from p.body ≡ true) × TellsBuilt q p.body) K st (names st up) (held st up) p (λ q may tells. (may, tells)))

    checkpoints_ask : (range : ℕ) (combine : Bool) (state : Option ServerState) → cell.state ≡ state → CellAsks s (cell_checkpoints cell range combine state)
    checkpoints_ask range combine None up = rests_ask s cell
    checkpoints_ask range combine (Some st) up = stages_ask (λ q. ⊥) st (server_checkpoint st range combine) (checkpoint_stages (λ q. ⊥) K st (names st up) (held st up) range combine)

    splits_ask : (range : ℕ) (key : List ℕ) (state : Option ServerState) → cell.state ≡ state → CellAsks s (cell_splits cell range key state)
    splits_ask range key None up = rests_ask s cell
    splits_ask range key (Some st) up = stages_ask (λ q. ⊥) st (server_split st range key) (split_stages (λ q. ⊥) K st (names st up) (held st up) range key)

    gives_up_ask : (range : ℕ) (pick : Nodes) (state : Option ServerState) → cell.state ≡ state → CellAsks s (cell_gives_up cell range pick state)
    gives_up_ask range pick None up = rests_ask s cell
    gives_up_ask range pick (Some st) up = by (give_up_rule st range pick) (give_up_stages (λ q. ⊥) K (picked st pick) (picked_names K st pick (names st up)) (held st up) range)
      where
        by : (r : Option ServerOutcome) → server_steps.GoesIf (λ q. ⊥) K (picked st pick) (picked_names K st pick (names st up)) (held st up) r → CellAsks s (cell_given_up cell r)
        by None go = rests_ask s cell
        by (Some o) go = stages_ask (λ q. ⊥) (picked st pick) o go

  -- ---- events

  delivers_asks : (number : ℕ) (o : Option Packet) → slice_get post number ≡ o → AsksSo (delivers c o)
  delivers_asks number None at = λ p there list q is. inl there
  delivers_asks number (Some taken) at = go taken.to refl
    where
      layer_takes : (to : ActorId) → taken.to ≡ to → AsksSo (record c { stream_layer = delivered c.stream_layer taken to })
      layer_takes to is = subst (λ z. AsksSo (record c { stream_layer = z })) (ap (delivered_if c.stream_layer) at ∙ ap (delivered c.stream_layer taken) is) (layer_asks (Deliver number))

      go : (to : ActorId) → taken.to ≡ to → AsksSo (delivered_to c taken to)
      go (Server s) is = at_asks s (λ cell. cell_takes cell taken cell.state) (λ cell found. takes_ask s cell found taken cell.state refl) (entry_at c.servers s) refl
      go Map is = if_elim AsksSo c.map_cell.up _ _ (λ up. does_asks (map_rule c.map taken taken.body) (map_uses c.map k.governs.sound taken taken.body)) (λ up p there list q e. inl there)
      go (Node n) is = layer_takes (Node n) is
      go Manager is = layer_takes Manager is
      go (User u) is = layer_takes (User u) is

  stop_asks : (actor : ActorId) (call : ℕ) (keep : Bool) → AsksSo (stops c actor call keep)
  stop_asks (Server s) call keep = at_asks s (λ cell. cell_rests (cell_stops call cell)) (λ cell found. rests_ask s (cell_stops call cell)) (entry_at c.servers s) refl
  stop_asks Map call keep =
      if_elim AsksSo c.map_cell.up _ _ (λ up. if_elim AsksSo (call == 0) _ _ (λ z p there list q is. inl there) (λ z p there list q is. inl there)) (λ up p there list q is. inl there)
  stop_asks (Node n) call keep = layer_asks (Stop (Node n) call keep)
  stop_asks Manager call keep = layer_asks (Stop Manager call keep)
  stop_asks (User u) call keep = layer_asks (Stop (User u) call keep)

  restart_asks : (actor : ActorId) → AsksSo (restarts c actor)
  restart_asks (Server s) = at_asks s (λ cell. cell_rests (cell_starts s c.now c.batch cell cell.state)) (λ cell found. rests_ask s (cell_starts s c.now c.batch cell cell.state)) (entry_at c.servers s) refl
  restart_asks Map = if_elim AsksSo c.map_cell.up _ _ (λ up p there list q is. inl there) (λ up p there list q is. inl there)
  restart_asks (Node n) = layer_asks (Restart (Node n))
  restart_asks Manager = layer_asks (Restart Manager)
  restart_asks (User u) = layer_asks (Restart (User u))

  -- WHO ASKS IN AN EVENT to build the streams of a split waits for them then
  pub event_asks : (event : Event) → IsUnmerged event → AsksSo (cluster_after c event)
  event_asks (Submit user to body) apart = layer_asks (Submit user to body)
  event_asks (Deliver number) apart = delivers_asks number (slice_get post number) refl
  event_asks (Stop actor call keep) apart = stop_asks actor call keep
  event_asks (Restart actor) apart = restart_asks actor
  event_asks (Decide e) apart = layer_asks (Decide e)
  event_asks (GiveUp server range pick) apart = at_asks server (λ cell. cell_gives_up cell range pick cell.state) (λ cell found. gives_up_ask server cell found range pick cell.state refl) (entry_at c.servers server) refl
  event_asks (Assign range server until) apart =
      if_elim AsksSo c.map_cell.up _ _
      (λ up. does_if_asks (assign_fault server c.now (range_at c.map.ranges range)) _ (assign_uses c.map k.governs.sound range server until (range_at c.map.ranges range) refl)) (λ up p there list q is. inl there)
  event_asks (Renew range server until) apart =
      if_elim AsksSo c.map_cell.up _ _
      (λ up. does_if_asks (renew_fault server (range_at c.map.ranges range)) _ (renew_uses c.map k.governs.sound range server until (range_at c.map.ranges range) refl)) (λ up p there list q is. inl there)
  event_asks (Moment now) apart = if_elim AsksSo (nat_lt now c.now) _ _ (λ back p there list q is. inl there) (λ on p there list q is. inl there)
  event_asks (Checkpoint server range combine) apart =
      at_asks server (λ cell. cell_checkpoints cell range combine cell.state) (λ cell found. checkpoints_ask server cell found range combine cell.state refl) (entry_at c.servers server) refl
  event_asks (Split server range key) apart = at_asks server (λ cell. cell_splits cell range key cell.state) (λ cell found. splits_ask server cell found range key cell.state refl) (entry_at c.servers server) refl
  event_asks (Merge server one two) apart = absurd apart
