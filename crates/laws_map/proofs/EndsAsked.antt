-- Who asks to complete a split: in each event of a run without merges, a server alone, of a split that it has and that waits for that.
use Rattle.std.proofs.Common.{◌≡◌, ◌⊎◌, ℕ, ◌-◌, ◌≤◌, ◌==◌, nat_lt, Bool, true, List, [], ◌++◌, map, Option, Some, None, slice_get, slice_set, Contains, refl, ap, ◌∙◌, subst, inl, inr, arith}
use Rattle.std.proofs.lemmas.List.Elements.{Contains-append_cases}
use Rattle.block_types.specs.declared.record.Nodes.{Nodes}
use Rattle.wire.specs.declared.actor.ActorId.{ActorId}
use Rattle.wire.specs.declared.actor.ActorId.TheVariants.{Node, Manager, Map, Server, User}
use Rattle.wire.specs.declared.actor.ReqNo.{ReqNo}
use Rattle.wire.specs.declared.packet.Packet.{Packet}
use Rattle.wire.specs.declared.refusal.Refusal.{Refusal}
use Rattle.model_streams.specs.declared.event.Event.{Event}
use Rattle.model_streams.specs.declared.event.Event.TheVariants.{Submit, Deliver, Stop, Restart, Decide, GiveUp, Assign, Renew, Moment, Checkpoint, Split, Merge}
use Rattle.model_streams.specs.Maps.{entry_at}
use Rattle.model_streams.specs.Outcome.{Outcome}
use Rattle.model_streams.specs.StreamSystem.{StreamSystem, stops_in, stands_in, happens, delivered, delivered_if}
use Rattle.model_streams.proofs.Tests.{if_elim}
use Rattle.model_partition.specs.declared.split_job.SplitJob.{SplitJob}
use Rattle.model_partition.specs.Answering.{is_answerer}
use Rattle.model_partition.specs.Map.{MapState, range_at}
use Rattle.model_partition.specs.MapRules.{assign_fault, renew_fault, map_rule}
use Rattle.model_partition.specs.Server.{ServerState, ServerOutcome, split_of, give_up_rule, picked}
use Rattle.model_partition.specs.Servers.{ServerCell, CellOutcome, cell_rests, cell_takes, cell_given_up, cell_gives_up, cell_checkpoints, cell_splits, cell_stops, cell_starts, at_server, with_told, told_moment}
use Rattle.model_partition.specs.Cluster.{Cluster, IsUnmerged, map_performs, map_performs_if, map_takes, delivered_to, delivers, stops, restarts, servers_perform, cluster_after}
use Rattle.laws_map.specs.Naming.{Knowledge, StateNames, ServerNames}
use Rattle.laws_map.specs.GivenPairs.{AsksToComplete, giving}
use Rattle.laws_map.specs.Stages.{stage_of, TellsBuilt, AsksToEnd, AsksOf, StagesGo}
use Rattle.laws_map.proofs.Knowing.{each_has}
use Rattle.laws_map.proofs.EventNames.{entry_is}
use Rattle.laws_map.proofs.ServerNames.{picked_names}
use Rattle.laws_map.proofs.AskedNumbers.{entry_set}
use Rattle.laws_map.proofs.UsedNumbers.{TellsUsed, assign_uses, renew_uses, map_uses}
use Rattle.laws_map.proofs.ServerStages.{server_stages, checkpoint_stages, split_stages, GoesIf, give_up_stages}
use Rattle.laws_map.proofs.StagesStand.{IsApart}
use Rattle.laws_map.proofs.LayerStages.{told_apart, happens_apart}
use Rattle.laws_map.proofs.SplitFacts.{KnowsSplits, JobAt}

-- a server has a split of the range, under this generation, that waits for its end
pub record IsEnding (servers : List ServerCell) (range generation : ℕ) : Type 0 where
  pub server : ℕ
  pub at : ℕ
  pub job : SplitJob
  pub held : JobAt servers server at job
  pub range_is : range ≡ job.range
  pub generation_is : generation ≡ job.generation
  pub ends : 4 ≤ stage_of job.phase

module _ (c : Cluster) (k : KnowsSplits c) where
  abbrev w : StreamSystem
  w = c.stream_layer

  abbrev K : Knowledge
  K = giving k.gives.given k.governs.asks w.post c.map.next

  -- who asks here asked before, or a server waits for the end
  abbrev Since : List Packet → List ServerCell → Type 0
  Since post servers = (range generation : ℕ) → AsksToComplete post range generation → AsksToComplete w.post range generation ⊎ IsEnding servers range generation

  abbrev To : Cluster → Type 0
  To d = Since d.stream_layer.post d.servers

  quiet : (post : List Packet) (servers : List ServerCell) → ((p : Packet) → Contains post p → Contains w.post p ⊎ IsApart p) → Since post servers
  quiet post servers apart range generation a = elim (apart a.packet a.sent) [
    | inl old ↦ inl (record { packet = a.packet; request = a.request; sent = old; is = a.is })
    | inr new ↦ absurd (new.ends range generation a.request a.is)
  ]

  same : (servers : List ServerCell) → Since w.post servers
  same servers range generation a = inl a

  none_more : (servers : List ServerCell) → Since (w.post ++ []) servers
  none_more servers = quiet (w.post ++ []) servers (λ p there. elim (Contains-append_cases w.post [] p there) [ inl old ↦ inl old | inr new ↦ absurd (let less = new.1 in omega (arith, less)) ])

  layer : (event : Event) → To (record c { stream_layer = happens w event })
  layer event = quiet (happens w event).post c.servers (happens_apart w event)

  -- ---- the map

  does : (o : Outcome MapState) → TellsUsed o → To (map_performs c o)
  does o used =
      if_elim To (stops_in c.map_cell o.written) _ _
      (λ t. if_elim To (stands_in c.map_cell) _ _ (λ s. none_more c.servers) (λ s. same c.servers))
      (λ f. quiet (w.post ++ o.packets) c.servers (λ p there. elim (Contains-append_cases w.post o.packets p there) [ inl old ↦ inl old | inr new ↦ inr (told_apart o used p new) ]))

  does_if : (fault : Option Refusal) (o : Outcome MapState) → TellsUsed o → To (map_performs_if c fault o)
  does_if (Some refusal) o used = same c.servers
  does_if None o used = does o used

  -- ---- a server

  abbrev CellTo : ℕ → CellOutcome → Type 0
  CellTo s o = Since (with_told w o.packets o.notes).post (slice_set c.servers (s - 1) o.cell)

  at_to : (s : ℕ) (rule : ServerCell → CellOutcome) → ((cell : ServerCell) → entry_at c.servers s ≡ Some cell → CellTo s (rule cell)) → (o : Option ServerCell) → entry_at c.servers s ≡ o → To (servers_perform c (at_server c.servers s rule o))
  at_to s rule step None at = none_more c.servers
  at_to s rule step (Some cell) at = step cell at

  names_of : (s : ℕ) (cell : ServerCell) (st : ServerState) → entry_at c.servers s ≡ Some cell → cell.state ≡ Some st → ServerNames K st
  names_of s cell st at up = subst (StateNames K) up (entry_is (λ (y : ServerCell). StateNames K y.state) c.servers s cell k.gives.gives.names.servers at)

  asks_to : (Heard : ReqNo → Type 0) (s : ℕ) (cell : ServerCell) (st : ServerState) → entry_at c.servers s ≡ Some cell → (o : ServerOutcome) → StagesGo Heard st o →
      Since (w.post ++ o.packets) (slice_set c.servers (s - 1) (record cell { state = Some o.after }))
  asks_to Heard s cell st at o go range generation a = elim (Contains-append_cases w.post o.packets a.packet a.sent) [
    | inl old ↦ inl (record { packet = a.packet; request = a.request; sent = old; is = a.is })
    | inr new ↦ inr (ending new)
  ]
    where
      ending : Contains o.packets a.packet → IsEnding (slice_set c.servers (s - 1) (record cell { state = Some o.after })) range generation
      ending new =
          let asks : AsksToEnd (split_of o.after.splits go.at) range generation =
          subst (AsksOf st.context (split_of st.splits go.at) (split_of o.after.splits go.at) o.after.context.count) a.is
          (each_has (λ (p : Packet). AsksOf st.context (split_of st.splits go.at) (split_of o.after.splits go.at) o.after.context.count p.body) o.packets a.packet go.asks new) in
          record {
            server = s;
            at = go.at;
            job = asks.job;
            held = record { cell = record cell { state = Some o.after }; state = o.after; there = entry_set c.servers s cell (record cell { state = Some o.after }) at; runs = refl; found = asks.left };
            range_is = asks.range_is;
            generation_is = asks.generation_is;
            ends = asks.ends;
          }

  takes_to : (p : Packet) (s : ℕ) (cell : ServerCell) → entry_at c.servers s ≡ Some cell → (state : Option ServerState) → cell.state ≡ state → CellTo s (cell_takes cell p state)
  takes_to p s cell at None up = none_more _
  takes_to p s cell at (Some st) up =
      asks_to (λ q. (is_answerer p.from p.body ≡ true) × TellsBuilt q p.body) s cell st at _
      (server_stages (λ q. (is_answerer p.from p.body ≡ true) × TellsBuilt q p.body) K st (names_of s cell st at up) (k.stand.held s cell st at up) p (λ q may tells. (may, tells)))

  checkpoints_to : (s range : ℕ) (combine : Bool) (cell : ServerCell) → entry_at c.servers s ≡ Some cell → (state : Option ServerState) → cell.state ≡ state → CellTo s (cell_checkpoints cell range combine state)
  checkpoints_to s range combine cell at None up = none_more _
  checkpoints_to s range combine cell at (Some st) up =
      asks_to (λ q. ⊥) s cell st at _ (checkpoint_stages (λ q. ⊥) K st (names_of s cell st at up) (k.stand.held s cell st at up) range combine)

  splits_to : (s range : ℕ) (key : List ℕ) (cell : ServerCell) → entry_at c.servers s ≡ Some cell → (state : Option ServerState) → cell.state ≡ state → CellTo s (cell_splits cell range key state)
  splits_to s range key cell at None up = none_more _
  splits_to s range key cell at (Some st) up =
      asks_to (λ q. ⊥) s cell st at _ (split_stages (λ q. ⊥) K st (names_of s cell st at up) (k.stand.held s cell st at up) range key)

  gives_up_to : (s range : ℕ) (pick : Nodes) (cell : ServerCell) → entry_at c.servers s ≡ Some cell → (state : Option ServerState) → cell.state ≡ state → CellTo s (cell_gives_up cell range pick state)
  gives_up_to s range pick cell at None up = none_more _
  gives_up_to s range pick cell at (Some st) up =
      by (give_up_rule st range pick) (give_up_stages (λ q. ⊥) K (picked st pick) (picked_names K st pick (names_of s cell st at up)) (k.stand.held s cell st at up) range)
    where
      by : (r : Option ServerOutcome) → GoesIf (λ q. ⊥) K (picked st pick) (picked_names K st pick (names_of s cell st at up)) (k.stand.held s cell st at up) r → CellTo s (cell_given_up cell r)
      by None go = none_more _
      by (Some o) go = asks_to (λ q. ⊥) s cell (picked st pick) at o go

  -- ---- events

  map_takes_to : (p : Packet) → To (map_takes c p)
  map_takes_to p = if_elim To c.map_cell.up _ _ (λ up. does (map_rule c.map p p.body) (map_uses c.map k.governs.sound p p.body)) (λ up. same c.servers)

  delivers_to : (number : ℕ) (o : Option Packet) → slice_get w.post number ≡ o → To (delivers c o)
  delivers_to number None at = same c.servers
  delivers_to number (Some p) at = go p.to refl
    where
      layer_takes : (to : ActorId) → p.to ≡ to → To (record c { stream_layer = delivered w p to })
      layer_takes to is = subst (λ z. To (record c { stream_layer = z })) (ap (delivered_if w) at ∙ ap (delivered w p) is) (layer (Deliver number))

      go : (to : ActorId) → p.to ≡ to → To (delivered_to c p to)
      go (Server s) is = at_to s (λ cell. cell_takes cell p cell.state) (λ cell found. takes_to p s cell found cell.state refl) (entry_at c.servers s) refl
      go Map is = map_takes_to p
      go (Node n) is = layer_takes (Node n) is
      go Manager is = layer_takes Manager is
      go (User u) is = layer_takes (User u) is

  stops_to : (actor : ActorId) (call : ℕ) (keep : Bool) → To (stops c actor call keep)
  stops_to (Server s) call keep = at_to s (λ cell. cell_rests (cell_stops call cell)) (λ cell found. none_more _) (entry_at c.servers s) refl
  stops_to Map call keep = if_elim To c.map_cell.up _ _ (λ up. if_elim To (call == 0) _ _ (λ z. same c.servers) (λ z. same c.servers)) (λ up. same c.servers)
  stops_to (Node n) call keep = layer (Stop (Node n) call keep)
  stops_to Manager call keep = layer (Stop Manager call keep)
  stops_to (User u) call keep = layer (Stop (User u) call keep)

  restarts_to : (actor : ActorId) → To (restarts c actor)
  restarts_to (Server s) = at_to s (λ cell. cell_rests (cell_starts s c.now c.batch cell cell.state)) (λ cell found. none_more _) (entry_at c.servers s) refl
  restarts_to Map = if_elim To c.map_cell.up _ _ (λ up. same c.servers) (λ up. same c.servers)
  restarts_to (Node n) = layer (Restart (Node n))
  restarts_to Manager = layer (Restart Manager)
  restarts_to (User u) = layer (Restart (User u))

  -- Who asks to complete a split after an event asked for that before, or is a server with one that waits for its end.
  pub ends_asked : (event : Event) → IsUnmerged event → (range generation : ℕ) → AsksToComplete (cluster_after c event).stream_layer.post range generation →
      AsksToComplete c.stream_layer.post range generation ⊎ IsEnding (cluster_after c event).servers range generation
  ends_asked (Submit user to body) apart = layer (Submit user to body)
  ends_asked (Deliver number) apart = delivers_to number (slice_get w.post number) refl
  ends_asked (Stop actor call keep) apart = stops_to actor call keep
  ends_asked (Restart actor) apart = restarts_to actor
  ends_asked (Decide e) apart = layer (Decide e)
  ends_asked (GiveUp server range pick) apart =
      at_to server (λ cell. cell_gives_up cell range pick cell.state) (λ cell found. gives_up_to server range pick cell found cell.state refl) (entry_at c.servers server) refl
  ends_asked (Assign range server until) apart =
      if_elim To c.map_cell.up _ _
      (λ up. does_if (assign_fault server c.now (range_at c.map.ranges range)) _ (assign_uses c.map k.governs.sound range server until (range_at c.map.ranges range) refl)) (λ up. same c.servers)
  ends_asked (Renew range server until) apart =
      if_elim To c.map_cell.up _ _
      (λ up. does_if (renew_fault server (range_at c.map.ranges range)) _ (renew_uses c.map k.governs.sound range server until (range_at c.map.ranges range) refl)) (λ up. same c.servers)
  ends_asked (Moment now) apart = if_elim To (nat_lt now c.now) _ _ (λ back. same c.servers) (λ on. same (map (told_moment now) c.servers))
  ends_asked (Checkpoint server range combine) apart =
      at_to server (λ cell. cell_checkpoints cell range combine cell.state) (λ cell found. checkpoints_to server range combine cell found cell.state refl) (entry_at c.servers server) refl
  ends_asked (Split server range key) apart =
      at_to server (λ cell. cell_splits cell range key cell.state) (λ cell found. splits_to server range key cell found cell.state refl) (entry_at c.servers server) refl
  ends_asked (Merge server one two) apart = absurd apart
