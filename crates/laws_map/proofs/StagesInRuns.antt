-- In every run without merges: where splits at servers stand, what was asked there, that the streams of a split's two ranges come to be together,
-- and who is told of them.
use Rattle.std.proofs.Common.{◌≡◌, ◌⊎◌, ℕ, suc, ◌-◌, ◌==◌, nat_lt, Bool, true, false, List, [], ◌++◌, map, Option, Some, None, option_map, slice_get, slice_set, Contains, refl, sym, ap, ◌∙◌, subst, inl, inr, arith, if◌then◌else◌}
use Rattle.std.specs.Prelude.{◌^◌}
use Rattle.std.proofs.lemmas.Bool.{eqb-true, eqb-false}
use Rattle.std.proofs.lemmas.Option.{same_Some}
use Rattle.std.proofs.lemmas.List.Elements.{Contains-append_left, Contains-append_cases}
use Rattle.block_types.specs.declared.record.Nodes.{Nodes}
use Rattle.wire.specs.declared.actor.ActorId.{ActorId}
use Rattle.wire.specs.declared.actor.ActorId.TheVariants.{Node, Manager, Map, Server, User}
use Rattle.wire.specs.declared.actor.ReqNo.{ReqNo}
use Rattle.wire.specs.declared.body.MapBody.{MapBody}
use Rattle.wire.specs.declared.body.MapBody.TheVariants as maps
use Rattle.wire.specs.declared.body.StreamBody.{StreamBody}
use Rattle.wire.specs.declared.body.StreamBody.TheVariants as streams
use Rattle.wire.specs.declared.body.Body.{Body}
use Rattle.wire.specs.declared.body.Body.TheVariants as bodies
use Rattle.wire.specs.declared.note.Note.{Note}
use Rattle.wire.specs.declared.packet.Packet.{Packet}
use Rattle.wire.specs.declared.refusal.Refusal.{Refusal}
use Rattle.model_streams.specs.declared.event.Event.{Event}
use Rattle.model_streams.specs.declared.event.Event.TheVariants.{Submit, Deliver, Stop, Restart, Decide, GiveUp, Assign, Renew, Moment, Checkpoint, Split, Merge}
use Rattle.model_streams.specs.Maps.{entry_at}
use Rattle.model_streams.specs.Outcome.{Outcome}
use Rattle.model_streams.specs.StreamSystem.{StreamSystem, stops_in, stands_in, happens, delivered, delivered_if}
use Rattle.model_streams.proofs.Tests.{if_elim}
use Rattle.model_partition.specs.declared.split_job.SplitJob.{SplitJob}
use Rattle.model_partition.specs.Answering.{is_answerer}
use Rattle.model_partition.specs.Map.{MapState, range_at}
use Rattle.model_partition.specs.MapRules.{assign_fault, renew_fault, map_rule}
use Rattle.model_partition.specs.Server.{ServerState, ServerOutcome, range_of, split_of, server_rule, give_up_rule, picked, moment_rule, server_checkpoint, server_split, started}
use Rattle.model_partition.specs.Servers.{ServerCell, CellOutcome, cell_rests, cell_takes, cell_given_up, cell_gives_up, cell_checkpoints, cell_splits, cell_stops, cell_starts, first_pick, at_server, with_told, told_moment}
use Rattle.model_partition.specs.Cluster.{Cluster, IsUnmerged, map_performs, map_performs_if, map_takes, delivered_to, delivers, stops, restarts, servers_perform, cluster_after}
use Rattle.laws_streams.proofs.Choices.{contains_get}
use Rattle.laws_servers.specs.Sending.{AllFromServers}
use Rattle.laws_servers.proofs.ServerSteps.{server_shows, server_gives_up_tidy, server_checkpoint_tidy, server_split_tidy}
use Rattle.laws_map.specs.Naming.{Knowledge, PacketNames, StateNames, ServerNames}
use Rattle.laws_map.specs.GivenPairs.{AreGivenBelow, giving}
use Rattle.laws_map.specs.Openings.{OpeningIf, AreOpening}
use Rattle.laws_map.specs.Stages.{TellsBuilt, IsNew, JobMoves, AsksOfStreams, AsksOfMap, AsksOf, JobFrom, StagesGo}
use Rattle.laws_map.proofs.Knowing.{each_weaker}
use Rattle.laws_map.proofs.EventNames.{entry_is}
use Rattle.laws_map.proofs.ServerNames.{picked_names}
use Rattle.laws_map.proofs.AskedNumbers.{ServersOn, CellOn, nothing_on, one_on, same_cell, stopped_cell, started_cell, moments_on, entry_set, entry_other, entry_mapped}
use Rattle.laws_map.proofs.GenerationsInRuns.{Governs}
use Rattle.laws_map.proofs.UsedNumbers.{TellsUsed, assign_uses, renew_uses, map_uses}
use Rattle.laws_map.proofs.LayerOpenings.{happens_layered}
use Rattle.laws_map.proofs.ServerLoads.{ServerGoes}
use Rattle.laws_map.proofs.ServerOpenings.{server_goes, checkpoint_goes, split_goes, GoesIf, give_up_goes}
use Rattle.laws_map.proofs.AskedKeys.{WholeOf}
use Rattle.laws_map.proofs.GivenInRuns.{GivesNow}
use Rattle.laws_map.proofs.ServerStages.{AreHeld, server_stages, checkpoint_stages, split_stages, give_up_stages}
use Rattle.laws_map.proofs.ServerStages as server_steps
use Rattle.laws_map.proofs.StagesStand.{HaveNoMore}
use Rattle.laws_map.proofs.LayerStages.{told_apart, happens_apart}
use Rattle.laws_map.proofs.LayerAnswers.{AreOther}
use Rattle.laws_map.proofs.ManagerBirths.{IsIn}
use Rattle.laws_map.proofs.LayerBirths.{BuildsName, assign_other, renew_other, map_other, quiet_brings, more_other, happens_brings}
use Rattle.laws_map.proofs.StagesKept.{Stand, lists_apart, quiet_stands, heard_there, server_stands}

-- ---- giving up, with other nodes for new extents

module _ (post : List Packet) (st : ServerState) (pick : Nodes) (o : ServerOutcome) where
  abbrev other : ServerState
  other = picked st pick

  picked_goes : ServerGoes post other o → ServerGoes post st o
  picked_goes g = record {
    after = g.after;
    asks = elim g.asks [
      | inl known ↦ inl known
      | inr kind ↦ elim kind [
        | inl opens ↦ inr (inl (record { range = opens.range; generation = opens.generation; packets = opens.packets; used = opens.used }))
        | inr splits ↦ inr (inr (record { range = splits.range; key = splits.key; held = splits.held; found = splits.found; serves = splits.serves; free = splits.free; packets = splits.packets; begun = splits.begun }))
      ]
    ];
    speaks = g.speaks;
    count = g.count;
    server = g.server;
    session = g.session;
  }

  module _ (Heard : ReqNo → Type 0) where
    picked_moves : (old job : SplitJob) → JobMoves Heard other.context old o.packets job → JobMoves Heard st.context old o.packets job
    picked_moves old job m = record { range = m.range; generation = m.generation; key = m.key; stage = m.stage; low = m.low; high = m.high; said = m.said; builds = m.builds }

    picked_from : (k : ℕ) (job : SplitJob) (old : Option SplitJob) → JobFrom Heard other k old o.packets job → JobFrom Heard st k old o.packets job
    picked_from k job None b = b
    picked_from k job (Some old) m = picked_moves old job m

    module _ (old later : Option SplitJob) (upto : ℕ) where
      picked_new : (q : ReqNo) → IsNew other.context upto q → IsNew st.context upto q
      picked_new q w = record { count = w.count; is = w.is; from = w.from; below = w.below }

      picked_streams : (body : StreamBody) → AsksOfStreams other.context old later upto body → AsksOfStreams st.context old later upto body
      picked_streams (streams.MultiModify list q) a = record { job = a.job; left = a.left; is = a.is; waits = a.waits; new = elim a.new [ inl was ↦ inl was | inr new ↦ inr (picked_new q new) ] }
      picked_streams (streams.CreateStream s fence q) a = absurd a
      picked_streams body a = tt

      picked_map : (body : MapBody) → AsksOfMap other.context old later upto body → AsksOfMap st.context old later upto body
      picked_map (maps.CompleteSplit range generation q) a = a
      picked_map body a = tt

      picked_asks : (body : Body) → AsksOf other.context old later upto body → AsksOf st.context old later upto body
      picked_asks (bodies.Stream body) a = picked_streams body a
      picked_asks (bodies.Map body) a = picked_map body a
      picked_asks body a = tt

    picked_stages : StagesGo Heard other o → StagesGo Heard st o
    picked_stages g = record {
      at = g.at;
      jobs = λ k job found. (let x = g.jobs k job found in (x.0, picked_from k job (split_of st.splits k) x.1));
      asks = each_weaker (λ (p : Packet). AsksOf other.context (split_of st.splits g.at) (split_of o.after.splits g.at) o.after.context.count p.body)
          (λ (p : Packet). AsksOf st.context (split_of st.splits g.at) (split_of o.after.splits g.at) o.after.context.count p.body)
          (λ p a. picked_asks (split_of st.splits g.at) (split_of o.after.splits g.at) o.after.context.count p.body a) o.packets g.asks;
    }

-- ---- one event

abbrev pub StandOf : Cluster → Type 0
StandOf c = Stand c.stream_layer c.servers

module _ (c : Cluster) (g : Governs c) (v : GivesNow c g) (h : WholeOf c) (x : StandOf c) where
  abbrev w : StreamSystem
  w = c.stream_layer

  abbrev K : Knowledge
  K = giving v.given g.asks w.post c.map.next

  names : (p : Packet) → Contains w.post p → PacketNames K p
  names = v.gives.names.post

  below : AreGivenBelow c.map.next v.given
  below = v.gives.map.below

  same_jobs : HaveNoMore c.servers c.servers
  same_jobs s cell st at up k job is = (cell, st, at, up, is)

  -- servers that hold no more than they did
  stands : (z : StreamSystem) (new : List ServerCell) → ((p : Packet) → Contains w.post p → Contains z.post p) → z.catalog ≡ w.catalog → ((p : Packet) → Contains z.post p → Contains w.post p) → ServersOn c.servers new → HaveNoMore c.servers new →
      ((s : ℕ) (cell : ServerCell) (st : ServerState) → entry_at new s ≡ Some cell → cell.state ≡ Some st → AreHeld st) → Stand z new
  stands z new grows same back on jobs held =
      quiet_stands w c.servers x v.given g.asks c.map.next below names z new grows (λ name there. subst (λ b. IsIn b.stream name) (sym same) there) (λ p there. inl (back p there))
      (λ v name. ⊥) (λ name none. absurd none) (quiet_brings w (λ v name. ⊥) z (ap (λ b. b.stream) same) (λ p there. inl (back p there))) on jobs held

  none_more : (p : Packet) → Contains (w.post ++ []) p → Contains w.post p
  none_more p there = elim (Contains-append_cases w.post [] p there) [ inl old ↦ old | inr new ↦ absurd (let less = new.1 in omega (arith, less)) ]

  layer_stands : (event : Event) → StandOf (record c { stream_layer = happens w event })
  layer_stands event =
      quiet_stands w c.servers x v.given g.asks c.map.next below names (happens w event) c.servers (happens_layered w event).post (λ name there. (let r = (happens_layered w event).rises name there.0 there.1 in (r.now, r.is)))
      (happens_apart w event) (BuildsName w event) (λ name b. (b.packet, contains_get w.post b.number b.packet b.at, b.listed)) (happens_brings w x.stages.creates (lists_apart w v.given g.asks c.map.next below names) event) (nothing_on c.servers) same_jobs x.held

  -- ---- the map

  tells_stands : (o : Outcome MapState) (notes : List Note) → TellsUsed o → AreOther o.packets → Stand (record w { post = w.post ++ o.packets; notes = notes }) c.servers
  tells_stands o notes used other =
      quiet_stands w c.servers x v.given g.asks c.map.next below names (record w { post = w.post ++ o.packets; notes = notes }) c.servers (λ p there. Contains-append_left w.post o.packets p there) (λ name there. there)
      (λ p there. elim (Contains-append_cases w.post o.packets p there) [ inl old ↦ inl old | inr new ↦ inr (told_apart o used p new) ])
      (λ v name. ⊥) (λ name none. absurd none) (quiet_brings w (λ v name. ⊥) (record w { post = w.post ++ o.packets; notes = notes }) refl (more_other w (λ v name. ⊥) o.packets other)) (nothing_on c.servers) same_jobs x.held

  does_stands : (o : Outcome MapState) → TellsUsed o → AreOther o.packets → StandOf (map_performs c o)
  does_stands o used other =
      if_elim StandOf (stops_in c.map_cell o.written) _ _
      (λ t. if_elim StandOf (stands_in c.map_cell) _ _ (λ s. stands _ c.servers (λ p there. Contains-append_left w.post [] p there) refl none_more (nothing_on c.servers) same_jobs x.held) (λ s. x))
      (λ f. tells_stands o (w.notes ++ o.notes) used other)

  does_if_stands : (fault : Option Refusal) (o : Outcome MapState) → TellsUsed o → AreOther o.packets → StandOf (map_performs_if c fault o)
  does_if_stands (Some refusal) o used none = x
  does_if_stands None o used none = does_stands o used none

  -- ---- a server

  abbrev CellStand : ℕ → CellOutcome → Type 0
  CellStand s o = Stand (with_told w o.packets o.notes) (slice_set c.servers (s - 1) o.cell)

  at_stands : (s : ℕ) (rule : ServerCell → CellOutcome) → ((cell : ServerCell) → entry_at c.servers s ≡ Some cell → CellStand s (rule cell)) → (o : Option ServerCell) → entry_at c.servers s ≡ o → StandOf (servers_perform c (at_server c.servers s rule o))
  at_stands s rule step None at = stands _ c.servers (λ p there. Contains-append_left w.post [] p there) refl none_more (nothing_on c.servers) same_jobs x.held
  at_stands s rule step (Some cell) at = step cell at

  -- the cell changes so, and nothing is sent
  cell_stands : (s : ℕ) (cell d : ServerCell) → entry_at c.servers s ≡ Some cell → CellOn s cell d → ((st : ServerState) → d.state ≡ Some st → (st.splits ≡ []) ⊎ ((was : ServerState) × (cell.state ≡ Some was) × (st.splits ≡ was.splits) × (st.ranges ≡ was.ranges))) → CellStand s (cell_rests d)
  cell_stands s cell d at on from =
      stands _ (slice_set c.servers (s - 1) d) (λ p there. Contains-append_left w.post [] p there) refl none_more (one_on c.servers s cell d at on)
      (λ t e st there up k job found. jobs t e st there up k job found (t == s) refl) (λ t e st there up. held t e st there up (t == s) refl)
    where
      own_cell : (t : ℕ) (e : ServerCell) → t ≡ s → entry_at (slice_set c.servers (s - 1) d) t ≡ Some e → d ≡ e
      own_cell t e same there = same_Some d e (sym (entry_set c.servers s cell d at) ∙ sym (ap (entry_at (slice_set c.servers (s - 1) d)) same) ∙ there)

      jobs : (t : ℕ) (e : ServerCell) (st : ServerState) → entry_at (slice_set c.servers (s - 1) d) t ≡ Some e → e.state ≡ Some st → (k : ℕ) (job : SplitJob) → split_of st.splits k ≡ Some job → (b : Bool) → (t == s) ≡ b →
          (before : ServerCell) × (was : ServerState) × (entry_at c.servers t ≡ Some before) × (before.state ≡ Some was) × (split_of was.splits k ≡ Some job)
      jobs t e st there up k job found true test =
          let same : t ≡ s = eqb-true t s test in
          elim (from st (ap (λ (y : ServerCell). y.state) (own_cell t e same there) ∙ up)) [
            | inl none ↦ absurd (let z : None ≡ Some job = ap (λ l. split_of l k) (sym none) ∙ found in cc)
            | inr old ↦ (cell, old.0, ap (entry_at c.servers) same ∙ at, old.1, ap (λ l. split_of l k) (sym old.2) ∙ found)
          ]
      jobs t e st there up k job found false test = (e, st, sym (entry_other c.servers s cell d at t (λ same. absurd (eqb-false t s test same))) ∙ there, up, found)

      held : (t : ℕ) (e : ServerCell) (st : ServerState) → entry_at (slice_set c.servers (s - 1) d) t ≡ Some e → e.state ≡ Some st → (b : Bool) → (t == s) ≡ b → AreHeld st
      held t e st there up true test = λ k job found.
          let same : t ≡ s = eqb-true t s test in
          elim (from st (ap (λ (y : ServerCell). y.state) (own_cell t e same there) ∙ up)) [
            | inl none ↦ absurd (let z : None ≡ Some job = ap (λ l. split_of l k) (sym none) ∙ found in cc)
            | inr old ↦ (let r = x.held s cell old.0 at old.1 k job (ap (λ l. split_of l k) (sym old.2) ∙ found) in (r.0, ap (λ l. range_of l k) old.3 ∙ r.1))
          ]
      held t e st there up false test = x.held t e st (sym (entry_other c.servers s cell d at t (λ same. absurd (eqb-false t s test same))) ∙ there) up

  rests_stands : (s : ℕ) (cell : ServerCell) → entry_at c.servers s ≡ Some cell → CellStand s (cell_rests cell)
  rests_stands s cell at = cell_stands s cell cell at (same_cell s cell) (λ st is. inr (st, is, refl, refl))

  state_of : (s : ℕ) (cell : ServerCell) (st : ServerState) → entry_at c.servers s ≡ Some cell → cell.state ≡ Some st → AreOpening w.post st
  state_of s cell st at up = subst (OpeningIf w.post) up (entry_is (λ (y : ServerCell). OpeningIf w.post y.state) c.servers s cell h.held at)

  names_of : (s : ℕ) (cell : ServerCell) (st : ServerState) → entry_at c.servers s ≡ Some cell → cell.state ≡ Some st → ServerNames K st
  names_of s cell st at up = subst (StateNames K) up (entry_is (λ (y : ServerCell). StateNames K y.state) c.servers s cell v.gives.names.servers at)

  takes_stands : (number : ℕ) (p : Packet) → Contains w.post p → (s : ℕ) → p.to ≡ Server s → (cell : ServerCell) → entry_at c.servers s ≡ Some cell → (state : Option ServerState) → cell.state ≡ state → CellStand s (cell_takes cell p state)
  takes_stands number p there s to cell at None up = rests_stands s cell at
  takes_stands number p there s to cell at (Some st) up =
      server_stands w c.servers h x v.given g.asks c.map.next below names g.sent (λ q. (is_answerer p.from p.body ≡ true) × TellsBuilt q p.body) s cell st at up (server_rule st p p.body) _
      (server_goes w.post st (state_of s cell st at up) p there)
      (server_stages (λ q. (is_answerer p.from p.body ≡ true) × TellsBuilt q p.body) K st (names_of s cell st at up) (x.held s cell st at up) p (λ q may tells. (may, tells)))
      (server_shows st p).0
      (λ q hears job asked there_is. heard_there w c.servers h x v.given g.asks c.map.next below names g.sent s p there to q hears.0 hears.1 job asked there_is)

  checkpoints_stands : (s range : ℕ) (combine : Bool) (cell : ServerCell) → entry_at c.servers s ≡ Some cell → (state : Option ServerState) → cell.state ≡ state → CellStand s (cell_checkpoints cell range combine state)
  checkpoints_stands s range combine cell at None up = rests_stands s cell at
  checkpoints_stands s range combine cell at (Some st) up =
      server_stands w c.servers h x v.given g.asks c.map.next below names g.sent (λ q. ⊥) s cell st at up (server_checkpoint st range combine) _
      (checkpoint_goes w.post st (state_of s cell st at up) range combine) (checkpoint_stages (λ q. ⊥) K st (names_of s cell st at up) (x.held s cell st at up) range combine)
      (server_checkpoint_tidy st range combine).0 (λ q hears. absurd hears)

  splits_stands : (s range : ℕ) (key : List ℕ) (cell : ServerCell) → entry_at c.servers s ≡ Some cell → (state : Option ServerState) → cell.state ≡ state → CellStand s (cell_splits cell range key state)
  splits_stands s range key cell at None up = rests_stands s cell at
  splits_stands s range key cell at (Some st) up =
      server_stands w c.servers h x v.given g.asks c.map.next below names g.sent (λ q. ⊥) s cell st at up (server_split st range key) _
      (split_goes w.post st (state_of s cell st at up) range key) (split_stages (λ q. ⊥) K st (names_of s cell st at up) (x.held s cell st at up) range key)
      (server_split_tidy st range key).0 (λ q hears. absurd hears)

  -- what it sends there is from it
  gives_up_from : (s range : ℕ) (pick : Nodes) (cell : ServerCell) → entry_at c.servers s ≡ Some cell → (st : ServerState) → cell.state ≡ Some st → (o : ServerOutcome) → give_up_rule st range pick ≡ Some o → AllFromServers o.packets
  gives_up_from s range pick cell at st up o is =
      subst (λ r. AllFromServers (cell_given_up cell r).packets) is
      (subst (λ state. AllFromServers (cell_gives_up cell range pick state).packets) up
      (subst (λ e. AllFromServers (at_server c.servers s (λ cell. cell_gives_up cell range pick cell.state) e).packets) at (server_gives_up_tidy c.servers s range pick).0))

  gives_up_stands : (s range : ℕ) (pick : Nodes) (cell : ServerCell) → entry_at c.servers s ≡ Some cell → (state : Option ServerState) → cell.state ≡ state → CellStand s (cell_gives_up cell range pick state)
  gives_up_stands s range pick cell at None up = rests_stands s cell at
  gives_up_stands s range pick cell at (Some st) up =
      by (give_up_rule st range pick) refl (give_up_goes w.post st range pick (state_of s cell st at up))
      (give_up_stages (λ q. ⊥) K (picked st pick) (picked_names K st pick (names_of s cell st at up)) (x.held s cell st at up) range)
    where
      by : (r : Option ServerOutcome) → give_up_rule st range pick ≡ r → GoesIf w.post (picked st pick) r → server_steps.GoesIf (λ q. ⊥) K (picked st pick) (picked_names K st pick (names_of s cell st at up)) (x.held s cell st at up) r → CellStand s (cell_given_up cell r)
      by None is goes go = rests_stands s cell at
      by (Some o) is goes go =
          server_stands w c.servers h x v.given g.asks c.map.next below names g.sent (λ q. ⊥) s cell st at up o _ (picked_goes w.post st pick o goes) (picked_stages w.post st pick o (λ q. ⊥) go)
          (gives_up_from s range pick cell at st up o is) (λ q hears. absurd hears)

  stops_stands : (s call : ℕ) (cell : ServerCell) → entry_at c.servers s ≡ Some cell → CellStand s (cell_rests (cell_stops call cell))
  stops_stands s call cell at = cell_stands s cell (cell_stops call cell) at (stopped_cell s call cell) (from (call == 0))
    where
      from : (b : Bool) (st : ServerState) → (if b then record cell { state = None } else cell).state ≡ Some st → (st.splits ≡ []) ⊎ ((was : ServerState) × (cell.state ≡ Some was) × (st.splits ≡ was.splits) × (st.ranges ≡ was.ranges))
      from true st is = absurd cc
      from false st is = inr (st, is, refl, refl)

  starts_stands : (s now batch : ℕ) (cell : ServerCell) → entry_at c.servers s ≡ Some cell → CellStand s (cell_rests (cell_starts s now batch cell cell.state))
  starts_stands s now batch cell at = cell_stands s cell (cell_starts s now batch cell cell.state) at (started_cell s now batch cell cell.state refl) (from cell.state refl)
    where
      begun : (b : Bool) (st : ServerState) → (if b then record { session = suc cell.session; state = Some (started s (suc cell.session) now first_pick batch) } else cell).state ≡ Some st →
          (st.splits ≡ []) ⊎ ((was : ServerState) × (cell.state ≡ Some was) × (st.splits ≡ was.splits) × (st.ranges ≡ was.ranges))
      begun true st is = inl (sym (ap (λ (y : ServerState). y.splits) (same_Some (started s (suc cell.session) now first_pick batch) st is)))
      begun false st is = inr (st, is, refl, refl)

      from : (o : Option ServerState) → cell.state ≡ o → (st : ServerState) → (cell_starts s now batch cell o).state ≡ Some st → (st.splits ≡ []) ⊎ ((was : ServerState) × (cell.state ≡ Some was) × (st.splits ≡ was.splits) × (st.ranges ≡ was.ranges))
      from (Some server) up st is = inr (st, is, refl, refl)
      from None up st is = begun (nat_lt (suc cell.session) (2 ^ 64)) st is

  -- ---- the clock

  moment_from : (now t : ℕ) (cell : ServerCell) (st : ServerState) → entry_at (map (told_moment now) c.servers) t ≡ Some cell → cell.state ≡ Some st →
      (before : ServerCell) × (was : ServerState) × (entry_at c.servers t ≡ Some before) × (before.state ≡ Some was) × (st.splits ≡ was.splits) × (st.ranges ≡ was.ranges)
  moment_from now t cell st at up = by (entry_at c.servers t) refl (sym (entry_mapped (told_moment now) c.servers t) ∙ at)
    where
      by_state : (y : ServerCell) → entry_at c.servers t ≡ Some y → (o : Option ServerState) → y.state ≡ o → option_map (λ z. moment_rule z now) o ≡ Some st →
          (before : ServerCell) × (was : ServerState) × (entry_at c.servers t ≡ Some before) × (before.state ≡ Some was) × (st.splits ≡ was.splits) × (st.ranges ≡ was.ranges)
      by_state y there None is e = absurd cc
      by_state y there (Some z) is e =
          let same : moment_rule z now ≡ st = same_Some (moment_rule z now) st e in
          (y, z, there, is, sym (ap (λ (u : ServerState). u.splits) same), sym (ap (λ (u : ServerState). u.ranges) same))

      by : (o : Option ServerCell) → entry_at c.servers t ≡ o → option_map (told_moment now) o ≡ Some cell →
          (before : ServerCell) × (was : ServerState) × (entry_at c.servers t ≡ Some before) × (before.state ≡ Some was) × (st.splits ≡ was.splits) × (st.ranges ≡ was.ranges)
      by None there e = absurd cc
      by (Some y) there e = by_state y there y.state refl (ap (λ (u : ServerCell). u.state) (same_Some (told_moment now y) cell e) ∙ up)

  moment_stands : (now : ℕ) → Stand w (map (told_moment now) c.servers)
  moment_stands now =
      stands w (map (told_moment now) c.servers) (λ p there. there) refl (λ p there. there) (moments_on c.servers now)
      (λ t cell st at up k job found. (let (before, was, there, runs, splits, ranges) = moment_from now t cell st at up in (before, was, there, runs, ap (λ l. split_of l k) (sym splits) ∙ found)))
      (λ t cell st at up k job found.
      (let (before, was, there, runs, splits, ranges) = moment_from now t cell st at up in
      let r = x.held t before was there runs k job (ap (λ l. split_of l k) (sym splits) ∙ found) in
      (r.0, ap (λ l. range_of l k) ranges ∙ r.1)))

  -- ---- events

  map_takes_stands : (p : Packet) → StandOf (map_takes c p)
  map_takes_stands p = if_elim StandOf c.map_cell.up _ _ (λ up. does_stands (map_rule c.map p p.body) (map_uses c.map g.sound p p.body) (map_other c.map p p.body)) (λ up. x)

  delivers_stands : (number : ℕ) (o : Option Packet) → slice_get w.post number ≡ o → StandOf (delivers c o)
  delivers_stands number None at = x
  delivers_stands number (Some p) at = go p.to refl
    where
      layer_takes : (to : ActorId) → p.to ≡ to → StandOf (record c { stream_layer = delivered w p to })
      layer_takes to is = subst (λ z. StandOf (record c { stream_layer = z })) (ap (delivered_if w) at ∙ ap (delivered w p) is) (layer_stands (Deliver number))

      go : (to : ActorId) → p.to ≡ to → StandOf (delivered_to c p to)
      go (Server s) is = at_stands s (λ cell. cell_takes cell p cell.state) (λ cell found. takes_stands number p (contains_get w.post number p at) s is cell found cell.state refl) (entry_at c.servers s) refl
      go Map is = map_takes_stands p
      go (Node n) is = layer_takes (Node n) is
      go Manager is = layer_takes Manager is
      go (User u) is = layer_takes (User u) is

  stop_stands : (actor : ActorId) (call : ℕ) (keep : Bool) → StandOf (stops c actor call keep)
  stop_stands (Server s) call keep = at_stands s (λ cell. cell_rests (cell_stops call cell)) (λ cell found. stops_stands s call cell found) (entry_at c.servers s) refl
  stop_stands Map call keep = if_elim StandOf c.map_cell.up _ _ (λ up. if_elim StandOf (call == 0) _ _ (λ z. x) (λ z. x)) (λ up. x)
  stop_stands (Node n) call keep = layer_stands (Stop (Node n) call keep)
  stop_stands Manager call keep = layer_stands (Stop Manager call keep)
  stop_stands (User u) call keep = layer_stands (Stop (User u) call keep)

  restart_stands : (actor : ActorId) → StandOf (restarts c actor)
  restart_stands (Server s) = at_stands s (λ cell. cell_rests (cell_starts s c.now c.batch cell cell.state)) (λ cell found. starts_stands s c.now c.batch cell found) (entry_at c.servers s) refl
  restart_stands Map = if_elim StandOf c.map_cell.up _ _ (λ up. x) (λ up. x)
  restart_stands (Node n) = layer_stands (Restart (Node n))
  restart_stands Manager = layer_stands (Restart Manager)
  restart_stands (User u) = layer_stands (Restart (User u))

  pub event_stands : (event : Event) → IsUnmerged event → StandOf (cluster_after c event)
  event_stands (Submit user to body) apart = layer_stands (Submit user to body)
  event_stands (Deliver number) apart = delivers_stands number (slice_get w.post number) refl
  event_stands (Stop actor call keep) apart = stop_stands actor call keep
  event_stands (Restart actor) apart = restart_stands actor
  event_stands (Decide e) apart = layer_stands (Decide e)
  event_stands (GiveUp server range pick) apart =
      at_stands server (λ cell. cell_gives_up cell range pick cell.state) (λ cell found. gives_up_stands server range pick cell found cell.state refl) (entry_at c.servers server) refl
  event_stands (Assign range server until) apart =
      if_elim StandOf c.map_cell.up _ _
      (λ up. does_if_stands (assign_fault server c.now (range_at c.map.ranges range)) _ (assign_uses c.map g.sound range server until (range_at c.map.ranges range) refl) (assign_other c.map range server until (range_at c.map.ranges range))) (λ up. x)
  event_stands (Renew range server until) apart =
      if_elim StandOf c.map_cell.up _ _
      (λ up. does_if_stands (renew_fault server (range_at c.map.ranges range)) _ (renew_uses c.map g.sound range server until (range_at c.map.ranges range) refl) (renew_other c.map range server until (range_at c.map.ranges range))) (λ up. x)
  event_stands (Moment now) apart = if_elim StandOf (nat_lt now c.now) _ _ (λ back. x) (λ on. moment_stands now)
  event_stands (Checkpoint server range combine) apart =
      at_stands server (λ cell. cell_checkpoints cell range combine cell.state) (λ cell found. checkpoints_stands server range combine cell found cell.state refl) (entry_at c.servers server) refl
  event_stands (Split server range key) apart =
      at_stands server (λ cell. cell_splits cell range key cell.state) (λ cell found. splits_stands server range key cell found cell.state refl) (entry_at c.servers server) refl
  event_stands (Merge server one two) apart = absurd apart
