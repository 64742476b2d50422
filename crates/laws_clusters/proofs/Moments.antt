-- In every run, whatever is asked, splits and merges among it, each server that runs sees the last moment, each range that it holds is
-- held under a lease that the map told it, and whoever loads it under a higher generation once its streams were told is another server.
use Rattle.std.proofs.Common.{◌≡◌, ◌≤◌, ◌<◌, ◌-◌, ◌^◌, ℕ, zero, suc, ◌==◌, nat_lt, Bool, List, [], ◌∷◌, ◌++◌, map, Option, Some, None, option_map, Contains, slice_get, slice_set, refl, sym, ap, ◌∙◌, subst, inl, inr, arith}
use Rattle.std.specs.Prelude.{option_to_list}
use Rattle.std.proofs.lemmas.Bool.Decides.{nat_tests}
use Rattle.std.proofs.lemmas.Option.{same_Some}
use Rattle.std.proofs.lemmas.List.Elements.{Contains-append_cases}
use Rattle.block_types.specs.declared.record.Nodes.{Nodes}
use Rattle.wire.specs.declared.actor.ActorId.{ActorId}
use Rattle.wire.specs.declared.actor.ActorId.TheVariants.{Node, Manager, Map, Server, User}
use Rattle.wire.specs.declared.note.Note.{Note}
use Rattle.wire.specs.declared.note.Note.TheVariants as notes
use Rattle.wire.specs.declared.packet.Packet.{Packet}
use Rattle.wire.specs.declared.refusal.Refusal.{Refusal}
use Rattle.client.specs.Load.{LoadState, again}
use Rattle.model_streams.specs.declared.event.Event.{Event}
use Rattle.model_streams.specs.declared.event.Event.TheVariants.{Submit, Deliver, Stop, Restart, Decide, GiveUp, Assign, Renew, Moment, Checkpoint, Split, Merge}
use Rattle.model_streams.specs.Maps.{entry_at}
use Rattle.model_streams.specs.Outcome.{Outcome}
use Rattle.model_streams.specs.StreamSystem.{happens, stops_in, stands_in, delivered_if, delivered}
use Rattle.model_streams.proofs.Tests.{if_elim}
use Rattle.model_partition.specs.declared.stage.Stage.{Stage}
use Rattle.model_partition.specs.Past.{table_notes}
use Rattle.model_partition.specs.Map.{MapState, range_at}
use Rattle.model_partition.specs.MapRules.{assign_fault, assign_rule, renew_fault, renew_rule, map_rule}
use Rattle.model_partition.specs.Range.{RangeState}
use Rattle.model_partition.specs.Server.{ServerState, ServerOutcome, server_rule, server_checkpoint, server_split, server_merge, give_up_rule, picked, moment_rule, started}
use Rattle.model_partition.specs.Servers.{ServerCell, CellOutcome, cell_rests, cell_performs, cell_takes, cell_given_up, cell_gives_up, cell_checkpoints, cell_splits, cell_merges, cell_stops, cell_starts, first_pick, at_server, with_told, told_moment, first_servers}
use Rattle.model_partition.specs.Cluster.{Cluster, servers_perform, map_performs, map_performs_if, map_takes, delivered_to, delivers, stops, restarts, cluster_after, cluster_after_all, first_cluster}
use Rattle.laws_streams.proofs.Choices.{contains_get}
use Rattle.laws_tables.proofs.Others.{others-append}
use Rattle.laws_map.specs.Naming.{Each}
use Rattle.laws_map.specs.Openings.{AreQuiet, IsBeyond}
use Rattle.laws_map.proofs.AskedNumbers.{CellOn, same_cell, stopped_cell, started_cell, moments_on, entry_mapped}
use Rattle.laws_map.proofs.EventNames.{entry_is}
use Rattle.laws_map.proofs.GenerationsInRuns.{first_are_themselves}
use Rattle.laws_map.proofs.Knowing.{each_has}
use Rattle.laws_map.proofs.LayerOpenings.{happens_layered, assign_quiet, renew_quiet, map_quiet}
use Rattle.laws_map.proofs.OneOpening.{quiet_layer}
use Rattle.laws_map.proofs.RangeLoads.{Has}
use Rattle.laws_clusters.specs.Timely.{IsTold, HoldsAt, AreTimely, HasLoad, IsElsewhere, LoadsElsewhere}
use Rattle.laws_clusters.proofs.HeldRanges.{AreAsked, AllHold, Holds, HoldsIf, server_holds, checkpoint_holds, split_begins_holds, merge_begins_holds, give_up_holds}
use Rattle.laws_clusters.proofs.LeasedRanges.{RangeStands, StateStands, P, Shown, begins_so, shown, asked, answers_so, renews_so}
use Rattle.laws_clusters.proofs.LeasesInRuns.{run_keeps_leases}
use Rattle.laws_clusters.proofs.LoadsElsewhere.{Stands, layered_stands, cell_stands, own, server_stands, assigned_so}
use Rattle.laws_clusters.proofs.ShownNotes.{RuleShows, Silent, SplitDone, MergeDone, assign_silent, renew_silent, map_shows}
use Rattle.laws_clusters.proofs.StreamEvents.{happens_tables}

-- ---- what the map shows

abbrev IsNoLoad : Note → Type 0
IsNoLoad (notes.Loaded range generation rows next) = ⊥
IsNoLoad note = Unit {0}

-- no load is among these
abbrev IsUnloaded : List Note → Type 0
IsUnloaded shown = (note : Note) → Contains (table_notes shown) note → IsNoLoad note

rule_unloaded : (c : Cluster) (p : Packet) (o : Outcome MapState) → RuleShows c p o → IsUnloaded o.notes
rule_unloaded c p o (Silent none) = subst IsUnloaded (sym none) (λ note there. absurd (let less = there.1 in omega (arith, less)))
rule_unloaded c p o (SplitDone range low high key q entry asked found pending left is) =
    subst IsUnloaded (sym is) (λ note there. subst IsNoLoad (each_has (λ (y : Note). notes.Split range low high key ≡ y) (notes.Split range low high key ∷ []) note (refl, tt) there) tt)
rule_unloaded c p o (MergeDone left right into is) =
    subst IsUnloaded (sym is) (λ note there. subst IsNoLoad (each_has (λ (y : Note). notes.Merged left right into ≡ y) (notes.Merged left right into ∷ []) note (refl, tt) there) tt)

-- so a load that is observed then was observed before
loads_before : (seen shown : List Note) → IsUnloaded shown → (n g : ℕ) → HasLoad (seen ++ shown) n g → HasLoad seen n g
loads_before seen shown none n g x =
    elim (Contains-append_cases (table_notes seen) (table_notes shown) (notes.Loaded n g x.0 x.1) (subst (λ h. Contains h (notes.Loaded n g x.0 x.1)) (others-append seen shown) x.2)) [
      | inl old ↦ (x.0, x.1, old)
      | inr new ↦ absurd (none (notes.Loaded n g x.0 x.1) new)
    ]

-- ---- one event

abbrev pub StandsAll : Cluster → Type 0
StandsAll c = Stands c.stream_layer c.servers c.now

module _ (c : Cluster) (h : StandsAll c) where
  layer_stands : (event : Event) → StandsAll (record c { stream_layer = happens c.stream_layer event })
  layer_stands event =
      layered_stands c.stream_layer (happens c.stream_layer event) c.servers c.now (happens_layered c.stream_layer event)
      (λ n g x. (x.0, x.1, subst (λ seen. Contains seen (notes.Loaded n g x.0 x.1)) (happens_tables c.stream_layer event) x.2)) h

  -- ---- the map

  more_stands : (packets : List Packet) (shown : List Note) → AreQuiet packets → IsUnloaded shown → Stands (record c.stream_layer { post = c.stream_layer.post ++ packets; notes = c.stream_layer.notes ++ shown }) c.servers c.now
  more_stands packets shown quiet none =
      layered_stands c.stream_layer (record c.stream_layer { post = c.stream_layer.post ++ packets; notes = c.stream_layer.notes ++ shown }) c.servers c.now
      (quiet_layer c.stream_layer packets (c.stream_layer.notes ++ shown) quiet) (loads_before c.stream_layer.notes shown none) h

  does_stand : (o : Outcome MapState) → AreQuiet o.packets → IsUnloaded o.notes → StandsAll (map_performs c o)
  does_stand o quiet none =
      if_elim StandsAll (stops_in c.map_cell o.written) _ _
      (λ t. if_elim StandsAll (stands_in c.map_cell) _ _ (λ s. more_stands [] o.notes tt none) (λ s. h))
      (λ f. more_stands o.packets o.notes quiet none)

  does_if_stand : (fault : Option Refusal) (o : Outcome MapState) → AreQuiet o.packets → o.notes ≡ [] → StandsAll (map_performs_if c fault o)
  does_if_stand (Some refusal) o quiet none = h
  does_if_stand None o quiet none = does_stand o quiet (subst IsUnloaded (sym none) (λ note there. absurd (let less = there.1 in omega (arith, less))))

  -- ---- a server

  -- what a server's cell becomes, and what it sends
  abbrev CellStands : ℕ → CellOutcome → Type 0
  CellStands s o = Stands (with_told c.stream_layer o.packets o.notes) (slice_set c.servers (s - 1) o.cell) c.now

  -- nothing is sent
  silent : (servers : List ServerCell) → Stands c.stream_layer servers c.now → Stands (with_told c.stream_layer [] []) servers c.now
  silent servers k = layered_stands c.stream_layer (with_told c.stream_layer [] []) servers c.now (quiet_layer c.stream_layer [] c.stream_layer.notes tt) (λ n g x. x) k

  at_stands : (s : ℕ) (rule : ServerCell → CellOutcome) → ((cell : ServerCell) → entry_at c.servers s ≡ Some cell → CellStands s (rule cell)) → (o : Option ServerCell) → entry_at c.servers s ≡ o →
      StandsAll (servers_perform c (at_server c.servers s rule o))
  at_stands s rule step None at = silent c.servers h
  at_stands s rule step (Some cell) at = step cell at

  -- the cell changes so
  changed_stands : (s : ℕ) (cell d : ServerCell) → entry_at c.servers s ≡ Some cell → CellOn s cell d → ((st : ServerState) → d.state ≡ Some st → StateStands c.stream_layer.post c.stream_layer.notes c.now st) → CellStands s (cell_rests d)
  changed_stands s cell d at on stands = silent (slice_set c.servers (s - 1) d) (cell_stands c.stream_layer c.servers c.now h s cell d at on stands)

  rests_stand : (s : ℕ) (cell : ServerCell) → entry_at c.servers s ≡ Some cell → CellStands s (cell_rests cell)
  rests_stand s cell at = changed_stands s cell cell at (same_cell s cell) (λ st up. h.held s cell st at up)

  module _ (s : ℕ) (cell : ServerCell) (at : entry_at c.servers s ≡ Some cell) (st : ServerState) (up : cell.state ≡ Some st) where
    abbrev before : StateStands c.stream_layer.post c.stream_layer.notes c.now st
    before = h.held s cell st at up

    abbrev Own : ℕ → ℕ → LoadState → Stage → Type 0
    Own = P c.stream_layer.post c.stream_layer.notes c.stream_layer.catalog h.fenced st before.ranges

    abbrev Loads : ℕ → ℕ → Type 0
    Loads = Shown c.stream_layer.post c.stream_layer.notes c.stream_layer.catalog h.fenced st before.ranges

    abbrev so : AllHold Own st.ranges
    so = begins_so c.stream_layer.post c.stream_layer.notes c.stream_layer.catalog h.fenced st before.ranges

    own_shown : (n until : ℕ) (load : LoadState) (stage : Stage) → Own n until load stage → IsBeyond load.phase → Loads load.range load.generation
    own_shown = shown c.stream_layer.post c.stream_layer.notes c.stream_layer.catalog h.fenced st before.ranges

    own_asked : (n : ℕ) (r : RangeState) → Has (Own n) r → AreAsked c.stream_layer.post (option_to_list (again r.load r.load.phase))
    own_asked = asked c.stream_layer.post c.stream_layer.notes c.stream_layer.catalog h.fenced st before.ranges

    performs_stand : (o : ServerOutcome) → Holds c.stream_layer.post Own Loads st o → CellStands s (cell_performs cell o)
    performs_stand o goes = server_stands c.stream_layer c.servers c.now h s cell st at up o goes

    takes_stand : (p : Packet) → Contains c.stream_layer.post p → p.to ≡ Server s → CellStands s (cell_performs cell (server_rule st p p.body))
    takes_stand p there to = elim (
        server_holds c.stream_layer.post Own Loads own_shown own_asked st so p
        (λ n r found w number. answers_so c.stream_layer.post c.stream_layer.notes c.stream_layer.catalog h.fenced st before.ranges n r found p there w number)
        (λ n generation until r found from is same.
        renews_so c.stream_layer.post c.stream_layer.notes c.stream_layer.catalog h.fenced st before.ranges n r found p there (to ∙ ap Server (sym own_number)) generation until from is same)
        ) [
          | inl goes ↦ performs_stand (server_rule st p p.body) goes
          | inr assigns ↦ assigned_so c.stream_layer c.servers c.now h s cell st at up p there to (server_rule st p p.body) assigns
        ]
      where
        own_number : st.context.server ≡ s
        own_number = (own c.stream_layer c.servers c.now h s cell st at up).0

    checkpoint_stands : (range : ℕ) (combine : Bool) → CellStands s (cell_performs cell (server_checkpoint st range combine))
    checkpoint_stands range combine =
        performs_stand (server_checkpoint st range combine)
        (checkpoint_holds c.stream_layer.post Own Loads own_shown own_asked st so range combine)

    split_stands : (range : ℕ) (key : List ℕ) → CellStands s (cell_performs cell (server_split st range key))
    split_stands range key =
        performs_stand (server_split st range key)
        (split_begins_holds c.stream_layer.post Own Loads own_shown own_asked st so range key)

    merge_stands : (left right : ℕ) → CellStands s (cell_performs cell (server_merge st left right))
    merge_stands left right =
        performs_stand (server_merge st left right)
        (merge_begins_holds c.stream_layer.post Own Loads own_shown own_asked st so left right)

    -- the nodes for new extents are others, and then the range gives up
    give_up_stands : (range : ℕ) (pick : Nodes) → CellStands s (cell_given_up cell (give_up_rule st range pick))
    give_up_stands range pick =
        by (give_up_rule st range pick)
        (give_up_holds c.stream_layer.post Own Loads own_shown own_asked st pick range so)
      where
        by : (o : Option ServerOutcome) → HoldsIf c.stream_layer.post Own Loads (picked st pick) o → CellStands s (cell_given_up cell o)
        by None goes = rests_stand s cell at
        by (Some o) goes =
            performs_stand o
            (record { ranges = goes.ranges; asks = goes.asks; count = goes.count; server = goes.server; session = goes.session; moment = goes.moment; shows = goes.shows })

  -- ---- servers that run or have stopped

  cell_takes_stand : (p : Packet) → Contains c.stream_layer.post p → (s : ℕ) → p.to ≡ Server s → (cell : ServerCell) → entry_at c.servers s ≡ Some cell → (state : Option ServerState) → cell.state ≡ state → CellStands s (cell_takes cell p state)
  cell_takes_stand p there s to cell at None up = rests_stand s cell at
  cell_takes_stand p there s to cell at (Some st) up = takes_stand s cell at st up p there to

  cell_checkpoints_stand : (s range : ℕ) (combine : Bool) (cell : ServerCell) → entry_at c.servers s ≡ Some cell → (state : Option ServerState) → cell.state ≡ state → CellStands s (cell_checkpoints cell range combine state)
  cell_checkpoints_stand s range combine cell at None up = rests_stand s cell at
  cell_checkpoints_stand s range combine cell at (Some st) up = checkpoint_stands s cell at st up range combine

  cell_splits_stand : (s range : ℕ) (key : List ℕ) (cell : ServerCell) → entry_at c.servers s ≡ Some cell → (state : Option ServerState) → cell.state ≡ state → CellStands s (cell_splits cell range key state)
  cell_splits_stand s range key cell at None up = rests_stand s cell at
  cell_splits_stand s range key cell at (Some st) up = split_stands s cell at st up range key

  cell_merges_stand : (s left right : ℕ) (cell : ServerCell) → entry_at c.servers s ≡ Some cell → (state : Option ServerState) → cell.state ≡ state → CellStands s (cell_merges cell left right state)
  cell_merges_stand s left right cell at None up = rests_stand s cell at
  cell_merges_stand s left right cell at (Some st) up = merge_stands s cell at st up left right

  cell_gives_up_stand : (s range : ℕ) (pick : Nodes) (cell : ServerCell) → entry_at c.servers s ≡ Some cell → (state : Option ServerState) → cell.state ≡ state → CellStands s (cell_gives_up cell range pick state)
  cell_gives_up_stand s range pick cell at None up = rests_stand s cell at
  cell_gives_up_stand s range pick cell at (Some st) up = give_up_stands s cell at st up range pick

  cell_stops_stand : (s call : ℕ) (cell : ServerCell) → entry_at c.servers s ≡ Some cell → CellStands s (cell_rests (cell_stops call cell))
  cell_stops_stand s call cell at =
      if_elim (λ (d : ServerCell). CellStands s (cell_rests d)) (call == 0) (record cell { state = None }) cell
      (λ t. changed_stands s cell (record cell { state = None }) at (stopped_cell s 0 cell) (λ st up. absurd cc)) (λ f. rests_stand s cell at)

  cell_starts_stand : (s : ℕ) (cell : ServerCell) → entry_at c.servers s ≡ Some cell → (state : Option ServerState) → cell.state ≡ state → CellStands s (cell_rests (cell_starts s c.now c.batch cell state))
  cell_starts_stand s cell at (Some st) up = rests_stand s cell at
  cell_starts_stand s cell at None up =
      if_elim (λ (d : ServerCell). CellOn s cell d → CellStands s (cell_rests d)) (nat_lt (suc cell.session) (2 ^ 64)) next cell
      (λ t on. changed_stands s cell next at on (λ st is. subst (StateStands c.stream_layer.post c.stream_layer.notes c.now) (same_Some new st is) (record { moment = refl; ranges = record { rising = tt; each = λ n r found. absurd cc } })))
      (λ f on. rests_stand s cell at) (started_cell s c.now c.batch cell None up)
    where
      new : ServerState
      new = started s (suc cell.session) c.now first_pick c.batch

      next : ServerCell
      next = record { session = suc cell.session; state = Some new }

  -- ---- the clock

  moment_stands : (now : ℕ) → c.now ≤ now → Stands c.stream_layer (map (told_moment now) c.servers) now
  moment_stands now later =
      let on = moments_on c.servers now in
      record { once = h.once; asked = h.asked; fenced = h.fenced; loads = h.loads; past = λ n g q a. on.past q (h.past n g q a); themselves = on.themselves h.themselves; held = held }
    where
      held : (s : ℕ) (cell : ServerCell) (st : ServerState) → entry_at (map (told_moment now) c.servers) s ≡ Some cell → cell.state ≡ Some st → StateStands c.stream_layer.post c.stream_layer.notes now st
      held s cell st at up = by (entry_at c.servers s) refl (sym (entry_mapped (told_moment now) c.servers s) ∙ at)
        where
          by_state : (x : ServerCell) → entry_at c.servers s ≡ Some x → (o : Option ServerState) → x.state ≡ o → option_map (λ z. moment_rule z now) o ≡ Some st → StateStands c.stream_layer.post c.stream_layer.notes now st
          by_state x there None runs e = absurd cc
          by_state x there (Some z) runs e =
              let k = h.held s x z there runs in
              subst (StateStands c.stream_layer.post c.stream_layer.notes now) (same_Some (moment_rule z now) st e)
              (record { moment = (let m = k.moment in omega (arith, m, later)); ranges = k.ranges })

          by : (o : Option ServerCell) → entry_at c.servers s ≡ o → option_map (told_moment now) o ≡ Some cell → StateStands c.stream_layer.post c.stream_layer.notes now st
          by None there e = absurd cc
          by (Some x) there e =
              let same : told_moment now x ≡ cell = same_Some (told_moment now x) cell e in
              by_state x there x.state refl (ap (λ (y : ServerCell). y.state) same ∙ up)

  -- ---- events

  map_takes_stands : (p : Packet) → StandsAll (map_takes c p)
  map_takes_stands p =
      if_elim StandsAll c.map_cell.up _ _
      (λ up. does_stand (map_rule c.map p p.body) (map_quiet c.map p p.body) (rule_unloaded c p (map_rule c.map p p.body) (map_shows c p p.body refl))) (λ up. h)

  delivers_stand : (number : ℕ) (o : Option Packet) → slice_get c.stream_layer.post number ≡ o → StandsAll (delivers c o)
  delivers_stand number None at = h
  delivers_stand number (Some p) at = go p.to refl
    where
      layer_takes : (to : ActorId) → p.to ≡ to → StandsAll (record c { stream_layer = delivered c.stream_layer p to })
      layer_takes to is = subst (λ z. StandsAll (record c { stream_layer = z })) (ap (delivered_if c.stream_layer) at ∙ ap (delivered c.stream_layer p) is) (layer_stands (Deliver number))

      go : (to : ActorId) → p.to ≡ to → StandsAll (delivered_to c p to)
      go (Server s) is =
          at_stands s (λ cell. cell_takes cell p cell.state) (λ cell found. cell_takes_stand p (contains_get c.stream_layer.post number p at) s is cell found cell.state refl) (entry_at c.servers s) refl
      go Map is = map_takes_stands p
      go (Node n) is = layer_takes (Node n) is
      go Manager is = layer_takes Manager is
      go (User u) is = layer_takes (User u) is

  stop_stands : (actor : ActorId) (call : ℕ) (keep : Bool) → StandsAll (stops c actor call keep)
  stop_stands (Server s) call keep = at_stands s (λ cell. cell_rests (cell_stops call cell)) (λ cell found. cell_stops_stand s call cell found) (entry_at c.servers s) refl
  stop_stands Map call keep = if_elim StandsAll c.map_cell.up _ _ (λ up. if_elim StandsAll (call == 0) _ _ (λ z. h) (λ z. h)) (λ up. h)
  stop_stands (Node n) call keep = layer_stands (Stop (Node n) call keep)
  stop_stands Manager call keep = layer_stands (Stop Manager call keep)
  stop_stands (User u) call keep = layer_stands (Stop (User u) call keep)

  restart_stands : (actor : ActorId) → StandsAll (restarts c actor)
  restart_stands (Server s) = at_stands s (λ cell. cell_rests (cell_starts s c.now c.batch cell cell.state)) (λ cell found. cell_starts_stand s cell found cell.state refl) (entry_at c.servers s) refl
  restart_stands Map = if_elim StandsAll c.map_cell.up _ _ (λ up. h) (λ up. h)
  restart_stands (Node n) = layer_stands (Restart (Node n))
  restart_stands Manager = layer_stands (Restart Manager)
  restart_stands (User u) = layer_stands (Restart (User u))

  event_stands : (event : Event) → StandsAll (cluster_after c event)
  event_stands (Submit user to body) = layer_stands (Submit user to body)
  event_stands (Deliver number) = delivers_stand number (slice_get c.stream_layer.post number) refl
  event_stands (Stop actor call keep) = stop_stands actor call keep
  event_stands (Restart actor) = restart_stands actor
  event_stands (Decide e) = layer_stands (Decide e)
  event_stands (GiveUp server range pick) =
      at_stands server (λ cell. cell_gives_up cell range pick cell.state) (λ cell found. cell_gives_up_stand server range pick cell found cell.state refl) (entry_at c.servers server) refl
  event_stands (Assign range server until) =
      let entry = range_at c.map.ranges range in
      if_elim StandsAll c.map_cell.up _ _ (λ up. does_if_stand (assign_fault server c.now entry) (assign_rule c.map range server until entry) (assign_quiet c.map range server until entry) (assign_silent c range server until entry)) (λ up. h)
  event_stands (Renew range server until) =
      let entry = range_at c.map.ranges range in
      if_elim StandsAll c.map_cell.up _ _ (λ up. does_if_stand (renew_fault server entry) (renew_rule c.map range server until entry) (renew_quiet c.map range server until entry) (renew_silent c range server until entry)) (λ up. h)
  event_stands (Moment now) = if_elim StandsAll (nat_lt now c.now) _ _ (λ back. h) (λ on. moment_stands now (grind (arith, nat_tests)))
  event_stands (Checkpoint server range combine) =
      at_stands server (λ cell. cell_checkpoints cell range combine cell.state) (λ cell found. cell_checkpoints_stand server range combine cell found cell.state refl) (entry_at c.servers server) refl
  event_stands (Split server range key) =
      at_stands server (λ cell. cell_splits cell range key cell.state) (λ cell found. cell_splits_stand server range key cell found cell.state refl) (entry_at c.servers server) refl
  event_stands (Merge server left right) =
      at_stands server (λ cell. cell_merges cell left right cell.state) (λ cell found. cell_merges_stand server left right cell found cell.state refl) (entry_at c.servers server) refl

-- ---- runs

all_stand : (events : List Event) (c : Cluster) → StandsAll c → StandsAll (cluster_after_all c events)
all_stand [] c h = h
all_stand (event ∷ events) c h = all_stand events (cluster_after c event) (event_stands c h event)

none_in : {A : Type 0} {x : A} → Contains [] x → ⊥
none_in there = let less = there.1 in omega (arith, less)

-- no server holds a range at first, and each sees the moment 0
first_state : (batch k n : ℕ) → Each (λ (cell : ServerCell). (st : ServerState) → cell.state ≡ Some st → StateStands [] [] 0 st) (first_servers batch k n)
first_state batch k zero = tt
first_state batch k (suc n) = (
  λ st is. subst (StateStands [] [] 0) (same_Some (started k 1 0 first_pick batch) st is) (record { moment = refl; ranges = record { rising = tt; each = λ m r found. absurd cc } }),
  first_state batch (suc k) n,
)

first_stands : (nodes servers target batch : ℕ) → StandsAll (first_cluster nodes servers target batch)
first_stands nodes servers target batch = record {
  once = λ q n g m k a b. absurd (none_in a.sent);
  asked = λ q told. absurd (none_in told.sent);
  fenced = λ n g q granted. absurd (none_in granted.0.sent);
  loads = λ n g load. absurd (none_in load.2);
  past = λ n g q a. absurd (none_in a.sent);
  themselves = first_are_themselves batch servers;
  held = λ s cell st at up. entry_is (λ (x : ServerCell). (z : ServerState) → x.state ≡ Some z → StateStands [] [] 0 z) (first_servers batch 1 servers) s cell (first_state batch 1 servers) at st up;
}

pub run_stands : (nodes servers target batch : ℕ) (events : List Event) → StandsAll (cluster_after_all (first_cluster nodes servers target batch) events)
run_stands nodes servers target batch events = all_stand events (first_cluster nodes servers target batch) (first_stands nodes servers target batch)

-- ---- what that means

module _ (c : Cluster) (h : StandsAll c) (server range : ℕ) (r : RangeState) (k : HoldsAt c.servers server range r) where
  abbrev state_stands : StateStands c.stream_layer.post c.stream_layer.notes c.now k.state
  state_stands = h.held server k.at.cell k.state k.at.there k.at.runs

  number_is : k.state.context.server ≡ server
  number_is = (h.themselves server k.at.cell k.at.there k.state k.at.runs).0

  pub range_stands : RangeStands c.stream_layer.post c.stream_layer.notes server k.state.context.session range r.until r.load r.stage
  range_stands =
      subst (λ s. RangeStands c.stream_layer.post c.stream_layer.notes s k.state.context.session range r.until r.load r.stage) number_is (state_stands.ranges.each range r k.found)

  leased_so : IsTold c.stream_layer.post (record { server = server; range = range; generation = r.load.generation; until = r.until })
  leased_so = range_stands.leased

  elsewhere_so : IsBeyond r.load.phase → (g : ℕ) → r.load.generation < g → HasLoad c.stream_layer.notes range g → IsElsewhere c.stream_layer.post server range g
  elsewhere_so beyond g above load = elim (range_stands.elsewhere g above load) [
    | inl e ↦ e
    | inr none ↦ elim range_stands.stands.2 [
      | inl waits ↦ absurd (subst IsBeyond waits.0 beyond)
      | inr told ↦ absurd (none told.1)
    ]
  ]

pub run_is_timely : (nodes servers target batch : ℕ) (events : List Event) → AreTimely (cluster_after_all (first_cluster nodes servers target batch) events)
run_is_timely nodes servers target batch events =
    let c : Cluster = cluster_after_all (first_cluster nodes servers target batch) events in
    let h : StandsAll c = run_stands nodes servers target batch events in
    record {
      moments = λ server state at. (h.held server at.cell state at.there at.runs).moment;
      leased = λ server range r k. leased_so c h server range r k;
      apart = (run_keeps_leases nodes servers target batch events).apart;
    }

pub run_loads_elsewhere : (nodes servers target batch : ℕ) (events : List Event) → LoadsElsewhere (cluster_after_all (first_cluster nodes servers target batch) events)
run_loads_elsewhere nodes servers target batch events server range r k beyond g above load =
    elsewhere_so (cluster_after_all (first_cluster nodes servers target batch) events) (run_stands nodes servers target batch events) server range r k beyond g above load
