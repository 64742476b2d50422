-- A cluster stands on through what the map does, its stops and its restarts.
use Rattle.std.proofs.Common.{ℕ, Bool, List, [], Option, Some, None, refl, ◌==◌}
use Rattle.wire.specs.declared.note.Note.{Note}
use Rattle.wire.specs.declared.packet.Packet.{Packet}
use Rattle.wire.specs.declared.refusal.Refusal.{Refusal}
use Rattle.model_streams.specs.Outcome.{Outcome}
use Rattle.model_streams.specs.StreamSystem.{ActorCell, running, down, armed, burnt, stops_in, stands_in}
use Rattle.model_streams.proofs.Tests.{if_elim}
use Rattle.model_partition.specs.Map.{MapState, range_at}
use Rattle.model_partition.specs.MapRules.{assign_fault, assign_rule, renew_fault, renew_rule, map_rule}
use Rattle.model_histories.specs.ServerRun.{ServerRun}
use Rattle.model_partition.specs.Cluster.{Cluster, told_by_map, map_performs, map_performs_if, map_takes, assigns, renews, map_stops, map_starts}
use Rattle.laws_clusters.proofs.Invariant.{Standing, Bases}
use Rattle.laws_clusters.proofs.MapWords.{AreWords, AreCounted, AllHave, Completes, IsRule, assign_is_rule, renew_is_rule, map_is_rule}
use Rattle.laws_clusters.proofs.OtherEvents.{still_runs, still_here, rests_as, map_says_stands}
use Rattle.laws_clusters.proofs.ServerNotes.{AreChanges}

module _ (generation : ℕ → ℕ) (nodes target : ℕ) (y : ServerRun) where
  abbrev Stands : Bases generation → Cluster → Type 0
  Stands base c = Standing generation nodes target base c y

  -- another map, and nothing is sent
  another_map : {base : Bases generation} → (c : Cluster) (m : MapState) (cell : ActorCell) → AreCounted m → AllHave c.stream_layer m → Stands base c → Stands base (record c { map = m; map_cell = cell })
  another_map {base} c m cell counted have x =
      rests_as generation nodes target c (record c { map = m; map_cell = cell }) y y x refl counted have (λ q past. past) (still_here y y.servers) x.cells (still_runs c.servers)

  tells_stand : {base : Bases generation} → (c : Cluster) (m : MapState) (cell : ActorCell) (packets : List Packet) (notes : List Note) → AreCounted m → AllHave c.stream_layer m → AreWords c.stream_layer packets → AreChanges notes → Stands base c →
      Stands base (record c { map = m; map_cell = cell; stream_layer = told_by_map c.stream_layer packets notes })
  tells_stand {base} c m cell packets notes counted have words changes x =
      map_says_stands generation nodes target (record c { map = m; map_cell = cell }) y (another_map c m cell counted have x) packets words notes changes

  does_stand : {base : Bases generation} → (c : Cluster) (o : Outcome MapState) → IsRule c.stream_layer o → Stands base c → Stands base (map_performs c o)
  does_stand {base} c o rule x =
      if_elim (Stands base) (stops_in c.map_cell o.written) _ _
      (λ t. if_elim (Stands base) (stands_in c.map_cell) _ _ (λ s. tells_stand c o.after down [] o.notes rule.counted rule.have tt rule.shows x) (λ s. another_map c c.map down x.counted x.have x))
      (λ f. tells_stand c o.after (burnt c.map_cell o.written) o.packets o.notes rule.counted rule.have rule.words rule.shows x)

  does_if_stand : {base : Bases generation} → (c : Cluster) (refusal : Option Refusal) (o : Outcome MapState) → IsRule c.stream_layer o → Stands base c → Stands base (map_performs_if c refusal o)
  does_if_stand {base} c (Some refusal) o rule x = x
  does_if_stand {base} c None o rule x = does_stand c o rule x

  -- Whatever comes to the map, splits and merges too, where what completes them has streams.
  pub map_takes_stand : {base : Bases generation} → (c : Cluster) (p : Packet) → Completes c.stream_layer c.map p.body → Stands base c → Stands base (map_takes c p)
  map_takes_stand {base} c p completes x = if_elim (Stands base) c.map_cell.up _ _ (λ up. does_stand c (map_rule c.map p p.body) (map_is_rule c.stream_layer c.map x.counted x.have p p.body completes) x) (λ up. x)

  pub assigns_stand : {base : Bases generation} → (c : Cluster) (range server until : ℕ) → Stands base c → Stands base (assigns c range server until)
  assigns_stand {base} c range server until x =
      let found = range_at c.map.ranges range in
      if_elim (Stands base) c.map_cell.up _ _
      (λ up. does_if_stand c (assign_fault server c.now found) (assign_rule c.map range server until found) (assign_is_rule c.stream_layer c.map x.counted x.have range server until found refl) x)
      (λ up. x)

  pub renews_stand : {base : Bases generation} → (c : Cluster) (range server until : ℕ) → Stands base c → Stands base (renews c range server until)
  renews_stand {base} c range server until x =
      let found = range_at c.map.ranges range in
      if_elim (Stands base) c.map_cell.up _ _
      (λ up. does_if_stand c (renew_fault server found) (renew_rule c.map range server until found) (renew_is_rule c.stream_layer c.map x.counted x.have range server until found) x)
      (λ up. x)

  pub map_stops_stand : {base : Bases generation} → (c : Cluster) (call : ℕ) (keep : Bool) → Stands base c → Stands base (map_stops c call keep)
  map_stops_stand {base} c call keep x =
      if_elim (Stands base) c.map_cell.up _ _
      (λ up. if_elim (Stands base) (call == 0) _ _ (λ now. another_map c c.map down x.counted x.have x) (λ later. another_map c c.map (armed call keep) x.counted x.have x))
      (λ up. x)

  pub map_starts_stand : {base : Bases generation} → (c : Cluster) → Stands base c → Stands base (map_starts c)
  map_starts_stand {base} c x = if_elim (Stands base) c.map_cell.up _ _ (λ up. x) (λ up. another_map c c.map running x.counted x.have x)
