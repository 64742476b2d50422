-- What each event of a run without merges shows of tables: observations of a range that a server holds, under its generation, or what the map made
-- of its ranges.
use Rattle.std.proofs.Common.{◌≡◌, ℕ, suc, ◌^◌, Bool, true, false, not, ◌&&◌, ◌==◌, nat_lt, List, [], ◌∷◌, ◌++◌, map, Option, Some, None, slice_get, Contains, refl, sym, ap, ◌∙◌, subst, append-nil, if◌then◌else◌, append_assoc}
use Rattle.std.proofs.lemmas.Bool.{and_parts, eqb-true}
use Rattle.wire.specs.declared.actor.ActorId.{ActorId}
use Rattle.wire.specs.declared.actor.ActorId.TheVariants.{Node, Manager, Map, Server, User}
use Rattle.wire.specs.declared.actor.ReqNo.{ReqNo}
use Rattle.wire.specs.declared.body.Body.{Body}
use Rattle.wire.specs.declared.body.Body.TheVariants as bodies
use Rattle.wire.specs.declared.body.MapBody.{MapBody}
use Rattle.wire.specs.declared.body.MapBody.TheVariants as maps
use Rattle.wire.specs.declared.note.Note.{Note}
use Rattle.wire.specs.declared.note.Note.TheVariants as notes
use Rattle.wire.specs.declared.packet.Packet.{Packet}
use Rattle.wire.specs.declared.streams.Modify.{Modify}
use Rattle.wire.specs.declared.streams.Source.{Source}
use Rattle.wire.specs.declared.streams.StreamKind.{StreamKind}
use Rattle.wire.specs.declared.streams.StreamKind.TheVariants as kinds
use Rattle.wire.specs.declared.refusal.Refusal.{Refusal}
use Rattle.wire.specs.declared.refusal.Refusal.TheVariants.{GenerationChanged}
use Rattle.model_streams.specs.declared.event.Event.{Event}
use Rattle.model_streams.specs.declared.event.Event.TheVariants.{Submit, Deliver, Stop, Restart, Decide, GiveUp, Assign, Renew, Moment as MomentTold, Checkpoint, Split, Merge}
use Rattle.model_streams.specs.Outcome.{Outcome}
use Rattle.model_streams.specs.StreamSystem.{happens, stops_in, stands_in, burnt, unsent, delivered, delivered_if}
use Rattle.model_streams.proofs.Tests.{if_elim, none_met}
use Rattle.model_partition.specs.declared.pending.Pending.{Pending}
use Rattle.model_partition.specs.declared.pending.Pending.TheVariants as pendings
use Rattle.model_partition.specs.declared.range_entry.RangeEntry.{RangeEntry}
use Rattle.model_partition.specs.declared.table_note.TableNote.{TableNote}
use Rattle.model_partition.specs.Map.{MapState, range_at, range_of_key, halves_at, complete_split, union_with, union_at}
use Rattle.model_partition.specs.MapRules.{assign_fault, assign_rule, renew_fault, renew_rule, has_numbers, begin_split_fault, begin_split_taken, begin_split_rule, is_split, complete_split_fault, complete_split_taken, complete_split_rule, begin_merge_fault, begin_merge_taken, begin_merge_rule, complete_merge_fault, complete_merge_rule, route_rule, called, told, map_rule}
use Rattle.model_partition.specs.Past.{table_notes}
use Rattle.model_partition.specs.Servers.{noted, told_moment}
use Rattle.model_partition.specs.Cluster.{IsUnmerged, Cluster, servers_perform, map_halted, after_map_rule, map_performs, map_performs_if, delivered_to, delivers, stops, restarts, shows_moment, cluster_after}
use Rattle.model_histories.specs.ServerRun.{ServerRun, ServerEvent, Takes, GivesUp, Checkpoints, Splits, Stops, Starts, Moment, Builds, run_of, after_event}
use Rattle.laws_streams.proofs.Choices.{contains_get}
use Rattle.laws_tables.proofs.Others.{others-append}
use Rattle.laws_server_runs.specs.Turns.{outcome_of, IsOfServers}
use Rattle.laws_server_runs.proofs.LaidRuns.{all_laid}
use Rattle.laws_server_runs.proofs.NotedRanges.{AreNoted, run_noted}
use Rattle.laws_server_runs.proofs.RunSteps.{IsAny, any_assigned, IsAnyPair, any_numbered, event_step}
use Rattle.laws_server_runs.proofs.Unmerged.{unmerged}
use Rattle.laws_clusters.specs.ServerEvents.{built_by, source_events, entry_events, built_events, packet_events, delivery_events, stop_events, start_events, server_events}
use Rattle.laws_clusters.proofs.StreamEvents.{happens_tables}

-- what a cluster shows of tables
abbrev pub notes_of : Cluster → List Note
notes_of c = table_notes c.stream_layer.notes

-- A split that is done: who asked for it knew the range's generation, and the map has its two halves.
pub record CompletesSplit (c : Cluster) (after : MapState) (range low high : ℕ) (key : List ℕ) : Type 0 where
  pub packet : Packet
  pub request : ReqNo
  pub entry : RangeEntry
  pub sent : Contains c.stream_layer.post packet
  pub asked : packet.body ≡ bodies.Map (maps.CompleteSplit range entry.generation request)
  pub found : range_at c.map.ranges range ≡ Some entry
  pub pending : entry.pending ≡ Some (pendings.Split key low high)
  pub left : after ≡ complete_split c.map range

-- what an event adds to what is shown
pub data Adds (x : ServerRun) (c : Cluster) (event : Event) (d : Cluster) : Type 0 where
  Quiet : (same : notes_of d ≡ notes_of c) → Adds x c event d
  OfServers : (shown : List TableNote) (of : AreNoted x shown) (is : d.stream_layer.notes ≡ noted c.stream_layer.notes shown) → Adds x c event d
  OfSplit : (number range low high : ℕ) (key : List ℕ) (delivery : event ≡ Deliver number) (split : CompletesSplit c d.map range low high key) (is : notes_of d ≡ notes_of c ++ notes.Split range low high key ∷ []) → Adds x c event d
  OfMerge : (left right into : ℕ) (is : notes_of d ≡ notes_of c ++ notes.Merged left right into ∷ []) → Adds x c event d

-- ---- rules of the map

module _ (c : Cluster) where
  -- what a rule of the map shows, which a packet is
  pub data RuleShows (p : Packet) (o : Outcome MapState) : Type 0 where
    Silent : (none : o.notes ≡ []) → RuleShows p o
    SplitDone : (range low high : ℕ) (key : List ℕ) (q : ReqNo) (entry : RangeEntry) (asked : p.body ≡ bodies.Map (maps.CompleteSplit range entry.generation q)) (found : range_at c.map.ranges range ≡ Some entry)
        (pending : entry.pending ≡ Some (pendings.Split key low high)) (left : o.after ≡ complete_split c.map range) (is : o.notes ≡ notes.Split range low high key ∷ []) → RuleShows p o
    MergeDone : (left right into : ℕ) (is : o.notes ≡ notes.Merged left right into ∷ []) → RuleShows p o

  abbrev m : MapState
  m = c.map

  pub assign_silent : (range server until : ℕ) (o : Option RangeEntry) → (assign_rule m range server until o).notes ≡ []
  assign_silent range server until None = refl
  assign_silent range server until (Some r) = if_elim (λ (o : Outcome MapState). o.notes ≡ []) (nat_lt (suc r.generation) (2 ^ 64)) _ _ (λ t. refl) (λ f. refl)

  pub renew_silent : (range server until : ℕ) (o : Option RangeEntry) → (renew_rule m range server until o).notes ≡ []
  renew_silent range server until None = refl
  renew_silent range server until (Some r) = refl

  called_silent : (p : Packet) (q : ReqNo) (fault : Option Refusal) (o : Outcome MapState) → o.notes ≡ [] → (called m p q fault o).notes ≡ []
  called_silent p q (Some refusal) o none = refl
  called_silent p q None o none = none

  route_silent : (p : Packet) (q : ReqNo) (o : Option RangeEntry) → (route_rule m p q o).notes ≡ []
  route_silent p q None = refl
  route_silent p q (Some r) = refl

  begin_split_silent : (to : ActorId) (q : ReqNo) (range : ℕ) (key : List ℕ) (pair : Option (ℕ × ℕ)) → (begin_split_taken m to q range key pair).notes ≡ []
  begin_split_silent to q range key (Some pair) = refl
  begin_split_silent to q range key None = if_elim (λ (o : Outcome MapState). o.notes ≡ []) (has_numbers m 2) _ _ (λ t. refl) (λ f. refl)

  begin_split_rule_silent : (to : ActorId) (q : ReqNo) (range : ℕ) (key : List ℕ) (o : Option RangeEntry) → (begin_split_rule m to q range key o).notes ≡ []
  begin_split_rule_silent to q range key None = refl
  begin_split_rule_silent to q range key (Some r) = begin_split_silent to q range key (halves_at key r.pending)

  begin_merge_silent : (to : ActorId) (q : ReqNo) (left right : ℕ) (into : Option ℕ) → (begin_merge_taken m to q left right into).notes ≡ []
  begin_merge_silent to q left right (Some into) = refl
  begin_merge_silent to q left right None = if_elim (λ (o : Outcome MapState). o.notes ≡ []) (has_numbers m 1) _ _ (λ t. refl) (λ f. refl)

  begin_merge_rule_silent : (to : ActorId) (q : ReqNo) (left right : ℕ) (l : Option RangeEntry) → (begin_merge_rule m to q left right l).notes ≡ []
  begin_merge_rule_silent to q left right None = refl
  begin_merge_rule_silent to q left right (Some l) = begin_merge_silent to q left right (union_with right l.pending)

  not_false : (b : Bool) → not b ≡ false → b ≡ true
  not_false true e = refl
  not_false false e = absurd cc

  complete_split_shows : (p : Packet) (range generation : ℕ) (q : ReqNo) → p.body ≡ bodies.Map (maps.CompleteSplit range generation q) → (o : Option RangeEntry) → range_at m.ranges range ≡ o →
      (fault : Option Refusal) → complete_split_fault generation o ≡ fault → RuleShows p (called m p q fault (complete_split_rule m p.from q range o))
  complete_split_shows p range generation q is o at (Some refusal) free = Silent refl
  complete_split_shows p range generation q is None at None free = Silent refl
  complete_split_shows p range generation q is (Some r) at None free = by_pending r.pending refl
    where
      same : r.generation ≡ generation
      same = eqb-true r.generation generation (and_parts (r.generation == generation) (is_split r.pending) (not_false (r.generation == generation && is_split r.pending) (none_met ((GenerationChanged, not (r.generation == generation && is_split r.pending)) ∷ []) free).0)).0

      by_pending : (pending : Option Pending) → r.pending ≡ pending → RuleShows p (complete_split_taken m p.from q range pending)
      by_pending None pending = Silent refl
      by_pending (Some (pendings.Merge right into)) pending = Silent refl
      by_pending (Some (pendings.Split key low high)) pending = SplitDone range low high key q r (is ∙ ap (λ g. bodies.Map (maps.CompleteSplit range g q)) (sym same)) at pending refl refl

  complete_merge_shows : (p : Packet) (q : ReqNo) (left right : ℕ) (into : Option ℕ) (fault : Option Refusal) → RuleShows p (called m p q fault (complete_merge_rule m p.from q left right into))
  complete_merge_shows p q left right into (Some refusal) = Silent refl
  complete_merge_shows p q left right None None = Silent refl
  complete_merge_shows p q left right (Some into) None = MergeDone left right into refl

  told_shows : (p : Packet) (body : MapBody) → p.body ≡ bodies.Map body → RuleShows p (told m p body)
  told_shows p (maps.Route key q) is = Silent (route_silent p q (range_of_key m.ranges key))
  told_shows p (maps.BeginSplit range generation key q) is =
      Silent (called_silent p q (begin_split_fault generation key (range_at m.ranges range)) _ (begin_split_rule_silent p.from q range key (range_at m.ranges range)))
  told_shows p (maps.CompleteSplit range generation q) is = complete_split_shows p range generation q is (range_at m.ranges range) refl (complete_split_fault generation (range_at m.ranges range)) refl
  told_shows p (maps.BeginMerge left a right b q) is =
      Silent (called_silent p q (begin_merge_fault a b (range_at m.ranges left) (range_at m.ranges right)) _ (begin_merge_rule_silent p.from q left right (range_at m.ranges left)))
  told_shows p (maps.CompleteMerge left a right b q) is =
      complete_merge_shows p q left right (union_at m.ranges left right) (complete_merge_fault a b (range_at m.ranges left) (range_at m.ranges right) (union_at m.ranges left right))
  told_shows p body is = Silent refl

  pub map_shows : (p : Packet) (body : Body) → p.body ≡ body → RuleShows p (map_rule m p body)
  map_shows p (bodies.Map body) is = told_shows p body is
  map_shows p body is = Silent refl

  -- ---- the map goes through a rule, or stops in it

  module _ (x : ServerRun) (event : Event) where
    abbrev To : Cluster → Type 0
    To d = Adds x c event d

    more_notes : (d : Cluster) (shown ns : List Note) → d.stream_layer.notes ≡ c.stream_layer.notes ++ shown → shown ≡ ns → notes_of d ≡ notes_of c ++ table_notes ns
    more_notes d shown ns is same = ap table_notes is ∙ others-append c.stream_layer.notes shown ∙ ap (λ l. notes_of c ++ table_notes l) same

    silent_adds : (o : Outcome MapState) → o.notes ≡ [] → To (map_performs c o)
    silent_adds o none =
        if_elim To (stops_in c.map_cell o.written) _ _
        (λ t. if_elim To (stands_in c.map_cell) _ _
        (λ s. nothing (map_halted (after_map_rule c (unsent o))) refl) (λ s. Quiet refl))
        (λ f. nothing (after_map_rule (record c { map_cell = burnt c.map_cell o.written }) o) refl)
      where
        nothing : (d : Cluster) → d.stream_layer.notes ≡ c.stream_layer.notes ++ o.notes → To d
        nothing d is = Quiet (more_notes d o.notes [] is none ∙ append-nil (notes_of c))

    silent_adds_if : (fault : Option Refusal) (o : Outcome MapState) → o.notes ≡ [] → To (map_performs_if c fault o)
    silent_adds_if (Some refusal) o none = Quiet refl
    silent_adds_if None o none = silent_adds o none

    map_adds : (number : ℕ) → event ≡ Deliver number → (p : Packet) → Contains c.stream_layer.post p → (o : Outcome MapState) → RuleShows p o → To (map_performs c o)
    map_adds number delivery p sent o shows =
        if_elim To (stops_in c.map_cell o.written) _ _
        (λ t. if_elim To (stands_in c.map_cell) _ _
        (λ s. shown (map_halted (after_map_rule c (unsent o))) refl refl shows) (λ s. Quiet refl))
        (λ f. shown (after_map_rule (record c { map_cell = burnt c.map_cell o.written }) o) refl refl shows)
      where
        shown : (d : Cluster) → d.map ≡ o.after → d.stream_layer.notes ≡ c.stream_layer.notes ++ o.notes → RuleShows p o → To d
        shown d same is (Silent none) = Quiet (more_notes d o.notes [] is none ∙ append-nil (notes_of c))
        shown d same is (SplitDone range low high key q entry asked found pending left so) =
            OfSplit number range low high key delivery (record { packet = p; request = q; entry = entry; sent = sent; asked = asked; found = found; pending = pending; left = same ∙ left })
            (more_notes d o.notes (notes.Split range low high key ∷ []) is so)
        shown d same is (MergeDone left right into so) = OfMerge left right into (more_notes d o.notes (notes.Merged left right into ∷ []) is so)

-- ---- events

-- what an event leaves of all servers
event_servers : (x : ServerRun) (event : ServerEvent) → IsOfServers event → (after_event x event).servers ≡ (outcome_of x.servers event).servers
event_servers x (Takes s p) is = refl
event_servers x (GivesUp s range pick) is = refl
event_servers x (Checkpoints s range combine) is = refl
event_servers x (Splits s range key) is = refl
event_servers x (Stops s call) is = refl
event_servers x (Starts s now batch) is = refl
event_servers x (Moment now) is = refl
event_servers x (Builds source range) is = absurd (is source range refl)

-- streams that are built leave the servers
module _ (batch count : ℕ) where
  sources_same : (range : ℕ) (sources : List Source) (coming : List ServerEvent) → (run_of batch count (source_events range sources ++ coming)).servers ≡ (run_of batch count coming).servers
  sources_same range [] coming = refl
  sources_same range (source ∷ []) coming = refl
  sources_same range (source ∷ other ∷ sources) coming = refl

  entry_same : (kind : StreamKind) (range : ℕ) (sources : List Source) (coming : List ServerEvent) → (run_of batch count (entry_events kind range sources ++ coming)).servers ≡ (run_of batch count coming).servers
  entry_same kinds.Metadata range sources coming = sources_same range sources coming
  entry_same kinds.Log range sources coming = refl
  entry_same kinds.RowData range sources coming = refl
  entry_same kinds.BlobData range sources coming = refl

  builds_same : (list : List Modify) (coming : List ServerEvent) → (run_of batch count (built_events list ++ coming)).servers ≡ (run_of batch count coming).servers
  builds_same [] coming = refl
  builds_same (m ∷ list) coming =
      let entries : List ServerEvent = entry_events m.stream.kind m.stream.range m.sources in
      ap (λ l. (run_of batch count l).servers) (append_assoc (built_events list) entries coming)
      ∙ builds_same list (entries ++ coming) ∙ entry_same m.stream.kind m.stream.range m.sources coming

module _ (batch count : ℕ) (c : Cluster) (coming : List ServerEvent) (same : c.servers ≡ (run_of batch count coming).servers) where
  abbrev x : ServerRun
  x = run_of batch count coming

  -- an event leaves the servers as what comes to them does, and adds so much to what is shown
  pub record Goes (event : Event) (d : Cluster) (more : List ServerEvent) : Type 0 where
    pub cells : d.servers ≡ (run_of batch count (more ++ coming)).servers
    pub adds : Adds x c event d

  rests : (event : Event) → Goes event c []
  rests event = record { cells = same; adds = Quiet refl }

  served : (event : Event) (e : ServerEvent) → IsOfServers e → Goes event (servers_perform c (outcome_of c.servers e)) (e ∷ [])
  served event e is = record {
    cells = ap (λ l. (outcome_of l e).servers) same ∙ sym (event_servers x e is);
    adds = OfServers (outcome_of c.servers e).notes
        (subst (λ l. AreNoted x (outcome_of l e).notes) (sym same)
        (run_noted x (all_laid batch count coming) (outcome_of x.servers e).notes (after_event x e) (event_step IsAny IsAnyPair x (unmerged batch count coming) e is (any_assigned e) (any_numbered e)))) refl;
  }

  layer : (event : Event) → Goes event (record c { stream_layer = happens c.stream_layer event }) []
  layer event = record { cells = same; adds = Quiet (happens_tables c.stream_layer event) }

  -- what the map does leaves the servers
  of_map : (event : Event) (d : Cluster) → d.servers ≡ c.servers → Adds x c event d → Goes event d []
  of_map event d as_before adds = record { cells = as_before ∙ same; adds = adds }

  map_cells : (o : Outcome MapState) → (map_performs c o).servers ≡ c.servers
  map_cells o = if_elim (λ (d : Cluster). d.servers ≡ c.servers) (stops_in c.map_cell o.written) _ _ (λ t. if_elim (λ (d : Cluster). d.servers ≡ c.servers) (stands_in c.map_cell) _ _ (λ s. refl) (λ s. refl)) (λ f. refl)

  map_cells_if : (fault : Option Refusal) (o : Outcome MapState) → (map_performs_if c fault o).servers ≡ c.servers
  map_cells_if (Some refusal) o = refl
  map_cells_if None o = map_cells o

  delivers_goes : (number : ℕ) (o : Option Packet) → slice_get c.stream_layer.post number ≡ o → Goes (Deliver number) (delivers c o) (delivery_events c o)
  delivers_goes number None at = rests (Deliver number)
  delivers_goes number (Some p) at = go p.to refl
    where
      layer_takes : (to : ActorId) → p.to ≡ to → Goes (Deliver number) (record c { stream_layer = delivered c.stream_layer p to }) []
      layer_takes to is =
          subst (λ z. Goes (Deliver number) (record c { stream_layer = z }) []) (ap (delivered_if c.stream_layer) at ∙ ap (delivered c.stream_layer p) is) (layer (Deliver number))

      go : (to : ActorId) → p.to ≡ to → Goes (Deliver number) (delivered_to c p to) (packet_events c to p)
      go (Server s) is = served (Deliver number) (Takes s p) (λ source range e. absurd cc)
      go Map is =
          if_elim (λ (d : Cluster). Goes (Deliver number) d []) c.map_cell.up _ _
          (λ up. of_map (Deliver number) _ (map_cells (map_rule c.map p p.body)) (map_adds c x (Deliver number) number refl p (contains_get c.stream_layer.post number p at) _ (map_shows c p p.body refl))) (λ up. rests (Deliver number))
      go (Node n) is = layer_takes (Node n) is
      go Manager is =
          let built : List Modify = built_by c.stream_layer p p.body in
          record { cells = same ∙ sym (builds_same batch count built coming); adds = (layer_takes Manager is).adds }
      go (User u) is = layer_takes (User u) is

  stops_go : (actor : ActorId) (call : ℕ) (keep : Bool) → Goes (Stop actor call keep) (stops c actor call keep) (stop_events actor call)
  stops_go (Server s) call keep = served (Stop (Server s) call keep) (Stops s call) (λ source range e. absurd cc)
  stops_go Map call keep =
      if_elim (λ (d : Cluster). Goes (Stop Map call keep) d []) c.map_cell.up _ _
      (λ up. if_elim (λ (d : Cluster). Goes (Stop Map call keep) d []) (call == 0) _ _ (λ z. of_map _ _ refl (Quiet refl)) (λ z. of_map _ _ refl (Quiet refl))) (λ up. rests (Stop Map call keep))
  stops_go (Node n) call keep = layer (Stop (Node n) call keep)
  stops_go Manager call keep = layer (Stop Manager call keep)
  stops_go (User u) call keep = layer (Stop (User u) call keep)

  restarts_go : (actor : ActorId) → Goes (Restart actor) (restarts c actor) (start_events c actor)
  restarts_go (Server s) = served (Restart (Server s)) (Starts s c.now c.batch) (λ source range e. absurd cc)
  restarts_go Map = if_elim (λ (d : Cluster). Goes (Restart Map) d []) c.map_cell.up _ _ (λ up. rests (Restart Map)) (λ up. of_map _ _ refl (Quiet refl))
  restarts_go (Node n) = layer (Restart (Node n))
  restarts_go Manager = layer (Restart Manager)
  restarts_go (User u) = layer (Restart (User u))

  moment_goes : (now : ℕ) → Goes (MomentTold now) (shows_moment c now) (server_events c (MomentTold now))
  moment_goes now = go (nat_lt now c.now)
    where
      go : (b : Bool) → Goes (MomentTold now) (if b then c else record c { now = now; servers = map (told_moment now) c.servers }) (if b then [] else Moment now ∷ [])
      go true = rests (MomentTold now)
      go false = record { cells = ap (map (told_moment now)) same; adds = Quiet refl }

  pub event_goes : (event : Event) → IsUnmerged event → Goes event (cluster_after c event) (server_events c event)
  event_goes (Submit user to body) unmerged = layer (Submit user to body)
  event_goes (Deliver number) unmerged = delivers_goes number (slice_get c.stream_layer.post number) refl
  event_goes (Stop actor call keep) unmerged = stops_go actor call keep
  event_goes (Restart actor) unmerged = restarts_go actor
  event_goes (Decide e) unmerged = layer (Decide e)
  event_goes (GiveUp server range pick) unmerged = served (GiveUp server range pick) (GivesUp server range pick) (λ source range e. absurd cc)
  event_goes (Assign range server until) unmerged =
      if_elim (λ (d : Cluster). Goes (Assign range server until) d []) c.map_cell.up _ _
      (λ up. of_map _ _ (map_cells_if (assign_fault server c.now (range_at c.map.ranges range)) _) (silent_adds_if c x _ (assign_fault server c.now (range_at c.map.ranges range)) _ (assign_silent c range server until (range_at c.map.ranges range))))
      (λ up. rests _)
  event_goes (Renew range server until) unmerged =
      if_elim (λ (d : Cluster). Goes (Renew range server until) d []) c.map_cell.up _ _
      (λ up. of_map _ _ (map_cells_if (renew_fault server (range_at c.map.ranges range)) _) (silent_adds_if c x _ (renew_fault server (range_at c.map.ranges range)) _ (renew_silent c range server until (range_at c.map.ranges range))))
      (λ up. rests _)
  event_goes (MomentTold now) unmerged = moment_goes now
  event_goes (Checkpoint server range combine) unmerged = served (Checkpoint server range combine) (Checkpoints server range combine) (λ source range e. absurd cc)
  event_goes (Split server range key) unmerged = served (Split server range key) (Splits server range key) (λ source range e. absurd cc)
  event_goes (Merge server left right) unmerged = absurd unmerged
