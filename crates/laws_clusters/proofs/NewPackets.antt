-- What an event of a cluster sends and which streams there are then: the manager alone says that a name is taken, and builds streams as it was asked.
use Rattle.std.proofs.Common.{◌≡◌, ◌⊎◌, ℕ, zero, suc, ◌^◌, Bool, not, ◌&&◌, ◌==◌, nat_lt, List, [], ◌∷◌, ◌++◌, Option, Some, None, is_none, slice_get, Contains, refl, sym, ap, ◌∙◌, subst, inl, inr, arith}
use Rattle.std.proofs.lemmas.Option.{same_Some}
use Rattle.std.proofs.lemmas.List.Elements.{Contains-append_cases}
use Rattle.wire.specs.declared.actor.ActorId.{ActorId}
use Rattle.wire.specs.declared.actor.ActorId.TheVariants.{Node, Manager, Map, Server, User}
use Rattle.wire.specs.declared.actor.ReqNo.{ReqNo}
use Rattle.wire.specs.declared.body.Body.{Body}
use Rattle.wire.specs.declared.body.Body.TheVariants as bodies
use Rattle.wire.specs.declared.body.MapBody.{MapBody}
use Rattle.wire.specs.declared.body.MapBody.TheVariants as maps
use Rattle.wire.specs.declared.packet.Packet.{Packet}
use Rattle.wire.specs.declared.refusal.Refusal.{Refusal}
use Rattle.wire.specs.declared.refusal.Refusal.TheVariants.{NotOwner, BadSplitKey, NotAdjacent, GenerationChanged}
use Rattle.wire.specs.declared.streams.StreamName.{StreamName}
use Rattle.streams.specs.Streams.{Stream, stream_of}
use Rattle.model_streams.specs.declared.event.Event.{Event}
use Rattle.model_streams.specs.declared.event.Event.TheVariants.{Submit, Deliver, Stop, Restart, Decide, GiveUp, Assign, Renew, Moment, Checkpoint, Split, Merge}
use Rattle.model_streams.specs.Outcome.{Outcome}
use Rattle.model_streams.specs.StreamSystem.{happens, stops_in, stands_in, delivered_if, delivered}
use Rattle.model_streams.proofs.Tests.{if_elim}
use Rattle.model_partition.specs.declared.pending.Pending.{Pending}
use Rattle.model_partition.specs.declared.pending.Pending.TheVariants as pendings
use Rattle.model_partition.specs.declared.range_entry.RangeEntry.{RangeEntry}
use Rattle.model_partition.specs.Map.{MapState, range_at, range_of_key, halves_at, is_split_key, union_with, union_at}
use Rattle.model_partition.specs.MapRules.{assign_fault, assign_rule, renew_fault, renew_rule, has_numbers, begin_split_fault, begin_split_taken, begin_split_rule, is_split, complete_split_fault, complete_split_taken, complete_split_rule, is_beside, is_same_holder, begin_merge_fault, begin_merge_taken, begin_merge_rule, complete_merge_fault, complete_merge_rule, route_rule, called, told, map_rule}
use Rattle.model_partition.specs.Servers.{ServersOutcome, server_takes, server_gives_up, server_checkpoints, server_splits, server_stops, server_starts}
use Rattle.model_partition.specs.Cluster.{IsUnmerged, Cluster, servers_perform, map_performs, map_performs_if, delivered_to, delivers, stops, restarts, cluster_after}
use Rattle.laws_servers.specs.Sending.{AllFromServers}
use Rattle.laws_servers.proofs.ServerSteps.{server_takes_shows, server_gives_up_tidy, server_checkpoints_tidy, server_splits_tidy, server_stops_still, server_starts_still}
use Rattle.laws_map.proofs.Knowing.{each_has}
use Rattle.laws_clusters.proofs.LayerPackets.{BodyFrom, IsCome, layer_step}
use Rattle.laws_clusters.proofs.NodeRefusals.{IsOther, met_other, BodyOther, AllOther}
use Rattle.laws_clusters.proofs.TakenNames.{Was}

-- ---- the map says no such thing

module _ (m : MapState) where
  abbrev Others : Outcome MapState → Type 0
  Others o = AllOther o.packets

  called_other : (p : Packet) (q : ReqNo) (fault : Option Refusal) (o : Outcome MapState) → ((why : Refusal) → fault ≡ Some why → IsOther why) → Others o → Others (called m p q fault o)
  called_other p q (Some why) o other taken = (other why refl, tt)
  called_other p q None o other taken = taken

  -- a range of another generation
  changed_other : (why : Refusal) → Some GenerationChanged ≡ Some why → IsOther why
  changed_other why is = subst IsOther (same_Some GenerationChanged why is) tt

  pub assign_other : (range server until : ℕ) (o : Option RangeEntry) → Others (assign_rule m range server until o)
  assign_other range server until None = tt
  assign_other range server until (Some x) = if_elim Others (nat_lt (suc x.generation) (2 ^ 64)) _ _ (λ t. (tt, tt)) (λ f. tt)

  pub renew_other : (range server until : ℕ) (o : Option RangeEntry) → Others (renew_rule m range server until o)
  renew_other range server until None = tt
  renew_other range server until (Some x) = (tt, tt)

  route_other : (p : Packet) (q : ReqNo) (o : Option RangeEntry) → Others (route_rule m p q o)
  route_other p q None = tt
  route_other p q (Some r) = (tt, tt)

  begin_split_other : (to : ActorId) (q : ReqNo) (range : ℕ) (key : List ℕ) (o : Option RangeEntry) → Others (begin_split_rule m to q range key o)
  begin_split_other to q range key None = tt
  begin_split_other to q range key (Some r) = by (halves_at key r.pending)
    where
      by : (pair : Option (ℕ × ℕ)) → Others (begin_split_taken m to q range key pair)
      by (Some pair) = (tt, tt)
      by None = if_elim Others (has_numbers m 2) _ _ (λ t. (tt, tt)) (λ f. tt)

  begin_fault_other : (generation : ℕ) (key : List ℕ) (o : Option RangeEntry) (why : Refusal) → begin_split_fault generation key o ≡ Some why → IsOther why
  begin_fault_other generation key None why is = changed_other why is
  begin_fault_other generation key (Some r) why is = met_other ((GenerationChanged, not (r.generation == generation)) ∷ (BadSplitKey, not (is_split_key r.keys key)) ∷ []) (tt, (tt, tt)) why is

  complete_split_other : (to : ActorId) (q : ReqNo) (range : ℕ) (o : Option RangeEntry) → Others (complete_split_rule m to q range o)
  complete_split_other to q range None = tt
  complete_split_other to q range (Some r) = by r.pending
    where
      by : (p : Option Pending) → Others (complete_split_taken m to q range p)
      by None = tt
      by (Some (pendings.Merge right into)) = tt
      by (Some (pendings.Split key low high)) = (tt, tt)

  complete_fault_other : (generation : ℕ) (o : Option RangeEntry) (why : Refusal) → complete_split_fault generation o ≡ Some why → IsOther why
  complete_fault_other generation None why is = changed_other why is
  complete_fault_other generation (Some r) why is = met_other ((GenerationChanged, not (r.generation == generation && is_split r.pending)) ∷ []) (tt, tt) why is

  begin_merge_other : (to : ActorId) (q : ReqNo) (left right : ℕ) (o : Option RangeEntry) → Others (begin_merge_rule m to q left right o)
  begin_merge_other to q left right None = tt
  begin_merge_other to q left right (Some l) = by (union_with right l.pending)
    where
      by : (into : Option ℕ) → Others (begin_merge_taken m to q left right into)
      by (Some into) = (tt, tt)
      by None = if_elim Others (has_numbers m 1) _ _ (λ t. (tt, tt)) (λ f. tt)

  merge_fault_other : (a b : ℕ) (l r : Option RangeEntry) (why : Refusal) → begin_merge_fault a b l r ≡ Some why → IsOther why
  merge_fault_other a b (Some l) (Some r) why is =
      met_other ((GenerationChanged, not (l.generation == a && r.generation == b)) ∷ (NotAdjacent, not (is_beside l.keys r.keys)) ∷ (NotOwner, not (is_same_holder l.holder r.holder)) ∷ []) (tt, (tt, (tt, tt))) why is
  merge_fault_other a b None r why is = changed_other why is
  merge_fault_other a b (Some l) None why is = changed_other why is

  complete_merge_other : (to : ActorId) (q : ReqNo) (left right : ℕ) (into : Option ℕ) → Others (complete_merge_rule m to q left right into)
  complete_merge_other to q left right None = tt
  complete_merge_other to q left right (Some into) = (tt, tt)

  merged_fault_other : (a b : ℕ) (l r : Option RangeEntry) (into : Option ℕ) (why : Refusal) → complete_merge_fault a b l r into ≡ Some why → IsOther why
  merged_fault_other a b (Some l) (Some r) into why is = met_other ((GenerationChanged, not (l.generation == a && r.generation == b)) ∷ (GenerationChanged, is_none into) ∷ []) (tt, (tt, tt)) why is
  merged_fault_other a b None r into why is = changed_other why is
  merged_fault_other a b (Some l) None into why is = changed_other why is

  told_other : (p : Packet) (body : MapBody) → Others (told m p body)
  told_other p (maps.Route key q) = route_other p q (range_of_key m.ranges key)
  told_other p (maps.BeginSplit range generation key q) =
      called_other p q (begin_split_fault generation key (range_at m.ranges range)) _ (begin_fault_other generation key (range_at m.ranges range)) (begin_split_other p.from q range key (range_at m.ranges range))
  told_other p (maps.CompleteSplit range generation q) =
      called_other p q (complete_split_fault generation (range_at m.ranges range)) _ (complete_fault_other generation (range_at m.ranges range)) (complete_split_other p.from q range (range_at m.ranges range))
  told_other p (maps.BeginMerge left a right b q) =
      called_other p q (begin_merge_fault a b (range_at m.ranges left) (range_at m.ranges right)) _ (merge_fault_other a b (range_at m.ranges left) (range_at m.ranges right)) (begin_merge_other p.from q left right (range_at m.ranges left))
  told_other p (maps.CompleteMerge left a right b q) =
      called_other p q (complete_merge_fault a b (range_at m.ranges left) (range_at m.ranges right) (union_at m.ranges left right)) _
      (merged_fault_other a b (range_at m.ranges left) (range_at m.ranges right) (union_at m.ranges left right)) (complete_merge_other p.from q left right (union_at m.ranges left right))
  told_other p body = tt

  pub map_other : (p : Packet) (body : Body) → Others (map_rule m p body)
  map_other p (bodies.Map body) = told_other p body
  map_other p body = tt

-- ---- what is sent

from_server : (packets : List Packet) → AllFromServers packets → (p : Packet) → Contains packets p → (s : ℕ) × (p.from ≡ Server s)
from_server [] all p (k, less, is) = absurd (omega (arith, less))
from_server (x ∷ packets) all p (zero, less, is) = (all.0.0, ap (λ (y : Packet). y.from) (sym is) ∙ all.0.1)
from_server (x ∷ packets) all p (suc k, less, is) = from_server packets all.1 p (k, omega (arith, less), is)

module _ (c : Cluster) where
  -- it is as the stream layer sends it, or of a server, or says nothing of names
  abbrev pub IsFresh : Packet → Type 0
  IsFresh p = BodyFrom c.stream_layer p.from p.to p.body ⊎ (((s : ℕ) × (p.from ≡ Server s)) ⊎ BodyOther p.body)

  pub record EventStep (d : Cluster) : Type 0 where
    pub sent : (p : Packet) → Contains d.stream_layer.post p → Contains c.stream_layer.post p ⊎ IsFresh p
    pub streams : (s : StreamName) (z : Stream) → stream_of d.stream_layer.catalog.stream s ≡ Some z → Was c.stream_layer.catalog.stream s ⊎ IsCome c.stream_layer d.stream_layer s

  abbrev post : List Packet
  post = c.stream_layer.post

  more : (d : Cluster) (packets : List Packet) → d.stream_layer.post ≡ post ++ packets → d.stream_layer.catalog.stream ≡ c.stream_layer.catalog.stream → ((p : Packet) → Contains packets p → IsFresh p) → EventStep d
  more d packets is same fresh = record {
    sent = λ p there. elim (Contains-append_cases post packets p (subst (λ ps. Contains ps p) is there)) [ inl old ↦ inl old | inr new ↦ inr (fresh p new) ];
    streams = λ s z at. inl (z, ap (λ x. stream_of x s) (sym same) ∙ at);
  }

  rests : (d : Cluster) → d.stream_layer.post ≡ post → d.stream_layer.catalog.stream ≡ c.stream_layer.catalog.stream → EventStep d
  rests d is same = record { sent = λ p there. inl (subst (λ ps. Contains ps p) is there); streams = λ s z at. inl (z, ap (λ x. stream_of x s) (sym same) ∙ at) }

  servers_step : (o : ServersOutcome) → AllFromServers o.packets → EventStep (servers_perform c o)
  servers_step o all = more (servers_perform c o) o.packets refl refl (λ p there. inr (inl (from_server o.packets all p there)))

  still_step : (o : ServersOutcome) → o.packets ≡ [] → EventStep (servers_perform c o)
  still_step o none = servers_step o (subst AllFromServers (sym none) tt)

  does_step : (o : Outcome MapState) → AllOther o.packets → EventStep (map_performs c o)
  does_step o other =
      if_elim EventStep (stops_in c.map_cell o.written) _ _
      (λ t. if_elim EventStep (stands_in c.map_cell) _ _ (λ s. more _ [] refl refl (λ p there. absurd (let less = there.1 in omega (arith, less)))) (λ s. rests _ refl refl))
      (λ f. more _ o.packets refl refl (λ p there. inr (inr (each_has (λ (x : Packet). BodyOther x.body) o.packets p other there))))

  does_if_step : (fault : Option Refusal) (o : Outcome MapState) → AllOther o.packets → EventStep (map_performs_if c fault o)
  does_if_step (Some refusal) o other = rests c refl refl
  does_if_step None o other = does_step o other

  happens_step : (event : Event) → EventStep (record c { stream_layer = happens c.stream_layer event })
  happens_step event = let l = layer_step c.stream_layer event in record {
    sent = λ p there. elim (l.sent p there) [ inl old ↦ inl old | inr new ↦ inr (inl new.1) ];
    streams = l.streams;
  }

  delivers_step : (number : ℕ) (o : Option Packet) → slice_get post number ≡ o → EventStep (delivers c o)
  delivers_step number None at = rests c refl refl
  delivers_step number (Some p) at = go p.to refl
    where
      layer_takes : (to : ActorId) → p.to ≡ to → EventStep (record c { stream_layer = delivered c.stream_layer p to })
      layer_takes to is = subst (λ z. EventStep (record c { stream_layer = z })) (ap (delivered_if c.stream_layer) at ∙ ap (delivered c.stream_layer p) is) (happens_step (Deliver number))

      go : (to : ActorId) → p.to ≡ to → EventStep (delivered_to c p to)
      go (Server s) is = servers_step (server_takes c.servers s p) (server_takes_shows c.servers s p).0
      go Map is = if_elim EventStep c.map_cell.up _ _ (λ up. does_step (map_rule c.map p p.body) (map_other c.map p p.body)) (λ up. rests c refl refl)
      go (Node n) is = layer_takes (Node n) is
      go Manager is = layer_takes Manager is
      go (User u) is = layer_takes (User u) is

  stops_step : (actor : ActorId) (call : ℕ) (keep : Bool) → EventStep (stops c actor call keep)
  stops_step (Server s) call keep = still_step (server_stops c.servers s call) (server_stops_still c.servers s call).0
  stops_step Map call keep = if_elim EventStep c.map_cell.up _ _ (λ up. if_elim EventStep (call == 0) _ _ (λ z. rests _ refl refl) (λ z. rests _ refl refl)) (λ up. rests c refl refl)
  stops_step (Node n) call keep = happens_step (Stop (Node n) call keep)
  stops_step Manager call keep = happens_step (Stop Manager call keep)
  stops_step (User u) call keep = happens_step (Stop (User u) call keep)

  restarts_step : (actor : ActorId) → EventStep (restarts c actor)
  restarts_step (Server s) = still_step (server_starts c.servers s c.now c.batch) (server_starts_still c.servers s c.now c.batch).0
  restarts_step Map = if_elim EventStep c.map_cell.up _ _ (λ up. rests c refl refl) (λ up. rests _ refl refl)
  restarts_step (Node n) = happens_step (Restart (Node n))
  restarts_step Manager = happens_step (Restart Manager)
  restarts_step (User u) = happens_step (Restart (User u))

  pub event_step : (event : Event) → IsUnmerged event → EventStep (cluster_after c event)
  event_step (Submit user to body) is = happens_step (Submit user to body)
  event_step (Deliver number) is = delivers_step number (slice_get post number) refl
  event_step (Stop actor call keep) is = stops_step actor call keep
  event_step (Restart actor) is = restarts_step actor
  event_step (Decide e) is = happens_step (Decide e)
  event_step (GiveUp server range pick) is = servers_step (server_gives_up c.servers server range pick) (server_gives_up_tidy c.servers server range pick).0
  event_step (Assign range server until) is =
      if_elim EventStep c.map_cell.up _ _ (λ up. does_if_step (assign_fault server c.now (range_at c.map.ranges range)) (assign_rule c.map range server until (range_at c.map.ranges range)) (assign_other c.map range server until (range_at c.map.ranges range))) (λ up. rests c refl refl)
  event_step (Renew range server until) is =
      if_elim EventStep c.map_cell.up _ _ (λ up. does_if_step (renew_fault server (range_at c.map.ranges range)) (renew_rule c.map range server until (range_at c.map.ranges range)) (renew_other c.map range server until (range_at c.map.ranges range))) (λ up. rests c refl refl)
  event_step (Moment now) is = if_elim EventStep (nat_lt now c.now) _ _ (λ back. rests c refl refl) (λ on. rests _ refl refl)
  event_step (Checkpoint server range combine) is = servers_step (server_checkpoints c.servers server range combine) (server_checkpoints_tidy c.servers server range combine).0
  event_step (Split server range key) is = servers_step (server_splits c.servers server range key) (server_splits_tidy c.servers server range key).0
  event_step (Merge server left right) is = absurd is
