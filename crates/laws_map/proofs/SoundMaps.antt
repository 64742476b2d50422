-- In a run the map stays sound.
use Rattle.std.proofs.Common.{◌≡◌, ℕ, suc, ◌^◌, Bool, true, false, not, ◌&&◌, ◌==◌, nat_lt, List, [], ◌∷◌, Option, Some, None, is_none, is_some, slice_get, refl, ap, ◌∙◌}
use Rattle.wire.specs.declared.actor.ActorId.{ActorId}
use Rattle.wire.specs.declared.actor.ActorId.TheVariants.{Node, Manager, Map, Server, User}
use Rattle.wire.specs.declared.actor.ReqNo.{ReqNo}
use Rattle.wire.specs.declared.body.Body.{Body}
use Rattle.wire.specs.declared.body.Body.TheVariants as bodies
use Rattle.wire.specs.declared.body.MapBody.{MapBody}
use Rattle.wire.specs.declared.body.MapBody.TheVariants as maps
use Rattle.wire.specs.declared.packet.Packet.{Packet}
use Rattle.wire.specs.declared.refusal.Refusal.{Refusal}
use Rattle.wire.specs.declared.refusal.Refusal.TheVariants.{NotOwner, BadSplitKey, NotAdjacent, GenerationChanged}
use Rattle.model_streams.specs.declared.event.Event.{Event}
use Rattle.model_streams.specs.declared.event.Event.TheVariants.{Submit, Deliver, Stop, Restart, Decide, GiveUp, Assign, Renew, Moment, Checkpoint, Split, Merge}
use Rattle.model_streams.specs.Outcome.{Outcome}
use Rattle.model_streams.specs.StreamSystem.{stops_in, stands_in}
use Rattle.model_streams.proofs.Tests.{if_elim, none_met}
use Rattle.model_partition.specs.declared.map_record.MapRecord.TheVariants as records
use Rattle.model_partition.specs.declared.pending.Pending.{Pending}
use Rattle.model_partition.specs.declared.pending.Pending.TheVariants as pendings
use Rattle.model_partition.specs.declared.range_entry.RangeEntry.{RangeEntry}
use Rattle.model_partition.specs.Map.{MapState, range_at, range_of_key, is_split_key, halves_at, union_with, union_at, first_map}
use Rattle.model_partition.specs.MapRules.{is_holder, assign_fault, assign_rule, renew_fault, renew_rule, has_numbers, begin_split_fault, begin_split_taken, begin_split_rule, is_split, complete_split_fault, complete_split_taken, complete_split_rule, is_beside, is_same_holder, begin_merge_fault, begin_merge_taken, begin_merge_rule, complete_merge_fault, complete_merge_rule, route_rule, called, told, map_rule}
use Rattle.model_partition.specs.Partition.{IsSound}
use Rattle.model_partition.specs.Replay.{may_assign, may_renew, may_begin_split, may_complete_split, may_begin_merge}
use Rattle.model_partition.specs.Cluster.{Cluster, map_performs, map_performs_if, delivered_to, delivers, stops, restarts, cluster_after, cluster_after_all, first_cluster}
use Rattle.model_partition.proofs.Replaying.{after_sound, first_sound}

not_false : (b : Bool) → not b ≡ false → b ≡ true
not_false true e = refl
not_false false e = absurd cc

module _ (m : MapState) (s : IsSound m) where
  -- what a rule leaves is sound
  abbrev pub Sound : Outcome MapState → Type 0
  Sound o = IsSound o.after

  called_sound : (p : Packet) (q : ReqNo) (fault : Option Refusal) (o : Outcome MapState) → (fault ≡ None → Sound o) → Sound (called m p q fault o)
  called_sound p q (Some refusal) o taken = s
  called_sound p q None o taken = taken refl

  pub assign_sound : (range server until : ℕ) (o : Option RangeEntry) → range_at m.ranges range ≡ o → Sound (assign_rule m range server until o)
  assign_sound range server until None at = s
  assign_sound range server until (Some x) at =
      if_elim Sound (nat_lt (suc x.generation) (2 ^ 64)) _ _ (λ t. after_sound m (records.Assign range server until) (ap may_assign at ∙ t) s) (λ f. s)

  held_by : (h : Option ℕ) (server : ℕ) → not (is_holder h server) ≡ false → is_some h ≡ true
  held_by None server free = absurd cc
  held_by (Some h) server free = refl

  pub renew_sound : (range server until : ℕ) (o : Option RangeEntry) → range_at m.ranges range ≡ o → renew_fault server o ≡ None → Sound (renew_rule m range server until o)
  renew_sound range server until None at free = s
  renew_sound range server until (Some x) at free =
      after_sound m (records.Renew range until) (ap may_renew at ∙ held_by x.holder server (none_met ((NotOwner, not (is_holder x.holder server)) ∷ []) free).0) s

  route_sound : (p : Packet) (q : ReqNo) (o : Option RangeEntry) → Sound (route_rule m p q o)
  route_sound p q None = s
  route_sound p q (Some r) = s

  begin_split_sound : (to : ActorId) (q : ReqNo) (range : ℕ) (key : List ℕ) (r : RangeEntry) → range_at m.ranges range ≡ Some r → is_split_key r.keys key ≡ true → (pair : Option (ℕ × ℕ)) → halves_at key r.pending ≡ pair →
      Sound (begin_split_taken m to q range key pair)
  begin_split_sound to q range key r at splits (Some pair) is = s
  begin_split_sound to q range key r at splits None is = if_elim Sound (has_numbers m 2) _ _ (λ t. after_sound m (records.BeginSplit range key) (fits t) s) (λ f. s)
    where
      fits : has_numbers m 2 ≡ true → (may_begin_split key (range_at m.ranges range) && has_numbers m 2) ≡ true
      fits t = (λ i. may_begin_split key (at i) && t i) ∙ (λ i. (splits i && is_none (is i)) && true)

  begin_split_rule_sound : (to : ActorId) (q : ReqNo) (range generation : ℕ) (key : List ℕ) (o : Option RangeEntry) → range_at m.ranges range ≡ o → begin_split_fault generation key o ≡ None → Sound (begin_split_rule m to q range key o)
  begin_split_rule_sound to q range generation key None at free = s
  begin_split_rule_sound to q range generation key (Some r) at free =
      begin_split_sound to q range key r at
      (not_false (is_split_key r.keys key) (none_met ((GenerationChanged, not (r.generation == generation)) ∷ (BadSplitKey, not (is_split_key r.keys key)) ∷ []) free).1.0) (halves_at key r.pending) refl

  complete_split_sound : (to : ActorId) (q : ReqNo) (range : ℕ) (o : Option RangeEntry) → range_at m.ranges range ≡ o → Sound (complete_split_rule m to q range o)
  complete_split_sound to q range None at = s
  complete_split_sound to q range (Some r) at = by_pending r.pending refl
    where
      by_pending : (p : Option Pending) → r.pending ≡ p → Sound (complete_split_taken m to q range p)
      by_pending None is = s
      by_pending (Some (pendings.Merge right into)) is = s
      by_pending (Some (pendings.Split key low high)) is = after_sound m (records.CompleteSplit range) (ap may_complete_split at ∙ ap is_split is) s

  begin_merge_sound : (to : ActorId) (q : ReqNo) (left right : ℕ) (l r : RangeEntry) → range_at m.ranges left ≡ Some l → range_at m.ranges right ≡ Some r → is_beside l.keys r.keys ≡ true → is_same_holder l.holder r.holder ≡ true →
      (into : Option ℕ) → union_with right l.pending ≡ into → Sound (begin_merge_taken m to q left right into)
  begin_merge_sound to q left right l r at there beside same (Some into) is = s
  begin_merge_sound to q left right l r at there beside same None is = if_elim Sound (has_numbers m 1) _ _ (λ t. after_sound m (records.BeginMerge left right) (fits t) s) (λ f. s)
    where
      fits : has_numbers m 1 ≡ true → (may_begin_merge right (range_at m.ranges left) (range_at m.ranges right) && has_numbers m 1) ≡ true
      fits t = (λ i. may_begin_merge right (at i) (there i) && t i) ∙ (λ i. (beside i && same i && is_none (is i)) && true)

  begin_merge_rule_sound : (to : ActorId) (q : ReqNo) (left a right b : ℕ) (l r : Option RangeEntry) → range_at m.ranges left ≡ l → range_at m.ranges right ≡ r → begin_merge_fault a b l r ≡ None → Sound (begin_merge_rule m to q left right l)
  begin_merge_rule_sound to q left a right b None r at there free = s
  begin_merge_rule_sound to q left a right b (Some l) None at there free = absurd cc
  begin_merge_rule_sound to q left a right b (Some l) (Some r) at there free =
      let tests = none_met ((GenerationChanged, not (l.generation == a && r.generation == b)) ∷ (NotAdjacent, not (is_beside l.keys r.keys)) ∷ (NotOwner, not (is_same_holder l.holder r.holder)) ∷ []) free in
      begin_merge_sound to q left right l r at there (not_false (is_beside l.keys r.keys) tests.1.0) (not_false (is_same_holder l.holder r.holder) tests.1.1.0) (union_with right l.pending) refl

  complete_merge_sound : (to : ActorId) (q : ReqNo) (left right : ℕ) (into : Option ℕ) → union_at m.ranges left right ≡ into → Sound (complete_merge_rule m to q left right into)
  complete_merge_sound to q left right None is = s
  complete_merge_sound to q left right (Some into) is = after_sound m (records.CompleteMerge left right) (ap is_some is) s

  told_sound : (p : Packet) (body : MapBody) → Sound (told m p body)
  told_sound p (maps.Route key q) = route_sound p q (range_of_key m.ranges key)
  told_sound p (maps.BeginSplit range generation key q) =
      called_sound p q (begin_split_fault generation key (range_at m.ranges range)) (begin_split_rule m p.from q range key (range_at m.ranges range))
      (λ free. begin_split_rule_sound p.from q range generation key (range_at m.ranges range) refl free)
  told_sound p (maps.CompleteSplit range generation q) =
      called_sound p q (complete_split_fault generation (range_at m.ranges range)) (complete_split_rule m p.from q range (range_at m.ranges range))
      (λ free. complete_split_sound p.from q range (range_at m.ranges range) refl)
  told_sound p (maps.BeginMerge left a right b q) =
      called_sound p q (begin_merge_fault a b (range_at m.ranges left) (range_at m.ranges right)) (begin_merge_rule m p.from q left right (range_at m.ranges left))
      (λ free. begin_merge_rule_sound p.from q left a right b (range_at m.ranges left) (range_at m.ranges right) refl refl free)
  told_sound p (maps.CompleteMerge left a right b q) =
      called_sound p q (complete_merge_fault a b (range_at m.ranges left) (range_at m.ranges right) (union_at m.ranges left right)) (complete_merge_rule m p.from q left right (union_at m.ranges left right))
      (λ free. complete_merge_sound p.from q left right (union_at m.ranges left right) refl)
  told_sound p body = s

  pub map_rule_sound : (p : Packet) (body : Body) → Sound (map_rule m p body)
  map_rule_sound p (bodies.Map body) = told_sound p body
  map_rule_sound p body = s

-- ---- events

-- Of what the map was before an event it is so of what it is after it, where it is so of what its rule leaves.
module _ (P : MapState → Type 0) (c : Cluster) (p : P c.map) where
  abbrev After : Cluster → Type 0
  After d = P d.map

  -- what the rule of the map leaves, which an event is
  abbrev pub RuleLeaves : Event → Type 0
  RuleLeaves (Deliver number) = (packet : Packet) → slice_get c.stream_layer.post number ≡ Some packet → P (map_rule c.map packet packet.body).after
  RuleLeaves (Assign range server until) = P (assign_rule c.map range server until (range_at c.map.ranges range)).after
  RuleLeaves (Renew range server until) = renew_fault server (range_at c.map.ranges range) ≡ None → P (renew_rule c.map range server until (range_at c.map.ranges range)).after
  RuleLeaves event = Unit {0}

  does_leave : (o : Outcome MapState) → P o.after → After (map_performs c o)
  does_leave o after = if_elim After (stops_in c.map_cell o.written) _ _ (λ t. if_elim After (stands_in c.map_cell) _ _ (λ z. after) (λ z. p)) (λ f. after)

  does_if_leave : (fault : Option Refusal) (o : Outcome MapState) → (fault ≡ None → P o.after) → After (map_performs_if c fault o)
  does_if_leave (Some refusal) o after = p
  does_if_leave None o after = does_leave o (after refl)

  delivers_leave : (number : ℕ) → RuleLeaves (Deliver number) → (o : Option Packet) → slice_get c.stream_layer.post number ≡ o → After (delivers c o)
  delivers_leave number rule None at = p
  delivers_leave number rule (Some packet) at = go packet.to
    where
      go : (to : ActorId) → After (delivered_to c packet to)
      go Map = if_elim After c.map_cell.up _ _ (λ up. does_leave _ (rule packet at)) (λ up. p)
      go (Server n) = p
      go (Node n) = p
      go Manager = p
      go (User u) = p

  stops_leave : (actor : ActorId) (call : ℕ) (keep : Bool) → After (stops c actor call keep)
  stops_leave Map call keep = if_elim After c.map_cell.up _ _ (λ up. if_elim After (call == 0) _ _ (λ z. p) (λ z. p)) (λ up. p)
  stops_leave (Server n) call keep = p
  stops_leave (Node n) call keep = p
  stops_leave Manager call keep = p
  stops_leave (User u) call keep = p

  restarts_leave : (actor : ActorId) → After (restarts c actor)
  restarts_leave Map = if_elim After c.map_cell.up _ _ (λ up. p) (λ up. p)
  restarts_leave (Server n) = p
  restarts_leave (Node n) = p
  restarts_leave Manager = p
  restarts_leave (User u) = p

  pub event_leaves : (event : Event) → RuleLeaves event → After (cluster_after c event)
  event_leaves (Deliver number) rule = delivers_leave number rule (slice_get c.stream_layer.post number) refl
  event_leaves (Stop actor call keep) rule = stops_leave actor call keep
  event_leaves (Restart actor) rule = restarts_leave actor
  event_leaves (Assign range server until) rule =
      if_elim After c.map_cell.up _ _ (λ up. does_if_leave (assign_fault server c.now (range_at c.map.ranges range)) _ (λ free. rule)) (λ up. p)
  event_leaves (Renew range server until) rule =
      if_elim After c.map_cell.up _ _ (λ up. does_if_leave (renew_fault server (range_at c.map.ranges range)) _ rule) (λ up. p)
  event_leaves (Moment now) rule = if_elim After (nat_lt now c.now) _ _ (λ t. p) (λ f. p)
  event_leaves (GiveUp server range pick) rule = p
  event_leaves (Checkpoint server range combine) rule = p
  event_leaves (Split server range key) rule = p
  event_leaves (Merge server left right) rule = p
  event_leaves (Submit user to body) rule = p
  event_leaves (Decide e) rule = p

sound_leaves : (c : Cluster) (s : IsSound c.map) (event : Event) → RuleLeaves IsSound c s event
sound_leaves c s (Deliver number) = λ packet at. map_rule_sound c.map s packet packet.body
sound_leaves c s (Assign range server until) = assign_sound c.map s range server until (range_at c.map.ranges range) refl
sound_leaves c s (Renew range server until) = renew_sound c.map s range server until (range_at c.map.ranges range) refl
sound_leaves c s (Stop actor call keep) = tt
sound_leaves c s (Restart actor) = tt
sound_leaves c s (Moment now) = tt
sound_leaves c s (GiveUp server range pick) = tt
sound_leaves c s (Checkpoint server range combine) = tt
sound_leaves c s (Split server range key) = tt
sound_leaves c s (Merge server left right) = tt
sound_leaves c s (Submit user to body) = tt
sound_leaves c s (Decide e) = tt

pub event_sound : (c : Cluster) (event : Event) → IsSound c.map → IsSound (cluster_after c event).map
event_sound c event s = event_leaves IsSound c s event (sound_leaves c s event)

pub first_is_sound : IsSound first_map
first_is_sound = first_sound

all_sound : (events : List Event) (c : Cluster) → IsSound c.map → IsSound (cluster_after_all c events).map
all_sound [] c s = s
all_sound (event ∷ events) c s = all_sound events (cluster_after c event) (event_sound c event s)

-- In every run the map's ranges have each key once, and no number is that of two ranges, nor of two that are to come, nor of one of each.
pub run_is_sound : (nodes servers target batch : ℕ) (events : List Event) → IsSound (cluster_after_all (first_cluster nodes servers target batch) events).map
run_is_sound nodes servers target batch events = all_sound events (first_cluster nodes servers target batch) first_is_sound
