-- What the stream layer and the map send: the manager tells the streams of a range to who asked for them, and raises their fences with that;
-- and nobody there asks to open a range or to split one.
use Rattle.std.proofs.Common.{◌≡◌, ◌⊎◌, ℕ, suc, ◌^◌, ◌<◌, Bool, true, not, ◌||◌, ◌==◌, nat_lt, List, [], ◌∷◌, ◌++◌, Option, Some, None, slice_get, Contains, refl, sym, subst, inl, inr, arith, eq-eqb}
use Rattle.std.proofs.lemmas.Bool.{and_parts, ltb-true, not-false}
use Rattle.std.proofs.lemmas.List.Elements.{Contains-append_cases}
use Rattle.wire.specs.declared.actor.ActorId.{ActorId}
use Rattle.wire.specs.declared.actor.ActorId.TheVariants.{Node, Manager, Map, Server, User}
use Rattle.wire.specs.declared.actor.ReqNo.{ReqNo}
use Rattle.wire.specs.declared.actor.ReqNo.TheVariants as requests
use Rattle.wire.specs.declared.body.MapBody.{MapBody}
use Rattle.wire.specs.declared.body.MapBody.TheVariants as maps
use Rattle.wire.specs.declared.body.StreamBody.{StreamBody}
use Rattle.wire.specs.declared.body.StreamBody.TheVariants as streams
use Rattle.wire.specs.declared.body.Body.{Body}
use Rattle.wire.specs.declared.body.Body.TheVariants as bodies
use Rattle.wire.specs.declared.note.Note.{Note}
use Rattle.wire.specs.declared.packet.Packet.{Packet}
use Rattle.wire.specs.declared.refusal.Refusal.{Refusal}
use Rattle.wire.specs.declared.streams.StreamKind.TheVariants.{Metadata}
use Rattle.wire.specs.declared.streams.StreamLists.{StreamLists}
use Rattle.streams.specs.Streams.{Stream, Streams, passes, has_four, fenced_at, opened}
use Rattle.model_streams.specs.declared.event.Event.{Event}
use Rattle.model_streams.specs.declared.event.Event.TheVariants.{Submit, Deliver, Stop, Restart, Decide, GiveUp, Assign, Renew, Moment, Checkpoint, Split, Merge}
use Rattle.model_streams.specs.Manager as catalog
use Rattle.model_streams.specs.Manager.{Catalog}
use Rattle.model_streams.specs.Node as table
use Rattle.model_streams.specs.Node.{Replica}
use Rattle.model_streams.specs.Outcome.{Outcome, packet, or_refused}
use Rattle.model_streams.specs.StreamSystem.{StreamSystem, Happens, stops_in, stands_in, node_halted, node_performs, manager_halted, manager_performs, sent_more, delivered, delivered_if, is_request, node_stops, manager_stops, stop, is_present, restart, happens}
use Rattle.model_streams.proofs.Tests.{if_elim, none_met}
use Rattle.model_partition.specs.declared.pending.Pending.{Pending}
use Rattle.model_partition.specs.declared.pending.Pending.TheVariants as pendings
use Rattle.model_partition.specs.declared.range_entry.RangeEntry.{RangeEntry}
use Rattle.model_partition.specs.Map.{MapState, range_at, range_of_key, halves_at, union_with, union_at}
use Rattle.model_partition.specs.MapRules.{assign_rule, renew_rule, has_numbers, begin_split_fault, begin_split_taken, begin_split_rule, complete_split_fault, complete_split_taken, complete_split_rule, begin_merge_fault, begin_merge_taken, begin_merge_rule, complete_merge_fault, complete_merge_rule, route_rule, called, told, map_rule}
use Rattle.laws_streams.specs.Fences.{FencesRise}
use Rattle.laws_streams.proofs.Choices.{each-contains, contains_get, contains_pushed}
use Rattle.laws_streams.proofs.ManagerAnswers as manager
use Rattle.laws_streams.proofs.NodeAnswers as node
use Rattle.laws_streams.proofs.DecisionAnswers as decision
use Rattle.laws_streams.proofs.PacketSources.{moved_gains}
use Rattle.laws_streams.proofs.RisingFences.{all_passed, run_rises}
use Rattle.laws_map.specs.Openings.{AreQuiet, IsQuiet, IsFenced}

-- ---- an opening

there_is : (test : Stream → Bool) (o : Option Stream) → passes test o ≡ true → (x : Stream) × (o ≡ Some x)
there_is test None t = absurd cc
there_is test (Some x) t = (x, refl)

has_first : (ss : Streams) (range : ℕ) → has_four ss range ≡ true → (x : Stream) × (ss range 0 ≡ Some x)
has_first ss range t = there_is (λ x. true) (ss range 0) (and_parts (passes (λ x. true) (ss range 0)) _ t).0

-- the first stream of the range is there, and its fence is lower
pub record IsLower (b : Catalog) (range generation : ℕ) : Type 0 where
  pub stream : Stream
  pub there : b.stream range 0 ≡ Some stream
  pub fence : stream.fence < generation

lower : (b : Catalog) (p : Packet) (range generation : ℕ) → catalog.open_refusal b p range generation ≡ None → IsLower b range generation
lower b p range generation none =
    let met = none_met (catalog.open_tests b p range generation) none in
    let (x, is) = has_first b.stream range (not-false _ met.1.0) in
    record { stream = x; there = is; fence = ltb-true x.fence generation (all_passed (λ y. nat_lt y.fence generation) b.stream range Metadata x (not-false _ met.1.1.0) is) }

first_opened : (ss : Streams) (range generation : ℕ) (x : Stream) → ss range 0 ≡ Some x → (y : Stream) × (opened ss range generation range 0 ≡ Some y) × (y.fence ≡ generation)
first_opened ss range generation x is =
    if_elim (λ o. (y : Stream) × (o ≡ Some y) × (y.fence ≡ generation)) (range == range) (fenced_at generation (ss range 0)) (ss range 0)
    (λ t. rw is (record x { fence = generation }, refl, refl))
    (λ f. absurd (let t = eq-eqb range range refl in cc))

fenced : (b : Catalog) (p : Packet) (range generation : ℕ) (q : ReqNo) → p.body ≡ bodies.Stream (streams.OpenStreams range generation q) → catalog.open_refusal b p range generation ≡ None →
    IsFenced (catalog.manager_rule b p p.body).after range generation
fenced b p range generation q is none =
    let l = lower b p range generation none in
    let (y, there, same) = first_opened b.stream range generation l.stream l.there in
    let now : IsFenced (catalog.open_taken b p range generation q).after range generation = record { stream = y; there = there; fence = omega (arith, same) } in
    let by : IsFenced (catalog.open_rule b p range generation q).after range generation =
    subst (λ x. IsFenced (or_refused b Manager p q x (catalog.open_taken b p range generation q)).after range generation) (sym none) now in
    subst (λ body. IsFenced (catalog.manager_rule b p body).after range generation) (sym is) by

-- ---- what an event of the stream layer sends

-- with this packet to the manager, the streams of a range are told by that one, and their fences rise from below the generation to it
pub record IsOpened (w v : StreamSystem) (taken p : Packet) : Type 0 where
  pub range : ℕ
  pub generation : ℕ
  pub request : ReqNo
  pub lists : StreamLists
  pub is : p.body ≡ bodies.Stream (streams.Opened request lists)
  pub sent : Contains w.post taken
  pub asked : taken.body ≡ bodies.Stream (streams.OpenStreams range generation request)
  pub lower : IsLower w.catalog range generation
  pub fenced : IsFenced v.catalog range generation

-- what an event of the stream layer leaves: all that was sent, beside quiet packets and streams that are told for one packet; and no fence falls
pub record Layered (w v : StreamSystem) : Type 0 where
  pub post : (p : Packet) → Contains w.post p → Contains v.post p
  pub taken : Packet
  pub told : (p : Packet) → Contains v.post p → Contains w.post p ⊎ (IsQuiet p.body ⊎ IsOpened w v taken p)
  pub rises : FencesRise w v

request_stream : (body : StreamBody) → is_request (bodies.Stream body) ≡ true → IsQuiet (bodies.Stream body)
request_stream (streams.OpenStreams range generation q) is = absurd cc
request_stream (streams.Opened q lists) is = absurd cc
request_stream body is = tt

request_map : (body : MapBody) → is_request (bodies.Map body) ≡ true → IsQuiet (bodies.Map body)
request_map (maps.BeginSplit range generation key q) is = absurd cc
request_map body is = tt

request_quiet : (body : Body) → is_request body ≡ true → IsQuiet body
request_quiet (bodies.Stream body) is = request_stream body is
request_quiet (bodies.Map body) is = request_map body is
request_quiet body is = tt

node_quiet : (s : Option Replica) (k : ℕ) (taken : Packet) (notes : List Note) (to : ActorId) (body : Body) → node.BodyTells s k taken notes to body → IsQuiet body
node_quiet s k taken notes to (bodies.Stream body) tells = absurd tells
node_quiet s k taken notes to (bodies.Map body) tells = absurd tells
node_quiet s k taken notes to body tells = tt

decision_quiet : (b : Catalog) (e : ℕ) (after : Catalog) (to : ActorId) (body : Body) → decision.BodyTells b e after to body → IsQuiet body
decision_quiet b e after to (bodies.Stream body) tells = absurd tells
decision_quiet b e after to (bodies.Map body) tells = absurd tells
decision_quiet b e after to body tells = tt

-- what the manager tells is quiet, or comes from an opening
abbrev FromManager : Catalog → Packet → ActorId → Body → Type 0
FromManager b taken to body = IsQuiet body ⊎ ((q : ReqNo) × (lists : StreamLists) × (body ≡ bodies.Stream (streams.Opened q lists)) × manager.FromOpening b taken to q lists)

manager_stream : (b : Catalog) (taken : Packet) (to : ActorId) (body : StreamBody) → manager.StreamTells b taken to body → FromManager b taken to (bodies.Stream body)
manager_stream b taken to (streams.OpenStreams range generation q) tells = absurd tells
manager_stream b taken to (streams.Opened q lists) tells = inr (q, lists, refl, tells)
manager_stream b taken to body tells = inl tt

manager_body : (b : Catalog) (taken : Packet) (to : ActorId) (body : Body) → manager.BodyTells b taken to body → FromManager b taken to body
manager_body b taken to (bodies.Stream body) tells = manager_stream b taken to body tells
manager_body b taken to (bodies.Map body) tells = absurd tells
manager_body b taken to body tells = inl tt

module _ (w : StreamSystem) where
  abbrev Told : Packet → StreamSystem → Type 0
  Told taken v = (p : Packet) → Contains v.post p → Contains w.post p ⊎ (IsQuiet p.body ⊎ IsOpened w v taken p)

  same : (taken : Packet) (v : StreamSystem) → v.post ≡ w.post → Told taken v
  same taken v is p there = inl (subst (λ xs. Contains xs p) is there)

  none_more : (p : Packet) → Contains (w.post ++ []) p → Contains w.post p
  none_more p there = elim (Contains-append_cases w.post [] p there) [ inl old ↦ old | inr new ↦ absurd (let less = new.1 in omega (arith, less)) ]

  node_told : (taken : Packet) (n e : ℕ) (o : Outcome (Option Replica)) → ((p : Packet) → Contains o.packets p → IsQuiet p.body) → Told taken (node_performs w n e o)
  node_told taken n e o quiet =
      if_elim (Told taken) (stops_in (w.cell n) o.written) _ _
      (λ s. if_elim (Told taken) (stands_in (w.cell n)) _ _ (λ t p there. inl (none_more p there)) (λ t p there. inl there))
      (λ s p there. elim (Contains-append_cases w.post o.packets p there) [ inl old ↦ inl old | inr new ↦ inr (inl (quiet p new)) ])

  manager_told : (taken : Packet) (o : Outcome Catalog) → ((v : StreamSystem) → v.catalog ≡ o.after → (p : Packet) → Contains o.packets p → IsQuiet p.body ⊎ IsOpened w v taken p) → Told taken (manager_performs w o)
  manager_told taken o tells =
      if_elim (Told taken) (stops_in w.manager_cell o.written) _ _
      (λ s. if_elim (Told taken) (stands_in w.manager_cell) _ _ (λ t p there. inl (none_more p there)) (λ t p there. inl there))
      (λ s p there. elim (Contains-append_cases w.post o.packets p there) [ inl old ↦ inl old | inr new ↦ inr (tells _ refl p new) ])

  delivered_told : (taken : Packet) → Contains w.post taken → (to : ActorId) → Told taken (delivered w taken to)
  delivered_told taken sent (Node n) =
      let e = table.extent_of taken.body in
      let o = table.node_rule n (w.replica n e) taken taken.body in
      if_elim (Told taken) (w.cell n).up (node_performs w n e o) w
      (λ up. node_told taken n e o (λ x there. node_quiet (w.replica n e) e taken o.notes x.to x.body (each-contains (node.NodeTells n (w.replica n e) e taken o.notes) o.packets x (node.node_tells n (w.replica n e) taken) there).1))
      (λ up p there. inl there)
  delivered_told taken sent Manager =
      let o = catalog.manager_rule w.catalog taken taken.body in
      if_elim (Told taken) w.manager_cell.up (manager_performs w o) w
      (λ up. manager_told taken o (λ v is x there. from v is x (manager_body w.catalog taken x.to x.body (each-contains (manager.ManagerTells w.catalog taken) o.packets x (manager.manager_tells w.catalog taken) there).1)))
      (λ up p there. inl there)
    where
      from : (v : StreamSystem) → v.catalog ≡ (catalog.manager_rule w.catalog taken taken.body).after → (x : Packet) → FromManager w.catalog taken x.to x.body → IsQuiet x.body ⊎ IsOpened w v taken x
      from v is x (inl quiet) = inl quiet
      from v is x (inr (q, lists, tells, f)) = inr (record {
        range = f.range;
        generation = f.generation;
        request = q;
        lists = lists;
        is = tells;
        sent = sent;
        asked = f.body;
        lower = lower w.catalog taken f.range f.generation f.none;
        fenced = subst (λ b. IsFenced b f.range f.generation) (sym is) (fenced w.catalog taken f.range f.generation q f.body f.none);
      })
  delivered_told taken sent Map = λ p there. inl there
  delivered_told taken sent (Server s) = λ p there. inl there
  delivered_told taken sent (User u) = λ p there. inl there

  -- a packet of no matter
  nothing : Packet
  nothing = packet Map Map (bodies.Map (maps.Route [] requests.NoRequest))

  stop_told : (actor : ActorId) (call : ℕ) (keep : Bool) → Told nothing (stop w actor call keep)
  stop_told (Node n) call keep =
      if_elim (Told nothing) (w.cell n).up (node_stops w n call keep) w (λ t. if_elim (Told nothing) (call == 0) (node_halted w n) _ (λ z p there. inl there) (λ z p there. inl there)) (λ t p there. inl there)
  stop_told Manager call keep =
      if_elim (Told nothing) w.manager_cell.up (manager_stops w call keep) w (λ t. if_elim (Told nothing) (call == 0) (manager_halted w) _ (λ z p there. inl there) (λ z p there. inl there)) (λ t p there. inl there)
  stop_told Map call keep = λ p there. inl there
  stop_told (Server s) call keep = λ p there. inl there
  stop_told (User u) call keep = λ p there. inl there

  restart_told : (actor : ActorId) → Told nothing (restart w actor)
  restart_told (Node n) = if_elim (Told nothing) ((w.cell n).up || not (is_present w n)) w _ (λ t p there. inl there) (λ t p there. inl there)
  restart_told Manager = if_elim (Told nothing) w.manager_cell.up w _ (λ t p there. inl there) (λ t p there. inl there)
  restart_told Map = λ p there. inl there
  restart_told (Server s) = λ p there. inl there
  restart_told (User u) = λ p there. inl there

  layered : (event : Event) (taken : Packet) → Told taken (happens w event) → Layered w (happens w event)
  layered event taken t = record { post = (moved_gains w (Happens event)).post; taken = taken; told = t; rises = run_rises (Happens event ∷ []) w }

  delivered_layer : (number : ℕ) (o : Option Packet) → slice_get w.post number ≡ o → (taken : Packet) × Told taken (delivered_if w o)
  delivered_layer number None is = (nothing, λ p there. inl there)
  delivered_layer number (Some taken) is = (taken, delivered_told taken (contains_get w.post number taken is) taken.to)

  submit_told : (user : ℕ) (to : ActorId) (body : Body) → is_request body ≡ true → Told nothing (sent_more w (packet (User user) to body ∷ []))
  submit_told user to body asked p there = elim (contains_pushed w.post (packet (User user) to body) p there) [
    | inl old ↦ inl old
    | inr same ↦ inr (inl (subst (λ (x : Packet). IsQuiet x.body) (sym same) (request_quiet body asked)))
  ]

  pub happens_layered : (event : Event) → Layered w (happens w event)
  happens_layered (Submit user to body) = layered (Submit user to body) nothing (if_elim (Told nothing) (is_request body) _ w (λ t. submit_told user to body t) (λ t p there. inl there))
  happens_layered (Deliver number) = let d = delivered_layer number (slice_get w.post number) refl in layered (Deliver number) d.0 d.1
  happens_layered (Stop actor call keep) = layered (Stop actor call keep) nothing (stop_told actor call keep)
  happens_layered (Restart actor) = layered (Restart actor) nothing (restart_told actor)
  happens_layered (Decide e) =
      let o = catalog.decide_rule w.catalog e (w.catalog.extent e) in
      layered (Decide e) nothing (if_elim (Told nothing) w.manager_cell.up (manager_performs w o) w
      (λ up. manager_told nothing o (λ v is x there. inl (decision_quiet w.catalog e o.after x.to x.body (each-contains (decision.DecisionTells w.catalog e o.after) o.packets x (decision.decision_tells w.catalog e) there).1)))
      (λ up p there. inl there))
  happens_layered (GiveUp server range pick) = layered (GiveUp server range pick) nothing (λ p there. inl there)
  happens_layered (Assign range server until) = layered (Assign range server until) nothing (λ p there. inl there)
  happens_layered (Renew range server until) = layered (Renew range server until) nothing (λ p there. inl there)
  happens_layered (Moment now) = layered (Moment now) nothing (λ p there. inl there)
  happens_layered (Checkpoint server range combine) = layered (Checkpoint server range combine) nothing (λ p there. inl there)
  happens_layered (Split server range key) = layered (Split server range key) nothing (λ p there. inl there)
  happens_layered (Merge server left right) = layered (Merge server left right) nothing (λ p there. inl there)

-- ---- what the map sends

module _ (m : MapState) where
  pub assign_quiet : (range server until : ℕ) (x : Option RangeEntry) → AreQuiet (assign_rule m range server until x).packets
  assign_quiet range server until None = tt
  assign_quiet range server until (Some r) = if_elim (λ (o : Outcome MapState). AreQuiet o.packets) (nat_lt (suc r.generation) (2 ^ 64)) _ _ (λ t. (tt, tt)) (λ f. tt)

  pub renew_quiet : (range server until : ℕ) (x : Option RangeEntry) → AreQuiet (renew_rule m range server until x).packets
  renew_quiet range server until None = tt
  renew_quiet range server until (Some r) = (tt, tt)

  called_quiet : (p : Packet) (q : ReqNo) (fault : Option Refusal) (o : Outcome MapState) → AreQuiet o.packets → AreQuiet (called m p q fault o).packets
  called_quiet p q (Some refusal) o h = (tt, tt)
  called_quiet p q None o h = h

  begin_split_quiet : (to : ActorId) (q : ReqNo) (range : ℕ) (key : List ℕ) (pair : Option (ℕ × ℕ)) → AreQuiet (begin_split_taken m to q range key pair).packets
  begin_split_quiet to q range key (Some pair) = (tt, tt)
  begin_split_quiet to q range key None = if_elim (λ (o : Outcome MapState). AreQuiet o.packets) (has_numbers m 2) _ _ (λ t. (tt, tt)) (λ f. tt)

  begin_split_rule_quiet : (to : ActorId) (q : ReqNo) (range : ℕ) (key : List ℕ) (x : Option RangeEntry) → AreQuiet (begin_split_rule m to q range key x).packets
  begin_split_rule_quiet to q range key None = tt
  begin_split_rule_quiet to q range key (Some r) = begin_split_quiet to q range key (halves_at key r.pending)

  complete_split_quiet : (to : ActorId) (q : ReqNo) (range : ℕ) (p : Option Pending) → AreQuiet (complete_split_taken m to q range p).packets
  complete_split_quiet to q range (Some (pendings.Split key low high)) = (tt, tt)
  complete_split_quiet to q range (Some (pendings.Merge right into)) = tt
  complete_split_quiet to q range None = tt

  complete_split_rule_quiet : (to : ActorId) (q : ReqNo) (range : ℕ) (x : Option RangeEntry) → AreQuiet (complete_split_rule m to q range x).packets
  complete_split_rule_quiet to q range None = tt
  complete_split_rule_quiet to q range (Some r) = complete_split_quiet to q range r.pending

  begin_merge_quiet : (to : ActorId) (q : ReqNo) (left right : ℕ) (x : Option ℕ) → AreQuiet (begin_merge_taken m to q left right x).packets
  begin_merge_quiet to q left right (Some into) = (tt, tt)
  begin_merge_quiet to q left right None = if_elim (λ (o : Outcome MapState). AreQuiet o.packets) (has_numbers m 1) _ _ (λ t. (tt, tt)) (λ f. tt)

  begin_merge_rule_quiet : (to : ActorId) (q : ReqNo) (left right : ℕ) (x : Option RangeEntry) → AreQuiet (begin_merge_rule m to q left right x).packets
  begin_merge_rule_quiet to q left right None = tt
  begin_merge_rule_quiet to q left right (Some l) = begin_merge_quiet to q left right (union_with right l.pending)

  complete_merge_rule_quiet : (to : ActorId) (q : ReqNo) (left right : ℕ) (x : Option ℕ) → AreQuiet (complete_merge_rule m to q left right x).packets
  complete_merge_rule_quiet to q left right None = tt
  complete_merge_rule_quiet to q left right (Some into) = (tt, tt)

  route_quiet : (p : Packet) (q : ReqNo) (x : Option RangeEntry) → AreQuiet (route_rule m p q x).packets
  route_quiet p q None = tt
  route_quiet p q (Some r) = (tt, tt)

  told_quiet : (p : Packet) (body : MapBody) → AreQuiet (told m p body).packets
  told_quiet p (maps.Route key q) = route_quiet p q (range_of_key m.ranges key)
  told_quiet p (maps.BeginSplit range generation key q) =
      called_quiet p q (begin_split_fault generation key (range_at m.ranges range)) _ (begin_split_rule_quiet p.from q range key (range_at m.ranges range))
  told_quiet p (maps.CompleteSplit range generation q) =
      called_quiet p q (complete_split_fault generation (range_at m.ranges range)) _ (complete_split_rule_quiet p.from q range (range_at m.ranges range))
  told_quiet p (maps.BeginMerge left b right g q) =
      called_quiet p q (begin_merge_fault b g (range_at m.ranges left) (range_at m.ranges right)) _ (begin_merge_rule_quiet p.from q left right (range_at m.ranges left))
  told_quiet p (maps.CompleteMerge left b right g q) =
      called_quiet p q (complete_merge_fault b g (range_at m.ranges left) (range_at m.ranges right) (union_at m.ranges left right)) _ (complete_merge_rule_quiet p.from q left right (union_at m.ranges left right))
  told_quiet p body = tt

  pub map_quiet : (p : Packet) (body : Body) → AreQuiet (map_rule m p body).packets
  map_quiet p (bodies.Map body) = told_quiet p body
  map_quiet p body = tt
