-- What an event does in the stream layer: it shows nothing of tables, sends nothing in the name of a server or of the map, and asks
-- the map for no split and no merge.
use Rattle.std.proofs.Common.{◌≡◌, ◌⊎◌, ℕ, Bool, true, false, not, ◌&&◌, ◌||◌, ◌==◌, nat_lt, List, [], ◌∷◌, ◌++◌, take, Option, Some, None, Result, Ok, Err, slice_get, Contains, refl, sym, ap, ◌∙◌, subst, inl, inr, append-nil}
use Rattle.std.proofs.lemmas.List.Elements.{Contains-append_cases}
use Rattle.block_types.specs.declared.record.Nodes.{Nodes}
use Rattle.wire.specs.declared.actor.ActorId.{ActorId}
use Rattle.wire.specs.declared.actor.ActorId.TheVariants.{Node, Manager, Map, Server, User}
use Rattle.wire.specs.declared.actor.ReqNo.{ReqNo}
use Rattle.wire.specs.declared.actor.ReqNo.TheVariants.{NoRequest}
use Rattle.wire.specs.declared.body.AppendBody.{AppendBody}
use Rattle.wire.specs.declared.body.AppendBody.TheVariants.{Append, Put, Have}
use Rattle.wire.specs.declared.body.SealBody.{SealBody}
use Rattle.wire.specs.declared.body.SealBody.TheVariants as seals
use Rattle.wire.specs.declared.body.CheckBody.{CheckBody}
use Rattle.wire.specs.declared.body.CheckBody.TheVariants.{Check, Probe, Probed}
use Rattle.wire.specs.declared.body.ReadBody.{ReadBody}
use Rattle.wire.specs.declared.body.ReadBody.TheVariants as reads
use Rattle.wire.specs.declared.body.StreamBody.{StreamBody}
use Rattle.wire.specs.declared.body.StreamBody.TheVariants.{CreateStream, OpenStreams, Confirm, Confirmed, Extend, Trim, MultiModify}
use Rattle.wire.specs.declared.body.MapBody.{MapBody}
use Rattle.wire.specs.declared.body.MapBody.TheVariants as maps
use Rattle.wire.specs.declared.body.Body.{Body}
use Rattle.wire.specs.declared.body.Body.TheVariants as bodies
use Rattle.wire.specs.declared.note.Note.{Note}
use Rattle.wire.specs.declared.note.Note.TheVariants.{Content, Seen}
use Rattle.wire.specs.declared.packet.Packet.{Packet}
use Rattle.wire.specs.declared.refusal.Refusal.{Refusal}
use Rattle.wire.specs.declared.refusal.Refusal.TheVariants.{Stale, BadPick}
use Rattle.wire.specs.declared.streams.StreamName.{StreamName}
use Rattle.replica.specs.declared.phase.Phase.{Phase}
use Rattle.replica.specs.declared.phase.Phase.TheVariants as phases
use Rattle.replica.specs.Groups.{Group, text, text_length}
use Rattle.replica.specs.Reading.{groups_to, groups_from}
use Rattle.streams.specs.Streams.{stream_of, extending, trimming}
use Rattle.model_streams.specs.declared.checking.Checking.{Checking}
use Rattle.model_streams.specs.declared.event.Event.{Event}
use Rattle.model_streams.specs.declared.event.Event.TheVariants.{Submit, Deliver, Stop, Restart, Decide, GiveUp, Assign, Renew, Moment, Checkpoint, Split, Merge}
use Rattle.model_streams.specs.declared.extent.Extent.{Extent}
use Rattle.model_streams.specs.declared.waiting_append.WaitingAppend.{WaitingAppend}
use Rattle.model_streams.specs.Actors.{is_node, is_manager, is_user, generation_of}
use Rattle.model_streams.specs.Manager as catalog
use Rattle.model_streams.specs.Manager.{Catalog, is_there}
use Rattle.model_streams.specs.Node as table
use Rattle.model_streams.specs.Node.{Replica, is_open, is_sealed}
use Rattle.model_streams.specs.Outcome.{Outcome, packet, all_met, silent, sends, refused, or_refused}
use Rattle.model_streams.specs.StreamSystem.{StreamSystem, stops_in, stands_in, unsent, node_halted, after_node_rule, node_performs, manager_halted, after_manager_rule, manager_performs, sent_more, delivered, delivered_if, is_request, node_stops, manager_stops, stop, is_present, restart, happens}
use Rattle.model_streams.proofs.Tests.{if_elim}
use Rattle.model_partition.specs.Past.{table_notes}
use Rattle.laws_tables.proofs.Others.{others-append}
use Rattle.laws_streams.proofs.Choices.{each-contains, contains_pushed}
use Rattle.laws_streams.proofs.ManagerAnswers as manager
use Rattle.laws_streams.proofs.NodeAnswers as node
use Rattle.laws_streams.proofs.DecisionAnswers as decision
use Rattle.laws_clusters.specs.Senders.{IsOfLayer}

-- a split or a merge is begun or completed
abbrev pub is_change : MapBody → Bool
is_change (maps.BeginSplit range generation key q) = true
is_change (maps.CompleteSplit range generation q) = true
is_change (maps.BeginMerge left left_generation right right_generation q) = true
is_change (maps.CompleteMerge left left_generation right right_generation q) = true
is_change body = false

-- the map is asked for other ranges
abbrev pub is_range_change : Body → Bool
is_range_change (bodies.Map body) = is_change body
is_range_change body = false

-- it shows nothing of tables
abbrev IsBare : {S : Type 0} → Outcome S → Type 0
IsBare {S} o = table_notes o.notes ≡ []

unless_bare : {S : Type 0} (after : S) (me : ActorId) (p : Packet) (q : ReqNo) (x : Option Refusal) (o : Outcome S) → IsBare o → IsBare (or_refused after me p q x o)
unless_bare after me p q (Some refusal) o bare = refl
unless_bare after me p q None o bare = bare

-- ---- the rules of a node

acked_bare : (e : ℕ) (ws : List WaitingAppend) → table_notes (table.acked e ws) ≡ []
acked_bare e [] = refl
acked_bare e (w ∷ ws) = acked_bare e ws

module _ (n : ℕ) (p : Packet) (r : Replica) where
  put_bare : (e offset : ℕ) (group : Group) → IsBare (table.put_rule n r p e offset group)
  put_bare e offset group =
      if_elim IsBare (is_node r.content.places.primary p.from) _ (silent (Some r))
      (λ t. unless_bare (Some r) (Node n) p NoRequest (table.put_refusal r) (table.put_taken n r e offset group)
      (if_elim IsBare (table.put_fits r offset) (table.put_added n r e offset group) (table.put_passed n r e) (λ f. refl) (λ f. refl)))
      (λ t. refl)

  answered_bare : (e : ℕ) (now : Replica) → IsBare (table.answered n now e)
  answered_bare e now = acked_bare e (take (table.covered (table.lesser now.second_has now.third_has) now.waiting) now.waiting)

  answered_if_bare : (e : ℕ) (o : Option Replica) → IsBare (table.answered_if n r e o)
  answered_if_bare e None = refl
  answered_if_bare e (Some told) = answered_bare e told

  have_bare : (e l : ℕ) → IsBare (table.have_rule n r p e l)
  have_bare e l =
      if_elim IsBare ((n == r.content.places.primary) && is_open r.content.phase) (table.answered_if n r e (table.with_length r p.from l)) (silent (Some r))
      (λ t. answered_if_bare e (table.with_length r p.from l)) (λ t. refl)

  check_bare : (e generation : ℕ) (q : ReqNo) → IsBare (table.check_rule n r p e generation q)
  check_bare e generation q =
      unless_bare (Some r) (Node n) p q (table.check_refusal n r generation) (table.check_taken n r p e generation q)
      (if_elim IsBare (is_open r.content.phase) (table.check_begun n r p e generation q) _ (λ t. refl) (λ t. refl))

  probe_bare : (e generation : ℕ) → IsBare (table.probe_rule n r p e generation)
  probe_bare e generation =
      if_elim IsBare (is_node r.content.places.primary p.from) _ (silent (Some r))
      (λ t. unless_bare (Some r) (Node n) p NoRequest (table.probe_refusal r generation) (table.probe_taken n r e generation) refl)
      (λ t. refl)

  settled_bare : (c : Checking) (a b : Option ℕ) → IsBare (table.settled n r c a b)
  settled_bare c (Some a) (Some b) = refl
  settled_bare c (Some a) None = refl
  settled_bare c None b = refl

  probed_by_bare : (o : Option Checking) → IsBare (table.probed_by n r o)
  probed_by_bare None = refl
  probed_by_bare (Some c) = settled_bare c c.second c.third

  probed_bare : (generation l : ℕ) (o : Option Checking) → IsBare (table.probed_for n r p generation l o)
  probed_bare generation l None = refl
  probed_bare generation l (Some c) =
      if_elim IsBare (c.generation == generation) (table.probed_by n r (table.with_probed c r.content.places p.from l)) (silent (Some r))
      (λ t. probed_by_bare (table.with_probed c r.content.places p.from l)) (λ t. refl)

  groups_bare : (e upto : ℕ) (sealed : Bool) (q : ReqNo) → IsBare (table.groups_rule n r p e upto sealed q)
  groups_bare e upto sealed q =
      unless_bare (Some r) (Node n) p q (table.groups_refusal r sealed) (table.groups_taken n r p e upto q (groups_to upto r.content.groups))
      (by_found (groups_to upto r.content.groups))
    where
      by_found : (o : Option (List Group)) → IsBare (table.groups_taken n r p e upto q o)
      by_found None = refl
      by_found (Some groups) =
          if_elim (λ x. table_notes (x ∷ []) ≡ []) (is_sealed r.content.phase && (upto == text_length r.content.groups)) (Content e n groups) (Seen e n 0 (text groups))
          (λ t. refl) (λ t. refl)

  freeze_bare : (e : ℕ) → IsBare (table.freeze_rule n r p e)
  freeze_bare e = if_elim IsBare (is_manager p.from) (table.freezes n r e r.content.phase) (silent (Some r)) (λ t. by_phase r.content.phase) (λ t. refl)
    where
      by_phase : (phase : Phase) → IsBare (table.freezes n r e phase)
      by_phase phases.Open = refl
      by_phase phases.Frozen = refl
      by_phase phases.Sealed = refl

  shorts_bare : (e : ℕ) (phase : Phase) → IsBare (table.shorts n r e phase)
  shorts_bare e phases.Open = refl
  shorts_bare e phases.Frozen = refl
  shorts_bare e phases.Sealed = refl

  cuts_bare : (e l : ℕ) (o : Option (List Group)) → IsBare (table.cuts n r p e l o)
  cuts_bare e l None = refl
  cuts_bare e l (Some groups) = refl

  seal_bare : (e l : ℕ) → IsBare (table.seal_rule n r p e l)
  seal_bare e l =
      if_elim IsBare (is_manager p.from) (table.seals n r p e l) (silent (Some r))
      (λ t. if_elim IsBare (is_sealed r.content.phase) (table.seals_again n r p e l) _
      (λ a. if_elim IsBare (text_length r.content.groups == l) _ _ (λ b. refl) (λ b. refl))
      (λ a. if_elim IsBare (nat_lt (text_length r.content.groups) l) (table.shorts n r e r.content.phase) (table.cuts n r p e l (groups_to l r.content.groups))
      (λ b. shorts_bare e r.content.phase) (λ b. cuts_bare e l (groups_to l r.content.groups))))
      (λ t. refl)

  tail_sent_bare : (e from to : ℕ) (o : Option (List Group)) → IsBare (table.tail_sent n r p e from to o)
  tail_sent_bare e from to None = refl
  tail_sent_bare e from to (Some groups) = refl

  send_tail_bare : (e from to : ℕ) → IsBare (table.send_tail_rule n r p e from to)
  send_tail_bare e from to =
      if_elim IsBare (is_manager p.from) _ (silent (Some r))
      (λ t. unless_bare (Some r) (Node n) p NoRequest (table.send_tail_refusal r) (table.tail_sent n r p e from to (groups_from from r.content.groups))
      (tail_sent_bare e from to (groups_from from r.content.groups)))
      (λ t. refl)

  tail_bare : (e from l : ℕ) (groups : List Group) → IsBare (table.tail_rule n r p e from l groups)
  tail_bare e from l groups =
      if_elim IsBare (table.tail_fits r p.from from l groups) (table.tail_taken n r e from l groups) (silent (Some r)) (λ t. refl) (λ t. refl)

module _ (n : ℕ) (p : Packet) where
  append_body_bare : (s : Option Replica) (b : AppendBody) → IsBare (table.append_body_rule n s p b)
  append_body_bare (Some r) (Append e generation blocks q) =
      unless_bare (Some r) (Node n) p q (table.append_refusal n r p generation blocks) (table.append_taken n r p e blocks q) refl
  append_body_bare None (Append e generation blocks q) = refl
  append_body_bare (Some r) (Put e offset group) = put_bare n p r e offset group
  append_body_bare None (Put e offset group) = refl
  append_body_bare (Some r) (Have e l) = have_bare n p r e l
  append_body_bare None (Have e l) = refl
  append_body_bare s b = refl

  check_body_bare : (s : Option Replica) (b : CheckBody) → IsBare (table.check_body_rule n s p b)
  check_body_bare (Some r) (Check e generation q) = check_bare n p r e (generation_of p.from generation) q
  check_body_bare None (Check e generation q) = refl
  check_body_bare (Some r) (Probe e generation) = probe_bare n p r e generation
  check_body_bare None (Probe e generation) = refl
  check_body_bare (Some r) (Probed e generation l) = probed_bare n p r generation l r.check
  check_body_bare None (Probed e generation l) = refl
  check_body_bare s b = refl

  missing_bare : IsBare (table.missing n p)
  missing_bare = if_elim IsBare (is_manager p.from) _ (silent None) (λ t. refl) (λ t. refl)

  make_bare : (e fence target : ℕ) (places : Nodes) → IsBare (table.make_rule n p e fence target places)
  make_bare e fence target places =
      if_elim IsBare (all_met (table.make_tests n p target places)) (table.make_taken e fence target places) (silent None) (λ t. refl) (λ t. refl)

  seal_body_bare : (s : Option Replica) (b : SealBody) → IsBare (table.seal_body_rule n s p b)
  seal_body_bare None (seals.Make e fence target places) = make_bare e fence target places
  seal_body_bare (Some r) (seals.Freeze e) = freeze_bare n p r e
  seal_body_bare None (seals.Freeze e) = missing_bare
  seal_body_bare (Some r) (seals.Seal e l) = seal_bare n p r e l
  seal_body_bare None (seals.Seal e l) = missing_bare
  seal_body_bare (Some r) (seals.SendTail e from to) = send_tail_bare n p r e from to
  seal_body_bare None (seals.SendTail e from to) = missing_bare
  seal_body_bare (Some r) (seals.Tail e from l groups) = tail_bare n p r e from l groups
  seal_body_bare None (seals.Tail e from l groups) = refl
  seal_body_bare s b = refl

  read_body_bare : (s : Option Replica) (b : ReadBody) → IsBare (table.read_body_rule n s p b)
  read_body_bare (Some r) (reads.ReadAt e offset l q) =
      unless_bare (Some r) (Node n) p q (table.read_refusal r offset l) (table.read_taken n r p e offset l q) refl
  read_body_bare None (reads.ReadAt e offset l q) = refl
  read_body_bare (Some r) (reads.ReadGroups e upto sealed q) = groups_bare n p r e upto sealed q
  read_body_bare None (reads.ReadGroups e upto sealed q) = refl
  read_body_bare s b = refl

  -- whatever a node shows
  node_bare : (s : Option Replica) (b : Body) → IsBare (table.node_rule n s p b)
  node_bare s (bodies.Append b) = append_body_bare s b
  node_bare s (bodies.Check b) = check_body_bare s b
  node_bare s (bodies.Seal b) = seal_body_bare s b
  node_bare s (bodies.Read b) = read_body_bare s b
  node_bare s b = refl

-- ---- the rules of the manager

module _ (b : Catalog) (p : Packet) where
  last_bare : (e : ℕ) (o : Option Extent) (q : ReqNo) → IsBare (catalog.last_told b p e o q)
  last_bare e None q = refl
  last_bare e (Some x) q = refl

  extend_answered_bare : (s : StreamName) (generation : ℕ) (pick : Nodes) (q : ReqNo) (x : Result (Option ℕ) Refusal) →
      IsBare (catalog.extend_answered b p s generation pick q x)
  extend_answered_bare s generation pick q (Err refusal) = refl
  extend_answered_bare s generation pick q (Ok None) =
      if_elim IsBare (catalog.is_pick b.nodes pick) (catalog.extend_made b p s generation pick q) (refused b Manager p q BadPick) (λ t. refl) (λ t. refl)
  extend_answered_bare s generation pick q (Ok (Some e)) = last_bare e (b.extent e) q

  extend_bare : (s : StreamName) (generation : ℕ) (last : Option ℕ) (pick : Nodes) (q : ReqNo) → IsBare (catalog.extend_rule b p s generation last pick q)
  extend_bare s generation last pick q =
      let x = extending (catalog.sealed_lengths b) (stream_of b.stream s) generation last in
      if_elim IsBare (catalog.is_foreign p.from s.range) (refused b Manager p q Stale) (catalog.extend_answered b p s generation pick q x)
      (λ t. refl) (λ t. extend_answered_bare s generation pick q x)

  trim_bare : (range generation before : ℕ) (to_blob : Bool) (q : ReqNo) → IsBare (catalog.trim_rule b p range generation before to_blob q)
  trim_bare range generation before to_blob q =
      if_elim IsBare (is_user p.from) (refused b Manager p q Stale) (catalog.trim_answered b p range before to_blob q (trimming b.stream range generation before))
      (λ t. refl) (λ t. by_answer (trimming b.stream range generation before))
    where
      by_answer : (x : Result Bool Refusal) → IsBare (catalog.trim_answered b p range before to_blob q x)
      by_answer (Err refusal) = refl
      by_answer (Ok false) = refl
      by_answer (Ok true) = refl

  stream_body_bare : (body : StreamBody) → IsBare (catalog.stream_body_rule b p body)
  stream_body_bare (CreateStream s fence q) =
      unless_bare b Manager p q (catalog.create_refusal b p s) (catalog.create_taken b p s (generation_of p.from fence) q) refl
  stream_body_bare (OpenStreams range generation q) =
      unless_bare b Manager p q (catalog.open_refusal b p range generation) (catalog.open_taken b p range generation q) refl
  stream_body_bare (Confirm range generation q) =
      unless_bare b Manager p q (catalog.confirm_refusal b p range generation) (catalog.answer b p (Confirmed q)) refl
  stream_body_bare (Extend s generation last pick q) = extend_bare s (generation_of p.from generation) last pick q
  stream_body_bare (Trim range generation before to_blob q) = trim_bare range generation before to_blob q
  stream_body_bare (MultiModify list q) = unless_bare b Manager p q (catalog.modify_refusal b p list) (catalog.modify_taken b p list q) refl
  stream_body_bare body = refl

  seal_asked_bare : (e : ℕ) (q : ReqNo) (x : Extent) (o : Option ℕ) → IsBare (catalog.seal_asked b p e q x o)
  seal_asked_bare e q x None = refl
  seal_asked_bare e q x (Some l) = refl

  seal_extent_bare : (e : ℕ) (q : ReqNo) (o : Option Extent) → IsBare (catalog.seal_extent_rule b p e q o)
  seal_extent_bare e q None = refl
  seal_extent_bare e q (Some x) = seal_asked_bare e q x x.sealed

  noted_bare : (e : ℕ) (o : Option Extent) → IsBare (catalog.noted b e o)
  noted_bare e None = refl
  noted_bare e (Some x) = refl

  frozen_bare : (e l : ℕ) (o : Option Extent) → IsBare (catalog.frozen_rule b p e l o)
  frozen_bare e l None = refl
  frozen_bare e l (Some x) = if_elim IsBare (is_there x.sealed) (silent b) _ (λ t. refl) (λ t. noted_bare e (catalog.with_report x p.from (catalog.frozen_to l)))

  is_sealed_bare : (e : ℕ) (o : Option Extent) → IsBare (catalog.is_sealed_rule b p e o)
  is_sealed_bare e None = refl
  is_sealed_bare e (Some x) = noted_bare e (catalog.with_report x p.from catalog.known_sealed)

  asks_tail_bare : (e l : ℕ) (to n : Option ℕ) → IsBare (catalog.asks_tail b e l to n)
  asks_tail_bare e l (Some to) (Some n) = refl
  asks_tail_bare e l (Some to) None = refl
  asks_tail_bare e l None (Some n) = refl
  asks_tail_bare e l None None = refl

  short_bare : (e l : ℕ) (o : Option Extent) → IsBare (catalog.short_rule b p e l o)
  short_bare e l None = refl
  short_bare e l (Some x) =
      if_elim IsBare (is_there x.sealed) (catalog.asks_tail b e l (catalog.place_of x.places p.from) (catalog.first_sealed x)) (silent b)
      (λ t. asks_tail_bare e l (catalog.place_of x.places p.from) (catalog.first_sealed x)) (λ t. refl)

  seal_told_bare : (body : SealBody) → IsBare (catalog.seal_body_rule b p body)
  seal_told_bare (seals.SealExtent e q) = seal_extent_bare e q (b.extent e)
  seal_told_bare (seals.Frozen e l) = frozen_bare e l (b.extent e)
  seal_told_bare (seals.IsSealed e) = is_sealed_bare e (b.extent e)
  seal_told_bare (seals.Short e l) = short_bare e l (b.extent e)
  seal_told_bare body = refl

  -- whatever the manager shows, having taken a packet
  manager_bare : (body : Body) → IsBare (catalog.manager_rule b p body)
  manager_bare (bodies.Stream body) = stream_body_bare body
  manager_bare (bodies.Seal body) = seal_told_bare body
  manager_bare body = refl

decided_bare : (b : Catalog) (e : ℕ) (x : Extent) (o : Option ℕ) → IsBare (catalog.decided_if b e x o)
decided_bare b e x None = refl
decided_bare b e x (Some l) = refl

-- whatever the manager shows, having decided
decide_bare : (b : Catalog) (e : ℕ) (o : Option Extent) → IsBare (catalog.decide_rule b e o)
decide_bare b e None = refl
decide_bare b e (Some x) =
    if_elim IsBare (is_there x.sealed) (sends b (catalog.reminders b e x)) (catalog.decided_if b e x (catalog.least_told x))
    (λ t. refl) (λ t. decided_bare b e x (catalog.least_told x))

-- ---- one event

-- its sender is of the layer, and the map is not asked for other ranges
abbrev IsLayerPacket : Packet → Type 0
IsLayerPacket p = IsOfLayer p.from × (is_range_change p.body ≡ false)

abbrev AreOfLayer : List Packet → Type 0
AreOfLayer ps = (p : Packet) → Contains ps p → IsLayerPacket p

-- the second stream system shows no more of tables than the first, and whatever else is in its post is of the layer
record Leaves (w v : StreamSystem) : Type 0 where
  tables : table_notes v.notes ≡ table_notes w.notes
  sends : (p : Packet) → Contains v.post p → Contains w.post p ⊎ IsLayerPacket p

tables_same : (xs ys : List Note) → table_notes ys ≡ [] → table_notes (xs ++ ys) ≡ table_notes xs
tables_same xs ys bare = others-append xs ys ∙ ap (λ l. table_notes xs ++ l) bare ∙ append-nil (table_notes xs)

unsent_leaves : (w v : StreamSystem) → v.post ≡ w.post → table_notes v.notes ≡ table_notes w.notes → Leaves w v
unsent_leaves w v same tables = record { tables = tables; sends = λ p c. inl (subst (λ xs. Contains xs p) same c) }

-- these are sent and shown
more_leaves : (w v : StreamSystem) (ps : List Packet) (xs : List Note) → v.post ≡ w.post ++ ps → v.notes ≡ w.notes ++ xs → AreOfLayer ps → table_notes xs ≡ [] → Leaves w v
more_leaves w v ps xs post notes layer bare = record {
  tables = ap table_notes notes ∙ tables_same w.notes xs bare;
  sends = λ p c. elim (Contains-append_cases w.post ps p (subst (λ l. Contains l p) post c)) [ inl a ↦ inl a | inr a ↦ inr (layer p a) ];
}

node_leaves : (w : StreamSystem) (n e : ℕ) (o : Outcome (Option Replica)) → AreOfLayer o.packets → IsBare o → Leaves w (node_performs w n e o)
node_leaves w n e o layer bare =
    if_elim (Leaves w) (stops_in (w.cell n) o.written) _ _
    (λ s. if_elim (Leaves w) (stands_in (w.cell n)) _ _
    (λ t. unsent_leaves w (node_halted (after_node_rule w n e (unsent o)) n) (append-nil w.post) (tables_same w.notes o.notes bare))
    (λ t. unsent_leaves w (node_halted w n) refl refl))
    (λ s. more_leaves w _ o.packets o.notes refl refl layer bare)

manager_leaves : (w : StreamSystem) (o : Outcome Catalog) → AreOfLayer o.packets → IsBare o → Leaves w (manager_performs w o)
manager_leaves w o layer bare =
    if_elim (Leaves w) (stops_in w.manager_cell o.written) _ _
    (λ s. if_elim (Leaves w) (stands_in w.manager_cell) _ _
    (λ t. unsent_leaves w (manager_halted (after_manager_rule w (unsent o))) (append-nil w.post) (tables_same w.notes o.notes bare))
    (λ t. unsent_leaves w (manager_halted w) refl refl))
    (λ s. more_leaves w _ o.packets o.notes refl refl layer bare)

node_no_change : (s : Option Replica) (k : ℕ) (taken : Packet) (notes : List Note) (to : ActorId) (body : Body) → node.BodyTells s k taken notes to body → is_range_change body ≡ false
node_no_change s k taken notes to (bodies.Map body) tells = absurd tells
node_no_change s k taken notes to body tells = refl

manager_no_change : (b : Catalog) (taken : Packet) (to : ActorId) (body : Body) → manager.BodyTells b taken to body → is_range_change body ≡ false
manager_no_change b taken to (bodies.Map body) tells = absurd tells
manager_no_change b taken to body tells = refl

decision_no_change : (b : Catalog) (e : ℕ) (after : Catalog) (to : ActorId) (body : Body) → decision.BodyTells b e after to body → is_range_change body ≡ false
decision_no_change b e after to (bodies.Map body) tells = absurd tells
decision_no_change b e after to body tells = refl

-- no user asks for it
request_no_change : (body : Body) → is_request body ≡ true → is_range_change body ≡ false
request_no_change (bodies.Map (maps.Route key q)) asked = refl
request_no_change (bodies.Map body) asked = absurd cc
request_no_change body asked = refl

node_of_layer : (n : ℕ) (s : Option Replica) (p : Packet) → AreOfLayer (table.node_rule n s p p.body).packets
node_of_layer n s p x c =
    let o = table.node_rule n s p p.body in
    let (from, tells) = each-contains (node.NodeTells n s (table.extent_of p.body) p o.notes) o.packets x (node.node_tells n s p) c in
    (subst IsOfLayer (sym from) tt, node_no_change s (table.extent_of p.body) p o.notes x.to x.body tells)

manager_of_layer : (b : Catalog) (p : Packet) → AreOfLayer (catalog.manager_rule b p p.body).packets
manager_of_layer b p x c =
    let o = catalog.manager_rule b p p.body in
    let (from, tells) = each-contains (manager.ManagerTells b p) o.packets x (manager.manager_tells b p) c in
    (subst IsOfLayer (sym from) tt, manager_no_change b p x.to x.body tells)

decision_of_layer : (b : Catalog) (e : ℕ) → AreOfLayer (catalog.decide_rule b e (b.extent e)).packets
decision_of_layer b e x c =
    let o = catalog.decide_rule b e (b.extent e) in
    let (from, tells) = each-contains (decision.DecisionTells b e o.after) o.packets x (decision.decision_tells b e) c in
    (subst IsOfLayer (sym from) tt, decision_no_change b e o.after x.to x.body tells)

delivered_leaves : (w : StreamSystem) (p : Packet) (to : ActorId) → Leaves w (delivered w p to)
delivered_leaves w p (Node n) =
    let e = table.extent_of p.body in
    let o = table.node_rule n (w.replica n e) p p.body in
    if_elim (Leaves w) (w.cell n).up (node_performs w n e o) w
    (λ up. node_leaves w n e o (node_of_layer n (w.replica n e) p) (node_bare n p (w.replica n e) p.body))
    (λ up. unsent_leaves w w refl refl)
delivered_leaves w p Manager =
    let o = catalog.manager_rule w.catalog p p.body in
    if_elim (Leaves w) w.manager_cell.up (manager_performs w o) w
    (λ up. manager_leaves w o (manager_of_layer w.catalog p) (manager_bare w.catalog p p.body))
    (λ up. unsent_leaves w w refl refl)
delivered_leaves w p Map = unsent_leaves w w refl refl
delivered_leaves w p (Server s) = unsent_leaves w w refl refl
delivered_leaves w p (User u) = unsent_leaves w w refl refl

delivered_if_leaves : (w : StreamSystem) (o : Option Packet) → Leaves w (delivered_if w o)
delivered_if_leaves w None = unsent_leaves w w refl refl
delivered_if_leaves w (Some p) = delivered_leaves w p p.to

stop_leaves : (w : StreamSystem) (actor : ActorId) (call : ℕ) (keep : Bool) → Leaves w (stop w actor call keep)
stop_leaves w (Node n) call keep =
    if_elim (Leaves w) (w.cell n).up (node_stops w n call keep) w
    (λ t. if_elim (Leaves w) (call == 0) (node_halted w n) _ (λ z. unsent_leaves w _ refl refl) (λ z. unsent_leaves w _ refl refl))
    (λ t. unsent_leaves w w refl refl)
stop_leaves w Manager call keep =
    if_elim (Leaves w) w.manager_cell.up (manager_stops w call keep) w
    (λ t. if_elim (Leaves w) (call == 0) (manager_halted w) _ (λ z. unsent_leaves w _ refl refl) (λ z. unsent_leaves w _ refl refl))
    (λ t. unsent_leaves w w refl refl)
stop_leaves w Map call keep = unsent_leaves w w refl refl
stop_leaves w (Server s) call keep = unsent_leaves w w refl refl
stop_leaves w (User u) call keep = unsent_leaves w w refl refl

restart_leaves : (w : StreamSystem) (actor : ActorId) → Leaves w (restart w actor)
restart_leaves w (Node n) =
    if_elim (Leaves w) ((w.cell n).up || not (is_present w n)) w _ (λ t. unsent_leaves w w refl refl) (λ t. unsent_leaves w _ refl refl)
restart_leaves w Manager = if_elim (Leaves w) w.manager_cell.up w _ (λ t. unsent_leaves w w refl refl) (λ t. unsent_leaves w _ refl refl)
restart_leaves w Map = unsent_leaves w w refl refl
restart_leaves w (Server s) = unsent_leaves w w refl refl
restart_leaves w (User u) = unsent_leaves w w refl refl

submit_leaves : (w : StreamSystem) (user : ℕ) (to : ActorId) (body : Body) → is_request body ≡ true → Leaves w (sent_more w (packet (User user) to body ∷ []))
submit_leaves w user to body asked = record {
  tables = refl;
  sends = λ p c. elim (contains_pushed w.post (packet (User user) to body) p c) [
    | inl a ↦ inl a
    | inr same ↦ inr (subst IsLayerPacket (sym same) (tt, request_no_change body asked))
  ];
}

happens_leaves : (w : StreamSystem) (event : Event) → Leaves w (happens w event)
happens_leaves w (Submit user to body) = if_elim (Leaves w) (is_request body) _ w (λ t. submit_leaves w user to body t) (λ t. unsent_leaves w w refl refl)
happens_leaves w (Deliver number) = delivered_if_leaves w (slice_get w.post number)
happens_leaves w (Stop actor call keep) = stop_leaves w actor call keep
happens_leaves w (Restart actor) = restart_leaves w actor
happens_leaves w (Decide e) =
    let o = catalog.decide_rule w.catalog e (w.catalog.extent e) in
    if_elim (Leaves w) w.manager_cell.up (manager_performs w o) w
    (λ up. manager_leaves w o (decision_of_layer w.catalog e) (decide_bare w.catalog e (w.catalog.extent e)))
    (λ up. unsent_leaves w w refl refl)
happens_leaves w (GiveUp server range pick) = unsent_leaves w w refl refl
happens_leaves w (Assign range server until) = unsent_leaves w w refl refl
happens_leaves w (Renew range server until) = unsent_leaves w w refl refl
happens_leaves w (Moment now) = unsent_leaves w w refl refl
happens_leaves w (Checkpoint server range combine) = unsent_leaves w w refl refl
happens_leaves w (Split server range key) = unsent_leaves w w refl refl
happens_leaves w (Merge server left right) = unsent_leaves w w refl refl

-- ---- what follows

-- nothing more is shown of tables
pub happens_tables : (w : StreamSystem) (event : Event) → table_notes (happens w event).notes ≡ table_notes w.notes
happens_tables w event = (happens_leaves w event).tables

-- what is sent is of the layer
happens_sends : (w : StreamSystem) (event : Event) (p : Packet) → Contains (happens w event).post p → Contains w.post p ⊎ IsLayerPacket p
happens_sends w event p c = (happens_leaves w event).sends p c

-- no packet of a server comes in
pub happens_servers : (w : StreamSystem) (event : Event) (server : ℕ) (to : ActorId) (body : Body) →
    Contains (happens w event).post (packet (Server server) to body) → Contains w.post (packet (Server server) to body)
happens_servers w event server to body c = elim (happens_sends w event (packet (Server server) to body) c) [ inl a ↦ a | inr a ↦ absurd a.0 ]

-- and none of the map
pub happens_map : (w : StreamSystem) (event : Event) (to : ActorId) (body : Body) →
    Contains (happens w event).post (packet Map to body) → Contains w.post (packet Map to body)
happens_map w event to body c = elim (happens_sends w event (packet Map to body) c) [ inl a ↦ a | inr a ↦ absurd a.0 ]
