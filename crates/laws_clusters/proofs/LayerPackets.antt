-- What an event of the stream layer sends: only users ask to create streams, nobody to build streams or to complete a split, and the manager alone
-- says that a name is taken, to who asked; and what streams there are then: those that were there, and those that it was asked to create or to build.
use Rattle.std.proofs.Common.{◌≡◌, ◌⊎◌, ℕ, Bool, true, false, not, ◌||◌, ◌==◌, List, ◌++◌, Option, Some, None, slice_get, Contains, refl, sym, ap, ◌∙◌, subst, inl, inr, append-nil}
use Rattle.std.proofs.lemmas.List.Elements.{Contains-append_cases}
use Rattle.wire.specs.declared.actor.ActorId.{ActorId}
use Rattle.wire.specs.declared.actor.ActorId.TheVariants.{Node, Manager, Map, Server, User}
use Rattle.wire.specs.declared.actor.ReqNo.{ReqNo}
use Rattle.wire.specs.declared.body.AppendBody.{AppendBody}
use Rattle.wire.specs.declared.body.AppendBody.TheVariants.{Refused}
use Rattle.wire.specs.declared.body.Body.{Body}
use Rattle.wire.specs.declared.body.Body.TheVariants as bodies
use Rattle.wire.specs.declared.body.MapBody.TheVariants as maps
use Rattle.wire.specs.declared.body.StreamBody.TheVariants as streams
use Rattle.wire.specs.declared.note.Note.{Note}
use Rattle.wire.specs.declared.packet.Packet.{Packet}
use Rattle.wire.specs.declared.refusal.Refusal.{Refusal}
use Rattle.wire.specs.declared.refusal.Refusal.TheVariants.{NameTaken}
use Rattle.wire.specs.declared.streams.StreamName.{StreamName}
use Rattle.streams.specs.Streams.{Stream, stream_of}
use Rattle.model_streams.specs.declared.event.Event.{Event}
use Rattle.model_streams.specs.declared.event.Event.TheVariants.{Submit, Deliver, Stop, Restart, Decide, GiveUp, Assign, Renew, Moment, Checkpoint, Split, Merge}
use Rattle.model_streams.specs.declared.extent.Extent.{Extent}
use Rattle.model_streams.specs.Actors.{is_user}
use Rattle.model_streams.specs.Maps.{changed}
use Rattle.model_streams.specs.Manager.{Catalog, is_there, least_told, decided_if, decide_rule, manager_rule}
use Rattle.model_streams.specs.Node.{Replica, extent_of}
use Rattle.model_streams.specs.Outcome.{Outcome, packet}
use Rattle.model_streams.specs.StreamSystem.{StreamSystem, is_request, is_present, burnt, after_node_rule, after_manager_rule, node_takes, node_performs, node_stops, node_halted, manager_takes, manager_performs, manager_stops, manager_halted, stops_in, stands_in, delivered, delivered_if, stop, restart, happens}
use Rattle.model_streams.proofs.Tests.{if_elim}
use Rattle.laws_streams.proofs.Choices.{each-contains, contains_get, contains_pushed}
use Rattle.laws_streams.proofs.DecisionAnswers as decision
use Rattle.laws_streams.proofs.NodeAnswers as node
use Rattle.laws_streams.proofs.PacketSources.{rule_of}
use Rattle.laws_map.proofs.Knowing.{each_has}
use Rattle.laws_clusters.proofs.NodeRefusals.{BodyOther, node_other}
use Rattle.laws_clusters.proofs.TakenNames.{Was, IsAskedFor, IsTakenFor, BodyFor, manager_step}

-- ---- packets

-- only a user asks to create a stream
abbrev pub CreatesFrom : ActorId → Body → Type 0
CreatesFrom from (bodies.Stream (streams.CreateStream s fence q)) = is_user from ≡ true
CreatesFrom from body = Unit {0}

-- it asks neither to build streams nor to complete a split, and to create one only if it is from a user
abbrev pub PlainFrom : ActorId → Body → Type 0
PlainFrom from (bodies.Stream (streams.CreateStream s fence q)) = is_user from ≡ true
PlainFrom from (bodies.Stream (streams.MultiModify list q)) = ⊥
PlainFrom from (bodies.Map (maps.CompleteSplit range generation q)) = ⊥
PlainFrom from body = Unit {0}

module _ (w : StreamSystem) where
  -- that a name is taken the manager says to who asked for it
  pub record SaysTaken (to : ActorId) (q : ReqNo) : Type 0 where
    pub taken : Packet
    pub stood : Contains w.post taken
    pub asker : to ≡ taken.from
    pub for : IsTakenFor w.catalog taken q

  abbrev pub RefusedFrom : ActorId → ActorId → ReqNo → Refusal → Type 0
  RefusedFrom from to q NameTaken = (is_user from ≡ true) ⊎ SaysTaken to q
  RefusedFrom from to q why = Unit {0}

  abbrev pub AppendFrom : ActorId → ActorId → AppendBody → Type 0
  AppendFrom from to (Refused q why) = RefusedFrom from to q why
  AppendFrom from to body = Unit {0}

  abbrev pub BodyFrom : ActorId → ActorId → Body → Type 0
  BodyFrom from to (bodies.Append body) = AppendFrom from to body
  BodyFrom from to body = Unit {0}

  abbrev pub IsNew : Packet → Type 0
  IsNew p = PlainFrom p.from p.body × BodyFrom p.from p.to p.body

  user_refuses : (from to : ActorId) (q : ReqNo) (why : Refusal) → is_user from ≡ true → RefusedFrom from to q why
  user_refuses from to q NameTaken user = inl user
  user_refuses from to q why user = tt

  user_new : (u : ℕ) (to : ActorId) (body : Body) → is_request body ≡ true → IsNew (packet (User u) to body)
  user_new u to (bodies.Stream (streams.CreateStream s fence q)) asks = (refl, tt)
  user_new u to (bodies.Stream (streams.MultiModify list q)) asks = absurd (let z : false ≡ true = asks in cc)
  user_new u to (bodies.Map (maps.CompleteSplit range generation q)) asks = absurd (let z : false ≡ true = asks in cc)
  user_new u to (bodies.Append (Refused q why)) asks = (tt, user_refuses (User u) to q why refl)
  user_new u to (bodies.Append body) asks = (tt, tt)
  user_new u to (bodies.Stream body) asks = (tt, tt)
  user_new u to (bodies.Map body) asks = (tt, tt)
  user_new u to body asks = (tt, tt)

  node_refuses : (from to : ActorId) (q : ReqNo) (why : Refusal) → BodyOther (bodies.Append (Refused q why)) → RefusedFrom from to q why
  node_refuses from to q NameTaken other = absurd other
  node_refuses from to q why other = tt

  node_new : (n : ℕ) (taken p : Packet) → Contains (rule_of w n taken).packets p → IsNew p
  node_new n taken p there = go p.body
      (each-contains (node.NodeTells n s (extent_of taken.body) taken notes) (rule_of w n taken).packets p (node.node_tells n s taken) there).1
      (each_has (λ (x : Packet). BodyOther x.body) (rule_of w n taken).packets p (node_other n taken s taken.body) there)
    where
      s : Option Replica
      s = w.replica n (extent_of taken.body)

      notes : List Note
      notes = (rule_of w n taken).notes

      go : (body : Body) → node.BodyTells s (extent_of taken.body) taken notes p.to body → BodyOther body → PlainFrom p.from body × BodyFrom p.from p.to body
      go (bodies.Append (Refused q why)) tells other = (tt, node_refuses p.from p.to q why other)
      go (bodies.Append body) tells other = (tt, tt)
      go (bodies.Stream body) tells other = absurd tells
      go (bodies.Map body) tells other = absurd tells
      go body tells other = (tt, tt)

  manager_refuses : (taken : Packet) → Contains w.post taken → (from to : ActorId) (q : ReqNo) (why : Refusal) → BodyFor w.catalog taken to (bodies.Append (Refused q why)) → RefusedFrom from to q why
  manager_refuses taken stood from to q NameTaken for = inr (record { taken = taken; stood = stood; asker = for.0; for = for.1 })
  manager_refuses taken stood from to q why for = tt

  manager_new : (taken p : Packet) → Contains w.post taken → Contains (manager_rule w.catalog taken taken.body).packets p → IsNew p
  manager_new taken p stood there = go p.body (each_has (λ (x : Packet). BodyFor w.catalog taken x.to x.body) (manager_rule w.catalog taken taken.body).packets p (manager_step w.catalog taken taken.body refl).packets there)
    where
      go : (body : Body) → BodyFor w.catalog taken p.to body → PlainFrom p.from body × BodyFrom p.from p.to body
      go (bodies.Append (Refused q why)) for = (tt, manager_refuses taken stood p.from p.to q why for)
      go (bodies.Append body) for = (tt, tt)
      go (bodies.Stream (streams.CreateStream s fence q)) for = absurd for
      go (bodies.Stream (streams.MultiModify list q)) for = absurd for
      go (bodies.Stream body) for = (tt, tt)
      go (bodies.Map body) for = absurd for
      go body for = (tt, tt)

  decision_new : (e : ℕ) (p : Packet) → Contains (decide_rule w.catalog e (w.catalog.extent e)).packets p → IsNew p
  decision_new e p there = go p.body (each-contains (decision.DecisionTells w.catalog e after) _ p (decision.decision_tells w.catalog e) there).1
    where
      after : Catalog
      after = (decide_rule w.catalog e (w.catalog.extent e)).after

      go : (body : Body) → decision.BodyTells w.catalog e after p.to body → PlainFrom p.from body × BodyFrom p.from p.to body
      go (bodies.Seal body) tells = (tt, tt)
      go (bodies.Append body) tells = absurd tells
      go (bodies.Stream body) tells = absurd tells
      go (bodies.Check body) tells = absurd tells
      go (bodies.Read body) tells = absurd tells
      go (bodies.Map body) tells = absurd tells
      go (bodies.Table body) tells = absurd tells

  -- ---- what is left

  -- a packet asked for the stream, and the manager took it
  pub record IsCome (v : StreamSystem) (s : StreamName) : Type 0 where
    pub taken : Packet
    pub stood : Contains w.post taken
    pub asked : IsAskedFor w.catalog taken s
    pub left : v.catalog.stream ≡ (manager_rule w.catalog taken taken.body).after.stream

  pub record LayerStep (v : StreamSystem) : Type 0 where
    pub sent : (p : Packet) → Contains v.post p → Contains w.post p ⊎ IsNew p
    pub streams : (s : StreamName) (z : Stream) → stream_of v.catalog.stream s ≡ Some z → Was w.catalog.stream s ⊎ IsCome v s

  -- nothing is sent, and no stream changes
  same_step : (v : StreamSystem) → v.post ≡ w.post → v.catalog.stream ≡ w.catalog.stream → LayerStep v
  same_step v post same = record {
    sent = λ p there. inl (subst (λ ps. Contains ps p) post there);
    streams = λ s z is. inl (z, ap (λ x. stream_of x s) (sym same) ∙ is);
  }

  more_sent : (v : StreamSystem) (packets : List Packet) → v.post ≡ w.post ++ packets → ((p : Packet) → Contains packets p → IsNew p) → (p : Packet) → Contains v.post p → Contains w.post p ⊎ IsNew p
  more_sent v packets post new p there = elim (Contains-append_cases w.post packets p (subst (λ ps. Contains ps p) post there)) [ inl old ↦ inl old | inr more ↦ inr (new p more) ]

  node_step : (n : ℕ) (taken : Packet) → LayerStep (node_takes w n taken)
  node_step n taken =
      if_elim LayerStep (w.cell n).up (node_performs w n (extent_of taken.body) (rule_of w n taken)) w
      (λ up. if_elim LayerStep (stops_in (w.cell n) (rule_of w n taken).written) _ _
      (λ t. if_elim LayerStep (stands_in (w.cell n)) _ _ (λ u. same_step _ (append-nil w.post) refl) (λ u. same_step _ refl refl))
      (λ t. record { sent = more_sent (after_node_rule (record w { cell = changed n (burnt (w.cell n) (rule_of w n taken).written) w.cell }) n (extent_of taken.body) (rule_of w n taken)) (rule_of w n taken).packets refl (λ p there. node_new n taken p there); streams = λ s z is. inl (z, is) }))
      (λ up. same_step w refl refl)

  -- the manager goes through a rule, or stops while it writes the rule's record
  manager_goes : (o : Outcome Catalog) → ((p : Packet) → Contains o.packets p → IsNew p) → ((v : StreamSystem) → v.catalog.stream ≡ o.after.stream → (s : StreamName) (z : Stream) → stream_of v.catalog.stream s ≡ Some z → Was w.catalog.stream s ⊎ IsCome v s) →
      LayerStep (manager_performs w o)
  manager_goes o new come =
      if_elim LayerStep (stops_in w.manager_cell o.written) _ _
      (λ t. if_elim LayerStep (stands_in w.manager_cell) _ _
      (λ u. record { sent = λ p there. inl (subst (λ ps. Contains ps p) (append-nil w.post) there); streams = come _ refl }) (λ u. same_step _ refl refl))
      (λ t. record { sent = more_sent (after_manager_rule (record w { manager_cell = burnt w.manager_cell o.written }) o) o.packets refl new; streams = come _ refl })

  manager_took : (taken : Packet) → Contains w.post taken → LayerStep (manager_takes w taken)
  manager_took taken stood =
      if_elim LayerStep w.manager_cell.up _ w
      (λ up. manager_goes (manager_rule w.catalog taken taken.body) (λ p there. manager_new taken p stood there)
      (λ v left s z is. elim ((manager_step w.catalog taken taken.body refl).streams s z (ap (λ x. stream_of x s) (sym left) ∙ is)) [
        | inl was ↦ inl was
        | inr asked ↦ inr (record { taken = taken; stood = stood; asked = asked; left = left })
      ]))
      (λ up. same_step w refl refl)

  decided_same : (e : ℕ) (o : Option Extent) → (decide_rule w.catalog e o).after.stream ≡ w.catalog.stream
  decided_same e None = refl
  decided_same e (Some x) = if_elim (λ (o : Outcome Catalog). o.after.stream ≡ w.catalog.stream) (is_there x.sealed) _ (decided_if w.catalog e x (least_told x)) (λ t. refl) (λ t. by (least_told x))
    where
      by : (l : Option ℕ) → (decided_if w.catalog e x l).after.stream ≡ w.catalog.stream
      by None = refl
      by (Some l) = refl

  decides_step : (e : ℕ) → LayerStep (happens w (Decide e))
  decides_step e =
      if_elim LayerStep w.manager_cell.up (manager_performs w (decide_rule w.catalog e (w.catalog.extent e))) w
      (λ up. manager_goes (decide_rule w.catalog e (w.catalog.extent e)) (λ p there. decision_new e p there) (λ v left s z is. inl (z, ap (λ x. stream_of x s) (sym (left ∙ decided_same e (w.catalog.extent e))) ∙ is)))
      (λ up. same_step w refl refl)

  delivered_step : (p : Packet) → Contains w.post p → (to : ActorId) → LayerStep (delivered w p to)
  delivered_step p stood (Node n) = node_step n p
  delivered_step p stood Manager = manager_took p stood
  delivered_step p stood Map = same_step w refl refl
  delivered_step p stood (Server s) = same_step w refl refl
  delivered_step p stood (User u) = same_step w refl refl

  delivered_if_step : (number : ℕ) (o : Option Packet) → slice_get w.post number ≡ o → LayerStep (delivered_if w o)
  delivered_if_step number None at = same_step w refl refl
  delivered_if_step number (Some p) at = delivered_step p (contains_get w.post number p at) p.to

  stop_step : (actor : ActorId) (call : ℕ) (keep : Bool) → LayerStep (stop w actor call keep)
  stop_step (Node n) call keep =
      if_elim LayerStep (w.cell n).up (node_stops w n call keep) w (λ t. if_elim LayerStep (call == 0) (node_halted w n) _ (λ u. same_step _ refl refl) (λ u. same_step _ refl refl)) (λ t. same_step w refl refl)
  stop_step Manager call keep =
      if_elim LayerStep w.manager_cell.up (manager_stops w call keep) w (λ t. if_elim LayerStep (call == 0) (manager_halted w) _ (λ u. same_step _ refl refl) (λ u. same_step _ refl refl)) (λ t. same_step w refl refl)
  stop_step Map call keep = same_step w refl refl
  stop_step (Server s) call keep = same_step w refl refl
  stop_step (User u) call keep = same_step w refl refl

  restart_step : (actor : ActorId) → LayerStep (restart w actor)
  restart_step (Node n) = if_elim LayerStep ((w.cell n).up || not (is_present w n)) w _ (λ t. same_step w refl refl) (λ t. same_step _ refl refl)
  restart_step Manager = if_elim LayerStep w.manager_cell.up w _ (λ t. same_step w refl refl) (λ t. same_step _ refl refl)
  restart_step Map = same_step w refl refl
  restart_step (Server s) = same_step w refl refl
  restart_step (User u) = same_step w refl refl

  submit_step : (u : ℕ) (to : ActorId) (body : Body) → LayerStep (happens w (Submit u to body))
  submit_step u to body =
      if_elim LayerStep (is_request body) _ w
      (λ t. record { sent = λ p there. elim (contains_pushed w.post (packet (User u) to body) p there) [ inl old ↦ inl old | inr same ↦ inr (subst IsNew (sym same) (user_new u to body t)) ]; streams = λ s z is. inl (z, is) })
      (λ t. same_step w refl refl)

  pub layer_step : (event : Event) → LayerStep (happens w event)
  layer_step (Submit user to body) = submit_step user to body
  layer_step (Deliver number) = delivered_if_step number (slice_get w.post number) refl
  layer_step (Stop actor call keep) = stop_step actor call keep
  layer_step (Restart actor) = restart_step actor
  layer_step (Decide e) = decides_step e
  layer_step (GiveUp server range pick) = same_step w refl refl
  layer_step (Assign range server until) = same_step w refl refl
  layer_step (Renew range server until) = same_step w refl refl
  layer_step (Moment now) = same_step w refl refl
  layer_step (Checkpoint server range combine) = same_step w refl refl
  layer_step (Split server range key) = same_step w refl refl
  layer_step (Merge server left right) = same_step w refl refl
