-- What the stream layer and the map send asks for no streams of splits and for no end of one; and which streams come to be in the stream layer:
-- users' own, and those of a list that the manager takes.
use Rattle.std.proofs.Common.{◌≡◌, ◌⊎◌, ℕ, Bool, true, not, ◌||◌, ◌==◌, List, [], ◌∷◌, ◌++◌, Option, Some, None, slice_get, Contains, refl, sym, ◌∙◌, subst, inl, inr, arith}
use Rattle.std.proofs.lemmas.List.Elements.{Contains-append_cases}
use Rattle.wire.specs.declared.actor.ActorId.{ActorId}
use Rattle.wire.specs.declared.actor.ActorId.TheVariants.{Node, Manager, Map, Server, User}
use Rattle.wire.specs.declared.actor.ReqNo.{ReqNo}
use Rattle.wire.specs.declared.body.MapBody.{MapBody}
use Rattle.wire.specs.declared.body.MapBody.TheVariants as maps
use Rattle.wire.specs.declared.body.StreamBody.{StreamBody}
use Rattle.wire.specs.declared.body.StreamBody.TheVariants as streams
use Rattle.wire.specs.declared.body.Body.{Body}
use Rattle.wire.specs.declared.body.Body.TheVariants as bodies
use Rattle.wire.specs.declared.note.Note.{Note}
use Rattle.wire.specs.declared.packet.Packet.{Packet}
use Rattle.wire.specs.declared.streams.StreamName.{StreamName}
use Rattle.model_streams.specs.declared.event.Event.{Event}
use Rattle.model_streams.specs.declared.event.Event.TheVariants.{Submit, Deliver, Stop, Restart, Decide, GiveUp, Assign, Renew, Moment, Checkpoint, Split, Merge}
use Rattle.model_streams.specs.Manager as catalog
use Rattle.model_streams.specs.Manager.{Catalog}
use Rattle.model_streams.specs.Node as table
use Rattle.model_streams.specs.Node.{Replica}
use Rattle.model_streams.specs.Outcome.{Outcome, packet}
use Rattle.model_streams.specs.StreamSystem.{StreamSystem, stops_in, stands_in, node_halted, node_performs, manager_halted, manager_performs, sent_more, delivered, delivered_if, is_request, node_stops, manager_stops, stop, is_present, restart, happens}
use Rattle.model_streams.proofs.Tests.{if_elim}
use Rattle.model_partition.specs.Map.{MapState}
use Rattle.laws_streams.proofs.Choices.{each-contains, contains_pushed}
use Rattle.laws_streams.proofs.ManagerAnswers as manager
use Rattle.laws_streams.proofs.NodeAnswers as node
use Rattle.laws_streams.proofs.DecisionAnswers as decision
use Rattle.laws_map.proofs.Knowing.{each_has}
use Rattle.laws_map.proofs.UsedNumbers.{BodyUses, TellsUsed}
use Rattle.laws_map.proofs.StagesStand.{IsApart}

-- ---- packets

-- the body of another than a user
abbrev IsPlain : Body → Type 0
IsPlain (bodies.Stream (streams.MultiModify list q)) = ⊥
IsPlain (bodies.Stream (streams.CreateStream s fence q)) = ⊥
IsPlain (bodies.Map (maps.CompleteSplit range generation q)) = ⊥
IsPlain body = Unit {0}

plain_apart : (p : Packet) → IsPlain p.body → IsApart p
plain_apart p plain = record {
  builds = λ list q is. subst IsPlain is plain;
  creates = λ s fence q is. absurd (subst IsPlain is plain);
  ends = λ range generation q is. subst IsPlain is plain;
}

node_plain : (s : Option Replica) (k : ℕ) (taken : Packet) (notes : List Note) (to : ActorId) (body : Body) → node.BodyTells s k taken notes to body → IsPlain body
node_plain s k taken notes to (bodies.Stream body) tells = absurd tells
node_plain s k taken notes to (bodies.Map body) tells = absurd tells
node_plain s k taken notes to body tells = tt

decision_plain : (b : Catalog) (e : ℕ) (after : Catalog) (to : ActorId) (body : Body) → decision.BodyTells b e after to body → IsPlain body
decision_plain b e after to (bodies.Stream body) tells = absurd tells
decision_plain b e after to (bodies.Map body) tells = absurd tells
decision_plain b e after to body tells = tt

manager_stream : (b : Catalog) (taken : Packet) (to : ActorId) (body : StreamBody) → manager.StreamTells b taken to body → IsPlain (bodies.Stream body)
manager_stream b taken to (streams.MultiModify list q) tells = absurd tells
manager_stream b taken to (streams.CreateStream s fence q) tells = absurd tells
manager_stream b taken to body tells = tt

manager_plain : (b : Catalog) (taken : Packet) (to : ActorId) (body : Body) → manager.BodyTells b taken to body → IsPlain body
manager_plain b taken to (bodies.Stream body) tells = manager_stream b taken to body tells
manager_plain b taken to (bodies.Map body) tells = absurd tells
manager_plain b taken to body tells = tt

-- what users ask
request_builds : (body : Body) → is_request body ≡ true → IsPlain body ⊎ ((s : StreamName) × (fence : ℕ) × (q : ReqNo) × (body ≡ bodies.Stream (streams.CreateStream s fence q)))
request_builds (bodies.Stream (streams.MultiModify list q)) is = absurd cc
request_builds (bodies.Stream (streams.CreateStream s fence q)) is = inr (s, fence, q, refl)
request_builds (bodies.Map (maps.CompleteSplit range generation q)) is = absurd cc
request_builds body is = inl tt

request_apart : (user : ℕ) (to : ActorId) (body : Body) → is_request body ≡ true → IsApart (packet (User user) to body)
request_apart user to body is = elim (request_builds body is) [
  | inl plain ↦ plain_apart (packet (User user) to body) plain
  | inr (s, fence, q, same) ↦ record {
    builds = λ list r e. (let z : bodies.Stream (streams.CreateStream s fence q) ≡ bodies.Stream (streams.MultiModify list r) = sym same ∙ e in cc);
    creates = λ n f r e. refl;
    ends = λ range generation r e. (let z : bodies.Stream (streams.CreateStream s fence q) ≡ bodies.Map (maps.CompleteSplit range generation r) = sym same ∙ e in cc);
  }
]

-- what the map tells
used_map : (m : MapState) (body : MapBody) → BodyUses m (bodies.Map body) → IsPlain (bodies.Map body)
used_map m (maps.CompleteSplit range generation q) u = absurd u
used_map m body u = tt

used_plain : (m : MapState) (body : Body) → BodyUses m body → IsPlain body
used_plain m (bodies.Stream body) u = absurd u
used_plain m (bodies.Map body) u = used_map m body u
used_plain m body u = tt

pub told_apart : (o : Outcome MapState) → TellsUsed o → (p : Packet) → Contains o.packets p → IsApart p
told_apart o u p there = plain_apart p (used_plain o.after p.body (each_has (λ (x : Packet). BodyUses o.after x.body) o.packets p u there))

-- ---- an event of the stream layer

module _ (w : StreamSystem) where
  abbrev Apart : StreamSystem → Type 0
  Apart v = (p : Packet) → Contains v.post p → Contains w.post p ⊎ IsApart p

  none_more : (p : Packet) → Contains (w.post ++ []) p → Contains w.post p
  none_more p there = elim (Contains-append_cases w.post [] p there) [ inl old ↦ old | inr new ↦ absurd (let less = new.1 in omega (arith, less)) ]

  node_apart : (n e : ℕ) (o : Outcome (Option Replica)) → ((p : Packet) → Contains o.packets p → IsPlain p.body) → Apart (node_performs w n e o)
  node_apart n e o plain =
      if_elim Apart (stops_in (w.cell n) o.written) _ _
      (λ s. if_elim Apart (stands_in (w.cell n)) _ _ (λ t p there. inl (none_more p there)) (λ t p there. inl there))
      (λ s p there. elim (Contains-append_cases w.post o.packets p there) [ inl old ↦ inl old | inr new ↦ inr (plain_apart p (plain p new)) ])

  manager_apart : (o : Outcome Catalog) → ((p : Packet) → Contains o.packets p → IsPlain p.body) → Apart (manager_performs w o)
  manager_apart o plain =
      if_elim Apart (stops_in w.manager_cell o.written) _ _
      (λ s. if_elim Apart (stands_in w.manager_cell) _ _ (λ t p there. inl (none_more p there)) (λ t p there. inl there))
      (λ s p there. elim (Contains-append_cases w.post o.packets p there) [ inl old ↦ inl old | inr new ↦ inr (plain_apart p (plain p new)) ])

  delivered_apart : (taken : Packet) (to : ActorId) → Apart (delivered w taken to)
  delivered_apart taken (Node n) =
      let e = table.extent_of taken.body in
      let o = table.node_rule n (w.replica n e) taken taken.body in
      if_elim Apart (w.cell n).up (node_performs w n e o) w
      (λ up. node_apart n e o (λ x there. node_plain (w.replica n e) e taken o.notes x.to x.body (each-contains (node.NodeTells n (w.replica n e) e taken o.notes) o.packets x (node.node_tells n (w.replica n e) taken) there).1))
      (λ up p there. inl there)
  delivered_apart taken Manager =
      let o = catalog.manager_rule w.catalog taken taken.body in
      if_elim Apart w.manager_cell.up (manager_performs w o) w
      (λ up. manager_apart o (λ x there. manager_plain w.catalog taken x.to x.body (each-contains (manager.ManagerTells w.catalog taken) o.packets x (manager.manager_tells w.catalog taken) there).1))
      (λ up p there. inl there)
  delivered_apart taken Map = λ p there. inl there
  delivered_apart taken (Server s) = λ p there. inl there
  delivered_apart taken (User u) = λ p there. inl there

  delivered_if_apart : (o : Option Packet) → Apart (delivered_if w o)
  delivered_if_apart None = λ p there. inl there
  delivered_if_apart (Some taken) = delivered_apart taken taken.to

  stop_apart : (actor : ActorId) (call : ℕ) (keep : Bool) → Apart (stop w actor call keep)
  stop_apart (Node n) call keep =
      if_elim Apart (w.cell n).up (node_stops w n call keep) w (λ t. if_elim Apart (call == 0) (node_halted w n) _ (λ z p there. inl there) (λ z p there. inl there)) (λ t p there. inl there)
  stop_apart Manager call keep =
      if_elim Apart w.manager_cell.up (manager_stops w call keep) w (λ t. if_elim Apart (call == 0) (manager_halted w) _ (λ z p there. inl there) (λ z p there. inl there)) (λ t p there. inl there)
  stop_apart Map call keep = λ p there. inl there
  stop_apart (Server s) call keep = λ p there. inl there
  stop_apart (User u) call keep = λ p there. inl there

  restart_apart : (actor : ActorId) → Apart (restart w actor)
  restart_apart (Node n) = if_elim Apart ((w.cell n).up || not (is_present w n)) w _ (λ t p there. inl there) (λ t p there. inl there)
  restart_apart Manager = if_elim Apart w.manager_cell.up w _ (λ t p there. inl there) (λ t p there. inl there)
  restart_apart Map = λ p there. inl there
  restart_apart (Server s) = λ p there. inl there
  restart_apart (User u) = λ p there. inl there

  submit_apart : (user : ℕ) (to : ActorId) (body : Body) → is_request body ≡ true → Apart (sent_more w (packet (User user) to body ∷ []))
  submit_apart user to body asked p there = elim (contains_pushed w.post (packet (User user) to body) p there) [
    | inl old ↦ inl old
    | inr same ↦ inr (subst IsApart (sym same) (request_apart user to body asked))
  ]

  pub happens_apart : (event : Event) → Apart (happens w event)
  happens_apart (Submit user to body) = if_elim Apart (is_request body) _ w (λ t. submit_apart user to body t) (λ t p there. inl there)
  happens_apart (Deliver number) = delivered_if_apart (slice_get w.post number)
  happens_apart (Stop actor call keep) = stop_apart actor call keep
  happens_apart (Restart actor) = restart_apart actor
  happens_apart (Decide e) =
      let o = catalog.decide_rule w.catalog e (w.catalog.extent e) in
      if_elim Apart w.manager_cell.up (manager_performs w o) w
      (λ up. manager_apart o (λ x there. decision_plain w.catalog e o.after x.to x.body (each-contains (decision.DecisionTells w.catalog e o.after) o.packets x (decision.decision_tells w.catalog e) there).1))
      (λ up p there. inl there)
  happens_apart (GiveUp server range pick) = λ p there. inl there
  happens_apart (Assign range server until) = λ p there. inl there
  happens_apart (Renew range server until) = λ p there. inl there
  happens_apart (Moment now) = λ p there. inl there
  happens_apart (Checkpoint server range combine) = λ p there. inl there
  happens_apart (Split server range key) = λ p there. inl there
  happens_apart (Merge server one other) = λ p there. inl there
