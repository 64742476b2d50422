-- Where packets come from: each was asked or told by a move, or is sent by the rule of a packet that was delivered.
use Rattle.std.proofs.Common.{◌≡◌, ◌⊎◌, ℕ, Bool, true, false, not, ◌||◌, ◌==◌, List, [], ◌∷◌, ◌++◌, Option, Some, None, slice_get, Contains, refl, sym, ap, ◌∙◌, inl, inr, arith, subst, append-nil}
use Rattle.std.proofs.lemmas.List.Elements.{Contains-append_left, Contains-append_cases}
use Rattle.wire.specs.declared.actor.ActorId.{ActorId}
use Rattle.wire.specs.declared.actor.ActorId.TheVariants.{Node, Manager, Map, Server, User}
use Rattle.wire.specs.declared.body.Body.{Body}
use Rattle.wire.specs.declared.note.Note.{Note}
use Rattle.wire.specs.declared.packet.Packet.{Packet}
use Rattle.model_streams.specs.declared.event.Event.{Event}
use Rattle.model_streams.specs.declared.event.Event.TheVariants.{Submit, Deliver, Stop, Restart, Decide, GiveUp, Assign, Renew, Moment, Checkpoint, Split, Merge}
use Rattle.model_streams.specs.Manager.{Catalog, manager_rule, decide_rule}
use Rattle.model_streams.specs.Node.{Replica, extent_of, node_rule}
use Rattle.model_streams.specs.Outcome.{Outcome, packet}
use Rattle.model_streams.specs.StreamSystem.{StreamSystem, stops_in, stands_in, unsent, node_halted, after_node_rule, node_performs, node_takes, manager_halted, after_manager_rule, manager_performs, sent_more, delivered, delivered_if, is_request, node_stops, manager_stops, stop, is_present, restart, happens, is_server_call, is_told, is_table_note, start, Move, moved, run_moves}
use Rattle.model_streams.specs.StreamSystem.Move.{Happens, Asks, Says, Observes}
use Rattle.model_streams.proofs.Tests.{if_elim}
use Rattle.laws_streams.specs.Fences.{Reaches}
use Rattle.laws_streams.proofs.Choices.{contains_get, contains_pushed}

-- ---- who sends

-- a user or a server asks it, or somebody tells what no node takes
abbrev pub IsSpoken : Packet → Type 0
IsSpoken p = (is_request p.body ≡ true) ⊎ (((server : ℕ) × (p.from ≡ Server server) × (is_server_call p.body ≡ true)) ⊎ (is_told p.body ≡ true))

-- the rule of a packet that is delivered to a node
abbrev pub rule_of : StreamSystem → ℕ → Packet → Outcome (Option Replica)
rule_of w n taken = node_rule n (w.replica n (extent_of taken.body)) taken taken.body

-- from w to v the move delivers a packet to a node, which goes through its rule
pub record NodeSends (w : StreamSystem) (move : Move) (v : StreamSystem) (p : Packet) : Type 0 where
  pub node : ℕ
  pub taken : Packet
  pub stood : Contains w.post taken
  pub to : taken.to ≡ Node node
  pub rule : Contains (rule_of w node taken).packets p
  pub notes : v.notes ≡ w.notes ++ (rule_of w node taken).notes

-- from w to v the move delivers a packet to the manager, which goes through its rule
pub record ManagerSends (w : StreamSystem) (move : Move) (v : StreamSystem) (p : Packet) : Type 0 where
  pub taken : Packet
  pub reaches : Reaches w move taken
  pub rule : Contains (manager_rule w.catalog taken taken.body).packets p
  pub runs : stops_in w.manager_cell (manager_rule w.catalog taken taken.body).written ≡ false
  pub catalog : v.catalog ≡ (manager_rule w.catalog taken taken.body).after

-- from w to v the manager decides on an extent
pub record DecisionSends (w v : StreamSystem) (p : Packet) : Type 0 where
  pub extent : ℕ
  pub rule : Contains (decide_rule w.catalog extent (w.catalog.extent extent)).packets p
  pub catalog : v.catalog ≡ (decide_rule w.catalog extent (w.catalog.extent extent)).after

abbrev pub Sends : StreamSystem → Move → StreamSystem → Packet → Type 0
Sends w move v p = IsSpoken p ⊎ (NodeSends w move v p ⊎ (ManagerSends w move v p ⊎ DecisionSends w v p))

-- the second stream system has the post and the notes of the first, and whatever else is in its post is sent by the move
pub record Gains (w : StreamSystem) (move : Move) (v : StreamSystem) : Type 0 where
  pub post : (p : Packet) → Contains w.post p → Contains v.post p
  pub notes : (x : Note) → Contains w.notes x → Contains v.notes x
  pub sends : (p : Packet) → Contains v.post p → Contains w.post p ⊎ Sends w move v p

-- ---- one move

same_gains : (w : StreamSystem) (move : Move) (v : StreamSystem) → v.post ≡ w.post → (more : List Note) → v.notes ≡ w.notes ++ more → Gains w move v
same_gains w move v same more notes = record {
  post = λ p c. subst (λ xs. Contains xs p) (sym same) c;
  notes = λ x c. subst (λ xs. Contains xs x) (sym notes) (Contains-append_left w.notes more x c);
  sends = λ p c. inl (subst (λ xs. Contains xs p) same c);
}

-- nothing is sent, and nothing is observed
unmoved_gains : (w : StreamSystem) (move : Move) (v : StreamSystem) → v.post ≡ w.post → v.notes ≡ w.notes → Gains w move v
unmoved_gains w move v same notes = same_gains w move v same [] (notes ∙ sym (append-nil w.notes))

spoken_gains : (w : StreamSystem) (move : Move) (from to : ActorId) (body : Body) → IsSpoken (packet from to body) → Gains w move (sent_more w (packet from to body ∷ []))
spoken_gains w move from to body spoken = record {
  post = λ p c. Contains-append_left w.post (packet from to body ∷ []) p c;
  notes = λ x c. c;
  sends = λ p c. elim (contains_pushed w.post (packet from to body) p c) [
    | inl a ↦ inl a
    | inr s ↦ inr (inl (subst IsSpoken (sym s) spoken))
  ];
}

node_gains : (w : StreamSystem) (move : Move) (n : ℕ) (taken : Packet) → Contains w.post taken → taken.to ≡ Node n → Gains w move (node_takes w n taken)
node_gains w move n taken stood to =
    let e = extent_of taken.body in
    let o = rule_of w n taken in
    if_elim (Gains w move) (w.cell n).up (node_performs w n e o) w
    (λ up. if_elim (Gains w move) (stops_in (w.cell n) o.written) _ _
    (λ s. if_elim (Gains w move) (stands_in (w.cell n)) _ _
    (λ t. same_gains w move (node_halted (after_node_rule w n e (unsent o)) n) (append-nil w.post) o.notes refl)
    (λ t. unmoved_gains w move (node_halted w n) refl refl))
    (λ s. record {
      post = λ p c. Contains-append_left w.post o.packets p c;
      notes = λ x c. Contains-append_left w.notes o.notes x c;
      sends = λ p c. elim (Contains-append_cases w.post o.packets p c) [
        | inl a ↦ inl a
        | inr a ↦ inr (inr (inl (record { node = n; taken = taken; stood = stood; to = to; rule = a; notes = refl })))
      ];
    }))
    (λ up. unmoved_gains w move w refl refl)

-- the manager goes through a rule
manager_gains : (w : StreamSystem) (move : Move) (o : Outcome Catalog) → w.manager_cell.up ≡ true →
    ((v : StreamSystem) (p : Packet) → Contains o.packets p → stops_in w.manager_cell o.written ≡ false → v.catalog ≡ o.after → Sends w move v p) →
    Gains w move (manager_performs w o)
manager_gains w move o up sends =
    if_elim (Gains w move) (stops_in w.manager_cell o.written) _ _
    (λ s. if_elim (Gains w move) (stands_in w.manager_cell) _ _
    (λ t. same_gains w move (manager_halted (after_manager_rule w (unsent o))) (append-nil w.post) o.notes refl)
    (λ t. unmoved_gains w move (manager_halted w) refl refl))
    (λ s. record {
      post = λ p c. Contains-append_left w.post o.packets p c;
      notes = λ x c. Contains-append_left w.notes o.notes x c;
      sends = λ p c. elim (Contains-append_cases w.post o.packets p c) [ inl a ↦ inl a | inr a ↦ inr (sends _ p a s refl) ];
    })

delivered_gains : (w : StreamSystem) (number : ℕ) (p : Packet) (to : ActorId) → p.to ≡ to → slice_get w.post number ≡ Some p →
    Gains w (Happens (Deliver number)) (delivered w p to)
delivered_gains w number p (Node n) to sent = node_gains w (Happens (Deliver number)) n p (contains_get w.post number p sent) to
delivered_gains w number p Manager to sent =
    let move = Happens (Deliver number) in
    let o = manager_rule w.catalog p p.body in
    if_elim (Gains w move) w.manager_cell.up (manager_performs w o) w
    (λ up. manager_gains w move o up
    (λ v x c runs catalog. inr (inr (inl (record {
      taken = p;
      reaches = record { number = number; delivered = refl; sent = sent; to = to; up = up };
      rule = c;
      runs = runs;
      catalog = catalog;
    })))))
    (λ up. unmoved_gains w move w refl refl)
delivered_gains w number p Map to sent = unmoved_gains w (Happens (Deliver number)) w refl refl
delivered_gains w number p (Server s) to sent = unmoved_gains w (Happens (Deliver number)) w refl refl
delivered_gains w number p (User u) to sent = unmoved_gains w (Happens (Deliver number)) w refl refl

delivered_if_gains : (w : StreamSystem) (number : ℕ) (o : Option Packet) → slice_get w.post number ≡ o → Gains w (Happens (Deliver number)) (delivered_if w o)
delivered_if_gains w number None is = unmoved_gains w (Happens (Deliver number)) w refl refl
delivered_if_gains w number (Some p) is = delivered_gains w number p p.to refl is

stop_gains : (w : StreamSystem) (move : Move) (actor : ActorId) (call : ℕ) (keep : Bool) → Gains w move (stop w actor call keep)
stop_gains w move (Node n) call keep =
    if_elim (Gains w move) (w.cell n).up (node_stops w n call keep) w
    (λ t. if_elim (Gains w move) (call == 0) (node_halted w n) _ (λ _. unmoved_gains w move _ refl refl) (λ _. unmoved_gains w move _ refl refl))
    (λ f. unmoved_gains w move w refl refl)
stop_gains w move Manager call keep =
    if_elim (Gains w move) w.manager_cell.up (manager_stops w call keep) w
    (λ t. if_elim (Gains w move) (call == 0) (manager_halted w) _ (λ _. unmoved_gains w move _ refl refl) (λ _. unmoved_gains w move _ refl refl))
    (λ f. unmoved_gains w move w refl refl)
stop_gains w move Map call keep = unmoved_gains w move w refl refl
stop_gains w move (Server s) call keep = unmoved_gains w move w refl refl
stop_gains w move (User u) call keep = unmoved_gains w move w refl refl

restart_gains : (w : StreamSystem) (move : Move) (actor : ActorId) → Gains w move (restart w actor)
restart_gains w move (Node n) =
    if_elim (Gains w move) ((w.cell n).up || not (is_present w n)) w _ (λ _. unmoved_gains w move w refl refl) (λ _. unmoved_gains w move _ refl refl)
restart_gains w move Manager = if_elim (Gains w move) w.manager_cell.up w _ (λ _. unmoved_gains w move w refl refl) (λ _. unmoved_gains w move _ refl refl)
restart_gains w move Map = unmoved_gains w move w refl refl
restart_gains w move (Server s) = unmoved_gains w move w refl refl
restart_gains w move (User u) = unmoved_gains w move w refl refl

happens_gains : (w : StreamSystem) (event : Event) → Gains w (Happens event) (happens w event)
happens_gains w (Submit user to body) =
    let move = Happens (Submit user to body) in
    if_elim (Gains w move) (is_request body) _ w (λ t. spoken_gains w move (User user) to body (inl t)) (λ f. unmoved_gains w move w refl refl)
happens_gains w (Deliver number) = delivered_if_gains w number (slice_get w.post number) refl
happens_gains w (Stop actor call keep) = stop_gains w (Happens (Stop actor call keep)) actor call keep
happens_gains w (Restart actor) = restart_gains w (Happens (Restart actor)) actor
happens_gains w (Decide e) =
    let move = Happens (Decide e) in
    let o = decide_rule w.catalog e (w.catalog.extent e) in
    if_elim (Gains w move) w.manager_cell.up (manager_performs w o) w
    (λ up. manager_gains w move o up (λ v x c runs catalog. inr (inr (inr (record { extent = e; rule = c; catalog = catalog })))))
    (λ up. unmoved_gains w move w refl refl)
happens_gains w (GiveUp server range pick) = unmoved_gains w (Happens (GiveUp server range pick)) w refl refl
happens_gains w (Assign range server until) = unmoved_gains w (Happens (Assign range server until)) w refl refl
happens_gains w (Renew range server until) = unmoved_gains w (Happens (Renew range server until)) w refl refl
happens_gains w (Moment now) = unmoved_gains w (Happens (Moment now)) w refl refl
happens_gains w (Checkpoint server range combine) = unmoved_gains w (Happens (Checkpoint server range combine)) w refl refl
happens_gains w (Split server range key) = unmoved_gains w (Happens (Split server range key)) w refl refl
happens_gains w (Merge server left right) = unmoved_gains w (Happens (Merge server left right)) w refl refl

pub moved_gains : (w : StreamSystem) (move : Move) → Gains w move (moved w move)
moved_gains w (Happens event) = happens_gains w event
moved_gains w (Asks server to body) =
    let move = Asks server to body in
    if_elim (Gains w move) (is_server_call body) _ w (λ t. spoken_gains w move (Server server) to body (inr (inl (server, refl, t)))) (λ f. unmoved_gains w move w refl refl)
moved_gains w (Says from to body) =
    let move = Says from to body in
    if_elim (Gains w move) (is_told body) _ w (λ t. spoken_gains w move from to body (inr (inr t))) (λ f. unmoved_gains w move w refl refl)
moved_gains w (Observes note) =
    let move = Observes note in
    if_elim (Gains w move) (is_table_note note) _ w (λ t. same_gains w move (record w { notes = w.notes ++ note ∷ [] }) refl (note ∷ []) refl) (λ f. unmoved_gains w move w refl refl)

-- ---- runs

pub post_stays : (moves : List Move) (w : StreamSystem) (p : Packet) → Contains w.post p → Contains (run_moves moves w).post p
post_stays [] w p c = c
post_stays (move ∷ moves) w p c = post_stays moves (moved w move) p ((moved_gains w move).post p c)

pub notes_stay : (moves : List Move) (w : StreamSystem) (x : Note) → Contains w.notes x → Contains (run_moves moves w).notes x
notes_stay [] w x c = c
notes_stay (move ∷ moves) w x c = notes_stay moves (moved w move) x ((moved_gains w move).notes x c)

-- one of these moves sent the packet
pub record SentIn (moves : List Move) (w : StreamSystem) (p : Packet) : Type 0 where
  pub past : List Move
  pub move : Move
  pub rest : List Move
  pub split : moves ≡ past ++ move ∷ rest
  pub sends : Sends (run_moves past w) move (moved (run_moves past w) move) p

pub sent_in : (moves : List Move) (w : StreamSystem) (p : Packet) → Contains (run_moves moves w).post p → Contains w.post p ⊎ SentIn moves w p
sent_in [] w p c = inl c
sent_in (move ∷ moves) w p c =
    elim (sent_in moves (moved w move) p c) [
      | inl a ↦ elim ((moved_gains w move).sends p a) [
        | inl b ↦ inl b
        | inr b ↦ inr (record { past = []; move = move; rest = moves; split = refl; sends = b })
      ]
      | inr a ↦ inr (record { past = move ∷ a.past; move = a.move; rest = a.rest; split = ap (λ xs. move ∷ xs) a.split; sends = a.sends })
    ]

-- from the start every packet was sent by a move
pub sent_first : (nodes target : ℕ) (moves : List Move) (p : Packet) → Contains (run_moves moves (start nodes target)).post p → SentIn moves (start nodes target) p
sent_first nodes target moves p c = elim (sent_in moves (start nodes target) p c) [ inl a ↦ absurd (omega (arith, a.1)) | inr a ↦ a ]
