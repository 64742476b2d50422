-- What each event does to the stream layer, beside what it does to the model's.
use Rattle.std.proofs.Common.{◌≡◌, ◌≤◌, ◌<◌, ℕ, Bool, true, false, List, [], ◌∷◌, ◌++◌, Option, Some, None, Result, Ok, Err, OnOk, refl, sym, ap, ◌∙◌, subst, take, ◌+◌, slice_get, slice_index_or, length, zero, suc, if◌then◌else◌, arith, append-nil}
use Rattle.std.proofs.Math.Seq.{take-suc}
use Rattle.std.specs.declared.alloc.AllocError.{AllocError}
use Rattle.std.proofs.lemmas.Option.{same_Some}
use Rattle.wire.specs.declared.actor.ActorId.{ActorId}
use Rattle.wire.specs.declared.actor.ActorId.TheVariants.{Node, Manager, Map, Server, User}
use Rattle.wire.specs.declared.body.Body.{Body}
use Rattle.wire.specs.declared.note.Note.{Note}
use Rattle.wire.specs.declared.packet.Packet.{Packet}
use Rattle.wire.specs.declared.packet.Step.{Step}
use Rattle.model_streams.specs.declared.event.Event.{Event}
use Rattle.model_streams.specs.declared.event.Event.TheVariants.{Submit, Deliver, Decide}
use Rattle.model_streams.specs.Node.{Replica}
use Rattle.model_streams.specs.Outcome.{packet}
use Rattle.model_streams.specs.StreamSystem.Move.{Asks}
use Rattle.model_streams.specs.StreamSystem.{StreamSystem, ActorCell, happens, moved, is_request, is_server_call, sent_more, delivered, delivered_if, node_takes, manager_takes, manager_decides, restart, run, start}
use Rattle.model_streams.proofs.Tests.{if_elim}
use Rattle.block_types.specs.Limits.{IsTarget}
use Rattle.world_stops.specs.Plan.{plan_of}
use Rattle.world_steps.specs.ActorStep.{ActorStep, nothing, stream_step}
use Rattle.world_nodes.specs.Seen.{NodeSeen}
use Rattle.world_manager.specs.Seen.{ManagerSeen, ManagerMirrors, ManagerSimulates, ManagerSteps, RecordsMakeCatalog, CatalogMirrors, new_manager}
use Rattle.world_manager.proofs.ManagerSimulation.{new_mirrors}
use Rattle.world_streams.specs.Nodes.{NodesMirror, NodesStep, first_nodes}
use Rattle.world_streams.specs.StreamLayer.{StreamLayerState, StreamLayerMirrors, ActorsStep}
use Rattle.world_streams.proofs.Entries.{entry_beyond}
use Rattle.world_streams.proofs.NodeList.{begun}
use Rattle.model_streams.specs.Manager.{Catalog}

-- what is said of nodes says nothing of the packets, the observations and the catalog
pub nodes_as : (xs : List NodeSeen) (w v : StreamSystem) → NodesMirror xs w → v.replica ≡ w.replica → v.cell ≡ w.cell → v.nodes ≡ w.nodes → NodesMirror xs v
nodes_as xs w v m replicas cells count = record {
  each = λ n x e. let k = m.each n x e in record {
    number = k.number;
    replica = λ j. k.replica j ∙ sym (ap (λ (f : ℕ → ℕ → Option Replica). f n j) replicas);
    up = ap (λ (c : ℕ → ActorCell). (c n).up) cells ∙ k.up;
    plan = λ up. k.plan up ∙ ap (λ (c : ℕ → ActorCell). plan_of (c n)) (sym cells);
  };
  absent = λ n e. ap (λ (c : ℕ → ActorCell). (c n).up) cells ∙ m.absent n e;
  count = count ∙ m.count;
}

-- and what is said of the manager says nothing of the packets, the observations and the nodes
pub manager_as : (x : ManagerSeen) (w v : StreamSystem) → ManagerMirrors x w → v.catalog ≡ w.catalog → v.manager_cell ≡ w.manager_cell → ManagerMirrors x v
manager_as x w v m catalog manager = record {
  running = λ up. subst (λ (b : Catalog). CatalogMirrors x b) (sym catalog) (m.running up);
  stopped = λ isdown. subst (λ (b : Catalog). RecordsMakeCatalog x.records b) (sym catalog) (m.stopped isdown);
  up = ap (λ (c : ActorCell). c.up) manager ∙ m.up;
  plan = λ up. m.plan up ∙ ap plan_of (sym manager);
}

-- a run of these parts
abbrev pub state : List NodeSeen → ManagerSeen → List Packet → List Note → StreamLayerState
state nodes manager post notes = record { nodes = nodes; manager = manager; post = post; notes = notes }

-- a step of the actors is one of the run
pub stepped : (r x : StreamLayerState) (w v : StreamSystem) (s : ActorStep) → StreamLayerMirrors r w → ActorsStep x.nodes x.manager w v s → x.post ≡ r.post ++ s.packets → x.notes ≡ r.notes ++ s.notes → StreamLayerMirrors x v
stepped r x w v s m g sent told = record {
  post = sent ∙ ap (λ l. l ++ s.packets) m.post ∙ sym g.post;
  notes = told ∙ ap (λ l. l ++ s.notes) m.notes ∙ sym g.notes;
  nodes = g.nodes;
  manager = g.manager;
}

-- a node steps
moved_nodes : (ys : List NodeSeen) (d : ManagerSeen) (w v : StreamSystem) (s : ActorStep) → NodesStep ys w v s → ManagerMirrors d w → ActorsStep ys d w v s
moved_nodes ys d w v s g k = record { post = g.post; notes = g.notes; nodes = g.nodes; manager = manager_as d w v k g.catalog g.manager }

-- the manager steps
moved_by_manager : (xs : List NodeSeen) (y : ManagerSeen) (w v : StreamSystem) (s : ActorStep) → ManagerSteps y w v s → NodesMirror xs w → ActorsStep xs y w v s
moved_by_manager xs y w v s g m = record { post = g.post; notes = g.notes; nodes = nodes_as xs w v m g.replica g.cell g.nodes; manager = g.manager }

-- ---- a submission

-- a run with more packets
abbrev pub sent_in : StreamLayerState → List Packet → StreamLayerState
sent_in r packets = record r { post = r.post ++ packets }

pub submitted : (r x : StreamLayerState) (user : ℕ) (to : ActorId) (body : Body) → is_request body ≡ true → x ≡ sent_in r (packet (User user) to body ∷ []) →
    (w : StreamSystem) → StreamLayerMirrors r w → StreamLayerMirrors x (happens w (Submit user to body))
submitted r x user to body may is w m =
    subst (λ z. StreamLayerMirrors z (happens w (Submit user to body))) (sym is)
    (if_elim (λ v. StreamLayerMirrors (sent_in r (packet (User user) to body ∷ [])) v) (is_request body) (sent_more w (packet (User user) to body ∷ [])) w
    (λ t. record {
      post = ap (λ l. l ++ packet (User user) to body ∷ []) m.post;
      notes = m.notes;
      nodes = nodes_as r.nodes w (sent_more w (packet (User user) to body ∷ [])) m.nodes refl refl refl;
      manager = manager_as r.manager w (sent_more w (packet (User user) to body ∷ [])) m.manager refl refl;
    })
    (λ f. absurd cc))

pub unsubmitted : (r : StreamLayerState) (user : ℕ) (to : ActorId) (body : Body) → is_request body ≡ false → (w : StreamSystem) → StreamLayerMirrors r w → StreamLayerMirrors r (happens w (Submit user to body))
unsubmitted r user to body never w m =
    if_elim (λ v. StreamLayerMirrors r v) (is_request body) (sent_more w (packet (User user) to body ∷ [])) w (λ t. absurd cc) (λ f. m)

-- ---- a server

pub asked : (r x : StreamLayerState) (server : ℕ) (to : ActorId) (body : Body) → is_server_call body ≡ true → x ≡ sent_in r (packet (Server server) to body ∷ []) →
    (w : StreamSystem) → StreamLayerMirrors r w → StreamLayerMirrors x (moved w (Asks server to body))
asked r x server to body may is w m =
    subst (λ z. StreamLayerMirrors z (moved w (Asks server to body))) (sym is)
    (if_elim (λ v. StreamLayerMirrors (sent_in r (packet (Server server) to body ∷ [])) v) (is_server_call body) (sent_more w (packet (Server server) to body ∷ [])) w
    (λ t. record {
      post = ap (λ l. l ++ packet (Server server) to body ∷ []) m.post;
      notes = m.notes;
      nodes = nodes_as r.nodes w (sent_more w (packet (Server server) to body ∷ [])) m.nodes refl refl refl;
      manager = manager_as r.manager w (sent_more w (packet (Server server) to body ∷ [])) m.manager refl refl;
    })
    (λ f. absurd cc))

pub unasked : (r : StreamLayerState) (server : ℕ) (to : ActorId) (body : Body) → is_server_call body ≡ false → (w : StreamSystem) → StreamLayerMirrors r w → StreamLayerMirrors r (moved w (Asks server to body))
unasked r server to body never w m =
    if_elim (λ v. StreamLayerMirrors r v) (is_server_call body) (sent_more w (packet (Server server) to body ∷ [])) w (λ t. absurd cc) (λ f. m)

-- what `request` answers says whether it is one
pub is_asked : (b : Bool) (body copy : Body) → Some copy ≡ (if b then Some body else None) → (b ≡ true) × (copy ≡ body)
is_asked true body copy e = (refl, same_Some copy body e)
is_asked false body copy e = absurd cc

pub is_unasked : (b : Bool) (body : Body) → None ≡ (if b then Some body else None) → b ≡ false
is_unasked true body e = absurd cc
is_unasked false body e = refl

-- ---- a delivery

-- a packet of a node
pub moved_node : (xs ys : List NodeSeen) (d : ManagerSeen) (n : ℕ) (p : Packet) (s : ActorStep) → p.to ≡ Node n →
    ((w : StreamSystem) → NodesMirror xs w → NodesStep ys w (node_takes w n p) s) →
    (w : StreamSystem) → NodesMirror xs w → ManagerMirrors d w → ActorsStep ys d w (delivered w p p.to) s
moved_node xs ys d n p s to h w m k = subst (λ a. ActorsStep ys d w (delivered w p a) s) (sym to) (moved_nodes ys d w (node_takes w n p) s (h w m) k)

-- a packet of the manager
pub moved_manager : (xs : List NodeSeen) (d y : ManagerSeen) (p : Packet) (s : ActorStep) → p.to ≡ Manager →
    ManagerSimulates d y (λ w. manager_takes w p) s →
    (w : StreamSystem) → NodesMirror xs w → ManagerMirrors d w → ActorsStep xs y w (delivered w p p.to) s
moved_manager xs d y p s to h w m k = subst (λ a. ActorsStep xs y w (delivered w p a) s) (sym to) (moved_by_manager xs y w (manager_takes w p) s (h w k) m)

-- what it sends and shows may fill a step
pub manager_fills : (x y : ManagerSeen) (goes : StreamSystem → StreamSystem) (s : ActorStep) (t : Step) → t.packets ≡ s.packets → t.notes ≡ s.notes →
    ManagerSimulates x y goes s → ManagerSimulates x y goes (stream_step t)
manager_fills x y goes s t sent shown h w m =
    let g = h w m in record {
      post = g.post ∙ ap (λ (l : List Packet). w.post ++ l) (sym sent);
      notes = g.notes ∙ ap (λ (l : List Note). w.notes ++ l) (sym shown);
      manager = g.manager;
      replica = g.replica;
      cell = g.cell;
      nodes = g.nodes;
    }

-- a packet of somebody else
pub moved_nowhere : (xs : List NodeSeen) (d : ManagerSeen) (p : Packet) → ((w : StreamSystem) → delivered w p p.to ≡ w) →
    (w : StreamSystem) → NodesMirror xs w → ManagerMirrors d w → ActorsStep xs d w (delivered w p p.to) nothing
moved_nowhere xs d p same w m k =
    subst (λ v. ActorsStep xs d w v nothing) (sym (same w))
    (record { post = sym (append-nil w.post); notes = sym (append-nil w.notes); nodes = m; manager = k })

pub to_map : (p : Packet) → p.to ≡ Map → (w : StreamSystem) → delivered w p p.to ≡ w
to_map p to w = ap (λ a. delivered w p a) to

pub to_server : (p : Packet) (n : ℕ) → p.to ≡ Server n → (w : StreamSystem) → delivered w p p.to ≡ w
to_server p n to w = ap (λ a. delivered w p a) to

pub to_user : (p : Packet) (n : ℕ) → p.to ≡ User n → (w : StreamSystem) → delivered w p p.to ≡ w
to_user p n to w = ap (λ a. delivered w p a) to

delivers : (r : StreamLayerState) (k : ℕ) (o : Option Packet) (w : StreamSystem) → slice_get r.post k ≡ o → StreamLayerMirrors r w → happens w (Deliver k) ≡ delivered_if w o
delivers r k o w got m = ap (λ l. delivered_if w (slice_get l k)) (sym m.post) ∙ ap (λ z. delivered_if w z) got

-- a packet that was never sent
pub undelivered : (r : StreamLayerState) (k : ℕ) → length r.post ≤ k → (w : StreamSystem) → StreamLayerMirrors r w → StreamLayerMirrors r (happens w (Deliver k))
undelivered r k far w m = subst (λ v. StreamLayerMirrors r v) (sym (delivers r k None w (entry_beyond r.post k far) m)) m

pub get_at : {A : Type 0} (xs : List A) (n : ℕ) (d : A) → n < length xs → slice_get xs n ≡ Some (slice_index_or xs n d)
get_at [] n d l = absurd (omega arith)
get_at (x ∷ xs) zero d l = refl
get_at (x ∷ xs) (suc n) d l = get_at xs n d (omega arith)

pub delivered_one : (r x : StreamLayerState) (k : ℕ) (p : Packet) (s : ActorStep) → k < length r.post → p ≡ slice_index_or r.post k p →
    ((w : StreamSystem) → NodesMirror r.nodes w → ManagerMirrors r.manager w → ActorsStep x.nodes x.manager w (delivered w p p.to) s) →
    x.post ≡ r.post ++ s.packets → x.notes ≡ r.notes ++ s.notes →
    (w : StreamSystem) → StreamLayerMirrors r w → StreamLayerMirrors x (happens w (Deliver k))
delivered_one r x k p s there is h sent told w m =
    subst (λ v. StreamLayerMirrors x v) (sym (delivers r k (Some p) w (get_at r.post k p there ∙ ap Some (sym is)) m))
    (stepped r x w (delivered w p p.to) s m (h w m.nodes m.manager) sent told)

-- ---- a stop, a restart, a decision

pub same_post : (r : StreamLayerState) → (r.post ≡ r.post ++ nothing.packets) × (r.notes ≡ r.notes ++ nothing.notes)
same_post r = (sym (append-nil r.post), sym (append-nil r.notes))

-- the nodes of a run become these, and nothing is sent
pub nodes_go : (r : StreamLayerState) (ys : List NodeSeen) (goes : StreamSystem → StreamSystem) → ((w : StreamSystem) → NodesMirror r.nodes w → NodesStep ys w (goes w) nothing) →
    (w : StreamSystem) → StreamLayerMirrors r w → StreamLayerMirrors (record r { nodes = ys }) (goes w)
nodes_go r ys goes h w m = stepped r (record r { nodes = ys }) w (goes w) nothing m (moved_nodes ys r.manager w (goes w) nothing (h w m.nodes) m.manager) (same_post r).0 (same_post r).1

-- the manager becomes this, and nothing is sent
pub manager_goes : (r : StreamLayerState) (y : ManagerSeen) (goes : StreamSystem → StreamSystem) → ManagerSimulates r.manager y goes nothing →
    (w : StreamSystem) → StreamLayerMirrors r w → StreamLayerMirrors (record r { manager = y }) (goes w)
manager_goes r y goes h w m = stepped r (record r { manager = y }) w (goes w) nothing m (moved_by_manager r.nodes y w (goes w) nothing (h w m.manager) m.nodes) (same_post r).0 (same_post r).1

pub manager_came : (r : StreamLayerState) (y : ManagerSeen) (actor : ActorId) (x : Result Unit AllocError) → actor ≡ Manager → OnOk x (ManagerSimulates r.manager y (λ w. restart w Manager) nothing) →
    OnOk x ((w : StreamSystem) → StreamLayerMirrors r w → StreamLayerMirrors (record r { manager = y }) (restart w actor))
manager_came r y actor (Ok x) is h = manager_goes r y (λ w. restart w actor) (subst (λ (a : ActorId). ManagerSimulates r.manager y (λ w. restart w a) nothing) (sym is) h)
manager_came r y actor (Err x) is h = tt

pub decided_one : (r x : StreamLayerState) (e : ℕ) (s : ActorStep) → x.nodes ≡ r.nodes → ManagerSimulates r.manager x.manager (λ w. manager_decides w e) s →
    x.post ≡ r.post ++ s.packets → x.notes ≡ r.notes ++ s.notes →
    (w : StreamSystem) → StreamLayerMirrors r w → StreamLayerMirrors x (happens w (Decide e))
decided_one r x e s nodes h sent told w m =
    stepped r x w (manager_decides w e) s m (moved_by_manager x.nodes x.manager w (manager_decides w e) s (h w m.manager) (subst (λ xs. NodesMirror xs w) (sym nodes) m.nodes)) sent told

-- ---- a whole run

pub started : (nodes target : ℕ) → (3 ≤ nodes) × (nodes ≤ 12) → IsTarget target → StreamLayerMirrors (state (first_nodes nodes) (new_manager nodes target) [] []) (start nodes target)
started nodes target are is = record { post = refl; notes = refl; nodes = begun nodes target; manager = new_mirrors nodes target are is }

-- one event more
pub ran : (r : StreamLayerState) (events : List Event) (event : Event) (w : StreamSystem) → StreamLayerMirrors r (happens (run events w) event) → StreamLayerMirrors r (run (events ++ event ∷ []) w)
ran r [] event w m = m
ran r (e ∷ events) event w m = ran r events event (happens w e) m

pub ran_next : (r : StreamLayerState) (events : List Event) (i : ℕ) (event : Event) (w : StreamSystem) → event ≡ slice_index_or events i event → i < length events →
    StreamLayerMirrors r (happens (run (take i events) w) event) → StreamLayerMirrors r (run (take (i + 1) events) w)
ran_next r events i event w is l m =
    subst (λ es. StreamLayerMirrors r (run es w)) (sym (taken ∙ ap (λ e. take i events ++ e ∷ []) (sym is))) (ran r (take i events) event w m)
  where
    one_more : i + 1 ≡ suc i
    one_more = omega arith

    taken : take (i + 1) events ≡ take i events ++ slice_index_or events i event ∷ []
    taken = ap (λ k. take k events) one_more ∙ take-suc events i event l

-- ---- in the words of the answers

pub node_moved : (xs ys : List NodeSeen) (d : ManagerSeen) (n : ℕ) (p : Packet) (r : Result Unit AllocError) (s : ActorStep) → p.to ≡ Node n →
    OnOk r ((w : StreamSystem) → NodesMirror xs w → NodesStep ys w (node_takes w n p) s) →
    OnOk r ((w : StreamSystem) → NodesMirror xs w → ManagerMirrors d w → ActorsStep ys d w (delivered w p p.to) s)
node_moved xs ys d n p (Ok u) s to h = moved_node xs ys d n p s to h
node_moved xs ys d n p (Err x) s to h = tt
