-- Each event keeps the invariant, and so does whatever a server asks.
use Rattle.std.proofs.Common.{◌≡◌, ℕ, suc, Bool, true, false, not, ◌||◌, ◌==◌, List, [], ◌∷◌, ◌++◌, Option, Some, None, slice_get, Contains, refl, ap, inl, inr, arith}
use Rattle.wire.specs.declared.actor.ActorId.{ActorId}
use Rattle.wire.specs.declared.actor.ActorId.TheVariants.{Node, Manager, Map, Server, User}
use Rattle.wire.specs.declared.body.AppendBody.{AppendBody}
use Rattle.wire.specs.declared.body.AppendBody.TheVariants.{Put, Have}
use Rattle.wire.specs.declared.body.CheckBody.{CheckBody}
use Rattle.wire.specs.declared.body.CheckBody.TheVariants.{Probed, Checked}
use Rattle.wire.specs.declared.body.SealBody.{SealBody}
use Rattle.wire.specs.declared.body.SealBody.TheVariants as seals
use Rattle.wire.specs.declared.body.Body.{Body}
use Rattle.wire.specs.declared.body.Body.TheVariants as bodies
use Rattle.wire.specs.declared.note.Note.{Note}
use Rattle.wire.specs.declared.note.Note.TheVariants.{Acked, SealedAt, Content, Seen}
use Rattle.wire.specs.declared.packet.Packet.{Packet}
use Rattle.replica.specs.Groups.{Group}
use Rattle.model_streams.specs.declared.event.Event.{Event}
use Rattle.model_streams.specs.declared.event.Event.TheVariants.{Submit, Deliver, Stop, Restart, Decide, GiveUp, Assign, Renew, Checkpoint, Split, Merge}
use Rattle.model_streams.specs.declared.event.Event.TheVariants as events
use Rattle.model_streams.specs.Honest.{Apart}
use Rattle.model_streams.specs.Maps.{changed}
use Rattle.model_streams.specs.Manager.{Catalog, manager_rule, decide_rule}
use Rattle.model_streams.specs.Node.{Replica, extent_of, node_rule}
use Rattle.model_streams.specs.Outcome.{Outcome, packet}
use Rattle.model_streams.specs.StreamSystem.{ActorCell, StreamSystem, running, armed, stops_in, stands_in, burnt, unsent, node_halted, after_node_rule, node_performs, node_takes, manager_halted, after_manager_rule, manager_performs, manager_takes, manager_decides, node_stops, manager_stops, stop, is_present, restart, sent_more, delivered, delivered_if, is_append, is_seal, is_request, happens, start, is_check, is_server_call, is_refusal, is_told, is_table_note, Move, moved}
use Rattle.model_streams.specs.StreamSystem.Move.{Happens, Asks, Says, Observes}
use Rattle.model_streams.proofs.Tests.{if_elim}
use Rattle.laws_streams.specs.Origins.{Origin}
use Rattle.laws_streams.proofs.Choices.{Each, each-append, pairs-append, each-get, contains_get, contains_left}
use Rattle.laws_streams.proofs.Ground.{Ground, FineNote, FineAppend, FineCheckBody, FineSeal, FineBody, FinePacket}
use Rattle.laws_streams.proofs.MoreKnown.{Later, later_refl}
use Rattle.laws_streams.proofs.RestsOnGround.{Holds, Moment, FineRule, rule_holds, rule_unsent, FineManagerRule, manager_rule_holds, manager_rule_unsent, halted_holds, manager_halted_holds}
use Rattle.laws_streams.proofs.NodeRules.{node_keeps}
use Rattle.laws_streams.proofs.DecisionRules.{SealsNow, decide_keeps}
use Rattle.laws_streams.proofs.ManagerRules.{manager_keeps}
use Rattle.laws_streams.proofs.GroupOrigins.{Dated, Comes, unmoved_dated, grown_dated}

-- what holds of the stream system after so many events
pub record Good (C : ℕ → Group → Origin → Type 0) (D : ℕ → ℕ → Type 0) (k : ℕ) (w : StreamSystem) : Type 0 where
  pub ground : Ground
  pub holds : Holds w ground
  pub dated : Dated C D k ground

-- the same after one more, where what was known still holds
pub record Next (C : ℕ → Group → Origin → Type 0) (D : ℕ → ℕ → Type 0) (k : ℕ) (g : Ground) (w : StreamSystem) : Type 0 where
  pub ground : Ground
  pub later : Later g ground
  pub holds : Holds w ground
  pub dated : Dated C D k ground

abbrev pub good_next : {C : ℕ → Group → Origin → Type 0} {D : ℕ → ℕ → Type 0} {k : ℕ} {g : Ground} {w : StreamSystem} → Next C D k g w → Good C D k w
good_next {C} {D} {k} {g} {w} a = record { ground = a.ground; holds = a.holds; dated = a.dated }

pub recelled : (w : StreamSystem) (cell : ℕ → ActorCell) (manager_cell : ActorCell) (g : Ground) → Holds w g → Holds (record w { cell = cell; manager_cell = manager_cell }) g
recelled w cell manager_cell g a = record {
  sound = a.sound;
  packets = a.packets;
  asked = a.asked;
  notes = a.notes;
  apart = a.apart;
  replicas = a.replicas;
  catalog = a.catalog;
}

pub sent_holds : (w : StreamSystem) (packets : List Packet) (g : Ground) → Holds w g → Each (FinePacket g) packets → Holds (sent_more w packets) g
sent_holds w packets g a fine = record {
  sound = a.sound;
  packets = each-append (FinePacket g) w.post packets a.packets fine;
  asked = λ p c. contains_left w.post packets p (a.asked p c);
  notes = a.notes;
  apart = a.apart;
  replicas = a.replicas;
  catalog = a.catalog;
}

-- ---- what servers and the map show

shown_fine : (g : Ground) (note : Note) → is_table_note note ≡ true → FineNote g note
shown_fine g (Acked e o group) t = absurd cc
shown_fine g (SealedAt e l) t = absurd cc
shown_fine g (Content e n groups) t = absurd cc
shown_fine g (Seen e n o bytes) t = absurd cc
shown_fine g note t = tt

shown_apart : (x note : Note) → is_table_note note ≡ true → Apart x note
shown_apart (Acked e o group) (Acked f p other) t = absurd cc
shown_apart x note t = tt

apart_from_all : (notes : List Note) (note : Note) → is_table_note note ≡ true → Each (λ x. Each (Apart x) (note ∷ [])) notes
apart_from_all [] note t = tt
apart_from_all (x ∷ notes) note t = ((shown_apart x note t, tt), apart_from_all notes note t)

pub shown_holds : (w : StreamSystem) (note : Note) → is_table_note note ≡ true → (g : Ground) → Holds w g → Holds (record w { notes = w.notes ++ note ∷ [] }) g
shown_holds w note t g a = record {
  sound = a.sound;
  packets = a.packets;
  asked = a.asked;
  notes = each-append (FineNote g) w.notes (note ∷ []) a.notes (shown_fine g note t, tt);
  apart = pairs-append Apart w.notes (note ∷ []) a.apart (tt, tt) (apart_from_all w.notes note t);
  replicas = a.replicas;
  catalog = a.catalog;
}

-- ---- what users and servers ask

asked_append : (g : Ground) (from : ActorId) (b : AppendBody) → is_append b ≡ true → FineAppend g from b
asked_append g from (Put e o group) t = absurd cc
asked_append g from (Have e l) t = absurd cc
asked_append g from b t = tt

asked_check : (g : Ground) (from to : ActorId) (b : CheckBody) → is_check b ≡ true → FineCheckBody g from to b
asked_check g from to (Probed e k l) t = absurd cc
asked_check g from to (Checked q l) t = absurd cc
asked_check g from to b t = tt

asked_seal : (g : Ground) (from : ActorId) (b : SealBody) → is_seal b ≡ true → FineSeal g from b
asked_seal g from (seals.Make e fence target at) t = absurd cc
asked_seal g from (seals.Frozen e l) t = absurd cc
asked_seal g from (seals.Seal e l) t = absurd cc
asked_seal g from (seals.Tail e k l groups) t = absurd cc
asked_seal g from b t = tt

pub user_fine : (g : Ground) (from to : ActorId) (b : Body) → is_request b ≡ true → FineBody g from to b
user_fine g from to (bodies.Append b) t = asked_append g from b t
user_fine g from to (bodies.Check b) t = absurd cc
user_fine g from to (bodies.Seal b) t = asked_seal g from b t
user_fine g from to b t = tt

pub server_fine : (g : Ground) (from to : ActorId) (b : Body) → is_server_call b ≡ true → FineBody g from to b
server_fine g from to (bodies.Append b) t = asked_append g from b t
server_fine g from to (bodies.Check b) t = asked_check g from to b t
server_fine g from to (bodies.Seal b) t = asked_seal g from b t
server_fine g from to b t = tt

told_append : (g : Ground) (from : ActorId) (b : AppendBody) → is_refusal b ≡ true → FineAppend g from b
told_append g from (Put e o group) t = absurd cc
told_append g from (Have e l) t = absurd cc
told_append g from b t = tt

pub told_fine : (g : Ground) (from to : ActorId) (b : Body) → is_told b ≡ true → FineBody g from to b
told_fine g from to (bodies.Append b) t = told_append g from b t
told_fine g from to (bodies.Check b) t = absurd cc
told_fine g from to (bodies.Seal b) t = absurd cc
told_fine g from to b t = tt

-- ---- one move

module _ (C : ℕ → Group → Origin → Type 0) (D : ℕ → ℕ → Type 0) where
  passed : (k : ℕ) (v w : StreamSystem) → (a : Good C D k v) → Holds w a.ground → Next C D (suc k) a.ground w
  passed k v w a holds = record {
    ground = a.ground;
    later = later_refl a.ground;
    holds = holds;
    dated = unmoved_dated C D k a.ground a.ground a.dated (λ e. (refl, refl)) (λ e l is. inl is);
  }

  does_good : (w : StreamSystem) (now : Moment) (n e : ℕ) (o : Outcome (Option Replica)) → now.told ≡ w.notes → Contains w.post now.packet →
      (a : Good C D now.number w) → (h : Ground) → FineRule now a.ground h n e o →
      Comes C now → Next C D (suc now.number) a.ground (node_performs w n e o)
  does_good w now n e o before stands a h rule comes =
      let dated = grown_dated C D now a.ground h a.dated comes rule.grown rule.sealed in
      if_elim (Next C D (suc now.number) a.ground) (stops_in (w.cell n) o.written) _ _
      (λ s. if_elim (Next C D (suc now.number) a.ground) (stands_in (w.cell n)) _ _
      (λ t. record {
        ground = h;
        later = rule.later;
        holds = halted_holds (after_node_rule w n e (unsent o)) h n (rule_holds w now a.ground h n e (unsent o) before stands a.holds (rule_unsent now a.ground h n e o rule));
        dated = dated;
      })
      (λ f. passed now.number w (node_halted w n) a (halted_holds w a.ground n a.holds)))
      (λ r. record {
        ground = h;
        later = rule.later;
        holds = rule_holds (record w { cell = changed n (burnt (w.cell n) o.written) w.cell }) now a.ground h n e o before stands
            (recelled w (changed n (burnt (w.cell n) o.written) w.cell) w.manager_cell a.ground a.holds) rule;
        dated = dated;
      })

  node_good : (w : StreamSystem) (now : Moment) (n : ℕ) → now.told ≡ w.notes → now.packet.to ≡ Node n → Contains w.post now.packet → (a : Good C D now.number w) → FinePacket a.ground now.packet → Comes C now →
      Next C D (suc now.number) a.ground (node_takes w n now.packet)
  node_good w now n before to stands a fine comes =
      let e = extent_of now.packet.body in
      let (h, rule) = node_keeps now a.ground n (w.replica n e) to a.holds.sound (rw before a.holds.notes) (a.holds.replicas n e) fine in
      if_elim (Next C D (suc now.number) a.ground) (w.cell n).up _ w
      (λ t. does_good w now n e (node_rule n (w.replica n e) now.packet now.packet.body) before stands a h rule comes)
      (λ f. passed now.number w w a a.holds)

  rules_good : (News : ℕ → ℕ → Type 0) → ((e l : ℕ) → News e l → D e l) → (w : StreamSystem) (k : ℕ) (o : Outcome Catalog) → (a : Good C D k w) →
      (h : Ground) → FineManagerRule News w.notes a.ground h o → Next C D (suc k) a.ground (manager_performs w o)
  rules_good News new w k o a h rule_fine =
      let dated = unmoved_dated C D k a.ground h a.dated rule_fine.unmoved
      (λ e l is. elim (rule_fine.sealed e l is) [ inl x ↦ inl x | inr x ↦ inr (new e l x) ]) in
      if_elim (Next C D (suc k) a.ground) (stops_in w.manager_cell o.written) _ _
      (λ s. if_elim (Next C D (suc k) a.ground) (stands_in w.manager_cell) _ _
      (λ t. record {
        ground = h;
        later = rule_fine.later;
        holds = manager_halted_holds (after_manager_rule w (unsent o)) h (manager_rule_holds News w a.ground h (unsent o) a.holds (manager_rule_unsent News w.notes a.ground h o rule_fine));
        dated = dated;
      })
      (λ f. passed k w (manager_halted w) a (manager_halted_holds w a.ground a.holds)))
      (λ r. record {
        ground = h;
        later = rule_fine.later;
        holds = manager_rule_holds News (record w { manager_cell = burnt w.manager_cell o.written }) a.ground h o (recelled w w.cell (burnt w.manager_cell o.written) a.ground a.holds) rule_fine;
        dated = dated;
      })

  manager_good : (w : StreamSystem) (p : Packet) (k : ℕ) → (a : Good C D k w) → FinePacket a.ground p → Next C D (suc k) a.ground (manager_takes w p)
  manager_good w p k a fine =
      let (h, rule_fine) = manager_keeps D w.notes a.ground w.catalog p p.body a.holds.sound a.holds.catalog fine in
      if_elim (Next C D (suc k) a.ground) w.manager_cell.up (manager_performs w (manager_rule w.catalog p p.body)) w
      (λ t. rules_good D (λ e l x. x) w k (manager_rule w.catalog p p.body) a h rule_fine) (λ f. passed k w w a a.holds)

  decides_good : (w : StreamSystem) (e k : ℕ) → (a : Good C D k w) → ((f l : ℕ) → SealsNow e (w.catalog.extent e) f l → D f l) → Next C D (suc k) a.ground (manager_decides w e)
  decides_good w e k a new =
      let (h, rule_fine) = decide_keeps w.notes a.ground w.catalog e (w.catalog.extent e) refl a.holds.sound a.holds.catalog in
      if_elim (Next C D (suc k) a.ground) w.manager_cell.up (manager_performs w (decide_rule w.catalog e (w.catalog.extent e))) w
      (λ t. rules_good (SealsNow e (w.catalog.extent e)) new w k (decide_rule w.catalog e (w.catalog.extent e)) a h rule_fine) (λ f. passed k w w a a.holds)

  delivered_good : (w : StreamSystem) (p : Packet) (to : ActorId) (k : ℕ) → p.to ≡ to → Contains w.post p → (a : Good C D k w) → FinePacket a.ground p →
      Comes C (record { told = w.notes; number = k; packet = p }) → Next C D (suc k) a.ground (delivered w p to)
  delivered_good w p (Node n) k to stands a fine comes = node_good w (record { told = w.notes; number = k; packet = p }) n refl to stands a fine comes
  delivered_good w p Manager k to stands a fine comes = manager_good w p k a fine
  delivered_good w p Map k to stands a fine comes = passed k w w a a.holds
  delivered_good w p (Server s) k to stands a fine comes = passed k w w a a.holds
  delivered_good w p (User u) k to stands a fine comes = passed k w w a a.holds

  delivered_if_good : (w : StreamSystem) (number : ℕ) (o : Option Packet) → slice_get w.post number ≡ o → (k : ℕ) → (a : Good C D k w) →
      ((p : Packet) → o ≡ Some p → Comes C (record { told = w.notes; number = k; packet = p })) → Next C D (suc k) a.ground (delivered_if w o)
  delivered_if_good w number None is k a comes = passed k w w a a.holds
  delivered_if_good w number (Some p) is k a comes = delivered_good w p p.to k refl (contains_get w.post number p is) a (each-get (FinePacket a.ground) w.post number p a.holds.packets is) (comes p refl)

  -- ---- stops and restarts

  stop_good : (w : StreamSystem) (actor : ActorId) (call : ℕ) (keep : Bool) (k : ℕ) → (a : Good C D k w) → Next C D (suc k) a.ground (stop w actor call keep)
  stop_good w (Node n) call keep k a =
      if_elim (Next C D (suc k) a.ground) (w.cell n).up (node_stops w n call keep) w
      (λ t. if_elim (Next C D (suc k) a.ground) (call == 0) (node_halted w n) _
      (λ z. passed k w (node_halted w n) a (halted_holds w a.ground n a.holds))
      (λ z. passed k w _ a (recelled w (changed n (armed call keep) w.cell) w.manager_cell a.ground a.holds)))
      (λ f. passed k w w a a.holds)
  stop_good w Manager call keep k a =
      if_elim (Next C D (suc k) a.ground) w.manager_cell.up (manager_stops w call keep) w
      (λ t. if_elim (Next C D (suc k) a.ground) (call == 0) (manager_halted w) _
      (λ z. passed k w (manager_halted w) a (manager_halted_holds w a.ground a.holds))
      (λ z. passed k w _ a (recelled w w.cell (armed call keep) a.ground a.holds)))
      (λ f. passed k w w a a.holds)
  stop_good w Map call keep k a = passed k w w a a.holds
  stop_good w (Server s) call keep k a = passed k w w a a.holds
  stop_good w (User u) call keep k a = passed k w w a a.holds

  restart_good : (w : StreamSystem) (actor : ActorId) (k : ℕ) → (a : Good C D k w) → Next C D (suc k) a.ground (restart w actor)
  restart_good w (Node n) k a =
      if_elim (Next C D (suc k) a.ground) ((w.cell n).up || not (is_present w n)) w _
      (λ t. passed k w w a a.holds) (λ f. passed k w _ a (recelled w (changed n running w.cell) w.manager_cell a.ground a.holds))
  restart_good w Manager k a =
      if_elim (Next C D (suc k) a.ground) w.manager_cell.up w _ (λ t. passed k w w a a.holds) (λ f. passed k w _ a (recelled w w.cell running a.ground a.holds))
  restart_good w Map k a = passed k w w a a.holds
  restart_good w (Server s) k a = passed k w w a a.holds
  restart_good w (User u) k a = passed k w w a a.holds

  -- ---- all events

  pub happens_good : (w : StreamSystem) (event : Event) (k : ℕ) → (a : Good C D k w) →
      ((number : ℕ) (p : Packet) → event ≡ Deliver number → slice_get w.post number ≡ Some p → Comes C (record { told = w.notes; number = k; packet = p })) →
      ((e f l : ℕ) → event ≡ Decide e → SealsNow e (w.catalog.extent e) f l → D f l) →
      Next C D (suc k) a.ground (happens w event)
  happens_good w (Submit user to body) k a comes new =
      if_elim (Next C D (suc k) a.ground) (is_request body) _ w
      (λ t. passed k w (sent_more w (packet (User user) to body ∷ [])) a
      (sent_holds w (packet (User user) to body ∷ []) a.ground a.holds (user_fine a.ground (User user) to body t, tt)))
      (λ f. passed k w w a a.holds)
  happens_good w (Deliver number) k a comes new =
      delivered_if_good w number (slice_get w.post number) refl k a (λ p is. comes number p refl is)
  happens_good w (Stop actor call keep) k a comes new = stop_good w actor call keep k a
  happens_good w (Restart actor) k a comes new = restart_good w actor k a
  happens_good w (Decide e) k a comes new = decides_good w e k a (λ f l. new e f l refl)
  happens_good w (GiveUp server range pick) k a comes new = passed k w w a a.holds
  happens_good w (Assign range server until) k a comes new = passed k w w a a.holds
  happens_good w (Renew range server until) k a comes new = passed k w w a a.holds
  happens_good w (events.Moment now) k a comes new = passed k w w a a.holds
  happens_good w (Checkpoint server range combine) k a comes new = passed k w w a a.holds
  happens_good w (Split server range key) k a comes new = passed k w w a a.holds
  happens_good w (Merge server left right) k a comes new = passed k w w a a.holds

  pub moved_good : (w : StreamSystem) (move : Move) (k : ℕ) → (a : Good C D k w) →
      ((number : ℕ) (p : Packet) → move ≡ Happens (Deliver number) → slice_get w.post number ≡ Some p → Comes C (record { told = w.notes; number = k; packet = p })) →
      ((e f l : ℕ) → move ≡ Happens (Decide e) → SealsNow e (w.catalog.extent e) f l → D f l) →
      Next C D (suc k) a.ground (moved w move)
  moved_good w (Happens event) k a comes new =
      happens_good w event k a (λ number p is. comes number p (ap Happens is)) (λ e f l is. new e f l (ap Happens is))
  moved_good w (Asks server to body) k a comes new =
      if_elim (Next C D (suc k) a.ground) (is_server_call body) _ w
      (λ t. passed k w (sent_more w (packet (Server server) to body ∷ [])) a
      (sent_holds w (packet (Server server) to body ∷ []) a.ground a.holds (server_fine a.ground (Server server) to body t, tt)))
      (λ f. passed k w w a a.holds)
  moved_good w (Says from to body) k a comes new =
      if_elim (Next C D (suc k) a.ground) (is_told body) _ w
      (λ t. passed k w (sent_more w (packet from to body ∷ [])) a
      (sent_holds w (packet from to body ∷ []) a.ground a.holds (told_fine a.ground from to body t, tt)))
      (λ f. passed k w w a a.holds)
  moved_good w (Observes note) k a comes new =
      if_elim (Next C D (suc k) a.ground) (is_table_note note) _ w
      (λ t. passed k w (record w { notes = w.notes ++ note ∷ [] }) a (shown_holds w note t a.ground a.holds))
      (λ f. passed k w w a a.holds)

  pub start_good : (nodes target : ℕ) → Good C D 0 (start nodes target)
  start_good nodes target = record {
    ground = record { script = λ e. []; acked = λ e. 0; places = λ e. None; born = λ e. 0; sealed = λ e. None; last = λ n e. 0; closed = λ n e. false; origin = λ e. []; fence = λ e. 0; asked = [] };
    holds = record {
      sound = record { none_empty = λ e. tt; short = λ e. omega arith; whole = λ n e. record { front = []; begins = record { rest = []; is = refl }; ends = refl }; aged = λ e. refl; born = λ e. tt; unmade = λ e m. (refl, refl, refl); all_had = λ e at m. absurd cc; noted = λ e l m. absurd cc };
      packets = tt;
      notes = tt;
      apart = tt;
      asked = λ p c. absurd (omega (arith, c.1));
      replicas = λ n e. record { last = refl; closed = refl; script = λ at m i. (refl, refl) };
      catalog = record { places = λ e. refl; sealed = λ e. refl; born = λ e x is. absurd cc; fresh = λ e l. refl; reports = λ e. tt };
    };
    dated = record { came = λ e. tt; earlier = λ e. tt; in_order = λ e. tt; decided = λ e l is. absurd cc };
  }
