-- Whoever the manager remembers as the one who asked for a seal has asked for it.
use Rattle.std.proofs.Common.{◌≡◌, ◌⊎◌, ℕ, suc, Bool, true, false, not, ◌||◌, ◌==◌, List, [], ◌∷◌, Option, Some, None, Result, Ok, Err, slice_get, Contains, refl, ap, ◌∙◌, inl, inr, subst}
use Rattle.block_types.specs.declared.record.Nodes.{Nodes}
use Rattle.wire.specs.declared.actor.ActorId.{ActorId}
use Rattle.wire.specs.declared.actor.ActorId.TheVariants.{Node, Manager, Map, Server, User}
use Rattle.wire.specs.declared.actor.ReqNo.{ReqNo}
use Rattle.wire.specs.declared.body.SealBody.{SealBody}
use Rattle.wire.specs.declared.body.SealBody.TheVariants.{SealExtent, Frozen, IsSealed, Short}
use Rattle.wire.specs.declared.body.StreamBody.{StreamBody}
use Rattle.wire.specs.declared.body.StreamBody.TheVariants.{CreateStream, OpenStreams, Confirm, Confirmed, Extend, Trim, MultiModify}
use Rattle.wire.specs.declared.body.Body.{Body}
use Rattle.wire.specs.declared.body.Body.TheVariants as bodies
use Rattle.wire.specs.declared.packet.Packet.{Packet}
use Rattle.wire.specs.declared.refusal.Refusal.{Refusal}
use Rattle.wire.specs.declared.refusal.Refusal.TheVariants.{Stale, BadPick}
use Rattle.wire.specs.declared.streams.StreamName.{StreamName}
use Rattle.streams.specs.Streams.{stream_of, extending, trimming}
use Rattle.model_streams.specs.declared.event.Event.{Event}
use Rattle.model_streams.specs.declared.event.Event.TheVariants.{Submit, Deliver, Stop, Restart, Decide, GiveUp, Assign, Renew, Moment, Checkpoint, Split, Merge}
use Rattle.model_streams.specs.declared.extent.Asker.{Asker}
use Rattle.model_streams.specs.declared.extent.Extent.{Extent}
use Rattle.model_streams.specs.declared.extent.PlaceReport.{PlaceReport}
use Rattle.model_streams.specs.Actors.{is_node, is_user, generation_of}
use Rattle.model_streams.specs.Manager.{Catalog, is_there, forgotten_if, catalog_stopped, new_extent, with_extent, extended, create_refusal, create_taken, open_refusal, open_taken, confirm_refusal, answer, is_foreign, is_pick, sealed_lengths, extend_made, last_told, extend_answered, extend_rule, trim_answered, trim_rule, modify_refusal, modify_taken, seal_asked, seal_extent_rule, with_report, noted, frozen_to, frozen_rule, known_sealed, is_sealed_rule, place_of, first_sealed, asks_tail, short_rule, decided_if, least_told, decide_rule, stream_body_rule, seal_body_rule, manager_rule, reminders}
use Rattle.model_streams.specs.Node.{extent_of, node_rule}
use Rattle.model_streams.specs.Outcome.{Outcome, packet, silent, sends, refused, or_refused}
use Rattle.model_streams.specs.StreamSystem.{StreamSystem, stops_in, stands_in, node_halted, node_performs, manager_halted, manager_performs, delivered, delivered_if, is_request, node_stops, manager_stops, stop, is_present, restart, happens, is_server_call, is_told, is_table_note, start, Move, moved, run_moves}
use Rattle.model_streams.specs.StreamSystem.Move.{Happens, Asks, Says, Observes}
use Rattle.model_streams.proofs.Tests.{if_elim}
use Rattle.laws_streams.proofs.Choices.{changed_elim, contains_get}
use Rattle.laws_streams.proofs.PacketSources.{post_stays}
use Rattle.laws_streams.proofs.StreamAnswers.{same_packet}

-- ---- catalogs

-- the extent has this asker
abbrev HasAsker : Catalog → ℕ → Asker → Type 0
HasAsker b e a = (x : Extent) × (b.extent e ≡ Some x) × (x.asker ≡ Some a)

-- each asker of the second catalog is one of the first, or the packet asks for the seal in its name
abbrev Askers : Packet → Catalog → Catalog → Type 0
Askers p b c = (e : ℕ) (a : Asker) → HasAsker c e a → HasAsker b e a ⊎ ((p.body ≡ bodies.Seal (SealExtent e a.request)) × (p.from ≡ a.who))

module _ (p : Packet) (b : Catalog) where
  same_askers : Askers p b b
  same_askers e a has = inl has

  extent_askers : (e : ℕ) (y : Extent) →
      ((a : Asker) → y.asker ≡ Some a → HasAsker b e a ⊎ ((p.body ≡ bodies.Seal (SealExtent e a.request)) × (p.from ≡ a.who))) →
      Askers p b (with_extent b e y)
  extent_askers e y now k a (x, there, asker) =
      changed_elim (λ o. o ≡ Some x → HasAsker b k a ⊎ ((p.body ≡ bodies.Seal (SealExtent k a.request)) × (p.from ≡ a.who))) e (Some y) b.extent k
      (λ q is. let c : y ≡ x = cc in rw q (now a (ap (λ (z : Extent). z.asker) c ∙ asker)))
      (λ q is. inl (x, is, asker)) there

  refused_askers : (q : ReqNo) (refusal : Refusal) → Askers p b (refused b Manager p q refusal).after
  refused_askers q refusal = same_askers

  unless_askers : (q : ReqNo) (x : Option Refusal) (o : Outcome Catalog) → Askers p b o.after → Askers p b (or_refused b Manager p q x o).after
  unless_askers q (Some refusal) o taken = same_askers
  unless_askers q None o taken = taken

  made_askers : (s : StreamName) (fence : ℕ) (pick : Nodes) → Askers p b (extended b s fence pick)
  made_askers s fence pick e a (x, there, asker) =
      changed_elim (λ o. o ≡ Some x → HasAsker b e a ⊎ ((p.body ≡ bodies.Seal (SealExtent e a.request)) × (p.from ≡ a.who)))
      (suc b.count) (Some (new_extent pick fence)) b.extent e
      (λ q is. absurd (let c : new_extent pick fence ≡ x = cc in let d : None ≡ x.asker = ap (λ (z : Extent). z.asker) c in let k : None ≡ Some a = d ∙ asker in cc))
      (λ q is. inl (x, is, asker)) there

  answered_askers : (s : StreamName) (fence : ℕ) (pick : Nodes) (q : ReqNo) (x : Result (Option ℕ) Refusal) → Askers p b (extend_answered b p s fence pick q x).after
  answered_askers s fence pick q (Err refusal) = same_askers
  answered_askers s fence pick q (Ok None) =
      if_elim (λ (o : Outcome Catalog). Askers p b o.after) (is_pick b.nodes pick) (extend_made b p s fence pick q) (refused b Manager p q BadPick)
      (λ t. made_askers s fence pick) (λ t. same_askers)
  answered_askers s fence pick q (Ok (Some e)) = by_extent (b.extent e)
    where
      by_extent : (o : Option Extent) → Askers p b (last_told b p e o q).after
      by_extent None = same_askers
      by_extent (Some x) = same_askers

  extend_askers : (s : StreamName) (fence : ℕ) (last : Option ℕ) (pick : Nodes) (q : ReqNo) → Askers p b (extend_rule b p s fence last pick q).after
  extend_askers s fence last pick q =
      if_elim (λ (o : Outcome Catalog). Askers p b o.after) (is_foreign p.from s.range) (refused b Manager p q Stale)
      (extend_answered b p s fence pick q (extending (sealed_lengths b) (stream_of b.stream s) fence last))
      (λ t. same_askers) (λ t. answered_askers s fence pick q (extending (sealed_lengths b) (stream_of b.stream s) fence last))

  trim_askers : (range generation before : ℕ) (to_blob : Bool) (q : ReqNo) → Askers p b (trim_rule b p range generation before to_blob q).after
  trim_askers range generation before to_blob q =
      if_elim (λ (o : Outcome Catalog). Askers p b o.after) (is_user p.from) (refused b Manager p q Stale) (trim_answered b p range before to_blob q (trimming b.stream range generation before))
      (λ t. same_askers) (λ f. by_answer (trimming b.stream range generation before))
    where
      by_answer : (x : Result Bool Refusal) → Askers p b (trim_answered b p range before to_blob q x).after
      by_answer (Err refusal) = same_askers
      by_answer (Ok false) = same_askers
      by_answer (Ok true) = same_askers

  stream_askers : (body : StreamBody) → Askers p b (stream_body_rule b p body).after
  stream_askers (CreateStream s fence q) = unless_askers q (create_refusal b p s) (create_taken b p s (generation_of p.from fence) q) same_askers
  stream_askers (OpenStreams range generation q) = unless_askers q (open_refusal b p range generation) (open_taken b p range generation q) same_askers
  stream_askers (Confirm range generation q) = unless_askers q (confirm_refusal b p range generation) (answer b p (Confirmed q)) same_askers
  stream_askers (Extend s generation last pick q) = extend_askers s (generation_of p.from generation) last pick q
  stream_askers (Trim range generation before to_blob q) = trim_askers range generation before to_blob q
  stream_askers (MultiModify list q) = unless_askers q (modify_refusal b p list) (modify_taken b p list q) same_askers
  stream_askers body = same_askers

  reported_askers : (e : ℕ) (from : ActorId) (news : PlaceReport → PlaceReport) (x : Extent) → b.extent e ≡ Some x →
      Askers p b (noted b e (with_report x from news)).after
  reported_askers e from news x is =
      if_elim (λ o. Askers p b (noted b e o).after) (is_node x.places.primary from) (Some (record x { primary = news x.primary })) _
      (λ t. extent_askers e _ (λ a k. inl (x, is, k)))
      (λ _. if_elim (λ o. Askers p b (noted b e o).after) (is_node x.places.second from) (Some (record x { second = news x.second })) _
      (λ t. extent_askers e _ (λ a k. inl (x, is, k)))
      (λ _. if_elim (λ o. Askers p b (noted b e o).after) (is_node x.places.third from) (Some (record x { third = news x.third })) None
      (λ t. extent_askers e _ (λ a k. inl (x, is, k))) (λ _. same_askers)))

  seal_extent_askers : (e : ℕ) (q : ReqNo) → p.body ≡ bodies.Seal (SealExtent e q) → (o : Option Extent) → Askers p b (seal_extent_rule b p e q o).after
  seal_extent_askers e q is None = same_askers
  seal_extent_askers e q is (Some x) = by_length x.sealed
    where
      by_length : (o : Option ℕ) → Askers p b (seal_asked b p e q x o).after
      by_length None = extent_askers e (record x { asker = Some (record { who = p.from; request = q }) })
          (λ a k. let c : record { who = p.from; request = q } ≡ a = cc in
          inr (is ∙ ap (λ (z : Asker). bodies.Seal (SealExtent e z.request)) c, ap (λ (z : Asker). z.who) c))
      by_length (Some l) = same_askers

  frozen_askers : (e l : ℕ) (o : Option Extent) → b.extent e ≡ o → Askers p b (frozen_rule b p e l o).after
  frozen_askers e l None is = same_askers
  frozen_askers e l (Some x) is =
      if_elim (λ (o : Outcome Catalog). Askers p b o.after) (is_there x.sealed) (silent b) (noted b e (with_report x p.from (frozen_to l)))
      (λ t. same_askers) (λ f. reported_askers e p.from (frozen_to l) x is)

  is_sealed_askers : (e : ℕ) (o : Option Extent) → b.extent e ≡ o → Askers p b (is_sealed_rule b p e o).after
  is_sealed_askers e None is = same_askers
  is_sealed_askers e (Some x) is = reported_askers e p.from known_sealed x is

  tail_askers : (e l : ℕ) (to n : Option ℕ) → Askers p b (asks_tail b e l to n).after
  tail_askers e l (Some to) (Some n) = same_askers
  tail_askers e l (Some to) None = same_askers
  tail_askers e l None (Some n) = same_askers
  tail_askers e l None None = same_askers

  short_askers : (e l : ℕ) (o : Option Extent) → Askers p b (short_rule b p e l o).after
  short_askers e l None = same_askers
  short_askers e l (Some x) =
      if_elim (λ (o : Outcome Catalog). Askers p b o.after) (is_there x.sealed) (asks_tail b e l (place_of x.places p.from) (first_sealed x)) (silent b)
      (λ t. tail_askers e l (place_of x.places p.from) (first_sealed x)) (λ f. same_askers)

  seal_askers : (body : SealBody) → p.body ≡ bodies.Seal body → Askers p b (seal_body_rule b p body).after
  seal_askers (SealExtent e q) is = seal_extent_askers e q is (b.extent e)
  seal_askers (Frozen e l) is = frozen_askers e l (b.extent e) refl
  seal_askers (IsSealed e) is = is_sealed_askers e (b.extent e) refl
  seal_askers (Short e l) is = short_askers e l (b.extent e)
  seal_askers body is = same_askers

  rule_askers : (body : Body) → p.body ≡ body → Askers p b (manager_rule b p body).after
  rule_askers (bodies.Stream body) is = stream_askers body
  rule_askers (bodies.Seal body) is = seal_askers body is
  rule_askers body is = same_askers

-- ---- moves

-- each asker of the catalog has asked, in this post
abbrev HaveAsked : List Packet → Catalog → Type 0
HaveAsked post b = (e : ℕ) (a : Asker) → HasAsker b e a → Contains post (packet a.who Manager (bodies.Seal (SealExtent e a.request)))

module _ (post : List Packet) where
  forgotten_asked : (b : Catalog) → HaveAsked post (catalog_stopped b)
  forgotten_asked b e a (x, there, asker) = by_extent (b.extent e) there
    where
      by_extent : (o : Option Extent) → forgotten_if o ≡ Some x → Contains post (packet a.who Manager (bodies.Seal (SealExtent e a.request)))
      by_extent None is = absurd cc
      by_extent (Some y) is = absurd (let c : None ≡ x.asker = cc in let d : None ≡ Some a = c ∙ asker in cc)

  manager_asked : (w : StreamSystem) (o : Outcome Catalog) → HaveAsked post o.after → HaveAsked post (manager_performs w o).catalog
  manager_asked w o now =
      if_elim (λ (v : StreamSystem). HaveAsked post v.catalog) (stops_in w.manager_cell o.written) _ _
      (λ s. if_elim (λ (v : StreamSystem). HaveAsked post v.catalog) (stands_in w.manager_cell) _ _ (λ t. forgotten_asked o.after) (λ t. forgotten_asked w.catalog))
      (λ s. now)

  decide_asked : (b : Catalog) (e : ℕ) (o : Option Extent) → HaveAsked post b → HaveAsked post (decide_rule b e o).after
  decide_asked b e None asked = asked
  decide_asked b e (Some x) asked =
      if_elim (λ (o : Outcome Catalog). HaveAsked post o.after) (is_there x.sealed) (sends b (reminders b e x)) (decided_if b e x (least_told x))
      (λ t. asked) (λ t. by_least (least_told x))
    where
      by_least : (o : Option ℕ) → HaveAsked post (decided_if b e x o).after
      by_least None = asked
      by_least (Some l) = λ k a (y, there, asker). changed_elim
          (λ o. o ≡ Some y → Contains post (packet a.who Manager (bodies.Seal (SealExtent k a.request)))) e _ b.extent k
          (λ q is. absurd (let c : None ≡ y.asker = cc in let d : None ≡ Some a = c ∙ asker in cc))
          (λ q is. asked k a (y, is, asker)) there

  module _ (w : StreamSystem) (old : (p : Packet) → Contains w.post p → Contains post p) (asked : HaveAsked post w.catalog) where
    rule_asked : (p : Packet) → p.to ≡ Manager → Contains w.post p → HaveAsked post (manager_rule w.catalog p p.body).after
    rule_asked p to stood e a has = elim (rule_askers p w.catalog p.body refl e a has) [
      | inl x ↦ asked e a x
      | inr x ↦ subst (Contains post) (same_packet p a.who Manager (bodies.Seal (SealExtent e a.request)) x.1 to x.0) (old p stood)
    ]

    delivered_asked : (p : Packet) (to : ActorId) → p.to ≡ to → Contains w.post p → HaveAsked post (delivered w p to).catalog
    delivered_asked p (Node n) to stood =
        let e = extent_of p.body in
        let o = node_rule n (w.replica n e) p p.body in
        if_elim (λ (v : StreamSystem). HaveAsked post v.catalog) (w.cell n).up (node_performs w n e o) w
        (λ t. if_elim (λ (v : StreamSystem). HaveAsked post v.catalog) (stops_in (w.cell n) o.written) _ _
        (λ s. if_elim (λ (v : StreamSystem). HaveAsked post v.catalog) (stands_in (w.cell n)) _ _ (λ _. asked) (λ _. asked)) (λ s. asked))
        (λ t. asked)
    delivered_asked p Manager to stood =
        if_elim (λ (v : StreamSystem). HaveAsked post v.catalog) w.manager_cell.up (manager_performs w (manager_rule w.catalog p p.body)) w
        (λ t. manager_asked w (manager_rule w.catalog p p.body) (rule_asked p to stood)) (λ t. asked)
    delivered_asked p Map to stood = asked
    delivered_asked p (Server s) to stood = asked
    delivered_asked p (User u) to stood = asked

    delivered_if_asked : (number : ℕ) (o : Option Packet) → slice_get w.post number ≡ o → HaveAsked post (delivered_if w o).catalog
    delivered_if_asked number None is = asked
    delivered_if_asked number (Some p) is = delivered_asked p p.to refl (contains_get w.post number p is)

    stop_asked : (actor : ActorId) (call : ℕ) (keep : Bool) → HaveAsked post (stop w actor call keep).catalog
    stop_asked (Node n) call keep =
        if_elim (λ (v : StreamSystem). HaveAsked post v.catalog) (w.cell n).up (node_stops w n call keep) w
        (λ t. if_elim (λ (v : StreamSystem). HaveAsked post v.catalog) (call == 0) (node_halted w n) _ (λ _. asked) (λ _. asked)) (λ f. asked)
    stop_asked Manager call keep =
        if_elim (λ (v : StreamSystem). HaveAsked post v.catalog) w.manager_cell.up (manager_stops w call keep) w
        (λ t. if_elim (λ (v : StreamSystem). HaveAsked post v.catalog) (call == 0) (manager_halted w) _ (λ _. forgotten_asked w.catalog) (λ _. asked)) (λ f. asked)
    stop_asked Map call keep = asked
    stop_asked (Server s) call keep = asked
    stop_asked (User u) call keep = asked

    restart_asked : (actor : ActorId) → HaveAsked post (restart w actor).catalog
    restart_asked (Node n) = if_elim (λ (v : StreamSystem). HaveAsked post v.catalog) ((w.cell n).up || not (is_present w n)) w _ (λ _. asked) (λ _. asked)
    restart_asked Manager = if_elim (λ (v : StreamSystem). HaveAsked post v.catalog) w.manager_cell.up w _ (λ _. asked) (λ _. asked)
    restart_asked Map = asked
    restart_asked (Server s) = asked
    restart_asked (User u) = asked

    happens_asked : (event : Event) → HaveAsked post (happens w event).catalog
    happens_asked (Submit user to body) = if_elim (λ (v : StreamSystem). HaveAsked post v.catalog) (is_request body) _ w (λ _. asked) (λ _. asked)
    happens_asked (Deliver number) = delivered_if_asked number (slice_get w.post number) refl
    happens_asked (Stop actor call keep) = stop_asked actor call keep
    happens_asked (Restart actor) = restart_asked actor
    happens_asked (Decide e) =
        if_elim (λ (v : StreamSystem). HaveAsked post v.catalog) w.manager_cell.up (manager_performs w (decide_rule w.catalog e (w.catalog.extent e))) w
        (λ t. manager_asked w (decide_rule w.catalog e (w.catalog.extent e)) (decide_asked w.catalog e (w.catalog.extent e) asked)) (λ t. asked)
    happens_asked (GiveUp server range pick) = asked
    happens_asked (Assign range server until) = asked
    happens_asked (Renew range server until) = asked
    happens_asked (Moment now) = asked
    happens_asked (Checkpoint server range combine) = asked
    happens_asked (Split server range key) = asked
    happens_asked (Merge server left right) = asked

    moved_asked : (move : Move) → HaveAsked post (moved w move).catalog
    moved_asked (Happens event) = happens_asked event
    moved_asked (Asks server to body) = if_elim (λ (v : StreamSystem). HaveAsked post v.catalog) (is_server_call body) _ w (λ _. asked) (λ _. asked)
    moved_asked (Says from to body) = if_elim (λ (v : StreamSystem). HaveAsked post v.catalog) (is_told body) _ w (λ _. asked) (λ _. asked)
    moved_asked (Observes note) = if_elim (λ (v : StreamSystem). HaveAsked post v.catalog) (is_table_note note) _ w (λ _. asked) (λ _. asked)

  run_asked : (moves : List Move) (w : StreamSystem) → ((p : Packet) → Contains (run_moves moves w).post p → Contains post p) → HaveAsked post w.catalog →
      HaveAsked post (run_moves moves w).catalog
  run_asked [] w old asked = asked
  run_asked (move ∷ moves) w old asked =
      run_asked moves (moved w move) old (moved_asked w (λ p c. old p (post_stays (move ∷ moves) w p c)) asked move)

-- whoever the manager remembers has asked
pub askers_asked : (nodes target : ℕ) (moves : List Move) (e : ℕ) (x : Extent) (a : Asker) →
    (run_moves moves (start nodes target)).catalog.extent e ≡ Some x → x.asker ≡ Some a →
    Contains (run_moves moves (start nodes target)).post (packet a.who Manager (bodies.Seal (SealExtent e a.request)))
askers_asked nodes target moves e x a there asker =
    run_asked (run_moves moves (start nodes target)).post moves (start nodes target) (λ p c. c) (λ k b has. absurd cc) e a (x, there, asker)
