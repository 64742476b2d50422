-- What the manager is about to do is what the rule of its table does.
use Rattle.std.proofs.Common.{◌≡◌, ℕ, ◌≤◌, Bool, true, false, not, ◌&&◌, ◌==◌, if◌then◌else◌, ◌+◌, List, [], ◌∷◌, ◌++◌, length, Option, Some, None, Result, Ok, Err, nat_lt, nat_le, refl, sym, ap, ◌∙◌, subst, arith}
use Rattle.std.proofs.lemmas.Bool.{eqb-true, and_from, and_parts}
use Rattle.std.proofs.lemmas.Bool.Decides.{nat_tests}
use Rattle.block_types.specs.declared.record.Nodes.{Nodes}
use Rattle.block_types.specs.Limits.{are_nodes}
use Rattle.wire.specs.declared.actor.ActorId.{ActorId}
use Rattle.wire.specs.declared.actor.ActorId.TheVariants.{Node, Manager}
use Rattle.wire.specs.declared.actor.ReqNo.{ReqNo}
use Rattle.wire.specs.declared.body.SealBody.{SealBody}
use Rattle.wire.specs.declared.body.SealBody.TheVariants.{SealExtent, Frozen, IsSealed, Short, SendTail}
use Rattle.wire.specs.declared.body.StreamBody.{StreamBody}
use Rattle.wire.specs.declared.body.StreamBody.TheVariants.{CreateStream, OpenStreams, Confirm, Confirmed, Extend, Trim, MultiModify}
use Rattle.wire.specs.declared.body.Body.{Body}
use Rattle.wire.specs.declared.body.Body.TheVariants as bodies
use Rattle.wire.specs.declared.packet.Packet.{Packet}
use Rattle.wire.specs.declared.refusal.Refusal.{Refusal}
use Rattle.wire.specs.declared.refusal.Refusal.TheVariants.{NoSuchExtent, Stale, NoSuchStream, NameTaken, LastOpen, BadPick}
use Rattle.wire.specs.declared.streams.Modify.{Modify}
use Rattle.wire.specs.declared.streams.StreamName.{StreamName}
use Rattle.streams.specs.Streams.{Stream, stream_of, has_four, all_pass, created, opened, last_of, is_number, behind, extending, base_of, trim_of, trimmed, trimming, modified, modify_fault}
use Rattle.model_streams.specs.declared.extent.Asker.{Asker}
use Rattle.model_streams.specs.declared.extent.Extent.{Extent}
use Rattle.model_streams.specs.declared.extent.PlaceReport.{PlaceReport}
use Rattle.model_streams.specs.Actors.{is_user, is_node, generation_of}
use Rattle.model_streams.specs.Bounds.{AreFew}
use Rattle.model_streams.specs.Maps.{entry_at}
use Rattle.model_streams.specs.Outcome.{Outcome, packet, first_met, silent, sends, refused, or_refused}
use Rattle.model_streams.specs.Replay.{is_closed, seal_fits, trim_fits}
use Rattle.model_streams.specs.Manager as manager
use Rattle.model_streams.specs.Manager.{Catalog, extended, is_there, is_pick, is_foreign, sealed_in, answer, create_taken, open_taken, extend_made, extend_picked, extend_answered, trim_answered, modify_taken, reminders, told_sealed, tells_asker, with_report, frozen_to, known_sealed, place_of, first_sealed, least_told, sealed_to, forgotten, forgotten_if, seal_extent_rule, frozen_rule, is_sealed_rule, short_rule, decide_rule, stream_body_rule, seal_body_rule, manager_rule}
use Rattle.model_streams.proofs.Tests.{if_elim, both_elim}
use Rattle.manager_state.specs.Table.{ManagerTableState, SameCatalog, longer, closed_if, sealed_at, may_lengthen, lengthens}
use Rattle.manager_state.proofs.ReplaysRecords.{lengthens_there}
use Rattle.manager_state.proofs.Tables.{catalog_of, catalog_shows, is_catalog, lengthened_shows, replaced_shows}
use Rattle.manager_rules.proofs.ListPlans.{may_be_listed}
use Rattle.manager_rules.specs.declared.plan.Change.TheVariants.{Nothing}
use Rattle.manager_rules.specs.declared.plan.Plan.{Plan}
use Rattle.manager_rules.specs.Plan as plans
use Rattle.manager_rules.specs.Plan.{changed_by, written_by, CanChange, still, told, denied, plan_of, reminding, asked_by, planned, decide}

pub record Follows (t : ManagerTableState) (plan : Plan) (o : Outcome Catalog) : Type 0 where
  pub after : SameCatalog (changed_by t plan.change) o.after
  pub packets : plan.step.packets ≡ o.packets
  pub notes : plan.step.notes ≡ o.notes
  pub written : o.written ≡ written_by plan.change
  pub can : CanChange t plan.change
  pub few : AreFew plan.step.packets plan.step.notes

-- ---- an end that one more extent may follow

closed_there : (o : Option Extent) → is_closed o ≡ is_there (sealed_in o)
closed_there None = refl
closed_there (Some x) = refl

last_test : (extents : List Extent) (e : ℕ) (known closed : Bool) → is_there (sealed_at extents e) ≡ closed →
    (if known then (if closed then Ok None else Err LastOpen) else Ok (Some e)) ≡ Ok None → is_closed (entry_at extents e) ≡ true
last_test extents e true true is end = closed_there (entry_at extents e) ∙ is
last_test extents e true false is end = absurd cc
last_test extents e false closed is end = absurd cc

behind_test : (extents : List Extent) (l last : Option ℕ) → behind (sealed_at extents) l last ≡ Ok None → may_lengthen extents l ≡ true
behind_test extents None last end = refl
behind_test extents (Some e) last end = last_test extents e (is_number e last) (is_there (sealed_at extents e)) refl end

fence_test : (extents : List Extent) (l last : Option ℕ) (same : Bool) → (if same then behind (sealed_at extents) l last else Err Stale) ≡ Ok None → (same && may_lengthen extents l) ≡ true
fence_test extents l last true end = behind_test extents l last end
fence_test extents l last false end = absurd cc

may_follow : (extents : List Extent) (o : Option Stream) (g : ℕ) (last : Option ℕ) → extending (sealed_at extents) o g last ≡ Ok None → lengthens extents g o ≡ true
may_follow extents None g last end = absurd cc
may_follow extents (Some x) g last end = fence_test extents (last_of x.extents) last (g == x.fence) end

-- ---- a log that loses extents

log_test : (base before end : ℕ) (same begins ends : Bool) → nat_le before base ≡ begins → nat_lt before end ≡ ends →
    (if same then (if begins then Ok false else if ends then Ok true else Err LastOpen) else Err Stale) ≡ Ok true →
    (nat_lt base before && nat_lt before end) ≡ true
log_test base before end true true ends begin stop taken = absurd cc
log_test base before end true false true begin stop taken = grind (arith, nat_tests, begin, stop)
log_test base before end true false false begin stop taken = absurd cc
log_test base before end false begins ends begin stop taken = absurd cc

trim_test : (log blob_data : Option Stream) (g before : ℕ) → trim_of log blob_data g before ≡ Ok true → trim_fits log blob_data before ≡ true
trim_test None blob_data g before taken = absurd cc
trim_test (Some x) None g before taken = absurd cc
trim_test (Some x) (Some y) g before taken =
    log_test (base_of x) before (base_of x + length x.extents) (x.fence == g) (nat_le before (base_of x)) (nat_lt before (base_of x + length x.extents)) refl refl taken

-- nothing changes, and one packet is sent at most
module _ (t : ManagerTableState) where
  quiet : Follows t still (silent (catalog_of t))
  quiet = record { after = catalog_shows t; packets = refl; notes = refl; written = refl; can = tt; few = (omega arith, omega arith) }

  telling : (to : ActorId) (body : Body) → Follows t (told to body) (sends (catalog_of t) (packet Manager to body ∷ []))
  telling to body = record { after = catalog_shows t; packets = refl; notes = refl; written = refl; can = tt; few = (omega arith, omega arith) }

  denying : (p : Packet) (q : ReqNo) (refusal : Refusal) → Follows t (denied p q refusal) (refused (catalog_of t) Manager p q refusal)
  denying p q refusal = telling p.from (plans.refusal_of q refusal)

  -- ---- CreateStream

  create_rules : (p : Packet) (s : StreamName) (fence : ℕ) (q : ReqNo) (foreign taken : Bool) → is_there (stream_of t.streams s) ≡ taken →
      Follows t (if foreign then denied p q Stale else plans.create_in p s fence q (if taken then Some NameTaken else None))
      (or_refused (catalog_of t) Manager p q (first_met ((Stale, foreign) ∷ (NameTaken, is_there (if taken then Some NameTaken else None)) ∷ [])) (create_taken (catalog_of t) p s fence q))
  create_rules p s fence q true taken is = denying p q Stale
  create_rules p s fence q false true is = denying p q NameTaken
  create_rules p s fence q false false is = record {
    after = catalog_shows (record t { streams = created t.streams s fence });
    packets = refl;
    notes = refl;
    written = refl;
    can = (tt, ap (λ (b : Bool). not (is_there (if b then Some NameTaken else None))) is);
    few = (omega arith, omega arith);
  }

  -- ---- OpenStreams and Confirm

  open_rules : (p : Packet) (range g : ℕ) (q : ReqNo) (user four higher : Bool) → has_four t.streams range ≡ four → all_pass (λ x. nat_lt x.fence g) t.streams range ≡ higher →
      Follows t (if user then denied p q Stale else plans.open_in t p range g q (if four then (if higher then None else Some Stale) else Some NoSuchStream))
      (or_refused (catalog_of t) Manager p q (first_met ((Stale, user) ∷ (NoSuchStream, not four) ∷ (Stale, not higher) ∷ [])) (open_taken (catalog_of t) p range g q))
  open_rules p range g q true four higher is_four is_higher = denying p q Stale
  open_rules p range g q false false higher is_four is_higher = denying p q NoSuchStream
  open_rules p range g q false true false is_four is_higher = denying p q Stale
  open_rules p range g q false true true is_four is_higher = record {
    after = catalog_shows (record t { streams = opened t.streams range g });
    packets = refl;
    notes = refl;
    written = refl;
    can = (
      tt,
      ap (λ (b : Bool). not (is_there (if b then (if all_pass (λ x. nat_lt x.fence g) t.streams range then None else Some Stale) else Some NoSuchStream))) is_four
          ∙ ap (λ (b : Bool). not (is_there (if b then None else Some Stale))) is_higher,
    );
    few = (omega arith, omega arith);
  }

  confirm_rules : (p : Packet) (q : ReqNo) (user four same : Bool) →
      Follows t (if user then denied p q Stale else plans.confirm_in p q (if four then (if same then None else Some Stale) else Some NoSuchStream))
      (or_refused (catalog_of t) Manager p q (first_met ((Stale, user) ∷ (NoSuchStream, not four) ∷ (Stale, not same) ∷ [])) (answer (catalog_of t) p (Confirmed q)))
  confirm_rules p q true four same = denying p q Stale
  confirm_rules p q false false same = denying p q NoSuchStream
  confirm_rules p q false true false = denying p q Stale
  confirm_rules p q false true true = telling p.from (plans.confirmed_of q)

  -- ---- Extend

  module _ (p : Packet) (s : StreamName) (g : ℕ) (pick : Nodes) (q : ReqNo) where
    made_rule : is_pick t.nodes pick ≡ true → (x : Stream) → stream_of t.streams s ≡ Some x → lengthens t.extents g (stream_of t.streams s) ≡ true → Follows t (plans.made t p s g pick q) (extend_made (catalog_of t) p s g pick q)
    made_rule picks x is fits = record {
      after =
          let fence : g ≡ x.fence = eqb-true g x.fence (and_parts (g == x.fence) _ (ap (lengthens t.extents g) (sym is) ∙ fits)).0 in
          subst (λ (n : ℕ). SameCatalog (longer t s pick) (extended (catalog_of t) s n pick)) (sym fence) (lengthened_shows t s x pick is);
      packets = refl;
      notes = refl;
      written = refl;
      can = ((and_parts (are_nodes pick) _ picks).0, and_from (is_pick t.nodes pick) _ picks fits);
      few = (omega arith, omega arith);
    }

    picked_rule : lengthens t.extents g (stream_of t.streams s) ≡ true → Follows t (plans.picked t p s g pick q) (extend_picked (catalog_of t) p s g pick q)
    picked_rule fits =
        let x = lengthens_there t.extents g (stream_of t.streams s) fits in
        both_elim (Follows t) (is_pick t.nodes pick) _ _ _ _ (λ picks. made_rule picks x.0 x.1 fits) (λ no. denying p q BadPick)

    last_rule : (e : ℕ) (x : Option Extent) → Follows t (plans.last_told p e x q) (manager.last_told (catalog_of t) p e x q)
    last_rule e None = quiet
    last_rule e (Some x) = telling p.from (plans.extended_of q e x.places)

    answered_rule : (last : Option ℕ) (r : Result (Option ℕ) Refusal) → extending (sealed_at t.extents) (stream_of t.streams s) g last ≡ r →
        Follows t (plans.extend_answered t p s g pick q r) (extend_answered (catalog_of t) p s g pick q r)
    answered_rule last (Err refusal) is = denying p q refusal
    answered_rule last (Ok None) is = picked_rule (may_follow t.extents (stream_of t.streams s) g last is)
    answered_rule last (Ok (Some e)) is = last_rule e (entry_at t.extents e)

  -- ---- Trim

  trim_rules : (p : Packet) (range g before : ℕ) (to_blob : Bool) (q : ReqNo) (r : Result Bool Refusal) → trimming t.streams range g before ≡ r →
      Follows t (plans.trim_in p range before to_blob q r) (trim_answered (catalog_of t) p range before to_blob q r)
  trim_rules p range g before to_blob q (Err refusal) is = denying p q refusal
  trim_rules p range g before to_blob q (Ok false) is = telling p.from (plans.trimmed_of q)
  trim_rules p range g before to_blob q (Ok true) is = record {
    after = catalog_shows (record t { streams = trimmed t.streams range before to_blob });
    packets = refl;
    notes = refl;
    written = refl;
    can = (tt, trim_test (t.streams range 1) (t.streams range 3) g before is);
    few = (omega arith, omega arith);
  }

  -- ---- MultiModify

  modify_rules : (p : Packet) (list : List Modify) (q : ReqNo) (user : Bool) (fault : Option Refusal) → modify_fault (sealed_at t.extents) t.streams list ≡ fault →
      Follows t (if user then denied p q Stale else plans.modify_in p list q fault)
      (or_refused (catalog_of t) Manager p q (if user then Some Stale else fault) (modify_taken (catalog_of t) p list q))
  modify_rules p list q true fault is = denying p q Stale
  modify_rules p list q false (Some refusal) is = denying p q refusal
  modify_rules p list q false None is = record {
    after = catalog_shows (record t { streams = modified t.streams list });
    packets = refl;
    notes = refl;
    written = refl;
    can = (may_be_listed (sealed_at t.extents) t.streams list is, ap (λ (o : Option Refusal). not (is_there o)) is);
    few = (omega arith, omega arith);
  }

  stream_rules : (p : Packet) (body : StreamBody) → Follows t (plans.stream_body t p body) (stream_body_rule (catalog_of t) p body)
  stream_rules p (CreateStream s fence q) = create_rules p s (generation_of p.from fence) q (is_foreign p.from s.range) (is_there (stream_of t.streams s)) refl
  stream_rules p (OpenStreams range g q) = open_rules p range g q (is_user p.from) (has_four t.streams range) (all_pass (λ x. nat_lt x.fence g) t.streams range) refl refl
  stream_rules p (Confirm range g q) = confirm_rules p q (is_user p.from) (has_four t.streams range) (all_pass (λ x. x.fence == g) t.streams range)
  stream_rules p (Extend s g last pick q) =
      both_elim (Follows t) (is_foreign p.from s.range) _ _ _ _ (λ foreign. denying p q Stale)
      (λ own. answered_rule p s (generation_of p.from g) pick q last (extending (sealed_at t.extents) (stream_of t.streams s) (generation_of p.from g) last) refl)
  stream_rules p (Trim range g before to_blob q) =
      both_elim (Follows t) (is_user p.from) _ _ _ _ (λ user. denying p q Stale) (λ other. trim_rules p range g before to_blob q (trimming t.streams range g before) refl)
  stream_rules p (MultiModify list q) = modify_rules p list q (is_user p.from) (modify_fault (sealed_at t.extents) t.streams list) refl
  stream_rules p body = quiet

module _ (t : ManagerTableState) (b : Catalog) (h : SameCatalog t b) where
  still_rule : Follows t still (silent b)
  still_rule = record { after = h; packets = refl; notes = refl; written = refl; can = tt; few = (omega arith, omega arith) }

  told_rule : (to : ActorId) (body : Body) → Follows t (told to body) (sends b (packet Manager to body ∷ []))
  told_rule to body = record { after = h; packets = refl; notes = refl; written = refl; can = tt; few = (omega arith, omega arith) }

  sent_rule : (ps qs : List Packet) → ps ≡ qs → length ps ≤ 2048 → Follows t (plan_of ps Nothing) (sends b qs)
  sent_rule ps qs same short = record { after = h; packets = same; notes = refl; written = refl; can = tt; few = (short, omega arith) }

  -- ---- seals

  same_reminders : (e : ℕ) (x : Extent) → reminding t.target e x ≡ reminders b e x
  same_reminders e x = ap (λ (g : ℕ). reminding g e x) (sym h.target)

  asked_rule : (p : Packet) (e : ℕ) (q : ReqNo) (x : Extent) → entry_at t.extents e ≡ Some x → (o : Option ℕ) → Follows t (plans.seal_asked t.target p e q x o) (manager.seal_asked b p e q x o)
  asked_rule p e q x is None = record {
    after = replaced_shows t b h e (asked_by p q x) x is;
    packets = same_reminders e x;
    notes = refl;
    written = refl;
    can = ap forgotten_if is;
    few = (omega arith, omega arith);
  }
  asked_rule p e q x is (Some l) = sent_rule _ _ (ap (λ (ps : List Packet). ps ++ told_sealed p.from q e l) (same_reminders e x)) (omega arith)

  sealing_rule : (p : Packet) (e : ℕ) (q : ReqNo) (y : Option Extent) → entry_at t.extents e ≡ y → Follows t (plans.seal_extent t.target p e q y) (seal_extent_rule b p e q y)
  sealing_rule p e q None is = told_rule p.from (plans.refusal_of q NoSuchExtent)
  sealing_rule p e q (Some x) is = asked_rule p e q x is x.sealed

  -- what a place tells changes only what a stop drops
  abbrev Keeps : Extent → Option Extent → Type 0
  Keeps x None = Unit {0}
  Keeps x (Some y) = forgotten y ≡ forgotten x

  report_keeps : (x : Extent) (from : ActorId) (news : PlaceReport → PlaceReport) → Keeps x (with_report x from news)
  report_keeps x from news =
      if_elim (Keeps x) (is_node x.places.primary from) _ _ (λ y. refl)
      (λ n. if_elim (Keeps x) (is_node x.places.second from) _ _ (λ y. refl)
      (λ m. if_elim (Keeps x) (is_node x.places.third from) _ _ (λ y. refl) (λ k. tt {0})))

  noted_rule : (e : ℕ) (x : Extent) → entry_at t.extents e ≡ Some x → (y : Option Extent) → Keeps x y → Follows t (plans.noted e y) (manager.noted b e y)
  noted_rule e x is None keeps = still_rule
  noted_rule e x is (Some y) keeps = record {
    after = replaced_shows t b h e y x is;
    packets = refl;
    notes = refl;
    written = refl;
    can = ap forgotten_if is ∙ ap (λ (z : Extent). Some z) (sym keeps);
    few = (omega arith, omega arith);
  }

  froze_rule : (p : Packet) (e length : ℕ) (y : Option Extent) → entry_at t.extents e ≡ y → Follows t (plans.frozen p e length y) (frozen_rule b p e length y)
  froze_rule p e length None is = still_rule
  froze_rule p e length (Some x) is =
      both_elim (Follows t) (is_there x.sealed) _ _ _ _ (λ closed. still_rule)
      (λ live. noted_rule e x is (with_report x p.from (frozen_to length)) (report_keeps x p.from (frozen_to length)))

  closed_rule : (p : Packet) (e : ℕ) (y : Option Extent) → entry_at t.extents e ≡ y → Follows t (plans.is_sealed p e y) (is_sealed_rule b p e y)
  closed_rule p e None is = still_rule
  closed_rule p e (Some x) is = noted_rule e x is (with_report x p.from known_sealed) (report_keeps x p.from known_sealed)

  asks_rule : (e from : ℕ) (to at : Option ℕ) → Follows t (plans.asks_tail e from to at) (manager.asks_tail b e from to at)
  asks_rule e from (Some to) (Some n) = told_rule (Node n) (bodies.Seal (SendTail e from to))
  asks_rule e from (Some to) None = still_rule
  asks_rule e from None (Some n) = still_rule
  asks_rule e from None None = still_rule

  shorted_rule : (p : Packet) (e length : ℕ) (y : Option Extent) → Follows t (plans.short p e length y) (short_rule b p e length y)
  shorted_rule p e length None = still_rule
  shorted_rule p e length (Some x) =
      both_elim (Follows t) (is_there x.sealed) _ _ _ _ (λ closed. asks_rule e length (place_of x.places p.from) (first_sealed x)) (λ live. still_rule)

  tells_few : (e l : ℕ) (who : Option Asker) → length (tells_asker e l who) ≤ 1
  tells_few e l None = omega arith
  tells_few e l (Some asker) = omega arith

  decided_rule : (e : ℕ) (x : Extent) → entry_at t.extents e ≡ Some x → is_there x.sealed ≡ false → (o : Option ℕ) → Follows t (plans.decided_if t.target e x o) (manager.decided_if b e x o)
  decided_rule e x is live None = still_rule
  decided_rule e x is live (Some l) = record {
    after = subst (λ (y : Option Extent). SameCatalog (closed_if t e y l) (manager.with_extent b e (sealed_to x l))) (sym is) (replaced_shows t b h e (sealed_to x l) x is);
    packets = ap (λ (ps : List Packet). ps ++ tells_asker e l x.asker) (same_reminders e (sealed_to x l));
    notes = refl;
    written = refl;
    can = (tt, ap seal_fits is ∙ ap not live);
    few = (omega (arith, tells_few e l x.asker), omega arith);
  }

  pub decide_follows : (e : ℕ) (y : Option Extent) → entry_at t.extents e ≡ y → Follows t (decide t.target e y) (decide_rule b e y)
  decide_follows e None is = still_rule
  decide_follows e (Some x) is =
      both_elim (Follows t) (is_there x.sealed) _ _ _ _ (λ closed. sent_rule _ _ (same_reminders e x) (omega arith)) (λ live. decided_rule e x is live (least_told x))

  -- ---- the table

  stream_follows : (p : Packet) (body : StreamBody) → Follows t (plans.stream_body t p body) (stream_body_rule b p body)
  stream_follows p body = subst (λ (c : Catalog). Follows t (plans.stream_body t p body) (stream_body_rule c p body)) (is_catalog t b h) (stream_rules t p body)

  -- the extent that the catalog has is the table's
  module _ (e : ℕ) (plan : Option Extent → Plan) (rule : Option Extent → Outcome Catalog) (rows : (y : Option Extent) → entry_at t.extents e ≡ y → Follows t (plan y) (rule y)) where
    at_entry : Follows t (plan (entry_at t.extents e)) (rule (b.extent e))
    at_entry = subst (λ (y : Option Extent). Follows t (plan (entry_at t.extents e)) (rule y)) (sym (h.extent e)) (rows (entry_at t.extents e) refl)

  seal_follows : (p : Packet) (body : SealBody) → Follows t (plans.seal_body t p body) (seal_body_rule b p body)
  seal_follows p (SealExtent e q) = at_entry e (plans.seal_extent t.target p e q) (seal_extent_rule b p e q) (sealing_rule p e q)
  seal_follows p (Frozen e l) = at_entry e (plans.frozen p e l) (frozen_rule b p e l) (froze_rule p e l)
  seal_follows p (IsSealed e) = at_entry e (plans.is_sealed p e) (is_sealed_rule b p e) (closed_rule p e)
  seal_follows p (Short e l) = at_entry e (plans.short p e l) (short_rule b p e l) (λ y is. shorted_rule p e l y)
  seal_follows p body = still_rule

  pub plan_follows : (p : Packet) (body : Body) → Follows t (planned t p body) (manager_rule b p body)
  plan_follows p (bodies.Stream body) = stream_follows p body
  plan_follows p (bodies.Seal body) = seal_follows p body
  plan_follows p body = still_rule

  pub decision_follows : (e : ℕ) → Follows t (decide t.target e (entry_at t.extents e)) (decide_rule b e (b.extent e))
  decision_follows e = at_entry e (decide t.target e) (decide_rule b e) (decide_follows e)
