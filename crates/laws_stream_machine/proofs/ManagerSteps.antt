-- What the manager does, as steps of the machine of one stream.
use Rattle.std.proofs.Common.{◌≡◌, ◌≢◌, ℕ, suc, ◌≤◌, List, [], ◌∷◌, Some, None, slice_get, Contains, refl, sym, ap, ◌∙◌, subst, inl, arith, append-nil}
use Rattle.wire.specs.declared.actor.ActorId.TheVariants.{Manager, Server}
use Rattle.wire.specs.declared.actor.ReqNo.TheVariants.{NoRequest}
use Rattle.wire.specs.declared.body.AppendBody.TheVariants.{Appended}
use Rattle.wire.specs.declared.body.CheckBody.TheVariants.{Checked as CheckedAt}
use Rattle.wire.specs.declared.body.ReadBody.TheVariants.{Groups}
use Rattle.wire.specs.declared.body.SealBody.TheVariants.{SealExtent}
use Rattle.wire.specs.declared.body.Body.TheVariants as bodies
use Rattle.wire.specs.declared.packet.Packet.{Packet}
use Rattle.wire.specs.declared.streams.StreamKind.TheVariants.{BlobData}
use Rattle.wire.specs.declared.streams.StreamName.{StreamName}
use Rattle.replica.specs.Groups.{Group}
use Rattle.streams.specs.Streams.{stream_of}
use Rattle.model_streams.specs.Manager.{Catalog, manager_rule, decide_rule}
use Rattle.model_streams.specs.Outcome.{Outcome, packet}
use Rattle.model_streams.specs.StreamSystem.{StreamSystem, burnt, stops_in, stands_in, unsent, manager_halted, after_manager_rule, manager_performs, manager_takes, manager_decides}
use Rattle.model_streams.proofs.Tests.{if_elim}
use Rattle.laws_streams.proofs.BuildRequests.{ServersAsk}
use Rattle.laws_streams.proofs.Choices.{Each, each-get, contains_get}
use Rattle.laws_streams.proofs.Ground.{Ground, FinePacket}
use Rattle.laws_streams.proofs.MoreKnown.{later_refl}
use Rattle.laws_streams.proofs.RestsOnGround.{Moment, Added, places_of, FineManagerRule, manager_rule_holds, manager_rule_unsent, manager_halted_holds}
use Rattle.laws_streams.proofs.EventSteps.{recelled}
use Rattle.laws_streams.proofs.ManagerRules.{manager_keeps}
use Rattle.laws_streams.proofs.DecisionRules.{SealsNow, decide_keeps}
use Rattle.laws_streams.proofs.ListRules.{Goes}
use Rattle.laws_streams.proofs.KeptStreams.{decide_same}
use Rattle.laws_streams.proofs.ManagerAnswers as manager
use Rattle.laws_streams.proofs.DecisionAnswers as decision
use Rattle.model_histories.specs.StreamMachine.{MachineState}
use Rattle.laws_stream_machine.specs.Refinement.{Sent, purpose_if, stream_meant}
use Rattle.laws_stream_machine.proofs.FactSources.{Lawful}
use Rattle.laws_stream_machine.proofs.StepSequences.{Onward, onward_refl, Walk, stand, walk_on, walk_weaker}
use Rattle.laws_stream_machine.proofs.MachineCore.{Shaped, ground_walk}
use Rattle.laws_stream_machine.proofs.SentPackets.{Called, manager_calls_not, decision_calls_not, AllAppended, unmoved_appended, Ahead, ahead_same, stream_on}
use Rattle.laws_stream_machine.proofs.Refines.{Follows}
use Rattle.laws_stream_machine.proofs.SystemSteps.{ahead_goes, Answered, next_follows}
use Rattle.laws_stream_machine.proofs.StreamRules.{IsListed, ToldOf, rule_walk}

-- no append is delivered
abbrev no_append : Moment
no_append = record { told = []; number = 0; packet = packet Manager Manager (bodies.Seal (SealExtent 0 NoRequest)) }

module _ (generation : ℕ → ℕ) (name : StreamName) (sent : List Sent) (w : StreamSystem) (s : MachineState Group) (a : Follows generation name w s sent)
    (plain : name.kind ≢ BlobData) (asks : ServersAsk w.post) where
  abbrev pub Leads : StreamSystem → Type 0
  Leads v = Walk generation s (λ t. Follows generation name v t sent)

  fresh_is : w.catalog.extent (suc w.catalog.count) ≡ None
  fresh_is = a.holds.catalog.fresh (suc w.catalog.count) (omega arith)

  -- a packet of the manager's, which is no answer of a node
  abbrev FromManager : Packet → Type 0
  FromManager x =
      (x.from ≡ Manager) × Called x × ((q : _) (e o : ℕ) → x.body ≡ bodies.Append (Appended q e o) → ⊥) × ((q : _) (l : ℕ) → x.body ≡ bodies.Check (CheckedAt q (Some l)) → ⊥)
      × ((q : _) (e : ℕ) (groups : List Group) → x.body ≡ bodies.Read (Groups q e groups) → ⊥)

  answered_of : (v u : StreamSystem) (t : MachineState Group) (h : Ground) → u.catalog ≡ v.catalog → (x : Packet) → FromManager x → ToldOf generation name sent v t x → Answered generation name u t sent h x
  answered_of v u t h same x (from, called, no_append_is, no_check, no_read) told =
      let ahead : Ahead name v t u t = ahead_same name v t u t same (onward_refl t) in
      record {
        inside = λ server is. let c : Manager ≡ Server server = sym from ∙ is in cc;
        called = called;
        meant = λ server to. record {
          appended = λ q e o is. absurd (no_append_is q e o is);
          checked = λ q l is. absurd (no_check q l is);
          streamed = λ body is. stream_on name generation v t u t ahead sent (purpose_if generation name v t sent (stream_meant body)) body (told server to body is);
        };
        read = λ server q e groups is. absurd (no_read q e groups (ap (λ (y : Packet). y.body) is));
      }

  all_answered : (v u : StreamSystem) (t : MachineState Group) (h : Ground) → u.catalog ≡ v.catalog → (packets : List Packet) → Each FromManager packets → Each (ToldOf generation name sent v t) packets →
      Each (Answered generation name u t sent h) packets
  all_answered v u t h same [] from told = tt
  all_answered v u t h same (x ∷ packets) from told = (answered_of v u t h same x from.0 told.0, all_answered v u t h same packets from.1 told.1)

  from_rule : (b : Catalog) (taken : Packet) (packets : List Packet) → Each (manager.ManagerTells b taken) packets → Each FromManager packets
  from_rule b taken [] tells = tt
  from_rule b taken (x ∷ packets) ((from, tells), more) = (
    (
      from,
      (λ t. absurd (manager_calls_not b taken x.to x.body tells t)),
      (λ q e o is. subst (manager.BodyTells b taken x.to) is tells),
      (λ q l is. subst (manager.BodyTells b taken x.to) is tells),
      (λ q e groups is. subst (manager.BodyTells b taken x.to) is tells),
    ),
    from_rule b taken packets more,
  )

  from_decision : (b : Catalog) (e : ℕ) (after : Catalog) (packets : List Packet) → Each (decision.DecisionTells b e after) packets → Each FromManager packets
  from_decision b e after [] tells = tt
  from_decision b e after (x ∷ packets) ((from, tells), more) = (
    (
      from,
      (λ t. absurd (decision_calls_not b e after x.to x.body tells t)),
      (λ q k o is. subst (decision.BodyTells b e after x.to) is tells),
      (λ q l is. subst (decision.BodyTells b e after x.to) is tells),
      (λ q k groups is. subst (decision.BodyTells b e after x.to) is tells),
    ),
    from_decision b e after packets more,
  )

  decision_told : (b : Catalog) (e : ℕ) (after : Catalog) (v : StreamSystem) (t : MachineState Group) (packets : List Packet) → Each (decision.DecisionTells b e after) packets → Each (ToldOf generation name sent v t) packets
  decision_told b e after v t [] tells = tt
  decision_told b e after v t (x ∷ packets) ((from, tells), more) =
      ((λ server to body is. absurd (subst (decision.BodyTells b e after x.to) is tells)), decision_told b e after v t packets more)

  -- the manager goes through a rule, of which the steps are known
  module _ (News : ℕ → ℕ → Type 0) (o : Outcome Catalog) (h : Ground) (rule_fine : FineManagerRule News w.notes a.ground h o) (from : Each FromManager o.packets)
      (rows : (t : MachineState Group) → Onward s t → Shaped (stream_of w.catalog.stream name) h t sent →
      Walk generation t (λ u. Shaped (stream_of o.after.stream name) h u sent × Each (ToldOf generation name sent (after_manager_rule w o) u) o.packets)) where
    performed : Walk generation s (λ u. Shaped (stream_of o.after.stream name) h u sent × Each (ToldOf generation name sent (after_manager_rule w o) u) o.packets)
    performed =
        walk_on generation s (λ t. Shaped (stream_of w.catalog.stream name) h t sent) _
        (ground_walk generation (stream_of w.catalog.stream name) a.ground h rule_fine.later a.holds.sound rule_fine.sound sent s no_append a.shaped.settled
        (λ k. inl (rule_fine.unmoved k)) (λ k (added : Added no_append a.ground h k). absurd (let is = added.body in cc)) (λ k at unsealed counted request group is. absurd cc) a.shaped.live)
        rows

    appended : AllAppended w.post h
    appended = unmoved_appended w.post a.ground h rule_fine.unmoved a.appended

    pub does_walk : Goes w.post w.catalog (manager_performs w o).catalog → Leads (manager_performs w o)
    does_walk =
        if_elim (λ v. Goes w.post w.catalog v.catalog → Leads v) (stops_in w.manager_cell o.written) _ _
        (λ stops. if_elim (λ v. Goes w.post w.catalog v.catalog → Leads v) (stands_in w.manager_cell) _ _
        (λ stands goes. walk_weaker generation s _ _ performed
        (λ t on there. next_follows generation name w s sent a (manager_halted (after_manager_rule w (unsent o))) t h rule_fine.later appended
        (manager_halted_holds (after_manager_rule w (unsent o)) h (manager_rule_holds News w a.ground h (unsent o) a.holds (manager_rule_unsent News w.notes a.ground h o rule_fine)))
        (ahead_goes generation name plain w s sent a asks (manager_halted (after_manager_rule w (unsent o))) t goes on) there.0 [] refl tt))
        (λ lost goes. stand generation s _
        (next_follows generation name w s sent a (manager_halted w) s a.ground (later_refl a.ground) a.appended (manager_halted_holds w a.ground a.holds)
        (ahead_goes generation name plain w s sent a asks (manager_halted w) s goes (onward_refl s)) a.shaped [] (sym (append-nil w.post)) tt)))
        (λ runs goes. walk_weaker generation s _ _ performed
        (λ t on there.
        let v : StreamSystem = after_manager_rule (record w { manager_cell = burnt w.manager_cell o.written }) o in
        next_follows generation name w s sent a v t h rule_fine.later appended
        (manager_rule_holds News (record w { manager_cell = burnt w.manager_cell o.written }) a.ground h o (recelled w w.cell (burnt w.manager_cell o.written) a.ground a.holds) rule_fine)
        (ahead_goes generation name plain w s sent a asks v t goes on) there.0 o.packets refl (all_answered (after_manager_rule w o) v t h refl o.packets from there.1)))

  -- ---- a packet to the manager, and a decision

  pub manager_event : 1 ≤ name.range → Lawful Group generation s → IsListed w name → (number : ℕ) (p : Packet) →
      slice_get w.post number ≡ Some p → p.to ≡ Manager → Goes w.post w.catalog (manager_takes w p).catalog → Leads (manager_takes w p)
  manager_event own lawful listed number p at to =
      let stood : Contains w.post p = contains_get w.post number p at in
      let (h, rule_fine) = manager_keeps (λ e l. Unit {0}) w.notes a.ground w.catalog p p.body a.holds.sound a.holds.catalog (each-get (FinePacket a.ground) w.post number p a.holds.packets at) in
      if_elim (λ v. Goes w.post w.catalog v.catalog → Leads v) w.manager_cell.up (manager_performs w (manager_rule w.catalog p p.body)) w
      (λ up. does_walk (λ e l. Unit {0}) (manager_rule w.catalog p p.body) h rule_fine (from_rule w.catalog p (manager_rule w.catalog p p.body).packets (manager.manager_tells w.catalog p))
      (λ t on shaped.
      rule_walk generation name sent w s a.asked a.called lawful listed asks h t on shaped (λ e none. (rule_fine.unmoved e).0 ∙ (a.holds.sound.unmade e (a.holds.catalog.places e ∙ ap places_of none)).0) fresh_is p stood to own plain p.body refl rule_fine.catalog))
      (λ down goes. stand generation s _ a)

  pub decide_event : (e : ℕ) → Goes w.post w.catalog (manager_decides w e).catalog → Leads (manager_decides w e)
  decide_event e =
      let o = decide_rule w.catalog e (w.catalog.extent e) in
      let (h, rule_fine) = decide_keeps w.notes a.ground w.catalog e (w.catalog.extent e) refl a.holds.sound a.holds.catalog in
      let tells = decision.decision_tells w.catalog e in
      if_elim (λ v. Goes w.post w.catalog v.catalog → Leads v) w.manager_cell.up (manager_performs w o) w
      (λ up. does_walk (SealsNow e (w.catalog.extent e)) o h rule_fine (from_decision w.catalog e o.after o.packets tells)
      (λ t on shaped. stand generation t _ (
        subst (λ z. Shaped (stream_of z name) h t sent) (sym (decide_same w.catalog e (w.catalog.extent e))) shaped,
        decision_told w.catalog e o.after (after_manager_rule w o) t o.packets tells,
      )))
      (λ down goes. stand generation s _ a)
