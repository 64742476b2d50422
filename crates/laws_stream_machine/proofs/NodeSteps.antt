-- What nodes do, as steps of the machine of one stream.
use Rattle.std.proofs.Common.{◌≡◌, ◌⊎◌, ℕ, ◌≤◌, true, List, [], ◌∷◌, length, take, ◌+◌, Option, Some, None, slice_get, Contains, refl, sym, ap, ◌∙◌, subst, inl, inr, arith, append-nil, ◌==◌}
use Rattle.block_types.specs.declared.record.Nodes.{Nodes}
use Rattle.wire.specs.declared.actor.ActorId.{ActorId}
use Rattle.wire.specs.declared.actor.ActorId.TheVariants.{Node, Manager, Map, Server, User}
use Rattle.wire.specs.declared.actor.ReqNo.{ReqNo}
use Rattle.wire.specs.declared.body.AppendBody.{AppendBody}
use Rattle.wire.specs.declared.body.AppendBody.TheVariants.{Append, Appended}
use Rattle.wire.specs.declared.body.CheckBody.{CheckBody}
use Rattle.wire.specs.declared.body.CheckBody.TheVariants.{Check, Probed, Checked as CheckedAt}
use Rattle.wire.specs.declared.body.ReadBody.TheVariants.{ReadGroups, Groups}
use Rattle.wire.specs.declared.body.Body.{Body}
use Rattle.wire.specs.declared.body.Body.TheVariants as bodies
use Rattle.wire.specs.declared.note.Note.{Note}
use Rattle.wire.specs.declared.note.Note.TheVariants.{Acked}
use Rattle.wire.specs.declared.packet.Packet.{Packet}
use Rattle.wire.specs.declared.streams.StreamName.{StreamName}
use Rattle.replica.specs.Groups.{Group, size, text_length}
use Rattle.streams.specs.Streams.{Stream, stream_of}
use Rattle.model_streams.specs.declared.checking.Checking.{Checking}
use Rattle.model_streams.specs.Actors.{generation_of}
use Rattle.model_streams.specs.declared.extent.Extent.{Extent}
use Rattle.model_streams.specs.Manager.{Catalog, sealed_in, sealed_lengths}
use Rattle.model_streams.specs.Maps.{changed}
use Rattle.model_streams.specs.Node.{Replica, extent_of, node_rule, probed_by, probed_for, with_probed, settled}
use Rattle.model_streams.specs.Outcome.{Outcome, packet, silent}
use Rattle.model_streams.specs.StreamSystem.{StreamSystem, burnt, stops_in, stands_in, unsent, node_halted, after_node_rule, node_performs, node_takes, is_server_call}
use Rattle.model_streams.proofs.Tests.{if_elim}
use Rattle.laws_streams.specs.Origins.{Begins}
use Rattle.laws_streams.proofs.Lists.{begins_trans}
use Rattle.laws_streams.proofs.Choices.{Each, each-get, each-weaker, each-contains, contains_get, contains_left}
use Rattle.laws_streams.proofs.Ground.{Ground, FineNote, FinePacket, FineAck, FineBody, FineCheck, FineChecking, FineChecked, FineWaiting, FineOne, FineReplica}
use Rattle.laws_streams.proofs.MoreKnown.{later_refl, waiting_later}
use Rattle.laws_streams.proofs.RestsOnGround.{Moment, Unmoved, Added, origin_of, FineRule, FineCatalog, sealed_of, rule_holds, rule_unsent, halted_holds}
use Rattle.laws_streams.proofs.RuleInvariant.{open_phase}
use Rattle.laws_streams.proofs.ReadRules.{prefix_fine}
use Rattle.laws_streams.proofs.NodeRules.{node_keeps}
use Rattle.laws_streams.proofs.EventSteps.{recelled}
use Rattle.laws_streams.proofs.StreamAnswers.{same_packet}
use Rattle.laws_streams.proofs.NodeAnswers as node
use Rattle.model_histories.specs.StreamMachine as machine
use Rattle.model_histories.specs.StreamMachine.{MachineState}
use Rattle.laws_stream_machine.specs.Refinement.{Purpose, Checks, Appends, Sent, purpose_of, extents_of, AsksToAppend, AppendMeans, CheckMeans}
use Rattle.laws_stream_machine.proofs.FactSources.{Lawful}
use Rattle.laws_stream_machine.proofs.StepSequences.{Onward, onward_refl, onward_trans, Walk, stand, walk_on, walk_weaker}
use Rattle.laws_stream_machine.proofs.MachineCore.{IsIn, Shaped, AppendFor, ground_walk, same_got, pushed_get}
use Rattle.laws_stream_machine.proofs.SentPackets.{is_outside, node_calls_not, Reading, Appending, AllAppended, Ahead, ahead_same, append_on, check_on}
use Rattle.laws_stream_machine.proofs.Refines.{Follows}
use Rattle.laws_stream_machine.proofs.SystemSteps.{Answered, next_follows}
use Rattle.laws_stream_machine.proofs.NodeAnswers.{AppendDue, CheckDue, answer_append, answer_check}

-- ---- the answer to a probe is one packet at most

abbrev AtMostOne : List Packet → Type 0
AtMostOne packets = (packets ≡ []) ⊎ ((x : Packet) × (packets ≡ x ∷ []))

probed_one : (n : ℕ) (s : Option Replica) (p : Packet) (e k l : ℕ) → AtMostOne (node_rule n s p (bodies.Check (Probed e k l))).packets
probed_one n None p e k l = inr (_, refl)
probed_one n (Some r) p e k l = by_check r.check
  where
    settles : (c : Checking) (a b : Option ℕ) → (((settled n r c a b).packets ≡ []) ⊎ ((x : Packet) × ((settled n r c a b).packets ≡ x ∷ [])))
    settles c (Some a) (Some b) = inr (_, refl)
    settles c (Some a) None = inl refl
    settles c None b = inl refl

    by_told : (o : Option Checking) → (((probed_by n r o).packets ≡ []) ⊎ ((x : Packet) × ((probed_by n r o).packets ≡ x ∷ [])))
    by_told None = inl refl
    by_told (Some c) = settles c c.second c.third

    by_check : (o : Option Checking) → (((probed_for n r p k l o).packets ≡ []) ⊎ ((x : Packet) × ((probed_for n r p k l o).packets ≡ x ∷ [])))
    by_check None = inl refl
    by_check (Some c) =
        if_elim (λ (o : Outcome (Option Replica)). ((o.packets ≡ []) ⊎ ((x : Packet) × (o.packets ≡ x ∷ [])))) (c.generation == k) (probed_by n r (with_probed c r.content.places p.from l)) (silent (Some r))
        (λ t. by_told (with_probed c r.content.places p.from l)) (λ t. inl refl)

-- ---- an extent that is not sealed

unsealed_known : (g : Ground) (b : Catalog) → FineCatalog g b → (e : ℕ) → g.sealed e ≡ None → sealed_lengths b e ≡ None
unsealed_known g b fine e unsealed = by_extent (b.extent e) (sym (fine.sealed e) ∙ unsealed)
  where
    by_extent : (o : Option Extent) → sealed_of o ≡ None → sealed_in o ≡ None
    by_extent None none = refl
    by_extent (Some x) none = none

-- ---- a packet to a node

module _ (generation : ℕ → ℕ) (name : StreamName) (sent : List Sent) (w : StreamSystem) (s : MachineState Group) (a : Follows generation name w s sent) (lawful : Lawful Group generation s)
    (n : ℕ) (p : Packet) (stood : Contains w.post p) (to : p.to ≡ Node n) (number : ℕ) (told : List Note) where
  abbrev o : Option Stream
  o = stream_of w.catalog.stream name

  abbrev g : Ground
  g = a.ground

  abbrev k : ℕ
  k = extent_of p.body

  abbrev rule : Outcome (Option Replica)
  rule = node_rule n (w.replica n k) p p.body

  abbrev now : Moment
  now = record { told = told; number = number; packet = p }

  -- an append to the last extent of the stream was asked for
  append_asked : (e : ℕ) → IsIn o (length s.core.shut) e → g.sealed e ≡ None → (counted : ℕ) (request : ReqNo) (group : Group) → p.body ≡ bodies.Append (Append e counted group request) →
      1 ≤ generation_of p.from counted → AppendFor generation sent s (length s.core.shut) (generation_of p.from counted) request group
  append_asked e at unsealed counted request group is some =
      by_from p.from refl (a.called p stood (subst (λ z. is_server_call z ≡ true) (sym is) refl)) some
    where
      by_from : (from : ActorId) → p.from ≡ from → is_outside from ≡ true → 1 ≤ generation_of from counted → AppendFor generation sent s (length s.core.shut) (generation_of from counted) request group
      by_from (Server server) from outside some =
          let x = a.asked server (Node n) (bodies.Append (Append e counted group request))
          (subst (Contains w.post) (same_packet p (Server server) (Node n) (bodies.Append (Append e counted group request)) from to is) stood) in
          let y : AsksToAppend generation name w s sent counted e (length s.core.shut) group request = x.unsealed (length s.core.shut) (at, unsealed_known g w.catalog a.holds.catalog e unsealed) in
          record { i = y.i; append = y.append; for = y.for; under = y.under; fact = y.fact }
      by_from (User u) from outside some = absurd (omega (arith, some))
      by_from (Node m) from outside some = absurd cc
      by_from Manager from outside some = absurd cc
      by_from Map from outside some = absurd cc

  -- the append of a group that came now is the packet
  appended_now : (h : Ground) → ((e : ℕ) → Unmoved g h e ⊎ Added now g h e) → AllAppended w.post h
  appended_now h grown e k from is = by_grown (grown e)
    where
      by_grown : Unmoved g h e ⊎ Added now g h e → Appending w.post e from
      by_grown (inl same) = a.appended e k from (subst (λ z. slice_get z k ≡ Some from) same.1 is)
      by_grown (inr added) = elim (pushed_get (g.origin e) (origin_of now added.generation added.request) k from (subst (λ z. slice_get z k ≡ Some from) added.origin is)) [
        | inl old ↦ a.appended e k from old
        | inr new ↦ subst (Appending w.post e) (sym new.1) (record { packet = p; generation = added.generation; group = added.group; sent = stood; body = added.body; counted = refl })
      ]

  module _ (h : Ground) (fine : FineRule now g h n k rule) where
    abbrev Done : MachineState Group → Type 0
    Done t = Shaped o h t sent

    moves_walk : Walk generation s Done
    moves_walk =
        ground_walk generation o g h fine.later a.holds.sound fine.sound sent s now a.shaped.settled fine.grown (λ e added. fine.sealed e) append_asked a.shaped.live

    abbrev NodeTold : Packet → Type 0
    NodeTold x = node.NodeTells n (w.replica n k) k p rule.notes x

    renamed : (who from : ActorId) (request q : ReqNo) (P : ActorId → ReqNo → Packet) → who ≡ from → request ≡ q → Contains w.post (P who request) → Contains w.post (P from q)
    renamed who from request q P x y c = subst (λ z. Contains w.post (P from z)) y (subst (λ z. Contains w.post (P z request)) x c)

    -- the request of a server, whose number is for this stream
    check_index : (server : ℕ) (who : ActorId) (e counted : ℕ) (q : ReqNo) (i index : ℕ) → Contains w.post (packet (Server server) who (bodies.Check (Check e counted q))) → purpose_of sent q ≡ Some (Checks i index) →
        IsIn o index e × (generation i ≡ counted) × machine.In (machine.AsksCheck i index) s.facts
    check_index server who e counted q i index there for =
        let x = a.asked server who (bodies.Check (Check e counted q)) there in
        let (there_index, at, y) = x.known (Checks i index) for in
        let d : Some (Checks y.i there_index) ≡ Some (Checks i index) = sym y.for ∙ for in
        let ii : y.i ≡ i = cc in
        let jj : there_index ≡ index = cc in (
          subst (λ j. IsIn o j e) jj at,
          ap generation (sym ii) ∙ y.under,
          subst (λ j. machine.In (machine.AsksCheck i j) s.facts) jj (subst (λ j. machine.In (machine.AsksCheck j there_index) s.facts) ii y.fact),
        )

    append_index : (server : ℕ) (who : ActorId) (e counted : ℕ) (blocks : Group) (q : ReqNo) (i index append : ℕ) (group : Group) → Contains w.post (packet (Server server) who (bodies.Append (Append e counted blocks q))) →
        purpose_of sent q ≡ Some (Appends i index append group) → IsIn o index e × (blocks ≡ group) × machine.In (machine.AsksAppend i index append group) s.facts
    append_index server who e counted blocks q i index append group there for =
        let x = a.asked server who (bodies.Append (Append e counted blocks q)) there in
        let (there_index, at, y) = x.known (Appends i index append group) for in
        let d : Some (Appends y.i there_index y.append blocks) ≡ Some (Appends i index append group) = sym y.for ∙ for in
        let jj : there_index ≡ index = cc in
        let same : ◌≡◌ {A = machine.Fact Group} (machine.AsksAppend y.i there_index y.append blocks) (machine.AsksAppend i index append group) = cc in (
          subst (λ j. IsIn o j e) jj at,
          cc,
          subst (λ (f : machine.Fact Group). machine.In f s.facts) same y.fact,
        )

    -- ---- a check is answered

    abbrev CheckOk : Packet → MachineState Group → Type 0
    CheckOk x t = (server : ℕ) → x.to ≡ Server server → (q : ReqNo) (l : ℕ) → x.body ≡ bodies.Check (CheckedAt q (Some l)) → CheckMeans generation name w t sent (purpose_of sent q) (CheckedAt q (Some l))

    check_due : (x : Packet) → FinePacket h x → (server : ℕ) → x.to ≡ Server server → (q : ReqNo) (l : ℕ) → x.body ≡ bodies.Check (CheckedAt q (Some l)) →
        (f : node.FromCheck (w.replica n k) k p x.to q l) → (i index : ℕ) → purpose_of sent q ≡ Some (Checks i index) → CheckDue generation name sent o g h s k index i l
    check_due x right server at q l is f i index for =
        let r = f.replica in
        let one : FineOne g n k r = subst (FineReplica g n k) f.there (a.holds.replicas n k) in
        let check : FineChecking g n k r.content.places r.content.fence f.check = subst (FineCheck g n k r.content.places r.content.fence) f.checks one.check in
        let asker : f.check.asker ≡ Server server = sym f.asker ∙ at in
        let asked : Contains w.post (packet (Server server) (Node n) (bodies.Check (Check k check.generation q))) =
        renamed f.check.asker (Server server) f.check.request q (λ who request. packet who (Node n) (bodies.Check (Check k check.generation request))) asker (sym f.request) (a.holds.asked _ check.asked) in
        let here = check_index server (Node n) k check.generation q i index asked for in
        let under : f.check.generation ≡ generation i = check.counted ∙ ap (λ z. generation_of z check.generation) asker ∙ sym here.1 in
        let checked : FineChecked h x.from x.to q l = subst (FineBody h x.from x.to) is right in
        let again : Contains w.post (packet (Server server) x.from (bodies.Check (Check checked.extent checked.generation q))) =
        subst (λ z. Contains w.post (packet z x.from (bodies.Check (Check checked.extent checked.generation q)))) at
        (elim (fine.asked _ checked.asked) [ inl old ↦ a.holds.asked _ old | inr same ↦ subst (Contains w.post) (sym same) stood ]) in
        let there = check_index server x.from checked.extent checked.generation q i index again for in
        let which : checked.extent ≡ k = same_got (extents_of o) index checked.extent k there.0 here.0 in
        let fenced : checked.generation ≤ h.fence k = subst (λ z. checked.generation ≤ h.fence z) which (subst (λ z. generation_of z checked.generation ≤ h.fence checked.extent) at checked.covers.fenced) in
        let phase = open_phase g n k r f.opened one in
        let script : h.script k ≡ g.script k = elim (fine.grown k) [
          | inl unmoved ↦ unmoved.0
          | inr added ↦ absurd (let d : bodies.Check (Probed k f.generation f.told) ≡ bodies.Append (Append k added.generation added.group added.request) = sym f.body ∙ added.body in cc)
        ] in
        record {
          at = here.0;
          fact = here.2;
          above = omega (arith, check.above, under);
          newer = omega (arith, check.newer, under);
          fenced = let same : generation i ≡ checked.generation = there.1 in omega (arith, fenced, same);
          whole = ap text_length (phase.2 check.primary) ∙ sym f.length;
          script = script;
          sealed = fine.sealed k;
          had = λ places made.
              let same : Some checked.covers.places ≡ Some places = sym checked.covers.made ∙ ap h.places which ∙ made in
              let pp : checked.covers.places ≡ places = cc in
              subst (λ e. (l ≤ h.last places.primary e) × (l ≤ h.last places.second e) × (l ≤ h.last places.third e)) which
              (subst (λ (z : Nodes). (l ≤ h.last z.primary checked.extent) × (l ≤ h.last z.second checked.extent) × (l ≤ h.last z.third checked.extent)) pp checked.covers.had);
        }

    no_check : (x : Packet) → ((server : ℕ) → x.to ≡ Server server → (q : ReqNo) (l : ℕ) → x.body ≡ bodies.Check (CheckedAt q (Some l)) → (i index : ℕ) → purpose_of sent q ≡ Some (Checks i index) → ⊥) →
        (t : MachineState Group) → CheckOk x t
    no_check x none t server at q l is = by_purpose (purpose_of sent q) refl
      where
        by_purpose : (z : Option Purpose) → purpose_of sent q ≡ z → CheckMeans generation name w t sent z (CheckedAt q (Some l))
        by_purpose (Some (Checks i index)) for = absurd (none server at q l is i index for)
        by_purpose z for = tt

    check_walk : (x : Packet) → NodeTold x → FinePacket h x → Walk generation s (λ t. Done t × CheckOk x t)
    check_walk x tells right = by_to x.to refl
      where
        plain : ((server : ℕ) → x.to ≡ Server server → (q : ReqNo) (l : ℕ) → x.body ≡ bodies.Check (CheckedAt q (Some l)) → (i index : ℕ) → purpose_of sent q ≡ Some (Checks i index) → ⊥) →
            Walk generation s (λ t. Done t × CheckOk x t)
        plain none = walk_weaker generation s Done _ moves_walk (λ t on done. (done, no_check x none t))

        by_purpose : (server : ℕ) → x.to ≡ Server server → (q : ReqNo) (l : ℕ) → x.body ≡ bodies.Check (CheckedAt q (Some l)) → (z : Option Purpose) → purpose_of sent q ≡ z → Walk generation s (λ t. Done t × CheckOk x t)
        by_purpose server at q l is (Some (Checks i index)) for =
            let f : node.FromCheck (w.replica n k) k p x.to q l = subst (node.BodyTells (w.replica n k) k p rule.notes x.to) is tells.1 in
            walk_weaker generation s _ _
            (answer_check generation name sent o g h fine.later a.holds.sound fine.sound s k index i l a.shaped (check_due x right server at q l is f i index for) moves_walk)
            (λ t on got. (
              got.0,
              λ other at2 q2 l2 is2.
                  let same : bodies.Check (CheckedAt q (Some l)) ≡ bodies.Check (CheckedAt q2 (Some l2)) = sym is ∙ is2 in
                  let qq : q ≡ q2 = cc in
                  let ll : l ≡ l2 = cc in
                  rw (← qq, ← ll, for) got.1,
            ))
        by_purpose server at q l is z for =
            plain (λ other at2 q2 l2 is2 i index for2.
            let same : bodies.Check (CheckedAt q (Some l)) ≡ bodies.Check (CheckedAt q2 (Some l2)) = sym is ∙ is2 in
            let qq : q ≡ q2 = cc in
            let d : z ≡ Some (Checks i index) = sym for ∙ ap (purpose_of sent) qq ∙ for2 in
            absurd (cc))

        by_check : (server : ℕ) → x.to ≡ Server server → (b : CheckBody) → x.body ≡ bodies.Check b → Walk generation s (λ t. Done t × CheckOk x t)
        by_check server at (CheckedAt q (Some l)) is = by_purpose server at q l is (purpose_of sent q) refl
        by_check server at b is = plain (λ other at2 q2 l2 is2 i index for2. let same : bodies.Check b ≡ bodies.Check (CheckedAt q2 (Some l2)) = sym is ∙ is2 in absurd (cc))

        by_body : (server : ℕ) → x.to ≡ Server server → (b : Body) → x.body ≡ b → Walk generation s (λ t. Done t × CheckOk x t)
        by_body server at (bodies.Check b) is = by_check server at b is
        by_body server at b is = plain (λ other at2 q2 l2 is2 i index for2. let same : b ≡ bodies.Check (CheckedAt q2 (Some l2)) = sym is ∙ is2 in absurd (cc))

        by_to : (who : ActorId) → x.to ≡ who → Walk generation s (λ t. Done t × CheckOk x t)
        by_to (Server server) at = by_body server at x.body refl
        by_to who at = plain (λ other at2 q2 l2 is2 i index for2. let same : who ≡ Server other = sym at ∙ at2 in absurd (cc))

    -- ---- appends are answered

    abbrev AppendOk : Packet → MachineState Group → Type 0
    AppendOk x t = (server : ℕ) → x.to ≡ Server server → (q : ReqNo) (e offset : ℕ) → x.body ≡ bodies.Append (Appended q e offset) → AppendMeans generation name w t sent (purpose_of sent q) (Appended q e offset)

    append_due : (t : MachineState Group) → Onward s t → (x : Packet) (server : ℕ) → x.to ≡ Server server → (q : ReqNo) (e offset : ℕ) → x.body ≡ bodies.Append (Appended q e offset) →
        (f : node.FromWaiting (w.replica n k) k rule.notes x.to q e offset) → (i index append : ℕ) (group : Group) → purpose_of sent q ≡ Some (Appends i index append group) →
        AppendDue generation name sent o h t e index i append group offset
    append_due t on x server at q e offset is f i index append group for =
        let r = f.replica in
        let one : FineOne g n k r = subst (FineReplica g n k) f.there (a.holds.replicas n k) in
        let old : FineWaiting g n k f.waiting = each-contains (FineWaiting g n k) r.waiting f.waiting one.waits f.waits in
        let waits : FineWaiting h n k f.waiting = waiting_later g h fine.later n k f.waiting old in
        let asked : Contains w.post (packet (Server server) (Node n) (bodies.Append (Append k old.generation f.waiting.group q))) =
        renamed f.waiting.asker (Server server) f.waiting.request q (λ who request. packet who (Node n) (bodies.Append (Append k old.generation f.waiting.group request))) (sym f.asker ∙ at) (sym f.request) (a.holds.asked _ old.asked) in
        let here = append_index server (Node n) k old.generation f.waiting.group q i index append group asked for in
        let ack : FineAck h k f.waiting.offset f.waiting.group = each-contains (FineNote h) rule.notes (Acked k f.waiting.offset f.waiting.group) fine.notes f.noted in
        let same : f.waiting.group ≡ group = here.1 in
        let sized = ap size same in
        record {
          at = subst (λ z. IsIn o index z) (sym f.extent) here.0;
          begun = on.facts _ (lawful.begun i index append group here.2);
          place = waits.index;
          from = waits.from;
          for = ap (purpose_of sent) (waits.number ∙ sym f.request) ∙ for;
          is = subst (λ z. slice_get (h.script z) waits.index ≡ Some group) (sym f.extent) (waits.is ∙ ap Some same);
          start = subst (λ z. text_length (take waits.index (h.script z)) ≡ offset) (sym f.extent) (waits.start ∙ sym f.offset);
          appended = subst (λ z. slice_get (h.origin z) waits.index ≡ Some waits.from) (sym f.extent) waits.appended;
          some = omega (arith, ack.some, sized);
          within = subst (λ z. offset + size group ≤ h.acked z) (sym f.extent) (omega (arith, ack.within, sized, f.offset));
        }

    no_append_ok : (x : Packet) → ((server : ℕ) → x.to ≡ Server server → (q : ReqNo) (e offset : ℕ) → x.body ≡ bodies.Append (Appended q e offset) →
        (i index append : ℕ) (group : Group) → purpose_of sent q ≡ Some (Appends i index append group) → ⊥) → (t : MachineState Group) → AppendOk x t
    no_append_ok x none t server at q e offset is = by_purpose (purpose_of sent q) refl
      where
        by_purpose : (z : Option Purpose) → purpose_of sent q ≡ z → AppendMeans generation name w t sent z (Appended q e offset)
        by_purpose (Some (Appends i index append group)) for = absurd (none server at q e offset is i index append group for)
        by_purpose z for = tt

    append_walk : (t : MachineState Group) → Onward s t → Done t → (x : Packet) → NodeTold x → Walk generation t (λ u. Done u × AppendOk x u)
    append_walk t on done x tells = by_to x.to refl
      where
        plain : ((server : ℕ) → x.to ≡ Server server → (q : ReqNo) (e offset : ℕ) → x.body ≡ bodies.Append (Appended q e offset) →
            (i index append : ℕ) (group : Group) → purpose_of sent q ≡ Some (Appends i index append group) → ⊥) → Walk generation t (λ u. Done u × AppendOk x u)
        plain none = stand generation t _ (done, no_append_ok x none t)

        by_purpose : (server : ℕ) → x.to ≡ Server server → (q : ReqNo) (e offset : ℕ) → x.body ≡ bodies.Append (Appended q e offset) → (z : Option Purpose) → purpose_of sent q ≡ z → Walk generation t (λ u. Done u × AppendOk x u)
        by_purpose server at q e offset is (Some (Appends i index append group)) for =
            let f : node.FromWaiting (w.replica n k) k rule.notes x.to q e offset = subst (node.BodyTells (w.replica n k) k p rule.notes x.to) is tells.1 in
            let due = append_due t on x server at q e offset is f i index append group for in
            walk_weaker generation t _ _ (answer_append generation name sent o h fine.sound t e index i append group offset done due)
            (λ u far got. (
              got.0,
              λ other at2 q2 e2 offset2 is2.
                  let same : bodies.Append (Appended q e offset) ≡ bodies.Append (Appended q2 e2 offset2) = sym is ∙ is2 in
                  let qq : q ≡ q2 = cc in
                  let ee : e ≡ e2 = cc in
                  let oo : offset ≡ offset2 = cc in
                  rw (← qq, ← ee, ← oo, for) (due.at, got.1),
            ))
        by_purpose server at q e offset is z for =
            plain (λ other at2 q2 e2 offset2 is2 i index append group for2.
            let same : bodies.Append (Appended q e offset) ≡ bodies.Append (Appended q2 e2 offset2) = sym is ∙ is2 in
            let qq : q ≡ q2 = cc in
            let d : z ≡ Some (Appends i index append group) = sym for ∙ ap (purpose_of sent) qq ∙ for2 in
            absurd (cc))

        by_append : (server : ℕ) → x.to ≡ Server server → (b : AppendBody) → x.body ≡ bodies.Append b → Walk generation t (λ u. Done u × AppendOk x u)
        by_append server at (Appended q e offset) is = by_purpose server at q e offset is (purpose_of sent q) refl
        by_append server at b is = plain (λ other at2 q2 e2 offset2 is2 i index append group for2. let same : bodies.Append b ≡ bodies.Append (Appended q2 e2 offset2) = sym is ∙ is2 in absurd (cc))

        by_body : (server : ℕ) → x.to ≡ Server server → (b : Body) → x.body ≡ b → Walk generation t (λ u. Done u × AppendOk x u)
        by_body server at (bodies.Append b) is = by_append server at b is
        by_body server at b is = plain (λ other at2 q2 e2 offset2 is2 i index append group for2. let same : b ≡ bodies.Append (Appended q2 e2 offset2) = sym is ∙ is2 in absurd (cc))

        by_to : (who : ActorId) → x.to ≡ who → Walk generation t (λ u. Done u × AppendOk x u)
        by_to (Server server) at = by_body server at x.body refl
        by_to who at = plain (λ other at2 q2 e2 offset2 is2 i index append group for2. let same : who ≡ Server other = sym at ∙ at2 in absurd (cc))

    -- both kinds of answers stay so
    check_ok_on : (x : Packet) (t u : MachineState Group) → Onward t u → CheckOk x t → CheckOk x u
    check_ok_on x t u on ok server at q l is = check_on name generation w t w u (ahead_same name w t w u refl on) sent (purpose_of sent q) (CheckedAt q (Some l)) (ok server at q l is)

    append_ok_on : (x : Packet) (t u : MachineState Group) → Onward t u → AppendOk x t → AppendOk x u
    append_ok_on x t u on ok server at q e offset is = append_on name generation w t w u (ahead_same name w t w u refl on) sent (purpose_of sent q) (Appended q e offset) (ok server at q e offset is)

    abbrev EachCheck : List Packet → MachineState Group → Type 0
    EachCheck packets t = Each (λ x. CheckOk x t) packets

    abbrev EachAppend : List Packet → MachineState Group → Type 0
    EachAppend packets t = Each (λ x. AppendOk x t) packets

    appends_walk : (packets : List Packet) → Each NodeTold packets → (t : MachineState Group) → Onward s t → Done t → Walk generation t (λ u. Done u × EachAppend packets u)
    appends_walk [] tells t on done = stand generation t _ (done, tt)
    appends_walk (x ∷ packets) (tells, more) t on done =
        walk_on generation t (λ u. Done u × AppendOk x u) _ (append_walk t on done x tells)
        (λ u far got.
        walk_weaker generation u _ _ (appends_walk packets more u (onward_trans s t u on far) got.0)
        (λ v further rest. (rest.0, (append_ok_on x u v further got.1, rest.1))))

    -- where the packet is no answer to a probe, no check is answered
    none_checked : ((e counted l : ℕ) → p.body ≡ bodies.Check (Probed e counted l) → ⊥) → (t : MachineState Group) (packets : List Packet) → Each NodeTold packets → EachCheck packets t
    none_checked other t [] tells = tt
    none_checked other t (x ∷ packets) (tells, more) = (
      (no_check x (λ server at q l is i index for.
          let f : node.FromCheck (w.replica n k) k p x.to q l = subst (node.BodyTells (w.replica n k) k p rule.notes x.to) is tells.1 in
          other k f.generation f.told f.body) t),
      none_checked other t packets more,
    )

    first_walk : Walk generation s (λ t. Done t × EachCheck rule.packets t)
    first_walk = by_body p.body refl
      where
        plain : ((e counted l : ℕ) → p.body ≡ bodies.Check (Probed e counted l) → ⊥) → Walk generation s (λ t. Done t × EachCheck rule.packets t)
        plain other = walk_weaker generation s Done _ moves_walk (λ t on done. (done, none_checked other t rule.packets (node.node_tells n (w.replica n k) p)))

        probed : (e counted l : ℕ) → p.body ≡ bodies.Check (Probed e counted l) → Walk generation s (λ t. Done t × EachCheck rule.packets t)
        probed e counted l is = by_packets (subst (λ b. ((node_rule n (w.replica n k) p b).packets ≡ []) ⊎ ((x : Packet) × ((node_rule n (w.replica n k) p b).packets ≡ x ∷ []))) (sym is) (probed_one n (w.replica n k) p e counted l))
          where
            by_packets : ((rule.packets ≡ []) ⊎ ((x : Packet) × (rule.packets ≡ x ∷ []))) → Walk generation s (λ t. Done t × EachCheck rule.packets t)
            by_packets (inl none) = walk_weaker generation s Done _ moves_walk (λ t on done. (done, subst (λ xs. EachCheck xs t) (sym none) tt))
            by_packets (inr (x, one)) =
                let tells : Each NodeTold (x ∷ []) = subst (λ xs. Each NodeTold xs) one (node.node_tells n (w.replica n k) p) in
                let right : Each (FinePacket h) (x ∷ []) = subst (λ xs. Each (FinePacket h) xs) one fine.packets in
                walk_weaker generation s _ _ (check_walk x tells.0 right.0) (λ t on got. (got.0, subst (λ xs. EachCheck xs t) (sym one) (got.1, tt)))

        by_check : (b : CheckBody) → p.body ≡ bodies.Check b → Walk generation s (λ t. Done t × EachCheck rule.packets t)
        by_check (Probed e counted l) is = probed e counted l is
        by_check b is = plain (λ e counted l at. let same : bodies.Check b ≡ bodies.Check (Probed e counted l) = sym is ∙ at in cc)

        by_body : (b : Body) → p.body ≡ b → Walk generation s (λ t. Done t × EachCheck rule.packets t)
        by_body (bodies.Check b) is = by_check b is
        by_body b is = plain (λ e counted l at. let same : b ≡ bodies.Check (Probed e counted l) = sym is ∙ at in cc)

    all_walk : Walk generation s (λ t. Done t × EachCheck rule.packets t × EachAppend rule.packets t)
    all_walk =
        walk_on generation s (λ t. Done t × EachCheck rule.packets t) _ first_walk
        (λ t on got.
        walk_weaker generation t _ _ (appends_walk rule.packets (node.node_tells n (w.replica n k) p) t on got.0)
        (λ u far rest. (rest.0, each-weaker (λ x. CheckOk x t) (λ x. CheckOk x u) (λ x ok. check_ok_on x t u far ok) rule.packets got.1, rest.1)))

    -- ---- the packets of the rule

    reading_of : (v : StreamSystem) → (more : (x : Packet) → Contains w.post x → Contains v.post x) → (x : Packet) → NodeTold x → (server : ℕ) (q : ReqNo) (e : ℕ) (groups : List Group) →
        x ≡ packet x.from (Server server) (bodies.Read (Groups q e groups)) → Reading v.post h x.from server q e groups
    reading_of v more x (from, tells) server q e groups is =
        let at : x.to ≡ Server server = ap (λ (y : Packet). y.to) is in
        let body : x.body ≡ bodies.Read (Groups q e groups) = ap (λ (y : Packet). y.body) is in
        let f : node.FromReading (w.replica n k) k p x.to q e groups = subst (node.BodyTells (w.replica n k) k p rule.notes x.to) body tells in
        let r = f.replica in
        let one : FineOne g n k r = subst (FineReplica g n k) f.there (a.holds.replicas n k) in
        let prefix = prefix_fine f.upto r.content.groups groups f.found in
        let asked : Contains w.post (packet (Server server) (Node n) (bodies.Read (ReadGroups e f.upto f.sealed q))) =
        subst (Contains w.post) (same_packet p (Server server) (Node n) (bodies.Read (ReadGroups e f.upto f.sealed q)) (sym f.asker ∙ at) to f.body) stood in
        record {
          upto = f.upto;
          sealed = f.sealed;
          asked = subst (λ z. Contains v.post (packet (Server server) z (bodies.Read (ReadGroups e f.upto f.sealed q)))) (sym from) (more _ asked);
          begins = subst (λ z. Begins groups (h.script z)) (sym f.extent) (begins_trans prefix.begins (begins_trans one.begins (fine.later.script k)));
          ends = prefix.length;
        }

    answered_all : (v : StreamSystem) (t : MachineState Group) → v.catalog ≡ w.catalog → ((x : Packet) → Contains w.post x → Contains v.post x) → (packets : List Packet) → Each NodeTold packets → EachCheck packets t → EachAppend packets t →
        Each (Answered generation name v t sent h) packets
    answered_all v t same more [] tells checks appends = tt
    answered_all v t same more (x ∷ packets) (tells, rest) (check, checks) (append, appends) =
        let ahead : Ahead name w t v t = ahead_same name w t v t same (onward_refl t) in (
          record {
            inside = λ server is. let c : Node n ≡ Server server = sym tells.0 ∙ is in cc;
            called = λ y. absurd (node_calls_not (w.replica n k) k p rule.notes x.to x.body tells.1 y);
            meant = λ server at. record {
              appended = λ q e offset is. append_on name generation w t v t ahead sent (purpose_of sent q) (Appended q e offset) (append server at q e offset is);
              checked = λ q l is. check_on name generation w t v t ahead sent (purpose_of sent q) (CheckedAt q (Some l)) (check server at q l is);
              streamed = λ body is. absurd (subst (node.BodyTells (w.replica n k) k p rule.notes x.to) is tells.1);
            };
            read = λ server q e groups is. reading_of v more x tells server q e groups is;
          },
          answered_all v t same more packets rest checks appends,
        )

  -- ---- the event

  abbrev pub Leads : StreamSystem → Type 0
  Leads v = Walk generation s (λ t. Follows generation name v t sent)

  does_walk : told ≡ w.notes → (h : Ground) → FineRule now g h n k rule → Leads (node_performs w n k rule)
  does_walk before h fine =
      if_elim Leads (stops_in (w.cell n) rule.written) _ _
      (λ stops. if_elim Leads (stands_in (w.cell n)) _ _
      (λ stands.
      let v : StreamSystem = node_halted (after_node_rule w n k (unsent rule)) n in
      walk_weaker generation s (Done h fine) _ (moves_walk h fine)
      (λ t on done. next_follows generation name w s sent a v t h fine.later (appended_now h fine.grown)
      (halted_holds (after_node_rule w n k (unsent rule)) h n (rule_holds w now g h n k (unsent rule) before stood a.holds (rule_unsent now g h n k rule fine)))
      (ahead_same name w s v t refl on) done [] refl tt))
      (λ lost. stand generation s _
      (next_follows generation name w s sent a (node_halted w n) s g (later_refl g) a.appended (halted_holds w g n a.holds) (ahead_same name w s (node_halted w n) s refl (onward_refl s)) a.shaped [] (sym (append-nil w.post)) tt)))
      (λ runs.
      let u : StreamSystem = record w { cell = changed n (burnt (w.cell n) rule.written) w.cell } in
      let v : StreamSystem = after_node_rule u n k rule in
      walk_weaker generation s _ _ (all_walk h fine)
      (λ t on got. next_follows generation name w s sent a v t h fine.later (appended_now h fine.grown)
      (rule_holds u now g h n k rule before stood (recelled w (changed n (burnt (w.cell n) rule.written) w.cell) w.manager_cell g a.holds) fine)
      (ahead_same name w s v t refl on) got.0 rule.packets refl
      (answered_all h fine v t refl (λ x c. contains_left w.post rule.packets x c) rule.packets (node.node_tells n (w.replica n k) p) got.1 got.2)))

pub node_event : (generation : ℕ → ℕ) (name : StreamName) (sent : List Sent) (w : StreamSystem) (s : MachineState Group) → (a : Follows generation name w s sent) → Lawful Group generation s →
    (n number : ℕ) (p : Packet) → slice_get w.post number ≡ Some p → p.to ≡ Node n → Walk generation s (λ t. Follows generation name (node_takes w n p) t sent)
node_event generation name sent w s a lawful n number p at to =
    let stood : Contains w.post p = contains_get w.post number p at in
    let now : Moment = record { told = w.notes; number = number; packet = p } in
    let (h, fine) = node_keeps now a.ground n (w.replica n (extent_of p.body)) to a.holds.sound a.holds.notes (a.holds.replicas n (extent_of p.body)) (each-get (FinePacket a.ground) w.post number p a.holds.packets at) in
    if_elim (λ v. Walk generation s (λ t. Follows generation name v t sent)) (w.cell n).up _ w
    (λ up. does_walk generation name sent w s a lawful n p stood to number w.notes refl h fine)
    (λ down. stand generation s _ a)
