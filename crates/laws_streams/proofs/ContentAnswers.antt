-- What the answers of nodes say: groups that were read begin the script, bytes that were read were observed, and groups that were
-- appended stand in the script.
use Rattle.std.proofs.Common.{◌≡◌, ℕ, ◌≤◌, true, List, ◌∷◌, ◌++◌, Some, Contains, refl, sym, ap, ◌∙◌, inl, inr, arith, subst, append_assoc}
use Rattle.std.proofs.lemmas.List.Elements.{Contains-append_right}
use Rattle.wire.specs.declared.actor.ActorId.{ActorId}
use Rattle.wire.specs.declared.actor.ActorId.TheVariants.{Node}
use Rattle.wire.specs.declared.actor.ReqNo.{ReqNo}
use Rattle.wire.specs.declared.body.AppendBody.TheVariants.{Appended}
use Rattle.wire.specs.declared.body.ReadBody.TheVariants.{ReadGroups, Groups, Bytes}
use Rattle.wire.specs.declared.body.Body.TheVariants as bodies
use Rattle.wire.specs.declared.note.Note.TheVariants.{Acked, SealedAt, Seen}
use Rattle.wire.specs.declared.packet.Packet.{Packet}
use Rattle.replica.specs.Groups.{Group, text_length}
use Rattle.model_streams.specs.declared.waiting_append.WaitingAppend.{WaitingAppend}
use Rattle.model_streams.specs.Actors.{generation_of}
use Rattle.model_streams.specs.Node.{Replica, extent_of, node_rule}
use Rattle.model_streams.specs.Outcome.{packet}
use Rattle.model_streams.specs.StreamSystem.{StreamSystem, Move, moved, run_moves, start}
use Rattle.laws_streams.specs.Answers.{SealedIn, ReadBy, AppendedBy, ContentAnswered}
use Rattle.laws_streams.proofs.Lists.{begins_trans, begins_length}
use Rattle.laws_streams.proofs.Choices.{each-contains}
use Rattle.laws_streams.proofs.Ground.{Ground, FineAck, FineWaiting, FineOne, FineReplica}
use Rattle.laws_streams.proofs.MoreKnown.{waiting_later, waiting_generation}
use Rattle.laws_streams.proofs.ReadRules.{prefix_fine, sealed_length}
use Rattle.laws_streams.proofs.Claims.{told}
use Rattle.laws_streams.proofs.Invariant.{AfterMore}
use Rattle.laws_streams.proofs.RisingFences.{run_more}
use Rattle.laws_streams.proofs.LastingLengths.{AllHad, sealed_beyond, held_at}
use Rattle.laws_streams.proofs.AnsweredChecks.{hold}
use Rattle.laws_streams.proofs.Traces.{Traced, traced, known_then}
use Rattle.laws_streams.proofs.ManagerAnswers as manager
use Rattle.laws_streams.proofs.NodeAnswers as node
use Rattle.laws_streams.proofs.DecisionAnswers as decision
use Rattle.laws_streams.proofs.StreamAnswers.{same_packet, stays_in}
use Rattle.laws_streams.proofs.SealAnswers.{sealed_known, known_sealed, sealed_stays}
use Rattle.laws_streams.proofs.PacketSources.{NodeSends, SentIn, sent_first, notes_stay}

module _ (nodes target : ℕ) (before after : List Move) where
  abbrev first : StreamSystem
  first = start nodes target

  abbrev moves : List Move
  moves = before ++ after

  -- all that is known of the run
  abbrev trace : Traced first moves moves
  trace = traced first moves nodes target refl

  abbrev ground : Ground
  ground = trace.now.ground

  -- the moves that are left after one of the first part
  left_over : (past rest : List Move) (move : Move) → before ≡ past ++ move ∷ rest → moves ≡ past ++ (move ∷ (rest ++ after))
  left_over past rest move split = ap (λ xs. xs ++ after) split ∙ append_assoc past (move ∷ rest) after

  -- ---- groups that were read

  module _ (n : ℕ) (to : ActorId) (q : ReqNo) (e : ℕ) (groups : List Group) (past rest : List Move) (move : Move) (split : before ≡ past ++ move ∷ rest)
      (taken : Packet) (stood : Contains (run_moves past first).post taken) (at : taken.to ≡ Node n)
      (f : node.FromReading ((run_moves past first).replica n e) e taken to q e groups) where
    sealed_whole : (g : Ground) → FineOne g n e f.replica → (known : (l : ℕ) → g.sealed e ≡ Some l → SealedIn (run_moves past first).catalog e l) →
        f.sealed ≡ true → (l : ℕ) × SealedIn (run_moves before first).catalog e l × SealedIn (run_moves moves first).catalog e l × (f.upto ≤ l)
    sealed_whole g fine known closed =
        let l = text_length f.replica.content.groups in
        let is = sealed_length g n e f.replica.content.places f.replica.content.groups f.replica.content.phase (f.closed closed) fine.phase in
        let now : SealedIn (run_moves before first).catalog e l = rw split (sealed_stays nodes target past (move ∷ rest) e l (known l is)) in
        let prefix = prefix_fine f.upto f.replica.content.groups groups f.found in
        (l, now, sealed_stays nodes target before after e l now, omega (arith, prefix.length, begins_length prefix.begins))

    read_so : ReadBy before after first ground.script (Node n) to q e groups
    read_so =
        let (early, later) = known_then first moves trace past (move ∷ (rest ++ after)) (left_over past rest move split) in
        let fine : FineOne early.ground n e f.replica = subst (FineReplica early.ground n e) f.there (early.holds.replicas n e) in
        let prefix = prefix_fine f.upto f.replica.content.groups groups f.found in
        record {
          node = n;
          teller = refl;
          upto = f.upto;
          sealed = f.sealed;
          asked = subst (Contains (run_moves before first).post) (same_packet taken to (Node n) (bodies.Read (ReadGroups e f.upto f.sealed q)) (sym f.asker) at f.body)
              (stays_in before past rest move first split taken stood);
          begins = begins_trans prefix.begins (begins_trans fine.begins (later.script e));
          ends = prefix.length;
          whole = sealed_whole early.ground fine (λ l is. known_sealed early.ground (run_moves past first).catalog early.holds.catalog e l is);
        }

  -- ---- groups that were appended

  acked_had : (e : ℕ) → AllHad ground e (ground.acked e)
  acked_had e at made = trace.now.holds.sound.all_had e at made

  module _ (n e : ℕ) (past rest : List Move) (move : Move) (split : before ≡ past ++ move ∷ rest) (x : WaitingAppend)
      (r : Replica) (there : (run_moves past first).replica n e ≡ Some r) (waits : Contains r.waiting x)
      (noted : Contains (run_moves before first).notes (Acked e x.offset x.group)) where
    appended_so : AppendedBy before after first ground.script ground.origin (Node n) x.asker x.request e x.offset
    appended_so =
        let (early, later) = known_then first moves trace past (move ∷ (rest ++ after)) (left_over past rest move split) in
        let fine : FineOne early.ground n e r = subst (FineReplica early.ground n e) there (early.holds.replicas n e) in
        let old : FineWaiting early.ground n e x = each-contains (FineWaiting early.ground n e) r.waiting x fine.waits waits in
        let f = waiting_later early.ground ground later n e x old in
        let last : Contains (run_moves moves first).notes (Acked e x.offset x.group) =
        rw (run_more before after first) (notes_stay after (run_moves before first) (Acked e x.offset x.group) noted) in
        let ack : FineAck ground e x.offset x.group = told (run_moves moves first) ground trace.now.holds (Acked e x.offset x.group) last in
        record {
          node = n;
          teller = refl;
          generation = old.generation;
          blocks = x.group;
          asked = stays_in before past rest move first split _ (early.holds.asked _ old.asked);
          index = f.index;
          source = f.from;
          is = f.is;
          start = f.start;
          appended = f.appended;
          counted = f.counted ∙ ap (generation_of x.asker) (waiting_generation early.ground ground later n e x old);
          number = f.number;
          noted = noted;
          held = λ m s here place.
              let k = held_at ground e (ground.acked e) (acked_had e) trace.now.holds.sound m s
              (subst (FineReplica ground m e) here (trace.now.holds.replicas m e)) place in
              omega (arith, k, ack.within);
          sealed = λ l s.
              let k = sealed_beyond ground e (ground.acked e) (acked_had e) trace.now.holds.sound l
              (sealed_known ground (run_moves moves first).catalog trace.now.holds.catalog e l s) in
              omega (arith, k, ack.within);
          shown = λ l s.
              let k = sealed_beyond ground e (ground.acked e) (acked_had e) trace.now.holds.sound l
              (told (run_moves moves first) ground trace.now.holds (SealedAt e l) s) in
              omega (arith, k, ack.within);
        }

  -- ---- the answers

  read_of : (from to : ActorId) (q : ReqNo) (e k n : ℕ) (groups : List Group) → from ≡ Node n → e ≡ k →
      ReadBy before after first ground.script (Node n) to q k groups → ReadBy before after first ground.script from to q e groups
  read_of from to q e k n groups a b x = rw (a, b) x

  appended_of : (from to who : ActorId) (q r : ReqNo) (e k o offset n : ℕ) → from ≡ Node n → to ≡ who → q ≡ r → e ≡ k → o ≡ offset →
      AppendedBy before after first ground.script ground.origin (Node n) who r k offset →
      AppendedBy before after first ground.script ground.origin from to q e o
  appended_of from to who q r e k o offset n a b c d f x = rw (a, b, c, d, f) x

  module _ (from to : ActorId) (q : ReqNo) (e : ℕ) where
    module _ (groups : List Group) where
      abbrev reading : Packet
      reading = packet from to (bodies.Read (Groups q e groups))

      read_by : SentIn before first reading → ReadBy before after first ground.script from to q e groups
      read_by a = elim a.sends [
        | inl x ↦ elim x [ inl t ↦ absurd cc | inr t ↦ elim t [ inl y ↦ absurd (let c = y.2 in cc) | inr y ↦ absurd cc ] ]
        | inr x ↦ elim x [
          | inl m ↦ by_node m
          | inr y ↦ elim y [
            | inl m ↦ absurd (each-contains (manager.ManagerTells (run_moves a.past first).catalog m.taken) _ reading
                (manager.manager_tells (run_moves a.past first).catalog m.taken) m.rule).1
            | inr d ↦ absurd (each-contains (decision.DecisionTells (run_moves a.past first).catalog d.extent _) _ reading
                (decision.decision_tells (run_moves a.past first).catalog d.extent) d.rule).1
          ]
        ]
      ]
        where
          by_node : NodeSends (run_moves a.past first) a.move (moved (run_moves a.past first) a.move) reading →
              ReadBy before after first ground.script from to q e groups
          by_node m =
              let v = run_moves a.past first in
              let k = extent_of m.taken.body in
              let (teller, f) = each-contains (node.NodeTells m.node (v.replica m.node k) k m.taken (node_rule m.node (v.replica m.node k) m.taken m.taken.body).notes) _
              reading (node.node_tells m.node (v.replica m.node k) m.taken) m.rule in
              let here = subst (λ j. node.FromReading (v.replica m.node k) k m.taken to q j groups) f.extent f in
              read_of from to q e k m.node groups teller f.extent
              (read_so m.node to q k groups a.past a.rest a.move a.split m.taken m.stood m.to here)

    module _ (offset : ℕ) (bytes : List ℕ) where
      abbrev sight : Packet
      sight = packet from to (bodies.Read (Bytes q e offset bytes))

      seen_by : SentIn before first sight → (n : ℕ) × Contains (run_moves before first).notes (Seen e n offset bytes)
      seen_by a = elim a.sends [
        | inl x ↦ elim x [ inl t ↦ absurd cc | inr t ↦ elim t [ inl y ↦ absurd (let c = y.2 in cc) | inr y ↦ absurd cc ] ]
        | inr x ↦ elim x [
          | inl m ↦ by_node m
          | inr y ↦ elim y [
            | inl m ↦ absurd (each-contains (manager.ManagerTells (run_moves a.past first).catalog m.taken) _ sight
                (manager.manager_tells (run_moves a.past first).catalog m.taken) m.rule).1
            | inr d ↦ absurd (each-contains (decision.DecisionTells (run_moves a.past first).catalog d.extent _) _ sight
                (decision.decision_tells (run_moves a.past first).catalog d.extent) d.rule).1
          ]
        ]
      ]
        where
          by_node : NodeSends (run_moves a.past first) a.move (moved (run_moves a.past first) a.move) sight →
              (n : ℕ) × Contains (run_moves before first).notes (Seen e n offset bytes)
          by_node m =
              let v = run_moves a.past first in
              let k = extent_of m.taken.body in
              let rule = node_rule m.node (v.replica m.node k) m.taken m.taken.body in
              let (teller, f) = each-contains (node.NodeTells m.node (v.replica m.node k) k m.taken rule.notes) _
              sight (node.node_tells m.node (v.replica m.node k) m.taken) m.rule in
              let x = Seen e f.0 offset bytes in
              let now : Contains (moved v a.move).notes x = subst (λ xs. Contains xs x) (sym m.notes) (Contains-append_right v.notes rule.notes x f.1) in
              (f.0, rw (a.split, run_more a.past (a.move ∷ a.rest) first) (notes_stay a.rest (moved v a.move) x now))

    module _ (o : ℕ) where
      abbrev answer : Packet
      answer = packet from to (bodies.Append (Appended q e o))

      appended_by : SentIn before first answer → AppendedBy before after first ground.script ground.origin from to q e o
      appended_by a = elim a.sends [
        | inl x ↦ elim x [ inl t ↦ absurd cc | inr t ↦ elim t [ inl y ↦ absurd (let c = y.2 in cc) | inr y ↦ absurd cc ] ]
        | inr x ↦ elim x [
          | inl m ↦ by_node m
          | inr y ↦ elim y [
            | inl m ↦ absurd (each-contains (manager.ManagerTells (run_moves a.past first).catalog m.taken) _ answer
                (manager.manager_tells (run_moves a.past first).catalog m.taken) m.rule).1
            | inr d ↦ absurd (each-contains (decision.DecisionTells (run_moves a.past first).catalog d.extent _) _ answer
                (decision.decision_tells (run_moves a.past first).catalog d.extent) d.rule).1
          ]
        ]
      ]
        where
          by_node : NodeSends (run_moves a.past first) a.move (moved (run_moves a.past first) a.move) answer →
              AppendedBy before after first ground.script ground.origin from to q e o
          by_node m =
              let v = run_moves a.past first in
              let k = extent_of m.taken.body in
              let rule = node_rule m.node (v.replica m.node k) m.taken m.taken.body in
              let (teller, f) = each-contains (node.NodeTells m.node (v.replica m.node k) k m.taken rule.notes) _
              answer (node.node_tells m.node (v.replica m.node k) m.taken) m.rule in
              let x = Acked k f.waiting.offset f.waiting.group in
              let now : Contains (moved v a.move).notes x = subst (λ xs. Contains xs x) (sym m.notes) (Contains-append_right v.notes rule.notes x f.noted) in
              let noted : Contains (run_moves before first).notes x =
              rw (a.split, run_more a.past (a.move ∷ a.rest) first) (notes_stay a.rest (moved v a.move) x now) in
              appended_of from to f.waiting.asker q f.waiting.request e k o f.waiting.offset m.node teller f.asker f.request f.extent f.offset
              (appended_so m.node k a.past a.rest a.move a.split f.waiting f.replica f.there f.waits noted)

  content : ContentAnswered before after first
  content =
      let (half, later) = known_then first moves trace before after refl in
      let whole : AfterMore first moves half.ground moves = record { ground = ground; later = later; holds = trace.now.holds; dated = trace.now.dated } in
      record {
        fences = hold first before after half whole;
        groups = λ from to q e groups c. read_by from to q e groups (sent_first nodes target before (packet from to (bodies.Read (Groups q e groups))) c);
        bytes = λ from to q e offset bytes c. seen_by from to q e offset bytes (sent_first nodes target before (packet from to (bodies.Read (Bytes q e offset bytes))) c);
        appended = λ from to q e o c. appended_by from to q e o (sent_first nodes target before (packet from to (bodies.Append (Appended q e o))) c);
      }

pub content_answered : (nodes target : ℕ) (before after : List Move) → ContentAnswered before after (start nodes target)
content_answered nodes target before after = content nodes target before after
