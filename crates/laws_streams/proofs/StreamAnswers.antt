-- What the manager's answers about streams say: each was made by the move that brought the packet that asked.
use Rattle.std.proofs.Common.{◌≡◌, ◌≢◌, ◌⊎◌, ℕ, suc, ◌<◌, true, false, not, ◌||◌, ◌==◌, List, ◌∷◌, ◌++◌, Option, Some, None, Result, Ok, Err, Contains, refl, sym, ap, ◌∙◌, inl, inr, arith, subst, eq-eqb}
use Rattle.std.proofs.lemmas.Bool.{eqb-true}
use Rattle.block_types.specs.declared.record.Nodes.{Nodes}
use Rattle.block_types.specs.declared.record.Record.{Record}
use Rattle.wire.specs.declared.actor.ActorId.{ActorId}
use Rattle.wire.specs.declared.actor.ActorId.TheVariants.{Manager}
use Rattle.wire.specs.declared.actor.ReqNo.{ReqNo}
use Rattle.wire.specs.declared.body.StreamBody.{StreamBody}
use Rattle.wire.specs.declared.body.StreamBody.TheVariants.{OpenStreams, Opened, Confirm, Confirmed, Extend, Extended}
use Rattle.wire.specs.declared.body.Body.{Body}
use Rattle.wire.specs.declared.body.Body.TheVariants as bodies
use Rattle.wire.specs.declared.packet.Packet.{Packet}
use Rattle.wire.specs.declared.refusal.Refusal.{Refusal}
use Rattle.wire.specs.declared.refusal.Refusal.TheVariants.{Stale, LastOpen}
use Rattle.wire.specs.declared.streams.StreamLists.{StreamLists}
use Rattle.wire.specs.declared.streams.StreamName.{StreamName}
use Rattle.streams.specs.Streams.{Stream, stream_of, extending, behind, last_of, is_number, is_there, longer, extended_if}
use Rattle.model_streams.specs.declared.extent.Extent.{Extent}
use Rattle.model_streams.specs.Actors.{generation_of}
use Rattle.model_streams.specs.Manager.{Catalog, new_extent, extended, is_foreign, is_pick, sealed_lengths, manager_rule, extend_answered, writes, decide_rule, open_refusal}
use Rattle.model_streams.specs.Node.{extent_of, node_rule}
use Rattle.model_streams.specs.declared.manager_record.ManagerRecord.TheVariants as manager_records
use Rattle.model_streams.specs.Outcome.{Outcome, packet}
use Rattle.model_streams.specs.StreamSystem.{ActorCell, StreamSystem, Move, moved, run_moves, start, stops_in, stands_in}
use Rattle.model_streams.proofs.Tests.{if_elim}
use Rattle.laws_streams.specs.Fences.{Reaches, is_kept}
use Rattle.laws_streams.specs.Answers.{OpenedBy, OpeningsAnswered, ConfirmedBy, ConfirmationsAnswered, MayGrow, Grows, Corrects, ExtendedBy, ExtensionsAnswered}
use Rattle.laws_streams.proofs.Choices.{changed-same, each-contains, contains_get}
use Rattle.laws_streams.proofs.Invariant.{run_good}
use Rattle.laws_streams.proofs.RisingFences.{run_more, with_here}
use Rattle.laws_streams.proofs.ManagerAnswers as manager
use Rattle.laws_streams.proofs.NodeAnswers as node
use Rattle.laws_streams.proofs.DecisionAnswers as decision
use Rattle.laws_streams.proofs.PacketSources.{NodeSends, ManagerSends, DecisionSends, SentIn, post_stays, sent_first}

-- ---- the packet that asked

pub same_packet : (p : Packet) (from to : ActorId) (body : Body) → p.from ≡ from → p.to ≡ to → p.body ≡ body → p ≡ packet from to body
same_packet p from to body f t b = rw (← f, ← t, ← b) refl

-- what stood in the post stands in it at the end
pub stays_in : (moves past rest : List Move) (move : Move) (w : StreamSystem) → moves ≡ past ++ move ∷ rest → (p : Packet) →
    Contains (run_moves past w).post p → Contains (run_moves moves w).post p
stays_in moves past rest move w split p c =
    rw (split, run_more past (move ∷ rest) w) (post_stays (move ∷ rest) (run_moves past w) p c)

-- no node sends what is about streams, and no decision does
not_nodes : (w : StreamSystem) (move : Move) (v : StreamSystem) (from to : ActorId) (body : StreamBody) → NodeSends w move v (packet from to (bodies.Stream body)) → ⊥
not_nodes w move v from to body n =
    let s = w.replica n.node (extent_of n.taken.body) in
    (each-contains (node.NodeTells n.node s (extent_of n.taken.body) n.taken (node_rule n.node s n.taken n.taken.body).notes) _
    (packet from to (bodies.Stream body)) (node.node_tells n.node s n.taken) n.rule).1

not_decided : (w v : StreamSystem) (from to : ActorId) (body : StreamBody) → DecisionSends w v (packet from to (bodies.Stream body)) → ⊥
not_decided w v from to body d =
    (each-contains (decision.DecisionTells w.catalog d.extent (decide_rule w.catalog d.extent (w.catalog.extent d.extent)).after) _
    (packet from to (bodies.Stream body)) (decision.decision_tells w.catalog d.extent) d.rule).1

-- ---- openings and confirmations

not_stopped : (c : ActorCell) (written : Option Record) → stops_in c written ≡ false → is_kept c written ≡ true
not_stopped c written s = subst (λ b. (not b || stands_in c) ≡ true) (sym s) refl

opening_written : (b : Catalog) (p : Packet) (range generation : ℕ) (q : ReqNo) → p.body ≡ bodies.Stream (OpenStreams range generation q) →
    open_refusal b p range generation ≡ None → (manager_rule b p p.body).written ≡ writes (manager_records.OpenStreams range generation)
opening_written b p range generation q is none = rw (is, none) refl

-- ---- extensions

-- what the end of a stream is where an extent may be added after it
pub may_grow : (b : Catalog) (x : Stream) (last : Option ℕ) (o : Option ℕ) → last_of x.extents ≡ o → behind (sealed_lengths b) o last ≡ Ok None → MayGrow b x last
may_grow b x last None end is = inl end
may_grow b x last (Some e) end is =
    if_elim (λ y. y ≡ Ok None → MayGrow b x last) (is_number e last) _ (Ok (Some e))
    (λ t. if_elim (λ y. y ≡ Ok None → MayGrow b x last) (is_there (sealed_lengths b e)) (Ok None) (Err LastOpen)
    (λ u k. inr (e, end, named last t, there (sealed_lengths b e) refl u)) (λ u k. absurd cc))
    (λ t k. absurd cc) is
  where
    named : (last : Option ℕ) → is_number e last ≡ true → last ≡ Some e
    named None t = absurd cc
    named (Some f) t = ap Some (eqb-true f e t)

    there : (o : Option ℕ) → sealed_lengths b e ≡ o → is_there o ≡ true → (length : ℕ) × (sealed_lengths b e ≡ Some length)
    there None k t = absurd cc
    there (Some length) k t = (length, k)

-- where another is the last
pub is_other : (sealed : ℕ → Option ℕ) (last : Option ℕ) (o : Option ℕ) (f : ℕ) → behind sealed o last ≡ Ok (Some f) → (o ≡ Some f) × (last ≢ Some f)
is_other sealed last None f is = absurd cc
is_other sealed last (Some e) f is =
    if_elim (λ y. y ≡ Ok (Some f) → (Some e ≡ Some f) × (last ≢ Some f)) (is_number e last) _ (Ok (Some e))
    (λ t. if_elim (λ y. y ≡ Ok (Some f) → (Some e ≡ Some f) × (last ≢ Some f)) (is_there (sealed e)) (Ok None) (Err LastOpen) (λ u k. absurd cc) (λ u k. absurd cc))
    (λ t k. (cc, λ same. let c : e ≡ f = cc in absurd (not_named last e t (same ∙ ap Some (sym c))))) is
  where
    not_named : (last : Option ℕ) (e : ℕ) → is_number e last ≡ false → last ≡ Some e → ⊥
    not_named None e t same = cc
    not_named (Some g) e t same = let c : g ≡ e = cc in let u = eq-eqb g e c in cc

-- the stream that answers, and what its end says
pub found_end : (sealed : ℕ → Option ℕ) (o : Option Stream) (generation : ℕ) (last found : Option ℕ) → extending sealed o generation last ≡ Ok found →
    (x : Stream) × (o ≡ Some x) × (generation ≡ x.fence) × (behind sealed (last_of x.extents) last ≡ Ok found)
found_end sealed None generation last found is = absurd cc
found_end sealed (Some x) generation last found is =
    if_elim (λ y. y ≡ Ok found → (z : Stream) × (Some x ≡ Some z) × (generation ≡ z.fence) × (behind sealed (last_of z.extents) last ≡ Ok found))
    (generation == x.fence) (behind sealed (last_of x.extents) last) (Err Stale)
    (λ t k. (x, refl, eqb-true generation x.fence t, k)) (λ t k. absurd cc) is

-- the rule, where the extent is made or named
extend_after : (b : Catalog) (p : Packet) (s : StreamName) (generation : ℕ) (last : Option ℕ) (pick : Nodes) (q : ReqNo) (x : Result (Option ℕ) Refusal) →
    p.body ≡ bodies.Stream (Extend s generation last pick q) → is_foreign p.from s.range ≡ false →
    extending (sealed_lengths b) (stream_of b.stream s) (generation_of p.from generation) last ≡ x →
    manager_rule b p p.body ≡ extend_answered b p s (generation_of p.from generation) pick q x
extend_after b p s generation last pick q x is own end = rw (is, own, end) refl

made_after : (b : Catalog) (p : Packet) (s : StreamName) (fence : ℕ) (pick : Nodes) (q : ReqNo) → is_pick b.nodes pick ≡ true →
    (extend_answered b p s fence pick q (Ok None)).after ≡ extended b s fence pick
made_after b p s fence pick q t = rw t refl

named_after : (b : Catalog) (p : Packet) (s : StreamName) (fence : ℕ) (pick : Nodes) (q : ReqNo) (e : ℕ) (x : Extent) → b.extent e ≡ Some x →
    (extend_answered b p s fence pick q (Ok (Some e))).after ≡ b
named_after b p s fence pick q e x there = rw there refl

grows : (b : Catalog) (s : StreamName) (x : Stream) (last : Option ℕ) (pick : Nodes) → ((e : ℕ) → b.count < e → b.extent e ≡ None) → stream_of b.stream s ≡ Some x → MayGrow b x last →
    Grows b (extended b s x.fence pick) s x last x.fence (suc b.count) pick
grows b s x last pick fresh there may = record {
  may = may;
  unmade = fresh (suc b.count) (omega arith);
  longer = rw (ap (λ o. extended_if b.stream s (suc b.count) o) there) (with_here b.stream s (longer (suc b.count) x));
  made = changed-same (suc b.count) (Some (new_extent pick x.fence)) b.extent;
}

module _ (moves : List Move) (w : StreamSystem) (from to : ActorId) (q : ReqNo) where
  module _ (lists : StreamLists) where
    abbrev opened : Packet
    opened = packet from to (bodies.Stream (Opened q lists))

    opened_now : (past rest : List Move) (move : Move) → moves ≡ past ++ move ∷ rest →
        ManagerSends (run_moves past w) move (moved (run_moves past w) move) opened → OpenedBy moves w from to q lists
    opened_now past rest move split m =
        let v = run_moves past w in
        let (teller, f) = each-contains (manager.ManagerTells v.catalog m.taken) _ opened (manager.manager_tells v.catalog m.taken) m.rule in
        let written = opening_written v.catalog m.taken f.range f.generation q f.body f.none in
        let same = same_packet m.taken to Manager (bodies.Stream (OpenStreams f.range f.generation q)) (sym f.asker) m.reaches.to f.body in
        record {
          teller = teller;
          range = f.range;
          generation = f.generation;
          asked = subst (Contains (run_moves moves w).post) same
              (stays_in moves past rest move w split m.taken (contains_get v.post m.reaches.number m.taken m.reaches.sent));
          past = past;
          opening = move;
          rest = rest;
          split = split;
          opens = record {
            packet = m.taken;
            request = q;
            reaches = m.reaches;
            body = f.body;
            taken = f.none;
            stands = not_stopped v.manager_cell (writes (manager_records.OpenStreams f.range f.generation)) (subst (λ x. stops_in v.manager_cell x ≡ false) written m.runs);
          };
          same = same;
          told = f.told;
        }

    opened_by : SentIn moves w opened → OpenedBy moves w from to q lists
    opened_by a = elim a.sends [
      | inl x ↦ elim x [ inl t ↦ absurd cc | inr t ↦ elim t [ inl y ↦ absurd (let c = y.2 in cc) | inr y ↦ absurd cc ] ]
      | inr x ↦ elim x [
        | inl n ↦ absurd (not_nodes (run_moves a.past w) a.move _ from to (Opened q lists) n)
        | inr y ↦ elim y [
          | inl m ↦ opened_now a.past a.rest a.move a.split m
          | inr d ↦ absurd (not_decided (run_moves a.past w) _ from to (Opened q lists) d)
        ]
      ]
    ]

  abbrev confirmed : Packet
  confirmed = packet from to (bodies.Stream (Confirmed q))

  confirmed_now : (past rest : List Move) (move : Move) → moves ≡ past ++ move ∷ rest →
      ManagerSends (run_moves past w) move (moved (run_moves past w) move) confirmed → ConfirmedBy moves w from to q
  confirmed_now past rest move split m =
      let v = run_moves past w in
      let (teller, f) = each-contains (manager.ManagerTells v.catalog m.taken) _ confirmed (manager.manager_tells v.catalog m.taken) m.rule in
      let same = same_packet m.taken to Manager (bodies.Stream (Confirm f.range f.generation q)) (sym f.asker) m.reaches.to f.body in
      record {
        teller = teller;
        range = f.range;
        generation = f.generation;
        asked = subst (Contains (run_moves moves w).post) same
            (stays_in moves past rest move w split m.taken (contains_get v.post m.reaches.number m.taken m.reaches.sent));
        past = past;
        confirming = move;
        rest = rest;
        split = split;
        confirms = record { packet = m.taken; request = q; reaches = m.reaches; body = f.body; taken = f.none };
        same = same;
      }

  confirmed_by : SentIn moves w confirmed → ConfirmedBy moves w from to q
  confirmed_by a = elim a.sends [
    | inl x ↦ elim x [ inl t ↦ absurd cc | inr t ↦ elim t [ inl y ↦ absurd (let c = y.2 in cc) | inr y ↦ absurd cc ] ]
    | inr x ↦ elim x [
      | inl n ↦ absurd (not_nodes (run_moves a.past w) a.move _ from to (Confirmed q) n)
      | inr y ↦ elim y [
        | inl m ↦ confirmed_now a.past a.rest a.move a.split m
        | inr d ↦ absurd (not_decided (run_moves a.past w) _ from to (Confirmed q) d)
      ]
    ]
  ]

module _ (moves : List Move) (w : StreamSystem) (from to : ActorId) (q : ReqNo) (e : ℕ) (places : Nodes)
    (fresh : (past rest : List Move) → moves ≡ past ++ rest → (k : ℕ) → (run_moves past w).catalog.count < k → (run_moves past w).catalog.extent k ≡ None) where
  abbrev told : Packet
  told = packet from to (bodies.Stream (Extended q e places))

  -- a catalog that the rule of the packet leaves
  ends_so : (b c : Catalog) (p : Packet) → ((k : ℕ) → b.count < k → b.extent k ≡ None) → (f : manager.FromExtend b p to q e places) →
      c ≡ (manager_rule b p p.body).after → (x : Result (Option ℕ) Refusal) →
      extending (sealed_lengths b) (stream_of b.stream f.name) (generation_of p.from f.generation) f.last ≡ x → manager.FromEnd b f.pick x e places →
      (stream : Stream) × (stream_of b.stream f.name ≡ Some stream) × (generation_of p.from f.generation ≡ stream.fence)
      × (Grows b c f.name stream f.last stream.fence e places ⊎ Corrects b c stream f.last e places)
  ends_so b c p new f left (Err refusal) is end = absurd end
  ends_so b c p new f left (Ok None) is end =
      let (x, there, fence, free) = found_end (sealed_lengths b) (stream_of b.stream f.name) (generation_of p.from f.generation) f.last None is in
      let after : c ≡ extended b f.name x.fence f.pick =
      left ∙ ap (λ (o : Outcome Catalog). o.after) (extend_after b p f.name f.generation f.last f.pick q (Ok None) f.body f.own is)
      ∙ made_after b p f.name (generation_of p.from f.generation) f.pick q end.2 ∙ ap (λ k. extended b f.name k f.pick) fence in
      (x, there, fence, inl (rw (after, end.0, end.1) (grows b f.name x f.last f.pick new there (may_grow b x f.last (last_of x.extents) refl free))))
  ends_so b c p new f left (Ok (Some k)) is end =
      let (x, there, fence, named) = found_end (sealed_lengths b) (stream_of b.stream f.name) (generation_of p.from f.generation) f.last (Some k) is in
      let (y, here, at) = end.1 in
      let after : c ≡ b =
      left ∙ ap (λ (o : Outcome Catalog). o.after) (extend_after b p f.name f.generation f.last f.pick q (Ok (Some k)) f.body f.own is)
      ∙ named_after b p f.name (generation_of p.from f.generation) f.pick q k y here in
      let (is_last, other) = is_other (sealed_lengths b) f.last (last_of x.extents) k named in (
        x,
        there,
        fence,
        inr (record {
          last = is_last ∙ ap Some (sym end.0);
          other = λ same. other (same ∙ ap Some end.0);
          extent = y;
          there = ap b.extent end.0 ∙ here;
          at = sym at;
          same = after;
        }),
      )

  extended_now : (past rest : List Move) (move : Move) → moves ≡ past ++ move ∷ rest →
      ManagerSends (run_moves past w) move (moved (run_moves past w) move) told → ExtendedBy moves w from to q e places
  extended_now past rest move split m =
      let v = run_moves past w in
      let (teller, f) = each-contains (manager.ManagerTells v.catalog m.taken) _ told (manager.manager_tells v.catalog m.taken) m.rule in
      let same = same_packet m.taken to Manager (bodies.Stream (Extend f.name f.generation f.last f.pick q)) (sym f.asker) m.reaches.to f.body in
      let (stream, there, fence, answer) = ends_so v.catalog (moved v move).catalog m.taken (fresh past (move ∷ rest) split) f m.catalog
      (extending (sealed_lengths v.catalog) (stream_of v.catalog.stream f.name) (generation_of m.taken.from f.generation) f.last) refl f.end in
      record {
        teller = teller;
        name = f.name;
        generation = f.generation;
        last = f.last;
        pick = f.pick;
        asked = subst (Contains (run_moves moves w).post) same
            (stays_in moves past rest move w split m.taken (contains_get v.post m.reaches.number m.taken m.reaches.sent));
        past = past;
        extending = move;
        rest = rest;
        split = split;
        reaches = subst (Reaches v move) same m.reaches;
        stream = stream;
        there = there;
        fence = ap (λ x. generation_of x f.generation) f.asker ∙ fence;
        answer = answer;
      }

  extended_by : SentIn moves w told → ExtendedBy moves w from to q e places
  extended_by a = elim a.sends [
    | inl x ↦ elim x [ inl t ↦ absurd cc | inr t ↦ elim t [ inl y ↦ absurd (let c = y.2 in cc) | inr y ↦ absurd cc ] ]
    | inr x ↦ elim x [
      | inl n ↦ absurd (not_nodes (run_moves a.past w) a.move _ from to (Extended q e places) n)
      | inr y ↦ elim y [
        | inl m ↦ extended_now a.past a.rest a.move a.split m
        | inr d ↦ absurd (not_decided (run_moves a.past w) _ from to (Extended q e places) d)
      ]
    ]
  ]

pub openings_answered : (nodes target : ℕ) (moves : List Move) → OpeningsAnswered moves (start nodes target)
openings_answered nodes target moves from to q lists c =
    opened_by moves (start nodes target) from to q lists (sent_first nodes target moves (packet from to (bodies.Stream (Opened q lists))) c)

pub confirmations_answered : (nodes target : ℕ) (moves : List Move) → ConfirmationsAnswered moves (start nodes target)
confirmations_answered nodes target moves from to q c =
    confirmed_by moves (start nodes target) from to q (sent_first nodes target moves (packet from to (bodies.Stream (Confirmed q))) c)

pub extensions_answered : (nodes target : ℕ) (moves : List Move) → ExtensionsAnswered moves (start nodes target)
extensions_answered nodes target moves from to q e places c =
    extended_by moves (start nodes target) from to q e places
    (λ past rest split k l. (run_good (start nodes target) past nodes target refl).holds.catalog.fresh k l)
    (sent_first nodes target moves (packet from to (bodies.Stream (Extended q e places))) c)
