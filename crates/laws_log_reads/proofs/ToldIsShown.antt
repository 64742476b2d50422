-- Groups that a node tells are shown: its observation comes with its answer.
use Rattle.std.proofs.Common.{◌≡◌, ℕ, zero, suc, Bool, true, false, List, [], ◌∷◌, Option, Some, None, Contains, refl, sym, ap, ◌∙◌, subst, inl, inr, arith, if◌then◌else◌, ◌&&◌, ◌==◌}
use Rattle.std.proofs.lemmas.List.Elements.{Contains-append_right}
use Rattle.wire.specs.declared.actor.ActorId.{ActorId}
use Rattle.wire.specs.declared.actor.ActorId.TheVariants.{Node, Server}
use Rattle.wire.specs.declared.actor.ReqNo.{ReqNo}
use Rattle.wire.specs.declared.body.AppendBody.TheVariants as appends
use Rattle.wire.specs.declared.body.Body.{Body}
use Rattle.wire.specs.declared.body.Body.TheVariants as bodies
use Rattle.wire.specs.declared.body.ReadBody.TheVariants as answers
use Rattle.wire.specs.declared.note.Note.{Note}
use Rattle.wire.specs.declared.note.Note.TheVariants.{Content, Seen}
use Rattle.wire.specs.declared.packet.Packet.{Packet}
use Rattle.wire.specs.declared.refusal.Refusal.{Refusal}
use Rattle.wire.specs.declared.refusal.Refusal.TheVariants.{PastEnd}
use Rattle.wire.specs.declared.streams.StreamName.{StreamName}
use Rattle.replica.specs.Groups.{Group, text, text_length}
use Rattle.replica.specs.Reading.{groups_to}
use Rattle.model_streams.specs.Node.{Replica, is_sealed, extent_of, node_rule, groups_note, groups_taken, groups_refusal, groups_rule}
use Rattle.model_streams.specs.Outcome.{Outcome, packet, or_refused}
use Rattle.model_streams.specs.StreamSystem.{StreamSystem, Move, moved, run_moves, start}
use Rattle.laws_streams.proofs.Choices.{each-contains}
use Rattle.laws_streams.proofs.RisingFences.{run_more}
use Rattle.laws_streams.proofs.ManagerAnswers as manager
use Rattle.laws_streams.proofs.NodeAnswers as node
use Rattle.laws_streams.proofs.DecisionAnswers as decision
use Rattle.laws_streams.proofs.PacketSources.{NodeSends, SentIn, sent_first, notes_stay}
use Rattle.model_histories.specs.StreamMachine as machine
use Rattle.laws_stream_machine.specs.Refinement.{Purpose, Sent, Reads, purpose_of, IsAt}
use Rattle.laws_stream_machine.proofs.Refines.{Follows}
use Rattle.laws_log_reads.specs.Reads.{IsShown, ReadShows, Shows}

only : {A : Type 0} (x y : A) → Contains (x ∷ []) y → x ≡ y
only x y (zero, l, e) = e
only x y (suc k, l, e) = absurd (omega (arith, l))

-- ---- the rule of a node

module _ (n : ℕ) (r : Replica) (p : Packet) (e upto : ℕ) (q : ReqNo) (from to : ActorId) (v : ReqNo) (k : ℕ) (groups : List Group) where
  abbrev reading : Packet
  reading = packet from to (bodies.Read (answers.Groups v k groups))

  abbrev ShowsIf : Outcome (Option Replica) → Type 0
  ShowsIf o = Contains o.packets reading → IsShown o.notes k groups

  note_shows : (found : List Group) (b : Bool) → IsShown ((if b then Content e n found else Seen e n 0 (text found)) ∷ []) e found
  note_shows found true = (n, inl (0, omega arith, refl))
  note_shows found false = (n, inr (0, omega arith, refl))

  taken_shows : (o : Option (List Group)) → ShowsIf (groups_taken n r p e upto q o)
  taken_shows None c = absurd (let z : bodies.Append (appends.Refused q PastEnd) ≡ bodies.Read (answers.Groups v k groups) = ap (λ (x : Packet). x.body) (only _ reading c) in cc)
  taken_shows (Some found) c =
      let z : bodies.Read (answers.Groups q e found) ≡ bodies.Read (answers.Groups v k groups) = ap (λ (x : Packet). x.body) (only _ reading c) in
      let here : e ≡ k = cc in
      let same : found ≡ groups = cc in
      subst (λ j. IsShown (groups_note n r e upto found ∷ []) j groups) here
      (subst (λ gs. IsShown (groups_note n r e upto found ∷ []) e gs) same (note_shows found (is_sealed r.content.phase && (upto == text_length r.content.groups))))

  rule_shows : (sealed : Bool) → ShowsIf (groups_rule n r p e upto sealed q)
  rule_shows sealed = by (groups_refusal r sealed)
    where
      by : (o : Option Refusal) → ShowsIf (or_refused (Some r) (Node n) p q o (groups_taken n r p e upto q (groups_to upto r.content.groups)))
      by (Some refusal) c = absurd (let z : bodies.Append (appends.Refused q refusal) ≡ bodies.Read (answers.Groups v k groups) = ap (λ (x : Packet). x.body) (only _ reading c) in cc)
      by None c = taken_shows (groups_to upto r.content.groups) c

module _ (nodes target : ℕ) (moves : List Move) where
  abbrev first : StreamSystem
  first = start nodes target

  abbrev w : StreamSystem
  w = run_moves moves first

  module _ (from to : ActorId) (q : ReqNo) (e : ℕ) (groups : List Group) where
    abbrev told : Packet
    told = packet from to (bodies.Read (answers.Groups q e groups))

    by_node : (a : SentIn moves first told) → NodeSends (run_moves a.past first) a.move (moved (run_moves a.past first) a.move) told → IsShown w.notes e groups
    by_node a m =
        let v = run_moves a.past first in
        let k = extent_of m.taken.body in
        let rule = node_rule m.node (v.replica m.node k) m.taken m.taken.body in
        let (teller, f) = each-contains (node.NodeTells m.node (v.replica m.node k) k m.taken rule.notes) _ told (node.node_tells m.node (v.replica m.node k) m.taken) m.rule in
        let there : v.replica m.node e ≡ Some f.replica = ap (λ j. v.replica m.node j) f.extent ∙ f.there in
        let by_body : Contains (node_rule m.node (v.replica m.node e) m.taken (bodies.Read (answers.ReadGroups e f.upto f.sealed q))).packets told →
        IsShown (node_rule m.node (v.replica m.node e) m.taken (bodies.Read (answers.ReadGroups e f.upto f.sealed q))).notes e groups =
        subst (λ s. Contains (node_rule m.node s m.taken (bodies.Read (answers.ReadGroups e f.upto f.sealed q))).packets told →
        IsShown (node_rule m.node s m.taken (bodies.Read (answers.ReadGroups e f.upto f.sealed q))).notes e groups) (sym there)
        (rule_shows m.node f.replica m.taken e f.upto q from to q e groups f.sealed) in
        let whole : Contains rule.packets told → IsShown rule.notes e groups =
        subst (λ (b : Body). Contains (node_rule m.node (v.replica m.node (extent_of b)) m.taken b).packets told →
        IsShown (node_rule m.node (v.replica m.node (extent_of b)) m.taken b).notes e groups) (sym f.body) by_body in
        last a m (whole m.rule)
      where
        stays : (a : SentIn moves first told) (m : NodeSends (run_moves a.past first) a.move (moved (run_moves a.past first) a.move) told) (x : Note) →
            Contains (node_rule m.node ((run_moves a.past first).replica m.node (extent_of m.taken.body)) m.taken m.taken.body).notes x → Contains w.notes x
        stays a m x c =
            let v = run_moves a.past first in
            let rule = node_rule m.node (v.replica m.node (extent_of m.taken.body)) m.taken m.taken.body in
            let now : Contains (moved v a.move).notes x = subst (λ xs. Contains xs x) (sym m.notes) (Contains-append_right v.notes rule.notes x c) in
            rw (a.split, run_more a.past (a.move ∷ a.rest) first) (notes_stay a.rest (moved v a.move) x now)

        last : (a : SentIn moves first told) (m : NodeSends (run_moves a.past first) a.move (moved (run_moves a.past first) a.move) told) →
            IsShown (node_rule m.node ((run_moves a.past first).replica m.node (extent_of m.taken.body)) m.taken m.taken.body).notes e groups → IsShown w.notes e groups
        last a m (n, inl c) = (n, inl (stays a m (Content e n groups) c))
        last a m (n, inr c) = (n, inr (stays a m (Seen e n 0 (text groups)) c))

    noted_by : SentIn moves first told → IsShown w.notes e groups
    noted_by a = elim a.sends [
      | inl x ↦ elim x [ inl t ↦ absurd cc | inr t ↦ elim t [ inl y ↦ absurd (let c = y.2 in cc) | inr y ↦ absurd cc ] ]
      | inr x ↦ elim x [
        | inl m ↦ by_node a m
        | inr y ↦ elim y [
          | inl m ↦ absurd (each-contains (manager.ManagerTells (run_moves a.past first).catalog m.taken) _ told (manager.manager_tells (run_moves a.past first).catalog m.taken) m.rule).1
          | inr d ↦ absurd (each-contains (decision.DecisionTells (run_moves a.past first).catalog d.extent _) _ told (decision.decision_tells (run_moves a.past first).catalog d.extent) d.rule).1
        ]
      ]
    ]

    -- groups that were told are shown
    pub groups_noted : Contains w.post told → IsShown w.notes e groups
    groups_noted c = noted_by (sent_first nodes target moves told c)

  -- ---- as those of the extent that was asked for

  module _ (generation : ℕ → ℕ) (name : StreamName) (s : machine.MachineState Group) (sent : List Sent) (a : Follows generation name w s sent) (from : ActorId) (server : ℕ) where
    groups_show : (q : ReqNo) (e : ℕ) (groups : List Group) → Contains w.post (packet from (Server server) (bodies.Read (answers.Groups q e groups))) →
        ReadShows name w (purpose_of sent q) (answers.Groups q e groups)
    groups_show q e groups c = go (purpose_of sent q) refl
      where
        go : (z : Option Purpose) → purpose_of sent q ≡ z → ReadShows name w z (answers.Groups q e groups)
        go (Some (Reads j index upto)) for = λ other at.
            let r = a.read from server q e groups c in
            let x = a.asked server from (bodies.Read (answers.ReadGroups e r.upto r.sealed q)) r.asked in
            let (place, there, y) = x.known (Reads j index upto) for in
            let d : Some (Reads y.i place r.upto) ≡ Some (Reads j index upto) = sym y.for ∙ for in
            let where_is : place ≡ index = cc in
            let here : IsAt w name index e = subst (λ k. IsAt w name k e) where_is there in
            let both : Some e ≡ Some other = sym here ∙ at in
            let same : e ≡ other = cc in
            subst (λ k. IsShown w.notes k groups) same (groups_noted from (Server server) q e groups c)
        go z for = tt

    -- what a server was answered is shown
    pub shows_now : (body : Body) → Contains w.post (packet from (Server server) body) → Shows name w sent body
    shows_now (bodies.Read (answers.Groups q e groups)) c = groups_show q e groups c
    shows_now body c = tt
