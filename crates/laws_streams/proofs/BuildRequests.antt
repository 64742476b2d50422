-- Who asks for streams to be built: servers alone, and each stream from streams of its kind.
use Rattle.std.proofs.Common.{◌≡◌, ℕ, true, false, List, [], ◌∷◌, Contains, sym, ap, ◌∙◌, inl, inr, arith, subst}
use Rattle.wire.specs.declared.actor.ActorId.TheVariants.{Server}
use Rattle.wire.specs.declared.actor.ReqNo.{ReqNo}
use Rattle.wire.specs.declared.body.StreamBody.TheVariants.{MultiModify}
use Rattle.wire.specs.declared.body.Body.TheVariants as bodies
use Rattle.wire.specs.declared.packet.Packet.{Packet}
use Rattle.wire.specs.declared.streams.Modify.{Modify}
use Rattle.model_streams.specs.Manager.{decide_rule}
use Rattle.model_streams.specs.Node.{extent_of}
use Rattle.model_streams.specs.StreamSystem.{StreamSystem, is_request, is_server_call, is_told, are_of_one_kind, start, Move, moved, run_moves}
use Rattle.laws_streams.proofs.Choices.{each-contains}
use Rattle.laws_streams.proofs.ManagerAnswers as manager
use Rattle.laws_streams.proofs.NodeAnswers as node
use Rattle.laws_streams.proofs.DecisionAnswers as decision
use Rattle.laws_streams.proofs.PacketSources.{IsSpoken, rule_of, NodeSends, ManagerSends, DecisionSends, moved_gains}

-- a server asked for it, and each stream is built from streams of its kind
abbrev IsOfServer : Packet → List Modify → Type 0
IsOfServer p list = ((server : ℕ) × (p.from ≡ Server server)) × (are_of_one_kind list ≡ true)

-- so it is for each list that was asked for
abbrev pub ServersAsk : List Packet → Type 0
ServersAsk post = (p : Packet) (list : List Modify) (q : ReqNo) → Contains post p → p.body ≡ bodies.Stream (MultiModify list q) → IsOfServer p list

module _ (p : Packet) (list : List Modify) (q : ReqNo) (is : p.body ≡ bodies.Stream (MultiModify list q)) where
  spoken_asks : IsSpoken p → IsOfServer p list
  spoken_asks (inl t) = absurd (let c : false ≡ true = ap is_request (sym is) ∙ t in cc)
  spoken_asks (inr (inl (server, from, t))) = ((server, from), ap is_server_call (sym is) ∙ t)
  spoken_asks (inr (inr t)) = absurd (let c : false ≡ true = ap is_told (sym is) ∙ t in cc)

  module _ (w : StreamSystem) (move : Move) (v : StreamSystem) where
    no_node_asks : NodeSends w move v p → ⊥
    no_node_asks n =
        let e = extent_of n.taken.body in
        let s = w.replica n.node e in
        let notes = (rule_of w n.node n.taken).notes in
        let tells = each-contains (node.NodeTells n.node s e n.taken notes) (rule_of w n.node n.taken).packets p (node.node_tells n.node s n.taken) n.rule in
        subst (node.BodyTells s e n.taken notes p.to) is tells.1

    manager_asks_not : ManagerSends w move v p → ⊥
    manager_asks_not m =
        let tells = each-contains (manager.ManagerTells w.catalog m.taken) _ p (manager.manager_tells w.catalog m.taken) m.rule in
        subst (manager.BodyTells w.catalog m.taken p.to) is tells.1

    no_decision_asks : DecisionSends w v p → ⊥
    no_decision_asks d =
        let after = (decide_rule w.catalog d.extent (w.catalog.extent d.extent)).after in
        let tells = each-contains (decision.DecisionTells w.catalog d.extent after) _ p (decision.decision_tells w.catalog d.extent) d.rule in
        subst (decision.BodyTells w.catalog d.extent after p.to) is tells.1

pub asks_next : (w : StreamSystem) (move : Move) → ServersAsk w.post → ServersAsk (moved w move).post
asks_next w move old p list q stood is = elim ((moved_gains w move).sends p stood) [
  | inl before ↦ old p list q before is
  | inr sent ↦ elim sent [
    | inl spoken ↦ spoken_asks p list q is spoken
    | inr a ↦ elim a [
      | inl n ↦ absurd (no_node_asks p list q is w move (moved w move) n)
      | inr b ↦ elim b [
        | inl m ↦ absurd (manager_asks_not p list q is w move (moved w move) m)
        | inr d ↦ absurd (no_decision_asks p list q is w move (moved w move) d)
      ]
    ]
  ]
]

pub run_asks : (moves : List Move) (w : StreamSystem) → ServersAsk w.post → ServersAsk (run_moves moves w).post
run_asks [] w old = old
run_asks (move ∷ moves) w old = run_asks moves (moved w move) (asks_next w move old)

pub none_asked : (nodes target : ℕ) → ServersAsk (start nodes target).post
none_asked nodes target p list q stood is = absurd (omega (arith, stood.1))

pub servers_ask : (nodes target : ℕ) (moves : List Move) → ServersAsk (run_moves moves (start nodes target)).post
servers_ask nodes target moves = run_asks moves (start nodes target) (none_asked nodes target)
