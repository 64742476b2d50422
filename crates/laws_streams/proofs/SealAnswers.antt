-- What an answer about a seal says: it was asked for, a decision made it, and it stays.
use Rattle.std.proofs.Common.{◌≡◌, ℕ, List, [], ◌∷◌, ◌++◌, Option, Some, None, Contains, refl, sym, ap, ◌∙◌, inl, inr, subst, append-nil, append_assoc}
use Rattle.wire.specs.declared.actor.ActorId.{ActorId}
use Rattle.wire.specs.declared.actor.ActorId.TheVariants.{Manager}
use Rattle.wire.specs.declared.actor.ReqNo.{ReqNo}
use Rattle.wire.specs.declared.body.SealBody.TheVariants.{SealExtent, SealedIs}
use Rattle.wire.specs.declared.body.Body.TheVariants as bodies
use Rattle.wire.specs.declared.packet.Packet.{Packet}
use Rattle.model_streams.specs.declared.extent.Extent.{Extent}
use Rattle.model_streams.specs.Manager.{Catalog, decide_rule, sealed_to, with_extent}
use Rattle.model_streams.specs.Node.{extent_of, node_rule}
use Rattle.model_streams.specs.Outcome.{packet}
use Rattle.model_streams.specs.StreamSystem.{StreamSystem, Move, moved, run_moves, start}
use Rattle.laws_streams.specs.Origins.{DecidedSeal, course_of_moves}
use Rattle.laws_streams.specs.Answers.{SealedIn, SealTold, SealsAnswered}
use Rattle.laws_streams.proofs.Choices.{changed-same, each-contains, contains_get}
use Rattle.laws_streams.proofs.Ground.{Ground}
use Rattle.laws_streams.proofs.RestsOnGround.{FineCatalog, sealed_of}
use Rattle.laws_streams.proofs.EventSteps.{good_next}
use Rattle.laws_streams.proofs.Invariant.{AfterMore, run_moves_push, after_all, from_here, first_good, run_good}
use Rattle.laws_streams.proofs.Askers.{askers_asked}
use Rattle.laws_streams.proofs.ManagerAnswers as manager
use Rattle.laws_streams.proofs.NodeAnswers as node
use Rattle.laws_streams.proofs.DecisionAnswers as decision
use Rattle.laws_streams.proofs.StreamAnswers.{same_packet, stays_in}
use Rattle.laws_streams.proofs.PacketSources.{NodeSends, ManagerSends, DecisionSends, SentIn, sent_first}

-- ---- sealed for good

-- what is known of a seal, and what the catalog has
pub sealed_known : (g : Ground) (b : Catalog) → FineCatalog g b → (e l : ℕ) → SealedIn b e l → g.sealed e ≡ Some l
sealed_known g b fine e l s = fine.sealed e ∙ ap sealed_of s.there ∙ s.sealed

pub known_sealed : (g : Ground) (b : Catalog) → FineCatalog g b → (e l : ℕ) → g.sealed e ≡ Some l → SealedIn b e l
known_sealed g b fine e l is = by_extent (b.extent e) refl (sym (fine.sealed e) ∙ is)
  where
    by_extent : (o : Option Extent) → b.extent e ≡ o → sealed_of o ≡ Some l → SealedIn b e l
    by_extent None there s = absurd cc
    by_extent (Some x) there s = record { extent = x; there = there; sealed = s }

pub sealed_stays : (nodes target : ℕ) (before after : List Move) (e l : ℕ) → SealedIn (run_moves before (start nodes target)).catalog e l →
    SealedIn (run_moves (before ++ after) (start nodes target)).catalog e l
sealed_stays nodes target before after e l s =
    let w = start nodes target in
    let moves = before ++ after in
    let first = first_good w moves nodes target refl in
    let half = good_next (after_all w moves [] before after refl first.ground (from_here w moves [] first)) in
    let whole : AfterMore w moves half.ground moves =
    after_all w moves before after [] (ap (λ xs. before ++ xs) (sym (append-nil after))) half.ground (from_here w moves before half) in
    known_sealed whole.ground _ whole.holds.catalog e l (whole.later.sealed e l (sealed_known half.ground _ half.holds.catalog e l s))

sealed_decided : (nodes target : ℕ) (moves : List Move) (e l : ℕ) → SealedIn (run_moves moves (start nodes target)).catalog e l →
    DecidedSeal (course_of_moves moves (start nodes target)) e l
sealed_decided nodes target moves e l s =
    let a = run_good (start nodes target) moves nodes target refl in
    a.dated.decided e l (sealed_known a.ground _ a.holds.catalog e l s)

-- ---- the answer

same_question : (who to : ActorId) (e : ℕ) (r q : ReqNo) → to ≡ who → q ≡ r →
    packet who Manager (bodies.Seal (SealExtent e r)) ≡ packet to Manager (bodies.Seal (SealExtent e q))
same_question who to e r q a b = rw (a, b) refl

module _ (nodes target : ℕ) (before after : List Move) (from to : ActorId) (q : ReqNo) (e l : ℕ) where
  abbrev told : Packet
  told = packet from to (bodies.Seal (SealedIs q e l))

  abbrev first : StreamSystem
  first = start nodes target

  -- with what is sealed after some of the moves
  told_since : (past rest : List Move) → before ≡ past ++ rest → from ≡ Manager → SealedIn (run_moves past first).catalog e l →
      Contains (run_moves before first).post (packet to Manager (bodies.Seal (SealExtent e q))) → SealTold before after first from to q e l
  told_since past rest split teller sealed asked =
      let now : SealedIn (run_moves before first).catalog e l = rw split (sealed_stays nodes target past rest e l sealed) in
      record {
        teller = teller;
        asked = asked;
        decided = sealed_decided nodes target before e l now;
        now = now;
        later = sealed_stays nodes target before after e l now;
      }

  by_packet : (past rest : List Move) (move : Move) → before ≡ past ++ move ∷ rest →
      ManagerSends (run_moves past first) move (moved (run_moves past first) move) told → SealTold before after first from to q e l
  by_packet past rest move split m =
      let v = run_moves past first in
      let (teller, f) = each-contains (manager.ManagerTells v.catalog m.taken) _ told (manager.manager_tells v.catalog m.taken) m.rule in
      let same = same_packet m.taken to Manager (bodies.Seal (SealExtent e q)) (sym f.asker) m.reaches.to f.body in
      told_since past (move ∷ rest) split teller (record { extent = f.extent; there = f.there; sealed = f.sealed })
      (subst (Contains (run_moves before first).post) same
      (stays_in before past rest move first split m.taken (contains_get v.post m.reaches.number m.taken m.reaches.sent)))

  by_decision : (past rest : List Move) (move : Move) → before ≡ past ++ move ∷ rest →
      DecisionSends (run_moves past first) (moved (run_moves past first) move) told → SealTold before after first from to q e l
  by_decision past rest move split d =
      let v = run_moves past first in
      let (teller, f) = each-contains (decision.DecisionTells v.catalog d.extent (decide_rule v.catalog d.extent (v.catalog.extent d.extent)).after) _ told
      (decision.decision_tells v.catalog d.extent) d.rule in
      let asked = askers_asked nodes target past e f.extent f.asker f.there f.kept in
      let left : (moved v move).catalog ≡ with_extent v.catalog e (sealed_to f.extent l) = d.catalog ∙ f.left in
      let sealed : SealedIn (moved v move).catalog e l =
      rw left (record { extent = sealed_to f.extent l; there = changed-same e (Some (sealed_to f.extent l)) v.catalog.extent; sealed = refl }) in
      told_since (past ++ move ∷ []) rest (split ∙ sym (append_assoc past (move ∷ []) rest)) teller
      (subst (λ (x : StreamSystem). SealedIn x.catalog e l) (sym (run_moves_push past move first)) sealed)
      (stays_in before past rest move first split _
      (subst (Contains v.post) (same_question f.asker.who to e f.asker.request q f.who f.request) asked))

  not_nodes : (w : StreamSystem) (move : Move) (v : StreamSystem) → NodeSends w move v told → ⊥
  not_nodes w move v n =
      let s = w.replica n.node (extent_of n.taken.body) in
      (each-contains (node.NodeTells n.node s (extent_of n.taken.body) n.taken (node_rule n.node s n.taken n.taken.body).notes) _ told
      (node.node_tells n.node s n.taken) n.rule).1

  told_by : SentIn before first told → SealTold before after first from to q e l
  told_by a = elim a.sends [
    | inl x ↦ elim x [ inl t ↦ absurd cc | inr t ↦ elim t [ inl y ↦ absurd (let c = y.2 in cc) | inr y ↦ absurd cc ] ]
    | inr x ↦ elim x [
      | inl n ↦ absurd (not_nodes (run_moves a.past first) a.move _ n)
      | inr y ↦ elim y [
        | inl m ↦ by_packet a.past a.rest a.move a.split m
        | inr d ↦ by_decision a.past a.rest a.move a.split d
      ]
    ]
  ]

pub seals_answered : (nodes target : ℕ) (before after : List Move) → SealsAnswered before after (start nodes target)
seals_answered nodes target before after from to q e l c =
    told_by nodes target before after from to q e l (sent_first nodes target before (packet from to (bodies.Seal (SealedIs q e l))) c)
