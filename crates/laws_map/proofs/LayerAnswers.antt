-- Who is told that streams are there: one who asked for them. Nodes and the map never say so.
use Rattle.std.proofs.Common.{ℕ, Bool, ◌&&◌, ◌==◌, nat_lt, List, [], ◌∷◌, Option, Some, None}
use Rattle.wire.specs.declared.actor.ActorId.TheVariants.{Node}
use Rattle.wire.specs.declared.actor.ReqNo.{ReqNo}
use Rattle.wire.specs.declared.actor.ReqNo.TheVariants.{NoRequest}
use Rattle.wire.specs.declared.body.AppendBody.{AppendBody}
use Rattle.wire.specs.declared.body.AppendBody.TheVariants as appends
use Rattle.wire.specs.declared.body.CheckBody.{CheckBody}
use Rattle.wire.specs.declared.body.CheckBody.TheVariants as checks
use Rattle.wire.specs.declared.body.ReadBody.{ReadBody}
use Rattle.wire.specs.declared.body.ReadBody.TheVariants as reads
use Rattle.wire.specs.declared.body.SealBody.{SealBody}
use Rattle.wire.specs.declared.body.SealBody.TheVariants as seals
use Rattle.wire.specs.declared.body.StreamBody.{StreamBody}
use Rattle.wire.specs.declared.body.StreamBody.TheVariants as streams
use Rattle.wire.specs.declared.body.Body.{Body}
use Rattle.wire.specs.declared.body.Body.TheVariants as bodies
use Rattle.wire.specs.declared.packet.Packet.{Packet}
use Rattle.wire.specs.declared.refusal.Refusal.{Refusal}
use Rattle.wire.specs.declared.refusal.Refusal.TheVariants as refusals
use Rattle.replica.specs.Groups.{Group, text_length}
use Rattle.replica.specs.Reading.{groups_to, groups_from}
use Rattle.replica.specs.declared.phase.Phase.{Phase}
use Rattle.replica.specs.declared.phase.Phase.TheVariants as replica_phases
use Rattle.model_streams.specs.Actors.{is_node, is_manager, generation_of}
use Rattle.model_streams.specs.Node as table
use Rattle.model_streams.specs.Node.{Replica}
use Rattle.model_streams.specs.declared.checking.Checking.{Checking}
use Rattle.model_streams.specs.declared.waiting_append.WaitingAppend.{WaitingAppend}
use Rattle.model_streams.specs.Outcome.{Outcome, first_met, all_met, or_refused}
use Rattle.model_streams.proofs.Tests.{if_elim}
use Rattle.laws_map.specs.Naming.{Each}

-- ---- refusals

-- it does not say that a name is taken
abbrev pub IsOther : Refusal → Type 0
IsOther refusals.NameTaken = ⊥
IsOther refusal = Unit {0}

abbrev pub IsOtherIf : Option Refusal → Type 0
IsOtherIf None = Unit {0}
IsOtherIf (Some refusal) = IsOther refusal

pub met_other : (tests : List (Refusal × Bool)) → Each (λ t. IsOther t.0) tests → IsOtherIf (first_met tests)
met_other [] all = tt
met_other ((refusal, test) ∷ tests) all = if_elim IsOtherIf test (Some refusal) (first_met tests) (λ t. all.0) (λ f. met_other tests all.1)

abbrev pub OtherAppend : AppendBody → Type 0
OtherAppend (appends.Refused q refusal) = IsOther refusal
OtherAppend body = Unit {0}

abbrev pub OtherStream : StreamBody → Type 0
OtherStream (streams.Modified q) = ⊥
OtherStream body = Unit {0}

-- a packet that does not say that streams are there
abbrev pub OtherBody : Body → Type 0
OtherBody (bodies.Append body) = OtherAppend body
OtherBody (bodies.Stream body) = OtherStream body
OtherBody body = Unit {0}

abbrev pub AreOther : List Packet → Type 0
AreOther packets = Each (λ (p : Packet). OtherBody p.body) packets

-- ---- nodes

module _ (n : ℕ) (p : Packet) where
  abbrev All : Outcome (Option Replica) → Type 0
  All o = AreOther o.packets

  unless_other : (after : Option Replica) (q : ReqNo) (x : Option Refusal) (o : Outcome (Option Replica)) → IsOtherIf x → All o → All (or_refused after (Node n) p q x o)
  unless_other after q (Some refusal) o other all = (other, tt)
  unless_other after q None o other all = all

  answers_other : (e : ℕ) (ws : List WaitingAppend) → AreOther (table.answers n e ws)
  answers_other e [] = tt
  answers_other e (w ∷ ws) = (tt, answers_other e ws)

  answered_other : (e : ℕ) (o : Option Replica) (r : Replica) → All (table.answered_if n r e o)
  answered_other e None r = tt
  answered_other e (Some told) r = answers_other e _

  settled_other : (r : Replica) (c : Checking) (a b : Option ℕ) → All (table.settled n r c a b)
  settled_other r c (Some a) (Some b) = (tt, tt)
  settled_other r c None b = tt
  settled_other r c (Some a) None = tt

  probed_other : (r : Replica) (o : Option Checking) → All (table.probed_by n r o)
  probed_other r None = tt
  probed_other r (Some c) = settled_other r c c.second c.third

  probed_for_other : (r : Replica) (generation l : ℕ) (o : Option Checking) → All (table.probed_for n r p generation l o)
  probed_for_other r generation l None = tt
  probed_for_other r generation l (Some c) = if_elim All (c.generation == generation) _ _ (λ t. probed_other r (table.with_probed c r.content.places p.from l)) (λ f. tt)

  freezes_other : (r : Replica) (e : ℕ) (phase : Phase) → All (table.freezes n r e phase)
  freezes_other r e replica_phases.Open = (tt, tt)
  freezes_other r e replica_phases.Frozen = (tt, tt)
  freezes_other r e replica_phases.Sealed = (tt, tt)

  shorts_other : (r : Replica) (e : ℕ) (phase : Phase) → All (table.shorts n r e phase)
  shorts_other r e replica_phases.Open = (tt, tt)
  shorts_other r e replica_phases.Frozen = (tt, tt)
  shorts_other r e replica_phases.Sealed = (tt, tt)

  cuts_other : (r : Replica) (e l : ℕ) (o : Option (List Group)) → All (table.cuts n r p e l o)
  cuts_other r e l None = (tt, tt)
  cuts_other r e l (Some groups) = (tt, tt)

  seals_other : (r : Replica) (e l : ℕ) → All (table.seals n r p e l)
  seals_other r e l =
      if_elim All (table.is_sealed r.content.phase) _ _ (λ t. if_elim All (text_length r.content.groups == l) _ _ (λ s. (tt, tt)) (λ s. (tt, tt)))
      (λ f. if_elim All (nat_lt (text_length r.content.groups) l) _ _ (λ s. shorts_other r e r.content.phase) (λ s. cuts_other r e l (groups_to l r.content.groups)))

  tail_other : (r : Replica) (e from to : ℕ) (o : Option (List Group)) → All (table.tail_sent n r p e from to o)
  tail_other r e from to None = (tt, tt)
  tail_other r e from to (Some groups) = (tt, tt)

  groups_other : (r : Replica) (e upto : ℕ) (q : ReqNo) (o : Option (List Group)) → All (table.groups_taken n r p e upto q o)
  groups_other r e upto q None = (tt, tt)
  groups_other r e upto q (Some groups) = (tt, tt)

  append_other : (s : Option Replica) (body : AppendBody) → All (table.append_body_rule n s p body)
  append_other (Some r) (appends.Append e generation blocks q) =
      unless_other (Some r) q (table.append_refusal n r p generation blocks) _ (met_other (table.append_tests n r p generation blocks) (tt, (tt, (tt, (tt, (tt, (tt, (tt, tt)))))))) (tt, (tt, tt))
  append_other None (appends.Append e generation blocks q) = (tt, tt)
  append_other (Some r) (appends.Put e offset group) =
      if_elim All (is_node r.content.places.primary p.from) _ _
      (λ t. unless_other (Some r) NoRequest (table.put_refusal r) _ (met_other (table.put_tests r) (tt, tt)) (if_elim All (table.put_fits r offset) _ _ (λ f. (tt, tt)) (λ f. (tt, tt)))) (λ f. tt)
  append_other None (appends.Put e offset group) = (tt, tt)
  append_other (Some r) (appends.Have e l) =
      if_elim All ((n == r.content.places.primary) && table.is_open r.content.phase) _ _ (λ t. answered_other e (table.with_length r p.from l) r) (λ f. tt)
  append_other None (appends.Have e l) = (tt, tt)
  append_other s body = tt

  check_other : (s : Option Replica) (body : CheckBody) → All (table.check_body_rule n s p body)
  check_other (Some r) (checks.Check e generation q) =
      unless_other (Some r) q (table.check_refusal n r (generation_of p.from generation)) _ (met_other (table.check_tests n r (generation_of p.from generation)) (tt, (tt, tt)))
      (if_elim All (table.is_open r.content.phase) _ _ (λ t. (tt, (tt, tt))) (λ f. (tt, tt)))
  check_other None (checks.Check e generation q) = (tt, tt)
  check_other (Some r) (checks.Probe e generation) =
      if_elim All (is_node r.content.places.primary p.from) _ _ (λ t. unless_other (Some r) NoRequest (table.probe_refusal r generation) _ (met_other (table.probe_tests r generation) (tt, (tt, tt))) (tt, tt)) (λ f. tt)
  check_other None (checks.Probe e generation) = (tt, tt)
  check_other (Some r) (checks.Probed e generation l) = probed_for_other r generation l r.check
  check_other None (checks.Probed e generation l) = (tt, tt)
  check_other s body = tt

  missing_other : All (table.missing n p)
  missing_other = if_elim All (is_manager p.from) _ _ (λ t. (tt, tt)) (λ f. tt)

  seal_other : (s : Option Replica) (body : SealBody) → All (table.seal_body_rule n s p body)
  seal_other None (seals.Make e fence target places) = if_elim All (all_met (table.make_tests n p target places)) _ _ (λ t. tt) (λ f. tt)
  seal_other (Some r) (seals.Freeze e) = if_elim All (is_manager p.from) _ _ (λ t. freezes_other r e r.content.phase) (λ f. tt)
  seal_other None (seals.Freeze e) = missing_other
  seal_other (Some r) (seals.Seal e l) = if_elim All (is_manager p.from) _ _ (λ t. seals_other r e l) (λ f. tt)
  seal_other None (seals.Seal e l) = missing_other
  seal_other (Some r) (seals.SendTail e from to) =
      if_elim All (is_manager p.from) _ _
      (λ t. unless_other (Some r) NoRequest (table.send_tail_refusal r) _ (met_other (table.send_tail_tests r) (tt, tt)) (tail_other r e from to (groups_from from r.content.groups))) (λ f. tt)
  seal_other None (seals.SendTail e from to) = missing_other
  seal_other (Some r) (seals.Tail e from l groups) = if_elim All (table.tail_fits r p.from from l groups) _ _ (λ t. (tt, tt)) (λ f. tt)
  seal_other None (seals.Tail e from l groups) = (tt, tt)
  seal_other s body = tt

  read_other : (s : Option Replica) (body : ReadBody) → All (table.read_body_rule n s p body)
  read_other (Some r) (reads.ReadAt e offset l q) = unless_other (Some r) q (table.read_refusal r offset l) _ (met_other (table.read_tests r offset l) (tt, tt)) (tt, tt)
  read_other None (reads.ReadAt e offset l q) = (tt, tt)
  read_other (Some r) (reads.ReadGroups e upto sealed q) =
      unless_other (Some r) q (table.groups_refusal r sealed) _ (met_other (table.groups_tests r sealed) (tt, tt)) (groups_other r e upto q (groups_to upto r.content.groups))
  read_other None (reads.ReadGroups e upto sealed q) = (tt, tt)
  read_other s body = tt

  pub node_other : (s : Option Replica) (body : Body) → All (table.node_rule n s p body)
  node_other s (bodies.Append body) = append_other s body
  node_other s (bodies.Check body) = check_other s body
  node_other s (bodies.Seal body) = seal_other s body
  node_other s (bodies.Read body) = read_other s body
  node_other s body = tt
