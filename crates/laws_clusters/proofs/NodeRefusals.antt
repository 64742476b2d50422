-- No node says that a name is taken.
use Rattle.std.proofs.Common.{◌≡◌, ℕ, Bool, true, false, ◌&&◌, ◌==◌, nat_lt, List, [], ◌∷◌, take, Option, Some, None, refl, subst, if◌then◌else◌}
use Rattle.std.proofs.lemmas.Option.{same_Some}
use Rattle.block_types.specs.declared.record.Nodes.{Nodes}
use Rattle.wire.specs.declared.actor.ActorId.TheVariants.{Node}
use Rattle.wire.specs.declared.actor.ReqNo.{ReqNo}
use Rattle.wire.specs.declared.actor.ReqNo.TheVariants.{NoRequest}
use Rattle.wire.specs.declared.body.AppendBody.{AppendBody}
use Rattle.wire.specs.declared.body.AppendBody.TheVariants.{Append, Put, Have, Refused}
use Rattle.wire.specs.declared.body.SealBody.{SealBody}
use Rattle.wire.specs.declared.body.SealBody.TheVariants as seals
use Rattle.wire.specs.declared.body.CheckBody.{CheckBody}
use Rattle.wire.specs.declared.body.CheckBody.TheVariants.{Check, Probe, Probed}
use Rattle.wire.specs.declared.body.ReadBody.{ReadBody}
use Rattle.wire.specs.declared.body.ReadBody.TheVariants as reads
use Rattle.wire.specs.declared.body.Body.{Body}
use Rattle.wire.specs.declared.body.Body.TheVariants as bodies
use Rattle.wire.specs.declared.packet.Packet.{Packet}
use Rattle.wire.specs.declared.refusal.Refusal.{Refusal}
use Rattle.wire.specs.declared.refusal.Refusal.TheVariants.{NameTaken}
use Rattle.replica.specs.declared.phase.Phase.{Phase}
use Rattle.replica.specs.declared.phase.Phase.TheVariants as phases
use Rattle.replica.specs.Groups.{Group, text_length}
use Rattle.replica.specs.Reading.{groups_to, groups_from}
use Rattle.model_streams.specs.declared.checking.Checking.{Checking}
use Rattle.model_streams.specs.declared.waiting_append.WaitingAppend.{WaitingAppend}
use Rattle.model_streams.specs.Actors.{is_node, is_manager, generation_of}
use Rattle.model_streams.specs.Node as table
use Rattle.model_streams.specs.Node.{Replica, is_open, is_sealed}
use Rattle.model_streams.specs.Outcome.{Outcome, first_met, all_met, silent, or_refused}
use Rattle.model_streams.proofs.Tests.{if_elim}
use Rattle.laws_map.specs.Naming.{Each}

-- ---- refusals

-- it is another than that a name is taken
abbrev pub IsOther : Refusal → Type 0
IsOther NameTaken = ⊥
IsOther why = Unit {0}

-- the first of tests, all of which are others
pub met_other : (tests : List (Refusal × Bool)) → Each (λ (t : Refusal × Bool). IsOther t.0) tests → (why : Refusal) → first_met tests ≡ Some why → IsOther why
met_other [] all why is = absurd cc
met_other ((refusal, test) ∷ tests) all why is = go test is (λ more. met_other tests all.1 why more)
  where
    go : (b : Bool) → (if b then Some refusal else first_met tests) ≡ Some why → (first_met tests ≡ Some why → IsOther why) → IsOther why
    go true is more = subst IsOther (same_Some refusal why is) all.0
    go false is more = more is

abbrev pub AppendOther : AppendBody → Type 0
AppendOther (Refused q why) = IsOther why
AppendOther body = Unit {0}

-- it says no such thing
abbrev pub BodyOther : Body → Type 0
BodyOther (bodies.Append body) = AppendOther body
BodyOther body = Unit {0}

abbrev pub AllOther : List Packet → Type 0
AllOther packets = Each (λ (p : Packet). BodyOther p.body) packets

-- ---- the rules

module _ (n : ℕ) (p : Packet) where
  abbrev Others : Outcome (Option Replica) → Type 0
  Others o = AllOther o.packets

  unless_other : (q : ReqNo) (x : Option Refusal) (after : Option Replica) (o : Outcome (Option Replica)) → ((why : Refusal) → x ≡ Some why → IsOther why) → Others o → Others (or_refused after (Node n) p q x o)
  unless_other q (Some refusal) after o other taken = (other refusal refl, tt)
  unless_other q None after o other taken = taken

  module _ (r : Replica) where
    answers_other : (e : ℕ) (ws : List WaitingAppend) → AllOther (table.answers n e ws)
    answers_other e [] = tt
    answers_other e (w ∷ ws) = (tt, answers_other e ws)

    answered_other : (now : Replica) (e : ℕ) → Others (table.answered n now e)
    answered_other now e = answers_other e (take (table.covered (table.lesser now.second_has now.third_has) now.waiting) now.waiting)

    append_other : (e generation : ℕ) (blocks : Group) (q : ReqNo) → Others (table.append_rule n r p e generation blocks q)
    append_other e generation blocks q =
        unless_other q (table.append_refusal n r p generation blocks) (Some r) (table.append_taken n r p e blocks q) (met_other (table.append_tests n r p generation blocks) (tt, (tt, (tt, (tt, (tt, (tt, (tt, tt)))))))) (tt, (tt, tt))

    put_other : (e offset : ℕ) (group : Group) → Others (table.put_rule n r p e offset group)
    put_other e offset group =
        if_elim Others (is_node r.content.places.primary p.from) _ (silent (Some r))
        (λ t. unless_other NoRequest (table.put_refusal r) (Some r) (table.put_taken n r e offset group) (met_other (table.put_tests r) (tt, tt))
        (if_elim Others (table.put_fits r offset) (table.put_added n r e offset group) (table.put_passed n r e) (λ f. (tt, tt)) (λ f. (tt, tt))))
        (λ t. tt)

    answered_if_other : (e : ℕ) (o : Option Replica) → Others (table.answered_if n r e o)
    answered_if_other e None = tt
    answered_if_other e (Some now) = answered_other now e

    have_other : (e l : ℕ) → Others (table.have_rule n r p e l)
    have_other e l = if_elim Others ((n == r.content.places.primary) && is_open r.content.phase) (table.answered_if n r e (table.with_length r p.from l)) (silent (Some r)) (λ t. answered_if_other e (table.with_length r p.from l)) (λ t. tt)

    check_other : (e generation : ℕ) (q : ReqNo) → Others (table.check_rule n r p e generation q)
    check_other e generation q =
        unless_other q (table.check_refusal n r generation) (Some r) (table.check_taken n r p e generation q) (met_other (table.check_tests n r generation) (tt, (tt, tt)))
        (if_elim Others (is_open r.content.phase) (table.check_begun n r p e generation q) _ (λ t. (tt, (tt, tt))) (λ t. (tt, tt)))

    probe_other : (e generation : ℕ) → Others (table.probe_rule n r p e generation)
    probe_other e generation =
        if_elim Others (is_node r.content.places.primary p.from) _ (silent (Some r))
        (λ t. unless_other NoRequest (table.probe_refusal r generation) (Some r) (table.probe_taken n r e generation) (met_other (table.probe_tests r generation) (tt, (tt, tt))) (tt, tt))
        (λ t. tt)

    settled_other : (c : Checking) (a b : Option ℕ) → Others (table.settled n r c a b)
    settled_other c (Some a) (Some b) = (tt, tt)
    settled_other c (Some a) None = tt
    settled_other c None b = tt

    probed_by_other : (o : Option Checking) → Others (table.probed_by n r o)
    probed_by_other None = tt
    probed_by_other (Some c) = settled_other c c.second c.third

    probed_other : (generation l : ℕ) (o : Option Checking) → Others (table.probed_for n r p generation l o)
    probed_other generation l None = tt
    probed_other generation l (Some c) =
        if_elim Others (c.generation == generation) (table.probed_by n r (table.with_probed c r.content.places p.from l)) (silent (Some r)) (λ t. probed_by_other (table.with_probed c r.content.places p.from l)) (λ t. tt)

    read_other : (e offset l : ℕ) (q : ReqNo) → Others (table.read_rule n r p e offset l q)
    read_other e offset l q = unless_other q (table.read_refusal r offset l) (Some r) (table.read_taken n r p e offset l q) (met_other (table.read_tests r offset l) (tt, tt)) (tt, tt)

    groups_other : (e upto : ℕ) (sealed : Bool) (q : ReqNo) → Others (table.groups_rule n r p e upto sealed q)
    groups_other e upto sealed q =
        unless_other q (table.groups_refusal r sealed) (Some r) (table.groups_taken n r p e upto q (groups_to upto r.content.groups)) (met_other (table.groups_tests r sealed) (tt, tt)) (by_found (groups_to upto r.content.groups))
      where
        by_found : (o : Option (List Group)) → Others (table.groups_taken n r p e upto q o)
        by_found None = (tt, tt)
        by_found (Some groups) = (tt, tt)

    freeze_other : (e : ℕ) → Others (table.freeze_rule n r p e)
    freeze_other e = if_elim Others (is_manager p.from) (table.freezes n r e r.content.phase) (silent (Some r)) (λ t. by_phase r.content.phase) (λ t. tt)
      where
        by_phase : (phase : Phase) → Others (table.freezes n r e phase)
        by_phase phases.Open = (tt, tt)
        by_phase phases.Frozen = (tt, tt)
        by_phase phases.Sealed = (tt, tt)

    shorts_other : (e : ℕ) (phase : Phase) → Others (table.shorts n r e phase)
    shorts_other e phases.Open = (tt, tt)
    shorts_other e phases.Frozen = (tt, tt)
    shorts_other e phases.Sealed = (tt, tt)

    cuts_other : (e l : ℕ) (o : Option (List Group)) → Others (table.cuts n r p e l o)
    cuts_other e l None = (tt, tt)
    cuts_other e l (Some groups) = (tt, tt)

    seal_other : (e l : ℕ) → Others (table.seal_rule n r p e l)
    seal_other e l =
        if_elim Others (is_manager p.from) (table.seals n r p e l) (silent (Some r))
        (λ t. if_elim Others (is_sealed r.content.phase) (table.seals_again n r p e l) _
        (λ a. if_elim Others (text_length r.content.groups == l) _ _ (λ b. (tt, tt)) (λ b. (tt, tt)))
        (λ a. if_elim Others (nat_lt (text_length r.content.groups) l) (table.shorts n r e r.content.phase) (table.cuts n r p e l (groups_to l r.content.groups))
        (λ b. shorts_other e r.content.phase) (λ b. cuts_other e l (groups_to l r.content.groups))))
        (λ t. tt)

    tail_sent_other : (e from to : ℕ) (o : Option (List Group)) → Others (table.tail_sent n r p e from to o)
    tail_sent_other e from to None = (tt, tt)
    tail_sent_other e from to (Some groups) = (tt, tt)

    send_tail_other : (e from to : ℕ) → Others (table.send_tail_rule n r p e from to)
    send_tail_other e from to =
        if_elim Others (is_manager p.from) _ (silent (Some r))
        (λ t. unless_other NoRequest (table.send_tail_refusal r) (Some r) (table.tail_sent n r p e from to (groups_from from r.content.groups)) (met_other (table.send_tail_tests r) (tt, tt)) (tail_sent_other e from to (groups_from from r.content.groups)))
        (λ t. tt)

    tail_other : (e from l : ℕ) (groups : List Group) → Others (table.tail_rule n r p e from l groups)
    tail_other e from l groups = if_elim Others (table.tail_fits r p.from from l groups) (table.tail_taken n r e from l groups) (silent (Some r)) (λ t. (tt, tt)) (λ t. tt)

  -- ---- the table

  append_body_other : (s : Option Replica) (b : AppendBody) → Others (table.append_body_rule n s p b)
  append_body_other (Some r) (Append e generation blocks q) = append_other r e generation blocks q
  append_body_other None (Append e generation blocks q) = (tt, tt)
  append_body_other (Some r) (Put e offset group) = put_other r e offset group
  append_body_other None (Put e offset group) = (tt, tt)
  append_body_other (Some r) (Have e l) = have_other r e l
  append_body_other None (Have e l) = (tt, tt)
  append_body_other s b = tt

  check_body_other : (s : Option Replica) (b : CheckBody) → Others (table.check_body_rule n s p b)
  check_body_other (Some r) (Check e generation q) = check_other r e (generation_of p.from generation) q
  check_body_other None (Check e generation q) = (tt, tt)
  check_body_other (Some r) (Probe e generation) = probe_other r e generation
  check_body_other None (Probe e generation) = (tt, tt)
  check_body_other (Some r) (Probed e generation l) = probed_other r generation l r.check
  check_body_other None (Probed e generation l) = (tt, tt)
  check_body_other s b = tt

  missing_other : Others (table.missing n p)
  missing_other = if_elim Others (is_manager p.from) _ (silent None) (λ t. (tt, tt)) (λ t. tt)

  make_other : (e fence target : ℕ) (places : Nodes) → Others (table.make_rule n p e fence target places)
  make_other e fence target places = if_elim Others (all_met (table.make_tests n p target places)) (table.make_taken e fence target places) (silent None) (λ t. tt) (λ t. tt)

  seal_body_other : (s : Option Replica) (b : SealBody) → Others (table.seal_body_rule n s p b)
  seal_body_other None (seals.Make e fence target places) = make_other e fence target places
  seal_body_other (Some r) (seals.Freeze e) = freeze_other r e
  seal_body_other None (seals.Freeze e) = missing_other
  seal_body_other (Some r) (seals.Seal e l) = seal_other r e l
  seal_body_other None (seals.Seal e l) = missing_other
  seal_body_other (Some r) (seals.SendTail e from to) = send_tail_other r e from to
  seal_body_other None (seals.SendTail e from to) = missing_other
  seal_body_other (Some r) (seals.Tail e from l groups) = tail_other r e from l groups
  seal_body_other None (seals.Tail e from l groups) = (tt, tt)
  seal_body_other s b = tt

  read_body_other : (s : Option Replica) (b : ReadBody) → Others (table.read_body_rule n s p b)
  read_body_other (Some r) (reads.ReadAt e offset l q) = read_other r e offset l q
  read_body_other None (reads.ReadAt e offset l q) = (tt, tt)
  read_body_other (Some r) (reads.ReadGroups e upto sealed q) = groups_other r e upto sealed q
  read_body_other None (reads.ReadGroups e upto sealed q) = (tt, tt)
  read_body_other s b = tt

  -- whatever a node does with a packet
  pub node_other : (s : Option Replica) (b : Body) → Others (table.node_rule n s p b)
  node_other s (bodies.Append b) = append_body_other s b
  node_other s (bodies.Check b) = check_body_other s b
  node_other s (bodies.Seal b) = seal_body_other s b
  node_other s (bodies.Read b) = read_body_other s b
  node_other s b = tt
