-- What each rule of a node's table sends: an answer to the packet that asked, or to those whose appends wait.
use Rattle.std.proofs.Common.{◌≡◌, ℕ, suc, zero, Bool, true, false, not, ◌&&◌, ◌==◌, nat_lt, List, [], ◌∷◌, take, Option, Some, None, Contains, refl, sym, ap, arith, subst}
use Rattle.std.proofs.lemmas.Bool.{and_parts}
use Rattle.block_types.specs.declared.record.Nodes.{Nodes}
use Rattle.wire.specs.declared.actor.ActorId.{ActorId}
use Rattle.wire.specs.declared.actor.ActorId.TheVariants.{Node}
use Rattle.wire.specs.declared.actor.ReqNo.{ReqNo}
use Rattle.wire.specs.declared.actor.ReqNo.TheVariants.{NoRequest}
use Rattle.wire.specs.declared.body.AppendBody.{AppendBody}
use Rattle.wire.specs.declared.body.AppendBody.TheVariants.{Append, Put, Have, Appended}
use Rattle.wire.specs.declared.body.SealBody.{SealBody}
use Rattle.wire.specs.declared.body.SealBody.TheVariants as seals
use Rattle.wire.specs.declared.body.CheckBody.{CheckBody}
use Rattle.wire.specs.declared.body.CheckBody.TheVariants.{Check, Probe, Probed, Checked}
use Rattle.wire.specs.declared.body.ReadBody.{ReadBody}
use Rattle.wire.specs.declared.body.ReadBody.TheVariants as reads
use Rattle.wire.specs.declared.body.Body.{Body}
use Rattle.wire.specs.declared.body.Body.TheVariants as bodies
use Rattle.wire.specs.declared.note.Note.{Note}
use Rattle.wire.specs.declared.note.Note.TheVariants.{Acked, Seen}
use Rattle.wire.specs.declared.packet.Packet.{Packet}
use Rattle.wire.specs.declared.refusal.Refusal.{Refusal}
use Rattle.replica.specs.declared.phase.Phase.{Phase}
use Rattle.replica.specs.declared.phase.Phase.TheVariants as phases
use Rattle.replica.specs.Groups.{Group, text_length}
use Rattle.replica.specs.Reading.{groups_to, groups_from}
use Rattle.model_streams.specs.declared.checking.Checking.{Checking}
use Rattle.model_streams.specs.declared.waiting_append.WaitingAppend.{WaitingAppend}
use Rattle.model_streams.specs.Actors.{is_node, is_manager, generation_of}
use Rattle.model_streams.specs.Node as table
use Rattle.model_streams.specs.Node.{Replica, is_open, is_sealed}
use Rattle.model_streams.specs.Outcome.{Outcome, all_met, silent, or_refused}
use Rattle.model_streams.proofs.Tests.{if_elim, none_met}
use Rattle.laws_streams.proofs.Choices.{Each}

-- ---- what an answer comes from

-- an append that waited at this replica is acknowledged
pub record FromWaiting (s : Option Replica) (k : ℕ) (notes : List Note) (to : ActorId) (q : ReqNo) (e o : ℕ) : Type 0 where
  pub extent : e ≡ k
  pub replica : Replica
  pub there : s ≡ Some replica
  pub waiting : WaitingAppend
  pub waits : Contains replica.waiting waiting
  pub asker : to ≡ waiting.asker
  pub request : q ≡ waiting.request
  pub offset : o ≡ waiting.offset
  pub noted : Contains notes (Acked k waiting.offset waiting.group)

-- the groups were read from this replica
pub record FromReading (s : Option Replica) (k : ℕ) (taken : Packet) (to : ActorId) (q : ReqNo) (e : ℕ) (groups : List Group) : Type 0 where
  pub extent : e ≡ k
  pub replica : Replica
  pub there : s ≡ Some replica
  pub upto : ℕ
  pub sealed : Bool
  pub body : taken.body ≡ bodies.Read (reads.ReadGroups e upto sealed q)
  pub asker : to ≡ taken.from
  pub found : groups_to upto replica.content.groups ≡ Some groups
  pub closed : sealed ≡ true → is_sealed replica.content.phase ≡ true

-- a check of this replica is answered, which is open and of this length
pub record FromCheck (s : Option Replica) (k : ℕ) (taken : Packet) (to : ActorId) (q : ReqNo) (l : ℕ) : Type 0 where
  pub replica : Replica
  pub there : s ≡ Some replica
  pub check : Checking
  pub checks : replica.check ≡ Some check
  pub asker : to ≡ check.asker
  pub request : q ≡ check.request
  pub opened : is_open replica.content.phase ≡ true
  pub length : l ≡ text_length replica.content.groups
  pub generation : ℕ
  pub told : ℕ
  pub body : taken.body ≡ bodies.Check (Probed k generation told)

-- no node asks for an append, a check, a reading or a seal
abbrev pub AppendTells : Option Replica → ℕ → List Note → ActorId → AppendBody → Type 0
AppendTells s k notes to (Append e generation blocks q) = ⊥
AppendTells s k notes to (Appended q e o) = FromWaiting s k notes to q e o
AppendTells s k notes to _ = Unit {0}

abbrev pub ReadTells : Option Replica → ℕ → Packet → List Note → ActorId → ReadBody → Type 0
ReadTells s k taken notes to (reads.Groups q e groups) = FromReading s k taken to q e groups
ReadTells s k taken notes to (reads.Bytes q e offset bytes) = (n : ℕ) × Contains notes (Seen e n offset bytes)
ReadTells s k taken notes to (reads.ReadAt e offset l q) = ⊥
ReadTells s k taken notes to (reads.ReadGroups e upto sealed q) = ⊥

-- no answer of the manager
abbrev pub SealTells : SealBody → Type 0
SealTells (seals.SealedIs q e l) = ⊥
SealTells (seals.SealExtent e q) = ⊥
SealTells _ = Unit {0}

abbrev pub CheckTells : Option Replica → ℕ → Packet → ActorId → CheckBody → Type 0
CheckTells s k taken to (Check e generation q) = ⊥
CheckTells s k taken to (Checked q (Some l)) = FromCheck s k taken to q l
CheckTells s k taken to _ = Unit {0}

abbrev pub BodyTells : Option Replica → ℕ → Packet → List Note → ActorId → Body → Type 0
BodyTells s k taken notes to (bodies.Append body) = AppendTells s k notes to body
BodyTells s k taken notes to (bodies.Read body) = ReadTells s k taken notes to body
BodyTells s k taken notes to (bodies.Check body) = CheckTells s k taken to body
BodyTells s k taken notes to (bodies.Seal body) = SealTells body
BodyTells s k taken notes to _ = ⊥

-- what node n with replica s of extent k sends, having taken a packet
abbrev pub NodeTells : ℕ → Option Replica → ℕ → Packet → List Note → Packet → Type 0
NodeTells n s k taken notes p = (p.from ≡ Node n) × BodyTells s k taken notes p.to p.body

abbrev Tells : ℕ → Option Replica → ℕ → Packet → Outcome (Option Replica) → Type 0
Tells n s k taken o = Each (NodeTells n s k taken o.notes) o.packets

-- ---- the waiting appends

contains_first : {A : Type 0} (k : ℕ) (xs : List A) (x : A) → Contains (take k xs) x → Contains xs x
contains_first zero xs x (i, l, e) = absurd (omega (arith, l))
contains_first (suc k) [] x (i, l, e) = absurd (omega (arith, l))
contains_first (suc k) (y ∷ ys) x (zero, l, e) = (0, omega arith, e)
contains_first (suc k) (y ∷ ys) x (suc i, l, e) = let m = contains_first k ys x (i, omega (arith, l), e) in (suc m.0, omega (arith, m.1), m.2)

module _ (n : ℕ) (k : ℕ) (p : Packet) (r : Replica) where
  answers_tell : (notes : List Note) (ws : List WaitingAppend) → ((w : WaitingAppend) → Contains ws w → Contains r.waiting w) →
      ((x : Note) → Contains (table.acked k ws) x → Contains notes x) → Each (NodeTells n (Some r) k p notes) (table.answers n k ws)
  answers_tell notes [] all told = tt
  answers_tell notes (w ∷ ws) all told = (
    (
      refl,
      record {
        extent = refl;
        replica = r;
        there = refl;
        waiting = w;
        waits = all w (0, omega arith, refl);
        asker = refl;
        request = refl;
        offset = refl;
        noted = told (Acked k w.offset w.group) (0, omega arith, refl);
      },
    ),
    answers_tell notes ws (λ v c. all v (suc c.0, omega (arith, c.1), c.2)) (λ x c. told x (suc c.0, omega (arith, c.1), c.2)),
  )

  answered_tells : (now : Replica) → now.waiting ≡ r.waiting → Tells n (Some r) k p (table.answered n now k)
  answered_tells now same =
      let ws = take (table.covered (table.lesser now.second_has now.third_has) now.waiting) now.waiting in
      answers_tell (table.acked k ws) ws (λ w c. subst (λ xs. Contains xs w) same (contains_first _ now.waiting w c)) (λ x c. c)

-- ---- the rules

module _ (n : ℕ) (s : Option Replica) (k : ℕ) (p : Packet) where
  unless_tells : (q : ReqNo) (x : Option Refusal) (after : Option Replica) (o : Outcome (Option Replica)) → (x ≡ None → Tells n s k p o) →
      Tells n s k p (or_refused after (Node n) p q x o)
  unless_tells q (Some refusal) after o taken = ((refl, tt), tt)
  unless_tells q None after o taken = taken refl

module _ (n k : ℕ) (p : Packet) (r : Replica) where
  abbrev Told : Outcome (Option Replica) → Type 0
  Told o = Tells n (Some r) k p o

  silent_told : Told (silent (Some r))
  silent_told = tt

  put_told : (e offset : ℕ) (group : Group) → Told (table.put_rule n r p e offset group)
  put_told e offset group =
      if_elim Told (is_node r.content.places.primary p.from) _ (silent (Some r))
      (λ t. unless_tells n (Some r) k p NoRequest (table.put_refusal r) (Some r) (table.put_taken n r e offset group)
      (λ none. if_elim Told (table.put_fits r offset) (table.put_added n r e offset group) (table.put_passed n r e) (λ f. ((refl, tt), tt)) (λ f. ((refl, tt), tt))))
      (λ t. tt)

  have_told : (l : ℕ) → Told (table.have_rule n r p k l)
  have_told l =
      if_elim Told ((n == r.content.places.primary) && is_open r.content.phase) (table.answered_if n r k (table.with_length r p.from l)) (silent (Some r))
      (λ t. if_elim (λ o. Told (table.answered_if n r k o)) (is_node r.content.places.second p.from) _ _
      (λ a. answered_tells n k p r (record r { second_has = table.greater r.second_has l }) refl)
      (λ a. if_elim (λ o. Told (table.answered_if n r k o)) (is_node r.content.places.third p.from) _ _
      (λ b. answered_tells n k p r (record r { third_has = table.greater r.third_has l }) refl)
      (λ b. tt)))
      (λ t. tt)

  check_told : (e generation : ℕ) (q : ReqNo) → Told (table.check_rule n r p e generation q)
  check_told e generation q =
      unless_tells n (Some r) k p q (table.check_refusal n r generation) (Some r) (table.check_taken n r p e generation q)
      (λ none. if_elim Told (is_open r.content.phase) (table.check_begun n r p e generation q) _ (λ t. ((refl, tt), ((refl, tt), tt))) (λ t. ((refl, tt), tt)))

  probe_told : (e generation : ℕ) → Told (table.probe_rule n r p e generation)
  probe_told e generation =
      if_elim Told (is_node r.content.places.primary p.from) _ (silent (Some r))
      (λ t. unless_tells n (Some r) k p NoRequest (table.probe_refusal r generation) (Some r) (table.probe_taken n r e generation) (λ none. ((refl, tt), tt)))
      (λ t. tt)

  module _ (generation l : ℕ) (is : p.body ≡ bodies.Check (Probed k generation l)) (c : Checking) (checks : r.check ≡ Some c) where
    common_told : (a b : ℕ) → BodyTells (Some r) k p [] c.asker (bodies.Check (Checked c.request (table.common_length r a b)))
    common_told a b =
        if_elim (λ z. BodyTells (Some r) k p [] c.asker (bodies.Check (Checked c.request z)))
        (is_open r.content.phase && ((a == text_length r.content.groups) && (b == text_length r.content.groups))) (Some (text_length r.content.groups)) None
        (λ t. record {
          replica = r;
          there = refl;
          check = c;
          checks = checks;
          asker = refl;
          request = refl;
          opened = (and_parts (is_open r.content.phase) _ t).0;
          length = refl;
          generation = generation;
          told = l;
          body = is;
        })
        (λ t. tt)

    settled_told : (d : Checking) → d.asker ≡ c.asker → d.request ≡ c.request → (a b : Option ℕ) → Told (table.settled n r d a b)
    settled_told d asker request (Some a) (Some b) =
        let told = common_told a b in
        ((refl, rw (asker, request) told), tt)
    settled_told d asker request (Some a) None = tt
    settled_told d asker request None b = tt

    probed_by_told : (o : Option Checking) → ((d : Checking) → o ≡ Some d → (d.asker ≡ c.asker) × (d.request ≡ c.request)) → Told (table.probed_by n r o)
    probed_by_told None same = tt
    probed_by_told (Some d) same = settled_told d (same d refl).0 (same d refl).1 d.second d.third

    with_probed_same : (from : ActorId) (at : Nodes) (d : Checking) → table.with_probed c at from l ≡ Some d → (d.asker ≡ c.asker) × (d.request ≡ c.request)
    with_probed_same from at d =
        if_elim (λ o. o ≡ Some d → (d.asker ≡ c.asker) × (d.request ≡ c.request)) (is_node at.second from) (Some (record c { second = Some l })) _
        (λ t k. let e : record c { second = Some l } ≡ d = cc in (ap (λ (x : Checking). x.asker) (sym e), ap (λ (x : Checking). x.request) (sym e)))
        (λ _. if_elim (λ o. o ≡ Some d → (d.asker ≡ c.asker) × (d.request ≡ c.request)) (is_node at.third from) (Some (record c { third = Some l })) None
        (λ t k. let e : record c { third = Some l } ≡ d = cc in (ap (λ (x : Checking). x.asker) (sym e), ap (λ (x : Checking). x.request) (sym e)))
        (λ _ k. absurd cc))

  probed_told : (generation l : ℕ) → p.body ≡ bodies.Check (Probed k generation l) → (o : Option Checking) → r.check ≡ o → Told (table.probed_for n r p generation l o)
  probed_told generation l is None checks = tt
  probed_told generation l is (Some c) checks =
      if_elim Told (c.generation == generation) (table.probed_by n r (table.with_probed c r.content.places p.from l)) (silent (Some r))
      (λ t. probed_by_told generation l is c checks (table.with_probed c r.content.places p.from l) (with_probed_same generation l is c checks p.from r.content.places)) (λ t. tt)

  read_told : (e offset l : ℕ) (q : ReqNo) → Told (table.read_rule n r p e offset l q)
  read_told e offset l q =
      unless_tells n (Some r) k p q (table.read_refusal r offset l) (Some r) (table.read_taken n r p e offset l q)
      (λ none. ((refl, (n, (0, omega arith, refl))), tt))

  asked_sealed : (sealed phase : Bool) → (sealed && not phase) ≡ false → sealed ≡ true → phase ≡ true
  asked_sealed true true t is = refl
  asked_sealed true false t is = absurd cc
  asked_sealed false phase t is = absurd cc

  groups_told : (upto : ℕ) (sealed : Bool) (q : ReqNo) → p.body ≡ bodies.Read (reads.ReadGroups k upto sealed q) → Told (table.groups_rule n r p k upto sealed q)
  groups_told upto sealed q is =
      unless_tells n (Some r) k p q (table.groups_refusal r sealed) (Some r) (table.groups_taken n r p k upto q (groups_to upto r.content.groups))
      (λ none. by_found (none_met (table.groups_tests r sealed) none).0 (groups_to upto r.content.groups) refl)
    where
      by_found : (sealed && not (is_sealed r.content.phase)) ≡ false → (o : Option (List Group)) → groups_to upto r.content.groups ≡ o →
          Told (table.groups_taken n r p k upto q o)
      by_found t None found = ((refl, tt), tt)
      by_found t (Some groups) found = (
        (
          refl,
          record {
            extent = refl;
            replica = r;
            there = refl;
            upto = upto;
            sealed = sealed;
            body = is;
            asker = refl;
            found = found;
            closed = asked_sealed sealed (is_sealed r.content.phase) t;
          },
        ),
        tt,
      )

  freeze_told : (e : ℕ) → Told (table.freeze_rule n r p e)
  freeze_told e = if_elim Told (is_manager p.from) (table.freezes n r e r.content.phase) (silent (Some r)) (λ t. by_phase r.content.phase) (λ t. tt)
    where
      by_phase : (phase : Phase) → Told (table.freezes n r e phase)
      by_phase phases.Open = ((refl, tt), tt)
      by_phase phases.Frozen = ((refl, tt), tt)
      by_phase phases.Sealed = ((refl, tt), tt)

  shorts_told : (e : ℕ) (phase : Phase) → Told (table.shorts n r e phase)
  shorts_told e phases.Open = ((refl, tt), tt)
  shorts_told e phases.Frozen = ((refl, tt), tt)
  shorts_told e phases.Sealed = ((refl, tt), tt)

  cuts_told : (e l : ℕ) (o : Option (List Group)) → Told (table.cuts n r p e l o)
  cuts_told e l None = ((refl, tt), tt)
  cuts_told e l (Some groups) = ((refl, tt), tt)

  seal_told : (e l : ℕ) → Told (table.seal_rule n r p e l)
  seal_told e l =
      if_elim Told (is_manager p.from) (table.seals n r p e l) (silent (Some r))
      (λ t. if_elim Told (is_sealed r.content.phase) (table.seals_again n r p e l) _
      (λ a. if_elim Told (text_length r.content.groups == l) _ _ (λ b. ((refl, tt), tt)) (λ b. ((refl, tt), tt)))
      (λ a. if_elim Told (nat_lt (text_length r.content.groups) l) (table.shorts n r e r.content.phase) (table.cuts n r p e l (groups_to l r.content.groups))
      (λ b. shorts_told e r.content.phase) (λ b. cuts_told e l (groups_to l r.content.groups))))
      (λ t. tt)

  tail_sent_told : (e from to : ℕ) (o : Option (List Group)) → Told (table.tail_sent n r p e from to o)
  tail_sent_told e from to None = ((refl, tt), tt)
  tail_sent_told e from to (Some groups) = ((refl, tt), tt)

  send_tail_told : (e from to : ℕ) → Told (table.send_tail_rule n r p e from to)
  send_tail_told e from to =
      if_elim Told (is_manager p.from) _ (silent (Some r))
      (λ t. unless_tells n (Some r) k p NoRequest (table.send_tail_refusal r) (Some r) (table.tail_sent n r p e from to (groups_from from r.content.groups))
      (λ none. tail_sent_told e from to (groups_from from r.content.groups)))
      (λ t. tt)

  tail_told : (e from l : ℕ) (groups : List Group) → Told (table.tail_rule n r p e from l groups)
  tail_told e from l groups =
      if_elim Told (table.tail_fits r p.from from l groups) (table.tail_taken n r e from l groups) (silent (Some r)) (λ t. ((refl, tt), tt)) (λ t. tt)

-- ---- the table

module _ (n : ℕ) (p : Packet) where
  append_tells : (s : Option Replica) (b : AppendBody) → Tells n s (table.append_extent b) p (table.append_body_rule n s p b)
  append_tells (Some r) (Append e generation blocks q) =
      unless_tells n (Some r) e p q (table.append_refusal n r p generation blocks) (Some r) (table.append_taken n r p e blocks q) (λ none. ((refl, tt), ((refl, tt), tt)))
  append_tells None (Append e generation blocks q) = ((refl, tt), tt)
  append_tells (Some r) (Put e offset group) = put_told n e p r e offset group
  append_tells None (Put e offset group) = ((refl, tt), tt)
  append_tells (Some r) (Have e l) = have_told n e p r l
  append_tells None (Have e l) = ((refl, tt), tt)
  append_tells s b = tt

  check_tells : (s : Option Replica) (b : CheckBody) → p.body ≡ bodies.Check b → Tells n s (table.check_extent b) p (table.check_body_rule n s p b)
  check_tells (Some r) (Check e generation q) is = check_told n e p r e (generation_of p.from generation) q
  check_tells None (Check e generation q) is = ((refl, tt), tt)
  check_tells (Some r) (Probe e generation) is = probe_told n e p r e generation
  check_tells None (Probe e generation) is = ((refl, tt), tt)
  check_tells (Some r) (Probed e generation l) is = probed_told n e p r generation l is r.check refl
  check_tells None (Probed e generation l) is = ((refl, tt), tt)
  check_tells s b is = tt

  missing_tells : (k : ℕ) → Tells n None k p (table.missing n p)
  missing_tells k = if_elim (Tells n None k p) (is_manager p.from) _ (silent None) (λ t. ((refl, tt), tt)) (λ t. tt)

  make_tells : (k fence target : ℕ) (places : Nodes) → Tells n None k p (table.make_rule n p k fence target places)
  make_tells k fence target places =
      if_elim (Tells n None k p) (all_met (table.make_tests n p target places)) (table.make_taken k fence target places) (silent None) (λ t. tt) (λ t. tt)

  seal_tells : (s : Option Replica) (b : SealBody) → Tells n s (table.seal_extent b) p (table.seal_body_rule n s p b)
  seal_tells None (seals.Make e fence target places) = make_tells e fence target places
  seal_tells (Some r) (seals.Freeze e) = freeze_told n e p r e
  seal_tells None (seals.Freeze e) = missing_tells e
  seal_tells (Some r) (seals.Seal e l) = seal_told n e p r e l
  seal_tells None (seals.Seal e l) = missing_tells e
  seal_tells (Some r) (seals.SendTail e from to) = send_tail_told n e p r e from to
  seal_tells None (seals.SendTail e from to) = missing_tells e
  seal_tells (Some r) (seals.Tail e from l groups) = tail_told n e p r e from l groups
  seal_tells None (seals.Tail e from l groups) = ((refl, tt), tt)
  seal_tells s b = tt

  read_tells : (s : Option Replica) (b : ReadBody) → p.body ≡ bodies.Read b → Tells n s (table.read_extent b) p (table.read_body_rule n s p b)
  read_tells (Some r) (reads.ReadAt e offset l q) is = read_told n e p r e offset l q
  read_tells None (reads.ReadAt e offset l q) is = ((refl, tt), tt)
  read_tells (Some r) (reads.ReadGroups e upto sealed q) is = groups_told n e p r upto sealed q is
  read_tells None (reads.ReadGroups e upto sealed q) is = ((refl, tt), tt)
  read_tells s b is = tt

  rule_tells : (s : Option Replica) (b : Body) → p.body ≡ b → Tells n s (table.extent_of b) p (table.node_rule n s p b)
  rule_tells s (bodies.Append b) is = append_tells s b
  rule_tells s (bodies.Check b) is = check_tells s b is
  rule_tells s (bodies.Seal b) is = seal_tells s b
  rule_tells s (bodies.Read b) is = read_tells s b is
  rule_tells s b is = tt

-- whatever a node sends, having taken a packet
pub node_tells : (n : ℕ) (s : Option Replica) (p : Packet) →
    Each (NodeTells n s (table.extent_of p.body) p (table.node_rule n s p p.body).notes) (table.node_rule n s p p.body).packets
node_tells n s p = rule_tells n p s p.body refl
