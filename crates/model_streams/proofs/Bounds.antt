-- A rule of a node sends and observes few things, and few appends wait after it.
use Rattle.std.proofs.Common.{◌≡◌, ℕ, ◌≤◌, ◌<◌, false, ◌&&◌, ◌==◌, nat_lt, nat_le, List, [], ◌∷◌, ◌++◌, length, map, take, drop, Option, Some, None, refl, ap, subst, arith, length-append}
use Rattle.std.proofs.lemmas.Bool.Decides.{nat_tests}
use Rattle.std.proofs.lemmas.List.{length-map}
use Rattle.std.proofs.lemmas.Grind.{common_steps}
use Rattle.block_types.specs.declared.record.Nodes.{Nodes}
use Rattle.wire.specs.declared.actor.ActorId.TheVariants.{Node}
use Rattle.wire.specs.declared.actor.ReqNo.{ReqNo}
use Rattle.wire.specs.declared.actor.ReqNo.TheVariants.{NoRequest}
use Rattle.wire.specs.declared.body.AppendBody.{AppendBody}
use Rattle.wire.specs.declared.body.AppendBody.TheVariants.{Append, Put, Have}
use Rattle.wire.specs.declared.body.SealBody.{SealBody}
use Rattle.wire.specs.declared.body.SealBody.TheVariants.{Make, Freeze, Seal, SendTail, Tail}
use Rattle.wire.specs.declared.body.CheckBody.{CheckBody}
use Rattle.wire.specs.declared.body.CheckBody.TheVariants.{Check, Probe, Probed}
use Rattle.wire.specs.declared.body.ReadBody.{ReadBody}
use Rattle.wire.specs.declared.body.ReadBody.TheVariants as reads
use Rattle.wire.specs.declared.body.Body.{Body}
use Rattle.wire.specs.declared.body.Body.TheVariants as bodies
use Rattle.wire.specs.declared.packet.Packet.{Packet}
use Rattle.wire.specs.declared.refusal.Refusal.{Refusal}
use Rattle.replica.specs.declared.phase.Phase.{Phase}
use Rattle.replica.specs.declared.phase.Phase.TheVariants as phases
use Rattle.replica.specs.Groups.{Group, text_length}
use Rattle.replica.specs.Reading.{groups_to, groups_from}
use Rattle.replica.specs.Content.{Content}
use Rattle.model_streams.specs.declared.checking.Checking.{Checking}
use Rattle.model_streams.specs.declared.waiting_append.WaitingAppend.{WaitingAppend}
use Rattle.model_streams.specs.Actors.{is_node, is_manager}
use Rattle.model_streams.specs.Outcome.{Outcome, all_met, silent, sends, or_refused}
use Rattle.model_streams.specs.Node.{Replica, fresh, is_open, node_rule, append_body_rule, seal_body_rule, read_body_rule, append_taken, append_refusal, append_tests, make_rule, make_taken, make_tests, put_fits, put_added, put_passed, put_taken, put_refusal, put_rule, answered, answered_if, covered, lesser, with_length, have_rule, read_taken, groups_taken, is_sealed, freezes, freeze_rule, shorts, cuts, seals_again, seals, seal_rule, tail_sent, send_tail_refusal, send_tail_rule, tail_fits, tail_taken, tail_rule, missing, check_body_rule, check_begun, check_taken, probe_refusal, probe_taken, probe_rule, with_probed, settled, probed_by, probed_for}
use Rattle.model_streams.specs.Bounds.{FewWait, AreFew}
use Rattle.model_streams.proofs.Tests.{if_elim, none_met}

pub record Bounded (o : Outcome (Option Replica)) : Type 0 where
  pub waits : FewWait o.after
  pub few : AreFew o.packets o.notes

same_if : (r t : Replica) → Some r ≡ Some t → r ≡ t
same_if r t e = cc

-- a replica of which few wait
here : (r : Replica) → length r.waiting ≤ 256 → FewWait (Some r)
here r h = λ t e. subst (λ (x : Replica). length x.waiting ≤ 256) (same_if r t e) h

quiet : (s : Option Replica) → FewWait s → Bounded (silent s)
quiet s h = record { waits = h; few = (omega arith, omega arith) }

sent : (s : Option Replica) (packets : List Packet) → FewWait s → length packets ≤ 2048 → Bounded (sends s packets)
sent s packets h few = record { waits = h; few = (few, omega arith) }

below : (a b : ℕ) → nat_le b a ≡ false → a < b
below a b h = grind (arith, nat_tests)

one_more : (ws : List WaitingAppend) (w : WaitingAppend) → length ws < 256 → length (ws ++ w ∷ []) ≤ 256
one_more ws w h = omega (arith, h, length-append ws (w ∷ []))

append_bounded : (n : ℕ) (r : Replica) (p : Packet) (e generation : ℕ) (blocks : Group) (q : ReqNo) (x : Option Refusal) → FewWait (Some r) → append_refusal n r p generation blocks ≡ x → Bounded (or_refused (Some r) (Node n) p q x (append_taken n r p e blocks q))
append_bounded n r p e generation blocks q (Some refusal) h is = sent (Some r) _ h (omega arith)
append_bounded n r p e generation blocks q None h is =
    let unmet = none_met (append_tests n r p generation blocks) is in
    record { waits = here _ (one_more r.waiting _ (below (length r.waiting) 256 unmet.1.1.1.1.1.1.0)); few = (omega arith, omega arith) }

make_bounded : (n : ℕ) (p : Packet) (e fence target : ℕ) (places : Nodes) → FewWait None → Bounded (make_rule n p e fence target places)
make_bounded n p e fence target places h =
    if_elim Bounded (all_met (make_tests n p target places)) (make_taken e fence target places) (silent None)
    (λ t. record { waits = here _ (omega arith); few = (omega arith, omega arith) })
    (λ f. quiet None h)

put_taken_bounded : (n : ℕ) (r : Replica) (e offset : ℕ) (group : Group) → FewWait (Some r) → Bounded (put_taken n r e offset group)
put_taken_bounded n r e offset group h =
    if_elim Bounded (put_fits r offset) (put_added n r e offset group) (put_passed n r e)
    (λ t. record { waits = here _ (h r refl); few = (omega arith, omega arith) })
    (λ f. sent (Some r) _ h (omega arith))

put_refused_bounded : (n : ℕ) (r : Replica) (p : Packet) (e offset : ℕ) (group : Group) (x : Option Refusal) → FewWait (Some r) → Bounded (or_refused (Some r) (Node n) p NoRequest x (put_taken n r e offset group))
put_refused_bounded n r p e offset group (Some refusal) h = sent (Some r) _ h (omega arith)
put_refused_bounded n r p e offset group None h = put_taken_bounded n r e offset group h

put_bounded : (n : ℕ) (r : Replica) (p : Packet) (e offset : ℕ) (group : Group) → FewWait (Some r) → Bounded (put_rule n r p e offset group)
put_bounded n r p e offset group h =
    if_elim Bounded (is_node r.content.places.primary p.from) (or_refused (Some r) (Node n) p NoRequest (put_refusal r) (put_taken n r e offset group)) (silent (Some r))
    (λ t. put_refused_bounded n r p e offset group (put_refusal r) h)
    (λ f. quiet (Some r) h)

part : (count : ℕ) (ws : List WaitingAppend) → length ws ≤ 256 → (length (take count ws) ≤ 256) × (length (drop count ws) ≤ 256)
part count ws h = (grind (arith, common_steps), grind (arith, common_steps))

mapped : {B : Type 0} (f : WaitingAppend → B) (ws : List WaitingAppend) → length ws ≤ 256 → length (map f ws) ≤ 2048
mapped f ws h = omega (arith, h, length-map ws f)

answered_bounded : (n : ℕ) (r : Replica) (e : ℕ) → length r.waiting ≤ 256 → Bounded (answered n r e)
answered_bounded n r e h =
    let count = covered (lesser r.second_has r.third_has) r.waiting in
    let parts = part count r.waiting h in
    record { waits = here _ parts.1; few = (mapped _ (take count r.waiting) parts.0, mapped _ (take count r.waiting) parts.0) }

told_bounded : (n : ℕ) (r : Replica) (e : ℕ) (told : Option Replica) → FewWait (Some r) → ((t : Replica) → told ≡ Some t → t.waiting ≡ r.waiting) → Bounded (answered_if n r e told)
told_bounded n r e None h same = quiet (Some r) h
told_bounded n r e (Some t) h same = answered_bounded n t e (omega (arith, h r refl, ap length (same t refl)))

length_keeps : (r : Replica) (p : Packet) (length : ℕ) (t : Replica) → with_length r p.from length ≡ Some t → t.waiting ≡ r.waiting
length_keeps r p length t =
    if_elim (λ x. x ≡ Some t → t.waiting ≡ r.waiting) (is_node r.content.places.second p.from) _ _
    (λ y e. cc)
    (λ f. if_elim (λ x. x ≡ Some t → t.waiting ≡ r.waiting) (is_node r.content.places.third p.from) _ _ (λ y e. cc) (λ y e. absurd cc))

have_bounded : (n : ℕ) (r : Replica) (p : Packet) (e length : ℕ) → FewWait (Some r) → Bounded (have_rule n r p e length)
have_bounded n r p e length h =
    if_elim Bounded ((n == r.content.places.primary) && is_open r.content.phase) (answered_if n r e (with_length r p.from length)) (silent (Some r))
    (λ t. told_bounded n r e (with_length r p.from length) h (length_keeps r p length))
    (λ f. quiet (Some r) h)

read_bounded : (n : ℕ) (r : Replica) (p : Packet) (e offset length : ℕ) (q : ReqNo) (x : Option Refusal) → FewWait (Some r) → Bounded (or_refused (Some r) (Node n) p q x (read_taken n r p e offset length q))
read_bounded n r p e offset length q (Some refusal) h = sent (Some r) _ h (omega arith)
read_bounded n r p e offset length q None h = record { waits = h; few = (omega arith, omega arith) }

groups_taken_bounded : (n : ℕ) (r : Replica) (p : Packet) (e upto : ℕ) (q : ReqNo) (x : Option (List Group)) → FewWait (Some r) → Bounded (groups_taken n r p e upto q x)
groups_taken_bounded n r p e upto q None h = sent (Some r) _ h (omega arith)
groups_taken_bounded n r p e upto q (Some groups) h = record { waits = h; few = (omega arith, omega arith) }

groups_bounded : (n : ℕ) (r : Replica) (p : Packet) (e upto : ℕ) (q : ReqNo) (x : Option Refusal) (y : Option (List Group)) → FewWait (Some r) → Bounded (or_refused (Some r) (Node n) p q x (groups_taken n r p e upto q y))
groups_bounded n r p e upto q (Some refusal) y h = sent (Some r) _ h (omega arith)
groups_bounded n r p e upto q None y h = groups_taken_bounded n r p e upto q y h

-- nothing waits at a replica that has just been made or closed
closed : (content : Content) → FewWait (Some (fresh content))
closed content = here (fresh content) (omega arith)

freezes_bounded : (n : ℕ) (r : Replica) (e : ℕ) (phase : Phase) → FewWait (Some r) → Bounded (freezes n r e phase)
freezes_bounded n r e phases.Open h = record { waits = closed _; few = (omega arith, omega arith) }
freezes_bounded n r e phases.Frozen h = sent (Some r) _ h (omega arith)
freezes_bounded n r e phases.Sealed h = sent (Some r) _ h (omega arith)

freeze_bounded : (n : ℕ) (r : Replica) (p : Packet) (e : ℕ) → FewWait (Some r) → Bounded (freeze_rule n r p e)
freeze_bounded n r p e h =
    if_elim Bounded (is_manager p.from) (freezes n r e r.content.phase) (silent (Some r))
    (λ t. freezes_bounded n r e r.content.phase h)
    (λ f. quiet (Some r) h)

shorts_bounded : (n : ℕ) (r : Replica) (e : ℕ) (phase : Phase) → FewWait (Some r) → Bounded (shorts n r e phase)
shorts_bounded n r e phases.Open h = record { waits = closed _; few = (omega arith, omega arith) }
shorts_bounded n r e phases.Frozen h = sent (Some r) _ h (omega arith)
shorts_bounded n r e phases.Sealed h = sent (Some r) _ h (omega arith)

cuts_bounded : (n : ℕ) (r : Replica) (p : Packet) (e length : ℕ) (x : Option (List Group)) → FewWait (Some r) → Bounded (cuts n r p e length x)
cuts_bounded n r p e length None h = sent (Some r) _ h (omega arith)
cuts_bounded n r p e length (Some groups) h = record { waits = closed _; few = (omega arith, omega arith) }

seals_again_bounded : (n : ℕ) (r : Replica) (p : Packet) (e length : ℕ) → FewWait (Some r) → Bounded (seals_again n r p e length)
seals_again_bounded n r p e length h =
    if_elim Bounded (text_length r.content.groups == length) _ _
    (λ t. sent (Some r) _ h (omega arith))
    (λ f. sent (Some r) _ h (omega arith))

seals_bounded : (n : ℕ) (r : Replica) (p : Packet) (e length : ℕ) → FewWait (Some r) → Bounded (seals n r p e length)
seals_bounded n r p e length h =
    if_elim Bounded (is_sealed r.content.phase) (seals_again n r p e length) _
    (λ t. seals_again_bounded n r p e length h)
    (λ f. if_elim Bounded (nat_lt (text_length r.content.groups) length) (shorts n r e r.content.phase) (cuts n r p e length (groups_to length r.content.groups))
    (λ x. shorts_bounded n r e r.content.phase h)
    (λ x. cuts_bounded n r p e length (groups_to length r.content.groups) h))

seal_bounded : (n : ℕ) (r : Replica) (p : Packet) (e length : ℕ) → FewWait (Some r) → Bounded (seal_rule n r p e length)
seal_bounded n r p e length h =
    if_elim Bounded (is_manager p.from) (seals n r p e length) (silent (Some r))
    (λ t. seals_bounded n r p e length h)
    (λ f. quiet (Some r) h)

tail_sent_bounded : (n : ℕ) (r : Replica) (p : Packet) (e from to : ℕ) (x : Option Refusal) (y : Option (List Group)) → FewWait (Some r) → Bounded (or_refused (Some r) (Node n) p NoRequest x (tail_sent n r p e from to y))
tail_sent_bounded n r p e from to (Some refusal) y h = sent (Some r) _ h (omega arith)
tail_sent_bounded n r p e from to None None h = sent (Some r) _ h (omega arith)
tail_sent_bounded n r p e from to None (Some groups) h = sent (Some r) _ h (omega arith)

send_tail_bounded : (n : ℕ) (r : Replica) (p : Packet) (e from to : ℕ) → FewWait (Some r) → Bounded (send_tail_rule n r p e from to)
send_tail_bounded n r p e from to h =
    if_elim Bounded (is_manager p.from) (or_refused (Some r) (Node n) p NoRequest (send_tail_refusal r) (tail_sent n r p e from to (groups_from from r.content.groups))) (silent (Some r))
    (λ t. tail_sent_bounded n r p e from to (send_tail_refusal r) (groups_from from r.content.groups) h)
    (λ f. quiet (Some r) h)

tail_bounded : (n : ℕ) (r : Replica) (p : Packet) (e from length : ℕ) (groups : List Group) → FewWait (Some r) → Bounded (tail_rule n r p e from length groups)
tail_bounded n r p e from length groups h =
    if_elim Bounded (tail_fits r p.from from length groups) (tail_taken n r e from length groups) (silent (Some r))
    (λ t. record { waits = closed _; few = (omega arith, omega arith) })
    (λ f. quiet (Some r) h)

missing_bounded : (n : ℕ) (p : Packet) → FewWait None → Bounded (missing n p)
missing_bounded n p h = if_elim Bounded (is_manager p.from) _ _ (λ t. sent None _ h (omega arith)) (λ f. quiet None h)

append_body_bounded : (n : ℕ) (s : Option Replica) (p : Packet) (body : AppendBody) → FewWait s → Bounded (append_body_rule n s p body)
append_body_bounded n (Some r) p (Append e generation blocks q) h = append_bounded n r p e generation blocks q _ h refl
append_body_bounded n None p (Append e generation blocks q) h = sent None _ h (omega arith)
append_body_bounded n (Some r) p (Put e offset group) h = put_bounded n r p e offset group h
append_body_bounded n None p (Put e offset group) h = sent None _ h (omega arith)
append_body_bounded n (Some r) p (Have e length) h = have_bounded n r p e length h
append_body_bounded n None p (Have e length) h = sent None _ h (omega arith)
append_body_bounded n s p body h = quiet s h

check_taken_bounded : (n : ℕ) (r : Replica) (p : Packet) (e generation : ℕ) (q : ReqNo) → FewWait (Some r) → Bounded (check_taken n r p e generation q)
check_taken_bounded n r p e generation q h =
    if_elim Bounded (is_open r.content.phase) (check_begun n r p e generation q) _
    (λ t. record { waits = here _ (h r refl); few = (omega arith, omega arith) })
    (λ f. sent (Some r) _ h (omega arith))

check_bounded : (n : ℕ) (r : Replica) (p : Packet) (e generation : ℕ) (q : ReqNo) (x : Option Refusal) → FewWait (Some r) → Bounded (or_refused (Some r) (Node n) p q x (check_taken n r p e generation q))
check_bounded n r p e generation q (Some refusal) h = sent (Some r) _ h (omega arith)
check_bounded n r p e generation q None h = check_taken_bounded n r p e generation q h

probe_refused_bounded : (n : ℕ) (r : Replica) (p : Packet) (e generation : ℕ) (x : Option Refusal) → FewWait (Some r) → Bounded (or_refused (Some r) (Node n) p NoRequest x (probe_taken n r e generation))
probe_refused_bounded n r p e generation (Some refusal) h = sent (Some r) _ h (omega arith)
probe_refused_bounded n r p e generation None h = record { waits = here _ (h r refl); few = (omega arith, omega arith) }

probe_bounded : (n : ℕ) (r : Replica) (p : Packet) (e generation : ℕ) → FewWait (Some r) → Bounded (probe_rule n r p e generation)
probe_bounded n r p e generation h =
    if_elim Bounded (is_node r.content.places.primary p.from) (or_refused (Some r) (Node n) p NoRequest (probe_refusal r generation) (probe_taken n r e generation)) (silent (Some r))
    (λ t. probe_refused_bounded n r p e generation (probe_refusal r generation) h)
    (λ f. quiet (Some r) h)

settled_bounded : (n : ℕ) (r : Replica) (c : Checking) (second third : Option ℕ) → FewWait (Some r) → Bounded (settled n r c second third)
settled_bounded n r c (Some second) (Some third) h = sent _ _ (here _ (h r refl)) (omega arith)
settled_bounded n r c None third h = quiet _ (here _ (h r refl))
settled_bounded n r c (Some second) None h = quiet _ (here _ (h r refl))

probed_by_bounded : (n : ℕ) (r : Replica) (x : Option Checking) → FewWait (Some r) → Bounded (probed_by n r x)
probed_by_bounded n r None h = quiet (Some r) h
probed_by_bounded n r (Some c) h = settled_bounded n r c c.second c.third h

probed_for_bounded : (n : ℕ) (r : Replica) (p : Packet) (generation length : ℕ) (x : Option Checking) → FewWait (Some r) → Bounded (probed_for n r p generation length x)
probed_for_bounded n r p generation length None h = quiet (Some r) h
probed_for_bounded n r p generation length (Some c) h =
    if_elim Bounded (c.generation == generation) (probed_by n r (with_probed c r.content.places p.from length)) (silent (Some r))
    (λ t. probed_by_bounded n r (with_probed c r.content.places p.from length) h)
    (λ f. quiet (Some r) h)

check_body_bounded : (n : ℕ) (s : Option Replica) (p : Packet) (body : CheckBody) → FewWait s → Bounded (check_body_rule n s p body)
check_body_bounded n (Some r) p (Check e generation q) h = check_bounded n r p e _ q _ h
check_body_bounded n None p (Check e generation q) h = sent None _ h (omega arith)
check_body_bounded n (Some r) p (Probe e generation) h = probe_bounded n r p e generation h
check_body_bounded n None p (Probe e generation) h = sent None _ h (omega arith)
check_body_bounded n (Some r) p (Probed e generation length) h = probed_for_bounded n r p generation length r.check h
check_body_bounded n None p (Probed e generation length) h = sent None _ h (omega arith)
check_body_bounded n s p body h = quiet s h

seal_body_bounded : (n : ℕ) (s : Option Replica) (p : Packet) (body : SealBody) → FewWait s → Bounded (seal_body_rule n s p body)
seal_body_bounded n None p (Make e fence target places) h = make_bounded n p e fence target places h
seal_body_bounded n (Some r) p (Freeze e) h = freeze_bounded n r p e h
seal_body_bounded n None p (Freeze e) h = missing_bounded n p h
seal_body_bounded n (Some r) p (Seal e length) h = seal_bounded n r p e length h
seal_body_bounded n None p (Seal e length) h = missing_bounded n p h
seal_body_bounded n (Some r) p (SendTail e from to) h = send_tail_bounded n r p e from to h
seal_body_bounded n None p (SendTail e from to) h = missing_bounded n p h
seal_body_bounded n (Some r) p (Tail e from length groups) h = tail_bounded n r p e from length groups h
seal_body_bounded n None p (Tail e from length groups) h = sent None _ h (omega arith)
seal_body_bounded n s p body h = quiet s h

read_body_bounded : (n : ℕ) (s : Option Replica) (p : Packet) (body : ReadBody) → FewWait s → Bounded (read_body_rule n s p body)
read_body_bounded n (Some r) p (reads.ReadAt e offset length q) h = read_bounded n r p e offset length q _ h
read_body_bounded n None p (reads.ReadAt e offset length q) h = sent None _ h (omega arith)
read_body_bounded n (Some r) p (reads.ReadGroups e upto sealed q) h = groups_bounded n r p e upto q _ _ h
read_body_bounded n None p (reads.ReadGroups e upto sealed q) h = sent None _ h (omega arith)
read_body_bounded n s p body h = quiet s h

pub rule_bounded : (n : ℕ) (s : Option Replica) (p : Packet) (body : Body) → FewWait s → Bounded (node_rule n s p body)
rule_bounded n s p (bodies.Append body) h = append_body_bounded n s p body h
rule_bounded n s p (bodies.Check body) h = check_body_bounded n s p body h
rule_bounded n s p (bodies.Seal body) h = seal_body_bounded n s p body h
rule_bounded n s p (bodies.Read body) h = read_body_bounded n s p body h
rule_bounded n s p body h = quiet s h
