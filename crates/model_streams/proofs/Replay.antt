-- What a rule leaves, volatile parts aside, is what its record makes of what was there.
use Rattle.std.proofs.Common.{◌≡◌, ℕ, Bool, List, ap, sym, ◌∙◌, true, false, not, ◌&&◌, ◌==◌, nat_lt, nat_le, Option, Some, None, refl, eq-eqb, arith}
use Rattle.block_types.specs.declared.record.Nodes.{Nodes}
use Rattle.block_types.specs.declared.record.Record.{Record}
use Rattle.block_types.specs.declared.record.Record.TheVariants as records
use Rattle.block_types.specs.Limits.{is_within, are_nodes}
use Rattle.wire.specs.declared.actor.ReqNo.{ReqNo}
use Rattle.wire.specs.declared.body.AppendBody.{AppendBody}
use Rattle.wire.specs.declared.body.AppendBody.TheVariants.{Append, Put, Have}
use Rattle.wire.specs.declared.body.SealBody.{SealBody}
use Rattle.wire.specs.declared.body.SealBody.TheVariants.{Make, Freeze, Seal, SendTail, Tail}
use Rattle.wire.specs.declared.body.CheckBody.{CheckBody}
use Rattle.wire.specs.declared.body.CheckBody.TheVariants.{Check, Probe, Probed}
use Rattle.wire.specs.declared.body.ReadBody.{ReadBody}
use Rattle.wire.specs.declared.body.ReadBody.TheVariants as reads
use Rattle.wire.specs.declared.actor.ReqNo.TheVariants.{NoRequest}
use Rattle.wire.specs.declared.body.Body.{Body}
use Rattle.wire.specs.declared.body.Body.TheVariants as bodies
use Rattle.wire.specs.declared.packet.Packet.{Packet}
use Rattle.wire.specs.declared.refusal.Refusal.{Refusal}
use Rattle.replica.specs.Groups.{Group, text_length}
use Rattle.replica.specs.Content.{Content, fenced}
use Rattle.replica.specs.Replay as replays
use Rattle.replica.specs.declared.phase.Phase.{Phase}
use Rattle.replica.specs.declared.phase.Phase.TheVariants as phases
use Rattle.replica.specs.Reading.{groups_to, groups_from}
use Rattle.replica.specs.Replay.{applied, fits, is_place, is_tail, is_boundary}
use Rattle.model_streams.specs.declared.checking.Checking.{Checking}
use Rattle.model_streams.specs.Actors.{is_node, is_manager, is_one_of}
use Rattle.model_streams.specs.Outcome.{Outcome, all_met, silent, or_refused}
use Rattle.model_streams.specs.Node.{Replica, contents, node_rule, append_body_rule, seal_body_rule, append_taken, append_refusal, append_tests, make_rule, make_taken, make_tests, put_fits, put_added, put_passed, put_taken, put_tests, put_refusal, put_rule, answered_if, with_length, have_rule, read_taken, groups_taken, read_body_rule, extent_of, append_extent, seal_extent, read_extent, is_open, is_sealed, freezes, freeze_rule, shorts, cuts, seals_again, seals, seal_rule, tail_sent, send_tail_refusal, send_tail_rule, tail_fits, tail_taken, tail_rule, missing, check_body_rule, check_extent, check_begun, check_taken, raised, raise_written, probe_refusal, probe_tests, probe_taken, probe_rule, with_probed, settled, probed_by, probed_for}
use Rattle.std.proofs.lemmas.Bool.Decides.{nat_tests}
use Rattle.std.proofs.lemmas.Bool.{and_from, and_parts}
use Rattle.wire.specs.declared.actor.ActorId.TheVariants.{Node}
use Rattle.model_streams.proofs.Tests.{if_elim, none_met, all_are, AllMet}

abbrev pub applied_if : Option Content → Option Record → Option Content
applied_if content None = content
applied_if content (Some r) = applied content r

-- the record, if there is one, is about extent e and fits
abbrev pub IsWritten : ℕ → ℕ → Option Content → Option Record → Type 0
IsWritten n e content None = Unit {0}
IsWritten n e content (Some r) = (replays.extent_of r ≡ Some e) × (fits n content r ≡ true)

pub record Replays (n e : ℕ) (s : Option Replica) (o : Outcome (Option Replica)) : Type 0 where
  pub is : contents o.after ≡ applied_if (contents s) o.written
  pub written : IsWritten n e (contents s) o.written

eq_self : (n : ℕ) → (n == n) ≡ true
eq_self n = eq-eqb n n refl

below : (a b : ℕ) → nat_le b a ≡ false → nat_lt a b ≡ true
below a b h = grind (arith, nat_tests)

unmet_not : (b : Bool) → not b ≡ false → b ≡ true
unmet_not true e = refl
unmet_not false e = absurd cc

append_fits : (n : ℕ) (r : Replica) (p : Packet) (e generation : ℕ) (blocks : Group) → append_refusal n r p generation blocks ≡ None → fits n (Some r.content) (records.Append e (text_length r.content.groups) blocks) ≡ true
append_fits n r p e generation blocks none =
    let unmet = none_met (append_tests n r p generation blocks) none in
    and_from _ _ (unmet_not _ unmet.1.0) (and_from _ _ (eq_self (text_length r.content.groups)) (below (text_length r.content.groups) r.content.target unmet.1.1.1.1.1.0))

append_replays : (n : ℕ) (r : Replica) (p : Packet) (e generation : ℕ) (blocks : Group) (q : ReqNo) (x : Option Refusal) → append_refusal n r p generation blocks ≡ x → Replays n e (Some r) (or_refused (Some r) (Node n) p q x (append_taken n r p e blocks q))
append_replays n r p e generation blocks q (Some refusal) is = record { is = refl; written = tt }
append_replays n r p e generation blocks q None is = record { is = refl; written = (refl, append_fits n r p e generation blocks is) }

made_fits : (n : ℕ) (p : Packet) (target : ℕ) (places : Nodes) → AllMet (make_tests n p target places) → (is_place n places && (are_nodes places && is_within 4096 16777216 target)) ≡ true
made_fits n p target places met = and_from _ _ met.1.0 (and_from _ _ met.1.1.0 met.1.1.1.0)

make_replays : (n : ℕ) (p : Packet) (e fence target : ℕ) (places : Nodes) → Replays n e None (make_rule n p e fence target places)
make_replays n p e fence target places =
    if_elim (Replays n e None) (all_met (make_tests n p target places)) (make_taken e fence target places) (silent None)
    (λ t. record { is = refl; written = (refl, made_fits n p target places (all_are (make_tests n p target places) t)) })
    (λ f. record { is = refl; written = tt {0} })

-- nothing is written, and what the records make is as it was
kept_replays : (n e : ℕ) (s : Option Replica) (o : Outcome (Option Replica)) → contents o.after ≡ contents s → o.written ≡ None → Replays n e s o
kept_replays n e s o same none = record { is = rw none same; written = rw none (tt {0}) }

put_taken_replays : (n : ℕ) (r : Replica) (e offset : ℕ) (group : Group) → is_open r.content.phase ≡ true → Replays n e (Some r) (put_taken n r e offset group)
put_taken_replays n r e offset group live =
    if_elim (Replays n e (Some r)) (put_fits r offset) (put_added n r e offset group) (put_passed n r e)
    (λ t. record { is = refl; written = (refl, and_from _ _ live t) })
    (λ f. record { is = refl; written = tt {0} })

put_refused_replays : (n : ℕ) (r : Replica) (p : Packet) (e offset : ℕ) (group : Group) (x : Option Refusal) → put_refusal r ≡ x → Replays n e (Some r) (or_refused (Some r) (Node n) p NoRequest x (put_taken n r e offset group))
put_refused_replays n r p e offset group (Some refusal) is = record { is = refl; written = tt }
put_refused_replays n r p e offset group None is = put_taken_replays n r e offset group (unmet_not _ (none_met (put_tests r) is).0)

put_replays : (n : ℕ) (r : Replica) (p : Packet) (e offset : ℕ) (group : Group) → Replays n e (Some r) (put_rule n r p e offset group)
put_replays n r p e offset group =
    if_elim (Replays n e (Some r)) (is_node r.content.places.primary p.from) (or_refused (Some r) (Node n) p NoRequest (put_refusal r) (put_taken n r e offset group)) (silent (Some r))
    (λ t. put_refused_replays n r p e offset group (put_refusal r) refl)
    (λ f. record { is = refl; written = tt {0} })

-- with_length changes nothing that the records make
told_replays : (n : ℕ) (r : Replica) (e : ℕ) (told : Option Replica) → ((t : Replica) → told ≡ Some t → t.content ≡ r.content) → Replays n e (Some r) (answered_if n r e told)
told_replays n r e None same = record { is = refl; written = tt }
told_replays n r e (Some t) same = record { is = ap Some (same t refl); written = tt }

length_keeps : (r : Replica) (p : Packet) (length : ℕ) (t : Replica) → with_length r p.from length ≡ Some t → t.content ≡ r.content
length_keeps r p length t =
    if_elim (λ x. x ≡ Some t → t.content ≡ r.content) (is_node r.content.places.second p.from) _ _
    (λ y e. cc)
    (λ f. if_elim (λ x. x ≡ Some t → t.content ≡ r.content) (is_node r.content.places.third p.from) _ _ (λ y e. cc) (λ y e. absurd cc))

have_replays : (n : ℕ) (r : Replica) (p : Packet) (e length : ℕ) → Replays n e (Some r) (have_rule n r p e length)
have_replays n r p e length =
    if_elim (Replays n e (Some r)) ((n == r.content.places.primary) && is_open r.content.phase) (answered_if n r e (with_length r p.from length)) (silent (Some r))
    (λ t. told_replays n r e (with_length r p.from length) (length_keeps r p length))
    (λ f. record { is = refl; written = tt {0} })

read_replays : (n : ℕ) (r : Replica) (p : Packet) (e offset length : ℕ) (q : ReqNo) (x : Option Refusal) → Replays n e (Some r) (or_refused (Some r) (Node n) p q x (read_taken n r p e offset length q))
read_replays n r p e offset length q (Some refusal) = record { is = refl; written = tt }
read_replays n r p e offset length q None = record { is = refl; written = tt }

groups_taken_replays : (n : ℕ) (r : Replica) (p : Packet) (e upto : ℕ) (q : ReqNo) (x : Option (List Group)) → Replays n e (Some r) (groups_taken n r p e upto q x)
groups_taken_replays n r p e upto q None = record { is = refl; written = tt }
groups_taken_replays n r p e upto q (Some groups) = record { is = refl; written = tt }

groups_replays : (n : ℕ) (r : Replica) (p : Packet) (e upto : ℕ) (q : ReqNo) (x : Option Refusal) (y : Option (List Group)) → Replays n e (Some r) (or_refused (Some r) (Node n) p q x (groups_taken n r p e upto q y))
groups_replays n r p e upto q (Some refusal) y = record { is = refl; written = tt }
groups_replays n r p e upto q None y = groups_taken_replays n r p e upto q y

freezes_replays : (n : ℕ) (r : Replica) (e : ℕ) (phase : Phase) → r.content.phase ≡ phase → Replays n e (Some r) (freezes n r e phase)
freezes_replays n r e phases.Open is = record { is = refl; written = (refl, ap is_open is) }
freezes_replays n r e phases.Frozen is = record { is = refl; written = tt }
freezes_replays n r e phases.Sealed is = record { is = refl; written = tt }

freeze_replays : (n : ℕ) (r : Replica) (p : Packet) (e : ℕ) → Replays n e (Some r) (freeze_rule n r p e)
freeze_replays n r p e =
    if_elim (Replays n e (Some r)) (is_manager p.from) (freezes n r e r.content.phase) (silent (Some r))
    (λ t. freezes_replays n r e r.content.phase refl)
    (λ f. record { is = refl; written = tt {0} })

shorts_replays : (n : ℕ) (r : Replica) (e : ℕ) (phase : Phase) → r.content.phase ≡ phase → Replays n e (Some r) (shorts n r e phase)
shorts_replays n r e phases.Open is = record { is = refl; written = (refl, ap is_open is) }
shorts_replays n r e phases.Frozen is = record { is = refl; written = tt }
shorts_replays n r e phases.Sealed is = record { is = refl; written = tt }

cuts_replays : (n : ℕ) (r : Replica) (p : Packet) (e length : ℕ) (x : Option (List Group)) → is_sealed r.content.phase ≡ false → groups_to length r.content.groups ≡ x → Replays n e (Some r) (cuts n r p e length x)
cuts_replays n r p e length None unsealed is = record { is = refl; written = tt }
cuts_replays n r p e length (Some groups) unsealed is =
    record {
      is = ap (λ (y : Option (List Group)). Some (replays.cut_to r.content y)) (sym is);
      written = (refl, and_from _ _ (ap not unsealed) (ap is_boundary is));
    }

seals_again_replays : (n : ℕ) (r : Replica) (p : Packet) (e length : ℕ) → Replays n e (Some r) (seals_again n r p e length)
seals_again_replays n r p e length =
    if_elim (Replays n e (Some r)) (text_length r.content.groups == length) _ _
    (λ t. record { is = refl; written = tt {0} })
    (λ f. record { is = refl; written = tt {0} })

seals_replays : (n : ℕ) (r : Replica) (p : Packet) (e length : ℕ) → Replays n e (Some r) (seals n r p e length)
seals_replays n r p e length =
    if_elim (Replays n e (Some r)) (is_sealed r.content.phase) (seals_again n r p e length) _
    (λ t. seals_again_replays n r p e length)
    (λ f. if_elim (Replays n e (Some r)) (nat_lt (text_length r.content.groups) length) (shorts n r e r.content.phase) (cuts n r p e length (groups_to length r.content.groups))
    (λ x. shorts_replays n r e r.content.phase refl)
    (λ x. cuts_replays n r p e length (groups_to length r.content.groups) f refl))

seal_replays : (n : ℕ) (r : Replica) (p : Packet) (e length : ℕ) → Replays n e (Some r) (seal_rule n r p e length)
seal_replays n r p e length =
    if_elim (Replays n e (Some r)) (is_manager p.from) (seals n r p e length) (silent (Some r))
    (λ t. seals_replays n r p e length)
    (λ f. record { is = refl; written = tt {0} })

tail_sent_replays : (n : ℕ) (r : Replica) (p : Packet) (e from to : ℕ) (x : Option Refusal) (y : Option (List Group)) → Replays n e (Some r) (or_refused (Some r) (Node n) p NoRequest x (tail_sent n r p e from to y))
tail_sent_replays n r p e from to (Some refusal) y = record { is = refl; written = tt }
tail_sent_replays n r p e from to None None = record { is = refl; written = tt }
tail_sent_replays n r p e from to None (Some groups) = record { is = refl; written = tt }

send_tail_replays : (n : ℕ) (r : Replica) (p : Packet) (e from to : ℕ) → Replays n e (Some r) (send_tail_rule n r p e from to)
send_tail_replays n r p e from to =
    if_elim (Replays n e (Some r)) (is_manager p.from) (or_refused (Some r) (Node n) p NoRequest (send_tail_refusal r) (tail_sent n r p e from to (groups_from from r.content.groups))) (silent (Some r))
    (λ t. tail_sent_replays n r p e from to (send_tail_refusal r) (groups_from from r.content.groups))
    (λ f. record { is = refl; written = tt {0} })

tail_replays : (n : ℕ) (r : Replica) (p : Packet) (e from length : ℕ) (groups : List Group) → Replays n e (Some r) (tail_rule n r p e from length groups)
tail_replays n r p e from length groups =
    if_elim (Replays n e (Some r)) (tail_fits r p.from from length groups) (tail_taken n r e from length groups) (silent (Some r))
    (λ t. record { is = refl; written = (refl, (and_parts (is_one_of r.content.places p.from) _ t).1) })
    (λ f. record { is = refl; written = tt {0} })

missing_replays : (n : ℕ) (p : Packet) (e : ℕ) → Replays n e None (missing n p)
missing_replays n p e =
    if_elim (Replays n e None) (is_manager p.from) _ _
    (λ t. record { is = refl; written = tt {0} })
    (λ f. record { is = refl; written = tt {0} })

raise_cases : (n e : ℕ) (r : Replica) (generation : ℕ) (o : Outcome (Option Replica)) → is_open r.content.phase ≡ true → (b : Bool) → nat_lt r.content.fence generation ≡ b →
    contents o.after ≡ Some (raised r.content generation) → o.written ≡ raise_written e r.content generation → Replays n e (Some r) o
raise_cases n e r generation o live true higher made written =
    let w : o.written ≡ Some (records.Fence e generation) = written ∙ rw higher refl in
    let m : contents o.after ≡ Some (fenced r.content generation) = made ∙ rw higher refl in
    record { is = rw (m, w) refl; written = rw w (refl, and_from _ _ live higher) }
raise_cases n e r generation o live false higher made written =
    let w : o.written ≡ None = written ∙ rw higher refl in
    let m : contents o.after ≡ Some r.content = made ∙ rw higher refl in
    record { is = rw (m, w) refl; written = rw w tt }

-- a fence that rises is in the record, and another is as it was
raise_replays : (n e : ℕ) (r : Replica) (generation : ℕ) (after : Replica) (o : Outcome (Option Replica)) → is_open r.content.phase ≡ true →
    o.after ≡ Some after → after.content ≡ raised r.content generation → o.written ≡ raise_written e r.content generation → Replays n e (Some r) o
raise_replays n e r generation after o live is content written =
    raise_cases n e r generation o live (nat_lt r.content.fence generation) refl (rw is (ap Some content)) written

check_taken_replays : (n : ℕ) (r : Replica) (p : Packet) (e generation : ℕ) (q : ReqNo) → Replays n e (Some r) (check_taken n r p e generation q)
check_taken_replays n r p e generation q =
    if_elim (Replays n e (Some r)) (is_open r.content.phase) (check_begun n r p e generation q) _
    (λ t. raise_replays n e r generation _ (check_begun n r p e generation q) t refl refl refl)
    (λ f. record { is = refl; written = tt {0} })

check_replays : (n : ℕ) (r : Replica) (p : Packet) (e generation : ℕ) (q : ReqNo) (x : Option Refusal) → Replays n e (Some r) (or_refused (Some r) (Node n) p q x (check_taken n r p e generation q))
check_replays n r p e generation q (Some refusal) = record { is = refl; written = tt }
check_replays n r p e generation q None = check_taken_replays n r p e generation q

probe_refused_replays : (n : ℕ) (r : Replica) (p : Packet) (e generation : ℕ) (x : Option Refusal) → probe_refusal r generation ≡ x → Replays n e (Some r) (or_refused (Some r) (Node n) p NoRequest x (probe_taken n r e generation))
probe_refused_replays n r p e generation (Some refusal) is = record { is = refl; written = tt }
probe_refused_replays n r p e generation None is =
    raise_replays n e r generation _ (probe_taken n r e generation) (unmet_not _ (none_met (probe_tests r generation) is).0) refl refl refl

probe_replays : (n : ℕ) (r : Replica) (p : Packet) (e generation : ℕ) → Replays n e (Some r) (probe_rule n r p e generation)
probe_replays n r p e generation =
    if_elim (Replays n e (Some r)) (is_node r.content.places.primary p.from) (or_refused (Some r) (Node n) p NoRequest (probe_refusal r generation) (probe_taken n r e generation)) (silent (Some r))
    (λ t. probe_refused_replays n r p e generation (probe_refusal r generation) refl)
    (λ f. record { is = refl; written = tt {0} })

settled_replays : (n e : ℕ) (r : Replica) (c : Checking) (second third : Option ℕ) → Replays n e (Some r) (settled n r c second third)
settled_replays n e r c (Some second) (Some third) = record { is = refl; written = tt }
settled_replays n e r c None third = record { is = refl; written = tt }
settled_replays n e r c (Some second) None = record { is = refl; written = tt }

probed_by_replays : (n e : ℕ) (r : Replica) (x : Option Checking) → Replays n e (Some r) (probed_by n r x)
probed_by_replays n e r None = record { is = refl; written = tt }
probed_by_replays n e r (Some c) = settled_replays n e r c c.second c.third

probed_for_replays : (n e : ℕ) (r : Replica) (p : Packet) (generation length : ℕ) (x : Option Checking) → Replays n e (Some r) (probed_for n r p generation length x)
probed_for_replays n e r p generation length None = record { is = refl; written = tt }
probed_for_replays n e r p generation length (Some c) =
    if_elim (Replays n e (Some r)) (c.generation == generation) (probed_by n r (with_probed c r.content.places p.from length)) (silent (Some r))
    (λ t. probed_by_replays n e r (with_probed c r.content.places p.from length))
    (λ f. record { is = refl; written = tt {0} })

check_body_replays : (n : ℕ) (s : Option Replica) (p : Packet) (body : CheckBody) → Replays n (check_extent body) s (check_body_rule n s p body)
check_body_replays n (Some r) p (Check e generation q) = check_replays n r p e _ q _
check_body_replays n None p (Check e generation q) = record { is = refl; written = tt }
check_body_replays n (Some r) p (Probe e generation) = probe_replays n r p e generation
check_body_replays n None p (Probe e generation) = record { is = refl; written = tt }
check_body_replays n (Some r) p (Probed e generation length) = probed_for_replays n e r p generation length r.check
check_body_replays n None p (Probed e generation length) = record { is = refl; written = tt }
check_body_replays n s p body = record { is = refl; written = tt }

append_body_replays : (n : ℕ) (s : Option Replica) (p : Packet) (body : AppendBody) → Replays n (append_extent body) s (append_body_rule n s p body)
append_body_replays n (Some r) p (Append e generation blocks q) = append_replays n r p e generation blocks q _ refl
append_body_replays n None p (Append e generation blocks q) = record { is = refl; written = tt }
append_body_replays n (Some r) p (Put e offset group) = put_replays n r p e offset group
append_body_replays n None p (Put e offset group) = record { is = refl; written = tt }
append_body_replays n (Some r) p (Have e length) = have_replays n r p e length
append_body_replays n None p (Have e length) = record { is = refl; written = tt }
append_body_replays n s p body = record { is = refl; written = tt }

seal_body_replays : (n : ℕ) (s : Option Replica) (p : Packet) (body : SealBody) → Replays n (seal_extent body) s (seal_body_rule n s p body)
seal_body_replays n None p (Make e fence target places) = make_replays n p e fence target places
seal_body_replays n (Some r) p (Freeze e) = freeze_replays n r p e
seal_body_replays n None p (Freeze e) = missing_replays n p e
seal_body_replays n (Some r) p (Seal e length) = seal_replays n r p e length
seal_body_replays n None p (Seal e length) = missing_replays n p e
seal_body_replays n (Some r) p (SendTail e from to) = send_tail_replays n r p e from to
seal_body_replays n None p (SendTail e from to) = missing_replays n p e
seal_body_replays n (Some r) p (Tail e from length groups) = tail_replays n r p e from length groups
seal_body_replays n None p (Tail e from length groups) = record { is = refl; written = tt }
seal_body_replays n s p body = record { is = refl; written = tt }

read_body_replays : (n : ℕ) (s : Option Replica) (p : Packet) (body : ReadBody) → Replays n (read_extent body) s (read_body_rule n s p body)
read_body_replays n (Some r) p (reads.ReadAt e offset length q) = read_replays n r p e offset length q _
read_body_replays n None p (reads.ReadAt e offset length q) = record { is = refl; written = tt }
read_body_replays n (Some r) p (reads.ReadGroups e upto sealed q) = groups_replays n r p e upto q _ _
read_body_replays n None p (reads.ReadGroups e upto sealed q) = record { is = refl; written = tt }
read_body_replays n s p body = record { is = refl; written = tt }

pub rule_replays : (n : ℕ) (s : Option Replica) (p : Packet) (body : Body) → Replays n (extent_of body) s (node_rule n s p body)
rule_replays n s p (bodies.Append body) = append_body_replays n s p body
rule_replays n s p (bodies.Check body) = check_body_replays n s p body
rule_replays n s p (bodies.Seal body) = seal_body_replays n s p body
rule_replays n s p (bodies.Read body) = read_body_replays n s p body
rule_replays n s p body = record { is = refl; written = tt }
