-- Each record that fits what is there is written by a rule of the node, at a packet that another sends.
use Rattle.std.proofs.Common.{◌≡◌, ◌≢◌, ℕ, Bool, true, false, not, ◌==◌, ◌&&◌, ◌||◌, ◌-◌, ◌≤◌, nat_lt, nat_le, List, [], ◌∷◌, ◌++◌, length, Option, Some, None, refl, sym, ap, subst, ◌∙◌, arith, append_assoc, append-nil, inl, inr, length-append}
use Rattle.std.specs.Prelude.{if◌then◌else◌}
use Rattle.std.specs.List.{AllByRecursion}
use Rattle.std.proofs.lemmas.Bool.{and_parts, and_from, or_from, or_left, or_right, cases_eq, eqb-true, eqb-false, eq-eqb, ne_eqb, ltb-true, leb-true, le-ltb, lt-leb, le-leb, lt-ltb, not-true, not_from_true}
use Rattle.block_types.specs.declared.record.Nodes.{Nodes}
use Rattle.block_types.specs.declared.record.Record.{Record}
use Rattle.block_types.specs.declared.record.Record.TheVariants as records
use Rattle.block_types.specs.Limits.{IsBlock, IsGroup, is_within, are_nodes}
use Rattle.blocks.specs.Record.{IsInRange}
use Rattle.blocks.proofs.Laws.{nodes_sound}
use Rattle.blocks.proofs.Formats.{some_is}
use Rattle.wire.specs.Blocks.{is_block, has_bad_block}
use Rattle.wire.specs.declared.actor.ActorId.TheVariants.{Node, Manager, Server}
use Rattle.wire.specs.declared.actor.ReqNo.TheVariants.{NoRequest}
use Rattle.wire.specs.declared.body.AppendBody.TheVariants.{Append, Put}
use Rattle.wire.specs.declared.body.CheckBody.TheVariants.{Check, Probe}
use Rattle.wire.specs.declared.body.SealBody.TheVariants.{Make, Freeze, Seal, Tail}
use Rattle.wire.specs.declared.body.Body.TheVariants as bodies
use Rattle.wire.specs.declared.packet.Packet.{Packet}
use Rattle.replica.specs.declared.phase.Phase.{Phase}
use Rattle.replica.specs.declared.phase.Phase.TheVariants as phases
use Rattle.replica.specs.Content.{Content}
use Rattle.replica.specs.Groups.{Group, joined, text, size, text_length}
use Rattle.replica.specs.Reading.{after_group, groups_to}
use Rattle.replica.specs.Replay.{applied, replay, fits, fits_at, fit, fit_after, is_place, is_open, is_frozen, is_sealed, is_boundary, is_tail}
use Rattle.replica.specs.Replay as replays
use Rattle.replica.proofs.Replaying.{replay-here, replay-elsewhere, fit-at}
use Rattle.model_streams.specs.Actors.{is_node, is_one_of}
use Rattle.model_streams.specs.Outcome.{packet, all_met, silent}
use Rattle.model_streams.specs.Node.{Replica, fresh, make_tests, make_taken, append_tests, append_refusal, append_taken, put_tests, put_refusal, put_fits, put_added, put_passed, put_taken, check_tests, check_refusal, check_begun, check_taken, raise_written, probe_tests, probe_refusal, probe_taken, freezes, seals_again, shorts, cuts, tail_fits, tail_taken, extent_of, node_rule}
use Rattle.laws_records.specs.NodeRecords.{fresh_of, NodeWrites}
use Rattle.laws_records.proofs.Choosing.{Writes, if_so, if_not, unmet, unrefused}

-- a packet about the record's extent, at which node n writes the record where just this is there
record WritesAt (n : ℕ) (content : Option Content) (r : Record) : Type 0 where
  sent : Packet
  another : sent.from ≢ Node n
  about : replays.extent_of r ≡ Some (extent_of sent.body)
  written : Writes r (node_rule n (fresh_of content) sent sent.body)

other_node : (m n : ℕ) → m ≢ n → Node m ≢ Node n
other_node m n ne same = ne cc

itself : (n : ℕ) → (n == n) ≡ true
itself n = eq-eqb n n refl

not_below : (n : ℕ) → nat_lt n n ≡ false
not_below n = le-ltb n n (omega arith)

-- ---- Make

three_met : (a b c : Bool) → (a && (b && c)) ≡ true → all_met (true ∷ a ∷ b ∷ c ∷ []) ≡ true
three_met true true true met = refl
three_met true true false met = absurd cc
three_met true false c met = absurd cc
three_met false b c met = absurd cc

make_written : (n e fence target : ℕ) (places : Nodes) → fits n None (records.Make e fence target places) ≡ true → WritesAt n None (records.Make e fence target places)
make_written n e fence target places fits =
    let sent : Packet = packet Manager (Node n) (bodies.Seal (Make e fence target places)) in
    record {
      sent = sent;
      another = λ same. absurd cc;
      about = refl;
      written = if_so (Writes (records.Make e fence target places)) (all_met (make_tests n sent target places)) (make_taken e fence target places) (silent None)
          (three_met (is_place n places) (are_nodes places) (is_within 4096 16777216 target) fits) refl;
    }

-- ---- Append

no_bad_block : (group : Group) → AllByRecursion IsBlock group → has_bad_block group ≡ false
no_bad_block [] all = refl
no_bad_block (b ∷ group) all =
    or_from _ _ (not_from_true (is_block b) (and_from _ _ (lt-ltb 0 (length b) all.0.0) (le-leb (length b) 65536 all.0.1))) (no_bad_block group all.1)

few_blocks : (n : ℕ) → 1 ≤ n → n ≤ 64 → ((n == 0) || nat_lt 64 n) ≡ false
few_blocks n some few = or_from _ _ (ne_eqb n 0 (λ none. absurd (omega (arith, some, none)))) (le-ltb 64 n few)

-- by an Append to the primary, under the fence
append_written : (n e : ℕ) (content : Content) (group : Group) → (n == content.places.primary) ≡ true →
    is_open content.phase ≡ true → nat_lt (text_length content.groups) content.target ≡ true → IsGroup group →
    WritesAt n (Some content) (records.Append e (text_length content.groups) group)
append_written n e content group primary live room is =
    let sent : Packet = packet (Server 1) (Node n) (bodies.Append (Append e content.fence group NoRequest)) in
    record {
      sent = sent;
      another = λ same. absurd cc;
      about = refl;
      written = unrefused (records.Append e (text_length content.groups) group) (Some (fresh content)) (Node n) sent NoRequest
          (append_refusal n (fresh content) sent content.fence group) (append_taken n (fresh content) sent e group NoRequest)
          (unmet (append_tests n (fresh content) sent content.fence group) (
            ap not primary,
            (
              ap not live,
              (
                not_below content.fence,
                (
                  few_blocks (length group) is.0 is.1,
                  (
                    no_bad_block group is.2,
                    (lt-leb content.target (text_length content.groups) (ltb-true _ _ room), (refl, tt)),
                  ),
                ),
              ),
            ),
          ))
          refl;
    }

-- by a Put of the primary
put_written : (n e : ℕ) (content : Content) (group : Group) → (n == content.places.primary) ≡ false →
    is_open content.phase ≡ true → nat_lt (text_length content.groups) content.target ≡ true →
    WritesAt n (Some content) (records.Append e (text_length content.groups) group)
put_written n e content group secondary live room =
    let end = text_length content.groups in
    let r = fresh content in
    let sent : Packet = packet (Node content.places.primary) (Node n) (bodies.Append (Put e end group)) in
    record {
      sent = sent;
      another = other_node content.places.primary n (λ same. eqb-false _ _ secondary (sym same));
      about = refl;
      written = if_so (Writes (records.Append e end group)) (is_node content.places.primary sent.from) _ (silent (Some r)) (itself content.places.primary)
          (unrefused (records.Append e end group) (Some r) (Node n) sent NoRequest (put_refusal r) (put_taken n r e end group) (unmet (put_tests r) (ap not live, tt))
          (if_so (Writes (records.Append e end group)) (put_fits r end) (put_added n r e end group) (put_passed n r e) (and_from _ _ (itself end) room) refl));
    }

-- ---- Fence

not_lower : (fence generation : ℕ) → nat_lt fence generation ≡ true → nat_lt generation fence ≡ false
not_lower fence generation higher = le-ltb generation fence (omega (arith, ltb-true _ _ higher))

raise_is_written : (e : ℕ) (content : Content) (generation : ℕ) → nat_lt content.fence generation ≡ true → raise_written e content generation ≡ Some (records.Fence e generation)
raise_is_written e content generation higher = if_so (λ (o : Option Record). o ≡ Some (records.Fence e generation)) (nat_lt content.fence generation) _ _ higher refl

-- by a Check at the primary
check_written : (n e generation : ℕ) (content : Content) → (n == content.places.primary) ≡ true → is_open content.phase ≡ true → nat_lt content.fence generation ≡ true →
    WritesAt n (Some content) (records.Fence e generation)
check_written n e generation content primary live higher =
    let r = fresh content in
    let sent : Packet = packet (Server 1) (Node n) (bodies.Check (Check e generation NoRequest)) in
    record {
      sent = sent;
      another = λ same. absurd cc;
      about = refl;
      written = unrefused (records.Fence e generation) (Some r) (Node n) sent NoRequest (check_refusal n r generation) (check_taken n r sent e generation NoRequest)
          (unmet (check_tests n r generation) (ap not primary, (not_lower content.fence generation higher, tt)))
          (if_so (Writes (records.Fence e generation)) (is_open content.phase) (check_begun n r sent e generation NoRequest) _ live (raise_is_written e content generation higher));
    }

-- by a Probe of the primary
probe_written : (n e generation : ℕ) (content : Content) → (n == content.places.primary) ≡ false → is_open content.phase ≡ true → nat_lt content.fence generation ≡ true →
    WritesAt n (Some content) (records.Fence e generation)
probe_written n e generation content secondary live higher =
    let r = fresh content in
    let sent : Packet = packet (Node content.places.primary) (Node n) (bodies.Check (Probe e generation)) in
    record {
      sent = sent;
      another = other_node content.places.primary n (λ same. eqb-false _ _ secondary (sym same));
      about = refl;
      written = if_so (Writes (records.Fence e generation)) (is_node content.places.primary sent.from) _ (silent (Some r)) (itself content.places.primary)
          (unrefused (records.Fence e generation) (Some r) (Node n) sent NoRequest (probe_refusal r generation) (probe_taken n r e generation)
          (unmet (probe_tests r generation) (ap not live, (not_lower content.fence generation higher, tt)))
          (raise_is_written e content generation higher));
    }

-- ---- Freeze and Seal

freeze_written : (n e : ℕ) (content : Content) → is_open content.phase ≡ true → WritesAt n (Some content) (records.Freeze e)
freeze_written n e content live =
    record {
      sent = packet Manager (Node n) (bodies.Seal (Freeze e));
      another = λ same. absurd cc;
      about = refl;
      written = freezes_written content.phase live;
    }
  where
    freezes_written : (phase : Phase) → is_open phase ≡ true → Writes (records.Freeze e) (freezes n (fresh content) e phase)
    freezes_written phases.Open live = refl
    freezes_written phases.Frozen live = absurd cc
    freezes_written phases.Sealed live = absurd cc

end_within : (upto : ℕ) (b : Bool) → (upto == 0) ≡ b → is_boundary (if b then Some [] else None) ≡ true → upto ≤ 0
end_within upto true none found = omega (arith, eqb-true upto 0 none)
end_within upto false none found = absurd cc

more_within : (upto : ℕ) (g : Group) (gs : List Group) (none fits : Bool) (found : Option (List Group)) → (upto == 0) ≡ none → nat_le (size g) upto ≡ fits →
    (is_boundary found ≡ true → upto - size g ≤ text_length gs) → is_boundary (if none then Some [] else if fits then after_group g found else None) ≡ true → upto ≤ text_length (g ∷ gs)
more_within upto g gs true fits found none fit rest is = omega (arith, eqb-true upto 0 none)
more_within upto g gs false true None none fit rest is = absurd cc
more_within upto g gs false true (Some found) none fit rest is = omega (arith, rest refl, leb-true _ _ fit, length-append (joined g) (text gs))
more_within upto g gs false false found none fit rest is = absurd cc

-- a boundary is no further than the end
boundary_within : (upto : ℕ) (gs : List Group) → is_boundary (groups_to upto gs) ≡ true → upto ≤ text_length gs
boundary_within upto [] found = end_within upto (upto == 0) refl found
boundary_within upto (g ∷ gs) found =
    more_within upto g gs (upto == 0) (nat_le (size g) upto) (groups_to (upto - size g) gs) refl refl (boundary_within (upto - size g) gs) found

seal_written : (n e length : ℕ) (content : Content) → is_sealed content.phase ≡ false → is_boundary (groups_to length content.groups) ≡ true → WritesAt n (Some content) (records.Seal e length)
seal_written n e length content unsealed boundary =
    let r = fresh content in
    let sent : Packet = packet Manager (Node n) (bodies.Seal (Seal e length)) in
    record {
      sent = sent;
      another = λ same. absurd cc;
      about = refl;
      written = if_not (Writes (records.Seal e length)) (is_sealed content.phase) (seals_again n r sent e length) _ unsealed
          (if_not (Writes (records.Seal e length)) (nat_lt (text_length content.groups) length) (shorts n r e content.phase) _
          (le-ltb (text_length content.groups) length (boundary_within length content.groups boundary))
          (cuts_written r sent (groups_to length content.groups) boundary));
    }
  where
    cuts_written : (r : Replica) (p : Packet) (found : Option (List Group)) → is_boundary found ≡ true → Writes (records.Seal e length) (cuts n r p e length found)
    cuts_written r p None boundary = absurd cc
    cuts_written r p (Some groups) boundary = refl

-- ---- Fill

-- a place that is another node
abbrev other_place : ℕ → Nodes → ℕ
other_place n places = if n == places.primary then places.second else places.primary

others_place : (n : ℕ) (places : Nodes) → are_nodes places ≡ true → (other_place n places ≢ n) × (is_one_of places (Node (other_place n places)) ≡ true)
others_place n places are = by (n == places.primary) refl
  where
    by : (b : Bool) → (n == places.primary) ≡ b → let other = if b then places.second else places.primary in (other ≢ n) × (is_one_of places (Node other) ≡ true)
    by true is = (
      (λ same. (nodes_sound places are).distinct.0 (sym (eqb-true n places.primary is) ∙ sym same)),
      or_right (places.second == places.primary) ((places.second == places.second) || (places.second == places.third)) (or_left (places.second == places.second) (places.second == places.third) (itself places.second)),
    )
    by false is = (
      (λ same. eqb-false n places.primary is (sym same)),
      or_left (places.primary == places.primary) ((places.primary == places.second) || (places.primary == places.third)) (itself places.primary),
    )

fill_written : (n e from length : ℕ) (groups : List Group) (content : Content) → are_nodes content.places ≡ true → is_frozen content.phase ≡ true → is_tail content from length groups ≡ true →
    WritesAt n (Some content) (records.Fill e from length groups)
fill_written n e from length groups content are ended tail =
    let other = others_place n content.places are in
    let r = fresh content in
    let sent : Packet = packet (Node (other_place n content.places)) (Node n) (bodies.Seal (Tail e from length groups)) in
    record {
      sent = sent;
      another = other_node (other_place n content.places) n other.0;
      about = refl;
      written = if_so (Writes (records.Fill e from length groups)) (tail_fits r sent.from from length groups) (tail_taken n r e from length groups) (silent (Some r))
          (and_from _ _ other.1 (and_from _ _ ended tail)) refl;
    }

-- ---- all records

-- a replica that records make stands at three different nodes
abbrev HasNodes : Option Content → Type 0
HasNodes None = Unit {0}
HasNodes (Some content) = are_nodes content.places ≡ true

by_role : (n : ℕ) (content : Content) (r : Record) → ((n == content.places.primary) ≡ true → WritesAt n (Some content) r) → ((n == content.places.primary) ≡ false → WritesAt n (Some content) r) → WritesAt n (Some content) r
by_role n content r primary secondary =
    elim (n == content.places.primary) as (λ b. (n == content.places.primary) ≡ b → WritesAt n (Some content) r) [ true ↦ primary | false ↦ secondary ] refl

record_written : (n : ℕ) (content : Option Content) (r : Record) → HasNodes content → IsInRange r → fits n content r ≡ true → WritesAt n content r
record_written n None (records.Make e fence target places) are range fit = make_written n e fence target places fit
record_written n None r are range fit = absurd cc
record_written n (Some content) (records.Append e offset group) are range fit =
    let parts = and_parts (is_open content.phase) _ fit in
    let more = and_parts (offset == text_length content.groups) _ parts.1 in
    subst (λ (k : ℕ). WritesAt n (Some content) (records.Append e k group)) (sym (eqb-true _ _ more.0))
    (by_role n content (records.Append e (text_length content.groups) group)
    (λ primary. append_written n e content group primary parts.0 more.1 range.2)
    (λ secondary. put_written n e content group secondary parts.0 more.1))
record_written n (Some content) (records.Fence e generation) are range fit =
    let parts = and_parts (is_open content.phase) _ fit in
    by_role n content (records.Fence e generation)
    (λ primary. check_written n e generation content primary parts.0 parts.1)
    (λ secondary. probe_written n e generation content secondary parts.0 parts.1)
record_written n (Some content) (records.Freeze e) are range fit = freeze_written n e content fit
record_written n (Some content) (records.Seal e length) are range fit =
    let parts = and_parts (not (is_sealed content.phase)) _ fit in
    seal_written n e length content (not-true _ parts.0) parts.1
record_written n (Some content) (records.Fill e from length groups) are range fit =
    let parts = and_parts (is_frozen content.phase) _ fit in
    fill_written n e from length groups content are parts.0 parts.1
record_written n (Some content) r are range fit = absurd cc

-- ---- lists of records

nodes_kept : (n : ℕ) (content : Option Content) (r : Record) → HasNodes content → fits n content r ≡ true → HasNodes (applied content r)
nodes_kept n None (records.Make e fence target places) are fit = (and_parts (are_nodes places) _ (and_parts (is_place n places) _ fit).1).0
nodes_kept n None r are fit = absurd cc
nodes_kept n (Some content) (records.Append e offset group) are fit = are
nodes_kept n (Some content) (records.Fence e generation) are fit = are
nodes_kept n (Some content) (records.Freeze e) are fit = are
nodes_kept n (Some content) (records.Seal e length) are fit = cut (groups_to length content.groups)
  where
    cut : (found : Option (List Group)) → are_nodes (replays.cut_to content found).places ≡ true
    cut None = are
    cut (Some groups) = are
nodes_kept n (Some content) (records.Fill e from length groups) are fit = are
nodes_kept n (Some content) r are fit = are

nodes_after : (n e : ℕ) (before rs more : List Record) → HasNodes (replay e before) → fit_after n before (rs ++ more) ≡ true → HasNodes (replay e (before ++ rs))
nodes_after n e before [] more are all = subst (λ (l : List Record). HasNodes (replay e l)) (sym (append-nil before)) are
nodes_after n e before (r ∷ rs) more are all =
    let parts = and_parts (fits_at n before r (replays.extent_of r)) _ all in
    subst (λ (l : List Record). HasNodes (replay e l)) (append_assoc before (r ∷ []) rs)
    (nodes_after n e (before ++ r ∷ []) rs more (one_more (replays.extent_of r) refl parts.0) parts.1)
  where
    one_more : (o : Option ℕ) → replays.extent_of r ≡ o → fits_at n before r o ≡ true → HasNodes (replay e (before ++ r ∷ []))
    one_more None about fitting = absurd cc
    one_more (Some f) about fitting =
        elim (cases_eq e f) [
          | inl same ↦
              let here : replays.extent_of r ≡ Some e = about ∙ ap (λ (k : ℕ). Some k) (sym same) in
              let fit_here : fits n (replay e before) r ≡ true = subst (λ (k : ℕ). fits n (replay k before) r ≡ true) (sym same) fitting in
              subst HasNodes (sym (replay-here e before r here)) (nodes_kept n (replay e before) r are fit_here)
          | inr apart ↦ subst HasNodes (sym (replay-elsewhere e f before r about apart)) are
        ]

node_writes_about : (n : ℕ) (before : List Record) (r : Record) (o : Option ℕ) → replays.extent_of r ≡ o → ((e : ℕ) → HasNodes (replay e before)) → IsInRange r → fits_at n before r o ≡ true → NodeWrites n before r
node_writes_about n before r None about are range fits = absurd cc
node_writes_about n before r (Some e) about are range fits =
    let at = record_written n (replay e before) r (are e) range fits in
    record {
      sent = at.sent;
      another = at.another;
      written = subst (λ (k : ℕ). Writes r (node_rule n (fresh_of (replay k before)) at.sent at.sent.body)) (some_is e (extent_of at.sent.body) (sym about ∙ at.about)) at.written;
    }

pub node_writes : (n : ℕ) (before after : List Record) (r : Record) → fit n (before ++ r ∷ after) ≡ true → IsInRange r → NodeWrites n before r
node_writes n before after r fits range =
    node_writes_about n before r (replays.extent_of r) refl (λ e. nodes_after n e [] before (r ∷ after) tt fits) range (fit-at n [] before after r fits)
