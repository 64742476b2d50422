-- The rules of the reads keep what is known: what is shown is of the script.
use Rattle.std.proofs.Common.{◌≡◌, ℕ, ◌+◌, ◌-◌, ◌≤◌, Bool, true, ◌&&◌, ◌==◌, nat_le, List, [], ◌∷◌, Option, Some, None, refl, sym, ◌∙◌, arith, subst, ap}
use Rattle.std.proofs.lemmas.Bool.{ltb-false, leb-true, eqb-true, and_parts}
use Rattle.block_types.specs.declared.record.Nodes.{Nodes}
use Rattle.wire.specs.declared.actor.ReqNo.{ReqNo}
use Rattle.wire.specs.declared.note.Note.{Note}
use Rattle.wire.specs.declared.note.Note.TheVariants.{Acked, Content, Seen}
use Rattle.wire.specs.declared.packet.Packet.{Packet}
use Rattle.replica.specs.declared.phase.Phase.{Phase}
use Rattle.replica.specs.declared.phase.Phase.TheVariants as phases
use Rattle.replica.specs.Groups.{Group, text, size, text_length}
use Rattle.replica.specs.Reading.{bytes_at, after_group, groups_to}
use Rattle.replica.proofs.Lengths.{text-append}
use Rattle.replica.proofs.Placing.{length-cons}
use Rattle.model_streams.specs.Honest.{Apart}
use Rattle.model_streams.specs.Node.{Replica, is_sealed, read_tests, read_refusal, read_taken, read_rule, groups_note, groups_shown, groups_taken, groups_refusal, groups_rule}
use Rattle.model_streams.proofs.Tests.{if_elim, none_met}
use Rattle.laws_streams.specs.Origins.{Begins, Shows}
use Rattle.laws_streams.proofs.Lists.{begins_refl, begins_trans, shows_on, shows_part, shows_within}
use Rattle.laws_streams.proofs.Choices.{Each}
use Rattle.laws_streams.proofs.Ground.{Ground, Sound, FineNote, FinePhase, FineOne}
use Rattle.laws_streams.proofs.RestsOnGround.{Moment}
use Rattle.laws_streams.proofs.RuleInvariant.{Keeps, each_all, plain, sent, unless_refused}

apart_seen : (e n o : ℕ) (bytes : List ℕ) (x : Note) → Each (Apart x) (Seen e n o bytes ∷ [])
apart_seen e n o bytes (Acked f p group) = (tt, tt)
apart_seen e n o bytes x = (tt, tt)

apart_content : (e n : ℕ) (groups : List Group) (x : Note) → Each (Apart x) (Content e n groups ∷ [])
apart_content e n groups (Acked f p group) = (tt, tt)
apart_content e n groups x = (tt, tt)

shows_script : {c s : List Group} {o : ℕ} {bytes : List ℕ} → Begins c s → Shows o bytes (text c) → Shows o bytes (text s)
shows_script {c} {s} b h = rw (b.is, text-append c b.rest) (shows_on h (text b.rest))

pub read_keeps : (now : Moment) (g : Ground) (n e offset length : ℕ) (r : Replica) (p : Packet) (q : ReqNo) → Sound g → FineOne g n e r →
    Keeps now g n e (read_rule n r p e offset length q)
read_keeps now g n e offset length r p q sound fine =
    unless_refused now g n e (Some r) p q (read_refusal r offset length) (read_taken n r p e offset length q) sound fine
    (λ none.
    let fits = ltb-false (text_length r.content.groups) (offset + length) (none_met (read_tests r offset length) none).0 in
    plain now g n e (read_taken n r p e offset length q) sound fine (tt, tt) (shows_script fine.begins (shows_part offset length (text r.content.groups) fits), tt)
    (tt, tt) (each_all _ (λ x. apart_seen e n offset (bytes_at offset length r.content.groups) x) now.told))

pub record FinePrefix (upto : ℕ) (c groups : List Group) : Type 0 where
  pub begins : Begins c groups
  pub length : text_length c ≡ upto

prefix_more : (upto : ℕ) (x : Group) (xs c : List Group) → size x ≤ upto → (found : Option (List Group)) →
    ((d : List Group) → found ≡ Some d → FinePrefix (upto - size x) d xs) →
    after_group x found ≡ Some c → FinePrefix upto c (x ∷ xs)
prefix_more upto x xs c fits None each k = absurd (cc)
prefix_more upto x xs c fits (Some d) each k =
    let f = each d refl in
    let s : x ∷ d ≡ c = cc in
    subst (λ z. FinePrefix upto z (x ∷ xs)) s
    (record { begins = record { rest = f.begins.rest; is = ap (λ z. x ∷ z) f.begins.is }; length = omega (arith, length-cons x d, f.length) })

pub prefix_fine : (upto : ℕ) (groups c : List Group) → groups_to upto groups ≡ Some c → FinePrefix upto c groups
prefix_fine upto [] c is =
    if_elim (λ x. x ≡ Some c → FinePrefix upto c []) (upto == 0) (Some []) None
    (λ t k. let s : [] ≡ c = cc in subst (λ x. FinePrefix upto x []) s (record { begins = begins_refl []; length = sym (eqb-true upto 0 t) }))
    (λ f k. absurd (cc)) is
prefix_fine upto (x ∷ xs) c is =
    if_elim (λ y. y ≡ Some c → FinePrefix upto c (x ∷ xs)) (upto == 0) (Some []) _
    (λ t k. let s : [] ≡ c = cc in
    subst (λ z. FinePrefix upto z (x ∷ xs)) s (record { begins = record { rest = x ∷ xs; is = refl }; length = sym (eqb-true upto 0 t) }))
    (λ f. if_elim (λ y. y ≡ Some c → FinePrefix upto c (x ∷ xs)) (nat_le (size x) upto) _ None
    (λ t k. prefix_more upto x xs c (leb-true (size x) upto t) (groups_to (upto - size x) xs) (λ d. prefix_fine (upto - size x) xs d) k)
    (λ _ k. absurd (cc))) is

pub sealed_length : (g : Ground) (n e : ℕ) (at : Nodes) (groups : List Group) (phase : Phase) → is_sealed phase ≡ true → FinePhase g n e at groups phase → g.sealed e ≡ Some (text_length groups)
sealed_length g n e at groups phases.Open t f = absurd (cc)
sealed_length g n e at groups phases.Frozen t f = absurd (cc)
sealed_length g n e at groups phases.Sealed t f = f.1

note_fine : (g : Ground) (n e upto : ℕ) (r : Replica) (c : List Group) → FineOne g n e r → FinePrefix upto c r.content.groups → FineNote g (groups_note n r e upto c)
note_fine g n e upto r c fine f =
    let b : Begins c (g.script e) = begins_trans f.begins fine.begins in
    if_elim (FineNote g) (is_sealed r.content.phase && (upto == text_length r.content.groups)) (Content e n c) (Seen e n 0 (text c))
    (λ t.
    let k = and_parts (is_sealed r.content.phase) (upto == text_length r.content.groups) t in
    let l : upto ≡ text_length r.content.groups = eqb-true upto (text_length r.content.groups) k.1 in
    record { begins = b; sealed = rw (f.length ∙ l) (sealed_length g n e r.content.places r.content.groups r.content.phase k.0 fine.phase) })
    (λ no. rw (b.is, text-append c b.rest) (shows_within [] (text c) (text b.rest)))

apart_note : (n e upto : ℕ) (r : Replica) (c : List Group) (x : Note) → Each (Apart x) (groups_note n r e upto c ∷ [])
apart_note n e upto r c x =
    if_elim (λ y. Each (Apart x) (y ∷ [])) (is_sealed r.content.phase && (upto == text_length r.content.groups)) (Content e n c) (Seen e n 0 (text c))
    (λ t. apart_content e n c x) (λ f. apart_seen e n 0 (text c) x)

groups_taken_keep : (now : Moment) (g : Ground) (n e upto : ℕ) (r : Replica) (p : Packet) (q : ReqNo) → Sound g → FineOne g n e r →
    (found : Option (List Group)) → groups_to upto r.content.groups ≡ found → Keeps now g n e (groups_taken n r p e upto q found)
groups_taken_keep now g n e upto r p q sound fine None is = sent now g n e (Some r) _ sound fine (tt, tt)
groups_taken_keep now g n e upto r p q sound fine (Some c) is =
    plain now g n e (groups_shown n r p e upto q c) sound fine (tt, tt)
    (note_fine g n e upto r c fine (prefix_fine upto r.content.groups c is), tt)
    (tt, tt) (each_all _ (λ x. apart_note n e upto r c x) now.told)

pub groups_keep : (now : Moment) (g : Ground) (n e upto : ℕ) (sealed : Bool) (r : Replica) (p : Packet) (q : ReqNo) → Sound g → FineOne g n e r →
    Keeps now g n e (groups_rule n r p e upto sealed q)
groups_keep now g n e upto sealed r p q sound fine =
    unless_refused now g n e (Some r) p q (groups_refusal r sealed) (groups_taken n r p e upto q (groups_to upto r.content.groups)) sound fine
    (λ none. groups_taken_keep now g n e upto r p q sound fine (groups_to upto r.content.groups) refl)
