-- The rules of Freeze, Seal, SendTail and Tail keep what is known.
use Rattle.std.proofs.Common.{◌≡◌, ℕ, true, ◌&&◌, not, ◌==◌, nat_lt, nat_le, ◌+◌, List, [], ◌∷◌, ◌++◌, length, drop, Option, Some, None, refl, sym, ◌∙◌, inl, arith, ap, append_assoc}
use Rattle.std.proofs.lemmas.Bool.{not-false, eqb-true, and_parts}
use Rattle.block_types.specs.declared.record.Record.{Record}
use Rattle.block_types.specs.declared.record.Record.TheVariants as records
use Rattle.wire.specs.declared.actor.ActorId.TheVariants.{Node, Manager}
use Rattle.wire.specs.declared.actor.ReqNo.TheVariants.{NoRequest}
use Rattle.wire.specs.declared.body.SealBody.TheVariants.{Frozen}
use Rattle.wire.specs.declared.body.Body.TheVariants as bodies
use Rattle.wire.specs.declared.packet.Packet.{Packet}
use Rattle.replica.specs.declared.phase.Phase.{Phase}
use Rattle.replica.specs.declared.phase.Phase.TheVariants as phases
use Rattle.replica.specs.Groups.{Group, text_length}
use Rattle.replica.specs.Reading.{groups_to, groups_from, behind}
use Rattle.replica.specs.Replay.{is_tail, longest}
use Rattle.model_streams.specs.Actors.{is_manager, is_one_of}
use Rattle.model_streams.specs.Maps.{changed_at}
use Rattle.model_streams.specs.Node.{Replica, is_frozen, is_sealed, frozen_at, freezes, freeze_rule, shorts, sealed_at, cuts, seals_again, seals, seal_rule, tail_sent, send_tail_tests, send_tail_refusal, send_tail_rule, tail_fits, tail_taken, tail_rule}
use Rattle.model_streams.specs.Outcome.{packet, silent}
use Rattle.model_streams.proofs.Tests.{if_elim, none_met}
use Rattle.laws_streams.specs.Origins.{Begins}
use Rattle.laws_streams.proofs.Lists.{begins_refl, begins_trans, same_beginning}
use Rattle.laws_streams.proofs.Choices.{changed_at_elim, changed_at-same, changed_at-other, Each}
use Rattle.laws_streams.proofs.Ground.{Ground, Sound, FineTail, FinePacket, FinePhase, FineOne, FineReplica}
use Rattle.laws_streams.proofs.MoreKnown.{no_more, Later}
use Rattle.laws_streams.proofs.RestsOnGround.{Moment, FineRule}
use Rattle.laws_streams.proofs.RuleInvariant.{Keeps, sent, kept_silent, unless_refused, told_nothing, sound_later}
use Rattle.laws_streams.proofs.ReadRules.{prefix_fine, sealed_length}

-- node n takes no more appends
closing : Ground → ℕ → ℕ → Ground
closing g n e = record g { closed = changed_at n e true g.closed }

module _ (g : Ground) (n e : ℕ) (sound : Sound g) where
  closing_later : Later g (closing g n e)
  unfolding closing
  closing_later = record {
    script = λ k. begins_refl (g.script k);
    acked = λ k. omega arith;
    places = λ k at h. h;
    born = λ k at h. refl;
    sealed = λ k l h. h;
    last = λ m k. omega arith;
    origin = λ k. no_more (g.fence k) (g.origin k);
    fence = λ k. omega arith;
    asked = λ p c. c;
    closed = λ m k c. (changed_at_elim (λ x. x ≡ true) n e true g.closed m k (λ p q. refl) (λ o. c), refl);
  }

  closing_sound : Sound (closing g n e)
  unfolding closing
  closing_sound = sound_later g _ sound closing_later (λ k. refl) (λ k. refl) sound.none_empty sound.short sound.whole sound.aged sound.born sound.unmade sound.all_had

  -- a rule that closes the replica and observes nothing
  closes_keep : (now : Moment) (s : Option Replica) (written : Option Record) (packets : List Packet) →
      FineReplica (closing g n e) n e s → Each (FinePacket (closing g n e)) packets →
      FineRule now g (closing g n e) n e (record { after = s; written = written; packets = packets; notes = [] })
  unfolding closing
  closes_keep now s written packets fine sends = record {
    sound = closing_sound;
    later = closing_later;
    still = λ m k other. record { last = refl; closed = changed_at-other n e true g.closed m k other; primary = λ at made i. (refl, refl, refl) };
    grown = λ k. inl (refl, refl);
    replica = fine;
    packets = sends;
    asked = λ p c. inl c;
    notes = tt;
    apart = tt;
    cross = told_nothing now.told;
    places = λ k. refl;
    sealed = λ k. refl;
  }

  closed_here : (closing g n e).closed n e ≡ true
  unfolding closing
  closed_here = changed_at-same n e true g.closed

  -- an open replica freezes
  frozen_fine : (r : Replica) → FineOne g n e r → g.last n e ≡ text_length r.content.groups → FineOne (closing g n e) n e (frozen_at r)
  unfolding closing
  frozen_fine r f last = record {
    places = f.places;
    begins = f.begins;
    phase = (closed_here, last);
    second_has = omega arith;
    third_has = omega arith;
    waiting = λ i. tt;
    waits = tt;
    target = f.target;
    fence = f.fence;
    born = f.born;
    check = tt;
  }

  -- a replica is sealed with these groups
  sealed_fine : (r : Replica) (c : List Group) → FineOne g n e r → Begins c (g.script e) → g.sealed e ≡ Some (text_length c) →
      FineOne (closing g n e) n e (sealed_at r c)
  unfolding closing
  sealed_fine r c f begins length = record {
    places = f.places;
    begins = begins;
    phase = (closed_here, length);
    second_has = omega arith;
    third_has = omega arith;
    waiting = λ i. tt;
    waits = tt;
    target = f.target;
    fence = f.fence;
    born = f.born;
    check = tt;
  }

  -- what a node that froze tells
  frozen_told : (l : ℕ) → g.last n e ≡ l → FinePacket (closing g n e) (packet (Node n) Manager (bodies.Seal (Frozen e l)))
  unfolding closing
  frozen_told l last = λ m i. let c : n ≡ m = eqb-true n m i in rw (← c) (closed_here, last)

-- ---- Freeze

pub freeze_keeps : (now : Moment) (g : Ground) (n e : ℕ) (r : Replica) (p : Packet) → Sound g → FineOne g n e r →
    Keeps now g n e (freeze_rule n r p e)
freeze_keeps now g n e r p sound fine =
    if_elim (Keeps now g n e) (is_manager p.from) (freezes n r e r.content.phase) (silent (Some r))
    (λ t. by_phase r.content.phase fine.phase) (λ f. kept_silent now g n e (Some r) sound fine)
  where
    by_phase : (phase : Phase) → FinePhase g n e r.content.places r.content.groups phase → Keeps now g n e (freezes n r e phase)
    by_phase phases.Open f = (
      closing g n e,
      closes_keep g n e sound now (Some (frozen_at r)) (Some (records.Freeze e)) _ (frozen_fine g n e sound r fine f.1)
          (frozen_told g n e sound _ f.1, tt),
    )
    by_phase phases.Frozen f = sent now g n e (Some r) _ sound fine ((λ m i. let c : n ≡ m = eqb-true n m i in rw (← c) f), tt)
    by_phase phases.Sealed f = sent now g n e (Some r) _ sound fine (tt, tt)

-- ---- Seal

shorts_keep : (now : Moment) (g : Ground) (n e : ℕ) (r : Replica) → Sound g → FineOne g n e r →
    (phase : Phase) → FinePhase g n e r.content.places r.content.groups phase → Keeps now g n e (shorts n r e phase)
shorts_keep now g n e r sound fine phases.Open f =
    (closing g n e, closes_keep g n e sound now (Some (frozen_at r)) (Some (records.Freeze e)) _ (frozen_fine g n e sound r fine f.1) (tt, tt))
shorts_keep now g n e r sound fine phases.Frozen f = sent now g n e (Some r) _ sound fine (tt, tt)
shorts_keep now g n e r sound fine phases.Sealed f = sent now g n e (Some r) _ sound fine (tt, tt)

cuts_keep : (now : Moment) (g : Ground) (n e l : ℕ) (r : Replica) (p : Packet) → Sound g → FineOne g n e r → g.sealed e ≡ Some l →
    (found : Option (List Group)) → groups_to l r.content.groups ≡ found → Keeps now g n e (cuts n r p e l found)
cuts_keep now g n e l r p sound fine sealed None is = sent now g n e (Some r) _ sound fine (tt, tt)
cuts_keep now g n e l r p sound fine sealed (Some c) is =
    let f = prefix_fine l r.content.groups c is in (
      closing g n e,
      closes_keep g n e sound now (Some (sealed_at r c)) (Some (records.Seal e l)) _
          (sealed_fine g n e sound r c fine (begins_trans f.begins fine.begins) (rw f.length sealed)) (tt, tt),
    )

seals_keep : (now : Moment) (g : Ground) (n e l : ℕ) (r : Replica) (p : Packet) → Sound g → FineOne g n e r → g.sealed e ≡ Some l →
    Keeps now g n e (seals n r p e l)
seals_keep now g n e l r p sound fine sealed =
    if_elim (Keeps now g n e) (is_sealed r.content.phase) (seals_again n r p e l) _
    (λ s. if_elim (Keeps now g n e) (text_length r.content.groups == l) _ _ (λ _. sent now g n e (Some r) _ sound fine (tt, tt)) (λ _. sent now g n e (Some r) _ sound fine (tt, tt)))
    (λ o. if_elim (Keeps now g n e) (nat_lt (text_length r.content.groups) l) (shorts n r e r.content.phase) (cuts n r p e l (groups_to l r.content.groups))
    (λ _. shorts_keep now g n e r sound fine r.content.phase fine.phase)
    (λ _. cuts_keep now g n e l r p sound fine sealed (groups_to l r.content.groups) refl))

pub seal_keeps : (now : Moment) (g : Ground) (n e l : ℕ) (r : Replica) (p : Packet) → Sound g → FineOne g n e r → g.sealed e ≡ Some l →
    Keeps now g n e (seal_rule n r p e l)
seal_keeps now g n e l r p sound fine sealed =
    if_elim (Keeps now g n e) (is_manager p.from) (seals n r p e l) (silent (Some r))
    (λ t. seals_keep now g n e l r p sound fine sealed) (λ f. kept_silent now g n e (Some r) sound fine)

-- ---- SendTail

drop_length : (xs ys : List Group) → drop (length xs) (xs ++ ys) ≡ ys
drop_length [] ys = refl
drop_length (x ∷ xs) ys = drop_length xs ys

begins_drop : {c s : List Group} → Begins c s → c ++ drop (length c) s ≡ s
begins_drop {c} {s} b = rw (b.is, drop_length c b.rest) refl

tail_kept : (now : Moment) (g : Ground) (n e from to : ℕ) (r : Replica) (p : Packet) → Sound g → FineOne g n e r → is_sealed r.content.phase ≡ true →
    (found : Option (List Group)) → groups_to from r.content.groups ≡ found → Keeps now g n e (tail_sent n r p e from to (behind r.content.groups found))
tail_kept now g n e from to r p sound fine sealed None is = sent now g n e (Some r) _ sound fine (tt, tt)
tail_kept now g n e from to r p sound fine sealed (Some c) is =
    let f = prefix_fine from r.content.groups c is in
    let whole : c ++ drop (length c) r.content.groups ≡ r.content.groups = begins_drop f.begins in
    sent now g n e (Some r) _ sound fine (
      record {
        sealed = sealed_length g n e r.content.places r.content.groups r.content.phase sealed fine.phase;
        before = c;
        begins = rw whole fine.begins;
        start = f.length;
        end = ap text_length whole;
      },
      tt,
    )

pub send_tail_keeps : (now : Moment) (g : Ground) (n e from to : ℕ) (r : Replica) (p : Packet) → Sound g → FineOne g n e r →
    Keeps now g n e (send_tail_rule n r p e from to)
send_tail_keeps now g n e from to r p sound fine =
    if_elim (Keeps now g n e) (is_manager p.from) _ (silent (Some r))
    (λ t. unless_refused now g n e (Some r) p NoRequest (send_tail_refusal r) (tail_sent n r p e from to (groups_from from r.content.groups)) sound fine
    (λ none. tail_kept now g n e from to r p sound fine (not-false _ (none_met (send_tail_tests r) none).0) (groups_to from r.content.groups) refl))
    (λ f. kept_silent now g n e (Some r) sound fine)

-- ---- Tail

-- groups from the end of this replica on
is_at_end : (r : Replica) (from l : ℕ) (groups : List Group) → is_tail r.content from l groups ≡ true → from ≡ text_length r.content.groups
is_at_end r from l groups t =
    eqb-true from (text_length r.content.groups)
    (and_parts (from == text_length r.content.groups) (nat_le l longest && (text_length r.content.groups + text_length groups == l))
    (and_parts (not (length groups == 0)) _ t).1).0

pub tail_keeps : (now : Moment) (g : Ground) (n e from l : ℕ) (groups : List Group) (r : Replica) (p : Packet) → Sound g → FineOne g n e r →
    FineTail g e from l groups → Keeps now g n e (tail_rule n r p e from l groups)
tail_keeps now g n e from l groups r p sound fine tail =
    if_elim (Keeps now g n e) (tail_fits r p.from from l groups) (tail_taken n r e from l groups) (silent (Some r))
    (λ t.
    let fits = and_parts (is_one_of r.content.places p.from) (is_frozen r.content.phase && is_tail r.content from l groups) t in
    let here = is_at_end r from l groups (and_parts (is_frozen r.content.phase) (is_tail r.content from l groups) fits.1).1 in
    let same : r.content.groups ≡ tail.before =
    same_beginning r.content.groups tail.before fine.begins.rest (groups ++ tail.begins.rest)
    (sym fine.begins.is ∙ (tail.begins.is ∙ append_assoc tail.before groups tail.begins.rest))
    (rw (← fine.begins.is) (sound.none_empty e)) (sym here ∙ sym tail.start) in (
      closing g n e,
      closes_keep g n e sound now (Some (sealed_at r (r.content.groups ++ groups))) (Some (records.Fill e from l groups)) _
          (sealed_fine g n e sound r (r.content.groups ++ groups) fine (rw same tail.begins) (rw (same, tail.end) tail.sealed)) (tt, tt),
    ))
    (λ f. kept_silent now g n e (Some r) sound fine)
