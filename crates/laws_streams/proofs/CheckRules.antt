-- The rules of Check, Probe and Probed keep what is known: a check is answered once all three places told one length.
use Rattle.std.proofs.Common.{◌≡◌, ◌≢◌, ◌⊎◌, ℕ, ◌≤◌, true, ◌&&◌, ◌==◌, nat_lt, [], ◌∷◌, ◌++◌, Option, Some, None, Contains, refl, sym, ◌∙◌, inl, inr, arith, ap, subst, append-nil}
use Rattle.std.proofs.lemmas.Bool.{ltb-true, ltb-false, not-false, eqb-true, and_parts}
use Rattle.block_types.specs.declared.record.Nodes.{Nodes}
use Rattle.wire.specs.declared.actor.ActorId.TheVariants.{Node}
use Rattle.wire.specs.declared.actor.ReqNo.{ReqNo}
use Rattle.wire.specs.declared.actor.ReqNo.TheVariants.{NoRequest}
use Rattle.wire.specs.declared.body.CheckBody.TheVariants.{Check, Probed, Checked}
use Rattle.wire.specs.declared.body.Body.TheVariants as bodies
use Rattle.wire.specs.declared.packet.Packet.{Packet}
use Rattle.replica.specs.Groups.{text_length}
use Rattle.replica.specs.Content.{fenced}
use Rattle.model_streams.specs.declared.checking.Checking.{Checking}
use Rattle.model_streams.specs.Actors.{is_node, generation_of}
use Rattle.model_streams.specs.Maps.{changed}
use Rattle.model_streams.specs.Node.{Replica, is_open, check_tests, check_refusal, raised, check_begun, checked_as, check_taken, check_rule, probe_tests, probe_refusal, probe_taken, probe_rule, with_probed, common_length, settled, probed_by, probed_for, probed_rule}
use Rattle.model_streams.specs.Outcome.{silent, or_refused}
use Rattle.model_streams.proofs.Tests.{if_elim, none_met}
use Rattle.laws_streams.proofs.Lists.{begins_refl}
use Rattle.laws_streams.proofs.Choices.{changed_elim, changed-same, contains_left, contains_pushed, contains_last}
use Rattle.laws_streams.proofs.Ground.{Ground, Sound, FineCheckBody, FineCover, AtMost, FineChecking, FineCheck, FineOne}
use Rattle.laws_streams.proofs.MoreKnown.{no_more, Later, Still, replica_later, waits_later}
use Rattle.laws_streams.proofs.RestsOnGround.{Moment}
use Rattle.laws_streams.proofs.RuleInvariant.{packet_is, Keeps, plain, sent, kept_silent, unless_refused, told_nothing, open_phase, sound_later}

-- ---- Check

-- a replica that listens to no generation below k, with a check that is fine at each such fence
raised_fine : (g : Ground) (n e k : ℕ) (r : Replica) (c : Option Checking) → FineOne g n e r →
    ((fence : ℕ) → r.content.fence ≤ fence → k ≤ fence → FineCheck g n e r.content.places fence c) →
    FineOne g n e (record r { content = raised r.content k; check = c })
raised_fine g n e k r c fine check =
    if_elim (λ x. FineOne g n e (record r { content = x; check = c })) (nat_lt r.content.fence k) (fenced r.content k) r.content
    (λ t. let l = ltb-true r.content.fence k t in record {
      places = fine.places;
      begins = fine.begins;
      phase = fine.phase;
      second_has = fine.second_has;
      third_has = fine.third_has;
      waiting = fine.waiting;
      waits = fine.waits;
      target = fine.target;
      fence = λ i. let f = fine.fence i in omega (arith, f, l);
      born = let f = fine.born in omega (arith, f, l);
      check = check k (omega (arith, l)) (omega arith);
    })
    (λ f. let l = ltb-false r.content.fence k f in record {
      places = fine.places;
      begins = fine.begins;
      phase = fine.phase;
      second_has = fine.second_has;
      third_has = fine.third_has;
      waiting = fine.waiting;
      waits = fine.waits;
      target = fine.target;
      fence = fine.fence;
      born = fine.born;
      check = check r.content.fence (omega arith) l;
    })

-- this check was begun
asking : Ground → Packet → Ground
asking g p = record g { asked = g.asked ++ p ∷ [] }

asking_later : (g : Ground) (p : Packet) → Later g (asking g p)
unfolding asking
asking_later g p = record {
  script = λ k. begins_refl (g.script k);
  acked = λ k. omega arith;
  places = λ k at h. h;
  born = λ k at h. refl;
  sealed = λ k l h. h;
  origin = λ k. no_more (g.fence k) (g.origin k);
  fence = λ k. omega arith;
  asked = λ x c. contains_left g.asked (p ∷ []) x c;
  last = λ m k. omega arith;
  closed = λ m k c. (c, refl);
}

asking_still : (g : Ground) (p : Packet) (m k : ℕ) → Still g (asking g p) m k
unfolding asking
asking_still g p m k = record { last = refl; closed = refl; primary = λ at made i. (refl, refl, refl) }

asking_sound : (g : Ground) (p : Packet) → Sound g → Sound (asking g p)
unfolding asking
asking_sound g p sound = sound_later g _ sound (asking_later g p) (λ k. refl) (λ k. refl) sound.none_empty sound.short sound.whole sound.aged sound.born sound.unmade sound.all_had

check_begun_keeps : (now : Moment) (g : Ground) (n e generation : ℕ) (r : Replica) (q : ReqNo) → Sound g → FineOne g n e r → n ≡ r.content.places.primary →
    r.content.fence ≤ generation_of now.packet.from generation → now.packet.to ≡ Node n → now.packet.body ≡ bodies.Check (Check e generation q) →
    Keeps now g n e (check_begun n r now.packet e (generation_of now.packet.from generation) q)
unfolding asking
check_begun_keeps now g n e generation r q sound fine primary listened to is =
    let h : Ground = asking g now.packet in
    let old : FineOne h n e r = replica_later g h sound (asking_later g now.packet) n e (asking_still g now.packet n e) (Some r) fine in
    let k = generation_of now.packet.from generation in
    let p = now.packet in (
      h,
      record {
        sound = asking_sound g now.packet sound;
        later = asking_later g now.packet;
        still = λ m j other. asking_still g now.packet m j;
        grown = λ j. inl (refl, refl);
        replica = raised_fine h n e (generation_of now.packet.from generation) r
            (Some (record { generation = generation_of now.packet.from generation; asker = now.packet.from; request = q; second = None; third = None })) old
            (λ fence low high. record {
              primary = primary;
              fenced = high;
              above = let f = fine.fence primary in omega (arith, f, listened);
              newer = let f = fine.born in omega (arith, f, listened);
              second = tt;
              third = tt;
              generation = generation;
              counted = refl;
              asked = subst (Contains (g.asked ++ now.packet ∷ [])) (packet_is now.packet (Node n) (bodies.Check (Check e generation q)) to is) (contains_last g.asked now.packet);
            });
        packets = (tt, (tt, tt));
        asked = λ x c. contains_pushed g.asked now.packet x c;
        notes = tt;
        apart = tt;
        cross = told_nothing now.told;
        places = λ j. refl;
        sealed = λ j. refl;
      },
    )

pub check_keeps : (now : Moment) (g : Ground) (n e generation : ℕ) (r : Replica) (q : ReqNo) → Sound g → FineOne g n e r →
    now.packet.to ≡ Node n → now.packet.body ≡ bodies.Check (Check e generation q) →
    Keeps now g n e (check_rule n r now.packet e (generation_of now.packet.from generation) q)
check_keeps now g n e generation r q sound fine to is =
    let k = generation_of now.packet.from generation in
    unless_refused now g n e (Some r) now.packet q (check_refusal n r k) (check_taken n r now.packet e k q) sound fine
    (λ none.
    let primary = eqb-true n r.content.places.primary (not-false _ (none_met (check_tests n r k) none).0) in
    if_elim (Keeps now g n e) (is_open r.content.phase) (check_begun n r now.packet e k q) _
    (λ t. check_begun_keeps now g n e generation r q sound fine primary (ltb-false k r.content.fence (none_met (check_tests n r k) none).1.0) to is)
    (λ f. sent now g n e (Some r) (checked_as n now.packet.from q None) sound fine (tt, tt)))

-- ---- Probe

higher_check : (g : Ground) (n e : ℕ) (places : Nodes) (a b : ℕ) (c : Option Checking) → a ≤ b → FineCheck g n e places a c → FineCheck g n e places b c
higher_check g n e places a b None l f = tt
higher_check g n e places a b (Some c) l f = record {
  primary = f.primary;
  fenced = omega (arith, f.fenced, l);
  above = f.above;
  newer = f.newer;
  second = f.second;
  third = f.third;
  generation = f.generation;
  counted = f.counted;
  asked = f.asked;
}

pub probe_keeps : (now : Moment) (g : Ground) (n e k : ℕ) (r : Replica) (p : Packet) → Sound g → FineOne g n e r →
    Keeps now g n e (probe_rule n r p e k)
probe_keeps now g n e k r p sound fine =
    if_elim (Keeps now g n e) (is_node r.content.places.primary p.from) (or_refused (Some r) (Node n) p NoRequest (probe_refusal r k) (probe_taken n r e k)) (silent (Some r))
    (λ t. unless_refused now g n e (Some r) p NoRequest (probe_refusal r k) (probe_taken n r e k) sound fine
    (λ none.
    let phase = open_phase g n e r (not-false _ (none_met (probe_tests r k) none).0) fine in
    plain now g n e (probe_taken n r e k) sound
    (raised_fine g n e k r r.check fine (λ fence low high. higher_check g n e r.content.places r.content.fence fence r.check low fine.check))
    ((λ m i. let c : n ≡ m = eqb-true n m i in rw (← c) (omega (arith, phase.1))), tt) tt tt (told_nothing now.told)))
    (λ f. kept_silent now g n e (Some r) sound fine)

-- ---- Probed

with_check : (g : Ground) (n e : ℕ) (r : Replica) (c : Option Checking) → FineOne g n e r →
    FineCheck g n e r.content.places r.content.fence c → FineOne g n e (record r { check = c })
with_check g n e r c fine check = record {
  places = fine.places;
  begins = fine.begins;
  phase = fine.phase;
  second_has = fine.second_has;
  third_has = fine.third_has;
  waiting = fine.waiting;
  waits = fine.waits;
  target = fine.target;
  fence = fine.fence;
  born = fine.born;
  check = check;
}

-- the primary of extent e takes no generation below k from now on
fencing : Ground → ℕ → ℕ → Ground
fencing g e k = record g { fence = changed e k g.fence }

module _ (now : Moment) (g : Ground) (n e : ℕ) (r : Replica) (sound : Sound g) (fine : FineOne g n e r) (primary : n ≡ r.content.places.primary) where
  -- from the generation of the check on
  module _ (c : Checking) (check : FineChecking g n e r.content.places r.content.fence c) where
    fencing_later : Later g (fencing g e c.generation)
    unfolding fencing
    fencing_later = record {
      script = λ k. begins_refl (g.script k);
      acked = λ k. omega arith;
      places = λ k at h. h;
      born = λ k at h. refl;
      sealed = λ k l h. h;
      origin = λ k. no_more (g.fence k) (g.origin k);
      fence = λ k. changed_elim (λ x. g.fence k ≤ x) e c.generation g.fence k
          (λ q. let d = ap g.fence q in omega (arith, d, check.above)) (λ o. omega arith);
      asked = λ p c. c;
      last = λ m k. omega arith;
      closed = λ m k c. (c, refl);
    }

    fencing_sound : Sound (fencing g e c.generation)
    unfolding fencing
    fencing_sound = sound_later g _ sound fencing_later (λ k. refl) (λ k. refl) sound.none_empty sound.short sound.whole sound.aged sound.born
        (λ k m. (
          (sound.unmade k m).0,
          (sound.unmade k m).1,
          changed_elim (λ x. x ≡ 0) e c.generation g.fence k
              (λ q. let d : g.places k ≡ g.places e = cc in let f = fine.places in absurd (cc)) (λ o. (sound.unmade k m).2),
        ))
        sound.all_had

    fencing_still : (m k : ℕ) → (m ≢ n) ⊎ (k ≢ e) → Still g (fencing g e c.generation) m k
    unfolding fencing
    fencing_still m k other = record {
      last = refl;
      closed = refl;
      primary = λ at made i. (
        refl,
        refl,
        changed_elim (λ x. x ≡ g.fence k) e c.generation g.fence k
            (λ q. let y : Some at ≡ Some r.content.places = sym made ∙ ap g.places q ∙ fine.places in
            let d : at ≡ r.content.places = cc in
            let j : m ≡ n = i ∙ ap (λ (x : Nodes). x.primary) d ∙ sym primary in
            elim other [ inl x ↦ absurd (x j) | inr x ↦ absurd (x q) ])
            (λ o. refl),
      );
    }

    -- all three have the primary's length: what stands after it from now on is no older
    found_equal : (a b : ℕ) → a ≤ g.last r.content.places.second e → b ≤ g.last r.content.places.third e →
        (is_open r.content.phase && ((a == text_length r.content.groups) && (b == text_length r.content.groups))) ≡ true →
        FineCover (fencing g e c.generation) e c.generation (text_length r.content.groups)
    unfolding fencing
    found_equal a b x y t =
        let u = and_parts (is_open r.content.phase) ((a == text_length r.content.groups) && (b == text_length r.content.groups)) t in
        let v = and_parts (a == text_length r.content.groups) (b == text_length r.content.groups) u.1 in
        let i = eqb-true a (text_length r.content.groups) v.0 in
        let j = eqb-true b (text_length r.content.groups) v.1 in
        let phase = open_phase g n e r u.0 fine in
        let m = ap (λ z. g.last z e) primary in
        record {
          front = g.script e;
          back = [];
          olds = g.origin e;
          news = [];
          split = sym (append-nil (g.script e));
          origins = sym (append-nil (g.origin e));
          same = sound.aged e;
          end = ap text_length (phase.2 primary);
          newer = tt;
          fenced = rw (changed-same e c.generation g.fence) (omega arith);
          places = r.content.places;
          made = fine.places;
          had = (omega (arith, phase.1, m), omega (arith, x, i), omega (arith, y, j));
        }

    answer_fine : (a b : ℕ) → a ≤ g.last r.content.places.second e → b ≤ g.last r.content.places.third e →
        FineCheckBody (fencing g e c.generation) (Node n) c.asker (Checked c.request (common_length r a b))
    answer_fine a b x y =
        if_elim (λ z. FineCheckBody (fencing g e c.generation) (Node n) c.asker (Checked c.request z))
        (is_open r.content.phase && ((a == text_length r.content.groups) && (b == text_length r.content.groups))) (Some (text_length r.content.groups)) None
        (λ t. record {
          node = n;
          answers = refl;
          extent = e;
          generation = check.generation;
          asked = fencing_later.asked _ check.asked;
          covers = subst (λ k. FineCover (fencing g e c.generation) e k (text_length r.content.groups)) check.counted (found_equal a b x y t);
        })
        (λ f. tt)

  settled_keeps : (c : Checking) (a b : Option ℕ) → FineChecking g n e r.content.places r.content.fence c →
      AtMost (g.last r.content.places.second e) a → AtMost (g.last r.content.places.third e) b → Keeps now g n e (settled n r c a b)
  unfolding fencing
  settled_keeps c (Some a) (Some b) check x y = (
    fencing g e c.generation,
    record {
      sound = fencing_sound c check;
      later = fencing_later c check;
      still = fencing_still c check;
      grown = λ k. inl (refl, refl);
      replica = record {
        places = fine.places;
        begins = fine.begins;
        phase = fine.phase;
        second_has = fine.second_has;
        third_has = fine.third_has;
        waiting = fine.waiting;
        waits = waits_later g (fencing g e c.generation) (fencing_later c check) n e r.waiting fine.waits;
        target = fine.target;
        fence = λ i. rw (changed-same e c.generation g.fence) check.fenced;
        born = fine.born;
        check = tt;
      };
      packets = (answer_fine c check a b x y, tt);
      asked = λ p k. inl k;
      notes = tt;
      apart = tt;
      cross = told_nothing now.told;
      places = λ k. refl;
      sealed = λ k. refl;
    },
  )
  settled_keeps c None b check x y = kept_silent now g n e (Some (record r { check = Some c })) sound (with_check g n e r (Some c) fine check)
  settled_keeps c (Some a) None check x y = kept_silent now g n e (Some (record r { check = Some c })) sound (with_check g n e r (Some c) fine check)

pub probed_keeps : (now : Moment) (g : Ground) (n e k l : ℕ) (r : Replica) (p : Packet) → Sound g → FineOne g n e r →
    FineCheckBody g p.from p.to (Probed e k l) → Keeps now g n e (probed_rule n r p k l)
probed_keeps now g n e k l r p sound fine told_length = by_check r.check fine.check
  where
    by_place : (c : Checking) → FineChecking g n e r.content.places r.content.fence c → Keeps now g n e (probed_by n r (with_probed c r.content.places p.from l))
    by_place c f =
        if_elim (λ z. Keeps now g n e (probed_by n r z)) (is_node r.content.places.second p.from) (Some (record c { second = Some l })) _
        (λ t. settled_keeps now g n e r sound fine f.primary (record c { second = Some l }) (Some l) c.third
        (record { primary = f.primary; fenced = f.fenced; above = f.above; newer = f.newer; second = told_length r.content.places.second t; third = f.third; generation = f.generation; counted = f.counted; asked = f.asked })
        (told_length r.content.places.second t) f.third)
        (λ _. if_elim (λ z. Keeps now g n e (probed_by n r z)) (is_node r.content.places.third p.from) (Some (record c { third = Some l })) None
        (λ t. settled_keeps now g n e r sound fine f.primary (record c { third = Some l }) c.second (Some l)
        (record { primary = f.primary; fenced = f.fenced; above = f.above; newer = f.newer; second = f.second; third = told_length r.content.places.third t; generation = f.generation; counted = f.counted; asked = f.asked })
        f.second (told_length r.content.places.third t))
        (λ _. kept_silent now g n e (Some r) sound fine))

    by_check : (o : Option Checking) → FineCheck g n e r.content.places r.content.fence o → Keeps now g n e (probed_for n r p k l o)
    by_check None f = kept_silent now g n e (Some r) sound fine
    by_check (Some c) f =
        if_elim (Keeps now g n e) (c.generation == k) (probed_by n r (with_probed c r.content.places p.from l)) (silent (Some r))
        (λ t. by_place c f) (λ _. kept_silent now g n e (Some r) sound fine)
