-- The rules of Make, Append and Put keep what is known.
use Rattle.std.proofs.Common.{◌≡◌, ◌≢◌, ◌⊎◌, ℕ, ◌+◌, ◌*◌, ◌<◌, ◌≤◌, Bool, true, false, not, ◌==◌, nat_lt, nat_le, if◌then◌else◌, List, [], ◌∷◌, ◌++◌, length, Some, None, slice_get, Contains, refl, sym, ◌∙◌, inl, inr, arith, subst, ap, length-append, append_assoc}
use Rattle.std.specs.List.{list_any}
use Rattle.std.proofs.lemmas.Bool.{or_parts, ltb-true, ltb-false, leb-true, leb-false, not-false, eqb-true, eqb-false, and_parts}
use Rattle.block_types.specs.declared.record.Nodes.{Nodes}
use Rattle.wire.specs.Blocks.{is_block}
use Rattle.wire.specs.declared.actor.ActorId.TheVariants.{Node}
use Rattle.wire.specs.declared.actor.ReqNo.{ReqNo}
use Rattle.wire.specs.declared.actor.ReqNo.TheVariants.{NoRequest}
use Rattle.wire.specs.declared.body.AppendBody.TheVariants.{Append, Put}
use Rattle.wire.specs.declared.body.Body.TheVariants as bodies
use Rattle.wire.specs.declared.packet.Packet.{Packet}
use Rattle.replica.specs.declared.phase.Phase.TheVariants as phases
use Rattle.replica.specs.Groups.{Group, joined, size, text_length}
use Rattle.replica.specs.Content as contents
use Rattle.replica.proofs.Lengths.{text_length-push}
use Rattle.model_streams.specs.declared.waiting_append.WaitingAppend.{WaitingAppend}
use Rattle.model_streams.specs.Actors.{is_node, generation_of}
use Rattle.model_streams.specs.Honest.{Stands}
use Rattle.model_streams.specs.Maps.{changed, changed_at}
use Rattle.model_streams.specs.Node.{Replica, is_open, make_tests, make_taken, make_rule, append_tests, append_refusal, append_taken, append_rule, tells_length, put_fits, put_added, put_passed, put_taken, put_tests, put_refusal, put_rule}
use Rattle.model_streams.specs.Outcome.{all_met, silent, or_refused}
use Rattle.model_streams.proofs.Tests.{if_elim, none_met, all_are}
use Rattle.laws_streams.specs.Origins.{Begins, Origin}
use Rattle.laws_streams.proofs.Lists.{begins_refl, begins_push, take_past, get_next, NoneEmpty, none_empty-push, stands_on, stands_last, stands_end, same_beginning}
use Rattle.laws_streams.proofs.Choices.{changed_elim, changed_at_elim, changed_at-same, changed_at-other, changed-same, changed-other, Each, each-append, contains_left, contains_last, contains_pushed}
use Rattle.laws_streams.proofs.Ground.{Ground, EndsAt, longest, Sound, FineAppend, Chain, FinePhase, FineWaiting, FineOne, FineNone, FineReplica}
use Rattle.laws_streams.proofs.MoreKnown.{ends_later, check_later, waits_later, no_more, Later, Still}
use Rattle.laws_streams.proofs.RestsOnGround.{Moment, origin_of, Unmoved, Added, FineRule}
use Rattle.laws_streams.proofs.RuleInvariant.{packet_is, Keeps, plain, sent, kept_silent, unless_refused, told_nothing, open_phase, phase_open, sound_later, grown_last, grown_closed}

-- ---- Make

pub make_keeps : (now : Moment) (g : Ground) (n : ℕ) (p : Packet) (e fence target : ℕ) (at : Nodes) →
    Sound g → FineNone g n e → (g.places e ≡ Some at) × (g.born e ≡ fence) → Keeps now g n e (make_rule n p e fence target at)
make_keeps now g n p e fence target at sound none made =
    if_elim (Keeps now g n e) (all_met (make_tests n p target at)) (make_taken e fence target at) (silent None)
    (λ t. plain now g n e (make_taken e fence target at) sound
    (record {
      places = made.0;
      begins = record { rest = g.script e; is = refl };
      phase = (none.closed, none.last, λ i. (none.script at made.0 i).0);
      second_has = omega arith;
      third_has = omega arith;
      waiting = λ i. tt;
      waits = tt;
      target = (let w = and_parts (nat_le 4096 target) (nat_le target 16777216) (all_are (make_tests n p target at) t).1.1.1.0 in leb-true target 16777216 w.1);
      born = omega (arith, made.1);
      check = tt;
      fence = λ i. let f = (none.script at made.0 i).1 in omega (arith, f);
    }) tt tt tt (told_nothing now.told))
    (λ f. kept_silent now g n e None sound none)

-- ---- Append

group_sized : (blocks : Group) → (length blocks == 0) ≡ false → list_any (λ b. not (is_block b)) blocks ≡ false → 0 < size blocks
group_sized [] p q = absurd (cc)
group_sized (b ∷ bs) p q =
    let f : is_block b ≡ true = not-false (is_block b) (or_parts (not (is_block b)) (list_any (λ x. not (is_block x)) bs) q).0 in
    let l : 0 < length b = ltb-true 0 (length b) (and_parts (nat_lt 0 (length b)) (nat_le (length b) 65536) f).0 in
    omega (arith, length-append b (joined bs))

group_small : (blocks : Group) → list_any (λ b. not (is_block b)) blocks ≡ false → size blocks ≤ length blocks * 65536
group_small [] q = omega arith
group_small (b ∷ bs) q =
    let two = or_parts (not (is_block b)) (list_any (λ x. not (is_block x)) bs) q in
    let f : is_block b ≡ true = not-false (is_block b) two.0 in
    let l : length b ≤ 65536 = leb-true (length b) 65536 (and_parts (nat_lt 0 (length b)) (nat_le (length b) 65536) f).1 in
    let m = group_small bs two.1 in
    omega (arith, length-append b (joined bs), l, m)

-- one more that stands at the script's end
chain_push : (s t : List Group) (from : ℕ) (ws : List WaitingAppend) (w : WaitingAppend) → Begins s t → from ≤ text_length s → Chain s from ws →
    w.offset ≡ text_length s → Stands w.group w.offset t → 0 < size w.group → Chain t from (ws ++ w ∷ [])
chain_push s t from [] w b l c at stands some = (omega arith, stands, some, tt)
chain_push s t from (x ∷ xs) w b l c at stands some =
    (c.0, stands_on b c.1, c.2, chain_push s t (x.offset + size x.group) xs w b (stands_end c.1) c.3 at stands some)

-- the script of extent e becomes these groups and one more, of this origin
appended : Ground → ℕ → ℕ → List Group → Group → Origin → Packet → Ground
appended g n e groups blocks origin p =
    record g {
      asked = g.asked ++ p ∷ [];
      script = changed e (groups ++ blocks ∷ []) g.script;
      origin = changed e (g.origin e ++ origin ∷ []) g.origin;
      last = changed_at n e (text_length (groups ++ blocks ∷ [])) g.last;
    }

module _ (now : Moment) (g : Ground) (n e : ℕ) (r : Replica) (sound : Sound g) (fine : FineOne g n e r)
    (primary : n ≡ r.content.places.primary) (blocks : Group) (some : 0 < size blocks)
    (live : FinePhase g n e r.content.places r.content.groups phases.Open) (generation : ℕ) (request : ReqNo)
    (to : now.packet.to ≡ Node n) (is : now.packet.body ≡ bodies.Append (Append e generation blocks request)) (newer : r.content.fence ≤ generation_of now.packet.from generation)
    (short : text_length (r.content.groups ++ blocks ∷ []) ≤ longest) where
  abbrev new : Origin
  new = origin_of now generation request

  -- what is known after it
  abbrev next : Ground
  next = appended g n e r.content.groups blocks new now.packet

  longer : g.last n e ≤ text_length (r.content.groups ++ blocks ∷ [])
  longer = omega (arith, live.1, text_length-push r.content.groups blocks)

  append_later : Later g next
  unfolding appended
  append_later = record {
    script = λ k. changed_elim (λ x. Begins (g.script k) x) e (r.content.groups ++ blocks ∷ []) g.script k
        (λ q. rw (q, live.2 primary) (begins_push r.content.groups (blocks ∷ []))) (λ o. begins_refl (g.script k));
    origin = λ k. changed_elim (λ x. (news : List Origin) × (x ≡ g.origin k ++ news) × Each (λ y. g.fence k ≤ y.generation) news)
        e (g.origin e ++ new ∷ []) g.origin k
        (λ q. (new ∷ [], rw q refl, (let f = fine.fence primary in let c = ap g.fence q in omega (arith, newer, f, c), tt))) (λ o. no_more (g.fence k) (g.origin k));
    fence = λ k. omega arith;
    asked = λ p c. contains_left g.asked (now.packet ∷ []) p c;
    acked = λ k. omega arith;
    places = λ k at h. h;
    born = λ k at h. refl;
    sealed = λ k l h. h;
    last = grown_last g n e _ live.0 longer;
    closed = λ m k c. (c, grown_closed g n e _ live.0 longer m k c);
  }

  -- what each place has is a beginning of the script, with the new group too
  append_whole : (m k : ℕ) → EndsAt (next.script k) (next.last m k)
  unfolding appended
  append_whole m k =
      let s = changed-same e (r.content.groups ++ blocks ∷ []) g.script in
      changed_at_elim (EndsAt (next.script k)) n e (text_length (r.content.groups ++ blocks ∷ [])) g.last m k
      (λ p q. record { front = r.content.groups ++ blocks ∷ []; begins = rw (q, s) (begins_refl (r.content.groups ++ blocks ∷ [])); ends = refl })
      (λ o. ends_later (sound.whole m k) (append_later.script k))

  append_sound : Sound next
  unfolding appended
  append_sound = sound_later g _ sound append_later (λ k. refl) (λ k. refl)
      (λ k. changed_elim NoneEmpty e (r.content.groups ++ blocks ∷ []) g.script k
      (λ q. none_empty-push r.content.groups blocks (subst NoneEmpty (live.2 primary) (sound.none_empty e)) some)
      (λ o. sound.none_empty k))
      (λ k. changed_elim (λ x. text_length x ≤ longest) e (r.content.groups ++ blocks ∷ []) g.script k (λ q. short) (λ o. sound.short k))
      append_whole
      (λ k. elim (k == e) as (λ t. length (if t then g.origin e ++ new ∷ [] else g.origin k)
      ≡ length (if t then r.content.groups ++ blocks ∷ [] else g.script k)) [
        | true ↦ let a = sound.aged e in let b = ap (λ (x : List Group). length x) (live.2 primary) in
            omega (arith, length-append (g.origin e) (new ∷ []), length-append r.content.groups (blocks ∷ []), a, b)
        | false ↦ sound.aged k
      ])
      (λ k. changed_elim (λ x. Each (λ y. g.born k ≤ y.generation) x) e (g.origin e ++ new ∷ []) g.origin k
      (λ q. each-append (λ y. g.born k ≤ y.generation) (g.origin e) (new ∷ []) (rw (← q) (sound.born k))
      (let f = fine.born in let c = ap g.born q in omega (arith, newer, f, c), tt))
      (λ o. sound.born k))
      (λ k m. (
        changed_elim (λ x. x ≡ []) e (r.content.groups ++ blocks ∷ []) g.script k
            (λ q. let c : g.places k ≡ g.places e = cc in let d = fine.places in absurd (cc)) (λ o. (sound.unmade k m).0),
        (sound.unmade k m).1,
        (sound.unmade k m).2,
      ))
      (λ k at m. let had = sound.all_had k at m in let l = grown_last g n e (text_length (r.content.groups ++ blocks ∷ [])) live.0 longer in
      (omega (arith, had.0, l at.primary k), omega (arith, had.1, l at.second k), omega (arith, had.2, l at.third k)))

  append_still : (m k : ℕ) → (m ≢ n) ⊎ (k ≢ e) → Still g next m k
  unfolding appended
  append_still m k other = record {
    last = changed_at-other n e _ g.last m k other;
    closed = refl;
    primary = λ at made i. (
      changed_elim (λ x. x ≡ g.script k) e (r.content.groups ++ blocks ∷ []) g.script k
          (λ q. let c : Some at ≡ Some r.content.places = sym made ∙ ap g.places q ∙ fine.places in
          let d : at ≡ r.content.places = cc in
          let j : m ≡ n = i ∙ ap (λ (x : Nodes). x.primary) d ∙ sym primary in
          elim other [ inl x ↦ absurd (x j) | inr x ↦ absurd (x q) ])
          (λ o. refl),
      refl,
      refl,
    );
  }

  -- the append that waits now
  new_waits : FineWaiting next n e (record { offset = text_length r.content.groups; group = blocks; asker = now.packet.from; request = request })
  unfolding appended
  new_waits =
      let s = changed-same e (r.content.groups ++ blocks ∷ []) g.script in
      let o = changed-same e (g.origin e ++ new ∷ []) g.origin in
      let l : length (g.origin e) ≡ length r.content.groups = sound.aged e ∙ ap (λ (x : List Group). length x) (live.2 primary) in
      record {
        generation = generation;
        asked = subst (Contains (g.asked ++ now.packet ∷ [])) (packet_is now.packet (Node n) (bodies.Append (Append e generation blocks request)) to is)
            (contains_last g.asked now.packet);
        index = length r.content.groups;
        from = new;
        is = rw s (get_next r.content.groups [] blocks);
        start = rw (s, take_past r.content.groups (blocks ∷ [])) refl;
        appended = rw o (subst (λ k. slice_get (g.origin e ++ new ∷ []) k ≡ Some new) l (get_next (g.origin e) [] new));
        counted = refl;
        number = refl;
      }

  append_replica : is_open r.content.phase ≡ true →
      FineReplica next n e (append_taken n r now.packet e blocks request).after
  unfolding appended
  append_replica t =
      let s = changed-same e (r.content.groups ++ blocks ∷ []) g.script in
      record {
        places = fine.places;
        begins = rw s (begins_refl (r.content.groups ++ blocks ∷ []));
        phase = phase_open next n e r.content.places (r.content.groups ++ blocks ∷ []) r.content.phase t
            (live.0, changed_at-same n e _ g.last, λ i. s);
        second_has = let l = grown_last g n e (text_length (r.content.groups ++ blocks ∷ [])) live.0 longer r.content.places.second e in omega (arith, fine.second_has, l);
        third_has = let l = grown_last g n e (text_length (r.content.groups ++ blocks ∷ [])) live.0 longer r.content.places.third e in omega (arith, fine.third_has, l);
        waiting = λ i. rw s (chain_push r.content.groups (r.content.groups ++ blocks ∷ []) (g.acked e) r.waiting _ (begins_push r.content.groups (blocks ∷ []))
            (let had = (sound.all_had e r.content.places fine.places).0 in let m = ap (λ k. g.last k e) primary in omega (arith, live.1))
            (subst (λ x. Chain x (g.acked e) r.waiting) (live.2 primary) (fine.waiting primary)) refl (stands_last r.content.groups blocks) some);
        waits = each-append (FineWaiting next n e) r.waiting _ (waits_later g next append_later n e r.waiting fine.waits) (new_waits, tt);
        target = fine.target;
        fence = fine.fence;
        born = fine.born;
        check = check_later g next append_later n e r.content.places r.content.fence (λ i. refl) refl r.check fine.check;
      }

  append_grown : (k : ℕ) → Unmoved g next k
      ⊎ Added now g next k
  unfolding appended
  append_grown k = by_test (k == e) refl
    where
      append_added : (k : ℕ) → k ≡ e → Added now g next k
      append_added k same = record {
        group = blocks;
        generation = generation;
        request = request;
        body = rw same is;
        script = rw (same, changed-same e (r.content.groups ++ blocks ∷ []) g.script, live.2 primary) refl;
        origin = rw (same, changed-same e (g.origin e ++ new ∷ []) g.origin) refl;
      }

      by_test : (t : Bool) → (k == e) ≡ t → Unmoved g next k
          ⊎ Added now g next k
      by_test true t = inr (append_added k (eqb-true k e t))
      by_test false t = inl (changed-other e _ g.script k (eqb-false k e t), changed-other e _ g.origin k (eqb-false k e t))

  append_fine : is_open r.content.phase ≡ true →
      FineRule now g next n e (append_taken n r now.packet e blocks request)
  unfolding appended
  append_fine t =
      let put : Stands blocks (text_length r.content.groups) (changed e (r.content.groups ++ blocks ∷ []) g.script e) × (0 < size blocks) =
      (rw (changed-same e (r.content.groups ++ blocks ∷ []) g.script) (stands_last r.content.groups blocks), some) in
      record {
        sound = append_sound;
        later = append_later;
        still = append_still;
        replica = append_replica t;
        packets = (put, (put, tt));
        asked = λ p c. contains_pushed g.asked now.packet p c;
        notes = tt;
        apart = tt;
        cross = told_nothing now.told;
        grown = append_grown;
        places = λ k. refl;
        sealed = λ k. refl;
      }

pub append_keeps : (now : Moment) (g : Ground) (n e generation : ℕ) (r : Replica) (blocks : Group) (q : ReqNo) → Sound g → FineOne g n e r →
    now.packet.to ≡ Node n → now.packet.body ≡ bodies.Append (Append e generation blocks q) → Keeps now g n e (append_rule n r now.packet e generation blocks q)
append_keeps now g n e generation r blocks q sound fine to is =
    unless_refused now g n e (Some r) now.packet q (append_refusal n r now.packet generation blocks) (append_taken n r now.packet e blocks q) sound fine
    (λ none.
    let met = none_met (append_tests n r now.packet generation blocks) none in
    let primary : n ≡ r.content.places.primary = eqb-true n r.content.places.primary (not-false _ met.0) in
    let live : is_open r.content.phase ≡ true = not-false _ met.1.0 in
    let some : 0 < size blocks = group_sized blocks (or_parts _ _ met.1.1.1.0).0 met.1.1.1.1.0 in
    let newer : r.content.fence ≤ generation_of now.packet.from generation = ltb-false (generation_of now.packet.from generation) r.content.fence met.1.1.0 in
    let room : text_length r.content.groups < r.content.target = leb-false r.content.target (text_length r.content.groups) met.1.1.1.1.1.0 in
    let few : length blocks ≤ 64 = ltb-false 64 (length blocks) (or_parts (length blocks == 0) (nat_lt 64 (length blocks)) met.1.1.1.0).1 in
    let small = group_small blocks met.1.1.1.1.0 in
    let short : text_length (r.content.groups ++ blocks ∷ []) ≤ longest =
    omega (arith, text_length-push r.content.groups blocks, room, few, small, fine.target) in (
      appended g n e r.content.groups blocks (origin_of now generation q) now.packet,
      append_fine now g n e r sound fine primary blocks some (open_phase g n e r live fine) generation q to is newer short live,
    ))

-- ---- Put

-- a group that stands where a beginning of the script ends is the next one
begins_next : {c s : List Group} {group : Group} {o : ℕ} → Begins c s → NoneEmpty s → Stands group o s → o ≡ text_length c → Begins (c ++ group ∷ []) s
begins_next {c} {s} {group} {o} b none h at =
    let same : c ≡ h.before = same_beginning c h.before b.rest (group ∷ h.after) (sym b.is ∙ h.split) (rw (← b.is) none) (sym at ∙ sym h.place) in
    record { rest = h.after; is = rw (same, append_assoc) h.split }

lasting : Ground → ℕ → ℕ → ℕ → Ground
lasting g n e v = record g { last = changed_at n e v g.last }

module _ (now : Moment) (g : Ground) (n e : ℕ) (r : Replica) (sound : Sound g) (fine : FineOne g n e r)
    (group : Group) (some : 0 < size group) (stands : Stands group (text_length r.content.groups) (g.script e)) (live : FinePhase g n e r.content.places r.content.groups phases.Open) where
  reaches : g.last n e ≤ text_length (r.content.groups ++ group ∷ [])
  reaches = omega (arith, live.1, text_length-push r.content.groups group)

  put_later : Later g (lasting g n e (text_length (r.content.groups ++ group ∷ [])))
  unfolding lasting
  put_later = record {
    script = λ k. begins_refl (g.script k);
    acked = λ k. omega arith;
    places = λ k at h. h;
    born = λ k at h. refl;
    sealed = λ k l h. h;
    origin = λ k. no_more (g.fence k) (g.origin k);
    fence = λ k. omega arith;
    asked = λ p c. c;
    last = grown_last g n e _ live.0 reaches;
    closed = λ m k c. (c, grown_closed g n e _ live.0 reaches m k c);
  }

  put_whole : (m k : ℕ) → EndsAt (g.script k) (changed_at n e (text_length (r.content.groups ++ group ∷ [])) g.last m k)
  put_whole m k =
      changed_at_elim (EndsAt (g.script k)) n e (text_length (r.content.groups ++ group ∷ [])) g.last m k
      (λ p q. record { front = r.content.groups ++ group ∷ []; begins = rw q (begins_next fine.begins (sound.none_empty e) stands refl); ends = refl })
      (λ o. sound.whole m k)

  put_sound : Sound (lasting g n e (text_length (r.content.groups ++ group ∷ [])))
  unfolding lasting
  put_sound = sound_later g _ sound put_later (λ k. refl) (λ k. refl) sound.none_empty sound.short put_whole sound.aged sound.born sound.unmade
      (λ k at m. let had = sound.all_had k at m in let l = grown_last g n e (text_length (r.content.groups ++ group ∷ [])) live.0 reaches in
      (omega (arith, had.0, l at.primary k), omega (arith, had.1, l at.second k), omega (arith, had.2, l at.third k)))

  put_replica_fine : is_open r.content.phase ≡ true →
      FineOne (lasting g n e (text_length (r.content.groups ++ group ∷ []))) n e (record r { content = contents.appended r.content group })
  unfolding lasting
  put_replica_fine t = record {
    places = fine.places;
    begins = begins_next fine.begins (sound.none_empty e) stands refl;
    phase = phase_open (lasting g n e (text_length (r.content.groups ++ group ∷ []))) n e r.content.places (r.content.groups ++ group ∷ []) r.content.phase t (
      live.0,
      changed_at-same n e _ g.last,
      λ i. absurd (let s = stands_end stands in let c = ap text_length (live.2 i) in omega arith),
    );
    second_has = let l = grown_last g n e (text_length (r.content.groups ++ group ∷ [])) live.0 reaches r.content.places.second e in omega (arith, fine.second_has, l);
    third_has = let l = grown_last g n e (text_length (r.content.groups ++ group ∷ [])) live.0 reaches r.content.places.third e in omega (arith, fine.third_has, l);
    waiting = fine.waiting;
    waits = waits_later g _ put_later n e r.waiting fine.waits;
    target = fine.target;
    fence = fine.fence;
    born = fine.born;
    check = check_later g _ put_later n e r.content.places r.content.fence (λ i. refl) refl r.check fine.check;
  }

  put_fine : (offset : ℕ) → is_open r.content.phase ≡ true →
      FineRule now g (lasting g n e (text_length (r.content.groups ++ group ∷ []))) n e (put_added n r e offset group)
  unfolding lasting
  put_fine offset t = record {
    sound = put_sound;
    later = put_later;
    still = λ m k other. record { last = changed_at-other n e _ g.last m k other; closed = refl; primary = λ at made i. (refl, refl, refl) };
    grown = λ k. inl (refl, refl);
    replica = put_replica_fine t;
    asked = λ p c. inl c;
    packets = (λ m i. let c : n ≡ m = eqb-true n m i in let s = changed_at-same n e (text_length (r.content.groups ++ group ∷ [])) g.last in rw (← c) (rw s (omega arith)), tt);
    notes = tt;
    apart = tt;
    cross = told_nothing now.told;
    places = λ k. refl;
    sealed = λ k. refl;
  }

put_taken_keeps : (now : Moment) (g : Ground) (n e offset : ℕ) (r : Replica) (group : Group) → Sound g → FineOne g n e r → FinePhase g n e r.content.places r.content.groups phases.Open →
    is_open r.content.phase ≡ true → Stands group offset (g.script e) → 0 < size group → Keeps now g n e (put_taken n r e offset group)
put_taken_keeps now g n e offset r group sound fine phase live stands some =
    if_elim (Keeps now g n e) (put_fits r offset) (put_added n r e offset group) (put_passed n r e)
    (λ fits.
    let at : offset ≡ text_length r.content.groups = eqb-true offset (text_length r.content.groups) (and_parts _ _ fits).0 in (
      lasting g n e (text_length (r.content.groups ++ group ∷ [])),
      put_fine now g n e r sound fine group some (subst (λ x. Stands group x (g.script e)) at stands) phase offset live,
    ))
    (λ no. sent now g n e (Some r) (tells_length n r e (text_length r.content.groups)) sound fine
    (λ m i. let c : n ≡ m = eqb-true n m i in rw (← c) (omega (arith, phase.1)), tt))

pub put_keeps : (now : Moment) (g : Ground) (n e offset : ℕ) (r : Replica) (p : Packet) (group : Group) → Sound g → FineOne g n e r →
    FineAppend g p.from (Put e offset group) → Keeps now g n e (put_rule n r p e offset group)
put_keeps now g n e offset r p group sound fine told =
    if_elim (Keeps now g n e) (is_node r.content.places.primary p.from) (or_refused (Some r) (Node n) p NoRequest (put_refusal r) (put_taken n r e offset group)) (silent (Some r))
    (λ from. unless_refused now g n e (Some r) p NoRequest (put_refusal r) (put_taken n r e offset group) sound fine
    (λ none.
    let live : is_open r.content.phase ≡ true = not-false _ (none_met (put_tests r) none).0 in
    put_taken_keeps now g n e offset r group sound fine (open_phase g n e r live fine) live told.0 told.1))
    (λ other. kept_silent now g n e (Some r) sound fine)
