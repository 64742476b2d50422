-- The rule of Have keeps what is known: an append is acknowledged once all three places have it.
use Rattle.std.proofs.Common.{◌≡◌, ◌≢◌, ◌⊎◌, ℕ, zero, suc, ◌+◌, ◌≤◌, ◌&&◌, ◌==◌, nat_lt, nat_le, List, [], ◌∷◌, take, drop, Some, refl, sym, ◌∙◌, inl, inr, arith, subst, ap}
use Rattle.std.proofs.lemmas.Bool.{leb-true, leb-false, eqb-true, and_parts}
use Rattle.block_types.specs.declared.record.Nodes.{Nodes}
use Rattle.wire.specs.declared.body.AppendBody.TheVariants.{Have}
use Rattle.wire.specs.declared.note.Note.{Note}
use Rattle.wire.specs.declared.note.Note.TheVariants.{Acked}
use Rattle.wire.specs.declared.packet.Packet.{Packet}
use Rattle.replica.specs.declared.phase.Phase.TheVariants as phases
use Rattle.replica.specs.Groups.{Group, size, text_length}
use Rattle.model_streams.specs.declared.waiting_append.WaitingAppend.{WaitingAppend}
use Rattle.model_streams.specs.Actors.{is_node}
use Rattle.model_streams.specs.Honest.{Apart}
use Rattle.model_streams.specs.Maps.{changed}
use Rattle.model_streams.specs.Node.{Replica, is_open, covered, lesser, greater, acked, answers, answered, answered_if, have_rule}
use Rattle.model_streams.proofs.Tests.{if_elim}
use Rattle.laws_streams.proofs.Lists.{begins_refl, stands_end}
use Rattle.laws_streams.proofs.Choices.{changed_elim, changed-same, Each, each-weaker, EachPair, each-drop}
use Rattle.laws_streams.proofs.Ground.{Ground, Sound, FineAppend, FinePacket, FineNote, Chain, FinePhase, FineWaiting, FineOne}
use Rattle.laws_streams.proofs.MoreKnown.{check_later, waits_later, no_more, Later, Still}
use Rattle.laws_streams.proofs.RestsOnGround.{Moment, FineRule}
use Rattle.laws_streams.proofs.RuleInvariant.{Keeps, each_all, kept_silent, open_phase, sound_later}

-- ---- the waiting appends

-- the end of the last of them
acked_to : ℕ → List WaitingAppend → ℕ
acked_to from [] = from
acked_to from (w ∷ ws) = acked_to (w.offset + size w.group) ws

to_more : (s : List Group) (from : ℕ) (ws : List WaitingAppend) → Chain s from ws → from ≤ acked_to from ws
unfolding acked_to
to_more s from [] c = omega arith
to_more s from (w ∷ ws) c = let m = to_more s (w.offset + size w.group) ws c.3 in omega (arith, m, c.0)

to_end : (s : List Group) (from : ℕ) (ws : List WaitingAppend) → Chain s from ws → from ≤ text_length s → acked_to from ws ≤ text_length s
unfolding acked_to
to_end s from [] c l = l
to_end s from (w ∷ ws) c l = to_end s (w.offset + size w.group) ws c.3 (stands_end c.1)

to_length : (length x from : ℕ) (ws : List WaitingAppend) → from ≤ x → length ≤ x → acked_to from (take (covered length ws) ws) ≤ x
unfolding acked_to
to_length length x from [] f h = f
to_length length x from (w ∷ ws) f h =
    if_elim (λ k. acked_to from (take k (w ∷ ws)) ≤ x) (nat_le (w.offset + size w.group) length) (suc (covered length ws)) 0
    (λ t. let l = leb-true (w.offset + size w.group) length t in to_length length x (w.offset + size w.group) ws (omega arith) h)
    (λ _. f)

chain_take : (s : List Group) (from k : ℕ) (ws : List WaitingAppend) → Chain s from ws → Chain s from (take k ws)
chain_take s from zero ws c = tt
chain_take s from (suc k) [] c = tt
chain_take s from (suc k) (w ∷ ws) c = (c.0, c.1, c.2, chain_take s (w.offset + size w.group) k ws c.3)

chain_drop : (s : List Group) (from k : ℕ) (ws : List WaitingAppend) → Chain s from ws → Chain s (acked_to from (take k ws)) (drop k ws)
unfolding acked_to
chain_drop s from zero ws c = c
chain_drop s from (suc k) [] c = tt
chain_drop s from (suc k) (w ∷ ws) c = chain_drop s (w.offset + size w.group) k ws c.3

chain_notes : (h : Ground) (e from : ℕ) (ws : List WaitingAppend) → Chain (h.script e) from ws → acked_to from ws ≤ h.acked e → Each (FineNote h) (acked e ws)
unfolding acked_to
chain_notes h e from [] c l = tt
chain_notes h e from (w ∷ ws) c l = (
  record { stands = c.1; some = c.2; within = let m = to_more (h.script e) (w.offset + size w.group) ws c.3 in omega (arith, m, l) },
  chain_notes h e (w.offset + size w.group) ws c.3 l,
)

chain_far : (s : List Group) (f e o from : ℕ) (group : Group) (ws : List WaitingAppend) → (f ≡ e → o + size group ≤ from) → Chain s from ws →
    Each (Apart (Acked f o group)) (acked e ws)
chain_far s f e o from group [] l c = tt
chain_far s f e o from group (w ∷ ws) l c = (
  λ same. inl (let k = l same in omega (arith, k, c.0)),
  chain_far s f e o (w.offset + size w.group) group ws (λ same. let k = l same in omega (arith, k, c.0)) c.3,
)

chain_apart : (s : List Group) (e from : ℕ) (ws : List WaitingAppend) → Chain s from ws → EachPair Apart (acked e ws)
chain_apart s e from [] c = tt
chain_apart s e from (w ∷ ws) c = (
  chain_far s e e w.offset (w.offset + size w.group) w.group ws (λ same. omega arith) c.3,
  chain_apart s e (w.offset + size w.group) ws c.3,
)

chain_cross : (g : Ground) (e : ℕ) (ws : List WaitingAppend) → Chain (g.script e) (g.acked e) ws → (x : Note) → FineNote g x → Each (Apart x) (acked e ws)
chain_cross g e ws c (Acked f o group) fine =
    chain_far (g.script e) f e o (g.acked e) group ws (λ same. let k = ap g.acked same in omega (arith, fine.within)) c
chain_cross g e ws c x fine = each_all _ (λ y. tt) (acked e ws)

answers_fine : (g : Ground) (n e : ℕ) (ws : List WaitingAppend) → Each (FinePacket g) (answers n e ws)
answers_fine g n e [] = tt
answers_fine g n e (w ∷ ws) = (tt, answers_fine g n e ws)

lesser_first : (a b : ℕ) → lesser a b ≤ a
lesser_first a b = if_elim (λ x. x ≤ a) (nat_le a b) a b (λ t. omega arith) (λ f. let l = leb-false a b f in omega arith)

lesser_second : (a b : ℕ) → lesser a b ≤ b
lesser_second a b = if_elim (λ x. x ≤ b) (nat_le a b) a b (λ t. leb-true a b t) (λ f. omega arith)

-- how many appends, and which, are answered where both secondaries have so much
abbrev count_of : Replica → ℕ
count_of r = covered (lesser r.second_has r.third_has) r.waiting

abbrev leaving : Replica → List WaitingAppend
leaving r = take (count_of r) r.waiting

-- ---- all up to an offset is acknowledged

acking : Ground → ℕ → ℕ → Ground
acking g e a = record g { acked = changed e a g.acked }

module _ (now : Moment) (g : Ground) (n e : ℕ) (r : Replica) (sound : Sound g) (notes : Each (FineNote g) now.told) (fine : FineOne g n e r)
    (primary : n ≡ r.content.places.primary) (live : FinePhase g n e r.content.places r.content.groups phases.Open) where
  up_to : ℕ
  up_to = acked_to (g.acked e) (leaving r)

  chain : Chain (g.script e) (g.acked e) r.waiting
  chain = fine.waiting primary

  leaving_chain : Chain (g.script e) (g.acked e) (leaving r)
  leaving_chain = chain_take (g.script e) (g.acked e) (count_of r) r.waiting chain

  at_least : g.acked e ≤ up_to
  unfolding up_to
  at_least = to_more (g.script e) (g.acked e) _ leaving_chain

  had : (g.acked e ≤ g.last r.content.places.primary e) × (g.acked e ≤ g.last r.content.places.second e) × (g.acked e ≤ g.last r.content.places.third e)
  had = sound.all_had e r.content.places fine.places

  now_had : (up_to ≤ g.last r.content.places.primary e) × (up_to ≤ g.last r.content.places.second e) × (up_to ≤ g.last r.content.places.third e)
  unfolding up_to
  now_had =
      let m = ap (λ k. g.last k e) primary in
      let s = ap text_length (live.2 primary) in (
        let l = to_end (g.script e) (g.acked e) _ leaving_chain (omega (arith, had.0, live.1)) in omega (arith, live.1, l),
        to_length (lesser r.second_has r.third_has) _ (g.acked e) r.waiting had.1 (let l = lesser_first r.second_has r.third_has in omega (arith, fine.second_has)),
        to_length (lesser r.second_has r.third_has) _ (g.acked e) r.waiting had.2 (let l = lesser_second r.second_has r.third_has in omega (arith, fine.third_has)),
      )

  acking_later : Later g (acking g e up_to)
  unfolding acking
  acking_later = record {
    script = λ k. begins_refl (g.script k);
    acked = λ k. changed_elim (λ x. g.acked k ≤ x) e up_to g.acked k
        (λ q. let c = ap g.acked q in omega (arith, at_least)) (λ o. omega arith);
    places = λ k at h. h;
    born = λ k at h. refl;
    sealed = λ k l h. h;
    last = λ m k. omega arith;
    closed = λ m k c. (c, refl);
    origin = λ k. no_more (g.fence k) (g.origin k);
    fence = λ k. omega arith;
    asked = λ p c. c;
  }

  acking_sound : Sound (acking g e up_to)
  unfolding acking
  acking_sound = sound_later g _ sound acking_later (λ k. refl) (λ k. refl) sound.none_empty sound.short sound.whole sound.aged sound.born
      (λ k m. (
        (sound.unmade k m).0,
        changed_elim (λ x. x ≡ 0) e up_to g.acked k
            (λ q. let c : g.places k ≡ g.places e = cc in let d = fine.places in absurd (cc)) (λ o. (sound.unmade k m).1),
        (sound.unmade k m).2,
      ))
      (λ k at m. changed_elim (λ x. (x ≤ g.last at.primary k) × (x ≤ g.last at.second k) × (x ≤ g.last at.third k)) e up_to g.acked k
      (λ q. let c : Some at ≡ Some r.content.places = sym m ∙ ap g.places q ∙ fine.places in
      let d : r.content.places ≡ at = cc in
      subst (λ (x : Nodes). (up_to ≤ g.last x.primary k) × (up_to ≤ g.last x.second k) × (up_to ≤ g.last x.third k)) d
      (subst (λ x. (up_to ≤ g.last r.content.places.primary x) × (up_to ≤ g.last r.content.places.second x) × (up_to ≤ g.last r.content.places.third x)) (sym q) now_had))
      (λ o. sound.all_had k at m))

  acking_still : (m k : ℕ) → (m ≢ n) ⊎ (k ≢ e) → Still g (acking g e up_to) m k
  unfolding acking
  acking_still m k other = record {
    last = refl;
    closed = refl;
    primary = λ at made i. (
      refl,
      changed_elim (λ x. x ≡ g.acked k) e up_to g.acked k
          (λ q. let c : Some at ≡ Some r.content.places = sym made ∙ ap g.places q ∙ fine.places in
          let d : at ≡ r.content.places = cc in
          let j : m ≡ n = i ∙ ap (λ (x : Nodes). x.primary) d ∙ sym primary in
          elim other [ inl x ↦ absurd (x j) | inr x ↦ absurd (x q) ])
          (λ o. refl),
      refl,
    );
  }

  answered_fine : FineRule now g (acking g e up_to) n e (answered n r e)
  unfolding acking up_to
  answered_fine =
      let s = changed-same e up_to g.acked in
      record {
        sound = acking_sound;
        later = acking_later;
        still = acking_still;
        grown = λ k. inl (refl, refl);
        replica = record {
          places = fine.places;
          begins = fine.begins;
          phase = fine.phase;
          second_has = fine.second_has;
          third_has = fine.third_has;
          fence = fine.fence;
          born = fine.born;
          check = check_later g (acking g e up_to) acking_later n e r.content.places r.content.fence (λ i. refl) refl r.check fine.check;
          waiting = λ i. rw s (chain_drop (g.script e) (g.acked e) (count_of r) r.waiting chain);
          waits = each-drop (FineWaiting (acking g e up_to) n e) (count_of r) r.waiting (waits_later g (acking g e up_to) acking_later n e r.waiting fine.waits);
          target = fine.target;
        };
        packets = answers_fine (acking g e up_to) n e (leaving r);
        asked = λ p c. inl c;
        notes = chain_notes (acking g e up_to) e (g.acked e) _ leaving_chain (rw s (omega arith));
        apart = chain_apart (g.script e) e (g.acked e) _ leaving_chain;
        cross = each-weaker (FineNote g) _ (λ x f. chain_cross g e _ leaving_chain x f) now.told notes;
        places = λ k. refl;
        sealed = λ k. refl;
      }

-- ---- the rule

greater_fine : (old new x : ℕ) → old ≤ x → new ≤ x → greater old new ≤ x
greater_fine old new x a b = if_elim (λ y. y ≤ x) (nat_lt old new) new old (λ t. b) (λ f. a)

pub have_keeps : (now : Moment) (g : Ground) (n e l : ℕ) (r : Replica) (p : Packet) → Sound g → Each (FineNote g) now.told → FineOne g n e r →
    FineAppend g p.from (Have e l) → Keeps now g n e (have_rule n r p e l)
have_keeps now g n e l r p sound notes fine told_have =
    if_elim (Keeps now g n e) ((n == r.content.places.primary) && is_open r.content.phase) _ _
    (λ t.
    let b = and_parts (n == r.content.places.primary) (is_open r.content.phase) t in
    let primary = eqb-true n r.content.places.primary b.0 in
    let live = open_phase g n e r b.1 fine in
    if_elim (λ x. Keeps now g n e (answered_if n r e x)) (is_node r.content.places.second p.from) _ _
    (λ i.
    let more : FineOne g n e (record r { second_has = greater r.second_has l }) = record {
      places = fine.places;
      begins = fine.begins;
      phase = fine.phase;
      third_has = fine.third_has;
      waiting = fine.waiting;
      waits = fine.waits;
      target = fine.target;
      fence = fine.fence;
      born = fine.born;
      check = fine.check;
      second_has = greater_fine r.second_has l _ fine.second_has (told_have r.content.places.second i);
    } in
    (_, answered_fine now g n e (record r { second_has = greater r.second_has l }) sound notes more primary live))
    (λ no. if_elim (λ x. Keeps now g n e (answered_if n r e x)) (is_node r.content.places.third p.from) _ _
    (λ i.
    let more : FineOne g n e (record r { third_has = greater r.third_has l }) = record {
      places = fine.places;
      begins = fine.begins;
      phase = fine.phase;
      second_has = fine.second_has;
      waiting = fine.waiting;
      waits = fine.waits;
      target = fine.target;
      fence = fine.fence;
      born = fine.born;
      check = fine.check;
      third_has = greater_fine r.third_has l _ fine.third_has (told_have r.content.places.third i);
    } in
    (_, answered_fine now g n e (record r { third_has = greater r.third_has l }) sound notes more primary live))
    (λ _. kept_silent now g n e (Some r) sound fine)))
    (λ f. kept_silent now g n e (Some r) sound fine)
