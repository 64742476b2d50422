-- Agree, Kept and Origins follow from what each observation rests on.
use Rattle.std.proofs.Common.{◌≡◌, ℕ, ◌+◌, ◌<◌, ◌≤◌, List, [], ◌∷◌, Option, Some, Contains, sym, ◌∙◌, inl, inr, arith, ap, subst, ◌==◌, ◌||◌}
use Rattle.std.proofs.lemmas.Bool.{or_cases, eqb-true}
use Rattle.wire.specs.declared.note.Note.{Note}
use Rattle.wire.specs.declared.note.Note.TheVariants.{Acked, SealedAt, Content, Seen}
use Rattle.replica.specs.Groups.{Group, joined, text, size, text_length}
use Rattle.replica.proofs.Lengths.{text-append}
use Rattle.model_streams.specs.Honest.{Stands, Apart, Agree, Kept}
use Rattle.model_streams.specs.StreamSystem.{StreamSystem}
use Rattle.laws_streams.specs.Origins.{Begins, Shows, Origin, Course, DeliveredAppend, DecidedSeal, OriginsOf}
use Rattle.laws_streams.proofs.Lists.{shows_both, shows_within, same_beginning, stands_back}
use Rattle.laws_streams.proofs.Choices.{each-contains, all_pairs}
use Rattle.laws_streams.proofs.Ground.{Ground, FineAck, FineContent, FineNote}
use Rattle.laws_streams.proofs.RestsOnGround.{Holds}
use Rattle.laws_streams.proofs.GroupOrigins.{Dated, each_of-get, pair-get}

-- a beginning of the script shows its text
content_shows : {c s : List Group} → Begins c s → Shows 0 (text c) (text s)
content_shows {c} {s} b = rw (b.is, text-append c b.rest) (shows_within [] (text c) (text b.rest))

group_shows : {group : Group} {o : ℕ} {s : List Group} → Stands group o s → Shows o (joined group) (text s)
group_shows {group} {o} {s} h =
    rw (h.split, text-append h.before (group ∷ h.after), ← h.place) (shows_within (text h.before) (joined group) (text h.after))

module _ (w : StreamSystem) (g : Ground) (holds : Holds w g) where
  pub told : (x : Note) → Contains w.notes x → FineNote g x
  told x h = each-contains (FineNote g) w.notes x holds.notes h

  same_length : (a b : ℕ) (o : Option ℕ) → o ≡ Some a → o ≡ Some b → a ≡ b
  same_length a b o p q = cc

  pub agree : Agree w.notes
  agree = record {
    same_content = λ e n m c d p q.
        let x : FineContent g e c = told (Content e n c) p in
        let y : FineContent g e d = told (Content e m d) q in
        let l : text_length c ≡ text_length d = same_length _ _ (g.sealed e) x.sealed y.sealed in
        same_beginning c d x.begins.rest y.begins.rest (sym x.begins.is ∙ y.begins.is) (rw (← x.begins.is) (holds.sound.none_empty e)) l;
    content_length = λ e n l c p q.
        let x : FineContent g e c = told (Content e n c) p in
        same_length _ _ (g.sealed e) x.sealed (told (SealedAt e l) q);
    one_length = λ e l k p q. same_length l k (g.sealed e) (told (SealedAt e l) p) (told (SealedAt e k) q);
    seen_content = λ e n m o bytes c p q.
        let y : FineContent g e c = told (Content e m c) q in
        shows_both (told (Seen e n o bytes) p) (content_shows y.begins);
    seen_seen = λ e n m o p xs ys a b. shows_both (told (Seen e n o xs) a) (told (Seen e m p ys) b);
  }

  pub kept : Kept w.notes
  kept = record {
    stands = λ e n o group c p q.
        let a : FineAck g e o group = told (Acked e o group) p in
        let x : FineContent g e c = told (Content e n c) q in
        stands_back x.begins a.stands a.some (let d = acked_within e o group (text_length c) a x.sealed in d);
    shown = λ e n o p group bytes a b.
        let x : FineAck g e o group = told (Acked e o group) a in
        shows_both (group_shows x.stands) (told (Seen e n p bytes) b);
    within = λ e o l group p q. acked_within e o group l (told (Acked e o group) p) (told (SealedAt e l) q);
    apart = all_pairs Apart w.notes holds.apart;
  }
    where
      acked_within : (e o : ℕ) (group : Group) (l : ℕ) → FineAck g e o group → g.sealed e ≡ Some l → o + size group ≤ l
      acked_within e o group l a s =
          let (at, n, made, place, closed, last) = holds.sound.noted e l s in
          let had = holds.sound.all_had e at made in
          elim (or_cases (n == at.primary) ((n == at.second) || (n == at.third)) place) [
            | inl x ↦ let m : n ≡ at.primary = eqb-true n at.primary x in omega (arith, a.within, had.0, ap (λ k. g.last k e) m)
            | inr y ↦ elim (or_cases (n == at.second) (n == at.third) y) [
              | inl x ↦ let m : n ≡ at.second = eqb-true n at.second x in omega (arith, a.within, had.1, ap (λ k. g.last k e) m)
              | inr x ↦ let m : n ≡ at.third = eqb-true n at.third x in omega (arith, a.within, had.2, ap (λ k. g.last k e) m)
            ]
          ]

module _ (k : ℕ) (c : Course) (g : Ground) (holds : Holds c.last g) (dated : Dated (DeliveredAppend c) (DecidedSeal c) k g) where
  abbrev pub origins : OriginsOf c
  origins = record {
    script = g.script;
    origin = g.origin;
    one_each = holds.sound.aged;
    came = λ e i group o p q. each_of-get (DeliveredAppend c e) (g.script e) (g.origin e) i group o (dated.came e) p q;
    in_order = λ e i j o p l a b. pair-get (λ x y. x.event < y.event) (g.origin e) i j o p (dated.in_order e) l a b;
    acked = λ e o group p. (told c.last g holds (Acked e o group) p).stands;
    content = λ e n groups p. (told c.last g holds (Content e n groups) p).begins;
    seen = λ e n o bytes p. told c.last g holds (Seen e n o bytes) p;
    sealed = λ e l p. dated.decided e l (told c.last g holds (SealedAt e l) p);
  }

-- ---- a course that is told in another way

module _ (c d : Course) (event : (n : ℕ) → d.event n ≡ c.event n) (before : (n : ℕ) → d.before n ≡ c.before n) (last : d.last ≡ c.last) where
  same_came : (e : ℕ) (group : Group) (o : Origin) → DeliveredAppend c e group o → DeliveredAppend d e group o
  same_came e group o a = record {
    number = a.number;
    packet = a.packet;
    generation = a.generation;
    delivered = event o.event ∙ a.delivered;
    sent = rw (before o.event) a.sent;
    body = a.body;
    counted = a.counted;
  }

  same_decided : (e l : ℕ) → DecidedSeal c e l → DecidedSeal d e l
  same_decided e l a = record {
    number = a.number;
    extent = a.extent;
    decided = event a.number ∙ a.decided;
    there = rw (before a.number) a.there;
    unsealed = a.unsealed;
    least = a.least;
  }

  pub same_origins : OriginsOf c → OriginsOf d
  same_origins a = record {
    script = a.script;
    origin = a.origin;
    one_each = a.one_each;
    came = λ e i group o p q. same_came e group o (a.came e i group o p q);
    in_order = a.in_order;
    acked = λ e o group p. a.acked e o group (subst (λ w. Contains w.notes (Acked e o group)) last p);
    content = λ e n groups p. a.content e n groups (subst (λ w. Contains w.notes (Content e n groups)) last p);
    seen = λ e n o bytes p. a.seen e n o bytes (subst (λ w. Contains w.notes (Seen e n o bytes)) last p);
    sealed = λ e l p. same_decided e l (a.sealed e l (subst (λ w. Contains w.notes (SealedAt e l)) last p));
  }
