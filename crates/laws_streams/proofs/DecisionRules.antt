-- The manager's rules of sealing keep what is known: what is decided is the length of a place that is closed.
use Rattle.std.proofs.Common.{◌≡◌, ◌⊎◌, ℕ, ◌≤◌, true, false, ◌||◌, ◌==◌, nat_le, if◌then◌else◌, List, [], ◌∷◌, Option, Some, None, refl, sym, ◌∙◌, inl, inr, arith, ap, eq-eqb}
use Rattle.std.proofs.lemmas.Bool.{or_left, or_right, leb-true, leb-false}
use Rattle.block_types.specs.declared.record.Nodes.{Nodes}
use Rattle.wire.specs.declared.actor.ActorId.{ActorId}
use Rattle.wire.specs.declared.actor.ActorId.TheVariants.{Manager}
use Rattle.wire.specs.declared.actor.ReqNo.{ReqNo}
use Rattle.wire.specs.declared.body.SealBody.TheVariants.{Frozen}
use Rattle.wire.specs.declared.note.Note.{Note}
use Rattle.wire.specs.declared.note.Note.TheVariants.{Acked, SealedAt}
use Rattle.wire.specs.declared.packet.Packet.{Packet}
use Rattle.wire.specs.declared.refusal.Refusal.TheVariants.{NoSuchExtent}
use Rattle.replica.specs.Replay.{is_place}
use Rattle.model_streams.specs.declared.extent.Asker.{Asker}
use Rattle.model_streams.specs.declared.extent.Extent.{Extent}
use Rattle.model_streams.specs.declared.extent.PlaceReport.{PlaceReport}
use Rattle.model_streams.specs.Actors.{is_node}
use Rattle.model_streams.specs.Honest.{Apart}
use Rattle.model_streams.specs.Manager.{Catalog, with_extent, is_there, closes, reminders, told_sealed, seal_asked, seal_extent_rule, with_report, noted, frozen_to, frozen_rule, known_sealed, is_sealed_rule, place_of, first_sealed, asks_tail, short_rule, lesser_of, least_told, tells_asker, sealed_to, decided, decided_if, decide_rule}
use Rattle.model_streams.specs.Maps.{changed}
use Rattle.model_streams.specs.Outcome.{silent, sends}
use Rattle.model_streams.proofs.Tests.{if_elim}
use Rattle.laws_streams.specs.Origins.{LeastTold}
use Rattle.laws_streams.proofs.Lists.{begins_refl}
use Rattle.laws_streams.proofs.Choices.{changed_elim, changed-same, Each, each-append}
use Rattle.laws_streams.proofs.Ground.{Ground, Sound, FineSeal, FinePacket}
use Rattle.laws_streams.proofs.MoreKnown.{no_more, Later}
use Rattle.laws_streams.proofs.RestsOnGround.{places_of, sealed_of, FineReport, FineReports, FineReportsOf, FineCatalog, reports_later}
use Rattle.laws_streams.proofs.RuleInvariant.{each_all, Rules, plain_rule, silent_rule, refused_rule}
use Rattle.laws_streams.proofs.RisingFences.{not_there}

-- ---- what the places are told

closes_fine : (g : Ground) (e : ℕ) (o : Option ℕ) → g.sealed e ≡ o → FineSeal g Manager (closes e o)
closes_fine g e None is = tt
closes_fine g e (Some l) is = is

reminders_fine : (g : Ground) (b : Catalog) (e : ℕ) (x : Extent) → (g.places e ≡ Some x.places) × (g.born e ≡ x.fence) → g.sealed e ≡ x.sealed → Each (FinePacket g) (reminders b e x)
reminders_fine g b e x made sealed = let c = closes_fine g e x.sealed sealed in (made, (made, (made, (c, (c, (c, tt))))))

module _ (News : ℕ → ℕ → Type 0) (told : List Note) (g : Ground) (b : Catalog) (sound : Sound g) (catalog : FineCatalog g b) (e : ℕ) where
  places_here : (x : Extent) → b.extent e ≡ Some x → g.places e ≡ Some x.places
  places_here x is = catalog.places e ∙ ap places_of is

  sealed_here : (x : Extent) → b.extent e ≡ Some x → g.sealed e ≡ x.sealed
  sealed_here x is = catalog.sealed e ∙ ap sealed_of is

  reports_here : (o : Option Extent) (x : Extent) → FineReportsOf g e o → o ≡ Some x → FineReports g e x
  reports_here None x f is = absurd cc
  reports_here (Some y) x f is = let c : y ≡ x = cc in rw (← c) f

  reminded : (x : Extent) → b.extent e ≡ Some x → Each (FinePacket g) (reminders b e x)
  reminded x is = reminders_fine g b e x (places_here x is, catalog.born e x is) (sealed_here x is)

  -- an extent with another asker, or with other reports
  renewed : (x y : Extent) → b.extent e ≡ Some x → y.places ≡ x.places → y.sealed ≡ x.sealed → y.fence ≡ x.fence → FineReports g e y → FineCatalog g (with_extent b e y)
  renewed x y is places sealed fence reports = record {
    places = λ k. changed_elim (λ o. g.places k ≡ places_of o) e (Some y) b.extent k (λ q. rw (q, places) (places_here x is)) (λ o. catalog.places k);
    sealed = λ k. changed_elim (λ o. g.sealed k ≡ sealed_of o) e (Some y) b.extent k (λ q. rw (q, sealed) (sealed_here x is)) (λ o. catalog.sealed k);
    born = λ k z. changed_elim (λ o. o ≡ Some z → g.born k ≡ z.fence) e (Some y) b.extent k
        (λ q m. let c : y ≡ z = cc in rw (q, ← c, fence) (catalog.born e x is)) (λ o. catalog.born k z);
    fresh = λ k l. changed_elim (λ o. o ≡ None) e (Some y) b.extent k
        (λ q. absurd (let c : b.extent e ≡ None = ap b.extent (sym q) ∙ catalog.fresh k l in cc)) (λ o. catalog.fresh k l);
    reports = λ k. changed_elim (λ o. FineReportsOf g k o) e (Some y) b.extent k (λ q. rw q reports) (λ o. catalog.reports k);
  }

  -- ---- SealExtent

  seal_asked_keeps : (p : Packet) (q : ReqNo) (x : Extent) → b.extent e ≡ Some x → (o : Option ℕ) → Rules News told g (seal_asked b p e q x o)
  seal_asked_keeps p q x is (Some l) =
      plain_rule News told g b sound catalog _ (each-append (FinePacket g) (reminders b e x) (told_sealed p.from q e l) (reminded x is) (tt, tt))
  seal_asked_keeps p q x is None =
      let r = reports_here (b.extent e) x (catalog.reports e) is in
      let y : Extent = record x { asker = Some (record { who = p.from; request = q }) } in
      plain_rule News told g (with_extent b e y) sound
      (renewed x y is refl refl refl (record { primary = r.primary; second = r.second; third = r.third })) _ (reminded x is)

  pub seal_extent_keeps : (p : Packet) (q : ReqNo) (o : Option Extent) → b.extent e ≡ o → Rules News told g (seal_extent_rule b p e q o)
  seal_extent_keeps p q None is = refused_rule News told g b sound catalog p q NoSuchExtent
  seal_extent_keeps p q (Some x) is = seal_asked_keeps p q x is x.sealed

  -- ---- Frozen and IsSealed

  -- what a place tells is noted where it is fine
  reported_keeps : (from : ActorId) (news : PlaceReport → PlaceReport) (x : Extent) → b.extent e ≡ Some x →
      ((n : ℕ) (report : PlaceReport) → is_node n from ≡ true → FineReport g n e report → FineReport g n e (news report)) →
      Rules News told g (noted b e (with_report x from news))
  reported_keeps from news x is fine =
      let r = reports_here (b.extent e) x (catalog.reports e) is in
      if_elim (λ o. Rules News told g (noted b e o)) (is_node x.places.primary from) (Some (record x { primary = news x.primary })) _
      (λ t. silent_rule News told g (with_extent b e (record x { primary = news x.primary })) sound
      (renewed x (record x { primary = news x.primary }) is refl refl refl
      (record { primary = fine x.places.primary x.primary t r.primary; second = r.second; third = r.third })))
      (λ _. if_elim (λ o. Rules News told g (noted b e o)) (is_node x.places.second from) (Some (record x { second = news x.second })) _
      (λ t. silent_rule News told g (with_extent b e (record x { second = news x.second })) sound
      (renewed x (record x { second = news x.second }) is refl refl refl
      (record { primary = r.primary; second = fine x.places.second x.second t r.second; third = r.third })))
      (λ _. if_elim (λ o. Rules News told g (noted b e o)) (is_node x.places.third from) (Some (record x { third = news x.third })) None
      (λ t. silent_rule News told g (with_extent b e (record x { third = news x.third })) sound
      (renewed x (record x { third = news x.third }) is refl refl refl
      (record { primary = r.primary; second = r.second; third = fine x.places.third x.third t r.third })))
      (λ _. silent_rule News told g b sound catalog)))

  pub frozen_keeps : (p : Packet) (l : ℕ) → FineSeal g p.from (Frozen e l) → (o : Option Extent) → b.extent e ≡ o → Rules News told g (frozen_rule b p e l o)
  frozen_keeps p l fine None is = silent_rule News told g b sound catalog
  frozen_keeps p l fine (Some x) is =
      if_elim (Rules News told g) (is_there x.sealed) (silent b) (noted b e (with_report x p.from (frozen_to l)))
      (λ t. silent_rule News told g b sound catalog)
      (λ f. reported_keeps p.from (frozen_to l) x is (λ n report from old k same. let c : l ≡ k = cc in let a = fine n from in (a.0, a.1 ∙ c)))

  pub is_sealed_keeps : (p : Packet) (o : Option Extent) → b.extent e ≡ o → Rules News told g (is_sealed_rule b p e o)
  is_sealed_keeps p None is = silent_rule News told g b sound catalog
  is_sealed_keeps p (Some x) is = reported_keeps p.from known_sealed x is (λ n report from old. old)

  -- ---- Short

  asks_keeps : (l : ℕ) (to n : Option ℕ) → Rules News told g (asks_tail b e l to n)
  asks_keeps l (Some to) (Some n) = plain_rule News told g b sound catalog _ (tt, tt)
  asks_keeps l (Some to) None = silent_rule News told g b sound catalog
  asks_keeps l None (Some n) = silent_rule News told g b sound catalog
  asks_keeps l None None = silent_rule News told g b sound catalog

  pub short_keeps : (p : Packet) (l : ℕ) (o : Option Extent) → Rules News told g (short_rule b p e l o)
  short_keeps p l None = silent_rule News told g b sound catalog
  short_keeps p l (Some x) =
      if_elim (Rules News told g) (is_there x.sealed) _ (silent b) (λ t. asks_keeps l (place_of x.places p.from) (first_sealed x)) (λ f. silent_rule News told g b sound catalog)

-- ---- the least length

lesser_told : (a b : Option ℕ) (l : ℕ) → lesser_of a b ≡ Some l → (a ≡ Some l) ⊎ (b ≡ Some l)
lesser_told None b l is = inr is
lesser_told (Some a) None l is = inl is
lesser_told (Some a) (Some b) l is =
    if_elim (λ x. Some x ≡ Some l → (Some a ≡ Some l) ⊎ (Some b ≡ Some l)) (nat_le a b) a b (λ t k. inl k) (λ f k. inr k) is

lesser_least : (a b : Option ℕ) (l : ℕ) → lesser_of a b ≡ Some l → (k : ℕ) → (a ≡ Some k) ⊎ (b ≡ Some k) → l ≤ k
lesser_least None b l is k (inl c) = absurd cc
lesser_least None b l is k (inr c) = let d : l ≡ k = cc in omega (arith, d)
lesser_least (Some a) None l is k (inl c) = let d : l ≡ k = cc in omega (arith, d)
lesser_least (Some a) None l is k (inr c) = absurd cc
lesser_least (Some a) (Some b) l is k c =
    if_elim (λ x. Some x ≡ Some l → l ≤ k) (nat_le a b) a b
    (λ t s. let d : a ≡ l = cc in let m = leb-true a b t in elim c [
      | inl e ↦ let f : a ≡ k = cc in omega (arith, d, f)
      | inr e ↦ let f : b ≡ k = cc in omega (arith, d, f, m)
    ])
    (λ t s. let d : b ≡ l = cc in let m = leb-false a b t in elim c [
      | inl e ↦ let f : a ≡ k = cc in omega (arith, d, f, m)
      | inr e ↦ let f : b ≡ k = cc in omega (arith, d, f)
    ]) is

-- the lesser of the second's and the third's, if one of them told one, is there
lesser_there : (a b : Option ℕ) (k : ℕ) → (a ≡ Some k) ⊎ (b ≡ Some k) → (l : ℕ) × (lesser_of a b ≡ Some l) × (l ≤ k)
lesser_there None b k (inl c) = absurd cc
lesser_there None b k (inr c) = (k, c, omega arith)
lesser_there (Some a) None k (inl c) = (k, c, omega arith)
lesser_there (Some a) None k (inr c) = absurd cc
lesser_there (Some a) (Some b) k c = (if nat_le a b then a else b, refl, lesser_least (Some a) (Some b) (if nat_le a b then a else b) refl k c)

least_is : (x : Extent) (l : ℕ) → least_told x ≡ Some l → LeastTold x l
least_is x l is =
    record {
      told = elim (lesser_told x.primary.frozen (lesser_of x.second.frozen x.third.frozen) l is)
          [ inl k ↦ inl k | inr k ↦ inr (lesser_told x.second.frozen x.third.frozen l k) ];
      least = λ k t. elim t [
        | inl c ↦ lesser_least x.primary.frozen (lesser_of x.second.frozen x.third.frozen) l is k (inl c)
        | inr c ↦
            let (m, there, less) = lesser_there x.second.frozen x.third.frozen k c in
            let f = lesser_least x.primary.frozen (lesser_of x.second.frozen x.third.frozen) l is m (inr there) in
            omega (arith, f, less)
      ];
    }

place_primary : (at : Nodes) → is_place at.primary at ≡ true
place_primary at = or_left (at.primary == at.primary) ((at.primary == at.second) || (at.primary == at.third)) (eq-eqb at.primary at.primary refl)

place_second : (at : Nodes) → is_place at.second at ≡ true
place_second at = or_right (at.second == at.primary) ((at.second == at.second) || (at.second == at.third))
    (or_left (at.second == at.second) (at.second == at.third) (eq-eqb at.second at.second refl))

place_third : (at : Nodes) → is_place at.third at ≡ true
place_third at = or_right (at.third == at.primary) ((at.third == at.second) || (at.third == at.third))
    (or_right (at.third == at.second) (at.third == at.third) (eq-eqb at.third at.third refl))

-- ---- decide

-- extent e is sealed at this length
sealing : Ground → ℕ → ℕ → Ground
sealing g e l = record g { sealed = changed e (Some l) g.sealed }

apart_sealed : (e l : ℕ) (x : Note) → Each (Apart x) (SealedAt e l ∷ [])
apart_sealed e l (Acked f p group) = (tt, tt)
apart_sealed e l x = (tt, tt)

-- what a decision seals
abbrev pub SealsNow : ℕ → Option Extent → ℕ → ℕ → Type 0
SealsNow e o k l = (x : Extent) × (k ≡ e) × (o ≡ Some x) × (x.sealed ≡ None) × LeastTold x l

module _ (told : List Note) (g : Ground) (b : Catalog) (sound : Sound g) (catalog : FineCatalog g b) (e : ℕ) (x : Extent) (is : b.extent e ≡ Some x)
    (unsealed : x.sealed ≡ None) (l : ℕ) (found : least_told x ≡ Some l) where
  -- the length is that of a place that takes no more appends
  some_place : (n : ℕ) × (is_place n x.places ≡ true) × (g.closed n e ≡ true) × (g.last n e ≡ l)
  some_place =
      let r = reports_here (λ k j. ⊥) told g b sound catalog e (b.extent e) x (catalog.reports e) is in
      let least = least_is x l found in
      elim least.told [
        | inl k ↦ let f = r.primary l k in (x.places.primary, place_primary x.places, f.0, f.1)
        | inr s ↦ elim s [
          | inl k ↦ let f = r.second l k in (x.places.second, place_second x.places, f.0, f.1)
          | inr k ↦ let f = r.third l k in (x.places.third, place_third x.places, f.0, f.1)
        ]
      ]

  made : g.places e ≡ Some x.places
  made = catalog.places e ∙ ap places_of is

  not_yet : g.sealed e ≡ None
  not_yet = catalog.sealed e ∙ ap sealed_of is ∙ unsealed

  sealing_later : Later g (sealing g e l)
  unfolding sealing
  sealing_later = record {
    script = λ k. begins_refl (g.script k);
    acked = λ k. omega arith;
    places = λ k at h. h;
    born = λ k at h. refl;
    last = λ m k. omega arith;
    closed = λ m k c. (c, refl);
    origin = λ k. no_more (g.fence k) (g.origin k);
    fence = λ k. omega arith;
    asked = λ p c. c;
    sealed = λ k j m. changed_elim (λ y. y ≡ Some j) e (Some l) g.sealed k (λ q. let c : g.sealed k ≡ None = ap g.sealed q ∙ not_yet in absurd (cc)) (λ o. m);
  }

  sealing_sound : Sound (sealing g e l)
  unfolding sealing
  sealing_sound = record {
    none_empty = sound.none_empty;
    short = sound.short;
    whole = sound.whole;
    aged = sound.aged;
    born = sound.born;
    unmade = sound.unmade;
    all_had = sound.all_had;
    noted = λ k j. changed_elim (λ y. y ≡ Some j →
        (at : Nodes) × (n : ℕ) × (g.places k ≡ Some at) × (is_place n at ≡ true) × (g.closed n k ≡ true) × (g.last n k ≡ j)) e (Some l) g.sealed k
        (λ q m.
        let (n, place, closed, last) = some_place in
        let c : l ≡ j = cc in
        (x.places, n, ap g.places q ∙ made, place, ap (g.closed n) q ∙ closed, ap (g.last n) q ∙ (last ∙ c)))
        (λ o m. sound.noted k j m);
  }

  sealed_reports : FineReports g e (sealed_to x l)
  sealed_reports =
      let r = reports_here (λ k j. ⊥) told g b sound catalog e (b.extent e) x (catalog.reports e) is in
      record { primary = r.primary; second = r.second; third = r.third }

  asker_fine : (o : Option Asker) → Each (FinePacket (sealing g e l)) (tells_asker e l o)
  asker_fine None = tt
  asker_fine (Some a) = (tt, tt)

  decided_catalog : FineCatalog (sealing g e l) (with_extent b e (sealed_to x l))
  unfolding sealing
  decided_catalog = record {
    places = λ j. changed_elim (λ y. g.places j ≡ places_of y) e (Some (sealed_to x l)) b.extent j
        (λ q. ap g.places q ∙ made) (λ o. catalog.places j);
    sealed = λ j. elim (j == e) as (λ t. (if t then Some l else g.sealed j) ≡ sealed_of (if t then Some (sealed_to x l) else b.extent j))
        [ true ↦ refl | false ↦ catalog.sealed j ];
    born = λ j z. changed_elim (λ o. o ≡ Some z → g.born j ≡ z.fence) e (Some (sealed_to x l)) b.extent j
        (λ q m. let c : x.fence ≡ z.fence = (let d : sealed_to x l ≡ z = cc in ap (λ (v : Extent). v.fence) d) in rw (q, ← c) (catalog.born e x is)) (λ o. catalog.born j z);
    fresh = λ j k. changed_elim (λ y. y ≡ None) e (Some (sealed_to x l)) b.extent j
        (λ q. absurd (let c : b.extent e ≡ None = ap b.extent (sym q) ∙ catalog.fresh j k in cc)) (λ o. catalog.fresh j k);
    reports = λ j. reports_later g (sealing g e l) sealing_later j _
        (changed_elim (λ o. FineReportsOf g j o) e (Some (sealed_to x l)) b.extent j (λ q. rw q sealed_reports) (λ o. catalog.reports j));
  }

  decided_keeps : Rules (SealsNow e (b.extent e)) told g (decided b e x l)
  unfolding sealing
  decided_keeps =
      let here = changed-same e (Some l) g.sealed in (
        sealing g e l,
        record {
          sound = sealing_sound;
          later = sealing_later;
          still = λ n j. record { last = refl; closed = refl; primary = λ at m i. (refl, refl, refl) };
          unmoved = λ j. (refl, refl);
          sealed = λ k j. changed_elim (λ y. y ≡ Some j → (g.sealed k ≡ Some j) ⊎ SealsNow e (b.extent e) k j) e (Some l) g.sealed k
              (λ q m. let c : l ≡ j = cc in inr (x, q, is, unsealed, rw (← c) (least_is x l found))) (λ o m. inl m);
          catalog = decided_catalog;
          asked = λ p c. c;
          packets = each-append (FinePacket (sealing g e l)) (reminders b e (sealed_to x l)) (tells_asker e l x.asker)
              (reminders_fine (sealing g e l) b e (sealed_to x l) (made, catalog.born e x is) here) (asker_fine x.asker);
          notes = (here, tt);
          apart = (tt, tt);
          cross = each_all _ (apart_sealed e l) told;
        },
      )

pub decide_keeps : (told : List Note) (g : Ground) (b : Catalog) (e : ℕ) (o : Option Extent) → b.extent e ≡ o → Sound g → FineCatalog g b →
    Rules (SealsNow e (b.extent e)) told g (decide_rule b e o)
decide_keeps told g b e None is sound catalog = silent_rule _ told g b sound catalog
decide_keeps told g b e (Some x) is sound catalog =
    if_elim (Rules (SealsNow e (b.extent e)) told g) (is_there x.sealed) (sends b (reminders b e x)) (decided_if b e x (least_told x))
    (λ t. plain_rule _ told g b sound catalog _ (reminded (SealsNow e (b.extent e)) told g b sound catalog e x is))
    (λ f. by_least (not_there x.sealed f) (least_told x) refl)
  where
    by_least : x.sealed ≡ None → (found : Option ℕ) → least_told x ≡ found → Rules (SealsNow e (b.extent e)) told g (decided_if b e x found)
    by_least u None k = silent_rule _ told g b sound catalog
    by_least u (Some l) k = decided_keeps told g b sound catalog e x is u l k
