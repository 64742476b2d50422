-- What fences and the answers to checks leave, at the end of a longer run.
use Rattle.std.proofs.Common.{◌≡◌, ◌⊎◌, ℕ, zero, suc, ◌<◌, ◌≤◌, List, [], ◌∷◌, ◌++◌, length, take, Option, Some, None, slice_get, Contains, refl, sym, ap, ◌∙◌, inl, inr, arith, subst, append-nil, length-append}
use Rattle.block_types.specs.declared.record.Nodes.{Nodes}
use Rattle.wire.specs.declared.actor.ReqNo.{ReqNo}
use Rattle.wire.specs.declared.body.CheckBody.TheVariants.{Checked}
use Rattle.wire.specs.declared.body.Body.TheVariants as bodies
use Rattle.wire.specs.declared.note.Note.TheVariants.{Acked, SealedAt}
use Rattle.wire.specs.declared.packet.Packet.{Packet}
use Rattle.replica.specs.Groups.{Group, text_length}
use Rattle.replica.proofs.Lengths.{text_length-append}
use Rattle.replica.proofs.Placing.{length-cons}
use Rattle.model_streams.specs.declared.extent.Extent.{Extent}
use Rattle.model_streams.specs.Actors.{generation_of}
use Rattle.model_streams.specs.StreamSystem.{StreamSystem, start, Move, run_moves}
use Rattle.laws_streams.specs.Origins.{Origin, course_of_moves}
use Rattle.laws_streams.specs.Fences.{Covers, EndsWithin, Answers, Stays, FencesHold}
use Rattle.laws_streams.proofs.Lists.{take_past, get_next}
use Rattle.laws_streams.proofs.Choices.{each-get, each-contains}
use Rattle.laws_streams.proofs.Ground.{Ground, Sound, FineBody, FinePacket, FineAck, FineReplica, FineCover, FineChecked}
use Rattle.laws_streams.proofs.MoreKnown.{cover_later}
use Rattle.laws_streams.proofs.RestsOnGround.{places_of}
use Rattle.laws_streams.proofs.LastingLengths.{AllHad, sealed_beyond, held_at}
use Rattle.laws_streams.proofs.Claims.{told, origins}
use Rattle.laws_streams.proofs.EventSteps.{good_next}
use Rattle.laws_streams.proofs.Invariant.{After, AfterMore, after_all, from_here, first_good}

-- ---- lists

-- an element of two lists, one after the other, is one of the first or of the second
get_split : {A : Type 0} (xs ys : List A) (i : ℕ) (x : A) → slice_get (xs ++ ys) i ≡ Some x →
    ((i < length xs) × (slice_get xs i ≡ Some x)) ⊎ ((j : ℕ) × (slice_get ys j ≡ Some x))
get_split [] ys i x is = inr (i, is)
get_split (y ∷ xs) ys zero x is = inl (omega arith, is)
get_split (y ∷ xs) ys (suc i) x is = elim (get_split xs ys i x is) [ inl a ↦ inl (omega (arith, a.0), a.1) | inr a ↦ inr a ]

get_there : {A : Type 0} (xs : List A) (i : ℕ) → i < length xs → (x : A) × (slice_get xs i ≡ Some x)
get_there [] i l = absurd (omega arith)
get_there (x ∷ xs) zero l = (x, refl)
get_there (x ∷ xs) (suc i) l = get_there xs i (omega (arith, l))

take_within : (front back : List Group) (i : ℕ) → i < length front → text_length (take (suc i) (front ++ back)) ≤ text_length front
take_within [] back i l = absurd (omega arith)
take_within (x ∷ front) back zero l = omega (arith, length-cons x [], length-cons x front)
take_within (x ∷ front) back (suc i) l =
    let m = take_within front back i (omega (arith, l)) in
    omega (arith, m, length-cons x (take (suc i) (front ++ back)), length-cons x front)

take_next : {A : Type 0} (past rest : List A) (x : A) → take (suc (length past)) (past ++ x ∷ rest) ≡ past ++ x ∷ []
take_next [] rest x = refl
take_next (y ∷ past) rest x = ap (λ xs. y ∷ xs) (take_next past rest x)

-- ---- what a cover says

module _ (g : Ground) (e k l : ℕ) (c : FineCover g e k l) where
  cover_is : Covers (g.script e) (g.origin e) k l
  cover_is = record {
    front = c.front;
    begins = record { rest = c.back; is = c.split };
    ends = c.end;
    older = λ i o is low. elim (get_split c.olds c.news i o (rw (← c.origins) is)) [
      | inl a ↦ let m = take_within c.front c.back i (omega (arith, a.0, c.same)) in rw c.split (omega (arith, m, c.end))
      | inr a ↦ let m = each-get (λ x. k ≤ x.generation) c.news a.0 o c.newer a.1 in absurd (omega (arith, m, low))
    ];
  }

  acked_within : Sound g → (offset : ℕ) (group : Group) → FineAck g e offset group → EndsWithin (g.script e) (g.origin e) k l offset group
  acked_within sound offset group a =
      let s = a.stands in
      let longer : length s.before < length (g.origin e) =
      omega (arith, sound.aged e, ap (λ (x : List Group). length x) s.split, length-append s.before (group ∷ s.after)) in
      let (o, is) = get_there (g.origin e) (length s.before) longer in
      record {
        index = length s.before;
        from = o;
        is = rw s.split (get_next s.before s.after group);
        start = rw (s.split, take_past s.before (group ∷ s.after)) s.place;
        appended = is;
        within = λ low.
            let m = cover_is.older (length s.before) o is low in
            let n : text_length (take (suc (length s.before)) (g.script e)) ≡ text_length (s.before ++ group ∷ []) =
            ap text_length (ap (λ xs. take (suc (length s.before)) xs) s.split ∙ take_next s.before s.after group) in
            omega (arith, m, n, s.place, text_length-append s.before (group ∷ []), length-cons group []);
      }

  all_had : AllHad g e l
  all_had at made =
      let same : c.places ≡ at = (let d : Some c.places ≡ Some at = sym c.made ∙ made in cc) in
      subst (λ (x : Nodes). (l ≤ g.last x.primary e) × (l ≤ g.last x.second e) × (l ≤ g.last x.third e)) same c.had

-- ---- at the end of a run

module _ (w : StreamSystem) (before after : List Move) (half : After w (before ++ after) before)
    (whole : AfterMore w (before ++ after) half.ground (before ++ after)) where
  later_not_below : (e k l : ℕ) → FineCover half.ground e k l → (i : ℕ) (o : Origin) → slice_get (whole.ground.origin e) i ≡ Some o →
      length before ≤ o.event → k ≤ o.generation
  later_not_below e k l c i o is late =
      let (news, origins, newer) = whole.later.origin e in
      elim (get_split (half.ground.origin e) news i o (rw (← origins) is)) [
        | inl a ↦ let m = each-get (λ x. x.event < length before) (half.ground.origin e) i o (half.dated.earlier e) a.1 in absurd (omega (arith, m, late))
        | inr a ↦ let m = each-get (λ x. half.ground.fence e ≤ x.generation) news a.0 o newer a.1 in omega (arith, m, c.fenced)
      ]

  pub answers_hold : (answer : Packet) (request : ReqNo) (end : ℕ) → Contains (run_moves before w).post answer →
      answer.body ≡ bodies.Check (Checked request (Some end)) → Answers before after w whole.ground.script whole.ground.origin answer request end
  answers_hold answer request end stands is =
      let fine : FinePacket half.ground answer = each-contains (FinePacket half.ground) (run_moves before w).post answer half.holds.packets stands in
      let f : FineChecked half.ground answer.from answer.to request end = subst (λ b. FineBody half.ground answer.from answer.to b) is fine in
      let cover = cover_later half.ground whole.ground whole.later f.extent (generation_of answer.to f.generation) end f.covers in
      record {
        node = f.node;
        from = f.answers;
        extent = f.extent;
        generation = f.generation;
        asked = half.holds.asked _ f.asked;
        covers = cover_is whole.ground f.extent (generation_of answer.to f.generation) end cover;
        acked = λ offset group p. acked_within whole.ground f.extent (generation_of answer.to f.generation) end cover whole.holds.sound offset group
            (told (run_moves (before ++ after) w) whole.ground whole.holds (Acked f.extent offset group) p);
        held = λ n r there place. held_at whole.ground f.extent end (all_had whole.ground f.extent (generation_of answer.to f.generation) end cover) whole.holds.sound n r
            (subst (FineReplica whole.ground n f.extent) there (whole.holds.replicas n f.extent)) place;
        sealed = λ other p. sealed_beyond whole.ground f.extent end (all_had whole.ground f.extent (generation_of answer.to f.generation) end cover) whole.holds.sound other
            (told (run_moves (before ++ after) w) whole.ground whole.holds (SealedAt f.extent other) p);
        not_below = later_not_below f.extent (generation_of answer.to f.generation) end f.covers;
      }

  pub extent_stays : (e : ℕ) (x : Extent) → (run_moves before w).catalog.extent e ≡ Some x → Stays x ((run_moves (before ++ after) w).catalog.extent e)
  extent_stays e x is =
      let v = run_moves (before ++ after) w in
      let old : half.ground.places e ≡ Some x.places = half.holds.catalog.places e ∙ ap places_of is in
      let now : Some x.places ≡ places_of (v.catalog.extent e) = sym (whole.later.places e x.places old) ∙ whole.holds.catalog.places e in
      let born : whole.ground.born e ≡ x.fence = whole.later.born e x.places old ∙ half.holds.catalog.born e x is in
      by_extent (v.catalog.extent e) now (λ y there. sym (whole.holds.catalog.born e y there) ∙ born)
    where
      by_extent : (o : Option Extent) → Some x.places ≡ places_of o → ((y : Extent) → o ≡ Some y → y.fence ≡ x.fence) → Stays x o
      by_extent None p fence = absurd cc
      by_extent (Some y) p fence = record { now = y; is = refl; places = (let c : y.places ≡ x.places = cc in c); fence = fence y refl }

  pub appended_above : (e : ℕ) (x : Extent) (i : ℕ) (o : Origin) → (run_moves before w).catalog.extent e ≡ Some x → slice_get (whole.ground.origin e) i ≡ Some o →
      x.fence ≤ o.generation
  appended_above e x i o is there =
      let old : half.ground.places e ≡ Some x.places = half.holds.catalog.places e ∙ ap places_of is in
      let born : whole.ground.born e ≡ x.fence = whole.later.born e x.places old ∙ half.holds.catalog.born e x is in
      let m = each-get (λ y. whole.ground.born e ≤ y.generation) (whole.ground.origin e) i o (whole.holds.sound.born e) there in
      omega (arith, m, born)

  abbrev pub hold : FencesHold before after w
  hold = record {
    stays = extent_stays;
    above = appended_above;
    origins = origins (length (before ++ after)) (course_of_moves (before ++ after) w) whole.ground whole.holds whole.dated;
    checked = answers_hold;
  }

pub fences_hold : (nodes target : ℕ) (before after : List Move) → FencesHold before after (start nodes target)
fences_hold nodes target before after =
    let w = start nodes target in
    let moves = before ++ after in
    let first = first_good w moves nodes target refl in
    let half = good_next (after_all w moves [] before after refl first.ground (from_here w moves [] first)) in
    hold w before after half (after_all w moves before after [] (ap (λ xs. before ++ xs) (sym (append-nil after))) half.ground (from_here w moves before half))
