-- What a client sends is asked.
use Rattle.std.proofs.Common.{◌≡◌, ℕ, suc, ◌+◌, ◌-◌, ◌<◌, List, [], ◌∷◌, length, Bool, true, false, Option, Some, None, refl, sym, ◌∙◌, subst, arith, slice_get, if◌then◌else◌, ◌==◌}
use Rattle.std.proofs.lemmas.Option.{slice_get_within}
use Rattle.std.proofs.lemmas.Bool.Decides.{nat_tests}
use Rattle.block_types.specs.declared.record.Nodes.{Nodes}
use Rattle.wire.specs.declared.actor.ReqNo.{ReqNo}
use Rattle.wire.specs.declared.body.AppendBody.TheVariants as appends
use Rattle.wire.specs.declared.body.Body.TheVariants as bodies
use Rattle.wire.specs.declared.body.CheckBody.TheVariants as checks
use Rattle.wire.specs.declared.body.SealBody.TheVariants as seals
use Rattle.wire.specs.declared.body.ReadBody.TheVariants as reads
use Rattle.wire.specs.declared.body.StreamBody.TheVariants as streams
use Rattle.wire.specs.declared.streams.StreamExtent.{StreamExtent}
use Rattle.wire.specs.declared.streams.StreamName.{StreamName}
use Rattle.client.specs.Client.{ClientState, last_extent}
use Rattle.model_streams.specs.StreamSystem.{StreamSystem}
use Rattle.model_histories.specs.StreamMachine as machine
use Rattle.laws_stream_machine.specs.Refinement.{Sent, purpose_of, Checks, Seals, Reads, Appends, Extends, IsAt, extents_in, last_known, IsAsked}
use Rattle.laws_ranges.specs.Serves.{Stand, known, LastIs, number_of, IsTold, Listed, IsOwn}

pub none_last : {A : Type 0} (xs : List A) → slice_get xs (length xs - 1) ≡ None → length xs ≡ 0
none_last {A} [] q = refl
none_last {A} (x ∷ xs) q = absurd (go (length xs) xs refl x q)
  where
    go : (n : ℕ) (ys : List A) → n ≡ length ys → (y : A) → slice_get (y ∷ ys) (suc (length ys) - 1) ≡ None → ⊥
    go n ys e y t = let at : suc (length ys) - 1 ≡ length ys = omega arith in inside ys y (subst (λ z. slice_get (y ∷ ys) z ≡ None) at t)
      where
        inside : (zs : List A) (z : A) → slice_get (z ∷ zs) (length zs) ≡ None → ⊥
        inside [] z t = cc
        inside (v ∷ vs) z t = inside vs v t

pub some_last : (c : ClientState) (y : StreamExtent) → last_extent c.extents ≡ Some y → 0 < length c.extents
some_last c y q = let z : length c.extents - 1 < length c.extents = slice_get_within c.extents (length c.extents - 1) y q in omega (arith, z)

module _ (generation : ℕ → ℕ) (name : StreamName) (w : StreamSystem) (i : ℕ) (x : Stand) (sent : List Sent) where
  -- the last extent is that of its index
  pub at_last : (c : ClientState) (e index : ℕ) → IsTold generation name w i x sent c → LastIs c e index → IsAt w name index e
  at_last c e index told last =
      let inside : 0 < length c.extents = some_last c _ last.last in
      let place : c.base + (length c.extents - 1) ≡ index = omega (arith, inside, last.index_is) in
      subst (λ k. IsAt w name k e) place (told.tells.are (length c.extents - 1) _ last.last)

  known_last : (c : ClientState) → IsTold generation name w i x sent c → (o : Option StreamExtent) → last_extent c.extents ≡ o →
      number_of o ≡ last_known (extents_in w name) (known c)
  known_last c told None q =
      let none : length c.extents ≡ 0 = none_last c.extents q in
      let first = told.tells.ends none in
      let count : known c ≡ 0 = omega (arith, none, first) in
      subst (λ z. None ≡ last_known (extents_in w name) z) (sym count) refl
  known_last c told (Some y) q = go (known c == 0) refl
    where
      inside : 0 < length c.extents
      inside = some_last c y q

      place : c.base + (length c.extents - 1) ≡ known c - 1
      place = omega (arith, inside)

      go : (b : Bool) → (known c == 0) ≡ b → Some y.extent ≡ (if b then None else slice_get (extents_in w name) (known c - 1))
      go true t = let k : known c ≡ 0 = grind (arith, nat_tests) in absurd (omega (arith, inside, k))
      go false t = sym (subst (λ k. IsAt w name k y.extent) place (told.tells.are (length c.extents - 1) y q))

  module _ (listed : Listed w name) (c : ClientState) (told : IsTold generation name w i x sent c) (q : ReqNo) where
    pub append_asked : (e index append : ℕ) → LastIs c e index → purpose_of sent q ≡ Some (Appends i index append c.group) →
        machine.In (machine.AsksAppend i index append c.group) x.state.facts →
        IsAsked generation name w x.state sent (bodies.Append (appends.Append e c.generation c.group q)) × IsOwn generation name w i sent (bodies.Append (appends.Append e c.generation c.group q))
    append_asked e index append last for fact = (
      record {
        made = listed.made index e (at_last c e index told last);
        unsealed = λ k at.
            (let same : index ≡ k = listed.once index k e (at_last c e index told last) at.0 in
            record {
              i = i;
              append = append;
              for = subst (λ z. purpose_of sent q ≡ Some (Appends i z append c.group)) same for;
              under = sym told.under;
              fact = subst (λ z. machine.In (machine.AsksAppend i z append c.group) x.state.facts) same fact;
            });
        known = λ p is. (index, at_last c e index told last, record { i = i; append = append; for = for; under = sym told.under; fact = fact });
      },
      ((index, at_last c e index told last), (Appends i index append c.group, for, refl)),
    )

    pub check_asked : (e index : ℕ) → LastIs c e index → purpose_of sent q ≡ Some (Checks i index) → machine.In (machine.AsksCheck i index) x.state.facts →
        IsAsked generation name w x.state sent (bodies.Check (checks.Check e c.generation q)) × IsOwn generation name w i sent (bodies.Check (checks.Check e c.generation q))
    check_asked e index last for fact = (
      record {
        made = listed.made index e (at_last c e index told last);
        unsealed = λ k at.
            (let same : index ≡ k = listed.once index k e (at_last c e index told last) at.0 in
            record {
              i = i;
              for = subst (λ z. purpose_of sent q ≡ Some (Checks i z)) same for;
              under = sym told.under;
              fact = subst (λ z. machine.In (machine.AsksCheck i z) x.state.facts) same fact;
            });
        known = λ p is. (index, at_last c e index told last, record { i = i; for = for; under = sym told.under; fact = fact });
      },
      ((index, at_last c e index told last), (Checks i index, for, refl)),
    )

    pub seal_asked : (e index : ℕ) → IsAt w name index e → purpose_of sent q ≡ Some (Seals i index) → IsAsked generation name w x.state sent (bodies.Seal (seals.SealExtent e q)) × IsOwn generation name w i sent (bodies.Seal (seals.SealExtent e q))
    seal_asked e index here for = (
      record {
        made = listed.made index e here;
        unsealed = λ k at. record { i = i; for = subst (λ z. purpose_of sent q ≡ Some (Seals i z)) (listed.once index k e here at.0) for };
        known = λ p is. (index, here, record { i = i; for = for });
      },
      ((index, here), (Seals i index, for, refl)),
    )

    pub read_asked : (e index upto : ℕ) (sealed : Bool) → IsAt w name index e → purpose_of sent q ≡ Some (Reads i index upto) →
        IsAsked generation name w x.state sent (bodies.Read (reads.ReadGroups e upto sealed q)) × IsOwn generation name w i sent (bodies.Read (reads.ReadGroups e upto sealed q))
    read_asked e index upto sealed here for = (
      record {
        made = listed.made index e here;
        unsealed = λ k at. record { i = i; for = subst (λ z. purpose_of sent q ≡ Some (Reads i z upto)) (listed.once index k e here at.0) for };
        known = λ p is. (index, here, record { i = i; for = for });
      },
      ((index, here), (Reads i index upto, for, refl)),
    )

    pub extend_asked : (last : Option ℕ) (pick : Nodes) → last ≡ number_of (last_extent c.extents) → purpose_of sent q ≡ Some (Extends i (known c)) →
        machine.In (machine.AsksExtend i (known c)) x.state.facts →
        IsAsked generation name w x.state sent (bodies.Stream (streams.Extend c.stream c.generation last pick q)) × IsOwn generation name w i sent (bodies.Stream (streams.Extend c.stream c.generation last pick q))
    extend_asked last pick is for fact = (
      record {
        here = λ same. record {
          i = i;
          n = known c;
          for = for;
          under = sym told.under;
          known = told.tells.known;
          last_is = is ∙ known_last c told (last_extent c.extents) refl;
          fact = fact;
        };
        elsewhere = λ no. absurd (no told.stream);
      },
      (told.stream, (Extends i (known c), for, refl)),
    )
