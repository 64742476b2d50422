-- What the manager tells of a stream, and what it leaves of its streams.
use Rattle.std.proofs.Common.{◌≡◌, ◌⊎◌, ℕ, zero, suc, ◌+◌, ◌≤◌, Bool, true, false, ◌&&◌, List, [], ◌∷◌, length, Option, Some, None, slice_get, refl, sym, ap, ◌∙◌, subst, inl, inr, arith, ◌==◌, eq-eqb}
use Rattle.std.proofs.lemmas.Bool.{cases_lt, eqb-true, and_from, and_parts}
use Rattle.std.proofs.lemmas.Option.{slice_get_within}
use Rattle.wire.specs.declared.actor.ActorId.{ActorId}
use Rattle.wire.specs.declared.actor.ActorId.TheVariants.{Node, Manager, Map, Server, User}
use Rattle.wire.specs.declared.streams.StreamExtent.{StreamExtent}
use Rattle.wire.specs.declared.streams.StreamName.{StreamName}
use Rattle.replica.specs.Groups.{Group}
use Rattle.streams.specs.Streams.{Stream, Streams, stream_of, with_stream, kind_number}
use Rattle.model_streams.specs.declared.extent.Extent.{Extent}
use Rattle.model_streams.specs.Actors.{is_user}
use Rattle.model_streams.specs.Manager.{told_of, told_before, told_extents}
use Rattle.model_streams.proofs.Tests.{if_elim}
use Rattle.laws_streams.proofs.Ground.{Ground}
use Rattle.laws_streams.proofs.StreamNames.{same_name, kind_same}
use Rattle.model_histories.specs.StreamMachine.{OpenExtent, SealedExtent, base, one_if_live, shut_at, MachineState}
use Rattle.laws_stream_machine.specs.Refinement.{Sent, extents_of}
use Rattle.laws_stream_machine.proofs.SentPackets.{is_outside}
use Rattle.laws_stream_machine.proofs.MachineCore.{IsIn, Shaped, same_got}

-- ---- who asks

pub server_of : (a : ActorId) → is_outside a ≡ true → is_user a ≡ false → (server : ℕ) × (a ≡ Server server)
server_of (Server n) t u = (n, refl)
server_of (User n) t u = absurd cc
server_of (Node n) t u = absurd cc
server_of Manager t u = absurd cc
server_of Map t u = absurd cc

-- ---- names

pub is_name_or : (name other : StreamName) → (other ≡ name) ⊎ (other ≡ name → ⊥)
is_name_or name other = by_test ((name.range == other.range) && (kind_number name.kind == kind_number other.kind)) refl
  where
    by_test : (b : Bool) → ((name.range == other.range) && (kind_number name.kind == kind_number other.kind)) ≡ b → (other ≡ name) ⊎ (other ≡ name → ⊥)
    by_test true t =
        let k = and_parts (name.range == other.range) (kind_number name.kind == kind_number other.kind) t in
        inl (sym (same_name name other (eqb-true name.range other.range k.0) (kind_same name.kind other.kind (eqb-true (kind_number name.kind) (kind_number other.kind) k.1))))
    by_test false t = inr (λ is.
        let u : ((name.range == other.range) && (kind_number name.kind == kind_number other.kind)) ≡ true =
        and_from (name.range == other.range) (kind_number name.kind == kind_number other.kind)
        (eq-eqb name.range other.range (ap (λ (x : StreamName). x.range) (sym is))) (eq-eqb (kind_number name.kind) (kind_number other.kind) (ap (λ (x : StreamName). kind_number x.kind) (sym is))) in
        let c : false ≡ true = sym t ∙ u in cc)

pub with_other : (streams : Streams) (other name : StreamName) (y : Stream) → (other ≡ name → ⊥) → stream_of (with_stream streams other y) name ≡ stream_of streams name
with_other streams other name y apart =
    if_elim (λ o. o ≡ stream_of streams name) ((name.range == other.range) && (kind_number name.kind == kind_number other.kind)) (Some y) (stream_of streams name)
    (λ t.
    let k = and_parts (name.range == other.range) (kind_number name.kind == kind_number other.kind) t in
    absurd (apart (sym (same_name name other (eqb-true name.range other.range k.0) (kind_same name.kind other.kind (eqb-true (kind_number name.kind) (kind_number other.kind) k.1))))))
    (λ t. refl)

-- ---- what is told of extents

module _ (extent : ℕ → Option Extent) where
  pub told_length : (es : List ℕ) → ((i e : ℕ) → slice_get es i ≡ Some e → (x : Extent) × (extent e ≡ Some x)) → length (told_extents extent es) ≡ length es
  told_length [] all = refl
  told_length (e ∷ es) all =
      let (x, there) = all 0 e refl in
      let m = told_length es (λ i f at. all (suc i) f at) in
      ap (λ o. length (told_before e o (told_extents extent es))) there ∙ ap suc m

  pub told_get : (es : List ℕ) → ((i e : ℕ) → slice_get es i ≡ Some e → (x : Extent) × (extent e ≡ Some x)) → (index : ℕ) (y : StreamExtent) →
      slice_get (told_extents extent es) index ≡ Some y → (e : ℕ) × (x : Extent) × (slice_get es index ≡ Some e) × (extent e ≡ Some x) × (y ≡ told_of e x)
  told_get [] all index y is = absurd cc
  told_get (e ∷ es) all zero y is =
      let (x, there) = all 0 e refl in
      let first : slice_get (told_of e x ∷ told_extents extent es) 0 ≡ Some y = subst (λ o. slice_get (told_before e o (told_extents extent es)) 0 ≡ Some y) there is in
      let c : told_of e x ≡ y = cc in
      (e, x, refl, there, sym c)
  told_get (e ∷ es) all (suc i) y is =
      let (x, there) = all 0 e refl in
      let more : slice_get (told_of e x ∷ told_extents extent es) (suc i) ≡ Some y = subst (λ o. slice_get (told_before e o (told_extents extent es)) (suc i) ≡ Some y) there is in
      told_get es (λ j f at. all (suc j) f at) i y more

-- ---- sealed, or the last one

module _ (o : Option Stream) (g : Ground) (s : MachineState Group) (sent : List Sent) (shaped : Shaped o g s sent) (index e : ℕ) (at : IsIn o index e) where
  pub record SealedOrLast : Type 0 where
    pub sealed : (l : ℕ) → g.sealed e ≡ Some l → (y : SealedExtent Group) × (shut_at index s.core.shut ≡ Some y) × (y.end ≡ base index + l)
    pub last : g.sealed e ≡ None → (suc index ≡ length (extents_of o)) × ((v : OpenExtent Group) × (s.core.live ≡ Some v))

  pub sealed_or_last : SealedOrLast
  sealed_or_last = elim (cases_lt index (length s.core.shut)) [
    | inl below ↦
        let b = shaped.settled.shut index e at below in
        record {
          sealed = λ l is.
              let c : b.tied.length_at ≡ l = (let d : Some b.tied.length_at ≡ Some l = sym b.tied.sealed ∙ is in cc) in
              (b.shut, b.is, b.tied.end ∙ ap (λ z. base index + z) c);
          last = λ none. absurd (let d : None ≡ Some b.tied.length_at = sym none ∙ b.tied.sealed in cc);
        }
    | inr beyond ↦ by_live s.core.live refl beyond
  ]
    where
      by_live : (l : Option (OpenExtent Group)) → s.core.live ≡ l → length s.core.shut ≤ index → SealedOrLast
      by_live None none beyond =
          let within = slice_get_within (extents_of o) index e at in
          absurd (omega (arith, within, beyond, shaped.settled.counts, ap one_if_live none))
      by_live (Some v) is beyond =
          let within = slice_get_within (extents_of o) index e at in
          let one = ap one_if_live is in
          let which : index ≡ length s.core.shut = omega (arith, within, beyond, shaped.settled.counts, one) in
          let b = shaped.live v is in
          let same : b.extent ≡ e = same_got (extents_of o) index b.extent e (subst (λ i. slice_get (extents_of o) i ≡ Some b.extent) (sym which) b.at) at in
          let unsealed : g.sealed e ≡ None = ap g.sealed (sym same) ∙ b.tied.unsealed in
          record {
            sealed = λ l is. absurd (let d : None ≡ Some l = sym unsealed ∙ is in cc);
            last = λ none. (omega (arith, which, shaped.settled.counts, one), (v, is));
          }
