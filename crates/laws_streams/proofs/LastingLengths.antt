-- A length that each place of an extent has had is kept: by each replica, and by the seal.
use Rattle.std.proofs.Common.{◌≡◌, ℕ, true, ◌≤◌, ◌||◌, ◌==◌, Some, inl, inr, arith, ap}
use Rattle.std.proofs.lemmas.Bool.{or_cases, eqb-true}
use Rattle.block_types.specs.declared.record.Nodes.{Nodes}
use Rattle.replica.specs.declared.phase.Phase.{Phase}
use Rattle.replica.specs.declared.phase.Phase.TheVariants as phases
use Rattle.replica.specs.Groups.{text_length}
use Rattle.replica.specs.Replay.{is_place}
use Rattle.model_streams.specs.Node.{Replica}
use Rattle.laws_streams.proofs.Ground.{Ground, Sound, FinePhase, FineOne}

-- each of the three places has had so much
abbrev pub AllHad : Ground → ℕ → ℕ → Type 0
AllHad g e l = (at : Nodes) → g.places e ≡ Some at → (l ≤ g.last at.primary e) × (l ≤ g.last at.second e) × (l ≤ g.last at.third e)

module _ (g : Ground) (e l : ℕ) (all : AllHad g e l) where
  pub place_had : (n : ℕ) (at : Nodes) → g.places e ≡ Some at → is_place n at ≡ true → l ≤ g.last n e
  place_had n at made place =
      let had = all at made in
      elim (or_cases (n == at.primary) ((n == at.second) || (n == at.third)) place) [
        | inl x ↦ let m : n ≡ at.primary = eqb-true n at.primary x in omega (arith, had.0, ap (λ j. g.last j e) m)
        | inr y ↦ elim (or_cases (n == at.second) (n == at.third) y) [
          | inl x ↦ let m : n ≡ at.second = eqb-true n at.second x in omega (arith, had.1, ap (λ j. g.last j e) m)
          | inr x ↦ let m : n ≡ at.third = eqb-true n at.third x in omega (arith, had.2, ap (λ j. g.last j e) m)
        ]
      ]

  pub sealed_beyond : Sound g → (other : ℕ) → g.sealed e ≡ Some other → l ≤ other
  sealed_beyond sound other is =
      let (at, n, made, place, closed, last) = sound.noted e other is in
      let m = place_had n at made place in
      omega (arith, m, last)

  pub held_at : Sound g → (n : ℕ) (r : Replica) → FineOne g n e r → is_place n r.content.places ≡ true → l ≤ text_length r.content.groups
  held_at sound n r fine place = by_phase r.content.phase fine.phase
    where
      by_phase : (phase : Phase) → FinePhase g n e r.content.places r.content.groups phase → l ≤ text_length r.content.groups
      by_phase phases.Open f = let m = place_had n r.content.places fine.places place in omega (arith, m, f.1)
      by_phase phases.Frozen f = let m = place_had n r.content.places fine.places place in omega (arith, m, f.1)
      by_phase phases.Sealed f = sealed_beyond sound (text_length r.content.groups) f.1
