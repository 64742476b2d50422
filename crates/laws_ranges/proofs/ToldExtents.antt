-- What a client was told of its extents, after one is sealed and after one more is there.
use Rattle.std.proofs.Common.{◌≡◌, ℕ, zero, suc, ◌+◌, ◌-◌, ◌<◌, ◌≤◌, List, [], ◌∷◌, ◌++◌, length, false, Some, None, refl, sym, ap, ◌∙◌, subst, inl, inr, arith, slice_get, slice_set, ◌⊎◌, ⊎_elim}
use Rattle.std.proofs.lemmas.Option.{slice_get_within}
use Rattle.block_types.specs.declared.record.Nodes.{Nodes}
use Rattle.wire.specs.declared.streams.StreamExtent.{StreamExtent}
use Rattle.wire.specs.declared.streams.StreamName.{StreamName}
use Rattle.client.specs.Client.{ClientState, last_extent, sealed_last, sealed_last_if}
use Rattle.model_streams.specs.StreamSystem.{StreamSystem}
use Rattle.model_histories.specs.StreamMachine as machine
use Rattle.replica.specs.Groups.{Group}
use Rattle.laws_loads.proofs.Renaming.{more_length}
use Rattle.laws_stream_machine.specs.Refinement.{Sent, IsAt, extents_in}
use Rattle.laws_stream_machine.proofs.MachineCore.{pushed_get}
use Rattle.laws_ranges.specs.Serves.{Stand, known, LastIs, is_live, IsTold}
use Rattle.laws_ranges.proofs.ClientAsks.{some_last}

pub set_length : {A : Type 0} (xs : List A) (k : ℕ) (y : A) → length (slice_set xs k y) ≡ length xs
set_length {A} [] k y = refl
set_length {A} (x ∷ xs) zero y = refl
set_length {A} (x ∷ xs) (suc k) y = ap suc (set_length xs k y)

-- what stands in a list after a place is set
set_get : {A : Type 0} (xs : List A) (k : ℕ) (y : A) (j : ℕ) (z : A) → slice_get (slice_set xs k y) j ≡ Some z → ((j ≡ k) × (z ≡ y)) ⊎ (slice_get xs j ≡ Some z)
set_get {A} [] k y j z e = inr e
set_get {A} (x ∷ xs) zero y zero z e = inl (refl, cc)
set_get {A} (x ∷ xs) zero y (suc j) z e = inr e
set_get {A} (x ∷ xs) (suc k) y zero z e = inr e
set_get {A} (x ∷ xs) (suc k) y (suc j) z e = ⊎_elim {C = ((suc j ≡ suc k) × (z ≡ y)) ⊎ (slice_get xs j ≡ Some z)} (λ p. inl (ap suc p.0, p.1)) (λ p. inr p) (set_get xs k y j z e)

set_at : {A : Type 0} (xs : List A) (k : ℕ) (y : A) → k < length xs → slice_get (slice_set xs k y) k ≡ Some y
set_at {A} [] k y lt = absurd (omega (arith, lt))
set_at {A} (x ∷ xs) zero y lt = refl
set_at {A} (x ∷ xs) (suc k) y lt = set_at xs k y (omega (arith, lt))

more_at : {A : Type 0} (xs : List A) (y : A) → slice_get (xs ++ y ∷ []) (length xs) ≡ Some y
more_at {A} [] y = refl
more_at {A} (x ∷ xs) y = more_at xs y

-- the last of a list with one more
pub more_last : (xs : List StreamExtent) (y : StreamExtent) → last_extent (xs ++ y ∷ []) ≡ Some y
more_last xs y = let at : length (xs ++ y ∷ []) - 1 ≡ length xs = omega (arith, more_length xs y) in subst (λ k. slice_get (xs ++ y ∷ []) k ≡ Some y) (sym at) (more_at xs y)

-- the last extent sealed
abbrev pub closed : ℕ → Nodes → ℕ → StreamExtent
closed e places l = record { extent = e; places = places; length = Some l }

module _ (c : ClientState) (e index l : ℕ) (last : LastIs c e index) where
  pub sealed_is : sealed_last c.extents l ≡ slice_set c.extents (length c.extents - 1) (closed e last.places l)
  sealed_is = ap (sealed_last_if c.extents l) last.last

  pub sealed_length : length (sealed_last c.extents l) ≡ length c.extents
  sealed_length = ap length sealed_is ∙ set_length c.extents (length c.extents - 1) (closed e last.places l)

  pub sealed_end : last_extent (sealed_last c.extents l) ≡ Some (closed e last.places l)
  sealed_end =
      let some : 0 < length c.extents = some_last c _ last.last in
      let inside : length c.extents - 1 < length c.extents = omega (arith, some) in
      subst (λ k. slice_get (sealed_last c.extents l) (k - 1) ≡ Some (closed e last.places l)) (sym sealed_length)
      (subst (λ zs. slice_get zs (length c.extents - 1) ≡ Some (closed e last.places l)) (sym sealed_is) (set_at c.extents (length c.extents - 1) (closed e last.places l) inside))

module _ (generation : ℕ → ℕ) (name : StreamName) (w : StreamSystem) (i : ℕ) (x : Stand) (sent : List Sent) where
  -- the last extent is told to be sealed
  pub told_sealed : (c : ClientState) (e index l : ℕ) → IsTold generation name w i x sent c → LastIs c e index → (y : machine.SealedExtent Group) →
      machine.shut_at index x.state.core.shut ≡ Some y → y.end ≡ machine.base index + l → IsTold generation name w i x sent (record c { extents = sealed_last c.extents l })
  told_sealed c e index l told last y shut end =
      record {
        stream = told.stream;
        under = told.under;
        tells = record {
          left = told.tells.left;
          whole = told.tells.whole;
          ends = λ none. told.tells.ends (sym (sealed_length c e index l last) ∙ none);
          known = subst (λ k. c.base + k ≤ length (extents_in w name)) (sym (sealed_length c e index l last)) told.tells.known;
          are = are;
          sealed = lengths;
          unsealed = open_ones;
        };
      }
    where
      k : ℕ
      k = length c.extents - 1

      inside : 0 < length c.extents
      inside = some_last c _ last.last

      k_is : c.base + k ≡ index
      k_is = omega (arith, inside, last.index_is)

      found : (j : ℕ) (z : StreamExtent) → slice_get (sealed_last c.extents l) j ≡ Some z → ((j ≡ k) × (z ≡ closed e last.places l)) ⊎ (slice_get c.extents j ≡ Some z)
      found j z t = set_get c.extents k (closed e last.places l) j z (subst (λ zs. slice_get zs j ≡ Some z) (sealed_is c e index l last) t)

      are : (j : ℕ) (z : StreamExtent) → slice_get (sealed_last c.extents l) j ≡ Some z → IsAt w name (c.base + j) z.extent
      are j z t = ⊎_elim {C = IsAt w name (c.base + j) z.extent}
          (λ p. subst (λ v. IsAt w name (c.base + j) v.extent) (sym p.1) (subst (λ v. IsAt w name (c.base + v) e) (sym p.0) (told.tells.are k _ last.last)))
          (λ p. told.tells.are j z p) (found j z t)

      lengths : (j : ℕ) (z : StreamExtent) (m : ℕ) → slice_get (sealed_last c.extents l) j ≡ Some z → z.length ≡ Some m →
          (v : machine.SealedExtent Group) × (machine.shut_at (c.base + j) x.state.core.shut ≡ Some v) × (v.end ≡ machine.base (c.base + j) + m)
      lengths j z m t is = ⊎_elim {C = (v : machine.SealedExtent Group) × (machine.shut_at (c.base + j) x.state.core.shut ≡ Some v) × (v.end ≡ machine.base (c.base + j) + m)}
          (λ p.
          (let at : c.base + j ≡ index = ap (λ v. c.base + v) p.0 ∙ k_is in
          let same : Some l ≡ Some m = sym (ap (λ (v : StreamExtent). v.length) p.1) ∙ is in
          let lm : l ≡ m = (cc) in
          (y, subst (λ v. machine.shut_at v x.state.core.shut ≡ Some y) (sym at) shut, subst (λ v. y.end ≡ machine.base v + m) (sym at) (subst (λ v. y.end ≡ machine.base index + v) lm end))))
          (λ p. told.tells.sealed j z m p is) (found j z t)

      open_ones : (j : ℕ) (z : StreamExtent) → slice_get (sealed_last c.extents l) j ≡ Some z → z.length ≡ None → suc j ≡ length (sealed_last c.extents l)
      open_ones j z t none = ⊎_elim {C = suc j ≡ length (sealed_last c.extents l)}
          (λ p. (let same : Some l ≡ None = sym (ap (λ (v : StreamExtent). v.length) p.1) ∙ none in absurd (cc)))
          (λ p. told.tells.unsealed j z p none ∙ sym (sealed_length c e index l last)) (found j z t)

  -- where no extent is open, one more is told
  pub told_more : (c : ClientState) (e : ℕ) (places : Nodes) → IsTold generation name w i x sent c → is_live (last_extent c.extents) ≡ false → IsAt w name (known c) e →
      IsTold generation name w i x sent (record c { extents = c.extents ++ record { extent = e; places = places; length = None } ∷ []; checked = None })
  told_more c e places told all_sealed at =
      record {
        stream = told.stream;
        under = told.under;
        tells = record {
          left = told.tells.left;
          whole = told.tells.whole;
          ends = λ none. absurd (omega (arith, none, more_length c.extents new));
          known = (let inside : known c < length (extents_in w name) = slice_get_within (extents_in w name) (known c) e at in omega (arith, more_length c.extents new, inside));
          are = are;
          sealed = lengths;
          unsealed = open_ones;
        };
      }
    where
      new : StreamExtent
      new = record { extent = e; places = places; length = None }

      are : (j : ℕ) (z : StreamExtent) → slice_get (c.extents ++ new ∷ []) j ≡ Some z → IsAt w name (c.base + j) z.extent
      are j z t = ⊎_elim {C = IsAt w name (c.base + j) z.extent}
          (λ p. told.tells.are j z p)
          (λ p. subst (λ v. IsAt w name (c.base + j) v.extent) (sym p.1) (subst (λ v. IsAt w name (c.base + v) e) (sym p.0) at)) (pushed_get c.extents new j z t)

      lengths : (j : ℕ) (z : StreamExtent) (m : ℕ) → slice_get (c.extents ++ new ∷ []) j ≡ Some z → z.length ≡ Some m →
          (v : machine.SealedExtent Group) × (machine.shut_at (c.base + j) x.state.core.shut ≡ Some v) × (v.end ≡ machine.base (c.base + j) + m)
      lengths j z m t is = ⊎_elim {C = (v : machine.SealedExtent Group) × (machine.shut_at (c.base + j) x.state.core.shut ≡ Some v) × (v.end ≡ machine.base (c.base + j) + m)}
          (λ p. told.tells.sealed j z m p is)
          (λ p. (let same : None ≡ Some m = sym (ap (λ (v : StreamExtent). v.length) p.1) ∙ is in absurd (cc))) (pushed_get c.extents new j z t)

      was_sealed : (j : ℕ) (z : StreamExtent) → slice_get c.extents j ≡ Some z → z.length ≡ None → ⊥
      was_sealed j z t none =
          let place : suc j ≡ length c.extents = told.tells.unsealed j z t none in
          let k : length c.extents - 1 ≡ j = omega (arith, place) in
          let last : last_extent c.extents ≡ Some z = subst (λ v. slice_get c.extents v ≡ Some z) (sym k) t in
          let live : is_live (Some (record z { length = None })) ≡ false = subst (λ v. is_live v ≡ false) (last ∙ ap (λ v. Some (record z { length = v })) none) all_sealed in
          cc

      open_ones : (j : ℕ) (z : StreamExtent) → slice_get (c.extents ++ new ∷ []) j ≡ Some z → z.length ≡ None → suc j ≡ length (c.extents ++ new ∷ [])
      open_ones j z t none = ⊎_elim {C = suc j ≡ length (c.extents ++ new ∷ [])}
          (λ p. absurd (was_sealed j z p none))
          (λ p. ap suc p.0 ∙ sym (more_length c.extents new)) (pushed_get c.extents new j z t)
