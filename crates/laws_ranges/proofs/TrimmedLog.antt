-- A client whose stream is trimmed knows its extents as before, but for the first of them, which are sealed; and it goes on with its
-- append job. The last extent stays.
use Rattle.std.proofs.Common.{◌≡◌, ◌⊎◌, ⊎_elim, ℕ, zero, suc, ◌+◌, ◌-◌, ◌<◌, ◌≤◌, max, min, nat_lt, ◌==◌, Bool, true, false, inl, inr, if◌then◌else◌, List, [], ◌∷◌, length, drop, Option, Some, None, slice_get, refl, sym, ap, ◌∙◌, subst, arith}
use Rattle.std.proofs.Math.Nat.{max-eq_left, max-eq_right, min-le_right}
use Rattle.std.proofs.lemmas.Bool.{ltb-true, ltb-false, eqb-true, eqb-false}
use Rattle.std.proofs.lemmas.List.{length-drop}
use Rattle.streams.specs.declared.table.Position.{Position}
use Rattle.model_partition.specs.Checkpoints.{trim_index}
use Rattle.wire.specs.declared.streams.StreamExtent.{StreamExtent}
use Rattle.wire.specs.declared.streams.StreamKind.TheVariants as kinds
use Rattle.wire.specs.declared.streams.StreamName.{StreamName}
use Rattle.replica.specs.Groups.{Group}
use Rattle.client.specs.declared.job.Job.{Job}
use Rattle.client.specs.declared.job.Job.TheVariants as jobs
use Rattle.client.specs.Client.{ClientState, last_extent}
use Rattle.model_streams.specs.StreamSystem.{StreamSystem}
use Rattle.model_histories.specs.ServerTurns as turns
use Rattle.model_histories.specs.StreamMachine as machine
use Rattle.laws_stream_machine.specs.Refinement.{Sent, purpose_of, Extends, IsAt, extents_in}
use Rattle.laws_ranges.specs.Serves.{BeginsInLog, log_of, Stand, known, is_live, number_of, LastIs, IsTold, ServesBy, ServingIs}

lt_or_le : (a b : ℕ) → (a < b) ⊎ (b ≤ a)
lt_or_le a b = go (nat_lt a b) refl
  where
    go : (t : Bool) → nat_lt a b ≡ t → (a < b) ⊎ (b ≤ a)
    go true e = inl (ltb-true a b e)
    go false e = inr (ltb-false a b e)

-- ---- lists without their first elements

dropped_get : {A : Type 0} (n : ℕ) (xs : List A) (k : ℕ) → slice_get (drop n xs) k ≡ slice_get xs (n + k)
dropped_get {A} zero [] k = refl
dropped_get {A} zero (x ∷ xs) k = let e : zero + k ≡ k = omega arith in ap (slice_get (x ∷ xs)) (sym e)
dropped_get {A} (suc n) [] k = refl
dropped_get {A} (suc n) (x ∷ xs) k = let e : suc n + k ≡ suc (n + k) = omega arith in dropped_get n xs k ∙ ap (slice_get (x ∷ xs)) (sym e)

some_there : {A : Type 0} (xs : List A) (k : ℕ) → k < length xs → (x : A) × (slice_get xs k ≡ Some x)
some_there {A} [] k lt = absurd (omega (arith, lt))
some_there {A} (x ∷ xs) zero lt = (x, refl)
some_there {A} (x ∷ xs) (suc k) lt = some_there xs k (omega (arith, lt))

-- ---- a client without its first extents

abbrev pub cut : ClientState → ℕ → ClientState
cut c n = record c { base = c.base + n; extents = drop n c.extents }

module _ (c : ClientState) (n : ℕ) (stays : (n ≡ 0) ⊎ (n < length c.extents)) where
  within : n ≤ length c.extents
  within = ⊎_elim {C = n ≤ length c.extents} (λ e. omega (arith, e)) (λ lt. omega (arith, lt)) stays

  known_is : known (cut c n) ≡ known c
  known_is = let e : length (drop n c.extents) ≡ length c.extents - n = length-drop n c.extents in omega (arith, e, within)

  end_is : n + (length (drop n c.extents) - 1) ≡ length c.extents - 1
  end_is =
      let e : length (drop n c.extents) ≡ length c.extents - n = length-drop n c.extents in
      ⊎_elim {C = n + (length (drop n c.extents) - 1) ≡ length c.extents - 1} (λ z. omega (arith, e, z)) (λ lt. omega (arith, e, lt)) stays

  last_is : last_extent (cut c n).extents ≡ last_extent c.extents
  last_is = dropped_get n c.extents (length (drop n c.extents) - 1) ∙ ap (slice_get c.extents) end_is

  cut_last : (e index : ℕ) → LastIs c e index → LastIs (cut c n) e index
  cut_last e index b = record { places = b.places; last = last_is ∙ b.last; index_is = b.index_is ∙ sym known_is }

  module _ (generation : ℕ → ℕ) (name : StreamName) (w : StreamSystem) (i : ℕ) (x : Stand) (sent : List Sent) where
    -- it was told its extents rightly; the first extents of the metadata never leave it
    cut_told : (name.kind ≡ kinds.Metadata → ⊥) → IsTold generation name w i x sent c → IsTold generation name w i x sent (cut c n)
    cut_told other told =
        record {
          stream = told.stream;
          under = told.under;
          tells = record {
            left = left;
            whole = λ e. absurd (other e);
            ends = ends;
            known = subst (λ k. k ≤ length (extents_in w name)) (sym known_is) told.tells.known;
            are = λ k z e. subst (λ j. IsAt w name j z.extent) (sym (place k)) (told.tells.are (n + k) z (sym (dropped_get n c.extents k) ∙ e));
            sealed = λ k z l e s.
                subst (λ j. (y : machine.SealedExtent Group) × (machine.shut_at j x.state.core.shut ≡ Some y) × (y.end ≡ machine.base j + l)) (sym (place k))
                (told.tells.sealed (n + k) z l (sym (dropped_get n c.extents k) ∙ e) s);
            unsealed = λ k z e s.
                (let back : suc (n + k) ≡ length c.extents = told.tells.unsealed (n + k) z (sym (dropped_get n c.extents k) ∙ e) s in
                let count : length (drop n c.extents) ≡ length c.extents - n = length-drop n c.extents in omega (arith, back, count));
          };
        }
      where
        place : (k : ℕ) → c.base + n + k ≡ c.base + (n + k)
        place k = omega arith

        -- an extent that is not the last is sealed
        sealed_by : (k : ℕ) → suc k < length c.extents → (z : StreamExtent) → slice_get c.extents k ≡ Some z → (o : Option ℕ) → z.length ≡ o →
            (y : machine.SealedExtent Group) × (machine.shut_at (c.base + k) x.state.core.shut ≡ Some y)
        sealed_by k lt z e None s = absurd (let back : suc k ≡ length c.extents = told.tells.unsealed k z e s in omega (arith, back, lt))
        sealed_by k lt z e (Some l) s = let y = told.tells.sealed k z l e s in (y.0, y.1)

        inside : (k : ℕ) → k < n → suc k < length c.extents
        inside k lt = ⊎_elim {C = suc k < length c.extents} (λ e. absurd (omega (arith, e, lt))) (λ more. omega (arith, more, lt)) stays

        gone : (index : ℕ) → c.base ≤ index → index < c.base + n → (y : machine.SealedExtent Group) × (machine.shut_at index x.state.core.shut ≡ Some y)
        gone index low high =
            let k : ℕ = index - c.base in
            let at : c.base + k ≡ index = omega (arith, low) in
            let lt : suc k < length c.extents = inside k (omega (arith, low, high)) in
            let z = some_there c.extents k (omega (arith, lt)) in
            subst (λ j. (y : machine.SealedExtent Group) × (machine.shut_at j x.state.core.shut ≡ Some y)) at (sealed_by k lt z.0 z.1 z.0.length refl)

        left : (index : ℕ) → index < c.base + n → (y : machine.SealedExtent Group) × (machine.shut_at index x.state.core.shut ≡ Some y)
        left index lt =
            ⊎_elim {C = (y : machine.SealedExtent Group) × (machine.shut_at index x.state.core.shut ≡ Some y)} (λ low. told.tells.left index low) (λ high. gone index high lt) (lt_or_le index c.base)

        ends : length (drop n c.extents) ≡ 0 → c.base + n ≡ 0
        ends none =
            let count : length (drop n c.extents) ≡ length c.extents - n = length-drop n c.extents in
            ⊎_elim {C = c.base + n ≡ 0}
            (λ e. (let first : c.base ≡ 0 = told.tells.ends (omega (arith, count, none, e)) in omega (arith, first, e)))
            (λ lt. absurd (omega (arith, count, none, lt))) stays

    cut_job : (j : Job) → ServesBy generation name w i x sent c j → ServesBy generation name w i x sent (cut c n) j
    cut_job jobs.Idle b = b ∙ ap (λ k. turns.Serving k (is_live (last_extent c.extents))) (sym known_is) ∙ ap (λ o. turns.Serving (known (cut c n)) (is_live o)) (sym last_is)
    cut_job (jobs.Sent e q) b = record { index = b.index; append = b.append; last = cut_last e b.index b.last; stands = b.stands; for = b.for; fact = b.fact }
    cut_job (jobs.Closing e q) b = record { index = b.index; append = b.append; last = cut_last e b.index b.last; stands = b.stands; for = b.for }
    cut_job (jobs.Growing last q) b =
        record {
          append = b.append;
          all_sealed = ap is_live last_is ∙ b.all_sealed;
          stands = b.stands ∙ ap (λ k. turns.Growing k b.append c.group) (sym known_is);
          for = subst (λ k. purpose_of sent q ≡ Some (Extends i k)) (sym known_is) b.for;
          last_is = b.last_is ∙ ap number_of (sym last_is);
          fact = subst (λ k. machine.In (machine.AsksExtend i k) x.state.facts) (sym known_is) b.fact;
        }
    cut_job (jobs.Checking e q) b = absurd b
    cut_job (jobs.Shutting e q) b = absurd b
    cut_job (jobs.Reading e places upto sealed place q) b = absurd b

    cut_serving : (name.kind ≡ kinds.Metadata → ⊥) → ServingIs generation name w i x sent c → ServingIs generation name w i x sent (cut c n)
    cut_serving other b = record { told = cut_told other b.told; job = cut_job c.job b.job }

-- ---- the log of a range

-- up to an index
abbrev pub below : ClientState → ℕ → ClientState
below c before = record c { base = max c.base before; extents = drop (before - c.base) c.extents }

max_is : (a b : ℕ) → a + (b - a) ≡ max a b
max_is a b =
    ⊎_elim {C = a + (b - a) ≡ max a b} (λ lt. (let e : max a b ≡ b = max-eq_right (omega (arith, lt)) in omega (arith, lt, e)))
    (λ le. (let e : max a b ≡ a = max-eq_left le in omega (arith, le, e))) (lt_or_le a b)

-- what the Trim of a range makes of the client of its log, which goes on being served
pub trimmed_serving : (generation : ℕ → ℕ) (range : ℕ) (w : StreamSystem) (i : ℕ) (x : Stand) (sent : List Sent) (c : ClientState) (before : ℕ) → (before ≤ c.base) ⊎ (before < known c) →
    ServingIs generation (log_of range) w i x sent c → ServingIs generation (log_of range) w i x sent (below c before)
trimmed_serving generation range w i x sent c before stays b =
    subst (λ k. ServingIs generation (log_of range) w i x sent (record c { base = k; extents = drop (before - c.base) c.extents })) (max_is c.base before)
    (cut_serving c (before - c.base) left_there generation (log_of range) w i x sent (λ e. cc) b)
  where
    left_there : (before - c.base ≡ 0) ⊎ (before - c.base < length c.extents)
    left_there = ⊎_elim {C = (before - c.base ≡ 0) ⊎ (before - c.base < length c.extents)} (λ low. inl (omega (arith, low))) (λ high. go (lt_or_le before c.base) high) stays
      where
        go : (before < c.base) ⊎ (c.base ≤ before) → before < known c → (before - c.base ≡ 0) ⊎ (before - c.base < length c.extents)
        go (inl low) high = inl (omega (arith, low))
        go (inr up) high = inr (omega (arith, up, high))

-- the index that a Trim is asked for leaves the last extent, if there is one
pub trim_stays : (c : ClientState) (position : Position) → BeginsInLog c position → (trim_index c position ≤ c.base) ⊎ (trim_index c position < known c)
trim_stays c position begins = go (length c.extents == 0) refl
  where
    go : (t : Bool) → (length c.extents == 0) ≡ t → (let k : ℕ = if t then position.index else min position.index (known c - 1) in (k ≤ c.base) ⊎ (k < known c))
    go true e = let z : position.index ≡ 0 = begins (eqb-true (length c.extents) 0 e) in inl (omega (arith, z))
    go false e =
        let some : length c.extents ≡ 0 → ⊥ = eqb-false (length c.extents) 0 e in
        let least : min position.index (known c - 1) ≤ known c - 1 = min-le_right position.index (known c - 1) in inr (omega (arith, least, some))

-- what is left of the log has an extent where the log had one
pub below_begins : (c : ClientState) (before : ℕ) (position : Position) → (before ≤ c.base) ⊎ (before < known c) → BeginsInLog c position → BeginsInLog (below c before) position
below_begins c before position stays begins none =
    let e : length (drop (before - c.base) c.extents) ≡ length c.extents - (before - c.base) = length-drop (before - c.base) c.extents in
    begins (⊎_elim {C = length c.extents ≡ 0} (λ low. omega (arith, e, none, low)) (λ high. omega (arith, e, none, high)) stays)
