-- The opening and the confirmation of a range are turns of its incarnation on each stream.
use Rattle.std.proofs.Common.{◌≡◌, ℕ, zero, suc, ◌+◌, ◌-◌, ◌<◌, ◌≤◌, List, [], ◌∷◌, ◌++◌, length, true, false, Option, Some, None, refl, sym, ap, ◌∙◌, subst, inl, inr, slice_get, arith}
use Rattle.std.proofs.lemmas.Option.{slice_get_cases}
use Rattle.wire.specs.declared.actor.ReqNo.{ReqNo}
use Rattle.wire.specs.declared.body.Body.TheVariants as bodies
use Rattle.wire.specs.declared.body.StreamBody.TheVariants as streams
use Rattle.wire.specs.declared.streams.StreamExtent.{StreamExtent}
use Rattle.wire.specs.declared.streams.StreamName.{StreamName}
use Rattle.replica.specs.Groups.{Group}
use Rattle.client.specs.declared.job.Job.TheVariants as jobs
use Rattle.client.specs.Client.{ClientState, last_extent}
use Rattle.model_streams.specs.StreamSystem.{StreamSystem}
use Rattle.model_histories.specs.StreamMachine as machine
use Rattle.model_histories.specs.ServerTurns as turns
use Rattle.laws_stream_machine.specs.Refinement.{Sent, purpose_of, Opens, Confirms, IsAsked}
use Rattle.laws_ranges.specs.Serves.{Stand, known, is_live, IsTold, Readable, WasSealed, WasFound, WasShut, LoadsBy, LoadingIs, UnreadIs, OpeningIs, ConfirmingIs, OfSealed, OfStood, Goes}
use Rattle.laws_ranges.proofs.MachineSteps.{newest, is_within}
use Rattle.laws_ranges.proofs.ClientAsks.{none_last, some_last}
use Rattle.laws_ranges.proofs.ReadEnds.{sealed_ends, found_ends}
use Rattle.laws_ranges.proofs.AppendJob.{turn_told, at_phase}

none_past : {A : Type 0} (xs : List A) (k : ℕ) → slice_get xs k ≡ None → length xs ≤ k
none_past xs k none = elim (slice_get_cases xs k).1 [ inl there ↦ absurd (let z : None ≡ Some there.0 = sym none ∙ there.2 in cc) | inr past ↦ past.0 ]

module _ (generation : ℕ → ℕ) (name : StreamName) (w : StreamSystem) (i : ℕ) (sent : List Sent) (q : ReqNo) (fresh : purpose_of sent q ≡ None) (x : Stand) where
  -- a range is taken
  pub assigned_goes : x.phase ≡ turns.Idle → Goes generation name w i x sent q (λ y more. OpeningIs generation name w i y more q × (more ≡ record { request = q; purpose = Opens i } ∷ sent)) None
  assigned_goes stands =
      at_phase generation name w i x turns.Idle sent q _ None stands
      (record {
        list = turns.Assigned ∷ [];
        allowed = (tt, tt);
        purpose = Some (Opens i);
        then = (record { stands = refl; for = newest q (Opens i) sent; fact = inl refl }, refl);
        asked = tt;
      })

  -- a stream whose last extent is sealed, or that has none, can be read at once
  pub readable_goes : (c : ClientState) → UnreadIs generation name w i x sent c → is_live (last_extent c.extents) ≡ false → LoadingIs generation name w i x sent c
  readable_goes c b live = record { told = b.told; opened = b.opened; job = subst (λ j. LoadsBy generation name w i x sent c j) (sym b.idle) (WasSealed live b.stands) }

  -- ---- all is read

  -- where the last extent that the client knows is sealed, all that it knows are
  pub all_shut : (c : ClientState) → IsTold generation name w i x sent c → (o : Option StreamExtent) → last_extent c.extents ≡ o → is_live o ≡ false → known c ≤ length x.state.core.shut
  all_shut c told None e live =
      let none : length c.extents ≡ 0 = none_last c.extents e in
      let first = told.tells.ends none in
      omega (arith, none, first)
  all_shut c told (Some z) e live = go z.length refl
    where
      go : (o : Option ℕ) → z.length ≡ o → known c ≤ length x.state.core.shut
      go None l = absurd (let t : is_live (Some (record z { length = None })) ≡ false = subst (λ k. is_live (Some (record z { length = k })) ≡ false) l live in cc)
      go (Some m) l =
          let inside : 0 < length c.extents = some_last c z e in
          let at = told.tells.sealed (length c.extents - 1) z m e l in
          let within : suc (c.base + (length c.extents - 1)) ≤ length x.state.core.shut = is_within (c.base + (length c.extents - 1)) x.state.core.shut at.0 at.1 in
          omega (arith, inside, within)

  -- what has left the list of a stream is sealed
  left_shut : (c : ClientState) → IsTold generation name w i x sent c → c.base ≤ length x.state.core.shut
  left_shut c told = go c.base refl
    where
      go : (n : ℕ) → c.base ≡ n → n ≤ length x.state.core.shut
      go zero is = omega arith
      go (suc n) is = let y = told.tells.left n (omega (arith, is)) in is_within n x.state.core.shut y.0 y.1

  -- all extents before an open last one are sealed
  shut_before : (c : ClientState) → IsTold generation name w i x sent c → (index : ℕ) → suc index ≡ known c → index ≤ length x.state.core.shut
  shut_before c told index at = by_count (length c.extents) refl
    where
      by_length : (k : ℕ) → length c.extents ≡ suc (suc k) → (z : StreamExtent) → slice_get c.extents k ≡ Some z → (o : Option ℕ) → z.length ≡ o → index ≤ length x.state.core.shut
      by_length k count z e None l = let n : suc k ≡ length c.extents = told.tells.unsealed k z e l in absurd (omega (arith, count, n))
      by_length k count z e (Some m) l =
          let s = told.tells.sealed k z m e l in
          let within : suc (c.base + k) ≤ length x.state.core.shut = is_within (c.base + k) x.state.core.shut s.0 s.1 in
          omega (arith, at, count, within)

      by_extent : (k : ℕ) → length c.extents ≡ suc (suc k) → (o : Option StreamExtent) → slice_get c.extents k ≡ o → index ≤ length x.state.core.shut
      by_extent k count None e = let past : length c.extents ≤ k = none_past c.extents k e in absurd (omega (arith, count, past))
      by_extent k count (Some z) e = by_length k count z e z.length refl

      by_count : (n : ℕ) → length c.extents ≡ n → index ≤ length x.state.core.shut
      by_count zero count = let first = told.tells.ends count in absurd (omega (arith, at, count, first))
      by_count (suc zero) count = let left = left_shut c told in omega (arith, at, count, left)
      by_count (suc (suc k)) count = by_extent k count (slice_get c.extents k) refl

  -- Confirm is the only request that is new
  abbrev pub ConfirmsNow : ClientState → Stand → List Sent → Type 0
  ConfirmsNow c y more = (b : ConfirmingIs generation name w i y more c q) × (more ≡ record { request = q; purpose = Confirms i b.read b.end } ∷ sent)

  pub confirms_goes : (c : ClientState) → LoadingIs generation name w i x sent c → c.job ≡ jobs.Idle → Goes generation name w i x sent q (ConfirmsNow c) None
  confirms_goes c b idle = go (subst (λ j. LoadsBy generation name w i x sent c j) idle b.job)
    where
      n : ℕ
      n = known c

      go : Readable generation name w i x sent c → Goes generation name w i x sent q (ConfirmsNow c) None
      go (WasSealed live stands) =
          let ts : List (turns.Turn Group) = turns.AllSealed n ∷ [] in
          let read = machine.all_shut (machine.first n x.state.core.shut) in
          let end : ℕ = machine.last_end (machine.first n x.state.core.shut) in
          at_phase generation name w i x turns.Opening sent q _ None stands
          (record {
            list = ts;
            allowed = ((b.opened, all_shut c b.told (last_extent c.extents) refl live), tt);
            purpose = Some (Confirms i read end);
            then = (
              record {
                told = turn_told generation name w i sent q fresh x turns.Opening ts (Some (Confirms i read end)) c b.told;
                idle = idle;
                read = read;
                end = end;
                of = OfSealed live (all_shut c b.told (last_extent c.extents) refl live) refl;
                stands = ap (λ v. turns.Confirming n v) (sym live);
                for = newest q (Confirms i read end) sent;
                fact = inl refl;
                ends = sealed_ends generation name w i x sent c b.told live;
              },
              refl,
            );
            asked = tt;
          })
      go (WasFound f) =
          let end : ℕ = machine.base f.index + f.found in
          let ts : List (turns.Turn Group) = turns.Found f.stood end ∷ [] in
          let read = machine.all_shut (machine.first f.index x.state.core.shut) ++ f.stood in
          at_phase generation name w i x (turns.Checking f.index) sent q _ None f.stands
          (record {
            list = ts;
            allowed = ((subst (λ k. machine.In (machine.Opened i k) x.state.facts) (sym f.last.index_is) b.opened, f.fact), tt);
            purpose = Some (Confirms i read end);
            then = (
              record {
                told = turn_told generation name w i sent q fresh x (turns.Checking f.index) ts (Some (Confirms i read end)) c b.told;
                idle = idle;
                read = read;
                end = end;
                of = OfStood f.index f.found f.stood (ap is_live f.last.last) f.last.index_is f.checked (inr f.fact) (shut_before c b.told f.index f.last.index_is) refl;
                stands = ap (λ v. turns.Confirming v true) f.last.index_is ∙ ap (λ v. turns.Confirming n (is_live v)) (sym f.last.last);
                for = newest q (Confirms i read end) sent;
                fact = inl refl;
                ends = found_ends generation name w i x sent c b.told f;
              },
              refl,
            );
            asked = tt;
          })
      go (WasShut index index_is live stands) =
          let ts : List (turns.Turn Group) = turns.IsShut ∷ [] in
          let read = machine.all_shut (machine.first (suc index) x.state.core.shut) in
          let end : ℕ = machine.last_end (machine.first (suc index) x.state.core.shut) in
          let within : n ≤ length x.state.core.shut = all_shut c b.told (last_extent c.extents) refl live in
          at_phase generation name w i x (turns.Sealing index) sent q _ None stands
          (record {
            list = ts;
            allowed = ((subst (λ k. machine.In (machine.Opened i k) x.state.facts) (sym index_is) b.opened, omega (arith, within, index_is)), tt);
            purpose = Some (Confirms i read end);
            then = (
              record {
                told = turn_told generation name w i sent q fresh x (turns.Sealing index) ts (Some (Confirms i read end)) c b.told;
                idle = idle;
                read = read;
                end = end;
                of = OfSealed live within (ap (λ k. machine.all_shut (machine.first k x.state.core.shut)) index_is);
                stands = ap (λ v. turns.Confirming v false) index_is ∙ ap (λ v. turns.Confirming n v) (sym live);
                for = newest q (Confirms i read end) sent;
                fact = inl refl;
                ends = ap (λ k. machine.last_end (machine.first k x.state.core.shut)) index_is ∙ sealed_ends generation name w i x sent c b.told live;
              },
              refl,
            );
            asked = tt;
          })

-- ---- what is asked

module _ (generation : ℕ → ℕ) (name : StreamName) (w : StreamSystem) (i : ℕ) (x : Stand) (sent : List Sent) where
  -- the opening of a range is asked of each of its streams
  pub open_asked : (q : ReqNo) → OpeningIs generation name w i x sent q → IsAsked generation name w x.state sent (bodies.Stream (streams.OpenStreams name.range (generation i) q))
  open_asked q b =
      record {
        here = λ same. record { i = i; for = b.for; under = refl; fact = b.fact };
        elsewhere = λ other. absurd (other refl);
      }

  -- so is its confirmation
  pub confirm_asked : (c : ClientState) (q : ReqNo) → ConfirmingIs generation name w i x sent c q → IsAsked generation name w x.state sent (bodies.Stream (streams.Confirm name.range (generation i) q))
  confirm_asked c q b =
      record {
        here = λ same. record { i = i; read = b.read; end = b.end; for = b.for; under = refl; fact = b.fact };
        elsewhere = λ other. absurd (other refl);
      }
