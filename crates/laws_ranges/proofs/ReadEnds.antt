-- Where a load has read a stream to, as its machine and as the server say it.
use Rattle.std.proofs.Common.{◌≡◌, ⊎_elim, ℕ, suc, ◌-◌, ◌+◌, ◌<◌, ◌≤◌, ◌||◌, ◌&&◌, ◌==◌, nat_lt, Bool, true, false, List, length, Option, Some, None, refl, sym, ap, ◌∙◌, subst, arith, if◌then◌else◌}
use Rattle.std.proofs.lemmas.Bool.{and_parts, or_cases, ltb-true, eqb-true}
use Rattle.wire.specs.declared.streams.StreamExtent.{StreamExtent}
use Rattle.wire.specs.declared.streams.StreamName.{StreamName}
use Rattle.streams.specs.declared.table.Position.{Position}
use Rattle.client.specs.Client.{ClientState, last_extent}
use Rattle.model_streams.specs.StreamSystem.{StreamSystem}
use Rattle.model_partition.specs.Range.{position_le, later}
use Rattle.model_partition.specs.Loading.{length_or, log_end}
use Rattle.model_histories.specs.ServerRun.{place_number}
use Rattle.model_histories.specs.StreamActions.{read_end}
use Rattle.model_histories.specs.StreamMachine as machine
use Rattle.laws_stream_machine.specs.Refinement.{Sent}
use Rattle.laws_ranges.specs.Serves.{Stand, known, is_live, IsTold, FoundIs}
use Rattle.laws_ranges.proofs.ClientAsks.{none_last, some_last}
use Rattle.laws_ranges.proofs.SealedCopies.{first_none, first_end}

-- no position comes before the first one of an extent that is no later
later_first : (a b : Position) → b.index ≤ a.index → b.offset ≡ 0 → place_number (later a b) ≡ place_number a
later_first a b index offset = go (position_le a b) refl
  where
    at_index : a.index ≡ b.index → (nat_lt a.offset b.offset || (a.offset == b.offset)) ≡ true → (b.index ≡ a.index) × (b.offset ≡ a.offset)
    at_index at e = ⊎_elim {C = (b.index ≡ a.index) × (b.offset ≡ a.offset)}
        (λ t. absurd (let below : a.offset < b.offset = ltb-true a.offset b.offset t in omega (arith, below, offset)))
        (λ t. (sym at, sym (eqb-true a.offset b.offset t))) (or_cases (nat_lt a.offset b.offset) (a.offset == b.offset) e)

    same : position_le a b ≡ true → (b.index ≡ a.index) × (b.offset ≡ a.offset)
    same e = ⊎_elim {C = (b.index ≡ a.index) × (b.offset ≡ a.offset)}
        (λ t. absurd (let below : a.index < b.index = ltb-true a.index b.index t in omega (arith, below, index)))
        (λ t. (let parts = and_parts (a.index == b.index) (nat_lt a.offset b.offset || (a.offset == b.offset)) t in at_index (eqb-true a.index b.index parts.0) parts.1))
        (or_cases (nat_lt a.index b.index) ((a.index == b.index) && (nat_lt a.offset b.offset || (a.offset == b.offset))) e)

    go : (t : Bool) → position_le a b ≡ t → place_number (if t then b else a) ≡ place_number a
    go true e = ap (λ k. machine.base k + b.offset) (same e).0 ∙ ap (λ k. machine.base a.index + k) (same e).1
    go false e = refl

module _ (generation : ℕ → ℕ) (name : StreamName) (w : StreamSystem) (i : ℕ) (x : Stand) (sent : List Sent) (c : ClientState) (told : IsTold generation name w i x sent c) where
  -- the first position that the client knows
  abbrev First : Position
  First = record { index = c.base; offset = 0 }

  -- from a position on that is none after the first, the last extent is read up to this length
  end_from : (from : Position) → from.index ≤ c.base → from.offset ≡ 0 → (z : StreamExtent) (index at : ℕ) → last_extent c.extents ≡ Some z → length_or z.length c.checked ≡ at → suc index ≡ known c →
      machine.base index + at ≡ place_number (read_end c from)
  end_from from low offset z index at last length_is index_is =
      let inside : 0 < length c.extents = some_last c z last in
      let here : index ≡ known c - 1 = omega (arith, index_is) in
      let end : Position = record { index = known c - 1; offset = length_or z.length c.checked } in
      ap (λ k. machine.base k + at) here ∙ ap (λ k. machine.base (known c - 1) + k) (sym length_is)
      ∙ sym (later_first end from (omega (arith, inside, low)) offset) ∙ ap (λ o. place_number (log_end c o from)) (sym last)

  -- where the last extent is sealed, or there is none, all that is sealed is read
  sealed_from : (from : Position) → from.index ≤ c.base → from.offset ≡ 0 → is_live (last_extent c.extents) ≡ false → machine.last_end (machine.first (known c) x.state.core.shut) ≡ place_number (read_end c from)
  sealed_from from low offset live = by_last (last_extent c.extents) refl live
    where
      by_length : (z : StreamExtent) → last_extent c.extents ≡ Some z → (o : Option ℕ) → z.length ≡ o → is_live (Some z) ≡ false →
          machine.last_end (machine.first (known c) x.state.core.shut) ≡ place_number (read_end c from)
      by_length z e None l open_one = absurd (let t : is_live (Some (record z { length = None })) ≡ false = subst (λ k. is_live (Some (record z { length = k })) ≡ false) l open_one in cc)
      by_length z e (Some m) l shut_one =
          let inside : 0 < length c.extents = some_last c z e in
          let count : suc (c.base + (length c.extents - 1)) ≡ known c = omega (arith, inside) in
          let y = told.tells.sealed (length c.extents - 1) z m e l in
          ap (λ k. machine.last_end (machine.first k x.state.core.shut)) (sym count) ∙ first_end x.state.core.shut (c.base + (length c.extents - 1)) y.0 y.1 ∙ y.2
          ∙ end_from from low offset z (c.base + (length c.extents - 1)) m e (ap (λ k. length_or k c.checked) l) count

      none : last_extent c.extents ≡ None → known c ≡ 0
      none e =
          let empty : length c.extents ≡ 0 = none_last c.extents e in
          let first = told.tells.ends empty in
          omega (arith, empty, first)

      by_last : (o : Option StreamExtent) → last_extent c.extents ≡ o → is_live o ≡ false → machine.last_end (machine.first (known c) x.state.core.shut) ≡ place_number (read_end c from)
      by_last None e live =
          let zero_is = none e in
          let index : 0 ≡ from.index = omega (arith, zero_is, low) in
          ap (λ k. machine.last_end (machine.first k x.state.core.shut)) zero_is ∙ ap machine.last_end (first_none x.state.core.shut)
          ∙ ap (λ k. machine.base k + 0) index ∙ ap (λ k. machine.base from.index + k) (sym offset) ∙ ap (λ o. place_number (log_end c o from)) (sym e)
      by_last (Some z) e live = by_length z e z.length refl live

  pub sealed_ends : is_live (last_extent c.extents) ≡ false → machine.last_end (machine.first (known c) x.state.core.shut) ≡ place_number (read_end c First)
  sealed_ends live = sealed_from First (omega arith) refl live

  -- an open last extent is read up to where it was checked
  pub found_ends : (f : FoundIs generation name w i x sent c) → machine.base f.index + f.found ≡ place_number (read_end c First)
  found_ends f =
      end_from First (omega arith) refl (record { extent = f.e; places = f.last.places; length = None }) f.index f.found f.last.last (ap (λ k. length_or None k) f.checked) f.last.index_is
