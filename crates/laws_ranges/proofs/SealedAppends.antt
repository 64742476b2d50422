-- A client that rests and knows all of its extents to be sealed forms a group: it asks for another extent. Where the machine took the last
-- one to be open, an Append to that is begun and given up, which no one ever sees.
use Rattle.std.proofs.Common.{◌≡◌, ℕ, zero, suc, ◌≤◌, Bool, true, false, not, List, [], ◌∷◌, length, Option, Some, None, is_some, refl, sym, ap, ◌∙◌, subst, inl, arith}
use Rattle.wire.specs.declared.actor.ReqNo.{ReqNo}
use Rattle.wire.specs.declared.streams.StreamExtent.{StreamExtent}
use Rattle.wire.specs.declared.streams.StreamKind.{StreamKind}
use Rattle.wire.specs.declared.streams.StreamName.{StreamName}
use Rattle.replica.specs.Groups.{Group}
use Rattle.client.specs.Client.{ClientState, Outcome, last_extent, grows, append_behind, append_at}
use Rattle.model_streams.specs.StreamSystem.{StreamSystem}
use Rattle.model_histories.specs.ServerTurns as turns
use Rattle.model_histories.specs.StreamActions.{Forms}
use Rattle.model_histories.specs.StreamMachine as machine
use Rattle.laws_loads.specs.RangeView.{RangeView, view_after_all}
use Rattle.laws_stream_machine.specs.Refinement.{Purpose, Sent, purpose_of, Extends}
use Rattle.laws_ranges.specs.Serves.{Stand, after_turns, AreTurns, known, is_live, number_of, IsTold, ServingIs, Listed, Goes}
use Rattle.laws_ranges.specs.Seen.{AreSeenOf}
use Rattle.laws_ranges.proofs.AppendJob.{told_here, told_after}
use Rattle.laws_ranges.proofs.ClientAsks.{extend_asked}
use Rattle.laws_ranges.proofs.MachineSteps.{newest}
use Rattle.laws_ranges.proofs.OneStory.{quiet_seen_of, forms_seen_of}
use Rattle.laws_ranges.proofs.OpenAndConfirm.{all_shut}

-- what is asked where no extent is open
closed_grows : (c : ClientState) (q : ReqNo) (o : Option StreamExtent) → is_live o ≡ false → append_at c q o ≡ grows c (number_of o) q
closed_grows c q None closed = refl
closed_grows c q (Some z) closed = go z.length closed
  where
    go : (l : Option ℕ) → not (is_some l) ≡ false → append_behind c q z l ≡ grows c (Some z.extent) q
    go None e = absurd cc
    go (Some l) e = refl

module _ (generation : ℕ → ℕ) (name : StreamName) (w : StreamSystem) (i : ℕ) (listed : Listed w name) (sent : List Sent) (q : ReqNo) (fresh : purpose_of sent q ≡ None) (kind : StreamKind) where
  -- the group is formed, and this is asked
  pub record FormsSealed (x : Stand) (c : ClientState) (o : Outcome) : Type 0 where
    pub goes : Goes generation name w i x sent q (λ y more. ServingIs generation name w i y more o.after) o.packet
    pub seen : (v : RangeView) → AreSeenOf generation i kind v x goes.list (Forms kind c.group ∷ [])

  module _ (s : machine.MachineState Group) (c : ClientState) (closed : is_live (last_extent c.extents) ≡ false) where
    abbrev Stood : turns.Phase Group → Stand
    Stood p = record { state = s; phase = p }

    abbrev asked : Outcome
    asked = grows c (number_of (last_extent c.extents)) q

    grown : (p : turns.Phase Group) (ts : List (turns.Turn Group)) (n : ℕ) → known c ≡ n → IsTold generation name w i (Stood p) sent c → AreTurns generation i (Stood p) ts → (after_turns generation i (Stood p) ts).phase ≡ turns.Growing n (length s.story) c.group →
        machine.In (machine.AsksExtend i n) (after_turns generation i (Stood p) ts).state.facts → ((v : RangeView) → AreSeenOf generation i kind v (Stood p) ts (Forms kind c.group ∷ [])) → FormsSealed (Stood p) c asked
    grown p ts n is told allowed stands fact seen =
        let o : Purpose = Extends i (known c) in
        let y : Stand = after_turns generation i (Stood p) ts in
        let more : List Sent = record { request = q; purpose = o } ∷ sent in
        let here : IsTold generation name w i y more c = told_after generation name w i (Stood p) ts sent q (Some o) fresh c told in
        let grows_at : y.phase ≡ turns.Growing (known c) (length s.story) c.group = stands ∙ ap (λ k. turns.Growing k (length s.story) c.group) (sym is) in
        let known_fact : machine.In (machine.AsksExtend i (known c)) y.state.facts = subst (λ k. machine.In (machine.AsksExtend i k) y.state.facts) (sym is) fact in
        record {
          goes = record {
            list = ts;
            allowed = allowed;
            purpose = Some o;
            then = record {
              told = record { stream = here.stream; under = here.under; tells = here.tells };
              job = record { append = length s.story; all_sealed = closed; stands = grows_at; for = newest q o sent; last_is = refl; fact = known_fact };
            };
            asked = extend_asked generation name w i y more listed c here q (number_of (last_extent c.extents)) c.pick refl (newest q o sent) known_fact;
          };
          seen = seen;
        }

    by_count : (n : ℕ) (live : Bool) → known c ≡ n → IsTold generation name w i (Stood (turns.Serving n live)) sent c → FormsSealed (Stood (turns.Serving n live)) c asked
    by_count zero live is told =
        grown (turns.Serving 0 live) (turns.Forms c.group ∷ []) 0 is told (tt, tt) refl (inl refl) (λ v. forms_seen_of generation i kind v (Stood (turns.Serving 0 live)) 0 live c.group refl)
    by_count (suc e) false is told =
        grown (turns.Serving (suc e) false) (turns.Forms c.group ∷ []) (suc e) is told (tt, tt) refl (inl refl) (λ v. forms_seen_of generation i kind v (Stood (turns.Serving (suc e) false)) (suc e) false c.group refl)
    by_count (suc e) true is told =
        let p : turns.Phase Group = turns.Serving (suc e) true in
        let within : known c ≤ length s.core.shut = all_shut generation name w i sent q fresh (Stood p) c told (last_extent c.extents) refl closed in
        grown p (turns.IsShut ∷ turns.Fails ∷ turns.Forms c.group ∷ []) (suc e) is told (omega (arith, within, is), (tt, (tt, tt))) refl (inl refl)
        (λ v seen. quiet_seen_of generation i kind (view_after_all (generation i) v (Forms kind c.group ∷ [])) (after_turns generation i (Stood p) (turns.Forms c.group ∷ [])) (turns.IsShut ∷ turns.Fails ∷ []) [] (tt, (tt, tt)) tt
        (forms_seen_of generation i kind v (Stood p) (suc e) true c.group refl seen))

  -- wherever the client rests
  pub forms_sealed : (x : Stand) (c : ClientState) → IsTold generation name w i x sent c → (live : Bool) → x.phase ≡ turns.Serving (known c) live → is_live (last_extent c.extents) ≡ false → FormsSealed x c (append_at c q (last_extent c.extents))
  forms_sealed x c told live stands closed =
      subst (λ o. FormsSealed x c o) (sym (closed_grows c q (last_extent c.extents) closed))
      (subst (λ p. FormsSealed (record { state = x.state; phase = p }) c (grows c (number_of (last_extent c.extents)) q)) (sym stands)
      (by_count x.state c closed (known c) live refl (told_here generation name w i x (turns.Serving (known c) live) sent c told)))
