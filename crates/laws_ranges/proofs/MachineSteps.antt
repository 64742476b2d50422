-- Each step of a stream's machine takes nothing back.
use Rattle.std.proofs.Common.{◌≡◌, ℕ, suc, ◌≤◌, List, [], ◌∷◌, length, Bool, true, false, Option, Some, None, refl, subst, arith, if◌then◌else◌, ◌==◌}
use Rattle.std.proofs.lemmas.Bool.Decides.{nat_tests}
use Rattle.std.proofs.lemmas.Bool.{and_from}
use Rattle.wire.specs.declared.actor.ReqNo.{ReqNo}
use Rattle.wire.specs.declared.actor.ReqNo.TheVariants as requests
use Rattle.wire.specs.declared.streams.StreamName.{StreamName}
use Rattle.replica.specs.Groups.{Group}
use Rattle.client.specs.Requests.{is_same}
use Rattle.model_streams.specs.StreamSystem.{StreamSystem}
use Rattle.model_histories.specs.StreamMachine.{SealedExtent, shut_at}
use Rattle.model_histories.specs.ServerTurns.{Turn, Whole, Move, Above, moved}
use Rattle.model_histories.specs.ServerTurns as turns
use Rattle.laws_stream_machine.specs.Refinement.{Purpose, Sent, purpose_of}
use Rattle.laws_stream_machine.proofs.ServerRequests.{same_request}
use Rattle.laws_stream_machine.proofs.StepSequences.{Onward, onward_refl, onward_trans, all_onward, shut_within}
use Rattle.laws_ranges.specs.Serves.{Stand, Wider, after_turns, sent_with}

-- ---- numbers of requests

number_same : (a : ℕ) → (a == a) ≡ true
number_same a = grind (arith, nat_tests)

pub request_same : (q : ReqNo) → is_same q q ≡ true
request_same (requests.Server s a n) = and_from (s == s) _ (number_same s) (and_from (a == a) _ (number_same a) (number_same n))
request_same (requests.User u n) = and_from (u == u) _ (number_same u) (number_same n)
request_same requests.NoRequest = refl

-- the newest purpose is that of its number
pub newest : (q : ReqNo) (p : Purpose) (sent : List Sent) → purpose_of (record { request = q; purpose = p } ∷ sent) q ≡ Some p
newest q p sent = go (is_same q q) (request_same q)
  where
    go : (b : Bool) → b ≡ true → (if b then Some p else purpose_of sent q) ≡ Some p
    go true e = refl
    go false e = absurd (cc)

pub for_same : (sent : List Sent) (q r : ReqNo) (p : Purpose) → is_same q r ≡ true → purpose_of sent q ≡ Some p → purpose_of sent r ≡ Some p
for_same sent q r p t e = subst (λ z. purpose_of sent z ≡ Some p) (same_request q r t) e

-- a number that was not used takes no purpose away
pub purposes_on : (q : ReqNo) (o : Option Purpose) (sent : List Sent) → purpose_of sent q ≡ None → (r : ReqNo) (p : Purpose) →
    purpose_of sent r ≡ Some p → purpose_of (sent_with q o sent) r ≡ Some p
purposes_on q None sent fresh r p e = e
purposes_on q (Some o) sent fresh r p e = go (is_same q r) refl
  where
    go : (b : Bool) → is_same q r ≡ b → (if b then Some o else purpose_of sent r) ≡ Some p
    go true t = let same : q ≡ r = same_request q r t in let z : purpose_of sent r ≡ None = subst (λ k. purpose_of sent k ≡ None) same fresh in absurd (cc)
    go false t = e

-- ---- steps

pub is_within : (e : ℕ) (xs : List (SealedExtent Group)) (y : SealedExtent Group) → shut_at e xs ≡ Some y → suc e ≤ length xs
is_within e xs y q = let z = shut_within e xs y q in omega (arith, z)

module _ (generation : ℕ → ℕ) where
  module _ (i : ℕ) where
    turns_onward : (x : Stand) (ts : List (Turn Group)) → Onward x.state (after_turns generation i x ts).state
    turns_onward x [] = onward_refl x.state
    turns_onward x (t ∷ ts) =
        let y : Stand = after_turns generation i x ts in
        onward_trans x.state y.state _ (turns_onward x ts) (all_onward generation y.state (turns.does Group generation y.state i y.phase t))

    -- an incarnation's turns take nothing back, nor does one more request of a number that was not used
    pub wider_turns : (name : StreamName) (w : StreamSystem) (x : Stand) (ts : List (Turn Group)) (sent : List Sent) (q : ReqNo) (o : Option Purpose) → purpose_of sent q ≡ None →
        Wider name w w x.state (after_turns generation i x ts).state sent (sent_with q o sent)
    wider_turns name w x ts sent q o fresh =
        record {
          facts = (turns_onward x ts).facts;
          shut = (turns_onward x ts).shut;
          extents = λ index e m. m;
          known = omega arith;
          purposes = purposes_on q o sent fresh;
        }
