-- The groups that an answer brings are those of the extent that was asked for: as it is sealed, or as it was checked.
use Rattle.std.proofs.Common.{◌≡◌, ℕ, ◌+◌, List, Bool, true, false, Some, None, refl, sym, ap, ◌∙◌, subst, arith}
use Rattle.wire.specs.declared.actor.ReqNo.{ReqNo}
use Rattle.wire.specs.declared.body.Body.TheVariants as bodies
use Rattle.wire.specs.declared.body.ReadBody.TheVariants as reads
use Rattle.wire.specs.declared.body.SealBody.TheVariants as seals
use Rattle.wire.specs.declared.streams.StreamExtent.{StreamExtent}
use Rattle.wire.specs.declared.streams.StreamName.{StreamName}
use Rattle.replica.specs.Groups.{Group}
use Rattle.client.specs.Requests.{is_same}
use Rattle.client.specs.Client.{ClientState, sealed_last}
use Rattle.model_streams.specs.StreamSystem.{StreamSystem}
use Rattle.model_histories.specs.Story.{Copy}
use Rattle.model_histories.specs.StreamMachine as machine
use Rattle.laws_stream_machine.specs.Refinement.{Sent, Reads, Seals, purpose_of, IsAt, Tells, ReadsRightly, Means, ReadMeans, SealMeans}
use Rattle.laws_stream_machine.proofs.ServerRequests.{same_request}
use Rattle.laws_ranges.specs.Serves.{Stand, is_live, LastIs, IsTold, FoundIs, ReadingIs, ShuttingIs, Listed}
use Rattle.laws_ranges.proofs.LoadTurns.{found_of}
use Rattle.laws_ranges.proofs.ToldExtents.{told_sealed}
use Rattle.laws_log_reads.specs.Reads.{groups_in, ReadsAt}

module _ (generation : ℕ → ℕ) (name : StreamName) (w : StreamSystem) (i : ℕ) (listed : Listed w name) (sent : List Sent) (x : Stand) where
  -- the groups of the extent at a position
  pub data Rightly (c : ClientState) (position : ℕ) (known : StreamExtent) (groups : List Group) : Type 0 where
    IsShut : (l : ℕ) (is : known.length ≡ Some l) (y : machine.SealedExtent Group) (shut : machine.shut_at (c.base + position) x.state.core.shut ≡ Some y) (same : groups ≡ groups_in y.copies) →
        Rightly c position known groups
    IsStood : (found : ℕ) (is : known.length ≡ None) (checked : c.checked ≡ Some found) (stood : List (Copy Group))
        (fact : machine.In (machine.Checked i (c.base + position) stood (machine.base (c.base + position) + found)) x.state.facts) (same : groups ≡ groups_in stood) → Rightly c position known groups

  module _ (c : ClientState) (told : Tells generation name w x.state sent (record { base = c.base; extents = c.extents })) (e upto : ℕ) (r : ReqNo) (position : ℕ) (groups : List Group) where
    pub index_is : (sealed : Bool) (b : ReadingIs generation name w i x sent c e upto sealed r) → ReadsAt c e upto sealed position → b.index ≡ c.base + position
    index_is sealed b at = listed.once b.index (c.base + position) e b.at (subst (λ z. IsAt w name (c.base + position) z) at.extent (told.are position at.known at.at))

    rightly_by : (sealed : Bool) (b : ReadingIs generation name w i x sent c e upto sealed r) (at : ReadsAt c e upto sealed position) →
        ReadsRightly generation name w x.state sent (c.base + position) upto groups → Rightly c position at.known groups
    rightly_by true b at means =
        let y = told.sealed position at.known upto at.at at.far in
        IsShut upto at.far y.0 y.1 (means.whole y.0 y.1 y.2)
    rightly_by false b at means =
        let last : LastIs c e b.index = b.is_last refl in
        let f : FoundIs generation name w i x sent c = found_of generation name w i x sent c b.readable (ap is_live last.last) in
        let here : b.index ≡ c.base + position = index_is false b at in
        let same : f.index ≡ c.base + position = omega (arith, f.last.index_is, last.index_is, here) in
        let both : Some f.found ≡ Some upto = sym f.checked ∙ at.far.1 in
        let far : f.found ≡ upto = cc in
        let fact : machine.In (machine.Checked i (c.base + position) f.stood (machine.base (c.base + position) + upto)) x.state.facts =
        subst (λ k. machine.In (machine.Checked i k f.stood (machine.base k + upto)) x.state.facts) same
        (subst (λ k. machine.In (machine.Checked i f.index f.stood (machine.base f.index + k)) x.state.facts) far f.fact) in
        IsStood upto at.far.0 at.far.1 f.stood fact (means.checked i f.stood fact)

    -- an answer to the job that is out
    pub rightly : (sealed : Bool) (b : ReadingIs generation name w i x sent c e upto sealed r) (at : ReadsAt c e upto sealed position) → (v : ReqNo) (n : ℕ) → is_same r v ≡ true →
        Means generation name w x.state sent (bodies.Read (reads.Groups v n groups)) → Rightly c position at.known groups
    rightly sealed b at v n same means =
        let for : purpose_of sent v ≡ Some (Reads i b.index upto) = subst (λ z. purpose_of sent z ≡ Some (Reads i b.index upto)) (same_request r v same) b.for in
        let here : ReadMeans generation name w x.state sent (Some (Reads i b.index upto)) (reads.Groups v n groups) =
        subst (λ z. ReadMeans generation name w x.state sent z (reads.Groups v n groups)) for means in
        rightly_by sealed b at (subst (λ k. ReadsRightly generation name w x.state sent k upto groups) (index_is sealed b at) here)

  -- the extents as they are told once the last of them is sealed
  pub told_shut : (c : ClientState) (e : ℕ) (r : ReqNo) → IsTold generation name w i x sent c → (b : ShuttingIs generation name w i x sent c e r) → (v : ReqNo) (n k : ℕ) → is_same r v ≡ true →
      Means generation name w x.state sent (bodies.Seal (seals.SealedIs v n k)) → Tells generation name w x.state sent (record { base = c.base; extents = sealed_last c.extents k })
  told_shut c e r told b v n k same means =
      let for : purpose_of sent v ≡ Some (Seals i b.index) = subst (λ z. purpose_of sent z ≡ Some (Seals i b.index)) (same_request r v same) b.for in
      let here : SealMeans generation name w x.state sent (Some (Seals i b.index)) (seals.SealedIs v n k) =
      subst (λ z. SealMeans generation name w x.state sent z (seals.SealedIs v n k)) for means in
      let now : IsTold generation name w i x sent (record c { extents = sealed_last c.extents k }) = told_sealed generation name w i x sent c e b.index k told b.last here.1 here.2 here.3 in
      now.tells
