-- What a step of a range asks adds to no blob stream, and what it asks so is under a number of neither its metadata nor its log.
use Rattle.std.proofs.Common.{◌≡◌, ℕ, zero, suc, List, [], ◌∷◌, Option, None, Contains, sym, ap, ◌∙◌, subst, arith}
use Rattle.block_types.specs.declared.record.Nodes.{Nodes}
use Rattle.wire.specs.declared.actor.ReqNo.{ReqNo}
use Rattle.wire.specs.declared.body.Body.TheVariants as bodies
use Rattle.wire.specs.declared.body.StreamBody.TheVariants as streams
use Rattle.wire.specs.declared.packet.Packet.{Packet}
use Rattle.wire.specs.declared.streams.StreamKind.TheVariants as kinds
use Rattle.wire.specs.declared.streams.StreamName.{StreamName}
use Rattle.model_streams.specs.StreamSystem.{StreamSystem}
use Rattle.model_partition.specs.declared.split_job.SplitJob.{SplitJob}
use Rattle.model_partition.specs.Range.{RangeState}
use Rattle.laws_stream_machine.specs.Refinement.{purpose_of, IsAsked}
use Rattle.laws_ranges.specs.Serves.{Side, metadata_of, log_of}
use Rattle.laws_ranges.specs.SplitJobs.{AskedOfSplit}

module _ (generation : ℕ → ℕ) (range : ℕ) (w : StreamSystem) (i : ℕ) (n k : Side) (after : Option RangeState) (job : Option SplitJob) where
  abbrev AskedBoth : Packet → Type 0
  AskedBoth p = IsAsked generation (metadata_of range) w n.stand.state n.sent p.body × IsAsked generation (log_of range) w k.stand.state k.sent p.body

  asked_both : (ps : List Packet) → AskedOfSplit generation range w i after job n k ps → (p : Packet) → Contains ps p → AskedBoth p
  asked_both [] asked p (at, less, is) = absurd (omega (arith, less))
  asked_both (x ∷ ps) asked p (zero, less, is) = subst AskedBoth is (asked.0.0, asked.0.1)
  asked_both (x ∷ ps) asked p (suc at, less, is) = asked_both ps asked.1 p (at, omega (arith, less), is)

  pub blob_aside : (ps : List Packet) → AskedOfSplit generation range w i after job n k ps → (p : Packet) → Contains ps p → (stream : StreamName) (fence : ℕ) (last : Option ℕ) (pick : Nodes) (q : ReqNo) →
      p.body ≡ bodies.Stream (streams.Extend stream fence last pick q) → stream.kind ≡ kinds.BlobData → (purpose_of n.sent q ≡ None) × (purpose_of k.sent q ≡ None)
  blob_aside ps asked p there stream fence last pick q is blob =
      let both = asked_both ps asked p there in
      let one : IsAsked generation (metadata_of range) w n.stand.state n.sent (bodies.Stream (streams.Extend stream fence last pick q)) = subst (IsAsked generation (metadata_of range) w n.stand.state n.sent) is both.0 in
      let two : IsAsked generation (log_of range) w k.stand.state k.sent (bodies.Stream (streams.Extend stream fence last pick q)) = subst (IsAsked generation (log_of range) w k.stand.state k.sent) is both.1 in (
        one.elsewhere (λ same. (let c : kinds.BlobData ≡ kinds.Metadata = sym blob ∙ ap (λ (u : StreamName). u.kind) same in cc)),
        two.elsewhere (λ same. (let c : kinds.BlobData ≡ kinds.Log = sym blob ∙ ap (λ (u : StreamName). u.kind) same in cc)),
      )
