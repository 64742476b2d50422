-- Where a range stands, by its stage, and by the phase of its load.
use Rattle.std.proofs.Common.{◌≡◌, ℕ, Bool, true, false, refl, sym, ◌∙◌, subst}
use Rattle.wire.specs.declared.actor.ReqNo.{ReqNo}
use Rattle.wire.specs.declared.streams.StreamKind.TheVariants as kinds
use Rattle.client.specs.declared.load.LoadPhase.TheVariants as phases
use Rattle.model_streams.specs.StreamSystem.{StreamSystem}
use Rattle.model_partition.specs.declared.server_context.ServerContext.{ServerContext}
use Rattle.model_partition.specs.declared.stage.Stage.{Stage}
use Rattle.model_partition.specs.declared.stage.Stage.TheVariants as stages
use Rattle.model_partition.specs.Range.{RangeState, is_serving}
use Rattle.laws_ranges.specs.Serves.{Side, IsConfirming, StageIs, Follows, BothListed, IsSentBy}

-- the stage of a range that is served
pub serving_only : (stage : Stage) → is_serving stage ≡ true → stage ≡ stages.Serving
serving_only stages.Opening e = absurd (cc)
serving_only (stages.Checking kind) e = absurd (cc)
serving_only (stages.Reading kind position) e = absurd (cc)
serving_only (stages.Indexing position) e = absurd (cc)
serving_only stages.Confirming e = absurd (cc)
serving_only stages.Serving e = refl

module _ (generation : ℕ → ℕ) (range : ℕ) (w : StreamSystem) (i : ℕ) (both : BothListed w range) (m l : Side) (d : ServerContext) (by : IsSentBy d d.count m.sent l.sent)
    (r : RangeState) (f : Follows generation range w i m l r) where
  -- whether it is served
  pub by_stage : {P : Type 0} → (r.stage ≡ stages.Serving → P) → (is_serving r.stage ≡ false → P) → P
  by_stage {P} served unserved = go (is_serving r.stage) refl
    where
      go : (t : Bool) → is_serving r.stage ≡ t → P
      go true e = served (serving_only r.stage e)
      go false e = unserved e

  -- a range that waits for its confirmation
  confirming_by : (stage : Stage) (q : ReqNo) → StageIs generation range w i m l r stage → r.load.phase ≡ phases.Confirming q → stage ≡ stages.Confirming
  confirming_by stages.Opening q b e = absurd (let z : phases.Opening b.q ≡ phases.Confirming q = sym b.phase ∙ e in cc)
  confirming_by (stages.Checking kinds.Metadata) q b e = absurd (let z : phases.Opened ≡ phases.Confirming q = sym b.phase ∙ e in cc)
  confirming_by (stages.Checking kinds.Log) q b e = absurd (let z : phases.Opened ≡ phases.Confirming q = sym b.phase ∙ e in cc)
  confirming_by (stages.Checking kinds.RowData) q b e = absurd b
  confirming_by (stages.Checking kinds.BlobData) q b e = absurd b
  confirming_by (stages.Reading kinds.Metadata position) q b e = absurd (let z : phases.Opened ≡ phases.Confirming q = sym b.phase ∙ e in cc)
  confirming_by (stages.Reading kinds.Log position) q b e = absurd (let z : phases.Opened ≡ phases.Confirming q = sym b.phase ∙ e in cc)
  confirming_by (stages.Reading kinds.RowData position) q b e = absurd b
  confirming_by (stages.Reading kinds.BlobData position) q b e = absurd b
  confirming_by (stages.Indexing position) q b e = absurd (let z : phases.Opened ≡ phases.Confirming q = sym b.phase ∙ e in cc)
  confirming_by stages.Confirming q b e = refl
  confirming_by stages.Serving q b e = absurd (let z : phases.Confirmed ≡ phases.Confirming q = sym b.phase ∙ e in cc)

  pub confirming_stage : (q : ReqNo) → r.load.phase ≡ phases.Confirming q → r.stage ≡ stages.Confirming
  confirming_stage q e = confirming_by r.stage q f.stage e

  pub confirming_at : (q : ReqNo) → r.load.phase ≡ phases.Confirming q → IsConfirming generation range w i m l r
  confirming_at q e = subst (λ z. StageIs generation range w i m l r z) (confirming_stage q e) f.stage
