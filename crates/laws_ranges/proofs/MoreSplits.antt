-- The metadata of each of the two ranges that a split makes is where it was, whatever others do.
use Rattle.std.proofs.Common.{◌≡◌, ℕ}
use Rattle.client.specs.Client.{ClientState}
use Rattle.model_streams.specs.StreamSystem.{StreamSystem}
use Rattle.model_partition.specs.declared.split_job.Side.{Side as SplitSide}
use Rattle.model_partition.specs.declared.split_job.SplitJob.{SplitJob}
use Rattle.model_partition.specs.Range.{RangeState}
use Rattle.model_partition.specs.Splits.{side_range, side_metadata}
use Rattle.laws_ranges.specs.Serves.{Side, Wider, metadata_of}
use Rattle.laws_ranges.specs.SplitSides.{SideWaits, SideAppends}
use Rattle.laws_ranges.proofs.MoreKnown.{serving_on}
use Rattle.laws_ranges.proofs.SplitsKept.{rests_wider}

module _ (generation : ℕ → ℕ) (w v : StreamSystem) (i : ℕ) (r : RangeState) (job : SplitJob) (side : SplitSide) (x y : Side)
    (g : Wider (metadata_of (side_range job side)) w v x.stand.state y.stand.state x.sent y.sent) (same : y.stand.phase ≡ x.stand.phase) where
  -- it waits for its keys as before
  pub waits_further : SideWaits generation w i x r job side → SideWaits generation v i y r job side
  waits_further b d = rests_wider generation (metadata_of (side_range job side)) w v i x.stand y.stand x.sent y.sent g same (side_metadata d r job side) (b d)

  -- or its keys are appended as before
  pub appends_further : (c : ClientState) → SideAppends generation w i x r job side c → SideAppends generation v i y r job side c
  appends_further c b = record { client = serving_on generation (metadata_of (side_range job side)) w v i x.stand y.stand x.sent y.sent g same c b.client; group = b.group }
