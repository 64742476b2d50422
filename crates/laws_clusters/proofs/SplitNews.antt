-- What is premised of an event that brings streams of the two ranges of a split.
use Rattle.std.proofs.Common.{◌≡◌, ◌⊎◌, ℕ, [], ◌∷◌, Contains}
use Rattle.wire.specs.declared.streams.Modify.{Modify}
use Rattle.model_streams.specs.declared.event.Event.{Event}
use Rattle.model_streams.specs.StreamSystem.{StreamSystem, happens}
use Rattle.model_partition.specs.declared.split_job.Side.{Side as SplitSide}
use Rattle.model_partition.specs.declared.split_job.SplitJob.{SplitJob}
use Rattle.model_partition.specs.Cluster.{Cluster}
use Rattle.model_partition.specs.Splits.{side_range}
use Rattle.laws_stream_machine.specs.Refinement.{IsThere}
use Rattle.laws_ranges.specs.Serves.{metadata_of}
use Rattle.laws_clusters.proofs.BuildEvents.{built_in}
use Rattle.laws_clusters.proofs.Invariant.{SplitAt, IsMaking}

-- the event builds the metadata of one of the two ranges of a split, of that of the range that is split
pub record BuildsSide (w : StreamSystem) (event : Event) (k : ℕ) (job : SplitJob) (side : SplitSide) : Type 0 where
  pub entry : Modify
  pub among : Contains (built_in w event) entry
  pub stream : entry.stream ≡ metadata_of (side_range job side)
  pub sources : entry.sources ≡ record { stream = metadata_of k; generation = job.generation } ∷ []

-- where an event brings the metadata of one of the two ranges of a split that is made, it builds it so
abbrev pub BuildsOfSplits : Cluster → Event → Type 0
BuildsOfSplits c event =
    (s k : ℕ) (job : SplitJob) → SplitAt c.servers s k job → IsMaking job.phase → (side : SplitSide) → IsThere (happens c.stream_layer event) (metadata_of (side_range job side)) →
    IsThere c.stream_layer (metadata_of (side_range job side)) ⊎ BuildsSide c.stream_layer event k job side
