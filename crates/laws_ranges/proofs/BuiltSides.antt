-- The metadata of the two ranges that a split makes begins as that of its range stands.
use Rattle.std.proofs.Common.{◌≡◌, ℕ, ◌+◌, ◌≤◌, List, [], length, Some, slice_get, refl, sym, subst}
use Rattle.model_streams.specs.StreamSystem.{StreamSystem}
use Rattle.model_partition.specs.declared.split_job.Side.{Side as SplitSide}
use Rattle.model_partition.specs.declared.split_job.SplitJob.{SplitJob}
use Rattle.model_partition.specs.Range.{RangeState}
use Rattle.model_partition.specs.Splits.{side_range, side_metadata}
use Rattle.laws_stream_machine.specs.Refinement.{Sent, extents_in, IsAt, Tells}
use Rattle.laws_ranges.specs.Serves.{Stand, IsTold, metadata_of}
use Rattle.laws_ranges.specs.SplitJobs.{RestsIs}
use Rattle.laws_ranges.specs.SplitSides.{SideWaits}

module _ (generation : ℕ → ℕ) (range : ℕ) (w : StreamSystem) (i : ℕ) (x : Stand) (sent : List Sent) (r : RangeState) (job : SplitJob) (side : SplitSide) (same : extents_in w (metadata_of (side_range job side)) ≡ extents_in w (metadata_of range)) where
  -- where it has the same extents
  pub side_begins : job.generation ≡ generation i → RestsIs generation (metadata_of range) w i x sent r.metadata → SideWaits generation w i (record { stand = x; sent = [] }) r job side
  side_begins under b d = record { told = told; idle = refl; live = b.live; stands = b.stands }
    where
      t : Tells generation (metadata_of range) w x.state sent (record { base = r.metadata.base; extents = r.metadata.extents })
      t = b.told.tells

      at : (index e : ℕ) → IsAt w (metadata_of range) index e → IsAt w (metadata_of (side_range job side)) index e
      at index e there = subst (λ xs. slice_get xs index ≡ Some e) (sym same) there

      told : IsTold generation (metadata_of (side_range job side)) w i x [] (side_metadata d r job side)
      told = record {
        stream = refl;
        under = under;
        tells = record {
          left = t.left;
          whole = λ kind. t.whole refl;
          ends = t.ends;
          known = subst (λ xs. r.metadata.base + length r.metadata.extents ≤ length xs) (sym same) t.known;
          are = λ k z here. at (r.metadata.base + k) z.extent (t.are k z here);
          sealed = t.sealed;
          unsealed = t.unsealed;
        };
      }
