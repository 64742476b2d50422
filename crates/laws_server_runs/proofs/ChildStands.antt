-- Once a split waits for its end the keys of each of the two ranges that it makes stand in its metadata: they are named in its run, they alone
-- behind what was taken, under the generation of the range that is split, of whose keys they are a part; and nothing was out when the streams
-- were built.
use Rattle.std.proofs.Common.{◌≡◌, ℕ, List, ◌++◌, Some, sym, subst}
use Rattle.model_partition.specs.Past.{Bytes}
use Rattle.model_partition.specs.Range.{RangeState}
use Rattle.model_partition.specs.Server.{range_of}
use Rattle.model_partition.specs.Splits.{side_keys}
use Rattle.model_histories.specs.ServerRun.{ServerEvent, run_of}
use Rattle.laws_server_runs.specs.BornRanges.{AllInOrder}
use Rattle.laws_server_runs.specs.ChildInvariant.{KeysStand, IsCompleting, ChildAt, AreBornSo}
use Rattle.laws_server_runs.proofs.ChildTheorem.{AreOther, all_children, keys_stand}
use Rattle.laws_server_runs.proofs.SplitsBack.{ranges_there}

module _ (texts : ℕ → Bytes) (batch servers : ℕ) (late early : List ServerEvent) (born : AreBornSo texts batch servers (late ++ early)) (order : AllInOrder texts batch servers (late ++ early)) where
  -- the range that is split, and what stands of one of the two, now
  pub record StandsNow (s k n : ℕ) (c : ChildAt (run_of batch servers early) s k n) : Type 0 where
    pub range : RangeState
    pub held : range_of c.state.ranges k ≡ Some range
    pub stands : KeysStand (all_children texts batch servers (late ++ early) born order n).taken.run (all_children texts batch servers (late ++ early) born order n).kept.run c.job.generation range.said (side_keys range.said.keys c.job.key c.side)

  pub child_stands : (s k n : ℕ) (c : ChildAt (run_of batch servers early) s k n) → IsCompleting c.job.phase → AreOther texts n late → StandsNow s k n c
  child_stands s k n c waits other =
      let h = ranges_there batch servers early s c.cell c.state c.there c.runs k c.job c.found in
      record {
        range = h.0;
        held = h.1;
        stands = subst (λ m. AreOther texts m late → KeysStand (all_children texts batch servers (late ++ early) born order m).taken.run (all_children texts batch servers (late ++ early) born order m).kept.run c.job.generation h.0.said (side_keys h.0.said.keys c.job.key c.side))
            (sym c.is) (keys_stand texts batch servers late early born order s c.cell c.state c.there c.runs k h.0 c.job h.1 c.found waits c.side) other;
      }
