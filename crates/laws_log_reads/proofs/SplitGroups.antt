-- What a split appends to metadata leaves one region of the log: the record that its range is split, and the keys of the two ranges.
use Rattle.std.proofs.Common.{◌≡◌, ℕ, List, ◌++◌, length, Some, ◌==◌, subst, arith}
use Rattle.blocks.specs.Format.{number_at, pair_at, whole}
use Rattle.blocks.specs.Record.{number}
use Rattle.blocks.proofs.Formats.{bind_some, if_some}
use Rattle.metadata.specs.declared.record.MetaItem.{MetaItem}
use Rattle.metadata.specs.declared.record.MetaItem.TheVariants.{Ranges, SplitStatus}
use Rattle.metadata.specs.Record.{keys, text}
use Rattle.metadata.specs.Reading.{text_at, keys_at, ranges_at, status_at, item_at}
use Rattle.model_partition.specs.declared.split_job.Side.{Side}
use Rattle.model_partition.specs.declared.split_job.SplitJob.{SplitJob}
use Rattle.model_partition.specs.Range.{RangeState}
use Rattle.model_partition.specs.Splits.{side_keys}
use Rattle.model_histories.specs.StreamActions.{split_group}
use Rattle.laws_ranges.specs.SplitSides.{keys_group}
use Rattle.laws_log_reads.specs.Reads.{LeavesOneRegion, SaysOneRegion}
use Rattle.laws_log_reads.proofs.CheckpointRecords.{record_read}

-- that a range is split
status_read : (fields : List ℕ) (item : MetaItem) → item_at 4 fields ≡ Some item → LeavesOneRegion item
unfolding item_at status_at
status_read fields item e =
    let x = bind_some (pair_at (number_at 8) (pair_at (number_at 8) (text_at 1)) fields) (λ x. whole (Some (SplitStatus x.0.0 x.0.1.0 x.0.1.1, x.1))) item e in
    let same = if_some (length x.0.1 == 0) (SplitStatus x.0.0.0 x.0.0.1.0 x.0.0.1.1) item x.2 in
    subst (λ y. LeavesOneRegion y) same.1 tt

-- its keys
ranges_read : (fields : List ℕ) (item : MetaItem) → item_at 1 fields ≡ Some item → LeavesOneRegion item
unfolding item_at ranges_at
ranges_read fields item e =
    let x = bind_some (keys_at fields) (λ k. whole (Some (Ranges k.0, k.1))) item e in
    let same = if_some (length x.0.1 == 0) (Ranges x.0.0) item x.2 in
    subst (λ y. LeavesOneRegion y) same.1 tt

-- the record that a range is split
pub split_says : (job : SplitJob) → SaysOneRegion (split_group job)
split_says job z e = record_read job.number 4 (omega arith) (number 8 job.low ++ (number 8 job.high ++ text job.key)) (λ item is. status_read (number 8 job.low ++ (number 8 job.high ++ text job.key)) item is) z e

-- the record of the keys of one of the two
pub keys_say : (r : RangeState) (job : SplitJob) (side : Side) → SaysOneRegion (keys_group r job side)
keys_say r job side z e =
    record_read r.said.next 1 (omega arith) (keys (side_keys r.said.keys job.key side)) (λ item is. ranges_read (keys (side_keys r.said.keys job.key side)) item is) z e
