-- What is held of a checkpoint while other things come: more is answered, and the checkpoint waits for something else.
use Rattle.std.proofs.Common.{ℕ, List, Option, Some, None}
use Rattle.memtable.specs.declared.cell.Place.{Place}
use Rattle.model_partition.specs.declared.checkpoint_job.CheckpointPhase.{CheckpointPhase}
use Rattle.model_partition.specs.declared.checkpoint_job.CheckpointPhase.TheVariants as checkpoints
use Rattle.model_partition.specs.CheckpointStates.{CheckpointState}
use Rattle.model_partition.specs.Past.{Bytes}
use Rattle.model_histories.specs.ServedTables.{AllStand}
use Rattle.model_histories.specs.StreamActions.{PlacedBytes}
use Rattle.laws_server_runs.specs.CheckpointInvariant.{CheckpointParts, HoldsNone, HasNoted, Writes, HasRecordOut, HoldsPhase, HoldsCheckpoint}
use Rattle.laws_server_runs.specs.RangeInvariant.{IsLonger}
use Rattle.laws_server_runs.proofs.Fronts.{stand_shorter}

module _ (texts : ℕ → Bytes) where
  -- ---- more bytes are answered

  module _ (c : CheckpointParts) (answered : List PlacedBytes) (longer : IsLonger c.answered answered) where
    abbrev more : CheckpointParts
    more = record c { answered = answered }

    shorter : AllStand texts answered → AllStand texts c.answered
    shorter all = stand_shorter texts c.answered answered longer all

    longer_none : HoldsNone c → HoldsNone more
    longer_none h = record { entries = h.entries; layer = h.layer; noted = h.noted; record_out = h.record_out }

    longer_noted : (job : CheckpointState) → HasNoted texts c job → HasNoted texts more job
    longer_noted job h = record {
      fixed = h.fixed;
      entries = h.entries;
      are_entries = h.are_entries;
      layer = λ all. h.layer (shorter all);
      noted = h.noted;
      position = h.position;
      number = h.number;
    }

    longer_writes : (job : CheckpointState) → Writes texts c job → Writes texts more job
    unfolding longer_noted
    longer_writes job h = record { noted = longer_noted job h.noted; are_written = h.are_written; pages = λ all. h.pages (shorter all); merged = h.merged }

    longer_out : (job : CheckpointState) (index : Place) → HasRecordOut texts c job index → HasRecordOut texts more job index
    unfolding longer_noted longer_writes
    longer_out job index h = record {
      writes = longer_writes job h.writes;
      out = h.out;
      written = λ all. h.written (shorter all);
      filed = λ all. h.filed (shorter all);
      numbered = h.numbered;
    }

    longer_phase : (job : CheckpointState) (phase : CheckpointPhase) → HoldsPhase texts c job phase → HoldsPhase texts more job phase
    longer_phase job checkpoints.Combining h = record { noted = longer_noted job h.noted; none = h.none; combine = h.combine; merged = h.merged }
    longer_phase job checkpoints.Pages h = (longer_writes job h.0, h.1)
    longer_phase job checkpoints.Index h = (longer_writes job h.0, h.1, h.2)
    longer_phase job (checkpoints.Record index) h = longer_out job index h
    longer_phase job (checkpoints.Trim before to_blob q) h = (longer_none h.0, h.1)

    pub longer_holds : (control : Option CheckpointState) → HoldsCheckpoint texts c control → HoldsCheckpoint texts more control
    longer_holds None h = longer_none h
    longer_holds (Some job) h = longer_phase job job.phase h
