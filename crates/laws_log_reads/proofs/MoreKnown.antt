-- What was read stays read while others go on.
use Rattle.std.proofs.Common.{ℕ, ◌+◌, List, [], ◌∷◌, length, Option, Some, None, Contains, inl, inr}
use Rattle.wire.specs.declared.note.Note.{Note}
use Rattle.wire.specs.declared.note.Note.TheVariants.{Content, Seen}
use Rattle.wire.specs.declared.streams.StreamKind.TheVariants as kinds
use Rattle.wire.specs.declared.streams.StreamName.{StreamName}
use Rattle.replica.specs.Groups.{Group, text}
use Rattle.client.specs.Client.{ClientState}
use Rattle.model_streams.specs.StreamSystem.{StreamSystem}
use Rattle.model_partition.specs.declared.stage.Stage.{Stage}
use Rattle.model_partition.specs.declared.stage.Stage.TheVariants as stages
use Rattle.model_partition.specs.Range.{RangeState}
use Rattle.model_histories.specs.ServerRun.{RangeHistory}
use Rattle.model_histories.specs.StreamActions.{ExtentRead}
use Rattle.model_histories.specs.StreamMachine as machine
use Rattle.laws_ranges.specs.Serves.{metadata_of, log_of}
use Rattle.laws_log_reads.specs.Reads.{IsSealed, AllSealed, HasStood, AllRead, WereSealed, LastStood, Nothing, HasReadTo, IsShown, AllShown, first_index, HasReadMetadataTo, HasReadMetadata, HasReadLogTo, HasReadAll, HasReadAt, HasRead, HasReadIf, Grown, BothGrown}

-- ---- observations

module _ (w v : StreamSystem) (notes : (note : Note) → Contains w.notes note → Contains v.notes note) where
  shown_on : (e : ℕ) (groups : List Group) → IsShown w.notes e groups → IsShown v.notes e groups
  shown_on e groups (n, inl there) = (n, inl (notes (Content e n groups) there))
  shown_on e groups (n, inr there) = (n, inr (notes (Seen e n 0 (text groups)) there))

  -- what is shown stays shown
  pub all_shown_on : (reads : List ExtentRead) → AllShown w reads → AllShown v reads
  all_shown_on [] b = tt
  all_shown_on (x ∷ older) b = (shown_on x.extent x.groups b.0, all_shown_on older b.1)

-- ---- a stream

module _ (name : StreamName) (w v : StreamSystem) (i : ℕ) (s t : machine.MachineState Group) (g : Grown name w v s t) where
  sealed_on : (index : ℕ) (x : ExtentRead) → IsSealed name w i s index x → IsSealed name v i t index x
  sealed_on index x b = record { at = g.extents index x.extent b.at; index_is = b.index_is; shut = b.shut; is = g.shut index b.shut b.is; same = b.same }

  all_on : (from : ℕ) (reads : List ExtentRead) → AllSealed name w i s from reads → AllSealed name v i t from reads
  all_on from [] b = tt
  all_on from (x ∷ older) b = (sealed_on (from + length older) x b.0, all_on from older b.1)

  stood_on : (index found : ℕ) (x : ExtentRead) → HasStood name w i s index found x → HasStood name v i t index found x
  stood_on index found x b = record { at = g.extents index x.extent b.at; index_is = b.index_is; stood = b.stood; fact = g.facts _ b.fact; same = b.same }

  every_on : (from : ℕ) (c : ClientState) (reads : List ExtentRead) → AllRead name w i s from c reads → AllRead name v i t from c reads
  every_on from c reads (WereSealed inside live count sealed) = WereSealed inside live count (all_on from reads sealed)
  every_on from c reads (LastStood inside x older found is live count checked sealed stood) =
      LastStood inside x older found is live count checked (all_on from older sealed) (stood_on (from + length older) found x stood)
  every_on from c reads (Nothing inside found live count checked none) = Nothing inside found live count checked none

  to_on : (from : ℕ) (c : ClientState) (reads : List ExtentRead) (position : ℕ) → HasReadTo name w i s from c reads position → HasReadTo name v i t from c reads position
  to_on from c reads position b = record { inside = b.inside; count = b.count; below = b.below; sealed = all_on from reads b.sealed; job = b.job }

-- ---- a range

module _ (range : ℕ) (w v : StreamSystem) (i : ℕ) (m n l k : machine.MachineState Group) (g : BothGrown range w v m n l k) (h : RangeHistory) where
  metadata_to : (r : RangeState) (position : ℕ) → HasReadMetadataTo range w i m l h r position → HasReadMetadataTo range v i n k h r position
  metadata_to r position b = record { metadata = to_on (metadata_of range) w v i m n g.metadata 0 r.metadata (h.reads kinds.Metadata) position b.metadata; log = b.log; sole = b.sole }

  metadata_all : (r : RangeState) → HasReadMetadata range w i m l h r → HasReadMetadata range v i n k h r
  metadata_all r b = record { metadata = every_on (metadata_of range) w v i m n g.metadata 0 r.metadata (h.reads kinds.Metadata) b.metadata; log = b.log; regions = b.regions; sole = b.sole }

  log_to : (r : RangeState) (position : ℕ) → HasReadLogTo range w i m l h r position → HasReadLogTo range v i n k h r position
  log_to r position b =
      record {
        metadata = every_on (metadata_of range) w v i m n g.metadata 0 r.metadata (h.reads kinds.Metadata) b.metadata;
        log = to_on (log_of range) w v i l k g.log (first_index r) r.log (h.reads kinds.Log) position b.log;
        shown = all_shown_on w v g.notes (h.reads kinds.Log) b.shown;
        sole = b.sole;
        unapplied = b.unapplied;
      }

  both_all : (r : RangeState) → HasReadAll range w i m l h r → HasReadAll range v i n k h r
  both_all r b =
      record {
        metadata = every_on (metadata_of range) w v i m n g.metadata 0 r.metadata (h.reads kinds.Metadata) b.metadata;
        log = every_on (log_of range) w v i l k g.log (first_index r) r.log (h.reads kinds.Log) b.log;
        shown = all_shown_on w v g.notes (h.reads kinds.Log) b.shown;
        sole = b.sole;
        unapplied = b.unapplied;
      }

  at_on : (r : RangeState) (stage : Stage) → HasReadAt range w i m l h r stage → HasReadAt range v i n k h r stage
  at_on r stages.Opening b = record { metadata = b.metadata; log = b.log }
  at_on r (stages.Checking kinds.Metadata) b = record { metadata = b.metadata; log = b.log; sole = b.sole }
  at_on r (stages.Checking kinds.Log) b = metadata_all r b
  at_on r (stages.Checking kinds.RowData) b = absurd b
  at_on r (stages.Checking kinds.BlobData) b = absurd b
  at_on r (stages.Reading kinds.Metadata position) b = metadata_to r position b
  at_on r (stages.Reading kinds.Log position) b = log_to r position b
  at_on r (stages.Reading kinds.RowData position) b = absurd b
  at_on r (stages.Reading kinds.BlobData position) b = absurd b
  at_on r (stages.Indexing position) b = both_all r b
  at_on r stages.Confirming b = both_all r b
  at_on r stages.Serving b = tt

  -- whatever others do, the range has read what it has read
  pub has_read_on : (r : RangeState) → HasRead range w i m l h r → HasRead range v i n k h r
  has_read_on r b = record { at = at_on r r.stage b.at }

  pub has_read_if_on : (o : Option RangeState) → HasReadIf range w i m l h o → HasReadIf range v i n k h o
  has_read_if_on None b = tt
  has_read_if_on (Some r) b = has_read_on r b
