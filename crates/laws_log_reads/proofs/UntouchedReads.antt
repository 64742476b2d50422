-- A step that touches nothing of what is known of a range's streams keeps what was read.
use Rattle.std.proofs.Common.{◌≡◌, ℕ, ◌+◌, ◌<◌, ◌≤◌, Bool, true, false, List, length, sym, ap, ◌∙◌, subst}
use Rattle.wire.specs.declared.streams.StreamKind.TheVariants as kinds
use Rattle.wire.specs.declared.streams.StreamName.{StreamName}
use Rattle.replica.specs.Groups.{Group}
use Rattle.client.specs.Client.{ClientState, last_extent}
use Rattle.metadata.specs.Fold.{MetadataState}
use Rattle.model_streams.specs.StreamSystem.{StreamSystem}
use Rattle.model_partition.specs.declared.stage.Stage.{Stage}
use Rattle.model_partition.specs.declared.stage.Stage.TheVariants as stages
use Rattle.model_partition.specs.Range.{RangeState}
use Rattle.model_histories.specs.ServerRun.{RangeHistory}
use Rattle.model_histories.specs.StreamActions.{ExtentRead, first_start}
use Rattle.model_histories.specs.StreamMachine as machine
use Rattle.laws_ranges.specs.Serves.{metadata_of, log_of, is_live, known}
use Rattle.laws_log_reads.specs.Reads.{ReadsBy, AllRead, WereSealed, LastStood, Nothing, HasReadTo, IsSole, SaysSole, first_index, AreUnapplied, HasReadMetadataTo, HasReadMetadata, HasReadLogTo, HasReadAll, HasReadAt, HasRead}
use Rattle.laws_log_reads.proofs.ReadRequests.{Keeps}

-- what the metadata says is the same, and what the clients know, and what they ask for
pub record Same (r k : RangeState) : Type 0 where
  pub said : k.said ≡ r.said
  pub regions : k.regions ≡ r.regions
  pub metadata : Keeps r.metadata k.metadata
  pub log : Keeps r.log k.log
  pub metadata_by : (position : ℕ) → ReadsBy r.metadata position r.metadata.job → ReadsBy k.metadata position k.metadata.job
  pub log_by : (position : ℕ) → ReadsBy r.log position r.log.job → ReadsBy k.log position k.log.job

-- a client that knows the same extents
module _ (name : StreamName) (w : StreamSystem) (i : ℕ) (s : machine.MachineState Group) (from : ℕ) (c k : ClientState) (same : Keeps c k) (reads : List ExtentRead) where
  inside_same : c.base ≤ from → k.base ≤ from
  inside_same le = subst (λ n. n ≤ from) (sym same.base) le

  known_same : known c ≡ known k
  known_same = ap (λ n. n + length c.extents) (sym same.base) ∙ ap (λ xs. k.base + length xs) (sym same.extents)

  live_same : (live : Bool) → is_live (last_extent c.extents) ≡ live → is_live (last_extent k.extents) ≡ live
  live_same live e = ap (λ xs. is_live (last_extent xs)) same.extents ∙ e

  all_same : AllRead name w i s from c reads → AllRead name w i s from k reads
  all_same (WereSealed inside live count sealed) = WereSealed (inside_same inside) (live_same false live) (count ∙ known_same) sealed
  all_same (LastStood inside x older found is live count checked sealed stood) =
      LastStood (inside_same inside) x older found is (live_same true live) (count ∙ known_same) (same.checked ∙ checked) sealed stood
  all_same (Nothing inside found live count checked none) = Nothing (inside_same inside) found (live_same true live) (count ∙ known_same) (same.checked ∙ checked) none

  to_same : (position : ℕ) → (ReadsBy c position c.job → ReadsBy k position k.job) → HasReadTo name w i s from c reads position → HasReadTo name w i s from k reads position
  to_same position by b =
      record {
        inside = inside_same b.inside;
        count = b.count ∙ ap (λ n. n + position) (sym same.base);
        below = subst (λ n. position < n) (ap length (sym same.extents)) b.below;
        sealed = b.sealed;
        job = by b.job;
      }

module _ (range : ℕ) (w : StreamSystem) (i : ℕ) (m l : machine.MachineState Group) (h : RangeHistory) (r k : RangeState) (same : Same r k) where
  index_same : first_index r ≡ first_index k
  index_same = ap (λ (z : MetadataState). (first_start z.regions).index) (sym same.said)

  metadata_same : AllRead (metadata_of range) w i m 0 r.metadata (h.reads kinds.Metadata) → AllRead (metadata_of range) w i m 0 k.metadata (h.reads kinds.Metadata)
  metadata_same b = all_same (metadata_of range) w i m 0 r.metadata k.metadata same.metadata (h.reads kinds.Metadata) b

  sole_same : SaysSole h r → SaysSole h k
  sole_same b = λ say. subst (λ (z : MetadataState). IsSole z.regions) (sym same.said) (b say)

  unapplied_same : AreUnapplied h r → AreUnapplied h k
  unapplied_same b = λ none. same.regions ∙ b none ∙ ap (λ (z : MetadataState). z.regions) (sym same.said)

  metadata_to : (position : ℕ) → HasReadMetadataTo range w i m l h r position → HasReadMetadataTo range w i m l h k position
  metadata_to position b =
      record { metadata = to_same (metadata_of range) w i m 0 r.metadata k.metadata same.metadata (h.reads kinds.Metadata) position (same.metadata_by position) b.metadata; log = b.log; sole = sole_same b.sole }

  metadata_all : HasReadMetadata range w i m l h r → HasReadMetadata range w i m l h k
  metadata_all b = record { metadata = metadata_same b.metadata; log = b.log; regions = same.regions ∙ b.regions ∙ ap (λ (z : MetadataState). z.regions) (sym same.said); sole = sole_same b.sole }

  log_to : (position : ℕ) → HasReadLogTo range w i m l h r position → HasReadLogTo range w i m l h k position
  log_to position b =
      record {
        metadata = metadata_same b.metadata;
        log = subst (λ n. HasReadTo (log_of range) w i l n k.log (h.reads kinds.Log) position) index_same
            (to_same (log_of range) w i l (first_index r) r.log k.log same.log (h.reads kinds.Log) position (same.log_by position) b.log);
        shown = b.shown;
        sole = sole_same b.sole;
        unapplied = unapplied_same b.unapplied;
      }

  both_all : HasReadAll range w i m l h r → HasReadAll range w i m l h k
  both_all b =
      record {
        metadata = metadata_same b.metadata;
        log = subst (λ n. AllRead (log_of range) w i l n k.log (h.reads kinds.Log)) index_same
            (all_same (log_of range) w i l (first_index r) r.log k.log same.log (h.reads kinds.Log) b.log);
        shown = b.shown;
        sole = sole_same b.sole;
        unapplied = unapplied_same b.unapplied;
      }

  at_same : (stage : Stage) → HasReadAt range w i m l h r stage → HasReadAt range w i m l h k stage
  at_same stages.Opening b = record { metadata = b.metadata; log = b.log }
  at_same (stages.Checking kinds.Metadata) b = record { metadata = b.metadata; log = b.log; sole = sole_same b.sole }
  at_same (stages.Checking kinds.Log) b = metadata_all b
  at_same (stages.Checking kinds.RowData) b = absurd b
  at_same (stages.Checking kinds.BlobData) b = absurd b
  at_same (stages.Reading kinds.Metadata position) b = metadata_to position b
  at_same (stages.Reading kinds.Log position) b = log_to position b
  at_same (stages.Reading kinds.RowData position) b = absurd b
  at_same (stages.Reading kinds.BlobData position) b = absurd b
  at_same (stages.Indexing position) b = both_all b
  at_same stages.Confirming b = both_all b
  at_same stages.Serving b = tt

  -- the range is at the same stage
  pub same_left : k.stage ≡ r.stage → HasRead range w i m l h r → HasRead range w i m l h k
  same_left stage b = record { at = subst (λ z. HasReadAt range w i m l h k z) (sym stage) (at_same r.stage b.at) }

-- nothing is asked of one that is served
pub served : (range : ℕ) (w : StreamSystem) (i : ℕ) (m l : machine.MachineState Group) (h : RangeHistory) (k : RangeState) → k.stage ≡ stages.Serving → HasRead range w i m l h k
served range w i m l h k e = record { at = subst (λ z. HasReadAt range w i m l h k z) (sym e) tt }
