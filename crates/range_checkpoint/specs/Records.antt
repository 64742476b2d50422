-- What the record of a checkpoint leaves once it stands.
use Rattle.std.specs.Prelude.{suc, ◌^◌, Bool, false, ◌&&◌, nat_lt, [], ◌∷◌, Option, Some, None, is_some, if◌then◌else◌}
use Rattle.wire.specs.declared.body.Body.{Body}
use Rattle.memtable.specs.declared.cell.Place.{Place}
use Rattle.client.specs.Client.{ClientState, Outcome, reply_rule}
use Rattle.metadata.specs.declared.record.MetaItem.TheVariants.{Checkpoint}
use Rattle.metadata.specs.Fold.{MetadataState, taken}
use Rattle.model_partition.specs.declared.checkpoint_job.CheckpointPhase.{CheckpointPhase}
use Rattle.model_partition.specs.declared.checkpoint_job.CheckpointPhase.TheVariants as phases
use Rattle.model_partition.specs.declared.server_context.ServerContext.{ServerContext}
use Rattle.model_partition.specs.CheckpointStates.{CheckpointState, is_recording, last_job}
use Rattle.model_partition.specs.Range.{RangeState, RangeOutcome, request, goes, picking}
use Rattle.model_partition.specs.Checkpoints.{indexes_below, record_stands, trims}
use Rattle.range_checkpoint.specs.declared.record_answers.Recorded.{Recorded}
use Rattle.range_checkpoint.specs.Steps.{appended}

-- what the metadata's client makes of an answer
abbrev pub metadata_reaction : ServerContext → ClientState → Body → Outcome
metadata_reaction d c body = reply_rule (picking d c) (request d) body

-- whether the record of a checkpoint is out
abbrev pub is_record_out : Option CheckpointState → Bool
is_record_out None = false
is_record_out (Some job) = is_recording job.phase

-- whether an answer says that the record of the checkpoint that is under way stands
abbrev pub is_recorded : ClientState → Option CheckpointState → Body → Bool
is_recorded c control body = is_record_out control && is_some (appended c body)

-- the step of the checkpoint whose record stands
abbrev pub installs_in : ServerContext → RangeState → Option CheckpointState → RangeOutcome
installs_in d r None = goes d r [] []
installs_in d r (Some job) = record_stands d r job job.phase

-- the same, once the client of the metadata has taken the answer that says so
abbrev pub installs : ServerContext → RangeState → Body → RangeOutcome
installs d r body = installs_in d (record r { metadata = (metadata_reaction d r.metadata body).after }) r.control

-- ---- what is noted for it

abbrev pub recorded_at : MetadataState → CheckpointState → Place → Recorded
recorded_at m job place =
    record {
      said = taken m (Checkpoint job.combine place job.position job.next);
      installed = record { place = place; keys = m.keys; index = job.pages.index };
      combine = job.combine;
      position = job.position;
      next = job.next;
    }

abbrev pub recorded_in : MetadataState → CheckpointState → CheckpointPhase → Option Recorded
recorded_in m job (phases.Record place) = if nat_lt (suc m.next) (2 ^ 64) then Some (recorded_at m job place) else None
recorded_in m job phase = None

-- of the checkpoint that is under way, if its record is out and its number leaves one
abbrev pub recorded_of : MetadataState → Option CheckpointState → Option Recorded
recorded_of m None = None
recorded_of m (Some job) = recorded_in m job job.phase

-- a job of which this is noted
abbrev pub job_of : Recorded → CheckpointState
job_of x = last_job x.position x.next phases.Pages

-- and then the log is to be trimmed
abbrev pub goes_on : ServerContext → RangeState → Option Recorded → RangeOutcome
goes_on d r None = goes d r [] []
goes_on d r (Some x) = trims d (record r { said = x.said; fixed = None; indexes = x.installed ∷ indexes_below x.combine r.indexes }) (job_of x)
