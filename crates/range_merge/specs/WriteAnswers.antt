-- Answers to the client that appends the records of the new range.
use Rattle.std.specs.Prelude.{Bool, true, false, List, Option, Some, None, is_some, if◌then◌else◌}
use Rattle.wire.specs.declared.body.Body.{Body}
use Rattle.wire.specs.declared.packet.Packet.{Packet}
use Rattle.client.specs.declared.job.News.{News}
use Rattle.client.specs.declared.job.News.TheVariants as news
use Rattle.client.specs.Client.{ClientState}
use Rattle.model_partition.specs.declared.server_context.ServerContext.{ServerContext}
use Rattle.model_partition.specs.Range.{RangeState}
use Rattle.range_checkpoint.specs.Steps.{appended}
use Rattle.model_partition.specs.declared.merge_job.MergeJob.{MergeJob}
use Rattle.model_partition.specs.declared.merge_job.MergePhase.{MergePhase}
use Rattle.model_partition.specs.declared.merge_job.MergePhase.TheVariants as phases
use Rattle.model_partition.specs.declared.merge_job.MergeRecord.{MergeRecord}
use Rattle.model_partition.specs.Merges.{MergeStep, ends, goes, with_phase}

-- whether a record of the new range is being appended
abbrev pub is_writing : MergePhase → Bool
is_writing (phases.Write what c) = true
is_writing phase = false

-- which record stands, if the answer says so and is waited for
abbrev pub record_stood : MergePhase → Body → Option MergeRecord
record_stood (phases.Write what c) body = if is_some (appended c body) then Some what else None
record_stood phase body = None

-- what comes of another answer than that the record stands, of which the client was left so
abbrev pub other_told : ServerContext → RangeState → RangeState → MergeJob → MergeRecord → ClientState → Option News → List Packet → MergeStep
other_told d l r job what after (Some news.Fenced) packets = ends d l r
other_told d l r job what after told packets = goes d l r (with_phase job (phases.Write what after)) packets
