-- Answers to the client that appends the keys of one of the two ranges.
use Rattle.std.specs.Prelude.{Bool, true, false, List, Option, Some, None, is_some, if◌then◌else◌}
use Rattle.wire.specs.declared.body.Body.{Body}
use Rattle.wire.specs.declared.packet.Packet.{Packet}
use Rattle.client.specs.declared.job.News.{News}
use Rattle.client.specs.declared.job.News.TheVariants as news
use Rattle.client.specs.Client.{ClientState}
use Rattle.model_partition.specs.declared.server_context.ServerContext.{ServerContext}
use Rattle.model_partition.specs.declared.split_job.Side.{Side}
use Rattle.model_partition.specs.declared.split_job.SplitPhase.{SplitPhase}
use Rattle.model_partition.specs.declared.split_job.SplitPhase.TheVariants as phases
use Rattle.model_partition.specs.declared.split_job.SplitJob.{SplitJob}
use Rattle.model_partition.specs.Range.{RangeState}
use Rattle.model_partition.specs.Splits.{SplitStep, ends, goes, with_phase}
use Rattle.range_checkpoint.specs.Steps.{appended}

-- whether the keys of one of the two are being appended
abbrev pub are_said : SplitPhase → Bool
are_said (phases.Keys side c) = true
are_said phase = false

-- of which side they stand, if the answer says so and is waited for
abbrev pub side_stood : SplitPhase → Body → Option Side
side_stood (phases.Keys side c) body = if is_some (appended c body) then Some side else None
side_stood phase body = None

-- what comes of another answer, of which the client was left so
abbrev pub other_told : ServerContext → RangeState → SplitJob → Side → ClientState → Option News → List Packet → SplitStep
other_told d r job side after (Some news.Fenced) packets = ends d r
other_told d r job side after told packets = goes d r (with_phase job (phases.Keys side after)) packets
