-- What an answer to an append of a checkpoint leads to, in the parts that calls do.
use Rattle.std.specs.Prelude.{ℕ, suc, ◌^◌, Bool, ◌&&◌, nat_lt, List, [], ◌∷◌, Option, Some, None, option_to_list, if◌then◌else◌}
use Rattle.wire.specs.declared.body.AppendBody.{AppendBody}
use Rattle.wire.specs.declared.body.AppendBody.TheVariants as appends
use Rattle.wire.specs.declared.body.Body.{Body}
use Rattle.wire.specs.declared.body.Body.TheVariants as bodies
use Rattle.wire.specs.declared.packet.Packet.{Packet}
use Rattle.client.specs.declared.job.Job.{Job}
use Rattle.client.specs.declared.job.Job.TheVariants.{Sent}
use Rattle.client.specs.declared.job.News.{News}
use Rattle.client.specs.declared.job.News.TheVariants as news
use Rattle.client.specs.Client.{ClientState, Outcome, append_rule, awaits, waits}
use Rattle.metadata.specs.Record.{spelling}
use Rattle.checkpoint_format.specs.Index.{fits_a_group}
use Rattle.checkpoint.specs.PageGroups.{next_group}
use Rattle.model_partition.specs.declared.checkpoint_job.CheckpointPhase.{CheckpointPhase}
use Rattle.model_partition.specs.declared.checkpoint_job.CheckpointPhase.TheVariants as phases
use Rattle.model_partition.specs.CheckpointStates.{CheckpointState}
use Rattle.model_partition.specs.declared.server_context.ServerContext.{ServerContext}
use Rattle.model_partition.specs.Range.{RangeState, RangeOutcome, request, given, goes, dropped, picking}
use Rattle.model_partition.specs.Loading.{Group}
use Rattle.range_checkpoint.specs.declared.row_answers.NextStep.{NextStep}
use Rattle.range_checkpoint.specs.declared.row_answers.NextStep.TheVariants.{Rows, Metadata, Rests}
use Rattle.model_partition.specs.Checkpoints.{checkpoint_record, index_place, may_record, next_append, pages_stand, with_phase}

-- ---- answers

-- the extent and the offset in it where the group stands that is out, where that is what the answer says
abbrev pub appended_in : Job → ℕ → Option (ℕ × ℕ)
appended_in (Sent e w) offset = Some (e, offset)
appended_in job offset = None

abbrev pub appended_by : ClientState → AppendBody → Option (ℕ × ℕ)
appended_by c (appends.Appended w e offset) = if awaits c.job w then appended_in c.job offset else None
appended_by c body = None

abbrev pub appended : ClientState → Body → Option (ℕ × ℕ)
appended c (bodies.Append body) = appended_by c body
appended c body = None

-- news that is not of a group that stands: the packets go, and a range of an old generation is of no use
abbrev pub stays : ServerContext → RangeState → Option News → List Packet → RangeOutcome
stays d r (Some news.Fenced) packets = dropped d r
stays d r told packets = goes d r packets []

-- ---- what is appended next

-- a group that a client is given, if there is one
abbrev pub sent : ServerContext → ClientState → Option Group → Outcome
sent d c None = waits c
sent d c (Some group) = given (picking d c) (append_rule (picking d c) (request d) group)

abbrev pub with_rows : CheckpointState × Option Group → CheckpointState × NextStep
with_rows x = (x.0, Rows x.1)

-- whether the record of a checkpoint can be written under a number
abbrev pub may_record_at : ℕ → CheckpointState → Bool
may_record_at number job = fits_a_group job.pages.index && (nat_lt (suc number) (2 ^ 64) && (nat_lt 0 number && nat_lt 0 job.next))

abbrev pub stands_in : ServerContext → RangeState → CheckpointState → CheckpointPhase → ℕ → ℕ → CheckpointState × NextStep
stands_in d r job phases.Pages e offset = with_rows (next_append (pages_stand job e offset) (next_group (pages_stand job e offset).pages))
stands_in d r job phases.Index e offset =
    if may_record r job then (with_phase job (phases.Record (index_place job e offset)), Metadata (spelling (checkpoint_record r job (index_place job e offset)) ∷ []))
    else (job, Rests)
stands_in d r job phase e offset = (job, Rests)

-- what a checkpoint does once its group stands at an offset of an extent of row data
abbrev pub stands : ServerContext → RangeState → CheckpointState → ℕ → ℕ → CheckpointState × NextStep
stands d r job e offset = stands_in d r job job.phase e offset

-- the same of the checkpoint that is under way, if one is
abbrev pub with_job : CheckpointState × NextStep → Option CheckpointState × NextStep
with_job x = (Some x.0, x.1)

abbrev pub control_stands : ServerContext → RangeState → Option CheckpointState → ℕ → ℕ → Option CheckpointState × NextStep
control_stands d r None e offset = (None, Rests)
control_stands d r (Some job) e offset = with_job (stands d r job e offset)

abbrev pub goes_on : ServerContext → RangeState → NextStep → RangeOutcome
goes_on d r (Rows group) = goes d (record r { rows = (sent d r.rows group).after }) (option_to_list (sent d r.rows group).packet) []
goes_on d r (Metadata group) = goes d (record r { metadata = (sent d r.metadata (Some group)).after }) (option_to_list (sent d r.metadata (Some group)).packet) []
goes_on d r Rests = goes d r [] []
