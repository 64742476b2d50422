-- What a step of a range does with its streams: the extents that its load reads, the groups that it forms and that come to stand,
-- and what its confirmed load shows. Said of the range before the step and of what the step leaves, beside the rules.
use Rattle.std.specs.Prelude.{ℕ, ◌+◌, ◌-◌, ◌^◌, ◌&&◌, nat_lt, is_some, List, [], ◌∷◌, ◌++◌, length, map, Option, Some, None, if◌then◌else◌}
use Rattle.wire.specs.declared.actor.ReqNo.{ReqNo}
use Rattle.wire.specs.declared.body.AppendBody.{AppendBody}
use Rattle.wire.specs.declared.body.AppendBody.TheVariants as appends
use Rattle.wire.specs.declared.body.Body.{Body}
use Rattle.wire.specs.declared.body.Body.TheVariants as bodies
use Rattle.wire.specs.declared.body.ReadBody.{ReadBody}
use Rattle.wire.specs.declared.body.ReadBody.TheVariants as reads
use Rattle.wire.specs.declared.body.StreamBody.{StreamBody}
use Rattle.wire.specs.declared.body.StreamBody.TheVariants as streams
use Rattle.wire.specs.declared.refusal.Refusal.TheVariants as refusals
use Rattle.wire.specs.declared.streams.StreamKind.{StreamKind}
use Rattle.wire.specs.declared.streams.StreamKind.TheVariants as kinds
use Rattle.replica.specs.Groups.{joined}
use Rattle.streams.specs.declared.table.Position.{Position}
use Rattle.metadata.specs.declared.record.Region.{Region}
use Rattle.memtable.specs.declared.cell.Place.{Place}
use Rattle.commitlog.specs.Record.{spelling}
use Rattle.metadata.specs.Record.{spelling as metadata_spelling}
use Rattle.client.specs.declared.job.News.{News}
use Rattle.client.specs.declared.job.News.TheVariants as news
use Rattle.client.specs.declared.load.LoadPhase.{LoadPhase}
use Rattle.client.specs.declared.load.LoadPhase.TheVariants as phases
use Rattle.client.specs.Client.{ClientState, awaits, last_extent, reply_rule}
use Rattle.client.specs.Load.{load_awaits}
use Rattle.model_partition.specs.CheckpointStates.{CheckpointState}
use Rattle.model_partition.specs.declared.checkpoint_job.CheckpointPhase.{CheckpointPhase}
use Rattle.model_partition.specs.declared.checkpoint_job.CheckpointPhase.TheVariants as checkpoints
use Rattle.model_partition.specs.declared.server_context.ServerContext.{ServerContext}
use Rattle.model_partition.specs.declared.split_job.Side.{Side}
use Rattle.model_partition.specs.declared.split_job.Side.TheVariants.{Low, High}
use Rattle.model_partition.specs.declared.split_job.SplitJob.{SplitJob}
use Rattle.model_partition.specs.declared.split_job.SplitPhase.{SplitPhase}
use Rattle.model_partition.specs.declared.split_job.SplitPhase.TheVariants as splits
use Rattle.model_partition.specs.declared.stage.Stage.{Stage}
use Rattle.model_partition.specs.declared.stage.Stage.TheVariants as stages
use Rattle.model_partition.specs.Range.{OutGroup, RangeState, RangeOutcome, request, picking, if_there, is_serving}
use Rattle.model_partition.specs.Loading.{Group, log_end}
use Rattle.model_partition.specs.PlaceReads.{reads_under}
use Rattle.model_partition.specs.Serving.{record_of}
use Rattle.model_partition.specs.Checkpoints.{checkpoint_record, may_record, index_place, rows_may_stand, trim_awaits}
use Rattle.model_partition.specs.Answering.{groups_of, is_taken}
use Rattle.model_partition.specs.Splits.{split_record, is_drained, may_record as may_record_split, keys_record, side_range, may_say_keys, has_number}

-- bytes that stand in an extent from an offset on
pub record PlacedBytes : Type 0 where
  pub extent : ℕ
  pub offset : ℕ
  pub bytes : List ℕ

-- an extent that a load has read: its index in the stream, and the groups that were found there
pub record ExtentRead : Type 0 where
  pub index : ℕ
  pub extent : ℕ
  pub groups : List Group

pub data StreamAction : Type 0 where
  -- the load has read one more extent
  Reads : (kind : StreamKind) (read : ExtentRead) → StreamAction
  -- a group is formed, and its append begins
  Forms : (kind : StreamKind) (group : Group) → StreamAction
  -- the append ends: its group stands in this extent, at this position of the stream
  Stands : (kind : StreamKind) (extent : ℕ) (at : Position) (group : Group) → StreamAction
  -- the generation is confirmed: the log is shown from a position on up to an end, and the metadata up to an end of its own
  Shows : (start log_end metadata_end : Position) → StreamAction
  -- an index, a page or a value has been read
  Finds : (found : PlacedBytes) → StreamAction
  -- an append to row data ends: these bytes stand
  Stores : (stored : PlacedBytes) → StreamAction

-- ---- groups

abbrev pub group_of : OutGroup → Group
group_of out = spelling (record_of out.first out.transactions)

-- the group that is out after a step, where none was before it
abbrev pub formed : Option RangeState → List StreamAction
formed None = []
formed (Some r) = map (λ out. Forms kinds.Log (group_of out)) (if_there r.out)

-- what a transaction leads to
abbrev pub transact_actions : RangeState → RangeOutcome → List StreamAction
transact_actions r o = if is_some r.out then [] else formed o.after

-- the position of an offset in the last extent that a client knows
abbrev pub last_position : ClientState → ℕ → Position
last_position c offset = record { index = (c.base + length c.extents) - 1; offset = offset }

-- the group that is out stands, and the next one is formed; the newest comes first
abbrev pub stood : RangeState → Option OutGroup → ℕ → ℕ → RangeOutcome → List StreamAction
stood r None extent offset o = []
stood r (Some out) extent offset o = formed o.after ++ Stands kinds.Log extent (last_position r.log offset) (group_of out) ∷ []

-- what news of the log's client leads to while the range is served
abbrev pub serving_actions : RangeState → Option News → RangeOutcome → List StreamAction
serving_actions r (Some (news.Appended extent offset)) o = stood r r.out extent offset o
serving_actions r told o = []

-- ---- loads

-- what news of a client leads to during the load, where its answer has these groups
abbrev pub loading_actions : StreamKind → ClientState → Stage → List Group → Option News → List StreamAction
loading_actions kind c (stages.Reading k position) groups (Some (news.Content extent upto)) =
    Reads kind (record { index = c.base + position; extent = extent; groups = groups }) ∷ []
loading_actions kind c stage groups told = []

-- the position that the first region begins at
abbrev pub first_start : List Region → Position
first_start [] = record { index = 0; offset = 0 }
first_start (region ∷ regions) = region.start

-- the end of what a load has read of a stream from a position on, as it was told
abbrev pub read_end : ClientState → Position → Position
read_end c start = log_end c (last_extent c.extents) start

abbrev pub confirmed_actions : RangeState → LoadPhase → StreamBody → List StreamAction
confirmed_actions r (phases.Confirming q) (streams.Confirmed w) =
    Shows (first_start r.said.regions) (read_end r.log (record { index = r.log.base; offset = 0 })) (read_end r.metadata (record { index = r.metadata.base; offset = 0 })) ∷ []
confirmed_actions r phase body = []

abbrev pub load_actions : RangeState → Body → List StreamAction
load_actions r (bodies.Stream body) = confirmed_actions r r.load.phase body
load_actions r body = []

-- ---- answers

-- the group of a checkpoint's record
abbrev pub record_group : RangeState → CheckpointState → Place → Group
record_group r job index = metadata_spelling (checkpoint_record r job index) ∷ []

abbrev pub record_stood_in : RangeState → CheckpointState → CheckpointPhase → ℕ → ℕ → List StreamAction
record_stood_in r job (checkpoints.Record index) extent offset = Stands kinds.Metadata extent (last_position r.metadata offset) (record_group r job index) ∷ []
record_stood_in r job phase extent offset = []

abbrev pub record_stood : RangeState → Option CheckpointState → ℕ → ℕ → List StreamAction
record_stood r None extent offset = []
record_stood r (Some job) extent offset = record_stood_in r job job.phase extent offset

-- what news of the metadata's client leads to while the range is served
abbrev pub record_actions : RangeState → Option News → List StreamAction
record_actions r (Some (news.Appended extent offset)) = record_stood r r.control extent offset
record_actions r told = []

abbrev pub metadata_actions : ServerContext → RangeState → Body → List StreamAction
metadata_actions d r body =
    if is_serving r.stage then record_actions r (reply_rule (picking d r.metadata) (request d) body).news
    else loading_actions kinds.Metadata r.metadata r.stage (groups_of body) (reply_rule (picking d r.metadata) (request d) body).news

-- where an index stands, the append of the record begins
abbrev pub index_stood_in : RangeState → CheckpointState → CheckpointPhase → ℕ → ℕ → List StreamAction
index_stood_in r job checkpoints.Index extent offset =
    if may_record r job then Forms kinds.Metadata (record_group r job (index_place job extent offset)) ∷ [] else []
index_stood_in r job phase extent offset = []

abbrev pub index_stood : RangeState → Option CheckpointState → ℕ → ℕ → List StreamAction
index_stood r None extent offset = []
index_stood r (Some job) extent offset = index_stood_in r job job.phase extent offset

-- what news of the client of row data leads to; the newest comes first
abbrev pub rows_told_actions : RangeState → Option News → List StreamAction
rows_told_actions r (Some (news.Appended extent offset)) =
    (if nat_lt extent (2 ^ 64) then index_stood r r.control extent offset else []) ++ Stores (record { extent = extent; offset = offset; bytes = joined r.rows.group }) ∷ []
rows_told_actions r told = []

abbrev pub rows_actions : ServerContext → RangeState → Body → List StreamAction
rows_actions d r body =
    if rows_may_stand r.control body then rows_told_actions r (reply_rule (picking d r.rows) (request d) body).news else []

-- what the answer to the read of an index, of a page or of a value brings
abbrev pub bytes_told_actions : ReadBody → List StreamAction
bytes_told_actions (reads.Bytes w e offset bytes) = Finds (record { extent = e; offset = offset; bytes = bytes }) ∷ []
bytes_told_actions body = []

abbrev pub bytes_actions : Body → List StreamAction
bytes_actions (bodies.Read body) = bytes_told_actions body
bytes_actions body = []

abbrev pub log_actions : ServerContext → RangeState → Body → RangeOutcome → List StreamAction
log_actions d r body o =
    if is_serving r.stage then serving_actions r (reply_rule (picking d r.log) (request d) body).news o
    else loading_actions kinds.Log r.log r.stage (groups_of body) (reply_rule (picking d r.log) (request d) body).news

-- an answer of this number, by the job that waits for it
abbrev pub answered_actions : ServerContext → RangeState → ReqNo → Body → RangeOutcome → List StreamAction
answered_actions d r w body o =
    if load_awaits r.load.phase w then load_actions r body
    else if awaits r.metadata.job w then metadata_actions d r body
    else if awaits r.log.job w then (if is_taken r body then log_actions d r body o else [])
    else if awaits r.rows.job w then rows_actions d r body
    else if reads_under r.reading w then bytes_actions body
    else if trim_awaits r.control w then []
    else bytes_actions body

-- a range that is dropped does nothing
abbrev pub answer_actions : ServerContext → RangeState → ReqNo → Body → RangeOutcome → List StreamAction
answer_actions d r w body o = if is_some o.after then answered_actions d r w body o else []

-- ---- splits

-- the group of a split's record
abbrev pub split_group : SplitJob → Group
split_group job = metadata_spelling (split_record job) ∷ []

-- the answer to it, which comes to the metadata's client
abbrev pub split_stood_in : RangeState → SplitJob → SplitPhase → Option News → List StreamAction
split_stood_in r job splits.Record (Some (news.Appended extent offset)) = Stands kinds.Metadata extent (last_position r.metadata offset) (split_group job) ∷ []
split_stood_in r job phase told = []

abbrev pub split_metadata_actions : ServerContext → RangeState → SplitJob → Body → List StreamAction
split_metadata_actions d r job body =
    if is_serving r.stage then split_stood_in r job job.phase (reply_rule (picking d r.metadata) (request d) body).news else []

abbrev pub split_answered : ServerContext → RangeState → SplitJob → ReqNo → Body → List StreamAction
split_answered d r job w body =
    if load_awaits r.load.phase w then [] else if awaits r.metadata.job w then split_metadata_actions d r job body else []

-- what an answer to a range that may be split is to the split's record
abbrev pub split_stood : ServerContext → RangeState → Option SplitJob → ReqNo → Body → RangeOutcome → List StreamAction
split_stood d r None w body o = []
split_stood d r (Some job) w body o = if is_some o.after then split_answered d r job w body else []

-- where no transaction waits any more, the append of the split's record begins
abbrev pub drain_actions : RangeState → SplitJob → List StreamAction
drain_actions r job = if is_drained r && may_record_split r job then Forms kinds.Metadata (split_group job) ∷ [] else []

abbrev pub follow_actions_in : RangeState → SplitJob → SplitPhase → List StreamAction
follow_actions_in r job splits.Checkpoint = if is_some r.control then [] else drain_actions r job
follow_actions_in r job splits.Queue = drain_actions r job
follow_actions_in r job phase = []

-- what follows a step of the range
abbrev pub follow_actions : ServerContext → RangeState → SplitJob → List StreamAction
follow_actions d r job = if has_number d then follow_actions_in r job job.phase else []

abbrev pub followed_actions : ServerContext → Option SplitJob → Option RangeState → List StreamAction
followed_actions d None after = []
followed_actions d (Some job) None = []
followed_actions d (Some job) (Some r) = follow_actions d r job

-- ---- the two ranges that a split makes

-- an action on a stream of one of them
pub record SideAction : Type 0 where
  pub range : ℕ
  pub action : StreamAction

-- the append of its keys begins
abbrev pub keys_said : RangeState → SplitJob → Side → List SideAction
keys_said r job side =
    if may_say_keys r job then record { range = side_range job side; action = Forms kinds.Metadata (metadata_spelling (keys_record r job side) ∷ []) } ∷ [] else []

-- those of the higher one come after those of the lower one
abbrev pub keys_after : RangeState → SplitJob → Side → List SideAction
keys_after r job Low = keys_said r job High
keys_after r job High = []

-- what news of the client of its metadata leads to; the newest comes first
abbrev pub keys_told : RangeState → SplitJob → Side → ClientState → Option News → List SideAction
keys_told r job side c (Some (news.Appended extent offset)) =
    keys_after r job side ++ record { range = side_range job side; action = Stands kinds.Metadata extent (last_position c offset) c.group } ∷ []
keys_told r job side c told = []

-- that there are the streams counts as that they are built
abbrev pub built_refused : RangeState → SplitJob → AppendBody → List SideAction
built_refused r job (appends.Refused w refusals.NameTaken) = keys_said r job Low
built_refused r job body = []

abbrev pub built_told : RangeState → SplitJob → StreamBody → List SideAction
built_told r job (streams.Modified w) = keys_said r job Low
built_told r job body = []

abbrev pub built : RangeState → SplitJob → Body → List SideAction
built r job (bodies.Append body) = built_refused r job body
built r job (bodies.Stream body) = built_told r job body
built r job body = []

abbrev pub sides_in : ServerContext → RangeState → SplitJob → SplitPhase → Body → List SideAction
sides_in d r job (splits.Keys side c) body = keys_told r job side c (reply_rule (picking d c) (request d) body).news
sides_in d r job (splits.Build q) body = built r job body
sides_in d r job phase body = []

-- what an answer to the split leads to
abbrev pub split_sides : ServerContext → RangeState → SplitJob → Body → List SideAction
split_sides d r job body = sides_in d r job job.phase body
