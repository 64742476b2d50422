-- What a server keeps of a range, and what a step of a range leaves.
use Rattle.std.specs.Prelude.{ℕ, suc, Bool, true, false, ◌||◌, ◌&&◌, ◌==◌, nat_lt, List, [], ◌∷◌, ◌++◌, map, Option, Some, None, Result, Ok, Err, if◌then◌else◌}
use Rattle.wire.specs.declared.actor.ActorId.{ActorId}
use Rattle.wire.specs.declared.actor.ActorId.TheVariants.{Server}
use Rattle.wire.specs.declared.actor.ReqNo.{ReqNo}
use Rattle.wire.specs.declared.actor.ReqNo.TheVariants as requests
use Rattle.wire.specs.declared.body.AppendBody.TheVariants as appends
use Rattle.wire.specs.declared.body.Body.{Body}
use Rattle.wire.specs.declared.body.Body.TheVariants as bodies
use Rattle.wire.specs.declared.packet.Packet.{Packet}
use Rattle.wire.specs.declared.refusal.Refusal.{Refusal}
use Rattle.wire.specs.declared.refusal.Refusal.TheVariants as refusals
use Rattle.wire.specs.declared.streams.StreamList.{StreamList}
use Rattle.streams.specs.declared.table.Position.{Position}
use Rattle.memtable.specs.declared.cell.Place.{Place}
use Rattle.memtable.specs.Entries.{Entries}
use Rattle.metadata.specs.declared.record.Region.{Region}
use Rattle.metadata.specs.Fold.{MetadataState}
use Rattle.checkpoint.specs.declared.installed_index.InstalledIndex.{InstalledIndex}
use Rattle.client.specs.declared.fault.ClientFault.{ClientFault}
use Rattle.client.specs.Client.{ClientState, Outcome, waits}
use Rattle.client.specs.Load.{LoadState}
use Rattle.model_partition.specs.CheckpointStates.{CheckpointState}
use Rattle.model_partition.specs.declared.server_context.ServerContext.{ServerContext}
use Rattle.model_partition.specs.declared.pause.Pause.{Pause}
use Rattle.model_partition.specs.declared.pause.Pause.TheVariants as pauses
use Rattle.model_partition.specs.declared.stage.Stage.{Stage}
use Rattle.model_partition.specs.declared.stage.Stage.TheVariants.{Serving}
use Rattle.model_partition.specs.declared.table_note.TableNote.{TableNote}
use Rattle.model_partition.specs.declared.waiting.PlaceRead.{PlaceRead}
use Rattle.model_partition.specs.declared.waiting.WaitingGet.{WaitingGet}
use Rattle.model_partition.specs.declared.waiting.WaitingTransaction.{WaitingTransaction}

-- the group that is being appended: the number of its first transaction, and its transactions
pub record OutGroup : Type 0 where
  pub first : ℕ
  pub transactions : List WaitingTransaction

-- A range at a server: the end of its lease, and what it takes; the opening and the confirmation of its streams; its stage; its metadata, its log
-- and its row data, as clients know them, and its blob stream; what its metadata says; the regions of the log, each with the
-- number that is to be applied next; the two layers of its memory table; the indexes below it, the newest first, and the index or
-- the page that is being read; the checkpoint that is under way; the number of the next transaction; the end of what was appended
-- to the log; the transactions that wait, and those that are being appended; the Gets that wait, and what was read for them.
pub record RangeState : Type 0 where
  pub until : ℕ
  pub pause : Pause
  pub load : LoadState
  pub stage : Stage
  pub metadata : ClientState
  pub log : ClientState
  pub rows : ClientState
  pub blob_data : StreamList
  pub said : MetadataState
  pub regions : List Region
  pub live : Entries
  pub fixed : Option Entries
  pub indexes : List InstalledIndex
  pub reading : Option PlaceRead
  pub control : Option CheckpointState
  pub next : ℕ
  pub position : Position
  pub queue : List WaitingTransaction
  pub out : Option OutGroup
  pub gets : List WaitingGet
  pub held : List (Place × List ℕ)

-- What a step leaves: the range, if it was not dropped, the number of the server's next request, the packets and the
-- observations.
pub record RangeOutcome : Type 0 where
  pub after : Option RangeState
  pub count : ℕ
  pub packets : List Packet
  pub notes : List TableNote

-- ---- requests and answers

-- the number of the next request
abbrev pub request : ServerContext → ReqNo
request d = requests.Server d.server d.session d.count

abbrev pub used : ServerContext → ServerContext
used d = record d { count = suc d.count }

abbrev pub tells : ServerContext → ActorId → Body → Packet
tells d to body = record { from = Server d.server; to = to; body = body }

abbrev pub refuses : ServerContext → ActorId → ReqNo → Refusal → Packet
refuses d to q refusal = tells d to (bodies.Append (appends.Refused q refusal))

abbrev pub if_there : {A : Type 0} → Option A → List A
if_there None = []
if_there (Some x) = x ∷ []

-- ---- steps

-- nothing changes, and these packets are sent
abbrev pub answers : ServerContext → RangeState → List Packet → RangeOutcome
answers d r packets = record { after = Some r; count = d.count; packets = packets; notes = [] }

-- a step that used the number of the next request
abbrev pub goes : ServerContext → RangeState → List Packet → List TableNote → RangeOutcome
goes d r packets notes = record { after = Some r; count = suc d.count; packets = packets; notes = notes }

abbrev pub waiting_out : Option OutGroup → List WaitingTransaction
waiting_out None = []
waiting_out (Some out) = out.transactions

-- the Gets that wait are told that this server does not hold the range
abbrev pub refused_gets : ServerContext → RangeState → List Packet
refused_gets d r = map (λ g. refuses d g.from g.request refusals.NotOwner) r.gets

-- those that wait are told so: the group that is being appended, the queue, the Gets
abbrev pub refused_users : ServerContext → RangeState → List Packet
refused_users d r = map (λ t. refuses d t.from t.request refusals.NotOwner) (waiting_out r.out ++ r.queue) ++ refused_gets d r

-- the range goes, with its jobs
abbrev pub dropped : ServerContext → RangeState → RangeOutcome
dropped d r = record { after = None; count = suc d.count; packets = refused_users d r; notes = [] }

-- ---- clients

-- what a call of a client gives; a call that does not fit changes nothing
abbrev pub given : ClientState → Result Outcome ClientFault → Outcome
given c (Ok o) = o
given c (Err fault) = waits c

abbrev pub picking : ServerContext → ClientState → ClientState
picking d c = record c { pick = d.pick }

-- ---- positions

abbrev pub position_le : Position → Position → Bool
position_le a b = nat_lt a.index b.index || ((a.index == b.index) && (nat_lt a.offset b.offset || (a.offset == b.offset)))

abbrev pub later : Position → Position → Position
later a b = if position_le a b then b else a

abbrev pub is_serving : Stage → Bool
is_serving Serving = true
is_serving _ = false

-- ---- pauses

abbrev pub takes_no_transaction : Pause → Bool
takes_no_transaction pauses.Off = false
takes_no_transaction pauses.AfterQueue = true
takes_no_transaction pauses.On = true

abbrev pub is_paused : Pause → Bool
is_paused pauses.Off = false
is_paused pauses.AfterQueue = false
is_paused pauses.On = true
