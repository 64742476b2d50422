-- The servers over a list of what comes to them, and what they make of it of streams: the story of each stream as its servers see
-- it, the bytes that they were shown and answered, and what they show themselves. Nothing is said of who answers them.
use Rattle.std.specs.Prelude.{ℕ, ◌+◌, Bool, ◌&&◌, ◌==◌, nat_lt, List, [], ◌∷◌, ◌++◌, length, map, Option, Some, None, if◌then◌else◌}
use Rattle.block_types.specs.declared.record.Nodes.{Nodes}
use Rattle.wire.specs.declared.actor.ActorId.{ActorId}
use Rattle.wire.specs.declared.actor.ActorId.TheVariants.{Map}
use Rattle.wire.specs.declared.actor.ReqNo.{ReqNo}
use Rattle.wire.specs.declared.body.Body.{Body}
use Rattle.wire.specs.declared.body.Body.TheVariants as bodies
use Rattle.wire.specs.declared.body.MapBody.{MapBody}
use Rattle.wire.specs.declared.body.MapBody.TheVariants as maps
use Rattle.wire.specs.declared.body.TableBody.{TableBody}
use Rattle.wire.specs.declared.body.TableBody.TheVariants as tables
use Rattle.wire.specs.declared.packet.Packet.{Packet}
use Rattle.wire.specs.declared.streams.StreamKind.{StreamKind}
use Rattle.wire.specs.declared.streams.StreamKind.TheVariants as kinds
use Rattle.wire.specs.declared.streams.StreamName.{StreamName}
use Rattle.wire.specs.declared.transaction.Change.{Change}
use Rattle.block_types.specs.Limits.{group_size}
use Rattle.replica.specs.Groups.{joined, text}
use Rattle.streams.specs.Streams.{kind_number}
use Rattle.streams.specs.declared.table.Position.{Position}
use Rattle.model_streams.specs.Maps.{changed, changed_at, entry_at}
use Rattle.model_partition.specs.declared.table_note.TableNote.{TableNote}
use Rattle.model_histories.specs.StreamMachine.{base}
use Rattle.model_histories.specs.Story.{Placed, StreamEvent, Made, Answered, Showed, Story}
use Rattle.model_partition.specs.declared.split_job.SplitJob.{SplitJob}
use Rattle.model_partition.specs.Range.{RangeState, RangeOutcome}
use Rattle.model_partition.specs.Loading.{Group}
use Rattle.model_partition.specs.Serving.{transact_rule}
use Rattle.model_partition.specs.Getting.{get_rule}
use Rattle.model_partition.specs.Answering.{answered_number, is_answerer, answer_rule}
use Rattle.model_partition.specs.Server.{ServerState, range_of, is_newer, awaiting, has_numbers, split_of, split_awaiting, counted}
use Rattle.model_partition.specs.Servers.{ServerCell, ServersOutcome, server_takes, server_gives_up, server_checkpoints, server_splits, server_stops, server_starts, told_moment, first_servers}
use Rattle.model_histories.specs.StreamActions.{PlacedBytes, ExtentRead, StreamAction, Reads, Forms, Stands, Shows, Finds, Stores, transact_actions, answer_actions, split_stood, followed_actions, SideAction, split_sides}

-- ---- places

-- a position of a stream as a number: its places are ordered as these numbers are
abbrev pub place_number : Position → ℕ
place_number at = base at.index + at.offset

-- groups, one behind the other from a place on
abbrev pub placed_from : ℕ → List Group → List (Placed Group)
placed_from at [] = []
placed_from at (group ∷ groups) = record { from = at; to = at + group_size group; group = group } ∷ placed_from (at + group_size group) groups

-- the groups of what was read, the oldest extent first
abbrev pub placed_reads : List ExtentRead → List (Placed Group)
placed_reads [] = []
placed_reads (x ∷ older) = placed_reads older ++ placed_from (base x.index) x.groups

-- those that stand at a place or behind it
abbrev pub placed_behind : ℕ → List (Placed Group) → List (Placed Group)
placed_behind start [] = []
placed_behind start (p ∷ placed) = if nat_lt p.from start then placed_behind start placed else p ∷ placed

-- what was read of each extent
abbrev pub bytes_read : List ExtentRead → List PlacedBytes
bytes_read reads = map (λ (x : ExtentRead). record { extent = x.extent; offset = 0; bytes = text x.groups }) reads

-- ---- what servers have done with streams

pub record RangeHistory : Type 0 where
  -- what the load of a range has read of each of its streams, the newest extent first
  pub reads : StreamKind → List ExtentRead
  -- the event of a stream's story with which the append that is out began
  pub append : StreamKind → ℕ

-- The servers, the history of each range at each server, the story of each stream, the bytes that loads and reads of each range were
-- shown (of its log, of its indexes, of pages and of values) and those that its appends were answered for, the newest first; and what
-- servers showed, in order.
pub record ServerRun : Type 0 where
  pub servers : List ServerCell
  pub history : (server range : ℕ) → RangeHistory
  pub story : StreamName → Story Group
  pub shown : (range : ℕ) → List PlacedBytes
  pub answered : (range : ℕ) → List PlacedBytes
  pub notes : List TableNote

abbrev pub first_history : RangeHistory
first_history = record { reads = λ kind. []; append = λ kind. 0 }

abbrev pub is_kind : StreamKind → StreamKind → Bool
is_kind a b = kind_number a == kind_number b

abbrev pub is_stream : StreamName → StreamName → Bool
is_stream a b = (a.range == b.range) && is_kind a.kind b.kind

-- one more event of a stream
abbrev pub with_event : (StreamName → Story Group) → StreamName → StreamEvent Group → StreamName → Story Group
with_event stories name event other = if is_stream other name then event ∷ stories other else stories other

abbrev pub one_more_read : RangeHistory → StreamKind → ExtentRead → RangeHistory
one_more_read h kind read = record h { reads = λ k. if is_kind k kind then read ∷ h.reads k else h.reads k }

abbrev pub begun_at : RangeHistory → StreamKind → ℕ → RangeHistory
begun_at h kind event = record h { append = λ k. if is_kind k kind then event else h.append k }

abbrev pub stream_named : ℕ → StreamKind → StreamName
stream_named range kind = record { range = range; kind = kind }

module _ (server range generation : ℕ) where
  -- after one action of a range, which a server serves under a generation
  abbrev pub after_action : ServerRun → StreamAction → ServerRun
  after_action x (Reads kind read) = record x { history = changed_at server range (one_more_read (x.history server range) kind read) x.history }
  after_action x (Forms kind group) =
      record x {
        story = with_event x.story (stream_named range kind) (Made generation group);
        history = changed_at server range (begun_at (x.history server range) kind (length (x.story (stream_named range kind)))) x.history;
      }
  after_action x (Stands kind extent at group) =
      record x {
        story = with_event x.story (stream_named range kind)
            (Answered ((x.history server range).append kind) (place_number at) (place_number at + group_size group));
        answered = changed range (record { extent = extent; offset = at.offset; bytes = joined group } ∷ x.answered range) x.answered;
      }
  after_action x (Shows start log_end metadata_end) =
      let h : RangeHistory = x.history server range in
      record x {
        story = with_event
            (with_event x.story (stream_named range kinds.Metadata) (Showed generation 0 (place_number metadata_end) (placed_reads (h.reads kinds.Metadata))))
            (stream_named range kinds.Log)
            (Showed generation (place_number start) (place_number log_end) (placed_behind (place_number start) (placed_reads (h.reads kinds.Log))));
        shown = changed range (bytes_read (h.reads kinds.Log) ++ x.shown range) x.shown;
      }
  after_action x (Finds found) = record x { shown = changed range (found ∷ x.shown range) x.shown }
  after_action x (Stores stored) = record x { answered = changed range (stored ∷ x.answered range) x.answered }

  -- after some, of which the last was done first
  abbrev pub after_actions : ServerRun → List StreamAction → ServerRun
  after_actions x [] = x
  after_actions x (action ∷ earlier) = after_action (after_actions x earlier) action

-- after some actions on streams of the two ranges that a split makes, of which the last was done first
abbrev pub after_sides : (server generation : ℕ) → ServerRun → List SideAction → ServerRun
after_sides server generation x [] = x
after_sides server generation x (side ∷ earlier) = after_action server side.range generation (after_sides server generation x earlier) side.action

-- ---- what comes to a server

-- What a packet is to the ranges of a server: a range begins a load, or a range does something under its generation, or its split does
-- something, under that generation, on streams of the two that it makes, or nothing is done with a stream.
pub data RangeEffect : Type 0 where
  Begins : (range : ℕ) → RangeEffect
  Does : (range generation : ℕ) (actions : List StreamAction) → RangeEffect
  Tells : (generation : ℕ) (sides : List SideAction) → RangeEffect
  Rests : RangeEffect

abbrev pub told_effect : ServerState → MapBody → RangeEffect
told_effect s (maps.Assign range generation until) = if is_newer generation (range_of s.ranges range) then Begins range else Rests
told_effect s body = Rests

abbrev pub map_effect : ServerState → ActorId → MapBody → RangeEffect
map_effect s Map body = told_effect s body
map_effect s from body = Rests

abbrev pub transact_effect : ServerState → Packet → ℕ → List Change → ReqNo → Option RangeState → RangeEffect
transact_effect s p range changes q None = Rests
transact_effect s p range changes q (Some r) =
    let o : RangeOutcome = transact_rule s.context r p.from q changes in
    Does range r.load.generation (followed_actions (counted s.context o) (split_of s.splits range) o.after ++ transact_actions r o)

-- a step that does nothing with streams itself
abbrev pub follow_effect : ServerState → ℕ → RangeState → Option SplitJob → RangeOutcome → RangeEffect
follow_effect s range r None o = Rests
follow_effect s range r (Some job) o = Does range r.load.generation (followed_actions (counted s.context o) (Some job) o.after)

abbrev pub get_effect : ServerState → Packet → ℕ → List ℕ → ReqNo → Option RangeState → RangeEffect
get_effect s p range key q None = Rests
get_effect s p range key q (Some r) = follow_effect s range r (split_of s.splits range) (get_rule s.context r p.from q key)

abbrev pub table_effect : ServerState → Packet → TableBody → RangeEffect
table_effect s p (tables.Transact range changes q) = transact_effect s p range changes q (range_of s.ranges range)
table_effect s p (tables.Get range key q) = get_effect s p range key q (range_of s.ranges range)
table_effect s p body = Rests

abbrev pub answer_effect : ServerState → Packet → ReqNo → ℕ → Option RangeState → RangeEffect
answer_effect s p w range None = Rests
answer_effect s p w range (Some r) =
    let o : RangeOutcome = answer_rule s.context r w p.body in
    let job : Option SplitJob = split_of s.splits range in
    Does range r.load.generation (followed_actions (counted s.context o) job o.after ++ (split_stood s.context r job w p.body o ++ answer_actions s.context r w p.body o))

abbrev pub split_effect_in : ServerState → Packet → Option RangeState → Option SplitJob → RangeEffect
split_effect_in s p (Some r) (Some job) = Tells job.generation (split_sides s.context r job p.body)
split_effect_in s p (Some r) None = Rests
split_effect_in s p None job = Rests

abbrev pub split_effect : ServerState → Packet → Option ℕ → RangeEffect
split_effect s p None = Rests
split_effect s p (Some range) = split_effect_in s p (range_of s.ranges range) (split_of s.splits range)

abbrev pub awaited_effect : ServerState → Packet → ReqNo → Option ℕ → RangeEffect
awaited_effect s p w None = split_effect s p (split_awaiting s.splits w)
awaited_effect s p w (Some range) = answer_effect s p w range (range_of s.ranges range)

abbrev pub numbered_effect : ServerState → Packet → Option ReqNo → RangeEffect
numbered_effect s p None = Rests
numbered_effect s p (Some w) = if is_answerer p.from p.body then awaited_effect s p w (awaiting s.ranges w) else Rests

abbrev pub packet_effect : ServerState → Packet → Body → RangeEffect
packet_effect s p (bodies.Map (maps.Assign range generation until)) = map_effect s p.from (maps.Assign range generation until)
packet_effect s p (bodies.Map (maps.Renew range generation until)) = map_effect s p.from (maps.Renew range generation until)
packet_effect s p (bodies.Table body) = table_effect s p body
packet_effect s p body = numbered_effect s p (answered_number body)

abbrev pub server_effect : Packet → Option ServerState → RangeEffect
server_effect p None = Rests
server_effect p (Some s) = if has_numbers s.context then packet_effect s p p.body else Rests

abbrev pub cell_effect : Packet → Option ServerCell → RangeEffect
cell_effect p None = Rests
cell_effect p (Some cell) = server_effect p cell.state

-- ---- lists of events

-- A packet comes to a server; it is told to give up, to make a checkpoint of a range, or to split it at a key; it stops, or stops later; it starts again at a
-- moment, for groups of at most so many transactions; a moment comes to all; the streams of a range are built of another's.
pub data ServerEvent : Type 0 where
  Takes : (server : ℕ) (p : Packet) → ServerEvent
  GivesUp : (server range : ℕ) (pick : Nodes) → ServerEvent
  Checkpoints : (server range : ℕ) (combine : Bool) → ServerEvent
  Splits : (server range : ℕ) (key : List ℕ) → ServerEvent
  Stops : (server call : ℕ) → ServerEvent
  Starts : (server now batch : ℕ) → ServerEvent
  Moment : (now : ℕ) → ServerEvent
  Builds : (source range : ℕ) → ServerEvent

abbrev pub with_effect : ℕ → ServerRun → RangeEffect → ServerRun
with_effect server x (Begins range) = record x { history = changed_at server range first_history x.history }
with_effect server x (Does range generation actions) = after_actions server range generation x actions
with_effect server x (Tells generation sides) = after_sides server generation x sides
with_effect server x Rests = x

-- what stands already, or else what is given
abbrev pub own_or : {A : Type 0} → List A → List A → List A
own_or [] given = given
own_or (x ∷ own) given = x ∷ own

-- The streams of a range are built of another's: where nothing was done with them yet, they begin as those of the source stand, with
-- what its reads were shown and its appends were answered for.
abbrev pub built_streams : (source range : ℕ) → ServerRun → ServerRun
built_streams source range x =
    record x {
      story = λ name. if name.range == range then own_or (x.story name) (x.story (stream_named source name.kind)) else x.story name;
      shown = changed range (own_or (x.shown range) (x.shown source)) x.shown;
      answered = changed range (own_or (x.answered range) (x.answered source)) x.answered;
    }

-- servers after a step, and what they show
abbrev pub with_outcome : ServerRun → ServersOutcome → ServerRun
with_outcome x o = record x { servers = o.servers; notes = x.notes ++ o.notes }

abbrev pub after_event : ServerRun → ServerEvent → ServerRun
after_event x (Takes server p) = with_outcome (with_effect server x (cell_effect p (entry_at x.servers server))) (server_takes x.servers server p)
after_event x (GivesUp server range pick) = with_outcome x (server_gives_up x.servers server range pick)
after_event x (Checkpoints server range combine) = with_outcome x (server_checkpoints x.servers server range combine)
after_event x (Splits server range key) = with_outcome x (server_splits x.servers server range key)
after_event x (Stops server call) = with_outcome x (server_stops x.servers server call)
after_event x (Starts server now batch) = with_outcome x (server_starts x.servers server now batch)
after_event x (Moment now) = record x { servers = map (told_moment now) x.servers }
after_event x (Builds source range) = built_streams source range x

-- so many servers, for groups of at most so many transactions, which hold nothing
abbrev pub first_run : (batch servers : ℕ) → ServerRun
first_run batch servers =
    record {
      servers = first_servers batch 1 servers;
      history = λ server range. first_history;
      story = λ name. [];
      shown = λ range. [];
      answered = λ range. [];
      notes = [];
    }

-- after these events, of which the newest comes first
abbrev pub run_of : (batch servers : ℕ) → List ServerEvent → ServerRun
run_of batch servers [] = first_run batch servers
run_of batch servers (event ∷ earlier) = after_event (run_of batch servers earlier) event

-- ---- the streams of a range

abbrev pub log_name : ℕ → StreamName
log_name range = stream_named range kinds.Log

abbrev pub metadata_name : ℕ → StreamName
metadata_name range = stream_named range kinds.Metadata
