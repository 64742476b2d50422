-- What an event is to one server: at most one of its ranges takes a turn, with its split.
use Rattle.std.specs.Prelude.{◌≡◌, ◌⊎◌, ℕ, ◌-◌, Bool, true, List, [], ◌++◌, map, Option, Some, None, slice_set}
use Rattle.std.specs.BTreeMap.{insert_entry}
use Rattle.std.specs.Ordering.{nat_cmp}
use Rattle.wire.specs.declared.actor.ActorId.{ActorId}
use Rattle.wire.specs.declared.actor.ReqNo.{ReqNo}
use Rattle.wire.specs.declared.body.Body.{Body}
use Rattle.wire.specs.declared.body.Body.TheVariants as bodies
use Rattle.wire.specs.declared.body.MapBody.TheVariants as maps
use Rattle.wire.specs.declared.packet.Packet.{Packet}
use Rattle.wire.specs.declared.transaction.Change.{Change}
use Rattle.model_streams.specs.Maps.{entry_at}
use Rattle.model_partition.specs.declared.server_context.ServerContext.{ServerContext}
use Rattle.model_partition.specs.declared.table_note.TableNote.{TableNote}
use Rattle.model_partition.specs.declared.split_job.SplitJob.{SplitJob}
use Rattle.model_partition.specs.Map.{is_split_key}
use Rattle.model_partition.specs.Range.{RangeState, RangeOutcome, is_serving}
use Rattle.model_partition.specs.Splits.{SplitStep, new_split, split_rule, split_reply, follows, gives_up}
use Rattle.model_partition.specs.Checkpoints.{checkpoint_fault, checkpoint_rule}
use Rattle.model_partition.specs.Serving.{transact_rule}
use Rattle.model_partition.specs.Getting.{get_rule}
use Rattle.model_partition.specs.Answering.{answer_rule, give_up_all}
use Rattle.model_partition.specs.Server.{ServerState, ServerOutcome, range_of, set_range, new_range, split_of, set_split, has_numbers}
use Rattle.model_partition.specs.Servers.{ServerCell, ServersOutcome, server_takes, server_gives_up, server_checkpoints, server_splits, server_stops, server_starts, told_moment}
use Rattle.model_histories.specs.StreamActions.{StreamAction, transact_actions, answer_actions, split_stood, follow_actions, split_sides}
use Rattle.model_histories.specs.ServerRun.{ServerRun, RangeEffect, Begins, Does, Tells, Rests, ServerEvent, Takes, GivesUp, Checkpoints as MakesCheckpoint, Splits, Stops, Starts, Moment, Builds, with_effect, with_outcome}

-- a rule of a range, with what it does with streams and what it leaves
pub data IsRule (r : RangeState) : List StreamAction → RangeOutcome → Type 0 where
  Transacts : (d : ServerContext) (from : ActorId) (q : ReqNo) (changes : List Change) → IsRule r (transact_actions r (transact_rule d r from q changes)) (transact_rule d r from q changes)
  Answers : (d : ServerContext) (w : ReqNo) (body : Body) → IsRule r (answer_actions d r w body (answer_rule d r w body)) (answer_rule d r w body)
  Gets : (d : ServerContext) (from : ActorId) (q : ReqNo) (key : List ℕ) → IsRule r [] (get_rule d r from q key)
  Yields : (d : ServerContext) → IsRule r [] (give_up_all d r)
  Checkpoints : (d : ServerContext) (combine : Bool) (may : checkpoint_fault r ≡ None) → IsRule r [] (checkpoint_rule d r combine)
  Renews : (until count : ℕ) → IsRule r [] (record { after = Some (record r { until = until }); count = count; packets = []; notes = [] })

-- ---- ranges that may be split

-- rules that a range takes while it is split: it makes no checkpoint
abbrev pub IsCalm : {r : RangeState} {actions : List StreamAction} {o : RangeOutcome} → IsRule r actions o → Type 0
IsCalm (Checkpoints d combine may) = ⊥
IsCalm rule = Unit {0}

-- and its server has numbers for the requests of a step
abbrev pub HasRoom : {r : RangeState} {actions : List StreamAction} {o : RangeOutcome} → IsRule r actions o → Type 0
HasRoom (Answers d w body) = has_numbers d ≡ true
HasRoom rule = Unit {0}

-- what an answer is to the record of the split
abbrev pub stood_by : {r : RangeState} (job : SplitJob) {actions : List StreamAction} {o : RangeOutcome} → IsRule r actions o → List StreamAction
stood_by {r} job (Answers d w body) = split_stood d r (Some job) w body (answer_rule d r w body)
stood_by job rule = []

-- the step of a range, and one of its split behind it
abbrev pub with_split : RangeOutcome → SplitStep → RangeOutcome
with_split o t = record { after = t.range; count = t.count; packets = o.packets ++ t.packets; notes = o.notes }

-- a step of its split alone
abbrev pub of_split : SplitStep → RangeOutcome
of_split t = record { after = t.range; count = t.count; packets = t.packets; notes = [] }

-- A step of a range that may be split, where the map numbers the two ranges so: what it does with its own streams, what it leaves, and
-- the split that it leaves.
pub data IsStep (IsNumbered : (low high : ℕ) → Type 0) (r : RangeState) : Option SplitJob → List StreamAction → RangeOutcome → Option SplitJob → Type 0 where
  Alone : (actions : List StreamAction) (o : RangeOutcome) (rule : IsRule r actions o) → IsStep IsNumbered r None actions o None
  -- its split begins
  BeginsSplit : (d : ServerContext) (key : List ℕ) (may : is_serving r.stage ≡ true) (none : r.control ≡ None) (splits : is_split_key r.said.keys key ≡ true) →
      IsStep IsNumbered r None [] (of_split (split_rule d r key)) (Some (new_split d r key))
  -- it goes, and its split with it
  Drops : (job : SplitJob) (actions : List StreamAction) (o : RangeOutcome) (rule : IsRule r actions o) (calm : IsCalm rule) (gone : o.after ≡ None) → IsStep IsNumbered r (Some job) actions o None
  -- its split follows
  Follows : (job : SplitJob) (actions : List StreamAction) (o : RangeOutcome) (rule : IsRule r actions o) (calm : IsCalm rule) (room : HasRoom rule) (d : ServerContext) (counts : d.count ≡ o.count) (next : RangeState) (left : o.after ≡ Some next) →
      IsStep IsNumbered r (Some job) (follow_actions d next job ++ (stood_by job rule ++ actions)) (with_split o (follows d next job)) (follows d next job).job
  -- both give up
  Leaves : (job : SplitJob) (c d : ServerContext) (next : RangeState) (left : (give_up_all c r).after ≡ Some next) → IsStep IsNumbered r (Some job) [] (with_split (give_up_all c r) (gives_up d next job)) (gives_up d next job).job
  -- its lease is renewed
  Holds : (job : SplitJob) (until count : ℕ) → IsStep IsNumbered r (Some job) [] (record { after = Some (record r { until = until }); count = count; packets = []; notes = [] }) (Some job)
  -- an answer comes to its split
  Hears : (job : SplitJob) (d : ServerContext) (body : Body) (numbered : (w : ReqNo) (low high : ℕ) → body ≡ bodies.Map (maps.SplitBegun w low high) → IsNumbered low high) →
      IsStep IsNumbered r (Some job) [] (of_split (split_reply d r job body)) (split_reply d r job body).job

-- an answer that comes to a split, and no other step
abbrev pub IsHeard : {IsNumbered : (low high : ℕ) → Type 0} {r : RangeState} {job : Option SplitJob} {actions : List StreamAction} {o : RangeOutcome} {later : Option SplitJob} → ServerContext → Body → IsStep IsNumbered r job actions o later → Type 0
IsHeard d body (Hears job own told numbered) = (d ≡ own) × (body ≡ told)
IsHeard d body step = ⊥

abbrev pub IsUnheard : {IsNumbered : (low high : ℕ) → Type 0} {r : RangeState} {job : Option SplitJob} {actions : List StreamAction} {o : RangeOutcome} {later : Option SplitJob} → IsStep IsNumbered r job actions o later → Type 0
IsUnheard (Hears job d body numbered) = ⊥
IsUnheard step = Unit {0}

-- the splits of a server, where a step leaves this of one
abbrev pub LeavesSplit : List (ℕ × SplitJob) → ℕ → Option SplitJob → List (ℕ × SplitJob) → Type 0
LeavesSplit before range later after = ((after ≡ before) × (split_of before range ≡ later)) ⊎ (after ≡ set_split before range later)

-- What a server does with streams in a step of a range that may be split: with its own, or with those of the two that its split makes.
pub data IsEffect (IsNumbered : (low high : ℕ) → Type 0) (range : ℕ) (r : RangeState) : Option SplitJob → RangeEffect → RangeOutcome → Option SplitJob → Type 0 where
  Own : (job : Option SplitJob) (actions : List StreamAction) (o : RangeOutcome) (later : Option SplitJob) (step : IsStep IsNumbered r job actions o later) (unheard : IsUnheard step) →
      IsEffect IsNumbered range r job (Does range r.load.generation actions) o later
  None_done : (job : Option SplitJob) (o : RangeOutcome) (later : Option SplitJob) (step : IsStep IsNumbered r job [] o later) (unheard : IsUnheard step) → IsEffect IsNumbered range r job Rests o later
  OfOthers : (job : SplitJob) (d : ServerContext) (body : Body) (o : RangeOutcome) (later : Option SplitJob) (step : IsStep IsNumbered r (Some job) [] o later) (heard : IsHeard d body step) →
      IsEffect IsNumbered range r (Some job) (Tells job.generation (split_sides d r job body)) o later

-- A step of a server, to which the map assigns such ranges, and for whose splits it numbers ranges so: its ranges are as they were, or
-- one of them begins its load, or one takes a turn.
pub data Turn (IsAssigned : ℕ → Type 0) (IsNumbered : (low high : ℕ) → Type 0) (s : ServerState) : RangeEffect → ServerOutcome → Type 0 where
  Idles : (next : ServerState) (packets : List Packet) (same : next.ranges ≡ s.ranges) (splits : next.splits ≡ s.splits) → Turn IsAssigned IsNumbered s Rests (record { after = next; packets = packets; notes = [] })
  Opens : (range : ℕ) (assigned : IsAssigned range) (d : ServerContext) (generation until : ℕ) (next : ServerState) (packets : List Packet) (is : next.ranges ≡ insert_entry nat_cmp s.ranges range (new_range d range generation until))
      (splits : next.splits ≡ set_split s.splits range None) → Turn IsAssigned IsNumbered s (Begins range) (record { after = next; packets = packets; notes = [] })
  Acts : (range : ℕ) (r : RangeState) (held : range_of s.ranges range ≡ Some r) (e : RangeEffect) (o : RangeOutcome) (later : Option SplitJob) (effect : IsEffect IsNumbered range r (split_of s.splits range) e o later)
      (next : ServerState) (packets : List Packet) (is : next.ranges ≡ set_range s.ranges range o.after) (splits : LeavesSplit s.splits range later next.splits) →
      Turn IsAssigned IsNumbered s e (record { after = next; packets = packets; notes = o.notes })

-- the servers after an event, and what they send and show
abbrev pub outcome_of : List ServerCell → ServerEvent → ServersOutcome
outcome_of servers (Takes server p) = server_takes servers server p
outcome_of servers (GivesUp server range pick) = server_gives_up servers server range pick
outcome_of servers (MakesCheckpoint server range combine) = server_checkpoints servers server range combine
outcome_of servers (Splits server range key) = server_splits servers server range key
outcome_of servers (Stops server call) = server_stops servers server call
outcome_of servers (Starts server now batch) = server_starts servers server now batch
outcome_of servers (Moment now) = record { servers = map (told_moment now) servers; packets = []; notes = [] }
outcome_of servers (Builds source range) = record { servers = servers; packets = []; notes = [] }

-- what comes to servers, and not to streams alone
abbrev pub IsOfServers : ServerEvent → Type 0
IsOfServers event = (source range : ℕ) → event ≡ Builds source range → ⊥

-- the streams of no such range are built
abbrev pub BuildsOther : ℕ → ServerEvent → Type 0
BuildsOther k event = (source range : ℕ) → event ≡ Builds source range → range ≡ k → ⊥

-- each server that runs has the ranges that it had, and their splits, or none
abbrev pub HoldNoMore : List ServerCell → List ServerCell → Type 0
HoldNoMore old new = (t : ℕ) (c : ServerCell) (q : ServerState) → entry_at new t ≡ Some c → c.state ≡ Some q →
    ((q.ranges ≡ []) × (q.splits ≡ [])) ⊎ ((b : ServerCell) × (s : ServerState) × (entry_at old t ≡ Some b) × (b.state ≡ Some s) × (q.ranges ≡ s.ranges) × (q.splits ≡ s.splits))

-- A step of all: servers hold what they held, or one of them takes a turn. It shows these observations.
pub data RunStep (IsAssigned : ℕ → Type 0) (IsNumbered : (low high : ℕ) → Type 0) (x : ServerRun) : List TableNote → ServerRun → Type 0 where
  Keeps : (servers : List ServerCell) (packets : List Packet) (like : HoldNoMore x.servers servers) → RunStep IsAssigned IsNumbered x [] (with_outcome x (record { servers = servers; packets = packets; notes = [] }))
  Passes : (servers : List ServerCell) (like : HoldNoMore x.servers servers) → RunStep IsAssigned IsNumbered x [] (record x { servers = servers })
  Turns : (server : ℕ) (cell : ServerCell) (s : ServerState) (at : entry_at x.servers server ≡ Some cell) (runs : cell.state ≡ Some s) (e : RangeEffect) (o : ServerOutcome) (turn : Turn IsAssigned IsNumbered s e o) →
      RunStep IsAssigned IsNumbered x o.notes (with_outcome (with_effect server x e) (record { servers = slice_set x.servers (server - 1) (record cell { state = Some o.after }); packets = o.packets; notes = o.notes }))
