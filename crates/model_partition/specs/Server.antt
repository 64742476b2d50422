-- The table of a server: what it does with a packet, with a moment, and with being told to give up.
use Rattle.std.specs.Prelude.{ℕ, ◌+◌, ◌^◌, max, Bool, true, ◌||◌, ◌==◌, nat_lt, List, [], ◌∷◌, ◌++◌, Option, Some, None, is_some, if◌then◌else◌}
use Rattle.std.specs.Map.{lookup, remove_entry, set_value}
use Rattle.std.specs.BTreeMap.{is_at, insert_entry}
use Rattle.std.specs.Ordering.{nat_cmp}
use Rattle.block_types.specs.declared.record.Nodes.{Nodes}
use Rattle.wire.specs.declared.actor.ActorId.{ActorId}
use Rattle.wire.specs.declared.actor.ActorId.TheVariants.{Map}
use Rattle.wire.specs.declared.actor.ReqNo.{ReqNo}
use Rattle.wire.specs.declared.body.Body.{Body}
use Rattle.wire.specs.declared.body.Body.TheVariants as bodies
use Rattle.wire.specs.declared.body.MapBody.{MapBody}
use Rattle.wire.specs.declared.body.MapBody.TheVariants as maps
use Rattle.wire.specs.declared.body.TableBody.{TableBody}
use Rattle.wire.specs.declared.body.TableBody.TheVariants as tables
use Rattle.wire.specs.declared.packet.Packet.{Packet}
use Rattle.wire.specs.declared.transaction.Change.{Change}
use Rattle.wire.specs.declared.refusal.Refusal.{Refusal}
use Rattle.wire.specs.declared.refusal.Refusal.TheVariants as refusals
use Rattle.wire.specs.declared.streams.StreamKind.TheVariants as kinds
use Rattle.client.specs.Client.{new_client}
use Rattle.client.specs.Load.{opening, open_packet}
use Rattle.metadata.specs.Fold.{first_metadata}
use Rattle.model_partition.specs.declared.merge_job.MergeJob.{MergeJob}
use Rattle.model_partition.specs.declared.merge_job.MergeSide.{MergeSide}
use Rattle.model_partition.specs.declared.merge_job.MergeSide.TheVariants.{Left, Right}
use Rattle.model_partition.specs.declared.pause.Pause.TheVariants.{Off}
use Rattle.model_partition.specs.declared.split_job.SplitJob.{SplitJob}
use Rattle.model_partition.specs.declared.stage.Stage.TheVariants.{Opening}
use Rattle.model_partition.specs.declared.table_note.TableNote.{TableNote}
use Rattle.model_partition.specs.declared.server_context.ServerContext.{ServerContext}
use Rattle.model_partition.specs.Range.{RangeState, RangeOutcome, request, used, refuses, refused_users}
use Rattle.model_partition.specs.Serving.{transact_rule}
use Rattle.model_partition.specs.Getting.{get_rule}
use Rattle.model_partition.specs.Checkpoints.{checkpoint_fault, checkpoint_rule}
use Rattle.model_partition.specs.Splits.{SplitStep, split_fault, split_rule, split_reply, phase_awaits, follows}
use Rattle.model_partition.specs.Splits as splits
use Rattle.model_partition.specs.Merges.{MergeStep, merge_fault}
use Rattle.model_partition.specs.Merges as merges
use Rattle.model_partition.specs.Answering.{range_awaits, answered_number, is_answerer, answer_rule, give_up_all}

-- a server; its ranges, the splits of these that are under way, and the merges, each of which has the number of its left range
pub record ServerState : Type 0 where
  pub context : ServerContext
  pub ranges : List (ℕ × RangeState)
  pub splits : List (ℕ × SplitJob)
  pub merges : List (ℕ × MergeJob)

pub record ServerOutcome : Type 0 where
  pub after : ServerState
  pub packets : List Packet
  pub notes : List TableNote

-- ---- ranges by their numbers

abbrev pub range_of : List (ℕ × RangeState) → ℕ → Option RangeState
range_of rs range = lookup (is_at (nat_cmp range)) rs

-- the range as a step left it, or no more
abbrev pub set_range : List (ℕ × RangeState) → ℕ → Option RangeState → List (ℕ × RangeState)
set_range rs range None = remove_entry (is_at (nat_cmp range)) rs
set_range rs range (Some r) = set_value (is_at (nat_cmp range)) rs r

-- the number of the range that waits for an answer of this number
abbrev pub awaiting : List (ℕ × RangeState) → ReqNo → Option ℕ
awaiting [] w = None
awaiting (x ∷ xs) w = if range_awaits x.1 w then Some x.0 else awaiting xs w

-- ---- steps

abbrev pub rests : ServerState → ServerOutcome
rests s = record { after = s; packets = []; notes = [] }

abbrev pub sends_one : ServerState → Packet → ServerOutcome
sends_one s p = record { after = s; packets = p ∷ []; notes = [] }

-- the split of a range, if one is under way
abbrev pub split_of : List (ℕ × SplitJob) → ℕ → Option SplitJob
split_of js range = lookup (is_at (nat_cmp range)) js

-- the split as a step left it, or no more
abbrev pub set_split : List (ℕ × SplitJob) → ℕ → Option SplitJob → List (ℕ × SplitJob)
set_split js range None = remove_entry (is_at (nat_cmp range)) js
set_split js range (Some job) = insert_entry nat_cmp js range job

-- the number of the range whose split waits for an answer of this number
abbrev pub split_awaiting : List (ℕ × SplitJob) → ReqNo → Option ℕ
split_awaiting [] w = None
split_awaiting (x ∷ xs) w = if phase_awaits x.1.phase w then Some x.0 else split_awaiting xs w

-- a step of the split of one of its ranges
abbrev pub split_stepped : ServerState → ℕ → SplitStep → ServerOutcome
split_stepped s range t =
    record {
      after = record s { context = record s.context { count = t.count }; ranges = set_range s.ranges range t.range; splits = set_split s.splits range t.job };
      packets = t.packets;
      notes = [];
    }

-- the server once a step of a range has used these numbers
abbrev pub counted : ServerContext → RangeOutcome → ServerContext
counted d o = record d { count = o.count }

-- the step of one of its ranges that is neither split nor merged
abbrev pub stepped_alone : ServerState → ℕ → RangeOutcome → ServerOutcome
stepped_alone s range o =
    record {
      after = record s { context = counted s.context o; ranges = set_range s.ranges range o.after };
      packets = o.packets;
      notes = o.notes;
    }

-- what comes before a step of a split
abbrev pub behind_these : RangeOutcome → ServerOutcome → ServerOutcome
behind_these o t = record t { packets = o.packets ++ t.packets; notes = o.notes }

-- where the range goes its split goes too
abbrev pub ended_with : ServerState → ℕ → RangeOutcome → ServerOutcome
ended_with s range o =
    record {
      after = record s { context = counted s.context o; ranges = set_range s.ranges range None; splits = set_split s.splits range None };
      packets = o.packets;
      notes = o.notes;
    }

-- the step of a range, and what its split then does
abbrev pub stepped_splitting : ServerState → ℕ → SplitJob → RangeOutcome → Option RangeState → ServerOutcome
stepped_splitting s range job o None = ended_with s range o
stepped_splitting s range job o (Some r) = behind_these o (split_stepped s range (follows (counted s.context o) r job))

abbrev pub stepped_with : ServerState → ℕ → Option SplitJob → RangeOutcome → ServerOutcome
stepped_with s range None o = stepped_alone s range o
stepped_with s range (Some job) o = stepped_splitting s range job o o.after

-- the step of one of its ranges that is no part of a merge
abbrev pub stepped_apart : ServerState → ℕ → RangeOutcome → ServerOutcome
stepped_apart s range o = stepped_with s range (split_of s.splits range) o

-- ---- merges

-- whether a range is one of the two of a merge
abbrev pub is_of : ℕ → MergeJob → Bool
is_of range job = (job.left == range) || (job.right == range)

-- the number of the merge that a range is part of, if one is under way
abbrev pub merge_with : List (ℕ × MergeJob) → ℕ → Option ℕ
merge_with [] range = None
merge_with (x ∷ xs) range = if is_of range x.1 then Some x.0 else merge_with xs range

-- the merge of a left range, if one is under way
abbrev pub merge_of : List (ℕ × MergeJob) → ℕ → Option MergeJob
merge_of js left = lookup (is_at (nat_cmp left)) js

-- the merge as a step left it, or no more
abbrev pub set_merge : List (ℕ × MergeJob) → ℕ → Option MergeJob → List (ℕ × MergeJob)
set_merge js left None = remove_entry (is_at (nat_cmp left)) js
set_merge js left (Some job) = insert_entry nat_cmp js left job

-- the number of the merge that waits for an answer of this number
abbrev pub merge_awaiting : List (ℕ × MergeJob) → ReqNo → Option ℕ
merge_awaiting [] w = None
merge_awaiting (x ∷ xs) w = if merges.phase_awaits x.1.phase w then Some x.0 else merge_awaiting xs w

-- two ranges of a server
abbrev pub TwoRanges : Type 0
TwoRanges = RangeState × RangeState

abbrev pub pair_of : Option RangeState → Option RangeState → Option TwoRanges
pair_of (Some l) (Some r) = Some (l, r)
pair_of l r = None

-- the two ranges of a merge, where the server holds both
abbrev pub both_of : List (ℕ × RangeState) → MergeJob → Option TwoRanges
both_of rs job = if job.left == job.right then None else pair_of (range_of rs job.left) (range_of rs job.right)

-- a step of a merge of two of its ranges
abbrev pub merge_stepped : ServerState → ℕ → MergeJob → MergeStep → ServerOutcome
merge_stepped s left job t =
    record {
      after = record s {
        context = record s.context { count = t.count };
        ranges = set_range (set_range s.ranges job.left t.left) job.right t.right;
        merges = set_merge s.merges left t.job;
      };
      packets = t.packets;
      notes = [];
    }

-- a range that is there is served on, or stays paused
abbrev pub freed_in : List (ℕ × RangeState) → ℕ → Option RangeState → List (ℕ × RangeState)
freed_in rs range None = rs
freed_in rs range (Some r) = set_range rs range (Some (merges.freed r))

abbrev pub with_freed : List (ℕ × RangeState) → ℕ → List (ℕ × RangeState)
with_freed rs range = freed_in rs range (range_of rs range)

-- one of the two has gone: their merge goes too, and the other is freed
abbrev pub without_merge : ServerState → ℕ → MergeJob → ServerState
without_merge s left job =
    record s {
      ranges = with_freed (with_freed s.ranges job.left) job.right;
      merges = set_merge s.merges left None;
    }

-- which of the two a range is
abbrev pub side_of_range : MergeJob → ℕ → MergeSide
side_of_range job range = if job.left == range then Left else Right

abbrev pub follows_both : ServerState → ℕ → MergeJob → MergeSide → Option TwoRanges → ServerOutcome
follows_both s left job side None = rests s
follows_both s left job side (Some two) = merge_stepped s left job (merges.follows s.context two.0 two.1 job side)

-- what comes of a merge behind a step of one of its ranges
abbrev pub merge_follows : ℕ → ServerState → ℕ → MergeJob → ServerOutcome
merge_follows range s left job = follows_both s left job (side_of_range job range) (both_of s.ranges job)

-- the range has gone, or its merge goes on behind its step
abbrev pub merged_behind : RangeOutcome → ServerOutcome → ℕ → MergeJob → Option RangeState → (ServerState → ℕ → MergeJob → ServerOutcome) → ServerOutcome
merged_behind o t left job None goes_on = record t { after = without_merge t.after left job }
merged_behind o t left job (Some r) goes_on = behind_these o (goes_on t.after left job)

-- a range that is merged is not split
abbrev pub stepped_merging : ServerState → ℕ → ℕ → Option MergeJob → RangeOutcome → ServerOutcome
stepped_merging s range left None o = stepped_apart s range o
stepped_merging s range left (Some job) o = merged_behind o (stepped_alone s range o) left job o.after (merge_follows range)

abbrev pub stepped_in : ServerState → ℕ → Option ℕ → RangeOutcome → ServerOutcome
stepped_in s range None o = stepped_apart s range o
stepped_in s range (Some left) o = stepped_merging s range left (merge_of s.merges left) o

-- the step of one of its ranges, and what its split or its merge then does
abbrev pub stepped : ServerState → ℕ → RangeOutcome → ServerOutcome
stepped s range o = stepped_in s range (merge_with s.merges range) o

-- ---- what the map tells

-- a range that is loaded under a generation
abbrev pub new_range : ServerContext → ℕ → ℕ → ℕ → RangeState
new_range d range generation until =
    record {
      until = until;
      pause = Off;
      load = opening d.server range generation (request d);
      stage = Opening;
      metadata = new_client d.server (record { range = range; kind = kinds.Metadata }) generation (record { base = 0; extents = [] }) d.pick;
      log = new_client d.server (record { range = range; kind = kinds.Log }) generation (record { base = 0; extents = [] }) d.pick;
      rows = new_client d.server (record { range = range; kind = kinds.RowData }) generation (record { base = 0; extents = [] }) d.pick;
      blob_data = record { base = 0; extents = [] };
      said = first_metadata;
      regions = [];
      live = [];
      fixed = None;
      indexes = [];
      reading = None;
      control = None;
      next = 1;
      position = record { index = 0; offset = 0 };
      queue = [];
      out = None;
      gets = [];
      held = [];
    }

abbrev pub users_of : ServerContext → Option RangeState → List Packet
users_of d None = []
users_of d (Some r) = refused_users d r

-- whether a generation is above what is known of the range
abbrev pub is_newer : ℕ → Option RangeState → Bool
is_newer generation None = true
is_newer generation (Some r) = nat_lt r.load.generation generation

-- what was known of a range goes where it is loaded anew, its merge among it
abbrev pub assigned_merging : ServerState → ℕ → Option MergeJob → ServerState
assigned_merging s left None = s
assigned_merging s left (Some job) = without_merge s left job

abbrev pub assigned : ServerState → Option ℕ → ServerState
assigned s None = s
assigned s (Some left) = assigned_merging s left (merge_of s.merges left)

-- what was known of the range goes, its split or its merge among it, and its streams are opened
abbrev pub assign_rule : ServerState → ℕ → ℕ → ℕ → Option RangeState → ServerOutcome
assign_rule s range generation until known =
    if is_newer generation known then
    record {
      after = assigned (record s {
        context = used s.context;
        ranges = insert_entry nat_cmp s.ranges range (new_range s.context range generation until);
        splits = set_split s.splits range None;
      }) (merge_with s.merges range);
      packets = users_of s.context known ++ open_packet s.context.server range generation (request s.context) ∷ [];
      notes = [];
    }
    else rests s

-- a lease's end never goes back
abbrev pub renew_rule : ServerState → ℕ → ℕ → ℕ → Option RangeState → ServerOutcome
renew_rule s range generation until None = rests s
renew_rule s range generation until (Some r) =
    if r.load.generation == generation then
    record { after = record s { ranges = set_range s.ranges range (Some (record r { until = max r.until until })) }; packets = []; notes = [] }
    else rests s

abbrev pub told_by_map : ServerState → MapBody → ServerOutcome
told_by_map s (maps.Assign range generation until) = assign_rule s range generation until (range_of s.ranges range)
told_by_map s (maps.Renew range generation until) = renew_rule s range generation until (range_of s.ranges range)
told_by_map s body = rests s

abbrev pub map_rule : ServerState → ActorId → MapBody → ServerOutcome
map_rule s Map body = told_by_map s body
map_rule s from body = rests s

-- ---- what users ask

abbrev pub transacts_in : ServerState → Packet → ℕ → List Change → ReqNo → Option RangeState → ServerOutcome
transacts_in s p range changes q None = sends_one s (refuses s.context p.from q refusals.NotOwner)
transacts_in s p range changes q (Some r) = stepped s range (transact_rule s.context r p.from q changes)

abbrev pub gets_in : ServerState → Packet → ℕ → List ℕ → ReqNo → Option RangeState → ServerOutcome
gets_in s p range key q None = sends_one s (refuses s.context p.from q refusals.NotOwner)
gets_in s p range key q (Some r) = stepped s range (get_rule s.context r p.from q key)

abbrev pub table_rule : ServerState → Packet → TableBody → ServerOutcome
table_rule s p (tables.Transact range changes q) = transacts_in s p range changes q (range_of s.ranges range)
table_rule s p (tables.Get range key q) = gets_in s p range key q (range_of s.ranges range)
table_rule s p body = rests s

-- ---- answers

-- the checkpoint of the left range of a merge ends, and that of the right one begins
abbrev pub left_ended : ServerState → ℕ → MergeJob → ℕ × Bool → Option TwoRanges → ServerOutcome
left_ended s left job x None = rests s
left_ended s left job x (Some two) = merge_stepped s left job (merges.left_ends s.context two.0 two.1 job x)

abbrev pub answer_ending : ServerState → Packet → ReqNo → ℕ → RangeState → MergeJob → Option (ℕ × Bool) → ServerOutcome
answer_ending s p w range r job None = stepped s range (answer_rule s.context r w p.body)
answer_ending s p w range r job (Some x) = left_ended s range job x (both_of s.ranges job)

-- where the range is the left one of a merge, the end of its checkpoint belongs to that
abbrev pub answer_at : ServerState → Packet → ReqNo → ℕ → RangeState → Option MergeJob → ServerOutcome
answer_at s p w range r None = stepped s range (answer_rule s.context r w p.body)
answer_at s p w range r (Some job) = answer_ending s p w range r job (merges.left_trim job.phase r w p.body)

abbrev pub answer_in : ServerState → Packet → ReqNo → ℕ → Option RangeState → ServerOutcome
answer_in s p w range None = rests s
answer_in s p w range (Some r) = answer_at s p w range r (merge_of s.merges range)

abbrev pub answered_both : ServerState → Packet → ℕ → MergeJob → Option TwoRanges → ServerOutcome
answered_both s p left job None = rests s
answered_both s p left job (Some two) = merge_stepped s left job (merges.merge_reply s.context two.0 two.1 job p.body)

abbrev pub merge_answer_in : ServerState → Packet → ℕ → Option MergeJob → ServerOutcome
merge_answer_in s p left None = rests s
merge_answer_in s p left (Some job) = answered_both s p left job (both_of s.ranges job)

-- an answer that no range waits for, nor the split of one, but the merge of two
abbrev pub merge_answer : ServerState → Packet → Option ℕ → ServerOutcome
merge_answer s p None = rests s
merge_answer s p (Some left) = merge_answer_in s p left (merge_of s.merges left)

abbrev pub split_answer_in : ServerState → Packet → ℕ → Option RangeState → Option SplitJob → ServerOutcome
split_answer_in s p range (Some r) (Some job) = split_stepped s range (split_reply s.context r job p.body)
split_answer_in s p range (Some r) None = rests s
split_answer_in s p range None job = rests s

-- an answer that no range waits for, but the split of one, or else the merge of two
abbrev pub split_answer : ServerState → Packet → ReqNo → Option ℕ → ServerOutcome
split_answer s p w None = merge_answer s p (merge_awaiting s.merges w)
split_answer s p w (Some range) = split_answer_in s p range (range_of s.ranges range) (split_of s.splits range)

abbrev pub answer_of : ServerState → Packet → ReqNo → Option ℕ → ServerOutcome
answer_of s p w None = split_answer s p w (split_awaiting s.splits w)
answer_of s p w (Some range) = answer_in s p w range (range_of s.ranges range)

abbrev pub numbered_rule : ServerState → Packet → Option ReqNo → ServerOutcome
numbered_rule s p None = rests s
numbered_rule s p (Some w) = if is_answerer p.from p.body then answer_of s p w (awaiting s.ranges w) else rests s

-- what the map tells of leases is taken as it is told, and all else that it says by the number that it answers
abbrev pub taken_rule : ServerState → Packet → Body → ServerOutcome
taken_rule s p (bodies.Map (maps.Assign range generation until)) = map_rule s p.from (maps.Assign range generation until)
taken_rule s p (bodies.Map (maps.Renew range generation until)) = map_rule s p.from (maps.Renew range generation until)
taken_rule s p (bodies.Table body) = table_rule s p body
taken_rule s p body = numbered_rule s p (answered_number body)

-- whether there are numbers for the requests of any one step
abbrev pub has_numbers : ServerContext → Bool
has_numbers d = nat_lt (d.count + 1024) (2 ^ 64)

-- what the server does with a packet; without numbers for its requests, nothing
abbrev pub server_rule : ServerState → Packet → Body → ServerOutcome
server_rule s p body = if has_numbers s.context then taken_rule s p body else rests s

-- ---- events

-- a moment that goes back changes nothing
abbrev pub moment_rule : ServerState → ℕ → ServerState
moment_rule s now = record s { context = record s.context { moment = max s.context.moment now } }

-- the split of a range gives up behind all that the range itself waits for
abbrev pub given_up_splitting : ServerState → ℕ → SplitJob → RangeOutcome → Option RangeState → ServerOutcome
given_up_splitting s range job o None = ended_with s range o
given_up_splitting s range job o (Some r) = behind_these o (split_stepped s range (splits.gives_up (counted s.context o) r job))

abbrev pub given_up_with : ServerState → ℕ → Option SplitJob → RangeOutcome → ServerOutcome
given_up_with s range None o = stepped_alone s range o
given_up_with s range (Some job) o = given_up_splitting s range job o o.after

abbrev pub give_up_both : ServerState → ℕ → MergeJob → MergeSide → Option TwoRanges → ServerOutcome
give_up_both s left job side None = rests s
give_up_both s left job side (Some two) = merge_stepped s left job (merges.gives_up s.context two.0 two.1 job side)

-- what a merge of which this range was told to give up does
abbrev pub merge_gives_up : ℕ → ServerState → ℕ → MergeJob → ServerOutcome
merge_gives_up range s left job = give_up_both s left job (side_of_range job range) (both_of s.ranges job)

-- and so does the merge of two, once for either of them: also where the other one makes its checkpoint
abbrev pub given_up_merging : ServerState → ℕ → ℕ → Option MergeJob → RangeOutcome → ServerOutcome
given_up_merging s range left None o = given_up_with s range (split_of s.splits range) o
given_up_merging s range left (Some job) o = merged_behind o (stepped_alone s range o) left job o.after (merge_gives_up range)

abbrev pub given_up : ServerState → ℕ → Option ℕ → RangeOutcome → ServerOutcome
given_up s range None o = given_up_with s range (split_of s.splits range) o
given_up s range (Some left) o = given_up_merging s range left (merge_of s.merges left) o

abbrev pub gives_up : ServerState → ℕ → Option RangeState → Option ServerOutcome
gives_up s range None = None
gives_up s range (Some r) = Some (if has_numbers s.context then given_up s range (merge_with s.merges range) (give_up_all s.context r) else rests s)

-- The nodes for new extents are replaced; without numbers for the requests of a step nothing is.
abbrev pub picked : ServerState → Nodes → ServerState
picked s pick = record s { context = record s.context { pick = if has_numbers s.context then pick else s.context.pick } }

-- the nodes for new extents are replaced, and the jobs of a range give up; none where the range is unknown (30)
abbrev pub give_up_rule : ServerState → ℕ → Nodes → Option ServerOutcome
give_up_rule s range pick = gives_up (picked s pick) range (range_of s.ranges range)

-- a range that is split or merged makes no other checkpoint
abbrev pub busy_if : Bool → Option Refusal → Option Refusal
busy_if jobs (Some refusal) = Some refusal
busy_if jobs None = if jobs then Some refusals.Busy else None

-- whether a range is being split or merged
abbrev pub has_jobs : ServerState → ℕ → Bool
has_jobs s range = is_some (split_of s.splits range) || is_some (merge_with s.merges range)

-- why a checkpoint of a range is refused: this server does not hold it (30), or it cannot begin one
abbrev pub checkpoint_refused : Bool → Option RangeState → Option Refusal
checkpoint_refused jobs None = Some refusals.NotOwner
checkpoint_refused jobs (Some r) = busy_if jobs (checkpoint_fault r)

abbrev pub checkpoint_refusal : ServerState → ℕ → Option Refusal
checkpoint_refusal s range = checkpoint_refused (has_jobs s range) (range_of s.ranges range)

abbrev pub checkpoints_in : ServerState → ℕ → Bool → Option RangeState → ServerOutcome
checkpoints_in s range combine None = rests s
checkpoints_in s range combine (Some r) = if has_numbers s.context then stepped s range (checkpoint_rule s.context r combine) else rests s

-- a checkpoint of a range begins, which may combine its indexes; without numbers for the requests of a step none does
abbrev pub server_checkpoint : ServerState → ℕ → Bool → ServerOutcome
server_checkpoint s range combine = if is_some (checkpoint_refusal s range) then rests s else checkpoints_in s range combine (range_of s.ranges range)

-- why no split of a range begins: this server does not hold it (30), or it cannot begin one
abbrev pub split_refused : Bool → List ℕ → Option RangeState → Option Refusal
split_refused jobs key None = Some refusals.NotOwner
split_refused jobs key (Some r) = split_fault r jobs key

abbrev pub split_refusal : ServerState → ℕ → List ℕ → Option Refusal
split_refusal s range key = split_refused (has_jobs s range) key (range_of s.ranges range)

abbrev pub splits_in : ServerState → ℕ → List ℕ → Option RangeState → ServerOutcome
splits_in s range key None = rests s
splits_in s range key (Some r) = if has_numbers s.context then split_stepped s range (split_rule s.context r key) else rests s

-- a split of a range at a key begins; without numbers for the requests of a step none does
abbrev pub server_split : ServerState → ℕ → List ℕ → ServerOutcome
server_split s range key = if is_some (split_refusal s range key) then rests s else splits_in s range key (range_of s.ranges range)

-- why no merge of two ranges begins: this server does not hold both (30), or they cannot begin one
abbrev pub merge_refused : Bool → Bool → Option RangeState → Option RangeState → Option Refusal
merge_refused left_jobs right_jobs (Some l) (Some r) = merge_fault l r left_jobs right_jobs
merge_refused left_jobs right_jobs l r = Some refusals.NotOwner

abbrev pub merge_refusal : ServerState → ℕ → ℕ → Option Refusal
merge_refusal s left right = merge_refused (has_jobs s left) (has_jobs s right) (range_of s.ranges left) (range_of s.ranges right)

-- a merge begins, which waits for the map
abbrev pub merges_in : ServerState → ℕ → Option TwoRanges → ServerOutcome
merges_in s left None = rests s
merges_in s left (Some two) =
    if has_numbers s.context then
    record {
      after = record s { context = used s.context; merges = set_merge s.merges left (Some (merges.new_merge s.context two.0 two.1)) };
      packets = merges.begin_packet s.context (merges.new_merge s.context two.0 two.1) (request s.context) ∷ [];
      notes = [];
    }
    else rests s

-- a merge of two ranges begins; without numbers for the requests of a step none does
abbrev pub server_merge : ServerState → ℕ → ℕ → ServerOutcome
server_merge s left right =
    if is_some (merge_refusal s left right) then rests s else merges_in s left (pair_of (range_of s.ranges left) (range_of s.ranges right))

-- a start: no range, and the last moment
abbrev pub started : ℕ → ℕ → ℕ → Nodes → ℕ → ServerState
started server session now pick batch =
    record { context = record { server = server; session = session; moment = now; pick = pick; batch = batch; count = 1 }; ranges = []; splits = []; merges = [] }
