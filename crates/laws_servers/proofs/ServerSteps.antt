-- What a step of a server sends is from a server, and what it shows is plain, but for the table that it loads.
use Rattle.std.proofs.Common.{◌≡◌, Bool, ℕ, ◌==◌, List, [], Option, Some, None, is_some, refl, sym, ap, ◌∙◌, inl, inr, subst}
use Rattle.std.proofs.lemmas.Option.{same_Some}
use Rattle.block_types.specs.declared.record.Nodes.{Nodes}
use Rattle.wire.specs.declared.actor.ActorId.{ActorId}
use Rattle.wire.specs.declared.actor.ActorId.TheVariants as actors
use Rattle.wire.specs.declared.actor.ReqNo.{ReqNo}
use Rattle.wire.specs.declared.body.StreamBody.{StreamBody}
use Rattle.wire.specs.declared.body.StreamBody.TheVariants as streams
use Rattle.wire.specs.declared.body.MapBody.{MapBody}
use Rattle.wire.specs.declared.body.MapBody.TheVariants as maps
use Rattle.wire.specs.declared.body.TableBody.{TableBody}
use Rattle.wire.specs.declared.body.TableBody.TheVariants as tables
use Rattle.wire.specs.declared.body.Body.{Body}
use Rattle.wire.specs.declared.body.Body.TheVariants as bodies
use Rattle.wire.specs.declared.packet.Packet.{Packet}
use Rattle.wire.specs.declared.transaction.Change.{Change}
use Rattle.model_streams.proofs.Tests.{if_elim}
use Rattle.model_streams.specs.Maps.{entry_at}
use Rattle.model_partition.specs.declared.server_context.ServerContext.{ServerContext}
use Rattle.model_partition.specs.declared.merge_job.MergeJob.{MergeJob}
use Rattle.model_partition.specs.declared.merge_job.MergeSide.{MergeSide}
use Rattle.model_partition.specs.declared.shown_table.ShownTable.{ShownTable}
use Rattle.model_partition.specs.declared.split_job.SplitJob.{SplitJob}
use Rattle.model_partition.specs.declared.table_note.TableNote.{TableNote}
use Rattle.model_partition.specs.Range.{RangeState, RangeOutcome}
use Rattle.model_partition.specs.Serving.{transact_rule}
use Rattle.model_partition.specs.Getting.{get_rule}
use Rattle.model_partition.specs.Checkpoints.{checkpoint_rule}
use Rattle.model_partition.specs.Merges.{left_trim}
use Rattle.model_partition.specs.Answering.{answered_number, is_answerer, answer_rule, give_up_all}
use Rattle.model_partition.specs.Server.{ServerState, ServerOutcome, range_of, awaiting, users_of, is_newer, assign_rule, renew_rule, told_by_map, map_rule, transacts_in, gets_in, table_rule, answer_in, answer_at, answer_ending, left_ended, answered_both, merge_answer_in, merge_answer, split_answer_in, split_answer, answer_of, numbered_rule, taken_rule, has_numbers, server_rule, gives_up, picked, checkpoint_refusal, checkpoints_in, server_checkpoint, split_of, split_awaiting, counted, stepped, stepped_apart, stepped_with, stepped_alone, stepped_splitting, merge_with, merge_of, merge_awaiting, TwoRanges, pair_of, both_of, side_of_range, follows_both, merge_follows, merged_behind, stepped_merging, stepped_in, give_up_both, merge_gives_up, given_up_merging, given_up_with, given_up, given_up_splitting, split_refusal, splits_in, server_split, merge_refusal, merges_in, server_merge}
use Rattle.model_partition.specs.Servers.{ArePlain, ShowsLoad, ServerCell, ServersOutcome, range_table, table_at, loads, cell_loads, server_loads, cell_takes, cell_given_up, cell_gives_up, cell_checkpoints, cell_splits, cell_merges, cell_stops, cell_starts, at_server, server_takes, server_gives_up, server_checkpoints, server_splits, server_merges, server_stops, server_starts}
use Rattle.laws_servers.specs.Sending.{AllFromRanges, AllFromServers}
use Rattle.laws_servers.proofs.ClientPackets.{all_both, from_servers, servers_both}
use Rattle.laws_servers.proofs.RangeSteps.{IsTidy, ShowsFrom, table_with, refused_all, transact_tidy, get_tidy, checkpoint_tidy, answer_shows, give_up_tidy}
use Rattle.laws_servers.proofs.MergeSteps.{left_ends_sends, merge_reply_sends, merge_follows_sends, merge_gives_up_sends}
use Rattle.laws_servers.proofs.SplitSteps.{split_sends, split_reply_sends, follows_sends, split_gives_up_sends}

-- what it sends is from a server, and it shows no loaded table
abbrev pub AreTidy : ServerOutcome → Type 0
AreTidy o = AllFromServers o.packets × ArePlain o.notes

-- what it sends is from a server, and it shows no loaded table but this
abbrev pub Shows : Option ShownTable → ServerOutcome → Type 0
Shows loading o = AllFromServers o.packets × ShowsLoad loading o.notes

plainly : (loading : Option ShownTable) (o : ServerOutcome) → AreTidy o → Shows loading o
plainly loading o h = (h.0, inl h.1)

-- ---- what merges do

follows_both_sends : (s : ServerState) (left : ℕ) (job : MergeJob) (side : MergeSide) (both : Option TwoRanges) → AllFromServers (follows_both s left job side both).packets
follows_both_sends s left job side None = tt
follows_both_sends s left job side (Some two) = merge_follows_sends s.context two.0 two.1 job side

give_up_both_sends : (s : ServerState) (left : ℕ) (job : MergeJob) (told : MergeSide) (both : Option TwoRanges) → AllFromServers (give_up_both s left job told both).packets
give_up_both_sends s left job told None = tt
give_up_both_sends s left job told (Some two) = merge_gives_up_sends s.context two.0 two.1 job told

-- ---- a step of a range, and what its split or its merge then does

-- what its split or its merge then does is told as the step alone
module _ (s : ServerState) (range : ℕ) (o : RangeOutcome) (IsShown : List TableNote → Type 0) (sent : AllFromServers o.packets) (shown : IsShown o.notes) where
  abbrev Tells : ServerOutcome → Type 0
  Tells t = AllFromServers t.packets × IsShown t.notes

  apart_tells : Tells (stepped_apart s range o)
  apart_tells = go (split_of s.splits range)
    where
      by : (job : SplitJob) (a : Option RangeState) → Tells (stepped_splitting s range job o a)
      by job None = (sent, shown)
      by job (Some r) = (servers_both o.packets _ sent (follows_sends (counted s.context o) r job), shown)

      go : (x : Option SplitJob) → Tells (stepped_with s range x o)
      go None = (sent, shown)
      go (Some job) = by job o.after

  -- behind it a merge goes on
  behind_tells : (left : ℕ) (job : MergeJob) (goes_on : ServerState → ℕ → MergeJob → ServerOutcome) → ((z : ServerState) → AllFromServers (goes_on z left job).packets) →
      (a : Option RangeState) → Tells (merged_behind o (stepped_alone s range o) left job a goes_on)
  behind_tells left job goes_on sends None = (sent, shown)
  behind_tells left job goes_on sends (Some r) = (servers_both o.packets _ sent (sends (stepped_alone s range o).after), shown)

  stepped_tells : Tells (stepped s range o)
  stepped_tells = go (merge_with s.merges range)
    where
      by : (left : ℕ) (x : Option MergeJob) → Tells (stepped_merging s range left x o)
      by left None = apart_tells
      by left (Some job) = behind_tells left job (merge_follows range) (λ z. follows_both_sends z left job (side_of_range job range) (both_of z.ranges job)) o.after

      go : (x : Option ℕ) → Tells (stepped_in s range x o)
      go None = apart_tells
      go (Some left) = by left (merge_of s.merges left)

  given_up_with_tells : (x : Option SplitJob) → Tells (given_up_with s range x o)
  given_up_with_tells None = (sent, shown)
  given_up_with_tells (Some job) = by o.after
    where
      by : (a : Option RangeState) → Tells (given_up_splitting s range job o a)
      by None = (sent, shown)
      by (Some r) = (servers_both o.packets _ sent (split_gives_up_sends (counted s.context o) r job), shown)

  given_up_tells : (x : Option ℕ) → Tells (given_up s range x o)
  given_up_tells None = given_up_with_tells (split_of s.splits range)
  given_up_tells (Some left) = by (merge_of s.merges left)
    where
      by : (x : Option MergeJob) → Tells (given_up_merging s range left x o)
      by None = given_up_with_tells (split_of s.splits range)
      by (Some job) = behind_tells left job (merge_gives_up range) (λ z. give_up_both_sends z left job (side_of_range job range) (both_of z.ranges job)) o.after

stepped_tidy : (s : ServerState) (range : ℕ) (o : RangeOutcome) → IsTidy o → AreTidy (stepped s range o)
stepped_tidy s range o h = stepped_tells s range o ArePlain (from_servers o.packets h.0) h.1

stepped_shows : (s : ServerState) (range : ℕ) (loading : Option ShownTable) (o : RangeOutcome) → ShowsFrom loading o → Shows loading (stepped s range o)
stepped_shows s range loading o h = stepped_tells s range o (ShowsLoad loading) (from_servers o.packets h.0) h.1

-- ---- what the map tells

pub users_all : (d : ServerContext) (known : Option RangeState) → AllFromRanges (users_of d known)
users_all d None = tt
users_all d (Some r) = refused_all d r

assign_tidy : (s : ServerState) (range generation until : ℕ) (known : Option RangeState) → AreTidy (assign_rule s range generation until known)
assign_tidy s range generation until known =
    if_elim AreTidy (is_newer generation known) _ _
    (λ t. (from_servers _ (all_both (users_of s.context known) _ (users_all s.context known) ((s.context.server, refl, inl refl), tt)), tt))
    (λ f. (tt, tt))

renew_tidy : (s : ServerState) (range generation until : ℕ) (known : Option RangeState) → AreTidy (renew_rule s range generation until known)
renew_tidy s range generation until None = (tt, tt)
renew_tidy s range generation until (Some r) = if_elim AreTidy (r.load.generation == generation) _ _ (λ t. (tt, tt)) (λ f. (tt, tt))

told_tidy : (s : ServerState) (body : MapBody) → AreTidy (told_by_map s body)
told_tidy s (maps.Assign range generation until) = assign_tidy s range generation until (range_of s.ranges range)
told_tidy s (maps.Renew range generation until) = renew_tidy s range generation until (range_of s.ranges range)
told_tidy s body = (tt, tt)

map_tidy : (s : ServerState) (from : ActorId) (body : MapBody) → AreTidy (map_rule s from body)
map_tidy s actors.Map body = told_tidy s body
map_tidy s from body = (tt, tt)

-- ---- what users ask

transacts_tidy : (s : ServerState) (p : Packet) (range : ℕ) (changes : List Change) (q : ReqNo) (known : Option RangeState) → AreTidy (transacts_in s p range changes q known)
transacts_tidy s p range changes q None = (((s.context.server, refl, inr (inl refl)), tt), tt)
transacts_tidy s p range changes q (Some r) = stepped_tidy s range (transact_rule s.context r p.from q changes) (transact_tidy s.context r p.from q changes)

gets_tidy : (s : ServerState) (p : Packet) (range : ℕ) (key : List ℕ) (q : ReqNo) (known : Option RangeState) → AreTidy (gets_in s p range key q known)
gets_tidy s p range key q None = (((s.context.server, refl, inr (inl refl)), tt), tt)
gets_tidy s p range key q (Some r) = stepped_tidy s range (get_rule s.context r p.from q key) (get_tidy s.context r p.from q key)

table_tidy : (s : ServerState) (p : Packet) (body : TableBody) → AreTidy (table_rule s p body)
table_tidy s p (tables.Transact range changes q) = transacts_tidy s p range changes q (range_of s.ranges range)
table_tidy s p (tables.Get range key q) = gets_tidy s p range key q (range_of s.ranges range)
table_tidy s p body = (tt, tt)

-- ---- answers

-- the range that shows its table is the one that waits for the answer
table_is : (s : ServerState) (body : StreamBody) (w : ReqNo) (range : ℕ) (r : RangeState) → answered_number (bodies.Stream body) ≡ Some w → awaiting s.ranges w ≡ Some range →
    range_of s.ranges range ≡ Some r → table_with r (bodies.Stream body) ≡ loads s (bodies.Stream body)
table_is s (streams.Confirmed q) w range r number waits known =
    sym (ap (λ (x : ReqNo). table_at s (awaiting s.ranges x)) (same_Some q w number) ∙ ap (table_at s) waits ∙ ap range_table known)
table_is s body w range r number waits known = refl

table_loads : (s : ServerState) (body : Body) (w : ReqNo) (range : ℕ) (r : RangeState) → answered_number body ≡ Some w → awaiting s.ranges w ≡ Some range →
    range_of s.ranges range ≡ Some r → table_with r body ≡ loads s body
table_loads s (bodies.Stream body) w range r number waits known = table_is s body w range r number waits known
table_loads s body w range r number waits known = refl

-- the range takes it
answer_taken_shows : (s : ServerState) (p : Packet) (w : ReqNo) (range : ℕ) (r : RangeState) → answered_number p.body ≡ Some w → awaiting s.ranges w ≡ Some range →
    range_of s.ranges range ≡ Some r → Shows (loads s p.body) (stepped s range (answer_rule s.context r w p.body))
answer_taken_shows s p w range r number waits known =
    subst (λ (loading : Option ShownTable). Shows loading (stepped s range (answer_rule s.context r w p.body))) (table_loads s p.body w range r number waits known)
    (stepped_shows s range (table_with r p.body) (answer_rule s.context r w p.body) (answer_shows s.context r w p.body))

left_ended_tidy : (s : ServerState) (left : ℕ) (job : MergeJob) (x : ℕ × Bool) (both : Option TwoRanges) → AreTidy (left_ended s left job x both)
left_ended_tidy s left job x None = (tt, tt)
left_ended_tidy s left job x (Some two) = (left_ends_sends s.context two.0 two.1 job x, tt)

-- or a merge does, where the checkpoint of its left range ends
answer_at_shows : (s : ServerState) (p : Packet) (w : ReqNo) (range : ℕ) (r : RangeState) → Shows (loads s p.body) (stepped s range (answer_rule s.context r w p.body)) →
    (merge : Option MergeJob) → Shows (loads s p.body) (answer_at s p w range r merge)
answer_at_shows s p w range r taken None = taken
answer_at_shows s p w range r taken (Some job) = by (left_trim job.phase r w p.body)
  where
    by : (x : Option (ℕ × Bool)) → Shows (loads s p.body) (answer_ending s p w range r job x)
    by None = taken
    by (Some x) = plainly (loads s p.body) (left_ended s range job x (both_of s.ranges job)) (left_ended_tidy s range job x (both_of s.ranges job))

answer_in_shows : (s : ServerState) (p : Packet) (w : ReqNo) (range : ℕ) (known : Option RangeState) → answered_number p.body ≡ Some w → awaiting s.ranges w ≡ Some range →
    range_of s.ranges range ≡ known → Shows (loads s p.body) (answer_in s p w range known)
answer_in_shows s p w range None number waits known = (tt, inl tt)
answer_in_shows s p w range (Some r) number waits known = answer_at_shows s p w range r (answer_taken_shows s p w range r number waits known) (merge_of s.merges range)

-- an answer to a merge shows nothing
answered_both_tidy : (s : ServerState) (p : Packet) (left : ℕ) (job : MergeJob) (both : Option TwoRanges) → AreTidy (answered_both s p left job both)
answered_both_tidy s p left job None = (tt, tt)
answered_both_tidy s p left job (Some two) = (merge_reply_sends s.context two.0 two.1 job p.body, tt)

merge_answer_in_tidy : (s : ServerState) (p : Packet) (left : ℕ) (merge : Option MergeJob) → AreTidy (merge_answer_in s p left merge)
merge_answer_in_tidy s p left None = (tt, tt)
merge_answer_in_tidy s p left (Some job) = answered_both_tidy s p left job (both_of s.ranges job)

merge_answer_tidy : (s : ServerState) (p : Packet) (left : Option ℕ) → AreTidy (merge_answer s p left)
merge_answer_tidy s p None = (tt, tt)
merge_answer_tidy s p (Some left) = merge_answer_in_tidy s p left (merge_of s.merges left)

-- nor does one to a split
split_answer_in_tidy : (s : ServerState) (p : Packet) (range : ℕ) (known : Option RangeState) (job : Option SplitJob) → AreTidy (split_answer_in s p range known job)
split_answer_in_tidy s p range (Some r) (Some job) = (split_reply_sends s.context r job p.body, tt)
split_answer_in_tidy s p range (Some r) None = (tt, tt)
split_answer_in_tidy s p range None job = (tt, tt)

split_answer_tidy : (s : ServerState) (p : Packet) (w : ReqNo) (range : Option ℕ) → AreTidy (split_answer s p w range)
split_answer_tidy s p w None = merge_answer_tidy s p (merge_awaiting s.merges w)
split_answer_tidy s p w (Some range) = split_answer_in_tidy s p range (range_of s.ranges range) (split_of s.splits range)

answer_of_shows : (s : ServerState) (p : Packet) (w : ReqNo) (range : Option ℕ) → answered_number p.body ≡ Some w → awaiting s.ranges w ≡ range →
    Shows (loads s p.body) (answer_of s p w range)
answer_of_shows s p w None number waits = plainly (loads s p.body) (split_answer s p w (split_awaiting s.splits w)) (split_answer_tidy s p w (split_awaiting s.splits w))
answer_of_shows s p w (Some range) number waits = answer_in_shows s p w range (range_of s.ranges range) number waits refl

numbered_shows : (s : ServerState) (p : Packet) (number : Option ReqNo) → answered_number p.body ≡ number → Shows (loads s p.body) (numbered_rule s p number)
numbered_shows s p None is = (tt, inl tt)
numbered_shows s p (Some w) is =
    if_elim (Shows (loads s p.body)) (is_answerer p.from p.body) _ _
    (λ t. answer_of_shows s p w (awaiting s.ranges w) is refl)
    (λ f. (tt, inl tt))

answered_shows : (s : ServerState) (p : Packet) (body : Body) → p.body ≡ body → Shows (loads s body) (numbered_rule s p (answered_number body))
answered_shows s p body is =
    subst (λ (b : Body). Shows (loads s b) (numbered_rule s p (answered_number b))) is (numbered_shows s p (answered_number p.body) refl)

taken_shows : (s : ServerState) (p : Packet) (body : Body) → p.body ≡ body → Shows (loads s body) (taken_rule s p body)
taken_shows s p (bodies.Map (maps.Assign range generation until)) is =
    plainly None (map_rule s p.from (maps.Assign range generation until)) (map_tidy s p.from (maps.Assign range generation until))
taken_shows s p (bodies.Map (maps.Renew range generation until)) is =
    plainly None (map_rule s p.from (maps.Renew range generation until)) (map_tidy s p.from (maps.Renew range generation until))
taken_shows s p (bodies.Table body) is = plainly None (table_rule s p body) (table_tidy s p body)
taken_shows s p body is = answered_shows s p body is

pub server_shows : (s : ServerState) (p : Packet) → Shows (loads s p.body) (server_rule s p p.body)
server_shows s p = if_elim (Shows (loads s p.body)) (has_numbers s.context) _ _ (λ t. taken_shows s p p.body refl) (λ f. (tt, inl tt))

-- ---- a checkpoint

checkpoints_tidy : (s : ServerState) (range : ℕ) (combine : Bool) (known : Option RangeState) → AreTidy (checkpoints_in s range combine known)
checkpoints_tidy s range combine None = (tt, tt)
checkpoints_tidy s range combine (Some r) = if_elim AreTidy (has_numbers s.context) _ _ (λ t. stepped_tidy s range (checkpoint_rule s.context r combine) (checkpoint_tidy s.context r combine)) (λ f. (tt, tt))

pub server_checkpoint_tidy : (s : ServerState) (range : ℕ) (combine : Bool) → AreTidy (server_checkpoint s range combine)
server_checkpoint_tidy s range combine =
    if_elim AreTidy (is_some (checkpoint_refusal s range)) _ _ (λ t. (tt, tt)) (λ f. checkpoints_tidy s range combine (range_of s.ranges range))

-- ---- a split

splits_tidy : (s : ServerState) (range : ℕ) (key : List ℕ) (known : Option RangeState) → AreTidy (splits_in s range key known)
splits_tidy s range key None = (tt, tt)
splits_tidy s range key (Some r) = if_elim AreTidy (has_numbers s.context) _ _ (λ t. (split_sends s.context r key, tt)) (λ f. (tt, tt))

pub server_split_tidy : (s : ServerState) (range : ℕ) (key : List ℕ) → AreTidy (server_split s range key)
server_split_tidy s range key = if_elim AreTidy (is_some (split_refusal s range key)) _ _ (λ t. (tt, tt)) (λ f. splits_tidy s range key (range_of s.ranges range))

-- ---- a merge

merges_tidy : (s : ServerState) (left : ℕ) (both : Option TwoRanges) → AreTidy (merges_in s left both)
merges_tidy s left None = (tt, tt)
merges_tidy s left (Some two) = if_elim AreTidy (has_numbers s.context) _ _ (λ t. (((s.context.server, refl, inr (inr refl)), tt), tt)) (λ f. (tt, tt))

pub server_merge_tidy : (s : ServerState) (left right : ℕ) → AreTidy (server_merge s left right)
server_merge_tidy s left right =
    if_elim AreTidy (is_some (merge_refusal s left right)) _ _ (λ t. (tt, tt)) (λ f. merges_tidy s left (pair_of (range_of s.ranges left) (range_of s.ranges right)))

-- ---- servers over their starts and stops

-- what all servers send is from servers, and they show no loaded table
abbrev pub AllTidy : ServersOutcome → Type 0
AllTidy o = AllFromServers o.packets × ArePlain o.notes

-- what all servers send is from servers, and they show no loaded table but this
abbrev pub AllShow : Option ShownTable → ServersOutcome → Type 0
AllShow loading o = AllFromServers o.packets × ShowsLoad loading o.notes

cell_shows : (cell : ServerCell) (p : Packet) (state : Option ServerState) →
    AllFromServers (cell_takes cell p state).packets × ShowsLoad (cell_loads state p.body) (cell_takes cell p state).notes
cell_shows cell p None = (tt, inl tt)
cell_shows cell p (Some s) = server_shows s p

takes_shows : (servers : List ServerCell) (n : ℕ) (p : Packet) (cell : Option ServerCell) →
    AllShow (server_loads cell p.body) (at_server servers n (λ x. cell_takes x p x.state) cell)
takes_shows servers n p None = (tt, inl tt)
takes_shows servers n p (Some cell) = cell_shows cell p cell.state

pub server_takes_shows : (servers : List ServerCell) (n : ℕ) (p : Packet) →
    AllShow (server_loads (entry_at servers n) p.body) (server_takes servers n p)
server_takes_shows servers n p = takes_shows servers n p (entry_at servers n)

gives_up_tidy : (s : ServerState) (range : ℕ) (known : Option RangeState) (cell : ServerCell) →
    AllFromServers (cell_given_up cell (gives_up s range known)).packets × ArePlain (cell_given_up cell (gives_up s range known)).notes
gives_up_tidy s range None cell = (tt, tt)
gives_up_tidy s range (Some r) cell =
    if_elim (λ (o : ServerOutcome). AllFromServers o.packets × ArePlain o.notes) (has_numbers s.context) _ _
    (λ t.
    let o : RangeOutcome = give_up_all s.context r in
    let tidy : IsTidy o = give_up_tidy s.context r in
    given_up_tells s range o ArePlain (from_servers o.packets tidy.0) tidy.1 (merge_with s.merges range))
    (λ f. (tt, tt))

cell_gives_up_tidy : (cell : ServerCell) (range : ℕ) (pick : Nodes) (state : Option ServerState) →
    AllFromServers (cell_gives_up cell range pick state).packets × ArePlain (cell_gives_up cell range pick state).notes
cell_gives_up_tidy cell range pick None = (tt, tt)
cell_gives_up_tidy cell range pick (Some s) = gives_up_tidy (picked s pick) range (range_of s.ranges range) cell

given_up_tidy : (servers : List ServerCell) (n range : ℕ) (pick : Nodes) (cell : Option ServerCell) →
    AllTidy (at_server servers n (λ x. cell_gives_up x range pick x.state) cell)
given_up_tidy servers n range pick None = (tt, tt)
given_up_tidy servers n range pick (Some cell) = cell_gives_up_tidy cell range pick cell.state

pub server_gives_up_tidy : (servers : List ServerCell) (n range : ℕ) (pick : Nodes) → AllTidy (server_gives_up servers n range pick)
server_gives_up_tidy servers n range pick = given_up_tidy servers n range pick (entry_at servers n)

cell_checkpoints_tidy : (cell : ServerCell) (range : ℕ) (combine : Bool) (state : Option ServerState) →
    AllFromServers (cell_checkpoints cell range combine state).packets × ArePlain (cell_checkpoints cell range combine state).notes
cell_checkpoints_tidy cell range combine None = (tt, tt)
cell_checkpoints_tidy cell range combine (Some s) = server_checkpoint_tidy s range combine

checkpoints_of_tidy : (servers : List ServerCell) (n range : ℕ) (combine : Bool) (cell : Option ServerCell) →
    AllTidy (at_server servers n (λ x. cell_checkpoints x range combine x.state) cell)
checkpoints_of_tidy servers n range combine None = (tt, tt)
checkpoints_of_tidy servers n range combine (Some cell) = cell_checkpoints_tidy cell range combine cell.state

pub server_checkpoints_tidy : (servers : List ServerCell) (n range : ℕ) (combine : Bool) → AllTidy (server_checkpoints servers n range combine)
server_checkpoints_tidy servers n range combine = checkpoints_of_tidy servers n range combine (entry_at servers n)

cell_splits_tidy : (cell : ServerCell) (range : ℕ) (key : List ℕ) (state : Option ServerState) →
    AllFromServers (cell_splits cell range key state).packets × ArePlain (cell_splits cell range key state).notes
cell_splits_tidy cell range key None = (tt, tt)
cell_splits_tidy cell range key (Some s) = server_split_tidy s range key

splits_of_tidy : (servers : List ServerCell) (n range : ℕ) (key : List ℕ) (cell : Option ServerCell) →
    AllTidy (at_server servers n (λ x. cell_splits x range key x.state) cell)
splits_of_tidy servers n range key None = (tt, tt)
splits_of_tidy servers n range key (Some cell) = cell_splits_tidy cell range key cell.state

pub server_splits_tidy : (servers : List ServerCell) (n range : ℕ) (key : List ℕ) → AllTidy (server_splits servers n range key)
server_splits_tidy servers n range key = splits_of_tidy servers n range key (entry_at servers n)

cell_merges_tidy : (cell : ServerCell) (left right : ℕ) (state : Option ServerState) →
    AllFromServers (cell_merges cell left right state).packets × ArePlain (cell_merges cell left right state).notes
cell_merges_tidy cell left right None = (tt, tt)
cell_merges_tidy cell left right (Some s) = server_merge_tidy s left right

merges_of_tidy : (servers : List ServerCell) (n left right : ℕ) (cell : Option ServerCell) →
    AllTidy (at_server servers n (λ x. cell_merges x left right x.state) cell)
merges_of_tidy servers n left right None = (tt, tt)
merges_of_tidy servers n left right (Some cell) = cell_merges_tidy cell left right cell.state

pub server_merges_tidy : (servers : List ServerCell) (n left right : ℕ) → AllTidy (server_merges servers n left right)
server_merges_tidy servers n left right = merges_of_tidy servers n left right (entry_at servers n)

-- a stop and a start neither send nor show
abbrev pub IsStill : ServersOutcome → Type 0
IsStill o = (o.packets ≡ []) × (o.notes ≡ [])

rests_still : (servers : List ServerCell) (n : ℕ) (goes : ServerCell → ServerCell) (cell : Option ServerCell) →
    IsStill (at_server servers n (λ x. record { cell = goes x; packets = []; notes = [] }) cell)
rests_still servers n goes None = (refl, refl)
rests_still servers n goes (Some cell) = (refl, refl)

pub server_stops_still : (servers : List ServerCell) (n call : ℕ) → IsStill (server_stops servers n call)
server_stops_still servers n call = rests_still servers n (cell_stops call) (entry_at servers n)

pub server_starts_still : (servers : List ServerCell) (n now batch : ℕ) → IsStill (server_starts servers n now batch)
server_starts_still servers n now batch = rests_still servers n (λ x. cell_starts n now batch x x.state) (entry_at servers n)
