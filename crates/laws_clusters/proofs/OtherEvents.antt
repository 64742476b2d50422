-- A cluster stands on where an event leaves the streams of all ranges alone: moments, stops, starts, leases, the nodes of new
-- extents, and packets that say nothing of streams.
use Rattle.std.proofs.Common.{◌≡◌, ℕ, zero, suc, ◌-◌, ◌^◌, ◌≤◌, max, Bool, true, false, List, [], ◌∷◌, ◌++◌, map, Option, Some, None, option_map, Contains, slice_set, refl, sym, ap, ◌∙◌, subst, inl, inr, arith, if◌then◌else◌, ◌==◌, nat_lt, append-nil}
use Rattle.std.proofs.lemmas.Bool.Decides.{nat_tests}
use Rattle.std.proofs.lemmas.List.Elements.{Contains-append_cases, Contains-append_left}
use Rattle.block_types.specs.declared.record.Nodes.{Nodes}
use Rattle.wire.specs.declared.actor.ActorId.{ActorId}
use Rattle.wire.specs.declared.actor.ActorId.TheVariants.{Map, Server}
use Rattle.wire.specs.declared.actor.ReqNo.{ReqNo}
use Rattle.wire.specs.declared.body.Body.{Body}
use Rattle.wire.specs.declared.body.Body.TheVariants as bodies
use Rattle.wire.specs.declared.body.StreamBody.TheVariants.{Extend, MultiModify}
use Rattle.wire.specs.declared.note.Note.{Note}
use Rattle.wire.specs.declared.packet.Packet.{Packet}
use Rattle.wire.specs.declared.refusal.Refusal.{Refusal}
use Rattle.wire.specs.declared.streams.StreamKind.TheVariants as kinds
use Rattle.wire.specs.declared.streams.StreamName.{StreamName}
use Rattle.replica.specs.Groups.{Group}
use Rattle.model_streams.specs.Maps.{entry_at}
use Rattle.model_streams.specs.Outcome.{packet}
use Rattle.model_streams.specs.StreamSystem.{StreamSystem, Move, sent_more}
use Rattle.model_partition.specs.declared.table_note.TableNote.{TableNote}
use Rattle.model_partition.specs.Past.{first_range}
use Rattle.model_histories.specs.ServedTables.{AreSeenAs}
use Rattle.model_histories.specs.ServerRun.{ServerRun, RangeHistory, RangeEffect, Rests, with_effect, with_outcome, stream_named, after_event, Stops, Starts, Moment}
use Rattle.model_histories.specs.TableContents.{AllTellRightly}
use Rattle.model_partition.specs.Servers.{ServerCell, ServersOutcome, with_told, cell_rests, cell_performs, cell_stops, cell_starts, first_pick, at_server, server_stops, server_starts, told_moment}
use Rattle.model_partition.specs.Cluster.{Cluster, servers_perform, told_by_map}
use Rattle.model_partition.specs.declared.server_context.ServerContext.{ServerContext}
use Rattle.model_partition.specs.declared.split_job.SplitJob.{SplitJob}
use Rattle.model_partition.specs.Splits.{side_range}
use Rattle.model_partition.specs.Range.{RangeState, refuses}
use Rattle.model_partition.specs.Server.{ServerState, ServerOutcome, range_of, split_of, set_range, rests, renew_rule, moment_rule, started}
use Rattle.model_histories.specs.ServerTurns.{Whole, after_all}
use Rattle.model_histories.specs.ServerTurns as machine
use Rattle.laws_stream_machine.specs.Refinement.{Sent, IsThere}
use Rattle.laws_server_runs.specs.Places.{AreAscending}
use Rattle.laws_server_runs.proofs.RangeLists.{left_here, left_other, ascending_left}
use Rattle.std.proofs.lemmas.Bool.{cases_eq}
use Rattle.laws_ranges.specs.Serves.{metadata_of, log_of}
use Rattle.laws_ranges.proofs.SplitsKept.{both_same}
use Rattle.laws_log_reads.proofs.UntouchedReads.{same_left}
use Rattle.client.specs.Client.{ClientState, awaits}
use Rattle.laws_clusters.proofs.ClientJobs.{AsksBy}
use Rattle.laws_clusters.proofs.Copies.{AllSay}
use Rattle.laws_clusters.proofs.ObservedBytes.{AreObserved, observed_on, tells_fewer}
use Rattle.laws_clusters.proofs.ServerNotes.{server_notes, AreChanges, changes_served}
use Rattle.laws_clusters.proofs.StreamMachines.{AllAskedOf, Further, told_further}
use Rattle.laws_clusters.proofs.OtherRanges.{wider_same, onward_same, holds_on, held_on}
use Rattle.laws_clusters.proofs.RangeStreams.{HasStreams, catalog_stays, streams_stay, AreOfSplits, split_stays, AsksOthers, absent_on}
use Rattle.laws_clusters.proofs.MapWords.{IsWord, AreCounted, AllHave, AreWords, words_of, words_said}
use Rattle.laws_clusters.proofs.SaidPackets.{AreSaid, said_of, said_sent, said_plain, said_alone, said_list}
use Rattle.laws_loads.proofs.Entries.{entry_set, entry_other, entry_unmapped}
use Rattle.laws_clusters.proofs.RequestNumbers.{PastAt, IsPast, used_number, AreNumbersPast, past_on, past_step, past_stops, past_starts, past_moment}
use Rattle.laws_clusters.proofs.Invariant.{Machines, HeldAt, SplitAt, AreAside, ExtendNoBlobs, Waiter, OfRows, OfSeal, OfCall, Waits, AskedBy, Out, AllOut, IsBeside, AreBeside, here, m_side, l_side, Holds, IsHeld, KeysStand, Runs, Standing, Bases}
use Rattle.laws_clusters.proofs.SplitSidesKept.{same_keys, keys_on}

-- ---- servers that run as before

-- the same range, up to the end of its lease
pub record IsSameRange (r k : RangeState) : Type 0 where
  pub until : ℕ
  pub is : k ≡ record r { until = until }

pub record AreSameRanges (xs ys : List (ℕ × RangeState)) : Type 0 where
  pub ascending : AreAscending xs → AreAscending ys
  pub ranges : AreAscending xs → (range : ℕ) (k : RangeState) → range_of ys range ≡ Some k → (r : RangeState) × (range_of xs range ≡ Some r) × IsSameRange r k
  pub kept : AreAscending xs → (range : ℕ) (r : RangeState) → range_of xs range ≡ Some r → (k : RangeState) × (range_of ys range ≡ Some k)

pub same_ranges : (xs : List (ℕ × RangeState)) → AreSameRanges xs xs
same_ranges xs = record { ascending = λ a. a; ranges = λ a range k found. (k, found, record { until = k.until; is = refl }); kept = λ a range r found. (r, found) }

-- where the lease of one range ends otherwise
pub leased : (xs : List (ℕ × RangeState)) (range : ℕ) (r : RangeState) (until : ℕ) → range_of xs range ≡ Some r → AreSameRanges xs (set_range xs range (Some (record r { until = until })))
leased xs range r until known = record { ascending = ascending_left xs range (Some (record r { until = until })); ranges = all; kept = still }
  where
    still : AreAscending xs → (j : ℕ) (z : RangeState) → range_of xs j ≡ Some z → (k : RangeState) × (range_of (set_range xs range (Some (record r { until = until }))) j ≡ Some k)
    still a j z found = elim (cases_eq j range) [
      | inl same ↦
          (record r { until = until }, subst (λ n. range_of (set_range xs range (Some (record r { until = until }))) n ≡ Some (record r { until = until })) (sym same) (left_here xs range r (Some (record r { until = until })) a known))
      | inr apart ↦ (z, left_other xs range (Some (record r { until = until })) j apart ∙ found)
    ]

    all : AreAscending xs → (j : ℕ) (k : RangeState) → range_of (set_range xs range (Some (record r { until = until }))) j ≡ Some k → (z : RangeState) × (range_of xs j ≡ Some z) × IsSameRange z k
    all a j k found = elim (cases_eq j range) [
      | inl same ↦
          (let both : Some (record r { until = until }) ≡ Some k =
          sym (left_here xs range r (Some (record r { until = until })) a known) ∙ subst (λ n. range_of (set_range xs range (Some (record r { until = until }))) n ≡ Some k) same found in
          (r, subst (λ n. range_of xs n ≡ Some r) (sym same) known, record { until = until; is = (let one : record r { until = until } ≡ k = cc in sym one) }))
      | inr apart ↦ (k, sym (left_other xs range (Some (record r { until = until })) j apart) ∙ found, record { until = k.until; is = refl })
    ]

-- a server that runs has the ranges that it had, or none
pub data RunsAs (servers : List ServerCell) (s : ℕ) (cell : ServerCell) (st : ServerState) : Type 0 where
  Ran : (old : ServerCell) (was : ServerState) (at : entry_at servers s ≡ Some old) (up : old.state ≡ Some was) (server : st.context.server ≡ was.context.server)
      (session : st.context.session ≡ was.context.session) (lasts : cell.session ≡ old.session) (ranges : AreSameRanges was.ranges st.ranges) (splits : st.splits ≡ was.splits) → RunsAs servers s cell st
  Begun : (server : st.context.server ≡ s) (session : st.context.session ≡ cell.session) (none : st.ranges ≡ []) (no_split : st.splits ≡ []) → RunsAs servers s cell st

pub still_runs : (servers : List ServerCell) (s : ℕ) (cell : ServerCell) (st : ServerState) → entry_at servers s ≡ Some cell → cell.state ≡ Some st → RunsAs servers s cell st
still_runs servers s cell st at up = Ran cell st at up refl refl refl (same_ranges st.ranges) refl

-- nothing is sent or shown, and of the server all but its nodes for new extents, its moment and its leases stays
pub record IsQuiet (st : ServerState) (o : ServerOutcome) : Type 0 where
  pub packets : o.packets ≡ []
  pub notes : o.notes ≡ []
  pub server : o.after.context.server ≡ st.context.server
  pub session : o.after.context.session ≡ st.context.session
  pub count : st.context.count ≤ o.after.context.count
  pub ranges : AreSameRanges st.ranges o.after.ranges
  pub splits : o.after.splits ≡ st.splits

pub rests_quiet : (st : ServerState) → IsQuiet st (rests st)
rests_quiet st = record { packets = refl; notes = refl; server = refl; session = refl; count = omega arith; ranges = same_ranges st.ranges; splits = refl }

pub renew_quiet : (st : ServerState) (range g until : ℕ) → IsQuiet st (renew_rule st range g until (range_of st.ranges range))
renew_quiet st range g until = by_range (range_of st.ranges range) refl
  where
    by_range : (o : Option RangeState) → range_of st.ranges range ≡ o → IsQuiet st (renew_rule st range g until o)
    by_range None found = rests_quiet st
    by_range (Some r) found = go (r.load.generation == g)
      where
        go : (b : Bool) → IsQuiet st (if b then record { after = record st { ranges = set_range st.ranges range (Some (record r { until = max r.until until })) }; packets = []; notes = [] } else rests st)
        go true = record {
          packets = refl;
          notes = refl;
          server = refl;
          session = refl;
          count = omega arith;
          ranges = leased st.ranges range r (max r.until until) found;
          splits = refl;
        }
        go false = rests_quiet st

pub told_nothing : (w : StreamSystem) → with_told w [] [] ≡ w
told_nothing w = ap (λ (k : List Packet). record w { post = k }) (append-nil w.post)

-- the cluster after a rule of a server
abbrev pub rule_done : Cluster → ℕ → ServerCell → ServerOutcome → Cluster
rule_done c s cell o = servers_perform c (record { servers = slice_set c.servers (s - 1) (cell_performs cell o).cell; packets = (cell_performs cell o).packets; notes = (cell_performs cell o).notes })

-- the run after a rule of a server, which does this with streams
abbrev pub run_done : Cluster → ServerRun → ℕ → ServerCell → RangeEffect → ServerOutcome → ServerRun
run_done c y s cell effect o =
    with_outcome (with_effect s y effect) (record { servers = slice_set c.servers (s - 1) (cell_performs cell o).cell; packets = (cell_performs cell o).packets; notes = (cell_performs cell o).notes })

-- other servers, perhaps, and nothing else is done or shown
pub record IsStill (y z : ServerRun) : Type 0 where
  pub history : (s range : ℕ) → z.history s range ≡ y.history s range
  pub story : (name : StreamName) → z.story name ≡ y.story name
  pub shown : (range : ℕ) → z.shown range ≡ y.shown range
  pub answered : (range : ℕ) → z.answered range ≡ y.answered range
  pub notes : z.notes ≡ y.notes

pub still_here : (y : ServerRun) (servers : List ServerCell) → IsStill y (record y { servers = servers })
still_here y servers = record { history = λ s range. refl; story = λ name. refl; shown = λ range. refl; answered = λ range. refl; notes = refl }

pub still_done : (y : ServerRun) (servers : List ServerCell) (packets : List Packet) (notes : List TableNote) → notes ≡ [] → IsStill y (with_outcome y (record { servers = servers; packets = packets; notes = notes }))
still_done y servers packets notes none = record { history = λ s range. refl; story = λ name. refl; shown = λ range. refl; answered = λ range. refl; notes = ap (λ ns. y.notes ++ ns) none ∙ append-nil y.notes }

module _ (generation : ℕ → ℕ) (nodes target : ℕ) where
  -- ---- ranges

  module _ (moves : List Move) (range : ℕ) (x : Machines generation) where
    holds_same : (h : RangeHistory) (i : ℕ) (job : Option SplitJob) (r k : RangeState) → IsSameRange r k → Holds generation nodes target moves range x h i job r → Holds generation nodes target moves range x h i job k
    holds_same h i job r k same b =
        subst (λ z. Holds generation nodes target moves range x h i job z) (sym same.is)
        (record {
          follows = both_same generation range (here generation nodes target moves) i (m_side generation x i) (l_side generation x i) r same.until r.gets r.held job b.follows;
          read = same_left range (here generation nodes target moves) i (after_all Group generation x.m).state (after_all Group generation x.l).state h r (record r { until = same.until })
              (record {
                said = refl;
                regions = refl;
                metadata = record { base = refl; extents = refl; checked = refl };
                log = record { base = refl; extents = refl; checked = refl };
                metadata_by = λ position a. a;
                log_by = λ position a. a;
              }) refl b.read;
          record_append = b.record_append;
          append = b.append;
        })

    held_same : (h g : RangeHistory) → g ≡ h → (o : Option ℕ) (job : Option SplitJob) (r k : RangeState) → IsSameRange r k → IsHeld generation nodes target moves range x h o job r → IsHeld generation nodes target moves range x g o job k
    held_same h g history o job r k same b = record {
      counted = b.counted;
      incarnation = b.incarnation;
      is = b.is;
      holds = subst (λ y. Holds generation nodes target moves range x y b.incarnation job k) (sym history) (holds_same h b.incarnation job r k same b.holds);
    }

  -- ---- servers

  pub runs_as : {base : Bases generation} → (c : Cluster) (y z : ServerRun) → IsStill y z → (x : Standing generation nodes target base c y) (s : ℕ) (cell : ServerCell) (st : ServerState) → RunsAs c.servers s cell st →
      Runs generation nodes target x.moves x.machines (z.history s) (x.incarnation s) s cell st
  runs_as c y z still x s cell st (Ran old was at up server session lasts ranges splits) =
      let before : Runs generation nodes target x.moves x.machines (y.history s) (x.incarnation s) s old was = x.servers s old was at up in
      record {
        server = server ∙ before.server;
        session = session ∙ before.session ∙ sym lasts;
        ascending = ranges.ascending before.ascending;
        held = λ range k found.
            (let same = ranges.ranges before.ascending range k found in
            subst (λ job. IsHeld generation nodes target x.moves range (x.machines range) (z.history s range) (x.incarnation s range) job k) (sym (ap (λ l. split_of l range) splits))
            (held_same x.moves range (x.machines range) (y.history s range) (z.history s range) (still.history s range) (x.incarnation s range) (split_of was.splits range) same.0 k same.2 (before.held range same.0 same.1)));
        splits_ascending = subst (λ l. AreAscending l) (sym splits) before.splits_ascending;
        split_held = λ range job found.
            (let held = before.split_held range job (sym (ap (λ l. split_of l range) splits) ∙ found) in
            ranges.kept before.ascending range held.0 held.1);
      }
  runs_as c y z still x s cell st (Begun server session none no_split) = record {
    server = server;
    session = session;
    ascending = subst (λ l. AreAscending l) (sym none) tt;
    held = λ range k found. absurd (let e : None ≡ Some k = sym (ap (λ l. range_of l range) none) ∙ found in cc);
    splits_ascending = subst (λ l. AreAscending l) (sym no_split) tt;
    split_held = λ range job found. absurd (let e : None ≡ Some job = sym (ap (λ l. split_of l range) no_split) ∙ found in cc);
  }

  -- the same stream system, and the same streams
  pub rests_as : {base : Bases generation} → (c d : Cluster) (y z : ServerRun) (x : Standing generation nodes target base c y) → d.stream_layer ≡ c.stream_layer → AreCounted d.map → AllHave c.stream_layer d.map → ((q : ReqNo) → IsPast c.servers q → IsPast d.servers q) →
      IsStill y z → d.servers ≡ z.servers →
      ((s : ℕ) (cell : ServerCell) (st : ServerState) → entry_at d.servers s ≡ Some cell → cell.state ≡ Some st → RunsAs c.servers s cell st) → Standing generation nodes target base d z
  rests_as c d y z x same counted have past still cells runs = record {
    moves = x.moves;
    leads = x.leads ∙ sym same;
    machines = x.machines;
    beside = x.beside;
    grows = x.grows;
    distinct = x.distinct;
    past = λ range q has. past q (x.past range q has);
    numbers = λ server to body there q number. past q (x.numbers server to body (subst (λ (v : StreamSystem). Contains v.post (packet (Server server) to body)) same there) q number);
    out = all_out;
    from_map = λ to body there. subst (λ v. IsWord v body) (sym same) (x.from_map to body (subst (λ (v : StreamSystem). Contains v.post (packet Map to body)) same there));
    counted = counted;
    have = subst (λ v. AllHave v d.map) (sym same) have;
    first = subst (λ v. HasStreams v first_range) (sym same) x.first;
    there = λ s range k held. subst (λ v. HasStreams v range) (sym same) (let was = held_before s range k held in x.there s range was.0 was.1);
    lists = subst AreOfSplits (sym same) x.lists;
    extends = subst (λ (v : StreamSystem). ExtendNoBlobs v.post) (sym same) x.extends;
    incarnation = x.incarnation;
    bound = x.bound;
    own = x.own;
    below = x.below;
    idle = x.idle;
    cells = cells;
    servers = λ s cell st at up. runs_as c y z still x s cell st (runs s cell st at up);
    aside = aside_before;
    keys = λ s range k job held split firm i is.
        (let was = held_before s range k held in
        keys_as s was.0 k job was.2 i (x.keys s range was.0 job was.1 (split_before s range job split) firm i is));
    stories = record {
      metadata_is = λ range. still.story (stream_named range kinds.Metadata) ∙ x.stories.metadata_is range;
      log_is = λ range. still.story (stream_named range kinds.Log) ∙ x.stories.log_is range;
      others = λ name other. still.story name ∙ x.stories.others name other;
    };
    says = λ range. subst (λ story. AllSay story) (sym (still.story (stream_named range kinds.Metadata))) (x.says range);
    observed = λ range. subst (λ ns. AreObserved ns (z.shown range)) (sym notes_same) (subst (λ ps. AreObserved c.stream_layer.notes ps) (sym (still.shown range)) (x.observed range));
    acked = λ range. subst (λ ns. AreObserved ns (z.answered range)) (sym notes_same) (subst (λ ps. AreObserved c.stream_layer.notes ps) (sym (still.answered range)) (x.acked range));
    told = λ texts all.
        subst (λ shown. AreSeenAs texts shown (server_notes d.stream_layer.notes)) (sym still.notes)
        (subst (λ ns. AreSeenAs texts y.notes (server_notes ns)) (sym notes_same) (x.told texts (subst (λ ns. AllTellRightly texts ns) notes_same all)));
  }
    where
      -- each range was held before, with the same row data
      held_before : (s range : ℕ) (k : RangeState) → HeldAt d.servers s range k → (r : RangeState) × HeldAt c.servers s range r × IsSameRange r k
      held_before s range k h = go (runs s h.cell h.state h.there h.up)
        where
          go : RunsAs c.servers s h.cell h.state → (r : RangeState) × HeldAt c.servers s range r × IsSameRange r k
          go (Ran old was at up server session lasts ranges splits) =
              let before = x.servers s old was at up in
              let was_held = ranges.ranges before.ascending range k h.found in
              (was_held.0, record { cell = old; state = was; there = at; up = up; found = was_held.1 }, was_held.2)
          go (Begun server session none no_split) = absurd (let e : None ≡ Some k = sym (ap (λ l. range_of l range) none) ∙ h.found in cc)

      -- and was split as it is
      split_before : (s range : ℕ) (job : SplitJob) → SplitAt d.servers s range job → SplitAt c.servers s range job
      split_before s range job h = go (runs s h.cell h.state h.there h.up)
        where
          go : RunsAs c.servers s h.cell h.state → SplitAt c.servers s range job
          go (Ran old was at up server session lasts ranges splits) = record { cell = old; state = was; there = at; up = up; found = sym (ap (λ l. split_of l range) splits) ∙ h.found }
          go (Begun server session none no_split) = absurd (let e : None ≡ Some job = sym (ap (λ l. split_of l range) no_split) ∙ h.found in cc)

      aside_before : AreAside d.servers
      aside_before = record {
        unheld = λ s k job split making side r held. (let was = held_before s (side_range job side) r held in x.aside.unheld s k job (split_before s k job split) making side was.0 was.1);
        once = λ s k j job other split also making too side part. x.aside.once s k j job other (split_before s k job split) (split_before s j other also) making too side part;
        two = λ s k job split. x.aside.two s k job (split_before s k job split);
      }

      -- the two ranges of a split stand as they stood, and what their keys are made of is the same
      keys_as : (s : ℕ) (r k : RangeState) (job : SplitJob) → IsSameRange r k → (i : ℕ) → KeysStand generation nodes target x.moves x.machines (y.history s) i r job job.phase →
          KeysStand generation nodes target x.moves x.machines (z.history s) i k job job.phase
      keys_as s r k job lease i stand =
          keys_on generation nodes target x.moves x.moves x.machines x.machines (y.history s) (z.history s) i job r k
          (record { said = ap (λ (u : RangeState). u.said) lease.is; metadata = ap (λ (u : RangeState). u.metadata) lease.is }) job.phase (λ making side there. there)
          (λ making side there.
          record {
            metadata = wider_same generation nodes target (metadata_of (side_range job side)) (here generation nodes target x.moves) (here generation nodes target x.moves)
                (after_all Group generation (x.machines (side_range job side)).m).state (x.machines (side_range job side)).m_sent refl;
            steady = (refl, refl);
            append = ap (λ (h : RangeHistory). h.append kinds.Metadata) (still.history s (side_range job side));
            streams = λ has. has;
          }) stand

      rows_are : (s range : ℕ) (k : RangeState) (h : HeldAt d.servers s range k) → k.rows ≡ (held_before s range k h).0.rows
      rows_are s range k h = ap (λ (z : RangeState). z.rows) (held_before s range k h).2.is

      waits_before : (s range : ℕ) (by : Waiter) (q : ReqNo) → Waits d.servers s range by q → Waits c.servers s range by q
      waits_before s range OfRows q (k, h, waits) =
          let was = held_before s range k h in (was.0, was.1, ap (λ (z : ClientState). awaits z.job q) (sym (rows_are s range k h)) ∙ waits)
      waits_before s range OfSeal q (job, h, waits) = (job, split_before s range job h, waits)
      waits_before s range OfCall q (job, h, waits) = (job, split_before s range job h, waits)

      asks_on : (s range : ℕ) (by : Waiter) (body : Body) → AskedBy c.servers s range by body → AskedBy d.servers s range by body
      asks_on s range OfRows body asks = λ k h. (let was = held_before s range k h in subst (λ z. AsksBy z body) (sym (rows_are s range k h)) (asks was.0 was.1))
      asks_on s range OfSeal body asks = tt
      asks_on s range OfCall body asks = λ job h. asks job (split_before s range job h)

      all_out : AllOut generation d.servers x.machines d.stream_layer.post
      all_out s range by q waits =
          let old : Out generation c.servers x.machines c.stream_layer.post s range by q = x.out s range by q (waits_before s range by q waits) in
          record {
            past = past q old.past;
            none = old.none;
            asked = λ server to body at number. asks_on s range by body (old.asked server to body (subst (λ (v : StreamSystem). Contains v.post (packet (Server server) to body)) same at) number);
            alone = λ t n other too. old.alone t n other (waits_before t n other q too);
          }

      notes_same : d.stream_layer.notes ≡ c.stream_layer.notes
      notes_same = ap (λ (w : StreamSystem). w.notes) same

  -- ---- one server

  module _ (c : Cluster) (s : ℕ) (cell next : ServerCell) (at : entry_at c.servers s ≡ Some cell) (past : (n k : ℕ) → PastAt cell n k → PastAt next n k)
      (runs : (st : ServerState) → next.state ≡ Some st → RunsAs c.servers s next st) where
    all_run : (u : ℕ) (other : ServerCell) (z : ServerState) → entry_at (slice_set c.servers (s - 1) next) u ≡ Some other → other.state ≡ Some z → RunsAs c.servers u other z
    all_run u other z there up = go (u == s) refl
      where
        go : (b : Bool) → (u == s) ≡ b → RunsAs c.servers u other z
        go true e =
            let same : s ≡ u = grind (arith, nat_tests) in
            let found : Some next ≡ Some other = sym (entry_set c.servers s cell next at) ∙ subst (λ k. entry_at (slice_set c.servers (s - 1) next) k ≡ Some other) (sym same) there in
            let cell_is : next ≡ other = cc in
            subst (λ k. RunsAs c.servers k other z) same (subst (λ y. RunsAs c.servers s y z) cell_is (runs z (ap (λ (y : ServerCell). y.state) cell_is ∙ up)))
        go false e = still_runs c.servers u other z (sym (entry_other c.servers s cell next at u (λ q. grind (arith, nat_tests))) ∙ there) up

    pub one_stands : {base : Bases generation} → (w : StreamSystem) (y z : ServerRun) → w ≡ c.stream_layer → IsStill y z → z.servers ≡ slice_set c.servers (s - 1) next → Standing generation nodes target base c y →
        Standing generation nodes target base (record c { stream_layer = w; servers = slice_set c.servers (s - 1) next }) z
    one_stands w y z same still cells x =
        rests_as c (record c { stream_layer = w; servers = slice_set c.servers (s - 1) next }) y z x same x.counted x.have (past_on c.servers s cell next at past) still (sym cells) all_run

  -- an event of a cluster, and the run of its servers after it
  abbrev pub StandsAfter : Bases generation → Cluster → ServerRun → ServersOutcome → Type 0
  StandsAfter base c y o = Standing generation nodes target base (servers_perform c o) (with_outcome y o)

  -- there is no such server
  pub nobody_stands : {base : Bases generation} → (c : Cluster) (y : ServerRun) → Standing generation nodes target base c y → StandsAfter base c y (record { servers = c.servers; packets = []; notes = [] })
  nobody_stands c y x =
      rests_as c (record c { stream_layer = with_told c.stream_layer [] [] }) y (with_outcome y (record { servers = c.servers; packets = []; notes = [] })) x (told_nothing c.stream_layer) x.counted x.have (λ q p. p)
      (still_done y c.servers [] [] refl) refl (still_runs c.servers)

  -- what the server of a number does, if there is one
  pub cell_stands : {base : Bases generation} → (c : Cluster) (y : ServerRun) (s : ℕ) (rule : ServerCell → ServerCell) → ((cell : ServerCell) (n k : ℕ) → PastAt cell n k → PastAt (rule cell) n k) →
      ((cell : ServerCell) (st : ServerState) → entry_at c.servers s ≡ Some cell → (rule cell).state ≡ Some st → RunsAs c.servers s (rule cell) st) → Standing generation nodes target base c y →
      StandsAfter base c y (at_server c.servers s (λ cell. cell_rests (rule cell)) (entry_at c.servers s))
  cell_stands {base} c y s rule past runs x = go (entry_at c.servers s) refl
    where
      go : (o : Option ServerCell) → entry_at c.servers s ≡ o → StandsAfter base c y (at_server c.servers s (λ cell. cell_rests (rule cell)) o)
      go None at = nobody_stands c y x
      go (Some cell) at =
          one_stands c s cell (rule cell) at (past cell) (λ st up. runs cell st at up) (with_told c.stream_layer [] []) y
          (with_outcome y (record { servers = slice_set c.servers (s - 1) (rule cell); packets = []; notes = [] })) (told_nothing c.stream_layer)
          (still_done y (slice_set c.servers (s - 1) (rule cell)) [] [] refl) refl x

  -- a server stops
  pub stops_stand : {base : Bases generation} → (c : Cluster) (y : ServerRun) (s call : ℕ) → Standing generation nodes target base c y → Standing generation nodes target base (servers_perform c (server_stops c.servers s call)) (after_event y (Stops s call))
  stops_stand {base} c y s call x =
      subst (λ l. Standing generation nodes target base (servers_perform c (server_stops c.servers s call)) (with_outcome y (server_stops l s call))) x.cells
      (cell_stands c y s (cell_stops call) (past_stops call) (λ cell st at up. go cell st at (call == 0) up) x)
    where
      go : (cell : ServerCell) (st : ServerState) → entry_at c.servers s ≡ Some cell → (b : Bool) → (if b then record cell { state = None } else cell).state ≡ Some st →
          RunsAs c.servers s (if b then record cell { state = None } else cell) st
      go cell st at true up = absurd cc
      go cell st at false up = still_runs c.servers s cell st at up

  -- a server starts
  pub starts_stand : {base : Bases generation} → (c : Cluster) (y : ServerRun) (s now batch : ℕ) → Standing generation nodes target base c y →
      Standing generation nodes target base (servers_perform c (server_starts c.servers s now batch)) (after_event y (Starts s now batch))
  starts_stand {base} c y s now batch x =
      subst (λ l. Standing generation nodes target base (servers_perform c (server_starts c.servers s now batch)) (with_outcome y (server_starts l s now batch))) x.cells
      (cell_stands c y s (λ cell. cell_starts s now batch cell cell.state) (past_starts s now batch) (λ cell st at up. by_state cell st at cell.state refl up) x)
    where
      go : (cell : ServerCell) (st : ServerState) → entry_at c.servers s ≡ Some cell → cell.state ≡ None → (b : Bool) →
          (if b then record { session = suc cell.session; state = Some (started s (suc cell.session) now first_pick batch) } else cell).state ≡ Some st →
          RunsAs c.servers s (if b then record { session = suc cell.session; state = Some (started s (suc cell.session) now first_pick batch) } else cell) st
      go cell st at none true up =
          let same : started s (suc cell.session) now first_pick batch ≡ st = cc in
          subst (λ z. RunsAs c.servers s (record { session = suc cell.session; state = Some (started s (suc cell.session) now first_pick batch) }) z) same (Begun refl refl refl refl)
      go cell st at none false up = still_runs c.servers s cell st at up

      by_state : (cell : ServerCell) (st : ServerState) → entry_at c.servers s ≡ Some cell → (o : Option ServerState) → cell.state ≡ o → (cell_starts s now batch cell o).state ≡ Some st →
          RunsAs c.servers s (cell_starts s now batch cell o) st
      by_state cell st at None is up = go cell st at is (nat_lt (suc cell.session) (2 ^ 64)) up
      by_state cell st at (Some server) is up = still_runs c.servers s cell st at up

  -- ---- a moment

  -- a moment that does not go back
  pub moment_stands : {base : Bases generation} → (c : Cluster) (y : ServerRun) (now : ℕ) → Standing generation nodes target base c y →
      Standing generation nodes target base (record c { now = now; servers = map (told_moment now) c.servers }) (after_event y (Moment now))
  moment_stands c y now x =
      rests_as c (record c { now = now; servers = map (told_moment now) c.servers }) y (after_event y (Moment now)) x refl x.counted x.have (past_moment c.servers now)
      (still_here y (map (told_moment now) y.servers)) (ap (map (told_moment now)) x.cells) runs
    where
      by_state : (s : ℕ) (cell : ServerCell) (st : ServerState) → entry_at c.servers s ≡ Some cell → (o : Option ServerState) → cell.state ≡ o → option_map (λ server. moment_rule server now) o ≡ Some st →
          RunsAs c.servers s (told_moment now cell) st
      by_state s cell st at None is up = absurd cc
      by_state s cell st at (Some was) is up =
          let same : moment_rule was now ≡ st = cc in
          subst (λ z. RunsAs c.servers s (told_moment now cell) z) same (Ran cell was at is refl refl refl (same_ranges was.ranges) refl)

      runs : (s : ℕ) (cell : ServerCell) (st : ServerState) → entry_at (map (told_moment now) c.servers) s ≡ Some cell → cell.state ≡ Some st → RunsAs c.servers s cell st
      runs s cell st at up =
          let (old, there, is) = entry_unmapped (told_moment now) c.servers s cell at in
          subst (λ z. RunsAs c.servers s z st) (sym is) (by_state s old st there old.state refl (ap (λ (z : ServerCell). z.state) (sym is) ∙ up))

  -- ---- leases, and the nodes for new extents

  module _ (c : Cluster) (s : ℕ) (cell : ServerCell) (st : ServerState) (at : entry_at c.servers s ≡ Some cell) (is : cell.state ≡ Some st) where
    module _ (after : ServerState) (server : after.context.server ≡ st.context.server) (session : after.context.session ≡ st.context.session) (count : st.context.count ≤ after.context.count)
        (ranges : AreSameRanges st.ranges after.ranges) (splits : after.splits ≡ st.splits) where
      same_past : (n k : ℕ) → PastAt cell n k → PastAt (record cell { state = Some after }) n k
      same_past =
          past_step cell (record cell { state = Some after }) refl
          (λ z e. (st, is, (let same : after ≡ z = cc in subst (λ (y : ServerState). st.context.count ≤ y.context.count) same count)))

      same_runs : (z : ServerState) → Some after ≡ Some z → RunsAs c.servers s (record cell { state = Some after }) z
      same_runs z e = let same : after ≡ z = cc in subst (λ y. RunsAs c.servers s (record cell { state = Some after }) y) same (Ran cell st at is server session refl ranges splits)

      same_system_stands : {base : Bases generation} → (w : StreamSystem) (y z : ServerRun) → w ≡ c.stream_layer → IsStill y z → z.servers ≡ slice_set c.servers (s - 1) (record cell { state = Some after }) →
          Standing generation nodes target base c y → Standing generation nodes target base (record c { stream_layer = w; servers = slice_set c.servers (s - 1) (record cell { state = Some after }) }) z
      same_system_stands w y z same still cells x = one_stands c s cell (record cell { state = Some after }) at same_past same_runs w y z same still cells x

    abbrev picked_servers : Nodes → List ServerCell
    picked_servers pick = slice_set c.servers (s - 1) (record cell { state = Some (record st { context = record st.context { pick = pick } }) })

    -- other nodes for new extents
    pub picks_stand : {base : Bases generation} → (pick : Nodes) (y : ServerRun) → Standing generation nodes target base c y → Standing generation nodes target base (record c { servers = picked_servers pick }) (record y { servers = picked_servers pick })
    picks_stand pick y x =
        same_system_stands (record st { context = record st.context { pick = pick } }) refl refl (omega arith) (same_ranges st.ranges) refl c.stream_layer y (record y { servers = picked_servers pick }) refl
        (still_here y (picked_servers pick)) refl x

    -- a rule that sends and shows nothing
    pub quiet_stands : {base : Bases generation} → (o : ServerOutcome) → IsQuiet st o → (y : ServerRun) → Standing generation nodes target base c y → Standing generation nodes target base (rule_done c s cell o) (run_done c y s cell Rests o)
    quiet_stands o q y x =
        same_system_stands o.after q.server q.session q.count q.ranges q.splits (with_told c.stream_layer o.packets o.notes) y (run_done c y s cell Rests o)
        (ap (λ ps. with_told c.stream_layer ps o.notes) q.packets ∙ ap (λ ns. with_told c.stream_layer [] ns) q.notes ∙ told_nothing c.stream_layer)
        (still_done y (slice_set c.servers (s - 1) (cell_performs cell o).cell) o.packets o.notes q.notes) refl x

    pub renew_stands : {base : Bases generation} → (range g until : ℕ) (y : ServerRun) → Standing generation nodes target base c y →
        Standing generation nodes target base (rule_done c s cell (renew_rule st range g until (range_of st.ranges range))) (run_done c y s cell Rests (renew_rule st range g until (range_of st.ranges range)))
    renew_stands range g until y x = quiet_stands (renew_rule st range g until (range_of st.ranges range)) (renew_quiet st range g until) y x

  -- ---- packets that leave streams as they are

  module _ {base : Bases generation} (c : Cluster) (y : ServerRun) (x : Standing generation nodes target base c y) (ps : List Packet) (are : AreSaid c.stream_layer ps)
      (none_asked : (server : ℕ) (to : ActorId) (body : Body) → Contains ps (packet (Server server) to body) → (q : ReqNo) → used_number body ≡ Some q → ⊥)
      (words : (to : ActorId) (body : Body) → Contains ps (packet Map to body) → IsWord c.stream_layer body) (notes : List Note)
      (changes : AreChanges notes) where
    abbrev w : StreamSystem
    w = here generation nodes target x.moves

    told : Further generation nodes target x.moves (told_by_map w ps notes) ps
    told = told_further generation nodes target x.moves ps notes (said_sent c.stream_layer ps are) changes

    abbrev later : List Move
    later = x.moves ++ told.after

    same_catalog : (here generation nodes target later).catalog ≡ w.catalog
    same_catalog = ap (λ (z : StreamSystem). z.catalog) told.leads

    all_notes : (note : Note) → Contains w.notes note → Contains (here generation nodes target later).notes note
    all_notes note there = subst (λ (z : StreamSystem). Contains z.notes note) (sym told.leads) (Contains-append_left w.notes notes note there)

    all_plain : (name : StreamName) → IsThere w name → (m : Whole Group generation) (sent : List Sent) (packets : List Packet) → AreSaid c.stream_layer packets → AllAskedOf generation nodes target name w m sent packets
    all_plain name there m sent [] each = tt
    all_plain name there m sent (p ∷ packets) each = (said_plain generation c.stream_layer w p each.0 name there m.state sent, all_plain name there m sent packets each.1)

    -- no server asks for anything
    asks_others : (name : StreamName) → AsksOthers name w (here generation nodes target later)
    asks_others name server to body there =
        elim (Contains-append_cases w.post ps (packet (Server server) to body) (subst (λ (z : StreamSystem). Contains z.post (packet (Server server) to body)) told.leads there)) [
          | inl old ↦ inl old
          | inr now ↦ inr (said_alone c.stream_layer name (packet (Server server) to body) (said_of c.stream_layer ps are (packet (Server server) to body) now))
        ]

    one_beside : (name : StreamName) (done : List (machine.Move Group generation)) (sent : List Sent) → IsBeside generation nodes target x.moves name done sent → IsBeside generation nodes target later name done sent
    one_beside name done sent (inl stream) = inl (record {
      there = catalog_stays w (here generation nodes target later) same_catalog name stream.there;
      below = told.below name (after_all Group generation done) sent (all_plain name stream.there (after_all Group generation done) sent ps are) stream.below;
    })
    one_beside name done sent (inr to_be) =
        inr (record { absent = absent_on name w (here generation nodes target later) same_catalog (asks_others name) to_be.absent; none_done = to_be.none_done; none_sent = to_be.none_sent })

    still_beside : (range : ℕ) → AreBeside generation nodes target later range (x.machines range)
    still_beside range =
        let old : AreBeside generation nodes target x.moves range (x.machines range) = x.beside range in
        record {
          m_are = old.m_are;
          l_are = old.l_are;
          apart = old.apart;
          metadata = λ counted. one_beside (metadata_of range) (x.machines range).m (x.machines range).m_sent (old.metadata counted);
          log = λ counted. one_beside (log_of range) (x.machines range).l (x.machines range).l_sent (old.log counted);
        }

    still_numbers : AreNumbersPast c.servers (c.stream_layer.post ++ ps)
    still_numbers server to body there q number = elim (Contains-append_cases c.stream_layer.post ps (packet (Server server) to body) there) [
      | inl old ↦ x.numbers server to body old q number
      | inr now ↦ absurd (none_asked server to body now q number)
    ]

    still_from_map : (other : ActorId) (body : Body) → Contains (c.stream_layer.post ++ ps) (packet Map other body) → IsWord c.stream_layer body
    still_from_map other body there = elim (Contains-append_cases c.stream_layer.post ps (packet Map other body) there) [
      | inl old ↦ x.from_map other body old
      | inr now ↦ words other body now
    ]

    still_lists : AreOfSplits (told_by_map c.stream_layer ps notes)
    still_lists server to list q there m among =
        split_stays c.stream_layer (told_by_map c.stream_layer ps notes) (λ n stands. stands) list (elim (Contains-append_cases c.stream_layer.post ps asks there) [
          | inl old ↦ x.lists server to list q old m among
          | inr now ↦ said_list c.stream_layer asks (said_of c.stream_layer ps are asks now) list q refl
        ])
      where
        asks : Packet
        asks = packet (Server server) to (bodies.Stream (MultiModify list q))

    still_out : AllOut generation c.servers x.machines (c.stream_layer.post ++ ps)
    still_out s range by q waits =
        let old : Out generation c.servers x.machines c.stream_layer.post s range by q = x.out s range by q waits in
        record {
          past = old.past;
          none = old.none;
          asked = λ server to body at number. elim (Contains-append_cases c.stream_layer.post ps (packet (Server server) to body) at) [
            | inl earlier ↦ old.asked server to body earlier number
            | inr now ↦ absurd (none_asked server to body now q number)
          ];
          alone = old.alone;
        }

    still_stands : (s : ℕ) (cell : ServerCell) (st : ServerState) → entry_at c.servers s ≡ Some cell → cell.state ≡ Some st → Runs generation nodes target later x.machines (y.history s) (x.incarnation s) s cell st
    still_stands s cell st at up =
        let before : Runs generation nodes target x.moves x.machines (y.history s) (x.incarnation s) s cell st = x.servers s cell st at up in
        record {
          server = before.server;
          session = before.session;
          ascending = before.ascending;
          held = λ range r found.
              held_on generation nodes target range x.moves later (x.machines range) (x.machines range) (y.history s range) (y.history s range) refl (x.incarnation s range) (x.incarnation s range) refl (split_of st.splits range) r
              (λ j mine h.
              holds_on generation nodes target range x.moves later (x.machines range) (x.machines range) (onward_same generation nodes target range x.moves later (x.machines range) same_catalog all_notes) j (refl, refl)
              (y.history s range) (split_of st.splits range) r (λ q waits. (x.out s range OfRows q (r, record { cell = cell; state = st; there = at; up = up; found = found }, waits)).none tt range)
              (λ job is q sealing. (x.out s range OfSeal q (job, record { cell = cell; state = st; there = at; up = up; found = is }, sealing)).none tt range) h) (before.held range r found);
          splits_ascending = before.splits_ascending;
          split_held = before.split_held;
        }

    -- nor for more extents
    still_extends : ExtendNoBlobs (c.stream_layer.post ++ ps)
    still_extends server to stream fence last pick q there = elim (Contains-append_cases c.stream_layer.post ps (packet (Server server) to (bodies.Stream (Extend stream fence last pick q))) there) [
      | inl old ↦ x.extends server to stream fence last pick q old
      | inr now ↦ absurd (none_asked server to (bodies.Stream (Extend stream fence last pick q)) now q refl)
    ]

    still_there : (name : StreamName) → IsThere (here generation nodes target later) name → IsThere w name
    still_there name there = catalog_stays (here generation nodes target later) w (sym same_catalog) name there

    still_keys : (s : ℕ) (r : RangeState) (job : SplitJob) (i : ℕ) → KeysStand generation nodes target x.moves x.machines (y.history s) i r job job.phase →
        KeysStand generation nodes target later x.machines (y.history s) i r job job.phase
    still_keys s r job i stand =
        keys_on generation nodes target x.moves later x.machines x.machines (y.history s) (y.history s) i job r r (same_keys r) job.phase (λ making side there. still_there (metadata_of (side_range job side)) there)
        (λ making side there.
        record {
          metadata = wider_same generation nodes target (metadata_of (side_range job side)) w (here generation nodes target later) (after_all Group generation (x.machines (side_range job side)).m).state
              (x.machines (side_range job side)).m_sent same_catalog;
          steady = (refl, refl);
          append = refl;
          streams = streams_stay w (here generation nodes target later) (catalog_stays w (here generation nodes target later) same_catalog) (side_range job side);
        }) stand

    abbrev more : List Note
    more = c.stream_layer.notes ++ notes

    kept_notes : (note : Note) → Contains c.stream_layer.notes note → Contains more note
    kept_notes note there = Contains-append_left c.stream_layer.notes notes note there

    -- they are sent, and splits and merges are shown
    pub says_stands : Standing generation nodes target base (record c { stream_layer = told_by_map c.stream_layer ps notes }) y
    says_stands = record {
      moves = later;
      leads = told.leads ∙ ap (λ z. told_by_map z ps notes) x.leads;
      machines = x.machines;
      beside = still_beside;
      grows = x.grows;
      distinct = x.distinct;
      past = x.past;
      numbers = still_numbers;
      out = still_out;
      from_map = still_from_map;
      counted = x.counted;
      have = x.have;
      first = x.first;
      there = x.there;
      lists = still_lists;
      extends = still_extends;
      incarnation = x.incarnation;
      bound = x.bound;
      own = x.own;
      below = x.below;
      idle = x.idle;
      cells = x.cells;
      servers = still_stands;
      aside = x.aside;
      keys = λ s range r job held split firm i is. still_keys s r job i (x.keys s range r job held split firm i is);
      stories = x.stories;
      says = x.says;
      observed = λ range. observed_on c.stream_layer.notes more kept_notes (y.shown range) (x.observed range);
      acked = λ range. observed_on c.stream_layer.notes more kept_notes (y.answered range) (x.acked range);
      told = λ texts all.
          subst (λ ns. AreSeenAs texts y.notes ns) (sym (changes_served c.stream_layer.notes notes changes)) (x.told texts (tells_fewer texts c.stream_layer.notes more kept_notes all));
    }

  -- what the map tells and shows
  pub map_says_stands : {base : Bases generation} → (c : Cluster) (y : ServerRun) → Standing generation nodes target base c y → (ps : List Packet) → AreWords c.stream_layer ps → (notes : List Note) → AreChanges notes →
      Standing generation nodes target base (record c { stream_layer = told_by_map c.stream_layer ps notes }) y
  map_says_stands c y x ps words notes changes = says_stands c y x ps (words_said c.stream_layer ps words)
      (λ server to body there q number. (let z : Server server ≡ Map = (words_of c.stream_layer ps words (packet (Server server) to body) there).0 in absurd cc)) (λ to body there. (words_of c.stream_layer ps words (packet Map to body) there).1) notes changes

  -- a server refuses what a user asks
  pub refuses_stands : {base : Bases generation} → (c : Cluster) (y : ServerRun) → Standing generation nodes target base c y → (d : ServerContext) (to : ActorId) (q : ReqNo) (why : Refusal) →
      Standing generation nodes target base (record c { stream_layer = sent_more c.stream_layer (refuses d to q why ∷ []) }) y
  refuses_stands {base} c y x d to q why =
      subst (λ ns. Standing generation nodes target base (record c { stream_layer = record c.stream_layer { post = c.stream_layer.post ++ refuses d to q why ∷ []; notes = ns } }) y) (append-nil c.stream_layer.notes)
      (says_stands c y x (refuses d to q why ∷ []) (inl refl, tt) none_used (λ receiver body there. absurd (not_map receiver body there)) [] tt)
    where
      not_map : (receiver : ActorId) (body : Body) → Contains (refuses d to q why ∷ []) (packet Map receiver body) → ⊥
      not_map receiver body (zero, less, is) = let z : Server d.server ≡ Map = ap (λ (p : Packet). p.from) is in cc
      not_map receiver body (suc k, less, is) = omega (arith, less)

      none_used : (server : ℕ) (receiver : ActorId) (body : Body) → Contains (refuses d to q why ∷ []) (packet (Server server) receiver body) → (v : ReqNo) → used_number body ≡ Some v → ⊥
      none_used server receiver body (zero, less, is) v number = let z : None ≡ Some v = ap (λ (p : Packet). used_number p.body) is ∙ number in cc
      none_used server receiver body (suc k, less, is) v number = omega (arith, less)
