-- A cluster stands on whatever a server takes, and where it is told to give up.
use Rattle.std.proofs.Common.{◌≡◌, ◌⊎◌, ℕ, ◌-◌, ◌≤◌, Bool, true, false, not, ◌||◌, List, [], ◌∷◌, ◌++◌, Option, Some, None, Contains, slice_set, is_some, refl, sym, ap, ◌∙◌, subst, inl, inr, arith, if◌then◌else◌, ◌==◌, ◌&&◌}
use Rattle.std.specs.BTreeMap.{insert_entry}
use Rattle.std.specs.Ordering.{nat_cmp}
use Rattle.block_types.specs.declared.record.Nodes.{Nodes}
use Rattle.wire.specs.declared.actor.ActorId.{ActorId}
use Rattle.wire.specs.declared.actor.ActorId.TheVariants.{Map, Server}
use Rattle.wire.specs.declared.actor.ActorId.TheVariants as actors
use Rattle.wire.specs.declared.actor.ReqNo.{ReqNo}
use Rattle.wire.specs.declared.body.Body.{Body}
use Rattle.wire.specs.declared.body.Body.TheVariants as bodies
use Rattle.wire.specs.declared.body.MapBody.{MapBody}
use Rattle.wire.specs.declared.body.MapBody.TheVariants as maps
use Rattle.wire.specs.declared.body.StreamBody.TheVariants as streams
use Rattle.wire.specs.declared.body.TableBody.{TableBody}
use Rattle.wire.specs.declared.body.TableBody.TheVariants as tables
use Rattle.wire.specs.declared.packet.Packet.{Packet}
use Rattle.wire.specs.declared.streams.Modify.{Modify}
use Rattle.wire.specs.declared.refusal.Refusal.TheVariants as refusals
use Rattle.wire.specs.declared.streams.StreamKind.TheVariants as kinds
use Rattle.wire.specs.declared.streams.StreamName.{StreamName}
use Rattle.replica.specs.Groups.{Group}
use Rattle.wire.specs.declared.transaction.Change.{Change}
use Rattle.client.specs.Load.{open_packet}
use Rattle.model_streams.specs.Maps.{entry_at}
use Rattle.model_streams.specs.Outcome.{packet}
use Rattle.model_streams.specs.StreamSystem.{StreamSystem, sent_more}
use Rattle.model_histories.specs.ServerTurns.{after_all}
use Rattle.model_partition.specs.Answering.{answered_number, is_answerer, answer_rule, give_up_all}
use Rattle.model_partition.specs.Servers.{ServerCell, ServersOutcome, cell_takes, cell_rests, cell_performs, cell_gives_up, cell_given_up, cell_checkpoints, cell_splits, at_server, server_takes, server_gives_up, server_checkpoints, server_splits}
use Rattle.model_partition.specs.Checkpoints.{checkpoint_fault, checkpoint_rule}
use Rattle.wire.specs.declared.refusal.Refusal.{Refusal}
use Rattle.wire.specs.declared.actor.ReqNo.TheVariants as requests
use Rattle.client.specs.Client.{awaits}
use Rattle.model_partition.specs.Cluster.{Cluster, servers_perform}
use Rattle.model_partition.specs.declared.split_job.Side.{Side as SplitSide}
use Rattle.model_partition.specs.declared.split_job.SplitJob.{SplitJob}
use Rattle.model_partition.specs.Getting.{get_rule}
use Rattle.model_partition.specs.Range.{RangeState, RangeOutcome, request, refuses, waiting_out, is_serving, is_paused}
use Rattle.model_partition.specs.Splits.{SplitStep, side_range, phase_awaits, split_fault, split_rule}
use Rattle.model_partition.specs.Map.{is_split_key}
use Rattle.model_streams.proofs.Tests.{none_met}
use Rattle.laws_ranges.proofs.Stages.{serving_only}
use Rattle.model_partition.specs.Server.{ServerState, ServerOutcome, range_of, split_of, split_awaiting, counted, stepped_with, stepped_splitting, given_up_with, split_answer_in, split_answer, awaiting, rests, sends_one, merge_with, stepped, stepped_alone, new_range, users_of, is_newer, assigned, assign_rule, told_by_map, map_rule, transacts_in, gets_in, table_rule, answer_in, answer_of, numbered_rule, taken_rule, has_numbers, server_rule, given_up, gives_up, picked, give_up_rule, busy_if, has_jobs, checkpoint_refused, checkpoints_in, server_checkpoint, split_refused, splits_in, split_stepped, server_split}
use Rattle.model_histories.specs.ServerRun.{ServerRun, RangeEffect, Begins, Does, Rests, Takes, GivesUp, Checkpoints, Splits, first_history, with_effect, with_outcome, after_event, told_effect, map_effect, transact_effect, follow_effect, get_effect, table_effect, answer_effect, split_effect_in, split_effect, awaited_effect, numbered_effect, packet_effect, server_effect, cell_effect}
use Rattle.model_partition.specs.Serving.{transact_rule}
use Rattle.model_histories.specs.StreamActions.{StreamAction, transact_actions, answer_actions, split_stood, followed_actions}
use Rattle.laws_stream_machine.specs.Refinement.{Sent, asked_number}
use Rattle.laws_ranges.specs.Seen.{BeganAt}
use Rattle.laws_ranges.specs.Serves.{Stand, Side, log_of, after_turns, IsPastRows, FollowsIf, IsSentBy, AreAsked}
use Rattle.laws_ranges.specs.SplitJobs.{FollowsBothIf, AskedOfSplit, silent}
use Rattle.laws_ranges.proofs.SplitSteps.{asked_widely}
use Rattle.laws_ranges.proofs.ServedRules.{asked_of_both}
use Rattle.laws_ranges.proofs.LogRules.{refused_plain}
use Rattle.laws_ranges.proofs.BothStreamsAtOnce.{taken}
use Rattle.laws_server_runs.specs.Places.{AllAbove, AreAscending}
use Rattle.laws_server_runs.specs.RunInvariant.{view_at}
use Rattle.laws_servers.specs.Sending.{AllFromRanges}
use Rattle.laws_servers.proofs.ClientPackets.{all_both, from_servers, may_send_all}
use Rattle.laws_servers.proofs.ServerSteps.{users_all}
use Rattle.laws_servers.proofs.RangeSteps.{transact_tidy, get_tidy, checkpoint_tidy, answer_shows, give_up_tidy}
use Rattle.laws_clusters.proofs.RangeSteps as going
use Rattle.laws_loads.proofs.Entries.{entry_set, set_twice}
use Rattle.laws_server_runs.proofs.Actions.{same_test}
use Rattle.laws_server_runs.proofs.StatesKept.{opened}
use Rattle.laws_map.specs.Naming.{IsAbove, IsRising}
use Rattle.laws_map.proofs.Rising.{awaits_itself}
use Rattle.laws_server_runs.proofs.Unmerged.{HasNoMerge, HaveNoMerges, stepped_unmerged, given_up_unmerged, assigned_unmerged, answer_unmerged, unawaited_merge, jobs_unmerged}
use Rattle.laws_clusters.proofs.UnsplitSteps.{transact_effect_alone, get_effect_alone, answer_effect_alone, stepped_alone_is, answer_alone, given_up_alone}
use Rattle.laws_server_runs.proofs.RunSteps.{not_refused}
use Rattle.laws_server_runs.proofs.RangeLists.{inserted_here, inserted_other, ascending_inserted, dropped_here, dropped_other, left_here, left_other, ascending_left}
use Rattle.laws_clusters.proofs.OtherEvents.{told_nothing, refuses_stands, renew_stands, rule_done, run_done, rests_quiet, quiet_stands, picks_stand, still_runs, StandsAfter, nobody_stands, cell_stands}
use Rattle.laws_clusters.proofs.RangeRules.{Done, Acted, turned, done_alone, both, transact_done, get_done, give_up_done, checkpoint_done, answer_done, assigned_done}
use Rattle.laws_clusters.proofs.RangeActions.{SeesBytes}
use Rattle.laws_clusters.proofs.Senders.{none_from_map}
use Rattle.laws_clusters.proofs.MapWords.{IsFounded, IsWord, IsMapWord}
use Rattle.laws_clusters.proofs.Invariant.{HeldAt, SplitAt, IsMaking, AreAside, IsFirm, Machines, here, m_side, l_side, Holds, IsHeld, Runs, Standing, OfRows, Out, Bases}
use Rattle.laws_clusters.proofs.ServerNumbers as numbers
use Rattle.laws_clusters.proofs.ServerRules as steps
use Rattle.laws_clusters.proofs.SplitServers as splits
use Rattle.laws_clusters.proofs.SplitServers.{SplitsOwed, LeavingOwed}
use Rattle.laws_clusters.proofs.ServerRules.{IsLaid, AreLaid, laid_behind}
use Rattle.laws_clusters.proofs.StepShapes.{AreLeft, RowsWaited, StepWaits, own_incarnations}
use Rattle.laws_clusters.proofs.ClientJobs.{AsksBy, ReadsNothing}
use Rattle.laws_clusters.proofs.RowPurposes.{rows_unread}
use Rattle.laws_clusters.proofs.RowRules.{AllIn, RowsFrom, LeavesRows, RowsIf, in_both, users_in, transact_leaves, get_leaves, checkpoint_leaves, answer_leaves, give_up_leaves}
use Rattle.laws_clusters.proofs.RowSteps.{IsNew}
use Rattle.laws_clusters.proofs.Elsewhere.{builds_own}
use Rattle.laws_clusters.proofs.RangeStreams.{IsOfSplit}
use Rattle.laws_clusters.proofs.RequestNumbers.{used_number, asked_used}
use Rattle.laws_clusters.proofs.SplitRequests.{sent_in, clients_send, in_used, split_joined}

-- the step of a range that is not split
abbrev alone_step : RangeOutcome → SplitStep
alone_step o = record { range = o.after; job = None; count = o.count; packets = o.packets }

-- splits in the order of their ranges
all_above : (k : ℕ) (js : List (ℕ × SplitJob)) → AllAbove k js → IsAbove k js
all_above k [] a = tt
all_above k (x ∷ js) a = (a.0, all_above k js a.1)

rising : (js : List (ℕ × SplitJob)) → AreAscending js → IsRising js
rising [] a = tt
rising (x ∷ js) a = (all_above x.0 js a.0, rising js a.1)

-- ---- one range

-- a range begins a load, and what was read before counts no more
begun_apart : (y : ServerRun) (s range t j : ℕ) → ((t == s) && (j == range)) ≡ false → (with_effect s y (Begins range)).history t j ≡ y.history t j
begun_apart y s range t j test = ap (λ b. if b then first_history else y.history t j) test

begun_here : (y : ServerRun) (s range : ℕ) → (with_effect s y (Begins range)).history s range ≡ first_history
begun_here y s range = ap (λ b. if b && (range == range) then first_history else y.history s range) (same_test s) ∙ ap (λ b. if b then first_history else y.history s range) (same_test range)

module _ (generation : ℕ → ℕ) (plenty : (g n : ℕ) → (i : ℕ) × (n ≤ i) × (generation i ≡ g)) (nodes target : ℕ) where
  module _ {base : Bases generation} (c : Cluster) (y : ServerRun) (x : Standing generation nodes target base c y) (s : ℕ) (cell : ServerCell) (st : ServerState) (at : entry_at c.servers s ≡ Some cell) (is : cell.state ≡ Some st) (whole : HasNoMerge st) where
    abbrev w : StreamSystem
    w = here generation nodes target x.moves

    -- a rule of the server, which does this with streams, leaves a cluster that stands
    abbrev Good : RangeEffect → ServerOutcome → Type 0
    Good effect o = AreLaid (run_done c y s cell effect o) o.notes → Standing generation nodes target base (rule_done c s cell o) (run_done c y s cell effect o)

    run : Runs generation nodes target x.moves x.machines (y.history s) (x.incarnation s) s cell st
    run = numbers.run_of generation nodes target c y x s cell st at is

    rests_good : Good Rests (rests st)
    rests_good = λ laid. quiet_stands generation nodes target c s cell st at is (rests st) (rests_quiet st) y x

    -- a user is refused
    refuse_good : (to : ActorId) (q : ReqNo) → Good Rests (sends_one st (refuses st.context to q refusals.NotOwner))
    refuse_good to q =
        let p : Packet = refuses st.context to q refusals.NotOwner in
        let d : Cluster = record c { stream_layer = sent_more c.stream_layer (p ∷ []) } in
        let stands : Standing generation nodes target base d y = refuses_stands generation nodes target c y x st.context to q refusals.NotOwner in
        λ laid.
        subst (λ v. Standing generation nodes target base (record c { stream_layer = v; servers = slice_set c.servers (s - 1) (cell_performs cell (rests st)).cell }) (run_done c y s cell Rests (rests st)))
        (told_nothing d.stream_layer) (quiet_stands generation nodes target d s cell st at is (rests st) (rests_quiet st) y stands)

    seen_here : (range : ℕ) → SeesBytes w.notes (y.shown range) (y.answered range)
    seen_here range = subst (λ (z : StreamSystem). SeesBytes z.notes (y.shown range) (y.answered range)) (sym x.leads) (record { shown_there = x.observed range; answered_there = x.acked range })

    -- ---- a range of a number

    module _ (range : ℕ) (founded : IsFounded c.stream_layer range) where
      abbrev z : Machines generation
      z = x.machines range

      by : IsSentBy st.context st.context.count z.m_sent z.l_sent
      by = numbers.sent_by generation nodes target c y x s cell st at is range

      -- the run itself
      same_run : steps.IsNear s range y y
      same_run = record { history = λ t j apart. refl; story = λ name. refl; shown = λ j. refl; answered = λ j. refl; notes = refl }

      -- where the incarnation stands after a step
      abbrev m_then : (i : ℕ) (b : ServerRun) (t : SplitStep) (actions : List StreamAction) → Acted generation nodes target c y x range founded i st.context (view_at range b s) t actions → Side
      m_then i b t actions acted = going.m_after generation nodes target x.moves range z i st.context (silent t) (FollowsBothIf generation range w i t.job) acted.rule.step.goes

      abbrev l_then : (i : ℕ) (b : ServerRun) (t : SplitStep) (actions : List StreamAction) → Acted generation nodes target c y x range founded i st.context (view_at range b s) t actions → Side
      l_then i b t actions acted = going.l_after generation nodes target x.moves range z i st.context (silent t) (FollowsBothIf generation range w i t.job) acted.rule.step.goes

      -- a rule of the range asks to build nothing
      no_lists : (i : ℕ) (left : Option RangeState) (a b : Side) (ps : List Packet) → AskedOfSplit generation range w i left None a b ps → (server : ℕ) (to : ActorId) (list : List Modify) (q : ReqNo) →
          Contains ps (packet (Server server) to (bodies.Stream (streams.MultiModify list q))) → (m : Modify) → Contains list m → IsOfSplit c.stream_layer list
      no_lists i left a b ps asked server to list q now m among = elim (builds_own generation range w i a b left None ps asked (packet (Server server) to (bodies.Stream (streams.MultiModify list q))) now) [
        | inl none ↦ absurd (none m among)
        | inr never ↦ absurd never
      ]

      -- the range is none of the two of a split there
      abbrev IsNoSide : Type 0
      IsNoSide = (k : ℕ) (other : SplitJob) → SplitAt c.servers s k other → (k ≡ range → ⊥) → IsMaking other.phase → IsFirm generation base s k → (side : SplitSide) → side_range other side ≡ range → ⊥

      -- and leaves this
      done_good : IsNoSide → split_of st.splits range ≡ None → (i : ℕ) → ((t j : ℕ) → x.incarnation t j ≡ Some i → (t ≡ s) × (j ≡ range)) → BeganAt ((y.history s range).append kinds.Metadata) ((after_all Group generation z.m).phase i) →
          BeganAt ((y.history s range).append kinds.Log) ((after_all Group generation z.l).phase i) → (o : RangeOutcome) (actions : List StreamAction) →
          Done generation nodes target c y x range founded i st.context (view_at range y s) o actions → AllFromRanges o.packets → StepWaits st range (alone_step o) o.packets →
          (o.after ≡ None → (p : Packet) → Contains o.packets p → (q : ReqNo) → used_number p.body ≡ Some q → asked_number p.body ≡ Some q) →
          (after : ServerState) → after.context ≡ record st.context { count = o.count } → AreLeft st.ranges after.ranges range o.after → after.splits ≡ st.splits →
          Good (Does range (generation i) actions) (record { after = after; packets = o.packets; notes = o.notes })
      done_good aside unsplit i alone record_began began o actions k senders waits gone after context_is shape splits =
          let acted : Acted generation nodes target c y x range founded i st.context (view_at range y s) (alone_step o) actions = done_alone generation nodes target c y x range founded i st.context by (view_at range y s) o actions k in
          λ laid. steps.stepped generation nodes target c y x s cell st at is range founded i y same_run record_began began (alone_step o) o.notes actions (turned generation nodes target c y x range founded i st.context (view_at range y s) (alone_step o) actions acted) o.packets (may_send_all o.packets (from_servers o.packets senders)) waits acted.rule.step.asked (λ none. refl) gone
          (no_lists i o.after (m_then i y (alone_step o) actions acted) (l_then i y (alone_step o) actions acted) o.packets acted.rule.step.asked)
          (none_from_map o.packets (from_servers o.packets senders)) after context_is shape
          (record { ascending = subst (λ l. AreAscending l) (sym splits) run.splits_ascending; here = ap (λ l. split_of l range) splits ∙ unsplit; others = λ j apart. ap (λ l. split_of l j) splits })
          (own_incarnations x.incarnation x.bound s range i x.own x.below alone o.after) aside (λ next is_next later none. absurd (let e : None ≡ Some later = none in cc)) laid

      -- ---- it is taken

      fresh_alone : (i : ℕ) → x.bound ≤ i → (t j : ℕ) → x.incarnation t j ≡ Some i → (t ≡ s) × (j ≡ range)
      fresh_alone i free t j mine = absurd (let less = x.below t j i mine in omega (arith, less, free))

      -- an incarnation that has done nothing has begun no append
      fresh_recorded : (i event : ℕ) → x.bound ≤ i → BeganAt event ((after_all Group generation z.m).phase i)
      fresh_recorded i event free = subst (λ p. BeganAt event p) (sym (x.idle i free range).0) tt

      fresh_began : (i event : ℕ) → x.bound ≤ i → BeganAt event ((after_all Group generation z.l).phase i)
      fresh_began i event free = subst (λ p. BeganAt event p) (sym (x.idle i free range).1) tt

      module _ (known : Option RangeState) (until : ℕ) (i : ℕ) (free : x.bound ≤ i) where
        abbrev o : RangeOutcome
        o = taken generation range w i (m_side generation z i) (l_side generation z i) st.context by until

        abbrev begun : ServerRun
        begun = with_effect s y (Begins range)

        near : steps.IsNear s range y begun
        near = record { history = λ t j apart. begun_apart y s range t j apart; story = λ name. refl; shown = λ j. refl; answered = λ j. refl; notes = refl }

        k : Done generation nodes target c y x range founded i st.context (view_at range begun s) o []
        k = assigned_done generation nodes target c y x range founded i st.context by (view_at range begun s) (seen_here range) free (begun_here y s range) until

        users_plain : (name : StreamName) (m : Stand) (sent : List Sent) (a : Option RangeState) → AreAsked generation range w i name m sent (users_of st.context a)
        users_plain name m sent None = tt
        users_plain name m sent (Some r) = refused_plain generation range w i name m sent st.context (waiting_out r.out ++ r.queue) r.gets refusals.NotOwner

        abbrev next : RangeState
        next = new_range st.context range (generation i) until

        inserted : AreLeft st.ranges (insert_entry nat_cmp st.ranges range next) range (Some next)
        inserted = record {
          ascending = ascending_inserted st.ranges range next run.ascending;
          here = λ r found. sym (inserted_here st.ranges range next) ∙ found;
          there = λ r is. inserted_here st.ranges range next ∙ is;
          others = λ j apart. inserted_other st.ranges range next j apart;
        }

        abbrev begun_cell : ServerCell
        begun_cell = record cell { state = Some (opened st range (generation i) until) }

        -- what is taken is none of the two of a split there
        begun_aside : AreAside (slice_set c.servers (s - 1) begun_cell) → IsNoSide
        begun_aside aside k other split apart making firm side same =
            aside.unheld s k other (record { cell = begun_cell; state = opened st range (generation i) until; there = entry_set c.servers s cell begun_cell at; up = refl; found = dropped_other st.splits range k apart ∙ was }) making side next
            (record { cell = begun_cell; state = opened st range (generation i) until; there = entry_set c.servers s cell begun_cell at; up = refl; found = subst (λ j. range_of (opened st range (generation i) until).ranges j ≡ Some next) (sym same) (inserted.there next refl) })
          where
            was : split_of st.splits k ≡ Some other
            was =
                let cells : Some cell ≡ Some split.cell = sym at ∙ split.there in
                let cell_is : cell ≡ split.cell = cc in
                let states : Some st ≡ Some split.state = sym is ∙ ap (λ (z : ServerCell). z.state) cell_is ∙ split.up in
                let same : st ≡ split.state = cc in
                ap (λ (z : ServerState). split_of z.splits k) same ∙ split.found

        taken_good : Good (Begins range) (record { after = opened st range (generation i) until; packets = users_of st.context known ++ open_packet st.context.server range (generation i) (request st.context) ∷ []; notes = [] })
        taken_good =
            let acted : Acted generation nodes target c y x range founded i st.context (view_at range begun s) (alone_step o) [] = done_alone generation nodes target c y x range founded i st.context by (view_at range begun s) o [] k in
            let a : Side = m_then i begun (alone_step o) [] acted in
            let b : Side = l_then i begun (alone_step o) [] acted in
            let opening : Packet = open_packet st.context.server range (generation i) (request st.context) in
            let ps : List Packet = users_of st.context known ++ o.packets in
            let waits : StepWaits st range (alone_step o) ps =
            (λ n is_next. record {
              rows = λ q own. absurd (let next_is : Some next ≡ Some n = is_next in let same : next ≡ n = cc in let none : false ≡ true = ap (λ (u : RangeState). awaits u.rows.job q) same ∙ own in cc);
              seal = λ later has. absurd cc;
              call = λ later has. absurd cc;
              steady = inr (λ later has. absurd cc);
              sent = clients_send n None ps (in_both n (users_of st.context known) (opening ∷ []) (users_in st.context n known) (inl tt, tt));
            }) in
            let senders : AllFromRanges ps = all_both (users_of st.context known) o.packets (users_all st.context known) ((st.context.server, refl, inl refl), tt) in
            let asked : AskedOfSplit generation range w i o.after None a b ps =
            split_joined generation range i w o.after None a b (users_of st.context known) o.packets
            (asked_widely generation range w i o.after None a b (users_of st.context known)
            (asked_of_both generation range w i (both generation nodes target c y x range founded) o.after a b acted.rule.step.goes.sent_by.apart (users_of st.context known) (users_plain (log_of range) b.stand b.sent known))) acted.rule.step.asked in
            λ laid. steps.stepped generation nodes target c y x s cell st at is range founded i begun near (fresh_recorded i ((begun.history s range).append kinds.Metadata) free) (fresh_began i ((begun.history s range).append kinds.Log) free) (alone_step o) [] [] (turned generation nodes target c y x range founded i st.context (view_at range begun s) (alone_step o) [] acted)
            ps (may_send_all ps (from_servers ps senders)) waits asked (λ none. refl) (λ none. absurd (let never : Some next ≡ None = none in cc)) (no_lists i o.after a b ps asked)
            (none_from_map ps (from_servers ps senders))
            (opened st range (generation i) until) refl inserted
            (record { ascending = ascending_left st.splits range None run.splits_ascending; here = dropped_here st.splits range run.splits_ascending; others = λ j apart. dropped_other st.splits range j apart })
            (own_incarnations x.incarnation x.bound s range i x.own x.below (fresh_alone i free) (Some next)) (begun_aside laid.aside) (λ n is_next later none. absurd (let e : None ≡ Some later = none in cc)) laid

      -- the server begins the load, under this generation, and is left so
      abbrev loads : Option RangeState → ServerState → ℕ → ServerOutcome
      loads known after n = record { after = after; packets = users_of st.context known ++ open_packet st.context.server range n (request st.context) ∷ []; notes = [] }

      assign_good : (known : Option RangeState) (g until : ℕ) → Good (if is_newer g known then Begins range else Rests) (assign_rule st range g until known)
      assign_good known g until = go (is_newer g known)
        where
          fresh : (i : ℕ) × (x.bound ≤ i) × (generation i ≡ g)
          fresh = plenty g x.bound

          go : (b : Bool) → Good (if b then Begins range else Rests) (if b then loads known (assigned (opened st range g until) (merge_with st.merges range)) g else rests st)
          go true =
              subst (λ z. Good (Begins range) (loads known z g)) (sym (assigned_unmerged st whole (opened st range g until) range))
              (subst (λ n. Good (Begins range) (loads known (opened st range n until) n)) fresh.2 (taken_good known until fresh.0 fresh.1))
          go false = rests_good

    -- ---- a range that the server has

    module _ (range : ℕ) (r : RangeState) (found : range_of st.ranges range ≡ Some r) (unsplit : split_of st.splits range ≡ None) where
      held : IsHeld generation nodes target x.moves range (x.machines range) (y.history s range) (x.incarnation s range) None r
      held = subst (λ job. IsHeld generation nodes target x.moves range (x.machines range) (y.history s range) (x.incarnation s range) job r) unsplit (run.held range r found)

      abbrev i : ℕ
      i = held.incarnation

      h : Holds generation nodes target x.moves range (x.machines range) (y.history s range) i None r
      h = held.holds

      alone : (t j : ℕ) → x.incarnation t j ≡ Some i → (t ≡ s) × (j ≡ range)
      alone t j e = x.own t s j range i e held.is

      held_here : HeldAt c.servers s range r
      held_here = record { cell = cell; state = st; there = at; up = is; found = found }

      founded_held : IsFounded c.stream_layer range
      founded_held = (held.counted, x.there s range r held_here)

      -- what its row data waits for
      out : (q : ReqNo) → awaits r.rows.job q ≡ true → Out generation c.servers x.machines c.stream_layer.post s range OfRows q
      out q waits = x.out s range OfRows q (r, held_here, waits)

      past : IsPastRows st.context r
      past n from waits = numbers.not_used generation nodes target c y x s cell st at is n from (out (requests.Server st.context.server st.context.session n) waits).past

      rows_asked : (q : ReqNo) → awaits r.rows.job q ≡ true → (server : ℕ) (to : ActorId) (b : Body) → Contains w.post (packet (Server server) to b) → asked_number b ≡ Some q → AsksBy r.rows b
      rows_asked q waits server to b there number = (out q waits).asked server to b (subst (λ (z : StreamSystem). Contains z.post (packet (Server server) to b)) x.leads there) (asked_used b q number) r held_here

      unread : ReadsNothing r.rows.job
      unread = rows_unread range w (x.machines range).m_sent (x.machines range).l_sent r.rows.job h.follows.rows.job

      -- what a rule leaves of it
      rows_after : (o : RangeOutcome) (actions : List StreamAction) → Done generation nodes target c y x range founded_held i st.context (view_at range y s) o actions → LeavesRows st.context r.rows o → StepWaits st range (alone_step o) o.packets
      rows_after o actions k left next is_next =
          let have : RowsIf st.context r.rows o.count o.packets (Some next) = subst (λ a. RowsIf st.context r.rows o.count o.packets a) is_next left in
          let after : FollowsIf generation range w i (Some next) (record { stand = after_turns generation i (m_side generation (x.machines range) i).stand k.rule.goes.metadata_turns; sent = k.rule.goes.metadata_sent }) (record { stand = after_turns generation i (l_side generation (x.machines range) i).stand k.rule.goes.log_turns; sent = k.rule.goes.log_sent }) =
          subst (λ a. FollowsIf generation range w i a (record { stand = after_turns generation i (m_side generation (x.machines range) i).stand k.rule.goes.metadata_turns; sent = k.rule.goes.metadata_sent }) (record { stand = after_turns generation i (l_side generation (x.machines range) i).stand k.rule.goes.log_turns; sent = k.rule.goes.log_sent })) is_next k.rule.goes.then in
          record {
            rows = from next have.0 (after.rows.stream ∙ sym h.follows.rows.stream);
            seal = λ later has. absurd cc;
            call = λ later has. absurd cc;
            steady = inr (λ later has. absurd cc);
            sent = clients_send next None o.packets have.1;
          }
        where
          from : (next : RangeState) → RowsFrom st.context r.rows o.count next.rows → next.rows.stream ≡ r.rows.stream → (q : ReqNo) → awaits next.rows.job q ≡ true → RowsWaited st range next q ⊎ IsNew st.context o.count q
          from next (inl (inl idle)) stream q waits = absurd (let z : false ≡ true = sym (ap (λ j. awaits j q) idle) ∙ waits in cc)
          from next (inl (inr same)) stream q waits = inl (r, found, record { job = same.0; group = same.1; stream = stream })
          from next (inr fresh) stream q waits = inr (fresh q waits)

      none_side : (k : ℕ) (other : SplitJob) → SplitAt c.servers s k other → (k ≡ range → ⊥) → IsMaking other.phase → IsFirm generation base s k → (side : SplitSide) → side_range other side ≡ range → ⊥
      none_side k other split apart making firm side same = x.aside.unheld s k other split making side r (subst (λ j. HeldAt c.servers s j r) (sym same) held_here)

      -- a range that is dropped tells its users alone
      gone_asks : (o : RangeOutcome) → LeavesRows st.context r.rows o → o.after ≡ None → (p : Packet) → Contains o.packets p → (q : ReqNo) → used_number p.body ≡ Some q → asked_number p.body ≡ Some q
      gone_asks o left gone p there q number =
          let all : (n : RangeState) → AllIn n o.packets = subst (λ a. RowsIf st.context r.rows o.count o.packets a) gone left in
          in_used r p.body q (sent_in r None o.packets (clients_send r None o.packets (all r)) p there) number

      alone_good : (o : RangeOutcome) (actions : List StreamAction) → Done generation nodes target c y x range founded_held i st.context (view_at range y s) o actions → AllFromRanges o.packets → LeavesRows st.context r.rows o →
          Good (Does range r.load.generation actions) (stepped_alone st range o)
      alone_good o actions k senders left =
          subst (λ g. Good (Does range g actions) (stepped_alone st range o)) (sym h.follows.under)
          (done_good range founded_held none_side unsplit i alone h.record_append h.append o actions k senders (rows_after o actions k left) (gone_asks o left) (stepped_alone st range o).after refl
          (record {
            ascending = ascending_left st.ranges range o.after run.ascending;
            here = λ u there. sym (left_here st.ranges range r o.after run.ascending found) ∙ there;
            there = λ u is_next. left_here st.ranges range r o.after run.ascending found ∙ is_next;
            others = λ j apart. left_other st.ranges range o.after j apart;
          }) refl)

      -- ---- one that is not being split

      step_good : (o : RangeOutcome) (actions : List StreamAction) → Done generation nodes target c y x range founded_held i st.context (view_at range y s) o actions → AllFromRanges o.packets → LeavesRows st.context r.rows o →
          Good (Does range r.load.generation actions) (stepped st range o)
      step_good o actions k senders left = subst (Good (Does range r.load.generation actions)) (sym (stepped_alone_is st range unsplit whole o)) (alone_good o actions k senders left)

      transact_held : (p : Packet) (changes : List Change) (q : ReqNo) → Good (transact_effect st p range changes q (Some r)) (transacts_in st p range changes q (Some r))
      transact_held p changes q =
          subst (λ e. Good e (transacts_in st p range changes q (Some r))) (sym (transact_effect_alone st range unsplit p changes q r))
          (step_good (transact_rule st.context r p.from q changes) (transact_actions r (transact_rule st.context r p.from q changes))
          (transact_done generation nodes target c y x range founded_held i st.context (by range founded_held) (view_at range y s) (seen_here range) r h.follows h.read past p.from q changes) (transact_tidy st.context r p.from q changes).0
          (transact_leaves st.context r p.from q changes))

      get_held : (p : Packet) (key : List ℕ) (q : ReqNo) → Good (get_effect st p range key q (Some r)) (gets_in st p range key q (Some r))
      get_held p key q =
          subst (λ e. Good e (gets_in st p range key q (Some r))) (sym (get_effect_alone st range unsplit p key q r))
          (step_good (get_rule st.context r p.from q key) [] (get_done generation nodes target c y x range founded_held i st.context (by range founded_held) (view_at range y s) (seen_here range) r h.follows h.read past p.from q key)
          (get_tidy st.context r p.from q key).0 (get_leaves st.context r p.from q key))

      answer_held : (p : Packet) → Contains w.post (packet p.from (Server s) p.body) → is_answerer p.from p.body ≡ true → (v : ReqNo) → answered_number p.body ≡ Some v →
          Good (answer_effect st p v range (Some r)) (answer_in st p v range (Some r))
      answer_held p there gives v number =
          subst (λ e. Good e (answer_in st p v range (Some r))) (sym (answer_effect_alone st range unsplit p v r))
          (subst (Good (Does range r.load.generation actions)) (sym (answer_alone st range unsplit whole p v r))
          (alone_good o actions
          (answer_done generation nodes target c y x range founded_held i st.context (by range founded_held) (view_at range y s) (seen_here range) r h.follows h.read past rows_asked p.from s p.body there gives v number) (answer_shows st.context r v p.body).0
          (answer_leaves st.context r v p.body)))
        where
          o : RangeOutcome
          o = answer_rule st.context r v p.body

          actions : List StreamAction
          actions = answer_actions st.context r v p.body o

      give_up_held : (o : ServerOutcome) → gives_up st range (Some r) ≡ Some o → Good Rests o
      give_up_held o e =
          let same : (if has_numbers st.context then given_up st range (merge_with st.merges range) (give_up_all st.context r) else rests st) ≡ o = cc in
          subst (Good Rests) same (go (has_numbers st.context))
        where
          go : (b : Bool) → Good Rests (if b then given_up st range (merge_with st.merges range) (give_up_all st.context r) else rests st)
          go true =
              subst (Good Rests) (sym (given_up_alone st range unsplit whole (give_up_all st.context r)))
              (alone_good (give_up_all st.context r) [] (give_up_done generation nodes target c y x range founded_held i st.context (by range founded_held) (view_at range y s) (seen_here range) r h.follows h.read past) (give_up_tidy st.context r).0
              (give_up_leaves st.context r unread))
          go false = rests_good

      -- a checkpoint begins
      checkpoint_held : (combine : Bool) → checkpoint_fault r ≡ None → Good Rests (checkpoints_in st range combine (Some r))
      checkpoint_held combine may = go (has_numbers st.context)
        where
          go : (b : Bool) → Good Rests (if b then stepped st range (checkpoint_rule st.context r combine) else rests st)
          go true =
              step_good (checkpoint_rule st.context r combine) [] (checkpoint_done generation nodes target c y x range founded_held i st.context (by range founded_held) (view_at range y s) (seen_here range) r h.follows h.read past combine may)
              (checkpoint_tidy st.context r combine).0 (checkpoint_leaves st.context r combine)
          go false = rests_good

    -- what is so of a range that is not split, and of one that is, is so of it
    by_split : (range : ℕ) {P : Type 0} → (split_of st.splits range ≡ None → P) → ((job : SplitJob) → split_of st.splits range ≡ Some job → P) → P
    by_split range {P} alone splitting = go (split_of st.splits range) refl
      where
        go : (j : Option SplitJob) → split_of st.splits range ≡ j → P
        go None e = alone e
        go (Some job) e = splitting job e

    checkpoint_good : (range : ℕ) (combine : Bool) → Good Rests (server_checkpoint st range combine)
    checkpoint_good range combine = by_range (range_of st.ranges range) refl
      where
        jobs : Bool
        jobs = has_jobs st range

        is_busy : (job : SplitJob) → split_of st.splits range ≡ Some job → has_jobs st range ≡ true
        is_busy job was = jobs_unmerged st whole range ∙ ap (λ j. is_some j) was

        busy_never : (fault : Option Refusal) → busy_if true fault ≡ None → ⊥
        busy_never None e = let z : Some refusals.Busy ≡ None = e in cc
        busy_never (Some why) e = let z : Some why ≡ None = e in cc

        by_fault : (r : RangeState) → range_of st.ranges range ≡ Some r → (fault : Option Refusal) → busy_if jobs (checkpoint_fault r) ≡ fault → Good Rests (if is_some fault then rests st else checkpoints_in st range combine (Some r))
        by_fault r found None may = by_split range (λ unsplit. checkpoint_held range r found unsplit combine (not_refused jobs (checkpoint_fault r) may)) (λ job was. absurd (busy_never (checkpoint_fault r) (sym (ap (λ b. busy_if b (checkpoint_fault r)) (is_busy job was)) ∙ may)))
        by_fault r found (Some why) refused = rests_good

        by_range : (known : Option RangeState) → range_of st.ranges range ≡ known → Good Rests (if is_some (checkpoint_refused jobs known) then rests st else checkpoints_in st range combine known)
        by_range None found = rests_good
        by_range (Some r) found = by_fault r found (busy_if jobs (checkpoint_fault r)) refl

    -- a split begins
    split_good : (range : ℕ) (key : List ℕ) → Good Rests (server_split st range key)
    split_good range key = by_range (range_of st.ranges range) refl
      where
        jobs : Bool
        jobs = has_jobs st range

        is_busy : (job : SplitJob) → split_of st.splits range ≡ Some job → has_jobs st range ≡ true
        is_busy job was = jobs_unmerged st whole range ∙ ap (λ j. is_some j) was

        or_first : (a b : Bool) → (a || b) ≡ false → a ≡ false
        or_first true b e = absurd cc
        or_first false b e = refl

        is_true : (b : Bool) → not b ≡ false → b ≡ true
        is_true true e = refl
        is_true false e = absurd cc

        begins : (r : RangeState) → range_of st.ranges range ≡ Some r → split_fault r jobs key ≡ None → (b : Bool) → Good Rests (if b then split_stepped st range (split_rule st.context r key) else rests st)
        begins r found may true =
            let unmet = none_met ((refusals.Loading, not (is_serving r.stage)) ∷ (refusals.Paused, is_paused r.pause) ∷ (refusals.Busy, jobs || (is_some r.control || is_some r.fixed)) ∷ (refusals.BadSplitKey, not (is_split_key r.said.keys key)) ∷ []) may in
            by_split range
            (λ unsplit. splits.begins_good generation nodes target c y x s cell st at is range r found unsplit (serving_only r.stage (is_true (is_serving r.stage) unmet.0)) key)
            (λ job was. absurd (let z : true ≡ false = sym (is_busy job was) ∙ or_first jobs (is_some r.control || is_some r.fixed) unmet.1.1.0 in cc))
        begins r found may false = rests_good

        by_fault : (r : RangeState) → range_of st.ranges range ≡ Some r → (fault : Option Refusal) → split_fault r jobs key ≡ fault → Good Rests (if is_some fault then rests st else splits_in st range key (Some r))
        by_fault r found None may = begins r found may (has_numbers st.context)
        by_fault r found (Some why) refused = rests_good

        by_range : (known : Option RangeState) → range_of st.ranges range ≡ known → Good Rests (if is_some (split_refused jobs key known) then rests st else splits_in st range key known)
        by_range None found = rests_good
        by_range (Some r) found = by_fault r found (split_fault r jobs key) refl

    -- where this is owed of ranges that are split
    module _ (owed : SplitsOwed generation nodes target c y x s cell st at is) where
      -- ---- a range that is split

      module _ (range : ℕ) (r : RangeState) (found : range_of st.ranges range ≡ Some r) (job : SplitJob) (was : split_of st.splits range ≡ Some job) where
        stepped_so : (o : RangeOutcome) → stepped st range o ≡ stepped_splitting st range job o o.after
        stepped_so o = stepped_unmerged st whole range o ∙ ap (λ j. stepped_with st range j o) was

        transact_split : (p : Packet) (changes : List Change) (q : ReqNo) → Good (transact_effect st p range changes q (Some r)) (transacts_in st p range changes q (Some r))
        transact_split p changes q =
            let o : RangeOutcome = transact_rule st.context r p.from q changes in
            subst (λ e. Good e (transacts_in st p range changes q (Some r))) (sym (ap (λ j. Does range r.load.generation (followed_actions (counted st.context o) j o.after ++ transact_actions r o)) was))
            (subst (Good (Does range r.load.generation (followed_actions (counted st.context o) (Some job) o.after ++ transact_actions r o))) (sym (stepped_so o))
            (splits.transact_good generation nodes target c y x s cell st at is range r found job was p.from q changes (owed.transacts range r found job was p.from q changes)))

        get_split : (p : Packet) (key : List ℕ) (q : ReqNo) → Good (get_effect st p range key q (Some r)) (gets_in st p range key q (Some r))
        get_split p key q =
            let o : RangeOutcome = get_rule st.context r p.from q key in
            subst (λ e. Good e (gets_in st p range key q (Some r))) (sym (ap (λ j. follow_effect st range r j o) was))
            (subst (Good (follow_effect st range r (Some job) o)) (sym (stepped_so o))
            (splits.get_good generation nodes target c y x s cell st at is range r found job was p.from q key (owed.gets range r found job was p.from q key)))

        answer_split : (p : Packet) → Contains c.stream_layer.post p → p.to ≡ Server s → Contains w.post (packet p.from (Server s) p.body) → is_answerer p.from p.body ≡ true → (v : ReqNo) → answered_number p.body ≡ Some v →
            Good (answer_effect st p v range (Some r)) (answer_in st p v range (Some r))
        answer_split p sent to there gives v number =
            let o : RangeOutcome = answer_rule st.context r v p.body in
            let actions : List StreamAction = answer_actions st.context r v p.body o in
            subst (λ e. Good e (answer_in st p v range (Some r))) (sym (ap (λ j. Does range r.load.generation (followed_actions (counted st.context o) j o.after ++ (split_stood st.context r j v p.body o ++ actions))) was))
            (subst (Good (Does range r.load.generation (followed_actions (counted st.context o) (Some job) o.after ++ (split_stood st.context r (Some job) v p.body o ++ actions)))) (sym (answer_unmerged st whole p v range r ∙ ap (λ j. stepped_with st range j o) was))
            (splits.answer_good generation nodes target c y x s cell st at is range r found job was p there gives v number (owed.answers range r found job was p sent to v number)))

        hear_split : (p : Packet) → Contains c.stream_layer.post p → p.to ≡ Server s → Contains w.post (packet p.from (Server s) p.body) → is_answerer p.from p.body ≡ true → (v : ReqNo) → answered_number p.body ≡ Some v → phase_awaits job.phase v ≡ true →
            Good (split_effect_in st p (Some r) (Some job)) (split_answer_in st p range (Some r) (Some job))
        hear_split p sent to there gives v number waits = splits.reply_good generation nodes target c y x s cell st at is range r found job was p there gives v number waits (owed.hears range r found job was p sent to gives v number waits)

      -- ---- what a server takes

      transact_good : (p : Packet) (range : ℕ) (changes : List Change) (q : ReqNo) (o : Option RangeState) → range_of st.ranges range ≡ o → Good (transact_effect st p range changes q o) (transacts_in st p range changes q o)
      transact_good p range changes q None found = refuse_good p.from q
      transact_good p range changes q (Some r) found = by_split range (λ e. transact_held range r found e p changes q) (λ job e. transact_split range r found job e p changes q)

      get_good : (p : Packet) (range : ℕ) (key : List ℕ) (q : ReqNo) (o : Option RangeState) → range_of st.ranges range ≡ o → Good (get_effect st p range key q o) (gets_in st p range key q o)
      get_good p range key q None found = refuse_good p.from q
      get_good p range key q (Some r) found = by_split range (λ e. get_held range r found e p key q) (λ job e. get_split range r found job e p key q)

      table_good : (p : Packet) (body : TableBody) → Good (table_effect st p body) (table_rule st p body)
      table_good p (tables.Transact range changes q) = transact_good p range changes q (range_of st.ranges range) refl
      table_good p (tables.Get range key q) = get_good p range key q (range_of st.ranges range) refl
      table_good p body = rests_good

      module _ (p : Packet) (sent : Contains c.stream_layer.post p) (to : p.to ≡ Server s) where
        there : Contains w.post (packet p.from (Server s) p.body)
        there = subst (λ z. Contains w.post (packet p.from z p.body)) to (subst (λ (z : StreamSystem). Contains z.post p) (sym x.leads) sent)

        module _ (gives : is_answerer p.from p.body ≡ true) (v : ReqNo) (number : answered_number p.body ≡ Some v) where
          answer_good : (range : ℕ) (o : Option RangeState) → range_of st.ranges range ≡ o → Good (answer_effect st p v range o) (answer_in st p v range o)
          answer_good range None found = rests_good
          answer_good range (Some r) found = by_split range (λ e. answer_held range r found e p there gives v number) (λ job e. answer_split range r found job e p sent to there gives v number)

          hear_in : (range : ℕ) → split_awaiting st.splits v ≡ Some range → (o : Option RangeState) → range_of st.ranges range ≡ o → (j : Option SplitJob) → split_of st.splits range ≡ j → Good (split_effect_in st p o j) (split_answer_in st p range o j)
          hear_in range waits (Some r) found (Some job) e = hear_split range r found job e p sent to there gives v number (awaits_itself st.splits v range job (rising st.splits run.splits_ascending) waits e)
          hear_in range waits (Some r) found None e = rests_good
          hear_in range waits None found j e = rests_good

          hear_good : (o : Option ℕ) → split_awaiting st.splits v ≡ o → Good (split_effect st p o) (split_answer st p v o)
          hear_good None e = subst (Good Rests) (sym (unawaited_merge st whole p v)) rests_good
          hear_good (Some range) e = hear_in range e (range_of st.ranges range) refl (split_of st.splits range) refl

          awaited_good : (o : Option ℕ) → Good (awaited_effect st p v o) (answer_of st p v o)
          awaited_good None = hear_good (split_awaiting st.splits v) refl
          awaited_good (Some range) = answer_good range (range_of st.ranges range) refl

        numbered_good : (o : Option ReqNo) → answered_number p.body ≡ o → Good (numbered_effect st p o) (numbered_rule st p o)
        numbered_good None e = rests_good
        numbered_good (Some v) e = go (is_answerer p.from p.body) refl
          where
            go : (b : Bool) → is_answerer p.from p.body ≡ b → Good (if b then awaited_effect st p v (awaiting st.ranges v) else Rests) (if b then answer_of st p v (awaiting st.ranges v) else rests st)
            go true gives = awaited_good gives v e (awaiting st.ranges v)
            go false gives = rests_good

      -- what the map tells of leases is of a range with a number
      word_good : (body : MapBody) → IsMapWord c.stream_layer body → Good (told_effect st body) (told_by_map st body)
      word_good (maps.Assign range g until) word = assign_good range word (range_of st.ranges range) g until
      word_good (maps.Renew range g until) word = λ laid. renew_stands generation nodes target c s cell st at is range g until y x
      word_good body word = rests_good

      from_map_good : (p : Packet) (body : MapBody) → p.body ≡ bodies.Map body → Contains c.stream_layer.post p → Good (map_effect st p.from body) (map_rule st p.from body)
      from_map_good p body e there = go p.from refl
        where
          told : p.from ≡ Map → Good (told_effect st body) (told_by_map st body)
          told from_it =
              word_good body (subst (IsWord c.stream_layer) e (x.from_map p.to p.body (subst (λ z. Contains c.stream_layer.post (packet z p.to p.body)) from_it there)))

          go : (f : ActorId) → p.from ≡ f → Good (map_effect st f body) (map_rule st f body)
          go Map from_it = told from_it
          go (actors.Node n) from_it = rests_good
          go actors.Manager from_it = rests_good
          go (Server t) from_it = rests_good
          go (actors.User u) from_it = rests_good

      taken_body : (p : Packet) → Contains c.stream_layer.post p → p.to ≡ Server s → (b : Body) → p.body ≡ b → Good (packet_effect st p b) (taken_rule st p b)
      taken_body p there to b e = go b e
        where
          go : (b : Body) → p.body ≡ b → Good (packet_effect st p b) (taken_rule st p b)
          go (bodies.Map (maps.Assign range g until)) e = from_map_good p (maps.Assign range g until) e there
          go (bodies.Map (maps.Renew range g until)) e = from_map_good p (maps.Renew range g until) e there
          go (bodies.Map body) e = numbered_good p there to (answered_number (bodies.Map body)) (ap answered_number e)
          go (bodies.Table body) e = table_good p body
          go (bodies.Append body) e = numbered_good p there to (answered_number (bodies.Append body)) (ap answered_number e)
          go (bodies.Check body) e = numbered_good p there to (answered_number (bodies.Check body)) (ap answered_number e)
          go (bodies.Seal body) e = numbered_good p there to (answered_number (bodies.Seal body)) (ap answered_number e)
          go (bodies.Read body) e = numbered_good p there to (answered_number (bodies.Read body)) (ap answered_number e)
          go (bodies.Stream body) e = numbered_good p there to (answered_number (bodies.Stream body)) (ap answered_number e)

      rule_good : (p : Packet) → Contains c.stream_layer.post p → p.to ≡ Server s → Good (server_effect p (Some st)) (server_rule st p p.body)
      rule_good p there to = go (has_numbers st.context)
        where
          go : (b : Bool) → Good (if b then packet_effect st p p.body else Rests) (if b then taken_rule st p p.body else rests st)
          go true = taken_body p there to p.body refl
          go false = rests_good

    -- where this is owed of ranges that are split, when it gives up
    module _ (owed : LeavingOwed generation nodes target c y x s cell st at is) where
      leave_split : (range : ℕ) (r : RangeState) (found : range_of st.ranges range ≡ Some r) (job : SplitJob) (was : split_of st.splits range ≡ Some job) (o : ServerOutcome) → gives_up st range (Some r) ≡ Some o → Good Rests o
      leave_split range r found job was o e =
          let same : (if has_numbers st.context then given_up st range (merge_with st.merges range) (give_up_all st.context r) else rests st) ≡ o = cc in
          subst (Good Rests) same (go (has_numbers st.context))
        where
          go : (b : Bool) → Good Rests (if b then given_up st range (merge_with st.merges range) (give_up_all st.context r) else rests st)
          go true =
              subst (Good Rests) (sym (given_up_unmerged st whole range (give_up_all st.context r) ∙ ap (λ j. given_up_with st range j (give_up_all st.context r)) was))
              (splits.give_up_good generation nodes target c y x s cell st at is range r found job was (owed range r found job was))
          go false = rests_good

      give_up_rule_good : (range : ℕ) (o : ServerOutcome) → gives_up st range (range_of st.ranges range) ≡ Some o → Good Rests o
      give_up_rule_good range o e = go (range_of st.ranges range) refl e
        where
          go : (known : Option RangeState) → range_of st.ranges range ≡ known → gives_up st range known ≡ Some o → Good Rests o
          go None found is_it = absurd cc
          go (Some r) found is_it = by_split range (λ unsplit. give_up_held range r found unsplit o is_it) (λ job was. leave_split range r found job was o is_it)

  -- ---- events

  -- a server that is down stays so
  stopped : {base : Bases generation} → (c : Cluster) (y : ServerRun) → Standing generation nodes target base c y → (s : ℕ) (cell : ServerCell) → entry_at c.servers s ≡ Some cell →
      StandsAfter generation nodes target base c y (at_server c.servers s (λ z. cell_rests z) (Some cell))
  stopped {base} c y x s cell at =
      subst (λ o. StandsAfter generation nodes target base c y (at_server c.servers s (λ z. cell_rests z) o)) at
      (cell_stands generation nodes target c y s (λ z. z) (λ z n k past. past) (λ z st found up. still_runs c.servers s z st found up) x)

  -- a server takes a packet
  module _ {base : Bases generation} (c : Cluster) (y : ServerRun) (x : Standing generation nodes target base c y) (whole : HaveNoMerges c.servers) (s : ℕ) (p : Packet) (there : Contains c.stream_layer.post p) (to : p.to ≡ Server s)
      (owed : (cell : ServerCell) (st : ServerState) (at : entry_at c.servers s ≡ Some cell) (is : cell.state ≡ Some st) → SplitsOwed generation nodes target c y x s cell st at is) where
    -- a cluster after this, and the run where servers do this with streams
    abbrev Took : RangeEffect → ServersOutcome → ServersOutcome → Type 0
    Took effect o seen = IsLaid (with_outcome (with_effect s y effect) seen) →
        Standing generation nodes target base (servers_perform c o) (with_outcome (with_effect s y effect) seen)

    abbrev cell_after : ServerCell → Option ServerState → ServersOutcome
    cell_after cell o = record { servers = slice_set c.servers (s - 1) (cell_takes cell p o).cell; packets = (cell_takes cell p o).packets; notes = (cell_takes cell p o).notes }

    state_takes : (cell : ServerCell) → entry_at c.servers s ≡ Some cell → (o : Option ServerState) → cell.state ≡ o → Took (server_effect p o) (cell_after cell o) (cell_after cell o)
    state_takes cell at None is = λ laid. stopped c y x s cell at
    state_takes cell at (Some st) is =
        let o : ServerOutcome = server_rule st p p.body in
        let run : ServerRun = with_outcome (with_effect s y (server_effect p (Some st))) (cell_after cell (Some st)) in
        λ laid. rule_good c y x s cell st at is (whole s cell at st is) (owed cell st at is) p there to (laid_behind run (with_effect s y (server_effect p (Some st))).notes o.notes refl laid)

    cell_takes_so : (o : Option ServerCell) → entry_at c.servers s ≡ o →
        Took (cell_effect p o) (at_server c.servers s (λ cell. cell_takes cell p cell.state) o) (at_server c.servers s (λ cell. cell_takes cell p cell.state) o)
    cell_takes_so None at = λ laid. nobody_stands generation nodes target c y x
    cell_takes_so (Some cell) at = state_takes cell at cell.state refl

    pub takes_stands : IsLaid (after_event y (Takes s p)) → Standing generation nodes target base (servers_perform c (server_takes c.servers s p)) (after_event y (Takes s p))
    takes_stands =
        subst (λ l. Took (cell_effect p (entry_at l s)) (server_takes c.servers s p) (server_takes l s p)) x.cells (cell_takes_so (entry_at c.servers s) refl)

  -- a server is told to give up
  module _ {base : Bases generation} (c : Cluster) (y : ServerRun) (x : Standing generation nodes target base c y) (whole : HaveNoMerges c.servers) (s range : ℕ) (pick : Nodes) where
    -- it has other nodes for new extents
    abbrev pub picked_cell : ServerCell → ServerState → ServerCell
    picked_cell cell st = record cell { state = Some (picked st pick) }

    abbrev pub picked_cluster : ServerCell → ServerState → Cluster
    picked_cluster cell st = record c { servers = slice_set c.servers (s - 1) (picked_cell cell st) }

    abbrev pub picked_run : ServerCell → ServerState → ServerRun
    picked_run cell st = record y { servers = slice_set c.servers (s - 1) (picked_cell cell st) }

    pub picked_stands : (cell : ServerCell) (st : ServerState) → entry_at c.servers s ≡ Some cell → cell.state ≡ Some st → Standing generation nodes target base (picked_cluster cell st) (picked_run cell st)
    picked_stands cell st at is = picks_stand generation nodes target c s cell st at is (if has_numbers st.context then pick else st.context.pick) y x

    pub picked_at : (cell : ServerCell) (st : ServerState) → entry_at c.servers s ≡ Some cell → entry_at (picked_cluster cell st).servers s ≡ Some (picked_cell cell st)
    picked_at cell st at = entry_set c.servers s cell (picked_cell cell st) at

    -- what is then owed of ranges that are being split
    abbrev pub OwedPicked : Type 0
    OwedPicked = (cell : ServerCell) (st : ServerState) (at : entry_at c.servers s ≡ Some cell) (is : cell.state ≡ Some st) →
        LeavingOwed generation nodes target (picked_cluster cell st) (picked_run cell st) (picked_stands cell st at is) s (picked_cell cell st) (picked st pick) (picked_at cell st at) refl

    abbrev GaveUp : ServersOutcome → ServersOutcome → Type 0
    GaveUp o seen = IsLaid (with_outcome y seen) → Standing generation nodes target base (servers_perform c o) (with_outcome y seen)

    abbrev rule_after : ServerCell → Option ServerOutcome → ServersOutcome
    rule_after cell o = record { servers = slice_set c.servers (s - 1) (cell_given_up cell o).cell; packets = (cell_given_up cell o).packets; notes = (cell_given_up cell o).notes }

    abbrev state_after : ServerCell → Option ServerState → ServersOutcome
    state_after cell o = record { servers = slice_set c.servers (s - 1) (cell_gives_up cell range pick o).cell; packets = (cell_gives_up cell range pick o).packets; notes = (cell_gives_up cell range pick o).notes }

    module _ (owed : OwedPicked) where
      gave_up : (cell : ServerCell) (st : ServerState) → entry_at c.servers s ≡ Some cell → cell.state ≡ Some st → (o : ServerOutcome) →
          gives_up (picked st pick) range (range_of st.ranges range) ≡ Some o → GaveUp (rule_after cell (Some o)) (rule_after cell (Some o))
      gave_up cell st at is o e =
          let servers : List ServerCell = slice_set c.servers (s - 1) (picked_cell cell st) in
          let given : GaveUp
          (record { servers = slice_set servers (s - 1) (cell_performs cell o).cell; packets = o.packets; notes = o.notes })
          (record { servers = slice_set servers (s - 1) (cell_performs cell o).cell; packets = o.packets; notes = o.notes }) =
          λ laid. give_up_rule_good (picked_cluster cell st) (picked_run cell st) (picked_stands cell st at is) s (picked_cell cell st) (picked st pick) (picked_at cell st at) refl (whole s cell at st is)
          (owed cell st at is) range o e
          (laid_behind (with_outcome y (record { servers = slice_set servers (s - 1) (cell_performs cell o).cell; packets = o.packets; notes = o.notes })) y.notes o.notes refl laid) in
          subst (λ l. GaveUp (record { servers = l; packets = o.packets; notes = o.notes }) (record { servers = l; packets = o.packets; notes = o.notes }))
          (set_twice c.servers (s - 1) (picked_cell cell st) (cell_performs cell o).cell) given

      rule_gives : (cell : ServerCell) (st : ServerState) → entry_at c.servers s ≡ Some cell → cell.state ≡ Some st → (o : Option ServerOutcome) → give_up_rule st range pick ≡ o →
          GaveUp (rule_after cell o) (rule_after cell o)
      rule_gives cell st at is None e = λ laid. stopped c y x s cell at
      rule_gives cell st at is (Some o) e = gave_up cell st at is o e

      state_gives : (cell : ServerCell) → entry_at c.servers s ≡ Some cell → (o : Option ServerState) → cell.state ≡ o → GaveUp (state_after cell o) (state_after cell o)
      state_gives cell at None is = λ laid. stopped c y x s cell at
      state_gives cell at (Some st) is = rule_gives cell st at is (give_up_rule st range pick) refl

      cell_gives : (o : Option ServerCell) → entry_at c.servers s ≡ o →
          GaveUp (at_server c.servers s (λ cell. cell_gives_up cell range pick cell.state) o) (at_server c.servers s (λ cell. cell_gives_up cell range pick cell.state) o)
      cell_gives None at = λ laid. nobody_stands generation nodes target c y x
      cell_gives (Some cell) at = state_gives cell at cell.state refl

      pub gives_up_stands : IsLaid (after_event y (GivesUp s range pick)) →
          Standing generation nodes target base (servers_perform c (server_gives_up c.servers s range pick)) (after_event y (GivesUp s range pick))
      gives_up_stands = subst (λ l. GaveUp (server_gives_up c.servers s range pick) (server_gives_up l s range pick)) x.cells (cell_gives (entry_at c.servers s) refl)

  -- a server is told to make a checkpoint
  module _ {base : Bases generation} (c : Cluster) (y : ServerRun) (x : Standing generation nodes target base c y) (whole : HaveNoMerges c.servers) (s range : ℕ) (combine : Bool) where
    abbrev Made : ServersOutcome → ServersOutcome → Type 0
    Made o seen = IsLaid (with_outcome y seen) → Standing generation nodes target base (servers_perform c o) (with_outcome y seen)

    abbrev made_after : ServerCell → Option ServerState → ServersOutcome
    made_after cell o =
        record {
          servers = slice_set c.servers (s - 1) (cell_checkpoints cell range combine o).cell;
          packets = (cell_checkpoints cell range combine o).packets;
          notes = (cell_checkpoints cell range combine o).notes;
        }

    state_makes : (cell : ServerCell) → entry_at c.servers s ≡ Some cell → (o : Option ServerState) → cell.state ≡ o → Made (made_after cell o) (made_after cell o)
    state_makes cell at None is = λ laid. stopped c y x s cell at
    state_makes cell at (Some st) is =
        let o : ServerOutcome = server_checkpoint st range combine in
        λ laid. checkpoint_good c y x s cell st at is (whole s cell at st is) range combine (laid_behind (with_outcome y (made_after cell (Some st))) y.notes o.notes refl laid)

    cell_makes : (o : Option ServerCell) → entry_at c.servers s ≡ o →
        Made (at_server c.servers s (λ cell. cell_checkpoints cell range combine cell.state) o) (at_server c.servers s (λ cell. cell_checkpoints cell range combine cell.state) o)
    cell_makes None at = λ laid. nobody_stands generation nodes target c y x
    cell_makes (Some cell) at = state_makes cell at cell.state refl

    pub checkpoints_stand : IsLaid (after_event y (Checkpoints s range combine)) →
        Standing generation nodes target base (servers_perform c (server_checkpoints c.servers s range combine)) (after_event y (Checkpoints s range combine))
    checkpoints_stand = subst (λ l. Made (server_checkpoints c.servers s range combine) (server_checkpoints l s range combine)) x.cells (cell_makes (entry_at c.servers s) refl)

  -- a server is told to split a range
  module _ {base : Bases generation} (c : Cluster) (y : ServerRun) (x : Standing generation nodes target base c y) (whole : HaveNoMerges c.servers) (s range : ℕ) (key : List ℕ) where
    abbrev Begun : ServersOutcome → ServersOutcome → Type 0
    Begun o seen = IsLaid (with_outcome y seen) → Standing generation nodes target base (servers_perform c o) (with_outcome y seen)

    abbrev begun_after : ServerCell → Option ServerState → ServersOutcome
    begun_after cell o =
        record {
          servers = slice_set c.servers (s - 1) (cell_splits cell range key o).cell;
          packets = (cell_splits cell range key o).packets;
          notes = (cell_splits cell range key o).notes;
        }

    state_splits : (cell : ServerCell) → entry_at c.servers s ≡ Some cell → (o : Option ServerState) → cell.state ≡ o → Begun (begun_after cell o) (begun_after cell o)
    state_splits cell at None is = λ laid. stopped c y x s cell at
    state_splits cell at (Some st) is =
        let o : ServerOutcome = server_split st range key in
        λ laid. split_good c y x s cell st at is (whole s cell at st is) range key (laid_behind (with_outcome y (begun_after cell (Some st))) y.notes o.notes refl laid)

    cell_splits_so : (o : Option ServerCell) → entry_at c.servers s ≡ o →
        Begun (at_server c.servers s (λ cell. cell_splits cell range key cell.state) o) (at_server c.servers s (λ cell. cell_splits cell range key cell.state) o)
    cell_splits_so None at = λ laid. nobody_stands generation nodes target c y x
    cell_splits_so (Some cell) at = state_splits cell at cell.state refl

    pub splits_stand : IsLaid (after_event y (Splits s range key)) →
        Standing generation nodes target base (servers_perform c (server_splits c.servers s range key)) (after_event y (Splits s range key))
    splits_stand = subst (λ l. Begun (server_splits c.servers s range key) (server_splits l s range key)) x.cells (cell_splits_so (entry_at c.servers s) refl)
