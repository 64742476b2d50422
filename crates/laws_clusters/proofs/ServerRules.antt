-- A cluster stands on where a server does a rule of one of its ranges.
use Rattle.std.proofs.Common.{◌≡◌, ◌⊎◌, ⊎_elim, ℕ, suc, ◌+◌, ◌-◌, ◌≤◌, ◌<◌, true, false, List, [], ◌++◌, Option, Some, None, Contains, slice_set, refl, sym, ap, ◌∙◌, subst, inl, inr, arith, if◌then◌else◌, ◌==◌, ◌&&◌}
use Rattle.std.proofs.lemmas.Bool.{cases_eq}
use Rattle.std.proofs.lemmas.List.Elements.{Contains-append_cases}
use Rattle.wire.specs.declared.actor.ActorId.{ActorId}
use Rattle.wire.specs.declared.actor.ActorId.TheVariants.{Map, Server}
use Rattle.wire.specs.declared.actor.ReqNo.{ReqNo}
use Rattle.wire.specs.declared.actor.ReqNo.TheVariants as requests
use Rattle.wire.specs.declared.body.Body.{Body}
use Rattle.wire.specs.declared.body.Body.TheVariants as bodies
use Rattle.wire.specs.declared.body.StreamBody.TheVariants as streams
use Rattle.wire.specs.declared.packet.Packet.{Packet}
use Rattle.wire.specs.declared.note.Note.{Note}
use Rattle.wire.specs.declared.streams.Modify.{Modify}
use Rattle.wire.specs.declared.streams.StreamKind.{StreamKind}
use Rattle.wire.specs.declared.streams.StreamKind.TheVariants as kinds
use Rattle.wire.specs.declared.streams.StreamName.{StreamName}
use Rattle.replica.specs.Groups.{Group}
use Rattle.client.specs.Client.{awaits}
use Rattle.model_streams.specs.Maps.{entry_at}
use Rattle.model_streams.specs.Outcome.{packet}
use Rattle.model_streams.specs.StreamSystem.{StreamSystem, Move}
use Rattle.model_partition.specs.declared.server_context.ServerContext.{ServerContext}
use Rattle.model_partition.specs.Cluster.{Cluster}
use Rattle.model_partition.specs.Past.{Bytes}
use Rattle.model_partition.specs.declared.split_job.Side.{Side as SplitSide}
use Rattle.model_partition.specs.declared.split_job.SplitJob.{SplitJob}
use Rattle.model_partition.specs.declared.split_job.SplitPhase.{SplitPhase}
use Rattle.model_partition.specs.declared.table_note.TableNote.{TableNote}
use Rattle.model_partition.specs.Splits.{SplitStep, side_range}
use Rattle.model_partition.specs.Range.{RangeState, RangeOutcome}
use Rattle.model_histories.specs.ServedTables.{AreSeenAs, StreamsInOrder}
use Rattle.model_partition.specs.Server.{ServerState, range_of, split_of}
use Rattle.model_histories.specs.ServerRun.{ServerRun, after_actions, with_outcome, stream_named}
use Rattle.model_partition.specs.Servers.{ServerCell, noted, with_told}
use Rattle.model_histories.specs.ServerTurns.{after_all}
use Rattle.model_histories.specs.ServerTurns as machine
use Rattle.model_histories.specs.StreamActions.{StreamAction}
use Rattle.model_histories.specs.TableContents.{AllTellRightly}
use Rattle.laws_loads.specs.RangeView.{RangeView, view_after_all}
use Rattle.laws_loads.proofs.Entries.{entry_set, entry_other}
use Rattle.laws_stream_machine.specs.Refinement.{Purpose, Sent, purpose_of, asked_number, IsAt, IsUnsealedAt}
use Rattle.laws_ranges.specs.Seen.{BeganAt, SeesStories}
use Rattle.laws_ranges.specs.Serves.{Side, metadata_of, log_of, rows_of, AsksOfRows, IsForRows, IsAside, Adds, AreUnused, BothGo}
use Rattle.laws_ranges.specs.SplitJobs.{waits_seal, waits_call, FollowsBoth, FollowsBothIf, AreOthers, IsForSplit, AskedOfSplit}
use Rattle.laws_ranges.proofs.SplitsKept.{both_row_data, seal_aside}
use Rattle.laws_ranges.proofs.TurnsAsMoves.{moves_of}
use Rattle.laws_server_runs.specs.RunInvariant.{view_at}
use Rattle.laws_server_runs.proofs.Actions.{same_test, other_test, actions_here, actions_apart, actions_bytes, actions_rest}
use Rattle.laws_log_reads.specs.Reads.{HasReadIf}
use Rattle.laws_servers.specs.Sending.{MaySendAll}
use Rattle.laws_server_runs.specs.Places.{bytes_of}
use Rattle.laws_clusters.proofs.StepKeys.{keys_after}
use Rattle.laws_clusters.proofs.BlobRequests.{blob_aside}
use Rattle.laws_clusters.proofs.StepServers as left
use Rattle.laws_clusters.proofs.Invariant.{IsMaking, ExtendNoBlobs, IsFirm, KeysStand, SeesAll, IsOther, HeldAt, SplitAt, Waiter, OfRows, OfSeal, OfCall, Waits, IsOfExtents, AskedBy, IsSplitAsk, Machines, HasNumber, HasNone, AllOut, AreDistinct, IsIdle, IsBeside, AreBeside, here, m_side, l_side, Holds, IsHeld, Runs, Standing, Bases, HaveGrown}
use Rattle.laws_clusters.proofs.ObservedBytes.{AreObserved, observed_on, observed_both, before_tells, seen_all}
use Rattle.laws_clusters.proofs.MapWords.{IsFounded, IsWord}
use Rattle.laws_clusters.proofs.OtherRanges.{noted_keeps, onward_same, holds_on, held_on, own_holds}
use Rattle.laws_clusters.proofs.RangeActions.{actions_aside, actions_say}
use Rattle.laws_clusters.proofs.Copies.{AllSay}
use Rattle.laws_clusters.proofs.GrownLists.{grew_on}
use Rattle.laws_clusters.proofs.RangeStreams.{HasStreams, catalog_stays, streams_stay, IsOfSplit, AreOfSplits, split_stays, AsksOthers, absent_on}
use Rattle.laws_clusters.proofs.RowRules.{AsksIn}
use Rattle.laws_clusters.proofs.ClientJobs.{AsksBy}
use Rattle.laws_clusters.proofs.RowPurposes.{rows_aside, own_asks, rows_request}
pub use Rattle.laws_clusters.proofs.StepShapes.{IsNear, IsLaid, AreLaid, laid_behind, plain_laid}
use Rattle.laws_clusters.proofs.StepShapes.{by_one, by_if, same_value, has_number, has_none, has_not, all_else, AreLeft, SplitsLeft, keep_asks, RowsWaited, SealWaited, CallWaited, StepWaits, below_next, other_range, other_server, Incarnations}
use Rattle.laws_clusters.proofs.RowSteps.{same_asks, IsNew, WaitedBefore, Steady, StepOfWaits, all_out}
use Rattle.laws_clusters.proofs.SplitRequests.{SplitSends, IsRequestOf, sent_in, in_used, in_asks, sends_asks, sends_waits, one_answer, known_by, seal_waits, sends_rows, asks_rows, no_request}
use Rattle.laws_clusters.proofs.ServerNotes.{server_notes}
use Rattle.laws_clusters.proofs.ServerNumbers as numbers
use Rattle.laws_clusters.proofs.StreamOrders.{in_order}
use Rattle.laws_clusters.proofs.RangeRules.{metadata_below, log_below, outcome_of, Turned}
use Rattle.laws_clusters.proofs.RangeSteps.{IsSteady, IsOnward, m_after, l_after, machines_after, m_side_is, l_side_is, others_steady, goes_onward, goes_on}
use Rattle.laws_clusters.proofs.StreamMachines.{Further, all_told}
use Rattle.laws_clusters.proofs.Elsewhere.{RowsRequest, AreRowsElse, all_elsewhere, all_alone}
use Rattle.laws_stream_machine.proofs.LowerLayer.{below_alone}
use Rattle.laws_clusters.proofs.RequestNumbers.{PastAt, IsPast, used_number, asked_used, AreNumbersPast, AllPast, past_on, past_step, new_past, all_past_adds, added_some, added_none}

module _ (generation : ℕ → ℕ) (nodes target : ℕ) where
  module _ {base : Bases generation} (c : Cluster) (y : ServerRun) (x : Standing generation nodes target base c y) (s : ℕ) (cell : ServerCell) (st : ServerState) (at : entry_at c.servers s ≡ Some cell) (is : cell.state ≡ Some st) where
    abbrev w : StreamSystem
    w = here generation nodes target x.moves

    run_of : Runs generation nodes target x.moves x.machines (y.history s) (x.incarnation s) s cell st
    run_of = numbers.run_of generation nodes target c y x s cell st at is

    not_used : (k : ℕ) → st.context.count ≤ k → IsPast c.servers (requests.Server st.context.server st.context.session k) → ⊥
    not_used = numbers.not_used generation nodes target c y x s cell st at is

    module _ (range : ℕ) (founded : IsFounded c.stream_layer range) (i : ℕ) (b : ServerRun) (near : IsNear s range y b)
        (record_began : BeganAt ((b.history s range).append kinds.Metadata) ((after_all Group generation (x.machines range).m).phase i))
        (began : BeganAt ((b.history s range).append kinds.Log) ((after_all Group generation (x.machines range).l).phase i)) (t : SplitStep) (notes : List TableNote) (actions : List StreamAction)
        (k : Turned generation nodes target c y x range founded i st.context (view_at range b s) t actions) (ps : List Packet) (may : MaySendAll ps)
        (waits : StepWaits st range t ps)
        (asked : AskedOfSplit generation range w i t.range t.job (m_after generation nodes target x.moves range (x.machines range) i st.context (outcome_of k.left t) (λ after n j. FollowsBothIf generation range w i t.job t.range n j) k.goes)
        (l_after generation nodes target x.moves range (x.machines range) i st.context (outcome_of k.left t) (λ after n j. FollowsBothIf generation range w i t.job t.range n j) k.goes) ps)
        -- where it is dropped, so is its split, and nothing is asked of the map and built
        (ends : t.range ≡ None → t.job ≡ None) (gone : t.range ≡ None → (p : Packet) → Contains ps p → (q : ReqNo) → used_number p.body ≡ Some q → asked_number p.body ≡ Some q)
        -- what is built is of a split
        (lists : (server : ℕ) (to : ActorId) (list : List Modify) (q : ReqNo) → Contains ps (packet (Server server) to (bodies.Stream (streams.MultiModify list q))) → (m : Modify) → Contains list m → IsOfSplit c.stream_layer list)
        (senders : (p : Packet) → Contains ps p → p.from ≡ Map → ⊥)
        (after : ServerState) (context_is : after.context ≡ record st.context { count = t.count }) (shape : AreLeft st.ranges after.ranges range t.range) (split_shape : SplitsLeft st.splits after.splits range t.job)
        -- whose incarnation it is, and the range is none of the two of another split there
        (these : Incarnations x.incarnation x.bound s range i t.range)
        (apart : (k : ℕ) (job : SplitJob) → SplitAt c.servers s k job → (k ≡ range → ⊥) → IsMaking job.phase → IsFirm generation base s k → (side : SplitSide) → side_range job side ≡ range → ⊥)
        -- the two ranges of its own split stand so
        (own_keys : (next : RangeState) → t.range ≡ Some next → (later : SplitJob) → t.job ≡ Some later → IsFirm generation base s range → KeysStand generation nodes target x.moves x.machines (y.history s) i next later later.phase) where
      abbrev z : Machines generation
      z = x.machines range

      abbrev o : RangeOutcome
      o = outcome_of k.left t

      abbrev Then : Option RangeState → Side → Side → Type 0
      Then after n j = FollowsBothIf generation range w i t.job t.range n j

      abbrev goes : BothGo generation range w i Then (m_side generation z i) (l_side generation z i) st.context o
      goes = k.goes

      -- the machines of the range after the rule, and where the incarnation stands then
      abbrev new : Machines generation
      new = machines_after generation nodes target x.moves range z i st.context o Then goes

      abbrev m_then : Side
      m_then = m_after generation nodes target x.moves range z i st.context o Then goes

      abbrev l_then : Side
      l_then = l_after generation nodes target x.moves range z i st.context o Then goes

      -- what the range sees of its streams afterwards
      abbrev v : RangeView
      v = view_after_all (generation i) (view_at range b s) actions

      abbrev next_cell : ServerCell
      next_cell = record cell { state = Some after }

      abbrev next_servers : List ServerCell
      next_servers = slice_set c.servers (s - 1) next_cell

      abbrev pub next_cluster : Cluster
      next_cluster = record c { stream_layer = with_told c.stream_layer ps notes; servers = next_servers }

      abbrev done : ServerRun
      done = after_actions s range (generation i) b actions

      abbrev pub next_run : ServerRun
      next_run = with_outcome done (record { servers = next_servers; packets = ps; notes = notes })

      told : Further generation nodes target x.moves (with_told w ps notes) ps
      told = all_told generation nodes target x.moves ps notes may

      abbrev later : List Move
      later = x.moves ++ told.after

      same_catalog : (here generation nodes target later).catalog ≡ w.catalog
      same_catalog = ap (λ (u : StreamSystem). u.catalog) told.leads

      all_notes : (note : Note) → Contains w.notes note → Contains (here generation nodes target later).notes note
      all_notes note there = subst (λ (u : StreamSystem). Contains u.notes note) (sym told.leads) (noted_keeps w.notes notes note there)

      -- ---- the machines of all ranges

      abbrev next_machines : ℕ → Machines generation
      next_machines j = if j == range then new else x.machines j

      -- what is so of the range, and of each other
      by_range : (P : ℕ → Machines generation → Type 0) → P range new → ((j : ℕ) → (j ≡ range → ⊥) → P j (x.machines j)) → (j : ℕ) → P j (next_machines j)
      by_range = by_if range new x.machines

      -- ---- numbers

      count_is : after.context.count ≡ o.count
      count_is = ap (λ (d : ServerContext). d.count) context_is

      cell_past : (n k : ℕ) → PastAt cell n k → PastAt next_cell n k
      cell_past =
          past_step cell next_cell refl
          (λ u e. (st, is, (let same : after ≡ u = cc in subst (λ (y : ServerState). st.context.count ≤ y.context.count) same (let up = goes.rises in omega (arith, up, count_is)))))

      still_past : (q : ReqNo) → IsPast c.servers q → IsPast next_servers q
      still_past = past_on c.servers s cell next_cell at cell_past

      new_number : (k : ℕ) → k < o.count → IsPast next_servers (requests.Server st.context.server st.context.session k)
      new_number k less =
          subst (λ a. IsPast next_servers (requests.Server a st.context.session k)) (sym run_of.server)
          (subst (λ a. IsPast next_servers (requests.Server s a k)) (sym run_of.session) (new_past c.servers s cell next_cell after at refl k (omega (arith, less, count_is))))

      past_adds : (sent more : List Sent) → AllPast c.servers sent → AreUnused st.context o.count more → Adds st.context sent more → AllPast next_servers more
      past_adds sent more past none a =
          subst (λ u. AllPast next_servers u) (sym a.is)
          (all_past_adds next_servers sent (requests.Server st.context.server st.context.session a.number) a.purpose
          (λ q p e. still_past q (past q p e)) (λ p e. new_number a.number (below_next st.context o.count sent more none a p e)))

      new_past_all : (q : ReqNo) → HasNumber generation new q → IsPast next_servers q
      new_past_all q (p, inl e) = past_adds z.m_sent goes.metadata_sent (numbers.m_past generation nodes target c y x s cell st at is range) goes.sent_by.metadata goes.metadata_adds q p e
      new_past_all q (p, inr e) = past_adds z.l_sent goes.log_sent (numbers.l_past generation nodes target c y x s cell st at is range) goes.sent_by.log goes.log_adds q p e

      -- a number of the range was one before, or was not used
      was_number : (q : ReqNo) → HasNumber generation new q → HasNumber generation z q ⊎ (IsPast c.servers q → ⊥)
      was_number q (p, inl e) = elim (added_some c.servers st.context not_used z.m_sent goes.metadata_sent goes.metadata_adds q p e) [ inl old ↦ inl (old.0, inl old.1) | inr fresh ↦ inr fresh ]
      was_number q (p, inr e) = elim (added_some c.servers st.context not_used z.l_sent goes.log_sent goes.log_adds q p e) [ inl old ↦ inl (old.0, inr old.1) | inr fresh ↦ inr fresh ]

      -- no number of the range is another range's
      none_elsewhere : (j : ℕ) → (j ≡ range → ⊥) → (q : ReqNo) → HasNumber generation new q → HasNone generation (x.machines j) q
      none_elsewhere j apart q has = elim (was_number q has) [
        | inl old ↦ x.distinct range j (λ e. apart (sym e)) q old
        | inr fresh ↦ has_none generation (x.machines j) q (λ other. fresh (x.past j q other))
      ]

      still_none : (q : ReqNo) → IsPast c.servers q → HasNone generation z q → HasNone generation new q
      still_none q past none = (
        added_none c.servers st.context not_used z.m_sent goes.metadata_sent goes.metadata_adds q past none.0,
        added_none c.servers st.context not_used z.l_sent goes.log_sent goes.log_adds q past none.1,
      )

      all_distinct : (one other : ℕ) → (one ≡ other → ⊥) → AreDistinct generation (next_machines one) (next_machines other)
      all_distinct =
          by_range (λ one u. (other : ℕ) → (one ≡ other → ⊥) → AreDistinct generation u (next_machines other))
          (by_range (λ j u. (range ≡ j → ⊥) → AreDistinct generation new u) (λ apart. absurd (apart refl)) (λ j other apart q has. none_elsewhere j other q has))
          (λ one apart.
          by_range (λ j u. (one ≡ j → ⊥) → AreDistinct generation (x.machines one) u) (λ other q has. still_none q (x.past one q has) (x.distinct one range other q has)) (λ j other different. x.distinct one j different))

      all_past : (j : ℕ) (q : ReqNo) → HasNumber generation (next_machines j) q → IsPast next_servers q
      all_past = by_range (λ j u. (q : ReqNo) → HasNumber generation u q → IsPast next_servers q) new_past_all (λ j apart q has. still_past q (x.past j q has))

      -- ---- row data

      new_here : next_machines range ≡ new
      new_here = ap (λ t. if t then new else x.machines range) (same_test range)

      next_follows : (next : RangeState) → t.range ≡ Some next → FollowsBoth generation range w i t.job next m_then l_then
      next_follows next is = subst (λ a. FollowsBothIf generation range w i t.job a m_then l_then) is goes.then

      held_here : (r : RangeState) → range_of st.ranges range ≡ Some r → HeldAt c.servers s range r
      held_here r found = record { cell = cell; state = st; there = at; up = is; found = found }

      split_here : (job : SplitJob) → split_of st.splits range ≡ Some job → SplitAt c.servers s range job
      split_here job found = record { cell = cell; state = st; there = at; up = is; found = found }

      -- where there is a split, there is a range
      still_there : (later : SplitJob) → t.job ≡ Some later → (next : RangeState) × (t.range ≡ Some next)
      still_there later has = go t.range refl
        where
          go : (a : Option RangeState) → t.range ≡ a → (next : RangeState) × (t.range ≡ Some next)
          go (Some next) e = (next, e)
          go None e = absurd (let z : None ≡ Some later = sym (ends e) ∙ has in cc)

      -- a number of a stream, or who waits for it: row data, the seal of row data for the split, or a call of the split
      abbrev OfStreams : Packet → ReqNo → Type 0
      OfStreams p q = HasNumber generation new q × (asked_number p.body ≡ Some q)

      abbrev RowsCase : Packet → ReqNo → Type 0
      RowsCase p q = (next : RangeState) × (t.range ≡ Some next) × (awaits next.rows.job q ≡ true) × AsksOfRows range next.rows p.body × AsksIn next p.body × IsAside new.m_sent new.l_sent q

      abbrev SealCase : Packet → ReqNo → Type 0
      SealCase p q = (next : RangeState) × (later : SplitJob) × (t.range ≡ Some next) × (t.job ≡ Some later) × (waits_seal later.phase q ≡ true) × SplitSends next later p.body × IsAside new.m_sent new.l_sent q

      abbrev CallCase : Packet → ReqNo → Type 0
      CallCase p q = (next : RangeState) × (later : SplitJob) × (t.range ≡ Some next) × (t.job ≡ Some later) × (waits_call later.phase q ≡ true) × SplitSends next later p.body

      abbrev Cases : Packet → ReqNo → Type 0
      Cases p q = OfStreams p q ⊎ (RowsCase p q ⊎ (SealCase p q ⊎ CallCase p q))

      known_now : (p : Packet) → Contains ps p → (q : ReqNo) → used_number p.body ≡ Some q → Cases p q
      known_now p there q number = by_range t.range refl
        where
          -- what is asked of extents or lists
          asked_case : asked_number p.body ≡ Some q → (IsAside new.m_sent new.l_sent q → Cases p q) → Cases p q
          asked_case asks aside = go (purpose_of new.m_sent q) (purpose_of new.l_sent q) refl refl
            where
              go : (u v : Option Purpose) → purpose_of new.m_sent q ≡ u → purpose_of new.l_sent q ≡ v → Cases p q
              go (Some u) v one two = inl ((u, inl one), asks)
              go None (Some v) one two = inl ((v, inr two), asks)
              go None None one two = aside (one, two)

          known : asked_number p.body ≡ Some q → IsAside new.m_sent new.l_sent q → IsForRows range t.range q p.body ⊎ IsForSplit w range t.job q p.body
          known asks aside = known_by generation range i w t.range t.job m_then l_then ps asked p there q asks aside.0 aside.1

          by_rows : (next : RangeState) → t.range ≡ Some next → AsksIn next p.body → Cases p q
          by_rows next has asks =
              let number_so : asked_number p.body ≡ Some q = in_used next p.body q asks number in
              asked_case number_so
              (λ aside.
              (let for = asks_rows generation range w i m_then l_then next t.job (next_follows next has) q aside p.body asks number_so (subst (λ a. IsForRows range a q p.body ⊎ IsForSplit w range t.job q p.body) has (known number_so aside)) in
              inr (inl (next, has, for.0, for.1, asks, aside))))

          by_split : (next : RangeState) → t.range ≡ Some next → (later : SplitJob) → t.job ≡ Some later → SplitSends next later p.body → (asked_number p.body ≡ Some q) ⊎ (waits_call later.phase q ≡ true) → Cases p q
          by_split next has later is_later sends (inr call) = inr (inr (inr (next, later, has, is_later, call, sends)))
          by_split next has later is_later sends (inl asks) =
              asked_case asks
              (λ aside.
              (let follows = subst (λ j. FollowsBoth generation range w i j next m_then l_then) is_later (next_follows next has) in
              inr (inr (inl (next, later, has, is_later, seal_waits generation range w i m_then l_then next later follows q aside p.body sends asks, sends, aside)))))

          by_sent : (next : RangeState) → t.range ≡ Some next → (job : Option SplitJob) → t.job ≡ job → IsRequestOf next job p.body → Cases p q
          by_sent next has None none asks = by_rows next has asks
          by_sent next has (Some k) is_later (inl asks) = by_rows next has asks
          by_sent next has (Some k) is_later (inr sends) = by_split next has k is_later sends (sends_waits next k q p.body sends number)

          by_none : t.range ≡ None → IsForRows range t.range q p.body ⊎ IsForSplit w range t.job q p.body → Cases p q
          by_none none (inl rows) = absurd (subst (λ a. IsForRows range a q p.body) none rows)
          by_none none (inr split) = absurd (subst (λ a. IsForSplit w range a q p.body) (ends none) split)

          by_range : (a : Option RangeState) → t.range ≡ a → Cases p q
          by_range None none = let asks = gone none p there q number in asked_case asks (λ aside. by_none none (known asks aside))
          by_range (Some next) has = by_sent next has t.job refl (sent_in next t.job ps (waits next has).sent p there)

      -- ---- what is held afterwards

      abbrev Away : ℕ → ℕ → Type 0
      Away u k = left.Away c.servers s cell st at is range t.range t.job after shape split_shape u k

      own_range : (r : RangeState) → HeldAt next_servers s range r → t.range ≡ Some r
      own_range = left.own_range c.servers s cell st at is range t.range t.job after shape split_shape

      own_split : (job : SplitJob) → SplitAt next_servers s range job → t.job ≡ Some job
      own_split = left.own_split c.servers s cell st at is range t.range t.job after shape split_shape

      held_back : (u k : ℕ) (r : RangeState) → Away u k → HeldAt next_servers u k r → HeldAt c.servers u k r
      held_back = left.held_back c.servers s cell st at is range t.range t.job after shape split_shape

      split_back : (u k : ℕ) (job : SplitJob) → Away u k → SplitAt next_servers u k job → SplitAt c.servers u k job
      split_back = left.split_back c.servers s cell st at is range t.range t.job after shape split_shape

      -- ---- who waits

      abbrev Before : Waiter → ReqNo → Type 0
      Before by q = WaitedBefore generation c.servers next_servers x.machines next_machines c.stream_layer.post ps s range st.context t.count x.out by q

      rows_before : (next : RangeState) → t.range ≡ Some next → (q : ReqNo) → awaits next.rows.job q ≡ true → RowsWaited st range next q → Before OfRows q
      rows_before next has q waits_so (r, found, was) = record {
        waited = (r, held_here r found, ap (λ j. awaits j q) (sym was.job) ∙ waits_so);
        asks = λ body asks k h.
            (let same : next ≡ k = same_value t.range k next (own_range k h) has in
            subst (λ (u : RangeState). AsksBy u.rows body) same (same_asks r.rows next.rows was.job was.group was.stream body (asks r (held_here r found))));
      }

      seal_before : (q : ReqNo) → SealWaited st range q → Before OfSeal q
      seal_before q (job, found, waits_so) = record { waited = (job, split_here job found, waits_so); asks = λ body asks. tt }

      call_before : (later : SplitJob) → t.job ≡ Some later → (q : ReqNo) → CallWaited st range later q → Before OfCall q
      call_before later has q (job, found, waits_so, keeps) = record {
        waited = (job, split_here job found, waits_so);
        asks = λ body asks k h.
            (let same : later ≡ k = same_value t.job k later (own_split k h) has in
            subst (λ (u : SplitJob). IsSplitAsk u body) same (keep_asks job later keeps body (asks job (split_here job found))));
      }

      waited : (by : Waiter) (q : ReqNo) → Waits next_servers s range by q → Before by q ⊎ IsNew st.context t.count q
      waited OfRows q (r, h, waits_so) = elim ((waits r (own_range r h)).rows q waits_so) [ inl old ↦ inl (rows_before r (own_range r h) q waits_so old) | inr fresh ↦ inr fresh ]
      waited OfSeal q (job, h, waits_so) =
          let there = still_there job (own_split job h) in
          elim ((waits there.0 there.1).seal job (own_split job h) q waits_so) [ inl old ↦ inl (seal_before q old) | inr fresh ↦ inr fresh ]
      waited OfCall q (job, h, waits_so) =
          let there = still_there job (own_split job h) in
          elim ((waits there.0 there.1).call job (own_split job h) q waits_so) [ inl old ↦ inl (call_before job (own_split job h) q old) | inr fresh ↦ inr fresh ]

      abbrev Stays : Waiter → Type 0
      Stays by = Steady generation c.servers next_servers x.machines next_machines c.stream_layer.post ps s range st.context t.count x.out by

      one_steady : Stays OfRows ⊎ (Stays OfSeal × Stays OfCall)
      one_steady = by_range t.range refl
        where
          by_range : (a : Option RangeState) → t.range ≡ a → Stays OfRows ⊎ (Stays OfSeal × Stays OfCall)
          by_range None none = inl (λ q (r, h, waits_so). absurd (let z : None ≡ Some r = sym none ∙ own_range r h in cc))
          by_range (Some next) has = elim (waits next has).steady [
            | inl rows ↦ inl (λ q (r, h, waits_so).
                (let same : next ≡ r = same_value t.range r next (own_range r h) has in
                let waits_next : awaits next.rows.job q ≡ true = subst (λ (u : RangeState). awaits u.rows.job q ≡ true) (sym same) waits_so in
                (rows_before next has q waits_next (rows q waits_next)).waited))
            | inr split ↦ inr (
              λ q (job, h, waits_so). (seal_before q ((split job (own_split job h) q).0 waits_so)).waited,
              λ q (job, h, waits_so). (call_before job (own_split job h) q ((split job (own_split job h) q).1 waits_so)).waited,
            )
          ]

      one_waits : (q : ReqNo) → Waits next_servers s range OfSeal q → Waits next_servers s range OfCall q → ⊥
      one_waits q (job, h, seal) (later, g, call) =
          let same : later ≡ job = same_value t.job job later (own_split job h) (own_split later g) in one_answer job.phase q seal (subst (λ (u : SplitJob). waits_call u.phase q ≡ true) same call)

      -- what it waits for with row data has no purpose in the range's streams
      waits_apart : (by : Waiter) → IsOfExtents by → (q : ReqNo) → Waits next_servers s range by q → HasNone generation new q
      waits_apart OfRows extents q (r, h, waits_so) = rows_aside range w goes.metadata_sent goes.log_sent r.rows.job (both_row_data generation range w i m_then l_then r t.job (next_follows r (own_range r h))).job q waits_so
      waits_apart OfSeal extents q (job, h, waits_so) =
          let there = still_there job (own_split job h) in
          seal_aside generation range w i m_then l_then there.0 job q waits_so (subst (λ j. FollowsBoth generation range w i j there.0 m_then l_then) (own_split job h) (next_follows there.0 there.1))
      waits_apart OfCall extents q waits_so = absurd extents

      own_state : (job : SplitJob) → t.job ≡ Some job → SplitAt next_servers s range job
      own_state job has = record { cell = next_cell; state = after; there = entry_set c.servers s cell next_cell at; up = refl; found = split_shape.here ∙ has }

      abbrev Asked : Waiter → Packet → ReqNo → Type 0
      Asked by p q = AskedBy next_servers s range by p.body ⊎ ((other : Waiter) × (other ≡ by → ⊥) × Waits next_servers s range other q)

      row_asked : (p : Packet) (q : ReqNo) → used_number p.body ≡ Some q → Waits next_servers s range OfRows q → Cases p q → Asked OfRows p q
      row_asked p q number own (inl has) = absurd (has_not generation new q has.0 (waits_apart OfRows tt q own))
      row_asked p q number own (inr (inl (next, has, waits_so, for, asks, aside))) =
          inl (λ r h.
          (let same : next ≡ r = same_value t.range r next (own_range r h) has in
          own_asks generation range w i m_then l_then r t.job (next_follows r (own_range r h)) q aside p.body (subst (λ u. AsksIn u p.body) same asks) (in_used next p.body q asks number)))
      row_asked p q number own (inr (inr (inl (next, later, has, is_later, waits_so, sends, aside)))) = inr (OfSeal, λ e. cc, (later, own_state later is_later, waits_so))
      row_asked p q number own (inr (inr (inr (next, later, has, is_later, waits_so, sends)))) = inr (OfCall, λ e. cc, (later, own_state later is_later, waits_so))

      call_asked : (p : Packet) → Contains ps p → (q : ReqNo) → used_number p.body ≡ Some q → Asked OfCall p q
      call_asked p there q number = inl (λ job h. (let next = still_there job (own_split job h) in
          by_sent next.0 t.job job (own_split job h) (sent_in next.0 t.job ps (waits next.0 next.1).sent p there)))
        where
          by_sent : (next : RangeState) (split : Option SplitJob) (job : SplitJob) → split ≡ Some job → IsRequestOf next split p.body → IsSplitAsk job p.body
          by_sent next None job e asks = absurd cc
          by_sent next (Some k) job e (inl asks) = in_asks next job p.body asks
          by_sent next (Some k) job e (inr sends) = let same : k ≡ job = cc in subst (λ u. IsSplitAsk u p.body) same (sends_asks next k p.body sends)

      now_asked : (by : Waiter) (q : ReqNo) → Waits next_servers s range by q → (p : Packet) → Contains ps p → used_number p.body ≡ Some q → Asked by p q
      now_asked OfRows q own p there number = row_asked p q number own (known_now p there q number)
      now_asked OfSeal q own p there number = inl tt
      now_asked OfCall q own p there number = call_asked p there q number

      waits_now : (p : Packet) (q : ReqNo) → Cases p q → OfStreams p q ⊎ ((by : Waiter) × Waits next_servers s range by q)
      waits_now p q (inl has) = inl has
      waits_now p q (inr (inl (next, has, waits_so, for, asks, aside))) = inr (OfRows, (next, record { cell = next_cell; state = after; there = entry_set c.servers s cell next_cell at; up = refl; found = shape.there next has }, waits_so))
      waits_now p q (inr (inr (inl (next, later, has, is_later, waits_so, sends, aside)))) = inr (OfSeal, (later, own_state later is_later, waits_so))
      waits_now p q (inr (inr (inr (next, later, has, is_later, waits_so, sends)))) = inr (OfCall, (later, own_state later is_later, waits_so))

      waits_step : StepOfWaits generation c.servers next_servers x.machines next_machines c.stream_layer.post ps s range st.context t.count x.out
      waits_step = record {
        still_past = still_past;
        not_used = not_used;
        new_number = new_number;
        numbers = x.numbers;
        none = λ j q none past. by_range (λ n u. HasNone generation (x.machines n) q → HasNone generation u q) (still_none q past) (λ n apart old. old) j none;
        unused = λ j q apart fresh. by_range (λ n u. (n ≡ range → ⊥) → HasNone generation u q) (λ other. absurd (other refl)) (λ n other more. has_none generation (x.machines n) q (λ has. fresh (x.past n q has))) j apart;
        from = waited;
        steady = one_steady;
        exclusive = one_waits;
        others = left.others_wait c.servers s cell st at is range t.range t.job after shape split_shape;
        others_ask = λ u k by body away. left.others_ask c.servers s cell st at is range t.range t.job after shape split_shape u k by body away;
        aside = λ by extents q own. subst (λ u. HasNone generation u q) (sym new_here) (waits_apart by extents q own);
        asked = now_asked;
        known = λ p there q number. elim (waits_now p q (known_now p there q number)) [
          | inl has ↦ inl (subst (λ u. HasNumber generation u q) (sym new_here) has.0, has.1)
          | inr own ↦ inr own
        ];
      }

      all_out_after : AllOut generation next_servers next_machines (c.stream_layer.post ++ ps)
      all_out_after = all_out generation c.servers next_servers x.machines next_machines c.stream_layer.post ps s range st.context t.count x.out waits_step

      -- a number that is waited for with row data has no purpose in a stream of another range
      none_before : (by : Waiter) → IsOfExtents by → (q : ReqNo) → Waits next_servers s range by q → (j : ℕ) → HasNone generation (x.machines j) q
      none_before by extents q own j = elim (waited by q own) [
        | inl old ↦ (x.out s range by q old.waited).none extents j
        | inr fresh ↦ has_none generation (x.machines j) q (λ has. not_used fresh.0 fresh.1 (subst (λ v. IsPast c.servers v) fresh.3 (x.past j q has)))
      ]

      past_after : (by : Waiter) (q : ReqNo) → Waits next_servers s range by q → IsPast next_servers q
      past_after by q own = elim (waited by q own) [
        | inl old ↦ still_past q (x.out s range by q old.waited).past
        | inr fresh ↦ subst (λ v. IsPast next_servers v) (sym fresh.3) (new_number fresh.0 fresh.2)
      ]

      -- a request about row data, as a stream of another range sees it
      rows_else : (j : ℕ) (sent : List Sent) → ((q : ReqNo) → HasNone generation (x.machines j) q → purpose_of sent q ≡ None) → AreRowsElse generation range w i m_then l_then sent ps
      rows_else j sent side = all_else generation range i w m_then l_then sent ps (λ p there q number one two. by_case p q number one two (known_now p there q (asked_used p.body q number)))
        where
          by_case : (p : Packet) (q : ReqNo) → asked_number p.body ≡ Some q → purpose_of m_then.sent q ≡ None → purpose_of l_then.sent q ≡ None → Cases p q → RowsRequest w range p.body × (purpose_of sent q ≡ None)
          by_case p q number one two (inl has) = absurd (has_not generation new q has.0 (one, two))
          by_case p q number one two (inr (inl (next, has, waits_so, for, asks, aside))) =
              let follows = next_follows next has in (
                rows_request range w m_then.sent l_then.sent next.rows (both_row_data generation range w i m_then l_then next t.job follows) p.body for (own_asks generation range w i m_then l_then next t.job follows q aside p.body asks number),
                side q (none_before OfRows tt q (next, record { cell = next_cell; state = after; there = entry_set c.servers s cell next_cell at; up = refl; found = shape.there next has }, waits_so) j),
              )
          by_case p q number one two (inr (inr (inl (next, later, has, is_later, waits_so, sends, aside)))) =
              let follows = subst (λ u. FollowsBoth generation range w i u next m_then l_then) is_later (next_follows next has) in
              (sends_rows generation range w i m_then l_then next later follows q aside p.body sends number, side q (none_before OfSeal tt q (later, own_state later is_later, waits_so) j))
          by_case p q number one two (inr (inr (inr (next, later, has, is_later, waits_so, sends)))) = absurd (no_request p.body q next later sends number waits_so)

      all_numbers : AreNumbersPast next_servers (c.stream_layer.post ++ ps)
      all_numbers server to body there q number = elim (Contains-append_cases c.stream_layer.post ps (packet (Server server) to body) there) [
        | inl old ↦ still_past q (x.numbers server to body old q number)
        | inr now ↦ elim (waits_now (packet (Server server) to body) q (known_now (packet (Server server) to body) now q number)) [ inl has ↦ new_past_all q has.0 | inr own ↦ past_after own.0 q own.1 ]
      ]

      -- ---- the streams

      -- nobody asks for a stream of another range, where it is absent
      asks_others : (j : ℕ) (name : StreamName) → (name.range ≡ range → ⊥) → AsksOthers name w (here generation nodes target later)
      asks_others j name differ server to body there =
          elim (Contains-append_cases w.post ps (packet (Server server) to body) (subst (λ (u : StreamSystem). Contains u.post (packet (Server server) to body)) told.leads there)) [
            | inl before ↦ inl before
            | inr now ↦ inr (all_alone generation range w i m_then l_then name differ t.range t.job ps asked (rows_else j [] (λ q none. refl)) (packet (Server server) to body) now)
          ]

      aside_stream : (j : ℕ) (name : StreamName) → (name.range ≡ range → ⊥) → (name.kind ≡ kinds.BlobData → ⊥) → (moves : List (machine.Move Group generation)) (sent : List Sent) → ((q : ReqNo) → HasNumber generation new q → purpose_of sent q ≡ None) →
          ((q : ReqNo) → HasNone generation (x.machines j) q → purpose_of sent q ≡ None) → IsBeside generation nodes target x.moves name moves sent → IsBeside generation nodes target later name moves sent
      aside_stream j name differ plain moves sent known none (inr to_be) =
          inr (record { absent = absent_on name w (here generation nodes target later) same_catalog (asks_others j name differ) to_be.absent; none_done = to_be.none_done; none_sent = to_be.none_sent })
      aside_stream j name differ plain moves sent known none (inl stream) = inl (record {
        there = catalog_stays w (here generation nodes target later) same_catalog name stream.there;
        below =
            told.below name (after_all Group generation moves) sent
            (all_elsewhere generation range w i m_then l_then name differ (after_all Group generation moves) sent (alone_of (metadata_of range) refl) (alone_of (log_of range) refl) (alone_of (rows_of range) refl) (λ q at. known q (has_number generation new q at)) nodes target t.range t.job ps asked
            (rows_else j sent none) stream.there) stream.below;
      })
        where
          alone_of : (other : StreamName) → other.range ≡ range → (n m e : ℕ) → IsAt w other n e → IsUnsealedAt w name m e → ⊥
          alone_of other of = below_alone generation name nodes target plain x.moves other (λ same. differ (sym (ap (λ (u : StreamName). u.range) same) ∙ of))

      aside_below : (j : ℕ) → (j ≡ range → ⊥) → AreBeside generation nodes target x.moves j (x.machines j) → AreBeside generation nodes target later j (x.machines j)
      aside_below j apart old = record {
        m_are = old.m_are;
        l_are = old.l_are;
        apart = old.apart;
        metadata = λ some. aside_stream j (metadata_of j) apart (λ u. cc) (x.machines j).m (x.machines j).m_sent (λ q known. (none_elsewhere j apart q known).0) (λ q none. none.0) (old.metadata some);
        log = λ some. aside_stream j (log_of j) apart (λ u. cc) (x.machines j).l (x.machines j).l_sent (λ q known. (none_elsewhere j apart q known).1) (λ q none. none.1) (old.log some);
      }

      has_later : HasStreams (here generation nodes target later) range
      has_later =
          streams_stay w (here generation nodes target later) (catalog_stays w (here generation nodes target later) same_catalog) range (subst (λ (u : StreamSystem). HasStreams u range) (sym x.leads) founded.1)

      all_beside : (j : ℕ) → AreBeside generation nodes target later j (next_machines j)
      all_beside =
          by_range (λ j u. AreBeside generation nodes target later j u)
          (goes_on generation nodes target x.moves range z i st.context o Then goes (x.beside range) (metadata_below generation nodes target c y x range founded) (log_below generation nodes target c y x range founded) (numbers.unused generation nodes target c y x s cell st at is) t.range t.job ps (with_told w ps notes) asked told has_later) (λ j apart. aside_below j apart (x.beside j))

      -- ---- packets of the map

      map_tells : (to : ActorId) (body : Body) → Contains (c.stream_layer.post ++ ps) (packet Map to body) → IsWord c.stream_layer body
      map_tells to body there =
          ⊎_elim {C = IsWord c.stream_layer body} (λ old. x.from_map to body old) (λ new. absurd (senders (packet Map to body) new refl)) (Contains-append_cases c.stream_layer.post ps (packet Map to body) there)

      -- ---- streams that are there

      all_there : (u j : ℕ) (r : RangeState) → HeldAt next_servers u j r → HasStreams c.stream_layer j
      all_there u j r held = elim (cases_eq j range) [ inl same ↦ subst (HasStreams c.stream_layer) (sym same) founded.1 | inr apart ↦ x.there u j r (held_back u j r (λ own named. apart named) held) ]

      all_lists : AreOfSplits (with_told c.stream_layer ps notes)
      all_lists server to list q there m among = elim (Contains-append_cases c.stream_layer.post ps (packet (Server server) to (bodies.Stream (streams.MultiModify list q))) there) [
        | inl old ↦ split_stays c.stream_layer (with_told c.stream_layer ps notes) (λ n stands. stands) list (x.lists server to list q old m among)
        | inr now ↦ split_stays c.stream_layer (with_told c.stream_layer ps notes) (λ n stands. stands) list (lists server to list q now m among)
      ]

      all_extends : ExtendNoBlobs (c.stream_layer.post ++ ps)
      all_extends server to stream fence last pick q there blob =
          elim (Contains-append_cases c.stream_layer.post ps asks there) [ inl old ↦ x.extends server to stream fence last pick q old blob | inr now ↦ by_case (known_now asks now q refl) (blob_aside generation range w i m_then l_then t.range t.job ps asked asks now stream fence last pick q refl blob) ]
        where
          asks : Packet
          asks = packet (Server server) to (bodies.Stream (streams.Extend stream fence last pick q))

          by_case : Cases asks q → HasNone generation new q → ⊥
          by_case (inl has) none = has_not generation new q has.0 none
          by_case (inr (inl (next, has, waits_so, for, in_next, away))) none = let c : kinds.RowData ≡ kinds.BlobData = sym (ap (λ (u : StreamName). u.kind) for) ∙ blob in cc
          by_case (inr (inr (inl (next, other, has, is_later, waits_so, sends, away)))) none = sends
          by_case (inr (inr (inr (next, other, has, is_later, waits_so, sends)))) none = sends

      -- ---- incarnations

      abbrev inc : ℕ → ℕ → Option ℕ
      inc = these.of

      idle_one : (n : ℕ) → x.bound + suc i ≤ n → (j : ℕ) → IsIdle generation (next_machines j) n
      idle_one n le =
          let other : n ≡ i → ⊥ = (λ e. omega (arith, le, e)) in
          let old = x.idle n (omega (arith, le)) in
          let steady = others_steady generation nodes target x.moves range z i st.context o Then goes n other in
          by_range (λ j u. IsIdle generation u n) (steady.0 ∙ (old range).0, steady.1 ∙ (old range).1) (λ j apart. old j)

      -- ---- servers

      -- what is seen at the server, and what others see
      here_is : view_at range done s ≡ v
      here_is = actions_here s range (generation i) b actions

      apart_is : (t j : ℕ) → ((t == s) && (j == range)) ≡ false → next_run.history t j ≡ y.history t j
      apart_is t j test = actions_apart s range (generation i) t j test b actions ∙ near.history t j test

      sees : SeesStories generation i v m_then.stand l_then.stand
      sees =
          k.seen
          (record {
            metadata = near.story (stream_named range kinds.Metadata) ∙ x.stories.metadata_is range;
            log = near.story (stream_named range kinds.Log) ∙ x.stories.log_is range;
            record_append = record_began;
            append = began;
          })

      all_grow : (j : ℕ) → HaveGrown generation base j (next_machines j)
      all_grow = by_range (λ j u. HaveGrown generation base j u)
          (grew_on (base.metadata range) (moves_of generation i goes.metadata_turns) z.m (x.grows range).0, grew_on (base.logs range) (moves_of generation i goes.log_turns) z.l (x.grows range).1) (λ j apart. x.grows j)

      other_here : (j : ℕ) → (j ≡ range → ⊥) → next_machines j ≡ x.machines j
      other_here j apart = ap (λ t. if t then new else x.machines j) (other_test j range apart)

      -- a number of another's row data, or of a seal for its split
      abbrev RowsNone : ℕ → ℕ → RangeState → Option SplitJob → Type 0
      RowsNone u j r job =
          ((q : ReqNo) → awaits r.rows.job q ≡ true → HasNone generation (next_machines j) q) × ((k : SplitJob) → job ≡ Some k → (q : ReqNo) → waits_seal k.phase q ≡ true → HasNone generation (next_machines j) q)

      rows_none : (u j : ℕ) (other_cell : ServerCell) (v : ServerState) → entry_at next_servers u ≡ Some other_cell → other_cell.state ≡ Some v → (r : RangeState) → range_of v.ranges j ≡ Some r → RowsNone u j r (split_of v.splits j)
      rows_none u j other_cell v there up r found = (
        λ q own. (all_out_after u j OfRows q (r, record { cell = other_cell; state = v; there = there; up = up; found = found }, own)).none tt j,
        λ job is_job q own. (all_out_after u j OfSeal q (job, record { cell = other_cell; state = v; there = there; up = up; found = is_job }, own)).none tt j,
      )

      -- a range of another number is held as it was
      aside_held : (u j : ℕ) (job : Option SplitJob) (r : RangeState) → (j ≡ range → ⊥) → RowsNone u j r job → IsHeld generation nodes target x.moves j (x.machines j) (y.history u j) (x.incarnation u j) job r →
          IsHeld generation nodes target later j (x.machines j) (next_run.history u j) (inc u j) job r
      aside_held u j job r apart none =
          let test : ((u == s) && (j == range)) ≡ false = other_range u s j range apart in
          held_on generation nodes target j x.moves later (x.machines j) (x.machines j) (y.history u j) (next_run.history u j) (apart_is u j test) (x.incarnation u j) (inc u j) (these.others u j test) job r
          (λ n mine h. holds_on generation nodes target j x.moves later (x.machines j) (x.machines j) (onward_same generation nodes target j x.moves later (x.machines j) same_catalog all_notes) n (refl, refl) (y.history u j) job r
          (λ q own. subst (λ v. HasNone generation v q) (other_here j apart) (none.0 q own)) (λ k is_job q own. subst (λ v. HasNone generation v q) (other_here j apart) (none.1 k is_job q own)) h)

      -- and so is the range at another server
      other_held : (u : ℕ) (job : Option SplitJob) (r : RangeState) → (u ≡ s → ⊥) → RowsNone u range r job → IsHeld generation nodes target x.moves range z (y.history u range) (x.incarnation u range) job r →
          IsHeld generation nodes target later range new (next_run.history u range) (inc u range) job r
      other_held u job r apart none =
          let test : ((u == s) && (range == range)) ≡ false = other_server u s range range apart in
          held_on generation nodes target range x.moves later z new (y.history u range) (next_run.history u range) (apart_is u range test) (x.incarnation u range) (inc u range) (these.others u range test) job r
          (λ n mine h.
          holds_on generation nodes target range x.moves later z new (goes_onward generation nodes target x.moves range z i st.context o Then goes later same_catalog all_notes) n
          (others_steady generation nodes target x.moves range z i st.context o Then goes n (λ same. apart (these.alone u range (mine ∙ ap Some same)))) (y.history u range) job r
          (λ q own. subst (λ v. HasNone generation v q) new_here (none.0 q own)) (λ k is_job q own. subst (λ v. HasNone generation v q) new_here (none.1 k is_job q own)) h)

      own_held : (r : RangeState) → range_of after.ranges range ≡ Some r → IsHeld generation nodes target later range new (next_run.history s range) (inc s range) (split_of after.splits range) r
      own_held r found = record {
        counted = founded.0;
        incarnation = i;
        is = these.here r (shape.here r found);
        holds = subst (λ (u : RangeView). Holds generation nodes target later range new u.history i (split_of after.splits range) r) (sym here_is)
            (subst (λ job. Holds generation nodes target later range new v.history i job r) (sym split_shape.here)
            (own_holds generation nodes target x.moves range z i st.context o Then t.job goes later same_catalog all_notes v.history sees.record_append sees.append r (next_follows r (shape.here r found))
            (subst (λ a. HasReadIf range w i (after_all Group generation z.m).state (after_all Group generation z.l).state v.history a) (shape.here r found) k.read)));
      }

      split_held_after : (j : ℕ) (job : SplitJob) → split_of after.splits j ≡ Some job → (r : RangeState) × (range_of after.ranges j ≡ Some r)
      split_held_after j job found = elim (cases_eq j range) [
        | inl same ↦
            (let next = still_there job (sym split_shape.here ∙ subst (λ n. split_of after.splits n ≡ Some job) same found) in
            (next.0, subst (λ n. range_of after.ranges n ≡ Some next.0) (sym same) (shape.there next.0 next.1)))
        | inr apart ↦ (let held = run_of.split_held j job (sym (split_shape.others j apart) ∙ found) in (held.0, shape.others j apart ∙ held.1))
      ]

      own_runs : Runs generation nodes target later next_machines (next_run.history s) (inc s) s next_cell after
      own_runs = record {
        server = ap (λ (d : ServerContext). d.server) context_is ∙ run_of.server;
        session = ap (λ (d : ServerContext). d.session) context_is ∙ run_of.session;
        ascending = shape.ascending;
        held = λ j r.
            by_range (λ n u. range_of after.ranges n ≡ Some r → IsHeld generation nodes target later n u (next_run.history s n) (inc s n) (split_of after.splits n) r) (own_held r)
            (λ n apart found.
            aside_held s n (split_of after.splits n) r apart (rows_none s n next_cell after (entry_set c.servers s cell next_cell at) refl r found)
            (subst (λ job. IsHeld generation nodes target x.moves n (x.machines n) (y.history s n) (x.incarnation s n) job r) (sym (split_shape.others n apart)) (run_of.held n r (sym (shape.others n apart) ∙ found)))) j;
        splits_ascending = split_shape.ascending;
        split_held = split_held_after;
      }

      others_run : (u : ℕ) (other_cell : ServerCell) (v : ServerState) → (u ≡ s → ⊥) → entry_at next_servers u ≡ Some other_cell → other_cell.state ≡ Some v →
          Runs generation nodes target later next_machines (next_run.history u) (inc u) u other_cell v
      others_run u other_cell v other there up =
          let old = x.servers u other_cell v (sym (entry_other c.servers s cell next_cell at u other) ∙ there) up in
          record {
            server = old.server;
            session = old.session;
            ascending = old.ascending;
            held = λ j r.
                by_range (λ n m. range_of v.ranges n ≡ Some r → IsHeld generation nodes target later n m (next_run.history u n) (inc u n) (split_of v.splits n) r)
                (λ found. other_held u (split_of v.splits range) r other (rows_none u range other_cell v there up r found) (old.held range r found))
                (λ n apart found. aside_held u n (split_of v.splits n) r apart (rows_none u n other_cell v there up r found) (old.held n r found)) j;
            splits_ascending = old.splits_ascending;
            split_held = old.split_held;
          }

      all_run : (t : ℕ) (other_cell : ServerCell) (u : ServerState) → entry_at next_servers t ≡ Some other_cell → other_cell.state ≡ Some u →
          Runs generation nodes target later next_machines (next_run.history t) (inc t) t other_cell u
      all_run k other_cell u =
          by_one s (λ k. entry_at next_servers k ≡ Some other_cell → other_cell.state ≡ Some u → Runs generation nodes target later next_machines (next_run.history k) (inc k) k other_cell u)
          (λ there up.
          (let found : Some next_cell ≡ Some other_cell = sym (entry_set c.servers s cell next_cell at) ∙ there in
          let cell_is : next_cell ≡ other_cell = cc in
          subst (λ y. Runs generation nodes target later next_machines (next_run.history s) (inc s) s y u) cell_is
          (subst (λ y. Runs generation nodes target later next_machines (next_run.history s) (inc s) s next_cell y) (left.state_is c.servers s cell st at is range t.range t.job after shape split_shape other_cell u there up) own_runs)))
          (λ k apart. others_run k other_cell u apart) k

      -- ---- the two ranges of splits

      own_keyed : (r : RangeState) (job : SplitJob) → HeldAt next_servers s range r → SplitAt next_servers s range job → IsFirm generation base s range →
          (t.range ≡ Some r) × ((phase : SplitPhase) → job.phase ≡ phase → AreOthers range job phase) × KeysStand generation nodes target x.moves x.machines (y.history s) i r job job.phase
      own_keyed r job h found firm = (own_range r h, λ phase e. subst (AreOthers range job) e follows.others, own_keys r (own_range r h) job (own_split job found) firm)
        where
          follows : FollowsBoth generation range w i (Some job) r m_then l_then
          follows = subst (λ j. FollowsBoth generation range w i j r m_then l_then) (own_split job found) (next_follows r (own_range r h))

      keys_next : (u k : ℕ) (r : RangeState) (job : SplitJob) → HeldAt next_servers u k r → SplitAt next_servers u k job → IsFirm generation base u k → (n : ℕ) → inc u k ≡ Some n →
          KeysStand generation nodes target later next_machines (next_run.history u) n r job job.phase
      keys_next =
          keys_after generation nodes target x.moves later same_catalog all_notes x.machines next_machines y.history next_run.history s range i other_here apart_is
          (subst (λ v. IsOnward generation nodes target range x.moves later z v) (sym new_here) (goes_onward generation nodes target x.moves range z i st.context o Then goes later same_catalog all_notes))
          (λ n other. subst (λ v. IsSteady generation z v n) (sym new_here) (others_steady generation nodes target x.moves range z i st.context o Then goes n other)) c.servers next_servers base x.incarnation x.bound t.range these
          held_back split_back x.keys own_keyed apart

      -- ---- what is seen

      story_aside : (name : StreamName) → IsOther range name → next_run.story name ≡ y.story name
      story_aside name other = actions_aside s range (generation i) b actions k.on_either name other ∙ near.story name

      of_other : (j : ℕ) (kind : StreamKind) → (j ≡ range → ⊥) → IsOther range (stream_named j kind)
      of_other j kind apart = ((λ same. apart (ap (λ (u : StreamName). u.range) same)), (λ same. apart (ap (λ (u : StreamName). u.range) same)))

      all_seen : SeesAll next_run (λ j. (after_all Group generation (next_machines j).m).state.story) (λ j. (after_all Group generation (next_machines j).l).state.story)
      all_seen = record {
        metadata_is = by_range (λ j u. next_run.story (stream_named j kinds.Metadata) ≡ (after_all Group generation u.m).state.story)
            (ap (λ (u : RangeView). u.story kinds.Metadata) here_is ∙ sees.metadata ∙ sym (ap (λ (u : Side). u.stand.state.story) (m_side_is generation nodes target x.moves range z i st.context o Then goes)))
            (λ j apart. story_aside (stream_named j kinds.Metadata) (of_other j kinds.Metadata apart) ∙ x.stories.metadata_is j);
        log_is = by_range (λ j u. next_run.story (stream_named j kinds.Log) ≡ (after_all Group generation u.l).state.story)
            (ap (λ (u : RangeView). u.story kinds.Log) here_is ∙ sees.log ∙ sym (ap (λ (u : Side). u.stand.state.story) (l_side_is generation nodes target x.moves range z i st.context o Then goes)))
            (λ j apart. story_aside (stream_named j kinds.Log) (of_other j kinds.Log apart) ∙ x.stories.log_is j);
        others = λ name other. story_aside name (other range) ∙ x.stories.others name other;
      }

      -- what is formed of a metadata says checkpoints
      all_says : (j : ℕ) → AllSay (next_run.story (stream_named j kinds.Metadata))
      all_says =
          by_one range (λ j. AllSay (next_run.story (stream_named j kinds.Metadata)))
          (subst (λ (u : RangeView). AllSay (u.story kinds.Metadata)) (sym here_is)
          (actions_say (generation i) (view_at range b s) actions k.on_either (subst (λ story. AllSay story) (sym (near.story (stream_named range kinds.Metadata))) (x.says range))))
          (λ j apart. subst (λ story. AllSay story) (sym (story_aside (stream_named j kinds.Metadata) (of_other j kinds.Metadata apart))) (x.says j))

      -- what was shown was observed before the rule
      observed_before : (j : ℕ) → AreObserved c.stream_layer.notes (next_run.shown j)
      observed_before =
          by_one range (λ j. AreObserved c.stream_layer.notes (next_run.shown j))
          (subst (λ (u : RangeView). AreObserved c.stream_layer.notes u.shown) (sym here_is) (subst (λ (u : StreamSystem). AreObserved u.notes v.shown) x.leads k.observed.shown_there))
          (λ j other. subst (λ ps. AreObserved c.stream_layer.notes ps) (sym ((actions_bytes s range (generation i) j other b actions).0 ∙ near.shown j)) (x.observed j))

      acked_before : (j : ℕ) → AreObserved c.stream_layer.notes (next_run.answered j)
      acked_before =
          by_one range (λ j. AreObserved c.stream_layer.notes (next_run.answered j))
          (subst (λ (u : RangeView). AreObserved c.stream_layer.notes u.answered) (sym here_is) (subst (λ (u : StreamSystem). AreObserved u.notes v.answered) x.leads k.observed.answered_there))
          (λ j other. subst (λ ps. AreObserved c.stream_layer.notes ps) (sym ((actions_bytes s range (generation i) j other b actions).1 ∙ near.answered j)) (x.acked j))

      notes_are : next_run.notes ≡ y.notes ++ notes
      notes_are = ap (λ ns. ns ++ notes) ((actions_rest s range (generation i) b actions).1 ∙ near.notes)

      -- over any texts that have what was observed before the rule
      ordered : (texts : ℕ → Bytes) → AllTellRightly texts c.stream_layer.notes → (j : ℕ) → StreamsInOrder texts j next_run
      ordered texts all j = in_order generation next_run next_machines (λ n. (all_beside n).m_are) (λ n. (all_beside n).l_are) all_seen texts c.stream_layer.notes all j (observed_before j) (acked_before j)

      tables_told : AreLaid next_run notes → (texts : ℕ → Bytes) → AllTellRightly texts (noted c.stream_layer.notes notes) →
          AreSeenAs texts next_run.notes (server_notes (noted c.stream_layer.notes notes))
      tables_told laid texts all =
          let before : AllTellRightly texts c.stream_layer.notes = before_tells texts c.stream_layer.notes notes all in
          subst (λ ns. AreSeenAs texts ns (server_notes (noted c.stream_layer.notes notes))) (sym notes_are)
          (seen_all texts y.notes notes c.stream_layer.notes (bytes_of next_run) all
          (λ j. observed_both c.stream_layer.notes (next_run.shown j) (next_run.answered j) (observed_before j) (acked_before j))
          (laid.within texts (ordered texts before)) (x.told texts before))

      -- the cluster after the step
      pub stepped : AreLaid next_run notes → Standing generation nodes target base next_cluster next_run
      stepped laid = record {
        moves = later;
        leads = told.leads ∙ ap (λ u. with_told u ps notes) x.leads;
        machines = next_machines;
        beside = all_beside;
        grows = all_grow;
        distinct = all_distinct;
        past = all_past;
        numbers = all_numbers;
        out = all_out_after;
        from_map = map_tells;
        counted = x.counted;
        have = x.have;
        first = x.first;
        there = all_there;
        lists = all_lists;
        extends = all_extends;
        incarnation = inc;
        bound = x.bound + suc i;
        own = these.own;
        below = these.below;
        idle = idle_one;
        cells = refl;
        servers = all_run;
        aside = laid.aside;
        keys = keys_next;
        stories = all_seen;
        says = all_says;
        observed = λ j. observed_on c.stream_layer.notes (noted c.stream_layer.notes notes) (noted_keeps c.stream_layer.notes notes) (next_run.shown j) (observed_before j);
        acked = λ j. observed_on c.stream_layer.notes (noted c.stream_layer.notes notes) (noted_keeps c.stream_layer.notes notes) (next_run.answered j) (acked_before j);
        told = tables_told laid;
      }

      -- its machines and its incarnations are these
      pub stepped_so : (laid : AreLaid next_run notes) (u j : ℕ) → ((stepped laid).machines j ≡ next_machines j) × ((stepped laid).incarnation u j ≡ these.of u j)
      unfolding stepped
      stepped_so laid u j = (refl, refl)
