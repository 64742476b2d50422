-- A cluster stands on where a range that is being split takes a step at a server, and its split behind it.
use Rattle.std.proofs.Common.{◌≡◌, ◌⊎◌, ℕ, ◌-◌, true, false, List, [], ◌∷◌, ◌++◌, Option, Some, None, Contains, slice_set, refl, sym, ap, ◌∙◌, subst, inl, inr, append_assoc, append-nil}
use Rattle.wire.specs.declared.actor.ActorId.{ActorId}
use Rattle.wire.specs.declared.actor.ActorId.TheVariants.{Server}
use Rattle.wire.specs.declared.actor.ReqNo.{ReqNo}
use Rattle.wire.specs.declared.actor.ReqNo.TheVariants as requests
use Rattle.wire.specs.declared.body.Body.{Body}
use Rattle.wire.specs.declared.body.Body.TheVariants as bodies
use Rattle.wire.specs.declared.body.StreamBody.TheVariants as streams
use Rattle.wire.specs.declared.packet.Packet.{Packet}
use Rattle.wire.specs.declared.streams.Modify.{Modify}
use Rattle.client.specs.Client.{awaits}
use Rattle.model_streams.specs.Maps.{entry_at}
use Rattle.model_streams.specs.Outcome.{packet}
use Rattle.model_streams.specs.StreamSystem.{StreamSystem}
use Rattle.model_partition.specs.declared.split_job.Side.{Side as SplitSide}
use Rattle.model_partition.specs.declared.split_job.SplitJob.{SplitJob}
use Rattle.model_partition.specs.declared.table_note.TableNote.{TableNote}
use Rattle.model_partition.specs.Cluster.{Cluster}
use Rattle.model_partition.specs.Range.{RangeState, RangeOutcome}
use Rattle.model_partition.specs.Server.{ServerState, range_of, set_range, split_of, set_split}
use Rattle.model_partition.specs.Servers.{ServerCell, ServersOutcome, noted, with_told}
use Rattle.model_partition.specs.Splits.{SplitStep, side_range}
use Rattle.model_histories.specs.ServerRun.{ServerRun, after_action, after_actions, with_outcome}
use Rattle.model_histories.specs.StreamActions.{StreamAction, Reads, Forms, Stands, Shows, Finds, Stores}
use Rattle.laws_stream_machine.specs.Refinement.{asked_number}
use Rattle.laws_ranges.specs.Serves.{Side, IsPastRows, IsSentBy}
use Rattle.laws_ranges.specs.SplitJobs.{FollowsBoth, FollowsBothIf, silent}
use Rattle.laws_ranges.proofs.SplitsKept.{both_under, both_row_data}
use Rattle.laws_servers.specs.Sending.{AllFromServers}
use Rattle.laws_servers.proofs.ClientPackets.{may_send_all}
use Rattle.laws_server_runs.specs.Places.{AreAscending}
use Rattle.laws_server_runs.specs.RunInvariant.{view_at}
use Rattle.laws_server_runs.proofs.RangeLists.{inserted_here, inserted_other, ascending_inserted, dropped_here, dropped_other, left_here, left_other, ascending_left}
use Rattle.laws_clusters.proofs.ClientJobs.{AsksBy}
use Rattle.laws_clusters.proofs.Invariant.{HeldAt, SplitAt, IsMaking, IsFirm, KeysStand, OfRows, Out, here, m_side, l_side, Holds, IsHeld, Runs, Standing, Bases}
use Rattle.laws_clusters.proofs.RangeActions.{SeesBytes}
use Rattle.laws_clusters.proofs.MapWords.{IsFounded}
use Rattle.laws_clusters.proofs.RangeRules.{Acted, Turned, turned}
use Rattle.laws_clusters.proofs.RangeSteps as going
use Rattle.laws_clusters.proofs.RangeStreams.{IsOfSplit}
use Rattle.laws_clusters.proofs.RequestNumbers.{used_number, asked_used}
use Rattle.laws_clusters.proofs.RowRules.{RowsFrom}
use Rattle.laws_clusters.proofs.RowSteps.{IsNew}
use Rattle.laws_clusters.proofs.Senders.{none_from_map}
use Rattle.laws_clusters.proofs.ServerNumbers as numbers
use Rattle.laws_clusters.proofs.ServerRules as steps
use Rattle.laws_clusters.proofs.ServerRules.{AreLaid}
use Rattle.laws_clusters.proofs.StepShapes.{AreLeft, SplitsLeft, RowsWaited, StepWaits, own_incarnations, if_other}
use Rattle.laws_clusters.proofs.SplitRequests.{AllAskOfSplit, one_of_split}

-- ---- runs

-- servers and what they show are apart from what is done with streams
action_outcome : (s range g : ℕ) (y : ServerRun) (o : ServersOutcome) (action : StreamAction) → after_action s range g (with_outcome y o) action ≡ with_outcome (after_action s range g y action) o
action_outcome s range g y o (Reads kind read) = refl
action_outcome s range g y o (Forms kind group) = refl
action_outcome s range g y o (Stands kind extent at group) = refl
action_outcome s range g y o (Shows start log_end metadata_end) = refl
action_outcome s range g y o (Finds found) = refl
action_outcome s range g y o (Stores stored) = refl

-- and so are all of them
pub actions_outcome : (s range g : ℕ) (y : ServerRun) (o : ServersOutcome) (actions : List StreamAction) → after_actions s range g (with_outcome y o) actions ≡ with_outcome (after_actions s range g y actions) o
actions_outcome s range g y o [] = refl
actions_outcome s range g y o (action ∷ earlier) =
    ap (λ z. after_action s range g z action) (actions_outcome s range g y o earlier) ∙ action_outcome s range g (after_actions s range g y earlier) o action

actions_joined : (s range g : ℕ) (y : ServerRun) (later earlier : List StreamAction) → after_actions s range g y (later ++ earlier) ≡ after_actions s range g (after_actions s range g y earlier) later
actions_joined s range g y [] earlier = refl
actions_joined s range g y (action ∷ later) earlier = ap (λ z. after_action s range g z action) (actions_joined s range g y later earlier)

-- one step behind another, of which the first shows nothing
pub steps_joined : (s range g : ℕ) (y : ServerRun) (later earlier : List StreamAction) (first second : List ServerCell) (ps qs all : List Packet) (notes : List TableNote) →
    with_outcome (after_actions s range g (with_outcome (after_actions s range g y earlier) (record { servers = first; packets = ps; notes = [] })) later) (record { servers = second; packets = qs; notes = notes })
    ≡ with_outcome (after_actions s range g y (later ++ earlier)) (record { servers = second; packets = all; notes = notes })
steps_joined s range g y later earlier first second ps qs all notes =
    ap (λ z. with_outcome z (record { servers = second; packets = qs; notes = notes })) (actions_outcome s range g (after_actions s range g y earlier) (record { servers = first; packets = ps; notes = [] }) later)
    ∙ ap (λ ns. record (after_actions s range g (after_actions s range g y earlier) later) { servers = second; notes = ns ++ notes }) (append-nil (after_actions s range g (after_actions s range g y earlier) later).notes)
    ∙ ap (λ z. with_outcome z (record { servers = second; packets = all; notes = notes })) (sym (actions_joined s range g y later earlier))

pub told_joined : (w : StreamSystem) (ps qs : List Packet) (notes : List TableNote) → with_told (with_told w ps []) qs notes ≡ with_told w (ps ++ qs) notes
told_joined w ps qs notes = ap (λ (k : List Packet). record w { post = k; notes = noted w.notes notes }) (append_assoc w.post ps qs)

-- ---- lists of ranges and splits

-- a split is left so
pub split_shape_of : (before : List (ℕ × SplitJob)) (range : ℕ) (o : Option SplitJob) → AreAscending before → SplitsLeft before (set_split before range o) range o
split_shape_of before range None ascending = record { ascending = ascending_left before range None ascending; here = dropped_here before range ascending; others = λ j apart. dropped_other before range j apart }
split_shape_of before range (Some job) ascending = record { ascending = ascending_inserted before range job ascending; here = inserted_here before range job; others = λ j apart. inserted_other before range job j apart }

-- ---- a step of one range at a server

module _ (generation : ℕ → ℕ) (nodes target : ℕ) {base : Bases generation} (c : Cluster) (y : ServerRun) (x : Standing generation nodes target base c y) (s : ℕ) (cell : ServerCell) (st : ServerState) (at : entry_at c.servers s ≡ Some cell) (is : cell.state ≡ Some st)
    (range : ℕ) (r : RangeState) (found : range_of st.ranges range ≡ Some r) (before : Option SplitJob) (was : split_of st.splits range ≡ before) where
  abbrev pub w : StreamSystem
  w = here generation nodes target x.moves

  run : Runs generation nodes target x.moves x.machines (y.history s) (x.incarnation s) s cell st
  run = numbers.run_of generation nodes target c y x s cell st at is

  pub held : IsHeld generation nodes target x.moves range (x.machines range) (y.history s range) (x.incarnation s range) before r
  held = subst (λ job. IsHeld generation nodes target x.moves range (x.machines range) (y.history s range) (x.incarnation s range) job r) was (run.held range r found)

  abbrev pub i : ℕ
  i = held.incarnation

  pub holds : Holds generation nodes target x.moves range (x.machines range) (y.history s range) i before r
  holds = held.holds

  alone : (t j : ℕ) → x.incarnation t j ≡ Some i → (t ≡ s) × (j ≡ range)
  alone t j e = x.own t s j range i e held.is

  held_here : HeldAt c.servers s range r
  held_here = record { cell = cell; state = st; there = at; up = is; found = found }

  -- its streams are there
  pub founded : IsFounded c.stream_layer range
  founded = (held.counted, x.there s range r held_here)

  out : (q : ReqNo) → awaits r.rows.job q ≡ true → Out generation c.servers x.machines c.stream_layer.post s range OfRows q
  out q waits = x.out s range OfRows q (r, held_here, waits)

  pub past_rows : IsPastRows st.context r
  past_rows n from waits = numbers.not_used generation nodes target c y x s cell st at is n from (out (requests.Server st.context.server st.context.session n) waits).past

  pub rows_asked : (q : ReqNo) → awaits r.rows.job q ≡ true → (server : ℕ) (to : ActorId) (b : Body) → Contains w.post (packet (Server server) to b) → asked_number b ≡ Some q → AsksBy r.rows b
  rows_asked q waits server to b there number = (out q waits).asked server to b (subst (λ (z : StreamSystem). Contains z.post (packet (Server server) to b)) x.leads there) (asked_used b q number) r held_here

  pub sent_by : IsSentBy st.context st.context.count (x.machines range).m_sent (x.machines range).l_sent
  sent_by = numbers.sent_by generation nodes target c y x s cell st at is range

  pub seen_here : SeesBytes w.notes (y.shown range) (y.answered range)
  seen_here = subst (λ (z : StreamSystem). SeesBytes z.notes (y.shown range) (y.answered range)) (sym x.leads) (record { shown_there = x.observed range; answered_there = x.acked range })

  same_run : steps.IsNear s range y y
  same_run = record { history = λ t j apart. refl; story = λ name. refl; shown = λ j. refl; answered = λ j. refl; notes = refl }

  -- the server after a step, with these ranges and splits
  abbrev pub state_after : SplitStep → List (ℕ × RangeState) → List (ℕ × SplitJob) → ServerState
  state_after t ranges splits = record st { context = record st.context { count = t.count }; ranges = ranges; splits = splits }

  abbrev pub cell_after : SplitStep → List (ℕ × RangeState) → List (ℕ × SplitJob) → ServerCell
  cell_after t ranges splits = record cell { state = Some (state_after t ranges splits) }

  abbrev pub cluster_after : SplitStep → List TableNote → List (ℕ × RangeState) → List (ℕ × SplitJob) → Cluster
  cluster_after t notes ranges splits = record c { stream_layer = with_told c.stream_layer t.packets notes; servers = slice_set c.servers (s - 1) (cell_after t ranges splits) }

  abbrev pub run_after : SplitStep → List TableNote → List StreamAction → List (ℕ × RangeState) → List (ℕ × SplitJob) → ServerRun
  run_after t notes actions ranges splits =
      with_outcome (after_actions s range (generation i) y actions) (record { servers = slice_set c.servers (s - 1) (cell_after t ranges splits); packets = t.packets; notes = notes })

  abbrev pub Does : SplitStep → List StreamAction → Type 0
  Does t actions = Acted generation nodes target c y x range founded i st.context (view_at range y s) t actions

  -- a split that a step leaves is of the range
  pub range_of_job : (t : SplitStep) (actions : List StreamAction) → Does t actions → (later : SplitJob) → t.job ≡ Some later → (next : RangeState) → t.range ≡ Some next → later.range ≡ range
  range_of_job t actions acted later e next is_next =
      let a : Side = going.m_after generation nodes target x.moves range (x.machines range) i st.context (silent t) (FollowsBothIf generation range w i t.job) acted.rule.step.goes in
      let b : Side = going.l_after generation nodes target x.moves range (x.machines range) i st.context (silent t) (FollowsBothIf generation range w i t.job) acted.rule.step.goes in
      (subst (λ j. FollowsBoth generation range w i j next a b) e (subst (λ o. FollowsBothIf generation range w i t.job o a b) is_next acted.rule.step.goes.then)).range_is

  -- the two ranges of its split stand so, as the machines are before the step
  abbrev pub OwnKeys : SplitStep → Type 0
  OwnKeys t =
      (next : RangeState) → t.range ≡ Some next → (later : SplitJob) → t.job ≡ Some later → IsFirm generation base s range → KeysStand generation nodes target x.moves x.machines (y.history s) i next later later.phase

  -- it is none of the two of another split there
  pub aside_here : (k : ℕ) (other : SplitJob) → SplitAt c.servers s k other → (k ≡ range → ⊥) → IsMaking other.phase → IsFirm generation base s k → (side : SplitSide) → side_range other side ≡ range → ⊥
  aside_here k other split apart making firm side same = x.aside.unheld s k other split making side r (subst (λ j. HeldAt c.servers s j r) (sym same) held_here)

  -- a cluster stands after a step, where what it shows is laid
  module _ (t : SplitStep) (notes : List TableNote) (actions : List StreamAction) (acted : Does t actions) (senders : AllFromServers t.packets) (waits : StepWaits st range t t.packets) (ends : t.range ≡ None → t.job ≡ None)
      (gone : t.range ≡ None → (p : Packet) → Contains t.packets p → (q : ReqNo) → used_number p.body ≡ Some q → asked_number p.body ≡ Some q) (builds : AllAskOfSplit c.stream_layer t.packets)
      (own_keys : OwnKeys t) (ranges : List (ℕ × RangeState)) (shape : AreLeft st.ranges ranges range t.range) (splits : List (ℕ × SplitJob)) (split_shape : SplitsLeft st.splits splits range t.job)
      (laid : AreLaid (run_after t notes actions ranges splits) notes) where
    abbrev machine_step : Turned generation nodes target c y x range founded i st.context (view_at range y s) t actions
    machine_step = turned generation nodes target c y x range founded i st.context (view_at range y s) t actions acted

    lists : (server : ℕ) (to : ActorId) (list : List Modify) (q : ReqNo) → Contains t.packets (packet (Server server) to (bodies.Stream (streams.MultiModify list q))) → (m : Modify) → Contains list m → IsOfSplit c.stream_layer list
    lists server to list q now m among = one_of_split c.stream_layer t.packets builds (packet (Server server) to (bodies.Stream (streams.MultiModify list q))) now

    pub step_stands : Standing generation nodes target base (cluster_after t notes ranges splits) (run_after t notes actions ranges splits)
    step_stands =
        steps.stepped generation nodes target c y x s cell st at is range founded i y same_run holds.record_append holds.append t notes actions machine_step t.packets (may_send_all t.packets senders) waits acted.rule.step.asked ends gone
        lists (none_from_map t.packets senders) (state_after t ranges splits) refl shape split_shape (own_incarnations x.incarnation x.bound s range i x.own x.below alone t.range) aside_here own_keys laid

    -- the machines of other ranges stay
    pub step_machines : (j : ℕ) → (j ≡ range → ⊥) → step_stands.machines j ≡ x.machines j
    unfolding step_stands
    step_machines j apart =
        (steps.stepped_so generation nodes target c y x s cell st at is range founded i y same_run holds.record_append holds.append t notes actions machine_step t.packets (may_send_all t.packets senders) waits acted.rule.step.asked ends gone
        lists (none_from_map t.packets senders) (state_after t ranges splits) refl shape split_shape (own_incarnations x.incarnation x.bound s range i x.own x.below alone t.range) aside_here own_keys laid s j).0
        ∙ if_other range j _ (x.machines j) apart

    -- and the range is of the incarnation that it was of
    pub step_incarnation : (next : RangeState) → t.range ≡ Some next → step_stands.incarnation s range ≡ Some i
    unfolding step_stands
    step_incarnation next is_next =
        (steps.stepped_so generation nodes target c y x s cell st at is range founded i y same_run holds.record_append holds.append t notes actions machine_step t.packets (may_send_all t.packets senders) waits acted.rule.step.asked ends gone
        lists (none_from_map t.packets senders) (state_after t ranges splits) refl shape split_shape (own_incarnations x.incarnation x.bound s range i x.own x.below alone t.range) aside_here own_keys laid s range).1
        ∙ (own_incarnations x.incarnation x.bound s range i x.own x.below alone t.range).here next is_next

  -- the range is left so
  pub shape_of : (o : Option RangeState) → AreLeft st.ranges (set_range st.ranges range o) range o
  shape_of o = record {
    ascending = ascending_left st.ranges range o run.ascending;
    here = λ u there. sym (left_here st.ranges range r o run.ascending found) ∙ there;
    there = λ u is_next. left_here st.ranges range r o run.ascending found ∙ is_next;
    others = λ j apart. left_other st.ranges range o j apart;
  }

  pub splits_of : (o : Option SplitJob) → SplitsLeft st.splits (set_split st.splits range o) range o
  splits_of o = split_shape_of st.splits range o run.splits_ascending

  pub same_splits : SplitsLeft st.splits st.splits range before
  same_splits = record { ascending = run.splits_ascending; here = was; others = λ j apart. refl }

  -- ---- what waits after a rule of the range, whose split stays

  pub rows_from : (o : RangeOutcome) (next : RangeState) → RowsFrom st.context r.rows o.count next.rows → next.rows.stream ≡ r.rows.stream → (q : ReqNo) → awaits next.rows.job q ≡ true → RowsWaited st range next q ⊎ IsNew st.context o.count q
  rows_from o next (inl (inl idle)) stream q waits = absurd (let z : false ≡ true = sym (ap (λ j. awaits j q) idle) ∙ waits in cc)
  rows_from o next (inl (inr same)) stream q waits = inl (r, found, record { job = same.0; group = same.1; stream = stream })
  rows_from o next (inr fresh) stream q waits = inr (fresh q waits)

  module _ (t : SplitStep) (actions : List StreamAction) (acted : Does t actions) where
    -- the list of row data is the range's own
    pub stream_kept : (next : RangeState) → t.range ≡ Some next → next.rows.stream ≡ r.rows.stream
    stream_kept next is_next =
        let a : Side = going.m_after generation nodes target x.moves range (x.machines range) i st.context (silent t) (FollowsBothIf generation range w i t.job) acted.rule.step.goes in
        let b : Side = going.l_after generation nodes target x.moves range (x.machines range) i st.context (silent t) (FollowsBothIf generation range w i t.job) acted.rule.step.goes in
        (both_row_data generation range w i a b next t.job (subst (λ o. FollowsBothIf generation range w i t.job o a b) is_next acted.rule.step.goes.then)).stream
        ∙ sym (both_row_data generation range w i (m_side generation (x.machines range) i) (l_side generation (x.machines range) i) r before holds.follows).stream

    -- and so is its generation
    pub generation_kept : (next : RangeState) → t.range ≡ Some next → next.load.generation ≡ r.load.generation
    generation_kept next is_next =
        let a : Side = going.m_after generation nodes target x.moves range (x.machines range) i st.context (silent t) (FollowsBothIf generation range w i t.job) acted.rule.step.goes in
        let b : Side = going.l_after generation nodes target x.moves range (x.machines range) i st.context (silent t) (FollowsBothIf generation range w i t.job) acted.rule.step.goes in
        both_under generation range w i a b next t.job (subst (λ o. FollowsBothIf generation range w i t.job o a b) is_next acted.rule.step.goes.then)
        ∙ sym (both_under generation range w i (m_side generation (x.machines range) i) (l_side generation (x.machines range) i) r before holds.follows)
