-- The metadata of one of the two ranges that a split makes goes on at the server of the split, which holds none of them: a cluster stands on.
use Rattle.std.proofs.Common.{◌≡◌, ◌⊎◌, ℕ, zero, suc, ◌-◌, ◌≤◌, List, [], ◌∷◌, Option, Some, None, Contains, slice_set, refl, sym, ap, ◌∙◌, subst, inl, inr, arith}
use Rattle.std.proofs.lemmas.Bool.{cases_eq}
use Rattle.wire.specs.declared.actor.ActorId.{ActorId}
use Rattle.wire.specs.declared.actor.ActorId.TheVariants.{Server}
use Rattle.wire.specs.declared.actor.ReqNo.{ReqNo}
use Rattle.wire.specs.declared.body.AppendBody.TheVariants as appends
use Rattle.wire.specs.declared.body.Body.{Body}
use Rattle.wire.specs.declared.body.Body.TheVariants as bodies
use Rattle.wire.specs.declared.body.CheckBody.TheVariants as checks
use Rattle.wire.specs.declared.body.ReadBody.TheVariants as reads
use Rattle.wire.specs.declared.body.SealBody.TheVariants as seals
use Rattle.wire.specs.declared.body.StreamBody.TheVariants as streams
use Rattle.wire.specs.declared.packet.Packet.{Packet}
use Rattle.wire.specs.declared.streams.Modify.{Modify}
use Rattle.wire.specs.declared.streams.StreamKind.TheVariants as kinds
use Rattle.wire.specs.declared.streams.StreamName.{StreamName}
use Rattle.replica.specs.Groups.{Group}
use Rattle.model_streams.specs.Maps.{entry_at}
use Rattle.model_streams.specs.Outcome.{packet}
use Rattle.model_streams.specs.StreamSystem.{StreamSystem}
use Rattle.model_partition.specs.declared.server_context.ServerContext.{ServerContext}
use Rattle.model_partition.specs.declared.split_job.Side.{Side as SplitSide}
use Rattle.model_partition.specs.declared.split_job.SplitJob.{SplitJob}
use Rattle.model_partition.specs.Cluster.{Cluster}
use Rattle.model_partition.specs.Range.{RangeState, request}
use Rattle.model_partition.specs.Server.{ServerState, range_of, split_of}
use Rattle.model_partition.specs.Servers.{ServerCell, with_told}
use Rattle.model_partition.specs.Splits.{SplitStep, side_range}
use Rattle.model_histories.specs.ServerRun.{ServerRun, after_actions, with_outcome}
use Rattle.model_histories.specs.ServerTurns.{after_all}
use Rattle.model_histories.specs.ServerTurns as turns
use Rattle.model_histories.specs.StreamActions.{StreamAction}
use Rattle.laws_loads.specs.RangeView.{RangeView, view_after_all}
use Rattle.laws_loads.proofs.Entries.{entry_other}
use Rattle.laws_stream_machine.specs.Refinement.{Purpose, Sent, asked_number}
use Rattle.laws_ranges.specs.Seen.{BeganAt, AreSeenOf, AreSeen}
use Rattle.laws_ranges.specs.Serves.{Stand, Side, after_turns, AreTurns, IsOwn, AreAsked, Apart, BothListed, IsSentBy, BothGo, metadata_of, sent_with}
use Rattle.laws_ranges.specs.SplitJobs.{AskedOfSplit}
use Rattle.laws_ranges.specs.SplitSides.{AreOwn}
use Rattle.laws_ranges.proofs.BothStreams.{apart_first, asked_of_metadata}
use Rattle.laws_ranges.proofs.MachineSteps.{purposes_on}
use Rattle.laws_ranges.proofs.OneStory.{others_leave, still_seen}
use Rattle.laws_ranges.proofs.ServedRules.{unused_on, same_unused}
use Rattle.laws_ranges.proofs.SplitSteps.{asked_widely}
use Rattle.laws_ranges.proofs.TurnsAsMoves.{stands_after}
use Rattle.laws_servers.specs.Sending.{AllFromServers}
use Rattle.laws_servers.proofs.ClientPackets.{may_send_all}
use Rattle.laws_server_runs.specs.RunInvariant.{view_at}
use Rattle.laws_server_runs.proofs.Actions.{actions_here}
use Rattle.laws_clusters.proofs.Invariant.{IsMaking, AreAside, HeldAt, SplitAt, IsFirm, KeysStand, SideIsThere, Machines, here, m_side, l_side, Runs, Standing, Bases}
use Rattle.laws_clusters.proofs.KeyActions.{AreOfKeys, of_metadata, keys_on_either, keys_observed}
use Rattle.laws_clusters.proofs.MapWords.{IsFounded}
use Rattle.laws_clusters.proofs.RangeActions.{SeesBytes}
use Rattle.laws_clusters.proofs.RangeRules.{both, outcome_of, Turned}
use Rattle.laws_clusters.proofs.RangeStreams.{HasStreams, catalog_stays, streams_stay, IsOfSplit}
use Rattle.laws_clusters.proofs.RangeSteps.{machines_after}
use Rattle.laws_clusters.proofs.RequestNumbers.{used_number}
use Rattle.laws_clusters.proofs.Senders.{none_from_map}
use Rattle.laws_clusters.proofs.ServerNumbers as numbers
use Rattle.laws_clusters.proofs.ServerRules as steps
use Rattle.laws_clusters.proofs.ServerRules.{IsNear, plain_laid}
use Rattle.laws_clusters.proofs.StepServers as left
use Rattle.laws_clusters.proofs.StepShapes.{AreLeft, SplitsLeft, StepWaits, Incarnations, aside_on, if_here, if_other}

-- nothing is left of a range that is not held
pub nothing_left : (z : RangeState) → None ≡ Some z → ⊥
nothing_left z e = cc

-- ---- packets about one stream alone

module _ (generation : ℕ → ℕ) (name : StreamName) (w : StreamSystem) (i : ℕ) where
  -- the number that one uses is that of a request about an extent or a list
  own_used : (sent : List Sent) (body : Body) → IsOwn generation name w i sent body → (q : ReqNo) → used_number body ≡ Some q → asked_number body ≡ Some q
  own_used sent (bodies.Append (appends.Append e g blocks v)) b q is = is
  own_used sent (bodies.Append body) b q is = absurd b
  own_used sent (bodies.Check (checks.Check e g v)) b q is = is
  own_used sent (bodies.Check body) b q is = absurd b
  own_used sent (bodies.Read (reads.ReadGroups e upto sealed v)) b q is = is
  own_used sent (bodies.Read body) b q is = absurd b
  own_used sent (bodies.Seal (seals.SealExtent e v)) b q is = is
  own_used sent (bodies.Seal body) b q is = absurd b
  own_used sent (bodies.Stream (streams.Extend stream g last pick v)) b q is = is
  own_used sent (bodies.Stream body) b q is = absurd b
  own_used sent body b q is = absurd b

  own_in : (x : Side) (ps : List Packet) → AreOwn generation w i name x ps → (p : Packet) → Contains ps p → IsOwn generation name w i x.sent p.body
  own_in x [] own p (at, less, is) = absurd (omega (arith, less))
  own_in x (z ∷ ps) own p (zero, less, is) = subst (λ (k : Packet). IsOwn generation name w i x.sent k.body) is own.0.1
  own_in x (z ∷ ps) own p (suc at, less, is) = own_in x ps own.1 p (at, omega (arith, less), is)

  own_asked : (range : ℕ) (x : Side) (ps : List Packet) → AreOwn generation w i name x ps → AreAsked generation range w i name x.stand x.sent ps
  own_asked range x [] own = tt
  own_asked range x (p ∷ ps) own = (inr own.0, own_asked range x ps own.1)

-- what an incarnation does on the metadata of a range that its server holds not: turns, each allowed, and at most one request
pub record MetadataMoves (generation : ℕ → ℕ) (range : ℕ) (w : StreamSystem) (i : ℕ) (a : Side) (d : ServerContext) (list : List (turns.Turn Group)) (purpose : Option Purpose) (actions : List StreamAction) (count : ℕ) (ps : List Packet) : Type 0 where
  pub allowed : AreTurns generation i a.stand list
  pub counts : (count ≡ suc d.count) ⊎ ((count ≡ d.count) × (purpose ≡ None))
  pub keys : AreOfKeys w.notes actions
  pub seen : (u : RangeView) → AreSeenOf generation i kinds.Metadata u a.stand list actions
  pub own : AreOwn generation w i (metadata_of range) (record { stand = after_turns generation i a.stand list; sent = sent_with (request d) purpose a.sent }) ps

module _ (generation : ℕ → ℕ) (nodes target : ℕ) {base : Bases generation} (c : Cluster) (y : ServerRun) (x : Standing generation nodes target base c y) (s : ℕ) (cell : ServerCell) (st : ServerState) (at : entry_at c.servers s ≡ Some cell) (is : cell.state ≡ Some st)
    (range : ℕ) (r : RangeState) (job : SplitJob) (was : split_of st.splits range ≡ Some job) (making : IsMaking job.phase) (midst : base.midst ≡ Some (s, range)) (i : ℕ) (mine : x.incarnation s range ≡ Some i)
    (side : SplitSide) (there : SideIsThere generation nodes target x.moves x.machines (y.history s) i r job side) where
  abbrev made : ℕ
  made = side_range job side

  abbrev w : StreamSystem
  w = here generation nodes target x.moves

  abbrev a : Side
  a = m_side generation (x.machines made) i

  abbrev l : Side
  l = l_side generation (x.machines made) i

  -- the streams of the range that is made are there
  pub founded : IsFounded c.stream_layer made
  founded = (there.counted, subst (λ (v : StreamSystem). HasStreams v made) x.leads there.streams)

  lists : BothListed w made
  lists = both generation nodes target c y x made founded

  run : Runs generation nodes target x.moves x.machines (y.history s) (x.incarnation s) s cell st
  run = numbers.run_of generation nodes target c y x s cell st at is

  -- no number of its requests is the next of the server
  pub by : IsSentBy st.context st.context.count a.sent l.sent
  by = numbers.sent_by generation nodes target c y x s cell st at is made

  split_here : SplitAt c.servers s range job
  split_here = record { cell = cell; state = st; there = at; up = is; found = was }

  -- the server holds no such range, and splits none
  pub unheld : (z : RangeState) → range_of st.ranges made ≡ Some z → ⊥
  unheld z found = x.aside.unheld s range job split_here making side z (record { cell = cell; state = st; there = at; up = is; found = found })

  unsplit : split_of st.splits made ≡ None
  unsplit = go (split_of st.splits made) refl
    where
      go : (o : Option SplitJob) → split_of st.splits made ≡ o → split_of st.splits made ≡ None
      go None e = e
      go (Some k) e = (let held = run.split_held made k e in absurd (unheld held.0 held.1))

  ranges_left : AreLeft st.ranges st.ranges made None
  ranges_left = record { ascending = run.ascending; here = λ z found. absurd (unheld z found); there = λ z left_so. absurd (nothing_left z left_so); others = λ j apart. refl }

  splits_left : SplitsLeft st.splits st.splits made None
  splits_left = record { ascending = run.splits_ascending; here = unsplit; others = λ j apart. refl }

  abbrev these : Incarnations x.incarnation x.bound s made i None
  these = record {
    of = x.incarnation;
    here = λ next left_so. absurd (nothing_left next left_so);
    others = λ t j test. refl;
    own = x.own;
    below = λ t j k e. (let less = x.below t j k e in omega (arith, less));
    alone = λ t j e. (x.own t s j range i e mine).0;
  }

  same_run : IsNear s made y y
  same_run = record { history = λ t j apart. refl; story = λ name. refl; shown = λ j. refl; answered = λ j. refl; notes = refl }

  -- no other split there makes it
  apart : (k : ℕ) (other : SplitJob) → SplitAt c.servers s k other → (k ≡ made → ⊥) → IsMaking other.phase → IsFirm generation base s k → (part : SplitSide) → side_range other part ≡ made → ⊥
  apart k other split differs too firm part same = firm (midst ∙ ap (λ n. Some (s, n)) (x.aside.once s range k job other split_here split making too side part (sym same)))

  seen_before : SeesBytes w.notes (view_at made y s).shown (view_at made y s).answered
  seen_before = subst (λ (z : StreamSystem). SeesBytes z.notes (y.shown made) (y.answered made)) (sym x.leads) (record { shown_there = x.observed made; answered_there = x.acked made })

  module _ (list : List (turns.Turn Group)) (purpose : Option Purpose) (actions : List StreamAction) (count : ℕ) (ps : List Packet) (m : MetadataMoves generation made w i a st.context list purpose actions count ps) (senders : AllFromServers ps) where
    abbrev t : SplitStep
    t = record { range = None; job = None; count = count; packets = ps }

    abbrev a_then : Side
    a_then = record { stand = after_turns generation i a.stand list; sent = sent_with (request st.context) purpose a.sent }

    -- numbers are never used again
    pub rises : st.context.count ≤ count
    rises = elim m.counts [ inl more ↦ omega (arith, more) | inr same ↦ (let e = same.0 in omega (arith, e)) ]

    -- and none is that of a request about its log
    pub apart_then : Apart a_then.sent l.sent
    apart_then = apart_first a.sent l.sent (request st.context) purpose by.apart (by.log st.context.count (omega arith))

    asked : AskedOfSplit generation made w i None None a_then l ps
    asked = asked_widely generation made w i None None a_then l ps (asked_of_metadata generation made w i lists None a_then l apart_then ps (own_asked generation (metadata_of made) w i made a_then ps m.own))

    abbrev goes : BothGo generation made w i (λ after n k. Unit {0}) a l st.context (outcome_of (Some r) t)
    goes = record {
      metadata_turns = list;
      log_turns = [];
      metadata_allowed = m.allowed;
      log_allowed = tt;
      none = λ e. absurd (nothing_left r (sym e));
      metadata_sent = a_then.sent;
      log_sent = l.sent;
      metadata_keeps = purposes_on (request st.context) purpose a.sent (by.metadata st.context.count (omega arith));
      log_keeps = λ q z e. e;
      rises = rises;
      metadata_adds = record { number = st.context.count; from = omega arith; purpose = purpose; is = refl };
      log_adds = record { number = st.context.count; from = omega arith; purpose = None; is = refl };
      sent_by = record { apart = apart_then; metadata = unused_on st.context count purpose a.sent by.metadata m.counts; log = same_unused st.context count purpose l.sent by.log m.counts };
      then = tt;
      asked = tt;
    }

    -- the story of its log stays
    seen : AreSeen generation i (view_at made y s) a.stand l.stand list [] actions
    seen z =
        let u : RangeView = view_after_all (generation i) (view_at made y s) actions in
        let one = m.seen (view_at made y s) (record { story = z.metadata; append = z.record_append }) in
        let two = still_seen generation i kinds.Log (view_at made y s) u l.stand (others_leave generation i kinds.Metadata kinds.Log refl (view_at made y s) actions (of_metadata w.notes actions m.keys)) (record { story = z.log; append = z.append }) in
        record { metadata = one.story; log = two.story; record_append = one.append; append = two.append }

    abbrev turned : Turned generation nodes target c y x made founded i st.context (view_at made y s) t actions
    turned = record {
      left = Some r;
      goes = goes;
      seen = seen;
      read = tt;
      on_either = keys_on_either w.notes actions m.keys;
      observed = keys_observed w.notes (generation i) (view_at made y s) seen_before actions m.keys;
    }

    -- the server after it, whose ranges and splits stay
    abbrev pub state_then : ServerState
    state_then = record st { context = record st.context { count = count } }

    -- its cell
    abbrev pub cell_then : ServerCell
    cell_then = record cell { state = Some state_then }

    -- all servers
    abbrev pub servers_then : List ServerCell
    servers_then = slice_set c.servers (s - 1) cell_then

    -- the cluster
    abbrev pub cluster_then : Cluster
    cluster_then = record c { stream_layer = with_told c.stream_layer ps []; servers = servers_then }

    -- and the run
    abbrev pub run_then : ServerRun
    run_then = with_outcome (after_actions s made (generation i) y actions) (record { servers = servers_then; packets = ps; notes = [] })

    state_is : (u : ServerCell) (v : ServerState) → entry_at servers_then s ≡ Some u → u.state ≡ Some v → state_then ≡ v
    state_is = left.state_is c.servers s cell st at is made None None state_then ranges_left splits_left

    split_back : (n k : ℕ) (other : SplitJob) → SplitAt servers_then n k other → SplitAt c.servers n k other
    split_back n k other h = elim (cases_eq n s) [
      | inl same ↦
          (let entry : entry_at servers_then s ≡ Some h.cell = subst (λ v. entry_at servers_then v ≡ Some h.cell) same h.there in
          let found : split_of st.splits k ≡ Some other = ap (λ (z : ServerState). split_of z.splits k) (state_is h.cell h.state entry h.up) ∙ h.found in
          subst (λ v. SplitAt c.servers v k other) (sym same) (record { cell = cell; state = st; there = at; up = is; found = found }))
      | inr other_server ↦ record { cell = h.cell; state = h.state; there = sym (entry_other c.servers s cell cell_then at n other_server) ∙ h.there; up = h.up; found = h.found }
    ]

    held_back : (n k : ℕ) (z : RangeState) → HeldAt servers_then n k z → HeldAt c.servers n k z
    held_back n k z h = elim (cases_eq n s) [
      | inl same ↦
          (let entry : entry_at servers_then s ≡ Some h.cell = subst (λ v. entry_at servers_then v ≡ Some h.cell) same h.there in
          let found : range_of st.ranges k ≡ Some z = ap (λ (u : ServerState). range_of u.ranges k) (state_is h.cell h.state entry h.up) ∙ h.found in
          subst (λ v. HeldAt c.servers v k z) (sym same) (record { cell = cell; state = st; there = at; up = is; found = found }))
      | inr other_server ↦ record { cell = h.cell; state = h.state; there = sym (entry_other c.servers s cell cell_then at n other_server) ∙ h.there; up = h.up; found = h.found }
    ]

    aside_then : AreAside servers_then
    aside_then = aside_on c.servers servers_then split_back (λ n k z h. (z, held_back n k z h)) x.aside

    gone : t.range ≡ None → (p : Packet) → Contains ps p → (q : ReqNo) → used_number p.body ≡ Some q → asked_number p.body ≡ Some q
    gone e p among q number = own_used generation (metadata_of made) w i a_then.sent p.body (own_in generation (metadata_of made) w i a_then ps m.own p among) q number

    none_built : (server : ℕ) (to : ActorId) (list : List Modify) (q : ReqNo) → Contains ps (packet (Server server) to (bodies.Stream (streams.MultiModify list q))) → (k : Modify) → Contains list k → IsOfSplit c.stream_layer list
    none_built server to list q among k in_list = absurd (own_in generation (metadata_of made) w i a_then ps m.own (packet (Server server) to (bodies.Stream (streams.MultiModify list q))) among)

    ends : t.range ≡ None → t.job ≡ None
    ends e = refl

    waits : StepWaits st made t ps
    waits next left_so = absurd (nothing_left next left_so)

    own_keys : (next : RangeState) → t.range ≡ Some next → (later : SplitJob) → t.job ≡ Some later → IsFirm generation base s made → KeysStand generation nodes target x.moves x.machines (y.history s) i next later later.phase
    own_keys next left_so = absurd (nothing_left next left_so)

    -- the cluster stands on
    pub moves : Standing generation nodes target base cluster_then run_then
    moves =
        steps.stepped generation nodes target c y x s cell st at is made founded i y same_run there.append (there.log ((y.history s made).append kinds.Log)) t [] actions turned ps (may_send_all ps senders) waits asked
        ends gone none_built (none_from_map ps senders) state_then refl ranges_left splits_left these apart own_keys (plain_laid run_then [] tt aside_then)

    -- the machines of the range go on so
    abbrev pub machines_then : Machines generation
    machines_then = machines_after generation nodes target x.moves made (x.machines made) i st.context (outcome_of (Some r) t) (λ after n k. Unit {0}) goes

    -- which are those of the range in the cluster
    pub moves_here : moves.machines made ≡ machines_then
    unfolding moves
    moves_here =
        (steps.stepped_so generation nodes target c y x s cell st at is made founded i y same_run there.append (there.log ((y.history s made).append kinds.Log)) t [] actions turned ps (may_send_all ps senders) waits asked
        ends gone none_built (none_from_map ps senders) state_then refl ranges_left splits_left these apart own_keys (plain_laid run_then [] tt aside_then) s made).0
        ∙ if_here made machines_then (x.machines made)

    -- and those of others stay
    pub moves_other : (j : ℕ) → (j ≡ made → ⊥) → moves.machines j ≡ x.machines j
    unfolding moves
    moves_other j differs =
        (steps.stepped_so generation nodes target c y x s cell st at is made founded i y same_run there.append (there.log ((y.history s made).append kinds.Log)) t [] actions turned ps (may_send_all ps senders) waits asked
        ends gone none_built (none_from_map ps senders) state_then refl ranges_left splits_left these apart own_keys (plain_laid run_then [] tt aside_then) s j).0
        ∙ if_other made j machines_then (x.machines j) differs

    -- the range that is split is of the incarnation that it was of
    pub moves_incarnation : moves.incarnation s range ≡ x.incarnation s range
    unfolding moves
    moves_incarnation =
        (steps.stepped_so generation nodes target c y x s cell st at is made founded i y same_run there.append (there.log ((y.history s made).append kinds.Log)) t [] actions turned ps (may_send_all ps senders) waits asked
        ends gone none_built (none_from_map ps senders) state_then refl ranges_left splits_left these apart own_keys (plain_laid run_then [] tt aside_then) s range).1

    -- so the incarnation stands there
    pub moves_side : m_side generation (moves.machines made) i ≡ a_then
    moves_side = ap (λ (z : Machines generation). m_side generation z i) moves_here ∙ ap (λ (k : Stand). record { stand = k; sent = a_then.sent }) (stands_after generation i list (x.machines made).m)

    -- the range is there still
    pub moves_there : SideIsThere generation nodes target moves.moves moves.machines (run_then.history s) i r job side
    moves_there = record {
      counted = there.counted;
      streams = subst (λ (v : StreamSystem). HasStreams v made) (sym moves.leads) (streams_stay c.stream_layer cluster_then.stream_layer (catalog_stays c.stream_layer cluster_then.stream_layer refl) made founded.1);
      append = subst (λ (k : Side). BeganAt ((run_then.history s made).append kinds.Metadata) k.stand.phase) (sym moves_side)
          (subst (λ (u : RangeView). BeganAt (u.history.append kinds.Metadata) a_then.stand.phase) (sym (actions_here s made (generation i) y actions))
          (m.seen (view_at made y s) (record { story = x.stories.metadata_is made; append = there.append })).append);
      log = λ event. subst (λ (z : Machines generation). BeganAt event ((after_all Group generation z.l).phase i)) (sym moves_here) (there.log event);
    }
