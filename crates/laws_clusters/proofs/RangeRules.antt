-- What a range at a server does, as a cluster that stands has it: each rule goes on in the streams as servers see them, and what
-- it leaves has read what servers say.
use Rattle.std.proofs.Common.{◌≡◌, ℕ, ◌≤◌, Bool, true, List, [], Option, Some, None, Contains, slice_get, refl, sym, ap, ◌∙◌, subst}
use Rattle.wire.specs.declared.actor.ActorId.{ActorId}
use Rattle.wire.specs.declared.actor.ActorId.TheVariants.{Server}
use Rattle.wire.specs.declared.actor.ReqNo.{ReqNo}
use Rattle.wire.specs.declared.body.Body.{Body}
use Rattle.wire.specs.declared.streams.StreamKind.{StreamKind}
use Rattle.wire.specs.declared.streams.StreamKind.TheVariants as kinds
use Rattle.wire.specs.declared.streams.StreamName.{StreamName}
use Rattle.wire.specs.declared.transaction.Change.{Change}
use Rattle.replica.specs.Groups.{Group}
use Rattle.streams.specs.Streams.{Stream, stream_of}
use Rattle.laws_streams.proofs.Listings.{lists_grow}
use Rattle.client.specs.declared.load.LoadPhase.TheVariants as phases
use Rattle.client.specs.Client.{awaits, reply_rule}
use Rattle.model_streams.specs.Outcome.{packet}
use Rattle.model_streams.specs.StreamSystem.{StreamSystem, Move, run_moves, start}
use Rattle.model_partition.specs.declared.server_context.ServerContext.{ServerContext}
use Rattle.model_partition.specs.Answering.{answered_number, is_answerer, answer_rule, give_up_all}
use Rattle.model_partition.specs.Cluster.{Cluster}
use Rattle.model_partition.specs.Getting.{get_rule}
use Rattle.model_partition.specs.declared.split_job.SplitJob.{SplitJob}
use Rattle.model_partition.specs.Splits.{SplitStep}
use Rattle.model_partition.specs.Range.{RangeState, RangeOutcome, request, picking, is_serving}
use Rattle.model_partition.specs.Server.{new_range}
use Rattle.model_histories.specs.ServerRun.{ServerRun, first_history, stream_named, bytes_read}
use Rattle.model_partition.specs.Checkpoints.{checkpoint_fault, checkpoint_rule}
use Rattle.model_partition.specs.Serving.{transact_rule}
use Rattle.model_histories.specs.ServerTurns.{after_all}
use Rattle.model_histories.specs.StreamActions.{StreamAction, transact_actions, answer_actions}
use Rattle.laws_loads.specs.RangeView.{RangeView, view_after_all}
use Rattle.laws_stream_machine.specs.Refinement.{Means, asked_number, extents_of}
use Rattle.laws_stream_machine.proofs.LowerLayer.{Below, below_made, below_index, below_alone}
use Rattle.laws_ranges.specs.Seen.{AreSeen, LoadIsRead, RuleSees}
use Rattle.laws_ranges.specs.Serves.{Side, metadata_of, log_of, rows_of, IsOfRows, IsPastRows, BeginsRightly, BothListed, IsCounted, IsConfirming, IsServing, StageIs, Follows, FollowsIf, IsSentBy, BothGo}
use Rattle.laws_ranges.specs.SplitJobs.{FollowsBothIf, SplitSees}
use Rattle.laws_ranges.proofs.SplitSteps.{rule_split}
use Rattle.laws_ranges.proofs.BothStreamsAtOnce.{taken}
use Rattle.laws_ranges.proofs.SeenRules.{assigned_sees, transact_sees, get_sees, give_up_sees, checkpoint_sees, answer_sees}
use Rattle.laws_ranges.proofs.Stages.{serving_only}
use Rattle.laws_ranges.proofs.TurnsAsMoves.{is_counted}
use Rattle.laws_log_reads.specs.Reads.{HasRead, HasReadIf, RuleReads, StandsOnce, IsSized}
use Rattle.laws_log_reads.proofs.AnswerRules.{answer_left}
use Rattle.laws_log_reads.proofs.OneScript.{stands_once, all_sized}
use Rattle.laws_log_reads.proofs.OtherRules.{new_read, get_left, give_up_left, transact_left, checkpoint_left}
use Rattle.laws_log_reads.proofs.ReadCopies.{load_is_read, begins_rightly, reads_observed}
use Rattle.laws_log_reads.proofs.ToldIsShown.{shows_now}
use Rattle.laws_clusters.proofs.AckedAppends.{out_acked, record_acked}
use Rattle.laws_clusters.proofs.ClientJobs.{AsksBy}
use Rattle.laws_clusters.proofs.Copies.{AllSay, has_one_region}
use Rattle.laws_clusters.proofs.RowAnswers.{load_number, rows_told, rows_acked, bytes_seen}
use Rattle.laws_clusters.proofs.Invariant.{Machines, AreBeside, there_below, here, m_side, l_side, Standing, Bases}
use Rattle.laws_clusters.proofs.MapWords.{IsFounded}
use Rattle.laws_clusters.proofs.RangeStreams.{HasStreams}
use Rattle.laws_clusters.proofs.ObservedBytes.{AreObserved}
use Rattle.laws_clusters.proofs.RangeActions.{AreOnEither, SeesBytes, OutAcked, RecordAcked, transact_on, answer_on, reads_seen, transact_seen, answer_seen}

kinds_differ : (range : ℕ) → metadata_of range ≡ log_of range → ⊥
kinds_differ range e = let z : kinds.Metadata ≡ kinds.Log = ap (λ (n : StreamName). n.kind) e in cc

rows_differ : (range : ℕ) (kind : StreamKind) → (kinds.RowData ≡ kind → ⊥) → rows_of range ≡ stream_named range kind → ⊥
rows_differ range kind apart e = apart (ap (λ (n : StreamName). n.kind) e)

-- an extent of row data is made
rows_made : (nodes target : ℕ) (moves : List Move) (range e : ℕ) → IsOfRows (run_moves moves (start nodes target)) range e → (run_moves moves (start nodes target)).catalog.extent e ≡ None → ⊥
rows_made nodes target moves range e (index, at) none = go (stream_of (run_moves moves (start nodes target)).catalog.stream (rows_of range)) refl at
  where
    go : (o : Option Stream) → stream_of (run_moves moves (start nodes target)).catalog.stream (rows_of range) ≡ o → slice_get (extents_of o) index ≡ Some e → ⊥
    go None is there = absurd cc
    go (Some z) is there =
        let made = ((lists_grow nodes target moves []).listed (rows_of range) z is).there index e there in
        let both : None ≡ Some made.0 = sym none ∙ made.1 in cc

-- a step, where this is left of the range
abbrev pub outcome_of : Option RangeState → SplitStep → RangeOutcome
outcome_of left t = record { after = left; count = t.count; packets = []; notes = [] }

module _ (generation : ℕ → ℕ) (nodes target : ℕ) {base : Bases generation} (c : Cluster) (y : ServerRun) (x : Standing generation nodes target base c y) (range : ℕ) (founded : IsFounded c.stream_layer range) where
  abbrev w : StreamSystem
  w = here generation nodes target x.moves

  abbrev z : Machines generation
  z = x.machines range

  beside : AreBeside generation nodes target x.moves range z
  beside = x.beside range

  -- its streams are there
  has : HasStreams w range
  has = subst (λ (v : StreamSystem). HasStreams v range) (sym x.leads) founded.1

  pub metadata_below : Below generation (metadata_of range) nodes target x.moves (after_all Group generation z.m) z.m_sent
  metadata_below = there_below generation nodes target x.moves (metadata_of range) z.m z.m_sent (beside.metadata founded.0) (has kinds.Metadata)

  pub log_below : Below generation (log_of range) nodes target x.moves (after_all Group generation z.l) z.l_sent
  log_below = there_below generation nodes target x.moves (log_of range) z.l z.l_sent (beside.log founded.0) (has kinds.Log)

  -- what was formed of the metadata leaves one region
  says : AllSay (after_all Group generation z.m).state.story
  says = subst (λ story. AllSay story) (x.stories.metadata_is range) (x.says range)

  pub both : BothListed w range
  both = record {
    metadata = record {
      made = below_made generation (metadata_of range) nodes target x.moves (after_all Group generation z.m) z.m_sent metadata_below;
      once = below_index generation (metadata_of range) nodes target (λ k. cc) x.moves (after_all Group generation z.m) z.m_sent metadata_below;
    };
    log = record {
      made = below_made generation (log_of range) nodes target x.moves (after_all Group generation z.l) z.l_sent log_below;
      once = below_index generation (log_of range) nodes target (λ k. cc) x.moves (after_all Group generation z.l) z.l_sent log_below;
    };
    apart = λ j k e one two unsealed. below_alone generation (log_of range) nodes target (λ u. cc) x.moves (metadata_of range) (kinds_differ range) j k e one (two, unsealed);
    rows_made = λ e there. rows_made nodes target x.moves range e there;
    rows_metadata = λ k e there at unsealed. below_alone generation (metadata_of range) nodes target (λ u. cc) x.moves (rows_of range) (rows_differ range kinds.Metadata (λ z. cc)) there.0 k e there.1 (at, unsealed);
    rows_log = λ k e there at unsealed. below_alone generation (log_of range) nodes target (λ u. cc) x.moves (rows_of range) (rows_differ range kinds.Log (λ z. cc)) there.0 k e there.1 (at, unsealed);
  }

  module _ (i : ℕ) (d : ServerContext) where
    abbrev m : Side
    m = m_side generation z i

    abbrev l : Side
    l = l_side generation z i

    -- what a rule of this incarnation does, where this is seen of its range before it
    pub record Done (v : RangeView) (o : RangeOutcome) (actions : List StreamAction) : Type 0 where
      pub rule : RuleSees generation i range w v m l d o actions
      pub read : RuleReads generation range w i m l v o actions
      pub on_either : AreOnEither actions
      pub observed : SeesBytes w.notes (view_after_all (generation i) v actions).shown (view_after_all (generation i) v actions).answered

    -- what a step of the range and its split does, and leaves
    pub record Acted (v : RangeView) (t : SplitStep) (actions : List StreamAction) : Type 0 where
      pub rule : SplitSees generation range w i v m l d t actions
      pub read : HasReadIf range w i m.stand.state l.stand.state (view_after_all (generation i) v actions).history t.range
      pub on_either : AreOnEither actions
      pub observed : SeesBytes w.notes (view_after_all (generation i) v actions).shown (view_after_all (generation i) v actions).answered

    -- What a step does with the machines of the range, whatever is left of the range: where a server holds none, its split of another range
    -- may go on in them.
    pub record Turned (v : RangeView) (t : SplitStep) (actions : List StreamAction) : Type 0 where
      pub left : Option RangeState
      pub goes : BothGo generation range w i (λ after n k. FollowsBothIf generation range w i t.job t.range n k) m l d (outcome_of left t)
      pub seen : AreSeen generation i v m.stand l.stand goes.metadata_turns goes.log_turns actions
      pub read : HasReadIf range w i m.stand.state l.stand.state (view_after_all (generation i) v actions).history t.range
      pub on_either : AreOnEither actions
      pub observed : SeesBytes w.notes (view_after_all (generation i) v actions).shown (view_after_all (generation i) v actions).answered

    -- a step of the range and its split
    abbrev pub turned : (v : RangeView) (t : SplitStep) (actions : List StreamAction) → Acted v t actions → Turned v t actions
    turned v t actions k = record {
      left = t.range;
      goes = record {
        metadata_turns = k.rule.step.goes.metadata_turns;
        log_turns = k.rule.step.goes.log_turns;
        metadata_allowed = k.rule.step.goes.metadata_allowed;
        log_allowed = k.rule.step.goes.log_allowed;
        none = k.rule.step.goes.none;
        metadata_sent = k.rule.step.goes.metadata_sent;
        log_sent = k.rule.step.goes.log_sent;
        metadata_keeps = k.rule.step.goes.metadata_keeps;
        log_keeps = k.rule.step.goes.log_keeps;
        rises = k.rule.step.goes.rises;
        metadata_adds = k.rule.step.goes.metadata_adds;
        log_adds = k.rule.step.goes.log_adds;
        sent_by = k.rule.step.goes.sent_by;
        then = k.rule.step.goes.then;
        asked = tt;
      };
      seen = k.rule.seen;
      read = k.read;
      on_either = k.on_either;
      observed = k.observed;
    }

    -- a rule of the range, with this split beside it
    pub done_beside : (by : IsSentBy d d.count z.m_sent z.l_sent) (v : RangeView) (o : RangeOutcome) (actions : List StreamAction) (job : Option SplitJob) → Done v o actions →
        ((n k : Side) → FollowsIf generation range w i o.after n k → FollowsBothIf generation range w i job o.after n k) → Acted v (record { range = o.after; job = job; count = o.count; packets = o.packets }) actions
    done_beside by v o actions job done beside = record {
      rule = rule_split generation range w i both m l d by v o job actions done.rule beside;
      read = done.read;
      on_either = done.on_either;
      observed = done.observed;
    }

    -- one that is not split
    pub done_alone : (by : IsSentBy d d.count z.m_sent z.l_sent) (v : RangeView) (o : RangeOutcome) (actions : List StreamAction) → Done v o actions → Acted v (record { range = o.after; job = None; count = o.count; packets = o.packets }) actions
    done_alone by v o actions done = done_beside by v o actions None done (λ n k f. alone o.after n k f)
      where
        alone : (a : Option RangeState) (n k : Side) → FollowsIf generation range w i a n k → FollowsBothIf generation range w i None a n k
        alone None n k f = tt
        alone (Some r) n k f = f

    module _ (by : IsSentBy d d.count z.m_sent z.l_sent) (v : RangeView) (seen : SeesBytes w.notes v.shown v.answered) where
      module _ (r : RangeState) (f : Follows generation range w i m l r) (h : HasRead range w i m.stand.state l.stand.state v.history r) (past : IsPastRows d r) where
        pub transact_done : (from : ActorId) (q : ReqNo) (changes : List Change) → Done v (transact_rule d r from q changes) (transact_actions r (transact_rule d r from q changes))
        transact_done from q changes = record {
          rule = transact_sees generation range w i both m l d by v r f past from q changes;
          read = transact_left generation range w i m l v d r h from q changes;
          on_either = transact_on r (transact_rule d r from q changes);
          observed = transact_seen (generation i) w.notes v seen r (transact_rule d r from q changes);
        }

        pub get_done : (from : ActorId) (q : ReqNo) (key : List ℕ) → Done v (get_rule d r from q key) []
        get_done from q key = record {
          rule = get_sees generation range w i both m l d by v r f from q key;
          read = get_left generation range w i m l v d r h from q key;
          on_either = tt;
          observed = seen;
        }

        pub give_up_done : Done v (give_up_all d r) []
        give_up_done = record {
          rule = give_up_sees generation range w i both m l d by v r f past;
          read = give_up_left generation range w i m l v d r h;
          on_either = tt;
          observed = seen;
        }

        pub checkpoint_done : (combine : Bool) → checkpoint_fault r ≡ None → Done v (checkpoint_rule d r combine) []
        checkpoint_done combine may = record {
          rule = checkpoint_sees generation range w i both m l d by v r f combine may;
          read = checkpoint_left generation range w i m l v d r h combine may;
          on_either = tt;
          observed = seen;
        }

        -- ---- answers

        -- what is asked under the number that row data waits for is what its job asks
        module _ (rows_asked : (q : ReqNo) → awaits r.rows.job q ≡ true → (server : ℕ) (to : ActorId) (b : Body) → Contains w.post (packet (Server server) to b) → asked_number b ≡ Some q → AsksBy r.rows b)
            (from : ActorId) (server : ℕ) (body : Body) (there : Contains w.post (packet from (Server server) body)) (gives : is_answerer from body ≡ true) (u : ReqNo) (number : answered_number body ≡ Some u) where
          one : Means generation (metadata_of range) w m.stand.state m.sent body
          one = metadata_below.mean from server body there gives

          two : Means generation (log_of range) w l.stand.state l.sent body
          two = log_below.mean from server body there gives

          metadata_counts : IsCounted i m.stand
          metadata_counts = is_counted generation i z.m beside.m_are

          counts : IsCounted i l.stand
          counts = is_counted generation i z.l beside.l_are

          m_once : StandsOnce i m.stand.state
          m_once = stands_once (stream_of w.catalog.stream (metadata_of range)) metadata_below.follows.ground m.stand.state z.m_sent metadata_below.follows.shaped.settled i

          l_once : StandsOnce i l.stand.state
          l_once = stands_once (stream_of w.catalog.stream (log_of range)) log_below.follows.ground l.stand.state z.l_sent log_below.follows.shaped.settled i

          m_sized : IsSized i m.stand.state
          m_sized = all_sized (stream_of w.catalog.stream (metadata_of range)) metadata_below.follows.ground m.stand.state z.m_sent metadata_below.follows.shaped.settled i metadata_below.follows.holds.sound

          l_sized : IsSized i l.stand.state
          l_sized = all_sized (stream_of w.catalog.stream (log_of range)) log_below.follows.ground l.stand.state z.l_sent log_below.follows.shaped.settled i log_below.follows.holds.sound

          read_rightly : (b : IsConfirming generation range w i m l r) → LoadIsRead generation i range w v m l r b
          read_rightly b = load_is_read generation range w i m l v r h f b m_sized l_sized m_once l_once

          reads_were_seen : (q : ReqNo) → r.load.phase ≡ phases.Confirming q → AreObserved w.notes (bytes_read (v.history.reads kinds.Log))
          reads_were_seen q e = reads_seen w (v.history.reads kinds.Log) (reads_observed generation range w i m l v r h f q e)

          -- where the log has no extent, the region that is left open begins at its first
          begins : IsConfirming generation range w i m l r → BeginsRightly r
          begins b region is none = begins_rightly generation range w i m l v r h f b (has_one_region generation z.m beside.m_are says i) region is none

          -- the group that is out is acknowledged where it stands
          out_acked_there : is_serving r.stage ≡ true → OutAcked (generation i) w.notes v seen r (reply_rule (picking d r.log) (request d) body).news
          out_acked_there serves =
              let b : IsServing generation range w i m l r = subst (λ z. StageIs generation range w i m l r z) (serving_only r.stage serves) f.stage in
              out_acked generation (log_of range) nodes target x.moves (after_all Group generation z.l) z.l_sent log_below i r.log r.out b.log.told b.log.job b.out d from server body there two

          -- and so is the record of a checkpoint
          recorded_there : is_serving r.stage ≡ true → RecordAcked (generation i) w.notes v seen r (reply_rule (picking d r.metadata) (request d) body).news
          recorded_there serves =
              let b : IsServing generation range w i m l r = subst (λ z. StageIs generation range w i m l r z) (serving_only r.stage serves) f.stage in
              record_acked generation (metadata_of range) nodes target x.moves (after_all Group generation z.m) z.m_sent metadata_below i r b.metadata.told b.metadata.job b.record_is d from server body there one

          pub answer_done : Done v (answer_rule d r u body) (answer_actions d r u body (answer_rule d r u body))
          answer_done = record {
            rule = answer_sees generation range w i both m l d by v r f past u body metadata_counts counts number one two
                (rows_told nodes target x.moves range generation i m l r (load_number nodes target x.moves range generation i m l r f) f.rows.stream (after_all Group generation z.m) metadata_below from server body there rows_asked) read_rightly begins;
            read = answer_left generation range w i both m l d v r h f u body number (one, two)
                (shows_now nodes target x.moves generation (log_of range) l.stand.state z.l_sent log_below.follows from server body there);
            on_either = answer_on d r u body (answer_rule d r u body);
            observed = answer_seen (generation i) w.notes v seen r reads_were_seen d u body (answer_rule d r u body) out_acked_there recorded_there
                (rows_acked nodes target x.moves range generation i m l r (load_number nodes target x.moves range generation i m l r f) f.rows.stream (after_all Group generation z.m) metadata_below from server body there rows_asked d) (bytes_seen nodes target x.moves range from server body there);
          }

      -- ---- a range is taken

      pub assigned_done : x.bound ≤ i → v.history ≡ first_history → (until : ℕ) → Done v (taken generation range w i m l d by until) []
      assigned_done free fresh until =
          let idle = x.idle i free range in
          record {
            rule = assigned_sees generation range w i both m l d by v until idle.0 idle.1;
            read = subst (λ h. HasRead range w i m.stand.state l.stand.state h (new_range d range (generation i) until)) (sym fresh) (new_read range w i m.stand.state l.stand.state d range (generation i) until);
            on_either = tt;
            observed = seen;
          }
