-- What a range that is being split does at a server, as a cluster that stands has it: rules of the range, and steps of its split.
use Rattle.std.proofs.Common.{◌≡◌, ℕ, true, ◌&&◌, List, [], ◌++◌, Option, Some, None, Contains, is_some, refl, sym, ◌∙◌, subst, inl}
use Rattle.wire.specs.declared.actor.ActorId.{ActorId}
use Rattle.wire.specs.declared.actor.ActorId.TheVariants.{Server}
use Rattle.wire.specs.declared.actor.ReqNo.{ReqNo}
use Rattle.wire.specs.declared.body.Body.{Body}
use Rattle.wire.specs.declared.note.Note.{Note}
use Rattle.wire.specs.declared.note.Note.TheVariants.{Acked}
use Rattle.wire.specs.declared.transaction.Change.{Change}
use Rattle.replica.specs.Groups.{Group}
use Rattle.client.specs.declared.job.News.{News}
use Rattle.client.specs.declared.job.News.TheVariants as news
use Rattle.client.specs.declared.load.LoadPhase.TheVariants as loads
use Rattle.client.specs.Client.{awaits, reply_rule}
use Rattle.client.specs.Load.{load_awaits}
use Rattle.model_streams.specs.Outcome.{packet}
use Rattle.model_streams.specs.StreamSystem.{StreamSystem}
use Rattle.model_streams.proofs.Tests.{if_elim}
use Rattle.model_partition.specs.declared.server_context.ServerContext.{ServerContext}
use Rattle.model_partition.specs.declared.split_job.SplitJob.{SplitJob}
use Rattle.model_partition.specs.declared.split_job.SplitPhase.{SplitPhase}
use Rattle.model_partition.specs.declared.split_job.SplitPhase.TheVariants as phases
use Rattle.model_partition.specs.Answering.{answered_number, is_answerer, answer_rule, give_up_all}
use Rattle.model_partition.specs.Cluster.{Cluster}
use Rattle.model_partition.specs.Getting.{get_rule}
use Rattle.model_partition.specs.Range.{RangeState, RangeOutcome, request, picking, is_serving}
use Rattle.model_partition.specs.Serving.{transact_rule}
use Rattle.model_partition.specs.Splits.{SplitStep, is_drained, may_record, has_number, follows}
use Rattle.model_histories.specs.ServerRun.{ServerRun, RangeHistory}
use Rattle.model_histories.specs.ServerTurns.{after_all}
use Rattle.model_histories.specs.StreamActions.{StreamAction, transact_actions, answer_actions, split_group, split_stood_in, split_stood, drain_actions, follow_actions_in, follow_actions}
use Rattle.laws_loads.specs.RangeView.{RangeView, view_after_all}
use Rattle.laws_stream_machine.specs.Refinement.{Means, asked_number}
use Rattle.laws_stream_machine.proofs.LowerLayer.{Below}
use Rattle.laws_ranges.specs.Serves.{Side, metadata_of, log_of, rows_of, after_turns, IsPastRows, IsServing, Follows, IsSentBy, BothListed}
use Rattle.laws_ranges.specs.SplitJobs.{PausedIs, PhaseStands, RecordsSplit, FollowsSplit, FollowsBothIf, SplitSees}
use Rattle.laws_ranges.proofs.HeldRules.{transact_held, get_held, give_up_held, answer_held}
use Rattle.laws_ranges.proofs.SplitsKept.{both_row_data}
use Rattle.laws_ranges.proofs.TurnsAsMoves.{is_counted}
use Rattle.laws_ranges.proofs.WholeRanges.{is_served}
use Rattle.laws_log_reads.specs.Reads.{HasReadAt, HasReadIf}
use Rattle.laws_log_reads.proofs.SplitGroups.{split_says}
use Rattle.laws_clusters.proofs.AckedAppends.{out_acked, record_acked, split_acked}
use Rattle.laws_clusters.proofs.ClientJobs.{AsksBy}
use Rattle.laws_clusters.proofs.Invariant.{Machines, here, m_side, l_side, Standing, Bases}
use Rattle.laws_clusters.proofs.ObservedBytes.{AsAcked}
use Rattle.laws_clusters.proofs.RangeActions.{AreOnEither, SeesBytes, OutAcked, RecordAcked, on_both, transact_on, answer_on, transact_seen, answer_seen}
use Rattle.laws_clusters.proofs.MapWords.{IsFounded}
use Rattle.laws_clusters.proofs.RangeRules as rules
use Rattle.laws_clusters.proofs.RangeRules.{Acted, both}
use Rattle.laws_clusters.proofs.RowAnswers.{served_number, rows_told, rows_acked, bytes_seen}

-- ---- actions

stood_on : (r : RangeState) (job : SplitJob) (phase : SplitPhase) (told : Option News) → AreOnEither (split_stood_in r job phase told)
stood_on r job phases.Record (Some (news.Appended extent offset)) = (inl refl, tt)
stood_on r job phase told = tt

split_on : (d : ServerContext) (r : RangeState) (job : SplitJob) (w : ReqNo) (body : Body) (o : RangeOutcome) → AreOnEither (split_stood d r (Some job) w body o)
split_on d r job w body o =
    if_elim AreOnEither (is_some o.after) _ _
    (λ t. if_elim AreOnEither (load_awaits r.load.phase w) _ _ (λ a. tt)
    (λ a. if_elim AreOnEither (awaits r.metadata.job w) _ _
    (λ b. if_elim AreOnEither (is_serving r.stage) _ _ (λ e. stood_on r job job.phase (reply_rule (picking d r.metadata) (request d) body).news) (λ e. tt)) (λ b. tt)))
    (λ t. tt)

drain_on : (r : RangeState) (job : SplitJob) → AreOnEither (drain_actions r job)
drain_on r job = if_elim AreOnEither (is_drained r && may_record r job) _ _ (λ t. (inl (refl, split_says job), tt)) (λ t. tt)

follow_in_on : (r : RangeState) (job : SplitJob) (phase : SplitPhase) → AreOnEither (follow_actions_in r job phase)
follow_in_on r job phases.Checkpoint = if_elim AreOnEither (is_some r.control) _ _ (λ t. tt) (λ t. drain_on r job)
follow_in_on r job phases.Queue = drain_on r job
follow_in_on r job phase = tt

pub follow_on : (d : ServerContext) (r : RangeState) (job : SplitJob) → AreOnEither (follow_actions d r job)
follow_on d r job = if_elim AreOnEither (has_number d) _ _ (λ t. follow_in_on r job job.phase) (λ t. tt)

module _ (generation : ℕ) (notes : List Note) (v : RangeView) (old : SeesBytes notes v.shown v.answered) where
  abbrev Observed : List StreamAction → Type 0
  Observed actions = SeesBytes notes (view_after_all generation v actions).shown (view_after_all generation v actions).answered

  drain_seen : (r : RangeState) (job : SplitJob) → Observed (drain_actions r job)
  drain_seen r job = if_elim Observed (is_drained r && may_record r job) _ _ (λ t. old) (λ t. old)

  follow_in_seen : (r : RangeState) (job : SplitJob) (phase : SplitPhase) → Observed (follow_actions_in r job phase)
  follow_in_seen r job phases.Checkpoint = if_elim Observed (is_some r.control) _ _ (λ t. old) (λ t. drain_seen r job)
  follow_in_seen r job phases.Queue = drain_seen r job
  follow_in_seen r job (phases.Begin q) = old
  follow_in_seen r job phases.Record = old
  follow_in_seen r job (phases.Seal kind q) = old
  follow_in_seen r job (phases.Build q) = old
  follow_in_seen r job (phases.Keys side c) = old
  follow_in_seen r job (phases.Complete q) = old

  pub follow_seen : (d : ServerContext) (r : RangeState) (job : SplitJob) → Observed (follow_actions d r job)
  follow_seen d r job = if_elim Observed (has_number d) _ _ (λ t. follow_in_seen r job job.phase) (λ t. old)

-- ---- what is read

-- a range that is being split is served, and reads nothing
pub split_reads : (generation : ℕ → ℕ) (range : ℕ) (w : StreamSystem) (i : ℕ) (m l n k : Side) (h : RangeHistory) (a : Option RangeState) (job : Option SplitJob) → (job ≡ None → a ≡ None) → FollowsBothIf generation range w i job a n k →
    HasReadIf range w i m.stand.state l.stand.state h a
split_reads generation range w i m l n k h None job ends f = tt
split_reads generation range w i m l n k h (Some r) None ends f = absurd (let z : Some r ≡ None = ends refl in cc)
split_reads generation range w i m l n k h (Some r) (Some job) ends f = record { at = subst (λ stage. HasReadAt range w i m.stand.state l.stand.state h r stage) (sym f.stage) tt }

-- a rule of a range, whose split stays as it is
abbrev pub beside_step : SplitJob → RangeOutcome → SplitStep
beside_step job o = record { range = o.after; job = Some job; count = o.count; packets = o.packets }

module _ (generation : ℕ → ℕ) (nodes target : ℕ) {base : Bases generation} (c : Cluster) (y : ServerRun) (x : Standing generation nodes target base c y) (range : ℕ) (founded : IsFounded c.stream_layer range) (i : ℕ) (d : ServerContext) where
  abbrev w : StreamSystem
  w = here generation nodes target x.moves

  abbrev z : Machines generation
  z = x.machines range

  abbrev m : Side
  m = m_side generation z i

  abbrev l : Side
  l = l_side generation z i

  metadata_below : Below generation (metadata_of range) nodes target x.moves (after_all Group generation z.m) z.m_sent
  metadata_below = rules.metadata_below generation nodes target c y x range founded

  log_below : Below generation (log_of range) nodes target x.moves (after_all Group generation z.l) z.l_sent
  log_below = rules.log_below generation nodes target c y x range founded

  lists : BothListed w range
  lists = both generation nodes target c y x range founded

  -- what a step leaves of a range and its split
  pub acted : (v : RangeView) (t : SplitStep) (actions : List StreamAction) → SplitSees generation range w i v m l d t actions → (t.job ≡ None → t.range ≡ None) → AreOnEither actions →
      SeesBytes w.notes (view_after_all (generation i) v actions).shown (view_after_all (generation i) v actions).answered → Acted generation nodes target c y x range founded i d v t actions
  acted v t actions rule ends on seen = record {
    rule = rule;
    read = split_reads generation range w i m l (record { stand = after_turns generation i m.stand rule.step.goes.metadata_turns; sent = rule.step.goes.metadata_sent })
        (record { stand = after_turns generation i l.stand rule.step.goes.log_turns; sent = rule.step.goes.log_sent }) (view_after_all (generation i) v actions).history t.range t.job ends rule.step.goes.then;
    on_either = on;
    observed = seen;
  }

  module _ (by : IsSentBy d d.count z.m_sent z.l_sent) (v : RangeView) (seen : SeesBytes w.notes v.shown v.answered) (r : RangeState) (job : SplitJob) (f : FollowsSplit generation range w i m l r job) (past : IsPastRows d r) where
    abbrev Does : SplitStep → List StreamAction → Type 0
    Does t actions = Acted generation nodes target c y x range founded i d v t actions

    has_split : Some job ≡ None → (a : Option RangeState) → a ≡ None
    has_split e a = absurd (let z : Some job ≡ None = e in cc)

    pub transact_beside : (from : ActorId) (q : ReqNo) (changes : List Change) → Does (beside_step job (transact_rule d r from q changes)) (transact_actions r (transact_rule d r from q changes))
    transact_beside from q changes =
        let o : RangeOutcome = transact_rule d r from q changes in
        acted v (beside_step job o) (transact_actions r o) (transact_held generation range w i lists m l d by v r job f past from q changes) (λ e. has_split e o.after) (transact_on r o) (transact_seen (generation i) w.notes v seen r o)

    pub get_beside : (from : ActorId) (q : ReqNo) (key : List ℕ) → Does (beside_step job (get_rule d r from q key)) []
    get_beside from q key = let o : RangeOutcome = get_rule d r from q key in acted v (beside_step job o) [] (get_held generation range w i lists m l d by v r job f past from q key) (λ e. has_split e o.after) tt seen

    pub give_up_beside : Does (beside_step job (give_up_all d r)) []
    give_up_beside = let o : RangeOutcome = give_up_all d r in acted v (beside_step job o) [] (give_up_held generation range w i lists m l d by v r job f past) (λ e. has_split e o.after) tt seen

    -- a step of the split alone
    pub split_acted : (t : SplitStep) → SplitSees generation range w i v m l d t [] → (t.job ≡ None → t.range ≡ None) → Does t []
    split_acted t rule ends = acted v t [] rule ends tt seen

    pub follow_acted : (rule : SplitSees generation range w i v m l d (follows d r job) (follow_actions d r job)) → ((follows d r job).job ≡ None → (follows d r job).range ≡ None) → Does (follows d r job) (follow_actions d r job)
    follow_acted rule ends = acted v (follows d r job) (follow_actions d r job) rule ends (follow_on d r job) (follow_seen (generation i) w.notes v seen d r job)

    -- ---- answers

    module _ (rows_asked : (q : ReqNo) → awaits r.rows.job q ≡ true → (server : ℕ) (to : ActorId) (b : Body) → Contains w.post (packet (Server server) to b) → asked_number b ≡ Some q → AsksBy r.rows b)
        (from : ActorId) (server : ℕ) (body : Body) (there : Contains w.post (packet from (Server server) body)) (gives : is_answerer from body ≡ true) (u : ReqNo) (number : answered_number body ≡ Some u) where
      one : Means generation (metadata_of range) w m.stand.state m.sent body
      one = metadata_below.mean from server body there gives

      two : Means generation (log_of range) w l.stand.state l.sent body
      two = log_below.mean from server body there gives

      abbrev told : Option News
      told = (reply_rule (picking d r.metadata) (request d) body).news

      -- what the answer acknowledges of a range that is served
      record Acks : Type 0 where
        served : r.load.phase ≡ loads.Confirmed
        out : OutAcked (generation i) w.notes v seen r (reply_rule (picking d r.log) (request d) body).news
        recorded : RecordAcked (generation i) w.notes v seen r told
        split : job.phase ≡ phases.Record → (e offset : ℕ) → told ≡ Some (news.Appended e offset) → Contains w.notes (Acked e offset (split_group job))

      acks_before : Follows generation range w i m l r → (job.phase ≡ phases.Record → ⊥) → Acks
      acks_before g unrecorded =
          let b : IsServing generation range w i m l r = is_served generation range w i m l r g f.stage in
          record {
            served = b.phase;
            out = out_acked generation (log_of range) nodes target x.moves (after_all Group generation z.l) z.l_sent log_below i r.log r.out b.log.told b.log.job b.out d from server body there two;
            recorded = record_acked generation (metadata_of range) nodes target x.moves (after_all Group generation z.m) z.m_sent metadata_below i r b.metadata.told b.metadata.job b.record_is d from server body there one;
            split = λ at. absurd (unrecorded at);
          }

      acks_paused : PausedIs generation range w i m l r → (job.phase ≡ phases.Record → RecordsSplit generation range w i m r job) → Acks
      acks_paused p records = record {
        served = p.phase;
        out = λ e offset is group some. absurd (let z : None ≡ Some group = sym p.out ∙ some in cc);
        recorded = λ e offset is checkpoint some. absurd (let z : None ≡ Some checkpoint = sym p.control ∙ some in cc);
        split = λ at.
            (let b = records at in
            split_acked generation (metadata_of range) nodes target x.moves (after_all Group generation z.m) z.m_sent metadata_below i r job b.client.told b.client.job b.group d from server body there one);
      }

      acks : Acks
      acks = go job.phase refl
        where
          at : (phase : SplitPhase) → job.phase ≡ phase → PhaseStands generation range w i m l r job phase
          at phase e = subst (λ p. PhaseStands generation range w i m l r job p) e f.stands

          other : (phase : SplitPhase) → job.phase ≡ phase → (phase ≡ phases.Record → ⊥) → job.phase ≡ phases.Record → ⊥
          other phase e not record_too = not (sym e ∙ record_too)

          go : (phase : SplitPhase) → job.phase ≡ phase → Acks
          go (phases.Begin q) e = acks_before (at (phases.Begin q) e) (other (phases.Begin q) e (λ k. cc))
          go phases.Checkpoint e = acks_before (at phases.Checkpoint e) (other phases.Checkpoint e (λ k. cc))
          go phases.Queue e = acks_before (at phases.Queue e).0 (other phases.Queue e (λ k. cc))
          go phases.Record e = acks_paused (at phases.Record e).0 (λ k. (at phases.Record e).1)
          go (phases.Seal kind q) e = acks_paused (at (phases.Seal kind q) e).0.paused (λ k. absurd (other (phases.Seal kind q) e (λ j. cc) k))
          go (phases.Build q) e = acks_paused (at (phases.Build q) e).0.paused (λ k. absurd (other (phases.Build q) e (λ j. cc) k))
          go (phases.Keys side q) e = acks_paused (at (phases.Keys side q) e).0.paused (λ k. absurd (other (phases.Keys side q) e (λ j. cc) k))
          go (phases.Complete q) e = acks_paused (at (phases.Complete q) e).0.paused (λ k. absurd (other (phases.Complete q) e (λ j. cc) k))

      abbrev o : RangeOutcome
      o = answer_rule d r u body

      abbrev Seen : List StreamAction → Type 0
      Seen actions = SeesBytes w.notes (view_after_all (generation i) v actions).shown (view_after_all (generation i) v actions).answered

      stream : r.rows.stream ≡ rows_of range
      stream = (both_row_data generation range w i m l r (Some job) f).stream

      rule_seen : Seen (answer_actions d r u body o)
      rule_seen =
          answer_seen (generation i) w.notes v seen r (λ q e. absurd (let z : loads.Confirmed ≡ loads.Confirming q = sym acks.served ∙ e in cc)) d u body o (λ t. acks.out) (λ t. acks.recorded)
          (rows_acked nodes target x.moves range generation i m l r (served_number nodes target x.moves range generation i m l r acks.served) stream (after_all Group generation z.m) metadata_below from server body there rows_asked d)
          (bytes_seen nodes target x.moves range from server body there)

      stood_seen : (phase : SplitPhase) → job.phase ≡ phase → (said : Option News) → told ≡ said → Seen (split_stood_in r job phase said ++ answer_actions d r u body o)
      stood_seen phases.Record at (Some (news.Appended e offset)) is = record { shown_there = rule_seen.shown_there; answered_there = (AsAcked (split_group job) (acks.split at e offset is) refl, rule_seen.answered_there) }
      stood_seen phases.Record at None is = rule_seen
      stood_seen phases.Record at (Some news.Fenced) is = rule_seen
      stood_seen phases.Record at (Some (news.Checked e n)) is = rule_seen
      stood_seen phases.Record at (Some (news.Sealed e n)) is = rule_seen
      stood_seen phases.Record at (Some (news.Content e n)) is = rule_seen
      stood_seen (phases.Begin q) at said is = rule_seen
      stood_seen phases.Checkpoint at said is = rule_seen
      stood_seen phases.Queue at said is = rule_seen
      stood_seen (phases.Seal kind q) at said is = rule_seen
      stood_seen (phases.Build q) at said is = rule_seen
      stood_seen (phases.Keys side q) at said is = rule_seen
      stood_seen (phases.Complete q) at said is = rule_seen

      abbrev More : List StreamAction → Type 0
      More stood = Seen (stood ++ answer_actions d r u body o)

      all_seen : Seen (split_stood d r (Some job) u body o ++ answer_actions d r u body o)
      all_seen =
          if_elim More (is_some o.after) _ _
          (λ t. if_elim More (load_awaits r.load.phase u) _ _ (λ a. rule_seen)
          (λ a. if_elim More (awaits r.metadata.job u) _ _ (λ b. if_elim More (is_serving r.stage) _ _ (λ e. stood_seen job.phase refl told refl) (λ e. rule_seen)) (λ b. rule_seen)))
          (λ t. rule_seen)

      -- an answer to the range; what it is to the record of the split comes after what it is to the range
      pub answer_beside : Does (beside_step job o) (split_stood d r (Some job) u body o ++ answer_actions d r u body o)
      answer_beside =
          acted v (beside_step job o) (split_stood d r (Some job) u body o ++ answer_actions d r u body o)
          (answer_held generation range w i lists m l d by v r job f past (is_counted generation i z.m (x.beside range).m_are) (is_counted generation i z.l (x.beside range).l_are) u body one two
          (rows_told nodes target x.moves range generation i m l r (served_number nodes target x.moves range generation i m l r acks.served) stream (after_all Group generation z.m) metadata_below from server body there rows_asked))
          (λ e. has_split e o.after)
          (on_both (split_stood d r (Some job) u body o) (answer_actions d r u body o) (split_on d r job u body o) (answer_on d r u body o)) all_seen
