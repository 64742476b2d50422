-- The rules of a range that is being split, whatever its split waits for: turns of its incarnation, which leave its split where the machines
-- have it.
use Rattle.std.proofs.Common.{◌≡◌, ℕ, List, [], ◌++◌, Option, Some, None, is_some, refl, sym, subst}
use Rattle.wire.specs.declared.actor.ActorId.{ActorId}
use Rattle.wire.specs.declared.actor.ReqNo.{ReqNo}
use Rattle.wire.specs.declared.body.Body.{Body}
use Rattle.wire.specs.declared.refusal.Refusal.{Refusal}
use Rattle.wire.specs.declared.transaction.Change.{Change}
use Rattle.client.specs.declared.job.News.{News}
use Rattle.client.specs.Client.{awaits, reply_rule}
use Rattle.client.specs.Load.{load_awaits}
use Rattle.model_streams.proofs.Tests.{if_elim}
use Rattle.model_streams.specs.StreamSystem.{StreamSystem}
use Rattle.model_partition.specs.declared.server_context.ServerContext.{ServerContext}
use Rattle.model_partition.specs.declared.split_job.SplitJob.{SplitJob}
use Rattle.model_partition.specs.declared.split_job.SplitPhase.{SplitPhase}
use Rattle.model_partition.specs.declared.split_job.SplitPhase.TheVariants as phases
use Rattle.model_partition.specs.Range.{RangeState, RangeOutcome, request, picking, is_serving}
use Rattle.model_partition.specs.Serving.{transact_fault, transacts, transact_rule}
use Rattle.model_partition.specs.Getting.{get_rule}
use Rattle.model_partition.specs.Answering.{answer_rule, give_up_all}
use Rattle.model_partition.specs.Splits.{SplitStep}
use Rattle.model_histories.specs.StreamActions.{StreamAction, transact_actions, answer_actions, split_stood_in, split_stood}
use Rattle.laws_loads.specs.RangeView.{RangeView}
use Rattle.laws_stream_machine.specs.Refinement.{Means}
use Rattle.laws_ranges.specs.Serves.{Side, IsCounted, IsPastRows, RowsTold, metadata_of, log_of, IsServing, Follows, FollowsIf, BothListed, IsSentBy}
use Rattle.laws_ranges.specs.SplitJobs.{PausedIs, PhaseStands, FollowsSplit, FollowsBothIf, SplitSees}
use Rattle.laws_ranges.proofs.AnswersServed.{answer_served}
use Rattle.laws_ranges.proofs.LogRules.{none_formed}
use Rattle.laws_ranges.proofs.PausedAnswers.{reads_see, answer_paused}
use Rattle.laws_ranges.proofs.PausedGiveUp.{give_up_paused}
use Rattle.laws_ranges.proofs.PausedRules.{IsPausedAt, refused_paused, never_taken, get_paused}
use Rattle.laws_ranges.proofs.SeenRules.{get_sees, transact_sees, give_up_sees}
use Rattle.laws_ranges.proofs.ServedStays.{StaysServed, transact_stays, get_stays, give_up_stays, answer_stays}
use Rattle.laws_ranges.proofs.SplitSteps.{rule_split}
use Rattle.laws_ranges.proofs.WholeRanges.{is_served}

-- no record of the split is out yet
abbrev IsBefore : SplitPhase → Type 0
IsBefore (phases.Begin q) = Unit {0}
IsBefore phases.Checkpoint = Unit {0}
IsBefore phases.Queue = Unit {0}
IsBefore phase = ⊥

none_before : (r : RangeState) (job : SplitJob) (phase : SplitPhase) → IsBefore phase → (told : Option News) → split_stood_in r job phase told ≡ []
none_before r job (phases.Begin q) before told = refl
none_before r job phases.Checkpoint before told = refl
none_before r job phases.Queue before told = refl
none_before r job phase before told = absurd before

none_stood : (d : ServerContext) (r : RangeState) (job : SplitJob) (u : ReqNo) (body : Body) (o : RangeOutcome) → IsBefore job.phase → split_stood d r (Some job) u body o ≡ []
none_stood d r job u body o before =
    if_elim (λ (z : List StreamAction). z ≡ []) (is_some o.after) _ _
    (λ there. if_elim (λ (z : List StreamAction). z ≡ []) (load_awaits r.load.phase u) _ _ (λ t. refl)
    (λ f. if_elim (λ (z : List StreamAction). z ≡ []) (awaits r.metadata.job u) _ _
    (λ t. if_elim (λ (z : List StreamAction). z ≡ []) (is_serving r.stage) _ _ (λ serving. none_before r job job.phase before (reply_rule (picking d r.metadata) (request d) body).news) (λ f. refl)) (λ f. refl)))
    (λ f. refl)

module _ (generation : ℕ → ℕ) (range : ℕ) (w : StreamSystem) (i : ℕ) (both : BothListed w range) (m l : Side) (d : ServerContext) (by : IsSentBy d d.count m.sent l.sent) (v : RangeView) (r : RangeState) (job : SplitJob)
    (f : FollowsSplit generation range w i m l r job) (past : IsPastRows d r) where
  -- a rule of the range, whose split stays as it is
  abbrev pub held_step : RangeOutcome → SplitStep
  held_step o = record { range = o.after; job = Some job; count = o.count; packets = o.packets }

  abbrev pub HeldSees : RangeOutcome → List StreamAction → Type 0
  HeldSees o actions = SplitSees generation range w i v m l d (held_step o) actions

  stands_at : (phase : SplitPhase) → job.phase ≡ phase → PhaseStands generation range w i m l r job phase
  stands_at phase e = subst (λ z. PhaseStands generation range w i m l r job z) e f.stands

  -- the range is not paused yet, and its split stays where it is
  record BeforePause : Type 0 where
    before : IsBefore job.phase
    follows : Follows generation range w i m l r
    left : (after : Option RangeState) → StaysServed r after → (n k : Side) → FollowsIf generation range w i after n k → FollowsBothIf generation range w i (Some job) after n k

  left_by : (phase : SplitPhase) → job.phase ≡ phase → ((next : RangeState) → (r.control ≡ None → next.control ≡ None) → (n k : Side) → Follows generation range w i n k next → PhaseStands generation range w i n k next job phase) →
      (after : Option RangeState) → StaysServed r after → (n k : Side) → FollowsIf generation range w i after n k → FollowsBothIf generation range w i (Some job) after n k
  left_by phase e stands None stays n k follows = tt
  left_by phase e stands (Some next) stays n k follows =
      record { range_is = f.range_is; under = f.under; stage = stays.0; others = f.others; stands = subst (λ z. PhaseStands generation range w i n k next job z) (sym e) (stands next stays.1 n k follows) }

  by_phase : {P : Type 0} → (BeforePause → P) → (IsPausedAt job.phase → PausedIs generation range w i m l r → P) → P
  by_phase {P} before paused = go job.phase refl
    where
      go : (phase : SplitPhase) → job.phase ≡ phase → P
      go (phases.Begin q) e = before (record { before = subst IsBefore (sym e) tt; follows = stands_at (phases.Begin q) e; left = left_by (phases.Begin q) e (λ next control n k follows. follows) })
      go phases.Checkpoint e = before (record { before = subst IsBefore (sym e) tt; follows = stands_at phases.Checkpoint e; left = left_by phases.Checkpoint e (λ next control n k follows. follows) })
      go phases.Queue e =
          let s = stands_at phases.Queue e in
          before (record { before = subst IsBefore (sym e) tt; follows = s.0; left = left_by phases.Queue e (λ next control n k follows. (follows, control s.1)) })
      go phases.Record e = paused (subst IsPausedAt (sym e) tt) (stands_at phases.Record e).0
      go (phases.Seal kind q) e = paused (subst IsPausedAt (sym e) tt) (stands_at (phases.Seal kind q) e).0.paused
      go (phases.Build q) e = paused (subst IsPausedAt (sym e) tt) (stands_at (phases.Build q) e).0.paused
      go (phases.Keys side c) e = paused (subst IsPausedAt (sym e) tt) (stands_at (phases.Keys side c) e).0.paused
      go (phases.Complete q) e = paused (subst IsPausedAt (sym e) tt) (stands_at (phases.Complete q) e).0.paused

  -- a transaction
  pub transact_held : (from : ActorId) (q : ReqNo) (changes : List Change) → HeldSees (transact_rule d r from q changes) (transact_actions r (transact_rule d r from q changes))
  transact_held from q changes =
      by_phase
      (λ b. rule_split generation range w i both m l d by v (transact_rule d r from q changes) (Some job) (transact_actions r (transact_rule d r from q changes))
      (transact_sees generation range w i both m l d by v r b.follows past from q changes) (b.left (transact_rule d r from q changes).after (transact_stays r f.stage d from q changes)))
      (λ at p. refused at p (transact_fault d r changes) refl)
    where
      refused : IsPausedAt job.phase → PausedIs generation range w i m l r → (fault : Option Refusal) → transact_fault d r changes ≡ fault → HeldSees (transacts d r from q changes fault) (transact_actions r (transacts d r from q changes fault))
      refused at p (Some why) e =
          reads_see generation range w i v m l d (held_step (transacts d r from q changes (Some why))) (transact_actions r (transacts d r from q changes (Some why)))
          (refused_paused generation range w i m l both d by v r job f at p from q changes why) (none_formed r.out)
      refused at p None e = absurd (never_taken generation range w i m l both d by v r job f at p changes e)

  pub get_held : (from : ActorId) (q : ReqNo) (key : List ℕ) → HeldSees (get_rule d r from q key) []
  get_held from q key =
      by_phase
      (λ b. rule_split generation range w i both m l d by v (get_rule d r from q key) (Some job) [] (get_sees generation range w i both m l d by v r b.follows from q key)
      (b.left (get_rule d r from q key).after (get_stays r f.stage d generation range w i l from q key)))
      (λ at p. get_paused generation range w i m l both d by v r job f at p from q key)

  pub give_up_held : HeldSees (give_up_all d r) []
  give_up_held =
      by_phase
      (λ b. rule_split generation range w i both m l d by v (give_up_all d r) (Some job) [] (give_up_sees generation range w i both m l d by v r b.follows past) (b.left (give_up_all d r).after (give_up_stays r f.stage d)))
      (λ at p. give_up_paused generation range w i both m l d by v r job f p past at)

  -- an answer of a number, as both streams mean it; what it is to the record of the split comes after what it is to the range
  pub answer_held : IsCounted i m.stand → IsCounted i l.stand → (u : ReqNo) (body : Body) → Means generation (metadata_of range) w m.stand.state m.sent body → Means generation (log_of range) w l.stand.state l.sent body → RowsTold w range r body →
      HeldSees (answer_rule d r u body) (split_stood d r (Some job) u body (answer_rule d r u body) ++ answer_actions d r u body (answer_rule d r u body))
  answer_held metadata_counted log_counted u body one two told =
      by_phase
      (λ b.
      (let served : IsServing generation range w i m l r = is_served generation range w i m l r b.follows f.stage in
      subst (λ (z : List StreamAction). HeldSees (answer_rule d r u body) (z ++ answer_actions d r u body (answer_rule d r u body))) (sym (none_stood d r job u body (answer_rule d r u body) b.before))
      (rule_split generation range w i both m l d by v (answer_rule d r u body) (Some job) (answer_actions d r u body (answer_rule d r u body))
      (answer_served generation range w i both m l d by v r b.follows f.stage past metadata_counted log_counted u body one two told)
      (b.left (answer_rule d r u body).after (answer_stays r f.stage d generation range w i l served.phase u body)))))
      (λ at p. answer_paused generation range w i both m l d by v r job f at p past metadata_counted u body one told)
