-- What each rule of a range does with its streams is what servers see of it, wherever the range stands.
use Rattle.std.proofs.Common.{◌≡◌, ⊎_elim, ℕ, Bool, List, [], false, Option, Some, None, refl, subst}
use Rattle.wire.specs.declared.actor.ActorId.{ActorId}
use Rattle.wire.specs.declared.actor.ReqNo.{ReqNo}
use Rattle.wire.specs.declared.body.Body.{Body}
use Rattle.wire.specs.declared.refusal.Refusal.{Refusal}
use Rattle.wire.specs.declared.transaction.Change.{Change}
use Rattle.model_streams.specs.StreamSystem.{StreamSystem}
use Rattle.model_partition.specs.declared.server_context.ServerContext.{ServerContext}
use Rattle.model_partition.specs.declared.stage.Stage.TheVariants as stages
use Rattle.model_partition.specs.Range.{RangeState, RangeOutcome, is_serving}
use Rattle.model_partition.specs.Serving.{transact_fault, transacts, transact_rule}
use Rattle.model_partition.specs.Getting.{get_rule}
use Rattle.model_partition.specs.Checkpoints.{checkpoint_fault, checkpoint_rule}
use Rattle.model_partition.specs.Answering.{answered_number, answer_rule, give_up_all}
use Rattle.model_histories.specs.ServerTurns as turns
use Rattle.model_histories.specs.StreamActions.{StreamAction, transact_actions, answer_actions}
use Rattle.laws_stream_machine.specs.Refinement.{Means}
use Rattle.laws_loads.specs.RangeView.{RangeView}
use Rattle.laws_loads.specs.StaysLoading.{IsConfirmation}
use Rattle.laws_loads.proofs.WaitingIsSound.{taken_served}
use Rattle.laws_loads.proofs.WaitingStays.{answer_stays, give_up_stays}
use Rattle.laws_ranges.specs.Serves.{Side, metadata_of, log_of, IsCounted, IsPastRows, RowsTold, BeginsRightly, IsConfirming, IsServing, Follows, BothListed, IsSentBy}
use Rattle.laws_ranges.specs.Seen.{LoadIsRead, RuleSees}
use Rattle.laws_ranges.proofs.SeenTurns.{quiet_sees}
use Rattle.laws_ranges.proofs.LogRules.{none_formed}
use Rattle.laws_ranges.proofs.BothServed.{transact_both}
use Rattle.laws_ranges.proofs.BothStreamsAtOnce.{taken, assigned_both}
use Rattle.laws_ranges.proofs.UnservedRules.{unserved_quietly, stays_quietly}
use Rattle.laws_ranges.proofs.Gets.{refused_quietly, get_quietly}
use Rattle.laws_ranges.proofs.GiveUpLoading.{give_up_all_both}
use Rattle.laws_ranges.proofs.GiveUpServed.{give_up_served}
use Rattle.laws_ranges.proofs.AnswerRules.{answer_both}
use Rattle.laws_ranges.proofs.AnswersServed.{answer_served}
use Rattle.laws_ranges.proofs.KeptRows.{transact_keeps_rows}
use Rattle.laws_ranges.proofs.WholeRanges.{is_served, served_both, served_rest, kept_sees}
use Rattle.laws_ranges.proofs.CheckpointRules.{checkpoint_quietly}
use Rattle.laws_ranges.proofs.Stages.{serving_only, by_stage, confirming_at}
use Rattle.laws_ranges.proofs.SeenLoads.{answer_reads, confirmation_sees}

module _ (generation : ℕ → ℕ) (range : ℕ) (w : StreamSystem) (i : ℕ) (both : BothListed w range) (m l : Side) (d : ServerContext) (by : IsSentBy d d.count m.sent l.sent) (view : RangeView) where
  -- a range that is taken
  pub assigned_sees : (until : ℕ) → m.stand.phase ≡ turns.Idle → l.stand.phase ≡ turns.Idle → RuleSees generation i range w view m l d (taken generation range w i m l d by until) []
  assigned_sees until metadata_idle log_idle =
      quiet_sees generation range w i view m l d (taken generation range w i m l d by until) []
      (unserved_quietly generation range w i m l d (taken generation range w i m l d by until) (assigned_both generation range w i m l d by until metadata_idle log_idle) refl) tt

  module _ (r : RangeState) (f : Follows generation range w i m l r) where
    -- ---- a Get

    pub get_sees : (from : ActorId) (v : ReqNo) (key : List ℕ) → RuleSees generation i range w view m l d (get_rule d r from v key) []
    get_sees from v key = quiet_sees generation range w i view m l d (get_rule d r from v key) [] (get_quietly generation range w i both m l d by r f from v key) tt

    -- ---- a checkpoint

    pub checkpoint_sees : (combine : Bool) → checkpoint_fault r ≡ None → RuleSees generation i range w view m l d (checkpoint_rule d r combine) []
    checkpoint_sees combine may = quiet_sees generation range w i view m l d (checkpoint_rule d r combine) [] (checkpoint_quietly generation range w i both m l d by r f combine may) tt

  -- rules that ask something of the two streams, under numbers that row data does not wait under
  module _ (r : RangeState) (f : Follows generation range w i m l r) (past : IsPastRows d r) where
    -- ---- a transaction

    transacts_sees : (from : ActorId) (v : ReqNo) (changes : List Change) → (r.stage ≡ stages.Serving → RuleSees generation i range w view m l d (transact_rule d r from v changes) (transact_actions r (transact_rule d r from v changes))) →
        (fault : Option Refusal) → transact_fault d r changes ≡ fault → RuleSees generation i range w view m l d (transacts d r from v changes fault) (transact_actions r (transacts d r from v changes fault))
    transacts_sees from v changes served (Some why) e =
        quiet_sees generation range w i view m l d (transacts d r from v changes (Some why)) (transact_actions r (transacts d r from v changes (Some why)))
        (refused_quietly generation range w i both m l d by r f from v why) (none_formed r.out)
    transacts_sees from v changes served None e =
        subst (λ o. RuleSees generation i range w view m l d (transacts d r from v changes o) (transact_actions r (transacts d r from v changes o))) e (served (serving_only r.stage (taken_served d r changes e)))

    pub transact_sees : (from : ActorId) (v : ReqNo) (changes : List Change) → RuleSees generation i range w view m l d (transact_rule d r from v changes) (transact_actions r (transact_rule d r from v changes))
    transact_sees from v changes =
        transacts_sees from v changes
        (λ stage.
        (let s : IsServing generation range w i m l r = is_served generation range w i m l r f stage in
        kept_sees generation range w i m l d r f.rows past view (transact_rule d r from v changes) (transact_actions r (transact_rule d r from v changes))
        (transact_both generation range w i both m l d by view r (served_both generation range w i m l r f stage) from v changes) (transact_keeps_rows d r s.position s.trims from v changes)))
        (transact_fault d r changes) refl

    -- ---- giving up

    pub give_up_sees : RuleSees generation i range w view m l d (give_up_all d r) []
    give_up_sees =
        by_stage generation range w i both m l d by r f
        (λ stage. give_up_served generation range w i both m l d by view r (served_both generation range w i m l r f stage) (served_rest generation range w i m l r f stage) past)
        (λ e. quiet_sees generation range w i view m l d (give_up_all d r) [] (stays_quietly generation range w i m l d r (give_up_all d r) (give_up_all_both generation range w i both m l d by r f e) e (give_up_stays d r)) tt)

    -- ---- answers

    module _ (v : ReqNo) (body : Body) where
      abbrev Sees : RangeOutcome → List StreamAction → Type 0
      Sees o done = RuleSees generation i range w view m l d o done

      -- an answer, as both streams mean it; what it tells of row data is of its list
      pub answer_sees : IsCounted i m.stand → IsCounted i l.stand → answered_number body ≡ Some v → Means generation (metadata_of range) w m.stand.state m.sent body → Means generation (log_of range) w l.stand.state l.sent body → RowsTold w range r body →
          ((b : IsConfirming generation range w i m l r) → LoadIsRead generation i range w view m l r b) → (IsConfirming generation range w i m l r → BeginsRightly r) → Sees (answer_rule d r v body) (answer_actions d r v body (answer_rule d r v body))
      answer_sees metadata_counted log_counted number one two told read begins =
          by_stage generation range w i both m l d by r f (λ stage. answer_served generation range w i both m l d by view r f stage past metadata_counted log_counted v body one two told)
          (λ e. ⊎_elim {C = Sees (answer_rule d r v body) (answer_actions d r v body (answer_rule d r v body))}
          (λ s. ⊎_elim {C = Sees (answer_rule d r v body) (answer_actions d r v body (answer_rule d r v body))}
          (λ quiet. quiet_sees generation range w i view m l d (answer_rule d r v body) (answer_actions d r v body (answer_rule d r v body))
          (stays_quietly generation range w i m l d r (answer_rule d r v body) (answer_both generation range w i both m l d by r f e begins v body number one two told) e s) quiet)
          (confirmed e) (answer_reads d r v body (answer_rule d r v body) e (f.calm e)))
          (confirmed e) (answer_stays d r v body e))
        where
          confirmed : is_serving r.stage ≡ false → IsConfirmation d r v body (answer_rule d r v body) → Sees (answer_rule d r v body) (answer_actions d r v body (answer_rule d r v body))
          confirmed e c = confirmation_sees generation range w i both m l d by view r f v body read (begins (confirming_at generation range w i both m l d by r f c.q c.phase)) e number one two c
