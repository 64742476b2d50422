-- What an answer leaves of what is kept, by the job that waits for it.
use Rattle.std.proofs.Common.{◌≡◌, ℕ, Bool, List, [], true, false, Option, None, is_some, refl, subst}
use Rattle.std.specs.Prelude.{if◌then◌else◌}
use Rattle.wire.specs.declared.actor.ReqNo.{ReqNo}
use Rattle.wire.specs.declared.body.Body.{Body}
use Rattle.client.specs.Client.{awaits, reply_rule}
use Rattle.client.specs.Load.{load_awaits}
use Rattle.model_partition.specs.declared.server_context.ServerContext.{ServerContext}
use Rattle.model_partition.specs.Past.{Bytes}
use Rattle.model_partition.specs.Range.{RangeState, RangeOutcome, is_serving, picking, request}
use Rattle.model_partition.specs.PlaceReads.{reads_under, reads_page}
use Rattle.model_partition.specs.Answering.{load_reply, log_reply, is_taken, answer_rule, metadata_reply, index_reply, page_reply, trim_reply, gets_reply}
use Rattle.model_partition.specs.Checkpoints.{rows_reply, trim_awaits}
use Rattle.model_histories.specs.StreamActions.{StreamAction, load_actions, log_actions, metadata_actions, rows_actions, bytes_actions, answer_actions}
use Rattle.laws_loads.specs.RangeView.{RangeView, view_after_all}
use Rattle.laws_tables.specs.Runs.{Run}
use Rattle.laws_server_runs.specs.RangeInvariant.{Serves, InOrder, RangeKept, StreamsKept, StepKept}
use Rattle.laws_loads.proofs.CheckpointAnswers.{rows_reply_same, trim_reply_same}
use Rattle.laws_server_runs.proofs.CheckpointKept.{leaves_kept, leaves_queue, unserved_none, unserved_idle}
use Rattle.laws_server_runs.proofs.CheckpointReplies.{rows_reply_step}
use Rattle.laws_server_runs.proofs.CheckpointSteps.{trim_step}
use Rattle.laws_server_runs.proofs.ServedNotes.{serves_of}
use Rattle.laws_server_runs.proofs.ClientAnswers.{busy}
use Rattle.laws_server_runs.proofs.Fronts.{order_before_actions}
use Rattle.laws_server_runs.proofs.IndexRead.{index_reply_kept, page_reply_kept, gets_reply_kept}
use Rattle.laws_server_runs.proofs.MetadataJobs.{TellsOther}
use Rattle.laws_server_runs.proofs.LoadsAnswers.{metadata_kept, log_loading_kept}

module _ (texts : ℕ → Bytes) (subject : ℕ) (run : Run) (v : RangeView) (r : RangeState) (kept : RangeKept texts subject run v r) (streams : StreamsKept texts run v) (d : ServerContext) where
  -- what is kept where the range is not dropped, and its streams keep their order after that
  abbrev pub KeptBy : (RangeOutcome → List StreamAction) → RangeOutcome → Type 0
  KeptBy actions o =
      InOrder texts (view_after_all r.load.generation v (if is_some o.after then actions o else [])) → StepKept texts subject run v r (if is_some o.after then actions o else []) o

  module _ (w : ReqNo) (body : Body) (other : load_awaits r.load.phase w ≡ false → awaits r.metadata.job w ≡ true → TellsOther v.split (reply_rule (picking d r.metadata) (request d) body).news) (load : load_awaits r.load.phase w ≡ true → KeptBy (λ o. load_actions r body) (load_reply d r body))
      (serving : is_serving r.stage ≡ true → awaits r.log.job w ≡ true → StepKept texts subject run v r (if is_some (log_reply d r body).after then (if is_taken r body then log_actions d r body (log_reply d r body) else []) else []) (log_reply d r body)) where
    log_answer : awaits r.log.job w ≡ true → (t : Bool) → is_serving r.stage ≡ t → KeptBy (λ o. if is_taken r body then log_actions d r body o else []) (log_reply d r body)
    log_answer waited true e = λ order. serving e waited
    log_answer waited false e = λ order. log_loading_kept texts subject run v r kept streams d e w body waited

    metadata_answer : load_awaits r.load.phase w ≡ false → awaits r.metadata.job w ≡ true → KeptBy (λ o. metadata_actions d r body) (metadata_reply d r body)
    metadata_answer unasked waited order =
        metadata_kept texts subject run v r kept streams d
        (order_before_actions texts r.load.generation v (if is_some (metadata_reply d r body).after then metadata_actions d r body else []) order).answered w body waited (other unasked waited)

    -- an answer to row data
    rows_answer : awaits r.rows.job w ≡ true → (t : Bool) → is_serving r.stage ≡ t → KeptBy (λ o. rows_actions d r body) (rows_reply d r body)
    rows_answer waited true e = λ order.
        let k : Serves texts run v r = serves_of texts subject run v r e kept in
        leaves_kept texts subject run v r kept streams e (rows_reply d r body) (rows_actions d r body) (leaves_queue r (rows_reply d r body) (rows_reply_same d r body))
        (λ z there. rows_reply_step texts subject run v r k.matches k.shown streams d body
        (subst (λ (x : Option RangeState). InOrder texts (view_after_all r.load.generation v (if is_some x then rows_actions d r body else []))) there order))
    rows_answer waited false e = absurd (busy r.rows.job w waited (unserved_idle texts run v r r.stage kept.stage e))

    -- the answer to a Trim
    trim_answer : trim_awaits r.control w ≡ true → (t : Bool) → is_serving r.stage ≡ t → KeptBy (λ o. []) (trim_reply d r body)
    trim_answer waited true e = λ order.
        let k : Serves texts run v r = serves_of texts subject run v r e kept in
        leaves_kept texts subject run v r kept streams e (trim_reply d r body) [] (leaves_queue r (trim_reply d r body) (trim_reply_same d r body))
        (λ z there. trim_step texts subject run v r k.matches k.shown streams d body)
    trim_answer waited false e =
        let none : trim_awaits None w ≡ true = subst (λ job. trim_awaits job w ≡ true) (unserved_none texts run v r r.stage kept.stage e) waited in absurd cc

    abbrev chosen : Bool → Bool → Bool → Bool → Bool → Bool → Bool → RangeOutcome
    chosen a b c e f p g =
        if a then load_reply d r body else if b then metadata_reply d r body else if c then log_reply d r body
        else if e then rows_reply d r body else if f then (if p then page_reply d r body else index_reply d r body) else if g then trim_reply d r body else gets_reply d r w body

    answered : (a b c e f p g : Bool) → load_awaits r.load.phase w ≡ a → awaits r.metadata.job w ≡ b → awaits r.log.job w ≡ c → awaits r.rows.job w ≡ e → trim_awaits r.control w ≡ g →
        KeptBy (λ o. if a then load_actions r body else if b then metadata_actions d r body else if c then (if is_taken r body then log_actions d r body o else []) else if e then rows_actions d r body else if f then bytes_actions body else if g then [] else bytes_actions body)
        (chosen a b c e f p g)
    answered true b c e f p g x y z u t = load x
    answered false true c e f p g x y z u t = metadata_answer x y
    answered false false true e f p g x y z u t = log_answer z (is_serving r.stage) refl
    answered false false false true f p g x y z u t = rows_answer u (is_serving r.stage) refl
    answered false false false false true true g x y z u t = page_reply_kept texts subject run v r kept streams d body
    answered false false false false true false g x y z u t = index_reply_kept texts subject run v r kept streams d body
    answered false false false false false p true x y z u t = trim_answer t (is_serving r.stage) refl
    answered false false false false false p false x y z u t = gets_reply_kept texts subject run v r kept streams d w body

    -- an answer, where that of the opening or the confirmation and that of a served range's log are kept
    pub answer_kept : InOrder texts (view_after_all r.load.generation v (answer_actions d r w body (answer_rule d r w body))) → StepKept texts subject run v r (answer_actions d r w body (answer_rule d r w body)) (answer_rule d r w body)
    answer_kept =
        answered (load_awaits r.load.phase w) (awaits r.metadata.job w) (awaits r.log.job w) (awaits r.rows.job w) (reads_under r.reading w) (reads_page r.reading) (trim_awaits r.control w) refl refl refl refl refl
