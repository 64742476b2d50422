-- All rules of a range keep what is kept.
use Rattle.std.proofs.Common.{◌≡◌, ℕ, List, [], true, false, Some, refl, inl}
use Rattle.client.specs.Client.{awaits, reply_rule}
use Rattle.client.specs.Load.{load_awaits}
use Rattle.model_partition.specs.Past.{Bytes}
use Rattle.model_partition.specs.Range.{RangeState, RangeOutcome, is_serving, picking, request}
use Rattle.model_histories.specs.StreamActions.{StreamAction}
use Rattle.laws_loads.specs.RangeView.{RangeView, Free, view_after_all}
use Rattle.laws_tables.specs.Runs.{Run}
use Rattle.laws_server_runs.specs.Places.{AreLow}
use Rattle.laws_server_runs.proofs.CheckpointKept.{checkpoint_kept}
use Rattle.laws_server_runs.specs.RangeInvariant.{RangeKept, StreamsKept, InOrder, StepKept}
use Rattle.laws_server_runs.specs.Turns.{IsRule, Transacts, Answers, Gets, Yields, Checkpoints, Renews}
use Rattle.laws_server_runs.proofs.Loads.{calm_kept, get_kept, give_up_kept, renewed_kept}
use Rattle.laws_server_runs.proofs.LoadsSteps.{opens_kept}
use Rattle.laws_server_runs.proofs.LoadsAnswered.{answer_kept}
use Rattle.laws_server_runs.proofs.Confirms.{load_kept}
use Rattle.laws_server_runs.proofs.MetadataJobs.{TellsOther}
use Rattle.laws_server_runs.proofs.Served.{transact_kept, log_serving_kept}

-- What is asked of a rule where the range may be split: it is not while it is loaded, no checkpoint begins, and the answer is not
-- that the record of its split stands.
abbrev pub Suits : (v : RangeView) (r : RangeState) {actions : List StreamAction} {o : RangeOutcome} → IsRule r actions o → Type 0
Suits v r (Answers d w body) = load_awaits r.load.phase w ≡ false → awaits r.metadata.job w ≡ true → TellsOther v.split (reply_rule (picking d r.metadata) (request d) body).news
Suits v r (Checkpoints d combine may) = v.split ≡ Free
Suits v r rule = Unit {0}

module _ (texts : ℕ → Bytes) (subject : ℕ) (run : Run) (v : RangeView) (r : RangeState) where
  -- What a rule keeps, where pages can have the range's memory table but for the numbers of extents.
  pub rule_kept : RangeKept texts subject run v r → StreamsKept texts run v → AreLow r.live → (is_serving r.stage ≡ false → v.split ≡ Free) → (actions : List StreamAction) (o : RangeOutcome) (rule : IsRule r actions o) → Suits v r rule →
      InOrder texts (view_after_all r.load.generation v actions) → StepKept texts subject run v r actions o
  rule_kept kept streams low loads actions o (Transacts d from q changes) suits order = transact_kept texts subject run v r kept streams d from q changes
  rule_kept kept streams low loads actions o (Answers d w body) suits order =
      answer_kept texts subject run v r kept streams d w body suits
      (λ t. load_kept texts subject run v r kept streams low.0 d (opens_kept texts subject run v r kept streams d) loads w body t)
      (λ serving waited. log_serving_kept texts subject run v r kept streams d serving w body waited) order
  rule_kept kept streams low loads actions o (Gets d from q key) suits order = get_kept texts subject run v r kept streams d from q key
  rule_kept kept streams low loads actions o (Yields d) suits order = give_up_kept texts subject run v r kept streams d
  rule_kept kept streams low loads actions o (Checkpoints d combine may) suits order = checkpoint_kept texts subject run v r kept streams d combine may suits low
  rule_kept kept streams low loads actions o (Renews until count) suits order =
      calm_kept texts subject run v r (record { after = Some (record r { until = until }); count = count; packets = []; notes = [] }) streams refl
      (renewed_kept texts subject run v r kept until, refl) (λ e. inl e)
