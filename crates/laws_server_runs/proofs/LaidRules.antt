-- What each rule keeps of any range.
use Rattle.std.proofs.Common.{ℕ, List}
use Rattle.model_partition.specs.Range.{RangeState, RangeOutcome}
use Rattle.model_histories.specs.StreamActions.{StreamAction}
use Rattle.laws_loads.specs.RangeView.{RangeView}
use Rattle.laws_server_runs.specs.Places.{RangeLaid, StepLaid, RuleLaid}
use Rattle.laws_server_runs.specs.Turns.{IsRule, Transacts, Answers, Gets, Yields, Checkpoints, Renews}
use Rattle.laws_server_runs.proofs.LaidCheckpoints.{begins_laid}
use Rattle.laws_server_runs.proofs.LaidServed.{transact_laid}
use Rattle.laws_server_runs.proofs.LaidSteps.{get_laid, give_up_laid, renewed_laid, answer_laid}

-- each rule
pub rule_left : (k : ℕ) (v : RangeView) (r : RangeState) → RangeLaid k v r → (actions : List StreamAction) (o : RangeOutcome) → IsRule r actions o → RuleLaid k v r actions o
rule_left k v r before actions o (Transacts d from q changes) = transact_laid k v r before d from q changes
rule_left k v r before actions o (Answers d w body) = answer_laid k v r before d body w
rule_left k v r before actions o (Gets d from q key) = get_laid k v r before d from q key
rule_left k v r before actions o (Yields d) = give_up_laid k v r before d
rule_left k v r before actions o (Checkpoints d combine may) = begins_laid k v r d before combine may
rule_left k v r before actions o (Renews until count) = renewed_laid k v r before until count

pub rule_laid : (k : ℕ) (v : RangeView) (r : RangeState) → RangeLaid k v r → (actions : List StreamAction) (o : RangeOutcome) → IsRule r actions o → StepLaid k v r.load.generation actions o
rule_laid k v r before actions o rule = (rule_left k v r before actions o rule).step
