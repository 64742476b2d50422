-- A step of a range that is not being split, at a server that merges none, is a step of it alone, whatever other ranges of the server are
-- being split.
use Rattle.std.proofs.Common.{◌≡◌, ℕ, List, [], ◌++◌, Some, None, ap, ◌∙◌}
use Rattle.wire.specs.declared.actor.ReqNo.{ReqNo}
use Rattle.wire.specs.declared.packet.Packet.{Packet}
use Rattle.wire.specs.declared.transaction.Change.{Change}
use Rattle.model_partition.specs.Range.{RangeState, RangeOutcome}
use Rattle.model_partition.specs.Answering.{answer_rule}
use Rattle.model_partition.specs.Getting.{get_rule}
use Rattle.model_partition.specs.Serving.{transact_rule}
use Rattle.model_partition.specs.Server.{ServerState, counted, split_of, stepped, stepped_with, stepped_alone, merge_with, answer_in, given_up, given_up_with}
use Rattle.model_histories.specs.StreamActions.{transact_actions, answer_actions, split_stood, followed_actions}
use Rattle.model_histories.specs.ServerRun.{Does, Rests, transact_effect, follow_effect, get_effect, answer_effect}
use Rattle.laws_server_runs.proofs.Unmerged.{stepped_unmerged, answer_unmerged, given_up_unmerged}

module _ (s : ServerState) (range : ℕ) (none : split_of s.splits range ≡ None) where
  -- what it does with streams
  pub transact_effect_alone : (p : Packet) (changes : List Change) (q : ReqNo) (r : RangeState) →
      transact_effect s p range changes q (Some r) ≡ Does range r.load.generation (transact_actions r (transact_rule s.context r p.from q changes))
  transact_effect_alone p changes q r =
      let o : RangeOutcome = transact_rule s.context r p.from q changes in
      ap (λ job. Does range r.load.generation (followed_actions (counted s.context o) job o.after ++ transact_actions r o)) none

  pub get_effect_alone : (p : Packet) (key : List ℕ) (q : ReqNo) (r : RangeState) → get_effect s p range key q (Some r) ≡ Rests
  get_effect_alone p key q r = ap (λ job. follow_effect s range r job (get_rule s.context r p.from q key)) none

  pub answer_effect_alone : (p : Packet) (w : ReqNo) (r : RangeState) →
      answer_effect s p w range (Some r) ≡ Does range r.load.generation (answer_actions s.context r w p.body (answer_rule s.context r w p.body))
  answer_effect_alone p w r =
      let o : RangeOutcome = answer_rule s.context r w p.body in
      ap (λ job. Does range r.load.generation (followed_actions (counted s.context o) job o.after ++ (split_stood s.context r job w p.body o ++ answer_actions s.context r w p.body o))) none

  -- and what it leaves
  module _ (whole : s.merges ≡ []) where
    with_none : (o : RangeOutcome) → stepped_with s range (split_of s.splits range) o ≡ stepped_alone s range o
    with_none o = ap (λ job. stepped_with s range job o) none

    pub stepped_alone_is : (o : RangeOutcome) → stepped s range o ≡ stepped_alone s range o
    stepped_alone_is o = stepped_unmerged s whole range o ∙ with_none o

    pub answer_alone : (p : Packet) (w : ReqNo) (r : RangeState) → answer_in s p w range (Some r) ≡ stepped_alone s range (answer_rule s.context r w p.body)
    answer_alone p w r = answer_unmerged s whole p w range r ∙ with_none (answer_rule s.context r w p.body)

    pub given_up_alone : (o : RangeOutcome) → given_up s range (merge_with s.merges range) o ≡ stepped_alone s range o
    given_up_alone o = given_up_unmerged s whole range o ∙ ap (λ job. given_up_with s range job o) none
