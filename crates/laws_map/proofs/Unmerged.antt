-- A server that has no merge takes each step as one without merges.
use Rattle.std.proofs.Common.{◌≡◌, ℕ, [], Some, ap}
use Rattle.wire.specs.declared.actor.ReqNo.{ReqNo}
use Rattle.wire.specs.declared.packet.Packet.{Packet}
use Rattle.model_partition.specs.Range.{RangeState, RangeOutcome}
use Rattle.model_partition.specs.Answering.{answer_rule}
use Rattle.model_partition.specs.Server.{ServerState, rests, split_of, stepped, stepped_apart, stepped_in, merge_with, merge_of, merge_awaiting, assigned, answer_at, answer_in, merge_answer, given_up_with, given_up}

module _ (s : ServerState) (none : s.merges ≡ []) where
  pub stepped_unmerged : (range : ℕ) (o : RangeOutcome) → stepped s range o ≡ stepped_apart s range o
  stepped_unmerged range o = ap (λ l. stepped_in s range (merge_with l range) o) none

  pub given_up_unmerged : (range : ℕ) (o : RangeOutcome) → given_up s range (merge_with s.merges range) o ≡ given_up_with s range (split_of s.splits range) o
  given_up_unmerged range o = ap (λ l. given_up s range (merge_with l range) o) none

  pub assigned_unmerged : (z : ServerState) (range : ℕ) → assigned z (merge_with s.merges range) ≡ z
  assigned_unmerged z range = ap (λ l. assigned z (merge_with l range)) none

  pub answer_unmerged : (p : Packet) (w : ReqNo) (range : ℕ) (r : RangeState) → answer_in s p w range (Some r) ≡ stepped s range (answer_rule s.context r w p.body)
  answer_unmerged p w range r = ap (λ l. answer_at s p w range r (merge_of l range)) none

  pub unawaited_merge : (p : Packet) (w : ReqNo) → merge_answer s p (merge_awaiting s.merges w) ≡ rests s
  unawaited_merge p w = ap (λ l. merge_answer s p (merge_awaiting l w)) none
