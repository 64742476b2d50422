-- No event of servers begins a merge: none has one, and each of its steps is one of a server without merges.
use Rattle.std.proofs.Common.{◌≡◌, ℕ, List, [], ◌∷◌, Bool, true, false, ◌||◌, Option, Some, None, is_some, refl, sym, ap, ◌∙◌, subst}
use Rattle.wire.specs.declared.actor.ReqNo.{ReqNo}
use Rattle.wire.specs.declared.packet.Packet.{Packet}
use Rattle.model_streams.proofs.Tests.{if_elim}
use Rattle.model_partition.specs.declared.split_job.SplitJob.{SplitJob}
use Rattle.model_partition.specs.Range.{RangeState, RangeOutcome}
use Rattle.model_partition.specs.Answering.{answer_rule}
use Rattle.model_partition.specs.Server.{ServerState, ServerOutcome, range_of, rests, split_of, split_awaiting, stepped, stepped_apart, stepped_with, stepped_in, stepped_splitting, merge_with, merge_of, merge_awaiting, assigned, answer_at, answer_in, merge_answer, split_answer_in, split_answer, given_up_splitting, given_up_with, given_up, has_numbers, has_jobs, split_refusal, splits_in, server_split}
use Rattle.model_partition.specs.Servers.{ServerCell}
use Rattle.model_histories.specs.ServerRun.{ServerRun, ServerEvent, after_event, run_of}
use Rattle.laws_server_runs.proofs.StatesKept.{opened, StepsKeep, AllSo, first_so, event_so}

or_no : (b : Bool) → (b || false) ≡ b
or_no true = refl
or_no false = refl

-- ---- steps of a server that has no merge

module _ (s : ServerState) (none : s.merges ≡ []) where
  pub stepped_unmerged : (range : ℕ) (o : RangeOutcome) → stepped s range o ≡ stepped_apart s range o
  stepped_unmerged range o = ap (λ l. stepped_in s range (merge_with l range) o) none

  pub given_up_unmerged : (range : ℕ) (o : RangeOutcome) → given_up s range (merge_with s.merges range) o ≡ given_up_with s range (split_of s.splits range) o
  given_up_unmerged range o = ap (λ l. given_up s range (merge_with l range) o) none

  pub assigned_unmerged : (z : ServerState) (range : ℕ) → assigned z (merge_with s.merges range) ≡ z
  assigned_unmerged z range = ap (λ l. assigned z (merge_with l range)) none

  pub answer_unmerged : (p : Packet) (w : ReqNo) (range : ℕ) (r : RangeState) → answer_in s p w range (Some r) ≡ stepped_apart s range (answer_rule s.context r w p.body)
  answer_unmerged p w range r = ap (λ l. answer_at s p w range r (merge_of l range)) none ∙ stepped_unmerged range (answer_rule s.context r w p.body)

  pub unawaited_merge : (p : Packet) (w : ReqNo) → split_answer s p w None ≡ rests s
  unawaited_merge p w = ap (λ l. merge_answer s p (merge_awaiting l w)) none

  pub jobs_unmerged : (range : ℕ) → has_jobs s range ≡ is_some (split_of s.splits range)
  jobs_unmerged range = ap (λ l. is_some (split_of s.splits range) || is_some (merge_with l range)) none ∙ or_no (is_some (split_of s.splits range))

  -- ---- what they leave

  abbrev HasNone : ServerOutcome → Type 0
  HasNone o = o.after.merges ≡ []

  splitting_none : (range : ℕ) (job : SplitJob) (o : RangeOutcome) (after : Option RangeState) → HasNone (stepped_splitting s range job o after)
  splitting_none range job o None = none
  splitting_none range job o (Some r) = none

  apart_none : (range : ℕ) (o : RangeOutcome) (job : Option SplitJob) → HasNone (stepped_with s range job o)
  apart_none range o None = none
  apart_none range o (Some job) = splitting_none range job o o.after

  leaving_none : (range : ℕ) (job : SplitJob) (o : RangeOutcome) (after : Option RangeState) → HasNone (given_up_splitting s range job o after)
  leaving_none range job o None = none
  leaving_none range job o (Some r) = none

  left_none : (range : ℕ) (o : RangeOutcome) (job : Option SplitJob) → HasNone (given_up_with s range job o)
  left_none range o None = none
  left_none range o (Some job) = leaving_none range job o o.after

  heard_in_none : (p : Packet) (range : ℕ) (known : Option RangeState) (job : Option SplitJob) → HasNone (split_answer_in s p range known job)
  heard_in_none p range (Some r) (Some job) = none
  heard_in_none p range (Some r) None = none
  heard_in_none p range None job = none

  heard_none : (p : Packet) (w : ReqNo) (range : Option ℕ) → HasNone (split_answer s p w range)
  heard_none p w None = subst HasNone (sym (unawaited_merge p w)) none
  heard_none p w (Some range) = heard_in_none p range (range_of s.ranges range) (split_of s.splits range)

  splits_in_none : (range : ℕ) (key : List ℕ) (known : Option RangeState) → HasNone (splits_in s range key known)
  splits_in_none range key None = none
  splits_in_none range key (Some r) = if_elim HasNone (has_numbers s.context) _ _ (λ t. none) (λ f. none)

  split_none : (range : ℕ) (key : List ℕ) → HasNone (server_split s range key)
  split_none range key = if_elim HasNone (is_some (split_refusal s range key)) _ _ (λ t. none) (λ f. splits_in_none range key (range_of s.ranges range))

-- ---- all servers

abbrev pub HasNoMerge : ServerState → Type 0
HasNoMerge s = s.merges ≡ []

-- where a server runs it has no merge
abbrev pub HaveNoMerges : List ServerCell → Type 0
HaveNoMerges servers = AllSo HasNoMerge servers

steps_unmerged : (s : ServerState) → HasNoMerge s → StepsKeep HasNoMerge s
steps_unmerged s none = record {
  now = none;
  steps = λ range o. subst (HasNone s none) (sym (stepped_unmerged s none range o)) (apart_none s none range o (split_of s.splits range));
  opens = λ range generation until. subst HasNoMerge (sym (assigned_unmerged s none (opened s range generation until) range)) none;
  renews = λ ranges. none;
  answers = λ p w range r. subst (HasNone s none) (sym (answer_unmerged s none p w range r)) (apart_none s none range (answer_rule s.context r w p.body) (split_of s.splits range));
  hears = λ p w. heard_none s none p w (split_awaiting s.splits w);
  leaves = λ range o. subst (HasNone s none) (sym (given_up_unmerged s none range o)) (left_none s none range o (split_of s.splits range));
}

pub event_unmerged : (x : ServerRun) (event : ServerEvent) → HaveNoMerges x.servers → HaveNoMerges (after_event x event).servers
event_unmerged x event old =
    event_so HasNoMerge steps_unmerged (λ s context none. none) (λ s session now batch. refl) x event (λ s range key is st none. split_none st none range key) old

-- over any events no server has a merge
pub unmerged : (batch servers : ℕ) (events : List ServerEvent) → HaveNoMerges (run_of batch servers events).servers
unmerged batch servers [] = first_so HasNoMerge steps_unmerged (λ s context none. none) (λ s session now batch. refl) batch servers
unmerged batch servers (event ∷ earlier) = event_unmerged (run_of batch servers earlier) event (unmerged batch servers earlier)
