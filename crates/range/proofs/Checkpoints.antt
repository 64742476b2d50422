-- Why no checkpoint, no split and no merge of ranges begins.
use Rattle.std.proofs.Common.{◌≡◌, ℕ, Bool, true, false, List, Option, Some, None, inl, inr, sym, ◌∙◌}
use Rattle.std.specs.Prelude.{◌||◌, ◌&&◌, not, is_some, if◌then◌else◌}
use Rattle.wire.specs.declared.refusal.Refusal.{Refusal}
use Rattle.wire.specs.declared.refusal.Refusal.TheVariants as refusals
use Rattle.model_partition.specs.Range.{RangeState, is_serving, is_paused}
use Rattle.model_partition.specs.Checkpoints.{checkpoint_fault}
use Rattle.model_partition.specs.Map.{is_split_key}
use Rattle.model_partition.specs.Merges.{are_beside, are_too_many, is_busy, merge_fault}
use Rattle.model_partition.specs.Server.{ServerState, has_jobs, merge_refusal, merge_refused, range_of}
use Rattle.model_partition.specs.Splits.{split_fault}
use Rattle.range.specs.Faults.{IsBeginningRefusal}

either : (serving paused under_way : Bool) (refusal : Refusal)
    → (if not serving then Some refusals.Loading else if paused then Some refusals.Paused else if under_way then Some refusals.Busy else None) ≡ Some refusal → IsBeginningRefusal refusal
either false paused under_way refusal is = inl cc
either true true under_way refusal is = inr (inl cc)
either true false true refusal is = inr (inr (inl cc))
either true false false refusal is = absurd cc

-- it is loaded, it is paused, or a checkpoint is under way
pub refused_so : (r : RangeState) (refusal : Refusal) → checkpoint_fault r ≡ Some refusal → IsBeginningRefusal refusal
refused_so r refusal is = either (is_serving r.stage) (is_paused r.pause) (is_some r.control || is_some r.fixed) refusal is

any_of_four : (serving paused under_way divides : Bool) (refusal : Refusal)
    → (if not serving then Some refusals.Loading else if paused then Some refusals.Paused else if under_way then Some refusals.Busy else if not divides then Some refusals.BadSplitKey else None) ≡ Some refusal
    → IsBeginningRefusal refusal
any_of_four false paused under_way divides refusal is = inl cc
any_of_four true true under_way divides refusal is = inr (inl cc)
any_of_four true false true divides refusal is = inr (inr (inl cc))
any_of_four true false false false refusal is = inr (inr (inr (inl cc)))
any_of_four true false false true refusal is = absurd cc

-- these, a split is under way, or the key does not split it
pub split_refused_so : (r : RangeState) (splits : Bool) (key : List ℕ) (refusal : Refusal) → split_fault r splits key ≡ Some refusal → IsBeginningRefusal refusal
split_refused_so r splits key refusal is =
    any_of_four (is_serving r.stage) (is_paused r.pause) (splits || (is_some r.control || is_some r.fixed)) (is_split_key r.said.keys key) refusal is

any_of_five : (loading paused under_way apart many : Bool) (refusal : Refusal)
    → (if loading then Some refusals.Loading else if paused then Some refusals.Paused else if under_way then Some refusals.Busy else if apart then Some refusals.NotAdjacent else if many then Some refusals.TooLarge else None) ≡ Some refusal
    → IsBeginningRefusal refusal
any_of_five true paused under_way apart many refusal is = inl cc
any_of_five false true under_way apart many refusal is = inr (inl cc)
any_of_five false false true apart many refusal is = inr (inr (inl cc))
any_of_five false false false true many refusal is = inr (inr (inr (inr (inl cc))))
any_of_five false false false false true refusal is = inr (inr (inr (inr (inr cc))))
any_of_five false false false false false refusal is = absurd cc

-- 38, 34, 35, 40 or 37
pub merge_refused_so : (l r : RangeState) (left_jobs right_jobs : Bool) (refusal : Refusal) → merge_fault l r left_jobs right_jobs ≡ Some refusal → IsBeginningRefusal refusal
merge_refused_so l r left_jobs right_jobs refusal is =
    any_of_five (not (is_serving l.stage && is_serving r.stage)) (is_paused l.pause || is_paused r.pause) (is_busy l left_jobs || is_busy r right_jobs)
    (not (are_beside l r)) (are_too_many l r) refusal is

-- the refusal is the merge's
pub merge_refused_as : (s : ServerState) (left right : ℕ) (l r : RangeState) (left_jobs right_jobs : Bool) (told : Option Refusal) → range_of s.ranges left ≡ Some l
    → range_of s.ranges right ≡ Some r → left_jobs ≡ has_jobs s left → right_jobs ≡ has_jobs s right → told ≡ merge_fault l r left_jobs right_jobs
    → told ≡ merge_refusal s left right
merge_refused_as s left right l r left_jobs right_jobs told low high some others is = is ∙ (λ i. merge_refused (some i) (others i) (sym low i) (sym high i))
