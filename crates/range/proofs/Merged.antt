-- Steps of ranges of a merge, which goes on or ends behind them.
use Rattle.std.proofs.Common.{◌≡◌, ℕ, Bool, true, false, List, [], ◌++◌, Option, Some, None, refl, ap, sym, ◌∙◌, ◌==◌}
use Rattle.std.specs.Prelude.{is_some, if◌then◌else◌}
use Rattle.std.specs.BTreeMap.{is_at}
use Rattle.std.specs.List.Sorted.{IsStrictlySortedBy}
use Rattle.std.specs.Map.{keys_of, set_value}
use Rattle.std.specs.Ordering.{nat_cmp}
use Rattle.wire.specs.declared.actor.ReqNo.{ReqNo}
use Rattle.wire.specs.declared.packet.Packet.{Packet}
use Rattle.model_partition.specs.declared.merge_job.MergeJob.{MergeJob}
use Rattle.model_partition.specs.declared.merge_job.MergePhase.{MergePhase}
use Rattle.model_partition.specs.declared.merge_job.MergePhase.TheVariants as phases
use Rattle.model_partition.specs.declared.merge_job.MergeSide.{MergeSide}
use Rattle.model_partition.specs.declared.merge_job.MergeSide.TheVariants.{Left, Right}
use Rattle.model_partition.specs.declared.server_context.ServerContext.{ServerContext}
use Rattle.model_partition.specs.declared.split_job.SplitJob.{SplitJob}
use Rattle.model_partition.specs.declared.table_note.TableNote.{TableNote}
use Rattle.model_partition.specs.Answering.{answer_rule}
use Rattle.model_partition.specs.ControlJobs.{give_up_control}
use Rattle.model_partition.specs.Merges.{MergeStep, asks_again, checkpoint_again, checkpoint_gives_up, follows, follows_in, gives_up_with, has_numbers_again, left_checkpointed, left_ends, merge_reply, other_checkpoint, right_checkpointed, side_of, stays}
use Rattle.model_partition.specs.Range.{RangeState, RangeOutcome, answers}
use Rattle.model_partition.specs.Server.{ServerState, ServerOutcome, TwoRanges, answer_at, answer_ending, answer_in, answer_of, answered_both, assigned_merging, awaiting, both_of, follows_both, give_up_both, given_up, given_up_merging, left_ended, merge_answer_in, merge_follows, merge_gives_up, merge_of, merge_stepped, merge_with, merged_behind, range_of, rests, set_merge, set_range, side_of_range, split_of, stepped, stepped_alone, stepped_in, stepped_merging}
use Rattle.model_partition.specs.Splits.{has_number}
use Rattle.range_core.specs.Steps.{RangeStep, unless}
use Rattle.range_core.specs.Steps.{outcome as step_of}
use Rattle.range_merge.specs.Rooms.{room_of}
use Rattle.range_merge.specs.Steps.{MergeTaken, behind, behind_step, outcome, paused_if}
use Rattle.std.proofs.lemmas.List.{append-nil}
use Rattle.range.specs.ServerStep.{IsMergeStep, Sent, asks_at, asks_both, behind_sent, both_set, follows_at, gives_up_at, merge_room, ranges_left, trim_of}
use Rattle.range.specs.ServerStep.{outcome as server_outcome}
use Rattle.range.proofs.BothRanges.{both_held, both_known, both_same, both_there, right_found, some_same}
use Rattle.range.proofs.Entries.{found_again, inserted_in_place, removed_after, set_same}
use Rattle.range.proofs.Settled.{alone_after, apart_after, given_up_apart_after, with_count, with_range}

-- ---- a step sets its range, whatever the range was

merging_after : (s : ServerState) (range left : ℕ) (r : RangeState) (o : RangeOutcome) (job : Option MergeJob)
    → stepped_merging (with_range s range r) range left job o ≡ stepped_merging s range left job o
merging_after s range left r o None = apart_after s range r o
merging_after s range left r o (Some job) = ap (λ t. merged_behind o t left job o.after (merge_follows range)) (alone_after s range r o)

in_after : (s : ServerState) (range : ℕ) (r : RangeState) (o : RangeOutcome) (left : Option ℕ) → stepped_in (with_range s range r) range left o ≡ stepped_in s range left o
in_after s range r o None = apart_after s range r o
in_after s range r o (Some left) = merging_after s range left r o (merge_of s.merges left)

pub stepped_after : (s : ServerState) (range : ℕ) (r : RangeState) (o : RangeOutcome) → stepped (with_range s range r) range o ≡ stepped s range o
stepped_after s range r o = in_after s range r o (merge_with s.merges range)

given_up_merging_after : (s : ServerState) (range left : ℕ) (r : RangeState) (o : RangeOutcome) (job : Option MergeJob)
    → given_up_merging (with_range s range r) range left job o ≡ given_up_merging s range left job o
given_up_merging_after s range left r o None = given_up_apart_after s range r o (split_of s.splits range)
given_up_merging_after s range left r o (Some job) = ap (λ t. merged_behind o t left job o.after (merge_gives_up range)) (alone_after s range r o)

pub given_up_after : (s : ServerState) (range : ℕ) (r : RangeState) (o : RangeOutcome) (left : Option ℕ)
    → given_up (with_range s range r) range left o ≡ given_up s range left o
given_up_after s range r o None = given_up_apart_after s range r o (split_of s.splits range)
given_up_after s range r o (Some left) = given_up_merging_after s range left r o (merge_of s.merges left)

-- ---- a range that goes, and one that does not

abbrev gone : ServerState → ℕ → RangeStep → ℕ → Option MergeJob → ServerOutcome
gone s range t left job =
    record {
      after = assigned_merging (record s { context = record s.context { count = t.count }; ranges = set_range s.ranges range None }) left job;
      packets = t.packets;
      notes = t.notes;
    }

abbrev ended : RangeStep → RangeState → Bool → RangeOutcome
ended t r dropped = record { after = unless dropped r; count = t.count; packets = t.packets; notes = t.notes }

pub merged_dropped : (s : ServerState) (range left : ℕ) (job : Option MergeJob) (t : RangeStep) (r : RangeState) → is_some job ≡ true → t.dropped ≡ true
    → stepped_merging s range left job (step_of t r) ≡ gone s range t left job
merged_dropped s range left None t r there dropped = absurd cc
merged_dropped s range left (Some job) t r there dropped = ap (λ x. stepped_merging s range left (Some job) (ended t r x)) dropped

pub given_up_merged_dropped : (s : ServerState) (range left : ℕ) (job : Option MergeJob) (t : RangeStep) (r : RangeState) → is_some job ≡ true → t.dropped ≡ true
    → given_up_merging s range left job (step_of t r) ≡ gone s range t left job
given_up_merged_dropped s range left None t r there dropped = absurd cc
given_up_merged_dropped s range left (Some job) t r there dropped = ap (λ x. given_up_merging s range left (Some job) (ended t r x)) dropped

-- the step sends this, and then its merge goes on
behind_same : (sent packets : List Packet) (notes others : List TableNote) (t : ServerOutcome) → sent ≡ packets → notes ≡ others
    → behind_sent packets others t ≡ behind_sent sent notes t
behind_same sent packets notes others t same_packets same_notes = λ i. behind_sent (sym same_packets i) (sym same_notes i) t

pub merged_on : (s : ServerState) (range left : ℕ) (job : Option MergeJob) (t : RangeStep) (r : RangeState) (sent : List Packet) (notes : List TableNote)
    → is_some job ≡ true → range_of s.ranges range ≡ Some r → t.dropped ≡ false → sent ≡ t.packets → notes ≡ t.notes
    → stepped_merging s range left job (step_of t r) ≡ behind_sent sent notes (follows_at range (with_count s t.count) left job)
merged_on s range left None t r sent notes there known held same_packets same_notes = absurd cc
merged_on s range left (Some job) t r sent notes there known held same_packets same_notes =
    ap (λ x. stepped_merging s range left (Some job) (ended t r x)) held
    ∙ ap (λ rs. behind_sent t.packets t.notes (merge_follows range (record s { context = record s.context { count = t.count }; ranges = rs }) left job))
    (set_same (is_at (nat_cmp range)) s.ranges r known)
    ∙ behind_same sent t.packets notes t.notes (merge_follows range (with_count s t.count) left job) same_packets same_notes

pub given_up_merged_on : (s : ServerState) (range left : ℕ) (job : Option MergeJob) (t : RangeStep) (r : RangeState) (sent : List Packet) (notes : List TableNote)
    → is_some job ≡ true → range_of s.ranges range ≡ Some r → t.dropped ≡ false → sent ≡ t.packets → notes ≡ t.notes
    → given_up_merging s range left job (step_of t r) ≡ behind_sent sent notes (gives_up_at range (with_count s t.count) left job)
given_up_merged_on s range left None t r sent notes there known held same_packets same_notes = absurd cc
given_up_merged_on s range left (Some job) t r sent notes there known held same_packets same_notes =
    ap (λ x. given_up_merging s range left (Some job) (ended t r x)) held
    ∙ ap (λ rs. behind_sent t.packets t.notes (merge_gives_up range (record s { context = record s.context { count = t.count }; ranges = rs }) left job))
    (set_same (is_at (nat_cmp range)) s.ranges r known)
    ∙ behind_same sent t.packets notes t.notes (merge_gives_up range (with_count s t.count) left job) same_packets same_notes

-- ---- where nothing may come of a merge

rests_in : (d : ServerContext) (l r : RangeState) (job : MergeJob) (side : MergeSide) (phase : MergePhase) → room_of job phase ≡ None
    → follows_in d l r job side phase ≡ stays d l r job
rests_in d l r job Left (phases.Begin q) none = refl
rests_in d l r job Left (phases.Checkpoint Left) none = refl
rests_in d l r job Left (phases.Checkpoint Right) none = refl
rests_in d l r job Left phases.Queue none = absurd cc
rests_in d l r job Left (phases.Seal side kind q) none = refl
rests_in d l r job Left (phases.Build q) none = refl
rests_in d l r job Left (phases.Create q) none = refl
rests_in d l r job Left (phases.Write what c) none = refl
rests_in d l r job Left (phases.Complete q) none = refl
rests_in d l r job Right (phases.Begin q) none = refl
rests_in d l r job Right (phases.Checkpoint Left) none = refl
rests_in d l r job Right (phases.Checkpoint Right) none = absurd cc
rests_in d l r job Right phases.Queue none = absurd cc
rests_in d l r job Right (phases.Seal side kind q) none = refl
rests_in d l r job Right (phases.Build q) none = refl
rests_in d l r job Right (phases.Create q) none = refl
rests_in d l r job Right (phases.Write what c) none = refl
rests_in d l r job Right (phases.Complete q) none = refl

rests_if : (b : Bool) (d : ServerContext) (l r : RangeState) (job : MergeJob) (side : MergeSide) → room_of job job.phase ≡ None
    → (if b then follows_in d l r job side job.phase else stays d l r job) ≡ stays d l r job
rests_if true d l r job side none = rests_in d l r job side job.phase none
rests_if false d l r job side none = refl

-- ---- what a step of a merge leaves

abbrev settled : ServerState → ℕ → MergeJob → List TableNote → MergeStep → ServerOutcome
settled s left job notes t =
    record {
      after = record s { context = record s.context { count = t.count }; ranges = ranges_left s.ranges job t; merges = set_merge s.merges left t.job };
      packets = t.packets;
      notes = notes;
    }

abbrev left_so : ServerState → ℕ → List TableNote → List (ℕ × RangeState) → MergeJob → ℕ → List Packet → ServerOutcome
left_so s left notes rs job count packets =
    record {
      after = record s { context = record s.context { count = count }; ranges = rs; merges = set_value (is_at (nat_cmp left)) s.merges job };
      packets = packets;
      notes = notes;
    }

-- one after which all go on
all_left : (s : ServerState) (left : ℕ) (notes : List TableNote) (left_dropped right_dropped over : Bool) (count : ℕ) (packets : List Packet) (l r : RangeState) (old job : MergeJob)
    → IsStrictlySortedBy nat_cmp (keys_of s.merges) → merge_of s.merges left ≡ Some old → left_dropped ≡ false → right_dropped ≡ false → over ≡ false
    → settled s left old notes (outcome (record { left_dropped = left_dropped; right_dropped = right_dropped; ended = over; count = count; packets = packets }) l r job)
    ≡ left_so s left notes (both_set s.ranges old.left old.right l r) job count packets
all_left s left notes true right_dropped over count packets l r old job sorted here low high under_way = absurd cc
all_left s left notes false true over count packets l r old job sorted here low high under_way = absurd cc
all_left s left notes false false true count packets l r old job sorted here low high under_way = absurd cc
all_left s left notes false false false count packets l r old job sorted here low high under_way =
    ap (λ js. record {
      after = record s { context = record s.context { count = count }; ranges = both_set s.ranges old.left old.right l r; merges = js };
      packets = packets;
      notes = notes;
    })
    (inserted_in_place left s.merges old job sorted here)

-- and one that changes nothing
stayed : (s : ServerState) (left : ℕ) (l r : RangeState) (job : MergeJob) → IsStrictlySortedBy nat_cmp (keys_of s.merges) → merge_of s.merges left ≡ Some job
    → range_of s.ranges job.left ≡ Some l → range_of s.ranges job.right ≡ Some r → merge_stepped s left job (stays s.context l r job) ≡ rests s
stayed s left l r job sorted here low high =
    ap (λ rs. record { after = record s { ranges = rs; merges = set_merge s.merges left (Some job) }; packets = []; notes = [] })
    (both_same s.ranges job.left job.right l r low high)
    ∙ ap (λ js. record { after = record s { merges = js }; packets = []; notes = [] })
    (inserted_in_place left s.merges job job sorted here ∙ set_same (is_at (nat_cmp left)) s.merges job here)

-- ---- what comes of a merge behind a step of one of its ranges

nothing_in : (s : ServerState) (left : ℕ) (job : MergeJob) (side : MergeSide) (two : Option TwoRanges) → IsStrictlySortedBy nat_cmp (keys_of s.merges)
    → merge_of s.merges left ≡ Some job → room_of job job.phase ≡ None → both_of s.ranges job ≡ two → follows_both s left job side two ≡ rests s
nothing_in s left job side None sorted here none both = refl
nothing_in s left job side (Some two) sorted here none both =
    let known = both_known s.ranges job two.0 two.1 both in
    ap (merge_stepped s left job) (rests_if (has_number s.context) s.context two.0 two.1 job side none)
    ∙ stayed s left two.0 two.1 job sorted here known.1.0 known.1.1

-- the merge was set to what it was
same_merges : (s : ServerState) (left : ℕ) (job : MergeJob) (js : List (ℕ × MergeJob)) → merge_of s.merges left ≡ Some job → js ≡ set_value (is_at (nat_cmp left)) s.merges job → s.merges ≡ js
same_merges s left job js here set = sym (set ∙ set_same (is_at (nat_cmp left)) s.merges job here)

-- nothing comes of the merge
abbrev sends_these : ServerState → List (ℕ × MergeJob) → List Packet → List TableNote → ServerOutcome
sends_these s js sent notes = record { after = record s { merges = js }; packets = sent; notes = notes }

these_sent : (s : ServerState) (left : ℕ) (job : MergeJob) (js : List (ℕ × MergeJob)) (sent : List Packet) (notes : List TableNote) → merge_of s.merges left ≡ Some job
    → js ≡ set_value (is_at (nat_cmp left)) s.merges job → behind_sent sent notes (rests s) ≡ sends_these s js sent notes
these_sent s left job js sent notes here set = λ i. record { after = record s { merges = same_merges s left job js here set i }; packets = append-nil sent i; notes = notes }

pub no_room : (s : ServerState) (range left : ℕ) (job : MergeJob) (js : List (ℕ × MergeJob)) (sent : List Packet) (notes : List TableNote) → IsStrictlySortedBy nat_cmp (keys_of s.merges)
    → merge_of s.merges left ≡ Some job → js ≡ set_value (is_at (nat_cmp left)) s.merges job → merge_room (merge_of s.merges left) ≡ None
    → behind_sent sent notes (follows_at range s left (merge_of s.merges left)) ≡ sends_these s js sent notes
no_room s range left job js sent notes sorted here set none =
    ap (λ x. behind_sent sent notes (follows_at range s left x)) here
    ∙ ap (behind_sent sent notes) (nothing_in s left job (side_of_range job range) (both_of s.ranges job) sorted here (sym (ap merge_room here) ∙ none) refl)
    ∙ these_sent s left job js sent notes here set

-- where not both are held
pub none_follows : (s : ServerState) (range left : ℕ) (job : MergeJob) (js : List (ℕ × MergeJob)) (sent : List Packet) (notes : List TableNote)
    → merge_of s.merges left ≡ Some job → js ≡ set_value (is_at (nat_cmp left)) s.merges job → both_of s.ranges job ≡ None
    → behind_sent sent notes (follows_at range s left (merge_of s.merges left)) ≡ sends_these s js sent notes
none_follows s range left job js sent notes here set none =
    ap (λ x. behind_sent sent notes (follows_at range s left x)) here
    ∙ ap (λ x. behind_sent sent notes (follows_both s left job (side_of_range job range) x)) none
    ∙ these_sent s left job js sent notes here set

pub none_asked : (s : ServerState) (left : ℕ) (job : MergeJob) (js : List (ℕ × MergeJob)) (sent : List Packet) (notes : List TableNote)
    → merge_of s.merges left ≡ Some job → js ≡ set_value (is_at (nat_cmp left)) s.merges job → both_of s.ranges job ≡ None
    → behind_sent sent notes (asks_at s left (merge_of s.merges left)) ≡ sends_these s js sent notes
none_asked s left job js sent notes here set none =
    ap (λ x. behind_sent sent notes (asks_at s left x)) here
    ∙ ap (λ x. behind_sent sent notes (asks_both s left job x)) none
    ∙ these_sent s left job js sent notes here set

left_as : (s after : ServerState) (left : ℕ) (notes : List TableNote) (rs : List (ℕ × RangeState)) (job : MergeJob) (js : List (ℕ × MergeJob)) (count told : ℕ) (packets sent : List Packet)
    → js ≡ set_value (is_at (nat_cmp left)) s.merges job → told ≡ count → sent ≡ packets
    → after ≡ record s { context = record s.context { count = told }; ranges = rs; merges = js }
    → left_so s left notes rs job count packets ≡ record { after = after; packets = sent; notes = notes }
left_as s after left notes rs job js count told packets sent set same_count same_packets is =
    (λ i. record {
      after = record s { context = record s.context { count = sym same_count i }; ranges = rs; merges = sym set i };
      packets = sym same_packets i;
      notes = notes;
    })
    ∙ ap (λ x. record { after = x; packets = sent; notes = notes }) (sym is)

pub followed_merge : (s after : ServerState) (range left : ℕ) (old job : MergeJob) (js : List (ℕ × MergeJob)) (l r : RangeState) (side : MergeSide) (sent : List Packet) (notes : List TableNote)
    (t : MergeTaken) (pauses : Bool) (count : ℕ) (packets : List Packet)
    → IsStrictlySortedBy nat_cmp (keys_of s.merges) → merge_of s.merges left ≡ Some old → js ≡ set_value (is_at (nat_cmp left)) s.merges job
    → old.left == old.right ≡ false → range_of s.ranges old.left ≡ Some l → range_of s.ranges old.right ≡ Some r → side ≡ side_of_range old range
    → behind sent (follows s.context l r old side) ≡ outcome t (paused_if pauses l) (paused_if pauses r) job
    → t.left_dropped ≡ false → t.right_dropped ≡ false → t.ended ≡ false → count ≡ t.count → packets ≡ t.packets
    → after ≡ record s { context = record s.context { count = count }; ranges = both_set s.ranges old.left old.right (paused_if pauses l) (paused_if pauses r); merges = js }
    → behind_sent sent notes (follows_at range s left (merge_of s.merges left)) ≡ record { after = after; packets = packets; notes = notes }
followed_merge s after range left old job js l r side sent notes t pauses count packets sorted here set apart low high same_side is left_held right_held under_way same_count same_packets after_is =
    ap (λ x. behind_sent sent notes (follows_at range s left x)) here
    ∙ ap (λ x. behind_sent sent notes (follows_both s left old (side_of_range old range) x)) (both_held s.ranges old l r apart low high)
    ∙ ap (λ x. settled s left old notes (behind sent (follows s.context l r old x))) (sym same_side)
    ∙ ap (settled s left old notes) is
    ∙ all_left s left notes t.left_dropped t.right_dropped t.ended t.count t.packets (paused_if pauses l) (paused_if pauses r) old job sorted here left_held right_held under_way
    ∙ left_as s after left notes (both_set s.ranges old.left old.right (paused_if pauses l) (paused_if pauses r)) job js t.count count t.packets packets set same_count same_packets after_is

pub asked_merge : (s : ServerState) (left : ℕ) (old job : MergeJob) (js : List (ℕ × MergeJob)) (l r : RangeState) (sent : List Packet) (notes : List TableNote) (t : MergeTaken)
    (count : ℕ) (packets : List Packet)
    → IsStrictlySortedBy nat_cmp (keys_of s.merges) → merge_of s.merges left ≡ Some old → js ≡ set_value (is_at (nat_cmp left)) s.merges job
    → old.left == old.right ≡ false → range_of s.ranges old.left ≡ Some l → range_of s.ranges old.right ≡ Some r
    → behind sent (asks_again s.context l r old) ≡ outcome t l r job
    → t.left_dropped ≡ false → t.right_dropped ≡ false → t.ended ≡ false → count ≡ t.count → packets ≡ t.packets
    → behind_sent sent notes (asks_at s left (merge_of s.merges left))
    ≡ record { after = record s { context = record s.context { count = count }; merges = js }; packets = packets; notes = notes }
asked_merge s left old job js l r sent notes t count packets sorted here set apart low high is left_held right_held under_way same_count same_packets =
    ap (λ x. behind_sent sent notes (asks_at s left x)) here
    ∙ ap (λ x. behind_sent sent notes (asks_both s left old x)) (both_held s.ranges old l r apart low high)
    ∙ ap (settled s left old notes) is
    ∙ all_left s left notes t.left_dropped t.right_dropped t.ended t.count t.packets l r old job sorted here left_held right_held under_way
    ∙ ap (λ rs. left_so s left notes rs job t.count t.packets) (both_same s.ranges old.left old.right l r low high)
    ∙ left_as s (record s { context = record s.context { count = count }; merges = js }) left notes s.ranges job js t.count count t.packets packets set same_count same_packets refl

-- ---- a range of a merge was told to give up

-- the merge waits itself
itself_in : (s : ServerState) (left : ℕ) (job : MergeJob) (told : MergeSide) (two : Option TwoRanges) → other_checkpoint job.phase told ≡ None
    → give_up_both s left job told two ≡ asks_both s left job two
itself_in s left job told None none = refl
itself_in s left job told (Some two) none = ap (λ x. merge_stepped s left job (gives_up_with s.context two.0 two.1 job x)) none

pub asked_itself : (s after : ServerState) (range left : ℕ) (job : MergeJob) (sent packets : List Packet) (notes : List TableNote) → merge_of s.merges left ≡ Some job
    → other_checkpoint job.phase (side_of_range job range) ≡ None
    → behind_sent sent notes (asks_at s left (merge_of s.merges left)) ≡ record { after = after; packets = packets; notes = notes }
    → behind_sent sent notes (gives_up_at range s left (merge_of s.merges left)) ≡ record { after = after; packets = packets; notes = notes }
asked_itself s after range left job sent packets notes here none so =
    ap (λ x. behind_sent sent notes (gives_up_at range s left x)) here
    ∙ ap (behind_sent sent notes) (itself_in s left job (side_of_range job range) (both_of s.ranges job) none)
    ∙ ap (λ x. behind_sent sent notes (asks_at s left x)) (sym here)
    ∙ so

-- the checkpoint of a range that is held leaves it so
pub checkpoint_so : (s : ServerState) (range : ℕ) (old new : RangeState) (rs : List (ℕ × RangeState)) (sent packets : List Packet) (t : MergeTaken) (count : ℕ)
    → range_of s.ranges range ≡ Some old → rs ≡ set_value (is_at (nat_cmp range)) s.ranges new
    → behind_step sent (checkpoint_again s.context old) ≡ record { after = Some new; count = t.count; packets = t.packets; notes = [] }
    → count ≡ t.count → packets ≡ t.packets
    → (r : RangeState) (notes : List TableNote) → range_of s.ranges range ≡ Some r
    → behind_sent sent notes (stepped_alone s range (checkpoint_again s.context r))
    ≡ record { after = record s { context = record s.context { count = count }; ranges = rs }; packets = packets; notes = notes }
checkpoint_so s range old new rs sent packets t count here set so same_count same_packets r notes known =
    ap (λ x. behind_sent sent notes (stepped_alone s range (checkpoint_again s.context x))) (some_same r old (sym known ∙ here))
    ∙ (λ i. record {
      after = record s { context = record s.context { count = (so i).count }; ranges = set_range s.ranges range (so i).after };
      packets = (so i).packets;
      notes = notes;
    })
    ∙ (λ i. record {
      after = record s { context = record s.context { count = sym same_count i }; ranges = sym set i };
      packets = sym same_packets i;
      notes = notes;
    })

stays_held : (b : Bool) (d : ServerContext) (r : RangeState) → (x : RangeState) × ((if b then give_up_control d r else answers d r []).after ≡ Some x)
stays_held true d r = (_, refl)
stays_held false d r = (r, refl)

-- the merge is kept as it is, and so is the other range
left_alone : (s : ServerState) (left : ℕ) (job : MergeJob) (o : RangeOutcome) (x r : RangeState) (sent : List Packet) (notes : List TableNote)
    → IsStrictlySortedBy nat_cmp (keys_of s.merges) → merge_of s.merges left ≡ Some job → job.left == job.right ≡ false → range_of s.ranges job.right ≡ Some r → o.after ≡ Some x
    → behind_sent sent notes (merge_stepped s left job (left_checkpointed o r job)) ≡ behind_sent sent notes (stepped_alone s job.left o)
left_alone s left job o x r sent notes sorted here apart high after =
    let kept : set_range (set_range s.ranges job.left (Some x)) job.right (Some r) ≡ set_range s.ranges job.left (Some x) =
    set_same (is_at (nat_cmp job.right)) (set_value (is_at (nat_cmp job.left)) s.ranges x) r (right_found s.ranges job.left job.right x apart ∙ high) in
    let ranges : set_range (set_range s.ranges job.left o.after) job.right (Some r) ≡ set_range s.ranges job.left o.after =
    ap (λ a. set_range (set_range s.ranges job.left a) job.right (Some r)) after ∙ kept ∙ ap (set_range s.ranges job.left) (sym after) in
    let merges : set_merge s.merges left (Some job) ≡ s.merges = inserted_in_place left s.merges job job sorted here ∙ set_same (is_at (nat_cmp left)) s.merges job here in
    λ i. record {
      after = record s { context = record s.context { count = o.count }; ranges = ranges i; merges = merges i };
      packets = sent ++ o.packets;
      notes = notes;
    }

right_alone : (s : ServerState) (left : ℕ) (job : MergeJob) (o : RangeOutcome) (l : RangeState) (sent : List Packet) (notes : List TableNote)
    → IsStrictlySortedBy nat_cmp (keys_of s.merges) → merge_of s.merges left ≡ Some job → range_of s.ranges job.left ≡ Some l
    → behind_sent sent notes (merge_stepped s left job (right_checkpointed o l job)) ≡ behind_sent sent notes (stepped_alone s job.right o)
right_alone s left job o l sent notes sorted here low =
    let merges : set_merge s.merges left (Some job) ≡ s.merges = inserted_in_place left s.merges job job sorted here ∙ set_same (is_at (nat_cmp left)) s.merges job here in
    λ i. record {
      after = record s {
        context = record s.context { count = o.count };
        ranges = set_range (set_same (is_at (nat_cmp job.left)) s.ranges l low i) job.right o.after;
        merges = merges i;
      };
      packets = sent ++ o.packets;
      notes = notes;
    }

-- the number of the range of a side
abbrev pub number_of : MergeJob → MergeSide → ℕ
number_of job Left = job.left
number_of job Right = job.right

alone_on : (s : ServerState) (left : ℕ) (job : MergeJob) (l r : RangeState) (side : MergeSide) (sent : List Packet) (notes : List TableNote)
    → IsStrictlySortedBy nat_cmp (keys_of s.merges) → merge_of s.merges left ≡ Some job → both_of s.ranges job ≡ Some (l, r)
    → behind_sent sent notes (merge_stepped s left job (checkpoint_gives_up s.context l r job side))
    ≡ behind_sent sent notes (stepped_alone s (number_of job side) (checkpoint_again s.context (side_of l r side)))
alone_on s left job l r Left sent notes sorted here both =
    let known = both_known s.ranges job l r both in
    let stays = stays_held (has_numbers_again s.context) s.context l in
    left_alone s left job (checkpoint_again s.context l) stays.0 r sent notes sorted here known.0 known.1.1 stays.1
alone_on s left job l r Right sent notes sorted here both =
    right_alone s left job (checkpoint_again s.context r) l sent notes sorted here (both_known s.ranges job l r both).1.0

side_held : (rs : List (ℕ × RangeState)) (job : MergeJob) (l r : RangeState) (side : MergeSide) → both_of rs job ≡ Some (l, r) → range_of rs (number_of job side) ≡ Some (side_of l r side)
side_held rs job l r Left both = (both_known rs job l r both).1.0
side_held rs job l r Right both = (both_known rs job l r both).1.1

-- the checkpoint of the other range gives up
pub asked_other : (s after : ServerState) (range left : ℕ) (job : MergeJob) (side : MergeSide) (sent packets : List Packet) (notes : List TableNote)
    → IsStrictlySortedBy nat_cmp (keys_of s.merges) → merge_of s.merges left ≡ Some job → is_some (both_of s.ranges job) ≡ true
    → other_checkpoint job.phase (side_of_range job range) ≡ Some side
    → ((r : RangeState) → range_of s.ranges (number_of job side) ≡ Some r
    → behind_sent sent notes (stepped_alone s (number_of job side) (checkpoint_again s.context r)) ≡ record { after = after; packets = packets; notes = notes })
    → behind_sent sent notes (gives_up_at range s left (merge_of s.merges left)) ≡ record { after = after; packets = packets; notes = notes }
asked_other s after range left job side sent packets notes sorted here there other so =
    let both = both_there s.ranges job there in
    ap (λ x. behind_sent sent notes (gives_up_at range s left x)) here
    ∙ ap (λ x. behind_sent sent notes (give_up_both s left job (side_of_range job range) x)) both.1
    ∙ ap (λ x. behind_sent sent notes (merge_stepped s left job (gives_up_with s.context both.0.0 both.0.1 job x))) other
    ∙ alone_on s left job both.0.0 both.0.1 side sent notes sorted here both.1
    ∙ so (side_of both.0.0 both.0.1 side) (side_held s.ranges job both.0.0 both.0.1 side both.1)

none_both : (s : ServerState) (left : ℕ) (job : MergeJob) (told : MergeSide) (two : Option TwoRanges) → is_some two ≡ false → give_up_both s left job told two ≡ rests s
none_both s left job told None none = refl
none_both s left job told (Some two) none = absurd cc

-- where not both are held nothing does
pub none_other : (s : ServerState) (range left : ℕ) (job : MergeJob) (sent : List Packet) (notes : List TableNote) → merge_of s.merges left ≡ Some job
    → is_some (both_of s.ranges job) ≡ false
    → behind_sent sent notes (gives_up_at range s left (merge_of s.merges left)) ≡ record { after = s; packets = sent; notes = notes }
none_other s range left job sent notes here none =
    ap (λ x. behind_sent sent notes (gives_up_at range s left x)) here
    ∙ ap (behind_sent sent notes) (none_both s left job (side_of_range job range) (both_of s.ranges job) none)
    ∙ (λ i. record { after = s; packets = append-nil sent i; notes = notes })

-- ---- what an answer to a merge leaves

merges_left : (js : List (ℕ × MergeJob)) (left : ℕ) (old job : MergeJob) (over : Bool) → IsStrictlySortedBy nat_cmp (keys_of js) → merge_of js left ≡ Some old
    → set_merge js left (unless over job)
    ≡ (if over then set_merge (set_value (is_at (nat_cmp left)) js job) left None else set_value (is_at (nat_cmp left)) js job)
merges_left js left old job true sorted here = sym (removed_after (is_at (nat_cmp left)) js job)
merges_left js left old job false sorted here = inserted_in_place left js old job sorted here

abbrev made : ServerContext → List (ℕ × RangeState) → List (ℕ × SplitJob) → List (ℕ × MergeJob) → Sent → ServerOutcome
made context ranges splits merges t =
    record { after = record { context = context; ranges = ranges; splits = splits; merges = merges }; packets = t.packets; notes = t.notes }

pub met_so : (s after : ServerState) (left : ℕ) (old job : MergeJob) (step : MergeStep) (rs : List (ℕ × RangeState)) (js : List (ℕ × MergeJob)) (t : MergeTaken) (result : Sent)
    → IsStrictlySortedBy nat_cmp (keys_of s.merges) → merge_of s.merges left ≡ Some old
    → IsMergeStep step old job s.ranges rs t → js ≡ set_value (is_at (nat_cmp left)) s.merges job
    → after.context ≡ record s.context { count = t.count } → after.ranges ≡ rs → after.splits ≡ s.splits
    → after.merges ≡ (if t.ended then set_merge js left None else js) → result ≡ record { packets = t.packets; notes = [] }
    → merge_stepped s left old step ≡ server_outcome result after
met_so s after left old job step rs js t result sorted here is merge_set same_context ranges splits merges sent =
    (λ i. made (record s.context { count = is.same_count i }) (sym is.ranges_set i) s.splits (set_merge s.merges left (is.job_left i)) (record { packets = is.same_packets i; notes = [] }))
    ∙ ap (λ x. made (record s.context { count = t.count }) rs s.splits x (record { packets = t.packets; notes = [] })) (merges_left s.merges left old job t.ended sorted here)
    ∙ (λ i. made (record s.context { count = t.count }) rs s.splits
    (if t.ended then set_merge (sym merge_set i) left None else sym merge_set i)
    (record { packets = t.packets; notes = [] }))
    ∙ (λ i. made (sym same_context i) (sym ranges i) (sym splits i) (sym merges i) (sym sent i))

none_in : (two : Option TwoRanges) → is_some two ≡ false → two ≡ None
none_in None none = refl
none_in (Some two) none = absurd cc

-- where not both are held
pub none_answered : (s : ServerState) (p : Packet) (left : ℕ) (job : MergeJob) (js : List (ℕ × MergeJob)) (result : Sent) → merge_of s.merges left ≡ Some job
    → js ≡ set_value (is_at (nat_cmp left)) s.merges job → is_some (both_of s.ranges job) ≡ false → result ≡ record { packets = []; notes = [] }
    → merge_answer_in s p left (merge_of s.merges left) ≡ server_outcome result (record s { merges = js })
none_answered s p left job js result here set none sent =
    ap (merge_answer_in s p left) here
    ∙ ap (answered_both s p left job) (none_in (both_of s.ranges job) none)
    ∙ (λ i. server_outcome (sym sent i) (record s { merges = same_merges s left job js here set i }))

pub none_ended : (s : ServerState) (left : ℕ) (job : MergeJob) (x : ℕ × Bool) (js : List (ℕ × MergeJob)) (result : Sent) → merge_of s.merges left ≡ Some job
    → js ≡ set_value (is_at (nat_cmp left)) s.merges job → is_some (both_of s.ranges job) ≡ false → result ≡ record { packets = []; notes = [] }
    → (other : MergeJob) → merge_of s.merges left ≡ Some other → left_ended s left other x (both_of s.ranges other) ≡ server_outcome result (record s { merges = js })
none_ended s left job x js result here set none sent other is =
    ap (λ y. left_ended s left y x (both_of s.ranges y)) (some_same other job (sym is ∙ here))
    ∙ ap (left_ended s left job x) (none_in (both_of s.ranges job) none)
    ∙ (λ i. server_outcome (sym sent i) (record s { merges = same_merges s left job js here set i }))

pub answered_so : (s after : ServerState) (p : Packet) (left : ℕ) (old job : MergeJob) (rs : List (ℕ × RangeState)) (js : List (ℕ × MergeJob)) (t : MergeTaken) (result : Sent)
    → IsStrictlySortedBy nat_cmp (keys_of s.merges) → merge_of s.merges left ≡ Some old → is_some (both_of s.ranges old) ≡ true
    → ((l r : RangeState) → both_of s.ranges old ≡ Some (l, r) → IsMergeStep (merge_reply s.context l r old p.body) old job s.ranges rs t)
    → js ≡ set_value (is_at (nat_cmp left)) s.merges job
    → after.context ≡ record s.context { count = t.count } → after.ranges ≡ rs → after.splits ≡ s.splits
    → after.merges ≡ (if t.ended then set_merge js left None else js) → result ≡ record { packets = t.packets; notes = [] }
    → merge_answer_in s p left (merge_of s.merges left) ≡ server_outcome result after
answered_so s after p left old job rs js t result sorted here there is set same_context ranges splits merges sent =
    let both = both_there s.ranges old there in
    ap (merge_answer_in s p left) here
    ∙ ap (answered_both s p left old) both.1
    ∙ met_so s after left old job (merge_reply s.context both.0.0 both.0.1 old p.body) rs js t result sorted here (is both.0.0 both.0.1 both.1) set same_context ranges splits merges sent

pub ended_so : (s after : ServerState) (left : ℕ) (old job : MergeJob) (x : ℕ × Bool) (rs : List (ℕ × RangeState)) (js : List (ℕ × MergeJob)) (t : MergeTaken) (result : Sent)
    → IsStrictlySortedBy nat_cmp (keys_of s.merges) → merge_of s.merges left ≡ Some old → is_some (both_of s.ranges old) ≡ true
    → ((l r : RangeState) → both_of s.ranges old ≡ Some (l, r) → IsMergeStep (left_ends s.context l r old x) old job s.ranges rs t)
    → js ≡ set_value (is_at (nat_cmp left)) s.merges job
    → after.context ≡ record s.context { count = t.count } → after.ranges ≡ rs → after.splits ≡ s.splits
    → after.merges ≡ (if t.ended then set_merge js left None else js) → result ≡ record { packets = t.packets; notes = [] }
    → (other : MergeJob) → merge_of s.merges left ≡ Some other → left_ended s left other x (both_of s.ranges other) ≡ server_outcome result after
ended_so s after left old job x rs js t result sorted here there is set same_context ranges splits merges sent other known =
    let both = both_there s.ranges old there in
    ap (λ y. left_ended s left y x (both_of s.ranges y)) (some_same other old (sym known ∙ here))
    ∙ ap (left_ended s left old x) both.1
    ∙ met_so s after left old job (left_ends s.context both.0.0 both.0.1 old x) rs js t result sorted here (is both.0.0 both.0.1 both.1) set same_context ranges splits merges sent

-- where memory runs out
pub unmet : (s : ServerState) (left : ℕ) (old job : MergeJob) (rs : List (ℕ × RangeState)) (js : List (ℕ × MergeJob)) → merge_of s.merges left ≡ Some old
    → rs ≡ s.ranges → js ≡ set_value (is_at (nat_cmp left)) s.merges job → job ≡ old → record s { ranges = rs; merges = js } ≡ s
unmet s left old job rs js here ranges set kept =
    (λ i. record s { ranges = ranges i; merges = set i })
    ∙ ap (λ y. record s { merges = set_value (is_at (nat_cmp left)) s.merges y }) kept
    ∙ ap (λ y. record s { merges = y }) (set_same (is_at (nat_cmp left)) s.merges old here)

-- ---- an answer that a range takes

not_ending : (s : ServerState) (p : Packet) (w : ReqNo) (range : ℕ) (r : RangeState) (job : Option MergeJob) → trim_of job (Some r) w p.body ≡ None
    → answer_at s p w range r job ≡ stepped s range (answer_rule s.context r w p.body)
not_ending s p w range r None none = refl
not_ending s p w range r (Some job) none = ap (answer_ending s p w range r job) none

pub answered_alone : (s : ServerState) (p : Packet) (w : ReqNo) (range : ℕ) (r : RangeState) → awaiting s.ranges w ≡ Some range → range_of s.ranges range ≡ Some r
    → trim_of (merge_of s.merges range) (range_of s.ranges range) w p.body ≡ None
    → answer_of s p w (awaiting s.ranges w) ≡ stepped s range (answer_rule s.context r w p.body)
answered_alone s p w range r waits known none =
    ap (answer_of s p w) waits
    ∙ ap (answer_in s p w range) known
    ∙ not_ending s p w range r (merge_of s.merges range) (ap (λ x. trim_of (merge_of s.merges range) x w p.body) (sym known) ∙ none)

-- a step that leaves its range so, and what the server then does
pub settled_step : (s after : ServerState) (range : ℕ) (old now : RangeState) (rs : List (ℕ × RangeState)) (t : RangeStep) (result : Sent) → range_of s.ranges range ≡ Some old
    → rs ≡ set_value (is_at (nat_cmp range)) s.ranges now
    → ((r : RangeState) → range_of rs range ≡ Some r → stepped (record s { ranges = rs }) range (step_of t r) ≡ server_outcome result after)
    → stepped s range (step_of t now) ≡ server_outcome result after
settled_step s after range old now rs t result known set settles =
    sym (stepped_after s range now (step_of t now))
    ∙ ap (λ x. stepped (record s { ranges = x }) range (step_of t now)) (sym set)
    ∙ settles now (ap (λ x. range_of x range) set ∙ found_again (is_at (nat_cmp range)) s.ranges old now known)
