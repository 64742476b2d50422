-- The two ranges of a merge, of which the left one is out of its place while both change.
use Rattle.std.proofs.Common.{◌≡◌, ℕ, Bool, true, false, List, Option, Some, None, refl, ap, sym, ◌∙◌, ◌==◌}
use Rattle.std.specs.Prelude.{is_some, if◌then◌else◌}
use Rattle.std.specs.BTreeMap.{is_at}
use Rattle.std.specs.Map.{set_value}
use Rattle.std.specs.Ordering.{nat_cmp}
use Rattle.model_partition.specs.declared.merge_job.MergeJob.{MergeJob}
use Rattle.model_partition.specs.Merges.{MergeStep, pausing}
use Rattle.model_partition.specs.Range.{RangeState}
use Rattle.model_partition.specs.Server.{ServerState, TwoRanges, both_of, pair_of, range_of, set_range}
use Rattle.range_core.specs.Steps.{unless}
use Rattle.range_merge.specs.Steps.{MergeTaken, outcome, paused_if}
use Rattle.range.specs.ServerStep.{IsMergeStep, both_set, ranges_left, without}
use Rattle.range.proofs.Entries.{found_apart, keys_apart, removed_after, removed_apart, set_again, set_same, set_swapped}
use Rattle.range.proofs.Settled.{with_range}

-- ---- which two

both_in : (b : Bool) (x y : Option RangeState) (l r : RangeState) → (if b then None else pair_of x y) ≡ Some (l, r)
    → (b ≡ false) × ((x ≡ Some l) × (y ≡ Some r))
both_in true x y l r is = absurd cc
both_in false None y l r is = absurd cc
both_in false (Some x) None l r is = absurd cc
both_in false (Some x) (Some y) l r is = let same : ◌≡◌ {A = TwoRanges} (x, y) (l, r) = cc in (refl, (ap (λ two. Some two.0) same, ap (λ two. Some two.1) same))

-- they are two, and held
pub both_known : (rs : List (ℕ × RangeState)) (job : MergeJob) (l r : RangeState) → both_of rs job ≡ Some (l, r)
    → (job.left == job.right ≡ false) × ((range_of rs job.left ≡ Some l) × (range_of rs job.right ≡ Some r))
both_known rs job l r is = both_in (job.left == job.right) (range_of rs job.left) (range_of rs job.right) l r is

pub both_held : (rs : List (ℕ × RangeState)) (job : MergeJob) (l r : RangeState) → job.left == job.right ≡ false → range_of rs job.left ≡ Some l
    → range_of rs job.right ≡ Some r → both_of rs job ≡ Some (l, r)
both_held rs job l r apart low high = λ i. if apart i then None else pair_of (low i) (high i)

-- they are one, or one is not held
pub both_alike : (rs : List (ℕ × RangeState)) (job : MergeJob) → job.left == job.right ≡ true → both_of rs job ≡ None
both_alike rs job alike = λ i. if alike i then None else pair_of (range_of rs job.left) (range_of rs job.right)

left_gone : (b : Bool) (x y : Option RangeState) → x ≡ None → (if b then None else pair_of x y) ≡ None
left_gone true x y is = refl
left_gone false x y is = ap (λ z. pair_of z y) is

right_gone : (b : Bool) (x y : Option RangeState) → y ≡ None → (if b then None else pair_of x y) ≡ None
right_gone true x y is = refl
right_gone false None y is = refl
right_gone false (Some x) y is = ap (pair_of (Some x)) is

pub left_absent : (rs : List (ℕ × RangeState)) (job : MergeJob) → range_of rs job.left ≡ None → both_of rs job ≡ None
left_absent rs job is = left_gone (job.left == job.right) (range_of rs job.left) (range_of rs job.right) is

pub right_absent : (rs : List (ℕ × RangeState)) (job : MergeJob) → range_of rs job.right ≡ None → both_of rs job ≡ None
right_absent rs job is = right_gone (job.left == job.right) (range_of rs job.left) (range_of rs job.right) is

there_in : (two : Option TwoRanges) → is_some two ≡ true → (x : TwoRanges) × (two ≡ Some x)
there_in None there = absurd cc
there_in (Some two) there = (two, refl)

pub both_there : (rs : List (ℕ × RangeState)) (job : MergeJob) → is_some (both_of rs job) ≡ true → (two : TwoRanges) × (both_of rs job ≡ Some two)
both_there rs job there = there_in (both_of rs job) there

-- ---- both set

-- as they are
pub both_same : (rs : List (ℕ × RangeState)) (low high : ℕ) (l r : RangeState) → range_of rs low ≡ Some l → range_of rs high ≡ Some r → both_set rs low high l r ≡ rs
both_same rs low high l r is also =
    ap (λ x. set_value (is_at (nat_cmp high)) x r) (set_same (is_at (nat_cmp low)) rs l is) ∙ set_same (is_at (nat_cmp high)) rs r also

-- the right one is where it was while another stands in the left one's place
pub right_found : (rs : List (ℕ × RangeState)) (low high : ℕ) (x : RangeState) → low == high ≡ false → range_of (set_value (is_at (nat_cmp low)) rs x) high ≡ range_of rs high
right_found rs low high x apart = found_apart (is_at (nat_cmp low)) (is_at (nat_cmp high)) (keys_apart low high apart) rs x

-- the left one is set back into its place behind the right one
set_back : (rs : List (ℕ × RangeState)) (low high : ℕ) (x l r : RangeState) → low == high ≡ false
    → set_value (is_at (nat_cmp low)) (set_value (is_at (nat_cmp high)) (set_value (is_at (nat_cmp low)) rs x) r) l ≡ both_set rs low high l r
set_back rs low high x l r apart =
    set_swapped (is_at (nat_cmp low)) (is_at (nat_cmp high)) (keys_apart low high apart) (set_value (is_at (nat_cmp low)) rs x) r l
    ∙ ap (λ y. set_value (is_at (nat_cmp high)) y r) (set_again (is_at (nat_cmp low)) rs x l)

-- those that are dropped go
gone : (rs : List (ℕ × RangeState)) (low high : ℕ) (l r : RangeState) (left_dropped right_dropped : Bool) → low == high ≡ false
    → without right_dropped high (without left_dropped low (both_set rs low high l r)) ≡ set_range (set_range rs low (unless left_dropped l)) high (unless right_dropped r)
gone rs low high l r false false apart = refl
gone rs low high l r false true apart = removed_after (is_at (nat_cmp high)) (set_value (is_at (nat_cmp low)) rs l) r
gone rs low high l r true false apart =
    removed_apart (is_at (nat_cmp low)) (is_at (nat_cmp high)) (keys_apart low high apart) (set_value (is_at (nat_cmp low)) rs l) r
    ∙ ap (λ y. set_value (is_at (nat_cmp high)) y r) (removed_after (is_at (nat_cmp low)) rs l)
gone rs low high l r true true apart =
    ap (λ y. set_range y high None)
    (removed_apart (is_at (nat_cmp low)) (is_at (nat_cmp high)) (keys_apart low high apart) (set_value (is_at (nat_cmp low)) rs l) r
    ∙ ap (λ y. set_value (is_at (nat_cmp high)) y r) (removed_after (is_at (nat_cmp low)) rs l))
    ∙ removed_after (is_at (nat_cmp high)) (set_range rs low None) r

-- ---- what a step leaves of them

pub some_same : {A : Type 0} (x y : A) → Some x ≡ Some y → x ≡ y
some_same x y is = cc

-- the right one is there while another stands in the left one's place
pub right_held : (rs ranges : List (ℕ × RangeState)) (job : MergeJob) (x : RangeState) → is_some (both_of rs job) ≡ true
    → ranges ≡ set_value (is_at (nat_cmp job.left)) rs x → is_some (range_of ranges job.right) ≡ true
right_held rs ranges job x there set =
    let two = both_there rs job there in
    let known = both_known rs job two.0.0 two.0.1 two.1 in
    ap (λ y. is_some (range_of y job.right)) set ∙ ap is_some (right_found rs job.left job.right x known.0 ∙ known.1.1)

-- where memory runs out
pub both_kept : (rs one two three : List (ℕ × RangeState)) (job : MergeJob) (x l r : RangeState) → is_some (both_of rs job) ≡ true
    → one ≡ set_value (is_at (nat_cmp job.left)) rs x → ((left : RangeState) → range_of rs job.left ≡ Some left → l ≡ left) → range_of one job.right ≡ Some r
    → two ≡ set_value (is_at (nat_cmp job.right)) one r → three ≡ set_value (is_at (nat_cmp job.left)) two l → three ≡ rs
both_kept rs one two three job x l r there is_one is_left high is_two is_three =
    let both = both_there rs job there in
    let known = both_known rs job both.0.0 both.0.1 both.1 in
    is_three
    ∙ ap (λ y. set_value (is_at (nat_cmp job.left)) y l) is_two
    ∙ ap (λ y. set_value (is_at (nat_cmp job.left)) (set_value (is_at (nat_cmp job.right)) y r) l) is_one
    ∙ set_back rs job.left job.right x l r known.0
    ∙ both_same rs job.left job.right l r (known.1.0 ∙ ap Some (sym (is_left both.0.0 known.1.0))) (sym (right_found rs job.left job.right x known.0) ∙ sym (ap (λ y. range_of y job.right) is_one) ∙ high)

-- and where it does not
pub both_stepped : (rs one two three four : List (ℕ × RangeState)) (old job : MergeJob) (x l after_left r after_right : RangeState)
    (rule : RangeState → RangeState → MergeStep) (t : MergeTaken)
    → one ≡ set_value (is_at (nat_cmp old.left)) rs x → ((left : RangeState) → range_of rs old.left ≡ Some left → l ≡ left) → range_of one old.right ≡ Some r
    → rule l r ≡ outcome t after_left after_right job
    → two ≡ set_value (is_at (nat_cmp old.right)) one after_right → three ≡ set_value (is_at (nat_cmp old.left)) two after_left
    → four ≡ without t.right_dropped old.right (without t.left_dropped old.left three)
    → (low high : RangeState) → both_of rs old ≡ Some (low, high) → IsMergeStep (rule low high) old job rs four t
both_stepped rs one two three four old job x l after_left r after_right rule t is_one is_left is_right is is_two is_three is_four low high both =
    let known = both_known rs old low high both in
    let same_left : low ≡ l = sym (is_left low known.1.0) in
    let same_right : high ≡ r = some_same high r (sym known.1.1 ∙ sym (right_found rs old.left old.right x known.0) ∙ sym (ap (λ y. range_of y old.right) is_one) ∙ is_right) in
    let step : rule low high ≡ outcome t after_left after_right job = (λ i. rule (same_left i) (same_right i)) ∙ is in
    record {
      ranges_set =
          is_four
          ∙ ap (λ y. without t.right_dropped old.right (without t.left_dropped old.left y))
          (is_three
          ∙ ap (λ y. set_value (is_at (nat_cmp old.left)) y after_left) is_two
          ∙ ap (λ y. set_value (is_at (nat_cmp old.left)) (set_value (is_at (nat_cmp old.right)) y after_right) after_left) is_one
          ∙ set_back rs old.left old.right x after_left after_right known.0)
          ∙ gone rs old.left old.right after_left after_right t.left_dropped t.right_dropped known.0
          ∙ sym (ap (ranges_left rs old) step);
      job_left = ap (λ (y : MergeStep). y.job) step;
      same_count = ap (λ (y : MergeStep). y.count) step;
      same_packets = ap (λ (y : MergeStep). y.packets) step;
    }

-- ---- both paused

pub paused_both : (s one two : ServerState) (low high : ℕ) (pauses : Bool) → pauses ≡ true → low == high ≡ false
    → ((r : RangeState) → range_of s.ranges low ≡ Some r → one ≡ with_range s low (pausing r))
    → ((r : RangeState) → range_of one.ranges high ≡ Some r → two ≡ with_range one high (pausing r))
    → (l r : RangeState) → range_of s.ranges low ≡ Some l → range_of s.ranges high ≡ Some r
    → two ≡ record s { ranges = both_set s.ranges low high (paused_if pauses l) (paused_if pauses r) }
paused_both s one two low high true is apart first second l r known also =
    let set : one ≡ with_range s low (pausing l) = first l known in
    second r (ap (λ (x : ServerState). range_of x.ranges high) set ∙ right_found s.ranges low high (pausing l) apart ∙ also)
    ∙ ap (λ x. with_range x high (pausing r)) set
paused_both s one two low high false is apart first second l r known also = absurd cc

pub paused_neither : (s : ServerState) (low high : ℕ) (pauses : Bool) → pauses ≡ false
    → (l r : RangeState) → range_of s.ranges low ≡ Some l → range_of s.ranges high ≡ Some r
    → s ≡ record s { ranges = both_set s.ranges low high (paused_if pauses l) (paused_if pauses r) }
paused_neither s low high false is l r known also = ap (λ rs. record s { ranges = rs }) (sym (both_same s.ranges low high l r known also))
paused_neither s low high true is l r known also = absurd cc
