-- Steps of a range whose range is set first, and what then comes of its split.
use Rattle.std.proofs.Common.{◌≡◌, ℕ, Bool, true, false, List, [], Option, Some, None, refl, ap, sym, ◌∙◌}
use Rattle.std.specs.Prelude.{if◌then◌else◌, ◌++◌}
use Rattle.std.specs.BTreeMap.{insert_entry, is_at}
use Rattle.std.specs.List.Sorted.{IsStrictlySortedBy}
use Rattle.std.specs.Map.{keys_of, set_value}
use Rattle.std.specs.Ordering.{nat_cmp}
use Rattle.model_partition.specs.declared.server_context.ServerContext.{ServerContext}
use Rattle.model_partition.specs.declared.merge_job.MergeJob.{MergeJob}
use Rattle.model_partition.specs.declared.split_job.SplitJob.{SplitJob}
use Rattle.model_partition.specs.declared.split_job.SplitPhase.{SplitPhase}
use Rattle.model_partition.specs.declared.split_job.SplitPhase.TheVariants as phases
use Rattle.model_partition.specs.Range.{RangeState, RangeOutcome}
use Rattle.model_partition.specs.Splits.{SplitStep, follows, follows_in, gives_up, has_number, split_reply, stays}
use Rattle.model_partition.specs.Server.{ServerState, ServerOutcome, behind_these, counted, ended_with, given_up_splitting, given_up_with, range_of, set_range, set_split, split_answer, split_answer_in, split_awaiting, split_of, split_stepped, stepped_alone, stepped_apart, stepped_splitting, stepped_with}
use Rattle.wire.specs.declared.actor.ReqNo.{ReqNo}
use Rattle.wire.specs.declared.packet.Packet.{Packet}
use Rattle.model_partition.specs.declared.table_note.TableNote.{TableNote}
use Rattle.range_core.specs.Steps.{RangeStep, unless}
use Rattle.range_core.specs.Steps.{outcome as step_of}
use Rattle.range_split.specs.Rooms.{room_of}
use Rattle.range_split.specs.Steps.{SplitTaken, behind, outcome}
use Rattle.std.proofs.lemmas.List.{append-nil}
use Rattle.range.specs.ServerStep.{Sent, step_to}
use Rattle.range.specs.ServerStep.{outcome as server_outcome}
use Rattle.range.proofs.Entries.{inserted_in_place, removed_absent, removed_after, set_again, set_same}

-- a server of which a range was set
abbrev pub with_range : ServerState → ℕ → RangeState → ServerState
with_range s range r = record s { ranges = set_value (is_at (nat_cmp range)) s.ranges r }

set_range_after : (rs : List (ℕ × RangeState)) (range : ℕ) (r : RangeState) (x : Option RangeState)
    → set_range (set_value (is_at (nat_cmp range)) rs r) range x ≡ set_range rs range x
set_range_after rs range r None = removed_after (is_at (nat_cmp range)) rs r
set_range_after rs range r (Some x) = set_again (is_at (nat_cmp range)) rs r x

pub alone_after : (s : ServerState) (range : ℕ) (r : RangeState) (o : RangeOutcome) → stepped_alone (with_range s range r) range o ≡ stepped_alone s range o
alone_after s range r o =
    ap (λ rs. record { after = record s { context = counted s.context o; ranges = rs }; packets = o.packets; notes = o.notes })
    (set_range_after s.ranges range r o.after)

ended_after : (s : ServerState) (range : ℕ) (r : RangeState) (o : RangeOutcome) → ended_with (with_range s range r) range o ≡ ended_with s range o
ended_after s range r o =
    ap (λ rs. record { after = record s { context = counted s.context o; ranges = rs; splits = set_split s.splits range None }; packets = o.packets; notes = o.notes })
    (set_range_after s.ranges range r None)

split_after : (s : ServerState) (range : ℕ) (r : RangeState) (t : SplitStep) → split_stepped (with_range s range r) range t ≡ split_stepped s range t
split_after s range r t =
    ap (λ rs. record { after = record s { context = record s.context { count = t.count }; ranges = rs; splits = set_split s.splits range t.job }; packets = t.packets; notes = [] })
    (set_range_after s.ranges range r t.range)

splitting_after : (s : ServerState) (range : ℕ) (r : RangeState) (job : SplitJob) (o : RangeOutcome) (after : Option RangeState)
    → stepped_splitting (with_range s range r) range job o after ≡ stepped_splitting s range job o after
splitting_after s range r job o None = ended_after s range r o
splitting_after s range r job o (Some x) = ap (behind_these o) (split_after s range r (follows (counted s.context o) x job))

with_after : (s : ServerState) (range : ℕ) (r : RangeState) (o : RangeOutcome) (job : Option SplitJob)
    → stepped_with (with_range s range r) range job o ≡ stepped_with s range job o
with_after s range r o None = alone_after s range r o
with_after s range r o (Some job) = splitting_after s range r job o o.after

-- a step sets its range, whatever the range was
pub apart_after : (s : ServerState) (range : ℕ) (r : RangeState) (o : RangeOutcome) → stepped_apart (with_range s range r) range o ≡ stepped_apart s range o
apart_after s range r o = with_after s range r o (split_of s.splits range)

given_up_splitting_after : (s : ServerState) (range : ℕ) (r : RangeState) (job : SplitJob) (o : RangeOutcome) (after : Option RangeState)
    → given_up_splitting (with_range s range r) range job o after ≡ given_up_splitting s range job o after
given_up_splitting_after s range r job o None = ended_after s range r o
given_up_splitting_after s range r job o (Some x) = ap (behind_these o) (split_after s range r (gives_up (counted s.context o) x job))

pub given_up_apart_after : (s : ServerState) (range : ℕ) (r : RangeState) (o : RangeOutcome) (job : Option SplitJob)
    → given_up_with (with_range s range r) range job o ≡ given_up_with s range job o
given_up_apart_after s range r o None = alone_after s range r o
given_up_apart_after s range r o (Some job) = given_up_splitting_after s range r job o o.after

-- ---- where nothing may come of a split

rests_in : (d : ServerContext) (r : RangeState) (job : SplitJob) (phase : SplitPhase) → room_of job phase ≡ None → follows_in d r job phase ≡ stays d r job
rests_in d r job (phases.Begin q) none = refl
rests_in d r job phases.Checkpoint none = absurd cc
rests_in d r job phases.Queue none = absurd cc
rests_in d r job phases.Record none = absurd cc
rests_in d r job (phases.Seal kind q) none = refl
rests_in d r job (phases.Build q) none = refl
rests_in d r job (phases.Keys side c) none = refl
rests_in d r job (phases.Complete q) none = refl

rests_if : (b : Bool) (d : ServerContext) (r : RangeState) (job : SplitJob) → room_of job job.phase ≡ None
    → (if b then follows_in d r job job.phase else stays d r job) ≡ stays d r job
rests_if true d r job none = rests_in d r job job.phase none
rests_if false d r job none = refl

-- where no room is made nothing follows
pub nothing_follows : (d : ServerContext) (r : RangeState) (job : SplitJob) → room_of job job.phase ≡ None → follows d r job ≡ stays d r job
nothing_follows d r job none = rests_if (has_number d) d r job none

-- ---- a range that goes

alone_dropped : (s : ServerState) (range : ℕ) (o : RangeOutcome) → split_of s.splits range ≡ None → o.after ≡ None → stepped_alone s range o ≡ ended_with s range o
alone_dropped s range o none dropped =
    ap (λ x. record { after = record s { context = counted s.context o; ranges = set_range s.ranges range x }; packets = o.packets; notes = o.notes }) dropped
    ∙ ap (λ js. record { after = record s { context = counted s.context o; ranges = set_range s.ranges range None; splits = js }; packets = o.packets; notes = o.notes })
    (sym (removed_absent (is_at (nat_cmp range)) s.splits none))

with_dropped : (s : ServerState) (range : ℕ) (o : RangeOutcome) (job : Option SplitJob) → split_of s.splits range ≡ job → o.after ≡ None → stepped_with s range job o ≡ ended_with s range o
with_dropped s range o None is dropped = alone_dropped s range o is dropped
with_dropped s range o (Some job) is dropped = ap (stepped_splitting s range job o) dropped

-- its split goes too, if there is one
pub stepped_dropped : (s : ServerState) (range : ℕ) (o : RangeOutcome) → o.after ≡ None → stepped_apart s range o ≡ ended_with s range o
stepped_dropped s range o dropped = with_dropped s range o (split_of s.splits range) refl dropped

given_up_gone : (s : ServerState) (range : ℕ) (o : RangeOutcome) (job : Option SplitJob) → split_of s.splits range ≡ job → o.after ≡ None → given_up_with s range job o ≡ ended_with s range o
given_up_gone s range o None is dropped = alone_dropped s range o is dropped
given_up_gone s range o (Some job) is dropped = ap (given_up_splitting s range job o) dropped

pub given_up_dropped : (s : ServerState) (range : ℕ) (o : RangeOutcome) → o.after ≡ None → given_up_with s range (split_of s.splits range) o ≡ ended_with s range o
given_up_dropped s range o dropped = given_up_gone s range o (split_of s.splits range) refl dropped

-- ---- a server that already has the count of the step

-- a server with another count
abbrev pub with_count : ServerState → ℕ → ServerState
with_count s count = record s { context = record s.context { count = count } }

counted_splitting : (s : ServerState) (count range : ℕ) (o : RangeOutcome) (job : SplitJob) (after : Option RangeState)
    → stepped_splitting (with_count s count) range job o after ≡ stepped_splitting s range job o after
counted_splitting s count range o job None = refl
counted_splitting s count range o job (Some r) = refl

counted_with : (s : ServerState) (count range : ℕ) (o : RangeOutcome) (job : Option SplitJob) → stepped_with (with_count s count) range job o ≡ stepped_with s range job o
counted_with s count range o None = refl
counted_with s count range o (Some job) = counted_splitting s count range o job o.after

stepped_counted : (s : ServerState) (count range : ℕ) (o : RangeOutcome) → stepped_apart (with_count s count) range o ≡ stepped_apart s range o
stepped_counted s count range o = counted_with s count range o (split_of s.splits range)

-- a step that did not drop its range
pub stepped_on : (s : ServerState) (range : ℕ) (t : RangeStep) (r : RangeState) (sent : List Packet) (notes : List TableNote)
    → t.dropped ≡ false → sent ≡ t.packets → notes ≡ t.notes
    → stepped_apart s range (step_of t r) ≡ stepped_apart (with_count s t.count) range (step_to (with_count s t.count) r sent notes)
stepped_on s range t r sent notes held same_packets same_notes =
    sym (stepped_counted s t.count range (step_of t r))
    ∙ ap (λ x. stepped_apart (with_count s t.count) range (record { after = unless x r; count = t.count; packets = t.packets; notes = t.notes })) held
    ∙ ap (λ x. stepped_apart (with_count s t.count) range (record { after = Some r; count = t.count; packets = x; notes = t.notes })) (sym same_packets)
    ∙ ap (λ x. stepped_apart (with_count s t.count) range (record { after = Some r; count = t.count; packets = sent; notes = x })) (sym same_notes)

given_up_counted_splitting : (s : ServerState) (count range : ℕ) (o : RangeOutcome) (job : SplitJob) (after : Option RangeState)
    → given_up_splitting (with_count s count) range job o after ≡ given_up_splitting s range job o after
given_up_counted_splitting s count range o job None = refl
given_up_counted_splitting s count range o job (Some r) = refl

given_up_counted : (s : ServerState) (count range : ℕ) (o : RangeOutcome) (job : Option SplitJob) → given_up_with (with_count s count) range job o ≡ given_up_with s range job o
given_up_counted s count range o None = refl
given_up_counted s count range o (Some job) = given_up_counted_splitting s count range o job o.after

pub given_up_on : (s : ServerState) (range : ℕ) (job : Option SplitJob) (t : RangeStep) (r : RangeState) (sent : List Packet) (notes : List TableNote)
    → t.dropped ≡ false → sent ≡ t.packets → notes ≡ t.notes
    → given_up_with s range job (step_of t r) ≡ given_up_with (with_count s t.count) range job (step_to (with_count s t.count) r sent notes)
given_up_on s range job t r sent notes held same_packets same_notes =
    sym (given_up_counted s t.count range (step_of t r) job)
    ∙ ap (λ x. given_up_with (with_count s t.count) range job (record { after = unless x r; count = t.count; packets = t.packets; notes = t.notes })) held
    ∙ ap (λ x. given_up_with (with_count s t.count) range job (record { after = Some r; count = t.count; packets = x; notes = t.notes })) (sym same_packets)
    ∙ ap (λ x. given_up_with (with_count s t.count) range job (record { after = Some r; count = t.count; packets = sent; notes = x })) (sym same_notes)

-- ---- what a step of a split leaves

abbrev settled : ServerState → ℕ → List TableNote → SplitStep → ServerOutcome
settled s range notes t =
    record {
      after = record s { context = record s.context { count = t.count }; ranges = set_range s.ranges range t.range; splits = set_split s.splits range t.job };
      packets = t.packets;
      notes = notes;
    }

ranges_left : (rs : List (ℕ × RangeState)) (range : ℕ) (r : RangeState) (dropped : Bool) → set_range rs range (unless dropped r)
    ≡ (if dropped then set_range (set_value (is_at (nat_cmp range)) rs r) range None else set_value (is_at (nat_cmp range)) rs r)
ranges_left rs range r true = sym (removed_after (is_at (nat_cmp range)) rs r)
ranges_left rs range r false = refl

splits_left : (js : List (ℕ × SplitJob)) (range : ℕ) (old job : SplitJob) (ended : Bool) → IsStrictlySortedBy nat_cmp (keys_of js) → split_of js range ≡ Some old
    → set_split js range (unless ended job)
    ≡ (if ended then set_split (set_value (is_at (nat_cmp range)) js job) range None else set_value (is_at (nat_cmp range)) js job)
splits_left js range old job true sorted here = sym (removed_after (is_at (nat_cmp range)) js job)
splits_left js range old job false sorted here = inserted_in_place range js old job sorted here

settled_left : (s : ServerState) (range : ℕ) (notes : List TableNote) (t : SplitTaken) (r : RangeState) (old job : SplitJob)
    → IsStrictlySortedBy nat_cmp (keys_of s.splits) → split_of s.splits range ≡ Some old → settled s range notes (outcome t r job)
    ≡ record {
      after = record s {
        context = record s.context { count = t.count };
        ranges = if t.dropped then set_range (set_value (is_at (nat_cmp range)) s.ranges r) range None else set_value (is_at (nat_cmp range)) s.ranges r;
        splits = if t.ended then set_split (set_value (is_at (nat_cmp range)) s.splits job) range None else set_value (is_at (nat_cmp range)) s.splits job;
      };
      packets = t.packets;
      notes = notes;
    }
settled_left s range notes t r old job sorted here =
    ap (λ rs. record { after = record s { context = record s.context { count = t.count }; ranges = rs; splits = set_split s.splits range (unless t.ended job) }; packets = t.packets; notes = notes })
    (ranges_left s.ranges range r t.dropped)
    ∙ ap (λ js. record {
      after = record s {
        context = record s.context { count = t.count };
        ranges = if t.dropped then set_range (set_value (is_at (nat_cmp range)) s.ranges r) range None else set_value (is_at (nat_cmp range)) s.ranges r;
        splits = js;
      };
      packets = t.packets;
      notes = notes;
    })
    (splits_left s.splits range old job t.ended sorted here)

abbrev made : ServerContext → List (ℕ × RangeState) → List (ℕ × SplitJob) → List (ℕ × MergeJob) → Sent → ServerOutcome
made context ranges splits merges t =
    record { after = record { context = context; ranges = ranges; splits = splits; merges = merges }; packets = t.packets; notes = t.notes }

-- what an answer to a split leaves, where the range and the split were set first
pub answered_so : (s after : ServerState) (p : Packet) (w : ReqNo) (range : ℕ) (r now : RangeState) (old job : SplitJob)
    (rs : List (ℕ × RangeState)) (js : List (ℕ × SplitJob)) (t : SplitTaken) (result : Sent)
    → IsStrictlySortedBy nat_cmp (keys_of s.splits) → split_awaiting s.splits w ≡ Some range → range_of s.ranges range ≡ Some r → split_of s.splits range ≡ Some old
    → rs ≡ set_value (is_at (nat_cmp range)) s.ranges now → js ≡ set_value (is_at (nat_cmp range)) s.splits job
    → split_reply s.context r old p.body ≡ outcome t now job
    → after.context ≡ record s.context { count = t.count }
    → after.ranges ≡ (if t.dropped then set_range rs range None else rs)
    → after.splits ≡ (if t.ended then set_split js range None else js)
    → after.merges ≡ s.merges
    → result ≡ record { packets = t.packets; notes = [] }
    → split_answer s p w (split_awaiting s.splits w) ≡ server_outcome result after
answered_so s after p w range r now old job rs js t result sorted waits known here range_set split_set is same_count ranges splits merges sent =
    ap (split_answer s p w) waits
    ∙ ap (λ x. split_answer_in s p range x (split_of s.splits range)) known
    ∙ ap (λ x. split_answer_in s p range (Some r) x) here
    ∙ ap (settled s range []) is
    ∙ settled_left s range [] t now old job sorted here
    ∙ (λ i. made (record s.context { count = t.count })
    (if t.dropped then set_range (sym range_set i) range None else sym range_set i)
    (if t.ended then set_split (sym split_set i) range None else sym split_set i)
    s.merges
    (record { packets = t.packets; notes = [] }))
    ∙ (λ i. made (sym same_count i) (sym ranges i) (sym splits i) (sym merges i) (sym sent i))

-- a step of a split that neither drops the range nor ends the split
both_left : (s : ServerState) (range : ℕ) (notes : List TableNote) (dropped ended : Bool) (count : ℕ) (packets : List Packet) (r : RangeState) (old job : SplitJob)
    → IsStrictlySortedBy nat_cmp (keys_of s.splits) → split_of s.splits range ≡ Some old → dropped ≡ false → ended ≡ false
    → settled s range notes (outcome (record { dropped = dropped; ended = ended; count = count; packets = packets }) r job)
    ≡ record {
      after = record s { context = record s.context { count = count }; ranges = set_value (is_at (nat_cmp range)) s.ranges r; splits = set_value (is_at (nat_cmp range)) s.splits job };
      packets = packets;
      notes = notes;
    }
both_left s range notes true ended count packets r old job sorted here held under_way = absurd cc
both_left s range notes false true count packets r old job sorted here held under_way = absurd cc
both_left s range notes false false count packets r old job sorted here held under_way =
    settled_left s range notes (record { dropped = false; ended = false; count = count; packets = packets }) r old job sorted here

-- ---- what comes of a split behind a step of its range

pub followed_so : (s : ServerState) (range : ℕ) (r after : RangeState) (old job : SplitJob) (sent : List Packet) (notes : List TableNote) (t : SplitTaken)
    → IsStrictlySortedBy nat_cmp (keys_of s.splits) → split_of s.splits range ≡ Some old → behind sent (follows s.context r old) ≡ outcome t after job
    → t.dropped ≡ false → t.ended ≡ false → stepped_apart s range (step_to s r sent notes)
    ≡ record {
      after = record s { context = record s.context { count = t.count }; ranges = set_value (is_at (nat_cmp range)) s.ranges after; splits = set_value (is_at (nat_cmp range)) s.splits job };
      packets = t.packets;
      notes = notes;
    }
followed_so s range r after old job sent notes t sorted here is held under_way =
    ap (λ x. stepped_with s range x (step_to s r sent notes)) here
    ∙ ap (settled s range notes) is
    ∙ both_left s range notes t.dropped t.ended t.count t.packets after old job sorted here held under_way

pub asked_so : (s : ServerState) (range : ℕ) (r : RangeState) (old job : SplitJob) (sent : List Packet) (notes : List TableNote) (t : SplitTaken)
    → IsStrictlySortedBy nat_cmp (keys_of s.splits) → split_of s.splits range ≡ Some old → range_of s.ranges range ≡ Some r
    → behind sent (gives_up s.context r old) ≡ outcome t r job → t.dropped ≡ false → t.ended ≡ false
    → given_up_with s range (split_of s.splits range) (step_to s r sent notes)
    ≡ record { after = record s { context = record s.context { count = t.count }; ranges = s.ranges; splits = set_value (is_at (nat_cmp range)) s.splits job }; packets = t.packets; notes = notes }
asked_so s range r old job sent notes t sorted here known is held under_way =
    ap (λ x. given_up_with s range x (step_to s r sent notes)) here
    ∙ ap (settled s range notes) is
    ∙ both_left s range notes t.dropped t.ended t.count t.packets r old job sorted here held under_way
    ∙ ap (λ rs. record { after = record s { context = record s.context { count = t.count }; ranges = rs; splits = set_value (is_at (nat_cmp range)) s.splits job }; packets = t.packets; notes = notes })
    (set_same (is_at (nat_cmp range)) s.ranges r known)

-- the step alone
alone_same : (s : ServerState) (range : ℕ) (r : RangeState) (sent : List Packet) (notes : List TableNote) → range_of s.ranges range ≡ Some r
    → stepped_alone s range (step_to s r sent notes) ≡ record { after = s; packets = sent; notes = notes }
alone_same s range r sent notes known =
    ap (λ rs. record { after = record s { ranges = rs }; packets = sent; notes = notes }) (set_same (is_at (nat_cmp range)) s.ranges r known)

pub none_followed : (s : ServerState) (range : ℕ) (r : RangeState) (sent : List Packet) (notes : List TableNote) → split_of s.splits range ≡ None
    → range_of s.ranges range ≡ Some r → stepped_apart s range (step_to s r sent notes) ≡ record { after = s; packets = sent; notes = notes }
none_followed s range r sent notes none known = ap (λ x. stepped_with s range x (step_to s r sent notes)) none ∙ alone_same s range r sent notes known

pub none_asked : (s : ServerState) (range : ℕ) (r : RangeState) (sent : List Packet) (notes : List TableNote) → split_of s.splits range ≡ None
    → range_of s.ranges range ≡ Some r → given_up_with s range (split_of s.splits range) (step_to s r sent notes) ≡ record { after = s; packets = sent; notes = notes }
none_asked s range r sent notes none known = ap (λ x. given_up_with s range x (step_to s r sent notes)) none ∙ alone_same s range r sent notes known

-- where nothing may come of the split
pub nothing_followed : (s : ServerState) (range : ℕ) (r : RangeState) (job : SplitJob) (sent : List Packet) (notes : List TableNote)
    → IsStrictlySortedBy nat_cmp (keys_of s.splits) → split_of s.splits range ≡ Some job → room_of job job.phase ≡ None
    → range_of s.ranges range ≡ Some r → stepped_apart s range (step_to s r sent notes) ≡ record { after = s; packets = sent; notes = notes }
nothing_followed s range r job sent notes sorted here none known =
    ap (λ x. stepped_with s range x (step_to s r sent notes)) here
    ∙ ap (λ t. behind_these (step_to s r sent notes) (split_stepped s range t)) (nothing_follows s.context r job none)
    ∙ ap (λ rs. record { after = record s { ranges = rs; splits = insert_entry nat_cmp s.splits range job }; packets = sent ++ []; notes = notes })
    (set_same (is_at (nat_cmp range)) s.ranges r known)
    ∙ ap (λ js. record { after = record s { splits = js }; packets = sent ++ []; notes = notes })
    (inserted_in_place range s.splits job job sorted here ∙ set_same (is_at (nat_cmp range)) s.splits job here)
    ∙ ap (λ packets. record { after = s; packets = packets; notes = notes }) (append-nil sent)
