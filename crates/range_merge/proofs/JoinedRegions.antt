-- Regions whose indexes have no bytes.
use Rattle.std.proofs.Common.{◌≡◌, ℕ, suc, ◌+◌, ◌<◌, ◌≤◌, ◌^◌, true, false, [], ◌∷◌, ◌++◌, length, sym, ap, ◌∙◌, arith}
use Rattle.std.specs.Prelude.{nat_lt}
use Rattle.std.specs.List.{list_all}
use Rattle.std.proofs.lemmas.Bool.{and_left, leb-false, lt-leb}
use Rattle.model_partition.specs.Range.{RangeState}
use Rattle.model_partition.specs.JoinedRanges.{closed_regions, is_record_position, is_record_region, joined_end, joined_regions, log_end, open_region}
use Rattle.range_merge.proofs.RecordSizes.{none_before, none_behind}

open_none : (l r : RangeState) → nat_lt (joined_end l r) (2 ^ 64) ≡ false → is_record_region (open_region l r) ≡ false
open_none l r beyond = and_left (is_record_position (open_region l r).start) _ (and_left (nat_lt (joined_end l r) (2 ^ 64)) _ beyond)

pub end_beyond : (l r : RangeState) → nat_lt (joined_end l r) (2 ^ 64) ≡ false → list_all is_record_region (joined_regions l r) ≡ false
end_beyond l r beyond =
    none_behind is_record_region (closed_regions l.said l.log l.log.base) (closed_regions r.said r.log (log_end l.log) ++ open_region l r ∷ [])
    (none_behind is_record_region (closed_regions r.said r.log (log_end l.log)) (open_region l r ∷ []) (and_left (is_record_region (open_region l r)) true (open_none l r beyond)))

-- the left log alone ends beyond 64 bits
pub log_beyond : (l r : RangeState) → nat_lt (log_end l.log) (2 ^ 64) ≡ false → list_all is_record_region (joined_regions l r) ≡ false
log_beyond l r beyond =
    let far : 2 ^ 64 < suc (log_end l.log) = leb-false (suc (log_end l.log)) (2 ^ 64) beyond in
    end_beyond l r (lt-leb (suc (joined_end l r)) (2 ^ 64) (omega (arith, far)))

-- both together do
pub sum_beyond : (l r : RangeState) (first : ℕ) → first ≡ log_end l.log → 2 ^ 64 ≤ first + length r.log.extents → list_all is_record_region (joined_regions l r) ≡ false
sum_beyond l r first is far = end_beyond l r (lt-leb (suc (joined_end l r)) (2 ^ 64) (omega (arith, is, far)))

pub left_beyond : (l r : RangeState) → list_all is_record_region (closed_regions l.said l.log l.log.base) ≡ false → list_all is_record_region (joined_regions l r) ≡ false
left_beyond l r none = none_before is_record_region (closed_regions l.said l.log l.log.base) (closed_regions r.said r.log (log_end l.log) ++ open_region l r ∷ []) none

pub right_beyond : (l r : RangeState) (first : ℕ) → first ≡ log_end l.log → list_all is_record_region (closed_regions r.said r.log first) ≡ false → list_all is_record_region (joined_regions l r) ≡ false
right_beyond l r first is none =
    none_behind is_record_region (closed_regions l.said l.log l.log.base) (closed_regions r.said r.log (log_end l.log) ++ open_region l r ∷ [])
    (none_before is_record_region (closed_regions r.said r.log (log_end l.log)) (open_region l r ∷ [])
    (ap (λ (n : ℕ). list_all is_record_region (closed_regions r.said r.log n)) (sym is) ∙ none))
