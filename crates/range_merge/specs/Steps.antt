-- What a step of a merge leaves, as its code says it.
use Rattle.std.specs.Prelude.{ℕ, ◌≤◌, Bool, List, ◌++◌, length, Option, Some, option_to_list, if◌then◌else◌}
use Rattle.wire.specs.declared.packet.Packet.{Packet}
use Rattle.model_partition.specs.Range.{RangeState, RangeOutcome}
use Rattle.range_core.specs.Steps.{unless}
use Rattle.model_partition.specs.declared.merge_job.MergeJob.{MergeJob}
use Rattle.model_partition.specs.Merges.{MergeStep, pausing}

-- whether either range goes, whether their merge has ended, the number of the server's next request, and the packets
pub record MergeTaken : Type 0 where
  pub left_dropped : Bool
  pub right_dropped : Bool
  pub ended : Bool
  pub count : ℕ
  pub packets : List Packet

-- the step of a rule, where the ranges and the merge that are left are these
abbrev pub outcome : MergeTaken → RangeState → RangeState → MergeJob → MergeStep
outcome t l r job =
    record { left = unless t.left_dropped l; right = unless t.right_dropped r; job = unless t.ended job; count = t.count; packets = t.packets }

-- a step after which all go on
abbrev pub goes_on : RangeState → RangeState → MergeJob → ℕ → Option Packet → MergeStep
goes_on l r job count packet = record { left = Some l; right = Some r; job = Some job; count = count; packets = option_to_list packet }

-- a range that is to be paused, if it is
abbrev pub paused_if : Bool → RangeState → RangeState
paused_if pauses r = if pauses then pausing r else r

-- the packets of the range's own step come before
abbrev pub behind : List Packet → MergeStep → MergeStep
behind packets t = record t { packets = packets ++ t.packets }

-- so they do before a step of the other range
abbrev pub behind_step : List Packet → RangeOutcome → RangeOutcome
behind_step packets o = record o { packets = packets ++ o.packets }

-- no step of a merge sends more
abbrev pub IsShort : MergeTaken → Type 0
IsShort t = length t.packets ≤ 1400
