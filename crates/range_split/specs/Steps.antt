-- What a step of a split leaves, as its code says it.
use Rattle.std.specs.Prelude.{ℕ, ◌≤◌, Bool, List, ◌++◌, length, Option, Some, option_to_list}
use Rattle.wire.specs.declared.packet.Packet.{Packet}
use Rattle.model_partition.specs.declared.split_job.SplitJob.{SplitJob}
use Rattle.model_partition.specs.Range.{RangeState}
use Rattle.model_partition.specs.Splits.{SplitStep}
use Rattle.range_core.specs.Steps.{unless}

-- whether the range goes, whether its split has ended, the number of the server's next request, and the packets
pub record SplitTaken : Type 0 where
  pub dropped : Bool
  pub ended : Bool
  pub count : ℕ
  pub packets : List Packet

-- the step of a rule, where the range and the split that are left are these
abbrev pub outcome : SplitTaken → RangeState → SplitJob → SplitStep
outcome t r job = record { range = unless t.dropped r; job = unless t.ended job; count = t.count; packets = t.packets }

-- a step after which both go on
abbrev pub goes_on : RangeState → SplitJob → ℕ → Option Packet → SplitStep
goes_on r job count packet = record { range = Some r; job = Some job; count = count; packets = option_to_list packet }

-- the packets of the range's own step come before
abbrev pub behind : List Packet → SplitStep → SplitStep
behind packets t = record t { packets = packets ++ t.packets }

-- no step of a split sends more
abbrev pub IsShort : SplitTaken → Type 0
IsShort t = length t.packets ≤ 1400
