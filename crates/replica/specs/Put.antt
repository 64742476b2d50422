-- Why a replica does not take groups.
use Rattle.std.specs.Prelude.{ℕ, List, length, Option, Some, None, not, ◌+◌, nat_lt, nat_le, ◌==◌, if◌then◌else◌}
use Rattle.replica.specs.Groups.{Group, text_length}
use Rattle.replica.specs.Content.{Content}
use Rattle.replica.specs.Replay.{longest}
use Rattle.replica.specs.declared.fault.PutFault.{PutFault}
use Rattle.replica.specs.declared.fault.PutFault.TheVariants.{Stale, PastEnd, ExtentFull}
use Rattle.replica.specs.declared.fault.FillFault.{FillFault}
use Rattle.replica.specs.declared.fault.FillFault.TheVariants as fill

-- the first reason
abbrev pub put_fault : Content → ℕ → ℕ → Option PutFault
put_fault content generation offset =
    if nat_lt generation content.fence then Some Stale
    else if not (offset == text_length content.groups) then Some PastEnd
    else if nat_le content.target (text_length content.groups) then Some ExtentFull
    else None

-- the first reason against groups that are to bring it from an offset to a length
abbrev pub fill_fault : Content → ℕ → ℕ → List Group → Option FillFault
fill_fault content from end groups =
    if length groups == 0 then Some fill.PastEnd
    else if not (from == text_length content.groups) then Some fill.PastEnd
    else if not (nat_le end longest) then Some fill.ExtentFull
    else if not (text_length content.groups + text_length groups == end) then Some fill.PastEnd
    else None
