-- The last extent of a stream is sealed, and the next step follows.
use Rattle.std.proofs.Common.{◌≡◌, ℕ, suc, ◌+◌, true, false, List, [], ◌∷◌, Option, Some, sym, ap, ◌∙◌, arith}
use Rattle.std.specs.Prelude.{if◌then◌else◌}
use Rattle.wire.specs.declared.packet.Packet.{Packet}
use Rattle.wire.specs.declared.streams.StreamKind.{StreamKind}
use Rattle.model_partition.specs.declared.server_context.ServerContext.{ServerContext}
use Rattle.model_partition.specs.Range.{RangeState}
use Rattle.model_partition.specs.Splits.{is_extent}
use Rattle.model_partition.specs.declared.merge_job.MergeJob.{MergeJob}
use Rattle.model_partition.specs.declared.merge_job.MergeSide.{MergeSide}
use Rattle.model_partition.specs.Merges.{Part, first_open, goes, last_sealed, open_part, parts_after, seals_among, seals_or_builds, sealed_left, sealed_right, stays}
use Rattle.range_merge.specs.Steps.{MergeTaken, outcome}

pub seals_on : (d : ServerContext) (l r : RangeState) (job after : MergeJob) (side : MergeSide) (kind : StreamKind) (e length : ℕ) (x y : RangeState) (found : Option (Part × ℕ)) (packet : Packet)
    → is_extent e (open_part l r side kind) ≡ true → x ≡ sealed_left l side kind length → y ≡ sealed_right r side kind length → found ≡ first_open x y (parts_after side kind)
    → seals_or_builds d x y job found ≡ goes d x y after (packet ∷ []) → last_sealed d l r job side kind e length ≡ goes d x y after (packet ∷ [])
seals_on d l r job after side kind e length x y found packet is_last x_is y_is found_is goes_so =
    (λ i. if is_last i then seals_among d (sym x_is i) (sym y_is i) job (parts_after side kind) else stays d l r job) ∙ ap (seals_or_builds d x y job) (sym found_is) ∙ goes_so

-- one packet goes
pub sent : (d : ServerContext) (l r : RangeState) (job : MergeJob) (packet : Packet) (t : MergeTaken) (packets : List Packet)
    → t ≡ record { left_dropped = false; right_dropped = false; ended = false; count = d.count + 1; packets = packets }
    → packets ≡ packet ∷ [] → goes d l r job (packet ∷ []) ≡ outcome t l r job
sent d l r job packet t packets is packets_are =
    let next : suc d.count ≡ d.count + 1 = omega arith in
    (λ i. record { left = Some l; right = Some r; job = Some job; count = next i; packets = sym packets_are i }) ∙ ap (λ (t : MergeTaken). outcome t l r job) (sym is)
