-- The last extent of a stream is sealed, and the next step follows.
use Rattle.std.proofs.Common.{◌≡◌, ℕ, suc, ◌+◌, true, false, List, [], ◌∷◌, Option, Some, sym, ap, ◌∙◌, arith}
use Rattle.std.specs.Prelude.{if◌then◌else◌}
use Rattle.wire.specs.declared.packet.Packet.{Packet}
use Rattle.wire.specs.declared.streams.StreamKind.{StreamKind}
use Rattle.model_partition.specs.declared.server_context.ServerContext.{ServerContext}
use Rattle.model_partition.specs.declared.split_job.SplitJob.{SplitJob}
use Rattle.model_partition.specs.Range.{RangeState}
use Rattle.model_partition.specs.Splits.{extents_of, first_open, goes, is_extent, kinds_after, last_sealed, open_last, seals_among, seals_or_builds, stays, with_last_sealed}
use Rattle.range_split.specs.Steps.{SplitTaken, outcome}

pub seals_on : (d : ServerContext) (r : RangeState) (job left : SplitJob) (kind : StreamKind) (e length : ℕ) (after : RangeState) (found : Option (StreamKind × ℕ)) (packet : Packet)
    → is_extent e (open_last (extents_of r kind)) ≡ true → after ≡ with_last_sealed r kind length → found ≡ first_open after (kinds_after kind) → seals_or_builds d after job found ≡ goes d after left (packet ∷ [])
    → last_sealed d r job kind e length ≡ goes d after left (packet ∷ [])
seals_on d r job left kind e length after found packet is_last after_is found_is goes_so =
    (λ i. if is_last i then seals_among d (sym after_is i) job (kinds_after kind) else stays d r job) ∙ ap (seals_or_builds d after job) (sym found_is) ∙ goes_so

-- one packet goes
pub sent : (d : ServerContext) (r : RangeState) (job : SplitJob) (packet : Packet) (t : SplitTaken) (packets : List Packet) → t ≡ record { dropped = false; ended = false; count = d.count + 1; packets = packets }
    → packets ≡ packet ∷ [] → goes d r job (packet ∷ []) ≡ outcome t r job
sent d r job packet t packets is packets_are =
    let next : suc d.count ≡ d.count + 1 = omega arith in
    (λ i. record { range = Some r; job = Some job; count = next i; packets = sym packets_are i }) ∙ ap (λ (t : SplitTaken). outcome t r job) (sym is)
