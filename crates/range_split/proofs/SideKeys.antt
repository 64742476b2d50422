-- The keys of one of the two ranges are appended to its metadata.
use Rattle.std.proofs.Common.{◌≡◌, ℕ, suc, ◌+◌, List, [], ◌∷◌, Option, None, sym, ap, ◌∙◌, arith}
use Rattle.std.specs.Prelude.{option_to_list}
use Rattle.wire.specs.declared.packet.Packet.{Packet}
use Rattle.client.specs.Client.{ClientState, Outcome, append_rule}
use Rattle.metadata.specs.Record.{spelling}
use Rattle.model_partition.specs.declared.server_context.ServerContext.{ServerContext}
use Rattle.model_partition.specs.declared.split_job.Side.{Side}
use Rattle.model_partition.specs.declared.split_job.SplitJob.{SplitJob}
use Rattle.model_partition.specs.declared.split_job.SplitPhase.TheVariants as phases
use Rattle.model_partition.specs.Range.{RangeState, request, given, picking}
use Rattle.model_partition.specs.Splits.{appends_keys, goes, keys_record, side_metadata, with_phase}
use Rattle.range_split.specs.Steps.{goes_on}

pub appends_so : (d : ServerContext) (r : RangeState) (job : SplitJob) (side : Side) (m after : ClientState) (blocks : List (List ℕ)) (packet : Option Packet) → m ≡ side_metadata d r job side → blocks ≡ spelling (keys_record r job side) ∷ []
    → given (picking d m) (append_rule (picking d m) (request d) blocks) ≡ record { after = after; packet = packet; news = None }
    → appends_keys d r job side ≡ goes_on r (with_phase job (phases.Keys side after)) (d.count + 1) packet
appends_so d r job side m after blocks packet m_is blocks_are sent =
    let o : given (side_metadata d r job side) (append_rule (side_metadata d r job side) (request d) (spelling (keys_record r job side) ∷ [])) ≡ record { after = after; packet = packet; news = None } =
    (λ i. given (picking d (sym m_is i)) (append_rule (picking d (sym m_is i)) (request d) (sym blocks_are i))) ∙ sent in
    let next : suc d.count ≡ d.count + 1 = omega arith in
    ap (λ (o : Outcome). goes d r (with_phase job (phases.Keys side o.after)) (option_to_list o.packet)) o
    ∙ ap (λ (count : ℕ). goes_on r (with_phase job (phases.Keys side after)) count packet) next
