use Rattle.std.proofs.Common.{◌≡◌, ◌∷◌, [], Some, sym, ap, ◌∙◌}
use Rattle.wire.specs.declared.packet.Packet.{Packet}
use Rattle.model_partition.specs.declared.merge_job.MergePhase.{MergePhase}
use Rattle.range_merge.specs.declared.next_packet.NextPacket.{NextPacket}
use Rattle.model_partition.specs.Merges.{all_streams, asks_again_in, goes}
use Rattle.range_merge.specs.Rooms.{again_room_of}
use Rattle.range_merge.specs.Steps.{goes_on}
use Rattle.range_merge.proofs.RecordAppends.{counted, some_of}
use Rattle.range_merge.proofs.giving_up.asked_again.Goals as goal

pub returns-in-Some : goal.returns-in-Some
returns-in-Some c =
    let d = c.args.context.now in
    let l = c.args.left.now in
    let r = c.args.right.now in
    let job = c.args.job.now in
    let list : c.in-Some.streams ≡ all_streams job = some_of c.in-Some.streams (all_streams job) (sym c.in-Some.is ∙ c.requires.serves ∙ ap (λ (p : MergePhase). again_room_of job p) c.in-Build.is) in
    ap (λ (p : MergePhase). asks_again_in d l r job p) c.in-Build.is
    ∙ ap (λ (p : Packet). goes d l r job (p ∷ [])) (sym (c.build_packet.ensures job list))
    ∙ counted d l r job (Some c.build_packet.result)
    ∙ ap (λ (x : NextPacket). goes_on l r job x.count x.packet) (sym c.sends-in-Some.ensures)
