use Rattle.std.proofs.Common.{◌∷◌, [], ◌∙◌, sym, ap}
use Rattle.wire.specs.declared.packet.Packet.{Packet}
use Rattle.model_partition.specs.RangeSteps.{put}
use Rattle.range_checkpoint.proofs.Noted.{again_some}
use Rattle.range_checkpoint.proofs.giving_up.trim_again.Goals as goal

pub returns-in-Some : goal.returns-in-Some
returns-in-Some c = λ r. ap (λ (p : Packet). p ∷ []) (c.trim_packet.ensures r) ∙ sym (again_some c.args.context.now (put c.args.content.now r) c.args.content.now.control _ (sym c.trim_out.ensures ∙ c.in-Some.is))
