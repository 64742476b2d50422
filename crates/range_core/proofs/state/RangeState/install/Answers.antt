use Rattle.std.proofs.Common.{◌≡◌, ◌∙◌, ◌++◌, List, subst, ap}
use Rattle.std.specs.Prelude.{option_to_list}
use Rattle.wire.specs.declared.packet.Packet.{Packet}
use Rattle.model_partition.specs.RangeSteps.{put}
use Rattle.model_partition.specs.Range.{RangeState}
use Rattle.range_checkpoint.specs.Records.{installs}
use Rattle.range_core.specs.Steps.{outcome}
use Rattle.range_core.specs.contracts.state.RangeState.{the_view}
use Rattle.range_core.proofs.LogAnswers.{left}
use Rattle.range_core.proofs.state.RangeState.install.Goals as goal

pub returns-clause-ok : goal.returns-clause-ok
returns-clause-ok c =
    let before : RangeState = the_view c.self.inside in
    let after : RangeState = put c.install.new.content before in
    let packets = c.push_some.ensures.items ∙ ap (λ (l : List Packet). l ++ option_to_list c.in_ok-trim.trim) c.in_ok-packets.ensures.items in
    subst (λ (r : RangeState). installs c.args.context.now r c.args.packet.now.body ≡ outcome c.sends.result after) c.self.view_is
    (c.in_ok-trim.ensures.ok before ∙ left c.args.context.now after c.sends.result c.in_ok-trim.trim c.push_some.new.packets.items c.sends.ensures packets)
