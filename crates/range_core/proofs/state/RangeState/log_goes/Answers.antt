use Rattle.std.proofs.Common.{◌≡◌, ◌∙◌, ◌++◌, List, true, false, sym, ap, subst}
use Rattle.std.specs.Prelude.{◌&&◌, is_some, option_to_list}
use Rattle.wire.specs.declared.packet.Packet.{Packet}
use Rattle.client.specs.Client.{Outcome}
use Rattle.model_partition.specs.Range.{RangeState, is_serving}
use Rattle.model_partition.specs.Answering.{log_taken}
use Rattle.range_core.specs.Replies.{is_end_of}
use Rattle.range_core.specs.Steps.{outcome}
use Rattle.range_core.specs.contracts.state.RangeState.{the_view}
use Rattle.range_core.proofs.LogAnswers.{goes_on, left}
use Rattle.range_core.proofs.state.RangeState.log_goes.Goals as goal

pub returns-clause-ok : goal.returns-clause-ok
returns-clause-ok c =
    let before : RangeState = the_view c.self.inside in
    let after : RangeState = record before { log = c.take_answer.new.client } in
    let o : Outcome = record { after = c.take_answer.new.client; packet = c.in_ok-reaction.reaction.packet; news = c.in_ok-reaction.reaction.news } in
    let serving = subst (λ (r : RangeState). is_serving r.stage ≡ true) (sym c.self.view_is) c.requires.serving in
    let quiet = subst (λ (r : RangeState). (is_some r.out && is_end_of r.log.job c.args.packet.now.body) ≡ false) (sym c.self.view_is) c.requires.quiet in
    let packets = c.push_some.ensures.items ∙ ap (λ (l : List Packet). l ++ option_to_list c.in_ok-reaction.reaction.packet) c.in_ok-packets.ensures.items in
    subst (λ (r : RangeState). log_taken c.args.context.now r c.args.packet.now.body ≡ outcome c.sends.result after) c.self.view_is
    (goes_on c.args.context.now before c.args.packet.now.body o serving c.requires.current quiet c.in_ok-reaction.ensures.ok
    ∙ left c.args.context.now after c.sends.result c.in_ok-reaction.reaction.packet c.push_some.new.packets.items c.sends.ensures packets)
