use Rattle.std.proofs.Common.{◌≡◌, ◌∙◌, ◌++◌, List, Some, refl, sym, ap, subst}
use Rattle.std.specs.Prelude.{option_map, option_to_list}
use Rattle.wire.specs.declared.packet.Packet.{Packet}
use Rattle.model_partition.specs.declared.range_content.RangeContent.{RangeContent}
use Rattle.model_partition.specs.Answering.{gives_up_job}
use Rattle.model_partition.specs.Checkpoints.{trim_again}
use Rattle.model_partition.specs.ControlJobs.{give_up_control}
use Rattle.model_partition.specs.PlaceReads.{moved_on}
use Rattle.model_partition.specs.Range.{RangeState, used}
use Rattle.model_partition.specs.RangeSteps.{put}
use Rattle.range_core.specs.contracts.state.RangeState.{the_view}
use Rattle.range_core.proofs.GivingUp.{control_after, control_sent, trim_alike}
use Rattle.range_core.proofs.state.RangeState.give_up_control.Goals as goal

pub returns-clause-state : goal.returns-clause-state
returns-clause-state c =
    let before : RangeState = the_view c.self.inside in
    let mid : RangeContent = c.record_and_reading_again-metadata.new.content in
    let new : RangeContent = c.give_up-rows.new.content in
    let rest : new ≡ record c.self.inside.content { metadata = mid.metadata; rows = new.rows; reading = option_map moved_on before.reading } =
    c.give_up-rows.ensures.rest ∙ ap (λ (x : RangeContent). record x { rows = new.rows }) c.record_and_reading_again-metadata.ensures.rest in
    let rows_given = ap (λ (x : RangeContent). gives_up_job (used (used c.args.context.now)) x.rows) (sym c.record_and_reading_again-metadata.ensures.rest) ∙ c.give_up-rows.ensures.rows in
    subst (λ (r : RangeState). (give_up_control c.args.context.now r).after ≡ Some (put new before)) c.self.view_is
    (control_after c.args.context.now before mid.metadata new.rows c.record_and_reading_again-metadata.result.0 c.give_up-rows.result.rows
    c.record_and_reading_again-metadata.ensures.metadata rows_given
    ∙ ap (λ (x : RangeContent). Some (put x before)) (sym rest))

pub returns-clause-sent : goal.returns-clause-sent
returns-clause-sent c =
    let before : RangeState = the_view c.self.inside in
    let mid : RangeContent = c.record_and_reading_again-metadata.new.content in
    let new : RangeContent = c.give_up-rows.new.content in
    let rows_given = ap (λ (x : RangeContent). gives_up_job (used (used c.args.context.now)) x.rows) (sym c.record_and_reading_again-metadata.ensures.rest) ∙ c.give_up-rows.ensures.rows in
    let trim = c.give_up-rows.ensures.trim before
    ∙ ap (λ (x : RangeContent). trim_again c.args.context.now (put x before) x.control) c.record_and_reading_again-metadata.ensures.rest
    ∙ trim_alike c.args.context.now (put (record c.self.inside.content { metadata = mid.metadata; reading = option_map moved_on before.reading }) before) before before.control refl in
    let packets = c.push_some-4.ensures.items
    ∙ ap (λ (ps : List Packet). ps ++ option_to_list c.give_up-rows.result.trim) (c.push_some-3.ensures.items
    ∙ ap (λ (ps : List Packet). ps ++ option_to_list c.record_and_reading_again-metadata.result.1) (c.push_some-2.ensures.items
    ∙ ap (λ (ps : List Packet). ps ++ option_to_list c.give_up-rows.result.rows) c.push_some.ensures.items)) in
    subst (λ (r : RangeState). c.push_some-4.new.packets.items ≡ c.args.packets.now.items ++ (give_up_control c.args.context.now r).packets) c.self.view_is
    (control_sent c.args.context.now before mid.metadata new.rows c.record_and_reading_again-metadata.result.0 c.give_up-rows.result.rows
    c.record_and_reading_again-metadata.result.1 c.give_up-rows.result.trim c.args.packets.now.items c.push_some-4.new.packets.items
    c.record_and_reading_again-metadata.ensures.metadata rows_given (c.record_and_reading_again-metadata.ensures.reading before) trim packets)
