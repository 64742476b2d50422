use Rattle.std.proofs.Common.{◌≡◌, ◌∙◌, ◌++◌, ℕ, List, refl, sym, ap, subst}
use Rattle.std.specs.Prelude.{option_map, option_to_list}
use Rattle.wire.specs.declared.packet.Packet.{Packet}
use Rattle.memtable.specs.declared.cell.Place.{Place}
use Rattle.model_partition.specs.declared.range_content.RangeContent.{RangeContent}
use Rattle.model_partition.specs.PlaceReads.{moved_on}
use Rattle.model_partition.specs.RangeSteps.{put}
use Rattle.range_reads.specs.Lookups.{LookupsState}
use Rattle.model_partition.specs.Range.{RangeState, used}
use Rattle.model_partition.specs.Answering.{give_up_all, gives_up_job}
use Rattle.model_partition.specs.Checkpoints.{trim_again}
use Rattle.range_core.specs.Steps.{outcome}
use Rattle.range_core.specs.contracts.state.RangeState.{the_view}
use Rattle.range_core.proofs.GivingUp.{given_up, trim_alike}
use Rattle.range_core.proofs.state.RangeState.give_up.Goals as goal

pub returns-clause-ok : goal.returns-clause-ok
returns-clause-ok c =
    let before : RangeState = the_view c.self.inside in
    let moved = c.in_ok-reads.ensures.gets before (record { range = c.held_under-range.ensures.0; generation = c.held_under-range.ensures.1; until = refl; pause = refl; live = refl; fixed = refl; log = c.known_extents.ensures; blob = c.extents_of.ensures; rows = c.known_extents-2.ensures; indexes = c.indexes_of.ensures }) in
    let reads = c.in_ok-reads.ensures.packets before (record { range = c.held_under-range.ensures.0; generation = c.held_under-range.ensures.1; until = refl; pause = refl; live = refl; fixed = refl; log = c.known_extents.ensures; blob = c.extents_of.ensures; rows = c.known_extents-2.ensures; indexes = c.indexes_of.ensures }) in
    let mid : RangeContent = c.give_up-loading.new.content in
    let new : RangeContent = c.give_up-checkpoint.new.content in
    let after : RangeState = record before { gets = c.give_up.new.self.gets } in
    let rest : new ≡ record c.self.inside.content { metadata = mid.metadata; log = mid.log; rows = new.rows; reading = option_map moved_on before.reading } = c.give_up-checkpoint.ensures.rest ∙ ap (λ (x : RangeContent). record x { rows = new.rows }) c.give_up-loading.ensures.rest in
    let rows_given = ap (λ (x : RangeContent). gives_up_job (used (used c.args.context.now)) x.rows) (sym c.give_up-loading.ensures.rest) ∙ c.give_up-checkpoint.ensures.rows in
    let trim = c.give_up-checkpoint.ensures.trim before
    ∙ ap (λ (x : RangeContent). trim_again c.args.context.now (put x before) x.control) c.give_up-loading.ensures.rest
    ∙ trim_alike c.args.context.now (put (record c.self.inside.content { metadata = mid.metadata; log = mid.log; reading = option_map moved_on before.reading }) before) before before.control refl in
    let packets = c.gathered-sent.ensures ∙ ap (λ (ps : List Packet). ((((((ps ++ option_to_list c.give_up-loading.result.load) ++ option_to_list c.give_up-loading.result.log) ++ option_to_list c.give_up-loading.result.metadata) ++ option_to_list c.give_up-checkpoint.result.rows) ++ option_to_list c.give_up-loading.result.reading) ++ option_to_list c.give_up-checkpoint.result.trim) ++ c.in_ok-reads.reads.items) c.in_ok-packets.ensures.items in
    subst (λ (r : RangeState). give_up_all c.args.context.now r ≡ outcome c.sends.result (record (put new after) { held = c.give_up.new.self.held })) c.self.view_is
    (given_up c.args.context.now before mid.log mid.metadata new.rows c.give_up.new.self.gets c.give_up-loading.result.load c.give_up-loading.result.log c.give_up-loading.result.metadata c.give_up-checkpoint.result.rows c.give_up-loading.result.reading c.give_up-checkpoint.result.trim c.in_ok-reads.reads.items c.gathered-sent.result.items c.sends.result
    c.give_up-loading.ensures.load c.give_up-loading.ensures.log c.give_up-loading.ensures.metadata rows_given (c.give_up-loading.ensures.reading before) trim (ap (λ (s : LookupsState). s.gets) moved) reads packets c.sends.ensures
    ∙ ap (λ (x : RangeContent). outcome c.sends.result (put x after)) (sym rest)
    ∙ ap (λ (h : List (Place × List ℕ)). outcome c.sends.result (record (put new after) { held = h })) (sym (ap (λ (s : LookupsState). s.held) moved)))
