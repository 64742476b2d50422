use Rattle.std.proofs.Common.{◌+◌, ◌∙◌, sym, ap, arith}
use Rattle.model_partition.specs.Range.{RangeState}
use Rattle.range_core.specs.Steps.{RangeStep, outcome}
use Rattle.range_core.proofs.LogAnswers.{acknowledged}
use Rattle.range_core.proofs.state.RangeState.log_done.Goals as goal

pub returns-clause-ok : goal.returns-clause-ok
returns-clause-ok c =
    let out_is = ap (λ (r : RangeState). r.out) c.self.view_is in
    let range_is = ap (λ (r : RangeState). r.load.range) c.self.view_is in
    let generation_is = ap (λ (r : RangeState). r.load.generation) c.self.view_is in
    acknowledged c.args.context.now c.args.self.now c.apply.new.self c.begin_next-begun.new.self c.args.packet.now.body c.args.extent c.args.offset (c.args.context.now.count + 1)
    c.in_ok-told.told.packets.items c.in_ok-told.told.notes.items c.begin_next-begun.result.packet c.begin_next-begun.result.notes.items
    c.requires.out c.requires.appended (omega arith) c.in_ok-apply.ensures.ok (cc (c.in_ok-told.ensures.packets, out_is)) (cc (c.in_ok-told.ensures.notes, out_is, range_is, generation_is)) c.begin_next-begun.ensures.rule
    ∙ ap (λ (t : RangeStep). outcome t c.begin_next-begun.new.self) (sym c.joined.ensures.value)
