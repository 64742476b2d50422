use Rattle.std.proofs.Common.{ap, ◌∙◌}
use Rattle.streams.specs.Table.{Entry}
use Rattle.streams.proofs.Tables.{name_at, sorted_at, fenced_set, fenced_gap}
use Rattle.streams.proofs.entries.set_fence.Goals as goal

pub returns-in-Ok-clause-sorted : goal.returns-in-Ok-clause-sorted
returns-in-Ok-clause-sorted c =
    sorted_at _ c.requires.sorted c.args.name.now c.in-Ok.at c.in-Ok.ensures.found c.set_fence.new.self
    (ap (λ (x : Entry). x.name) c.set_fence.ensures ∙ name_at _ c.requires.sorted c.args.name.now c.in-Ok.at c.in-Ok.ensures.found c.index_mut.result.now c.index_mut.ensures.value)

pub returns-in-Ok-clause-streams : goal.returns-in-Ok-clause-streams
returns-in-Ok-clause-streams c =
    fenced_set _ c.requires.sorted c.args.name.now c.in-Ok.at c.in-Ok.ensures.found c.index_mut.result.now c.index_mut.ensures.value c.set_fence.new.self c.args.fence
    (ap (λ (x : Entry). x.name) c.set_fence.ensures ∙ name_at _ c.requires.sorted c.args.name.now c.in-Ok.at c.in-Ok.ensures.found c.index_mut.result.now c.index_mut.ensures.value)
    (ap (λ (x : Entry). x.stream) c.set_fence.ensures)

pub returns-in-Err-clause-streams : goal.returns-in-Err-clause-streams
returns-in-Err-clause-streams c = fenced_gap _ c.args.name.now _ c.in-Err.ensures.absent c.args.fence
