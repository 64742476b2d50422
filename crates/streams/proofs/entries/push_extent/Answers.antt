use Rattle.std.proofs.Common.{◌∙◌}
use Rattle.streams.proofs.Tables.{name_at, room_at, sorted_at, extended_set, extended_gap}
use Rattle.streams.proofs.entries.push_extent.Goals as goal

pub push-requires : goal.push-requires
push-requires c = room_at _ c.requires.sorted c.args.name.now c.in-Ok.at c.in-Ok.ensures.found c.index_mut.result.now c.index_mut.ensures.value c.requires.room

pub returns-in-Ok-clause-sorted : goal.returns-in-Ok-clause-sorted
returns-in-Ok-clause-sorted c =
    sorted_at _ c.requires.sorted c.args.name.now c.in-Ok.at c.in-Ok.ensures.found c.push.new.self
    (c.push.ensures.name ∙ name_at _ c.requires.sorted c.args.name.now c.in-Ok.at c.in-Ok.ensures.found c.index_mut.result.now c.index_mut.ensures.value)

pub returns-in-Ok-clause-streams : goal.returns-in-Ok-clause-streams
returns-in-Ok-clause-streams c =
    extended_set _ c.requires.sorted c.args.name.now c.in-Ok.at c.in-Ok.ensures.found c.index_mut.result.now c.index_mut.ensures.value c.push.new.self c.args.extent
    (c.push.ensures.name ∙ name_at _ c.requires.sorted c.args.name.now c.in-Ok.at c.in-Ok.ensures.found c.index_mut.result.now c.index_mut.ensures.value)
    c.push.ensures.stream

pub returns-in-Err-clause-streams : goal.returns-in-Err-clause-streams
returns-in-Err-clause-streams c = extended_gap _ c.args.name.now _ c.in-Err.ensures.absent c.args.extent
