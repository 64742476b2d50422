use Rattle.std.proofs.Common.{◌∙◌, Result, Ok, Err, OnOk}
use Rattle.std.specs.declared.alloc.AllocError.{AllocError}
use Rattle.streams.proofs.Tables.{name_at, sorted_at, same_set, room_set, room_gap}
use Rattle.streams.proofs.entries.reserve_extent.Goals as goal

pub returns-in-Ok-clause-sorted : goal.returns-in-Ok-clause-sorted
returns-in-Ok-clause-sorted c =
    sorted_at _ c.requires.sorted c.args.name.now c.in-Ok.at c.in-Ok.ensures.found c.reserve.new.self
    (c.reserve.ensures.name ∙ name_at _ c.requires.sorted c.args.name.now c.in-Ok.at c.in-Ok.ensures.found c.index_mut.result.now c.index_mut.ensures.value)

pub returns-in-Ok-clause-streams : goal.returns-in-Ok-clause-streams
returns-in-Ok-clause-streams c =
    same_set _ c.requires.sorted c.args.name.now c.in-Ok.at c.in-Ok.ensures.found c.index_mut.result.now c.index_mut.ensures.value c.reserve.new.self
    (c.reserve.ensures.name ∙ name_at _ c.requires.sorted c.args.name.now c.in-Ok.at c.in-Ok.ensures.found c.index_mut.result.now c.index_mut.ensures.value)
    c.reserve.ensures.stream

ok_then : (r : Result Unit AllocError) (P Q : Type 0) → (P → Q) → OnOk r P → OnOk r Q
ok_then (Ok u) P Q f p = f p
ok_then (Err x) P Q f p = tt

pub returns-in-Ok-clause-room : goal.returns-in-Ok-clause-room
returns-in-Ok-clause-room c =
    ok_then c.reserve.result _ _
    (room_set _ c.requires.sorted c.args.name.now c.in-Ok.at c.in-Ok.ensures.found c.index_mut.result.now c.index_mut.ensures.value c.reserve.new.self
    (c.reserve.ensures.name ∙ name_at _ c.requires.sorted c.args.name.now c.in-Ok.at c.in-Ok.ensures.found c.index_mut.result.now c.index_mut.ensures.value))
    c.reserve.ensures.room

pub returns-in-Err-clause-room : goal.returns-in-Err-clause-room
returns-in-Err-clause-room c = room_gap _ c.args.name.now _ c.in-Err.ensures.absent
