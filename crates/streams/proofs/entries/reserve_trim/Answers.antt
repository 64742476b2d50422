use Rattle.std.proofs.Common.{◌∙◌, ◌≤◌, length, arith, ap, sym, Result, Ok, Err, OnOk}
use Rattle.std.specs.declared.alloc.AllocError.{AllocError}
use Rattle.streams.specs.Streams.{blob_data_name}
use Rattle.streams.specs.Table.{streams_in, room_needed}
use Rattle.streams.proofs.Tables.{name_at, sorted_at, same_set}
use Rattle.streams.proofs.Trims.{needed_none, needed_some, room_made, no_room_needed}
use Rattle.streams.proofs.entries.reserve_trim.Goals as goal
use Rattle.streams.proofs.entries.reserve_trim.Goals.{in-None, in-Some}

pub returns-in-Ok-clause-sorted : goal.returns-in-Ok-clause-sorted
returns-in-Ok-clause-sorted c =
    sorted_at _ c.requires.sorted (blob_data_name c.args.range) c.in-Ok.at c.in-Ok.ensures.found c.reserve.new.self
    (c.reserve.ensures.name ∙ name_at _ c.requires.sorted (blob_data_name c.args.range) c.in-Ok.at c.in-Ok.ensures.found c.index_mut.result.now c.index_mut.ensures.value)

pub returns-in-Ok-clause-streams : goal.returns-in-Ok-clause-streams
returns-in-Ok-clause-streams c =
    same_set _ c.requires.sorted (blob_data_name c.args.range) c.in-Ok.at c.in-Ok.ensures.found c.index_mut.result.now c.index_mut.ensures.value c.reserve.new.self
    (c.reserve.ensures.name ∙ name_at _ c.requires.sorted (blob_data_name c.args.range) c.in-Ok.at c.in-Ok.ensures.found c.index_mut.result.now c.index_mut.ensures.value)
    c.reserve.ensures.stream

ok_then : (r : Result Unit AllocError) (P Q : Type 0) → (P → Q) → OnOk r P → OnOk r Q
ok_then (Ok u) P Q f p = f p
ok_then (Err x) P Q f p = tt

pub returns-in-Ok-clause-room : goal.returns-in-Ok-clause-room
returns-in-Ok-clause-room c =
    let needed : room_needed (streams_in c.args.entries.now.items c.args.range 1) c.args.before ≤ c.match-find.count = elim c.match-find.branch [
      | in-None w ↦ needed_none _ c.args.range c.args.before _ (sym w.in-None.ensures)
      | in-Some w ↦ needed_some _ c.args.range c.args.before _ w.in-Some.log.now (sym w.in-Some.ensures) (omega (arith, w.count-is, ap length w.leaving.ensures))
    ] in
    ok_then c.reserve.result _ _
    (room_made _ c.requires.sorted c.args.range c.args.before c.in-Ok.at c.in-Ok.ensures.found c.index_mut.result.now c.reserve.new.self c.index_mut.ensures.value
    (c.reserve.ensures.name ∙ name_at _ c.requires.sorted (blob_data_name c.args.range) c.in-Ok.at c.in-Ok.ensures.found c.index_mut.result.now c.index_mut.ensures.value)
    c.reserve.ensures.stream c.match-find.count needed)
    c.reserve.ensures.room

pub returns-in-Err-clause-room : goal.returns-in-Err-clause-room
returns-in-Err-clause-room c = no_room_needed _ c.args.range c.args.before _ c.in-Err.ensures.absent
