use Rattle.std.proofs.Common.{ap, ◌∙◌}
use Rattle.manager_state.specs.Table.{ManagerTableState, plain, table_after, without_room}
use Rattle.manager_state.proofs.Rooms.{after_room, room_again}
use Rattle.manager.proofs.performing.write_and_apply.Goals as goal

pub returns-in-Ok-clause-ok : goal.returns-in-Ok-clause-ok
returns-in-Ok-clause-ok g c =
    c.apply.ensures
    ∙ ap (λ (t : ManagerTableState). table_after t c.args.new_record.now) c.in_ok-reserve.ensures.ok
    ∙ after_room (plain c.args.table.now) c.args.new_record.now

pub returns-in-Err-clause-err : goal.returns-in-Err-clause-err
returns-in-Err-clause-err g c =
    c.release.ensures
    ∙ ap (λ (t : ManagerTableState). without_room t c.args.new_record.now) c.in_ok-reserve.ensures.ok
    ∙ room_again (plain c.args.table.now) c.args.new_record.now c.requires.fits
