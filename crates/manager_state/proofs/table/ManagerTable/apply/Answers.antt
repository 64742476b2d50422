use Rattle.std.proofs.Common.{◌∙◌, ap, sym, subst}
use Rattle.model_streams.specs.declared.manager_record.ManagerRecord.{ManagerRecord}
use Rattle.model_streams.specs.Maps.{entry_at}
use Rattle.manager_state.specs.Table.{plain, table_after, HasRoomFor}
use Rattle.manager_state.proofs.Rooms.{closed_unasked}
use Rattle.manager_state.proofs.table.ManagerTable.apply.Goals as goal

pub returns-in-Seal : goal.returns-in-Seal
returns-in-Seal c =
    c.forget_asker.ensures
    ∙ closed_unasked (plain c.args.self.now) c.in-Seal.extent c.in-Seal.length (entry_at c.args.self.now.extents c.in-Seal.extent)
    (subst (λ (r : ManagerRecord). HasRoomFor c.args.self.now r) c.in-Seal.is c.requires)
    ∙ ap (table_after (plain c.args.self.now)) (sym c.in-Seal.is)
