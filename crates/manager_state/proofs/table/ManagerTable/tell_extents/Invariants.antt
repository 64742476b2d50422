use Rattle.std.proofs.Common.{◌≡◌, ◌++◌, drop}
use Rattle.model_streams.specs.Maps.{entry_at}
use Rattle.model_streams.specs.Manager.{told_extents}
use Rattle.manager_state.proofs.table.ManagerTable.tell_extents.Given as goal

abbrev pub invariant-loop-extent : goal.invariant-loop-extent
invariant-loop-extent l = l.out.items ++ told_extents (entry_at l.self.extents) (drop l.extent-index l.extents) ≡ told_extents (entry_at l.self.extents) l.extents
