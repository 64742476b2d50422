use Rattle.std.proofs.Common.{◌≡◌, ◌-◌, drop}
use Rattle.checkpoint_format.specs.Page.{is_ascending}
use Rattle.world_servers.proofs.ascending_run.is_ascending.Given as goal

abbrev pub invariant-loop-at : goal.invariant-loop-at
invariant-loop-at l = is_ascending l.entries ≡ is_ascending (drop (l.at - 1) l.entries)
