use Rattle.std.proofs.Common.{◌≡◌, length}
use Rattle.world_servers.proofs.ServerList.{first_shown}
use Rattle.world_servers.proofs.list.show_all.Given as goal

abbrev pub invariant-loop-at : goal.invariant-loop-at
invariant-loop-at l = (l.actors.items ≡ first_shown l.fn.now l.at l.fn.actors.items) × (l.at-end ≡ length l.fn.actors.items)
