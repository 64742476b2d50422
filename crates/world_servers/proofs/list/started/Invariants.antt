use Rattle.std.proofs.Common.{◌≡◌, ◌++◌, ◌-◌, suc}
use Rattle.world_servers.specs.Servers.{new_servers}
use Rattle.world_servers.proofs.list.started.Given as goal

abbrev pub invariant-loop-before : goal.invariant-loop-before
invariant-loop-before l = l.actors.items ++ new_servers l.fn.batch (suc l.before) (l.fn.count - l.before) ≡ new_servers l.fn.batch 1 l.fn.count
