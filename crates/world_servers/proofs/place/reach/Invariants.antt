use Rattle.std.proofs.Common.{◌≡◌, drop, nat_le}
use Rattle.replica.specs.Groups.{text_length}
use Rattle.world_servers.proofs.place.reach.Given as goal

abbrev pub invariant-loop-group : goal.invariant-loop-group
invariant-loop-group l = nat_le l.fn.end (text_length l.fn.groups) ≡ nat_le l.left (text_length (drop l.group-index l.fn.groups))
