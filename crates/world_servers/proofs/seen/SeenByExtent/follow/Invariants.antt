use Rattle.std.proofs.Common.{take}
use Rattle.world_servers.specs.Seen.{IsIndex}
use Rattle.world_servers.proofs.seen.SeenByExtent.follow.Given as goal

abbrev pub invariant-loop-at : goal.invariant-loop-at
invariant-loop-at l = IsIndex (take l.at l.fn.notes) l.self
