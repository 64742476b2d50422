use Rattle.std.proofs.Common.{◌≡◌, drop}
use Rattle.model_partition.specs.Servers.{first_shown}
use Rattle.world_servers.specs.Seen.{first_at}
use Rattle.world_servers.proofs.place.first_shown.Given as goal

abbrev pub invariant-loop-at : goal.invariant-loop-at
invariant-loop-at l = first_shown l.fn.notes l.fn.place ≡ first_at l.fn.notes (drop l.at-index l.at-items) l.fn.place
