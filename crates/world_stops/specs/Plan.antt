-- When an actor's disk stops.
use Rattle.std.specs.Prelude.{ℕ, Bool, ◌==◌, Option, Some, None, if◌then◌else◌}
use Rattle.model_streams.specs.StreamSystem.{ActorCell}

-- in which device call it is to stop, and whether what that writes is kept
abbrev pub plan_of : ActorCell → Option (ℕ × Bool)
plan_of c = if c.fuse == 0 then None else Some (c.fuse, c.keep)
