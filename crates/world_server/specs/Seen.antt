-- What is seen of a server.
use Rattle.std.specs.Prelude.{ℕ, nat_lt, if◌then◌else◌}
use Rattle.model_partition.specs.Servers.{ServerCell, CellOutcome, first_server, told_moment}
use Rattle.world_steps.specs.ActorStep.{ActorStep}

-- its number, how many transactions a group of its log may hold, the last moment of the clock, how often it was started, and its
-- state while it runs
pub record ServerSeen : Type 0 where
  pub number : ℕ
  pub batch : ℕ
  pub moment : ℕ
  pub cell : ServerCell

-- a server that runs, at its first start
abbrev pub new_server : ℕ → ℕ → ServerSeen
new_server batch number = record { number = number; batch = batch; moment = 0; cell = first_server batch number }

-- the server after a step, and what it sends and shows
abbrev pub cell_outcome : ServerCell → ActorStep → CellOutcome
cell_outcome cell step = record { cell = cell; packets = step.packets; notes = step.tables }

-- the clock shows this; a moment that goes back changes nothing
abbrev pub moment_shown : ℕ → ServerSeen → ServerSeen
moment_shown now x = if nat_lt now x.moment then x else record x { moment = now; cell = told_moment now x.cell }
