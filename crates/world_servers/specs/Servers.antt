-- The servers of a run, and what their calls leave.
use Rattle.std.specs.Prelude.{◌≡◌, ℕ, zero, suc, nat_lt, List, [], ◌∷◌, map, if◌then◌else◌}
use Rattle.model_partition.specs.Servers.{ServerCell, ServersOutcome, told_moment}
use Rattle.world_server.specs.Seen.{ServerSeen, new_server}
use Rattle.world_steps.specs.ActorStep.{ActorStep}

-- how often each was started, and its state while it runs
abbrev pub cells_of : List ServerSeen → List ServerCell
cells_of xs = map (λ x. x.cell) xs

-- the servers, numbered from 1; the last moment of the clock; and how many transactions a group of their logs may hold
pub record ServersSeen : Type 0 where
  pub cells : List ServerCell
  pub moment : ℕ
  pub batch : ℕ

-- they are numbered from here on, and have seen this moment
abbrev pub AreServers : ℕ → ℕ → ℕ → List ServerSeen → Type 0
AreServers moment batch n [] = Unit {0}
AreServers moment batch n (x ∷ xs) = (x.number ≡ n) × (x.moment ≡ moment) × (x.batch ≡ batch) × AreServers moment batch (suc n) xs

-- after a step of one they are what they were
abbrev pub StayServers : List ServerSeen → List ServerSeen → Type 0
StayServers xs ys = (moment batch n : ℕ) → AreServers moment batch n xs → AreServers moment batch n ys

-- so many, which run, numbered from here on
abbrev pub new_servers : ℕ → ℕ → ℕ → List ServerSeen
new_servers batch n zero = []
new_servers batch n (suc more) = new_server batch n ∷ new_servers batch (suc n) more

-- what a call of one leaves of them, and what it sends and shows
abbrev pub outcome : List ServerCell → ActorStep → ServersOutcome
outcome servers step = record { servers = servers; packets = step.packets; notes = step.tables }

-- the clock shows this to all; a moment that goes back changes nothing
abbrev pub all_shown : ℕ → ServersSeen → ServersSeen
all_shown now s = if nat_lt now s.moment then s else record s { cells = map (told_moment now) s.cells; moment = now }
