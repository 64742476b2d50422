-- The steps of a script: what each does, sends and prints.
use Rattle.std.specs.Prelude.{◌≡◌, ◌⊎◌, Bool, ℕ, zero, suc, ◌-◌, ◌≤◌, List, [], ◌∷◌, ◌++◌, drop, length, map, take}
use Rattle.std.specs.List.{AllByRecursion}
use Rattle.wire.specs.declared.actor.ActorId.TheVariants.{Manager, Map, Server}
use Rattle.wire.specs.declared.packet.Packet.{Packet}
use Rattle.model_streams.specs.declared.event.Event.{Event}
use Rattle.model_streams.specs.declared.event.Event.TheVariants as events
use Rattle.model_partition.specs.Cluster.{first_cluster}
use Rattle.script_lines.specs.declared.line.Line.{Line}
use Rattle.script_lines.specs.declared.line.Line.TheVariants as lines
use Rattle.script_run.specs.Deliveries.{IsLowest, Passed}
use Rattle.script_run.specs.Playing.{Delivers, IsFresh, IsSettled, Plays, SessionState, most_deliveries}
use Rattle.script_run.specs.Script.{IsScript, Size}
use Rattle.world.specs.Cluster.{ClusterMirrors}
use Rattle.script_steps.specs.declared.act.Act.{Act}
use Rattle.script_steps.specs.declared.act.Act.TheVariants as acts
use Rattle.script_steps.specs.declared.step.Step.{Step}

-- ---- what a line does

abbrev pub act_of_event : Event → Act
act_of_event (events.Submit user to body) = acts.Submit user
act_of_event (events.Deliver number) = acts.Deliver number
act_of_event (events.Stop actor call keep) = acts.Stop actor
act_of_event (events.Restart actor) = acts.Restart actor
act_of_event (events.Decide extent) = acts.Order Manager
act_of_event (events.GiveUp server range pick) = acts.Order (Server server)
act_of_event (events.Assign range server until) = acts.Order Map
act_of_event (events.Renew range server until) = acts.Order Map
act_of_event (events.Moment now) = acts.Moment now
act_of_event (events.Checkpoint server range combine) = acts.Order (Server server)
act_of_event (events.Split server range key) = acts.Order (Server server)
act_of_event (events.Merge server left right) = acts.Order (Server server)

abbrev pub act_of : Line → Act
act_of (lines.Submit user request) = acts.Submit user
act_of (lines.Deliver number) = acts.Deliver number
act_of lines.DeliverLast = acts.Deliveries
act_of lines.Settle = acts.Deliveries
act_of (lines.Cut actor) = acts.Cut actor
act_of (lines.Heal actor) = acts.Heal actor
act_of (lines.Show node extent) = acts.Show node
act_of (lines.Happens event) = act_of_event event

-- ---- what is seen of a step

-- the place of its line, what it does, the packets that it sent and the number of the first, and the lines that are printed of it
pub record StepSeen : Type 0 where
  pub line : ℕ
  pub act : Act
  pub first : ℕ
  pub packets : List Packet
  pub printed : List ℕ

-- the script as far as it has run, and its steps
pub record StepsKept : Type 0 where
  pub session : SessionState
  pub steps : List Step

-- all packets that were sent, in order
abbrev pub post_of : SessionState → List Packet
post_of s = s.run.stream_layer.post

-- the packets from one number on, and before another
abbrev pub between : List Packet → ℕ → ℕ → List Packet
between post first end = take (end - first) (drop first post)

-- the packets of the step were sent by then
abbrev pub IsWithin : List Packet → Step → Type 0
IsWithin post step = (step.first ≤ step.end) × (step.end ≤ length post)

abbrev pub seen_of : List Packet → Step → StepSeen
seen_of post step = record { line = step.line; act = step.act; first = step.first; packets = between post step.first step.end; printed = step.printed.items }

-- the steps as they are seen among all packets that were sent
abbrev pub seen : StepsKept → List StepSeen
seen x = map (seen_of (post_of x.session)) x.steps

abbrev pub all_packets : List StepSeen → List Packet
all_packets [] = []
all_packets (step ∷ steps) = step.packets ++ all_packets steps

abbrev pub all_printed : List StepSeen → List ℕ
all_printed [] = []
all_printed (step ∷ steps) = step.printed ++ all_printed steps

-- ---- one step: it leads from s to t

-- it is of the line at this place and does this, and what it sent are the packets that came since s, numbered from there on
pub record IsStep (k : ℕ) (does : Act) (s : SessionState) (step : StepSeen) (t : SessionState) : Type 0 where
  pub line : step.line ≡ k
  pub act : step.act ≡ does
  pub first : step.first ≡ length (post_of s)
  pub sends : post_of t ≡ post_of s ++ step.packets

-- packet n is delivered
abbrev pub StepDelivers : ℕ → ℕ → SessionState → StepSeen → SessionState → Type 0
StepDelivers k n s step t = IsStep k (acts.Deliver n) s step t × Delivers s n step.printed t

-- a line that makes deliveries begins, and nothing is sent or printed yet
abbrev pub StepBegins : ℕ → SessionState → StepSeen → SessionState → Type 0
StepBegins k s step t = IsStep k acts.Deliveries s step t × (step.printed ≡ []) × (t ≡ s)

-- the lowest packet that a settle takes is delivered
pub record StepDeliversLowest (k : ℕ) (s : SessionState) (step : StepSeen) (t : SessionState) : Type 0 where
  pub number : ℕ
  pub noted : List Bool
  pub lowest : IsLowest s.cut (post_of s) s.noted number
  pub passed : Passed s.noted number noted
  pub delivers : StepDelivers k number (record s { noted = noted }) step t

-- and so again, so many times
abbrev pub StepsDeliverSome : ℕ → ℕ → SessionState → List StepSeen → SessionState → Type 0
StepsDeliverSome zero k s steps t = (steps ≡ []) × (t ≡ s)
StepsDeliverSome (suc count) k s steps t =
    (r : SessionState) × (before : List StepSeen) × (step : StepSeen) × StepsDeliverSome count k s before r × StepDeliversLowest k r step t × (steps ≡ before ++ step ∷ [])

-- until none is left, or until the most are delivered
pub record StepsSettle (k : ℕ) (s : SessionState) (steps : List StepSeen) (t : SessionState) : Type 0 where
  pub count : ℕ
  pub few : count ≤ most_deliveries
  pub last : SessionState
  pub deliver : StepsDeliverSome count k s steps last
  pub ends : ((count ≡ most_deliveries) × (t ≡ last)) ⊎ IsSettled last t

-- ---- the steps of a line: a settle and a delivery of the last packet begin with one of their own

abbrev pub IsSingle : Line → Type 0
IsSingle lines.Settle = ⊥
IsSingle lines.DeliverLast = ⊥
IsSingle line = Unit {0}

-- the line is one step
abbrev pub IsOne : ℕ → Line → SessionState → List StepSeen → SessionState → Type 0
IsOne k line s steps t = (step : StepSeen) × (steps ≡ step ∷ []) × IsStep k (act_of line) s step t × Plays s line step.printed t

-- a step, and then these
abbrev pub BeginsAnd : ℕ → SessionState → List StepSeen → (List StepSeen → Type 0) → Type 0
BeginsAnd k s steps AreMore = (step : StepSeen) × (more : List StepSeen) × (steps ≡ step ∷ more) × StepBegins k s step s × AreMore more

abbrev pub StepsOf : ℕ → Line → SessionState → List StepSeen → SessionState → Type 0
StepsOf k lines.Settle s steps t = BeginsAnd k s steps (λ more. StepsSettle k s more t)
StepsOf k lines.DeliverLast s steps t = BeginsAnd k s steps (λ more. (last : StepSeen) × (more ≡ last ∷ []) × StepDelivers k (length (post_of s) - 1) s last t)
StepsOf k line s steps t = IsOne k line s steps t

-- the steps of these lines, in order, where the first line is at this place of the script
abbrev pub StepsOfAll : ℕ → List Line → SessionState → List StepSeen → SessionState → Type 0
StepsOfAll k [] s steps t = (steps ≡ []) × (t ≡ s)
StepsOfAll k (line ∷ more) s steps t =
    (r : SessionState) × (first : List StepSeen) × (last : List StepSeen) × StepsOf k line s first r × StepsOfAll (suc k) more r last t × (steps ≡ first ++ last)

-- these are the steps of the script of this text, and so it has run
pub record Shows (text : List ℕ) (x : StepsKept) : Type 0 where
  pub size : Size
  pub plan : List Line
  pub is : IsScript text size plan
  pub first : SessionState
  pub fresh : IsFresh first
  pub mirrors : ClusterMirrors first.run (first_cluster size.nodes size.servers size.target size.batch)
  pub steps : StepsOfAll 0 plan first (seen x) x.session

-- ---- how steps are kept

-- some are added at the end
abbrev pub Grows : List Packet → List Packet → Type 0
Grows old new = (more : List Packet) × (new ≡ old ++ more)

-- from x to y steps are added at the end, and they are such
pub record Adds (x y : StepsKept) (Are : List StepSeen → Type 0) : Type 0 where
  pub more : List Step
  pub steps : y.steps ≡ x.steps ++ more
  pub within : AllByRecursion (IsWithin (post_of y.session)) more
  pub sent : Grows (post_of x.session) (post_of y.session)
  pub are : Are (map (seen_of (post_of y.session)) more)

-- one step is added
abbrev pub AddsOne : StepsKept → StepsKept → (StepSeen → Type 0) → Type 0
AddsOne x y Is = Adds x y (λ more. (step : StepSeen) × (more ≡ step ∷ []) × Is step)
