-- What the lines of a script do, and what each prints.
use Rattle.std.specs.Prelude.{◌≡◌, ◌⊎◌, ℕ, zero, suc, ◌-◌, ◌≤◌, Bool, not, List, [], ◌∷◌, ◌++◌, length, filter, Option, Some, None}
use Rattle.std.specs.List.{slice_get}
use Rattle.wire.specs.declared.actor.ActorId.{ActorId}
use Rattle.wire.specs.declared.actor.ReqNo.TheVariants as numbers
use Rattle.wire.specs.declared.packet.Packet.{Packet}
use Rattle.model_streams.specs.declared.event.Event.{Event}
use Rattle.model_streams.specs.declared.event.Event.TheVariants as events
use Rattle.world_streams.specs.Nodes.{running_at}
use Rattle.script_reports.specs.declared.report.Report.{Report}
use Rattle.script_reports.specs.Telling.{told_to}
use Rattle.script_lines.specs.declared.line.Line.{Line}
use Rattle.script_lines.specs.declared.line.Line.TheVariants as lines
use Rattle.script_lines.specs.declared.line.Request.{Request}
use Rattle.script_lines.specs.Asking.{asked}
use Rattle.world.specs.Cluster.{ClusterState}
use Rattle.script_run.specs.Deliveries.{Delivered, IsLowest, NoneLeft, Passed, is_same}
use Rattle.script_run.specs.Output.{PrintsEvent, line, node_report}
use Rattle.script_run.specs.Tickets.{Takes}

-- the run, the packets that no settle takes any more, how many tickets each user took, and who is cut off
pub record SessionState : Type 0 where
  pub run : ClusterState
  pub noted : List Bool
  pub tickets : List (ℕ × ℕ)
  pub cut : List ActorId

-- nothing was delivered or asked, and nobody is cut off
pub record IsFresh (s : SessionState) : Type 0 where
  pub noted : s.noted ≡ []
  pub tickets : s.tickets ≡ []
  pub cut : s.cut ≡ []

-- the most packets that a settle delivers
abbrev pub most_deliveries : ℕ
most_deliveries = 100000

-- ---- one line: it leads from s to t, and prints the text

-- an event happens
pub record Happens (s : SessionState) (event : Event) (text : List ℕ) (t : SessionState) : Type 0 where
  pub tells : PrintsEvent s.run event text t.run
  pub is : t ≡ record s { run = t.run }

-- a user sends a request under its next ticket
pub record Submits (s : SessionState) (user : ℕ) (request : Request) (text : List ℕ) (t : SessionState) : Type 0 where
  pub ticket : ℕ
  pub takes : Takes s.tickets user ticket t.tickets
  pub tells : PrintsEvent s.run (asked user (numbers.User user ticket) request) text t.run
  pub is : t ≡ record s { run = t.run; tickets = t.tickets }

-- packet n is delivered: what is observed is printed, and then the answer that the packet brings
pub record DeliversPacket (s : SessionState) (n : ℕ) (answer : Option Report) (text : List ℕ) (t : SessionState) : Type 0 where
  pub noted : Delivered s.noted n t.noted
  pub shown : List ℕ
  pub tells : PrintsEvent s.run (events.Deliver n) shown t.run
  pub prints : text ≡ shown ++ line answer
  pub is : t ≡ record s { run = t.run; noted = t.noted }

-- a number that was never sent delivers nothing
abbrev pub DeliversIf : SessionState → ℕ → Option Packet → List ℕ → SessionState → Type 0
DeliversIf s n None text t = (text ≡ []) × (t ≡ s)
DeliversIf s n (Some p) text t = DeliversPacket s n (told_to p.to p.body) text t

abbrev pub Delivers : SessionState → ℕ → List ℕ → SessionState → Type 0
Delivers s n text t = DeliversIf s n (slice_get s.run.stream_layer.post n) text t

-- the lowest packet that a settle takes is delivered
pub record DeliversLowest (s : SessionState) (text : List ℕ) (t : SessionState) : Type 0 where
  pub number : ℕ
  pub noted : List Bool
  pub lowest : IsLowest s.cut s.run.stream_layer.post s.noted number
  pub passed : Passed s.noted number noted
  pub delivers : Delivers (record s { noted = noted }) number text t

-- and so again, so many times
abbrev pub DeliversSome : ℕ → SessionState → List ℕ → SessionState → Type 0
DeliversSome zero s text t = (text ≡ []) × (t ≡ s)
DeliversSome (suc count) s text t =
    (r : SessionState) × (first : List ℕ) × (last : List ℕ) × DeliversSome count s first r × DeliversLowest r last t × (text ≡ first ++ last)

-- none was left then
pub record IsSettled (s t : SessionState) : Type 0 where
  pub none : NoneLeft s.cut s.run.stream_layer.post s.noted
  pub passed : Passed s.noted (length s.run.stream_layer.post) t.noted
  pub is : t ≡ record s { noted = t.noted }

-- a settle delivers until none is left, or until it has delivered the most
pub record Settles (s : SessionState) (text : List ℕ) (t : SessionState) : Type 0 where
  pub count : ℕ
  pub few : count ≤ most_deliveries
  pub last : SessionState
  pub delivers : DeliversSome count s text last
  pub ends : ((count ≡ most_deliveries) × (t ≡ last)) ⊎ IsSettled last t

abbrev pub Plays : SessionState → Line → List ℕ → SessionState → Type 0
Plays s (lines.Submit user request) text t = Submits s user request text t
Plays s (lines.Deliver n) text t = Delivers s n text t
Plays s lines.DeliverLast text t = Delivers s (length s.run.stream_layer.post - 1) text t
Plays s lines.Settle text t = Settles s text t
Plays s (lines.Cut actor) text t = (text ≡ []) × (t ≡ record s { cut = s.cut ++ actor ∷ [] })
Plays s (lines.Heal actor) text t = (text ≡ []) × (t ≡ record s { cut = filter (λ other. not (is_same other actor)) s.cut })
Plays s (lines.Show node extent) text t = (text ≡ line (Some (node_report node extent (running_at s.run.stream_layer.nodes node)))) × (t ≡ s)
Plays s (lines.Happens event) text t = Happens s event text t

-- ---- all lines, in order

abbrev pub PlaysAll : SessionState → List Line → List ℕ → SessionState → Type 0
PlaysAll s [] text t = (text ≡ []) × (t ≡ s)
PlaysAll s (line ∷ more) text t = (r : SessionState) × (first : List ℕ) × (last : List ℕ) × Plays s line first r × PlaysAll r more last t × (text ≡ first ++ last)
