-- Events as actors take them.
use Rattle.std.specs.Prelude.{◌≡◌, ℕ, ◌+◌, Bool, true, false, List, slice_get, Option, Some, None, if◌then◌else◌}
use Rattle.wire.specs.declared.actor.ActorId.{ActorId}
use Rattle.wire.specs.declared.actor.ActorId.TheVariants.{Manager, Map, Server}
use Rattle.wire.specs.declared.packet.Packet.{Packet}
use Rattle.model_streams.specs.declared.event.Event.{Event}
use Rattle.model_streams.specs.declared.event.Event.TheVariants as events
use Rattle.stamp_traces.specs.declared.takers.Takers.{Takers}
use Rattle.world_actors.specs.declared.actor_input.ActorInput.{ActorInput}
use Rattle.world_actors.specs.Numbers.{nodes_in, count_of, place_in}

-- the packet that the event delivers
abbrev pub packet_of : List Packet → Event → Option Packet
packet_of post (events.Deliver number) = slice_get post number
packet_of post event = None

-- it carries the packet that its event delivers
abbrev pub Carries : List Packet → ActorInput → Type 0
Carries post d = d.packet ≡ packet_of post d.event

abbrev pub receiver_of : Option Packet → Option ActorId
receiver_of None = None
receiver_of (Some p) = Some p.to

-- who alone takes the event, with the packet that it delivers
abbrev pub taker_of : Event → Option Packet → Option ActorId
taker_of (events.Submit user to body) o = None
taker_of (events.Deliver number) o = receiver_of o
taker_of (events.Stop actor call keep) o = Some actor
taker_of (events.Restart actor) o = Some actor
taker_of (events.Decide e) o = Some Manager
taker_of (events.GiveUp server range pick) o = Some (Server server)
taker_of (events.Assign range server until) o = Some Map
taker_of (events.Renew range server until) o = Some Map
taker_of (events.Moment now) o = None
taker_of (events.Checkpoint server range combine) o = Some (Server server)
taker_of (events.Split server range key) o = Some (Server server)
taker_of (events.Merge server left right) o = Some (Server server)

-- the input is for this actor alone
abbrev pub IsFor : ActorInput → ActorId → Type 0
IsFor d a = taker_of d.event d.packet ≡ Some a

abbrev pub is_moment : Event → Bool
is_moment (events.Moment now) = true
is_moment event = false

abbrev pub nobody : Takers
nobody = record { first = 0; end = 0 }

-- the actor of a number alone
abbrev pub one_at : Option ℕ → Takers
one_at None = nobody
one_at (Some n) = record { first = n; end = n + 1 }

abbrev pub place_if : List ℕ → Option ActorId → Option ℕ
place_if ns None = None
place_if ns (Some a) = place_in ns a

-- the map and the servers
abbrev pub clock_readers : List ℕ → Takers
clock_readers ns = record { first = nodes_in ns + 1; end = count_of ns }

-- who takes the input: of a moment, the map and the servers; else the one that it is for, where there is one
abbrev pub takers_in : List ℕ → ActorInput → Takers
takers_in ns d = if is_moment d.event then clock_readers ns else one_at (place_if ns (taker_of d.event d.packet))
