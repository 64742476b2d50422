-- What may be booked for an actor.
use Rattle.std.specs.Prelude.{◌≡◌, ℕ, List, slice_get, Option, Some}
use Rattle.wire.specs.declared.packet.Packet.{Packet}
use Rattle.stamp_traces.specs.Shown.{BookingState}
use Rattle.world_actors.specs.declared.actor_input.ActorInput.{ActorInput}
use Rattle.world_actors.specs.Inputs.{Carries, one_at, takers_in}
use Rattle.laws_traces.specs.Traces.{HasPacket}

-- after these packets the input is for the actor of this number, and for no other, and has the packet that it delivers
pub record IsBooked (ns : List ℕ) (post : List Packet) (n : ℕ) (d : ActorInput) : Type 0 where
  pub takers : takers_in ns d ≡ one_at (Some n)
  pub carries : Carries post d
  pub sent : HasPacket d.event d.packet

-- all that is booked is so
pub record AreBooked (ns : List ℕ) (post : List Packet) (bookings : List (Option (BookingState ActorInput))) : Type 0 where
  pub each : (n : ℕ) (b : BookingState ActorInput) → slice_get bookings n ≡ Some (Some b) → IsBooked ns post n b.event
