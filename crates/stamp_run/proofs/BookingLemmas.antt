-- What is booked stays so, however many packets are sent.
use Rattle.std.proofs.Common.{◌≡◌, ℕ, List, ◌++◌, set, Option, Some, None, inl, inr, sym, subst}
use Rattle.std.proofs.lemmas.Option.{same_Some, none-some}
use Rattle.wire.specs.declared.packet.Packet.{Packet}
use Rattle.model_streams.specs.declared.event.Event.{Event}
use Rattle.model_streams.specs.declared.event.Event.TheVariants.{Deliver}
use Rattle.stamp_traces.specs.Shown.{BookingState}
use Rattle.world_actors.specs.Inputs.{packet_of}
use Rattle.world_actors.specs.declared.actor_input.ActorInput.{ActorInput}
use Rattle.laws_traces.specs.Traces.{HasPacket}
use Rattle.stamp_run.specs.Bookings.{AreBooked, IsBooked}
use Rattle.stamp_run.proofs.ListLemmas.{get_append, get_set}

-- a packet that was sent is the same one later
packet_stays : (post more : List Packet) (event : Event) (o : Option Packet) → o ≡ packet_of post event → HasPacket event o → o ≡ packet_of (post ++ more) event
packet_stays post more (Deliver number) None is sent = absurd sent
packet_stays post more (Deliver number) (Some p) is sent = sym (get_append post more number p (sym is))
packet_stays post more event o is sent = is

-- an input that is booked stays so
pub booked_after : (ns : List ℕ) (post more : List Packet) (n : ℕ) (d : ActorInput) → IsBooked ns post n d → IsBooked ns (post ++ more) n d
booked_after ns post more n d b = record {
  takers = b.takers;
  carries = packet_stays post more d.event d.packet b.carries b.sent;
  sent = b.sent;
}

module _ (ns : List ℕ) (post : List Packet) (bookings : List (Option (BookingState ActorInput))) (all : AreBooked ns post bookings) where
  -- more packets are sent
  pub all_booked_after : (more : List Packet) → AreBooked ns (post ++ more) bookings
  all_booked_after more = record { each = λ n b at. booked_after ns post more n b.event (all.each n b at) }

  -- one more is booked
  pub booked_too : (n : ℕ) (b : BookingState ActorInput) → IsBooked ns post n b.event → AreBooked ns post (set bookings n (Some b))
  booked_too n b booked = record {
    each = λ k c at.
        elim (get_set bookings n (Some b) k (Some c) at) as (λ _. IsBooked ns post k c.event) [
          | inl h ↦ subst (λ (i : ℕ). IsBooked ns post i c.event) (sym h.0) (subst (λ (x : BookingState ActorInput). IsBooked ns post n x.event) (sym (same_Some c b h.1)) booked)
          | inr h ↦ all.each k c h
        ];
  }

  -- a place is emptied
  pub booked_but : (n : ℕ) → AreBooked ns post (set bookings n None)
  booked_but n = record {
    each = λ k c at.
        elim (get_set bookings n None k (Some c) at) as (λ _. IsBooked ns post k c.event) [
          | inl h ↦ absurd (none-some c (sym h.1))
          | inr h ↦ all.each k c h
        ];
  }
