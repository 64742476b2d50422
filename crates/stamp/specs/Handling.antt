-- How events are put into the trace.
use Rattle.std.specs.Prelude.{◌≡◌, ◌-◌, ℕ, List, length, Option, Some, None}
use Rattle.model_streams.specs.declared.event.Event.{Event}
use Rattle.model_streams.specs.declared.event.Event.TheVariants as events
use Rattle.stamp_answers.specs.declared.ticket.Ticket.{Ticket}
use Rattle.stamp_answers.specs.declared.ticket.Ticket.TheVariants as tickets
use Rattle.stamp_traces.specs.declared.takers.Takers.{Takers}
use Rattle.world_actors.specs.declared.actor_input.ActorInput.{ActorInput}
use Rattle.world_actors.specs.Inputs.{nobody, one_at, takers_in}
use Rattle.stamp_run.specs.Passes.{PutsEvent, Sight}
use Rattle.stamp.specs.declared.handling.Handling.{Handling}
use Rattle.stamp.specs.declared.handling.Handling.TheVariants.{Moment, Nobody, One}

-- an event with no packet
abbrev pub told : Event → ActorInput
told event = record { event = event; packet = None }

-- what is asked is no delivery, and what is sent bears this user's name
abbrev pub IsRequestOf : ℕ → Event → Type 0
IsRequestOf user (events.Deliver number) = ⊥
IsRequestOf user (events.Submit sender to body) = sender ≡ user
IsRequestOf user event = Unit {0}

-- the moment that the clock shows by the event
abbrev pub moment_of : Event → Option ℕ
moment_of (events.Moment now) = Some now
moment_of event = None

-- nobody takes the event, or one actor does
abbrev pub IsTakenAs : Takers → Handling → Type 0
IsTakenAs t (Moment now) = ⊥
IsTakenAs t Nobody = t ≡ nobody
IsTakenAs t (One n) = t ≡ one_at (Some n)

-- by the numbers of a setup the event is a moment, or nobody takes it, or one actor does
abbrev pub IsHandledAs : List ℕ → Event → Handling → Type 0
IsHandledAs ns event (Moment now) = event ≡ events.Moment now
IsHandledAs ns event Nobody = takers_in ns (told event) ≡ nobody
IsHandledAs ns event (One n) = takers_in ns (told event) ≡ one_at (Some n)

-- the pass put the event there, after all that it had seen, at this place
pub record PutsAt (old : Sight) (event : Event) (new : Sight) (place : ℕ) : Type 0 where
  pub puts : PutsEvent old event new
  pub place_is : place ≡ length new.seen - 1

-- the ticket of an event that stands at this place
abbrev pub placed_at : ℕ → Ticket → Ticket
placed_at place (tickets.Event earlier) = tickets.Event place
placed_at place ticket = ticket
