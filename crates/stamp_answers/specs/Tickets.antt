-- With what an answer to an event is asked for.
use Rattle.std.specs.Prelude.{ℕ, Option, Some, None}
use Rattle.model_streams.specs.declared.event.Event.{Event}
use Rattle.model_streams.specs.declared.event.Event.TheVariants.{Submit}
use Rattle.stamp_answers.specs.declared.key.AnswerKey.{AnswerKey}
use Rattle.stamp_answers.specs.declared.ticket.Ticket.{Ticket}
use Rattle.stamp_answers.specs.declared.ticket.Ticket.TheVariants as tickets
use Rattle.stamp_answers.specs.Requests.{request_key}

-- of a body that was sent, where it is a request of this key, or none that is answered
abbrev pub ticket_for : Option AnswerKey → Ticket
ticket_for None = tickets.Unanswered
ticket_for (Some key) = tickets.Request key

-- of an event whose entry stands at this place of the trace: of a request by its key, of any other event by the place
abbrev pub ticket_of : ℕ → Event → ℕ → Ticket
ticket_of user (Submit sender to body) place = ticket_for (request_key user body)
ticket_of user _ place = tickets.Event place
