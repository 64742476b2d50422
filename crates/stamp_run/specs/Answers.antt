-- What a trace answers.
use Rattle.std.specs.Prelude.{◌==◌, ◌&&◌, ℕ, List, [], ◌∷◌, slice_get, Option, Some, None, option_map, if◌then◌else◌}
use Rattle.std.specs.Option.{option_or}
use Rattle.wire.specs.declared.packet.Packet.{Packet}
use Rattle.model_streams.specs.declared.event.Event.{Event}
use Rattle.model_streams.specs.declared.event.Event.TheVariants.{Deliver}
use Rattle.stamp_answers.specs.declared.key.AnswerKey.{AnswerKey}
use Rattle.stamp_answers.specs.declared.answer.Answer.{Answer}
use Rattle.stamp_answers.specs.declared.answer.Answer.TheVariants as outcomes
use Rattle.stamp_answers.specs.declared.ticket.Ticket.{Ticket}
use Rattle.stamp_answers.specs.declared.ticket.Ticket.TheVariants as tickets
use Rattle.stamp_answers.specs.Answers.{answer_key, outcome_of}
use Rattle.laws_traces.specs.Traces.{RunEntry, sent_by}

-- the number, if there is a key and it is this one
abbrev pub number_if : AnswerKey → Option AnswerKey → ℕ → Option ℕ
number_if key None number = None
number_if key (Some k) number = if (k.user == key.user) && (k.ticket == key.ticket) then Some number else None

-- the number of a packet, if it answers the request of this key
abbrev pub number_for : AnswerKey → Option Packet → ℕ → Option ℕ
number_for key None number = None
number_for key (Some p) number = number_if key (answer_key p) number

-- the number of the packet that the event delivers, if it answers the request of this key
abbrev pub brought_by : AnswerKey → Event → Option Packet → Option ℕ
brought_by key (Deliver number) packet = number_for key packet number
brought_by key event packet = None

-- the number of the first packet that was delivered as the answer to the request of this key
abbrev pub first_number : AnswerKey → List RunEntry → Option ℕ
first_number key [] = None
first_number key (x ∷ xs) = option_or (brought_by key x.event.event x.event.packet) (first_number key xs)

-- the answer that a packet is
abbrev pub answer_of : Option Packet → Option Answer
answer_of None = None
answer_of (Some p) = Some (outcomes.Body p.body)

-- the answer that the packet of a number is
abbrev pub answer_at : List Packet → Option ℕ → Option Answer
answer_at post None = None
answer_at post (Some number) = answer_of (slice_get post number)

-- the answer to an event
abbrev pub outcome_at : Option RunEntry → Option Answer
outcome_at o = option_map (λ (x : RunEntry). outcome_of x.reply.refusal) o

-- the answer that the entries have for a ticket: of a request the first packet that was delivered as its answer, and of any other
-- event whether it was taken
abbrev pub answer_in : Ticket → List RunEntry → Option Answer
answer_in (tickets.Event place) xs = outcome_at (slice_get xs place)
answer_in (tickets.Request key) xs = answer_at (sent_by xs) (first_number key xs)
answer_in tickets.Unanswered xs = None
