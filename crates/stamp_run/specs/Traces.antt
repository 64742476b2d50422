-- What is kept of the trace of a run.
use Rattle.std.specs.Prelude.{◌≡◌, ◌⊎◌, ◌≤◌, ◌<◌, ◌+◌, ◌*◌, ℕ, List, [], length}
use Rattle.wire.specs.declared.packet.Packet.{Packet}
use Rattle.model_streams.specs.declared.event.Event.{Event}
use Rattle.model_streams.specs.declared.event.Event.TheVariants.{Submit}
use Rattle.stamp_answers.specs.FirstAnswers.{Numbers, kept_at}
use Rattle.stamp_answers.specs.declared.key.AnswerKey.{AnswerKey}
use Rattle.stamp_traces.specs.Traces.{JournalState}
use Rattle.world_steps.specs.ActorStep.{ActorStep}
use Rattle.world_actors.specs.declared.actor_input.ActorInput.{ActorInput}
use Rattle.laws_traces.specs.Traces.{IsLegalFrom, sent_by}
use Rattle.stamp_run.specs.Answers.{first_number}
use Rattle.stamp_run.specs.Bookings.{AreBooked}
use Rattle.stamp_run.specs.Logs.{Logged, log_of}

-- the journal of a run
abbrev pub RunJournal : Type 0
RunJournal = JournalState ActorInput ActorStep

-- what a clause sees of a trace: the journal, the lowest number that no worker was given, and for how many packets there is room
pub record TraceState : Type 0 where
  pub journal : RunJournal
  pub next : ℕ
  pub room : ℕ

-- the packets, the log and the first answers are those of the entries, which are legal, as is all that is booked
pub record IsRunTrace (ns : List ℕ) (j : RunJournal) (packets : List Packet) (lines : List Logged) (numbers : Numbers) : Type 0 where
  pub legal : IsLegalFrom ns [] j.entries
  pub post : packets ≡ sent_by j.entries
  pub log : lines ≡ log_of j.entries
  pub answers : (k : AnswerKey) → kept_at numbers k ≡ first_number k j.entries
  pub bookings : AreBooked ns packets j.bookings

-- how many packets there is to be room for before an event that is no delivery comes: 1 of a user's request, and else 2,048
abbrev pub packets_for : Event → ℕ
packets_for (Submit user to body) = 1
packets_for event = 2048

-- there is room for one more entry, and for so many more packets, beside those that are booked
abbrev pub HasRoomFor : ℕ → TraceState → Type 0
HasRoomFor more t =
    (length t.journal.entries + t.journal.booked < t.journal.room) × (length (sent_by t.journal.entries) + 2048 * t.journal.booked + more ≤ t.room)

-- there is no room for one more entry, or for so many more packets
abbrev pub IsFullFor : ℕ → TraceState → Type 0
IsFullFor more t =
    (t.journal.room ≤ length t.journal.entries + t.journal.booked) ⊎ (t.room < length (sent_by t.journal.entries) + 2048 * t.journal.booked + more)
