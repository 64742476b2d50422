-- What a pass has seen, put there and been answered.
use Rattle.std.specs.Prelude.{◌≡◌, ◌⊎◌, ℕ, List, [], slice_get, Option, Some, None}
use Rattle.std.specs.declared.snapshot.Snapshot.{Snapshot}
use Rattle.model_streams.specs.declared.event.Event.{Event}
use Rattle.model_streams.specs.declared.event.Event.TheVariants.{Deliver}
use Rattle.stamp_answers.specs.declared.answer.Answer.{Answer}
use Rattle.stamp_answers.specs.declared.ticket.Ticket.{Ticket}
use Rattle.stamp_traces.specs.Passes.{PassLooks, PassPuts, PassState}
use Rattle.world_steps.specs.ActorStep.{ActorStep}
use Rattle.world_actors.specs.declared.actor_input.ActorInput.{ActorInput}
use Rattle.laws_traces.specs.Traces.{RunEntry, sent_by}
use Rattle.stamp_run.specs.Answers.{answer_in}

-- what a pass has seen of a run
abbrev pub Sight : Type 0
Sight = PassState ActorInput ActorStep

-- what a clause sees of a pass: what it has seen, and what it was answered under which tickets, in order
pub record RunPass : Type 0 where
  pub sight : Sight
  pub answered : List (Ticket × Answer)

-- the answers that are kept, none where nothing is
abbrev pub answers_kept : Option (Snapshot (List (Ticket × Answer))) → List (Ticket × Answer)
answers_kept None = []
answers_kept (Some s) = s.value

-- each is what the entries answer
pub record AreAnswers (xs : List RunEntry) (answered : List (Ticket × Answer)) : Type 0 where
  pub each : (k : ℕ) (t : Ticket) (a : Answer) → slice_get answered k ≡ Some (t, a) → answer_in t xs ≡ Some a

-- the pass put this event there, after all that it had seen, and nothing else
pub record PutsEvent (old : Sight) (event : Event) (new : Sight) : Type 0 where
  pub entry : RunEntry
  pub is : entry.event.event ≡ event
  pub of : entry.pass ≡ old.number
  pub puts : PassPuts old entry new

-- the pass put the delivery of the packet of this number there, or has seen that no such packet was sent
abbrev pub Delivers : ℕ → Sight → Sight → Type 0
Delivers k old new = PutsEvent old (Deliver k) new ⊎ (PassLooks old new × (slice_get (sent_by new.seen) k ≡ None))
