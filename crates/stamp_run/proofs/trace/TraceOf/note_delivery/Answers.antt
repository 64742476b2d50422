use Rattle.std.proofs.Common.{◌∙◌, ap, Some, Option}
use Rattle.std.specs.Option.{option_or}
use Rattle.model_streams.specs.declared.event.Event.TheVariants.{Deliver}
use Rattle.stamp_answers.specs.Answers.{answer_key}
use Rattle.stamp_answers.specs.declared.key.AnswerKey.{AnswerKey}
use Rattle.stamp_traces.specs.Traces.{note_by}
use Rattle.world_steps.specs.ActorStep.{nothing}
use Rattle.world_actors.specs.declared.actor_input.ActorInput.{ActorInput}
use Rattle.stamp_run.specs.Answers.{first_number, number_if}
use Rattle.stamp_run.proofs.AnswerLemmas.{first_number_after}
use Rattle.stamp_run.proofs.KeyLemmas.{answered_before}
use Rattle.stamp_run.proofs.trace.TraceOf.note_delivery.Goals as goal

pub note-requires-clause-answers : goal.note-requires-clause-answers
note-requires-clause-answers g c =
    let d : ActorInput = record { event = Deliver c.args.number; packet = Some c.args.packet } in
    let xs = c.args.self.now.journal.entries in
    rw c.delivery.ensures
    (λ k. first_number_after k xs (note_by c.args.pass.now.sight.number d c.silent-quiet.result)
    ∙ answered_before k (answer_key c.args.packet) c.args.number (first_number k xs) (c.in-None.ensures.none k))

pub note_answer-requires-clause-brought : goal.note_answer-requires-clause-brought
note_answer-requires-clause-brought g c =
    let d : ActorInput = record { event = Deliver c.args.number; packet = Some c.args.packet } in
    let xs = c.args.self.now.journal.entries in
    rw c.delivery-in-Some.ensures
    (λ k. first_number_after k xs (note_by c.args.pass.now.sight.number d nothing)
    ∙ ap (λ (o : Option AnswerKey). option_or (first_number k xs) (number_if k o c.args.number)) c.in-Some.ensures.some.0)
