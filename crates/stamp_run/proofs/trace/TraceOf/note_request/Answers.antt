use Rattle.std.proofs.Common.{None}
use Rattle.stamp_traces.specs.Traces.{note_by}
use Rattle.stamp_run.proofs.AnswerLemmas.{first_number_same, told_brings_none}
use Rattle.stamp_run.proofs.trace.TraceOf.note_request.Goals as goal

pub note-requires-clause-answers : goal.note-requires-clause-answers
note-requires-clause-answers g c = λ k.
    first_number_same k c.args.self.now.journal.entries (note_by c.args.pass.now.sight.number (record { event = c.args.request; packet = None }) c.in-Ok-unheard.reply)
    (told_brings_none k c.args.request None c.requires.asks)
