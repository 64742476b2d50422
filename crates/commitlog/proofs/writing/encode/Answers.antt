use Rattle.std.proofs.Common.{subst, sym, ap, ◌∙◌}
use Rattle.commitlog.specs.declared.log_record.LogRecord.{LogRecord}
use Rattle.commitlog.specs.Sizes.{HasRoom}
use Rattle.commitlog.proofs.Measures.{room_of}
use Rattle.commitlog.proofs.writing.encode.Goals as goal

pub text_of-requires-clause-room : goal.text_of-requires-clause-room
text_of-requires-clause-room c =
    subst HasRoom (sym (c.deref.ensures.value ∙ ap (λ (w : LogRecord). w.transactions) c.written.view_is)) (room_of c.args.written.now c.requires)
