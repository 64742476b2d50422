use Rattle.std.proofs.Common.{◌∙◌, ap, sym, refl, arith, length}
use Rattle.stamp_traces.specs.Traces.{note_by}
use Rattle.world_steps.specs.ActorStep.{nothing}
use Rattle.stamp_run.specs.Answers.{first_number}
use Rattle.stamp_run.proofs.KeepLemmas.{note_keeps, pass_puts}
use Rattle.stamp_run.proofs.KeyLemmas.{kept_first}
use Rattle.stamp_run.proofs.LogLemmas.{log_length}
use Rattle.stamp_run.proofs.trace.TraceOf.note_answer.Goals as goal

pub invariant_of-self-2 : goal.invariant_of-self-2
invariant_of-self-2 g c =
    let i = c.self.inside in
    let t = c.self.invariant.0 in
    let p = c.pass.inside.pass in
    let xs = i.journal.entries in
    let key = c.args.first.key in
    let x = note_by p.number c.args.planned.input nothing in
    let is = rw c.silent-quiet.ensures at c.in_default-noted.ensures.appended in
    let room = rw (← c.self.view_is) at c.requires.room in
    let sent = ap length t.post in
    let told = ap length t.log in
    let kept = kept_first (λ k. first_number k xs) key (rw (← c.self.view_is) at c.requires.none) i.answers c.keep.new.self t.answers c.in-Ok.ensures.elsewhere c.args.first.number c.in-Ok.ensures.here in
    let brought = rw (← c.self.view_is, ← c.pass.view_is) at c.requires.brought in (
      note_keeps g.K.Identity.numbers i.journal c.note-noted.new.self i.packets.items i.log.items i.answers t c.record.new.packets.items c.record.new.log.items _ c.note-noted.new.pass x c.keep.new.self
          (rw (← c.self.view_is, ← c.pass.view_is) at c.requires.legal) is (rw c.silent-quiet.ensures at c.record.ensures.packets) (rw c.silent-quiet.ensures at c.record.ensures.log)
          (rw (c.number-number.ensures, c.in_default-noted.ensures.puts.number, c.into_logged-logged.ensures, c.requires.logged) refl)
          (λ k. kept k ∙ sym (brought k)),
      rw is (omega (arith, room.1, sent, i.packets.ok.0, rw c.silent-quiet.ensures at c.record.ensures.len.0)),
      rw c.record.ensures.room.0 c.self.invariant.2,
      rw is c.self.invariant.3,
      rw is (omega (arith, room.0, told, i.log.ok.0, log_length xs, c.self.invariant.3, c.record.ensures.len.1)),
      rw c.record.ensures.room.1 c.self.invariant.5,
    )

pub invariant_of-pass-2 : goal.invariant_of-pass-2
invariant_of-pass-2 g c =
    pass_puts c.pass.inside.user c.pass.inside.pass c.note-noted.new.pass _ _ c.in_default-noted.ensures.puts c.pass.invariant.0 c.pass.invariant.1
