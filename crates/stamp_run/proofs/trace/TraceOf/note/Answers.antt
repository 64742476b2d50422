use Rattle.std.proofs.Common.{◌∙◌, ap, sym, refl, arith, length}
use Rattle.stamp_traces.specs.Traces.{note_by}
use Rattle.stamp_run.proofs.KeepLemmas.{note_keeps, pass_puts}
use Rattle.stamp_run.proofs.LogLemmas.{log_length}
use Rattle.stamp_run.proofs.trace.TraceOf.note.Goals as goal

pub invariant_of-self-2 : goal.invariant_of-self-2
invariant_of-self-2 g c =
    let i = c.self.inside in
    let t = c.self.invariant.0 in
    let p = c.pass.inside.pass in
    let x = note_by p.number c.args.planned.input c.args.reply in
    let is = c.in_ok-note.ensures.appended in
    let room = rw (← c.self.view_is) at c.requires.room in
    let sent = ap length t.post in
    let told = ap length t.log in (
      note_keeps g.K.Identity.numbers i.journal c.note.new.self i.packets.items i.log.items i.answers t c.record.new.packets.items c.record.new.log.items _ c.note.new.pass x i.answers
          (rw (← c.self.view_is, ← c.pass.view_is) at c.requires.legal) is c.record.ensures.packets c.record.ensures.log
          (rw (c.number-number.ensures, c.in_ok-note.ensures.puts.number, c.into_logged-logged.ensures, c.requires.logged) refl)
          (λ k. t.answers k ∙ sym (rw (← c.self.view_is, ← c.pass.view_is) at (c.requires.answers k))),
      rw is (omega (arith, room.1, sent, i.packets.ok.0, c.record.ensures.len.0)),
      rw c.record.ensures.room.0 c.self.invariant.2,
      rw is c.self.invariant.3,
      rw is (omega (arith, room.0, told, i.log.ok.0, log_length i.journal.entries, c.self.invariant.3, c.record.ensures.len.1)),
      rw c.record.ensures.room.1 c.self.invariant.5,
    )

pub invariant_of-pass-2 : goal.invariant_of-pass-2
invariant_of-pass-2 g c =
    pass_puts c.pass.inside.user c.pass.inside.pass c.note.new.pass _ _ c.in_ok-note.ensures.puts c.pass.invariant.0 c.pass.invariant.1
