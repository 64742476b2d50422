use Rattle.std.proofs.Common.{ap, arith, length}
use Rattle.stamp_traces.specs.Shown.{booked_by}
use Rattle.stamp_run.proofs.KeepLemmas.{book_keeps}
use Rattle.stamp_run.proofs.LogLemmas.{log_length}
use Rattle.stamp_run.proofs.trace.TraceOf.book.Goals as goal

pub invariant_of-self-2 : goal.invariant_of-self-2
invariant_of-self-2 g c =
    let i = c.self.inside in
    let t = c.self.invariant.0 in
    let is = c.in_ok-mark.ensures.ok in
    let room = rw (← c.self.view_is) at c.if-not-has_room.ensures in
    let sent = ap length t.post in
    let told = ap length t.log in (
      book_keeps g.K.Identity.numbers i.journal c.book.new.self i.packets.items i.log.items i.answers t c.args.actor (booked_by c.in_ok-mark.field-0.event)
          (rw c.in_ok-mark.ensures.event.1 (rw (← c.self.view_is) at c.requires.booked)) is,
      rw is (omega (arith, room.1, sent, i.packets.ok.0)),
      c.self.invariant.2,
      rw is c.self.invariant.3,
      rw is (omega (arith, room.0, told, i.log.ok.0, log_length i.journal.entries, c.self.invariant.3)),
      c.self.invariant.5,
    )
