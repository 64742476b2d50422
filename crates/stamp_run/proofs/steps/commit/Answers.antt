use Rattle.std.proofs.Common.{◌∙◌, refl, arith}
use Rattle.stamp_run.proofs.KeepLemmas.{pass_puts, step_keeps}
use Rattle.stamp_run.proofs.steps.commit.Goals as goal

pub invariant_of-trace-2 : goal.invariant_of-trace-2
invariant_of-trace-2 g c =
    let i = c.trace.inside in
    let t = c.trace.invariant.0 in
    let is = c.in-Ok.ensures.appended in
    let reply = c.reply_of-reply.ensures ∙ c.in-Ok.ensures.reply.1 in
    let event = c.announcement.view_is ∙ c.requires.logged in (
      step_keeps g.K.Identity.numbers i.journal c.commit.new.journal i.packets.items i.log.items i.answers t c.record.new.packets.items c.record.new.log.items _ c.commit.new.pass c.args.step
          c.in-Ok.ensures.event is (rw reply at c.record.ensures.packets) (rw reply at c.record.ensures.log) (rw (c.number-number.ensures, event) refl),
      rw is (omega (arith, c.in-Ok.ensures.booked, c.trace.invariant.1, c.requires.few.0, rw reply at c.record.ensures.len.0)),
      rw c.record.ensures.room.0 c.trace.invariant.2,
      rw is c.trace.invariant.3,
      rw is (omega (arith, c.in-Ok.ensures.booked, c.trace.invariant.4, c.record.ensures.len.1)),
      rw c.record.ensures.room.1 c.trace.invariant.5,
    )

pub invariant_of-pass-2 : goal.invariant_of-pass-2
invariant_of-pass-2 g c =
    pass_puts c.pass.inside.user c.pass.inside.pass c.commit.new.pass _ _ c.in-Ok.ensures.puts c.pass.invariant.0 c.pass.invariant.1

pub returns-clause-found : goal.returns-clause-found
returns-clause-found g c = rw (← c.trace.view_is) c.in-Ok.ensures.found
