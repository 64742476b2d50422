use Rattle.std.proofs.Common.{refl, arith}
use Rattle.stamp_run.proofs.KeepLemmas.{moment_keeps, pass_puts}
use Rattle.stamp_run.proofs.trace.TraceOf.append_moment.Goals as goal

pub returns-in-Err-clause-differ : goal.returns-in-Err-clause-differ
returns-in-Err-clause-differ g c = λ stopped. rw (← c.self.view_is, ← c.pass.view_is) (c.in-Err.ensures.differ stopped)

pub invariant_of-self-2 : goal.invariant_of-self-2
invariant_of-self-2 g c =
    let i = c.self.inside in
    let quiet = c.silent-quiet.ensures in
    let is = rw quiet at c.in_default.ensures.appended in (
      moment_keeps g.K.Identity.numbers i.journal c.append_moment-appended.new.self i.packets.items i.log.items i.answers c.self.invariant.0 c.record.new.packets.items c.record.new.log.items _
          c.append_moment-appended.new.pass c.args.moment c.requires.takers c.requires.moment c.requires.bare is (rw quiet at c.record.ensures.packets) (rw quiet at c.record.ensures.log)
          (rw (c.number-number.ensures, c.requires.logged) refl),
      rw is (omega (arith, c.in_default.ensures.booked, c.self.invariant.1, rw quiet at c.record.ensures.len.0)),
      rw c.record.ensures.room.0 c.self.invariant.2,
      rw is c.self.invariant.3,
      rw is (omega (arith, c.in_default.ensures.booked, c.self.invariant.4, c.record.ensures.len.1)),
      rw c.record.ensures.room.1 c.self.invariant.5,
    )

pub invariant_of-pass-2 : goal.invariant_of-pass-2
invariant_of-pass-2 g c =
    pass_puts c.pass.inside.user c.pass.inside.pass c.append_moment-appended.new.pass _ _ c.in_default.ensures.puts c.pass.invariant.0 c.pass.invariant.1
