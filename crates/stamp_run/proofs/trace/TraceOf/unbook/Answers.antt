use Rattle.std.proofs.Common.{arith}
use Rattle.stamp_run.proofs.KeepLemmas.{unbook_keeps}
use Rattle.stamp_run.proofs.trace.TraceOf.unbook.Goals as goal

pub invariant_of-self : goal.invariant_of-self
invariant_of-self g c =
    let i = c.self.inside in (
      unbook_keeps g.K.Identity.numbers i.journal c.unbook.new.self i.packets.items i.log.items i.answers c.self.invariant.0 c.args.actor c.unbook.ensures,
      rw c.unbook.ensures (omega (arith, c.self.invariant.1)),
      c.self.invariant.2,
      rw c.unbook.ensures (c.self.invariant.3),
      rw c.unbook.ensures (omega (arith, c.self.invariant.4)),
      c.self.invariant.5,
    )
