use Rattle.stamp_traces.proofs.PassLemmas.{passes-admit}
use Rattle.stamp_traces.proofs.journal.Journal.admit.Goals as goal

pub invariant_of-self-2 : goal.invariant_of-self-2
invariant_of-self-2 g c = (
  c.self.invariant.0,
  rw c.in-Ok.ensures.items (passes-admit g.K.Identity.prefixes c.self.inside.entries.items c.self.inside.passes.items c.self.invariant.1),
  c.self.invariant.2,
  c.self.invariant.3,
  c.self.invariant.4,
)
