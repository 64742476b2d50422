use Rattle.std.proofs.Common.{◌-◌, ◌∙◌, sym, arith}
use Rattle.world_servers.proofs.RunEntries.{ascending_end}
use Rattle.world_servers.proofs.ascending_run.is_ascending.Goals as goal

pub returns : goal.returns
returns c = sym (c.loop-at.invariant ∙ ascending_end c.args.entries.now (c.loop-at.at - 1) (omega (arith, c.loop-at-test.false)))
