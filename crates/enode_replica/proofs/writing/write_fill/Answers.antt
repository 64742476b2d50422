use Rattle.std.proofs.Common.{sym, subst, ◌∙◌, arith}
use Rattle.enode_replica.specs.Fill.{IsFill}
use Rattle.enode_replica.proofs.Filling.{fill_fits}
use Rattle.enode_replica.proofs.writing.write_fill.Goals as goal

pub write-requires-clause-fits : goal.write-requires-clause-fits
write-requires-clause-fits g c = fill_fits c.args.file.now.version c.extent.inside.0 c.args.from c.args.length c.in_ok-copied.copied (omega arith) c.ranges.from.fits c.ranges.length.fits
    (subst (IsFill c.args.from c.args.length) (sym (c.in_ok-copied.ensures ∙ (c.deref.ensures.value ∙ c.groups.view_is))) c.requires.fill)

pub returns : goal.returns
returns g c = rw (← c.extent.view_is, ← (c.in_ok-copied.ensures ∙ (c.deref.ensures.value ∙ c.groups.view_is))) c.write.ensures
