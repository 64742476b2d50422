use Rattle.std.proofs.Common.{arith, subst}
use Rattle.std.specs.List.{All}
use Rattle.std.proofs.lemmas.List.{take_all}
use Rattle.std.proofs.lemmas.List.Elements.{All-more}
use Rattle.manager_state.specs.RecordBytes.{IsSourceInRange}
use Rattle.manager_rules.proofs.modifying.read_sources.Goals as goal

pub loop-source-preserved : goal.loop-source-preserved
loop-source-preserved c =
    All-more IsSourceInRange c.args.sources.now c.loop-source.source-index c.source-item.result c.loop-source-test.true c.loop-source.invariant
    (subst IsSourceInRange c.source-item.is c.read_source.ensures)

pub returns : goal.returns
returns c = subst (All IsSourceInRange) (take_all c.loop-source.source-index c.args.sources.now (omega arith)) c.loop-source.invariant
