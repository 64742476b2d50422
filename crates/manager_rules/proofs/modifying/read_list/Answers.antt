use Rattle.std.proofs.Common.{arith, subst}
use Rattle.std.specs.List.{All}
use Rattle.std.proofs.lemmas.List.{take_all}
use Rattle.std.proofs.lemmas.List.Elements.{All-more}
use Rattle.manager_state.specs.RecordBytes.{IsModifyInRange}
use Rattle.manager_rules.proofs.modifying.read_list.Goals as goal

pub loop-m-preserved : goal.loop-m-preserved
loop-m-preserved c =
    All-more IsModifyInRange c.args.list.now c.loop-m.m-index c.m-item.result c.loop-m-test.true c.loop-m.invariant
    (subst IsModifyInRange c.m-item.is c.read_modify.ensures)

pub returns : goal.returns
returns c = subst (All IsModifyInRange) (take_all c.loop-m.m-index c.args.list.now (omega arith)) c.loop-m.invariant
