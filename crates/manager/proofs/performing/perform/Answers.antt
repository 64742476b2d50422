use Rattle.std.proofs.Common.{subst}
use Rattle.manager_state.specs.Table.{plain}
use Rattle.manager_rules.specs.Plan.{CanChange}
use Rattle.manager.proofs.RecordedPlans.{rule_ok, rule_err, rule_replaced}
use Rattle.manager.proofs.performing.perform.Goals as goal

pub returns-in-Ok : goal.returns-in-Ok
returns-in-Ok g c = rule_ok g.D.Disk.state _ _ _ _ c.args.plan c.in-Write.new_record c.write_and_apply.result c.in-Write.is c.in-Ok.is c.in-Ok.ensures.ok c.write_and_apply.ensures.file

pub returns-in-Err : goal.returns-in-Err
returns-in-Err g c = rule_err g.D.Disk.state _ _ _ _ c.args.plan c.in-Write.new_record c.write_and_apply.result c.in-Err.fault c.in-Write.is c.in-Err.is c.in-Err.ensures.err c.write_and_apply.ensures.file

pub returns-in-Replace : goal.returns-in-Replace
returns-in-Replace g c = rule_replaced g.D.Disk.state _ _ _ c.args.plan c.in-Replace.extent c.in-Replace.entry c.in-Replace.is c.replace.ensures c.requires.can

pub write_and_apply-requires-clause-fits : goal.write_and_apply-requires-clause-fits
write_and_apply-requires-clause-fits g c = (subst (CanChange (plain c.args.table.now)) c.in-Write.is c.requires.can).1

pub write_and_apply-requires-clause-can : goal.write_and_apply-requires-clause-can
write_and_apply-requires-clause-can g c = (subst (CanChange (plain c.args.table.now)) c.in-Write.is c.requires.can).0
