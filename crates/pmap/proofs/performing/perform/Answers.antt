use Rattle.std.proofs.Common.{ap, ◌∙◌}
use Rattle.model_partition.specs.Map.{MapState}
use Rattle.model_partition.specs.Replay.{after_record}
use Rattle.pmap.proofs.RecordedPlans.{rule_ok, rule_err}
use Rattle.pmap.proofs.performing.perform.Goals as goal

pub returns-in-Ok-write : goal.returns-in-Ok-write
returns-in-Ok-write g c =
    rule_ok g.D.Disk.state _ _ _ _ c.args.plan c.in-Some.new_record c.write.result c.in-Some.is c.in-Ok-write.is (c.apply.ensures ∙ ap (λ (m : MapState). after_record m c.in-Some.new_record) c.in-Ok.ensures.map) c.write.ensures

pub returns-in-Err : goal.returns-in-Err
returns-in-Err g c = rule_err g.D.Disk.state _ _ _ _ c.args.plan c.in-Some.new_record c.write.result c.in-Err.fault c.in-Some.is c.in-Err.is c.in-Ok.ensures.map c.write.ensures
