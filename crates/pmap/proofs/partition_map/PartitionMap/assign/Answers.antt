use Rattle.std.proofs.Common.{Result, ap, sym, ◌∙◌, subst, arith}
use Rattle.disk.specs.declared.device.DiskFault.{DiskFault}
use Rattle.wire.specs.declared.packet.Step.{Step}
use Rattle.model_partition.specs.Map.{range_at}
use Rattle.model_partition.specs.MapRules.{assign_rule}
use Rattle.model_partition.proofs.Spelling.{assign_again}
use Rattle.pmap.specs.MapWithFile.{MapWithFile, held_of, MakesMap}
use Rattle.pmap.specs.Performs.{MapPerforms, as_rule}
use Rattle.disk.proofs.Made.{running}
use Rattle.disk.proofs.Steps.{records_failed}
use Rattle.pmap.proofs.ReplaysRecords.{performed, stays}
use Rattle.pmap.proofs.RulesStand.{assign_stands}
use Rattle.pmap.proofs.partition_map.PartitionMap.assign.Goals as goal

pub invariant_of-self : goal.invariant_of-self
invariant_of-self g c =
    let made : MakesMap c.self.inside.file.records c.self.inside.table.map = running (λ rs. MakesMap rs c.self.inside.table.map) _ _ _ c.self.invariant (ap (λ (s : MapWithFile _). s.file.stopped) c.self.view_is ∙ c.requires.running) in
    stays g.D.Disk.state c.self.inside.table.map c.assign_on-done.new.table.map _ _ _ c.assign_on-done.result c.assign_on-done.ensures made
    (assign_stands c.self.inside.file.records c.self.inside.table.map c.args.range c.args.server c.args.until made (assign_again c.args.range c.args.server c.args.until (omega (arith, c.range.view_is)) (omega (arith, c.server.view_is)) (omega arith)))

pub returns-in-None-clause-performed : goal.returns-in-None-clause-performed
returns-in-None-clause-performed g c =
    let up = ap (λ (s : MapWithFile _). s.file.stopped) c.self.view_is ∙ c.requires.running in
    rw (← c.self.view_is) (λ none.
    let was = held_of c.self.inside.table.map c.self.inside.file in
    let is = held_of c.assign_on-done.new.table.map c.assign_on-done.new.file in
    let made : MakesMap c.self.inside.file.records c.self.inside.table.map = running (λ rs. MakesMap rs c.self.inside.table.map) _ _ _ c.self.invariant up in
    let rule = assign_rule c.self.inside.table.map c.args.range c.args.server c.args.until (range_at c.self.inside.table.map.ranges c.args.range) in
    subst (λ (w : Result Step DiskFault). MapPerforms g.D.Disk.state was is rule w) (sym c.answer.ensures.rule)
    (performed g.D.Disk.state c.self.inside.table.map c.assign_on-done.new.table.map _ _ rule c.assign_on-done.result c.assign_on-done.ensures
    (assign_stands c.self.inside.file.records c.self.inside.table.map c.args.range c.args.server c.args.until made (assign_again c.args.range c.args.server c.args.until (omega (arith, c.range.view_is)) (omega (arith, c.server.view_is)) (omega arith)))))

pub returns-in-None-clause-failed : goal.returns-in-None-clause-failed
returns-in-None-clause-failed g c = rw (← c.self.view_is) (λ bad. records_failed g.D.Disk.state _ _ _ c.assign_on-done.result c.assign_on-done.ensures.file (sym c.answer.ensures.rule ∙ ap as_rule bad))
