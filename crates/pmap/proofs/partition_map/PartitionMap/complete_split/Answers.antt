use Rattle.std.proofs.Common.{◌<◌, ◌^◌, Result, ap, sym, ◌∙◌, subst}
use Rattle.disk.specs.declared.device.DiskFault.{DiskFault}
use Rattle.wire.specs.declared.packet.Step.{Step}
use Rattle.model_partition.specs.Map.{range_at}
use Rattle.model_partition.specs.MapRules.{complete_split_rule}
use Rattle.model_partition.proofs.Spelling.{complete_split_again}
use Rattle.pmap.specs.MapWithFile.{MapWithFile, held_of, MakesMap}
use Rattle.pmap.specs.Performs.{MapPerforms, as_rule}
use Rattle.disk.proofs.Made.{running}
use Rattle.disk.proofs.Steps.{records_failed}
use Rattle.pmap.proofs.ReplaysRecords.{performed, stays}
use Rattle.pmap.proofs.RulesStand.{complete_split_stands}
use Rattle.pmap.proofs.partition_map.PartitionMap.complete_split.Goals as goal

pub invariant_of-self : goal.invariant_of-self
invariant_of-self g c =
    let m = c.self.inside.table.map in
    let made : MakesMap c.self.inside.file.records m = running (λ rs. MakesMap rs m) _ _ _ c.self.invariant (ap (λ (s : MapWithFile _). s.file.stopped) c.self.view_is ∙ c.requires.running) in
    let wide : c.args.known.now.range < 2 ^ 64 = c.number_of-range.ensures.wide in
    stays g.D.Disk.state m c.complete_split_on-done.new.table.map _ _ _ c.complete_split_on-done.result c.complete_split_on-done.ensures made
    (complete_split_stands c.self.inside.file.records m c.args.caller.now.from c.args.caller.now.request c.args.known.now.range made (complete_split_again c.args.known.now.range wide))

pub returns-in-None-clause-performed : goal.returns-in-None-clause-performed
returns-in-None-clause-performed g c =
    let up = ap (λ (s : MapWithFile _). s.file.stopped) c.self.view_is ∙ c.requires.running in
    rw (← c.self.view_is) (λ none.
    let m = c.self.inside.table.map in
    let was = held_of m c.self.inside.file in
    let is = held_of c.complete_split_on-done.new.table.map c.complete_split_on-done.new.file in
    let made : MakesMap c.self.inside.file.records m = running (λ rs. MakesMap rs m) _ _ _ c.self.invariant up in
    let wide : c.args.known.now.range < 2 ^ 64 = c.number_of-range.ensures.wide in
    let rule = complete_split_rule m c.args.caller.now.from c.args.caller.now.request c.args.known.now.range (range_at m.ranges c.args.known.now.range) in
    subst (λ (w : Result Step DiskFault). MapPerforms g.D.Disk.state was is rule w) (sym c.answer.ensures.rule)
    (performed g.D.Disk.state m c.complete_split_on-done.new.table.map _ _ rule c.complete_split_on-done.result c.complete_split_on-done.ensures
    (complete_split_stands c.self.inside.file.records m c.args.caller.now.from c.args.caller.now.request c.args.known.now.range made (complete_split_again c.args.known.now.range wide))))

pub returns-in-None-clause-failed : goal.returns-in-None-clause-failed
returns-in-None-clause-failed g c = rw (← c.self.view_is) (λ bad. records_failed g.D.Disk.state _ _ _ c.complete_split_on-done.result c.complete_split_on-done.ensures.file (sym c.answer.ensures.rule ∙ ap as_rule bad))
