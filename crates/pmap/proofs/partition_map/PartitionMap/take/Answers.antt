use Rattle.std.proofs.Common.{[], Ok, refl, sym, subst}
use Rattle.wire.specs.declared.actor.ReqNo.TheVariants.{NoRequest}
use Rattle.wire.specs.declared.body.MapBody.{MapBody}
use Rattle.model_streams.specs.Outcome.{Outcome, silent}
use Rattle.model_partition.specs.Map.{MapState, range_at, union_at}
use Rattle.model_partition.specs.MapRules.{begin_split_fault, begin_split_rule, complete_split_fault, complete_split_rule, begin_merge_fault, begin_merge_rule, complete_merge_fault, complete_merge_rule, told}
use Rattle.pmap.specs.MapWithFile.{map_of}
use Rattle.pmap.specs.Performs.{MapPerforms}
use Rattle.pmap.proofs.Calls.{call_performs, sent, other_told, begin_split_is, complete_split_is, begin_merge_is, complete_merge_is}
use Rattle.pmap.proofs.partition_map.PartitionMap.take.Goals as goal

pub returns-in-BeginSplit-clause-performed : goal.returns-in-BeginSplit-clause-performed
returns-in-BeginSplit-clause-performed g c =
    let x = c.args.self.now in
    let y = c.begin_split-done.new.self in
    let e = c.begin_split-done.ensures in
    subst (λ (b : MapBody). MapPerforms g.D.Disk.state x y (told (map_of x) c.args.packet.now b) c.told.result) (sym c.in-BeginSplit.is)
    (call_performs g.D.Disk.state x y c.args.packet.now c.in-BeginSplit.request (begin_split_rule (map_of x) c.args.packet.now.from c.in-BeginSplit.request c.in-BeginSplit.range c.in-BeginSplit.key (range_at x.ranges c.in-BeginSplit.range)) (begin_split_fault c.in-BeginSplit.generation c.in-BeginSplit.key (range_at x.ranges c.in-BeginSplit.range)) c.begin_split-done.result c.told.result
    e.replays (λ r is. begin_split_is c.in-BeginSplit.generation c.in-BeginSplit.key (range_at x.ranges c.in-BeginSplit.range) r is) (λ r is. e.refused r is) (λ none. e.performed none) (λ none. e.taken none) c.told.ensures)

pub returns-in-CompleteSplit-clause-performed : goal.returns-in-CompleteSplit-clause-performed
returns-in-CompleteSplit-clause-performed g c =
    let x = c.args.self.now in
    let y = c.complete_split-done.new.self in
    let e = c.complete_split-done.ensures in
    subst (λ (b : MapBody). MapPerforms g.D.Disk.state x y (told (map_of x) c.args.packet.now b) c.told-in-CompleteSplit.result) (sym c.in-CompleteSplit.is)
    (call_performs g.D.Disk.state x y c.args.packet.now c.in-CompleteSplit.request (complete_split_rule (map_of x) c.args.packet.now.from c.in-CompleteSplit.request c.in-CompleteSplit.range (range_at x.ranges c.in-CompleteSplit.range)) (complete_split_fault c.in-CompleteSplit.generation (range_at x.ranges c.in-CompleteSplit.range)) c.complete_split-done.result c.told-in-CompleteSplit.result
    e.replays (λ r is. complete_split_is c.in-CompleteSplit.generation (range_at x.ranges c.in-CompleteSplit.range) r is) (λ r is. e.refused r is) (λ none. e.performed none) (λ none. e.taken none) c.told-in-CompleteSplit.ensures)

pub returns-in-BeginMerge-clause-performed : goal.returns-in-BeginMerge-clause-performed
returns-in-BeginMerge-clause-performed g c =
    let x = c.args.self.now in
    let y = c.begin_merge-done.new.self in
    let e = c.begin_merge-done.ensures in
    subst (λ (b : MapBody). MapPerforms g.D.Disk.state x y (told (map_of x) c.args.packet.now b) c.told-in-BeginMerge.result) (sym c.in-BeginMerge.is)
    (call_performs g.D.Disk.state x y c.args.packet.now c.in-BeginMerge.request (begin_merge_rule (map_of x) c.args.packet.now.from c.in-BeginMerge.request c.in-BeginMerge.left c.in-BeginMerge.right (range_at x.ranges c.in-BeginMerge.left)) (begin_merge_fault c.in-BeginMerge.left_generation c.in-BeginMerge.right_generation (range_at x.ranges c.in-BeginMerge.left) (range_at x.ranges c.in-BeginMerge.right)) c.begin_merge-done.result c.told-in-BeginMerge.result
    e.replays (λ r is. begin_merge_is c.in-BeginMerge.left_generation c.in-BeginMerge.right_generation (range_at x.ranges c.in-BeginMerge.left) (range_at x.ranges c.in-BeginMerge.right) r is) (λ r is. e.refused r is) (λ none. e.performed none) (λ none. e.taken none) c.told-in-BeginMerge.ensures)

pub returns-in-CompleteMerge-clause-performed : goal.returns-in-CompleteMerge-clause-performed
returns-in-CompleteMerge-clause-performed g c =
    let x = c.args.self.now in
    let y = c.complete_merge-done.new.self in
    let e = c.complete_merge-done.ensures in
    subst (λ (b : MapBody). MapPerforms g.D.Disk.state x y (told (map_of x) c.args.packet.now b) c.told-in-CompleteMerge.result) (sym c.in-CompleteMerge.is)
    (call_performs g.D.Disk.state x y c.args.packet.now c.in-CompleteMerge.request (complete_merge_rule (map_of x) c.args.packet.now.from c.in-CompleteMerge.request c.in-CompleteMerge.left c.in-CompleteMerge.right (union_at x.ranges c.in-CompleteMerge.left c.in-CompleteMerge.right)) (complete_merge_fault c.in-CompleteMerge.left_generation c.in-CompleteMerge.right_generation (range_at x.ranges c.in-CompleteMerge.left) (range_at x.ranges c.in-CompleteMerge.right) (union_at x.ranges c.in-CompleteMerge.left c.in-CompleteMerge.right)) c.complete_merge-done.result c.told-in-CompleteMerge.result
    e.replays (λ r is. complete_merge_is c.in-CompleteMerge.left_generation c.in-CompleteMerge.right_generation (range_at x.ranges c.in-CompleteMerge.left) (range_at x.ranges c.in-CompleteMerge.right) (union_at x.ranges c.in-CompleteMerge.left c.in-CompleteMerge.right) r is) (λ r is. e.refused r is) (λ none. e.performed none) (λ none. e.taken none) c.told-in-CompleteMerge.ensures)

pub returns-in_default-clause-performed : goal.returns-in_default-clause-performed
returns-in_default-clause-performed g c =
    let x = c.args.self.now in
    subst (λ (o : Outcome MapState). MapPerforms g.D.Disk.state x x o (Ok c.silent.result))
    (sym (other_told (map_of x) c.args.packet.now c.args.body.now c.in_default.not-Route c.in_default.not-BeginSplit c.in_default.not-CompleteSplit c.in_default.not-BeginMerge c.in_default.not-CompleteMerge))
    (sent g.D.Disk.state x x c.args.packet.now NoRequest (silent (map_of x)) [] (Ok c.silent.result) refl c.requires.replays (λ i. record { packets = c.silent.ensures.packets i; notes = c.silent.ensures.notes i }))
