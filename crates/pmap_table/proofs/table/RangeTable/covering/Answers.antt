use Rattle.std.proofs.Common.{[], sym, subst, rules, of_calls}
use Rattle.std.proofs.lemmas.Fn.{always_returns_same}
use Rattle.model_partition.specs.Partition.{IsPartition}
use Rattle.pmap_table.proofs.Routing.{begins, partitioned, some_begin, covered}
use Rattle.pmap_table.proofs.table.RangeTable.covering.Goals as goal

pub overflow_sub-behind : goal.overflow_sub-behind
overflow_sub-behind c =
    let lies : IsPartition c.deref.result.now = subst IsPartition (sym c.deref.ensures.value) c.self.invariant.partition in
    some_begin c.deref.result.now c.args.key.now c.partition_point-behind.result lies
    (c.partition_point-behind.ensures.partitioned (begins c.args.key.now) (always_returns_same _ _ _ (λ a r f k. search (rules, of_calls))) (partitioned [] c.deref.result.now c.args.key.now lies))

pub returns : goal.returns
returns c =
    let lies : IsPartition c.deref.result.now = subst IsPartition (sym c.deref.ensures.value) c.self.invariant.partition in
    rw (← c.self.view_is, ← c.deref.ensures.value) (covered c.deref.result.now c.args.key.now c.partition_point-behind.result c.index.result.now lies c.partition_point-behind.ensures.bound
    (c.partition_point-behind.ensures.partitioned (begins c.args.key.now) (always_returns_same _ _ _ (λ a r f k. search (rules, of_calls))) (partitioned [] c.deref.result.now c.args.key.now lies))
    (rw (← c.deref.ensures.value) at c.index.ensures))
