use Rattle.std.proofs.Common.{rules, arith}
use Rattle.std.proofs.lemmas.List.Sorted.{IsPartitionPoint-from_clause}
use Rattle.checkpoint.proofs.PageSearch.{begins, parted, point_none, point_some}
use Rattle.checkpoint.proofs.search.page_for.Goals as goal

pub returns-then-begun-eq0 : goal.returns-then-begun-eq0
returns-then-begun-eq0 c =
    let point = IsPartitionPoint-from_clause (begins c.args.key.now) _ _ c.partition_point-begun.ensures.partitioned (parted c.args.key.now c.args.pages.now c.requires) (λ a r q k. search rules) in
    point_none c.args.key.now c.args.pages.now c.partition_point-begun.result (omega arith) point

pub returns-else-begun-eq0 : goal.returns-else-begun-eq0
returns-else-begun-eq0 c =
    let point = IsPartitionPoint-from_clause (begins c.args.key.now) _ _ c.partition_point-begun.ensures.partitioned (parted c.args.key.now c.args.pages.now c.requires) (λ a r q k. search rules) in
    point_some c.args.key.now c.args.pages.now c.partition_point-begun.result c.index-pages-begun.result (omega arith) c.partition_point-begun.ensures.bound point
