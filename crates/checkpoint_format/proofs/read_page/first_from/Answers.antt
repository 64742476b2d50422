use Rattle.std.proofs.Common.{rules, arith}
use Rattle.std.proofs.lemmas.List.Sorted.{IsPartitionPoint-from_clause}
use Rattle.checkpoint_format.specs.Starts.{is_below}
use Rattle.checkpoint_format.proofs.Starts.{parted, point_none, point_some}
use Rattle.checkpoint_format.proofs.read_page.first_from.Goals as goal

pub returns-then-below-starts-clause-first : goal.returns-then-below-starts-clause-first
returns-then-below-starts-clause-first c =
    let page = c.args.page.now in
    let key = c.args.key.now in
    let point = IsPartitionPoint-from_clause (is_below page key) _ _ c.partition_point-below.ensures.partitioned (parted page key c.args.starts.now (λ i. omega (arith, c.type_inv.page i)) c.requires) (λ a r q k. search rules) in
    point_none page key c.args.starts.now c.partition_point-below.result (omega arith) point

pub returns-else-below-starts-clause-first : goal.returns-else-below-starts-clause-first
returns-else-below-starts-clause-first c =
    let page = c.args.page.now in
    let key = c.args.key.now in
    let point = IsPartitionPoint-from_clause (is_below page key) _ _ c.partition_point-below.ensures.partitioned (parted page key c.args.starts.now (λ i. omega (arith, c.type_inv.page i)) c.requires) (λ a r q k. search rules) in
    point_some page key c.args.starts.now c.partition_point-below.result 0 (omega arith) point
