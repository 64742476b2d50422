use Rattle.std.proofs.Common.{◌≡◌, true, subst, sym, rules}
use Rattle.memtable.specs.Entries.{Entries}
use Rattle.checkpoint_format.specs.Page.{is_ascending}
use Rattle.checkpoint.proofs.Orders.{ascending_from_sorted}
use Rattle.world_servers.proofs.ascending_run.AscendingRun.copied.Goals as goal

pub invariant_of-result : goal.invariant_of-result
invariant_of-result c =
    let all : c.loop-key.entries.items ≡ c.args.map.now.entries = search rules in
    subst (λ (es : Entries). is_ascending es ≡ true) (sym all) (ascending_from_sorted c.args.map.now.entries c.into_iter-key-iterator.ensures.into_iter_gives.5)
