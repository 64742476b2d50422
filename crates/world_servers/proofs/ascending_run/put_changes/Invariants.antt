use Rattle.std.proofs.Common.{◌≡◌}
use Rattle.std.specs.Vec.Iter.{into_iter_items}
use Rattle.memtable.specs.Entries.{put_all}
use Rattle.world_servers.proofs.ascending_run.put_changes.Given as goal

abbrev pub invariant-loop-key : goal.invariant-loop-key
invariant-loop-key l = put_all l.map.entries (into_iter_items l.key-iterator) ≡ put_all l.fn.map.entries l.fn.changes.items
