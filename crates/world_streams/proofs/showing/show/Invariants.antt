use Rattle.std.proofs.Common.{◌≡◌, ◌≤◌, ◌+◌, length}
use Rattle.std.proofs.Common.{vec_len, vec_capacity}
use Rattle.std.specs.Vec.Iter.{into_iter_items}
use Rattle.model_partition.specs.Servers.{noted}
use Rattle.world_streams.specs.ServersStep.{ShowsRows}
use Rattle.world_streams.proofs.showing.show.Given as goal

abbrev pub invariant-loop-note : goal.invariant-loop-note
invariant-loop-note l =
    (noted l.list.items (into_iter_items l.note-iterator) ≡ noted l.fn.list.items l.fn.more.items)
    × ShowsRows l.list.items l.left (into_iter_items l.note-iterator)
    × (vec_len l.list + length (into_iter_items l.note-iterator) ≤ vec_capacity l.list)
