use Rattle.std.proofs.Common.{◌≡◌, false, take}
use Rattle.std.specs.BTreeMap.{get}
use Rattle.std.specs.List.{list_any}
use Rattle.std.specs.Ordering.{nat_cmp}
use Rattle.streams.specs.Streams.{stream_of, is_open_at_the_end}
use Rattle.streams.specs.Table.{streams_with}
use Rattle.streams.proofs.building.is_open.Given as goal

abbrev pub invariant-loop-source : goal.invariant-loop-source
invariant-loop-source l = list_any (λ s. is_open_at_the_end (get nat_cmp l.sealed) (stream_of (streams_with l.table l.made) s.stream)) (take l.source-index l.sources) ≡ false
