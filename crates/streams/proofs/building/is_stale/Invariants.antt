use Rattle.std.proofs.Common.{◌≡◌, false, not, take}
use Rattle.std.specs.List.{list_any}
use Rattle.streams.specs.Streams.{stream_of, has_fence}
use Rattle.streams.specs.Table.{streams_with}
use Rattle.streams.proofs.building.is_stale.Given as goal

abbrev pub invariant-loop-source : goal.invariant-loop-source
invariant-loop-source l = list_any (λ s. not (has_fence s.generation (stream_of (streams_with l.table l.made) s.stream))) (take l.source-index l.sources) ≡ false
