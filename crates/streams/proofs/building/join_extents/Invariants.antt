use Rattle.std.proofs.Common.{◌≡◌, take}
use Rattle.streams.specs.Streams.{joined_extents, with_extents}
use Rattle.streams.specs.Table.{streams_with}
use Rattle.streams.proofs.building.join_extents.Given as goal

abbrev pub invariant-loop-source : goal.invariant-loop-source
invariant-loop-source l = record {
  name : l.listed.name ≡ l.initial.listed.name;
  stream : l.listed.stream ≡ with_extents (joined_extents (streams_with l.table l.made) (take l.source-index l.sources)) l.initial.listed.stream;
}
