use Rattle.std.proofs.Common.{◌≡◌, take}
use Rattle.streams.specs.Streams.{modified}
use Rattle.streams.specs.Table.{streams_of, streams_with}
use Rattle.streams.proofs.table.StreamTable.build.Given as goal

abbrev pub invariant-loop-m : goal.invariant-loop-m
invariant-loop-m l = streams_with l.self l.made ≡ modified (streams_of l.self) (take l.m-index l.list)
