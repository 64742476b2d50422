use Rattle.std.proofs.Common.{◌≡◌, None, take}
use Rattle.std.specs.BTreeMap.{get}
use Rattle.std.specs.Ordering.{nat_cmp}
use Rattle.streams.specs.Streams.{modified, first_build_fault}
use Rattle.streams.specs.Table.{streams_of, streams_with}
use Rattle.streams.proofs.table.StreamTable.modifying.Given as goal

abbrev pub invariant-loop-m : goal.invariant-loop-m
invariant-loop-m l = record {
  built : streams_with l.self l.made ≡ modified (streams_of l.self) (take l.m-index l.list);
  free : first_build_fault (get nat_cmp l.sealed) (streams_of l.self) (take l.m-index l.list) ≡ None;
}
