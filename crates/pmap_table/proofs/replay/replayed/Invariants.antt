use Rattle.std.proofs.Common.{take}
use Rattle.pmap_table.specs.MakesMap.{MakesMap}
use Rattle.pmap_table.proofs.replay.replayed.Given as goal

abbrev pub invariant-loop-record_read : goal.invariant-loop-record_read
invariant-loop-record_read l = MakesMap (take l.record_read-index l.records) l.table.map
