use Rattle.std.proofs.Common.{drop}
use Rattle.std.specs.List.{AllByRecursion}
use Rattle.block_types.specs.declared.record.Version.{Version}
use Rattle.blocks.specs.Record.{Fits}
use Rattle.blocks.proofs.sizes.all_fit.Given as goal

abbrev pub invariant-loop-written : goal.invariant-loop-written
invariant-loop-written l = record {
  left : (v : Version) × AllByRecursion (Fits v) (drop l.written-index l.records);
  done : (v : Version) → AllByRecursion (Fits v) (drop l.written-index l.records) → AllByRecursion (Fits v) l.records;
}
