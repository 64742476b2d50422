use Rattle.std.proofs.Common.{drop}
use Rattle.std.specs.List.{AllByRecursion}
use Rattle.block_types.specs.declared.record.Version.{Version}
use Rattle.block_types.specs.declared.record.Version.TheVariants.{V2}
use Rattle.blocks.specs.Record.{Fits}
use Rattle.stampctl_tasks.proofs.migration.have_no_long_fill.Given as goal

abbrev pub invariant-loop-written : goal.invariant-loop-written
invariant-loop-written l = record {
  left : (v : Version) × AllByRecursion (Fits v) (drop l.written-index l.records);
  done : AllByRecursion (Fits V2) (drop l.written-index l.records) → AllByRecursion (Fits V2) l.records;
}
