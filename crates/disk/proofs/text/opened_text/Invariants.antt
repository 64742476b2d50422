use Rattle.std.proofs.Common.{◌≡◌, ◌++◌, drop}
use Rattle.std.specs.List.{AllByRecursion}
use Rattle.blocks.specs.Record.{Fits}
use Rattle.disk.specs.File.{opened}
use Rattle.disk.proofs.text.opened_text.Given as goal

abbrev pub invariant-loop-written : goal.invariant-loop-written
invariant-loop-written l = record {
  fit : AllByRecursion (Fits l.version) (drop l.written-index l.records);
  text : l.text.items ++ opened l.version (drop l.written-index l.records) ≡ opened l.version l.records;
}
