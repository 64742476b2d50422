use Rattle.std.proofs.Common.{◌≡◌, take, drop}
use Rattle.std.specs.List.{AllByRecursion}
use Rattle.commitlog.specs.Record.{IsTransaction}
use Rattle.commitlog.proofs.writing.text_of.Given as goal

abbrev pub invariant-loop-changes : goal.invariant-loop-changes
invariant-loop-changes l = record {
  text : l.text ≡ take l.changes-index l.all;
  counted : l.encodings ≡ l.changes-index;
  fits : AllByRecursion IsTransaction (drop l.changes-index l.all);
}
