use Rattle.std.proofs.Common.{◌≡◌, drop}
use Rattle.std.specs.List.{AllByRecursion}
use Rattle.checkpoint.specs.Lookup.{HasIndex, looked_up}
use Rattle.checkpoint.proofs.search.lookup.Given as goal

abbrev pub invariant-loop-one : goal.invariant-loop-one
invariant-loop-one g l = record {
  left : looked_up (g.P.Pages.source l.pages) l.installed l.key ≡ looked_up (g.P.Pages.source l.pages) (drop l.one-index l.installed) l.key;
  indexes : AllByRecursion HasIndex (drop l.one-index l.installed);
}
