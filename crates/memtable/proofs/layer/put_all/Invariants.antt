use Rattle.std.proofs.Common.{◌≡◌, ◌+◌, ℕ, List}
use Rattle.std.specs.List.{AllByRecursion}
use Rattle.std.specs.Vec.Iter.{into_iter_items}
use Rattle.memtable.specs.Entries.{AreNumbered, IsFit, found, latest, put_all, entries_size, all_taken_back}
use Rattle.memtable.proofs.layer.put_all.Given as goal

abbrev pub invariant-loop-key : goal.invariant-loop-key
invariant-loop-key l = record {
  entries : put_all l.layer.entries (into_iter_items l.key-iterator) ≡ put_all l.fn.layer.entries l.fn.changes.items;
  found : (q : List ℕ) → latest q (into_iter_items l.key-iterator) (found l.layer.entries q) ≡ latest q l.fn.changes.items (found l.fn.layer.entries q);
  size : l.grown + entries_size l.fn.layer.entries ≡ l.size + entries_size l.layer.entries;
  undos : all_taken_back l.undos.items l.layer.entries ≡ l.fn.layer.entries;
  fits : AllByRecursion IsFit (into_iter_items l.key-iterator);
  numbered : AreNumbered l.fn.layer.entries → AreNumbered l.layer.entries;
}
