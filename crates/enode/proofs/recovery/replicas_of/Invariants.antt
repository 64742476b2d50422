use Rattle.std.proofs.Common.{◌≡◌, ◌++◌, length}
use Rattle.std.specs.Vec.Iter.{into_iter_items, into_iter_len}
use Rattle.enode.specs.Node.{IsRestart}
use Rattle.enode.proofs.recovery.replicas_of.Given as goal

abbrev pub invariant-loop-record_read : goal.invariant-loop-record_read
invariant-loop-record_read l = record {
  made : IsRestart l.number l.replicas.entries l.yielded;
  rest : l.yielded ++ into_iter_items l.record_read-iterator ≡ l.fn.records.items;
  count : into_iter_len l.record_read-iterator ≡ length (into_iter_items l.record_read-iterator);
}
