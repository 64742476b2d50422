use Rattle.std.proofs.Common.{◌≡◌, ◌++◌, ◌∷◌, length, take}
use Rattle.model_streams.specs.RecordBytes.{modifies}
use Rattle.manager_state.proofs.modify_bytes.put_multi_modify.Given as goal

abbrev pub invariant-loop-one : goal.invariant-loop-one
invariant-loop-one l = l.out.items ≡ l.fn.out.items ++ 7 ∷ length l.list ∷ modifies (take l.one-index l.list)
