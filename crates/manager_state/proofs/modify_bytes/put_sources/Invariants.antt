use Rattle.std.proofs.Common.{◌≡◌, ◌++◌, ◌∷◌, length, take}
use Rattle.model_streams.specs.RecordBytes.{sources}
use Rattle.manager_state.proofs.modify_bytes.put_sources.Given as goal

abbrev pub invariant-loop-one : goal.invariant-loop-one
invariant-loop-one l = l.out.items ≡ l.fn.out.items ++ length l.all ∷ sources (take l.one-index l.all)
