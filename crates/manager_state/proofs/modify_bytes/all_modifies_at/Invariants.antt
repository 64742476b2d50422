use Rattle.std.proofs.Common.{◌≡◌, ◌-◌}
use Rattle.blocks.specs.Format.{many_at}
use Rattle.model_streams.specs.RecordBytes.{modify_at}
use Rattle.blocks.proofs.Loop.{with_front}
use Rattle.manager_state.proofs.modify_bytes.all_modifies_at.Given as goal

abbrev pub invariant-loop : goal.invariant-loop
invariant-loop l = record {
  read : with_front l.read.items (many_at modify_at (l.count - l.counter) l.rest) ≡ many_at modify_at l.count l.bytes;
}
