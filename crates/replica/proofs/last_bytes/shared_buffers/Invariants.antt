use Rattle.std.proofs.Common.{◌≡◌, ◌*◌, take, vec_len, vec_capacity}
use Rattle.replica.specs.Buffers.{AllFull}
use Rattle.replica.specs.Groups.{joined}
use Rattle.replica.proofs.last_bytes.shared_buffers.Given as goal

abbrev pub invariant-loop-index : goal.invariant-loop-index
invariant-loop-index l = record {
  count : vec_len l.buffers ≡ l.index;
  room : vec_capacity l.buffers ≡ l.count;
  front : joined l.buffers.items ≡ take (l.index * 65536) l.bytes;
  all : AllFull 65536 l.buffers.items;
}
