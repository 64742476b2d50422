use Rattle.std.proofs.Common.{arith}
use Rattle.disk.proofs.Undoing.{put_in_front}
use Rattle.disk.proofs.buffer.put_before.Goals as goal

pub returns-then-count-gt0-clause-ok : goal.returns-then-count-gt0-clause-ok
returns-then-count-gt0-clause-ok c =
    put_in_front c.args.bytes.now.items c.args.front.now c.extend_from_slice.new.self.items c.copy_within.new.self.items c.put_over.new.bytes.items c.len-count.result c.in_ok-extend_from_slice.ensures.items (omega (arith, c.len-count.ensures)) c.copy_within.ensures.items c.put_over.ensures.items
