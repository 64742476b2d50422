use Rattle.std.proofs.Common.{arith, ◌+◌}
use Rattle.disk.proofs.Undoing.{widened_back}
use Rattle.disk.proofs.undo.Undo.widen_back.Goals as goal

pub returns-clause-same : goal.returns-clause-same
returns-clause-same c = widened_back c.args.self.now.at (c.args.self.now.at + c.len.result) c.args.upto c.args.self.now.bytes.items c.args.held.now c.extend_from_slice.new.self.items (omega (arith, c.len.ensures)) (omega (arith, c.if-upto-end.false)) c.requires.place c.in_ok-extend_from_slice.ensures.items
