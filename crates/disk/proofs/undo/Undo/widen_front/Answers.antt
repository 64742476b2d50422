use Rattle.std.proofs.Common.{arith}
use Rattle.disk.proofs.Undoing.{widened_front}
use Rattle.disk.proofs.undo.Undo.widen_front.Goals as goal

pub returns-clause-same : goal.returns-clause-same
returns-clause-same c = widened_front c.args.self.now.at c.args.from c.args.self.now.bytes.items c.args.held.now c.put_before.new.bytes.items (omega (arith, c.if-self-from.false)) (omega (arith, c.requires.inside)) c.in_ok-put_before.ensures.ok
