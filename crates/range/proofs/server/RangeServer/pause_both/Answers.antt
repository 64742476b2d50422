use Rattle.range.proofs.BothRanges.{paused_both, paused_neither}
use Rattle.range.proofs.server.RangeServer.pause_both.Goals as goal

pub returns-then-pauses : goal.returns-then-pauses
returns-then-pauses c =
    paused_both c.args.self.now c.pause.new.self c.pause-then-pauses.new.self c.args.low c.args.high c.args.pauses c.if-pauses.true c.requires.apart c.pause.ensures c.pause-then-pauses.ensures

pub returns-else-pauses : goal.returns-else-pauses
returns-else-pauses c = paused_neither c.args.self.now c.args.low c.args.high c.args.pauses c.if-pauses.false
