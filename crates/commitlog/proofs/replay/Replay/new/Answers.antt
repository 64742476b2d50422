use Rattle.std.proofs.Common.{rules}
use Rattle.commitlog.proofs.replay.Replay.new.Goals as goal

pub returns : goal.returns
returns c = search rules
