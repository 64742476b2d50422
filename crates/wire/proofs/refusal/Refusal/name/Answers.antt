use Rattle.std.proofs.Common.{rules}
use Rattle.wire.proofs.refusal.Refusal.name.Goals as goal

pub returns-in-Stale : goal.returns-in-Stale
returns-in-Stale c = search rules
