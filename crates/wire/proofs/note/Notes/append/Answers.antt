use Rattle.std.proofs.Common.{rules}
use Rattle.wire.proofs.note.Notes.append.Goals as goal

pub returns-clause-ok : goal.returns-clause-ok
returns-clause-ok c = search rules
