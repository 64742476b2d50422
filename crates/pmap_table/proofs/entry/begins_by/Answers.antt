use Rattle.std.proofs.Common.{rules}
use Rattle.pmap_table.proofs.entry.begins_by.Goals as goal

pub returns : goal.returns
returns c = search rules
