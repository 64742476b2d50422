use Rattle.std.proofs.Common.{rules}
use Rattle.pmap_table.proofs.entry.assign_entry.Goals as goal

pub returns : goal.returns
returns c = search rules
