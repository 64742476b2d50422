use Rattle.std.proofs.Common.{sym}
use Rattle.pmap_table.proofs.Places.{found_in}
use Rattle.pmap_table.proofs.table.RangeTable.entry.Goals as goal

pub returns-in-Some : goal.returns-in-Some
returns-in-Some c =
    rw (← c.self.view_is) (sym (found_in c.args.range c.self.inside.entries.items c.deref.result.now c.in-Some.place c.index.result.now c.deref.ensures.value c.in-Some.ensures.place c.index.ensures))
