use Rattle.std.proofs.Common.{Some}
use Rattle.checkpoint_format.specs.Starts.{cell_from}
use Rattle.checkpoint_format.proofs.Starts.{found_by, found_ok}
use Rattle.checkpoint_format.proofs.read_page.ReadPage.find.Goals as goal

pub returns-in-None : goal.returns-in-None
returns-in-None c =
    found_by c.args.self.now c.self.inside.bytes c.as_slice.result.now c.args.key.now c.self.inside.starts.items c.deref.result.now _ c.first_from.ensures.bytes c.self.invariant c.self.view_is c.as_slice.ensures c.deref.ensures.value c.in-None.ensures.first

pub returns-in-Some : goal.returns-in-Some
returns-in-Some c =
    found_ok c.cell_from.result _ (cell_from c.self.inside.bytes c.args.key.now c.in-Some.start)
    (found_by c.args.self.now c.self.inside.bytes c.as_slice.result.now c.args.key.now c.self.inside.starts.items c.deref.result.now (Some c.in-Some.start) c.first_from.ensures.bytes c.self.invariant c.self.view_is c.as_slice.ensures c.deref.ensures.value c.in-Some.ensures.first)
    c.cell_from.ensures
