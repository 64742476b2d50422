use Rattle.std.proofs.Common.{sym, subst}
use Rattle.world_checker.specs.declared.index.Sought.TheVariants.{All, Shown}
use Rattle.world_checker.specs.Links.{AreLinks}
use Rattle.world_checker.specs.Starts.{AreAllStarts}
use Rattle.world_checker.proofs.search.first_break_indexed.Goals as goal

pub first_break-requires : goal.first_break-requires
first_break-requires c = record {
  index = record {
    to_all = subst (AreLinks All c.args.notes.now) (sym c.deref.ensures.value) c.in_ok-all.ensures.links;
    to_shown = subst (AreLinks Shown c.args.notes.now) (sym c.deref-2.ensures.value) c.in_ok-shown.ensures.links;
    told = c.in_ok-agreed.ensures;
  };
  starts = subst (AreAllStarts c.args.notes.now) (sym c.deref-3.ensures.value) c.in_ok-starts.ensures;
}
