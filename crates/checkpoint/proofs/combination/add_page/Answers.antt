use Rattle.checkpoint.proofs.Fitting.{added_fit}
use Rattle.checkpoint.proofs.combination.add_page.Goals as goal

pub returns-in_ok-add_kept-in-Ok-clause-fit : goal.returns-in_ok-add_kept-in-Ok-clause-fit
returns-in_ok-add_kept-in-Ok-clause-fit c =
    added_fit c.args.within.now c.args.keys.now c.args.page.now c.args.changes.now.items c.add_kept.new.changes.items c.in-Ok.entries.items c.in-Ok.ensures c.in_ok-add_kept-in-Ok.ensures.ok
