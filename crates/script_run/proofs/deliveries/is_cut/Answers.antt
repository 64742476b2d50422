use Rattle.std.proofs.Common.{ap, sym}
use Rattle.std.proofs.lemmas.Option.{slice_get_past}
use Rattle.script_run.specs.Deliveries.{is_cut}
use Rattle.script_run.proofs.deliveries.is_cut.Goals as goal

pub returns-in-None : goal.returns-in-None
returns-in-None c = ap (is_cut c.args.cut.now) (sym (slice_get_past c.args.sent.now c.args.number c.in-None.ensures.lookup.3))
