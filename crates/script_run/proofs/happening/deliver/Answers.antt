use Rattle.std.proofs.Common.{None, refl}
use Rattle.std.proofs.lemmas.Result.{on_ok_weaker}
use Rattle.model_streams.specs.declared.event.Event.TheVariants.{Deliver}
use Rattle.script_run.proofs.Texts.{appends_nothing}
use Rattle.script_run.proofs.Writing.{tells}
use Rattle.script_run.proofs.happening.deliver.Goals as goal

pub returns-clause-told : goal.returns-clause-told
returns-clause-told g c =
    on_ok_weaker c.print_since.result
    (tells _ _ _ _ _ (Deliver c.args.number) None _ _ c.observations-shown.ensures.notes c.observations.ensures.notes c.in_ok-deliver.ensures.ok refl (appends_nothing _))
    c.print_since.ensures.printed
