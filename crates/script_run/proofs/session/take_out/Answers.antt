use Rattle.std.proofs.Common.{rules, not}
use Rattle.std.proofs.lemmas.Fn.{filter_same}
use Rattle.script_run.specs.Deliveries.{is_same}
use Rattle.script_run.proofs.session.take_out.Goals as goal

pub returns : goal.returns
returns c = filter_same _ (λ other. not (is_same other c.args.actor)) _ (λ x b q h. search rules) _ _ c.retain.ensures.filtered
