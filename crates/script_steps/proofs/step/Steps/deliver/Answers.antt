use Rattle.std.proofs.Common.{◌∙◌, ◌++◌, ℕ, List, OnOk, ap, length, refl, subst}
use Rattle.std.proofs.lemmas.Result.{on_ok_weaker}
use Rattle.script_steps.specs.Steps.{AddsOne, StepDelivers, StepsKept}
use Rattle.script_steps.proofs.Adding.{delivered_step}
use Rattle.script_steps.proofs.step.Steps.deliver.Goals as goal

pub returns-clause-added : goal.returns-clause-added
returns-clause-added c =
    let was : StepsKept = record { session = c.self.inside.session; steps = c.self.inside.steps.items } in
    let told = c.in_ok-deliver.ensures.delivers in
    subst (λ (x : StepsKept). OnOk c.push.result (AddsOne x c.push.new.self (λ step. StepDelivers c.args.place c.args.number x.session step c.push.new.self.session))) c.self.view_is
    (on_ok_weaker c.push.result
    (λ kept. delivered_step was c.push.new.self c.deliver.new.self _ c.args.place c.args.number told.0 kept c.sent-first.ensures.led refl refl (ap (λ l. length l) c.sent-first.ensures.sent) refl
    (told.2 ∙ ap (λ (l : List ℕ). l ++ told.0) c.new-printed.ensures.items) told.1)
    c.push.ensures.kept)
