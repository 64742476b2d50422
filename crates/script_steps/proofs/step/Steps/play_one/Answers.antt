use Rattle.std.proofs.Common.{◌∙◌, ◌++◌, ℕ, List, OnOk, ap, length, refl, subst}
use Rattle.std.proofs.lemmas.Result.{on_ok_weaker}
use Rattle.script_run.specs.Playing.{Plays}
use Rattle.script_steps.specs.Steps.{AddsOne, IsStep, StepsKept, act_of}
use Rattle.script_steps.proofs.Adding.{single_step}
use Rattle.script_steps.proofs.step.Steps.play_one.Goals as goal

pub returns-clause-added : goal.returns-clause-added
returns-clause-added c =
    let was : StepsKept = record { session = c.self.inside.session; steps = c.self.inside.steps.items } in
    let told = c.in_ok-play.ensures.played in
    subst (λ (x : StepsKept). OnOk c.push.result (AddsOne x c.push.new.self (λ step. IsStep c.args.place (act_of c.args.line) x.session step c.push.new.self.session × Plays x.session c.args.line step.printed c.push.new.self.session))) c.self.view_is
    (on_ok_weaker c.push.result
    (λ kept. single_step was c.push.new.self c.play.new.self _ c.args.place c.args.line told.0 kept c.requires c.sent-first.ensures.led refl c.act_of-act.ensures (ap (λ l. length l) c.sent-first.ensures.sent) refl
    (told.2 ∙ ap (λ (l : List ℕ). l ++ told.0) c.new-printed.ensures.items) told.1)
    c.push.ensures.kept)
