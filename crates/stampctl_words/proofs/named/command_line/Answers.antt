use Rattle.std.proofs.Common.{◌≡◌, ◌∙◌, ap, ap₂, codes, true}
use Rattle.std.proofs.lemmas.Result.{IfOk-weaker}
use Rattle.clap.specs.Words.{app_of, new_app, with_subcommand}
use Rattle.clap.specs.Simple.{app_of_fields, on_top}
use Rattle.stampctl_words.proofs.named.command_line.Goals as goal

pub returns : goal.returns
returns c =
    let about : app_of c.about.result ≡ new_app (codes "stampctl") = ap app_of_fields c.about.ensures ∙ c.new.ensures.app in
    let after : app_of c.after_help.result ≡ new_app (codes "stampctl") = ap app_of_fields c.after_help.ensures ∙ about in
    let top : app_of c.disable_help_subcommand.result ≡ on_top (λ s. record s { disable_help_subcommand = true }) (new_app (codes "stampctl")) =
    ap app_of_fields c.disable_help_subcommand.ensures ∙ ap (on_top (λ s. record s { disable_help_subcommand = true })) after in
    let run = c.in_ok-subcommand.ensures.shape c.in_ok-run.ensures.local ∙ ap₂ with_subcommand top c.in_ok-run.ensures.shape in
    let trace = c.in_ok-subcommand-2.ensures.shape c.in_ok-trace.ensures.local ∙ ap₂ with_subcommand run c.in_ok-trace.ensures.shape in
    let draw = c.in_ok-subcommand-3.ensures.shape c.in_ok-draw.ensures.local ∙ ap₂ with_subcommand trace c.in_ok-draw.ensures.shape in
    let dump = c.in_ok-subcommand-4.ensures.shape c.in_ok-dump.ensures.local ∙ ap₂ with_subcommand draw c.in_ok-dump.ensures.shape in
    IfOk-weaker c.subcommand-5.result _ _ (λ new added. added.shape c.in_ok-migrate.ensures.local ∙ ap₂ with_subcommand dump c.in_ok-migrate.ensures.shape) c.subcommand-5.ensures
