use Rattle.std.proofs.Common.{◌∙◌, ◌∷◌, ◌-◌, List, ℕ, ap, drop, length, subst, sym, take}
use Rattle.std.proofs.lemmas.Bool.{true≢false}
use Rattle.std.proofs.lemmas.Result.{IfOk-weaker}
use Rattle.script_lines.specs.Grammar.{HasForm}
use Rattle.script_lines.proofs.Beginnings.{form_spelled, no_verb}
use Rattle.script_lines.proofs.Lists.{filled_texts, filled_words, texts, texts_from_first}
use Rattle.script_lines.proofs.reading.parse.Goals as goal

pub returns-then-not-all_filled-clause-none : goal.returns-then-not-all_filled-clause-none
returns-then-not-all_filled-clause-none c = λ line h.
    true≢false (sym (c.all_filled.ensures.1 (filled_words c.args.words.now h.0)) ∙ c.if-not-all_filled.true)

pub returns-in-Some-clause-found : goal.returns-in-Some-clause-found
returns-in-Some-clause-found c =
    let words = c.args.words.now in
    let first = texts_from_first words _ c.in-len1-up.len_at_least in
    let row = first ∙ ap (λ (t : List ℕ). t ∷ texts (take (length words - 1) (drop 1 words))) c.in-Some.ensures in
    IfOk-weaker c.line_behind.result _ _
    (λ read form. form_spelled read (texts words) _ (filled_texts words (c.all_filled.ensures.0 c.if-not-all_filled.false)) row form)
    c.line_behind.ensures

pub returns-in-None-clause-none : goal.returns-in-None-clause-none
returns-in-None-clause-none c = λ line h.
    no_verb _ _ c.in-None.ensures line (subst (HasForm line) (texts_from_first c.args.words.now _ c.in-len1-up.len_at_least) h.1)
