use Rattle.std.proofs.Common.{◌∙◌, Some, None, codes, lit<, sym}
use Rattle.std.proofs.lemmas.Bool.{true≢false}
use Rattle.std.proofs.lemmas.Slice.Eq.{bytes_eq-Decides}
use Rattle.std.proofs.lemmas.Str.Pattern.{strip_prefix_char}
use Rattle.script_lines.proofs.Names.{no_actor, no_server}
use Rattle.script_lines.proofs.word.actor.Goals as goal

pub returns-in_err-digits : goal.returns-in_err-digits
returns-in_err-digits c =
    let word = c.args.word.now in
    rw c.from_residual-in_err-digits.ensures (no_actor word
    (λ e. true≢false (sym ((bytes_eq-Decides word (codes "m")).1 e) ∙ sym c.eq.ensures ∙ c.if-eq.false))
    (λ e. true≢false (sym ((bytes_eq-Decides word (codes "p")).1 e) ∙ sym c.eq-2.ensures ∙ c.if-eq-2.false))
    (strip_prefix_char 110 word None c.in_default.ensures.cases (lit< tt))
    (strip_prefix_char 115 word None c.in_err-digits.ensures.cases (lit< tt)))

pub returns-in_err-numbered-2 : goal.returns-in_err-numbered-2
returns-in_err-numbered-2 c =
    let word = c.args.word.now in
    rw c.from_residual-in_err-numbered-2.ensures (no_server word c.in_ok-digits.digits.now
    (strip_prefix_char 115 word (Some c.in_ok-digits.digits) c.in_ok-digits.ensures.cases (lit< tt))
    c.in_err-numbered-2.ensures)
