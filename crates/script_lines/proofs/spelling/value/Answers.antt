use Rattle.std.proofs.Common.{◌≡◌, ◌∙◌, ◌≤◌, ℕ, List, append-nil, codes, subst, sym}
use Rattle.std.specs.List.{repeat}
use Rattle.std.specs.Str.Parse.{digits_value}
use Rattle.std.proofs.lemmas.Bool.{true≢false}
use Rattle.std.proofs.lemmas.Option.{IfSome_then}
use Rattle.std.proofs.lemmas.Slice.Eq.{bytes_eq-Decides}
use Rattle.script_lines.specs.Copies.{bytes_of}
use Rattle.script_lines.specs.Limits.{most_copies}
use Rattle.script_lines.specs.Values.{AsksCopies, IsValue, after_star, before_star, copies, itself, nothing}
use Rattle.script_lines.proofs.spelling.value.Goals as goal

copied : (word count part bytes : List ℕ) → AsksCopies word → count ≡ before_star word → part ≡ after_star word
    → digits_value 10 count ≤ most_copies → bytes ≡ repeat (digits_value 10 count) part → IsValue word bytes
copied word count part bytes asks before after few items =
    let few_of : digits_value 10 (before_star word) ≤ most_copies = subst (λ (t : List ℕ). digits_value 10 t ≤ most_copies) before few in
    subst (IsValue word) (sym (items ∙ rw (before, after))) (copies asks few_of)

pub returns-in-Some-clause-found : goal.returns-in-Some-clause-found
returns-in-Some-clause-found c =
    let found = c.in-Some.ensures.found in
    IfSome_then c.repeated.result c.repeated.ensures.found
    (λ value made. copied c.args.word.now c.in-Some.count.now c.in-Some.copied.now (bytes_of value) found.0 found.1 found.2 made.0 made.1)

pub returns-then-eq-clause-found : goal.returns-then-eq-clause-found
returns-then-eq-clause-found c =
    let word : List ℕ = c.args.word.now in nothing ((bytes_eq-Decides word (codes "-")).0 (sym c.eq.ensures ∙ c.if-eq.true))

pub returns-clause-found : goal.returns-clause-found
returns-clause-found c =
    let word : List ℕ = c.args.word.now in
    let other : IsValue word word = itself c.in_default.ensures.none (λ e. true≢false (sym ((bytes_eq-Decides word (codes "-")).1 e) ∙ sym c.eq.ensures ∙ c.if-eq.false)) in
    subst (IsValue word) (sym (append-nil word)) other
