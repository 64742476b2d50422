use Rattle.std.proofs.Common.{◌≡◌, ◌∙◌, ◌<◌, ◌^◌, ◌&&◌, ℕ, Bool, List, [], ◌∷◌, ap, sym, subst, refl, true, length, Result, Ok, Err, Option}
use Rattle.std.proofs.lemmas.Str.Parse.{IsNumeralModel, numerals_by_value, parse_digits, tells_all_ascii_digits}
use Rattle.std.specs.Option.{SomeIff}
use Rattle.std.specs.Result.{OkIff, result_ok}
use Rattle.std.specs.Char.{is_ascii_digit}
use Rattle.std.specs.List.{list_all}
use Rattle.std.specs.Str.{all_ascii_digits}
use Rattle.std.specs.Str.Parse.{digits_value}
use Rattle.script_lines.specs.Values.{IsNumber}
use Rattle.script_lines.proofs.spelling.number.Goals as goal

digits : IsNumeralModel (λ ds. all_ascii_digits ds ≡ true) (digits_value 10)
digits = numerals_by_value _ tells_all_ascii_digits

each_digit : (word : List ℕ) → list_all is_ascii_digit word ≡ all_ascii_digits word
each_digit [] = refl
each_digit (b ∷ bs) = ap (λ (rest : Bool). is_ascii_digit b && rest) (each_digit bs)

as_option : {E : Type 0} (r : Result ℕ E) (word : List ℕ) → list_all is_ascii_digit word ≡ true
    → OkIff r ((0 < length word) × (digits_value 10 word < 2 ^ 64)) (digits_value 10 word) → SomeIff (result_ok r) (IsNumber word) (digits_value 10 word)
as_option (Ok n) word all h = ((all, h.0.0, h.0.1), h.1)
as_option (Err e) word all h = λ is. h (is.1, is.2)

pub returns-then-is_numeral : goal.returns-then-is_numeral
returns-then-is_numeral c =
    let word : List ℕ = c.args.word.now in
    let all : list_all is_ascii_digit word ≡ true = sym c.is_numeral.ensures ∙ c.if-is_numeral.true in
    subst (λ (o : Option ℕ). SomeIff o (IsNumber word) (digits_value 10 word)) (sym c.ok.ensures.value)
    (as_option c.parse.result word all (parse_digits digits 64 word c.parse.result c.parse.ensures.value.0 (sym (each_digit word) ∙ all)))
