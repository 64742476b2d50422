-- A line that is written from its end to its beginning.
use Rattle.std.proofs.Common.{◌≡◌, ◌+◌, ◌-◌, ◌^◌, ◌<◌, ◌≤◌, ◌∙◌, ◌++◌, ◌∷◌, [], ℕ, List, ap, arith, drop, length, length-append, length-drop, set, sym}
use Rattle.std.proofs.lemmas.List.{drop-set}
use Rattle.std.proofs.Math.Seq.{drop-length}
use Rattle.std.proofs.lemmas.Fmt.{length-decimal-le}
use Rattle.std.specs.Fmt.{decimal}

-- so many digits at most
pub short_decimal : (n : ℕ) → n < 2 ^ 64 → length (decimal n) ≤ 20
short_decimal n below =
    let wide : n < 10 ^ 20 = omega arith in
    length-decimal-le 20 n (omega arith) wide below

-- there is room for a number, and for the blank before it
pub number_fits : (n start : ℕ) (bytes text : List ℕ) → n < 2 ^ 64 → length bytes ≡ 512 → drop start bytes ≡ text → start ≤ 512 → length text + 21 ≤ 512 → length (decimal n) + 1 ≤ start
number_fits n start bytes text below whole is within room =
    omega (arith, short_decimal n below, ap length is, length-drop start bytes)

-- the newline alone
pub cleared : (bytes : List ℕ) → length bytes ≡ 512 → drop 511 (set bytes 511 10) ≡ 10 ∷ []
cleared bytes whole = drop-set bytes 511 10 (omega (arith, whole)) ∙ ap (λ l. 10 ∷ l) (ap (λ n. drop n bytes) (sym whole) ∙ drop-length bytes)

-- a number that was written before the text, and then the blank
pub number_before : (n start first : ℕ) (before bytes text : List ℕ) → drop first bytes ≡ decimal n ++ drop start before → drop start before ≡ text
    → 1 ≤ first → first ≤ length bytes → drop (first - 1) (set bytes (first - 1) 32) ≡ 32 ∷ decimal n ++ text
number_before n start first before bytes text written is some within =
    let below : first - 1 < length bytes = omega arith in
    let next : first - 1 + 1 ≡ first = omega arith in
    drop-set bytes (first - 1) 32 below ∙ ap (λ m. 32 ∷ drop m bytes) next ∙ ap (λ l. 32 ∷ l) (written ∙ ap (λ l. decimal n ++ l) is)

-- and how long it is then
pub number_short : (n : ℕ) (line text : List ℕ) → n < 2 ^ 64 → line ≡ 32 ∷ decimal n ++ text → length line ≤ length text + 21
number_short n line text below is =
    let whole : length line ≡ length (32 ∷ decimal n) + length text = ap length is ∙ length-append (32 ∷ decimal n) text in
    omega (arith, short_decimal n below, whole)
