-- How words with hyphens are spelled, and what is no such word.
use Rattle.std.proofs.Common.{◌≡◌, ◌∙◌, ◌++◌, ◌==◌, ◌||◌, ◌<◌, ◌+◌, ℕ, Bool, cond, codes, true, false, refl, sym, ap, subst, inl, inr, arith, [], ◌∷◌, length, drop, get_or, Option, Some, None, option_and_then, slice_get, bytes_eq}
use Rattle.std.specs.List.{position_or_len}
use Rattle.std.proofs.lemmas.Bool.{eqb-true, false_from_ne_true, or_parts, true≢false}
use Rattle.std.proofs.lemmas.List.{take_all}
use Rattle.std.proofs.lemmas.List.Sums.{passes_at_first, split_at_first}
use Rattle.std.proofs.lemmas.Slice.Eq.{bytes_eq-Decides}
use Rattle.std.proofs.lemmas.Str.Parse.{digit_from_value}
use Rattle.clap.specs.Lexer.{has_byte, long_of, long_of_rest, name_and_value, short_of, strip_byte}
use Rattle.clap.specs.Walk.{Text}
use Rattle.stampctl_words.specs.Words.{IsFile, IsNumber, MayBeFile}

abbrev pub dashes : Text
dashes = codes "--"

pub same_word : (xs ys : Text) → bytes_eq xs ys ≡ true → xs ≡ ys
same_word xs ys e = (bytes_eq-Decides xs ys).0 e

pub same_in_some : {X : Type 0} (x y : X) → Some x ≡ Some y → x ≡ y
same_in_some x y e = cc

-- an option's word after its two hyphens: its name, and its value after `=` (61) if it stands there
abbrev pub spelled : Text → Option Text → Text
spelled name None = name
spelled name (Some value) = name ++ 61 ∷ value

abbrev is_equals : ℕ → Bool
is_equals x = x == 61

equals_within : (text : Text) → has_byte 61 text ≡ true → position_or_len is_equals text < length text
equals_within [] e = absurd (true≢false (sym e))
equals_within (x ∷ xs) e = go (x == 61) refl e (equals_within xs)
  where
    go : (b : Bool) → (x == 61) ≡ b → (b || has_byte 61 xs) ≡ true → (has_byte 61 xs ≡ true → position_or_len is_equals xs < length xs) → position_or_len is_equals (x ∷ xs) < length (x ∷ xs)
    go true is here rest = rw is (omega arith)
    go false is here rest = let within : position_or_len is_equals xs < length xs = rest here in rw is (omega arith)

no_equals : (text : Text) → has_byte 61 text ≡ false → length text ≡ position_or_len is_equals text
no_equals [] e = refl
no_equals (x ∷ xs) e =
    let parts = or_parts (x == 61) (has_byte 61 xs) e in
    let rest : length xs ≡ position_or_len is_equals xs = no_equals xs parts.1 in
    rw parts.0 (omega arith)

name_spelled : (text : Text) → text ≡ spelled (name_and_value text).0 (name_and_value text).1
name_spelled text = go (has_byte 61 text) refl
  where
    go : (b : Bool) → has_byte 61 text ≡ b → text ≡ spelled (name_and_value text).0 (name_and_value text).1
    go true has =
        let within = equals_within text has in
        let is : get_or text (position_or_len is_equals text) 61 ≡ 61 = eqb-true _ _ (passes_at_first is_equals text 61 within) in
        rw has (split_at_first is_equals text 61 within ∙ ap (λ (y : ℕ). (name_and_value text).0 ++ y ∷ drop (position_or_len is_equals text + 1) text) is)
    go false has =
        let all : length text ≡ position_or_len is_equals text = no_equals text has in
        rw has (sym (take_all (position_or_len is_equals text) text (omega arith)))

stripped : (c : ℕ) (word rest : Text) → strip_byte c word ≡ Some rest → word ≡ c ∷ rest
stripped c [] rest e = cc
stripped c (x ∷ xs) rest e = go (x == c) refl e
  where
    go : (b : Bool) → (x == c) ≡ b → cond b (Some xs) None ≡ Some rest → x ∷ xs ≡ c ∷ rest
    go true is same = ap (λ (y : ℕ). y ∷ xs) (eqb-true x c is) ∙ ap (λ (ys : Text). c ∷ ys) (same_in_some xs rest same)
    go false is same = let bad : ◌≡◌ {A = Option Text} None (Some rest) = same in cc

-- a word with two hyphens is spelled by its name and its value
pub long_spelled : (word name : Text) (value : Option Text) → long_of word ≡ Some (name, value) → word ≡ 45 ∷ 45 ∷ spelled name value
long_spelled word name value e = first (strip_byte 45 word) refl e
  where
    third : (more : Text) → long_of_rest more ≡ Some (name, value) → more ≡ spelled name value
    third [] same = let bad : ◌≡◌ {A = Option (Text × Option Text)} None (Some (name, value)) = same in cc
    third (x ∷ xs) same =
        let is : name_and_value (x ∷ xs) ≡ (name, value) = same_in_some _ _ same in
        name_spelled (x ∷ xs) ∙ ap (λ (p : Text × Option Text). spelled p.0 p.1) is

    second : (rest : Text) (o : Option Text) → strip_byte 45 rest ≡ o → option_and_then long_of_rest o ≡ Some (name, value) → rest ≡ 45 ∷ spelled name value
    second rest None is same = let bad : ◌≡◌ {A = Option (Text × Option Text)} None (Some (name, value)) = same in cc
    second rest (Some more) is same = stripped 45 rest more is ∙ ap (λ (xs : Text). 45 ∷ xs) (third more same)

    first : (o : Option Text) → strip_byte 45 word ≡ o → option_and_then long_of_rest (option_and_then (strip_byte 45) o) ≡ Some (name, value) → word ≡ 45 ∷ 45 ∷ spelled name value
    first None is same = let bad : ◌≡◌ {A = Option (Text × Option Text)} None (Some (name, value)) = same in cc
    first (Some rest) is same = stripped 45 word rest is ∙ ap (λ (xs : Text). 45 ∷ xs) (second rest (strip_byte 45 rest) refl same)

-- a word without a name after two hyphens may be a file, but for `--`
pub may_be_file : (word : Text) → bytes_eq word dashes ≡ false → long_of word ≡ None → MayBeFile word
may_be_file [] other none e = let bad : ◌≡◌ {A = Text} [] (codes "--") = e in cc
may_be_file (x ∷ []) other none e = let bad : ◌≡◌ {A = Text} (x ∷ []) (codes "--") = e in cc
may_be_file (x ∷ y ∷ []) other none e =
    let bad : true ≡ false = sym (ap (λ (w : Text). bytes_eq w dashes) e) ∙ other in
    true≢false bad
may_be_file (x ∷ y ∷ z ∷ rest) other none e =
    let bad : ◌≡◌ {A = Option (Text × Option Text)} (Some (name_and_value (z ∷ rest))) None = sym (ap (λ (w : Text). long_of (w ++ z ∷ rest)) e) ∙ none in
    cc

-- what no parser takes for an option or a flag
pub record IsNoFlag (word : Text) : Type 0 where
  pub other : bytes_eq word dashes ≡ false
  pub no_name : long_of word ≡ None
  pub no_flags : short_of word ≡ None

no_hyphen : (word : Text) → (slice_get word 0 ≡ Some 45 → ⊥) → IsNoFlag word
no_hyphen [] first = record { other = refl; no_name = refl; no_flags = refl }
no_hyphen (x ∷ xs) first =
    let not_first : (x == 45) ≡ false = false_from_ne_true _ (λ e. first (ap (λ (y : ℕ). Some y) (eqb-true x 45 e))) in
    record { other = rw not_first refl; no_name = rw not_first refl; no_flags = rw not_first refl }

pub file_no_flag : (word : Text) → IsFile word → IsNoFlag word
file_no_flag word is = elim is [
  | inl first ↦ no_hyphen word first
  | inr hyphen ↦ subst IsNoFlag (sym hyphen) (record { other = refl; no_name = refl; no_flags = refl })
]

pub number_no_flag : (word : Text) (n : ℕ) → IsNumber word n → IsNoFlag word
number_no_flag word n number = no_hyphen word (λ e. hyphen word e number)
  where
    hyphen : (w : Text) → slice_get w 0 ≡ Some 45 → IsNumber w n → ⊥
    hyphen [] e h = let bad : ◌≡◌ {A = Option ℕ} None (Some 45) = e in cc
    hyphen (x ∷ xs) e h =
        let is : x ≡ 45 = same_in_some x 45 e in
        let hyphened : IsNumber (45 ∷ xs) n = subst (λ (y : ℕ). IsNumber (y ∷ xs) n) is h in
        let digit = digit_from_value 45 hyphened.0.1.0 in
        absurd (omega arith)
