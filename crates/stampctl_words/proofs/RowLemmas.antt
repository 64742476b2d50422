-- What is found of each argument of a subcommand, once one more value stands at the end.
use Rattle.std.proofs.Common.{◌≡◌, ◌∙◌, ◌++◌, ◌||◌, ℕ, Bool, cond, codes, true, false, refl, sym, ap, subst, List, [], ◌∷◌, Option, Some, None, append-nil, find, is_some, option_and_then, slice_get, bytes_eq}
use Rattle.std.specs.List.{list_any}
use Rattle.std.specs.Option.{option_map_or}
use Rattle.std.proofs.lemmas.Bool.{or_parts}
use Rattle.clap.specs.Facts.{explicit_source}
use Rattle.clap.specs.Takes.{is_given}
use Rattle.clap.specs.Walk.{Row, Rule, Text, at_row, first_of, has_row, more_values, one_of, row_text, used, with_values, without}
use Rattle.clap.specs.Simple.{filled, with_index}
use Rattle.clap.specs.declared.builder.value_parser.Reading.TheVariants.{AsWritten}
use Rattle.clap.specs.declared.parser.matches.ValueSource.TheVariants.{CommandLine}
use Rattle.stampctl_words.specs.CommandLine.{event_rule, file_rule}
use Rattle.stampctl_words.specs.Words.{Arguments, IsNumber}

-- the rules of the file and of an option, as a parse sees them
abbrev pub file_read : Rule
file_read = with_index 1 (filled file_rule)

abbrev pub event_read : Text → Rule
event_read id = with_index 2 (filled (event_rule id))

at_none : (id : Text) (change : Row → List Row) (missing rows : List Row) → has_row id rows ≡ false → at_row id change missing rows ≡ rows ++ missing
at_none id change missing [] none = refl
at_none id change missing (r ∷ rs) none =
    let parts = or_parts (bytes_eq r.id id) (has_row id rs) none in
    rw parts.0 (ap (λ (xs : List Row). r ∷ xs) (at_none id change missing rs parts.1))

abbrev pub one_row : Text → Text → Row
one_row id value = record {
  id = id;
  values = value ∷ [];
  count = None;
  source = Some CommandLine;
  reading = AsWritten;
}

one_more : (id value : Text) (rows : List Row) → has_row id rows ≡ false → with_values id AsWritten CommandLine (value ∷ []) (without id rows) ≡ rows ++ one_row id value ∷ []
one_more id value rows none =
    ap (with_values id AsWritten CommandLine (value ∷ [])) (at_none id (λ _. []) [] rows none ∙ append-nil rows)
    ∙ at_none id (more_values CommandLine (value ∷ [])) (one_row id value ∷ []) rows none

find_other : (p : Row → Bool) (rows : List Row) (r : Row) → p r ≡ false → find p (rows ++ r ∷ []) ≡ find p rows
find_other p [] r other = rw other refl
find_other p (x ∷ xs) r other = ap (λ (o : Option Row). cond (p x) (Some x) o) (find_other p xs r other)

find_last : (p : Row → Bool) (rows : List Row) (r : Row) → list_any p rows ≡ false → p r ≡ true → find p (rows ++ r ∷ []) ≡ Some r
find_last p [] r none here = rw here refl
find_last p (x ∷ xs) r none here =
    let parts = or_parts (p x) (list_any p xs) none in
    rw parts.0 (find_last p xs r parts.1 here)

any_more : (p : Row → Bool) (rows : List Row) (r : Row) → list_any p (rows ++ r ∷ []) ≡ (p r || list_any p rows)
any_more p [] r = refl
any_more p (x ∷ xs) r = ap (λ (b : Bool). p x || b) (any_more p xs r) ∙ swapped (p x) (p r) (list_any p xs)
  where
    swapped : (a b c : Bool) → (a || (b || c)) ≡ (b || (a || c))
    swapped true true c = refl
    swapped true false c = refl
    swapped false true c = refl
    swapped false false c = refl

-- what the text of an option says
abbrev pub IsRead : Option Text → Option ℕ → Type 0
IsRead None None = Unit {0}
IsRead (Some text) (Some n) = IsNumber text n
IsRead _ _ = ⊥

-- the rows have these arguments
pub record Holds (rows : List Row) (a : Arguments) : Type 0 where
  pub file : first_of (codes "file") rows ≡ a.file
  pub has_file : has_row (codes "file") rows ≡ is_some a.file
  pub given : is_given (codes "file") rows ≡ is_some a.file
  pub from : IsRead (one_of (codes "from") rows) a.from
  pub has_from : has_row (codes "from") rows ≡ is_some a.from
  pub to : IsRead (one_of (codes "to") rows) a.to
  pub has_to : has_row (codes "to") rows ≡ is_some a.to

-- whether the row that was found, if one was, is of a word
abbrev is_explicit : Option Row → Bool
is_explicit o = option_map_or (λ (r : Row). explicit_source r.source) o false

abbrev has_id : Text → Row → Bool
has_id id r = bytes_eq r.id id

pub holds_file : (rows : List Row) (a : Arguments) (word : Text) → Holds rows a → has_row (codes "file") rows ≡ false → Holds (used file_read (word ∷ []) rows) (record a { file = Some word })
holds_file rows a word h none =
    let more : used file_read (word ∷ []) rows ≡ rows ++ one_row (codes "file") word ∷ [] = one_more (codes "file") word rows none in
    subst (λ (xs : List Row). Holds xs (record a { file = Some word })) (sym more) (record {
      file = ap (option_and_then (λ (r : Row). slice_get r.values 0)) (find_last (has_id (codes "file")) rows (one_row (codes "file") word) none refl);
      has_file = any_more (has_id (codes "file")) rows (one_row (codes "file") word);
      given = ap is_explicit (find_last (has_id (codes "file")) rows (one_row (codes "file") word) none refl);
      from = subst (λ (o : Option Row). IsRead (option_and_then row_text o) a.from) (sym (find_other (has_id (codes "from")) rows (one_row (codes "file") word) refl)) h.from;
      has_from = any_more (has_id (codes "from")) rows (one_row (codes "file") word) ∙ h.has_from;
      to = subst (λ (o : Option Row). IsRead (option_and_then row_text o) a.to) (sym (find_other (has_id (codes "to")) rows (one_row (codes "file") word) refl)) h.to;
      has_to = any_more (has_id (codes "to")) rows (one_row (codes "file") word) ∙ h.has_to;
    })

pub holds_from : (rows : List Row) (a : Arguments) (word : Text) (n : ℕ) → IsNumber word n → Holds rows a → has_row (codes "from") rows ≡ false
    → Holds (used (event_read (codes "from")) (word ∷ []) rows) (record a { from = Some n })
holds_from rows a word n number h none =
    let more : used (event_read (codes "from")) (word ∷ []) rows ≡ rows ++ one_row (codes "from") word ∷ [] = one_more (codes "from") word rows none in
    subst (λ (xs : List Row). Holds xs (record a { from = Some n })) (sym more) (record {
      file = ap (option_and_then (λ (r : Row). slice_get r.values 0)) (find_other (has_id (codes "file")) rows (one_row (codes "from") word) refl) ∙ h.file;
      has_file = any_more (has_id (codes "file")) rows (one_row (codes "from") word) ∙ h.has_file;
      given = ap is_explicit (find_other (has_id (codes "file")) rows (one_row (codes "from") word) refl) ∙ h.given;
      from = subst (λ (o : Option Row). IsRead (option_and_then row_text o) (Some n)) (sym (find_last (has_id (codes "from")) rows (one_row (codes "from") word) none refl)) number;
      has_from = any_more (has_id (codes "from")) rows (one_row (codes "from") word);
      to = subst (λ (o : Option Row). IsRead (option_and_then row_text o) a.to) (sym (find_other (has_id (codes "to")) rows (one_row (codes "from") word) refl)) h.to;
      has_to = any_more (has_id (codes "to")) rows (one_row (codes "from") word) ∙ h.has_to;
    })

pub holds_to : (rows : List Row) (a : Arguments) (word : Text) (n : ℕ) → IsNumber word n → Holds rows a → has_row (codes "to") rows ≡ false
    → Holds (used (event_read (codes "to")) (word ∷ []) rows) (record a { to = Some n })
holds_to rows a word n number h none =
    let more : used (event_read (codes "to")) (word ∷ []) rows ≡ rows ++ one_row (codes "to") word ∷ [] = one_more (codes "to") word rows none in
    subst (λ (xs : List Row). Holds xs (record a { to = Some n })) (sym more) (record {
      file = ap (option_and_then (λ (r : Row). slice_get r.values 0)) (find_other (has_id (codes "file")) rows (one_row (codes "to") word) refl) ∙ h.file;
      has_file = any_more (has_id (codes "file")) rows (one_row (codes "to") word) ∙ h.has_file;
      given = ap is_explicit (find_other (has_id (codes "file")) rows (one_row (codes "to") word) refl) ∙ h.given;
      from = subst (λ (o : Option Row). IsRead (option_and_then row_text o) a.from) (sym (find_other (has_id (codes "from")) rows (one_row (codes "to") word) refl)) h.from;
      has_from = any_more (has_id (codes "from")) rows (one_row (codes "to") word) ∙ h.has_from;
      to = subst (λ (o : Option Row). IsRead (option_and_then row_text o) (Some n)) (sym (find_last (has_id (codes "to")) rows (one_row (codes "to") word) none refl)) number;
      has_to = any_more (has_id (codes "to")) rows (one_row (codes "to") word);
    })
