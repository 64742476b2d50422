-- The rules of a subcommand with a file, which may be left out unless `needs_file`, and, if it draws, two options; and how each of its words is
-- walked.
use Rattle.std.proofs.Common.{◌≡◌, ◌∙◌, ◌&&◌, ◌||◌, ◌⊎◌, ◌<◌, ◌≤◌, ◌^◌, ℕ, Bool, cond, codes, true, false, not, refl, sym, ap, ap₂, subst, inl, inr, arith, List, [], ◌∷◌, Option, Some, None, bytes_eq, fold, nat_lt}
use Rattle.std.specs.Str.Parse.{digits_value, without_leading_plus}
use Rattle.std.proofs.lemmas.Slice.Eq.{bytes_eq-Decides}
use Rattle.clap.specs.Lexer.{long_of}
use Rattle.clap.specs.ValueTests.{accepts}
use Rattle.clap.specs.Kinds.{Kinds, or_else, value_kinds}
use Rattle.clap.specs.Faults.{long_fault, positional_fault, repeat_fault, settle_fault, short_fault, step_fault, turn_fault, use_fault}
use Rattle.clap.specs.Simple.{Shape, filled, help_rule, new_shape, with_index}
use Rattle.std.specs.Option.{option_map_or}
use Rattle.clap.specs.Walk.{Held, Row, Rule, Text, Waiting, Walk, after_flag, after_step, arg_by_id, arg_by_index, arg_by_long, arg_by_short, has_long, has_row, has_short, idle, is_pending, long_met, next, option, option_word, plain_word, pushed, settled, settled_rows, used, used_by_id, value, walked, with_default}
use Rattle.clap.specs.declared.builder.value_parser.ValueParser.{ValueParser}
use Rattle.clap.specs.declared.builder.value_parser.ValueParser.TheVariants.{Unsigned}
use Rattle.clap.specs.declared.error.kind.ErrorKind.TheVariants.{ArgumentConflict, DisplayHelp, InvalidValue, TooManyValues, UnknownArgument, ValueValidation}
use Rattle.clap.proofs.KindLemmas.{value_kinds-ok}
use Rattle.clap.proofs.ValueTestLemmas.{accepts-Accepts}
use Rattle.stampctl_words.specs.Words.{IsNumber}
use Rattle.stampctl_words.proofs.RowLemmas.{event_read, file_read}
use Rattle.stampctl_words.proofs.SpellingLemmas.{dashes, same_word}
use Rattle.stampctl_words.proofs.TurnLemmas.{Knows, Long, Refuses, fault_by, held, met_by, nil_or, or_nil, state, turn_is, walked_is}

-- the rule of `-h` and `--help`, which a walk answers with help
abbrev pub help_read : Rule
help_read = with_index 2 (filled help_rule)

abbrev options : Bool → List Rule
options false = help_read ∷ []
options true = event_read (codes "from") ∷ event_read (codes "to") ∷ help_read ∷ []

abbrev pub rules : Bool → Bool → List Rule
rules needs_file has_options = record file_read { required = needs_file } ∷ options has_options

abbrev pub leaf : Bool → Bool → Text → Shape
leaf needs_file has_options name = record (new_shape name) {
  rules = rules needs_file has_options;
  is_built = true;
  disable_help_subcommand = true;
}

-- the names of its options
abbrev pub IsOption : Bool → Text → Type 0
IsOption has_options id = (has_options ≡ true) × ((id ≡ codes "from") ⊎ (id ≡ codes "to"))

-- ---- what is refused by its name

pub refuses_long : (c : List Rule) (name : Text) (attached : Option Text) (h : Held) → long_fault c false (cond (has_long help_read name) (Some help_read) None) attached h ≡ [] → ⊥
refuses_long c name attached h e = go (has_long help_read name) attached e
  where
    go : (b : Bool) (v : Option Text) → long_fault c false (cond b (Some help_read) None) v h ≡ [] → ⊥
    go false v none = let bad : ◌≡◌ {A = Kinds} (UnknownArgument ∷ []) [] = none in cc
    go true (Some t) none = let bad : ◌≡◌ {A = Kinds} (TooManyValues ∷ []) [] = none in cc
    go true None none = let bad : ◌≡◌ {A = Kinds} (DisplayHelp ∷ []) [] = (or_nil (settle_fault c false h) (DisplayHelp ∷ []) none).1 in cc

pub refuses_short : (c : List Rule) (x : ℕ) (rest : Text) (h : Held) (on : Held → Kinds) → short_fault c false (cond (has_short help_read x) (Some help_read) None) rest h on ≡ [] → ⊥
refuses_short c x rest h on e = go (has_short help_read x) e
  where
    go : (b : Bool) → short_fault c false (cond b (Some help_read) None) rest h on ≡ [] → ⊥
    go false none = let bad : ◌≡◌ {A = Kinds} (UnknownArgument ∷ []) [] = none in cc
    go true none =
        let first = or_nil (or_else (settle_fault c false h) (DisplayHelp ∷ [])) _ none in
        let bad : ◌≡◌ {A = Kinds} (DisplayHelp ∷ []) [] = (or_nil (settle_fault c false h) (DisplayHelp ∷ []) first.0).1 in
        cc

or_no : (x : Bool) → (x || false) ≡ x
or_no true = refl
or_no false = refl

and_no : (x : Bool) → (x && false) ≡ false
and_no true = refl
and_no false = refl

pub shorts : (needs_file has_options : Bool) (name : Text) (x : ℕ) (rest : Text) (h : Held) (on : Held → Kinds) → short_fault (rules needs_file has_options) false (arg_by_short (rules needs_file has_options) x) rest h on ≡ [] → ⊥
shorts needs_file false name x rest h on e = refuses_short (rules needs_file false) x rest h on e
shorts needs_file true name x rest h on e = refuses_short (rules needs_file true) x rest h on e

-- the rule that a name names, by whether it is one option or the other
abbrev long_of_two : Text → Bool → Bool → Option Rule
long_of_two id is_from is_to =
    cond (is_from || false) (Some (event_read (codes "from"))) (cond (is_to || false) (Some (event_read (codes "to"))) (cond (has_long help_read id) (Some help_read) None))

pub longs : (needs_file has_options : Bool) (name id : Text) → Long (leaf needs_file has_options name) (IsOption has_options) id
longs needs_file false name id = Refuses (refuses_long (rules needs_file false) id)
longs needs_file true name id = from (bytes_eq (codes "from") id) refl
  where
    to : bytes_eq (codes "from") id ≡ false → (is_to : Bool) → bytes_eq (codes "to") id ≡ is_to → Long (leaf needs_file true name) (IsOption true) id
    to no_from true same =
        let is : codes "to" ≡ id = same_word (codes "to") id same in
        Knows (refl, inr (sym is)) (ap₂ (long_of_two id) no_from same ∙ ap (λ (t : Text). Some (event_read t)) is)
    to no_from false no_to =
        Refuses (λ attached h e. refuses_long (rules needs_file true) id attached h (subst (λ (o : Option Rule). long_fault (rules needs_file true) false o attached h ≡ []) (ap₂ (long_of_two id) no_from no_to) e))

    from : (is_from : Bool) → bytes_eq (codes "from") id ≡ is_from → Long (leaf needs_file true name) (IsOption true) id
    from true same =
        let is : codes "from" ≡ id = same_word (codes "from") id same in
        Knows (refl, inl (sym is)) (ap (λ (d : Bool). long_of_two id d (bytes_eq (codes "to") id)) same ∙ ap (λ (t : Text). Some (event_read t)) is)
    from false no_from = to no_from (bytes_eq (codes "to") id) refl

-- ---- its rules by name and by place

pub option_named : (needs_file has_options : Bool) (id : Text) → IsOption has_options id
    → (arg_by_id (rules needs_file has_options) id ≡ Some (event_read id)) × (arg_by_long (rules needs_file has_options) id ≡ Some (event_read id))
option_named needs_file has_options id known =
    subst (λ (b : Bool). (arg_by_id (rules needs_file b) id ≡ Some (event_read id)) × (arg_by_long (rules needs_file b) id ≡ Some (event_read id))) (sym known.0)
    (elim known.1 [
      | inl is ↦ subst (λ (t : Text). (arg_by_id (rules needs_file true) t ≡ Some (event_read t)) × (arg_by_long (rules needs_file true) t ≡ Some (event_read t))) (sym is) (refl, refl)
      | inr is ↦ subst (λ (t : Text). (arg_by_id (rules needs_file true) t ≡ Some (event_read t)) × (arg_by_long (rules needs_file true) t ≡ Some (event_read t))) (sym is) (refl, refl)
    ])

no_second : (needs_file has_options : Bool) → arg_by_index (rules needs_file has_options) 2 ≡ None
no_second needs_file false = refl
no_second needs_file true = refl

-- no argument has a default
pub no_defaults : (needs_file has_options : Bool) (rows : List Row) → fold with_default rows (rules needs_file has_options) ≡ rows
no_defaults needs_file has_options rows = each has_options (with_default rows file_read) ∙ same (has_row (codes "file") rows) rows
  where
    same : (b : Bool) (xs : List Row) → cond b xs xs ≡ xs
    same true xs = refl
    same false xs = refl

    each : (b : Bool) (xs : List Row) → fold with_default xs (options b) ≡ xs
    each false xs = same (has_row (codes "help") xs) xs
    each true xs =
        same (has_row (codes "help") (with_default (with_default xs (event_read (codes "from"))) (event_read (codes "to")))) (with_default (with_default xs (event_read (codes "from"))) (event_read (codes "to")))
        ∙ same (has_row (codes "to") (with_default xs (event_read (codes "from")))) (with_default xs (event_read (codes "from")))
        ∙ same (has_row (codes "from") xs) xs

-- ---- one value of a file or an option

new_id : (id : Text) (rows : List Row) → repeat_fault false id rows ≡ [] → has_row id rows ≡ false
new_id id rows e = go (has_row id rows) refl e
  where
    go : (b : Bool) → has_row id rows ≡ b → cond (b && not false) (ArgumentConflict ∷ []) [] ≡ [] → has_row id rows ≡ false
    go false is none = is
    go true is none = let bad : ◌≡◌ {A = Kinds} (ArgumentConflict ∷ []) [] = none in cc

no_repeat : (id : Text) (rows : List Row) → has_row id rows ≡ false → repeat_fault false id rows ≡ []
no_repeat id rows none = ap (λ (b : Bool). cond (b && not false) (ArgumentConflict ∷ []) []) none

pub file_new : (rows : List Row) (word : Text) → use_fault false file_read (word ∷ []) rows ≡ [] → has_row (codes "file") rows ≡ false
file_new rows word e = new_id (codes "file") rows (or_nil (repeat_fault false (codes "file") rows) [] e).0

pub file_fits : (rows : List Row) (word : Text) → has_row (codes "file") rows ≡ false → use_fault false file_read (word ∷ []) rows ≡ []
file_fits rows word none = nil_or (repeat_fault false (codes "file") rows) [] (no_repeat (codes "file") rows none) refl

abbrev number_parser : ValueParser
number_parser = Unsigned 0 18446744073709551615

pub number_new : (id : Text) (rows : List Row) (word : Text) → use_fault false (event_read id) (word ∷ []) rows ≡ []
    → (has_row id rows ≡ false) × IsNumber word (digits_value 10 (without_leading_plus word))
number_new id rows word e =
    let parts = or_nil (repeat_fault false id rows) (or_else (value_kinds false number_parser word) []) e in
    let accepted = accepts-Accepts false number_parser word (go (accepts false number_parser word) refl (or_nil (value_kinds false number_parser word) [] parts.1).0) in
    (new_id id rows parts.0, (accepted.0, refl, accepted.1))
  where
    go : (b : Bool) → accepts false number_parser word ≡ b → cond b [] (ValueValidation ∷ []) ≡ [] → accepts false number_parser word ≡ true
    go true is none = is
    go false is none = let bad : ◌≡◌ {A = Kinds} (ValueValidation ∷ []) [] = none in cc

pub number_fits : (id : Text) (rows : List Row) (word : Text) (n : ℕ) → has_row id rows ≡ false → IsNumber word n → use_fault false (event_read id) (word ∷ []) rows ≡ []
number_fits id rows word n none number =
    let is = number.1 in
    let below = number.2 in
    let low : 0 ≤ digits_value 10 (without_leading_plus word) = omega arith in
    let small : digits_value 10 (without_leading_plus word) < 2 ^ 64 = omega arith in
    let most : digits_value 10 (without_leading_plus word) ≤ 18446744073709551615 = omega arith in
    let accepted : value_kinds false number_parser word ≡ [] = value_kinds-ok false number_parser word (number.0, small, low, most) in
    nil_or (repeat_fault false id rows) _ (no_repeat id rows none) (nil_or (value_kinds false number_parser word) [] accepted refl)

-- ---- a word that goes to the file

module _ (needs_file has_options : Bool) (name : Text) (rows : List Row) (pending : Option (Text × List Text)) (waiting : Waiting) (word : Text) where
  abbrev h : Held
  h = held rows pending

  pub file_fault : step_fault (leaf needs_file has_options name) 1 h value ≡ settle_fault (rules needs_file has_options) false h
  file_fault = ap (λ (several : Bool). cond several [] (settle_fault (rules needs_file has_options) false h)) (and_no (is_pending file_read pending))

  abbrev with_file : Bool → Bool → Walk
  with_file several is_trailing = record {
    held = pushed (codes "file") word (cond several h (settled (rules needs_file has_options) h));
    waiting = idle;
    position = 2;
    is_trailing = is_trailing;
    stopped = None;
  }

  pub file_moved : (is_trailing : Bool) → after_step (rules needs_file has_options) word (state rows pending waiting 1 is_trailing) h value ≡ state (settled_rows (rules needs_file has_options) pending rows) (Some (codes "file", word ∷ [])) idle 2 is_trailing
  file_moved is_trailing = ap₂ with_file (and_no (is_pending file_read pending)) (or_no is_trailing)

  -- a second file
  pub stray : step_fault (leaf needs_file has_options name) 2 h value ≡ [] → ⊥
  stray e =
      let bad : ◌≡◌ {A = Kinds} (UnknownArgument ∷ []) [] =
      subst (λ (o : Option Rule). option_map_or (λ (a : Rule). positional_fault (rules needs_file has_options) false a h) o (UnknownArgument ∷ []) ≡ []) (no_second needs_file has_options) e in
      cc

-- ---- an option and its value

module _ (needs_file has_options : Bool) (name id : Text) (known : IsOption has_options id) (rows : List Row) (position : ℕ) where
  abbrev by_id : arg_by_id (rules needs_file has_options) id ≡ Some (event_read id)
  by_id = (option_named needs_file has_options id known).0

  abbrev by_long : arg_by_long (rules needs_file has_options) id ≡ Some (event_read id)
  by_long = (option_named needs_file has_options id known).1

  module _ (pending : Option (Text × List Text)) (word : Text) (other : bytes_eq word dashes ≡ false) (attached : Option Text) (is : long_of word ≡ Some (id, attached)) where
    abbrev at : Walk
    at = state rows pending idle position false

    abbrev fault_at : Option Rule → Kinds
    fault_at o = or_else (long_fault (rules needs_file has_options) false o attached (held rows pending))
        (step_fault (leaf needs_file has_options name) position (after_flag (rules needs_file has_options) idle word (long_met (rules needs_file has_options) o attached (held rows pending)).0 (long_met (rules needs_file has_options) o attached (held rows pending)).1).0 (after_flag (rules needs_file has_options) idle word (long_met (rules needs_file has_options) o attached (held rows pending)).0 (long_met (rules needs_file has_options) o attached (held rows pending)).1).1)

    abbrev moved_at : Option Rule → Walk
    moved_at o = after_step (rules needs_file has_options) word at (after_flag (rules needs_file has_options) idle word (long_met (rules needs_file has_options) o attached (held rows pending)).0 (long_met (rules needs_file has_options) o attached (held rows pending)).1).0 (after_flag (rules needs_file has_options) idle word (long_met (rules needs_file has_options) o attached (held rows pending)).0 (long_met (rules needs_file has_options) o attached (held rows pending)).1).1

    option_turn : (turn_fault (leaf needs_file has_options name) [] at word ≡ fault_at (Some (event_read id))) × (walked (rules needs_file has_options) [] at word ≡ moved_at (Some (event_read id)))
    option_turn = (
      turn_is (leaf needs_file has_options name) [] rows pending idle position word refl ∙ ap₂ (fault_by (leaf needs_file has_options name) idle position (held rows pending) word) other is ∙ ap fault_at by_long,
      walked_is (leaf needs_file has_options name) [] rows pending idle position word refl
          ∙ ap₂ (λ (dashed : Bool) (l : Option (Text × Option Text)). after_step (rules needs_file has_options) word at (met_by (leaf needs_file has_options name) idle position (held rows pending) word dashed l).0 (met_by (leaf needs_file has_options name) idle position (held rows pending) word dashed l).1) other is
          ∙ ap moved_at by_long,
    )

  -- the option alone
  pub apart_turn : (pending : Option (Text × List Text)) (word : Text) → bytes_eq word dashes ≡ false → long_of word ≡ Some (id, None)
      → settle_fault (rules needs_file has_options) false (held rows pending) ≡ []
      → (turn_fault (leaf needs_file has_options name) [] (state rows pending idle position false) word ≡ [])
      × (walked (rules needs_file has_options) [] (state rows pending idle position false) word ≡ state (settled_rows (rules needs_file has_options) pending rows) (Some (id, [])) (option id) position false)
  apart_turn pending word other is settles =
      let turn = option_turn pending word other None is in
      (turn.0 ∙ nil_or (settle_fault (rules needs_file has_options) false (held rows pending)) [] settles refl, turn.1)

  -- with its value after `=`
  pub joined_turn : (pending : Option (Text × List Text)) (word v : Text) → bytes_eq word dashes ≡ false → long_of word ≡ Some (id, Some v)
      → settle_fault (rules needs_file has_options) false (held rows pending) ≡ [] → use_fault false (event_read id) (v ∷ []) (settled_rows (rules needs_file has_options) pending rows) ≡ []
      → (turn_fault (leaf needs_file has_options name) [] (state rows pending idle position false) word ≡ [])
      × (walked (rules needs_file has_options) [] (state rows pending idle position false) word ≡ state (used (event_read id) (v ∷ []) (settled_rows (rules needs_file has_options) pending rows)) None idle position false)
  joined_turn pending word v other is settles fits =
      let turn = option_turn pending word other (Some v) is in
      (turn.0 ∙ nil_or _ [] (nil_or (settle_fault (rules needs_file has_options) false (held rows pending)) _ settles fits) refl, turn.1)

  -- an option that waits for its value is not settled
  pub unsettled : settle_fault (rules needs_file has_options) false (held rows (Some (id, []))) ≡ [] → ⊥
  unsettled e =
      let bad : ◌≡◌ {A = Kinds} (InvalidValue ∷ []) [] =
      subst (λ (o : Option Rule). option_map_or (λ (a : Rule). use_fault false a [] rows) o [] ≡ []) by_id e in
      cc

  module _ (v : Text) where
    pub value_fault : settle_fault (rules needs_file has_options) false (held rows (Some (id, v ∷ []))) ≡ use_fault false (event_read id) (v ∷ []) rows
    value_fault = ap (λ (o : Option Rule). option_map_or (λ (a : Rule). use_fault false a (v ∷ []) rows) o []) by_id

    pub value_rows : settled_rows (rules needs_file has_options) (Some (id, v ∷ [])) rows ≡ used (event_read id) (v ∷ []) rows
    value_rows = ap (λ (o : Option Rule). used_by_id o (v ∷ []) rows) by_id

    abbrev waiting_h : Held
    waiting_h = held rows (Some (id, []))

    pub value_moved : after_step (rules needs_file has_options) v (state rows (Some (id, [])) (option id) position false) (plain_word (rules needs_file has_options) (option id) v waiting_h).0 (plain_word (rules needs_file has_options) (option id) v waiting_h).1
        ≡ state rows (Some (id, v ∷ [])) idle position false
    value_moved =
        ap (λ (o : Option Rule). after_step (rules needs_file has_options) v (state rows (Some (id, [])) (option id) position false) (option_word o id v waiting_h).0 (next (option_word o id v waiting_h).1)) by_id
        ∙ ap (λ (b : Bool). state rows (Some (id, v ∷ [])) (cond (nat_lt (cond b 1 0) 1) (option id) idle) position false) ((bytes_eq-Decides id id).1 refl)
