-- What the parser of the command line makes of the words.
use Rattle.std.proofs.Common.{◌≡◌, ◌∙◌, ◌⊎◌, ◌||◌, Bool, cond, codes, true, false, not, refl, sym, ap, ap₂, subst, inl, inr, List, [], ◌∷◌, ◌++◌, drop, Option, Some, None, bytes_eq, fold, is_some, option_map, Box, box_value}
use Rattle.std.proofs.lemmas.Bool.{cases_Bool, true≢false}
use Rattle.clap.specs.Kinds.{Kinds, check_kinds, or_else}
use Rattle.clap.specs.Faults.{built_fault, check_fault, default_fault, defaults_fault, entered_fault, fault_of, given_default_fault, level_fault, settle_fault, turn_fault, walk_fault}
use Rattle.clap.specs.Matches.{found_of, has_subcommand, subcommand_name_of}
use Rattle.clap.specs.Simple.{App, Shape, built, entered, names_of, subcommand_of, subcommand_rows, subcommand_rows_of}
use Rattle.clap.specs.Takes.{is_given}
use Rattle.clap.specs.Walk.{Held, Row, Rule, Text, Walk, after_step, finished, has_row, idle, is_empty, nothing_held, rows_after, rows_of, settled, stop_after, subcommand_met, subcommand_or_other, walked, with_default}
use Rattle.clap.specs.declared.error.kind.ErrorKind.TheVariants.{InvalidSubcommand, MissingRequiredArgument, UnknownArgument}
use Rattle.clap.specs.declared.parser.matches.ArgMatches.{ArgMatches}
use Rattle.clap.specs.declared.parser.matches.ArgMatches.TheViews.{out-ArgMatches, out-SubCommand}
use Rattle.clap.specs.declared.parser.matches.SubCommand.{SubCommand}
use Rattle.clap.proofs.OnLiterals.{clap_on_literals}
use Rattle.clap.proofs.WalkLemmas.{walk_stopped}
use Rattle.stampctl_words.specs.CommandLine.{program}
use Rattle.stampctl_words.specs.Words.{Adds, AreFiles, Arguments, Call, Draws, Dumps, IsFile, MayBeFile, Migrates, Names, NoSubcommand, OnlyDashes, Run, Runs, Traces, no_arguments}
use Rattle.stampctl_words.proofs.NamedLemmas.{end_rows, reads}
use Rattle.stampctl_words.proofs.PairLemmas.{IsPair, pair_leaf, pair_reads, pair_rules, pair_taken}
use Rattle.stampctl_words.proofs.RowLemmas.{Holds}
use Rattle.stampctl_words.proofs.RuleLemmas.{leaf, refuses_long, refuses_short, rules}
use Rattle.stampctl_words.proofs.SpellingLemmas.{same_in_some, same_word}
use Rattle.stampctl_words.proofs.TakenLemmas.{takes_all}
use Rattle.stampctl_words.proofs.TurnLemmas.{Refuses, Seen, SeenDashes, SeenJoined, SeenOption, SeenValue, faults, nil_or, or_nil, seen, state}

-- ---- nothing is refused after the words of a subcommand

or_yes : (x : Bool) → (x || true) ≡ true
or_yes true = refl
or_yes false = refl

no_default_fault : (rows : List Row) (a : Rule) → a.defaults ≡ [] → default_fault rows a ≡ []
no_default_fault rows a none =
    ap (λ (values : List Text). cond (has_row a.id rows || is_empty values) [] (given_default_fault a values)) none
    ∙ ap (λ (b : Bool). cond b [] (given_default_fault a [])) (or_yes (has_row a.id rows))

abbrev HaveNoDefaults : List Rule → Type 0
HaveNoDefaults [] = Unit {0}
HaveNoDefaults (a ∷ rest) = (a.defaults ≡ []) × HaveNoDefaults rest

no_default_faults : (rest : List Rule) → HaveNoDefaults rest → (rows : List Row) → defaults_fault rows rest ≡ []
unfolding defaults_fault
no_default_faults [] none rows = refl
no_default_faults (a ∷ rest) none rows = nil_or (default_fault rows a) _ (no_default_fault rows a none.0) (no_default_faults rest none.1 (with_default rows a))

rules_have_no_defaults : (needs_file has_options : Bool) → HaveNoDefaults (rules needs_file has_options)
rules_have_no_defaults needs_file false = (refl, (refl, tt))
rules_have_no_defaults needs_file true = (refl, (refl, (refl, (refl, tt))))

-- what is refused where a file is needed, by whether one was given
abbrev file_check : Bool → Kinds
file_check given = check_kinds false false (not given || false)

no_check_fault : (needs_file has_options : Bool) (name : Text) (rows : List Row) → (needs_file ≡ true → is_given (codes "file") rows ≡ true)
    → check_fault (leaf needs_file has_options name) rows false ≡ []
no_check_fault false false name rows given = refl
no_check_fault false true name rows given = refl
no_check_fault true false name rows given = ap file_check (given refl)
no_check_fault true true name rows given = ap file_check (given refl)

given_file : (needs_file has_options : Bool) (name : Text) (rows : List Row) → check_fault (leaf needs_file has_options name) rows false ≡ []
    → needs_file ≡ true → is_given (codes "file") rows ≡ true
given_file needs_file has_options name rows e needs = go needs_file has_options needs e
  where
    only_given : (given : Bool) → file_check given ≡ [] → given ≡ true
    only_given true none = refl
    only_given false none = let bad : ◌≡◌ {A = Kinds} (MissingRequiredArgument ∷ []) [] = none in cc

    go : (needs_one has_some : Bool) → needs_one ≡ true → check_fault (leaf needs_one has_some name) rows false ≡ [] → is_given (codes "file") rows ≡ true
    go false has_some is none = absurd (true≢false (sym is))
    go true false is none = only_given (is_given (codes "file") rows) none
    go true true is none = only_given (is_given (codes "file") rows) none

abbrev start : Walk
start = state [] None idle 1 false

-- one level of a parse: its words, and then what is needed
module _ (s : Shape) (words : List Text) where
  abbrev end : Held
  end = (fold (walked s.rules []) start words).held

  abbrev walk_kinds : Kinds
  walk_kinds = walk_fault s [] start words

  abbrev settle_kinds : Kinds
  settle_kinds = settle_fault s.rules s.args_override_self end

  abbrev default_kinds : Kinds
  default_kinds = defaults_fault (settled s.rules end).rows s.rules

  abbrev last_kinds : Kinds
  last_kinds = check_fault s (finished s.rules end) false

  level_reads : level_fault s [] nothing_held words false [] ≡ [] → (faults s start words ≡ []) × (last_kinds ≡ [])
  level_reads e =
      let walks = or_nil walk_kinds (or_else settle_kinds (or_else default_kinds last_kinds)) e in
      let settles = or_nil settle_kinds (or_else default_kinds last_kinds) walks.1 in
      (nil_or walk_kinds settle_kinds walks.0 settles.0, (or_nil default_kinds last_kinds settles.1).1)

  level_taken : HaveNoDefaults s.rules → faults s start words ≡ [] → last_kinds ≡ [] → level_fault s [] nothing_held words false [] ≡ []
  level_taken none e last =
      let walks = or_nil walk_kinds settle_kinds e in
      nil_or walk_kinds (or_else settle_kinds (or_else default_kinds last_kinds)) walks.0
      (nil_or settle_kinds (or_else default_kinds last_kinds) walks.1
      (nil_or default_kinds last_kinds (no_default_faults s.rules none (settled s.rules end).rows) last))

-- words that add arguments, with a file where one is needed
adds_taken : (needs_file has_options : Bool) (name : Text) (words : List Text) (a : Arguments) → Adds IsFile has_options words no_arguments a → (needs_file ≡ true → is_some a.file ≡ true)
    → level_fault (leaf needs_file has_options name) [] nothing_held words false [] ≡ []
adds_taken needs_file has_options name words a adds has =
    let taken = takes_all needs_file has_options name words a adds in
    level_taken (leaf needs_file has_options name) words (rules_have_no_defaults needs_file has_options) taken.0
    (no_check_fault needs_file has_options name (end_rows needs_file has_options name start words) (λ needs. taken.1.given ∙ has needs))

-- words that are two files
pair_level_taken : (words : List Text) (file new : Text) → AreFiles IsFile words (file ∷ new ∷ []) → level_fault pair_leaf [] nothing_held words false [] ≡ []
pair_level_taken words file new are =
    let taken = pair_taken words file new are in
    level_taken pair_leaf words (refl, (refl, (refl, tt))) taken.0 taken.1

-- ---- the program's words

abbrev made : App
made = built program

abbrev top : Shape
top = made.top

abbrev pub IsNamed : (needs_file has_options : Bool) → Text → Type 0
IsNamed false false name = (name ≡ codes "run") ⊎ (name ≡ codes "trace")
IsNamed false true name = name ≡ codes "draw"
IsNamed true false name = name ≡ codes "dump"
IsNamed true true name = ⊥

-- the words name this subcommand, and add what the rows hold
pub record Called (words : List Text) (name : Text) (rows : List Row) : Type 0 where
  pub needs_file : Bool
  pub has_options : Bool
  pub named : IsNamed needs_file has_options name
  pub rest : List Text
  pub is : words ≡ name ∷ rest
  pub arguments : Arguments
  pub adds : Adds MayBeFile has_options rest no_arguments arguments
  pub holds : Holds rows arguments
  pub has_file : needs_file ≡ true → is_some arguments.file ≡ true

-- the words name the subcommand with two files, and the rows hold those
pub record CalledWithTwo (words : List Text) (name : Text) (rows : List Row) : Type 0 where
  pub named : name ≡ codes "migrate"
  pub rest : List Text
  pub is : words ≡ name ∷ rest
  pub file : Text
  pub new : Text
  pub are : AreFiles MayBeFile rest (file ∷ new ∷ [])
  pub holds : IsPair rows file new

abbrev pub IsCalled : List Text → Text → List Row → Type 0
IsCalled words name rows = Called words name rows ⊎ CalledWithTwo words name rows

-- what the words ask for, where the parser enters a subcommand or none
abbrev Reads : List Text → Option (Text × List Row) → Type 0
Reads words None = Names MayBeFile words (Run None)
Reads words (Some p) = IsCalled words p.0 p.1

abbrev read_from : List Text → Option (Text × List Row)
read_from words = entered made (stop_after top.rules (names_of made) words)

stopped_none : (w : Walk) (name : Text) (before words : List Text) → walk_fault top (names_of made) (record w { stopped = Some (name, before) }) words ≡ []
unfolding walked walk_fault
stopped_none w name before [] = refl
stopped_none w name before (word ∷ rest) = stopped_none w name (before ++ word ∷ []) rest

no_top_check : (has : Bool) → check_fault top (finished top.rules nothing_held) has ≡ []
no_top_check true = refl
no_top_check false = refl

-- a subcommand's name, and the words after it
module _ (s : Shape) (name : Text) (rest : List Text)
    (met : subcommand_met (names_of made) idle name ≡ Some name)
    (turn : turn_fault top (names_of made) start name ≡ [])
    (found : entered made (Some (name, rest)) ≡ Some (name, rows_after s.rules [] rest))
    (below : entered_fault made (Some (name, rest)) ≡ level_fault s [] nothing_held rest false []) where
  first_walked : walked top.rules (names_of made) start name ≡ record start { stopped = Some (name, []) }
  unfolding walked
  first_walked =
      ap (λ (o : Option Text). after_step top.rules name start (subcommand_or_other top.rules o idle 1 name nothing_held).0 (subcommand_or_other top.rules o idle 1 name nothing_held).1) met

  ends : fold (walked top.rules (names_of made)) start (name ∷ rest) ≡ record start { stopped = Some (name, rest) }
  ends =
      ap (λ (w : Walk). fold (walked top.rules (names_of made)) w rest) first_walked
      ∙ sym (walk_stopped top.rules (names_of made) start name [] rest)

  stops : stop_after top.rules (names_of made) (name ∷ rest) ≡ Some (name, rest)
  stops = ap (λ (w : Walk). w.stopped) ends

  name_reads : (level_fault s [] nothing_held rest false [] ≡ [] → IsCalled (name ∷ rest) name (rows_after s.rules [] rest))
      → built_fault made nothing_held (name ∷ rest) ≡ [] → Reads (name ∷ rest) (read_from (name ∷ rest))
  name_reads called e =
      let inner = or_nil (entered_fault made (stop_after top.rules (names_of made) (name ∷ rest))) _ (or_nil (walk_fault top (names_of made) start (name ∷ rest)) _ e).1 in
      subst (Reads (name ∷ rest)) (sym (ap (entered made) stops ∙ found)) (called (sym below ∙ ap (entered_fault made) (sym stops) ∙ inner.0))

  name_taken : level_fault s [] nothing_held rest false [] ≡ [] → built_fault made nothing_held (name ∷ rest) ≡ []
  unfolding walk_fault defaults_fault
  name_taken e =
      let passed : walk_fault top (names_of made) start (name ∷ rest) ≡ [] =
      nil_or _ _ turn (subst (λ (w : Walk). walk_fault top (names_of made) w rest ≡ []) (sym first_walked) (stopped_none start name [] rest)) in
      let inner : entered_fault made (stop_after top.rules (names_of made) (name ∷ rest)) ≡ [] = ap (entered_fault made) stops ∙ below ∙ e in
      let last = subst (λ (w : Walk). or_else (settle_fault top.rules top.args_override_self w.held) (or_else (defaults_fault (settled top.rules w.held).rows top.rules) (check_fault top (finished top.rules w.held) (is_some (entered made w.stopped)))) ≡ [])
      (sym ends) (no_top_check (is_some (entered made (Some (name, rest))))) in
      nil_or _ _ passed (nil_or _ _ inner last)

-- a subcommand with a file at most
one_called : (needs_file has_options : Bool) (name : Text) (rest : List Text) → IsNamed needs_file has_options name → level_fault (leaf needs_file has_options name) [] nothing_held rest false [] ≡ []
    → IsCalled (name ∷ rest) name (rows_after (rules needs_file has_options) [] rest)
one_called needs_file has_options name rest is e =
    let level = level_reads (leaf needs_file has_options name) rest e in
    let read = reads needs_file has_options name rest level.0 in
    inl (record {
      needs_file = needs_file;
      has_options = has_options;
      named = is;
      rest = rest;
      is = refl;
      arguments = read.0;
      adds = read.1;
      holds = read.2;
      has_file = λ needs. sym read.2.given ∙ given_file needs_file has_options name (end_rows needs_file has_options name start rest) level.1 needs;
    })

-- the subcommand with two
two_called : (rest : List Text) → level_fault pair_leaf [] nothing_held rest false [] ≡ [] → IsCalled (codes "migrate" ∷ rest) (codes "migrate") (rows_after pair_rules [] rest)
two_called rest e =
    let level = level_reads pair_leaf rest e in
    let read = pair_reads rest level.0 level.1 in
    inr (record {
      named = refl;
      rest = rest;
      is = refl;
      file = read.0;
      new = read.1;
      are = read.2;
      holds = read.3;
    })

-- a first word that is no subcommand: `--` alone
unnamed : (word : Text) (rest : List Text) → subcommand_met (names_of made) idle word ≡ None
    → built_fault made nothing_held (word ∷ rest) ≡ [] → Reads (word ∷ rest) (read_from (word ∷ rest))
unfolding clap_on_literals
unnamed word rest none_met e =
    let turns = or_nil (turn_fault top (names_of made) start word) (walk_fault top (names_of made) (walked top.rules (names_of made) start word) rest)
    (or_nil (walk_fault top (names_of made) start (word ∷ rest)) _ e).0 in
    go (walked top.rules (names_of made) start word)
    (seen top (names_of made) [] None idle 1 word none_met (λ (id : Text). ⊥) (λ id. Refuses (refuses_long top.rules id)) (refuses_short top.rules) turns.0) turns.1
  where
    alone : (more : List Text) → walk_fault top (names_of made) (state [] None idle 1 true) more ≡ []
        → Reads (codes "--" ∷ more) (entered made (fold (walked top.rules (names_of made)) (state [] None idle 1 true) more).stopped)
    alone [] h = OnlyDashes
    alone (next ∷ more) h =
        let bad : ◌≡◌ {A = Kinds} (UnknownArgument ∷ InvalidSubcommand ∷ []) [] =
        (or_nil (turn_fault top (names_of made) (state [] None idle 1 true) next) (walk_fault top (names_of made) (walked top.rules (names_of made) (state [] None idle 1 true) next) more) h).0 in
        cc

    go : (w : Walk) → Seen top (λ (id : Text). ⊥) [] None idle 1 word w → walk_fault top (names_of made) w rest ≡ []
        → Reads (word ∷ rest) (entered made (fold (walked top.rules (names_of made)) w rest).stopped)
    go w (SeenDashes is moved) h =
        subst (λ (t : Text). Reads (t ∷ rest) (entered made (fold (walked top.rules (names_of made)) w rest).stopped)) (sym is)
        (subst (λ (v : Walk). Reads (codes "--" ∷ rest) (entered made (fold (walked top.rules (names_of made)) v rest).stopped)) (sym moved)
        (alone rest (subst (λ (v : Walk). walk_fault top (names_of made) v rest ≡ []) moved h)))
    go w (SeenValue is fits moved) h = let bad : ◌≡◌ {A = Kinds} (UnknownArgument ∷ InvalidSubcommand ∷ []) [] = fits in cc
    go w (SeenOption id known is settles moved) h = absurd known
    go w (SeenJoined id v known is settles fits moved) h = absurd known

-- where the parser takes the words, what it reads is what they ask for
pub takes_named : (words : List Text) → built_fault made nothing_held words ≡ [] → Reads words (read_from words)
takes_named [] e = NoSubcommand
takes_named (word ∷ rest) e = elim (cases_Bool (bytes_eq (codes "run") word)) [
  | inl same ↦ subst (λ (w : Text). built_fault made nothing_held (w ∷ rest) ≡ [] → Reads (w ∷ rest) (read_from (w ∷ rest))) (same_word (codes "run") word same)
      (name_reads (leaf false false (codes "run")) (codes "run") rest refl refl refl refl (one_called false false (codes "run") rest (inl refl))) e
  | inr no_run ↦ elim (cases_Bool (bytes_eq (codes "trace") word)) [
    | inl same ↦ subst (λ (w : Text). built_fault made nothing_held (w ∷ rest) ≡ [] → Reads (w ∷ rest) (read_from (w ∷ rest))) (same_word (codes "trace") word same)
        (name_reads (leaf false false (codes "trace")) (codes "trace") rest refl refl refl refl (one_called false false (codes "trace") rest (inr refl))) e
    | inr no_trace ↦ elim (cases_Bool (bytes_eq (codes "draw") word)) [
      | inl same ↦ subst (λ (w : Text). built_fault made nothing_held (w ∷ rest) ≡ [] → Reads (w ∷ rest) (read_from (w ∷ rest))) (same_word (codes "draw") word same)
          (name_reads (leaf false true (codes "draw")) (codes "draw") rest refl refl refl refl (one_called false true (codes "draw") rest refl)) e
      | inr no_draw ↦ elim (cases_Bool (bytes_eq (codes "dump") word)) [
        | inl same ↦ subst (λ (w : Text). built_fault made nothing_held (w ∷ rest) ≡ [] → Reads (w ∷ rest) (read_from (w ∷ rest))) (same_word (codes "dump") word same)
            (name_reads (leaf true false (codes "dump")) (codes "dump") rest refl refl refl refl (one_called true false (codes "dump") rest refl)) e
        | inr no_dump ↦ elim (cases_Bool (bytes_eq (codes "migrate") word)) [
          | inl same ↦ subst (λ (w : Text). built_fault made nothing_held (w ∷ rest) ≡ [] → Reads (w ∷ rest) (read_from (w ∷ rest))) (same_word (codes "migrate") word same)
              (name_reads pair_leaf (codes "migrate") rest refl refl refl refl (two_called rest)) e
          | inr no_migrate ↦ unnamed word rest (rw (no_run, no_trace, no_draw, no_dump, no_migrate) refl) e
        ]
      ]
    ]
  ]
]

needs_none : {A : Type 0} → false ≡ true → A
needs_none is = absurd (true≢false (sym is))

-- and it takes the words that name a call
pub takes_call : (words : List Text) (call : Call) → Names IsFile words call → built_fault made nothing_held words ≡ []
unfolding clap_on_literals
takes_call words call NoSubcommand = refl
takes_call words call OnlyDashes = refl
takes_call words call (Runs rest a adds) = name_taken (leaf false false (codes "run")) (codes "run") rest refl refl refl refl (adds_taken false false (codes "run") rest a adds needs_none)
takes_call words call (Traces rest a adds) = name_taken (leaf false false (codes "trace")) (codes "trace") rest refl refl refl refl (adds_taken false false (codes "trace") rest a adds needs_none)
takes_call words call (Draws rest a adds) = name_taken (leaf false true (codes "draw")) (codes "draw") rest refl refl refl refl (adds_taken false true (codes "draw") rest a adds needs_none)
takes_call words call (Dumps rest a file adds has) =
    name_taken (leaf true false (codes "dump")) (codes "dump") rest refl refl refl refl (adds_taken true false (codes "dump") rest a adds (λ needs. ap is_some has))
takes_call words call (Migrates rest file new are) = name_taken pair_leaf (codes "migrate") rest refl refl refl refl (pair_level_taken rest file new are)

-- ---- the matches of a parse

module _ {Z : Type 0} where
  entered_some : (o : Option (Box SubCommand Z)) (name : Text) (rows : List Row)
      → Some name ≡ option_map (λ b. (out-SubCommand (box_value b)).name.now) o → Some rows ≡ option_map (λ p. p.1) (subcommand_rows o)
      → subcommand_rows o ≡ Some (name, rows)
  entered_some None name rows n r = let bad : ◌≡◌ {A = Option Text} (Some name) None = n in cc
  entered_some (Some b) name rows n r =
      ap₂ (λ (x : Text) (y : List Row). Some (x, y)) (sym (same_in_some _ _ n)) (sym (same_in_some _ _ r))

  entered_none : (o : Option (Box SubCommand Z)) → false ≡ is_some o → subcommand_rows o ≡ None
  entered_none None e = refl
  entered_none (Some b) e = let bad : ◌≡◌ {A = Bool} false true = e in cc

-- a parse that met no subcommand
pub no_task : (words : List Text) (m : ArgMatches) → fault_of program words ≡ [] → subcommand_rows_of m ≡ subcommand_of program words
    → false ≡ has_subcommand m → Names MayBeFile (drop 1 words) (Run None)
no_task words m none same met =
    subst (Reads (drop 1 words)) (sym same ∙ entered_none (out-ArgMatches m).subcommand met) (takes_named (drop 1 words) none)

-- a parse that met one
pub one_task : (words : List Text) (m inner : ArgMatches) (name : Text) → fault_of program words ≡ [] → subcommand_rows_of m ≡ subcommand_of program words
    → Some name ≡ subcommand_name_of m → Some (rows_of (found_of inner)) ≡ option_map (λ p. p.1) (subcommand_rows_of m)
    → IsCalled (drop 1 words) name (rows_of (found_of inner))
one_task words m inner name none same called rows =
    subst (Reads (drop 1 words)) (sym same ∙ entered_some (out-ArgMatches m).subcommand name (rows_of (found_of inner)) called rows) (takes_named (drop 1 words) none)
