-- How the words of the subcommand with two files are walked.
use Rattle.std.proofs.Common.{◌≡◌, ◌∙◌, ◌-◌, ◌≤◌, ◌++◌, ℕ, Bool, codes, true, false, suc, refl, sym, ap, subst, arith, List, [], ◌∷◌, append-nil, fold, length, Option, Some, None}
use Rattle.clap.specs.Faults.{check_fault, settle_fault, step_fault, turn_fault}
use Rattle.clap.specs.Kinds.{Kinds}
use Rattle.clap.specs.Simple.{Shape, filled, new_shape, with_index}
use Rattle.clap.specs.Walk.{Held, Row, Rule, Text, Walk, after_step, finished, first_of, idle, used, value, walked}
use Rattle.clap.specs.declared.error.kind.ErrorKind.TheVariants.{MissingRequiredArgument, UnknownArgument}
use Rattle.stampctl_words.specs.CommandLine.{new_file_rule}
use Rattle.stampctl_words.specs.Words.{AreFiles, FilesAfterDashes, IsFile, MayBeFile, NoMoreFiles, OneMoreFile}
use Rattle.stampctl_words.proofs.RowLemmas.{file_read}
use Rattle.stampctl_words.proofs.RuleLemmas.{help_read, refuses_long, refuses_short}
use Rattle.stampctl_words.proofs.SpellingLemmas.{dashes, file_no_flag}
use Rattle.stampctl_words.proofs.TurnLemmas.{Refuses, Seen, SeenDashes, SeenJoined, SeenOption, SeenValue, faults, faults_end, faults_more, faults_step, held, seen, state, turn_is, value_turn, walked_is}

-- the rule of the file that is made, as a parse sees it
abbrev pub new_read : Rule
new_read = with_index 2 (filled new_file_rule)

abbrev pub pair_rules : List Rule
pair_rules = record file_read { required = true } ∷ new_read ∷ help_read ∷ []

abbrev pub pair_leaf : Shape
pair_leaf = record (new_shape (codes "migrate")) {
  rules = pair_rules;
  is_built = true;
  disable_help_subcommand = true;
}

-- ---- where a walk stands once it has taken these files

abbrev rows_of_files : List Text → List Row
rows_of_files [] = []
rows_of_files (a ∷ []) = []
rows_of_files (a ∷ b ∷ more) = used file_read (a ∷ []) []

abbrev pending_of_files : List Text → Option (Text × List Text)
pending_of_files [] = None
pending_of_files (a ∷ []) = Some (codes "file", a ∷ [])
pending_of_files (a ∷ b ∷ more) = Some (codes "new", b ∷ [])

abbrev place_after : List Text → ℕ
place_after [] = 1
place_after (a ∷ []) = 2
place_after (a ∷ b ∷ more) = 3

abbrev pub held_files : List Text → Held
held_files files = held (rows_of_files files) (pending_of_files files)

abbrev pub at_files : List Text → Bool → Walk
at_files files is_trailing = state (rows_of_files files) (pending_of_files files) idle (place_after files) is_trailing

-- so many files may follow these
abbrev HasRoom : List Text → List Text → Type 0
HasRoom files more = length more ≤ 2 - length files

abbrev walked_all : Walk → List Text → Held
walked_all w words = (fold (walked pair_rules []) w words).held

settles : (files : List Text) → settle_fault pair_rules false (held_files files) ≡ []
settles [] = refl
settles (a ∷ []) = refl
settles (a ∷ b ∷ more) = refl

-- a third file
stray : (a b : Text) (more : List Text) → step_fault pair_leaf (place_after (a ∷ b ∷ more)) (held_files (a ∷ b ∷ more)) value ≡ [] → ⊥
stray a b more e = let bad : ◌≡◌ {A = Kinds} (UnknownArgument ∷ []) [] = e in cc

abbrev moved_to : List Text → Text → Bool → Walk
moved_to files word is_trailing = after_step pair_rules word (at_files files is_trailing) (held_files files) value

first_moved : (word : Text) (is_trailing : Bool) → moved_to [] word is_trailing ≡ at_files (word ∷ []) is_trailing
first_moved word true = refl
first_moved word false = refl

second_moved : (a word : Text) (is_trailing : Bool) → moved_to (a ∷ []) word is_trailing ≡ at_files (a ∷ word ∷ []) is_trailing
second_moved a word true = refl
second_moved a word false = refl

-- ---- what is not refused is files

-- after `--`
trailing : (rest files : List Text) → faults pair_leaf (at_files files true) rest ≡ []
    → (walked_all (at_files files true) rest ≡ held_files (files ++ rest)) × HasRoom files rest
unfolding walked
trailing [] files e = (ap held_files (sym (append-nil files)), omega arith)
trailing (word ∷ rest) [] e =
    let more = trailing rest (word ∷ []) (faults_step pair_leaf (at_files [] true) word rest e).1 in
    let room : length rest ≤ 1 = more.1 in
    (more.0, omega arith)
trailing (word ∷ rest) (a ∷ []) e =
    let more = trailing rest (a ∷ word ∷ []) (faults_step pair_leaf (at_files (a ∷ []) true) word rest e).1 in
    let room : length rest ≤ 0 = more.1 in
    (more.0, omega arith)
trailing (word ∷ rest) (a ∷ b ∷ more) e = absurd (stray a b more (faults_step pair_leaf (at_files (a ∷ b ∷ more) true) word rest e).0)

-- the words are more files, which are held when they have been walked
abbrev Reads : List Text → List Text → Walk → List Text → Type 0
Reads words files w left = (more : List Text) × AreFiles MayBeFile words more × (walked_all w left ≡ held_files (files ++ more)) × HasRoom files more

abbrev ReadsAt : List Text → List Text → Type 0
ReadsAt words files = faults pair_leaf (at_files files false) words ≡ [] → Reads words files (at_files files false) words

value_read : (word : Text) (rest files next : List Text) → MayBeFile word → ((more : List Text) → files ++ word ∷ more ≡ next ++ more)
    → ((more : List Text) → HasRoom next more → HasRoom files (word ∷ more)) → ReadsAt rest next → (w : Walk) → w ≡ at_files next false → faults pair_leaf w rest ≡ [] → Reads (word ∷ rest) files w rest
value_read word rest files next is same room reads w moved e =
    let rec = reads (subst (λ (v : Walk). faults pair_leaf v rest ≡ []) moved e) in (
      word ∷ rec.0,
      OneMoreFile word rest rec.0 is rec.1,
      ap (λ (v : Walk). walked_all v rest) moved ∙ rec.2 ∙ ap held_files (sym (same rec.0)),
      room rec.0 rec.3,
    )

second_room : (n : ℕ) → n ≤ 1 → suc n ≤ 2
second_room n room = omega arith

third_room : (n : ℕ) → n ≤ 0 → suc n ≤ 1
third_room n room = omega arith

file_read_at : (word : Text) (rest files : List Text) → MayBeFile word → ((next : List Text) → ReadsAt rest next)
    → step_fault pair_leaf (place_after files) (held_files files) value ≡ []
    → (w : Walk) → w ≡ moved_to files word false → faults pair_leaf w rest ≡ [] → Reads (word ∷ rest) files w rest
file_read_at word rest [] is reads fits w moved e = value_read word rest [] (word ∷ []) is (λ more. refl) (λ more room. second_room (length more) room) (reads (word ∷ [])) w (moved ∙ first_moved word false) e
file_read_at word rest (a ∷ []) is reads fits w moved e =
    value_read word rest (a ∷ []) (a ∷ word ∷ []) is (λ more. refl) (λ more room. third_room (length more) room) (reads (a ∷ word ∷ [])) w (moved ∙ second_moved a word false) e
file_read_at word rest (a ∷ b ∷ more) is reads fits w moved e = absurd (stray a b more fits)

word_read : (word : Text) (rest files : List Text) → ((next : List Text) → ReadsAt rest next)
    → (w : Walk) → Seen pair_leaf (λ (id : Text). ⊥) (rows_of_files files) (pending_of_files files) idle (place_after files) word w → faults pair_leaf w rest ≡ []
    → Reads (word ∷ rest) files w rest
word_read word rest files reads w (SeenDashes is moved) e =
    let end = trailing rest files (subst (λ (v : Walk). faults pair_leaf v rest ≡ []) moved e) in (
      rest,
      subst (λ (t : Text). AreFiles MayBeFile (t ∷ rest) rest) (sym is) (FilesAfterDashes rest),
      ap (λ (v : Walk). walked_all v rest) moved ∙ end.0,
      end.1,
    )
word_read word rest files reads w (SeenValue is fits moved) e = file_read_at word rest files is reads fits w moved e
word_read word rest files reads w (SeenOption id known is settled moved) e = absurd known
word_read word rest files reads w (SeenJoined id v known is settled fits moved) e = absurd known

reads_files : (words files : List Text) → ReadsAt words files
reads_files [] files e = ([], NoMoreFiles, ap held_files (sym (append-nil files)), omega arith)
reads_files (word ∷ rest) files e =
    let step = faults_step pair_leaf (at_files files false) word rest e in
    word_read word rest files (reads_files rest) (walked pair_rules [] (at_files files false) word)
    (seen pair_leaf [] (rows_of_files files) (pending_of_files files) idle (place_after files) word refl (λ (id : Text). ⊥) (λ id. Refuses (refuses_long pair_rules id)) (refuses_short pair_rules) step.0) step.1

-- ---- files are not refused

abbrev Takes : Walk → List Text → List Text → Type 0
Takes w words files = (faults pair_leaf w words ≡ []) × (walked_all w words ≡ held_files files)

takes_more : (w next : Walk) (word : Text) (rest files : List Text) → turn_fault pair_leaf [] w word ≡ [] → walked pair_rules [] w word ≡ next → Takes next rest files → Takes w (word ∷ rest) files
takes_more w next word rest files turn moved more =
    (faults_more pair_leaf w next word rest turn moved more.0, ap (λ (v : Walk). walked_all v rest) moved ∙ more.1)

takes_none : (files : List Text) (is_trailing : Bool) → Takes (at_files files is_trailing) [] (files ++ [])
takes_none files is_trailing = (faults_end pair_leaf (at_files files is_trailing) ∙ settles files, ap held_files (sym (append-nil files)))

takes_trailing : (more files : List Text) → HasRoom files more → Takes (at_files files true) more (files ++ more)
unfolding walked
takes_trailing [] files room = takes_none files true
takes_trailing (word ∷ more) [] room = takes_more (at_files [] true) (at_files (word ∷ []) true) word more (word ∷ more) refl refl (takes_trailing more (word ∷ []) (omega arith))
takes_trailing (word ∷ more) (a ∷ []) room = takes_more (at_files (a ∷ []) true) (at_files (a ∷ word ∷ []) true) word more (a ∷ word ∷ more) refl refl (takes_trailing more (a ∷ word ∷ []) (omega arith))
takes_trailing (word ∷ more) (a ∷ b ∷ rest) room = absurd (omega arith)

takes_word : (word : Text) (words more files : List Text) → IsFile word → HasRoom files (word ∷ more)
    → ((next : List Text) → HasRoom next more → Takes (at_files next false) words (next ++ more)) → Takes (at_files files false) (word ∷ words) (files ++ word ∷ more)
takes_word word words more [] is room rest =
    let turn = value_turn pair_leaf [] [] None idle 1 word refl (file_no_flag word is) in
    takes_more (at_files [] false) (at_files (word ∷ []) false) word words (word ∷ more) turn.0 (turn.1 ∙ first_moved word false) (rest (word ∷ []) (omega arith))
takes_word word words more (a ∷ []) is room rest =
    let turn = value_turn pair_leaf [] [] (Some (codes "file", a ∷ [])) idle 2 word refl (file_no_flag word is) in
    takes_more (at_files (a ∷ []) false) (at_files (a ∷ word ∷ []) false) word words (a ∷ word ∷ more) turn.0 (turn.1 ∙ second_moved a word false) (rest (a ∷ word ∷ []) (omega arith))
takes_word word words more (a ∷ b ∷ others) is room rest = absurd (omega arith)

takes_files : (words more : List Text) → AreFiles IsFile words more → (files : List Text) → HasRoom files more → Takes (at_files files false) words (files ++ more)
takes_files words more NoMoreFiles files room = takes_none files false
takes_files words more (OneMoreFile word rest others is are) files room = takes_word word rest others files is room (takes_files rest others are)
takes_files words more (FilesAfterDashes others) files room =
    takes_more (at_files files false) (at_files files true) dashes others (files ++ others)
    (turn_is pair_leaf [] (rows_of_files files) (pending_of_files files) idle (place_after files) dashes refl)
    (walked_is pair_leaf [] (rows_of_files files) (pending_of_files files) idle (place_after files) dashes refl) (takes_trailing others files room)

-- ---- the two files at the end

-- what is found at the end of the words
abbrev pub pair_rows : List Text → List Row
pair_rows words = finished pair_rules (walked_all (at_files [] false) words)

abbrev pub IsPair : List Row → Text → Text → Type 0
IsPair rows file new = (first_of (codes "file") rows ≡ Some file) × (first_of (codes "new") rows ≡ Some new)

-- two files are needed
two_needed : (words more : List Text) → AreFiles MayBeFile words more → length more ≤ 2 → (rows : List Row) → rows ≡ finished pair_rules (held_files more) → check_fault pair_leaf rows false ≡ []
    → (file : Text) × (new : Text) × AreFiles MayBeFile words (file ∷ new ∷ []) × IsPair rows file new
two_needed words more are room rows same e = go more are room (subst (λ (rs : List Row). check_fault pair_leaf rs false ≡ []) same e) same
  where
    go : (files : List Text) → AreFiles MayBeFile words files → length files ≤ 2 → check_fault pair_leaf (finished pair_rules (held_files files)) false ≡ [] → rows ≡ finished pair_rules (held_files files)
        → (file : Text) × (new : Text) × AreFiles MayBeFile words (file ∷ new ∷ []) × IsPair rows file new
    go [] files most none is = let bad : ◌≡◌ {A = Kinds} (MissingRequiredArgument ∷ []) [] = none in cc
    go (a ∷ []) files most none is = let bad : ◌≡◌ {A = Kinds} (MissingRequiredArgument ∷ []) [] = none in cc
    go (a ∷ b ∷ []) files most none is = (a, b, files, (ap (first_of (codes "file")) is, ap (first_of (codes "new")) is))
    go (a ∷ b ∷ c ∷ others) files most none is = absurd (omega arith)

pub pair_reads : (words : List Text) → faults pair_leaf (at_files [] false) words ≡ [] → check_fault pair_leaf (pair_rows words) false ≡ []
    → (file : Text) × (new : Text) × AreFiles MayBeFile words (file ∷ new ∷ []) × IsPair (pair_rows words) file new
pair_reads words e last =
    let read = reads_files words [] e in
    two_needed words read.0 read.1 read.3 (pair_rows words) (ap (finished pair_rules) read.2) last

pub pair_taken : (words : List Text) (file new : Text) → AreFiles IsFile words (file ∷ new ∷ [])
    → (faults pair_leaf (at_files [] false) words ≡ []) × (check_fault pair_leaf (pair_rows words) false ≡ [])
pair_taken words file new are =
    let taken = takes_files words (file ∷ new ∷ []) are [] (omega arith) in
    (taken.0, ap (λ (h : Held). check_fault pair_leaf (finished pair_rules h) false) taken.1)
