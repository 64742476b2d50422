-- Where the words after a subcommand's name add arguments, nothing is refused of them, and those are found.
use Rattle.std.proofs.Common.{◌≡◌, ◌∙◌, ◌++◌, ℕ, Bool, cond, codes, true, false, refl, sym, ap, subst, inl, inr, List, [], ◌∷◌, Option, Some, None, bytes_eq, is_some}
use Rattle.clap.specs.Faults.{settle_fault, turn_fault}
use Rattle.clap.specs.Lexer.{long_of}
use Rattle.clap.specs.Simple.{Shape}
use Rattle.clap.specs.Walk.{Row, Text, Walk, has_row, idle, option, settled_rows, used, walked}
use Rattle.stampctl_words.specs.Words.{Adds, Arguments, Dashes, DashesFile, File, From, FromJoined, IsFile, IsNumber, NoWords, To, ToJoined, no_arguments}
use Rattle.stampctl_words.proofs.NamedLemmas.{end_rows, ended, place}
use Rattle.stampctl_words.proofs.RowLemmas.{Holds, event_read, file_read, holds_file, holds_from, holds_to}
use Rattle.stampctl_words.proofs.RuleLemmas.{IsOption, apart_turn, file_fault, file_fits, file_moved, joined_turn, leaf, number_fits, rules, value_fault, value_moved, value_rows}
use Rattle.stampctl_words.proofs.SpellingLemmas.{dashes, file_no_flag, number_no_flag}
use Rattle.stampctl_words.proofs.TurnLemmas.{faults, faults_end, faults_more, held, state, turn_is, value_turn, walked_is}

no_row : {X : Type 0} (o : Option X) (has : Bool) → has ≡ is_some o → o ≡ None → has ≡ false
no_row o has is none = is ∙ ap is_some none

module _ (needs_file has_options : Bool) (name : Text) where
  abbrev s : Shape
  s = leaf needs_file has_options name

  abbrev Settles : List Row → Option (Text × List Text) → Type 0
  Settles rows pending = settle_fault (rules needs_file has_options) false (held rows pending) ≡ []

  abbrev settled_at : List Row → Option (Text × List Text) → List Row
  settled_at rows pending = settled_rows (rules needs_file has_options) pending rows

  -- a walk takes the words, and holds these arguments at their end
  abbrev Ends : Walk → List Text → Arguments → Type 0
  Ends w words e = (faults s w words ≡ []) × Holds (end_rows needs_file has_options name w words) e

  more_ends : (w next : Walk) (word : Text) (rest : List Text) (e : Arguments) → turn_fault s [] w word ≡ [] → walked (rules needs_file has_options) [] w word ≡ next
      → Ends next rest e → Ends w (word ∷ rest) e
  more_ends w next word rest e turn moved more =
      (faults_more s w next word rest turn moved more.0, subst (λ (v : Walk). Holds (end_rows needs_file has_options name v rest) e) (sym moved) more.1)

  -- the words are taken by a walk that holds the arguments a, and then it holds e
  abbrev Takes : List Text → (a e : Arguments) → Type 0
  Takes words a e = (rows : List Row) (pending : Option (Text × List Text)) (position : ℕ) → Settles rows pending → Holds (settled_at rows pending) a → position ≡ place a
      → Ends (state rows pending idle position false) words e

  file_taken : (a e : Arguments) (word : Text) (rest : List Text) → a.file ≡ None → IsFile word → Takes rest (record a { file = Some word }) e → Takes (word ∷ rest) a e
  file_taken a e word rest first is more rows pending position settles holds at =
      let one : position ≡ 1 = at ∙ ap (λ (o : Option Text). cond (is_some o) 2 1) first in
      let turn = value_turn s [] rows pending idle 1 word refl (file_no_flag word is) in
      let none = no_row a.file _ holds.has_file first in
      subst (λ (p : ℕ). Ends (state rows pending idle p false) (word ∷ rest) e) (sym one)
      (more_ends (state rows pending idle 1 false) (state (settled_at rows pending) (Some (codes "file", word ∷ [])) idle 2 false) word rest e
      (turn.0 ∙ file_fault needs_file has_options name rows pending idle word ∙ settles)
      (turn.1 ∙ file_moved needs_file has_options name rows pending idle word false)
      (more (settled_at rows pending) (Some (codes "file", word ∷ [])) 2 (file_fits (settled_at rows pending) word none) (holds_file (settled_at rows pending) a word holds none) refl))

  apart_taken : (id : Text) (known : IsOption has_options id) (word v : Text) (rest : List Text) (a after e : Arguments) (n : ℕ) → bytes_eq word dashes ≡ false → long_of word ≡ Some (id, None)
      → IsNumber v n → place a ≡ place after
      → ((rows : List Row) → Holds rows a → (has_row id rows ≡ false) × Holds (used (event_read id) (v ∷ []) rows) after)
      → Takes rest after e → Takes (word ∷ v ∷ rest) a e
  apart_taken id known word v rest a after e n other is number same held_by more rows pending position settles holds at =
      let turn = apart_turn needs_file has_options name id known rows position pending word other is settles in
      let turn2 = value_turn s [] (settled_at rows pending) (Some (id, [])) (option id) position v refl (number_no_flag v n number) in
      let new = held_by (settled_at rows pending) holds in
      more_ends (state rows pending idle position false) (state (settled_at rows pending) (Some (id, [])) (option id) position false) word (v ∷ rest) e turn.0 turn.1
      (more_ends (state (settled_at rows pending) (Some (id, [])) (option id) position false) (state (settled_at rows pending) (Some (id, v ∷ [])) idle position false) v rest e
      turn2.0
      (turn2.1 ∙ value_moved needs_file has_options name id known (settled_at rows pending) position v)
      (more (settled_at rows pending) (Some (id, v ∷ [])) position
      (value_fault needs_file has_options name id known (settled_at rows pending) position v ∙ number_fits id (settled_at rows pending) v n new.0 number)
      (subst (λ (xs : List Row). Holds xs after) (sym (value_rows needs_file has_options name id known (settled_at rows pending) position v)) new.1) (at ∙ same)))

  joined_taken : (id : Text) (known : IsOption has_options id) (word v : Text) (rest : List Text) (a after e : Arguments) (n : ℕ) → bytes_eq word dashes ≡ false → long_of word ≡ Some (id, Some v)
      → IsNumber v n → place a ≡ place after
      → ((rows : List Row) → Holds rows a → (has_row id rows ≡ false) × Holds (used (event_read id) (v ∷ []) rows) after)
      → Takes rest after e → Takes (word ∷ rest) a e
  joined_taken id known word v rest a after e n other is number same held_by more rows pending position settles holds at =
      let new = held_by (settled_at rows pending) holds in
      let turn = joined_turn needs_file has_options name id known rows position pending word v other is settles (number_fits id (settled_at rows pending) v n new.0 number) in
      more_ends (state rows pending idle position false) (state (used (event_read id) (v ∷ []) (settled_at rows pending)) None idle position false) word rest e turn.0 turn.1
      (more (used (event_read id) (v ∷ []) (settled_at rows pending)) None position refl new.1 (at ∙ same))

  from_held : (a : Arguments) (v : Text) (n : ℕ) → a.from ≡ None → IsNumber v n → (rows : List Row) → Holds rows a
      → (has_row (codes "from") rows ≡ false) × Holds (used (event_read (codes "from")) (v ∷ []) rows) (record a { from = Some n })
  from_held a v n first number rows holds =
      let none = no_row a.from _ holds.has_from first in
      (none, holds_from rows a v n number holds none)

  to_held : (a : Arguments) (v : Text) (n : ℕ) → a.to ≡ None → IsNumber v n → (rows : List Row) → Holds rows a
      → (has_row (codes "to") rows ≡ false) × Holds (used (event_read (codes "to")) (v ∷ []) rows) (record a { to = Some n })
  to_held a v n first number rows holds =
      let none = no_row a.to _ holds.has_to first in
      (none, holds_to rows a v n number holds none)

  -- `--` alone, or with a file
  dashes_taken : (rest : List Text) (a e : Arguments) → ((rows : List Row) (pending : Option (Text × List Text)) (position : ℕ) → Settles rows pending → Holds (settled_at rows pending) a → position ≡ place a
      → Ends (state rows pending idle position true) rest e) → Takes (dashes ∷ rest) a e
  dashes_taken rest a e more rows pending position settles holds at =
      more_ends (state rows pending idle position false) (state rows pending idle position true) dashes rest e
      (turn_is s [] rows pending idle position dashes refl) (walked_is s [] rows pending idle position dashes refl) (more rows pending position settles holds at)

  trailing_taken : (a : Arguments) (word : Text) → a.file ≡ None → (rows : List Row) (pending : Option (Text × List Text)) (position : ℕ) → Settles rows pending → Holds (settled_at rows pending) a → position ≡ place a
      → Ends (state rows pending idle position true) (word ∷ []) (record a { file = Some word })
  unfolding walked
  trailing_taken a word first rows pending position settles holds at =
      let one : position ≡ 1 = at ∙ ap (λ (o : Option Text). cond (is_some o) 2 1) first in
      let none = no_row a.file _ holds.has_file first in
      let after : Arguments = record a { file = Some word } in
      subst (λ (p : ℕ). Ends (state rows pending idle p true) (word ∷ []) after) (sym one)
      (more_ends (state rows pending idle 1 true) (state (settled_at rows pending) (Some (codes "file", word ∷ [])) idle 2 true) word [] after
      (file_fault needs_file has_options name rows pending idle word ∙ settles)
      (file_moved needs_file has_options name rows pending idle word true) (
        faults_end s (state (settled_at rows pending) (Some (codes "file", word ∷ [])) idle 2 true) ∙ file_fits (settled_at rows pending) word none,
        ended needs_file has_options name (used file_read (word ∷ []) (settled_at rows pending)) after (holds_file (settled_at rows pending) a word holds none),
      ))

  taken_by : (words : List Text) (a e : Arguments) → Adds IsFile has_options words a e → Takes words a e
  taken_by words a e (NoWords b) =
      λ rows pending position settles holds at. (faults_end s (state rows pending idle position false) ∙ settles, ended needs_file has_options name (settled_at rows pending) b holds)
  taken_by words a e (File b after word rest first is more) = file_taken b after word rest first is (taken_by rest (record b { file = Some word }) after more)
  taken_by words a e (From b after v n rest may first is more) =
      apart_taken (codes "from") (may, inl refl) (codes "--from") v rest b (record b { from = Some n }) after n refl refl is refl (from_held b v n first is) (taken_by rest (record b { from = Some n }) after more)
  taken_by words a e (FromJoined b after v n rest may first is more) =
      joined_taken (codes "from") (may, inl refl) (codes "--from=" ++ v) v rest b (record b { from = Some n }) after n refl refl is refl (from_held b v n first is) (taken_by rest (record b { from = Some n }) after more)
  taken_by words a e (To b after v n rest may first is more) =
      apart_taken (codes "to") (may, inr refl) (codes "--to") v rest b (record b { to = Some n }) after n refl refl is refl (to_held b v n first is) (taken_by rest (record b { to = Some n }) after more)
  taken_by words a e (ToJoined b after v n rest may first is more) =
      joined_taken (codes "to") (may, inr refl) (codes "--to=" ++ v) v rest b (record b { to = Some n }) after n refl refl is refl (to_held b v n first is) (taken_by rest (record b { to = Some n }) after more)
  taken_by words a e (Dashes b) =
      dashes_taken [] b b (λ rows pending position settles holds at. (faults_end s (state rows pending idle position true) ∙ settles, ended needs_file has_options name (settled_at rows pending) b holds))
  taken_by words a e (DashesFile b word first) = dashes_taken (word ∷ []) b (record b { file = Some word }) (trailing_taken b word first)

  -- from a subcommand's name on
  pub takes_all : (words : List Text) (a : Arguments) → Adds IsFile has_options words no_arguments a → Ends (state [] None idle 1 false) words a
  takes_all words a adds =
      taken_by words no_arguments a adds [] None 1 refl (record { file = refl; has_file = refl; given = refl; from = tt; has_from = refl; to = tt; has_to = refl }) refl
