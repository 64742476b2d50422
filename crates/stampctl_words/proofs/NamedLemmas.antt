-- Where nothing is refused of the words after a subcommand's name, they add the arguments that are found.
use Rattle.std.proofs.Common.{◌≡◌, ◌∙◌, ◌⊎◌, ℕ, Bool, cond, codes, true, false, refl, sym, ap, subst, inl, inr, List, [], ◌∷◌, Option, Some, None, fold, is_some}
use Rattle.std.specs.Str.Parse.{digits_value, without_leading_plus}
use Rattle.std.proofs.lemmas.Bool.{true≢false}
use Rattle.clap.specs.Faults.{settle_fault, step_fault, use_fault}
use Rattle.clap.specs.Simple.{Shape}
use Rattle.clap.specs.Walk.{Row, Text, Waiting, Walk, after_step, finished, idle, option, settled_rows, used, value, walked}
use Rattle.stampctl_words.specs.Words.{Adds, Arguments, Dashes, DashesFile, File, From, FromJoined, MayBeFile, NoWords, To, ToJoined, no_arguments}
use Rattle.stampctl_words.proofs.RowLemmas.{Holds, event_read, file_read, holds_file, holds_from, holds_to}
use Rattle.stampctl_words.proofs.RuleLemmas.{IsOption, file_fault, file_moved, file_new, leaf, longs, no_defaults, number_new, rules, shorts, stray, unsettled, value_fault, value_moved, value_rows}
use Rattle.stampctl_words.proofs.SpellingLemmas.{dashes, spelled}
use Rattle.stampctl_words.proofs.TurnLemmas.{Seen, SeenDashes, SeenJoined, SeenOption, SeenValue, faults, faults_end, faults_step, held, seen, state}

-- which file the next one would be
abbrev pub place : Arguments → ℕ
place a = cond (is_some a.file) 2 1

abbrev IsPlace : ℕ → Type 0
IsPlace position = (position ≡ 1) ⊎ (position ≡ 2)

pub absent : {X : Type 0} (o : Option X) (has : Bool) → has ≡ is_some o → has ≡ false → o ≡ None
absent None has is none = refl
absent (Some x) has is none = absurd (true≢false (sym is ∙ none))

-- ---- an option with its value

record AddsOption (has_options : Bool) (id v : Text) (rows : List Row) (a : Arguments) : Type 0 where
  after : Arguments
  holds : Holds (used (event_read id) (v ∷ []) rows) after
  same_place : place a ≡ place after
  apart : (rest : List Text) (e : Arguments) → Adds MayBeFile has_options rest after e → Adds MayBeFile has_options ((45 ∷ 45 ∷ id) ∷ v ∷ rest) a e
  joined : (rest : List Text) (e : Arguments) → Adds MayBeFile has_options rest after e → Adds MayBeFile has_options ((45 ∷ 45 ∷ spelled id (Some v)) ∷ rest) a e

adds_option : (has_options : Bool) (id : Text) (known : IsOption has_options id) (v : Text) (rows : List Row) (a : Arguments) → Holds rows a
    → use_fault false (event_read id) (v ∷ []) rows ≡ [] → AddsOption has_options id v rows a
adds_option has_options id known v rows a holds fits = elim known.1 [
  | inl is ↦ subst (λ (t : Text). AddsOption has_options t v rows a) (sym is) (from (subst (λ (t : Text). use_fault false (event_read t) (v ∷ []) rows ≡ []) is fits))
  | inr is ↦ subst (λ (t : Text). AddsOption has_options t v rows a) (sym is) (to (subst (λ (t : Text). use_fault false (event_read t) (v ∷ []) rows ≡ []) is fits))
]
  where
    n : ℕ
    n = digits_value 10 (without_leading_plus v)

    from : use_fault false (event_read (codes "from")) (v ∷ []) rows ≡ [] → AddsOption has_options (codes "from") v rows a
    from fit =
        let new = number_new (codes "from") rows v fit in
        let first = absent a.from _ holds.has_from new.0 in
        record {
          after = record a { from = Some n };
          holds = holds_from rows a v n new.1 holds new.0;
          same_place = refl;
          apart = λ rest e more. From a e v n rest known.0 first new.1 more;
          joined = λ rest e more. FromJoined a e v n rest known.0 first new.1 more;
        }

    to : use_fault false (event_read (codes "to")) (v ∷ []) rows ≡ [] → AddsOption has_options (codes "to") v rows a
    to fit =
        let new = number_new (codes "to") rows v fit in
        let first = absent a.to _ holds.has_to new.0 in
        record {
          after = record a { to = Some n };
          holds = holds_to rows a v n new.1 holds new.0;
          same_place = refl;
          apart = λ rest e more. To a e v n rest known.0 first new.1 more;
          joined = λ rest e more. ToJoined a e v n rest known.0 first new.1 more;
        }

module _ (needs_file has_options : Bool) (name : Text) where
  abbrev s : Shape
  s = leaf needs_file has_options name

  -- what is found at the end of the words
  abbrev pub end_rows : Walk → List Text → List Row
  end_rows w words = finished (rules needs_file has_options) (fold (walked (rules needs_file has_options) []) w words).held

  abbrev Settles : List Row → Option (Text × List Text) → Type 0
  Settles rows pending = settle_fault (rules needs_file has_options) false (held rows pending) ≡ []

  abbrev settled_at : List Row → Option (Text × List Text) → List Row
  settled_at rows pending = settled_rows (rules needs_file has_options) pending rows

  -- the words add to the arguments that the rows hold those that are found at the end of what is left of them
  abbrev Read : List Text → List Row → ℕ → Walk → List Text → Type 0
  Read words rows position w left = (a : Arguments) → Holds rows a → position ≡ place a → (e : Arguments) × Adds MayBeFile has_options words a e × Holds (end_rows w left) e

  pub ended : (rows : List Row) (a : Arguments) → Holds rows a → Holds (finished (rules needs_file has_options) (held rows None)) a
  ended rows a holds = subst (λ (xs : List Row). Holds xs a) (sym (no_defaults needs_file has_options rows)) holds

  -- ---- after `--`

  trailing_second : (rows : List Row) (pending : Option (Text × List Text)) (waiting : Waiting) (word : Text) (rest : List Text) → faults s (state rows pending waiting 2 true) (word ∷ rest) ≡ [] → ⊥
  trailing_second rows pending waiting word rest e = stray needs_file has_options name rows pending waiting word (faults_step s (state rows pending waiting 2 true) word rest e).0

  trailing_file : (rest : List Text) (rows : List Row) (word : Text) (w : Walk) → w ≡ state rows (Some (codes "file", word ∷ [])) idle 2 true → faults s w rest ≡ []
      → (a : Arguments) → Holds rows a → (e : Arguments) × Adds MayBeFile has_options (dashes ∷ word ∷ rest) a e × Holds (end_rows w rest) e
  trailing_file [] rows word w moved e a holds =
      let fits : use_fault false file_read (word ∷ []) rows ≡ [] = sym (faults_end s (state rows (Some (codes "file", word ∷ [])) idle 2 true)) ∙ subst (λ (v : Walk). faults s v [] ≡ []) moved e in
      let none = file_new rows word fits in
      let after : Arguments = record a { file = Some word } in (
        after,
        DashesFile a word (absent a.file _ holds.has_file none),
        subst (λ (v : Walk). Holds (end_rows v []) after) (sym moved) (ended (used file_read (word ∷ []) rows) after (holds_file rows a word holds none)),
      )
  trailing_file (second ∷ rest) rows word w moved e a holds =
      absurd (trailing_second rows (Some (codes "file", word ∷ [])) idle second rest (subst (λ (v : Walk). faults s v (second ∷ rest) ≡ []) moved e))

  trailing_first : (rows : List Row) (pending : Option (Text × List Text)) (waiting : Waiting) (word : Text) (rest : List Text) → faults s (state rows pending waiting 1 true) (word ∷ rest) ≡ []
      → Settles rows pending × Read (dashes ∷ word ∷ rest) (settled_at rows pending) 1 (state rows pending waiting 1 true) (word ∷ rest)
  unfolding walked
  trailing_first rows pending waiting word rest e =
      let step = faults_step s (state rows pending waiting 1 true) word rest e in (
        sym (file_fault needs_file has_options name rows pending waiting word) ∙ step.0,
        λ a holds at. trailing_file rest (settled_at rows pending) word (walked (rules needs_file has_options) [] (state rows pending waiting 1 true) word) (file_moved needs_file has_options name rows pending waiting word true) step.1 a holds,
      )

  trailing : (rest : List Text) (rows : List Row) (pending : Option (Text × List Text)) (waiting : Waiting) (position : ℕ) → IsPlace position → faults s (state rows pending waiting position true) rest ≡ []
      → Settles rows pending × Read (dashes ∷ rest) (settled_at rows pending) position (state rows pending waiting position true) rest
  trailing [] rows pending waiting position at e =
      (sym (faults_end s (state rows pending waiting position true)) ∙ e, λ a holds place_is. (a, Dashes a, ended (settled_at rows pending) a holds))
  trailing (word ∷ rest) rows pending waiting position at e = elim at [
    | inl one ↦ subst (λ (p : ℕ). Settles rows pending × Read (dashes ∷ word ∷ rest) (settled_at rows pending) p (state rows pending waiting p true) (word ∷ rest)) (sym one)
        (trailing_first rows pending waiting word rest (subst (λ (p : ℕ). faults s (state rows pending waiting p true) (word ∷ rest) ≡ []) one e))
    | inr two ↦ absurd (trailing_second rows pending waiting word rest (subst (λ (p : ℕ). faults s (state rows pending waiting p true) (word ∷ rest) ≡ []) two e))
  ]

  -- ---- before it

  abbrev ReadsIdle : List Text → Type 0
  ReadsIdle words = (rows : List Row) (pending : Option (Text × List Text)) (position : ℕ) → IsPlace position → faults s (state rows pending idle position false) words ≡ []
      → Settles rows pending × Read words (settled_at rows pending) position (state rows pending idle position false) words

  -- an option waits for its value
  abbrev ReadsValue : List Text → Type 0
  ReadsValue words = (id : Text) (known : IsOption has_options id) (rows : List Row) (position : ℕ) → IsPlace position
      → faults s (state rows (Some (id, [])) (option id) position false) words ≡ []
      → (v : Text) × (rest : List Text) × (words ≡ v ∷ rest) × (use_fault false (event_read id) (v ∷ []) rows ≡ [])
      × Read rest (used (event_read id) (v ∷ []) rows) position (state rows (Some (id, [])) (option id) position false) words

  file_seen : (word : Text) (rest : List Text) → ReadsIdle rest → (rows : List Row) (pending : Option (Text × List Text)) (position : ℕ) → IsPlace position → MayBeFile word
      → step_fault s position (held rows pending) value ≡ []
      → (w : Walk) → w ≡ after_step (rules needs_file has_options) word (state rows pending idle position false) (held rows pending) value → faults s w rest ≡ []
      → Settles rows pending × Read (word ∷ rest) (settled_at rows pending) position w rest
  file_seen word rest reads rows pending position at is fits w moved e = elim at [
    | inl one ↦
        let on : w ≡ state (settled_at rows pending) (Some (codes "file", word ∷ [])) idle 2 false =
        moved ∙ ap (λ (p : ℕ). after_step (rules needs_file has_options) word (state rows pending idle p false) (held rows pending) value) one ∙ file_moved needs_file has_options name rows pending idle word false in
        let rec = reads (settled_at rows pending) (Some (codes "file", word ∷ [])) 2 (inr refl) (subst (λ (v : Walk). faults s v rest ≡ []) on e) in
        let none = file_new (settled_at rows pending) word rec.0 in (
          sym (file_fault needs_file has_options name rows pending idle word) ∙ subst (λ (p : ℕ). step_fault s p (held rows pending) value ≡ []) one fits,
          λ a holds place_is.
              let end = rec.1 (record a { file = Some word }) (holds_file (settled_at rows pending) a word holds none) refl in
              (end.0, File a end.0 word rest (absent a.file _ holds.has_file none) is end.1, subst (λ (v : Walk). Holds (end_rows v rest) end.0) (sym on) end.2),
        )
    | inr two ↦ absurd (stray needs_file has_options name rows pending idle word (subst (λ (p : ℕ). step_fault s p (held rows pending) value ≡ []) two fits))
  ]

  idle_seen : (word : Text) (rest : List Text) → ReadsIdle rest → ReadsValue rest → (rows : List Row) (pending : Option (Text × List Text)) (position : ℕ) → IsPlace position
      → (w : Walk) → Seen s (IsOption has_options) rows pending idle position word w → faults s w rest ≡ []
      → Settles rows pending × Read (word ∷ rest) (settled_at rows pending) position w rest
  idle_seen word rest reads values rows pending position at w (SeenDashes is moved) e =
      let end = trailing rest rows pending idle position at (subst (λ (v : Walk). faults s v rest ≡ []) moved e) in (
        end.0,
        λ a holds place_is.
            let last = end.1 a holds place_is in
            (last.0, subst (λ (t : Text). Adds MayBeFile has_options (t ∷ rest) a last.0) (sym is) last.1, subst (λ (v : Walk). Holds (end_rows v rest) last.0) (sym moved) last.2),
      )
  idle_seen word rest reads values rows pending position at w (SeenValue is fits moved) e = file_seen word rest reads rows pending position at is fits w moved e
  idle_seen word rest reads values rows pending position at w (SeenOption id known is settles moved) e =
      let got = values id known (settled_at rows pending) position at (subst (λ (v : Walk). faults s v rest ≡ []) moved e) in (
        settles,
        λ a holds place_is.
            let adds = adds_option has_options id known got.0 (settled_at rows pending) a holds got.3 in
            let end = got.4 adds.after adds.holds (place_is ∙ adds.same_place) in (
              end.0,
              subst (λ (t : Text). Adds MayBeFile has_options (t ∷ rest) a end.0) (sym is)
                  (subst (λ (ws : List Text). Adds MayBeFile has_options ((45 ∷ 45 ∷ id) ∷ ws) a end.0) (sym got.2) (adds.apart got.1 end.0 end.1)),
              subst (λ (v : Walk). Holds (end_rows v rest) end.0) (sym moved) end.2,
            ),
      )
  idle_seen word rest reads values rows pending position at w (SeenJoined id v known is settles fits moved) e =
      let rec = reads (used (event_read id) (v ∷ []) (settled_at rows pending)) None position at (subst (λ (x : Walk). faults s x rest ≡ []) moved e) in (
        settles,
        λ a holds place_is.
            let adds = adds_option has_options id known v (settled_at rows pending) a holds fits in
            let end = rec.1 adds.after adds.holds (place_is ∙ adds.same_place) in (
              end.0,
              subst (λ (t : Text). Adds MayBeFile has_options (t ∷ rest) a end.0) (sym is) (adds.joined rest end.0 end.1),
              subst (λ (x : Walk). Holds (end_rows x rest) end.0) (sym moved) end.2,
            ),
      )

  value_seen : (word : Text) (rest : List Text) → ReadsIdle rest → (id : Text) (known : IsOption has_options id) (rows : List Row) (position : ℕ) → IsPlace position
      → (w : Walk) → Seen s (IsOption has_options) rows (Some (id, [])) (option id) position word w → faults s w rest ≡ []
      → (use_fault false (event_read id) (word ∷ []) rows ≡ []) × Read rest (used (event_read id) (word ∷ []) rows) position w rest
  value_seen word rest reads id known rows position at w (SeenDashes is moved) e =
      absurd (unsettled needs_file has_options name id known rows position (trailing rest rows (Some (id, [])) (option id) position at (subst (λ (v : Walk). faults s v rest ≡ []) moved e)).0)
  value_seen word rest reads id known rows position at w (SeenValue is fits moved) e =
      let on : w ≡ state rows (Some (id, word ∷ [])) idle position false = moved ∙ value_moved needs_file has_options name id known rows position word in
      let rec = reads rows (Some (id, word ∷ [])) position at (subst (λ (v : Walk). faults s v rest ≡ []) on e) in (
        sym (value_fault needs_file has_options name id known rows position word) ∙ rec.0,
        subst (λ (v : Walk). Read rest (used (event_read id) (word ∷ []) rows) position v rest) (sym on)
            (subst (λ (xs : List Row). Read rest xs position (state rows (Some (id, word ∷ [])) idle position false) rest) (value_rows needs_file has_options name id known rows position word) rec.1),
      )
  value_seen word rest reads id known rows position at w (SeenOption other named is settles moved) e = absurd (unsettled needs_file has_options name id known rows position settles)
  value_seen word rest reads id known rows position at w (SeenJoined other v named is settles fits moved) e = absurd (unsettled needs_file has_options name id known rows position settles)

  reads_both : (words : List Text) → ReadsIdle words × ReadsValue words
  reads_both [] = (
    λ rows pending position at e.
        (sym (faults_end s (state rows pending idle position false)) ∙ e, λ a holds place_is. (a, NoWords a, ended (settled_at rows pending) a holds)),
    λ id known rows position at e. absurd (unsettled needs_file has_options name id known rows position (sym (faults_end s (state rows (Some (id, [])) (option id) position false)) ∙ e)),
  )
  reads_both (word ∷ rest) =
      let rec = reads_both rest in (
        λ rows pending position at e.
            let step = faults_step s (state rows pending idle position false) word rest e in
            idle_seen word rest rec.0 rec.1 rows pending position at (walked (rules needs_file has_options) [] (state rows pending idle position false) word)
            (seen s [] rows pending idle position word refl (IsOption has_options) (longs needs_file has_options name) (shorts needs_file has_options name) step.0) step.1,
        λ id known rows position at e.
            let step = faults_step s (state rows (Some (id, [])) (option id) position false) word rest e in
            let got = value_seen word rest rec.0 id known rows position at (walked (rules needs_file has_options) [] (state rows (Some (id, [])) (option id) position false) word)
            (seen s [] rows (Some (id, [])) (option id) position word refl (IsOption has_options) (longs needs_file has_options name) (shorts needs_file has_options name) step.0) step.1 in
            (word, rest, refl, got.0, got.1),
      )

  -- from a subcommand's name on
  pub reads : (words : List Text) → faults s (state [] None idle 1 false) words ≡ []
      → (a : Arguments) × Adds MayBeFile has_options words no_arguments a × Holds (end_rows (state [] None idle 1 false) words) a
  reads words e = ((reads_both words).0 [] None 1 (inl refl) e).1 no_arguments (record { file = refl; has_file = refl; given = refl; from = tt; has_from = refl; to = tt; has_to = refl }) refl
