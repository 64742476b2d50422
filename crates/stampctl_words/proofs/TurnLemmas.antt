-- What one word of a command line comes to.
use Rattle.std.proofs.Common.{◌≡◌, ◌∙◌, ℕ, Bool, cond, true, false, zero, suc, refl, sym, ap, subst, List, [], ◌∷◌, length, drop, Option, Some, None, slice_get, encode_utf8, bytes_eq, chars, fold}
use Rattle.std.specs.Option.{option_map_or}
use Rattle.clap.specs.Lexer.{long_of, short_of}
use Rattle.clap.specs.Kinds.{Kinds, or_else}
use Rattle.clap.specs.Faults.{bundle_fault, bundle_step_fault, flag_word_fault, flags_fault, long_fault, other_fault, settle_fault, short_fault, step_fault, turn_fault, use_fault, walk_fault}
use Rattle.clap.specs.Simple.{Shape}
use Rattle.clap.specs.Walk.{Held, Names, Outcome, Row, Rule, Step, Text, Waiting, Walk, after_flag, after_step, arg_by_long, arg_by_short, bundle_met, bundle_step, idle, long_met, long_or_other, option, plain, plain_word, settled_rows, short_or_plain, subcommand_met, subcommand_or_other, trailing, used, walked}
use Rattle.stampctl_words.specs.Words.{MayBeFile}
use Rattle.stampctl_words.proofs.RowLemmas.{event_read}
use Rattle.stampctl_words.proofs.SpellingLemmas.{IsNoFlag, dashes, long_spelled, may_be_file, same_word, spelled}

pub or_nil : (x y : Kinds) → or_else x y ≡ [] → (x ≡ []) × (y ≡ [])
or_nil [] y e = (refl, e)
or_nil (k ∷ ks) y e = let bad : ◌≡◌ {A = Kinds} (k ∷ ks) [] = e in cc

pub nil_or : (x y : Kinds) → x ≡ [] → y ≡ [] → or_else x y ≡ []
nil_or x y a b = rw a b

abbrev pub held : List Row → Option (Text × List Text) → Held
held rows pending = record { rows = rows; pending = pending; skip = 0 }

-- where a walk stands between two words
abbrev pub state : List Row → Option (Text × List Text) → Waiting → ℕ → Bool → Walk
state rows pending waiting position is_trailing = record {
  held = held rows pending;
  waiting = waiting;
  position = position;
  is_trailing = is_trailing;
  stopped = None;
}

-- ---- the words from where a walk stands

-- what is refused of them
abbrev pub faults : Shape → Walk → List Text → Kinds
faults s w words = or_else (walk_fault s [] w words) (settle_fault s.rules s.args_override_self (fold (walked s.rules []) w words).held)

pub faults_step : (s : Shape) (w : Walk) (word : Text) (rest : List Text) → faults s w (word ∷ rest) ≡ []
    → (turn_fault s [] w word ≡ []) × (faults s (walked s.rules [] w word) rest ≡ [])
unfolding walk_fault
faults_step s w word rest e =
    let outer = or_nil (or_else (turn_fault s [] w word) (walk_fault s [] (walked s.rules [] w word) rest)) _ e in
    let inner = or_nil (turn_fault s [] w word) _ outer.0 in
    (inner.0, nil_or _ _ inner.1 outer.1)

pub faults_more : (s : Shape) (w next : Walk) (word : Text) (rest : List Text) → turn_fault s [] w word ≡ [] → walked s.rules [] w word ≡ next
    → faults s next rest ≡ [] → faults s w (word ∷ rest) ≡ []
unfolding walk_fault
faults_more s w next word rest turn moved e =
    let on : faults s (walked s.rules [] w word) rest ≡ [] = subst (λ (v : Walk). faults s v rest ≡ []) (sym moved) e in
    let parts = or_nil (walk_fault s [] (walked s.rules [] w word) rest) _ on in
    nil_or _ _ (nil_or (turn_fault s [] w word) _ turn parts.0) parts.1

pub faults_end : (s : Shape) (w : Walk) → faults s w [] ≡ settle_fault s.rules s.args_override_self w.held
unfolding walk_fault
faults_end s w = refl

-- ---- one word

-- a command's option that takes a number, or a name that it refuses
pub data Long (s : Shape) (Known : Text → Type 0) (name : Text) : Type 0 where
  Knows : (known : Known name) (found : arg_by_long s.rules name ≡ Some (event_read name)) → Long s Known name
  Refuses : (refuses : (value : Option Text) (h : Held) → long_fault s.rules s.args_override_self (arg_by_long s.rules name) value h ≡ [] → ⊥) → Long s Known name

module _ (s : Shape) (waiting : Waiting) (position : ℕ) (h : Held) (word : Text) where
  -- what the word is, where `dashed` says whether it is `--`, and `l` what follows two hyphens
  abbrev pub met_by : Bool → Option (Text × Option Text) → Held × Step
  met_by dashed l = cond dashed (h, trailing position) (long_or_other s.rules waiting word l h)

  abbrev pub fault_by : Bool → Option (Text × Option Text) → Kinds
  fault_by dashed l = or_else (cond dashed [] (flag_word_fault s.rules s.args_override_self l word h)) (step_fault s position (met_by dashed l).0 (met_by dashed l).1)

-- what a word comes to that is not refused
pub data Seen (s : Shape) (Known : Text → Type 0) (rows : List Row) (pending : Option (Text × List Text)) (waiting : Waiting) (position : ℕ) (word : Text) (next : Walk) : Type 0 where
  SeenDashes : (is : word ≡ dashes) (moved : next ≡ state rows pending waiting position true) → Seen s Known rows pending waiting position word next
  SeenValue : (is : MayBeFile word) (fits : step_fault s position (plain_word s.rules waiting word (held rows pending)).0 (plain_word s.rules waiting word (held rows pending)).1 ≡ [])
      (moved : next ≡ after_step s.rules word (state rows pending waiting position false) (plain_word s.rules waiting word (held rows pending)).0 (plain_word s.rules waiting word (held rows pending)).1) →
      Seen s Known rows pending waiting position word next
  SeenOption : (id : Text) (known : Known id) (is : word ≡ 45 ∷ 45 ∷ id) (settles : settle_fault s.rules s.args_override_self (held rows pending) ≡ [])
      (moved : next ≡ state (settled_rows s.rules pending rows) (Some (id, [])) (option id) position false) →
      Seen s Known rows pending waiting position word next
  SeenJoined : (id value : Text) (known : Known id) (is : word ≡ 45 ∷ 45 ∷ spelled id (Some value)) (settles : settle_fault s.rules s.args_override_self (held rows pending) ≡ [])
      (fits : use_fault s.args_override_self (event_read id) (value ∷ []) (settled_rows s.rules pending rows) ≡ [])
      (moved : next ≡ state (used (event_read id) (value ∷ []) (settled_rows s.rules pending rows)) None idle position false) →
      Seen s Known rows pending waiting position word next

module _ (s : Shape) (shorts : (x : ℕ) (rest : Text) (h : Held) (next : Held → Kinds) → short_fault s.rules s.args_override_self (arg_by_short s.rules x) rest h next ≡ [] → ⊥) where
  -- no character after one hyphen is taken for a flag
  bundle_value : (k : ℕ) (flags : Text) (h : Held) → flags_fault s.rules s.args_override_self k flags 0 h ≡ [] → bundle_met s.rules k flags 0 plain h ≡ (h, plain)
  unfolding flags_fault bundle_met
  bundle_value zero flags h e = refl
  bundle_value (suc k) flags h e = go (slice_get (chars flags) 0) e
    where
      go : (o : Option ℕ) → bundle_step_fault s.rules s.args_override_self o flags 0 h (flags_fault s.rules s.args_override_self k) ≡ [] → bundle_step s.rules o flags 0 plain h (bundle_met s.rules k) ≡ (h, plain)
      go None none = refl
      go (Some x) none =
          let rest = drop (length (encode_utf8 x)) flags in
          absurd (shorts x rest h (flags_fault s.rules s.args_override_self k rest 0) none)

  short_value : (rows : List Row) (pending : Option (Text × List Text)) (waiting : Waiting) (word : Text) (o : Option Text)
      → option_map_or (λ flags. bundle_fault s.rules s.args_override_self flags (held rows pending)) o [] ≡ []
      → short_or_plain s.rules waiting word o (held rows pending) ≡ plain_word s.rules waiting word (held rows pending)
  short_value rows pending waiting word None e = refl
  short_value rows pending waiting word (Some flags) e =
      ap (λ (p : Held × Outcome). after_flag s.rules waiting word p.0 p.1) (bundle_value (length flags) flags (held rows pending) e)

module _ (s : Shape) (names : Names) (rows : List Row) (pending : Option (Text × List Text)) (waiting : Waiting) (position : ℕ) (word : Text) (none_met : subcommand_met names waiting word ≡ None) where
  abbrev here : Held
  here = held rows pending

  abbrev at : Walk
  at = state rows pending waiting position false

  abbrev moved_by : Bool → Option (Text × Option Text) → Walk
  moved_by dashed l = after_step s.rules word at (met_by s waiting position here word dashed l).0 (met_by s waiting position here word dashed l).1

  pub turn_is : turn_fault s names at word ≡ fault_by s waiting position here word (bytes_eq word dashes) (long_of word)
  turn_is = ap (λ (o : Option Text). or_else (other_fault s o word here) (step_fault s position (subcommand_or_other s.rules o waiting position word here).0 (subcommand_or_other s.rules o waiting position word here).1)) none_met

  pub walked_is : walked s.rules names at word ≡ moved_by (bytes_eq word dashes) (long_of word)
  unfolding walked
  walked_is = ap (λ (o : Option Text). after_step s.rules word at (subcommand_or_other s.rules o waiting position word here).0 (subcommand_or_other s.rules o waiting position word here).1) none_met

  -- a word that is no option and no flag
  pub value_turn : IsNoFlag word
      → (turn_fault s names at word ≡ step_fault s position (plain_word s.rules waiting word here).0 (plain_word s.rules waiting word here).1)
      × (walked s.rules names at word ≡ after_step s.rules word at (plain_word s.rules waiting word here).0 (plain_word s.rules waiting word here).1)
  value_turn is =
      let is_value : ◌≡◌ {A = Held × Step} (long_or_other s.rules waiting word None here) (plain_word s.rules waiting word here) =
      ap (λ (f : Option Text). short_or_plain s.rules waiting word f here) is.no_flags in
      let no_fault : flag_word_fault s.rules s.args_override_self None word here ≡ [] =
      ap (λ (f : Option Text). option_map_or (λ flags. bundle_fault s.rules s.args_override_self flags here) f []) is.no_flags in (
        turn_is ∙ ap (λ (d : Bool). fault_by s waiting position here word d (long_of word)) is.other ∙ ap (fault_by s waiting position here word false) is.no_name
            ∙ ap (λ (k : Kinds). or_else k (step_fault s position (met_by s waiting position here word false None).0 (met_by s waiting position here word false None).1)) no_fault
            ∙ ap (λ (p : Held × Step). step_fault s position p.0 p.1) is_value,
        walked_is ∙ ap (λ (d : Bool). moved_by d (long_of word)) is.other ∙ ap (moved_by false) is.no_name
            ∙ ap (λ (p : Held × Step). after_step s.rules word at p.0 p.1) is_value,
      )

  module _ (Known : Text → Type 0) (longs : (name : Text) → Long s Known name)
      (shorts : (x : ℕ) (rest : Text) (h : Held) (next : Held → Kinds) → short_fault s.rules s.args_override_self (arg_by_short s.rules x) rest h next ≡ [] → ⊥) where
    abbrev SeenAs : Walk → Type 0
    SeenAs next = Seen s Known rows pending waiting position word next

    seen_long : (name : Text) (value : Option Text) → long_of word ≡ Some (name, value) → Long s Known name
        → fault_by s waiting position here word false (Some (name, value)) ≡ [] → SeenAs (moved_by false (Some (name, value)))
    seen_long name value is (Refuses refuses) e = absurd (refuses value here (or_nil _ _ e).0)
    seen_long name None is (Knows known found) e =
        let fits = subst (λ (o : Option Rule). long_fault s.rules s.args_override_self o None here ≡ []) found (or_nil _ _ e).0 in
        SeenOption name known (long_spelled word name None is) fits
        (ap (λ (o : Option Rule). after_step s.rules word at (after_flag s.rules waiting word (long_met s.rules o None here).0 (long_met s.rules o None here).1).0 (after_flag s.rules waiting word (long_met s.rules o None here).0 (long_met s.rules o None here).1).1) found)
    seen_long name (Some value) is (Knows known found) e =
        let fits = subst (λ (o : Option Rule). long_fault s.rules s.args_override_self o (Some value) here ≡ []) found (or_nil _ _ e).0 in
        let parts = or_nil (settle_fault s.rules s.args_override_self here) _ fits in
        SeenJoined name value known (long_spelled word name (Some value) is) parts.0 parts.1
        (ap (λ (o : Option Rule). after_step s.rules word at (after_flag s.rules waiting word (long_met s.rules o (Some value) here).0 (long_met s.rules o (Some value) here).1).0 (after_flag s.rules waiting word (long_met s.rules o (Some value) here).0 (long_met s.rules o (Some value) here).1).1) found)

    seen_by : (dashed : Bool) → bytes_eq word dashes ≡ dashed → (l : Option (Text × Option Text)) → long_of word ≡ l
        → fault_by s waiting position here word dashed l ≡ [] → SeenAs (moved_by dashed l)
    seen_by true same l is e = SeenDashes (same_word word dashes same) refl
    seen_by false other None is e =
        let parts = or_nil (flag_word_fault s.rules s.args_override_self None word here) _ e in
        let is_value = short_value s shorts rows pending waiting word (short_of word) parts.0 in
        SeenValue (may_be_file word other is) (subst (λ (p : Held × Step). step_fault s position p.0 p.1 ≡ []) is_value parts.1)
        (ap (λ (p : Held × Step). after_step s.rules word at p.0 p.1) is_value)
    seen_by false other (Some p) is e = seen_long p.0 p.1 is (longs p.0) e

    pub seen : turn_fault s names at word ≡ [] → SeenAs (walked s.rules names at word)
    seen e = subst SeenAs (sym walked_is) (seen_by (bytes_eq word dashes) refl (long_of word) refl (sym turn_is ∙ e))
