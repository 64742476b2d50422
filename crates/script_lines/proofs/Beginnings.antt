-- What a line and a request begin with.
use Rattle.std.proofs.Common.{◌≡◌, ◌<◌, ◌∷◌, ℕ, length, List, Option, None, Some, IfSome, [], ap, arith, codes, drop, get_or, option_map, subst, sym}
use Rattle.std.specs.List.{AllByRecursion}
use Rattle.model_streams.specs.declared.event.Event.{Event}
use Rattle.model_streams.specs.declared.event.Event.TheVariants as events
use Rattle.wire.specs.declared.transaction.Change.{Change}
use Rattle.script_lines.specs.Grammar.{Asks, HasForm, Spells}
use Rattle.script_lines.specs.Sequences.{◌then◌, Reads, each}
use Rattle.script_lines.specs.Verbs.{verb_word, wish_word}
use Rattle.script_lines.specs.Words.{IsChange}
use Rattle.script_lines.specs.declared.line.Line.{Line}
use Rattle.script_lines.specs.declared.line.Line.TheVariants as lines
use Rattle.script_lines.specs.declared.line.Request.{Request}
use Rattle.script_lines.specs.declared.line.Request.TheVariants as requests
use Rattle.script_lines.specs.declared.verb.Verb.{Verb}
use Rattle.script_lines.specs.declared.verb.Verb.TheVariants as verbs
use Rattle.script_lines.specs.declared.verb.Wish.{Wish}
use Rattle.script_lines.specs.declared.verb.Wish.TheVariants as wishes

wish_for : (r : Request) (word : List ℕ) (words : List (List ℕ)) → Asks r (word ∷ words) → (wish : Wish) × (word ≡ wish_word wish)
wish_for (requests.Create kind) word words h = (wishes.Create, h.0)
wish_for (requests.Extend kind last pick) word words h = (wishes.Extend, h.0)
wish_for (requests.Append node extent blocks) word words h = (wishes.Append, h.0)
wish_for (requests.Read node extent offset length) word words h = (wishes.Read, h.0)
wish_for (requests.Content node extent upto) word words h = (wishes.Content, h.0)
wish_for (requests.Seal extent) word words h = (wishes.Seal, h.0)
wish_for (requests.Transact server range changes) word words h = (wishes.Transact, h.0)
wish_for (requests.Get server range key) word words h = (wishes.Get, h.0)
wish_for (requests.Route key) word words h = (wishes.Route, h.0)

-- a request begins with a wish
pub no_wish : (word : List ℕ) (words : List (List ℕ)) → ((wish : Wish) → word ≡ wish_word wish → ⊥)
    → (r : Request) → Asks r (word ∷ words) → ⊥
no_wish word words none r h = let found = wish_for r word words h in none found.0 found.1

verb_for : (line : Line) (word : List ℕ) (words : List (List ℕ)) → HasForm line (word ∷ words) → (verb : Verb) × (word ≡ verb_word verb)
verb_for (lines.Submit user request) word words h = (verbs.User, h.0)
verb_for (lines.Deliver packet) word words h = (verbs.Deliver, h.0)
verb_for lines.DeliverLast word words h = (verbs.Deliver, h.0)
verb_for lines.Settle word words h = (verbs.Settle, h.0)
verb_for (lines.Cut actor) word words h = (verbs.Cut, h.0)
verb_for (lines.Heal actor) word words h = (verbs.Heal, h.0)
verb_for (lines.Show node extent) word words h = (verbs.Show, h.0)
verb_for (lines.Happens (events.Submit user to body)) word words h = absurd h
verb_for (lines.Happens (events.Deliver number)) word words h = absurd h
verb_for (lines.Happens (events.Stop actor call keep)) word words h = (verbs.Stop, h.0)
verb_for (lines.Happens (events.Restart actor)) word words h = (verbs.Restart, h.0)
verb_for (lines.Happens (events.Decide extent)) word words h = (verbs.Decide, h.0)
verb_for (lines.Happens (events.GiveUp server range pick)) word words h = (verbs.GiveUp, h.0)
verb_for (lines.Happens (events.Assign range server until)) word words h = (verbs.Assign, h.0)
verb_for (lines.Happens (events.Renew range server until)) word words h = (verbs.Renew, h.0)
verb_for (lines.Happens (events.Moment now)) word words h = (verbs.Moment, h.0)
verb_for (lines.Happens (events.Checkpoint server range combine)) word words h = (verbs.Checkpoint, h.0)
verb_for (lines.Happens (events.Split server range key)) word words h = (verbs.Split, h.0)
verb_for (lines.Happens (events.Merge server left right)) word words h = (verbs.Merge, h.0)

-- a line begins with a verb
pub no_verb : (word : List ℕ) (words : List (List ℕ)) → ((verb : Verb) → word ≡ verb_word verb → ⊥)
    → (line : Line) → HasForm line (word ∷ words) → ⊥
no_verb word words none line h = let found = verb_for line word words h in none found.0 found.1

-- what has the form is spelled, where no word is empty
pub form_spelled : (read : Option Line) (words row : List (List ℕ)) → AllByRecursion (λ word. 0 < length word) words → words ≡ row
    → Reads HasForm read row → IfSome read (λ line. Spells line words)
form_spelled None words row filled same h = tt
form_spelled (Some line) words row filled same h = (filled, subst (HasForm line) (sym same) h)

-- the line of an event has the form that the event has
pub form_of_event : (event : Option Event) (verb named : Verb) (words : List (List ℕ)) → verb ≡ named
    → Reads HasForm (option_map lines.Happens event) (verb_word named ∷ words) → (line : Option Line) → line ≡ option_map lines.Happens event
    → Reads HasForm line (verb_word verb ∷ words)
form_of_event event verb named words is h line same =
    subst (λ (read : Option Line). Reads HasForm read (verb_word verb ∷ words)) (sym same)
    (subst (λ (v : Verb). Reads HasForm (option_map lines.Happens event) (verb_word v ∷ words)) (sym is) h)

tx_apart : (b : ℕ) (rest : List ℕ) → (◌≡◌ {A = ℕ} 116 b → ⊥) → codes "tx" ≡ b ∷ rest → ⊥
tx_apart b rest ne e = ne (ap (λ (t : List ℕ). get_or t 0 0) e)

changes_behind : (changes : List Change) (words : List (List ℕ)) (P Q : List ℕ → Type 0)
    → (P then Q then each IsChange changes) words → each IsChange changes (drop 2 words)
changes_behind changes [] P Q h = absurd h
changes_behind changes (a ∷ []) P Q h = absurd h.1
changes_behind changes (a ∷ b ∷ words) P Q h = h.1.1

-- a transaction has changes after its server and range
pub no_transact : (words : List (List ℕ)) → ((list : List Change) → each IsChange list (drop 2 words) → ⊥)
    → (r : Request) → Asks r (codes "tx" ∷ words) → ⊥
no_transact words none (requests.Transact server range changes) h = none changes (changes_behind changes words _ _ h.1)
no_transact words none (requests.Create kind) h = tx_apart 99 _ (λ e. absurd (omega (arith, e))) h.0
no_transact words none (requests.Extend kind last pick) h = tx_apart 101 _ (λ e. absurd (omega (arith, e))) h.0
no_transact words none (requests.Append node extent blocks) h = tx_apart 97 _ (λ e. absurd (omega (arith, e))) h.0
no_transact words none (requests.Read node extent offset length) h = tx_apart 114 _ (λ e. absurd (omega (arith, e))) h.0
no_transact words none (requests.Content node extent upto) h = tx_apart 99 _ (λ e. absurd (omega (arith, e))) h.0
no_transact words none (requests.Seal extent) h = tx_apart 115 _ (λ e. absurd (omega (arith, e))) h.0
no_transact words none (requests.Get server range key) h = tx_apart 103 _ (λ e. absurd (omega (arith, e))) h.0
no_transact words none (requests.Route key) h = tx_apart 114 _ (λ e. absurd (omega (arith, e))) h.0
