-- How the words of a line follow one another.
use Rattle.std.specs.Prelude.{◌≡◌, ◌∷◌, ℕ, List, [], MatchOption, Option}

-- the very word
abbrev pub says : List ℕ → List ℕ → Type 0
says text word = word ≡ text

-- no more words
abbrev pub end : List (List ℕ) → Type 0
end [] = Unit {0}
end (word ∷ words) = ⊥

-- one word so, and the words after it so
infixr 15 ◌then◌
abbrev pub ◌then◌ : (List ℕ → Type 0) → (List (List ℕ) → Type 0) → List (List ℕ) → Type 0
(P then Q) [] = ⊥
(P then Q) (word ∷ words) = P word × Q words

-- a word for each element, in order
abbrev pub each : {X : Type 0} → (X → List ℕ → Type 0) → List X → List (List ℕ) → Type 0
each P [] = end
each P (x ∷ xs) = P x then each P xs

-- what was read is what is spelled, and nothing is read only where nothing is spelled
abbrev pub Reads : {X W : Type 0} → (X → W → Type 0) → Option X → W → Type 0
Reads {X} Spells read w = MatchOption read ((x : X) → Spells x w → ⊥) (λ x. Spells x w)
