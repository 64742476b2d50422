-- Facts about the words of a line, one by one.
use Rattle.std.proofs.Common.{◌≡◌, ◌≢◌, ◌<◌, ◌≤◌, ◌+◌, ◌-◌, ◌∙◌, ◌++◌, ◌∷◌, ℕ, Bor, List, [], ap, arith, below_more, drop, get_or, get_or-set_other, get_or-set_same, length, map, refl, set, subst, sym, take, zero, suc}
use Rattle.std.proofs.lemmas.List.{drop-map, get_or-map, length-map, take_all, take_more, take_rest}
use Rattle.std.specs.List.{All, AllByRecursion}
use Rattle.script_lines.specs.Sequences.{each}

-- the texts of words
abbrev pub texts : List (Bor (List ℕ)) → List (List ℕ)
texts words = map (λ w. w.now) words

pub text_at : (words : List (Bor (List ℕ))) (i : ℕ) (d : Bor (List ℕ)) → i < length words → get_or (texts words) i [] ≡ (get_or words i d).now
text_at words i d below = get_or-map (λ w. w.now) words i d [] below

pub length-texts : (words : List (Bor (List ℕ))) → length (texts words) ≡ length words
length-texts words = length-map words (λ w. w.now)

-- the texts from the first or the second word on
pub texts_from_first : (words : List (Bor (List ℕ))) (d : Bor (List ℕ)) → 1 ≤ length words
    → texts words ≡ (get_or words 0 d).now ∷ texts (take (length words - 1) (drop 1 words))
texts_from_first [] d some = absurd (omega arith)
texts_from_first (w ∷ ws) d some = ap (λ (t : List (Bor (List ℕ))). w.now ∷ texts t) (sym (take_rest (w ∷ ws) 1))

pub texts_behind : (words : List (Bor (List ℕ))) (i : ℕ) → texts (take (length words - i) (drop i words)) ≡ drop i (texts words)
texts_behind words i = ap (λ (t : List (Bor (List ℕ))). texts t) (take_rest words i) ∙ sym (drop-map (λ w. w.now) i words)

pub texts_of_one : (words : List (Bor (List ℕ))) (d : Bor (List ℕ)) → 1 ≤ length words → length words < 2
    → texts words ≡ (get_or words 0 d).now ∷ []
texts_of_one [] d some few = absurd (omega arith)
texts_of_one (w ∷ []) d some few = refl
texts_of_one (w ∷ v ∷ ws) d some few = absurd (omega arith)

-- no word is empty, word by word
pub filled_texts : (words : List (Bor (List ℕ))) → All (λ w. 0 < length w.now) words → AllByRecursion (λ t. 0 < length t) (texts words)
filled_texts [] h = tt
filled_texts (w ∷ ws) h = (h 0 w (omega arith), filled_texts ws (λ k d below. h (suc k) d (omega arith)))

pub filled_words : (words : List (Bor (List ℕ))) → AllByRecursion (λ t. 0 < length t) (texts words) → All (λ w. 0 < length w.now) words
filled_words [] h k d below = absurd (omega arith)
filled_words (w ∷ ws) h zero d below = h.0
filled_words (w ∷ ws) h (suc k) d below = filled_words ws h.1 k d (omega arith)

-- one more element spelled by one more word
pub each_more : {X : Type 0} (P : X → List ℕ → Type 0) (xs : List X) (words : List (List ℕ)) (x : X) (word : List ℕ)
    → each P xs words → P x word → each P (xs ++ x ∷ []) (words ++ word ∷ [])
each_more P [] [] x word h p = (p, tt)
each_more P [] (w ∷ ws) x word h p = absurd h
each_more P (y ∷ xs) [] x word h p = absurd h
each_more P (y ∷ xs) (w ∷ ws) x word h p = (h.0, each_more P xs ws x word h.1 p)

-- a number for each word, at its place
pub each_from_places : (P : ℕ → List ℕ → Type 0) (ns : List ℕ) (words : List (List ℕ)) → length ns ≡ length words
    → ((k : ℕ) → k < length ns → P (get_or ns k 0) (get_or words k [])) → each P ns words
each_from_places P [] [] e h = tt
each_from_places P [] (w ∷ ws) e h = absurd (omega arith)
each_from_places P (n ∷ ns) [] e h = absurd (omega arith)
each_from_places P (n ∷ ns) (w ∷ ws) e h =
    (h 0 (omega arith), each_from_places P ns ws (omega arith) (λ k below. h (suc k) (omega arith)))

pub places_more : (P : ℕ → List ℕ → Type 0) (ns : List ℕ) (words : List (List ℕ)) (i n : ℕ) → i < length ns
    → ((k : ℕ) → k < i → P (get_or ns k 0) (get_or words k [])) → P n (get_or words i [])
    → (k : ℕ) → k < i + 1 → P (get_or (set ns i n) k 0) (get_or words k [])
places_more P ns words i n within before here =
    below_more _ i
    (λ k h. let ne : k ≢ i = omega arith in rw get_or-set_other (before k h))
    (rw get_or-set_same here)

-- what each word meets, the word at a place meets
pub all_at : (P : List ℕ → Type 0) (words : List (List ℕ)) (k : ℕ) → k < length words → AllByRecursion P words → P (get_or words k [])
all_at P [] k below h = absurd (omega arith)
all_at P (w ∷ ws) zero below h = h.0
all_at P (w ∷ ws) (suc k) below h = all_at P ws k (omega arith) h.1

-- the word at a place spells something
pub each_at : {X : Type 0} (P : X → List ℕ → Type 0) (xs : List X) (words : List (List ℕ)) (k : ℕ) → k < length words
    → each P xs words → (x : X) × P x (get_or words k [])
each_at P [] [] k below h = absurd (omega arith)
each_at P [] (w ∷ ws) k below h = absurd h
each_at P (x ∷ xs) [] k below h = absurd h
each_at P (x ∷ xs) (w ∷ ws) zero below h = (x, h.0)
each_at P (x ∷ xs) (w ∷ ws) (suc k) below h = each_at P xs ws k (omega arith) h.1

-- a step, the end and an early end of a loop over words
pub each_step : {X : Type 0} (P : X → List ℕ → Type 0) (xs : List X) (words : List (Bor (List ℕ))) (i : ℕ) (d : Bor (List ℕ)) (x : X)
    → i < length words → each P xs (take i (texts words)) → P x (get_or words i d).now
    → each P (xs ++ x ∷ []) (take (i + 1) (texts words))
each_step P xs words i d x below h p =
    let within : i < length (texts words) = omega (arith, length-texts words) in
    subst (each P (xs ++ x ∷ [])) (sym (take_more (texts words) i [] within))
    (each_more P xs _ x _ h (subst (P x) (sym (text_at words i d below)) p))

pub each_end : {X : Type 0} (P : X → List ℕ → Type 0) (xs : List X) (words : List (Bor (List ℕ))) (i : ℕ)
    → length words ≤ i → each P xs (take i (texts words)) → each P xs (texts words)
each_end P xs words i past h = subst (each P xs) (take_all i (texts words) (omega (arith, length-texts words))) h

pub each_stop : {X : Type 0} (P : X → List ℕ → Type 0) (words : List (Bor (List ℕ))) (i : ℕ) (d : Bor (List ℕ))
    → i < length words → ((x : X) → P x (get_or words i d).now → ⊥) → (xs : List X) → each P xs (texts words) → ⊥
each_stop P words i d below none xs h =
    let found = each_at P xs (texts words) i (omega (arith, length-texts words)) h in
    none found.0 (subst (P found.0) (text_at words i d below) found.1)
