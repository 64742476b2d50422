-- Copies of texts, and pieces of what was joined.
use Rattle.std.proofs.Common.{◌≡◌, ◌<◌, ◌≤◌, ◌+◌, ◌*◌, ◌∙◌, ◌++◌, ◌∷◌, ℕ, List, [], add-one, ap, append-nil, append_assoc, arith, drop, get_or, length, length-append, map, refl, replicate, subst, suc, sym, take, zero}
use Rattle.std.proofs.lemmas.Bool.{true≢false}
use Rattle.std.proofs.lemmas.List.{map-append, take_more}
use Rattle.std.proofs.lemmas.Grind.{flat_map-append}
use Rattle.std.proofs.Math.Seq.{drop-cons}
use Rattle.std.specs.List.{flat_map, repeat}
use Rattle.script_lines.specs.Copies.{bytes_of}
use Rattle.script_lines.specs.Sequences.{each}
use Rattle.script_lines.specs.Values.{AsksCopies, IsTooMany, IsValue, copies, itself, nothing}
use Rattle.script_lines.specs.declared.copies.Copies.{Copies}

turned : (n : ℕ) (xs : List ℕ) → repeat n xs ++ xs ≡ repeat (suc n) xs
turned zero xs = sym (append-nil xs)
turned (suc n) xs = append_assoc xs (repeat n xs) xs ∙ ap (λ (l : List ℕ). xs ++ l) (turned n xs)

-- one copy more
pub one_more : (before : List ℕ) (n : ℕ) (xs : List ℕ) → (before ++ repeat n xs) ++ xs ≡ before ++ repeat (n + 1) xs
one_more before n xs =
    append_assoc before (repeat n xs) xs ∙ ap (λ (l : List ℕ). before ++ l) (turned n xs ∙ ap (λ (k : ℕ). repeat k xs) (sym (add-one n)))

pub length-copies : (n : ℕ) (xs : List ℕ) → length (repeat n xs) ≡ n * length xs
length-copies zero xs = omega arith
length-copies (suc n) xs = let rest = length-copies n xs in omega (arith, length-append xs (repeat n xs), rest)

pub copies_of_byte : (text : List ℕ) (d n : ℕ) → 1 ≤ length text → length text < 2 → replicate n (get_or text 0 d) ≡ repeat n text
copies_of_byte [] d n some few = absurd (omega arith)
copies_of_byte (b ∷ []) d zero some few = refl
copies_of_byte (b ∷ []) d (suc n) some few = ap (λ (l : List ℕ). b ∷ l) (copies_of_byte (b ∷ []) d n some few)
copies_of_byte (b ∷ c ∷ more) d n some few = absurd (omega arith)

-- one part more
pub joined_more : (parts : List Copies) (i : ℕ) (d : Copies) → i < length parts
    → flat_map bytes_of (take (i + 1) parts) ≡ flat_map bytes_of (take i parts) ++ bytes_of (get_or parts i d)
joined_more parts i d below =
    ap (flat_map bytes_of) (take_more parts i d below) ∙ flat_map-append bytes_of (take i parts) (get_or parts i d ∷ [])
    ∙ ap (λ (l : List ℕ). flat_map bytes_of (take i parts) ++ l) (append-nil (bytes_of (get_or parts i d)))

-- what is left begins with the next part
pub joined_next : (parts : List Copies) (i : ℕ) (d : Copies) → i < length parts
    → flat_map bytes_of (drop i parts) ≡ bytes_of (get_or parts i d) ++ flat_map bytes_of (drop (i + 1) parts)
joined_next parts i d below = ap (flat_map bytes_of) (drop-cons parts i d below ∙ ap (λ (k : ℕ). get_or parts i d ∷ drop k parts) (sym (add-one i)))

pub pieces_more : (parts : List Copies) (i : ℕ) (d : Copies) → i < length parts
    → map bytes_of (take (i + 1) parts) ≡ map bytes_of (take i parts) ++ bytes_of (get_or parts i d) ∷ []
pieces_more parts i d below = ap (map bytes_of) (take_more parts i d below) ∙ map-append bytes_of (take i parts) (get_or parts i d ∷ [])

-- pieces spell what the parts spell
pub each_piece : (P : List ℕ → List ℕ → Type 0) (parts : List Copies) (texts : List (List ℕ)) → each (λ part text. P (bytes_of part) text) parts texts
    → each P (map bytes_of parts) texts
each_piece P [] texts h = h
each_piece P (part ∷ parts) [] h = absurd h
each_piece P (part ∷ parts) (text ∷ texts) h = (h.0, each_piece P parts texts h.1)

-- a word that asks for too many copies has no value
pub too_many : (word : List ℕ) → IsTooMany word → (bytes : List ℕ) → IsValue word bytes → ⊥
too_many word h bytes (nothing e) = true≢false (sym (subst AsksCopies e h.0).0)
too_many word h bytes (copies asks few) = omega (arith, h.1, few)
too_many word h bytes (itself unasked other) = unasked h.0
