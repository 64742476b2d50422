-- What every run owes to those who see its observations: what is shown agrees, and what is acknowledged is kept.
use Rattle.std.specs.Prelude.{◌≡◌, ◌⊎◌, ℕ, ◌+◌, ◌<◌, ◌≤◌, List, ◌∷◌, ◌++◌, length, slice_index, Contains, AllPairs}
use Rattle.wire.specs.declared.note.Note.{Note}
use Rattle.wire.specs.declared.note.Note.TheVariants.{Acked, SealedAt, Content, Seen}
use Rattle.replica.specs.Groups.{Group, joined, text, size, text_length}

-- a group stands at an offset: the groups before it have that many bytes (Calder et al., SOSP 2011, section 4.1)
pub record Stands (group : Group) (offset : ℕ) (groups : List Group) : Type 0 where
  pub before : List Group
  pub after : List Group
  pub split : groups ≡ before ++ group ∷ after
  pub place : text_length before ≡ offset

-- two texts, each with the offset of its first byte, show the same byte wherever both cover
abbrev pub SameWhereBoth : ℕ → List ℕ → ℕ → List ℕ → Type 0
SameWhereBoth o xs p ys =
    (i j : ℕ) → i < length xs → j < length ys → o + i ≡ p + j → slice_index xs i ≡ slice_index ys j

-- all that is shown of one extent agrees
pub record Agree (notes : List Note) : Type 0 where
  pub same_content : (e n m : ℕ) (c d : List Group) →
      Contains notes (Content e n c) → Contains notes (Content e m d) → c ≡ d
  pub content_length : (e n l : ℕ) (c : List Group) →
      Contains notes (Content e n c) → Contains notes (SealedAt e l) → text_length c ≡ l
  pub one_length : (e l k : ℕ) → Contains notes (SealedAt e l) → Contains notes (SealedAt e k) → l ≡ k
  pub seen_content : (e n m o : ℕ) (bytes : List ℕ) (c : List Group) →
      Contains notes (Seen e n o bytes) → Contains notes (Content e m c) → SameWhereBoth o bytes 0 (text c)
  pub seen_seen : (e n m o p : ℕ) (xs ys : List ℕ) →
      Contains notes (Seen e n o xs) → Contains notes (Seen e m p ys) → SameWhereBoth o xs p ys

-- two acknowledged groups of one extent do not overlap
abbrev pub Apart : Note → Note → Type 0
Apart (Acked e o g) (Acked f p h) = e ≡ f → (o + size g ≤ p) ⊎ (p + size h ≤ o)
Apart _ _ = Unit {0}

-- what is acknowledged is kept, where it was acknowledged
pub record Kept (notes : List Note) : Type 0 where
  pub stands : (e n o : ℕ) (g : Group) (c : List Group) →
      Contains notes (Acked e o g) → Contains notes (Content e n c) → Stands g o c
  pub shown : (e n o p : ℕ) (g : Group) (bytes : List ℕ) →
      Contains notes (Acked e o g) → Contains notes (Seen e n p bytes) → SameWhereBoth o (joined g) p bytes
  pub within : (e o l : ℕ) (g : Group) →
      Contains notes (Acked e o g) → Contains notes (SealedAt e l) → o + size g ≤ l
  pub apart : AllPairs Apart notes
