-- What two observations owe each other, so that all is shown alike and nothing acknowledged is lost.
use Rattle.std.specs.Prelude.{◌≡◌, ◌⊎◌, ◌+◌, ◌≤◌}
use Rattle.wire.specs.declared.note.Note.{Note}
use Rattle.wire.specs.declared.note.Note.TheVariants.{Acked, SealedAt, Content, Seen}
use Rattle.replica.specs.Groups.{joined, text, size, text_length}
use Rattle.model_streams.specs.Honest.{Stands, SameWhereBoth}

-- of two observations of one extent
abbrev pub Compatible : Note → Note → Type 0
Compatible (Content e n c) (Content f m d) = e ≡ f → c ≡ d
Compatible (Content e n c) (SealedAt f l) = e ≡ f → text_length c ≡ l
Compatible (Content e n c) (Seen f m o bytes) = e ≡ f → SameWhereBoth o bytes 0 (text c)
Compatible (Content e n c) (Acked f o g) = e ≡ f → Stands g o c
Compatible (SealedAt e l) (Content f n c) = e ≡ f → text_length c ≡ l
Compatible (SealedAt e l) (SealedAt f k) = e ≡ f → l ≡ k
Compatible (SealedAt e l) (Acked f o g) = e ≡ f → o + size g ≤ l
Compatible (Seen e n o xs) (Content f m c) = e ≡ f → SameWhereBoth o xs 0 (text c)
Compatible (Seen e n o xs) (Seen f m p ys) = e ≡ f → SameWhereBoth o xs p ys
Compatible (Seen e n p xs) (Acked f o g) = e ≡ f → SameWhereBoth o (joined g) p xs
Compatible (Acked e o g) (Content f n c) = e ≡ f → Stands g o c
Compatible (Acked e o g) (SealedAt f l) = e ≡ f → o + size g ≤ l
Compatible (Acked e o g) (Seen f n p bytes) = e ≡ f → SameWhereBoth o (joined g) p bytes
Compatible (Acked e o g) (Acked f p h) = e ≡ f → (o + size g ≤ p) ⊎ (p + size h ≤ o)
Compatible _ _ = Unit {0}
