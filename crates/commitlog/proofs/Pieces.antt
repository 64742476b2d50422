-- A text and its pieces.
use Rattle.std.proofs.Common.{◌≡◌, ℕ, zero, suc, ◌+◌, ◌-◌, ◌*◌, ◌<◌, ◌≤◌, min, List, [], ◌∷◌, ◌++◌, length, take, drop, Some, refl, sym, ap, subst, ◌∙◌, append_assoc, arith, eq-eqb, inl, inr, true}
use Rattle.std.specs.List.{AllByRecursion}
use Rattle.std.specs.Prelude.{◌==◌}
use Rattle.std.proofs.lemmas.Bool.{eqb-true, cases_lt}
use Rattle.std.proofs.lemmas.List.{append-nil, length-append, length-take, length-drop, take_at, drop_at, take_all, drop_all, take-append-drop, nil_from_length}
use Rattle.std.proofs.lemmas.List.Sums.{sum_by-cons}
use Rattle.block_types.specs.Limits.{IsBlock, group_size}
use Rattle.blocks.specs.Format.{◌>>=◌}
use Rattle.blocks.proofs.Formats.{bind_some, if_some, some_is}
use Rattle.commitlog.specs.Record.{cut, piece_count}
use Rattle.commitlog.specs.Reading.{piece_at, joined}

module _ (full : ℕ) (some : 1 ≤ full) where
  pub length-cut : (n : ℕ) (bytes : List ℕ) → length (cut full n bytes) ≡ n
  length-cut zero bytes = refl
  length-cut (suc n) bytes = ap suc (length-cut n (drop full bytes))

  pub piece_takes : (size : ℕ) (blocks : List (List ℕ)) (piece : List ℕ) (rest : List (List ℕ)) → piece_at full size blocks ≡ Some (piece, rest) → (blocks ≡ piece ∷ rest) × (length piece ≡ min full size)
  piece_takes size [] piece rest e = absurd cc
  piece_takes size (b ∷ blocks) piece rest e =
      let g = if_some (length b == min full size) (b, blocks) (piece, rest) e in
      let made : List ℕ × List (List ℕ) = (b, blocks) in
      subst (λ (y : List ℕ × List (List ℕ)). (b ∷ blocks ≡ y.0 ∷ y.1) × (length y.0 ≡ min full size)) g.1 (refl, eqb-true _ _ g.0)

  piece_front : (b more : List ℕ) (size : ℕ) → length b ≡ min full size → length more ≡ size - full → (take full (b ++ more) ≡ b) × (drop full (b ++ more) ≡ more)
  piece_front b more size whole rest =
      elim (cases_lt size full) [
        | inl lt ↦
            let nothing : more ≡ [] = nil_from_length more (omega arith) in
            let alone : b ++ more ≡ b = ap (λ (l : List ℕ). b ++ l) nothing ∙ append-nil b in
            (ap (λ (l : List ℕ). take full l) alone ∙ take_all full b (omega arith), ap (λ (l : List ℕ). drop full l) alone ∙ drop_all full b (omega arith) ∙ sym nothing)
        | inr le ↦ (take_at b more full (omega arith), drop_at b more full (omega arith))
      ]

  pub joined_takes : (n size : ℕ) (blocks : List (List ℕ)) (x : List ℕ × List (List ℕ)) → size ≤ full * n → joined full n size blocks ≡ Some x → (blocks ≡ cut full n x.0 ++ x.1) × (length x.0 ≡ size)
  joined_takes zero size blocks x le e =
      subst (λ (y : List ℕ × List (List ℕ)). (blocks ≡ cut full zero y.0 ++ y.1) × (length y.0 ≡ size)) (some_is ([], blocks) x e) (refl, omega arith)
  joined_takes (suc n) size blocks x le e =
      let p = bind_some (piece_at full size blocks) (λ p. joined full n (size - full) p.1 >>= λ y. Some (p.0 ++ y.0, y.1)) x e in
      let y = bind_some (joined full n (size - full) p.0.1) (λ y. Some (p.0.0 ++ y.0, y.1)) x p.2 in
      let s = piece_takes size blocks p.0.0 p.0.1 p.1 in
      let t = joined_takes n (size - full) p.0.1 y.0 (omega arith) y.1 in
      let f = piece_front p.0.0 y.0.0 size s.1 t.1 in
      let cuts : cut full (suc n) (p.0.0 ++ y.0.0) ≡ p.0.0 ∷ cut full n y.0.0 = rw (f.0, f.1) refl in
      let parts : blocks ≡ cut full (suc n) (p.0.0 ++ y.0.0) ++ y.0.1 = s.0 ∙ ap (λ (l : List (List ℕ)). p.0.0 ∷ l) t.0 ∙ ap (λ (l : List (List ℕ)). l ++ y.0.1) (sym cuts) in
      let size-is : length (p.0.0 ++ y.0.0) ≡ size = omega (arith, length-append p.0.0 y.0.0, s.1, t.1) in
      let made : List ℕ × List (List ℕ) = (p.0.0 ++ y.0.0, y.0.1) in
      subst (λ (z : List ℕ × List (List ℕ)). (blocks ≡ cut full (suc n) z.0 ++ z.1) × (length z.0 ≡ size)) (some_is made x y.2) (parts, size-is)

  pub joined_again : (n : ℕ) (bytes : List ℕ) (rest : List (List ℕ)) → length bytes ≤ full * n → joined full n (length bytes) (cut full n bytes ++ rest) ≡ Some (bytes, rest)
  joined_again zero bytes rest le = ap (λ (l : List ℕ). Some (l, rest)) (sym (nil_from_length bytes (omega arith)))
  joined_again (suc n) bytes rest le =
      let tested : length (take full bytes) == min full (length bytes) ≡ true = eq-eqb _ _ (length-take full bytes) in
      let left : length bytes - full ≡ length (drop full bytes) = sym (length-drop full bytes) in
      rw (tested, left, joined_again n (drop full bytes) rest (omega (arith, length-drop full bytes))) (ap (λ (l : List ℕ). Some (l, rest)) (take-append-drop full bytes))

  pub cut_blocks : full ≤ 65536 → (n : ℕ) (bytes : List ℕ) → full * n < length bytes + full → AllByRecursion IsBlock (cut full n bytes)
  cut_blocks most zero bytes lt = tt
  cut_blocks most (suc n) bytes lt =
      ((omega (arith, length-take full bytes), omega (arith, length-take full bytes)), cut_blocks most n (drop full bytes) (omega (arith, length-drop full bytes)))

-- one piece more, as a writer cuts it off
module _ (full : ℕ) where
  cut_front : (bytes : List ℕ) → (take (min (length bytes) full) bytes ≡ take full bytes) × (drop (min (length bytes) full) bytes ≡ drop full bytes)
  cut_front bytes =
      elim (cases_lt full (length bytes)) [
        | inl lt ↦
            let is : min (length bytes) full ≡ full = omega arith in
            (ap (λ (n : ℕ). take n bytes) is, ap (λ (n : ℕ). drop n bytes) is)
        | inr le ↦
            let is : min (length bytes) full ≡ length bytes = omega arith in
            let all : length bytes ≤ length bytes = omega arith in
            (ap (λ (n : ℕ). take n bytes) is ∙ take_all (length bytes) bytes all ∙ sym (take_all full bytes le), ap (λ (n : ℕ). drop n bytes) is ∙ drop_all (length bytes) bytes all ∙ sym (drop_all full bytes le))
      ]

  pub piece_written : (made : List (List ℕ)) (count i : ℕ) (rest front more : List ℕ) (total : List (List ℕ)) → i < count → front ≡ take (min (length rest) full) rest → more ≡ drop (min (length rest) full) rest
      → made ++ cut full (count - i) rest ≡ total → (made ++ front ∷ []) ++ cut full (count - (i + 1)) more ≡ total
  piece_written made count i rest front more total lt f m so_far =
      let k : count - i ≡ suc (count - (i + 1)) = omega arith in
      let c = cut_front rest in
      let next : cut full (count - i) rest ≡ front ∷ cut full (count - (i + 1)) more = ap (λ (n : ℕ). cut full n rest) k ∙ ap (λ (b : List ℕ). b ∷ cut full (count - (i + 1)) (drop full rest)) (sym (f ∙ c.0)) ∙ ap (λ (b : List ℕ). front ∷ cut full (count - (i + 1)) b) (sym (m ∙ c.1)) in
      append_assoc made (front ∷ []) (cut full (count - (i + 1)) more) ∙ ap (λ (l : List (List ℕ)). made ++ l) (sym next) ∙ so_far

-- the pieces have the bytes of the text
pub cut_size : (full n : ℕ) (bytes : List ℕ) → length bytes ≤ full * n → group_size (cut full n bytes) ≡ length bytes
cut_size full zero bytes le = omega arith
cut_size full (suc n) bytes le =
    sum_by-cons length (take full bytes) (cut full n (drop full bytes)) ∙ ap (λ (k : ℕ). length (take full bytes) + k) (cut_size full n (drop full bytes) (omega (arith, length-drop full bytes))) ∙ omega (arith, length-take full bytes, length-drop full bytes)

pub enough : (size : ℕ) → (size ≤ 65536 * piece_count size) × (65536 * piece_count size < size + 65536)
enough size = (omega arith, omega arith)
