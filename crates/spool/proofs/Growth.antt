-- What is kept stays the beginning of one line where more comes after it.
use Rattle.std.proofs.Common.{◌≡◌, ℕ, ◌≤◌, List, ◌++◌, length, take, sym, subst, arith, length-append}
use Rattle.std.proofs.lemmas.List.{take-append-le}
use Rattle.spool.specs.Lines.{HasNoLineEnd}

pub line-more : (full : ℕ) (old more new : List ℕ) → new ≡ old ++ more → full ≤ length old → HasNoLineEnd (take full old)
    → (full ≤ length new) × HasNoLineEnd (take full new)
line-more full old more new is long line =
    let longer : full ≤ length (old ++ more) = omega (arith, length-append old more, long) in
    let P : List ℕ → Type 0 = λ bytes. HasNoLineEnd (take full bytes) in (
      subst (λ bytes. full ≤ length bytes) (sym is) longer,
      subst P (sym is) (subst HasNoLineEnd (sym (take-append-le full old more long)) line),
    )
