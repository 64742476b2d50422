-- What a comparison of two observations of one extent says.
use Rattle.std.proofs.Common.{◌≡◌, ℕ, Bool, Some, sym, ap, subst, ◌∙◌}
use Rattle.std.specs.Bool.{Decides}
use Rattle.wire.specs.declared.note.Note.{Note}
use Rattle.model_streams.specs.Pairs.{Compatible}
use Rattle.world_checker.specs.Checking.{extent_of}
use Rattle.world_checker.proofs.Places.{same_number}

pub told : (kind : ℕ → Note) → ((e : ℕ) → extent_of (kind e) ≡ Some e) → (first second : Note) (e : ℕ) (r : Bool) → first ≡ kind e
    → ((extent : ℕ) → extent_of second ≡ Some extent → Decides r (Compatible (kind extent) second))
    → (extent : ℕ) → extent_of first ≡ Some extent → extent_of second ≡ Some extent → Decides r (Compatible first second)
told kind tells first second e r is compared = λ extent mine other.
    let same : e ≡ extent = same_number e extent (sym (tells e) ∙ (ap extent_of (sym is) ∙ mine)) in
    subst (λ n. Decides r (Compatible n second)) (ap kind (sym same) ∙ sym is) (compared extent other)
