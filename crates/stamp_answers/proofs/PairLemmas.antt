-- Pairs of numbers that compare as equal are equal, so keys that differ do not.
use Rattle.std.proofs.Common.{◌≡◌, ◌≢◌, ℕ, false, ap, sym, refl, Ordering, Less, Equal, Greater, is_eq, nat_cmp}
use Rattle.std.specs.BTreeMap.{is_at}
use Rattle.std.proofs.lemmas.Map.Lookups.{exact_unsigned, exact_pairs}
use Rattle.stamp_answers.specs.declared.key.AnswerKey.{AnswerKey}
use Rattle.stamp_answers.specs.FirstAnswers.{pair_cmp, pair_of}

-- an order that answers `Equal` only of equals
apart_from : {K : Type 0} (x y : K) (o : Ordering) → (o ≡ Equal → x ≡ y) → y ≢ x → is_eq o ≡ false
apart_from x y Less same differ = refl
apart_from x y Equal same differ = absurd (differ (sym (same refl)))
apart_from x y Greater same differ = refl

abbrev key_at : ℕ × ℕ → AnswerKey
key_at p = record { user = p.0; ticket = p.1 }

-- keys of the same pair are the same
same_key : (x y : AnswerKey) → pair_of x ≡ pair_of y → x ≡ y
same_key x y e = ap key_at e

pub not_at : (x y : AnswerKey) → y ≢ x → is_at (pair_cmp (pair_of x)) (pair_of y) ≡ false
not_at x y differ = apart_from x y _ (λ e. same_key x y (exact_pairs nat_cmp nat_cmp exact_unsigned exact_unsigned (pair_of x) (pair_of y) e)) differ
