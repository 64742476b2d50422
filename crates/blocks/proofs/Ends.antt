-- What is left to read is the end of what was there to read.
use Rattle.std.proofs.Common.{◌≡◌, ℕ, ◌-◌, List, [], ◌++◌, length, take, drop, Some, refl, sym, ap, subst, ◌∙◌, append_assoc}
use Rattle.std.specs.Prelude.{nat_eq, nat_lt}
use Rattle.std.specs.List.{starts_with}
use Rattle.std.proofs.lemmas.List.{take-append-drop, take_rest}
use Rattle.byteorder.specs.Endian.{big_number}
use Rattle.blocks.specs.Format.{IsEndOf, number_at, after}
use Rattle.blocks.proofs.Formats.{if_some, unless_some}

pub whole_end : (text : List ℕ) → IsEndOf text text
whole_end text = record { front = []; parts = refl }

pub drop_end : (n : ℕ) (bytes text : List ℕ) → IsEndOf bytes text → IsEndOf (drop n bytes) text
drop_end n bytes text end = record {
  front = end.front ++ take n bytes;
  parts = end.parts ∙ ap (λ (l : List ℕ). end.front ++ l) (sym (take-append-drop n bytes)) ∙ sym (append_assoc end.front (take n bytes) (drop n bytes));
}

-- the same, as a slice says it
pub slice_end : (n : ℕ) (bytes text : List ℕ) → IsEndOf bytes text → IsEndOf (take (length bytes - n) (drop n bytes)) text
slice_end n bytes text end = subst (λ (l : List ℕ). IsEndOf l text) (sym (take_rest bytes n)) (drop_end n bytes text end)

pub number_end : (n : ℕ) (bytes : List ℕ) (x : ℕ) (rest text : List ℕ) → number_at n bytes ≡ Some (x, rest) → IsEndOf bytes text → IsEndOf rest text
number_end n bytes x rest text read end =
    let made : ℕ × List ℕ = (big_number n bytes, drop n bytes) in
    let e = unless_some (nat_lt (length bytes) n) made (x, rest) read in
    subst (λ (l : List ℕ). IsEndOf l text) (ap (λ (p : ℕ × List ℕ). p.1) e.1) (drop_end n bytes text end)

pub after_end : (front bytes rest text : List ℕ) → after front bytes ≡ Some rest → IsEndOf bytes text → IsEndOf rest text
after_end front bytes rest text read end =
    let e = if_some (starts_with nat_eq bytes front) (drop (length front) bytes) rest read in
    subst (λ (l : List ℕ). IsEndOf l text) e.1 (drop_end (length front) bytes text end)
