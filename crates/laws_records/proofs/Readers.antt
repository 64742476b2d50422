-- Readers that take what a writer writes, and nothing else.
use Rattle.std.proofs.Common.{◌≡◌, ℕ, zero, suc, List, [], ◌∷◌, ◌++◌, length, Option, Some, refl, sym, ap, subst, ◌∙◌, append_assoc, append-nil, arith, inl, inr}
use Rattle.std.specs.Prelude.{◌==◌}
use Rattle.std.specs.List.{All}
use Rattle.std.proofs.lemmas.Bool.{cases_lt, eqb-true}
use Rattle.std.proofs.lemmas.List.{get_or_past, nil_from_length}
use Rattle.std.proofs.lemmas.List.Elements.{All-get_or}
use Rattle.blocks.specs.Format.{◌>>=◌, number_at, pair_at, many_at, whole}
use Rattle.blocks.specs.Record.{number}
use Rattle.blocks.proofs.Formats.{IsBytes, IsBytes-after, bind_some, if_some, some_is, IsFormat, number1, number-one}
use Rattle.laws_records.specs.Texts.{IsByte}

pub bytes_of_text : (text : List ℕ) → All IsByte text → IsBytes text
bytes_of_text text all i =
    elim (cases_lt i (length text)) [
      | inl within ↦ All-get_or IsByte text i 0 within all
      | inr past ↦ rw (get_or_past text i 0 past) (omega arith)
    ]

-- what get reads is what put writes of it, and the rest
pub record Takes {A : Type 0} (put : A → List ℕ) (get : List ℕ → Option (A × List ℕ)) : Type 0 where
  pub taken : (bytes : List ℕ) (x : A) (rest : List ℕ) → IsBytes bytes → get bytes ≡ Some (x, rest) → bytes ≡ put x ++ rest

pub of_format : {A : Type 0} {put : A → List ℕ} {get : List ℕ → Option (A × List ℕ)} {F : A → Type 0} → IsFormat put get F → Takes put get
of_format format = record { taken = λ bytes x rest fits e. (format.takes bytes x rest fits e).0 }

-- one and then the other
pub pair_taken : {A B : Type 0} {f : A → List ℕ} {F : List ℕ → Option (A × List ℕ)} {g : B → List ℕ} {G : List ℕ → Option (B × List ℕ)} →
    Takes f F → Takes g G → Takes (λ (x : A × B). f x.0 ++ g x.1) (pair_at F G)
pair_taken {A = A} {B = B} {f = f} {F = F} {g = g} {G = G} first second = record {
  taken = λ bytes x rest fits e.
      let a = bind_some (F bytes) (λ a. G a.1 >>= λ b. Some ((a.0, b.0), b.1)) (x, rest) e in
      let b = bind_some (G a.0.1) (λ b. Some ((a.0.0, b.0), b.1)) (x, rest) a.2 in
      let s = first.taken bytes a.0.0 a.0.1 fits a.1 in
      let t = second.taken a.0.1 b.0.0 b.0.1 (IsBytes-after (f a.0.0) a.0.1 (subst IsBytes s fits)) b.1 in
      let parts : bytes ≡ (f a.0.0 ++ g b.0.0) ++ b.0.1 = s ∙ ap (λ (l : List ℕ). f a.0.0 ++ l) t ∙ sym (append_assoc (f a.0.0) (g b.0.0) b.0.1) in
      let made : (A × B) × List ℕ = ((a.0.0, b.0.0), b.0.1) in
      subst (λ (y : (A × B) × List ℕ). bytes ≡ (f y.0.0 ++ g y.0.1) ++ y.1) (some_is made (x, rest) b.2) parts;
}

-- a value that is made of what is read
pub made_taken : {A B : Type 0} {f : A → List ℕ} {F : List ℕ → Option (A × List ℕ)} → Takes f F → (make : A → B) (put : B → List ℕ) → ((x : A) → put (make x) ≡ f x) →
    Takes put (λ bytes. F bytes >>= λ x. Some (make x.0, x.1))
made_taken {A = A} {B = B} {f = f} {F = F} reads make put same = record {
  taken = λ bytes x rest fits e.
      let a = bind_some (F bytes) (λ a. Some (make a.0, a.1)) (x, rest) e in
      let made : B × List ℕ = (make a.0.0, a.0.1) in
      let parts : bytes ≡ put (make a.0.0) ++ a.0.1 = reads.taken bytes a.0.0 a.0.1 fits a.1 ∙ ap (λ (l : List ℕ). l ++ a.0.1) (sym (same a.0.0)) in
      subst (λ (y : B × List ℕ). bytes ≡ put y.0 ++ y.1) (some_is made (x, rest) a.2) parts;
}

-- n values, one after the other
pub many_taken : {A : Type 0} {f : A → List ℕ} {F : List ℕ → Option (A × List ℕ)} → Takes f F → (all : List A → List ℕ) → (all [] ≡ []) → ((x : A) (xs : List A) → all (x ∷ xs) ≡ f x ++ all xs) →
    (n : ℕ) (bytes : List ℕ) (xs : List A) (rest : List ℕ) → IsBytes bytes → many_at F n bytes ≡ Some (xs, rest) → (bytes ≡ all xs ++ rest) × (length xs ≡ n)
many_taken {A = A} reads all none more zero bytes xs rest fits e =
    let made : List A × List ℕ = ([], bytes) in
    subst (λ (y : List A × List ℕ). (bytes ≡ all y.0 ++ y.1) × (length y.0 ≡ 0)) (some_is made (xs, rest) e) (ap (λ (l : List ℕ). l ++ bytes) (sym none), refl)
many_taken {A = A} {f = f} {F = F} reads all none more (suc n) bytes xs rest fits e =
    let a = bind_some (F bytes) (λ a. many_at F n a.1 >>= λ others. Some (a.0 ∷ others.0, others.1)) (xs, rest) e in
    let b = bind_some (many_at F n a.0.1) (λ others. Some (a.0.0 ∷ others.0, others.1)) (xs, rest) a.2 in
    let s = reads.taken bytes a.0.0 a.0.1 fits a.1 in
    let t = many_taken reads all none more n a.0.1 b.0.0 b.0.1 (IsBytes-after (f a.0.0) a.0.1 (subst IsBytes s fits)) b.1 in
    let joined : bytes ≡ (f a.0.0 ++ all b.0.0) ++ b.0.1 = s ∙ ap (λ (l : List ℕ). f a.0.0 ++ l) t.0 ∙ sym (append_assoc (f a.0.0) (all b.0.0) b.0.1) in
    let parts : bytes ≡ all (a.0.0 ∷ b.0.0) ++ b.0.1 = joined ∙ ap (λ (l : List ℕ). l ++ b.0.1) (sym (more a.0.0 b.0.0)) in
    let made : List A × List ℕ = (a.0.0 ∷ b.0.0, b.0.1) in
    subst (λ (y : List A × List ℕ). (bytes ≡ all y.0 ++ y.1) × (length y.0 ≡ suc n)) (some_is made (xs, rest) b.2) (parts, ap suc t.1)

-- a count of one byte, and so many values
pub counted_taken : {A : Type 0} {f : A → List ℕ} {F : List ℕ → Option (A × List ℕ)} → Takes f F → (all : List A → List ℕ) → (all [] ≡ []) → ((x : A) (xs : List A) → all (x ∷ xs) ≡ f x ++ all xs) →
    Takes (λ xs. length xs ∷ all xs) (λ bytes. number_at 1 bytes >>= λ count. many_at F count.0 count.1)
counted_taken {A = A} {F = F} reads all none more = record {
  taken = λ bytes xs rest fits e.
      let c = bind_some (number_at 1 bytes) (λ count. many_at F count.0 count.1) (xs, rest) e in
      let s = number1.takes bytes c.0.0 c.0.1 fits c.1 in
      let t = many_taken reads all none more c.0.0 c.0.1 xs rest (IsBytes-after (number 1 c.0.0) c.0.1 (subst IsBytes s.0 fits)) c.2 in
      let first : bytes ≡ c.0.0 ∷ c.0.1 = s.0 ∙ ap (λ (l : List ℕ). l ++ c.0.1) (number-one c.0.0 s.1) in
      first ∙ ap (λ (l : List ℕ). c.0.0 ∷ l) t.0 ∙ ap (λ (k : ℕ). k ∷ (all xs ++ rest)) (sym t.1);
}

-- a value and no byte after it
pub whole_taken : {A B : Type 0} {f : A → List ℕ} {F : List ℕ → Option (A × List ℕ)} → Takes f F → (make : A → B) (bytes : List ℕ) (y : B) → IsBytes bytes →
    (F bytes >>= λ x. whole (Some (make x.0, x.1))) ≡ Some y → (x : A) × (bytes ≡ f x) × (make x ≡ y)
whole_taken {f = f} {F = F} reads make bytes y fits e =
    let a = bind_some (F bytes) (λ x. whole (Some (make x.0, x.1))) y e in
    let g = if_some (length a.0.1 == 0) (make a.0.0) y a.2 in
    let nothing : a.0.1 ≡ [] = nil_from_length a.0.1 (eqb-true (length a.0.1) 0 g.0) in
    (a.0.0, reads.taken bytes a.0.0 a.0.1 fits a.1 ∙ ap (λ (l : List ℕ). f a.0.0 ++ l) nothing ∙ append-nil (f a.0.0), g.1)
