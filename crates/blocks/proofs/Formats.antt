-- What a reader takes is what a writer wrote, and what was written is read again: laws for each part of a
-- format, and how they join.
use Rattle.std.proofs.Common.{◌≡◌, ℕ, zero, suc, ◌+◌, ◌^◌, ◌<◌, ◌≤◌, Bool, true, false, cond, ltb, List, [], ◌∷◌, ◌++◌, length, get_or, take, drop, Option, Some, None, refl, sym, ap, subst, ◌∙◌, append_assoc, arith}
use Rattle.std.specs.List.{flat_map, AllByRecursion, starts_with}
use Rattle.std.specs.Prelude.{nat_eq, nat_le, ◌==◌}
use Rattle.std.proofs.Math.Nat.{mod-eq_of_lt}
use Rattle.std.proofs.lemmas.Bool.{cases_lt, ltb-false, le-ltb, leb-true, le-leb, and_parts, and_from, eqb-true}
use Rattle.std.proofs.lemmas.List.{take_at, drop_at, take-append-drop, length-append, length-take, get_or-take, get_or_past, get_or-append-add, append-nil, nil_from_length}
use Rattle.std.proofs.lemmas.List.Concat.{flat_map-cons}
use Rattle.std.proofs.lemmas.Nat.{be_bytes_2, be_bytes_4, be_bytes_8}
use Rattle.std.proofs.Common.{eq-eqb, inl, inr}
use Rattle.byteorder.specs.Endian.{big_number, big_bytes}
use Rattle.byteorder.specs.Numbers.{big_number-reads_back, big_from-lt, big_from-take, length-bytes_high_first}
use Rattle.blocks.specs.Record.{number}
use Rattle.blocks.specs.Format.{◌>>=◌, number_at, bytes_at, after, pair_at, only_at, many_at, whole}
use Rattle.block_types.specs.Limits.{is_within}

abbrev pub IsBytes : List ℕ → Type 0
IsBytes bytes = (i : ℕ) → get_or bytes i 0 < 256

pub IsBytes-after : (xs ys : List ℕ) → IsBytes (xs ++ ys) → IsBytes ys
IsBytes-after xs ys h i = rw (← get_or-append-add xs ys i 0) (h (length xs + i))

pub IsBytes-take : (n : ℕ) (bytes : List ℕ) → IsBytes bytes → IsBytes (take n bytes)
IsBytes-take n bytes h i =
    elim (cases_lt i n) [
      | inl lt ↦ rw (get_or-take n bytes i 0 lt) (h i)
      | inr le ↦ rw (get_or_past (take n bytes) i 0 (omega (arith, length-take n bytes))) (omega arith)
    ]

-- the value of a step that did not fail
pub bind_some : {A B : Type 0} (r : Option A) (f : A → Option B) (y : B) → (r >>= f) ≡ Some y → (x : A) × (r ≡ Some x) × (f x ≡ Some y)
bind_some (Some x) f y e = (x, refl, e)
bind_some None f y e = absurd cc

-- a test that did not fail
pub if_some : {A : Type 0} (b : Bool) (x y : A) → cond b (Some x) None ≡ Some y → (b ≡ true) × (x ≡ y)
if_some true x y e = (refl, cc)
if_some false x y e = absurd cc

pub unless_some : {A : Type 0} (b : Bool) (x y : A) → cond b None (Some x) ≡ Some y → (b ≡ false) × (x ≡ y)
unless_some true x y e = absurd cc
unless_some false x y e = (refl, cc)

abbrev done : {A : Type 0} → A → Option A
done x = Some x

pub some_is : {A : Type 0} (x y : A) → done x ≡ done y → x ≡ y
some_is x y e = cc

-- put writes what get reads: each value that fits has one form, and no form begins another
pub record IsFormat {A : Type 0} (put : A → List ℕ) (get : List ℕ → Option (A × List ℕ)) (F : A → Type 0) : Type 0 where
  pub takes : (bytes : List ℕ) (x : A) (rest : List ℕ) → IsBytes bytes → get bytes ≡ Some (x, rest) → (bytes ≡ put x ++ rest) × F x
  pub again : (x : A) (rest : List ℕ) → F x → get (put x ++ rest) ≡ Some (x, rest)

-- ---- numbers

pub IsWide : ℕ → Type 0
IsWide n = (bytes : List ℕ) → n ≤ length bytes → IsBytes bytes → big_bytes n (big_number n bytes) ≡ take n bytes

pub wide1 : IsWide 1
unfolding IsWide
wide1 [] long fits = absurd (omega arith)
wide1 (b ∷ bytes) long fits =
    let is : big_number 1 (b ∷ bytes) ≡ b = omega arith in
    let small : b < 256 = fits 0 in
    ap (λ (x : ℕ). big_bytes 1 x) is ∙ ap (λ (x : ℕ). x ∷ []) (mod-eq_of_lt small)

pub wide2 : IsWide 2
unfolding IsWide
wide2 bytes long fits =
    let front : big_number 2 (take 2 bytes) ≡ big_number 2 bytes = big_from-take 0 2 2 bytes (omega arith) in
    be_bytes_2 (take 2 bytes) (big_number 2 bytes) (omega (arith, length-take 2 bytes)) (IsBytes-take 2 bytes fits) (sym front ∙ omega arith)

pub wide4 : IsWide 4
unfolding IsWide
wide4 bytes long fits =
    let front : big_number 4 (take 4 bytes) ≡ big_number 4 bytes = big_from-take 0 4 4 bytes (omega arith) in
    be_bytes_4 (take 4 bytes) (big_number 4 bytes) (omega (arith, length-take 4 bytes)) (IsBytes-take 4 bytes fits) (sym front ∙ omega arith)

pub wide8 : IsWide 8
unfolding IsWide
wide8 bytes long fits =
    let front : big_number 8 (take 8 bytes) ≡ big_number 8 bytes = big_from-take 0 8 8 bytes (omega arith) in
    be_bytes_8 (take 8 bytes) (big_number 8 bytes) (omega (arith, length-take 8 bytes)) (IsBytes-take 8 bytes fits) (sym front ∙ omega arith)

pub number_format : (n : ℕ) → IsWide n → IsFormat (number n) (number_at n) (λ x. x < 256 ^ n)
unfolding IsWide number
number_format n wide = record {
  takes = λ bytes x rest fits e.
      let g = unless_some (ltb (length bytes) n) (big_number n bytes, drop n bytes) (x, rest) e in
      let long : n ≤ length bytes = ltb-false _ _ g.0 in
      let number-is : big_number n bytes ≡ x = ap (λ (p : ℕ × List ℕ). p.0) g.1 in
      let rest-is : drop n bytes ≡ rest = ap (λ (p : ℕ × List ℕ). p.1) g.1 in
      let front : big_bytes n x ≡ take n bytes = ap (λ (y : ℕ). big_bytes n y) (sym number-is) ∙ wide bytes long fits in
      (sym (take-append-drop n bytes) ∙ ap (λ (l : List ℕ). l ++ drop n bytes) (sym front) ∙ ap (λ (l : List ℕ). big_bytes n x ++ l) rest-is, subst (λ (y : ℕ). y < 256 ^ n) number-is (big_from-lt 0 n bytes fits));
  again = λ x rest lt.
      let len = length-bytes_high_first n x in
      let long : ltb (length (big_bytes n x ++ rest)) n ≡ false = le-ltb _ _ (omega (arith, length-append (big_bytes n x) rest)) in
      rw (long, big_number-reads_back n x rest lt, drop_at (big_bytes n x) rest n len) refl;
}

pub number1 : IsFormat (number 1) (number_at 1) (λ x. x < 2 ^ 8)
number1 = number_format 1 wide1

pub number2 : IsFormat (number 2) (number_at 2) (λ x. x < 2 ^ 16)
number2 = number_format 2 wide2

pub number4 : IsFormat (number 4) (number_at 4) (λ x. x < 2 ^ 32)
number4 = number_format 4 wide4

pub number8 : IsFormat (number 8) (number_at 8) (λ x. x < 2 ^ 64)
number8 = number_format 8 wide8

pub length-number : (n x : ℕ) → length (number n x) ≡ n
unfolding number
length-number n x = length-bytes_high_first n x

-- a number that is one byte is that byte
pub number-one : (x : ℕ) → x < 256 → number 1 x ≡ x ∷ []
unfolding number
number-one x lt = ap (λ (y : ℕ). y ∷ []) (mod-eq_of_lt lt)

pub one_again : (x : ℕ) (rest : List ℕ) → x < 2 ^ 8 → number_at 1 (x ∷ rest) ≡ Some (x, rest)
one_again x rest fits = ap (λ (l : List ℕ). number_at 1 (l ++ rest)) (sym (number-one x fits)) ∙ number1.again x rest fits

-- a number that ends the bytes
pub last8 : (x : ℕ) → x < 2 ^ 64 → number_at 8 (number 8 x) ≡ Some (x, [])
last8 x fits = ap (number_at 8) (sym (append-nil (number 8 x))) ∙ number8.again x [] fits

pub last4 : (x : ℕ) → x < 2 ^ 32 → number_at 4 (number 4 x) ≡ Some (x, [])
last4 x fits = ap (number_at 4) (sym (append-nil (number 4 x))) ∙ number4.again x [] fits

-- tests of a range
pub within : (low high n : ℕ) → is_within low high n ≡ true → (low ≤ n) × (n ≤ high)
within low high n e = let p = and_parts (nat_le low n) (nat_le n high) e in (leb-true _ _ p.0, leb-true _ _ p.1)

pub within_again : (low high n : ℕ) → (low ≤ n) × (n ≤ high) → is_within low high n ≡ true
within_again low high n h = and_from (nat_le low n) (nat_le n high) (le-leb _ _ h.0) (le-leb _ _ h.1)

-- n bytes
pub bytes_takes : (n : ℕ) (bytes text rest : List ℕ) → bytes_at n bytes ≡ Some (text, rest) → (bytes ≡ text ++ rest) × (length text ≡ n)
bytes_takes n bytes text rest e =
    let g = unless_some (ltb (length bytes) n) (take n bytes, drop n bytes) (text, rest) e in
    let long : n ≤ length bytes = ltb-false _ _ g.0 in
    let text-is : take n bytes ≡ text = ap (λ (p : List ℕ × List ℕ). p.0) g.1 in
    let rest-is : drop n bytes ≡ rest = ap (λ (p : List ℕ × List ℕ). p.1) g.1 in
    (sym (take-append-drop n bytes) ∙ ap (λ (l : List ℕ). l ++ drop n bytes) text-is ∙ ap (λ (l : List ℕ). text ++ l) rest-is, subst (λ (l : List ℕ). length l ≡ n) text-is (omega (arith, length-take n bytes)))

pub bytes_again : (text rest : List ℕ) → bytes_at (length text) (text ++ rest) ≡ Some (text, rest)
bytes_again text rest =
    let long : ltb (length (text ++ rest)) (length text) ≡ false = le-ltb _ _ (omega (arith, length-append text rest)) in
    rw (long, take_at text rest (length text) refl, drop_at text rest (length text) refl) refl

-- ---- just these bytes

starts : (p ys : List ℕ) → starts_with nat_eq ys p ≡ true → ys ≡ p ++ drop (length p) ys
starts [] ys e = refl
starts (x ∷ p) [] e = absurd cc
starts (x ∷ p) (y ∷ ys) e =
    let parts = and_parts (nat_eq x y) (starts_with nat_eq ys p) e in
    let same : x ≡ y = eqb-true _ _ parts.0 in
    ap (λ (z : ℕ). z ∷ ys) (sym same) ∙ ap (λ (l : List ℕ). x ∷ l) (starts p ys parts.1)

starts_again : (p ys : List ℕ) → starts_with nat_eq (p ++ ys) p ≡ true
starts_again [] ys = refl
starts_again (x ∷ p) ys = and_from (nat_eq x x) (starts_with nat_eq (p ++ ys) p) (eq-eqb x x refl) (starts_again p ys)

pub after_takes : (p bytes rest : List ℕ) → after p bytes ≡ Some rest → bytes ≡ p ++ rest
after_takes p bytes rest e =
    let g = if_some (starts_with nat_eq bytes p) (drop (length p) bytes) rest e in
    starts p bytes g.0 ∙ ap (λ (l : List ℕ). p ++ l) g.1

pub after_again : (p rest : List ℕ) → after p (p ++ rest) ≡ Some rest
after_again p rest = rw (starts_again p rest, drop_at p rest (length p) refl) refl

-- ---- one and then the other

pub pair_format : {A B : Type 0} {f : A → List ℕ} {F : List ℕ → Option (A × List ℕ)} {P : A → Type 0} {g : B → List ℕ} {G : List ℕ → Option (B × List ℕ)} {Q : B → Type 0}
    → IsFormat f F P → IsFormat g G Q → IsFormat (λ (x : A × B). f x.0 ++ g x.1) (pair_at F G) (λ (x : A × B). P x.0 × Q x.1)
pair_format {A = A} {B = B} {f = f} {F = F} {P = P} {g = g} {G = G} {Q = Q} first second = record {
  takes = λ bytes x rest fits e.
      let a = bind_some (F bytes) (λ a. G a.1 >>= λ b. Some ((a.0, b.0), b.1)) (x, rest) e in
      let b = bind_some (G a.0.1) (λ b. Some ((a.0.0, b.0), b.1)) (x, rest) a.2 in
      let s = first.takes bytes a.0.0 a.0.1 fits a.1 in
      let t = second.takes a.0.1 b.0.0 b.0.1 (IsBytes-after (f a.0.0) a.0.1 (subst IsBytes s.0 fits)) b.1 in
      let whole : bytes ≡ (f a.0.0 ++ g b.0.0) ++ b.0.1 = s.0 ∙ ap (λ (l : List ℕ). f a.0.0 ++ l) t.0 ∙ sym (append_assoc (f a.0.0) (g b.0.0) b.0.1) in
      let made : (A × B) × List ℕ = ((a.0.0, b.0.0), b.0.1) in
      subst (λ (y : (A × B) × List ℕ). (bytes ≡ (f y.0.0 ++ g y.0.1) ++ y.1) × (P y.0.0 × Q y.0.1)) (some_is made (x, rest) b.2) (whole, (s.1, t.1));
  again = λ x rest fits.
      ap (pair_at F G) (append_assoc (f x.0) (g x.1) rest) ∙ rw (first.again x.0 (g x.1 ++ rest) fits.0, second.again x.1 rest fits.1) refl;
}

-- ---- a value that passes a test

pub only_format : {A : Type 0} {f : A → List ℕ} {F : List ℕ → Option (A × List ℕ)} {P : A → Type 0} (test : A → Bool) (Q : A → Type 0)
    → ((x : A) → test x ≡ true → Q x) → ((x : A) → Q x → test x ≡ true) → IsFormat f F P → IsFormat f (only_at test F) (λ x. P x × Q x)
only_format {A = A} {f = f} {F = F} {P = P} test Q sound complete format = record {
  takes = λ bytes x rest fits e.
      let a = bind_some (F bytes) (λ a. cond (test a.0) (Some a) None) (x, rest) e in
      let g = if_some (test a.0.0) a.0 (x, rest) a.2 in
      let s = format.takes bytes a.0.0 a.0.1 fits a.1 in
      subst (λ (y : A × List ℕ). (bytes ≡ f y.0 ++ y.1) × (P y.0 × Q y.0)) g.1 (s.0, (s.1, sound a.0.0 g.0));
  again = λ x rest fits. rw (format.again x rest fits.0, complete x fits.1) refl;
}

-- ---- n values

module _ {A : Type 0} (f : A → List ℕ) (F : List ℕ → Option (A × List ℕ)) (P : A → Type 0) (format : IsFormat f F P) where
  pub many_takes : (n : ℕ) (bytes : List ℕ) (x : List A × List ℕ) → IsBytes bytes → many_at F n bytes ≡ Some x → (bytes ≡ flat_map f x.0 ++ x.1) × (length x.0 ≡ n) × AllByRecursion P x.0
  many_takes zero bytes x fits e =
      subst (λ (y : List A × List ℕ). (bytes ≡ flat_map f y.0 ++ y.1) × (length y.0 ≡ 0) × AllByRecursion P y.0) (some_is ([], bytes) x e) (refl, refl, tt)
  many_takes (suc n) bytes x fits e =
      let a = bind_some (F bytes) (λ a. many_at F n a.1 >>= λ others. Some (a.0 ∷ others.0, others.1)) x e in
      let b = bind_some (many_at F n a.0.1) (λ others. Some (a.0.0 ∷ others.0, others.1)) x a.2 in
      let s = format.takes bytes a.0.0 a.0.1 fits a.1 in
      let t = many_takes n a.0.1 b.0 (IsBytes-after (f a.0.0) a.0.1 (subst IsBytes s.0 fits)) b.1 in
      let whole : bytes ≡ (f a.0.0 ++ flat_map f b.0.0) ++ b.0.1 = s.0 ∙ ap (λ (l : List ℕ). f a.0.0 ++ l) t.0 ∙ sym (append_assoc (f a.0.0) (flat_map f b.0.0) b.0.1) in
      let made : List A × List ℕ = (a.0.0 ∷ b.0.0, b.0.1) in
      subst (λ (y : List A × List ℕ). (bytes ≡ flat_map f y.0 ++ y.1) × (length y.0 ≡ suc n) × AllByRecursion P y.0) (some_is made x b.2) (rw flat_map-cons whole, ap suc t.1, (s.1, t.2))

  pub many_again : (xs : List A) (rest : List ℕ) → AllByRecursion P xs → many_at F (length xs) (flat_map f xs ++ rest) ≡ Some (xs, rest)
  many_again [] rest fits = refl
  many_again (x ∷ xs) rest fits =
      let regrouped : flat_map f (x ∷ xs) ++ rest ≡ f x ++ (flat_map f xs ++ rest) = ap (λ (l : List ℕ). l ++ rest) (flat_map-cons f x xs) ∙ append_assoc (f x) (flat_map f xs) rest in
      ap (many_at F (suc (length xs))) regrouped ∙ rw (format.again x (flat_map f xs ++ rest) fits.0, many_again xs rest fits.1) refl

-- a count, and so many values
pub counted_format : {A : Type 0} {f : A → List ℕ} {F : List ℕ → Option (A × List ℕ)} {P : A → Type 0} {n : ℕ → List ℕ} {N : List ℕ → Option (ℕ × List ℕ)} {Q : ℕ → Type 0}
    → IsFormat n N Q → IsFormat f F P → IsFormat (λ (xs : List A). n (length xs) ++ flat_map f xs) (λ bytes. N bytes >>= λ c. many_at F c.0 c.1) (λ (xs : List A). Q (length xs) × AllByRecursion P xs)
counted_format {A = A} {f = f} {F = F} {P = P} {n = n} {N = N} {Q = Q} count format = record {
  takes = λ bytes x rest fits e.
      let c = bind_some (N bytes) (λ c. many_at F c.0 c.1) (x, rest) e in
      let s = count.takes bytes c.0.0 c.0.1 fits c.1 in
      let t = many_takes f F P format c.0.0 c.0.1 (x, rest) (IsBytes-after (n c.0.0) c.0.1 (subst IsBytes s.0 fits)) c.2 in
      let parts : bytes ≡ (n c.0.0 ++ flat_map f x) ++ rest = s.0 ∙ ap (λ (l : List ℕ). n c.0.0 ++ l) t.0 ∙ sym (append_assoc (n c.0.0) (flat_map f x) rest) in
      (subst (λ (k : ℕ). bytes ≡ (n k ++ flat_map f x) ++ rest) (sym t.1) parts, (subst Q (sym t.1) s.1, t.2));
  again = λ xs rest fits.
      ap (λ (l : List ℕ). N l >>= λ c. many_at F c.0 c.1) (append_assoc (n (length xs)) (flat_map f xs) rest) ∙ rw (count.again (length xs) (flat_map f xs ++ rest) fits.0) (many_again f F P format xs rest fits.1);
}

-- ---- a value and no byte after it

pub whole_takes : {A B : Type 0} {f : A → List ℕ} {F : List ℕ → Option (A × List ℕ)} {P : A → Type 0} → IsFormat f F P → (make : A → B) (bytes : List ℕ) (y : B) → IsBytes bytes
    → (F bytes >>= λ x. whole (Some (make x.0, x.1))) ≡ Some y → (x : A) × (bytes ≡ f x) × P x × (make x ≡ y)
whole_takes {A = A} {f = f} {F = F} {P = P} format make bytes y fits e =
    let a = bind_some (F bytes) (λ x. whole (Some (make x.0, x.1))) y e in
    let g = if_some (length a.0.1 == 0) (make a.0.0) y a.2 in
    let s = format.takes bytes a.0.0 a.0.1 fits a.1 in
    let nothing : a.0.1 ≡ [] = nil_from_length a.0.1 (eqb-true _ _ g.0) in
    (a.0.0, s.0 ∙ ap (λ (l : List ℕ). f a.0.0 ++ l) nothing ∙ append-nil (f a.0.0), s.1, g.1)

pub whole_again : {A B : Type 0} {f : A → List ℕ} {F : List ℕ → Option (A × List ℕ)} {P : A → Type 0} → IsFormat f F P → (make : A → B) (x : A) → P x
    → (F (f x) >>= λ x. whole (Some (make x.0, x.1))) ≡ Some (make x)
whole_again {A = A} {f = f} {F = F} {P = P} format make x fits =
    let e : F (f x) ≡ Some (x, []) = ap F (sym (append-nil (f x))) ∙ format.again x [] fits in
    rw e refl
