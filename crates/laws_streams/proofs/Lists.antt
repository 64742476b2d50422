-- Lists of groups that begin one another, and what is shown of a text.
use Rattle.std.proofs.Common.{◌≡◌, ◌⊎◌, inl, inr, ℕ, zero, suc, ◌+◌, ◌<◌, ◌≤◌, Some, slice_get, List, [], ◌∷◌, ◌++◌, length, get_or, take, drop, refl, sym, ap, subst, ◌∙◌, append_assoc, append-nil, arith, length-append, length-take, length-drop}
use Rattle.std.proofs.lemmas.Grind.{common_steps}
use Rattle.replica.specs.Groups.{Group, size, text_length}
use Rattle.replica.proofs.Lengths.{text_length-append}
use Rattle.replica.proofs.Placing.{length-cons}
use Rattle.model_streams.specs.Honest.{Stands}
use Rattle.laws_streams.specs.Origins.{Begins, Shows}

pub begins_refl : {A : Type 0} (xs : List A) → Begins xs xs
begins_refl xs = record { rest = []; is = sym (append-nil xs) }

pub begins_trans : {A : Type 0} {xs ys zs : List A} → Begins xs ys → Begins ys zs → Begins xs zs
begins_trans {A} {xs} {ys} {zs} a b = record { rest = a.rest ++ b.rest; is = rw (b.is, a.is, append_assoc) }

pub begins_push : {A : Type 0} (xs ys : List A) → Begins xs (xs ++ ys)
begins_push xs ys = record { rest = ys; is = refl }

pub begins_length : {xs ys : List Group} → Begins xs ys → text_length xs ≤ text_length ys
begins_length {xs} {ys} b = rw (b.is, text_length-append xs b.rest) (omega arith)

-- ---- elements

pub take_past : {A : Type 0} (past rest : List A) → take (length past) (past ++ rest) ≡ past
take_past [] rest = refl
take_past (x ∷ past) rest = ap (λ xs. x ∷ xs) (take_past past rest)

pub get_next : {A : Type 0} (past rest : List A) (x : A) → slice_get (past ++ x ∷ rest) (length past) ≡ Some x
get_next [] rest x = refl
get_next (y ∷ past) rest x = get_next past rest x

pub get_left : {A : Type 0} (xs ys : List A) (i : ℕ) (x : A) → slice_get xs i ≡ Some x → slice_get (xs ++ ys) i ≡ Some x
get_left [] ys i x is = absurd cc
get_left (y ∷ xs) ys zero x is = is
get_left (y ∷ xs) ys (suc i) x is = get_left xs ys i x is

pub take_left : {A : Type 0} (xs ys : List A) (i : ℕ) (x : A) → slice_get xs i ≡ Some x → take i (xs ++ ys) ≡ take i xs
take_left [] ys i x is = absurd cc
take_left (y ∷ xs) ys zero x is = refl
take_left (y ∷ xs) ys (suc i) x is = ap (λ zs. y ∷ zs) (take_left xs ys i x is)

-- what stands in two lists, one behind the other
pub get_joined : {A : Type 0} (xs ys : List A) (i : ℕ) (e : A) → slice_get (xs ++ ys) i ≡ Some e → (slice_get xs i ≡ Some e) ⊎ ((j : ℕ) × (slice_get ys j ≡ Some e))
get_joined [] ys i e is = inr (i, is)
get_joined (x ∷ xs) ys zero e is = inl is
get_joined (x ∷ xs) ys (suc i) e is = get_joined xs ys i e is

-- ---- beginnings of scripts

-- each group has a byte
abbrev pub NoneEmpty : List Group → Type 0
NoneEmpty [] = Unit {0}
NoneEmpty (x ∷ xs) = (0 < size x) × NoneEmpty xs

pub none_empty-push : (xs : List Group) (x : Group) → NoneEmpty xs → 0 < size x → NoneEmpty (xs ++ x ∷ [])
none_empty-push [] x n h = (h, tt)
none_empty-push (y ∷ ys) x n h = (n.0, none_empty-push ys x n.1 h)

-- two beginnings of one list with the same length of text are the same
pub same_beginning : (xs ys rs ss : List Group) → xs ++ rs ≡ ys ++ ss → NoneEmpty (xs ++ rs) → text_length xs ≡ text_length ys → xs ≡ ys
same_beginning [] [] rs ss e n l = refl
same_beginning [] (y ∷ ys) rs ss e n l =
    let m : NoneEmpty (y ∷ (ys ++ ss)) = subst NoneEmpty e n in
    absurd (omega (arith, m.0, length-cons y ys))
same_beginning (x ∷ xs) [] rs ss e n l = absurd (omega (arith, n.0, length-cons x xs))
same_beginning (x ∷ xs) (y ∷ ys) rs ss e n l =
    let head : x ≡ y = cc in
    let tail : xs ++ rs ≡ ys ++ ss = cc in
    let m : text_length xs ≡ text_length ys = omega (arith, length-cons x xs, length-cons y ys, ap size head) in
    let same : xs ≡ ys = same_beginning xs ys rs ss tail n.1 m in
    cc

-- a group that stands in a list stands in each beginning of it that reaches its end
pub stands_in : (before after c rest : List Group) (g : Group) → c ++ rest ≡ before ++ g ∷ after → 0 < size g →
    text_length before + size g ≤ text_length c → (y : List Group) × (c ≡ before ++ g ∷ y)
stands_in [] after [] rest g e p h = absurd (omega arith)
stands_in [] after (x ∷ c) rest g e p h = let head : x ≡ g = cc in (c, cc)
stands_in (b ∷ bs) after [] rest g e p h = absurd (omega (arith, length-cons b bs))
stands_in (b ∷ bs) after (x ∷ c) rest g e p h =
    let head : x ≡ b = cc in
    let tail : c ++ rest ≡ bs ++ g ∷ after = cc in
    let more = stands_in bs after c rest g tail p (omega (arith, length-cons b bs, length-cons x c, ap size head)) in
    (more.0, let same : c ≡ bs ++ g ∷ more.0 = more.1 in cc)

pub stands_back : {g : Group} {o : ℕ} {c s : List Group} → Begins c s → Stands g o s → 0 < size g → o + size g ≤ text_length c → Stands g o c
stands_back {g} {o} {c} {s} b h p fits =
    let e : c ++ b.rest ≡ h.before ++ g ∷ h.after = sym b.is ∙ h.split in
    let found = stands_in h.before h.after c b.rest g e p (omega (arith, h.place)) in
    record { before = h.before; after = found.0; split = found.1; place = h.place }

pub stands_on : {g : Group} {o : ℕ} {c s : List Group} → Begins c s → Stands g o c → Stands g o s
stands_on {g} {o} {c} {s} b h =
    record { before = h.before; after = h.after ++ b.rest; split = rw (b.is, h.split, append_assoc); place = h.place }

pub stands_last : (c : List Group) (g : Group) → Stands g (text_length c) (c ++ g ∷ [])
stands_last c g = record { before = c; after = []; split = refl; place = refl }

pub stands_end : {g : Group} {o : ℕ} {s : List Group} → Stands g o s → o + size g ≤ text_length s
stands_end {g} {o} {s} h =
    omega (arith, ap text_length h.split, text_length-append h.before (g ∷ h.after), length-cons g h.after, h.place)

-- what stands at an index stands where the groups before it end
pub stands_index : (s : List Group) (i : ℕ) (g : Group) → slice_get s i ≡ Some g → Stands g (text_length (take i s)) s
stands_index [] i g is = absurd cc
stands_index (x ∷ xs) zero g is = record { before = []; after = xs; split = (let c : x ≡ g = cc in ap (λ y. y ∷ xs) c); place = refl }
stands_index (x ∷ xs) (suc i) g is =
    let r = stands_index xs i g is in
    record {
      before = x ∷ r.before;
      after = r.after;
      split = ap (λ ys. x ∷ ys) r.split;
      place = omega (arith, r.place, length-cons x r.before, length-cons x (take i xs));
    }

-- ---- bytes of a text

pub shows_within : (before bytes after : List ℕ) → Shows (length before) bytes (before ++ (bytes ++ after))
shows_within before bytes after = record {
  fits = simp length-append (omega arith);
  reads = λ i h. grind (arith, common_steps);
}

pub shows_on : {o : ℕ} {bytes whole : List ℕ} → Shows o bytes whole → (more : List ℕ) → Shows o bytes (whole ++ more)
shows_on {o} {bytes} {whole} h more = record {
  fits = simp length-append (omega (arith, h.fits));
  reads = λ i l. let f : o + length bytes ≤ length whole = h.fits in let e = h.reads i l in grind (arith, common_steps);
}

pub shows_part : (o n : ℕ) (whole : List ℕ) → o + n ≤ length whole → Shows o (take n (drop o whole)) whole
shows_part o n whole h = record {
  fits = simp (length-take, length-drop) (omega arith);
  reads = λ i l. let k = simp (length-take, length-drop) at l in let m : i < n = omega (arith, k) in grind (arith, common_steps);
}

pub shows_both : {o p : ℕ} {xs ys whole : List ℕ} → Shows o xs whole → Shows p ys whole →
    (i j : ℕ) → i < length xs → j < length ys → o + i ≡ p + j → get_or xs i 0 ≡ get_or ys j 0
shows_both {o} {p} {xs} {ys} {whole} a b i j h k e = a.reads i h ∙ ap (λ m. get_or whole m 0) e ∙ sym (b.reads j k)
