-- A text in buffers, of which each but the last ones is full.
use Rattle.std.proofs.Common.{◌≡◌, ℕ, zero, suc, ◌+◌, ◌-◌, ◌*◌, ◌/◌, ◌%◌, ◌<◌, ◌≤◌, List, [], ◌∷◌, ◌++◌, length, take, drop, get_or, refl, sym, ap, ◌∙◌, arith, append_assoc, append-nil, length-append, length-drop}
use Rattle.std.proofs.lemmas.List.{drop-append-le, take-append-le, take_all, take-append-drop, take-take, get_or-take, length-take-le}
use Rattle.std.proofs.Math.Seq.{take-add, drop-append-add, take-append-add, take-append_seam}
use Rattle.replica.specs.Buffers.{AllFull}
use Rattle.replica.specs.Groups.{joined}
use Rattle.replica.proofs.Copying.{piece, written, take_two}

pub joined-append : (xs ys : List (List ℕ)) → joined (xs ++ ys) ≡ joined xs ++ joined ys
joined-append [] ys = refl
joined-append (x ∷ xs) ys = rw (joined-append xs ys, append_assoc)

pub joined-push : (xs : List (List ℕ)) (x : List ℕ) → joined (xs ++ x ∷ []) ≡ joined xs ++ x
joined-push xs x = joined-append xs (x ∷ []) ∙ ap (λ l. joined xs ++ l) (append-nil x)

pub all-push : (size : ℕ) (xs : List (List ℕ)) (x : List ℕ) → AllFull size xs → length x ≡ size → AllFull size (xs ++ x ∷ [])
all-push size [] x all is = (is, tt)
all-push size (y ∷ xs) x all is = (all.0, all-push size xs x all.1 is)

pub all-take : (size i : ℕ) (xs : List (List ℕ)) → AllFull size xs → AllFull size (take i xs)
all-take size zero xs all = tt
all-take size (suc i) [] all = tt
all-take size (suc i) (x ∷ xs) all = (all.0, all-take size i xs all.1)

pub all-at : (size i : ℕ) (xs : List (List ℕ)) (d : List ℕ) → AllFull size xs → i < length xs → length (get_or xs i d) ≡ size
all-at size i [] d all h = absurd (omega (arith, h))
all-at size zero (x ∷ xs) d all h = all.0
all-at size (suc i) (x ∷ xs) d all h = all-at size i xs d all.1 (omega (arith, h))

pub joined-length : (xs : List (List ℕ)) → AllFull 65536 xs → length (joined xs) ≡ length xs * 65536
joined-length [] all = refl
joined-length (x ∷ xs) all = omega (arith, length-append x (joined xs), all.0, joined-length xs all.1)

none : (r : ℕ) → 0 * 65536 + r ≡ r
none r = omega arith

-- the first buffers, so many, are skipped
pub skip : (k r : ℕ) (bs : List (List ℕ)) (rest : List ℕ) → AllFull 65536 bs → k ≤ length bs → drop (k * 65536 + r) (joined bs ++ rest) ≡ drop r (joined (drop k bs) ++ rest)
skip zero r bs rest all h = ap (λ n. drop n (joined bs ++ rest)) (none r)
skip (suc k) r [] rest all h = absurd (omega (arith, h))
skip (suc k) r (b ∷ bs) rest all h =
    let sum : suc k * 65536 + r ≡ length b + (k * 65536 + r) = omega (arith, all.0) in
    ap (λ n. drop n ((b ++ joined bs) ++ rest)) sum ∙ ap (drop (length b + (k * 65536 + r))) (append_assoc b (joined bs) rest) ∙ drop-append-add b (joined bs ++ rest) (k * 65536 + r) ∙ skip k r bs rest all.1 (omega (arith, h))

all_left : (bs : List (List ℕ)) (k : ℕ) → take (length bs - k) (drop k bs) ≡ drop k bs
all_left bs k = take_all (length bs - k) (drop k bs) (simp length-drop (omega arith))

pub left : (bs held : List (List ℕ)) (part last p l whole : List ℕ) (from k : ℕ) → AllFull 65536 bs → held ≡ bs → p ≡ part → l ≡ last → k ≤ length held → k * 65536 ≤ from → joined bs ++ (part ++ last) ≡ whole →
    drop (from - k * 65536) (joined (take (length held - k) (drop k held)) ++ (p ++ l)) ≡ drop from whole
left bs held part last p l whole from k all held_is p_is l_is h less is =
    let sum : k * 65536 + (from - k * 65536) ≡ from = omega (arith, less) in
    let within : k ≤ length bs = omega (arith, h, ap length held_is) in
    ap (λ x. drop (from - k * 65536) (joined x ++ (p ++ l))) (all_left held k ∙ ap (drop k) held_is) ∙ ap (λ x. drop (from - k * 65536) (joined (drop k bs) ++ (x ++ l))) p_is ∙
    ap (λ x. drop (from - k * 65536) (joined (drop k bs) ++ (part ++ x))) l_is ∙ sym (skip k (from - k * 65536) bs (part ++ last) all within) ∙ ap (λ n. drop n (joined bs ++ (part ++ last))) sum ∙ ap (drop from) is

drop_at : (bs : List (List ℕ)) (i : ℕ) (b : List ℕ) → i < length bs → b ≡ get_or bs i b → drop i bs ≡ b ∷ drop (suc i) bs
drop_at [] i b h is = absurd (omega (arith, h))
drop_at (x ∷ bs) zero b h is = ap (λ y. y ∷ bs) (sym is)
drop_at (x ∷ bs) (suc i) b h is = drop_at bs i b (omega (arith, h)) is

-- a piece that lies in one full buffer
pub within_one : (bs : List (List ℕ)) (rest whole b : List ℕ) (from most : ℕ) → AllFull 65536 bs → from / 65536 < length bs → b ≡ get_or bs (from / 65536) b → from % 65536 + most ≤ 65536 → joined bs ++ rest ≡ whole →
    take most (drop (from % 65536) b) ≡ take most (drop from whole)
within_one bs rest whole b from most all h is fits whole_is =
    let i = from / 65536 in
    let r = from % 65536 in
    let size : length b ≡ 65536 = ap length is ∙ all-at 65536 i bs b all h in
    let sum : i * 65536 + r ≡ from = omega arith in
    let tail = joined (drop (suc i) bs) ++ rest in
    let inside : drop r (b ++ tail) ≡ drop r b ++ tail = drop-append-le r b tail (omega (arith, size, fits)) in
    let enough : most ≤ length (drop r b) = omega (arith, length-drop r b, size, fits) in
    let at : drop from whole ≡ drop r b ++ tail =
    ap (drop from) (sym whole_is) ∙ ap (λ n. drop n (joined bs ++ rest)) (sym sum) ∙ skip i r bs rest all (omega (arith, h)) ∙
    ap (λ x. drop r (joined x ++ rest)) (drop_at bs i b h is) ∙ ap (drop r) (append_assoc b (joined (drop (suc i) bs)) rest) ∙ inside
    in
    sym (ap (take most) at ∙ take-append-le most (drop r b) tail enough)

-- full buffers cut to their first bytes
pub cut_to : (bs : List (List ℕ)) (count : ℕ) (b : List ℕ) → AllFull 65536 bs → count / 65536 < length bs → b ≡ get_or bs (count / 65536) b →
    joined (take (count / 65536) bs) ++ take (count % 65536) b ≡ take count (joined bs)
cut_to bs count b all h is =
    let i = count / 65536 in
    let r = count % 65536 in
    let size : length b ≡ 65536 = ap length is ∙ all-at 65536 i bs b all h in
    let front = joined (take i bs) in
    let len : length front ≡ i * 65536 = joined-length (take i bs) (all-take 65536 i bs all) ∙ ap (λ n. n * 65536) (taken bs i (omega (arith, h))) in
    let whole : joined bs ≡ front ++ (b ++ joined (drop (suc i) bs)) =
    ap joined (sym (take-append-drop i bs)) ∙ joined-append (take i bs) (drop i bs) ∙ ap (λ x. front ++ joined x) (drop_at bs i b h is)
    in
    let sum : count ≡ length front + r = omega (arith, len) in
    sym (ap (take count) whole ∙ ap (λ n. take n (front ++ (b ++ joined (drop (suc i) bs)))) sum ∙ take-append-add front (b ++ joined (drop (suc i) bs)) r ∙ ap (λ x. front ++ x) (take-append-le r b (joined (drop (suc i) bs)) (omega (arith, size))))
  where
    taken : (xs : List (List ℕ)) (i : ℕ) → i ≤ length xs → length (take i xs) ≡ i
    taken xs zero h = refl
    taken [] (suc i) h = absurd (omega (arith, h))
    taken (x ∷ xs) (suc i) h = ap (λ n. suc n) (taken xs i (omega (arith, h)))

pub all-append : (size : ℕ) (xs ys : List (List ℕ)) → AllFull size xs → AllFull size ys → AllFull size (xs ++ ys)
all-append size [] ys all more = more
all-append size (x ∷ xs) ys all more = (all.0, all-append size xs ys all.1 more)

-- one more of the whole buffers that bytes begin with
pub shared_on : (bs more : List (List ℕ)) (b bytes : List ℕ) (i : ℕ) → more ≡ bs ++ b ∷ [] → b ≡ take 65536 (drop (i * 65536) bytes) → joined bs ≡ take (i * 65536) bytes → joined more ≡ take ((i + 1) * 65536) bytes
shared_on bs more b bytes i is b_is before =
    let sum : (i + 1) * 65536 ≡ i * 65536 + 65536 = omega arith in
    ap joined is ∙ joined-push bs b ∙ ap (λ x. x ++ b) before ∙ ap (λ x. take (i * 65536) bytes ++ x) b_is ∙ sym (ap (λ n. take n bytes) sum ∙ take-add (i * 65536) 65536 bytes)

-- one more of the buffers is copied, and one more is written
pub copied_on : (out more : List ℕ) (m n f g : ℕ) (b : List ℕ) (bs : List (List ℕ)) (rest whole : List ℕ) →
    more ≡ out ++ take m (drop f b) → n ≡ m - (length more - length out) → g ≡ f - length b →
    out ++ take m (drop f (joined (b ∷ bs) ++ rest)) ≡ whole → more ++ take n (drop g (joined bs ++ rest)) ≡ whole
copied_on out more m n f g b bs rest whole is left from before =
    piece out more m n f g b (joined bs ++ rest) whole is left from (ap (λ x. out ++ take m (drop f x)) (sym (append_assoc b (joined bs) rest)) ∙ before)

pub written_on : (old new : List ℕ) (at end f g : ℕ) (b : List ℕ) (bs : List (List ℕ)) (rest whole : List ℕ) → at ≤ length old → end ≤ length old → length new ≡ length old →
    take end new ≡ take at old ++ take (length old - at) (drop f b) → g ≡ f - length b →
    take at old ++ take (length old - at) (drop f (joined (b ∷ bs) ++ rest)) ≡ whole → take end new ++ take (length new - end) (drop g (joined bs ++ rest)) ≡ whole
written_on old new at end f g b bs rest whole under within len is from before =
    written old new at end f g b (joined bs ++ rest) whole under within len is from (ap (λ x. take at old ++ take (length old - at) (drop f x)) (sym (append_assoc b (joined bs) rest)) ∙ before)

-- cut where more is kept than the full buffers have
pub cut_behind : (bs : List (List ℕ)) (part last p l whole : List ℕ) (count k b : ℕ) → AllFull 65536 bs → length bs * 65536 ≤ count → k ≡ count - length bs * 65536 → b ≡ k - length part →
    p ≡ take k part → l ≡ take b last → joined bs ++ (part ++ last) ≡ whole → joined bs ++ (p ++ l) ≡ take count whole
cut_behind bs part last p l whole count k b all h k_is b_is p_is l_is is =
    let sum : length (joined bs) + k ≡ count = omega (arith, joined-length bs all, h, k_is) in
    ap (λ x. joined bs ++ (x ++ l)) p_is ∙ ap (λ x. joined bs ++ (take k part ++ x)) (l_is ∙ ap (λ n. take n last) b_is) ∙
    ap (λ x. joined bs ++ x) (sym (take_two k part last)) ∙ sym (take-append-add (joined bs) (part ++ last) k) ∙ ap (λ n. take n (joined bs ++ (part ++ last))) sum ∙ ap (take count) is

-- cut within the full buffers
pub cut_before : (bs more : List (List ℕ)) (part rest none whole : List ℕ) (count : ℕ) → AllFull 65536 bs → count / 65536 < length bs → joined more ++ part ≡ take count (joined bs) → none ≡ [] → joined bs ++ rest ≡ whole →
    joined more ++ (part ++ none) ≡ take count whole
cut_before bs more part rest none whole count all h cut none_is is =
    let under : count ≤ length (joined bs) = omega (arith, joined-length bs all, h) in
    ap (λ x. joined more ++ (part ++ x)) none_is ∙ ap (λ x. joined more ++ x) (append-nil part) ∙ cut ∙ sym (take-append-le count (joined bs) rest under) ∙ ap (take count) is

seam_at : (xs : List (List ℕ)) (b : List ℕ) → get_or (xs ++ b ∷ []) (length xs) b ≡ b
seam_at [] b = refl
seam_at (x ∷ xs) b = seam_at xs b

-- the last of the first ones
pub last_of : (bs new t : List (List ℕ)) (b : List ℕ) (i : ℕ) → i < length bs → t ≡ take (i + 1) bs → t ≡ new ++ b ∷ [] → (new ≡ take i bs) × (b ≡ get_or bs i b)
last_of bs new t b i h t_is split =
    let count : length new ≡ i = omega (arith, ap length t_is, ap length split, length-append new (b ∷ []), length-take-le (i + 1) bs (omega (arith, h))) in
    let front : new ≡ take i bs =
    sym (take-append_seam new (b ∷ [])) ∙ ap (λ n. take n (new ++ b ∷ [])) count ∙ ap (take i) (sym split ∙ t_is) ∙ take-take i (i + 1) bs (omega arith)
    in
    let one : b ≡ get_or bs i b =
    sym (seam_at new b) ∙ ap (λ n. get_or (new ++ b ∷ []) n b) count ∙ ap (λ x. get_or x i b) (sym split ∙ t_is) ∙ get_or-take (i + 1) bs i b (omega arith)
    in
    (front, one)

pub cut_last : (bs new t : List (List ℕ)) (b part : List ℕ) (count : ℕ) → AllFull 65536 bs → count / 65536 < length bs → t ≡ take (count / 65536 + 1) bs → t ≡ new ++ b ∷ [] → part ≡ take (count % 65536) b → joined new ++ part ≡ take count (joined bs)
cut_last bs new t b part count all h t_is split part_is =
    let both = last_of bs new t b (count / 65536) h t_is split in
    ap (λ x. joined x ++ part) both.0 ∙ ap (λ x. joined (take (count / 65536) bs) ++ x) part_is ∙ cut_to bs count b all h both.1
