-- Groups, and what spells them.
use Rattle.std.proofs.Common.{◌≡◌, ℕ, zero, suc, ◌+◌, ◌-◌, ◌<◌, ◌≤◌, List, [], ◌∷◌, ◌++◌, length, take, drop, get_or, true, false, nat_le, nat_lt, inl, inr, refl, sym, ap, ◌∙◌, subst, arith, append_assoc, append-nil, length-append}
use Rattle.std.specs.List.{AllByRecursion}
use Rattle.std.proofs.lemmas.Bool.{cases_lt}
use Rattle.std.proofs.lemmas.Bool.Decides.{nat_tests}
use Rattle.std.proofs.lemmas.List.{take-append-drop, take_all, take_more}
use Rattle.std.proofs.Math.Seq.{take-append_seam, drop-append_seam}
use Rattle.block_types.specs.Limits.{IsBlock, IsGroup, group_size}
use Rattle.replica.specs.Groups.{Group, joined, text, size, text_length}
use Rattle.replica.specs.Placed.{IsBefore}
use Rattle.replica.specs.Room.{block_count}
use Rattle.replica.specs.Spelled.{blocks_of, groups_of, lasts_from, block_sizes, sizes_of, IsSpelled}
use Rattle.replica.proofs.Lengths.{text-append, text_length-push}
use Rattle.replica.proofs.Buffering.{joined-push}
use Rattle.replica.proofs.Placing.{front_within, length-cons, pushed, cut, All-push}

-- blocks cut by their own sizes
pub blocks_of-self : (g : Group) (rest : List ℕ) → blocks_of (block_sizes g) (joined g ++ rest) ≡ g
blocks_of-self [] rest = refl
blocks_of-self (b ∷ g) rest =
    ap (λ l. take (length b) l ∷ blocks_of (block_sizes g) (drop (length b) l)) (append_assoc b (joined g) rest) ∙
    ap (λ x. x ∷ blocks_of (block_sizes g) (drop (length b) (b ++ (joined g ++ rest)))) (take-append_seam b (joined g ++ rest)) ∙
    ap (λ l. b ∷ blocks_of (block_sizes g) l) (drop-append_seam b (joined g ++ rest)) ∙ ap (λ l. b ∷ l) (blocks_of-self g rest)

one_group : (before last : ℕ) (lasts sizes bytes : List ℕ) (g : Group) (rest : List Group) → blocks_of (take (last - before) sizes) bytes ≡ g → groups_of last lasts (drop (last - before) sizes) (drop (size g) bytes) ≡ rest → groups_of before (last ∷ lasts) sizes bytes ≡ g ∷ rest
unfolding groups_of
one_group before last lasts sizes bytes g rest is more = ap (λ x. x ∷ groups_of last lasts (drop (last - before) sizes) (drop (size x) bytes)) is ∙ ap (λ l. g ∷ l) more

pub length-block_sizes : (g : Group) → length (block_sizes g) ≡ length g
length-block_sizes [] = refl
length-block_sizes (b ∷ g) = ap (λ n. suc n) (length-block_sizes g)

groups_of-none : (n : ℕ) (sizes bytes : List ℕ) → groups_of n [] sizes bytes ≡ []
unfolding groups_of
groups_of-none n sizes bytes = refl

pub groups_of-self : (n : ℕ) (gs : List Group) → groups_of n (lasts_from n gs) (sizes_of gs) (text gs) ≡ gs
groups_of-self n [] = groups_of-none n [] []
groups_of-self n (g ∷ gs) =
    let count : n + length g - n ≡ length (block_sizes g) = omega (arith, length-block_sizes g) in
    let sizes = block_sizes g ++ sizes_of gs in
    let bytes = joined g ++ text gs in
    one_group n (n + length g) (lasts_from (n + length g) gs) sizes bytes g gs
    (ap (λ k. blocks_of (take k sizes) bytes) count ∙ ap (λ l. blocks_of l bytes) (take-append_seam (block_sizes g) (sizes_of gs)) ∙ blocks_of-self g (text gs))
    (ap (λ k. groups_of (n + length g) (lasts_from (n + length g) gs) (drop k sizes) (drop (size g) bytes)) count ∙
    ap (λ l. groups_of (n + length g) (lasts_from (n + length g) gs) l (drop (size g) bytes)) (drop-append_seam (block_sizes g) (sizes_of gs)) ∙
    ap (λ l. groups_of (n + length g) (lasts_from (n + length g) gs) (sizes_of gs) l) (drop-append_seam (joined g) (text gs)) ∙ groups_of-self (n + length g) gs)

pub spelled_groups : (gs : List Group) (stops lasts sizes bytes : List ℕ) (l : ℕ) → IsSpelled gs stops lasts sizes bytes l → groups_of 0 lasts sizes bytes ≡ gs
spelled_groups gs stops lasts sizes bytes l is =
    ap (λ x. groups_of 0 x sizes bytes) is.counted ∙ ap (λ x. groups_of 0 (lasts_from 0 gs) x bytes) is.measured ∙ ap (λ x. groups_of 0 (lasts_from 0 gs) (sizes_of gs) x) is.spelled ∙ groups_of-self 0 gs

pub settled : (gs : List Group) (stops lasts sizes bytes : List ℕ) (l : ℕ) → IsSpelled gs stops lasts sizes bytes l → IsSpelled (groups_of 0 lasts sizes bytes) stops lasts sizes bytes l
settled gs stops lasts sizes bytes l is = subst (λ x. IsSpelled x stops lasts sizes bytes l) (sym (spelled_groups gs stops lasts sizes bytes l is)) is

-- no groups
pub no_groups : (stops lasts sizes bytes : List ℕ) → stops ≡ [] → lasts ≡ [] → sizes ≡ [] → bytes ≡ [] → IsSpelled [] stops lasts sizes bytes 0
no_groups stops lasts sizes bytes a b c d = record { placed = record { ends = a; length = refl; full = tt }; counted = b; measured = c; spelled = d; all = tt }

-- how many blocks there are
pub length-sizes_of : (gs : List Group) → length (sizes_of gs) ≡ block_count gs
length-sizes_of [] = refl
length-sizes_of (g ∷ gs) = omega (arith, length-append (block_sizes g) (sizes_of gs), length-block_sizes g, length-sizes_of gs)

pub block_count-push : (gs : List Group) (g : Group) → block_count (gs ++ g ∷ []) ≡ block_count gs + length g
block_count-push [] g = omega arith
block_count-push (x ∷ gs) g = omega (arith, block_count-push gs g)

each_has_one : (g : Group) → AllByRecursion IsBlock g → length g ≤ size g
each_has_one [] all = omega arith
each_has_one (b ∷ g) all = omega (arith, all.0.0, each_has_one g all.1, length-append b (joined g))

pub blocks_within : (g : Group) → IsGroup g → length g ≤ size g
blocks_within g is = each_has_one g is.2

pub count_within : (gs : List Group) → AllByRecursion IsGroup gs → block_count gs ≤ text_length gs
count_within [] all = omega arith
count_within (g ∷ gs) all = omega (arith, blocks_within g all.0, count_within gs all.1, length-cons g gs)

-- one more group
lasts-push : (n : ℕ) (gs : List Group) (g : Group) → lasts_from n (gs ++ g ∷ []) ≡ lasts_from n gs ++ (n + block_count gs + length g) ∷ []
lasts-push n [] g = ap (λ k. k ∷ []) (omega arith)
lasts-push n (x ∷ gs) g = ap (λ l. (n + length x) ∷ l) (lasts-push (n + length x) gs g ∙ ap (λ k. lasts_from (n + length x) gs ++ k ∷ []) (omega arith))

pub sizes-append : (xs ys : List Group) → sizes_of (xs ++ ys) ≡ sizes_of xs ++ sizes_of ys
sizes-append [] ys = refl
sizes-append (x ∷ xs) ys = ap (λ l. block_sizes x ++ l) (sizes-append xs ys) ∙ sym (append_assoc (block_sizes x) (sizes_of xs) (sizes_of ys))

sizes-push : (gs : List Group) (g : Group) → sizes_of (gs ++ g ∷ []) ≡ sizes_of gs ++ block_sizes g
sizes-push gs g = sizes-append gs (g ∷ []) ∙ ap (λ l. sizes_of gs ++ l) (append-nil (block_sizes g))

text-push : (gs : List Group) (g : Group) → text (gs ++ g ∷ []) ≡ text gs ++ joined g
text-push gs g = text-append gs (g ∷ []) ∙ ap (λ l. text gs ++ l) (append-nil (joined g))

pub one_more : (gs : List Group) (es ls ss bs ends lasts sizes bytes : List ℕ) (l n end last : ℕ) (g : Group) → IsSpelled gs es ls ss bs l → IsGroup g → n ≡ group_size g → end ≡ l + n →
    ends ≡ es ++ end ∷ [] → lasts ≡ ls ++ last ∷ [] → last ≡ length sizes → sizes ≡ ss ++ block_sizes g → bytes ≡ bs ++ joined g → IsSpelled (gs ++ g ∷ []) ends lasts sizes bytes end
one_more gs es ls ss bs ends lasts sizes bytes l n end last g is group size_is end_is ends_is lasts_is last_is sizes_is bytes_is =
    let measured : sizes ≡ sizes_of (gs ++ g ∷ []) = sizes_is ∙ ap (λ x. x ++ block_sizes g) is.measured ∙ sym (sizes-push gs g) in
    let at : last ≡ 0 + block_count gs + length g = omega (arith, last_is, ap length measured, length-sizes_of (gs ++ g ∷ []), block_count-push gs g) in
    record {
      placed = pushed gs (gs ++ g ∷ []) es ends l n end g is.placed group size_is end_is refl ends_is;
      counted = lasts_is ∙ ap (λ x. x ++ last ∷ []) is.counted ∙ ap (λ k. lasts_from 0 gs ++ k ∷ []) at ∙ sym (lasts-push 0 gs g);
      measured = measured;
      spelled = bytes_is ∙ ap (λ x. x ++ joined g) is.spelled ∙ sym (text-push gs g);
      all = All-push IsGroup gs g is.all group;
    }

-- cut to the first ones
lasts-take : (n : ℕ) (gs : List Group) (i : ℕ) → take i (lasts_from n gs) ≡ lasts_from n (take i gs)
lasts-take n gs zero = refl
lasts-take n [] (suc i) = refl
lasts-take n (g ∷ gs) (suc i) = ap (λ l. (n + length g) ∷ l) (lasts-take (n + length g) gs i)

sizes_split : (gs : List Group) (i : ℕ) → sizes_of gs ≡ sizes_of (take i gs) ++ sizes_of (drop i gs)
sizes_split gs i = ap sizes_of (sym (take-append-drop i gs)) ∙ sizes-append (take i gs) (drop i gs)

text_split : (gs : List Group) (i : ℕ) → text gs ≡ text (take i gs) ++ text (drop i gs)
text_split gs i = ap text (sym (take-append-drop i gs)) ∙ text-append (take i gs) (drop i gs)

all_first : (gs : List Group) (i : ℕ) → AllByRecursion IsGroup gs → AllByRecursion IsGroup (take i gs)
all_first gs zero all = tt
all_first [] (suc i) all = tt
all_first (g ∷ gs) (suc i) all = (all.0, all_first gs i all.1)

pub first_ones : (gs : List Group) (es ls ss bs ends lasts sizes bytes : List ℕ) (l i upto count : ℕ) → IsSpelled gs es ls ss bs l → text_length (take i gs) ≡ upto → count ≡ block_count (take i gs) →
    ends ≡ take i es → lasts ≡ take i ls → sizes ≡ take count ss → bytes ≡ take upto bs → IsSpelled (take i gs) ends lasts sizes bytes upto
first_ones gs es ls ss bs ends lasts sizes bytes l i upto count is start count_is ends_is lasts_is sizes_is bytes_is =
    let blocks : count ≡ length (sizes_of (take i gs)) = count_is ∙ sym (length-sizes_of (take i gs)) in
    record {
      placed = cut gs es l i upto (take i gs) ends is.placed start refl ends_is;
      counted = lasts_is ∙ ap (take i) is.counted ∙ lasts-take 0 gs i;
      measured = sizes_is ∙ ap (take count) (is.measured ∙ sizes_split gs i) ∙ ap (λ k. take k (sizes_of (take i gs) ++ sizes_of (drop i gs))) blocks ∙ take-append_seam (sizes_of (take i gs)) (sizes_of (drop i gs));
      spelled = bytes_is ∙ ap (take upto) (is.spelled ∙ text_split gs i) ∙ ap (λ k. take k (text (take i gs) ++ text (drop i gs))) (sym start) ∙ take-append_seam (text (take i gs)) (text (drop i gs));
      all = all_first gs i is.all;
    }

-- where a group's blocks are
pub lasts-at : (n : ℕ) (gs : List Group) (i d : ℕ) → i < length gs → get_or (lasts_from n gs) i d ≡ n + block_count (take (suc i) gs)
lasts-at n [] i d h = absurd (omega (arith, h))
lasts-at n (g ∷ gs) zero d h = omega arith
lasts-at n (g ∷ gs) (suc i) d h = omega (arith, lasts-at (n + length g) gs i d (omega (arith, h)))

pub lasts-length : (n : ℕ) (gs : List Group) → length (lasts_from n gs) ≡ length gs
lasts-length n [] = refl
lasts-length n (g ∷ gs) = ap (λ k. suc k) (lasts-length (n + length g) gs)

-- as many as there are groups
pub groups_counted : (gs shown : List Group) (es ls ss bs : List ℕ) (l : ℕ) → IsSpelled shown es ls ss bs l → shown ≡ gs → length ls ≡ length gs
groups_counted gs shown es ls ss bs l is shown_is = ap length is.counted ∙ lasts-length 0 shown ∙ ap length shown_is

pub last_at : (gs : List Group) (es ls ss bs : List ℕ) (l i last x : ℕ) → IsSpelled gs es ls ss bs l → i ≤ length gs → 1 ≤ i → last ≡ i - 1 → x ≡ get_or ls last x → x ≡ block_count (take i gs)
last_at gs es ls ss bs l zero last x is h one last_is x_is = absurd (omega (arith, one))
last_at gs es ls ss bs l (suc i) last x is h one last_is x_is =
    let at : last ≡ i = omega (arith, last_is) in
    x_is ∙ ap (λ (k : ℕ). get_or ls k x) at ∙ ap (λ (k : List ℕ). get_or k i x) is.counted ∙ omega (arith, lasts-at 0 gs i x (omega (arith, h)))

pub same : (gs : List Group) (i : ℕ) → i < length gs → get_or gs i [] ≡ get_or gs i (get_or gs i [])
same [] i h = absurd (omega (arith, h))
same (g ∷ gs) zero h = refl
same (g ∷ gs) (suc i) h = same gs i (omega (arith, h))

drop_one : (gs : List Group) (i : ℕ) → i < length gs → drop i gs ≡ get_or gs i [] ∷ drop (suc i) gs
drop_one [] i h = absurd (omega (arith, h))
drop_one (g ∷ gs) zero h = refl
drop_one (g ∷ gs) (suc i) h = drop_one gs i (omega (arith, h))

-- a group's sizes, and its bytes with what follows
pub its_sizes : (gs : List Group) (ss : List ℕ) (i first last : ℕ) → i < length gs → ss ≡ sizes_of gs → first ≡ block_count (take i gs) → last ≡ block_count (take (i + 1) gs) → take (last - first) (drop first ss) ≡ block_sizes (get_or gs i [])
its_sizes gs ss i first last h is first_is last_is =
    let g = get_or gs i [] in
    let start : first ≡ length (sizes_of (take i gs)) = first_is ∙ sym (length-sizes_of (take i gs)) in
    let more : last ≡ block_count (take i gs) + length g = last_is ∙ ap block_count (take_more gs i [] h) ∙ block_count-push (take i gs) g in
    let count : last - first ≡ length (block_sizes g) = omega (arith, more, first_is, length-block_sizes g) in
    let rest : drop first ss ≡ block_sizes g ++ sizes_of (drop (suc i) gs) =
    ap (drop first) (is ∙ sizes_split gs i) ∙ ap (λ k. drop k (sizes_of (take i gs) ++ sizes_of (drop i gs))) start ∙ drop-append_seam (sizes_of (take i gs)) (sizes_of (drop i gs)) ∙ ap sizes_of (drop_one gs i h)
    in
    ap (take (last - first)) rest ∙ ap (λ k. take k (block_sizes g ++ sizes_of (drop (suc i) gs))) count ∙ take-append_seam (block_sizes g) (sizes_of (drop (suc i) gs))

pub its_bytes : (gs : List Group) (bs : List ℕ) (i at : ℕ) → i < length gs → bs ≡ text gs → at ≡ text_length (take i gs) → drop at bs ≡ joined (get_or gs i []) ++ text (drop (suc i) gs)
its_bytes gs bs i at h is at_is =
    ap (drop at) (is ∙ text_split gs i) ∙ ap (λ k. drop k (text (take i gs) ++ text (drop i gs))) at_is ∙ drop-append_seam (text (take i gs)) (text (drop i gs)) ∙ ap text (drop_one gs i h)

pub its_group : (gs : List Group) (i : ℕ) → AllByRecursion IsGroup gs → i < length gs → IsGroup (get_or gs i [])
its_group [] i all h = absurd (omega (arith, h))
its_group (g ∷ gs) zero all h = all.0
its_group (g ∷ gs) (suc i) all h = its_group gs i all.1 (omega (arith, h))

pub cut_group : (gs : List Group) (ss bs sizes : List ℕ) (i at first last : ℕ) → i < length gs → ss ≡ sizes_of gs → bs ≡ text gs → first ≡ block_count (take i gs) → last ≡ block_count (take (i + 1) gs) → at ≡ text_length (take i gs) →
    sizes ≡ take (last - first) (drop first ss) → blocks_of sizes (drop at bs) ≡ get_or gs i []
cut_group gs ss bs sizes i at first last h ss_is bs_is first_is last_is at_is sizes_is =
    ap (λ x. blocks_of x (drop at bs)) (sizes_is ∙ its_sizes gs ss i first last h ss_is first_is last_is) ∙ ap (blocks_of (block_sizes (get_or gs i []))) (its_bytes gs bs i at h bs_is at_is) ∙ blocks_of-self (get_or gs i []) (text (drop (suc i) gs))

-- one block more
pub joined-more : (blocks : Group) (i : ℕ) (b : List ℕ) → i < length blocks → b ≡ get_or blocks i b → joined (take (i + 1) blocks) ≡ joined (take i blocks) ++ b
joined-more blocks i b h is = ap joined (take_more blocks i b h) ∙ joined-push (take i blocks) (get_or blocks i b) ∙ ap (λ x. joined (take i blocks) ++ x) (sym is)

sizes_of_blocks-push : (xs : Group) (b : List ℕ) → block_sizes (xs ++ b ∷ []) ≡ block_sizes xs ++ length b ∷ []
sizes_of_blocks-push [] b = refl
sizes_of_blocks-push (x ∷ xs) b = ap (λ l. length x ∷ l) (sizes_of_blocks-push xs b)

pub sizes-more : (blocks : Group) (i : ℕ) (b : List ℕ) → i < length blocks → b ≡ get_or blocks i b → block_sizes (take (i + 1) blocks) ≡ block_sizes (take i blocks) ++ length b ∷ []
sizes-more blocks i b h is = ap block_sizes (take_more blocks i b h) ∙ sizes_of_blocks-push (take i blocks) (get_or blocks i b) ∙ ap (λ x. block_sizes (take i blocks) ++ length x ∷ []) (sym is)

pub first_blocks : (blocks : Group) (i : ℕ) → length (joined (take i blocks)) ≤ size blocks
first_blocks blocks zero = omega arith
first_blocks [] (suc i) = omega arith
first_blocks (b ∷ blocks) (suc i) = omega (arith, first_blocks blocks i, length-append b (joined blocks), length-append b (joined (take i blocks)))

-- one group more of the first ones
pub text-more : (gs : List Group) (i : ℕ) (g : Group) → i < length gs → g ≡ get_or gs i g → text_length (take (i + 1) gs) ≡ text_length (take i gs) + size g
text-more gs i g h is = ap text_length (take_more gs i g h) ∙ ap (λ x. text_length (take i gs ++ x ∷ [])) (sym is) ∙ text_length-push (take i gs) g

pub count-more : (gs : List Group) (i : ℕ) (g : Group) → i < length gs → g ≡ get_or gs i g → block_count (take (i + 1) gs) ≡ block_count (take i gs) + length g
count-more gs i g h is = ap block_count (take_more gs i g h) ∙ ap (λ x. block_count (take i gs ++ x ∷ [])) (sym is) ∙ block_count-push (take i gs) g

pub counts_within : (gs : List Group) (i : ℕ) → block_count (take i gs) ≤ block_count gs
counts_within gs zero = omega arith
counts_within [] (suc i) = omega arith
counts_within (g ∷ gs) (suc i) = omega (arith, counts_within gs i)

-- where a group is: which of the sizes its blocks have, and that they cut it from the bytes from its start on
pub record HasGroup (group : Group) (sizes bytes : List ℕ) (first last : ℕ) : Type 0 where
  pub order : first ≤ last
  pub within : last ≤ length sizes
  pub few : length (take (last - first) (drop first sizes)) ≤ 64
  pub blocks : blocks_of (take (last - first) (drop first sizes)) bytes ≡ group
  pub is : IsGroup group

pub group_place : (gs shown : List Group) (es ls ss bs held : List ℕ) (l i at first last : ℕ) → IsSpelled shown es ls ss bs l → shown ≡ gs → held ≡ ss → i < length gs → last ≡ get_or ls i last → first ≡ block_count (take i gs) → at ≡ text_length (take i gs) →
    HasGroup (get_or gs i []) held (drop at bs) first last
group_place gs shown es ls ss bs held l i at first last spelled shown_is held_is h last_is first_is at_is =
    let is : IsSpelled gs es ls ss bs l = subst (λ x. IsSpelled x es ls ss bs l) shown_is spelled in
    let measured : held ≡ sizes_of gs = held_is ∙ is.measured in
    let end : last ≡ block_count (take (i + 1) gs) = last_at gs es ls ss bs l (i + 1) i last is (omega (arith, h)) (omega arith) (omega arith) last_is in
    let group : IsGroup (get_or gs i []) = its_group gs i is.all h in
    record {
      order = omega (arith, end, first_is, count-more gs i (get_or gs i []) h (same gs i h));
      within = omega (arith, end, ap length measured, length-sizes_of gs, counts_within gs (i + 1));
      few = omega (arith, ap length (its_sizes gs held i first last h measured first_is end), length-block_sizes (get_or gs i []), group.1);
      blocks = cut_group gs held bs (take (last - first) (drop first held)) i at first last h measured is.spelled first_is end at_is refl;
      is = group;
    }

is_below : (a b : ℕ) → a < b → nat_lt a b ≡ true
is_below a b h = grind (arith, nat_tests)

is_not_below : (a b : ℕ) → b ≤ a → nat_lt a b ≡ false
is_not_below a b h = grind (arith, nat_tests)

is_at_most : (a b : ℕ) → a ≤ b → nat_le a b ≡ true
is_at_most a b h = grind (arith, nat_tests)

is_above : (a b : ℕ) → b < a → nat_le a b ≡ false
is_above a b h = grind (arith, nat_tests)

-- the groups reach as far as the one in which the byte before lies
pub reach : (gs : List Group) (end last r n : ℕ) → last ≡ end - 1 → 1 ≤ end → IsBefore gs last r → n ≡ length gs → nat_lt r n ≡ nat_le end (text_length gs)
reach gs end last r n last_is some before n_is =
    elim (cases_lt r (length gs)) [
      | inl under ↦
          let enough : end ≤ text_length gs =
          elim before.next [
            | inl all ↦ absurd (omega (arith, all, under))
            | inr next ↦ omega (arith, next, last_is, some, front_within gs (suc r))
          ]
          in
          is_below r n (omega (arith, under, n_is)) ∙ sym (is_at_most end (text_length gs) enough)
      | inr over ↦
          let all : take r gs ≡ gs = take_all r gs over in
          let short : text_length gs < end = omega (arith, ap text_length all, before.start, last_is, some) in
          is_not_below r n (omega (arith, over, n_is)) ∙ sym (is_above end (text_length gs) short)
    ]
