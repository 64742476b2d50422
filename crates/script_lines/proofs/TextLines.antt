-- The lines of a text, and that they are UTF-8 exactly where the text is.
use Rattle.std.proofs.Common.{append-nil, append_assoc, add-one, ◌≡◌, ◌<◌, ◌≤◌, ◌-◌, ◌+◌, ◌∙◌, ◌++◌, ◌∷◌, ◌==◌, ℕ, Bool, Bor, List, [], ap, arith, cond, drop, false, suc, get_or, length, length-append, length-take, refl, subst, sym, take, true}
use Rattle.std.proofs.lemmas.Grind.{common_steps}
use Rattle.std.proofs.lemmas.Bool.{eqb-true}
use Rattle.std.proofs.lemmas.List.{get_or-take, get_or_at, get_or_default, map-append, take-append-drop, take_all, take_rest}
use Rattle.std.proofs.lemmas.List.Splits.{join_with_byte-slice_split, length-slice_split, slice_split_at, slice_split_none}
use Rattle.std.proofs.Math.Seq.{drop-cons}
use Rattle.std.proofs.lemmas.Str.{IsCharBoundary-after_ascii, IsCharBoundary-before_ascii, IsUtf8-append, IsUtf8-drop, IsUtf8-from_ascii, IsUtf8-nil, IsUtf8-take}
use Rattle.std.specs.List.{All, AllByRecursion, join_with_byte, slice_split}
use Rattle.std.specs.Str.{IsAscii, IsUtf8}
use Rattle.std.specs.Str.Lines.{lines, lines_of_parts, strip_carriage_return}
use Rattle.memchr.specs.Find.{NoneBefore, Nowhere, Passes, is_byte}
use Rattle.script_lines.proofs.Lists.{texts}

-- a newline ends the part before the others
parts_next : (x : List ℕ) (parts : List (List ℕ)) → 0 < length parts → lines_of_parts (x ∷ parts) ≡ strip_carriage_return x ∷ lines_of_parts parts
parts_next x [] some = absurd (omega arith)
parts_next x (y ∷ more) some = refl

-- the first line, and those behind its newline
lines_next : (x rest : List ℕ) → All (λ b. (b == 10) ≡ false) x → lines (x ++ 10 ∷ rest) ≡ strip_carriage_return x ∷ lines rest
lines_next x rest none =
    let some : 0 < length (slice_split (λ b. b == 10) rest) = omega (arith, length-slice_split (λ b. b == 10) rest) in
    ap lines_of_parts (slice_split_at (λ b. b == 10) x 10 rest none refl) ∙ parts_next x (slice_split (λ b. b == 10) rest) some

-- the last line, which no newline ends
lines_last : (x : List ℕ) → All (λ b. (b == 10) ≡ false) x → lines x ≡ cond (length x == 0) [] (x ∷ [])
lines_last x none = ap lines_of_parts (slice_split_none (λ b. b == 10) x none)

not_true : (t : Bool) → ¬ (t ≡ true) → t ≡ false
not_true true h = absurd (h refl)
not_true false h = refl

-- no newline stands before the first
none_before : (x : List ℕ) (k : ℕ) → k ≤ length x → Nowhere (Passes (is_byte 10) x) 0 k → All (λ b. (b == 10) ≡ false) (take k x)
none_before x k below none i d within =
    let before : i < k = omega (arith, length-take k x) in
    let here : get_or (take k x) i d ≡ get_or x i 0 = get_or-take k x i d before ∙ get_or_default x i d 0 (omega arith) in
    ap (λ b. b == 10) here ∙ not_true _ (none i (omega arith) before)

-- one line more, up to the first newline
lines_more : (found : List (Bor (List ℕ))) (line : Bor (List ℕ)) (last text : List ℕ) (k : ℕ)
    → texts found ++ lines last ≡ lines text → NoneBefore (Passes (is_byte 10) last) 0 (length last) k → Passes (is_byte 10) last k
    → line.now ≡ strip_carriage_return (take k last) → texts (found ++ line ∷ []) ++ lines (drop (k + 1) last) ≡ lines text
lines_more found line last text k before first here is =
    let within : k < length last = first.high in
    let none = none_before last k (omega arith) first.before in
    let cut : last ≡ take k last ++ 10 ∷ drop (k + 1) last =
    sym (take-append-drop k last) ∙ ap (λ l. take k last ++ l) (drop-cons last k 0 within ∙ ap (λ b. b ∷ drop (suc k) last) (eqb-true _ _ here) ∙ ap (λ n. 10 ∷ drop n last) (sym (add-one k))) in
    ap (λ l. l ++ lines (drop (k + 1) last)) (map-append (λ w. w.now) found (line ∷ []))
    ∙ append_assoc (texts found) (line.now ∷ []) (lines (drop (k + 1) last))
    ∙ ap (λ l. texts found ++ l ∷ lines (drop (k + 1) last)) is
    ∙ ap (λ l. texts found ++ l) (sym (lines_next (take k last) (drop (k + 1) last) none) ∙ ap lines (sym cut))
    ∙ before

-- the same, where the list of lines and the rest are as the code has them
pub lines_go_on : (found new : List (Bor (List ℕ))) (line : Bor (List ℕ)) (last text : List ℕ) (k : ℕ) → new ≡ found ++ line ∷ []
    → texts found ++ lines last ≡ lines text → NoneBefore (Passes (is_byte 10) last) 0 (length last) k → Passes (is_byte 10) last k
    → line.now ≡ strip_carriage_return (take k last) → texts new ++ lines (take (length last - (k + 1)) (drop (k + 1) last)) ≡ lines text
lines_go_on found new line last text k pushed before first here is =
    ap (λ l. texts new ++ lines l) (take_rest last (k + 1)) ∙ ap (λ l. texts l ++ lines (drop (k + 1) last)) pushed
    ∙ lines_more found line last text k before first here is

-- what no newline ends is empty, or it is one more line
all_of : (x : List ℕ) → Nowhere (Passes (is_byte 10) x) 0 (length x) → All (λ b. (b == 10) ≡ false) x
all_of x none = subst (All (λ b. (b == 10) ≡ false)) (take_all (length x) x (omega arith)) (none_before x (length x) (omega arith) none)

pub lines_without : (found : List (Bor (List ℕ))) (last text : List ℕ) (t : Bool) → texts found ++ lines last ≡ lines text
    → Nowhere (Passes (is_byte 10) last) 0 (length last) → t ≡ (length last == 0) → t ≡ true → texts found ≡ lines text
lines_without found last text t before none tested empty =
    sym (append-nil (texts found)) ∙ ap (λ (b : Bool). texts found ++ cond b [] (last ∷ [])) (sym empty ∙ tested)
    ∙ ap (λ l. texts found ++ l) (sym (lines_last last (all_of last none))) ∙ before

pub lines_with : (found : List (Bor (List ℕ))) (last : Bor (List ℕ)) (text : List ℕ) (t : Bool) → texts found ++ lines last.now ≡ lines text
    → Nowhere (Passes (is_byte 10) last.now) 0 (length last.now) → t ≡ (length last.now == 0) → t ≡ false → texts (found ++ last ∷ []) ≡ lines text
lines_with found last text t before none tested full =
    map-append (λ w. w.now) found (last ∷ []) ∙ ap (λ (b : Bool). texts found ++ cond b [] (last.now ∷ [])) (sym full ∙ tested)
    ∙ ap (λ l. texts found ++ l) (sym (lines_last last.now (all_of last.now none))) ∙ before

-- ---- UTF-8

newline_ascii : IsAscii (10 ∷ [])
newline_ascii i = grind (arith, common_steps)

return_ascii : IsAscii (13 ∷ [])
return_ascii i = grind (arith, common_steps)

kept_or_cut : (t : Bool) (x : List ℕ) → (t ≡ true → (x ≡ take (length x - 1) x ++ 13 ∷ []) × (0 < length x)) → IsUtf8 (cond t (take (length x - 1) x) x) → IsUtf8 x
kept_or_cut true x e h = subst IsUtf8 (sym (e refl).0) (IsUtf8-append _ (13 ∷ []) h (IsUtf8-from_ascii (13 ∷ []) return_ascii))
kept_or_cut false x e h = h

ends_so : (x : List ℕ) → (get_or x (length x - 1) 0 == 13) ≡ true → (x ≡ take (length x - 1) x ++ 13 ∷ []) × (0 < length x)
ends_so x e = let at = eqb-true _ _ e in (grind (arith, common_steps, at), grind (arith, common_steps, at))

unstripped : (x : List ℕ) → IsUtf8 (strip_carriage_return x) → IsUtf8 x
unstripped x h = kept_or_cut (get_or x (length x - 1) 0 == 13) x (ends_so x) h

cut_or_kept : (t : Bool) (x : List ℕ) → (t ≡ true → (x ≡ take (length x - 1) x ++ 13 ∷ []) × (0 < length x)) → IsUtf8 x → IsUtf8 (cond t (take (length x - 1) x) x)
cut_or_kept true x e h =
    IsUtf8-take x (length x - 1) h (IsCharBoundary-before_ascii x (length x - 1) (omega (arith, (e refl).1)) (grind (arith, common_steps, (e refl).0)))
cut_or_kept false x e h = h

stripped : (x : List ℕ) → IsUtf8 x → IsUtf8 (strip_carriage_return x)
stripped x h = cut_or_kept (get_or x (length x - 1) 0 == 13) x (ends_so x) h

last_whole : (t : Bool) (x : List ℕ) → (t ≡ true → x ≡ []) → AllByRecursion IsUtf8 (cond t [] (x ∷ [])) → IsUtf8 x
last_whole true x e h = subst IsUtf8 (sym (e refl)) IsUtf8-nil
last_whole false x e h = h.0

last_part : (t : Bool) (x : List ℕ) → IsUtf8 x → AllByRecursion IsUtf8 (cond t [] (x ∷ []))
last_part true x h = tt
last_part false x h = (h, tt)

no_length : (x : List ℕ) → (length x == 0) ≡ true → x ≡ []
no_length [] e = refl
no_length (b ∷ x) e = absurd (omega (arith, eqb-true _ _ e))

whole_of_parts : (parts : List (List ℕ)) → AllByRecursion IsUtf8 (lines_of_parts parts) → IsUtf8 (join_with_byte 10 parts)
whole_of_parts [] h = IsUtf8-nil
whole_of_parts (x ∷ []) h = last_whole (length x == 0) x (no_length x) h
whole_of_parts (x ∷ y ∷ more) h =
    IsUtf8-append x (10 ∷ join_with_byte 10 (y ∷ more)) (unstripped x h.0)
    (IsUtf8-append (10 ∷ []) (join_with_byte 10 (y ∷ more)) (IsUtf8-from_ascii (10 ∷ []) newline_ascii) (whole_of_parts (y ∷ more) h.1))

parts_of_whole : (parts : List (List ℕ)) → IsUtf8 (join_with_byte 10 parts) → AllByRecursion IsUtf8 (lines_of_parts parts)
parts_of_whole [] h = tt
parts_of_whole (x ∷ []) h = last_part (length x == 0) x h
parts_of_whole (x ∷ y ∷ more) h =
    let rest = join_with_byte 10 (y ∷ more) in
    let here : get_or (x ++ (10 ∷ rest)) (length x) 0 ≡ 10 = get_or_at x 10 rest 0 (length x) refl in
    let within : length x < length (x ++ (10 ∷ rest)) = rw length-append (omega arith) in
    let ascii : get_or (x ++ (10 ∷ rest)) (length x) 0 < 128 = omega (arith, here) in
    let front : take (length x) (x ++ (10 ∷ rest)) ≡ x = grind (arith, common_steps) in
    let behind : drop (length x + 1) (x ++ (10 ∷ rest)) ≡ rest = grind (arith, common_steps) in (
      stripped x (subst IsUtf8 front (IsUtf8-take (x ++ (10 ∷ rest)) (length x) h (IsCharBoundary-before_ascii (x ++ (10 ∷ rest)) (length x) within ascii))),
      parts_of_whole (y ∷ more) (subst IsUtf8 behind (IsUtf8-drop (x ++ (10 ∷ rest)) (length x + 1) h (IsCharBoundary-after_ascii (x ++ (10 ∷ rest)) (length x) h within ascii))),
    )

-- a text whose lines are UTF-8 is UTF-8
pub utf8_from_lines : (text : List ℕ) → AllByRecursion IsUtf8 (lines text) → IsUtf8 text
utf8_from_lines text h = subst IsUtf8 (join_with_byte-slice_split 10 text) (whole_of_parts (slice_split (λ b. b == 10) text) h)

-- and so is each line of a text that is
pub lines_from_utf8 : (text : List ℕ) → IsUtf8 text → AllByRecursion IsUtf8 (lines text)
lines_from_utf8 text h = parts_of_whole (slice_split (λ b. b == 10) text) (subst IsUtf8 (sym (join_with_byte-slice_split 10 text)) h)
