-- Where groups begin, and that one stands where it begins.
use Rattle.std.proofs.Common.{◌≡◌, ℕ, inl, inr, ◌+◌, ◌<◌, ◌≤◌, List, Vec, [], ◌∷◌, ◌++◌, length, take, drop, get_or, sym, ◌∙◌, arith, subst, ap, length-append}
use Rattle.std.proofs.lemmas.List.{take_more, take-append-drop}
use Rattle.std.specs.declared.alloc.Global.{Global}
use Rattle.std.proofs.Math.ListN.{get_or-append}
use Rattle.std.proofs.Math.Seq.{get_or-append_seam}
use Rattle.wire.specs.declared.note.Note.{Note}
use Rattle.wire.specs.declared.note.Note.TheVariants.{Content}
use Rattle.replica.specs.Groups.{Group, size, text_length}
use Rattle.replica.proofs.Lengths.{text_length-push}
use Rattle.model_streams.specs.Honest.{Stands}
use Rattle.world_checker.specs.Starts.{AreStarts, AreStartsOf, AreAllStarts}
use Rattle.world_checker.proofs.Linking.{each_more}
use Rattle.world_checker.proofs.Places.{same_at, below_or_at, below_or_not}
use Rattle.world_checker.proofs.Showing.{next_of}

-- one group more
module _ (groups : List Group) (starts : List ℕ) (k at : ℕ) (x : Group) (within : k < length groups) (is : x ≡ get_or groups k x) where
  pub starts_more : length starts ≡ k → at ≡ text_length (take k groups) → AreStarts groups starts → AreStarts groups (starts ++ at ∷ [])
  starts_more counted here are =
      each_more (λ i start. (i ≤ length groups) × (start ≡ text_length (take i groups))) starts at are
      (omega (arith, counted, within), subst (λ n. at ≡ text_length (take n groups)) (sym counted) here)

  pub next_start : at ≡ text_length (take k groups) → (n : ℕ) → n ≡ size x → at + n ≡ text_length (take (k + 1) groups)
  next_start here n sized =
      let more : text_length (take (k + 1) groups) ≡ text_length (take k groups) + size x =
      ap text_length (take_more groups k x within ∙ ap (λ y. take k groups ++ y ∷ []) (sym is)) ∙ text_length-push (take k groups) x in
      omega (arith, more, here, sized)

-- a group that begins somewhere stands there
pub stands_there : (groups : List Group) (starts : List ℕ) (k offset : ℕ) (x g : Group) → AreStarts groups starts → k < length starts → get_or starts k 0 ≡ offset
    → k < length groups → x ≡ get_or groups k x → x ≡ g → Stands g offset groups
stands_there groups starts k offset x g are known here within is same = record {
  before = take k groups;
  after = drop (k + 1) groups;
  split = sym (take-append-drop k groups) ∙ ap (λ l. take k groups ++ l) (next_of groups k x within is ∙ ap (λ y. y ∷ drop (k + 1) groups) same);
  place = sym ((are k known).1) ∙ here;
}

-- nothing is said of no starts
none_known : (x : Note) → AreStartsOf x []
none_known (Content e n c) = λ k lt. absurd (omega arith)
none_known x = tt

-- what is looked up of the starts of all
pub starts_known : (notes : List Note) (starts : List (Vec ℕ Global)) (i : ℕ) (x : Note) (r : List ℕ) → AreAllStarts notes starts → x ≡ get_or notes i x
    → ((d : Vec ℕ Global) → i < length starts → r ≡ (get_or starts i d).items) → (length starts ≤ i → r ≡ []) → AreStartsOf x r
starts_known notes starts i x r are is known unknown = elim (below_or_not i (length starts)) [
  | inl below ↦ inside starts below are known
  | inr above ↦ subst (AreStartsOf x) (sym (unknown above)) (none_known x)
]
  where
    inside : (vs : List (Vec ℕ Global)) → i < length vs → AreAllStarts notes vs → ((d : Vec ℕ Global) → i < length vs → r ≡ (get_or vs i d).items) → AreStartsOf x r
    inside [] lt all read = absurd (omega (arith, lt))
    inside (v ∷ vs) lt all read = subst (λ y. AreStartsOf y r) (sym is) (subst (AreStartsOf (get_or notes i x)) (sym (read v lt)) (all i x v lt))

-- the starts of one observation more
pub all_starts_more : (notes : List Note) (starts : List (Vec ℕ Global)) (n : ℕ) (x : Note) (v : Vec ℕ Global) → n < length notes → x ≡ get_or notes n x → length starts ≡ n
    → AreAllStarts notes starts → AreStartsOf x v.items → AreAllStarts notes (starts ++ v ∷ [])
all_starts_more notes starts n x v within is counted are one i d e lt = elim (below_or_at i (length starts) (omega (arith, lt, length-append starts (v ∷ [])))) [
  | inl below ↦ let same : get_or (starts ++ v ∷ []) i e ≡ get_or starts i e = get_or-append starts (v ∷ []) e i below in
      subst (λ y. AreStartsOf (get_or notes i d) y.items) (sym same) (are i d e below)
  | inr at ↦
      let same : get_or (starts ++ v ∷ []) i e ≡ v = ap (λ k. get_or (starts ++ v ∷ []) k e) at ∙ get_or-append_seam starts v [] e in
      let here : x ≡ get_or notes i d = is ∙ (same_at notes n x d within ∙ ap (λ k. get_or notes k d) (sym (at ∙ counted))) in
      subst (λ y. AreStartsOf (get_or notes i d) y.items) (sym same) (subst (λ y. AreStartsOf y v.items) here one)
]
