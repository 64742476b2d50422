-- Extents from entries and lengths: what a change of an entry, of the list or of a length makes of them.
use Rattle.std.proofs.Common.{◌≡◌, ◌≢◌, ℕ, zero, suc, ◌+◌, ◌≤◌, Bool, true, false, ◌==◌, List, [], ◌∷◌, ◌++◌, length, Option, Some, None, option_map, slice_get, slice_set, refl, sym, ap, ◌∙◌, subst, arith, is_some, is_eq}
use Rattle.std.proofs.Math.Path.{fun_ext}
use Rattle.std.proofs.lemmas.Bool.{eqb-true, eqb-false}
use Rattle.std.proofs.lemmas.Bool.Decides.{nat_tests}
use Rattle.std.proofs.lemmas.Cmp.{is_eq_index}
use Rattle.std.specs.Ordering.{nat_cmp}
use Rattle.block_types.specs.declared.record.Nodes.{Nodes}
use Rattle.streams.specs.Streams.{Stream, Streams}
use Rattle.model_streams.specs.declared.extent.Extent.{Extent}
use Rattle.model_streams.specs.Maps.{entry_at}
use Rattle.model_streams.specs.Manager.{sealed_in}
use Rattle.manager_state.specs.declared.entry.ExtentEntry.{ExtentEntry}
use Rattle.manager_state.specs.Extents.{with_length, without_length, new_entry, extents_from, HaveLengths, longer_entries}
use Rattle.manager_state.specs.Table.{ManagerTableState, with_entry, sealed_at, longer_extents, lengthened_if}

module _ (f : ℕ → Option ℕ) where
  pub length-from : (n : ℕ) (l : List ExtentEntry) → length (extents_from n l f) ≡ length l
  length-from n [] = refl
  length-from n (y ∷ l) = ap suc (length-from (suc n) l)

  get_from : (n : ℕ) (l : List ExtentEntry) (k : ℕ) → slice_get (extents_from n l f) k ≡ option_map (λ y. with_length y (f (n + k))) (slice_get l k)
  get_from n [] k = refl
  get_from n (y ∷ l) zero = let here : n ≡ n + 0 = omega arith in ap (λ (q : ℕ). Some (with_length y (f q))) here
  get_from n (y ∷ l) (suc k) =
      let next : suc n + k ≡ n + suc k = omega arith in
      get_from (suc n) l k ∙ ap (λ (q : ℕ). option_map (λ z. with_length z (f q)) (slice_get l k)) next

  -- an extent is its entry with its length
  pub entry_from : (l : List ExtentEntry) (e : ℕ) → entry_at (extents_from 1 l f) e ≡ option_map (λ y. with_length y (f e)) (entry_at l e)
  entry_from l zero = refl
  entry_from l (suc k) = let next : 1 + k ≡ suc k = omega arith in get_from 1 l k ∙ ap (λ (q : ℕ). option_map (λ z. with_length z (f q)) (slice_get l k)) next

  pub shown_none : (l : List ExtentEntry) (e : ℕ) → entry_at l e ≡ None → None ≡ entry_at (extents_from 1 l f) e
  shown_none l e is = sym (entry_from l e ∙ ap (option_map (λ y. with_length y (f e))) is)

  pub shown_some : (l : List ExtentEntry) (e : ℕ) (y : ExtentEntry) (w : Option ℕ) → entry_at l e ≡ Some y → w ≡ f e → Some (with_length y w) ≡ entry_at (extents_from 1 l f) e
  shown_some l e y w is has = ap (λ (o : Option ℕ). Some (with_length y o)) has ∙ sym (entry_from l e ∙ ap (option_map (λ z. with_length z (f e))) is)

  -- an extent that is shown has an entry
  pub shown_there : (l : List ExtentEntry) (e : ℕ) → is_some (entry_at (extents_from 1 l f) e) ≡ true → entry_at l e ≡ None → ⊥
  shown_there l e some none = absurd (let no = ap is_some (shown_none l e none) ∙ some in cc)

  push_from : (n : ℕ) (l : List ExtentEntry) (y : ExtentEntry) → extents_from n (l ++ y ∷ []) f ≡ extents_from n l f ++ with_length y (f (n + length l)) ∷ []
  push_from n [] y = let here : n ≡ n + 0 = omega arith in ap (λ (q : ℕ). with_length y (f q) ∷ []) here
  push_from n (z ∷ l) y =
      let next : suc n + length l ≡ n + suc (length l) = omega arith in
      ap (λ (xs : List Extent). with_length z (f n) ∷ xs) (push_from (suc n) l y ∙ ap (λ (q : ℕ). extents_from (suc n) l f ++ with_length y (f q) ∷ []) next)

  set_from : (n : ℕ) (l : List ExtentEntry) (k : ℕ) (y : ExtentEntry) → extents_from n (slice_set l k y) f ≡ slice_set (extents_from n l f) k (with_length y (f (n + k)))
  set_from n [] k y = refl
  set_from n (z ∷ l) zero y = let here : n ≡ n + 0 = omega arith in ap (λ (q : ℕ). with_length y (f q) ∷ extents_from (suc n) l f) here
  set_from n (z ∷ l) (suc k) y =
      let next : suc n + k ≡ n + suc k = omega arith in
      ap (λ (xs : List Extent). with_length z (f n) ∷ xs) (set_from (suc n) l k y ∙ ap (λ (q : ℕ). slice_set (extents_from (suc n) l f) k (with_length y (f q))) next)

  -- the lengths are those that the extents show
  pub lengths_shown : (l : List ExtentEntry) → HaveLengths l f → f ≡ sealed_at (extents_from 1 l f)
  lengths_shown l have = fun_ext (λ e. at e (entry_at l e) refl)
    where
      at : (e : ℕ) (o : Option ExtentEntry) → entry_at l e ≡ o → f e ≡ sealed_at (extents_from 1 l f) e
      at e None is = have e is ∙ sym (ap sealed_in (entry_from l e ∙ ap (option_map (λ y. with_length y (f e))) is))
      at e (Some y) is = sym (ap sealed_in (entry_from l e ∙ ap (option_map (λ y. with_length y (f e))) is))

  -- another entry of a number, and its length stays
  pub replaced : (l : List ExtentEntry) → HaveLengths l f → (k : ℕ) (y : ExtentEntry) →
      extents_from 1 (slice_set l k y) f ≡ slice_set (extents_from 1 l f) k (with_length y (sealed_at (extents_from 1 l f) (suc k)))
  replaced l have k y =
      let next : 1 + k ≡ suc k = omega arith in
      set_from 1 l k y ∙ ap (λ (q : ℕ). slice_set (extents_from 1 l f) k (with_length y (f q))) next
      ∙ ap (λ (h : ℕ → Option ℕ). slice_set (extents_from 1 l f) k (with_length y (h (suc k)))) (lengths_shown l have)

  last_none : {A : Type 0} (l : List A) → entry_at l (suc (length l)) ≡ None
  last_none [] = refl
  last_none (x ∷ l) = last_none l

  -- one more entry is one more extent, which is open
  pub lengthened : (l : List ExtentEntry) → HaveLengths l f → (o : Option Stream) (pick : Nodes) → extents_from 1 (longer_entries l o pick) f ≡ longer_extents (extents_from 1 l f) o pick
  lengthened l have None pick = refl
  lengthened l have (Some x) pick =
      let next : 1 + length l ≡ suc (length l) = omega arith in
      push_from 1 l (new_entry pick x.fence)
      ∙ ap (λ (q : ℕ). extents_from 1 l f ++ with_length (new_entry pick x.fence) (f q) ∷ []) next
      ∙ ap (λ (w : Option ℕ). extents_from 1 l f ++ with_length (new_entry pick x.fence) w ∷ []) (have (suc (length l)) (last_none l))

abbrev pub table_with : ℕ → ℕ → Streams → List Extent → ManagerTableState
table_with nodes target streams extents = record { nodes = nodes; target = target; streams = streams; extents = extents }

set_past : (xs : List Extent) (k : ℕ) (x : Extent) → length xs ≤ k → slice_set xs k x ≡ xs
set_past [] k x past = refl
set_past (y ∷ xs) zero x past = absurd (omega (arith, past))
set_past (y ∷ xs) (suc k) x past = ap (λ (l : List Extent). y ∷ l) (set_past xs k x (omega (arith, past)))

module _ (f : ℕ → Option ℕ) (nodes target : ℕ) (streams : Streams) (l : List ExtentEntry) where
  abbrev pub shown : ManagerTableState
  shown = table_with nodes target streams (extents_from 1 l f)

  abbrev pub kept : ℕ → Extent → Extent
  kept e x = record x { sealed = sealed_at (extents_from 1 l f) e }

  -- what is put in place of an extent, whose length stays
  pub replaced_at : HaveLengths l f → (k e : ℕ) → e ≡ suc k → (x : Extent) (y : ExtentEntry) → y ≡ without_length x →
      table_with nodes target streams (extents_from 1 (slice_set l k y) f) ≡ with_entry shown e (kept e x)
  replaced_at have k e at x y is =
      ap (λ (z : ExtentEntry). table_with nodes target streams (extents_from 1 (slice_set l k z) f)) is
      ∙ ap (table_with nodes target streams) (replaced f l have k (without_length x))
      ∙ ap (λ (n : ℕ). with_entry shown n (kept n x)) (sym at)

  pub replaced_past : (k e : ℕ) → e ≡ suc k → (x : Extent) → length l ≤ k → shown ≡ with_entry shown e (kept e x)
  replaced_past k e at x past =
      ap (table_with nodes target streams) (sym (set_past (extents_from 1 l f) k (kept (suc k) x) (omega (arith, past, length-from f 1 l))))
      ∙ ap (λ (n : ℕ). with_entry shown n (kept n x)) (sym at)

-- ---- only extents that there are have a length

get_set_none : (l : List ExtentEntry) (k : ℕ) (y : ExtentEntry) (n : ℕ) → slice_get (slice_set l k y) n ≡ None → slice_get l n ≡ None
get_set_none [] k y n none = none
get_set_none (z ∷ l) zero y zero none = absurd cc
get_set_none (z ∷ l) zero y (suc n) none = none
get_set_none (z ∷ l) (suc k) y zero none = none
get_set_none (z ∷ l) (suc k) y (suc n) none = get_set_none l k y n none

get_push_none : (l : List ExtentEntry) (y : ExtentEntry) (n : ℕ) → slice_get (l ++ y ∷ []) n ≡ None → slice_get l n ≡ None
get_push_none [] y n none = refl
get_push_none (z ∷ l) y zero none = none
get_push_none (z ∷ l) y (suc n) none = get_push_none l y n none

pub have_replaced : (l : List ExtentEntry) (f : ℕ → Option ℕ) → HaveLengths l f → (k : ℕ) (y : ExtentEntry) → HaveLengths (slice_set l k y) f
have_replaced l f have k y zero none = have zero refl
have_replaced l f have k y (suc n) none = have (suc n) (get_set_none l k y n none)

pub have_lengthened : (l : List ExtentEntry) (f : ℕ → Option ℕ) → HaveLengths l f → (o : Option Stream) (pick : Nodes) → HaveLengths (longer_entries l o pick) f
have_lengthened l f have None pick e none = have e none
have_lengthened l f have (Some x) pick zero none = have zero refl
have_lengthened l f have (Some x) pick (suc n) none = have (suc n) (get_push_none l (new_entry pick x.fence) n none)

-- ---- another length of one extent

-- a key that is another number compares as another
pub other_key : (e q : ℕ) → q ≢ e → is_eq (nat_cmp e q) ≡ false
other_key e q apart = is_eq_index (nat_cmp e q) ∙ grind (arith, nat_tests)

module _ (f g : ℕ → Option ℕ) where
  same_from : (n : ℕ) (l : List ExtentEntry) → ((q : ℕ) → n ≤ q → g q ≡ f q) → extents_from n l g ≡ extents_from n l f
  same_from n [] same = refl
  same_from n (y ∷ l) same =
      ap (λ (w : Option ℕ). with_length y w ∷ extents_from (suc n) l g) (same n (omega arith))
      ∙ ap (λ (xs : List Extent). with_length y (f n) ∷ xs) (same_from (suc n) l (λ q le. same q (omega (arith, le))))

  length_set : (n : ℕ) (l : List ExtentEntry) (k : ℕ) (x : Extent) → ((q : ℕ) → q ≢ n + k → g q ≡ f q) → slice_get (extents_from n l f) k ≡ Some x →
      extents_from n l g ≡ slice_set (extents_from n l f) k (record x { sealed = g (n + k) })
  length_set n [] k x others is = refl
  length_set n (y ∷ l) zero x others is =
      let same : with_length y (f n) ≡ x = cc in
      let here : n ≡ n + 0 = omega arith in
      ap (λ (xs : List Extent). with_length y (g n) ∷ xs) (same_from (suc n) l (λ q le. others q (λ e. omega (arith, le, e))))
      ∙ ap (λ (q : ℕ). with_length y (g q) ∷ extents_from (suc n) l f) here
      ∙ ap (λ (z : Extent). record z { sealed = g (n + 0) } ∷ extents_from (suc n) l f) same
  length_set n (y ∷ l) (suc k) x others is =
      let next : suc n + k ≡ n + suc k = omega arith in
      ap (λ (w : Option ℕ). with_length y w ∷ extents_from (suc n) l g) (others n (λ e. omega (arith, e)))
      ∙ ap (λ (xs : List Extent). with_length y (f n) ∷ xs)
      (length_set (suc n) l k x (λ q apart. others q (λ e. apart (e ∙ sym next))) is
      ∙ ap (λ (q : ℕ). slice_set (extents_from (suc n) l f) k (record x { sealed = g q })) next)

  -- what holds at a number and at all others holds at each
  by_number : (e : ℕ) (P : ℕ → Type 0) → P e → ((q : ℕ) → q ≢ e → P q) → (q : ℕ) → P q
  by_number e P here apart q = by_test (q == e) refl
    where
      by_test : (b : Bool) → (q == e) ≡ b → P q
      by_test true is = subst P (sym (eqb-true q e is)) here
      by_test false is = apart q (eqb-false q e is)

  -- where there is the extent, it has the new length
  pub relengthened : (nodes target : ℕ) (streams : Streams) (l : List ExtentEntry) (e : ℕ) → ((q : ℕ) → q ≢ e → g q ≡ f q) → (entry_at l e ≡ None → g e ≡ f e) →
      table_with nodes target streams (extents_from 1 l g) ≡ lengthened_if (table_with nodes target streams (extents_from 1 l f)) e (entry_at (extents_from 1 l f) e) (g e)
  relengthened nodes target streams l zero others absent =
      ap (table_with nodes target streams) (same_from 1 l (λ q le. by_number zero (λ q. g q ≡ f q) (absent refl) others q))
  relengthened nodes target streams l (suc k) others absent = by_entry (slice_get l k) refl
    where
      by_entry : (o : Option ExtentEntry) → slice_get l k ≡ o →
          table_with nodes target streams (extents_from 1 l g) ≡ lengthened_if (table_with nodes target streams (extents_from 1 l f)) (suc k) (slice_get (extents_from 1 l f) k) (g (suc k))
      by_entry None is =
          let none : slice_get (extents_from 1 l f) k ≡ None = entry_from f l (suc k) ∙ ap (option_map (λ y. with_length y (f (suc k)))) is in
          ap (table_with nodes target streams) (same_from 1 l (λ q le. by_number (suc k) (λ q. g q ≡ f q) (absent is) others q))
          ∙ ap (λ (o : Option Extent). lengthened_if (table_with nodes target streams (extents_from 1 l f)) (suc k) o (g (suc k))) (sym none)
      by_entry (Some y) is =
          let x = with_length y (f (suc k)) in
          let some : slice_get (extents_from 1 l f) k ≡ Some x = entry_from f l (suc k) ∙ ap (option_map (λ y. with_length y (f (suc k)))) is in
          let next : 1 + k ≡ suc k = omega arith in
          ap (table_with nodes target streams) (length_set 1 l k x (λ q apart. others q (λ e. apart (e ∙ sym next))) some
          ∙ ap (λ (q : ℕ). slice_set (extents_from 1 l f) k (record x { sealed = g q })) next)
          ∙ ap (λ (o : Option Extent). lengthened_if (table_with nodes target streams (extents_from 1 l f)) (suc k) o (g (suc k))) (sym some)

  -- where the extent is there, or its length goes, only extents that there are have a length
  pub have_changed : (l : List ExtentEntry) (e : ℕ) → ((q : ℕ) → q ≢ e → g q ≡ f q) → HaveLengths l f → (entry_at l e ≡ None → g e ≡ None) → HaveLengths l g
  have_changed l e others have absent = by_number e (λ q. entry_at l q ≡ None → g q ≡ None) absent (λ q apart none. others q apart ∙ have q none)
