-- The table and the model's catalog say the same, before and after a change.
use Rattle.std.proofs.Common.{◌≡◌, ◌≢◌, ℕ, zero, suc, nat_le, Bool, true, false, ◌&&◌, if◌then◌else◌, arith, ◌==◌, List, [], ◌∷◌, ◌++◌, length, Option, Some, None, slice_get, slice_set, refl, sym, ap, ◌∙◌}
use Rattle.std.proofs.Math.Path.{fun_ext}
use Rattle.std.proofs.lemmas.Bool.Decides.{nat_tests}
use Rattle.block_types.specs.declared.record.Nodes.{Nodes}
use Rattle.wire.specs.declared.streams.StreamKind.{StreamKind}
use Rattle.wire.specs.declared.streams.StreamKind.TheVariants.{Metadata, Log, RowData, BlobData}
use Rattle.wire.specs.declared.streams.StreamName.{StreamName}
use Rattle.streams.specs.Streams.{Stream, Streams, stream_of, empty_stream, created}
use Rattle.streams.specs.Table.{no_streams}
use Rattle.streams.proofs.Tables.{apart}
use Rattle.model_streams.specs.declared.extent.Extent.{Extent}
use Rattle.model_streams.specs.Maps.{entry_at}
use Rattle.model_streams.specs.Manager.{Catalog, first_streams, new_extent, with_extent, extended}
use Rattle.model_streams.proofs.Tests.{changed_elim}
use Rattle.manager_state.specs.Table.{ManagerTableState, SameCatalog, with_entry, longer, longer_extents}

-- ---- entries by number

pub entry_last : {A : Type 0} (xs : List A) (y : A) → entry_at (xs ++ y ∷ []) (suc (length xs)) ≡ Some y
entry_last [] y = refl
entry_last (x ∷ xs) y = entry_last xs y

pub entry_before : {A : Type 0} (xs : List A) (y : A) (n : ℕ) → n ≢ suc (length xs) → entry_at (xs ++ y ∷ []) n ≡ entry_at xs n
entry_before xs y zero a = refl
entry_before [] y (suc zero) a = absurd (a refl)
entry_before [] y (suc (suc n)) a = refl
entry_before (x ∷ xs) y (suc zero) a = refl
entry_before (x ∷ xs) y (suc (suc n)) a = entry_before xs y (suc n) (λ e. a (ap suc e))

pub set_here : {A : Type 0} (xs : List A) (n : ℕ) (x y : A) → slice_get xs n ≡ Some y → slice_get (slice_set xs n x) n ≡ Some x
set_here [] n x y e = absurd cc
set_here (z ∷ xs) zero x y e = refl
set_here (z ∷ xs) (suc n) x y e = set_here xs n x y e

set_elsewhere : {A : Type 0} (xs : List A) (n m : ℕ) (x : A) → m ≢ n → slice_get (slice_set xs n x) m ≡ slice_get xs m
set_elsewhere [] n m x a = refl
set_elsewhere (z ∷ xs) zero zero x a = absurd (a refl)
set_elsewhere (z ∷ xs) zero (suc m) x a = refl
set_elsewhere (z ∷ xs) (suc n) zero x a = refl
set_elsewhere (z ∷ xs) (suc n) (suc m) x a = set_elsewhere xs n m x (λ e. a (ap suc e))

length-set : {A : Type 0} (xs : List A) (n : ℕ) (x : A) → length (slice_set xs n x) ≡ length xs
length-set [] n x = refl
length-set (z ∷ xs) zero x = refl
length-set (z ∷ xs) (suc n) x = ap suc (length-set xs n x)

push_len : {A : Type 0} (xs : List A) (y : A) → length (xs ++ y ∷ []) ≡ suc (length xs)
push_len [] y = refl
push_len (x ∷ xs) y = ap suc (push_len xs y)

-- ---- the catalog of a table

abbrev pub catalog_of : ManagerTableState → Catalog
catalog_of t = record { nodes = t.nodes; target = t.target; count = length t.extents; stream = t.streams; extent = λ e. entry_at t.extents e }

pub catalog_shows : (t : ManagerTableState) → SameCatalog t (catalog_of t)
catalog_shows t = record { nodes = refl; target = refl; count = refl; stream = λ range kind. refl; extent = λ e. refl }

-- a catalog that says what a table says is the table's
pub is_catalog : (t : ManagerTableState) (b : Catalog) → SameCatalog t b → catalog_of t ≡ b
is_catalog t b h = sym (
    ap (λ (n : ℕ). record b { nodes = n }) h.nodes
    ∙ ap (λ (n : ℕ). record b { nodes = t.nodes; target = n }) h.target
    ∙ ap (λ (n : ℕ). record b { nodes = t.nodes; target = t.target; count = n }) h.count
    ∙ ap (λ (s : Streams). record b { nodes = t.nodes; target = t.target; count = length t.extents; stream = s }) (fun_ext (λ range. fun_ext (λ kind. h.stream range kind)))
    ∙ ap (λ (f : ℕ → Option Extent). record b { nodes = t.nodes; target = t.target; count = length t.extents; stream = t.streams; extent = f }) (fun_ext h.extent))

-- ---- one more extent

-- what a table with one more extent shows, where its streams are these
pub lengthened_shows : (t : ManagerTableState) (s : StreamName) (x : Stream) (pick : Nodes) → stream_of t.streams s ≡ Some x →
    SameCatalog (longer t s pick) (extended (catalog_of t) s x.fence pick)
lengthened_shows t s x pick is = record {
  nodes = refl;
  target = refl;
  count = sym (ap length (ap (λ (o : Option Stream). longer_extents t.extents o pick) is) ∙ push_len t.extents (new_extent pick x.fence));
  stream = λ range kind. refl;
  extent = λ e.
      changed_elim (λ (y : Option Extent). y ≡ entry_at (t.extents ++ new_extent pick x.fence ∷ []) e) (suc (length t.extents)) (Some (new_extent pick x.fence)) (entry_at t.extents) e
      (λ here. sym (ap (λ (k : ℕ). entry_at (t.extents ++ new_extent pick x.fence ∷ []) k) here ∙ entry_last t.extents (new_extent pick x.fence)))
      (λ apart. sym (entry_before t.extents (new_extent pick x.fence) e apart))
      ∙ ap (λ (o : Option Stream). entry_at (longer_extents t.extents o pick) e) (sym is);
}

-- ---- another extent of a number

pub replaced_shows : (t : ManagerTableState) (b : Catalog) → SameCatalog t b → (e : ℕ) (x y : Extent) → entry_at t.extents e ≡ Some y → SameCatalog (with_entry t e x) (with_extent b e x)
replaced_shows t b h zero x y is = absurd cc
replaced_shows t b h (suc n) x y is = record {
  nodes = h.nodes;
  target = h.target;
  count = h.count ∙ sym (length-set t.extents n x);
  stream = h.stream;
  extent = λ f. changed_elim (λ (z : Option Extent). z ≡ entry_at (slice_set t.extents n x) f) (suc n) (Some x) b.extent f
      (λ same. sym (ap (λ (k : ℕ). entry_at (slice_set t.extents n x) k) same ∙ set_here t.extents n x y is))
      (λ apart. h.extent f ∙ sym (elsewhere f apart));
}
  where
    elsewhere : (f : ℕ) → f ≢ suc n → entry_at (slice_set t.extents n x) f ≡ entry_at t.extents f
    elsewhere zero a = refl
    elsewhere (suc m) a = set_elsewhere t.extents n m x (λ e. a (ap suc e))

-- ---- the first streams

abbrev pub name_in : ℕ → StreamKind → StreamName
name_in range kind = record { range = range; kind = kind }

abbrev four_of : Bool → ℕ → Option Stream
four_of b k =
    if b && (k == 3) then Some (empty_stream 0)
    else if b && (k == 2) then Some (empty_stream 0)
    else if b && (k == 1) then Some (empty_stream 0)
    else if b && (k == 0) then Some (empty_stream 0)
    else None

above : (k : ℕ) → nat_le (suc (suc (suc (suc k)))) 3 ≡ false
above k = grind (arith, nat_tests)

four_are : (b : Bool) (k : ℕ) → four_of b k ≡ (if b && nat_le k 3 then Some (empty_stream 0) else None)
four_are false k = refl
four_are true zero = refl
four_are true (suc zero) = refl
four_are true (suc (suc zero)) = refl
four_are true (suc (suc (suc zero))) = refl
four_are true (suc (suc (suc (suc k)))) = rw (apart k 0 (omega arith), apart k 1 (omega arith), apart k 2 (omega arith), apart k 3 (omega arith), above k) refl

pub first_four :
    created (created (created (created no_streams (name_in 1 Metadata) 0) (name_in 1 Log) 0) (name_in 1 RowData) 0) (name_in 1 BlobData) 0 ≡ first_streams
first_four = fun_ext (λ range. fun_ext (λ kind. four_are (range == 1) kind))
