-- An index of observations: one more, and what is found through it.
use Rattle.std.proofs.Common.{◌≡◌, ◌+◌, ℕ, suc, true, false, List, [], ◌∷◌, ◌++◌, length, Option, Some, None, refl, sym, ap, ◌∙◌, slice_get, arith, append_assoc, append-nil, zero-add}
use Rattle.wire.specs.declared.note.Note.{Note}
use Rattle.wire.specs.declared.note.Note.TheVariants as notes
use Rattle.memtable.specs.declared.cell.Place.{Place}
use Rattle.model_partition.specs.Servers.{shown_in, first_shown, or_later}
use Rattle.world_servers.specs.Seen.{is_of, is_number, place_if, places_from, places_in, Index, IsIndex, shown_if, first_at}

-- ---- one observation more

-- its place comes after those of the others
pub places_push : (e at : ℕ) (ns : List Note) (n : Note) → places_from e at (ns ++ n ∷ []) ≡ places_from e at ns ++ place_if (is_of e n) (at + length ns)
places_push e at [] n = append-nil (place_if (is_of e n) at) ∙ ap (place_if (is_of e n)) (omega arith)
places_push e at (m ∷ ns) n =
    ap (λ l. place_if (is_of e m) at ++ l) (places_push e (suc at) ns n)
    ∙ sym (append_assoc (place_if (is_of e m) at) (places_from e (suc at) ns) (place_if (is_of e n) (suc at + length ns)))
    ∙ ap (λ k. (place_if (is_of e m) at ++ places_from e (suc at) ns) ++ place_if (is_of e n) k) (omega arith)

length_push : (ns : List Note) (n : Note) → length (ns ++ n ∷ []) ≡ length ns + 1
length_push [] n = refl
length_push (m ∷ ns) n = ap suc (length_push ns n) ∙ omega arith

one_more : (ns : List Note) (n : Note) (x y : Index) → IsIndex ns x → y.count ≡ x.count + 1 →
    ((e : ℕ) → places_in y.places e ≡ places_in x.places e ++ place_if (is_of e n) x.count) → IsIndex (ns ++ n ∷ []) y
one_more ns n x y is count each = record {
  count = count ∙ ap (λ k. k + 1) is.count ∙ sym (length_push ns n);
  each = λ e. each e ∙ (λ i. is.each e i ++ place_if (is_of e n) (is.count i)) ∙ sym (places_push e 0 ns n ∙ ap (λ k. places_from e 0 ns ++ place_if (is_of e n) k) (zero-add (length ns)));
}

-- no place more
pub none_more : (entries : List (ℕ × List ℕ)) (e at : ℕ) → places_in entries e ≡ places_in entries e ++ place_if (is_number e None) at
none_more entries e at = sym (append-nil (places_in entries e))

-- in the words of the answers
pub added : (n : Note) (extent : Option ℕ) (x : Index) (after : List (ℕ × List ℕ)) → ((e : ℕ) → is_of e n ≡ is_number e extent) →
    ((e : ℕ) → places_in after e ≡ places_in x.places e ++ place_if (is_number e extent) x.count) →
    (ns : List Note) → IsIndex ns x → IsIndex (ns ++ n ∷ []) (record { count = x.count + 1; places = after })
added n extent x after of put ns is = one_more ns n x (record { count = x.count + 1; places = after }) is refl
    (λ e. put e ∙ ap (λ b. places_in x.places e ++ place_if b x.count) (sym (of e)))

-- ---- what is found

-- an observation of another extent shows nothing of a place
other_shows : (n : Note) (place : Place) → is_of place.extent n ≡ false → shown_in n place ≡ None
other_shows (notes.Acked e offset group) place is = rw is refl
other_shows (notes.Content e node groups) place is = rw is refl
other_shows (notes.Seen e node offset bytes) place is = rw is refl
other_shows (notes.SealedAt e size) place is = refl
other_shows (notes.Began range generation number changes) place is = refl
other_shows (notes.Done range generation number) place is = refl
other_shows (notes.Loaded range generation rows next) place is = refl
other_shows (notes.Got range generation key value) place is = refl
other_shows (notes.Split range low high key) place is = refl
other_shows (notes.Merged left right range) place is = refl

here : (before ns : List Note) (n : Note) → slice_get (before ++ n ∷ ns) (length before) ≡ Some n
here [] ns n = refl
here (m ∷ before) ns n = here before ns n

found_in : (before ns : List Note) (place : Place) → first_at (before ++ ns) (places_from place.extent (length before) ns) place ≡ first_shown ns place
found_in before [] place = refl
found_in before (n ∷ ns) place =
    let rest : first_at (before ++ n ∷ ns) (places_from place.extent (suc (length before)) ns) place ≡ first_shown ns place =
    (λ i. first_at (joined i) (places_from place.extent (sized i) ns) place) ∙ found_in (before ++ n ∷ []) ns place in
    elim (is_of place.extent n) as (λ b. is_of place.extent n ≡ b → first_at (before ++ n ∷ ns) (place_if b (length before) ++ places_from place.extent (suc (length before)) ns) place ≡ or_later (shown_in n place) (first_shown ns place)) [
      | true ↦ λ is. (λ i. or_later (shown_if (here before ns n i) place) (rest i))
      | false ↦ λ is. rest ∙ ap (λ (o : Option (List ℕ)). or_later o (first_shown ns place)) (sym (other_shows n place is))
    ] refl
  where
    joined : before ++ n ∷ ns ≡ (before ++ n ∷ []) ++ ns
    joined = sym (append_assoc before (n ∷ []) ns)

    sized : suc (length before) ≡ length (before ++ n ∷ [])
    sized = omega arith ∙ sym (length_push before n)

-- the first that the index has shows what the first of all does
pub found : (ns : List Note) (x : Index) (place : Place) → IsIndex ns x → first_shown ns place ≡ first_at ns (places_in x.places place.extent) place
found ns x place is = sym (found_in [] ns place) ∙ ap (λ l. first_at ns l place) (sym (is.each place.extent))
