-- What extents that leave the log of a range make of the streams.
use Rattle.std.proofs.Common.{◌≡◌, ◌≢◌, ℕ, ◌<◌, ◌≤◌, Bool, true, false, ◌&&◌, ◌==◌, List, ◌++◌, length, take, drop, get_or, set, Some, None, Option, option_map, if◌then◌else◌, refl, sym, ap, ◌∙◌, subst, arith, append-nil, add-zero}
use Rattle.std.proofs.Math.Path.{fun_ext}
use Rattle.std.proofs.Math.Seq.{take-length, drop-length, drop-cons}
use Rattle.std.proofs.lemmas.List.{set_split, length-set, get_or-take, get_or-drop, get_or_default, get_or-set_other}
use Rattle.std.proofs.lemmas.Bool.{eqb-true, and_parts}
use Rattle.wire.specs.declared.streams.StreamKind.TheVariants.{Log, BlobData}
use Rattle.wire.specs.declared.streams.StreamName.{StreamName}
use Rattle.streams.specs.Streams.{Stream, Streams, kind_number, stream_of, with_stream, is_there, shorter, leaving, with_extents, empty_stream, log_name, blob_data_name, trimmed, trimmed_if}
use Rattle.streams.specs.Table.{Entry, found, streams_in, room_of, room_needed, HasRoomToTrimIn, IsKept, key_of, key_at, IsStrictlySorted, IsAt, IsGapFor}
use Rattle.streams.proofs.Names.{has_own}
use Rattle.streams.proofs.Tables.{found_set, same_set, stream_gap, found_at, streams_set, sorted_at, named_at, with_same}

-- ---- a stream grows by what another loses

set_apart : (l : List Entry) (to : ℕ) (y : Entry) → to < length l → take to l ++ set (drop to l) 0 y ≡ set l to y
set_apart l to y within = ap (λ (xs : List Entry). take to l ++ set xs 0 y) (drop-cons l to y within) ∙ sym (set_split l to y within)

whole_again : (l m : List Entry) (n : ℕ) → n ≡ length l → length m ≡ length l → take n (m ++ drop (length m) l) ≡ m
whole_again l m n is same =
    ap (λ (k : ℕ). take n (m ++ drop k l)) same
    ∙ ap (λ (xs : List Entry). take n (m ++ xs)) (drop-length l)
    ∙ ap (λ (xs : List Entry). take n xs) (append-nil m)
    ∙ ap (λ (k : ℕ). take k m) (is ∙ sym same)
    ∙ take-length m

-- what is written through the two parts of a list is written into the list
pub kept : (l front back : List Entry) (n from to before : ℕ) (es : List ℕ) (log x y : Entry) → front ≡ take to l → back ≡ drop to l → from < to → to < length l → n ≡ length l →
    es ≡ leaving before (get_or front from log).stream → y.name ≡ (get_or back 0 x).name → y.stream ≡ with_extents es (get_or back 0 x).stream →
    IsKept l (take n (front ++ set back 0 y ++ drop (length (front ++ set back 0 y)) l)) from to before
kept l front back n from to before es log x y in_front in_back order within len leave name stream =
    let joined : front ++ set back 0 y ≡ set l to y =
    ap (λ (xs : List Entry). xs ++ set back 0 y) in_front ∙ ap (λ (xs : List Entry). take to l ++ set xs 0 y) in_back ∙ set_apart l to y within in
    let log_at : (d : Entry) → get_or front from log ≡ get_or l from d = λ d.
    ap (λ (xs : List Entry). get_or xs from log) in_front ∙ get_or-take to l from log order ∙ get_or_default l from log d (omega arith) in
    let x_at : (d : Entry) → get_or back 0 x ≡ get_or l to d = λ d.
    ap (λ (xs : List Entry). get_or xs 0 x) in_back ∙ get_or-drop to l 0 x ∙ ap (λ (k : ℕ). get_or l k x) (add-zero to) ∙ get_or_default l to x d within in
    record {
      entry = y;
      changed = whole_again l (front ++ set back 0 y) n len (ap length joined ∙ length-set l to y) ∙ joined;
      name = λ d. name ∙ ap (λ (z : Entry). z.name) (x_at d);
      stream = λ d.
          stream ∙ ap (λ (xs : List ℕ). with_extents xs (get_or back 0 x).stream) (leave ∙ ap (λ (z : Entry). leaving before z.stream) (log_at d))
          ∙ ap (λ (z : Entry). with_extents (leaving before (get_or l from d).stream) z.stream) (x_at d);
    }

-- ---- two streams change

apart : (r k : ℕ) (s u : StreamName) → kind_number s.kind ≢ kind_number u.kind → ((r == s.range) && (k == kind_number s.kind)) ≡ true → ((r == u.range) && (k == kind_number u.kind)) ≡ true → ⊥
apart r k s u other is_s is_u =
    other (sym (eqb-true k (kind_number s.kind) (and_parts (r == s.range) _ is_s).1) ∙ eqb-true k (kind_number u.kind) (and_parts (r == u.range) _ is_u).1)

-- in either order
swapped : (streams : Streams) (s u : StreamName) (x y : Stream) → kind_number s.kind ≢ kind_number u.kind →
    with_stream (with_stream streams s x) u y ≡ with_stream (with_stream streams u y) s x
swapped streams s u x y other = fun_ext (λ r. fun_ext (λ k.
    by_tests ((r == s.range) && (k == kind_number s.kind)) ((r == u.range) && (k == kind_number u.kind)) (streams r k) (apart r k s u other)))
  where
    by_tests : (a b : Bool) (o : Option Stream) → (a ≡ true → b ≡ true → ⊥) →
        (if b then Some y else (if a then Some x else o)) ≡ (if a then Some x else (if b then Some y else o))
    by_tests true true o not_both = absurd (not_both refl refl)
    by_tests true false o not_both = refl
    by_tests false true o not_both = refl
    by_tests false false o not_both = refl

-- ---- the log and the blob stream of a range

kinds_apart : kind_number BlobData ≢ kind_number Log
kinds_apart e = absurd (omega (arith, e))

-- a change of the log leaves the blob stream
past_log : (streams : Streams) (range : ℕ) (x : Stream) → stream_of (with_stream streams (log_name range) x) (blob_data_name range) ≡ streams range 3
past_log streams range x = by_test (range == range) (streams range 3)
  where
    by_test : (b : Bool) (o : Option Stream) → (if b && false then Some x else o) ≡ o
    by_test true o = refl
    by_test false o = refl

abbrev any_entry : ℕ → Entry
any_entry range = record { name = log_name range; stream = empty_stream 0; room = 0 }

-- what a cut makes of a list
pub record IsCut (l new : List Entry) (range before : ℕ) (to_blob : Bool) : Type 0 where
  pub sorted : IsStrictlySorted new
  pub streams : streams_in new ≡ trimmed (streams_in l) range before to_blob

module _ (l : List Entry) (sorted : IsStrictlySorted l) (range before log blob_data : ℕ) (at_log : IsAt l (key_of (log_name range)) log) (at_blob : IsAt l (key_of (blob_data_name range)) blob_data) where
  -- the log stands before the blob stream
  pub in_order : log < blob_data
  in_order =
      let d = any_entry range in
      grind (arith, sorted blob_data log d, at_log.in_range, at_log.has_key d, at_blob.has_key d, λ (same : log ≡ blob_data). ap (λ (i : ℕ). key_at l i d) same)

  the_log : (d : Entry) → streams_in l range 1 ≡ Some (get_or l log d).stream
  the_log d = ap (λ (o : Option Entry). option_map (λ (z : Entry). z.stream) o) (found_at l sorted (log_name range) log at_log d)

  the_blob : (d : Entry) → streams_in l range 3 ≡ Some (get_or l blob_data d).stream
  the_blob d = ap (λ (o : Option Entry). option_map (λ (z : Entry). z.stream) o) (found_at l sorted (blob_data_name range) blob_data at_blob d)

  pub room_there : HasRoomToTrimIn l range before → (d : Entry) → length (leaving before (get_or l log d).stream) ≤ (get_or l blob_data d).room
  room_there room d =
      subst (λ (o : Option Stream). room_needed o before ≤ (get_or l blob_data d).room) (the_log d)
      (subst (λ (o : Option Entry). room_needed (streams_in l range 1) before ≤ room_of o) (found_at l sorted (blob_data_name range) blob_data at_blob d)
      (room (ap is_there (the_blob d))))

  trimmed_there : (to_blob : Bool) (d : Entry) → trimmed (streams_in l) range before to_blob ≡ trimmed_if (streams_in l) range before to_blob (Some (get_or l log d).stream) (Some (get_or l blob_data d).stream)
  trimmed_there to_blob d =
      ap (λ (o : Option Stream). trimmed_if (streams_in l) range before to_blob o (streams_in l range 3)) (the_log d)
      ∙ ap (λ (o : Option Stream). trimmed_if (streams_in l) range before to_blob (Some (get_or l log d).stream) o) (the_blob d)

  cut_here : (x y : Entry) → y.name ≡ (get_or l log x).name → y.stream ≡ shorter before (get_or l log x).stream → IsCut l (set l log y) range before false
  cut_here x y name stream =
      let named : y.name ≡ log_name range = name ∙ named_at l sorted (log_name range) log at_log x in
      let cut = with_stream (streams_in l) (log_name range) (shorter before (get_or l log x).stream) in
      record {
        sorted = sorted_at l sorted (log_name range) log at_log y named;
        streams =
            streams_set l sorted (log_name range) log at_log y named y
            ∙ ap (λ (z : Stream). with_stream (streams_in l) (log_name range) z) stream
            ∙ sym (with_same cut (blob_data_name range) (get_or l blob_data x).stream (past_log (streams_in l) range _ ∙ the_blob x))
            ∙ sym (trimmed_there false x);
      }

  -- the log alone changes
  pub cut_plain : (new : List Entry) → new ≡ l → (x y : Entry) → y.name ≡ (get_or new log x).name → y.stream ≡ shorter before (get_or new log x).stream →
      IsCut l (set new log y) range before false
  cut_plain new same x y name stream =
      subst (λ (xs : List Entry). IsCut l (set xs log y) range before false) (sym same)
      (cut_here x y (name ∙ ap (λ (xs : List Entry). (get_or xs log x).name) same) (stream ∙ ap (λ (xs : List Entry). shorter before (get_or xs log x).stream) same))

  module _ (new : List Entry) (is_kept : IsKept l new log blob_data before) where
    blob_named : is_kept.entry.name ≡ blob_data_name range
    blob_named = is_kept.name (any_entry range) ∙ named_at l sorted (blob_data_name range) blob_data at_blob (any_entry range)

    new_sorted : IsStrictlySorted new
    new_sorted = subst IsStrictlySorted (sym is_kept.changed) (sorted_at l sorted (blob_data_name range) blob_data at_blob is_kept.entry blob_named)

    log_stays : (d : Entry) → get_or new log d ≡ get_or l log d
    log_stays d = ap (λ (xs : List Entry). get_or xs log d) is_kept.changed ∙ get_or-set_other l blob_data log is_kept.entry d (λ same. omega (arith, in_order, same))

    still_at : IsAt new (key_of (log_name range)) log
    still_at = record {
      in_range = omega (arith, at_log.in_range, ap length is_kept.changed ∙ length-set l blob_data is_kept.entry);
      has_key = λ d. ap (λ (z : Entry). key_of z.name) (log_stays d) ∙ at_log.has_key d;
    }

    -- the log changes once the blob stream has
    pub cut_kept : (x y : Entry) → y.name ≡ (get_or new log x).name → y.stream ≡ shorter before (get_or new log x).stream → IsCut l (set new log y) range before true
    cut_kept x y name stream =
        let named : y.name ≡ log_name range = name ∙ named_at new new_sorted (log_name range) log still_at x in
        record {
          sorted = sorted_at new new_sorted (log_name range) log still_at y named;
          streams =
              streams_set new new_sorted (log_name range) log still_at y named y
              ∙ ap (λ (z : Stream). with_stream (streams_in new) (log_name range) z) (stream ∙ ap (λ (z : Entry). shorter before z.stream) (log_stays x))
              ∙ ap (λ (s : Streams). with_stream s (log_name range) (shorter before (get_or l log x).stream))
              (ap streams_in is_kept.changed
              ∙ streams_set l sorted (blob_data_name range) blob_data at_blob is_kept.entry blob_named is_kept.entry
              ∙ ap (λ (z : Stream). with_stream (streams_in l) (blob_data_name range) z) (is_kept.stream x))
              ∙ swapped (streams_in l) (blob_data_name range) (log_name range) _ _ kinds_apart
              ∙ sym (trimmed_there true x);
        }

-- ---- one of the two is not there

pub no_log : (l : List Entry) (range before : ℕ) (to_blob : Bool) (at : ℕ) → IsGapFor l (key_of (log_name range)) at → streams_in l ≡ trimmed (streams_in l) range before to_blob
no_log l range before to_blob at gap =
    ap (λ (o : Option Stream). trimmed_if (streams_in l) range before to_blob o (streams_in l range 3)) (sym (stream_gap l (log_name range) at gap))

without_blob : (streams : Streams) (range before : ℕ) (to_blob : Bool) (o : Option Stream) → streams ≡ trimmed_if streams range before to_blob o None
without_blob streams range before to_blob None = refl
without_blob streams range before to_blob (Some x) = refl

pub no_blob : (l : List Entry) (range before : ℕ) (to_blob : Bool) (at : ℕ) → IsGapFor l (key_of (blob_data_name range)) at → streams_in l ≡ trimmed (streams_in l) range before to_blob
no_blob l range before to_blob at gap =
    without_blob (streams_in l) range before to_blob (streams_in l range 1)
    ∙ ap (λ (o : Option Stream). trimmed_if (streams_in l) range before to_blob (streams_in l range 1) o) (sym (stream_gap l (blob_data_name range) at gap))

pub no_room_needed : (l : List Entry) (range before at : ℕ) → IsGapFor l (key_of (blob_data_name range)) at → HasRoomToTrimIn l range before
no_room_needed l range before at gap there = absurd (let no = sym (ap is_there (stream_gap l (blob_data_name range) at gap)) ∙ there in cc)

-- ---- room

pub needed_none : (l : List Entry) (range before count : ℕ) → found l range 1 ≡ None → room_needed (streams_in l range 1) before ≤ count
needed_none l range before count none =
    subst (λ (o : Option Entry). room_needed (option_map (λ (z : Entry). z.stream) o) before ≤ count) (sym none) (omega arith)

pub needed_some : (l : List Entry) (range before count : ℕ) (x : Entry) → found l range 1 ≡ Some x → length (leaving before x.stream) ≤ count → room_needed (streams_in l range 1) before ≤ count
needed_some l range before count x some within =
    subst (λ (o : Option Entry). room_needed (option_map (λ (z : Entry). z.stream) o) before ≤ count) (sym some) within

pub room_made : (l : List Entry) (sorted : IsStrictlySorted l) (range before at : ℕ) (is_at : IsAt l (key_of (blob_data_name range)) at) (x y : Entry) → x ≡ get_or l at x → y.name ≡ blob_data_name range → y.stream ≡ x.stream →
    (count : ℕ) → room_needed (streams_in l range 1) before ≤ count → count ≤ y.room → HasRoomToTrimIn (set l at y) range before
room_made l sorted range before at is_at x y here named same count needed room = λ there.
    let is : found (set l at y) range 3 ≡ Some y =
    found_set l sorted (blob_data_name range) at is_at y named x range 3 ∙ ap (λ (b : Bool). if b then Some y else found l range 3) (has_own (blob_data_name range) y named) in
    let before_is : streams_in (set l at y) range 1 ≡ streams_in l range 1 =
    ap (λ (s : Streams). s range 1) (same_set l sorted (blob_data_name range) at is_at x here y named same) in
    subst (λ (o : Option Entry). room_needed (streams_in (set l at y) range 1) before ≤ room_of o) (sym is)
    (subst (λ (o : Option Stream). room_needed o before ≤ y.room) (sym before_is) (omega (arith, needed, room)))
