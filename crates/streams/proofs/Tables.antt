-- What a change at one place makes of the streams.
use Rattle.std.proofs.Common.{◌≡◌, ◌≢◌, ℕ, zero, suc, ◌<◌, ◌≤◌, Bool, true, false, ◌&&◌, ◌==◌, List, [], ◌∷◌, length, get_or, set, Some, None, Option, option_map, if◌then◌else◌, refl, sym, ap, ◌∙◌, subst, arith}
use Rattle.std.proofs.Math.Path.{fun_ext}
use Rattle.std.specs.List.{insert}
use Rattle.std.proofs.lemmas.Bool.{eqb-true, and_parts}
use Rattle.std.proofs.lemmas.Bool.Decides.{nat_tests}
use Rattle.wire.specs.declared.streams.StreamKind.{StreamKind}
use Rattle.wire.specs.declared.streams.StreamKind.TheVariants.{Metadata, Log, RowData, BlobData}
use Rattle.wire.specs.declared.streams.StreamName.{StreamName}
use Rattle.streams.specs.Streams.{Stream, Streams, kind_number, stream_of, with_stream, is_there, longer, extended, extended_if, fenced_at, opened}
use Rattle.streams.specs.Table.{Entry, has_name, found, streams_in, room_of, HasRoomIn, fenced, fenced_if, key_of, key_at, IsStrictlySorted, IsAt, IsGapFor}
use Rattle.streams.proofs.Lists.{first_with, first_absent, first_present, first_set, first_insert}
use Rattle.streams.proofs.Names.{none_named, has_own, other_key, same_name, kind_small, sorted_set, sorted_insert}

found_first : (l : List Entry) (range kind : ℕ) → found l range kind ≡ first_with (has_name range kind) l
found_first [] range kind = refl
found_first (x ∷ l) range kind = ap (λ (o : Option Entry). if has_name range kind x then Some x else o) (found_first l range kind)

by_name : (b : Bool) (y : Entry) (o : Option Entry) → option_map (λ (z : Entry). z.stream) (if b then Some y else o) ≡ (if b then Some y.stream else option_map (λ (z : Entry). z.stream) o)
by_name true y o = refl
by_name false y o = refl

-- one entry more, or in place of one of its name
spread : (new l : List Entry) (s : StreamName) (y : Entry) → y.name ≡ s → ((range kind : ℕ) → found new range kind ≡ (if has_name range kind y then Some y else found l range kind)) →
    streams_in new ≡ with_stream (streams_in l) s y.stream
spread new l s y is change = fun_ext (λ range. fun_ext (λ kind.
    ap (λ (o : Option Entry). option_map (λ (z : Entry). z.stream) o) (change range kind)
    ∙ by_name (has_name range kind y) y (found l range kind)
    ∙ ap (λ (u : StreamName). if (range == u.range) && (kind == kind_number u.kind) then Some y.stream else streams_in l range kind) is))

-- the stream that is there
pub with_same : (streams : Streams) (s : StreamName) (x : Stream) → stream_of streams s ≡ Some x → with_stream streams s x ≡ streams
with_same streams s x is = fun_ext (λ range. fun_ext (λ kind. by_test range kind ((range == s.range) && (kind == kind_number s.kind)) refl))
  where
    by_test : (range kind : ℕ) (b : Bool) → ((range == s.range) && (kind == kind_number s.kind)) ≡ b → (if b then Some x else streams range kind) ≡ streams range kind
    by_test range kind true test =
        let parts = and_parts (range == s.range) _ test in
        sym (ap (λ (r : ℕ). streams r kind) (eqb-true range s.range parts.0) ∙ ap (λ (k : ℕ). streams s.range k) (eqb-true kind (kind_number s.kind) parts.1) ∙ is)
    by_test range kind false test = refl

-- the entry at a place of a list
module _ (l : List Entry) (sorted : IsStrictlySorted l) (s : StreamName) (at : ℕ) (is_at : IsAt l (key_of s) at) where
  pub named_at : (d : Entry) → (get_or l at d).name ≡ s
  named_at d = same_name (get_or l at d).name s (is_at.has_key d)

  pub found_at : (d : Entry) → found l s.range (kind_number s.kind) ≡ Some (get_or l at d)
  found_at d =
      found_first l s.range (kind_number s.kind)
      ∙ first_present (has_name s.range (kind_number s.kind)) l at d is_at.in_range (has_own s (get_or l at d) (named_at d))
      (λ j e lt within. none_named s.range (kind_number s.kind) (get_or l j e) (get_or l at e) (has_own s (get_or l at e) (named_at e))
      (λ same. omega (arith, same, sorted j at e lt is_at.in_range)))

  pub found_set : (y : Entry) → y.name ≡ s → (d : Entry) (range kind : ℕ) → found (set l at y) range kind ≡ (if has_name range kind y then Some y else found l range kind)
  found_set y is d range kind =
      found_first (set l at y) range kind
      ∙ first_set (has_name range kind) l at y d is_at.in_range (ap (λ (u : StreamName). (range == u.range) && (kind == kind_number u.kind)) (named_at d ∙ sym is))
      (λ yes j e lt within. none_named range kind (get_or l j e) y yes (λ same. omega (arith, same, ap key_of is, is_at.has_key e, sorted j at e lt is_at.in_range)))
      ∙ ap (λ (o : Option Entry). if has_name range kind y then Some y else o) (sym (found_first l range kind))

  pub streams_set : (y : Entry) → y.name ≡ s → Entry → streams_in (set l at y) ≡ with_stream (streams_in l) s y.stream
  streams_set y is d = spread (set l at y) l s y is (found_set y is d)

  pub sorted_at : (y : Entry) → y.name ≡ s → IsStrictlySorted (set l at y)
  sorted_at y is = sorted_set l sorted at y (subst (λ (u : StreamName). IsAt l (key_of u) at) (sym is) is_at)

  module _ (x : Entry) (here : x ≡ get_or l at x) where
    pub stream_at : stream_of (streams_in l) s ≡ Some x.stream
    stream_at = ap (λ (o : Option Entry). option_map (λ (z : Entry). z.stream) o) (found_at x) ∙ ap (λ (z : Entry). Some z.stream) (sym here)

    pub name_at : x.name ≡ s
    name_at = ap (λ (z : Entry). z.name) here ∙ named_at x

    pub room_at : HasRoomIn l s → 0 < x.room
    room_at room =
        let some = room (ap is_there stream_at) in
        subst (λ (z : Entry). 0 < z.room) (sym here) (subst (λ (o : Option Entry). 0 < room_of o) (found_at x) some)

    pub room_set : (y : Entry) → y.name ≡ s → 0 < y.room → HasRoomIn (set l at y) s
    room_set y is room = λ there.
        subst (λ (o : Option Entry). 0 < room_of o) (sym (found_set y is x s.range (kind_number s.kind) ∙ ap (λ (b : Bool). if b then Some y else found l s.range (kind_number s.kind)) (has_own s y is))) room

    -- the same stream again
    pub same_set : (y : Entry) → y.name ≡ s → y.stream ≡ x.stream → streams_in (set l at y) ≡ streams_in l
    same_set y is same =
        streams_set y is x ∙ ap (λ (z : Stream). with_stream (streams_in l) s z) same ∙ with_same (streams_in l) s x.stream stream_at

    pub fenced_set : (y : Entry) (g : ℕ) → y.name ≡ s → y.stream ≡ record x.stream { fence = g } → streams_in (set l at y) ≡ fenced (streams_in l) s g
    fenced_set y g is same =
        streams_set y is x ∙ ap (λ (z : Stream). with_stream (streams_in l) s z) same
        ∙ ap (λ (o : Option Stream). fenced_if (streams_in l) s g o) (sym stream_at)

    pub extended_set : (y : Entry) (e : ℕ) → y.name ≡ s → y.stream ≡ longer e x.stream → streams_in (set l at y) ≡ extended (streams_in l) s e
    extended_set y e is same =
        streams_set y is x ∙ ap (λ (z : Stream). with_stream (streams_in l) s z) same
        ∙ ap (λ (o : Option Stream). extended_if (streams_in l) s e o) (sym stream_at)

-- a gap in a list
module _ (l : List Entry) (s : StreamName) (at : ℕ) (gap : IsGapFor l (key_of s) at) where
  pub found_gap : found l s.range (kind_number s.kind) ≡ None
  found_gap =
      found_first l s.range (kind_number s.kind)
      ∙ first_absent (has_name s.range (kind_number s.kind)) l (λ j d lt within. other_key s.range (kind_number s.kind) (get_or l j d) (apart j d within) _ refl)
    where
      apart : (j : ℕ) (d : Entry) → j < length l → key_at l j d ≢ key_of s
      apart j d within same = grind (arith, gap.smaller_before j d, gap.greater_after j d)

  pub stream_gap : stream_of (streams_in l) s ≡ None
  stream_gap = ap (λ (o : Option Entry). option_map (λ (z : Entry). z.stream) o) found_gap

  pub fenced_gap : (g : ℕ) → streams_in l ≡ fenced (streams_in l) s g
  fenced_gap g = ap (λ (o : Option Stream). fenced_if (streams_in l) s g o) (sym stream_gap)

  pub extended_gap : (e : ℕ) → streams_in l ≡ extended (streams_in l) s e
  extended_gap e = ap (λ (o : Option Stream). extended_if (streams_in l) s e o) (sym stream_gap)

  pub room_gap : HasRoomIn l s
  room_gap there = absurd (let no = sym (ap is_there stream_gap) ∙ there in cc)

  pub streams_insert : (y : Entry) → y.name ≡ s → streams_in (insert l at y) ≡ with_stream (streams_in l) s y.stream
  streams_insert y is = spread (insert l at y) l s y is (λ range kind.
      found_first (insert l at y) range kind
      ∙ first_insert (has_name range kind) l at y (λ yes j e lt within. none_named range kind (get_or l j e) y yes (λ same. omega (arith, same, ap key_of is, gap.smaller_before j e lt)))
      ∙ ap (λ (o : Option Entry). if has_name range kind y then Some y else o) (sym (found_first l range kind)))

  pub sorted_gap : IsStrictlySorted l → (y : Entry) → y.name ≡ s → IsStrictlySorted (insert l at y)
  sorted_gap sorted y is = sorted_insert l sorted at y (subst (λ (u : StreamName). IsGapFor l (key_of u) at) (sym is) gap)

-- ---- the four streams of a range

fenced_point : (streams : Streams) (s : StreamName) (g range kind : ℕ) →
    fenced streams s g range kind ≡ (if (range == s.range) && (kind == kind_number s.kind) then fenced_at g (streams range kind) else streams range kind)
fenced_point streams s g range kind = by_stream (stream_of streams s) refl
  where
    here : (b : Bool) → ((range == s.range) && (kind == kind_number s.kind)) ≡ b → b ≡ true → streams range kind ≡ stream_of streams s
    here b is met =
        let parts = and_parts (range == s.range) _ (is ∙ met) in
        ap (λ (r : ℕ). streams r kind) (eqb-true range s.range parts.0) ∙ ap (λ (k : ℕ). streams s.range k) (eqb-true kind (kind_number s.kind) parts.1)

    by_test : (x : Stream) → stream_of streams s ≡ Some x → (b : Bool) → (b ≡ true → streams range kind ≡ stream_of streams s) →
        (if b then Some (record x { fence = g }) else streams range kind) ≡ (if b then fenced_at g (streams range kind) else streams range kind)
    by_test x is true same = ap (fenced_at g) (sym (same refl ∙ is))
    by_test x is false same = refl

    none_test : stream_of streams s ≡ None → (b : Bool) → (b ≡ true → streams range kind ≡ stream_of streams s) →
        streams range kind ≡ (if b then fenced_at g (streams range kind) else streams range kind)
    none_test is true same = same refl ∙ is ∙ ap (fenced_at g) (sym (same refl ∙ is))
    none_test is false same = refl

    by_stream : (o : Option Stream) → stream_of streams s ≡ o →
        fenced_if streams s g o range kind ≡ (if (range == s.range) && (kind == kind_number s.kind) then fenced_at g (streams range kind) else streams range kind)
    by_stream None is = none_test is ((range == s.range) && (kind == kind_number s.kind)) (here _ refl)
    by_stream (Some x) is = by_test x is ((range == s.range) && (kind == kind_number s.kind)) (here _ refl)

-- no name has another kind than the four
kind_none : (l : List Entry) (range kind : ℕ) → 3 < kind → found l range kind ≡ None
kind_none [] range kind above = refl
kind_none (x ∷ l) range kind above = by_test (has_name range kind x) refl (kind_none l range kind above)
  where
    by_test : (b : Bool) → has_name range kind x ≡ b → found l range kind ≡ None → (if b then Some x else found l range kind) ≡ None
    by_test true is none = absurd (omega (arith, eqb-true kind (kind_number x.name.kind) (and_parts (range == x.name.range) _ is).1, kind_small x.name.kind))
    by_test false is none = none

abbrev pub name_in : ℕ → StreamKind → StreamName
name_in range kind = record { range = range; kind = kind }

abbrev changed_if : ℕ → Bool → Option Stream → Option Stream
changed_if g b o = if b then fenced_at g o else o

-- a stream of a range, after each of the four
abbrev four_times : ℕ → Bool → ℕ → Option Stream → Option Stream
four_times g b k o = changed_if g (b && (k == 3)) (changed_if g (b && (k == 2)) (changed_if g (b && (k == 1)) (changed_if g (b && (k == 0)) o)))

pub apart : (k n : ℕ) → n ≤ 3 → (suc (suc (suc (suc k))) == n) ≡ false
apart k n small = grind (arith, nat_tests)

four_once : (g : ℕ) (b : Bool) (k : ℕ) (o : Option Stream) → (3 < k → o ≡ None) → four_times g b k o ≡ changed_if g b o
four_once g false k o none = refl
four_once g true zero o none = refl
four_once g true (suc zero) o none = refl
four_once g true (suc (suc zero)) o none = refl
four_once g true (suc (suc (suc zero))) o none = refl
four_once g true (suc (suc (suc (suc k)))) o none =
    let is = none (omega arith) in
    rw (apart k 0 (omega arith), apart k 1 (omega arith), apart k 2 (omega arith), apart k 3 (omega arith)) (is ∙ ap (fenced_at g) (sym is))

pub raised : (l : List Entry) (range g : ℕ) →
    fenced (fenced (fenced (fenced (streams_in l) (name_in range Metadata) g) (name_in range Log) g) (name_in range RowData) g) (name_in range BlobData) g
    ≡ opened (streams_in l) range g
raised l range g = fun_ext (λ r. fun_ext (λ k. at (streams_in l) (λ above. ap (λ (o : Option Entry). option_map (λ (z : Entry). z.stream) o) (kind_none l r k above))))
  where
    at : {r k : ℕ} (s : Streams) → (3 < k → s r k ≡ None) →
        fenced (fenced (fenced (fenced s (name_in range Metadata) g) (name_in range Log) g) (name_in range RowData) g) (name_in range BlobData) g r k ≡ opened s range g r k
    at {r} {k} s none =
        let s1 = fenced s (name_in range Metadata) g in
        let s2 = fenced s1 (name_in range Log) g in
        let s3 = fenced s2 (name_in range RowData) g in
        fenced_point s3 (name_in range BlobData) g r k
        ∙ ap (changed_if g ((r == range) && (k == 3))) (fenced_point s2 (name_in range RowData) g r k
        ∙ ap (changed_if g ((r == range) && (k == 2))) (fenced_point s1 (name_in range Log) g r k
        ∙ ap (changed_if g ((r == range) && (k == 1))) (fenced_point s (name_in range Metadata) g r k)))
        ∙ four_once g (r == range) k (s r k) none
