-- Streams that are built one after the other, and what they make of the streams once they stand in a table.
use Rattle.std.proofs.Common.{◌≡◌, ℕ, ◌+◌, ◌<◌, max, Bool, true, false, ◌&&◌, ◌==◌, not, List, [], ◌∷◌, ◌++◌, length, take, drop, get_or, Option, Some, None, option_map, if◌then◌else◌, refl, sym, ap, ◌∙◌, arith, append-nil, append_assoc, drop-cons, add-one}
use Rattle.std.proofs.Math.Path.{fun_ext}
use Rattle.std.proofs.lemmas.List.{take_more, take-append-drop}
use Rattle.std.specs.List.{list_any}
use Rattle.wire.specs.declared.refusal.Refusal.{Refusal}
use Rattle.wire.specs.declared.refusal.Refusal.TheVariants.{LastOpen}
use Rattle.wire.specs.declared.streams.StreamName.{StreamName}
use Rattle.wire.specs.declared.streams.Source.{Source}
use Rattle.wire.specs.declared.streams.Modify.{Modify}
use Rattle.streams.specs.Streams.{Stream, Streams, kind_number, stream_of, is_there, has_fence, is_open_at_the_end, with_stream, with_extents, extents_of, joined_extents, greatest_generation, joined, build_fault, built, modified, or_later, first_build_fault, may_list, modify_fault}
use Rattle.streams.specs.Table.{Entry, has_name, streams_in, first_of_two, streams_over, no_streams}

-- ---- one source more

joined_behind : (streams : Streams) (xs ys : List Source) → joined_extents streams (xs ++ ys) ≡ joined_extents streams xs ++ joined_extents streams ys
joined_behind streams [] ys = refl
joined_behind streams (x ∷ xs) ys =
    ap (λ (es : List ℕ). extents_of (stream_of streams x.stream) ++ es) (joined_behind streams xs ys)
    ∙ sym (append_assoc (extents_of (stream_of streams x.stream)) (joined_extents streams xs) (joined_extents streams ys))

pub joined_more : (streams : Streams) (sources : List Source) (i : ℕ) (d : Source) → i < length sources →
    joined_extents streams (take (i + 1) sources) ≡ joined_extents streams (take i sources) ++ extents_of (stream_of streams (get_or sources i d).stream)
joined_more streams sources i d within =
    ap (joined_extents streams) (take_more sources i d within)
    ∙ joined_behind streams (take i sources) (get_or sources i d ∷ [])
    ∙ ap (λ (es : List ℕ). joined_extents streams (take i sources) ++ es) (append-nil (extents_of (stream_of streams (get_or sources i d).stream)))

-- the extents of one source more are added at the end
pub join_more : (streams : Streams) (sources : List Source) (i : ℕ) (x y z : Stream) (s : Source) (es : List ℕ) → i < length sources → s ≡ get_or sources i s →
    y ≡ with_extents (joined_extents streams (take i sources)) x → es ≡ extents_of (stream_of streams s.stream) → z ≡ with_extents es y →
    z ≡ with_extents (joined_extents streams (take (i + 1) sources)) x
join_more streams sources i x y z s es within is y_is es_is z_is =
    z_is
    ∙ ap (λ (w : Stream). with_extents es w) y_is
    ∙ ap (λ (fs : List ℕ). record x { extents = fs })
    (append_assoc x.extents (joined_extents streams (take i sources)) es
    ∙ ap (λ (fs : List ℕ). x.extents ++ (joined_extents streams (take i sources) ++ fs)) (es_is ∙ ap (λ (u : Source). extents_of (stream_of streams u.stream)) is)
    ∙ ap (λ (fs : List ℕ). x.extents ++ fs) (sym (joined_more streams sources i s within)))

greatest_behind : (xs : List Source) (y : Source) → greatest_generation (xs ++ y ∷ []) ≡ max (greatest_generation xs) y.generation
greatest_behind [] y = omega arith
greatest_behind (x ∷ xs) y = ap (λ (g : ℕ). max x.generation g) (greatest_behind xs y) ∙ by_numbers x.generation (greatest_generation xs) y.generation
  where
    by_numbers : (a b c : ℕ) → max a (max b c) ≡ max (max a b) c
    by_numbers a b c = omega arith

pub greatest_more : (sources : List Source) (i : ℕ) (d : Source) → i < length sources →
    greatest_generation (take (i + 1) sources) ≡ max (greatest_generation (take i sources)) (get_or sources i d).generation
greatest_more sources i d within = ap greatest_generation (take_more sources i d within) ∙ greatest_behind (take i sources) (get_or sources i d)

-- ---- one stream more

modified_behind : (streams : Streams) (xs ys : List Modify) → modified streams (xs ++ ys) ≡ modified (modified streams xs) ys
modified_behind streams [] ys = refl
modified_behind streams (x ∷ xs) ys = modified_behind (built streams x) xs ys

pub modified_more : (streams : Streams) (list : List Modify) (i : ℕ) (d : Modify) → i < length list →
    modified streams (take (i + 1) list) ≡ built (modified streams (take i list)) (get_or list i d)
modified_more streams list i d within =
    ap (modified streams) (take_more list i d within) ∙ modified_behind streams (take i list) (get_or list i d ∷ [])

pub built_more : (streams was new : Streams) (list : List Modify) (i : ℕ) (m : Modify) → i < length list → m ≡ get_or list i m →
    was ≡ modified streams (take i list) → new ≡ built was m → new ≡ modified streams (take (i + 1) list)
built_more streams was new list i m within is was_is new_is =
    new_is ∙ ap (λ (s : Streams). built s m) was_is ∙ ap (built (modified streams (take i list))) is ∙ sym (modified_more streams list i m within)

later_last : (a b c : Option Refusal) → or_later a (or_later b c) ≡ or_later (or_later a b) c
later_last None b c = refl
later_last (Some r) b c = refl

module _ (sealed : ℕ → Option ℕ) where
  fault_behind : (streams : Streams) (xs ys : List Modify) →
      first_build_fault sealed streams (xs ++ ys) ≡ or_later (first_build_fault sealed streams xs) (first_build_fault sealed (modified streams xs) ys)
  fault_behind streams [] ys = refl
  fault_behind streams (x ∷ xs) ys =
      ap (or_later (build_fault sealed streams x)) (fault_behind (built streams x) xs ys) ∙ later_last (build_fault sealed streams x) _ _

  -- those before this one are built
  module _ (streams : Streams) (list : List Modify) (i : ℕ) (d : Modify) (within : i < length list) (so_far : first_build_fault sealed streams (take i list) ≡ None) where
    none_last : (a : Option Refusal) → or_later a None ≡ a
    none_last None = refl
    none_last (Some r) = refl

    -- and it is, too
    pub fault_more : build_fault sealed (modified streams (take i list)) (get_or list i d) ≡ None → first_build_fault sealed streams (take (i + 1) list) ≡ None
    fault_more is =
        ap (first_build_fault sealed streams) (take_more list i d within)
        ∙ fault_behind streams (take i list) (get_or list i d ∷ [])
        ∙ ap (λ (o : Option Refusal). or_later o (or_later (build_fault sealed (modified streams (take i list)) (get_or list i d)) None)) so_far
        ∙ none_last _ ∙ is

    split_here : take i list ++ get_or list i d ∷ drop (i + 1) list ≡ list
    split_here =
        ap (λ (n : ℕ). take i list ++ get_or list i d ∷ drop n list) (add-one i)
        ∙ ap (λ (xs : List Modify). take i list ++ xs) (sym (drop-cons list i d within))
        ∙ take-append-drop i list

    -- and it is not
    pub fault_here : (r : Refusal) → build_fault sealed (modified streams (take i list)) (get_or list i d) ≡ Some r → first_build_fault sealed streams list ≡ Some r
    fault_here r is =
        ap (first_build_fault sealed streams) (sym split_here)
        ∙ fault_behind streams (take i list) (get_or list i d ∷ drop (i + 1) list)
        ∙ ap (λ (o : Option Refusal). or_later o (or_later (build_fault sealed (modified streams (take i list)) (get_or list i d)) (first_build_fault sealed (built (modified streams (take i list)) (get_or list i d)) (drop (i + 1) list)))) so_far
        ∙ ap (λ (o : Option Refusal). or_later o (first_build_fault sealed (built (modified streams (take i list)) (get_or list i d)) (drop (i + 1) list))) is

  -- the same, of what the code has of them
  module _ (streams was : Streams) (list : List Modify) (i : ℕ) (m : Modify) (within : i < length list) (is : m ≡ get_or list i m) (was_is : was ≡ modified streams (take i list))
      (so_far : first_build_fault sealed streams (take i list) ≡ None) where
    same_fault : build_fault sealed (modified streams (take i list)) (get_or list i m) ≡ build_fault sealed was m
    same_fault = sym (ap (λ (s : Streams). build_fault sealed s m) was_is ∙ ap (build_fault sealed (modified streams (take i list))) is)

    pub none_more : build_fault sealed was m ≡ None → first_build_fault sealed streams (take (i + 1) list) ≡ None
    none_more none = fault_more streams list i m within so_far (same_fault ∙ none)

    pub refused_here : may_list list ≡ true → (r : Refusal) → build_fault sealed was m ≡ Some r → modify_fault sealed streams list ≡ Some r
    refused_here may r fault = rw may (fault_here streams list i m within so_far r (same_fault ∙ fault))

-- ---- the last of the tests

pub last_open : (sealed : ℕ → Option ℕ) (streams : Streams) (m : Modify) → is_there (stream_of streams m.stream) ≡ false →
    list_any (λ (s : Source). not (is_there (stream_of streams s.stream))) m.sources ≡ false →
    list_any (λ (s : Source). not (has_fence s.generation (stream_of streams s.stream))) m.sources ≡ false →
    list_any (λ (s : Source). is_open_at_the_end sealed (stream_of streams s.stream)) m.sources ≡ true → Some LastOpen ≡ build_fault sealed streams m
last_open sealed streams m free there named unsealed = rw (free, there, named, unsealed) refl

-- ---- streams over others

pub over_stream : (made streams : Streams) (s : StreamName) (x : Stream) → streams_over (with_stream made s x) streams ≡ with_stream (streams_over made streams) s x
over_stream made streams s x = fun_ext (λ range. fun_ext (λ kind. by_test ((range == s.range) && (kind == kind_number s.kind)) (made range kind) (streams range kind)))
  where
    by_test : (b : Bool) (o p : Option Stream) → first_of_two (if b then Some x else o) p ≡ (if b then Some x else first_of_two o p)
    by_test true o p = refl
    by_test false o p = refl

-- a stream that is built beside a table
pub built_over : (streams was reserved new : Streams) (m : Modify) (x : Entry) → new ≡ with_stream reserved x.name x.stream → reserved ≡ was →
    x.name ≡ m.stream → x.stream ≡ joined (streams_over was streams) m.sources → streams_over new streams ≡ built (streams_over was streams) m
built_over streams was reserved new m x new_is reserved_is name stream =
    ap (λ (s : Streams). streams_over s streams) (new_is ∙ ap (λ (s : Streams). with_stream s x.name x.stream) reserved_is)
    ∙ over_stream was streams x.name x.stream
    ∙ ap (λ (s : StreamName). with_stream (streams_over was streams) s x.stream) name
    ∙ ap (λ (y : Stream). with_stream (streams_over was streams) m.stream y) stream

pub over_none : (streams : Streams) → streams_over no_streams streams ≡ streams
over_none streams = fun_ext (λ range. fun_ext (λ kind. refl))

pub over_nothing : (made streams : Streams) → made ≡ no_streams → streams_over made streams ≡ streams
over_nothing made streams none = ap (λ (s : Streams). streams_over s streams) none ∙ over_none streams

pub over_empty : (xs : List Entry) (streams : Streams) → length xs ≡ 0 → streams ≡ streams_over (streams_in xs) streams
over_empty [] streams none = sym (over_none streams)
over_empty (x ∷ xs) streams none = absurd (omega (arith, none))

-- the last of them first
pub over_last : (xs : List Entry) (x : Entry) (streams : Streams) →
    streams_over (streams_in (xs ++ x ∷ [])) streams ≡ streams_over (streams_in xs) (with_stream streams x.name x.stream)
over_last xs x streams = fun_ext (λ range. fun_ext (λ kind. at range kind xs))
  where
    stream_in : Option Entry → Option Stream
    stream_in o = option_map (λ (z : Entry). z.stream) o

    alone : (b : Bool) (p : Option Stream) → first_of_two (stream_in (if b then Some x else None)) p ≡ (if b then Some x.stream else p)
    alone true p = refl
    alone false p = refl

    by_head : (b : Bool) (y : Entry) (o p : Option Entry) (q r : Option Stream) → first_of_two (stream_in o) q ≡ first_of_two (stream_in p) r →
        first_of_two (stream_in (if b then Some y else o)) q ≡ first_of_two (stream_in (if b then Some y else p)) r
    by_head true y o p q r same = refl
    by_head false y o p q r same = same

    at : (range kind : ℕ) (xs : List Entry) → streams_over (streams_in (xs ++ x ∷ [])) streams range kind ≡ streams_over (streams_in xs) (with_stream streams x.name x.stream) range kind
    at range kind [] = alone (has_name range kind x) (streams range kind)
    at range kind (y ∷ xs) = by_head (has_name range kind y) y _ _ _ _ (at range kind xs)
