-- What a MultiModify that is taken finds, and what it leaves.
use Rattle.std.proofs.Common.{◌≡◌, ℕ, suc, ◌+◌, ◌≤◌, Bool, true, false, not, ◌==◌, List, [], ◌∷◌, ◌++◌, Option, Some, None, slice_get, Contains, refl, sym, ap, ◌∙◌, inl, inr, arith, append_assoc, append-nil, subst}
use Rattle.std.specs.List.{list_any, list_all}
use Rattle.std.proofs.Math.Nat.{le-max_left}
use Rattle.std.proofs.lemmas.Bool.{eqb-true, and_parts, or_parts, not-false}
use Rattle.wire.specs.declared.packet.Packet.{Packet}
use Rattle.wire.specs.declared.refusal.Refusal.{Refusal}
use Rattle.wire.specs.declared.refusal.Refusal.TheVariants.{Stale, NoSuchStream, NameTaken, LastOpen}
use Rattle.wire.specs.declared.streams.Modify.{Modify}
use Rattle.wire.specs.declared.streams.Source.{Source}
use Rattle.wire.specs.declared.streams.StreamName.{StreamName}
use Rattle.streams.specs.Streams.{kind_number, Stream, Streams, stream_of, base_of, whole, last_of, is_there, may_list, has_fence, is_unsealed, is_open_at_the_end, build_fault, extents_of, gone_of, joined_extents, greatest_generation, joined, built, modified, or_later, first_build_fault, modify_fault}
use Rattle.model_streams.specs.Actors.{is_user}
use Rattle.model_streams.specs.Manager.{Catalog, sealed_lengths, modify_refusal}
use Rattle.model_streams.specs.StreamSystem.{are_of_one_kind}
use Rattle.model_streams.proofs.Tests.{if_elim}
use Rattle.laws_streams.proofs.Choices.{Each}
use Rattle.laws_streams.proofs.Lists.{get_joined}
use Rattle.laws_streams.proofs.StreamNames.{kind_same, with_stream_elim}
use Rattle.laws_streams.proofs.WholeLists.{whole_get}

-- ---- tests

none_any : {A : Type 0} (test : A → Bool) (xs : List A) → list_any test xs ≡ false → Each (λ x. test x ≡ false) xs
none_any test [] f = tt
none_any test (x ∷ xs) f = let k = or_parts (test x) (list_any test xs) f in (k.0, none_any test xs k.1)

every_all : {A : Type 0} (test : A → Bool) (xs : List A) → list_all test xs ≡ true → Each (λ x. test x ≡ true) xs
every_all test [] t = tt
every_all test (x ∷ xs) t = let k = and_parts (test x) (list_all test xs) t in (k.0, every_all test xs k.1)

-- each source has the kind of the stream that is built
abbrev pub IsOfOneKind : Modify → Type 0
IsOfOneKind m = Each (λ s. s.stream.kind ≡ m.stream.kind) m.sources

same_kinds : (m : Modify) (sources : List Source) → Each (λ s. (kind_number s.stream.kind == kind_number m.stream.kind) ≡ true) sources → Each (λ s. s.stream.kind ≡ m.stream.kind) sources
same_kinds m [] all = tt
same_kinds m (s ∷ sources) all =
    (kind_same s.stream.kind m.stream.kind (eqb-true (kind_number s.stream.kind) (kind_number m.stream.kind) all.0), same_kinds m sources all.1)

all_of_one_kind : (list : List Modify) → are_of_one_kind list ≡ true → Each IsOfOneKind list
all_of_one_kind [] t = tt
all_of_one_kind (m ∷ list) t =
    let k = and_parts _ (are_of_one_kind list) t in
    (same_kinds m m.sources (every_all (λ s. kind_number s.stream.kind == kind_number m.stream.kind) m.sources k.0), all_of_one_kind list k.1)

entries : (list rest : List Modify) → ((m : Modify) → Contains rest m → Contains list m) → Each IsOfOneKind rest → Each (λ m. IsOfOneKind m × Contains list m) rest
entries list [] inside kinds = tt
entries list (m ∷ rest) inside kinds = (
  (kinds.0, inside m (0, omega arith, refl)),
  entries list rest (λ n among. let (k, below, is) = among in inside n (suc k, omega (arith, below), is)) kinds.1,
)

-- each entry is one of the list, and of one kind
pub entries_of : (list : List Modify) → are_of_one_kind list ≡ true → Each (λ m. IsOfOneKind m × Contains list m) list
entries_of list t = entries list list (λ m among. among) (all_of_one_kind list t)

module _ (sealed : ℕ → Option ℕ) where
  -- the source is there with this fence, and its last extent is sealed
  pub record Joins (streams : Streams) (s : Source) : Type 0 where
    pub stream : Stream
    pub there : stream_of streams s.stream ≡ Some stream
    pub fence : stream.fence ≡ s.generation
    pub closed : (e : ℕ) → last_of stream.extents ≡ Some e → (length : ℕ) × (sealed e ≡ Some length)

  -- there is no stream of the name yet, and each of the sources is there
  pub record Builds (streams : Streams) (m : Modify) : Type 0 where
    pub absent : stream_of streams m.stream ≡ None
    pub sources : Each (Joins streams) m.sources

  -- so it is for each of a list, when those before it are built
  abbrev pub BuildsAll : Streams → List Modify → Type 0
  BuildsAll streams [] = Unit {0}
  BuildsAll streams (m ∷ list) = Builds streams m × BuildsAll (built streams m) list

  shut : (o : Option ℕ) → is_unsealed sealed o ≡ false → (e : ℕ) → o ≡ Some e → (length : ℕ) × (sealed e ≡ Some length)
  shut None f e is = absurd cc
  shut (Some k) f e is =
      let c : k ≡ e = cc in
      by_length (sealed k) refl f c
    where
      by_length : (o : Option ℕ) → sealed k ≡ o → not (is_there o) ≡ false → k ≡ e → (length : ℕ) × (sealed e ≡ Some length)
      by_length None there none c = absurd cc
      by_length (Some l) there none c = (l, ap sealed (sym c) ∙ there)

  joins : (streams : Streams) (s : Source) → not (is_there (stream_of streams s.stream)) ≡ false → not (has_fence s.generation (stream_of streams s.stream)) ≡ false →
      is_open_at_the_end sealed (stream_of streams s.stream) ≡ false → Joins streams s
  joins streams s = by_stream (stream_of streams s.stream) refl
    where
      by_stream : (o : Option Stream) → stream_of streams s.stream ≡ o → not (is_there o) ≡ false → not (has_fence s.generation o) ≡ false → is_open_at_the_end sealed o ≡ false → Joins streams s
      by_stream None is there fence closed = absurd cc
      by_stream (Some x) is there fence closed =
          record { stream = x; there = is; fence = eqb-true x.fence s.generation (not-false (x.fence == s.generation) fence); closed = shut (last_of x.extents) closed }

  all_join : (streams : Streams) (sources : List Source) → Each (λ s. not (is_there (stream_of streams s.stream)) ≡ false) sources →
      Each (λ s. not (has_fence s.generation (stream_of streams s.stream)) ≡ false) sources → Each (λ s. is_open_at_the_end sealed (stream_of streams s.stream) ≡ false) sources → Each (Joins streams) sources
  all_join streams [] there fence closed = tt
  all_join streams (s ∷ sources) there fence closed = (joins streams s there.0 fence.0 closed.0, all_join streams sources there.1 fence.1 closed.1)

  free : (o : Option Stream) → is_there o ≡ false → o ≡ None
  free None f = refl
  free (Some x) f = absurd cc

  builds : (streams : Streams) (m : Modify) → build_fault sealed streams m ≡ None → Builds streams m
  builds streams m =
      if_elim (λ o. o ≡ None → Builds streams m) (is_there (stream_of streams m.stream)) (Some NameTaken) _ (λ t is. absurd cc)
      (λ absent. if_elim (λ o. o ≡ None → Builds streams m) (list_any (λ s. not (is_there (stream_of streams s.stream))) m.sources) (Some NoSuchStream) _ (λ t is. absurd cc)
      (λ there. if_elim (λ o. o ≡ None → Builds streams m) (list_any (λ s. not (has_fence s.generation (stream_of streams s.stream))) m.sources) (Some Stale) _ (λ t is. absurd cc)
      (λ fence. if_elim (λ o. o ≡ None → Builds streams m) (list_any (λ s. is_open_at_the_end sealed (stream_of streams s.stream)) m.sources) (Some LastOpen) None (λ t is. absurd cc)
      (λ closed is. record {
        absent = free (stream_of streams m.stream) absent;
        sources = all_join streams m.sources (none_any _ m.sources there) (none_any _ m.sources fence) (none_any _ m.sources closed);
      }))))

  neither : (o later : Option Refusal) → or_later o later ≡ None → (o ≡ None) × (later ≡ None)
  neither None later is = (refl, is)
  neither (Some refusal) later is = absurd cc

  builds_all : (list : List Modify) (streams : Streams) → first_build_fault sealed streams list ≡ None → BuildsAll streams list
  builds_all [] streams is = tt
  builds_all (m ∷ list) streams is =
      let k = neither (build_fault sealed streams m) (first_build_fault sealed (built streams m) list) is in
      (builds streams m k.0, builds_all list (built streams m) k.1)

  -- ---- one stream after the other

  -- what each building keeps holds at the end
  pub all_built : (P : Streams → Type 0) (Q : Modify → Type 0) → ((streams : Streams) (m : Modify) → Q m → Builds streams m → P streams → P (built streams m)) →
      (list : List Modify) (streams : Streams) → Each Q list → BuildsAll streams list → P streams → P (modified streams list)
  all_built P Q step [] streams each all old = old
  all_built P Q step (m ∷ list) streams each all old = all_built P Q step list (built streams m) each.1 all.1 (step streams m each.0 all.0 old)

  -- streams that are there stay as they are
  pub built_keeps : (streams : Streams) (m : Modify) → Builds streams m → (s : StreamName) (x : Stream) → stream_of streams s ≡ Some x → stream_of (built streams m) s ≡ Some x
  built_keeps streams m b s x is =
      with_stream_elim (λ o. o ≡ Some x) streams m.stream (joined streams m.sources) s
      (λ k. absurd (let c : None ≡ Some x = sym b.absent ∙ ap (stream_of streams) (sym k) ∙ is in cc)) is

  pub modified_keeps : (list : List Modify) (streams : Streams) → BuildsAll streams list → (s : StreamName) (x : Stream) → stream_of streams s ≡ Some x → stream_of (modified streams list) s ≡ Some x
  modified_keeps [] streams all s x is = is
  modified_keeps (m ∷ list) streams all s x is = modified_keeps list (built streams m) all.1 s x (built_keeps streams m all.0 s x is)

  -- ---- a list that is joined

  -- an extent of one of the sources, where it stands there
  pub record StandsIn (streams : Streams) (sources : List Source) (e : ℕ) : Type 0 where
    pub source : Source
    pub among : Contains sources source
    pub joins : Joins streams source
    pub index : ℕ
    pub at : slice_get (whole joins.stream) index ≡ Some e

  stands_later : {streams : Streams} {sources : List Source} {e : ℕ} (s : Source) → StandsIn streams sources e → StandsIn streams (s ∷ sources) e
  stands_later {streams} {sources} {e} s a =
      let (k, inside, is) = a.among in
      record { source = a.source; among = (suc k, omega (arith, inside), is); joins = a.joins; index = a.index; at = a.at }

  stands_first : (streams : Streams) (s : Source) (sources : List Source) (j : Joins streams s) (e index : ℕ) → slice_get (whole j.stream) index ≡ Some e → StandsIn streams (s ∷ sources) e
  stands_first streams s sources j e index at = record { source = s; among = (0, omega arith, refl); joins = j; index = index; at = at }

  extents_stand : (streams : Streams) (sources : List Source) → Each (Joins streams) sources → (i e : ℕ) → slice_get (joined_extents streams sources) i ≡ Some e → StandsIn streams sources e
  extents_stand streams [] all i e at = absurd cc
  extents_stand streams (s ∷ sources) all i e at =
      elim (get_joined (extents_of (stream_of streams s.stream)) (joined_extents streams sources) i e at) [
        | inl here ↦
            let own : slice_get all.0.stream.extents i ≡ Some e = subst (λ o. slice_get (extents_of o) i ≡ Some e) all.0.there here in
            stands_first streams s sources all.0 e (base_of all.0.stream + i) (whole_get all.0.stream i ∙ own)
        | inr later ↦ stands_later s (extents_stand streams sources all.1 later.0 e later.1)
      ]

  -- the whole list of the first source, and then what stands in the others
  pub joined_whole : (streams : Streams) (s : Source) (sources : List Source) (j : Joins streams s) → whole (joined streams (s ∷ sources)) ≡ whole j.stream ++ joined_extents streams sources
  joined_whole streams s sources j =
      ap (λ o. gone_of o ++ (extents_of o ++ joined_extents streams sources)) j.there ∙ sym (append_assoc j.stream.gone j.stream.extents (joined_extents streams sources))

  pub joined_stands : (streams : Streams) (sources : List Source) → Each (Joins streams) sources → (i e : ℕ) → slice_get (whole (joined streams sources)) i ≡ Some e → StandsIn streams sources e
  joined_stands streams [] all i e at = absurd cc
  joined_stands streams (s ∷ sources) all i e at =
      elim (get_joined (whole all.0.stream) (joined_extents streams sources) i e (subst (λ xs. slice_get xs i ≡ Some e) (joined_whole streams s sources all.0) at)) [
        | inl here ↦ stands_first streams s sources all.0 e i here
        | inr later ↦ stands_later s (extents_stand streams sources all.1 later.0 e later.1)
      ]

  -- of one source alone the list is the same
  pub joined_alone : (streams : Streams) (s : Source) (j : Joins streams s) → whole (joined streams (s ∷ [])) ≡ whole j.stream
  joined_alone streams s j = joined_whole streams s [] j ∙ append-nil (whole j.stream)

  -- it begins where the first source does
  pub joined_gone : (streams : Streams) (s : Source) (sources : List Source) (j : Joins streams s) → (joined streams (s ∷ sources)).gone ≡ j.stream.gone
  joined_gone streams s sources j = ap gone_of j.there

none_before : (xs ys : List ℕ) → xs ++ ys ≡ [] → xs ≡ []
none_before [] ys is = refl
none_before (x ∷ xs) ys is = absurd cc

-- and is empty only where that one is
pub joined_empty : (sealed : ℕ → Option ℕ) (streams : Streams) (s : Source) (sources : List Source) (j : Joins sealed streams s) → (joined streams (s ∷ sources)).extents ≡ [] → j.stream.extents ≡ []
joined_empty sealed streams s sources j none = none_before j.stream.extents (joined_extents streams sources) (ap (λ o. extents_of o ++ joined_extents streams sources) (sym j.there) ∙ none)

-- its fence is no lower than the generation that is named for any of them
pub first_under : (s : Source) (sources : List Source) → s.generation ≤ greatest_generation (s ∷ sources)
first_under s sources = le-max_left s.generation (greatest_generation sources)

-- ---- the whole rule

pub builds_of : (b : Catalog) (p : Packet) (list : List Modify) → modify_refusal b p list ≡ None → (is_user p.from ≡ false) × BuildsAll (sealed_lengths b) b.stream list
builds_of b p list =
    if_elim (λ o. o ≡ None → (is_user p.from ≡ false) × BuildsAll (sealed_lengths b) b.stream list) (is_user p.from) (Some Stale) (modify_fault (sealed_lengths b) b.stream list) (λ t is. absurd cc)
    (λ f. if_elim (λ o. o ≡ None → (is_user p.from ≡ false) × BuildsAll (sealed_lengths b) b.stream list) (may_list list) (first_build_fault (sealed_lengths b) b.stream list) (Some NoSuchStream)
    (λ t is. (f, builds_all (sealed_lengths b) list b.stream is)) (λ t is. absurd cc))
