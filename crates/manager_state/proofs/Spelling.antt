-- The bytes of the manager's records: they are few, and they are read as they were written.
use Rattle.std.proofs.Common.{◌≡◌, ℕ, zero, suc, ◌+◌, ◌*◌, ◌^◌, ◌<◌, ◌≤◌, nat_le, Bool, true, false, List, [], ◌∷◌, ◌++◌, length, take, get_or, Some, refl, sym, ap, subst, ◌∙◌, arith, length-append, append_assoc, append-nil}
use Rattle.std.specs.List.{list_all, AllByRecursion}
use Rattle.std.proofs.lemmas.Bool.{and_parts, leb-true}
use Rattle.std.proofs.lemmas.List.{take_more}
use Rattle.std.proofs.lemmas.List.Elements.{recursion_from_All}
use Rattle.block_types.specs.declared.record.Nodes.{Nodes}
use Rattle.blocks.specs.Format.{◌>>=◌, number_at, many_at}
use Rattle.block_types.specs.Limits.{are_nodes}
use Rattle.blocks.specs.Reading.{nodes_at}
use Rattle.blocks.specs.Record.{number, nodes}
use Rattle.blocks.proofs.Formats.{number8, length-number, within_again, one_again, last8, last4}
use Rattle.wire.specs.declared.streams.StreamKind.{StreamKind}
use Rattle.wire.specs.declared.streams.StreamKind.TheVariants.{Metadata, Log, RowData, BlobData}
use Rattle.wire.specs.declared.streams.StreamName.{StreamName}
use Rattle.wire.specs.declared.streams.Source.{Source}
use Rattle.wire.specs.declared.streams.Modify.{Modify}
use Rattle.streams.specs.Streams.{are_sources, may_list}
use Rattle.model_streams.specs.declared.manager_record.ManagerRecord.{ManagerRecord}
use Rattle.model_streams.specs.declared.manager_record.ManagerRecord.TheVariants.{First, CreateStream, OpenStreams, Extend, Seal, Trim, MultiModify}
use Rattle.model_streams.specs.RecordBytes.{source, sources, modify, modifies, source_at, modify_at, multi_modify_at, spelled, stream_name, kind_number, kind_at, stream_at, first_at, create_at, open_at, extend_at, seal_at, flag, flag_at, trim_at, fields_at, record_of}
use Rattle.manager_state.specs.RecordBytes.{CanSpell, IsSourceInRange, IsModifyInRange, IsListInRange}

length-stream_name : (s : StreamName) → length (stream_name s) ≡ 9
length-stream_name s = omega (arith, length-append (number 8 s.range) (kind_number s.kind ∷ []), length-number 8 s.range)

length-source : (s : Source) → length (source s) ≡ 17
length-source s = omega (arith, length-append (stream_name s.stream) (number 8 s.generation), length-stream_name s.stream, length-number 8 s.generation)

length-sources : (xs : List Source) → length (sources xs) ≡ length xs * 17
length-sources [] = refl
length-sources (s ∷ xs) = omega (arith, length-append (source s) (sources xs), length-source s, length-sources xs)

few_sources : (m : Modify) → are_sources m.sources ≡ true → length m.sources ≤ 255
few_sources m are = leb-true (length m.sources) 255 (and_parts _ _ are).1

length-modify : (m : Modify) → are_sources m.sources ≡ true → length (modify m) ≤ 4345
length-modify m are =
    omega (arith, length-append (stream_name m.stream) (length m.sources ∷ sources m.sources), length-stream_name m.stream, length-sources m.sources, few_sources m are)

length-modifies : (list : List Modify) → list_all (λ m. are_sources m.sources) list ≡ true → length (modifies list) ≤ length list * 4345
length-modifies [] are = omega arith
length-modifies (m ∷ list) are =
    let parts = and_parts (are_sources m.sources) _ are in
    omega (arith, length-append (modify m) (modifies list), length-modify m parts.0, length-modifies list parts.1)

pub few_modifies : (list : List Modify) → may_list list ≡ true → length list ≤ 255
few_modifies list may = leb-true (length list) 255 (and_parts _ _ may).0

modifies_few : (list : List Modify) → may_list list ≡ true → length (spelled (MultiModify list)) ≤ 1107977
modifies_few list may = omega (arith, few_modifies list may, length-modifies list (and_parts (nat_le (length list) 255) _ may).1)

pub few_at : (list : List Modify) (i : ℕ) (m : Modify) → may_list list ≡ true → i < length list → m ≡ get_or list i m → length m.sources < 2 ^ 8
few_at list i m may within is =
    let one : are_sources m.sources ≡ true = subst (λ (x : Modify). are_sources x.sources ≡ true) (sym is) (all_at list i m within (and_parts (nat_le (length list) 255) _ may).1) in
    omega (arith, few_sources m one)
  where
    all_at : (list : List Modify) (i : ℕ) (d : Modify) → i < length list → list_all (λ m. are_sources m.sources) list ≡ true → are_sources (get_or list i d).sources ≡ true
    all_at [] i d within are = absurd (omega (arith, within))
    all_at (m ∷ list) zero d within are = (and_parts (are_sources m.sources) _ are).0
    all_at (m ∷ list) (suc i) d within are = all_at list i d (omega (arith, within)) (and_parts (are_sources m.sources) _ are).1

pub spelled_few : (r : ManagerRecord) → CanSpell r → length (spelled r) ≤ 1107977
spelled_few (First count target) can = omega (arith, length-number 4 target)
spelled_few (CreateStream s fence) can = omega (arith, length-append (stream_name s) (number 8 fence), length-stream_name s, length-number 8 fence)
spelled_few (OpenStreams range generation) can = omega (arith, length-append (number 8 range) (number 8 generation), length-number 8 range, length-number 8 generation)
spelled_few (Extend s generation pick) can = omega (arith, length-append (stream_name s) (number 8 generation ++ nodes pick), length-append (number 8 generation) (nodes pick), length-stream_name s, length-number 8 generation)
spelled_few (Seal e length) can = omega (arith, length-append (number 8 e) (number 4 length), length-number 8 e, length-number 4 length)
spelled_few (Trim range before to_blob) can = omega (arith, length-append (number 8 range) (number 8 before ++ flag to_blob), length-append (number 8 before) (flag to_blob), length-number 8 range, length-number 8 before)
spelled_few (MultiModify list) can = modifies_few list can

kind_again : (k : StreamKind) (rest : List ℕ) → kind_at (kind_number k ∷ rest) ≡ Some (k, rest)
kind_again Metadata rest = refl
kind_again Log rest = refl
kind_again RowData rest = refl
kind_again BlobData rest = refl

stream_again : (s : StreamName) (rest : List ℕ) → s.range < 2 ^ 64 → stream_at (stream_name s ++ rest) ≡ Some (s, rest)
unfolding stream_at
stream_again s rest fits =
    ap (λ (l : List ℕ). number_at 8 l >>= λ range. kind_at range.1 >>= λ kind. Some (record { range = range.0; kind = kind.0 }, kind.1)) (append_assoc (number 8 s.range) (kind_number s.kind ∷ []) rest)
    ∙ rw (number8.again s.range (kind_number s.kind ∷ rest) fits, kind_again s.kind rest) refl

nodes_again : (n : Nodes) → are_nodes n ≡ true → nodes_at (nodes n) ≡ Some (n, [])
unfolding nodes_at
nodes_again n are = rw are refl

pub first_again : (count target : ℕ) → CanSpell (First count target) → record_of (spelled (First count target)) ≡ Some (First count target)
unfolding record_of fields_at first_at
first_again count target fits =
    rw (one_again count (number 4 target) (omega (arith, fits.0.1)), within_again 3 12 count fits.0, last4 target (omega (arith, fits.1.1)), within_again 4096 16777216 target fits.1) refl

pub create_again : (s : StreamName) (fence : ℕ) → s.range < 2 ^ 64 → fence < 2 ^ 64 → record_of (spelled (CreateStream s fence)) ≡ Some (CreateStream s fence)
unfolding record_of fields_at create_at
create_again s fence a b = rw (stream_again s (number 8 fence) a, last8 fence b) refl

pub open_again : (range generation : ℕ) → range < 2 ^ 64 → generation < 2 ^ 64 → record_of (spelled (OpenStreams range generation)) ≡ Some (OpenStreams range generation)
unfolding record_of fields_at open_at
open_again range generation a b = rw (number8.again range (number 8 generation) a, last8 generation b) refl

pub extend_again : (s : StreamName) (generation : ℕ) (pick : Nodes) → s.range < 2 ^ 64 → generation < 2 ^ 64 → are_nodes pick ≡ true → record_of (spelled (Extend s generation pick)) ≡ Some (Extend s generation pick)
unfolding record_of fields_at extend_at
extend_again s generation pick a b c = rw (stream_again s (number 8 generation ++ nodes pick) a, number8.again generation (nodes pick) b, nodes_again pick c) refl

pub seal_again : (e length : ℕ) → e < 2 ^ 64 → length < 2 ^ 32 → record_of (spelled (Seal e length)) ≡ Some (Seal e length)
unfolding record_of fields_at seal_at
seal_again e length a b = rw (number8.again e (number 4 length) a, last4 length b) refl

flag_again : (b : Bool) → flag_at (flag b) ≡ Some (b, [])
flag_again true = refl
flag_again false = refl

pub trim_again : (range before : ℕ) (to_blob : Bool) → range < 2 ^ 64 → before < 2 ^ 64 → record_of (spelled (Trim range before to_blob)) ≡ Some (Trim range before to_blob)
unfolding record_of fields_at trim_at
trim_again range before to_blob a b = rw (number8.again range (number 8 before ++ flag to_blob) a, number8.again before (flag to_blob) b, flag_again to_blob) refl

-- ---- lists

source_again : (s : Source) (rest : List ℕ) → IsSourceInRange s → source_at (source s ++ rest) ≡ Some (s, rest)
unfolding source_at
source_again s rest fits =
    rw (append_assoc (stream_name s.stream) (number 8 s.generation) rest) (rw (stream_again s.stream (number 8 s.generation ++ rest) fits.0, number8.again s.generation rest fits.1) refl)

sources_again : (xs : List Source) (rest : List ℕ) → AllByRecursion IsSourceInRange xs → many_at source_at (length xs) (sources xs ++ rest) ≡ Some (xs, rest)
sources_again [] rest fits = refl
sources_again (s ∷ xs) rest fits =
    ap (many_at source_at (suc (length xs))) (append_assoc (source s) (sources xs) rest) ∙ rw (source_again s (sources xs ++ rest) fits.0, sources_again xs rest fits.1) refl

modify_again : (m : Modify) (rest : List ℕ) → are_sources m.sources ≡ true → IsModifyInRange m → modify_at (modify m ++ rest) ≡ Some (m, rest)
unfolding modify_at
modify_again m rest are fits =
    rw (append_assoc (stream_name m.stream) (length m.sources ∷ sources m.sources) rest)
    (rw (
      stream_again m.stream (length m.sources ∷ sources m.sources ++ rest) fits.0,
      one_again (length m.sources) (sources m.sources ++ rest) (omega (arith, few_sources m are)),
      sources_again m.sources rest (recursion_from_All IsSourceInRange m.sources fits.1),
    ) refl)

modifies_again : (list : List Modify) (rest : List ℕ) → list_all (λ m. are_sources m.sources) list ≡ true → AllByRecursion IsModifyInRange list →
    many_at modify_at (length list) (modifies list ++ rest) ≡ Some (list, rest)
modifies_again [] rest are fits = refl
modifies_again (m ∷ list) rest are fits =
    let parts = and_parts (are_sources m.sources) _ are in
    ap (many_at modify_at (suc (length list))) (append_assoc (modify m) (modifies list) rest)
    ∙ rw (modify_again m (modifies list ++ rest) parts.0 fits.0, modifies_again list rest parts.1 fits.1) refl

pub multi_modify_again : (list : List Modify) → may_list list ≡ true → IsListInRange list → record_of (spelled (MultiModify list)) ≡ Some (MultiModify list)
unfolding record_of fields_at multi_modify_at
multi_modify_again list may fits =
    let read : many_at modify_at (length list) (modifies list) ≡ Some (list, []) =
    ap (many_at modify_at (length list)) (sym (append-nil (modifies list)))
    ∙ modifies_again list [] (and_parts (nat_le (length list) 255) _ may).1 (recursion_from_All IsModifyInRange list fits) in
    rw (one_again (length list) (modifies list) (omega (arith, few_modifies list may)), read) refl

-- one source more, and one stream more, at the end of bytes
pub source_more : (old : List ℕ) (count : ℕ) (out new : List ℕ) (xs : List Source) (i : ℕ) (x : Source) → i < length xs → x ≡ get_or xs i x → new ≡ out ++ source x →
    out ≡ old ++ count ∷ sources (take i xs) → new ≡ old ++ count ∷ sources (take (i + 1) xs)
source_more old count out new xs i x within is step so_far =
    step ∙ ap (λ (l : List ℕ). l ++ source x) so_far ∙ append_assoc old (count ∷ sources (take i xs)) (source x)
    ∙ ap (λ (l : List ℕ). old ++ count ∷ l) (sym (ap sources (take_more xs i x within) ∙ behind (take i xs) (get_or xs i x) ∙ ap (λ (y : Source). sources (take i xs) ++ source y) (sym is)))
  where
    behind : (xs : List Source) (y : Source) → sources (xs ++ y ∷ []) ≡ sources xs ++ source y
    behind [] y = append-nil (source y)
    behind (x ∷ xs) y = ap (λ (l : List ℕ). source x ++ l) (behind xs y) ∙ sym (append_assoc (source x) (sources xs) (source y))

pub modify_more : (old : List ℕ) (kind count : ℕ) (out new : List ℕ) (xs : List Modify) (i : ℕ) (x : Modify) → i < length xs → x ≡ get_or xs i x → new ≡ out ++ modify x →
    out ≡ old ++ kind ∷ count ∷ modifies (take i xs) → new ≡ old ++ kind ∷ count ∷ modifies (take (i + 1) xs)
modify_more old kind count out new xs i x within is step so_far =
    step ∙ ap (λ (l : List ℕ). l ++ modify x) so_far ∙ append_assoc old (kind ∷ count ∷ modifies (take i xs)) (modify x)
    ∙ ap (λ (l : List ℕ). old ++ kind ∷ count ∷ l) (sym (ap modifies (take_more xs i x within) ∙ behind (take i xs) (get_or xs i x) ∙ ap (λ (y : Modify). modifies (take i xs) ++ modify y) (sym is)))
  where
    behind : (xs : List Modify) (y : Modify) → modifies (xs ++ y ∷ []) ≡ modifies xs ++ modify y
    behind [] y = append-nil (modify y)
    behind (x ∷ xs) y = ap (λ (l : List ℕ). modify x ++ l) (behind xs y) ∙ sym (append_assoc (modify x) (modifies xs) (modify y))
