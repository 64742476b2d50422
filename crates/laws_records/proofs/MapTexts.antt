-- The bytes of a record of the map are those that it is spelled with.
use Rattle.std.proofs.Common.{◌≡◌, ℕ, ◌≤◌, Bool, true, false, List, [], ◌∷◌, ◌++◌, length, Option, Some, None, refl, sym, ap, subst, ◌∙◌, append_assoc}
use Rattle.std.specs.Prelude.{◌==◌, if◌then◌else◌}
use Rattle.std.proofs.lemmas.Bool.{eqb-true}
use Rattle.block_types.specs.Limits.{is_within}
use Rattle.blocks.specs.Format.{number_at, bytes_at, only_at}
use Rattle.blocks.specs.Record.{number}
use Rattle.blocks.proofs.Formats.{IsBytes, IsBytes-after, bind_some, number1, number2, number8, number-one, bytes_takes, within, within_again, only_format}
use Rattle.commitlog.specs.Record.{key_bytes}
use Rattle.commitlog.specs.Reading.{counted_at}
use Rattle.model_partition.specs.declared.map_record.MapRecord.{MapRecord}
use Rattle.model_partition.specs.declared.map_record.MapRecord.TheVariants.{Assign, Renew, BeginSplit, CompleteSplit, BeginMerge, CompleteMerge}
use Rattle.model_partition.specs.RecordBytes.{spelled, assign_at, renew_at, begin_split_at, complete_split_at, begin_merge_at, complete_merge_at, split_fields_at, merge_fields_at, fields_at, record_of}
use Rattle.laws_records.proofs.Readers.{Takes, of_format, pair_taken, whole_taken}

number8_taken : Takes (number 8) (number_at 8)
number8_taken = of_format number8

byte_taken : Takes (λ (byte : ℕ). byte ∷ []) (number_at 1)
byte_taken = record {
  taken = λ bytes byte rest fits e.
      let s = number1.takes bytes byte rest fits e in
      s.0 ∙ ap (λ (l : List ℕ). l ++ rest) (number-one byte s.1);
}

key_taken : Takes key_bytes (counted_at 2 (is_within 1 256))
unfolding counted_at
key_taken = record {
  taken = λ bytes key rest fits e.
      let size = only_format (is_within 1 256) (λ n. (1 ≤ n) × (n ≤ 256)) (within 1 256) (within_again 1 256) number2 in
      let n = bind_some (only_at (is_within 1 256) (number_at 2) bytes) (λ n. bytes_at n.0 n.1) (key, rest) e in
      let s = size.takes bytes n.0.0 n.0.1 fits n.1 in
      let t = bytes_takes n.0.0 n.0.1 key rest n.2 in
      s.0 ∙ ap (λ (l : List ℕ). number 2 n.0.0 ++ l) t.0 ∙ ap (λ (k : ℕ). number 2 k ++ (key ++ rest)) (sym t.1) ∙ sym (append_assoc (number 2 (length key)) key rest);
}

abbrev IsSpelled : ℕ → List ℕ → MapRecord → Type 0
IsSpelled kind fields r = kind ∷ fields ≡ spelled r

assign_spelled : (fields : List ℕ) (r : MapRecord) → IsBytes fields → assign_at fields ≡ Some r → IsSpelled 16 fields r
unfolding assign_at
assign_spelled fields r fits e =
    let t = whole_taken (pair_taken number8_taken (pair_taken byte_taken number8_taken)) (λ x. Assign x.0 x.1.0 x.1.1) fields r fits e in
    subst (IsSpelled 16 fields) t.2 (ap (λ (l : List ℕ). 16 ∷ l) t.1)

renew_spelled : (fields : List ℕ) (r : MapRecord) → IsBytes fields → renew_at fields ≡ Some r → IsSpelled 17 fields r
unfolding renew_at
renew_spelled fields r fits e =
    let t = whole_taken (pair_taken number8_taken number8_taken) (λ x. Renew x.0 x.1) fields r fits e in
    subst (IsSpelled 17 fields) t.2 (ap (λ (l : List ℕ). 17 ∷ l) t.1)

begin_split_spelled : (fields : List ℕ) (r : MapRecord) → IsBytes fields → begin_split_at fields ≡ Some r → IsSpelled 18 fields r
unfolding begin_split_at
begin_split_spelled fields r fits e =
    let t = whole_taken (pair_taken number8_taken key_taken) (λ x. BeginSplit x.0 x.1) fields r fits e in
    subst (IsSpelled 18 fields) t.2 (ap (λ (l : List ℕ). 18 ∷ l) t.1)

complete_split_spelled : (fields : List ℕ) (r : MapRecord) → IsBytes fields → complete_split_at fields ≡ Some r → IsSpelled 19 fields r
unfolding complete_split_at
complete_split_spelled fields r fits e =
    let t = whole_taken number8_taken CompleteSplit fields r fits e in
    subst (IsSpelled 19 fields) t.2 (ap (λ (l : List ℕ). 19 ∷ l) t.1)

begin_merge_spelled : (fields : List ℕ) (r : MapRecord) → IsBytes fields → begin_merge_at fields ≡ Some r → IsSpelled 20 fields r
unfolding begin_merge_at
begin_merge_spelled fields r fits e =
    let t = whole_taken (pair_taken number8_taken number8_taken) (λ x. BeginMerge x.0 x.1) fields r fits e in
    subst (IsSpelled 20 fields) t.2 (ap (λ (l : List ℕ). 20 ∷ l) t.1)

complete_merge_spelled : (fields : List ℕ) (r : MapRecord) → IsBytes fields → complete_merge_at fields ≡ Some r → IsSpelled 21 fields r
unfolding complete_merge_at
complete_merge_spelled fields r fits e =
    let t = whole_taken (pair_taken number8_taken number8_taken) (λ x. CompleteMerge x.0 x.1) fields r fits e in
    subst (IsSpelled 21 fields) t.2 (ap (λ (l : List ℕ). 21 ∷ l) t.1)

-- one of two readers, by the kind
by_kind : {A : Type 0} (P : ℕ → Type 0) (kind k : ℕ) (x y : Option A) (z : A) → (if kind == k then x else y) ≡ Some z → (x ≡ Some z → P k) → (y ≡ Some z → P kind) → P kind
by_kind {A = A} P kind k x y z e here other = choose (kind == k) refl e
  where
    choose : (b : Bool) → (kind == k) ≡ b → (if b then x else y) ≡ Some z → P kind
    choose true is e = subst P (sym (eqb-true kind k is)) (here e)
    choose false is e = other e

fields_spelled : (kind : ℕ) (fields : List ℕ) (r : MapRecord) → IsBytes fields → fields_at kind fields ≡ Some r → IsSpelled kind fields r
unfolding fields_at merge_fields_at split_fields_at
fields_spelled kind fields r fits e =
    let P = λ (k : ℕ). IsSpelled k fields r in
    by_kind P kind 16 (assign_at fields) _ r e (λ is. assign_spelled fields r fits is)
    (λ e. by_kind P kind 17 (renew_at fields) _ r e (λ is. renew_spelled fields r fits is)
    (λ e. by_kind P kind 20 (begin_merge_at fields) _ r e (λ is. begin_merge_spelled fields r fits is)
    (λ e. by_kind P kind 21 (complete_merge_at fields) _ r e (λ is. complete_merge_spelled fields r fits is)
    (λ e. by_kind P kind 18 (begin_split_at fields) _ r e (λ is. begin_split_spelled fields r fits is)
    (λ e. by_kind P kind 19 (complete_split_at fields) None r e (λ is. complete_split_spelled fields r fits is) (λ none. absurd cc))))))

-- bytes that are read as a record are its spelling
pub text_spelled : (text : List ℕ) (r : MapRecord) → IsBytes text → record_of text ≡ Some r → text ≡ spelled r
unfolding record_of
text_spelled [] r fits e = absurd cc
text_spelled (kind ∷ fields) r fits e = fields_spelled kind fields r (IsBytes-after (kind ∷ []) fields fits) e
