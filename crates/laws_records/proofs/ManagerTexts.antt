-- The bytes of a record of the manager are those that it is spelled with.
use Rattle.std.proofs.Common.{◌≡◌, ℕ, zero, suc, ◌≤◌, Bool, true, false, cond, List, [], ◌∷◌, ◌++◌, Some, None, refl, sym, ap, subst, ◌∙◌, append_assoc}
use Rattle.block_types.specs.declared.record.Nodes.{Nodes}
use Rattle.block_types.specs.Limits.{IsTarget, is_within, are_nodes}
use Rattle.blocks.specs.Format.{◌>>=◌, number_at}
use Rattle.blocks.specs.Reading.{nodes_of, nodes_at}
use Rattle.blocks.specs.Record.{number, nodes}
use Rattle.blocks.proofs.Formats.{IsBytes, IsBytes-after, bind_some, if_some, some_is, number1, number4, number8, number-one, within, within_again, pair_format, only_format, whole_takes}
use Rattle.wire.specs.declared.streams.StreamKind.{StreamKind}
use Rattle.wire.specs.declared.streams.StreamKind.TheVariants.{Metadata, Log, RowData, BlobData}
use Rattle.wire.specs.declared.streams.StreamName.{StreamName}
use Rattle.model_streams.specs.declared.manager_record.ManagerRecord.{ManagerRecord}
use Rattle.model_streams.specs.declared.manager_record.ManagerRecord.TheVariants.{First, CreateStream, OpenStreams, Extend, Seal, Trim, MultiModify}
use Rattle.model_streams.specs.RecordBytes.{kind_number, stream_name, flag, source, sources, modify, modifies, spelled, kind_of, kind_at, stream_at, first_at, create_at, open_at, extend_at, seal_at, flag_at, trim_at, source_at, modify_at, multi_modify_at, fields_at, record_of}
use Rattle.laws_records.proofs.Readers.{Takes, of_format, pair_taken, made_taken, counted_taken, whole_taken}

number8_taken : Takes (number 8) (number_at 8)
number8_taken = of_format number8

-- ---- names, flags and nodes

kind_is : (byte : ℕ) (kind : StreamKind) → kind_of byte ≡ Some kind → byte ≡ kind_number kind
kind_is zero kind e = ap kind_number (some_is Metadata kind e)
kind_is (suc zero) kind e = ap kind_number (some_is Log kind e)
kind_is (suc (suc zero)) kind e = ap kind_number (some_is RowData kind e)
kind_is (suc (suc (suc zero))) kind e = ap kind_number (some_is BlobData kind e)
kind_is (suc (suc (suc (suc k)))) kind e = absurd cc

kind_taken : Takes (λ (kind : StreamKind). kind_number kind ∷ []) kind_at
kind_taken = record { taken = by }
  where
    by : (bytes : List ℕ) (kind : StreamKind) (rest : List ℕ) → IsBytes bytes → kind_at bytes ≡ Some (kind, rest) → bytes ≡ kind_number kind ∷ rest
    by [] kind rest fits e = absurd cc
    by (byte ∷ bytes) kind rest fits e =
        let a = bind_some (kind_of byte) (λ k. Some (k, bytes)) (kind, rest) e in
        let made : StreamKind × List ℕ = (a.0, bytes) in
        subst (λ (y : StreamKind × List ℕ). byte ∷ bytes ≡ kind_number y.0 ∷ y.1) (some_is made (kind, rest) a.2) (ap (λ (k : ℕ). k ∷ bytes) (kind_is byte a.0 a.1))

stream_taken : Takes stream_name stream_at
unfolding stream_at
stream_taken = record {
  taken = λ bytes s rest fits e.
      let a = bind_some (number_at 8 bytes) (λ range. kind_at range.1 >>= λ kind. Some (record { range = range.0; kind = kind.0 }, kind.1)) (s, rest) e in
      let b = bind_some (kind_at a.0.1) (λ kind. Some (record { range = a.0.0; kind = kind.0 }, kind.1)) (s, rest) a.2 in
      let x = number8_taken.taken bytes a.0.0 a.0.1 fits a.1 in
      let y = kind_taken.taken a.0.1 b.0.0 b.0.1 (IsBytes-after (number 8 a.0.0) a.0.1 (subst IsBytes x fits)) b.1 in
      let name : StreamName = record { range = a.0.0; kind = b.0.0 } in
      let made : StreamName × List ℕ = (name, b.0.1) in
      let parts : bytes ≡ stream_name name ++ b.0.1 = x ∙ ap (λ (l : List ℕ). number 8 a.0.0 ++ l) y ∙ sym (append_assoc (number 8 a.0.0) (kind_number b.0.0 ∷ []) b.0.1) in
      subst (λ (z : StreamName × List ℕ). bytes ≡ stream_name z.0 ++ z.1) (some_is made (s, rest) b.2) parts;
}

flag_taken : Takes flag flag_at
flag_taken = record { taken = by }
  where
    by : (bytes : List ℕ) (b : Bool) (rest : List ℕ) → IsBytes bytes → flag_at bytes ≡ Some (b, rest) → bytes ≡ flag b ++ rest
    by [] b rest fits e = absurd cc
    by (zero ∷ bytes) b rest fits e = let made : Bool × List ℕ = (false, bytes) in subst (λ (y : Bool × List ℕ). 0 ∷ bytes ≡ flag y.0 ++ y.1) (some_is made (b, rest) e) refl
    by (suc zero ∷ bytes) b rest fits e = let made : Bool × List ℕ = (true, bytes) in subst (λ (y : Bool × List ℕ). 1 ∷ bytes ≡ flag y.0 ++ y.1) (some_is made (b, rest) e) refl
    by (suc (suc k) ∷ bytes) b rest fits e = absurd cc

nodes_taken : Takes nodes nodes_at
unfolding nodes_at
nodes_taken = record {
  taken = λ bytes x rest fits e.
      let a = bind_some (nodes_of bytes) (λ a. cond (are_nodes a.0) (Some a) None) (x, rest) e in
      let g = if_some (are_nodes a.0.0) a.0 (x, rest) a.2 in
      three bytes x rest (a.1 ∙ ap (λ (y : Nodes × List ℕ). Some y) g.1);
}
  where
    three : (bytes : List ℕ) (x : Nodes) (rest : List ℕ) → nodes_of bytes ≡ Some (x, rest) → bytes ≡ nodes x ++ rest
    three [] x rest e = absurd cc
    three (a ∷ []) x rest e = absurd cc
    three (a ∷ b ∷ []) x rest e = absurd cc
    three (a ∷ b ∷ c ∷ more) x rest e =
        let made : Nodes × List ℕ = (record { primary = a; second = b; third = c }, more) in
        subst (λ (y : Nodes × List ℕ). a ∷ b ∷ c ∷ more ≡ nodes y.0 ++ y.1) (some_is made (x, rest) e) refl

-- ---- lists

source_taken : Takes source source_at
unfolding source_at
source_taken = made_taken (pair_taken stream_taken number8_taken) (λ x. record { stream = x.0; generation = x.1 }) source (λ x. refl)

modify_taken : Takes modify modify_at
unfolding modify_at
modify_taken = made_taken (pair_taken stream_taken (counted_taken source_taken sources refl (λ x xs. refl))) (λ x. record { stream = x.0; sources = x.1 }) modify (λ x. refl)

-- ---- records

-- how many nodes the first record tells, and of which target
abbrev pub HasSetup : ManagerRecord → Type 0
HasSetup (First count target) = ((3 ≤ count) × (count ≤ 12)) × IsTarget target
HasSetup r = Unit {0}

abbrev IsSpelled : ℕ → List ℕ → ManagerRecord → Type 0
IsSpelled kind fields r = (kind ∷ fields ≡ spelled r) × HasSetup r

first_spelled : (fields : List ℕ) (r : ManagerRecord) → IsBytes fields → first_at fields ≡ Some r → IsSpelled 1 fields r
unfolding first_at
first_spelled fields r fits e =
    let count = only_format (is_within 3 12) (λ n. (3 ≤ n) × (n ≤ 12)) (within 3 12) (within_again 3 12) number1 in
    let target = only_format (is_within 4096 16777216) IsTarget (within 4096 16777216) (within_again 4096 16777216) number4 in
    let t = whole_takes (pair_format count target) (λ x. First x.0 x.1) fields r fits e in
    let bytes : fields ≡ t.0.0 ∷ number 4 t.0.1 = t.1 ∙ ap (λ (l : List ℕ). l ++ number 4 t.0.1) (number-one t.0.0 t.2.0.0) in
    subst (λ (y : ManagerRecord). IsSpelled 1 fields y) t.3 (ap (λ (l : List ℕ). 1 ∷ l) bytes, (t.2.0.1, t.2.1.1))

create_spelled : (fields : List ℕ) (r : ManagerRecord) → IsBytes fields → create_at fields ≡ Some r → IsSpelled 2 fields r
unfolding create_at
create_spelled fields r fits e =
    let t = whole_taken (pair_taken stream_taken number8_taken) (λ x. CreateStream x.0 x.1) fields r fits e in
    subst (λ (y : ManagerRecord). IsSpelled 2 fields y) t.2 (ap (λ (l : List ℕ). 2 ∷ l) t.1, tt)

open_spelled : (fields : List ℕ) (r : ManagerRecord) → IsBytes fields → open_at fields ≡ Some r → IsSpelled 3 fields r
unfolding open_at
open_spelled fields r fits e =
    let t = whole_taken (pair_taken number8_taken number8_taken) (λ x. OpenStreams x.0 x.1) fields r fits e in
    subst (λ (y : ManagerRecord). IsSpelled 3 fields y) t.2 (ap (λ (l : List ℕ). 3 ∷ l) t.1, tt)

extend_spelled : (fields : List ℕ) (r : ManagerRecord) → IsBytes fields → extend_at fields ≡ Some r → IsSpelled 4 fields r
unfolding extend_at
extend_spelled fields r fits e =
    let t = whole_taken (pair_taken stream_taken (pair_taken number8_taken nodes_taken)) (λ x. Extend x.0 x.1.0 x.1.1) fields r fits e in
    subst (λ (y : ManagerRecord). IsSpelled 4 fields y) t.2 (ap (λ (l : List ℕ). 4 ∷ l) t.1, tt)

seal_spelled : (fields : List ℕ) (r : ManagerRecord) → IsBytes fields → seal_at fields ≡ Some r → IsSpelled 5 fields r
unfolding seal_at
seal_spelled fields r fits e =
    let t = whole_taken (pair_taken number8_taken (of_format number4)) (λ x. Seal x.0 x.1) fields r fits e in
    subst (λ (y : ManagerRecord). IsSpelled 5 fields y) t.2 (ap (λ (l : List ℕ). 5 ∷ l) t.1, tt)

trim_spelled : (fields : List ℕ) (r : ManagerRecord) → IsBytes fields → trim_at fields ≡ Some r → IsSpelled 6 fields r
unfolding trim_at
trim_spelled fields r fits e =
    let t = whole_taken (pair_taken number8_taken (pair_taken number8_taken flag_taken)) (λ x. Trim x.0 x.1.0 x.1.1) fields r fits e in
    subst (λ (y : ManagerRecord). IsSpelled 6 fields y) t.2 (ap (λ (l : List ℕ). 6 ∷ l) t.1, tt)

multi_modify_spelled : (fields : List ℕ) (r : ManagerRecord) → IsBytes fields → multi_modify_at fields ≡ Some r → IsSpelled 7 fields r
unfolding multi_modify_at
multi_modify_spelled fields r fits e =
    let t = whole_taken (counted_taken modify_taken modifies refl (λ x xs. refl)) MultiModify fields r fits e in
    subst (λ (y : ManagerRecord). IsSpelled 7 fields y) t.2 (ap (λ (l : List ℕ). 7 ∷ l) t.1, tt)

fields_spelled : (kind : ℕ) (fields : List ℕ) (r : ManagerRecord) → IsBytes fields → fields_at kind fields ≡ Some r → IsSpelled kind fields r
unfolding fields_at
fields_spelled zero fields r fits e = absurd cc
fields_spelled (suc zero) fields r fits e = first_spelled fields r fits e
fields_spelled (suc (suc zero)) fields r fits e = create_spelled fields r fits e
fields_spelled (suc (suc (suc zero))) fields r fits e = open_spelled fields r fits e
fields_spelled (suc (suc (suc (suc zero)))) fields r fits e = extend_spelled fields r fits e
fields_spelled (suc (suc (suc (suc (suc zero))))) fields r fits e = seal_spelled fields r fits e
fields_spelled (suc (suc (suc (suc (suc (suc zero)))))) fields r fits e = trim_spelled fields r fits e
fields_spelled (suc (suc (suc (suc (suc (suc (suc zero))))))) fields r fits e = multi_modify_spelled fields r fits e
fields_spelled (suc (suc (suc (suc (suc (suc (suc (suc k)))))))) fields r fits e = absurd cc

-- bytes that are read as a record are its spelling
pub text_spelled : (text : List ℕ) (r : ManagerRecord) → IsBytes text → record_of text ≡ Some r → (text ≡ spelled r) × HasSetup r
unfolding record_of
text_spelled [] r fits e = absurd cc
text_spelled (kind ∷ fields) r fits e = fields_spelled kind fields r (IsBytes-after (kind ∷ []) fields fits) e
