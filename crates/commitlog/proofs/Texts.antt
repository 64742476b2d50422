-- The text of a record: what is read is what was written, and what was written is read again.
use Rattle.std.proofs.Common.{◌≡◌, ℕ, zero, suc, ◌+◌, ◌^◌, ◌<◌, ◌≤◌, Bool, true, List, [], ◌∷◌, ◌++◌, length, Some, refl, sym, ap, subst, ◌∙◌, append_assoc, arith, eq-eqb}
use Rattle.std.specs.List.{AllByRecursion}
use Rattle.std.specs.Prelude.{nat_le, nat_lt, ◌==◌}
use Rattle.std.proofs.lemmas.Bool.{and_parts, and_from, leb-true, le-leb, ltb-true, lt-ltb, eqb-true}
use Rattle.std.proofs.lemmas.List.{length-append}
use Rattle.blocks.specs.Record.{number}
use Rattle.blocks.specs.Format.{◌>>=◌, number_at, bytes_at, only_at, whole}
use Rattle.block_types.specs.Limits.{is_within}
use Rattle.blocks.proofs.Formats.{IsBytes, IsBytes-after, bind_some, some_is, IsFormat, number1, number2, number4, number8, length-number, within, within_again, bytes_takes, bytes_again, pair_format, only_format, counted_format, whole_takes, whole_again}
use Rattle.memtable.specs.Limits.{IsKey}
use Rattle.commitlog.specs.declared.text_cell.TextCell.{TextCell}
use Rattle.commitlog.specs.declared.text_cell.TextCell.TheVariants.{Deleted, Inline, Large}
use Rattle.commitlog.specs.Record.{key_bytes, cell_bytes, change_bytes, transaction_bytes, transactions_bytes}
use Rattle.commitlog.specs.Reading.{counted_at, is_small, large_at, fields_at, cell_at, change_at, transaction_at, transactions_at, is_numbered, body_at, text_at}

-- a length and so many bytes
sized_format : (w : ℕ) (P : ℕ → Type 0) (test : ℕ → Bool) (Q : ℕ → Type 0) → ((n : ℕ) → test n ≡ true → Q n) → ((n : ℕ) → Q n → test n ≡ true) → IsFormat (number w) (number_at w) P
    → IsFormat (λ (b : List ℕ). number w (length b) ++ b) (counted_at w test) (λ (b : List ℕ). P (length b) × Q (length b))
unfolding counted_at
sized_format w P test Q sound complete wide = record {
  takes = λ bytes x rest fits e.
      let N = only_format test Q sound complete wide in
      let n = bind_some (only_at test (number_at w) bytes) (λ n. bytes_at n.0 n.1) (x, rest) e in
      let sn = N.takes bytes n.0.0 n.0.1 fits n.1 in
      let sb = bytes_takes n.0.0 n.0.1 x rest n.2 in
      let parts : bytes ≡ number w n.0.0 ++ (x ++ rest) = sn.0 ∙ ap (λ (l : List ℕ). number w n.0.0 ++ l) sb.0 in
      let counted : bytes ≡ number w (length x) ++ (x ++ rest) = subst (λ (k : ℕ). bytes ≡ number w k ++ (x ++ rest)) (sym sb.1) parts in
      (counted ∙ sym (append_assoc (number w (length x)) x rest), subst (λ (k : ℕ). P k × Q k) (sym sb.1) sn.1);
  again = λ x rest fits.
      let N = only_format test Q sound complete wide in
      ap (counted_at w test) (append_assoc (number w (length x)) x rest) ∙ rw (N.again (length x) (x ++ rest) fits, bytes_again x rest) refl;
}

key_format : IsFormat key_bytes (counted_at 2 (is_within 1 256)) (λ (k : List ℕ). (length k < 2 ^ 16) × IsKey k)
key_format = sized_format 2 (λ n. n < 2 ^ 16) (is_within 1 256) (λ n. (1 ≤ n) × (n ≤ 256)) (within 1 256) (within_again 1 256) number2

inline_format : IsFormat (λ (v : List ℕ). number 4 (length v) ++ v) (counted_at 4 is_small) (λ (v : List ℕ). (length v < 2 ^ 32) × (length v ≤ 4096))
inline_format = sized_format 4 (λ n. n < 2 ^ 32) is_small (λ n. n ≤ 4096) (λ n e. leb-true _ _ e) (λ n h. le-leb _ _ h) number4

large_format : IsFormat (λ (x : ℕ × ℕ). number 1 x.0 ++ number 4 x.1) large_at (λ (x : ℕ × ℕ). (x.0 < 2 ^ 8) × ((x.1 < 2 ^ 32) × ((4097 ≤ x.1) × (x.1 ≤ 65536))))
unfolding large_at
large_format = pair_format number1 (only_format (is_within 4097 65536) (λ n. (4097 ≤ n) × (n ≤ 65536)) (within 4097 65536) (within_again 4097 65536) number4)

-- what the text may have as a cell
abbrev pub FitsCell : TextCell → Type 0
FitsCell Deleted = Unit {0}
FitsCell (Inline v) = length v ≤ 4096
FitsCell (Large n size) = (n < 2 ^ 8) × ((4097 ≤ size) × (size ≤ 65536))

fields_takes : (kind : ℕ) (fields : List ℕ) (x : TextCell) (rest : List ℕ) → IsBytes fields → fields_at kind fields ≡ Some (x, rest) → (kind ∷ fields ≡ cell_bytes x ++ rest) × FitsCell x
unfolding fields_at
fields_takes zero fields x rest fits e =
    let made : TextCell × List ℕ = (Deleted, fields) in
    subst (λ (y : TextCell × List ℕ). (0 ∷ fields ≡ cell_bytes y.0 ++ y.1) × FitsCell y.0) (some_is made (x, rest) e) (refl, tt)
fields_takes (suc zero) fields x rest fits e =
    let v = bind_some (counted_at 4 is_small fields) (λ v. Some (Inline v.0, v.1)) (x, rest) e in
    let s = inline_format.takes fields v.0.0 v.0.1 fits v.1 in
    let made : TextCell × List ℕ = (Inline v.0.0, v.0.1) in
    subst (λ (y : TextCell × List ℕ). (1 ∷ fields ≡ cell_bytes y.0 ++ y.1) × FitsCell y.0) (some_is made (x, rest) v.2) (ap (λ (l : List ℕ). 1 ∷ l) s.0, s.1.1)
fields_takes (suc (suc zero)) fields x rest fits e =
    let v = bind_some (large_at fields) (λ v. Some (Large v.0.0 v.0.1, v.1)) (x, rest) e in
    let s = large_format.takes fields v.0.0 v.0.1 fits v.1 in
    let made : TextCell × List ℕ = (Large v.0.0.0 v.0.0.1, v.0.1) in
    subst (λ (y : TextCell × List ℕ). (2 ∷ fields ≡ cell_bytes y.0 ++ y.1) × FitsCell y.0) (some_is made (x, rest) v.2) (ap (λ (l : List ℕ). 2 ∷ l) s.0, (s.1.0, s.1.1.1))
fields_takes (suc (suc (suc k))) fields x rest fits e = absurd cc

cell_takes : (bytes : List ℕ) (x : TextCell) (rest : List ℕ) → IsBytes bytes → cell_at bytes ≡ Some (x, rest) → (bytes ≡ cell_bytes x ++ rest) × FitsCell x
unfolding cell_at
cell_takes [] x rest fits e = absurd cc
cell_takes (kind ∷ fields) x rest fits e = fields_takes kind fields x rest (IsBytes-after (kind ∷ []) fields fits) e

cell_again : (x : TextCell) (rest : List ℕ) → FitsCell x → cell_at (cell_bytes x ++ rest) ≡ Some (x, rest)
unfolding cell_at fields_at
cell_again Deleted rest fits = refl
cell_again (Inline v) rest fits = rw (inline_format.again v rest (omega (arith, fits), fits)) refl
cell_again (Large n size) rest fits = rw (large_format.again (n, size) rest (fits.0, (omega (arith, fits.1), fits.1))) refl

cell_format : IsFormat cell_bytes cell_at FitsCell
cell_format = record { takes = cell_takes; again = cell_again }

-- a change, the changes of a transaction, and the transactions
abbrev pub FitsChange : List ℕ × TextCell → Type 0
FitsChange c = ((length c.0 < 2 ^ 16) × IsKey c.0) × FitsCell c.1

abbrev pub FitsChanges : List (List ℕ × TextCell) → Type 0
FitsChanges t = ((length t < 2 ^ 8) × ((1 ≤ length t) × (length t ≤ 32))) × AllByRecursion FitsChange t

abbrev pub FitsTransactions : List (List (List ℕ × TextCell)) → Type 0
FitsTransactions ts = ((length ts < 2 ^ 16) × ((1 ≤ length ts) × (length ts ≤ 1024))) × AllByRecursion FitsChanges ts

change_format : IsFormat change_bytes change_at FitsChange
unfolding change_at
change_format = pair_format key_format cell_format

pub transaction_format : IsFormat transaction_bytes transaction_at FitsChanges
unfolding transaction_at
transaction_format = counted_format (only_format (is_within 1 32) (λ n. (1 ≤ n) × (n ≤ 32)) (within 1 32) (within_again 1 32) number1) change_format

transactions_format : IsFormat transactions_bytes transactions_at FitsTransactions
unfolding transactions_at
transactions_format = counted_format (only_format (is_within 1 1024) (λ n. (1 ≤ n) × (n ≤ 1024)) (within 1 1024) (within_again 1 1024) number2) transaction_format

abbrev pub BodyFields : Type 0
BodyFields = ℕ × List (List (List ℕ × TextCell))

abbrev pub FitsBody : BodyFields → Type 0
FitsBody x = ((x.0 < 2 ^ 64) × FitsTransactions x.1) × ((1 ≤ x.0) × (x.0 + length x.1 < 2 ^ 64))

abbrev pub body_bytes : BodyFields → List ℕ
body_bytes x = number 8 x.0 ++ transactions_bytes x.1

numbered_sound : (x : BodyFields) → is_numbered x ≡ true → (1 ≤ x.0) × (x.0 + length x.1 < 2 ^ 64)
numbered_sound x e = let p = and_parts (nat_le 1 x.0) (nat_lt (x.0 + length x.1) (2 ^ 64)) e in (leb-true _ _ p.0, ltb-true _ _ p.1)

numbered_complete : (x : BodyFields) → (1 ≤ x.0) × (x.0 + length x.1 < 2 ^ 64) → is_numbered x ≡ true
numbered_complete x h = and_from (nat_le 1 x.0) (nat_lt (x.0 + length x.1) (2 ^ 64)) (le-leb _ _ h.0) (lt-ltb _ _ h.1)

body_format : IsFormat body_bytes body_at FitsBody
unfolding body_at
body_format = only_format is_numbered (λ (x : BodyFields). (1 ≤ x.0) × (x.0 + length x.1 < 2 ^ 64)) numbered_sound numbered_complete (pair_format number8 transactions_format)

-- the text
abbrev pub text_bytes : BodyFields → List ℕ
text_bytes x = number 4 (4 + length (body_bytes x)) ++ body_bytes x

pub text_takes : (bytes : List ℕ) (y : BodyFields) → IsBytes bytes → text_at bytes ≡ Some y → (bytes ≡ text_bytes y) × FitsBody y
unfolding text_at
text_takes bytes y fits e =
    let N = only_format (λ n. n == length bytes) (λ n. n ≡ length bytes) (λ x e. eqb-true _ _ e) (λ x h. eq-eqb _ _ h) number4 in
    let n = bind_some (only_at (λ n. n == length bytes) (number_at 4) bytes) (λ n. body_at n.1 >>= λ x. whole (Some (x.0, x.1))) y e in
    let s = N.takes bytes n.0.0 n.0.1 fits n.1 in
    let t = whole_takes body_format (λ (x : BodyFields). x) n.0.1 y (IsBytes-after (number 4 n.0.0) n.0.1 (subst IsBytes s.0 fits)) n.2 in
    let parts : bytes ≡ number 4 n.0.0 ++ body_bytes t.0 = s.0 ∙ ap (λ (l : List ℕ). number 4 n.0.0 ++ l) t.1 in
    let size : n.0.0 ≡ 4 + length (body_bytes t.0) = s.1.1 ∙ ap length parts ∙ omega (arith, length-append (number 4 n.0.0) (body_bytes t.0), length-number 4 n.0.0) in
    subst (λ (x : BodyFields). (bytes ≡ text_bytes x) × FitsBody x) t.3 (subst (λ (k : ℕ). bytes ≡ number 4 k ++ body_bytes t.0) size parts, t.2)

pub text_again : (x : BodyFields) → FitsBody x → length (text_bytes x) < 2 ^ 32 → text_at (text_bytes x) ≡ Some x
unfolding text_at
text_again x fits lt =
    let size : length (text_bytes x) ≡ 4 + length (body_bytes x) = omega (arith, length-append (number 4 (4 + length (body_bytes x))) (body_bytes x), length-number 4 (4 + length (body_bytes x))) in
    let N = only_format (λ n. n == length (text_bytes x)) (λ n. n ≡ length (text_bytes x)) (λ x e. eqb-true _ _ e) (λ x h. eq-eqb _ _ h) number4 in
    rw (N.again (4 + length (body_bytes x)) (body_bytes x) (omega (arith, lt, size), sym size)) (whole_again body_format (λ (x : BodyFields). x) x fits)
