-- The two laws of records: what is read is spelled so, and what is spelled so is read.
use Rattle.std.proofs.Common.{◌≡◌, ℕ, true, false, zero, suc, ◌+◌, ◌*◌, ◌^◌, ◌<◌, ◌≤◌, List, [], ◌∷◌, ◌++◌, length, take, drop, Option, Some, None, Result, Ok, Err, refl, sym, ap, subst, ◌∙◌, arith}
use Rattle.std.specs.List.{flat_map, AllByRecursion}
use Rattle.std.specs.Prelude.{IfOk, MatchResult}
use Rattle.std.proofs.lemmas.List.{length-append, take_at, take-take, take-append-drop}
use Rattle.std.proofs.lemmas.Bool.{ltb-true}
use Rattle.std.proofs.lemmas.List.Concat.{flat_map-cons}
use Rattle.memtable.specs.Limits.{is_large}
use Rattle.wire.specs.declared.transaction.Change.{Change}
use Rattle.block_types.specs.Limits.{IsBlock, IsGroup}
use Rattle.blocks.specs.Record.{number}
use Rattle.block_types.specs.declared.fault.BlockFault.{BlockFault}
use Rattle.block_types.specs.declared.fault.BlockFault.TheVariants as faults
use Rattle.blocks.specs.Format.{Gives, ◌>>=◌, number_at}
use Rattle.blocks.proofs.Formats.{IsBytes, bind_some, some_is, number4, length-number}
use Rattle.commitlog.specs.declared.log_record.LogRecord.{LogRecord}
use Rattle.commitlog.specs.declared.text_cell.TextCell.{TextCell}
use Rattle.commitlog.specs.Record.{large, change_values, HasValue, IsChange, transaction_values, text_changes, text_transactions, body, text, cut, piece_count, pieces, spelling, IsTransaction, Fits}
use Rattle.commitlog.specs.Reading.{joined, joined_at, text_at, transactions_of, record_at}
use Rattle.commitlog.proofs.Texts.{BodyFields, FitsBody, FitsTransactions, text_bytes, text_takes, text_again}
use Rattle.commitlog.proofs.Pieces.{length-cut, cut_blocks, joined_takes, joined_again, enough}
use Rattle.commitlog.proofs.Numbering.{length-running, transactions_take, transactions_again, transactions_fit}

-- ---- the text and its blocks

joined_at_takes : (blocks : List (List ℕ)) (t : List ℕ × List (List ℕ)) → joined_at blocks ≡ Some t → blocks ≡ pieces t.0 ++ t.1
unfolding joined_at
joined_at_takes [] t e = absurd cc
joined_at_takes (b ∷ blocks) t e =
    let n = bind_some (number_at 4 b) (λ n. joined 65536 (piece_count n.0) n.0 (b ∷ blocks)) t e in
    let s = joined_takes 65536 (omega arith) (piece_count n.0.0) n.0.0 (b ∷ blocks) t (enough n.0.0).0 n.2 in
    subst (λ (k : ℕ). b ∷ blocks ≡ cut 65536 (piece_count k) t.0 ++ t.1) (sym s.1) s.0

module _ (full : ℕ) (some : 4 ≤ full) where
  first_piece : (t : List ℕ) (m : List ℕ) → t ≡ number 4 (length t) ++ m → length t < 2 ^ 32 → number_at 4 (take full t) ≡ Some (length t, drop 4 (take full t))
  first_piece t m is lt =
      let front : take 4 (take full t) ≡ number 4 (length t) = take-take 4 full t some ∙ ap (λ (l : List ℕ). take 4 l) is ∙ take_at (number 4 (length t)) m 4 (length-number 4 (length t)) in
      let whole : take full t ≡ number 4 (length t) ++ drop 4 (take full t) = sym (take-append-drop 4 (take full t)) ∙ ap (λ (l : List ℕ). l ++ drop 4 (take full t)) front in
      ap (number_at 4) whole ∙ number4.again (length t) (drop 4 (take full t)) lt

  pub joined_from : (n : ℕ) (t : List ℕ) (rest : List (List ℕ)) (m : List ℕ) → t ≡ number 4 (length t) ++ m → length t < 2 ^ 32 → length t ≤ full * n → 1 ≤ n
      → (b : List ℕ) × (blocks : List (List ℕ)) × (cut full n t ++ rest ≡ b ∷ blocks) × (number_at 4 b ≡ Some (length t, drop 4 b)) × (joined full n (length t) (b ∷ blocks) ≡ Some (t, rest))
  joined_from zero t rest m is lt le one = absurd (omega arith)
  joined_from (suc k) t rest m is lt le one =
      (take full t, cut full k (drop full t) ++ rest, refl, first_piece t m is lt, joined_again full (omega arith) (suc k) t rest le)

pub text_length : (r : LogRecord) → (length (text r) ≡ 4 + length (body r)) × (1 ≤ piece_count (length (text r)))
text_length r =
    let size : length (text r) ≡ 4 + length (body r) = omega (arith, length-append (number 4 (4 + length (body r))) (body r), length-number 4 (4 + length (body r))) in
    (size, omega (arith, size, (enough (length (text r))).0))

-- a group that fits has a text of at most 64 blocks
pub text_small : (r : LogRecord) → length (spelling r) ≤ 64 → (length (text r) ≤ 4194304) × (length (flat_map transaction_values r.transactions) ≤ 63)
text_small r le =
    let parts : length (spelling r) ≡ piece_count (length (text r)) + length (flat_map transaction_values r.transactions) = length-append (pieces (text r)) (flat_map transaction_values r.transactions) ∙ ap (λ (k : ℕ). k + length (flat_map transaction_values r.transactions)) (length-cut 65536 (omega arith) (piece_count (length (text r))) (text r)) in
    (omega (arith, parts, (enough (length (text r))).0), omega (arith, parts, (text_length r).1))

joined_at_cons : (b : List ℕ) (blocks : List (List ℕ)) (size : ℕ) (left : List ℕ) (t : List ℕ × List (List ℕ)) → number_at 4 b ≡ Some (size, left) → joined 65536 (piece_count size) size (b ∷ blocks) ≡ Some t → joined_at (b ∷ blocks) ≡ Some t
unfolding joined_at
joined_at_cons b blocks size left t e is = rw e is

joined_at_again : (r : LogRecord) → length (spelling r) ≤ 64 → joined_at (spelling r) ≡ Some (text r, flat_map transaction_values r.transactions)
joined_at_again r le =
    let size : length (text r) ≡ 4 + length (body r) = (text_length r).0 in
    let numbered : text r ≡ number 4 (length (text r)) ++ body r = ap (λ (k : ℕ). number 4 k ++ body r) (sym size) in
    let f = joined_from 65536 (omega arith) (piece_count (length (text r))) (text r) (flat_map transaction_values r.transactions) (body r) numbered (omega (arith, (text_small r le).0)) (enough (length (text r))).0 (text_length r).1 in
    ap joined_at f.2 ∙ joined_at_cons f.0 f.1 (length (text r)) (drop 4 f.0) (text r, flat_map transaction_values r.transactions) f.3 f.4

-- ---- records

pub record_takes : (blocks : List (List ℕ)) (r : LogRecord) → length blocks ≤ 64 → ((t : List ℕ × List (List ℕ)) → joined_at blocks ≡ Some t → IsBytes t.0) → record_at blocks ≡ Some r → Fits r × (spelling r ≡ blocks)
unfolding record_at
record_takes blocks r few fits e =
    let make : ℕ → List (List Change) → LogRecord = λ first ts. record { first = first; transactions = ts } in
    let t = bind_some (joined_at blocks) (λ t. text_at t.0 >>= λ x. transactions_of t.1 x.1 >>= λ ts. Some (make x.0 ts)) r e in
    let x = bind_some (text_at t.0.0) (λ x. transactions_of t.0.1 x.1 >>= λ ts. Some (make x.0 ts)) r t.2 in
    let ts = bind_some (transactions_of t.0.1 x.0.1) (λ ts. Some (make x.0.0 ts)) r x.2 in
    let sj = joined_at_takes blocks t.0 t.1 in
    let sx = text_takes t.0.0 x.0 (fits t.0 t.1) x.1 in
    let st = transactions_take t.0.1 x.0.1 ts.0 sx.1.0.1.1 ts.1 in
    let made : LogRecord = record { first = x.0.0; transactions = ts.0 } in
    let text-is : t.0.0 ≡ text made = sx.0 ∙ ap (λ (l : List (List (List ℕ × TextCell))). text_bytes (x.0.0, l)) st.0 in
    let spelled : blocks ≡ spelling made = sj ∙ ap (λ (l : List ℕ). pieces l ++ t.0.1) text-is ∙ ap (λ (l : List (List ℕ)). pieces (text made) ++ l) st.1 in
    let size : length x.0.1 ≡ length ts.0 = ap length st.0 ∙ length-running text_changes (λ u. length (transaction_values u)) 0 ts.0 in
    let made-fits : Fits made = record {
      numbered = (sx.1.1.0, omega (arith, size, sx.1.1.1));
      count = (omega (arith, size, sx.1.0.1.0.1.0), omega (arith, size, sx.1.0.1.0.1.1));
      transactions = st.2;
      blocks = omega (arith, few, ap length spelled);
    } in
    subst (λ (y : LogRecord). Fits y × (spelling y ≡ blocks)) (some_is made r ts.2) (made-fits, sym spelled)

pub record_again : (r : LogRecord) → Fits r → record_at (spelling r) ≡ Some r
unfolding record_at
record_again r fits =
    let items : List (List (List ℕ × TextCell)) = text_transactions 0 r.transactions in
    let size : length (text_transactions 0 r.transactions) ≡ length r.transactions = length-running text_changes (λ u. length (transaction_values u)) 0 r.transactions in
    let fields : BodyFields = (r.first, text_transactions 0 r.transactions) in
    let small = text_small r fits.blocks in
    let all : FitsTransactions (text_transactions 0 r.transactions) =
    ((omega (arith, size, fits.count), (omega (arith, size, fits.count), omega (arith, size, fits.count))), transactions_fit r.transactions (omega (arith, small.1)) fits.transactions) in
    let fields-fit : FitsBody (r.first, text_transactions 0 r.transactions) = ((omega (arith, fits.numbered), all), (fits.numbered.0, omega (arith, size, fits.numbered))) in
    let read : text_at (text r) ≡ Some (r.first, text_transactions 0 r.transactions) = text_again (r.first, text_transactions 0 r.transactions) fields-fit (omega (arith, small.0)) in
    rw (joined_at_again r fits.blocks, read, transactions_again r.transactions fits.transactions) refl

pub is_found : (blocks : List (List ℕ)) (x : Result LogRecord BlockFault) → length blocks ≤ 64 → IfOk x (λ r. (t : List ℕ × List (List ℕ)) → joined_at blocks ≡ Some t → IsBytes t.0) → Gives (λ y. y) x (record_at blocks)
    → IfOk x (λ r. Fits r × (spelling r ≡ blocks))
is_found blocks (Ok r) few bytes given = record_takes blocks r few bytes given
is_found blocks (Err e) few bytes given = tt

pub is_only : (blocks : List (List ℕ)) (x : Result LogRecord BlockFault) → Gives (λ y. y) x (record_at blocks) → (r : LogRecord) → Fits r → spelling r ≡ blocks → MatchResult x (λ y. y ≡ r) (λ e. e ≡ faults.Memory)
is_only blocks (Ok y) given r fits is = some_is y r (sym given ∙ ap record_at (sym is) ∙ record_again r fits)
is_only blocks (Err faults.Memory) given r fits is = refl
is_only blocks (Err faults.Damaged) given r fits is = absurd (cc (given, ap record_at (sym is), record_again r fits))

-- one spelling, one record
pub one_spelling_law : (a b : LogRecord) → Fits a → Fits b → spelling a ≡ spelling b → a ≡ b
one_spelling_law a b fa fb same = some_is a b (sym (record_again a fa) ∙ ap record_at same ∙ record_again b fb)

-- ---- the group

All-append : (P : List ℕ → Type 0) (xs ys : List (List ℕ)) → AllByRecursion P xs → AllByRecursion P ys → AllByRecursion P (xs ++ ys)
All-append P [] ys p q = q
All-append P (x ∷ xs) ys p q = (p.0, All-append P xs ys p.1 q)

value_blocks : (value : Option (List ℕ)) → HasValue value → AllByRecursion IsBlock (large value)
value_blocks None h = tt
value_blocks (Some v) h =
    elim (is_large v) as (λ b. is_large v ≡ b → AllByRecursion IsBlock (large (Some v))) [
      | true ↦ λ is.
          let long : 4096 < length v = ltb-true _ _ is in
          rw is ((omega arith, h), tt)
      | false ↦ λ is. rw is tt
    ] refl

transaction_blocks : (t : List Change) → AllByRecursion IsChange t → AllByRecursion IsBlock (transaction_values t)
transaction_blocks [] p = tt
transaction_blocks (c ∷ t) p = rw flat_map-cons (All-append IsBlock (change_values c) (transaction_values t) (value_blocks c.value p.0.1) (transaction_blocks t p.1))

all_blocks : (ts : List (List Change)) → AllByRecursion IsTransaction ts → AllByRecursion IsBlock (flat_map transaction_values ts)
all_blocks [] p = tt
all_blocks (t ∷ ts) p = rw flat_map-cons (All-append IsBlock (transaction_values t) (flat_map transaction_values ts) (transaction_blocks t p.0.1) (all_blocks ts p.1))

-- a record that has room is spelled as a group
pub is_group_of : (r : LogRecord) → length (spelling r) ≤ 64 → AllByRecursion IsTransaction r.transactions → IsGroup (spelling r)
is_group_of r room fits =
    let parts : length (spelling r) ≡ length (pieces (text r)) + length (flat_map transaction_values r.transactions) = length-append (pieces (text r)) (flat_map transaction_values r.transactions) in
    let count : length (pieces (text r)) ≡ piece_count (length (text r)) = length-cut 65536 (omega arith) (piece_count (length (text r))) (text r) in
    (omega (arith, parts, count, (text_length r).1), room, All-append IsBlock (pieces (text r)) (flat_map transaction_values r.transactions) (cut_blocks 65536 (omega arith) (omega arith) (piece_count (length (text r))) (text r) (enough (length (text r))).1) (all_blocks r.transactions fits))

-- a record that fits is spelled as a group
pub is_group : (r : LogRecord) → Fits r → IsGroup (spelling r)
is_group r fits = is_group_of r fits.blocks fits.transactions
