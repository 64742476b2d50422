-- The text of a group as it grows.
use Rattle.std.proofs.Common.{◌≡◌, ℕ, ◌+◌, ◌<◌, ◌≤◌, ◌^◌, List, [], ◌∷◌, ◌++◌, length, Option, Some, None, true, false, refl, sym, ap, subst, ◌∙◌, arith}
use Rattle.std.specs.List.{flat_map, sum_by, AllByRecursion}
use Rattle.std.specs.Prelude.{nat_le}
use Rattle.std.proofs.lemmas.Bool.{leb-true, leb-false}
use Rattle.std.proofs.lemmas.List.{append-nil, length-append}
use Rattle.std.proofs.lemmas.List.Concat.{flat_map-cons}
use Rattle.std.proofs.lemmas.List.Sums.{sum_by-cons}
use Rattle.wire.specs.declared.transaction.Change.{Change}
use Rattle.blocks.specs.Record.{number}
use Rattle.blocks.specs.Format.{many_at}
use Rattle.blocks.proofs.Formats.{many_again, length-number}
use Rattle.block_types.specs.Limits.{IsGroup}
use Rattle.memtable.specs.Limits.{is_large}
use Rattle.commitlog.specs.declared.log_record.LogRecord.{LogRecord}
use Rattle.commitlog.specs.declared.text_cell.TextCell.{TextCell}
use Rattle.commitlog.specs.Record.{large, change_values, transaction_values, text_changes, text_transactions, transaction_bytes, transactions_bytes, body, text, piece_count, pieces, spelling, IsTransaction}
use Rattle.commitlog.specs.Reading.{transaction_at, transactions_of}
use Rattle.commitlog.specs.Sizes.{transaction_size, text_size, HasRoom}
use Rattle.commitlog.specs.Growing.{held, IsTextOf}
use Rattle.commitlog.proofs.Texts.{FitsChanges, transaction_format}
use Rattle.commitlog.proofs.Numbering.{transactions_again, transactions_fit, length-text_transactions}
use Rattle.commitlog.proofs.Entries.{All-append}
use Rattle.commitlog.proofs.Laws.{is_group_of}
use Rattle.commitlog.proofs.Measures.{flat_map-push, length-transaction, length-transactions, length-spelling, length-spelling-push}

-- ---- one transaction more

numbered-push : (n : ℕ) (ts : List (List Change)) (t : List Change) → text_transactions n (ts ++ t ∷ []) ≡ text_transactions n ts ++ text_changes (n + length (flat_map transaction_values ts)) t ∷ []
numbered-push n [] t =
    let same : n ≡ n + 0 = omega arith in
    ap (λ (k : ℕ). text_changes k t ∷ []) same
numbered-push n (u ∷ ts) t =
    let next : ℕ = n + length (transaction_values u) in
    let same : (n + length (transaction_values u)) + length (flat_map transaction_values ts) ≡ n + length (flat_map transaction_values (u ∷ ts)) =
    omega (arith, ap length (flat_map-cons transaction_values u ts), length-append (transaction_values u) (flat_map transaction_values ts)) in
    ap (λ (l : List (List (List ℕ × TextCell))). text_changes n u ∷ l)
    (numbered-push next ts t ∙ ap (λ (k : ℕ). text_transactions (n + length (transaction_values u)) ts ++ text_changes k t ∷ []) same)

bytes-push : (ts : List (List Change)) (t : List Change)
    → flat_map transaction_bytes (text_transactions 0 (ts ++ t ∷ [])) ≡ flat_map transaction_bytes (text_transactions 0 ts) ++ transaction_bytes (text_changes (length (flat_map transaction_values ts)) t)
bytes-push ts t =
    let same : 0 + length (flat_map transaction_values ts) ≡ length (flat_map transaction_values ts) = omega arith in
    ap (flat_map transaction_bytes) (numbered-push 0 ts t)
    ∙ flat_map-push transaction_bytes (text_transactions 0 ts) (text_changes (0 + length (flat_map transaction_values ts)) t)
    ∙ ap (λ (k : ℕ). flat_map transaction_bytes (text_transactions 0 ts) ++ transaction_bytes (text_changes k t)) same

-- a transaction has a byte at least
long : (ts : List (List Change)) → length ts ≤ sum_by transaction_size ts
long [] = omega arith
long (t ∷ ts) = omega (arith, sum_by-cons transaction_size t ts, long ts)

-- ---- what is held

one_large : (value : Option (List ℕ)) → length (large value) ≤ 1
one_large None = omega arith
one_large (Some v) =
    elim (is_large v) as (λ b. is_large v ≡ b → length (large (Some v)) ≤ 1) [
      | true ↦ λ is. rw is (omega arith)
      | false ↦ λ is. rw is (omega arith)
    ] refl

-- a transaction has at most as many large values as changes
pub few_large : (t : List Change) → length (transaction_values t) ≤ length t
few_large [] = omega arith
few_large (c ∷ t) = omega (arith, ap length (flat_map-cons change_values c t), length-append (change_values c) (transaction_values t), one_large c.value, few_large t)

module _ (ts : List (List Change)) (bytes : List ℕ) (values : List (List ℕ)) (count : ℕ) (is : IsTextOf ts bytes values count) where
  pub held_is : held bytes values count ≡ ts
  unfolding held
  held_is =
      let few : length (flat_map transaction_values ts) ≤ 256 = omega (arith, is.room, ap length is.large) in
      let whole : bytes ≡ flat_map transaction_bytes (text_transactions 0 ts) ++ [] = is.written ∙ sym (append-nil (flat_map transaction_bytes (text_transactions 0 ts))) in
      let many : count ≡ length (text_transactions 0 ts) = is.counted ∙ sym (length-text_transactions 0 ts) in
      let read : many_at transaction_at count bytes ≡ Some (text_transactions 0 ts, []) =
      ap (λ (n : ℕ). many_at transaction_at n bytes) many ∙ ap (many_at transaction_at (length (text_transactions 0 ts))) whole
      ∙ many_again transaction_bytes transaction_at FitsChanges transaction_format (text_transactions 0 ts) [] (transactions_fit ts few is.transactions) in
      let found : transactions_of values (text_transactions 0 ts) ≡ Some ts = ap (λ (v : List (List ℕ)). transactions_of v (text_transactions 0 ts)) is.large ∙ transactions_again ts is.transactions in
      rw (read, found) refl

  pub is_held : IsTextOf (held bytes values count) bytes values count
  is_held = subst (λ (us : List (List Change)). IsTextOf us bytes values count) (sym held_is) is

  length-bytes : 14 + length bytes ≡ text_size ts
  length-bytes = omega (arith, ap length is.written, length-transactions 0 ts)

  pub has_room : HasRoom ts
  has_room = λ first. omega (arith, is.room, length-spelling (record { first = first; transactions = ts }), ap piece_count length-bytes, ap length is.large)

  pub one_more : (t : List Change) (bytes2 : List ℕ) (values2 : List (List ℕ)) → IsTransaction t → bytes2 ≡ bytes ++ transaction_bytes (text_changes (length values) t) → values2 ≡ values ++ transaction_values t
      → piece_count (14 + length bytes2) + length values2 ≤ 64 → IsTextOf (ts ++ t ∷ []) bytes2 values2 (count + 1)
  one_more t bytes2 values2 fits bytes_are values_are room = record {
    transactions = All-append IsTransaction ts (t ∷ []) is.transactions (fits, tt);
    counted = omega (arith, is.counted, length-append ts (t ∷ []));
    written = bytes_are ∙ ap (λ (k : ℕ). bytes ++ transaction_bytes (text_changes k t)) (ap length is.large)
        ∙ ap (λ (l : List ℕ). l ++ transaction_bytes (text_changes (length (flat_map transaction_values ts)) t)) is.written ∙ sym (bytes-push ts t);
    large = values_are ∙ ap (λ (l : List (List ℕ)). l ++ transaction_values t) is.large ∙ sym (flat_map-push transaction_values ts t);
    room = room;
  }

  pub no_room : (t : List Change) (size : ℕ) → size ≡ 14 + length bytes + length (transaction_bytes (text_changes (length values) t)) → 64 < piece_count size + (length values + length (transaction_values t))
      → HasRoom (ts ++ t ∷ []) → ⊥
  no_room t size size_is many room =
      let sized : size ≡ text_size ts + transaction_size t = omega (arith, size_is, length-bytes, length-transaction (length values) t) in
      omega (arith, many, room 1, length-spelling-push 1 ts t, ap piece_count sized, ap length is.large)

  -- as the code counts: the number of the next large value, and the bytes of the text and of the transaction
  pub grows : (t : List Change) (number size more next : ℕ) (scratch bytes2 : List ℕ) (values2 : List (List ℕ)) → IsTransaction t → number ≡ length values → size ≡ length bytes → more ≡ length scratch
      → scratch ≡ transaction_bytes (text_changes number t) → next ≡ number + length (transaction_values t) → bytes2 ≡ bytes ++ scratch → values2 ≡ values ++ transaction_values t
      → nat_le (piece_count (14 + size + more) + next) 64 ≡ true → IsTextOf (ts ++ t ∷ []) bytes2 values2 (count + 1)
  grows t number size more next scratch bytes2 values2 fits number_is size_is more_is scratch_is next_is bytes_are values_are room =
      let text_is : bytes2 ≡ bytes ++ transaction_bytes (text_changes (length values) t) = bytes_are ∙ ap (λ (l : List ℕ). bytes ++ l) (scratch_is ∙ ap (λ (k : ℕ). transaction_bytes (text_changes k t)) number_is) in
      let sized : 14 + size + more ≡ 14 + length bytes2 = omega (arith, size_is, more_is, ap length bytes_are, length-append bytes scratch) in
      let counted : next ≡ length values2 = omega (arith, next_is, number_is, ap length values_are, length-append values (transaction_values t)) in
      let below : piece_count (14 + size + more) + next ≤ 64 = leb-true _ _ room in
      one_more t bytes2 values2 fits text_is values_are (omega (arith, below, ap piece_count sized, counted))

  pub refuses : (t : List Change) (number size more next : ℕ) (scratch : List ℕ) → number ≡ length values → size ≡ length bytes → more ≡ length scratch
      → scratch ≡ transaction_bytes (text_changes number t) → next ≡ number + length (transaction_values t) → nat_le (piece_count (14 + size + more) + next) 64 ≡ false → HasRoom (ts ++ t ∷ []) → ⊥
  refuses t number size more next scratch number_is size_is more_is scratch_is next_is full =
      let sized : 14 + size + more ≡ 14 + length bytes + length (transaction_bytes (text_changes (length values) t)) =
      omega (arith, size_is, more_is, ap length (scratch_is ∙ ap (λ (k : ℕ). transaction_bytes (text_changes k t)) number_is)) in
      let above : 64 < piece_count (14 + size + more) + next = leb-false _ _ full in
      no_room t (14 + size + more) sized (omega (arith, above, next_is, number_is))

  pub few : count ≤ 4194304
  few = omega (arith, is.counted, long ts, length-bytes, is.room)

  -- the text of the record of these transactions
  text_is : (first : ℕ) (whole : List ℕ) → whole ≡ number 4 (14 + length bytes) ++ (number 8 first ++ (number 2 count ++ bytes)) → whole ≡ text (record { first = first; transactions = ts })
  text_is first whole whole_is =
      let r : LogRecord = record { first = first; transactions = ts } in
      let items : List (List (List ℕ × TextCell)) = text_transactions 0 ts in
      let rest : number 8 first ++ (number 2 count ++ bytes) ≡ body (record { first = first; transactions = ts }) =
      ap (λ (k : ℕ). number 8 first ++ (number 2 k ++ bytes)) (is.counted ∙ sym (length-text_transactions 0 ts))
      ∙ ap (λ (l : List ℕ). number 8 first ++ (number 2 (length (text_transactions 0 ts)) ++ l)) is.written in
      let size : 14 + length bytes ≡ 4 + length (body (record { first = first; transactions = ts })) =
      omega (arith, ap length rest, length-append (number 8 first) (number 2 count ++ bytes), length-number 8 first, length-append (number 2 count) bytes, length-number 2 count) in
      whole_is ∙ ap (λ (k : ℕ). number 4 k ++ (number 8 first ++ (number 2 count ++ bytes))) size ∙ ap (λ (l : List ℕ). number 4 (4 + length (body (record { first = first; transactions = ts }))) ++ l) rest

  pub group_is : (first : ℕ) (whole : List ℕ) (made : List (List ℕ)) → whole ≡ number 4 (14 + length bytes) ++ (number 8 first ++ (number 2 count ++ bytes)) → made ≡ pieces whole ++ values
      → (made ≡ spelling (record { first = first; transactions = ts })) × IsGroup made
  group_is first whole made whole_is made_is =
      let spelled : made ≡ spelling (record { first = first; transactions = ts }) =
      made_is ∙ ap (λ (l : List ℕ). pieces l ++ values) (text_is first whole whole_is) ∙ ap (λ (l : List (List ℕ)). pieces (text (record { first = first; transactions = ts })) ++ l) is.large in
      (spelled, subst IsGroup (sym spelled) (is_group_of (record { first = first; transactions = ts }) (has_room first) is.transactions))

pub none_held : (bytes : List ℕ) (values : List (List ℕ)) → bytes ≡ [] → values ≡ [] → IsTextOf [] bytes values 0
none_held bytes values no_bytes no_values = record {
  transactions = tt;
  counted = refl;
  written = no_bytes;
  large = no_values;
  room = omega (arith, ap length no_bytes, ap length no_values);
}

-- the same transactions by another name
pub seen : (ts : List (List Change)) (bytes : List ℕ) (values : List (List ℕ)) (count : ℕ) → held bytes values count ≡ ts → IsTextOf (held bytes values count) bytes values count → IsTextOf ts bytes values count
seen ts bytes values count same is = subst (λ (us : List (List Change)). IsTextOf us bytes values count) same is
