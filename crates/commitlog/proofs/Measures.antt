-- How long the text is, and how many blocks the group has.
use Rattle.std.proofs.Common.{◌≡◌, ℕ, ◌+◌, ◌≤◌, true, false, List, [], ◌∷◌, ◌++◌, length, take, drop, Option, Some, None, refl, ap, ◌∙◌, arith}
use Rattle.std.specs.List.{flat_map, sum_by}
use Rattle.std.proofs.lemmas.List.{length-append, append-nil, take-append-drop}
use Rattle.std.proofs.lemmas.List.Concat.{flat_map-cons, flat_map-append}
use Rattle.std.proofs.lemmas.List.Sums.{sum_by-cons, sum_by_push, sum_by-append}
use Rattle.block_types.specs.Limits.{group_size}
use Rattle.blocks.specs.Record.{number}
use Rattle.blocks.proofs.Formats.{length-number}
use Rattle.wire.specs.declared.transaction.Change.{Change}
use Rattle.memtable.specs.Limits.{is_large}
use Rattle.commitlog.specs.declared.log_record.LogRecord.{LogRecord}
use Rattle.commitlog.specs.Record.{change_values, transaction_values, text_cell, text_change, text_changes, text_transactions, cell_bytes, key_bytes, change_bytes, transaction_bytes, transactions_bytes, body, text, piece_count, pieces, spelling, Fits}
use Rattle.commitlog.specs.Sizes.{cell_size, change_size, transaction_size, text_size, HasRoom}
use Rattle.commitlog.proofs.Pieces.{length-cut, enough, cut_size}
use Rattle.commitlog.proofs.Laws.{text_length, text_small}

length-cell : (n : ℕ) (value : Option (List ℕ)) → length (cell_bytes (text_cell n value)) ≡ cell_size value
length-cell n None = refl
length-cell n (Some v) =
    elim (is_large v) as (λ b. is_large v ≡ b → length (cell_bytes (text_cell n (Some v))) ≡ cell_size (Some v)) [
      | true ↦ λ is. rw is (omega (arith, length-append (number 1 n) (number 4 (length v)), length-number 1 n, length-number 4 (length v)))
      | false ↦ λ is. rw is (omega (arith, length-append (number 4 (length v)) v, length-number 4 (length v)))
    ] refl

length-change : (n : ℕ) (c : Change) → length (change_bytes (text_change n c)) ≡ change_size c
length-change n c = omega (arith, length-append (key_bytes c.key) (cell_bytes (text_cell n c.value)), length-append (number 2 (length c.key)) c.key, length-number 2 (length c.key), length-cell n c.value)

length-changes : (n : ℕ) (t : List Change) → length (flat_map change_bytes (text_changes n t)) ≡ sum_by change_size t
length-changes n [] = refl
length-changes n (c ∷ t) =
    let next : ℕ = n + length (change_values c) in
    omega (arith, ap length (flat_map-cons change_bytes (text_change n c) (text_changes (n + length (change_values c)) t)), length-append (change_bytes (text_change n c)) (flat_map change_bytes (text_changes (n + length (change_values c)) t)), length-change n c, length-changes (n + length (change_values c)) t, sum_by-cons change_size c t)

pub length-transaction : (n : ℕ) (t : List Change) → length (transaction_bytes (text_changes n t)) ≡ transaction_size t
length-transaction n t = omega (arith, length-append (number 1 (length (text_changes n t))) (flat_map change_bytes (text_changes n t)), length-number 1 (length (text_changes n t)), length-changes n t)

pub length-transactions : (n : ℕ) (ts : List (List Change)) → length (flat_map transaction_bytes (text_transactions n ts)) ≡ sum_by transaction_size ts
length-transactions n [] = refl
length-transactions n (t ∷ ts) =
    omega (arith, ap length (flat_map-cons transaction_bytes (text_changes n t) (text_transactions (n + length (transaction_values t)) ts)), length-append (transaction_bytes (text_changes n t)) (flat_map transaction_bytes (text_transactions (n + length (transaction_values t)) ts)), length-transaction n t, length-transactions (n + length (transaction_values t)) ts, sum_by-cons transaction_size t ts)

pub length-text : (r : LogRecord) → length (text r) ≡ text_size r.transactions
length-text r =
    let items : ℕ = length (text_transactions 0 r.transactions) in
    omega (arith, (text_length r).0, length-append (number 8 r.first) (transactions_bytes (text_transactions 0 r.transactions)), length-number 8 r.first, length-append (number 2 (length (text_transactions 0 r.transactions))) (flat_map transaction_bytes (text_transactions 0 r.transactions)), length-number 2 (length (text_transactions 0 r.transactions)), length-transactions 0 r.transactions)

pub length-spelling : (r : LogRecord) → length (spelling r) ≡ piece_count (text_size r.transactions) + length (flat_map transaction_values r.transactions)
length-spelling r =
    length-append (pieces (text r)) (flat_map transaction_values r.transactions) ∙ ap (λ (k : ℕ). k + length (flat_map transaction_values r.transactions)) (length-cut 65536 (omega arith) (piece_count (length (text r))) (text r) ∙ ap piece_count (length-text r))

-- a record that fits has a small text
pub text_bound : (r : LogRecord) → Fits r → text_size r.transactions ≤ 4194304
text_bound r fits = omega (arith, length-text r, (text_small r fits.blocks).0)

-- ---- one transaction more

pub flat_map-push : {A B : Type 0} (f : A → List B) (xs : List A) (x : A) → flat_map f (xs ++ x ∷ []) ≡ flat_map f xs ++ f x
flat_map-push {A = A} {B = B} f xs x = flat_map-append f xs (x ∷ []) ∙ ap (λ (l : List B). flat_map f xs ++ l) (flat_map-cons f x [] ∙ append-nil (f x))

pub text_size-push : (ts : List (List Change)) (t : List Change) → text_size (ts ++ t ∷ []) ≡ text_size ts + transaction_size t
text_size-push ts t = omega (arith, sum_by_push transaction_size ts t)

pub values-push : (ts : List (List Change)) (t : List Change) → length (flat_map transaction_values (ts ++ t ∷ [])) ≡ length (flat_map transaction_values ts) + length (transaction_values t)
values-push ts t = ap length (flat_map-push transaction_values ts t) ∙ length-append (flat_map transaction_values ts) (transaction_values t)

-- the blocks of a group with one transaction more
pub length-spelling-push : (first : ℕ) (ts : List (List Change)) (t : List Change)
    → length (spelling (record { first = first; transactions = ts ++ t ∷ [] })) ≡ piece_count (text_size ts + transaction_size t) + (length (flat_map transaction_values ts) + length (transaction_values t))
length-spelling-push first ts t =
    length-spelling (record { first = first; transactions = ts ++ t ∷ [] }) ∙ ap (λ (k : ℕ). piece_count k + length (flat_map transaction_values (ts ++ t ∷ []))) (text_size-push ts t)
    ∙ ap (λ (k : ℕ). piece_count (text_size ts + transaction_size t) + k) (values-push ts t)

-- ---- the first transactions of a group

sum_front : (n : ℕ) (ts : List (List Change)) → sum_by transaction_size (take n ts) ≤ sum_by transaction_size ts
sum_front n ts = omega (arith, ap (sum_by transaction_size) (take-append-drop n ts), sum_by-append transaction_size (take n ts) (drop n ts))

values_front : (n : ℕ) (ts : List (List Change)) → length (flat_map transaction_values (take n ts)) ≤ length (flat_map transaction_values ts)
values_front n ts =
    omega (arith, ap (λ (l : List (List Change)). length (flat_map transaction_values l)) (take-append-drop n ts), ap length (flat_map-append transaction_values (take n ts) (drop n ts)), length-append (flat_map transaction_values (take n ts)) (flat_map transaction_values (drop n ts)))

-- where a group has room for some, it has room for the first of them
pub room_front : (n : ℕ) (ts : List (List Change)) → HasRoom ts → HasRoom (take n ts)
room_front n ts room = λ first.
    omega (arith, room first, length-spelling (record { first = first; transactions = take n ts }), length-spelling (record { first = first; transactions = ts }), sum_front n ts, values_front n ts)

-- a record that fits has room
pub room_of : (r : LogRecord) → Fits r → HasRoom r.transactions
room_of r fits = λ first. omega (arith, fits.blocks, length-spelling r, length-spelling (record { first = first; transactions = r.transactions }))

-- ---- bytes of the group

pub group_size-append : (a b : List (List ℕ)) → group_size (a ++ b) ≡ group_size a + group_size b
group_size-append a b = sum_by-append length a b

pub size-spelling : (r : LogRecord) → group_size (spelling r) ≡ length (text r) + group_size (flat_map transaction_values r.transactions)
size-spelling r =
    group_size-append (pieces (text r)) (flat_map transaction_values r.transactions) ∙ ap (λ (k : ℕ). k + group_size (flat_map transaction_values r.transactions)) (cut_size 65536 (piece_count (length (text r))) (text r) (enough (length (text r))).0)

-- the values of the items from one on
pub values_from : {A : Type 0} (f : A → List (List ℕ)) (x : A) (xs : List A) → group_size (flat_map f (x ∷ xs)) ≡ group_size (f x) + group_size (flat_map f xs)
values_from f x xs = ap group_size (flat_map-cons f x xs) ∙ group_size-append (f x) (flat_map f xs)
