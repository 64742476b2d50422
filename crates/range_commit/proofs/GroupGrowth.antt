-- How a group grows.
use Rattle.std.proofs.Common.{◌≡◌, ℕ, zero, suc, ◌+◌, ◌-◌, ◌<◌, ◌≤◌, true, false, List, [], ◌∷◌, ◌++◌, length, map, take, get_or, refl, sym, ap, subst, ◌∙◌, arith}
use Rattle.std.specs.Prelude.{nat_le}
use Rattle.std.proofs.lemmas.Bool.{leb-true, le-leb, lt-leb, and_parts}
use Rattle.std.proofs.lemmas.List.{map_more}
use Rattle.wire.specs.declared.transaction.Change.{Change}
use Rattle.commitlog.specs.Record.{spelling}
use Rattle.commitlog.specs.Sizes.{HasRoom}
use Rattle.commitlog.proofs.Measures.{length-spelling}
use Rattle.model_partition.specs.declared.waiting.WaitingTransaction.{WaitingTransaction}
use Rattle.model_partition.specs.Serving.{record_of, fits_a_group, grown}

-- the first number does not count
room_all : (ts : List (List Change)) (first : ℕ) → length (spelling (record { first = first; transactions = ts })) ≤ 64 → HasRoom ts
room_all ts first le = λ other. omega (arith, le, length-spelling (record { first = other; transactions = ts }), length-spelling (record { first = first; transactions = ts }))

-- the record of one more
abbrev pub with_one : List WaitingTransaction → ℕ → WaitingTransaction → List (List Change)
with_one all n t = map (λ u. u.changes) (take n all) ++ t.changes ∷ []

pub one_more : (all : List WaitingTransaction) (n : ℕ) (t : WaitingTransaction) → n < length all → t ≡ get_or all n t → map (λ u. u.changes) (take (n + 1) all) ≡ with_one all n t
one_more all n t lt is = map_more (λ (u : WaitingTransaction). u.changes) all n t lt ∙ ap (λ (u : WaitingTransaction). with_one all n u) (sym is)

one_more_suc : (all : List WaitingTransaction) (n : ℕ) (t : WaitingTransaction) → n < length all → t ≡ get_or all n t → map (λ u. u.changes) (take (suc n) all) ≡ with_one all n t
one_more_suc all n t lt is =
    let next : suc n ≡ n + 1 = omega arith in
    ap (λ (k : ℕ). map (λ (u : WaitingTransaction). u.changes) (take k all)) next ∙ one_more all n t lt is

fits_more : (next : ℕ) (all : List WaitingTransaction) (n : ℕ) (t : WaitingTransaction) → n < length all → t ≡ get_or all n t → HasRoom (with_one all n t) → fits_a_group next all (suc n) ≡ true
fits_more next all n t lt is room =
    let small : length (spelling (record_of next (take (suc n) all))) ≤ 64 = subst (λ (ts : List (List Change)). length (spelling (record { first = next; transactions = ts })) ≤ 64) (sym (one_more_suc all n t lt is)) (room next) in
    rw (le-leb (suc n) (length all) (omega (arith, lt)), le-leb _ _ small) refl

pub grows_on : (next : ℕ) (all : List WaitingTransaction) (n more : ℕ) (t : WaitingTransaction) → n < length all → t ≡ get_or all n t → HasRoom (with_one all n t) → grown next all n (suc more) ≡ grown next all (suc n) more
grows_on next all n more t lt is room = rw (fits_more next all n t lt is room) refl

pub grows_next : (next : ℕ) (all : List WaitingTransaction) (count index batch : ℕ) (t : WaitingTransaction) → count ≡ index → index < length all → t ≡ get_or all index t → count < batch
    → HasRoom (with_one all index t) → grown next all (count + 1) (batch - (count + 1)) ≡ grown next all count (batch - count)
grows_next next all count index batch t counted lt is below room =
    let more : ℕ = batch - (count + 1) in
    let left : batch - count ≡ suc (batch - (count + 1)) = omega (arith, below) in
    let behind : suc index ≡ count + 1 = omega (arith, counted) in
    sym (ap (λ (k : ℕ). grown next all count k) left ∙ ap (λ (k : ℕ). grown next all k (suc (batch - (count + 1)))) counted
    ∙ grows_on next all index (batch - (count + 1)) t lt is room ∙ ap (λ (k : ℕ). grown next all k (batch - (count + 1))) behind)

pub grows_full : (next : ℕ) (all : List WaitingTransaction) (n more : ℕ) (t : WaitingTransaction) → n < length all → t ≡ get_or all n t → (HasRoom (with_one all n t) → ⊥) → grown next all n more ≡ n
grows_full next all n zero t lt is full = refl
grows_full next all n (suc more) t lt is full =
    elim (nat_le (length (spelling (record_of next (take (suc n) all)))) 64) as (λ b. nat_le (length (spelling (record_of next (take (suc n) all)))) 64 ≡ b → grown next all n (suc more) ≡ n) [
      | true ↦ λ small.
          let le : length (spelling (record { first = next; transactions = with_one all n t })) ≤ 64 = subst (λ (ts : List (List Change)). length (spelling (record { first = next; transactions = ts })) ≤ 64) (one_more_suc all n t lt is) (leb-true _ _ small) in
          absurd (full (room_all (with_one all n t) next le))
      | false ↦ λ large. rw (le-leb (suc n) (length all) (omega (arith, lt)), large) refl
    ] refl

pub grows_end : (next : ℕ) (all : List WaitingTransaction) (n more : ℕ) → length all ≤ n → grown next all n more ≡ n
grows_end next all n zero le = refl
grows_end next all n (suc more) le = rw (lt-leb (suc n) (length all) (omega (arith, le))) refl

-- a group has no more than wait
within_from : (next : ℕ) (all : List WaitingTransaction) (n more : ℕ) → n ≤ length all → grown next all n more ≤ length all
within_from next all n zero le = le
within_from next all n (suc more) le =
    elim (fits_a_group next all (suc n)) as (λ b. fits_a_group next all (suc n) ≡ b → grown next all n (suc more) ≤ length all) [
      | true ↦ λ is. rw is (within_from next all (suc n) more (leb-true _ _ (and_parts _ _ is).0))
      | false ↦ λ is. rw is le
    ] refl

pub grown_within : (next : ℕ) (all : List WaitingTransaction) (batch : ℕ) → grown next all 0 batch ≤ length all
grown_within next all batch = within_from next all 0 batch (omega arith)
